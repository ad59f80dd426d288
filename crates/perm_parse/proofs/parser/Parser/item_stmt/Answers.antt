use Rattle.std.proofs.lemmas.Result.{err_from_is_err_and}
use Rattle.perm_parse.proofs.Descent.VariableValues.{var-missed}
use Rattle.perm_parse.proofs.Descent.HeapWrites.{ItemPath, item-not-opened, item-index, item-not-closed, item-no-equals, item-no-value, item-is}
use Rattle.perm_parse.proofs.parser.Parser.item_stmt.Goals as goal

pub returns-in_err-token-clause-reads : goal.returns-in_err-token-clause-reads
returns-in_err-token-clause-reads c = absurd (var-missed c.args.self.now c.variable.new.self c.in_err-token.field-0.0 c.requires.next c.in_err-token.ensures.expected)

pub returns-in_err-_opening-clause-reads : goal.returns-in_err-_opening-clause-reads
returns-in_err-_opening-clause-reads c =
    let r = c.from_residual-in_err-_opening in
    let p = err_from_is_err_and r.result r.ensures.1 in
    rw (p.1, p.2) (item-not-opened c.args.self.now c.variable.new.self c.var.new.self c.open.new.self c.args.depth c.in_ok-token.token c.in_ok-name.name c.in_err-_opening.field-0.0 c.requires.depth c.requires.bracket c.in_ok-token.ensures.expected c.in_ok-name.ensures.named c.in_err-_opening.ensures.opened)

pub returns-in_err-index-clause-reads : goal.returns-in_err-index-clause-reads
returns-in_err-index-clause-reads c =
    let r = c.from_residual-in_err-index in
    let p = err_from_is_err_and r.result r.ensures.1 in
    rw (p.1, p.2) (item-index c.args.self.now c.variable.new.self c.var.new.self c.open.new.self c.binary.new.self c.args.depth c.in_ok-token.token c.in_ok-_opening._opening c.in_ok-name.name c.in_err-index.field-0.0 c.requires.depth c.in_ok-token.ensures.expected c.in_ok-name.ensures.named c.in_ok-_opening.ensures.opened c.in_err-index.ensures.reads)

pub returns-in_err-_closing-clause-reads : goal.returns-in_err-_closing-clause-reads
returns-in_err-_closing-clause-reads c =
    let r = c.from_residual-in_err-_closing in
    let p = err_from_is_err_and r.result r.ensures.1 in
    rw (p.1, p.2) (item-not-closed c.args.self.now c.variable.new.self c.var.new.self c.open.new.self c.binary.new.self c.expect.new.self c.args.depth c.in_ok-index.index c.in_ok-token.token c.in_ok-_opening._opening c.in_ok-name.name c.in_err-_closing.field-0.0 c.requires.depth c.in_ok-token.ensures.expected c.in_ok-name.ensures.named c.in_ok-_opening.ensures.opened c.in_ok-index.ensures.reads c.in_ok-index.ensures.closed c.in_err-_closing.ensures.expected)

pub returns-in_err-_equals-clause-reads : goal.returns-in_err-_equals-clause-reads
returns-in_err-_equals-clause-reads c =
    let r = c.from_residual-in_err-_equals in
    let p = err_from_is_err_and r.result r.ensures.1 in
    rw (p.1, p.2) (item-no-equals c.args.self.now c.variable.new.self c.var.new.self c.open.new.self c.binary.new.self c.expect.new.self c.expect-2.new.self c.args.depth c.in_ok-index.index c.in_ok-token.token c.in_ok-_opening._opening c.in_ok-_closing._closing c.in_ok-name.name c.in_err-_equals.field-0.0 c.requires.depth c.in_ok-token.ensures.expected c.in_ok-name.ensures.named c.in_ok-_opening.ensures.opened c.in_ok-index.ensures.reads c.in_ok-_closing.ensures.expected c.in_err-_equals.ensures.expected)

pub returns-in_err-value-clause-reads : goal.returns-in_err-value-clause-reads
returns-in_err-value-clause-reads c =
    let r = c.from_residual-in_err-value in
    let p = err_from_is_err_and r.result r.ensures.1 in
    let path : ItemPath c.args.self.now c.variable.new.self c.var.new.self c.open.new.self c.binary.new.self c.expect.new.self c.expect-2.new.self c.args.depth c.in_ok-index.index c.in_ok-token.token c.in_ok-_opening._opening c.in_ok-_closing._closing c.in_ok-_equals._equals c.in_ok-name.name = record { receiver = c.in_ok-token.ensures.expected; variable = c.in_ok-name.ensures.named; opened = c.in_ok-_opening.ensures.opened; index = c.in_ok-index.ensures.reads; text = c.in_ok-index.ensures.onward.text; closed = c.in_ok-_closing.ensures.expected; sign = c.in_ok-_equals.ensures.expected } in
    rw (p.1, p.2) (item-no-value c.args.self.now c.variable.new.self c.var.new.self c.open.new.self c.binary.new.self c.expect.new.self c.expect-2.new.self c.binary-2.new.self c.args.depth c.in_ok-index.index c.in_ok-token.token c.in_ok-_opening._opening c.in_ok-_closing._closing c.in_ok-_equals._equals c.in_ok-name.name c.in_err-value.field-0.0 c.requires.depth path c.in_err-value.ensures.reads)

pub returns-clause-reads : goal.returns-clause-reads
returns-clause-reads c =
    let path : ItemPath c.args.self.now c.variable.new.self c.var.new.self c.open.new.self c.binary.new.self c.expect.new.self c.expect-2.new.self c.args.depth c.in_ok-index.index c.in_ok-token.token c.in_ok-_opening._opening c.in_ok-_closing._closing c.in_ok-_equals._equals c.in_ok-name.name = record { receiver = c.in_ok-token.ensures.expected; variable = c.in_ok-name.ensures.named; opened = c.in_ok-_opening.ensures.opened; index = c.in_ok-index.ensures.reads; text = c.in_ok-index.ensures.onward.text; closed = c.in_ok-_closing.ensures.expected; sign = c.in_ok-_equals.ensures.expected } in
    item-is c.args.self.now c.variable.new.self c.var.new.self c.open.new.self c.binary.new.self c.expect.new.self c.expect-2.new.self c.binary-2.new.self c.end_stmt.new.self c.args.depth c.in_ok-index.index c.in_ok-value.value c.in_ok-token.token c.in_ok-_opening._opening c.in_ok-_closing._closing c.in_ok-_equals._equals c.in_ok-name.name c.end_stmt.result c.requires.depth path c.in_ok-value.ensures.reads c.in_ok-value.ensures.closed c.end_stmt.ensures.ends
