use Rattle.std.proofs.lemmas.Result.{err_from_is_err_and}
use Rattle.perm_parse.proofs.Descent.VariableValues.{item-not-opened, item-index, item-not-closed, item-no-end, item-ok, var-missed}
use Rattle.perm_parse.proofs.parser.Parser.item_value.Goals as goal

pub returns-in_err-token-clause-reads : goal.returns-in_err-token-clause-reads
returns-in_err-token-clause-reads c = absurd (var-missed c.args.self.now c.variable.new.self c.in_err-token.field-0.0 c.requires.next c.in_err-token.ensures.expected)

pub returns-in_err-_opening-clause-reads : goal.returns-in_err-_opening-clause-reads
returns-in_err-_opening-clause-reads c =
    let r = c.from_residual-in_err-_opening in
    let p = err_from_is_err_and r.result r.ensures.1 in
    rw (p.1, p.2) (item-not-opened c.args.self.now c.variable.new.self c.var.new.self c.open.new.self c.args.depth c.in_ok-token.token c.in_ok-name.name c.in_err-_opening.field-0.0 c.requires.depth c.requires.bracket c.in_ok-token.ensures.expected c.in_ok-name.ensures.named c.in_err-_opening.ensures.opened)

pub returns-in_err-index-clause-reads : goal.returns-in_err-index-clause-reads
returns-in_err-index-clause-reads c =
    let r = c.from_residual-in_err-index in
    let p = err_from_is_err_and r.result r.ensures.1 in
    rw (p.1, p.2) (item-index c.args.self.now c.variable.new.self c.var.new.self c.open.new.self c.binary.new.self c.args.depth c.in_ok-token.token c.in_ok-_opening._opening c.in_ok-name.name c.in_err-index.field-0.0 c.requires.depth c.in_ok-token.ensures.expected c.in_ok-name.ensures.named c.in_ok-_opening.ensures.opened c.in_err-index.ensures.reads)

pub returns-in_err-_closing-clause-reads : goal.returns-in_err-_closing-clause-reads
returns-in_err-_closing-clause-reads c =
    let r = c.from_residual-in_err-_closing in
    let p = err_from_is_err_and r.result r.ensures.1 in
    rw (p.1, p.2) (item-not-closed c.args.self.now c.variable.new.self c.var.new.self c.open.new.self c.binary.new.self c.expect.new.self c.args.depth c.in_ok-index.index c.in_ok-token.token c.in_ok-_opening._opening c.in_ok-name.name c.in_err-_closing.field-0.0 c.requires.depth c.in_ok-token.ensures.expected c.in_ok-name.ensures.named c.in_ok-_opening.ensures.opened c.in_ok-index.ensures.reads c.in_ok-index.ensures.closed c.in_err-_closing.ensures.expected)

pub returns-in_err-end-clause-reads : goal.returns-in_err-end-clause-reads
returns-in_err-end-clause-reads c =
    let r = c.from_residual-in_err-end in
    let p = err_from_is_err_and r.result r.ensures.1 in
    rw (p.1, p.2) (item-no-end c.args.self.now c.variable.new.self c.var.new.self c.open.new.self c.binary.new.self c.expect.new.self c.expect-2.new.self c.args.depth c.in_ok-index.index c.in_ok-token.token c.in_ok-_opening._opening c.in_ok-_closing._closing c.in_ok-name.name c.in_err-end.field-0.0 c.requires.depth c.in_ok-token.ensures.expected c.in_ok-name.ensures.named c.in_ok-_opening.ensures.opened c.in_ok-index.ensures.reads c.in_ok-_closing.ensures.expected c.in_err-end.ensures.expected)

pub returns-clause-reads : goal.returns-clause-reads
returns-clause-reads c = item-ok c.args.self.now c.variable.new.self c.var.new.self c.open.new.self c.binary.new.self c.expect.new.self c.expect-2.new.self c.args.depth c.in_ok-index.index c.in_ok-token.token c.in_ok-_opening._opening c.in_ok-_closing._closing c.in_ok-end.end c.in_ok-name.name c.requires.depth c.in_ok-token.ensures.expected c.in_ok-name.ensures.named c.in_ok-_opening.ensures.opened c.in_ok-index.ensures.reads c.in_ok-_closing.ensures.expected c.in_ok-end.ensures.expected
