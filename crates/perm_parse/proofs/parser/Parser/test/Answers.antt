use Rattle.std.proofs.lemmas.Result.{err_from_is_err_and}
use Rattle.perm_parse.proofs.Descent.Branches.{test-not-opened, test-value, test-not-closed, test-ok}
use Rattle.perm_parse.proofs.parser.Parser.test.Goals as goal

pub returns-in_err-_opening-clause-reads : goal.returns-in_err-_opening-clause-reads
returns-in_err-_opening-clause-reads c =
    let p = err_from_is_err_and c.from_residual.result c.from_residual.ensures.1 in
    rw (p.1, p.2) (test-not-opened c.args.self.now c.open.new.self c.args.depth c.in_err-_opening.field-0.0 c.in_err-_opening.ensures.opened)

pub returns-in_err-value-clause-reads : goal.returns-in_err-value-clause-reads
returns-in_err-value-clause-reads c =
    let r = c.from_residual-in_err-value in
    let p = err_from_is_err_and r.result r.ensures.1 in
    rw (p.1, p.2) (test-value c.args.self.now c.open.new.self c.binary.new.self c.args.depth c.in_ok-_opening._opening c.in_err-value.field-0.0 c.in_ok-_opening.ensures.opened c.in_err-value.ensures.reads)

pub returns-in_err-closing-clause-reads : goal.returns-in_err-closing-clause-reads
returns-in_err-closing-clause-reads c =
    let r = c.from_residual-in_err-closing in
    let p = err_from_is_err_and r.result r.ensures.1 in
    rw (p.1, p.2) (test-not-closed c.args.self.now c.open.new.self c.binary.new.self c.expect.new.self c.args.depth c.in_ok-value.value c.in_ok-_opening._opening c.in_err-closing.field-0.0 c.in_ok-_opening.ensures.opened c.in_ok-value.ensures.reads c.in_ok-value.ensures.closed c.in_err-closing.ensures.expected)

pub returns-clause-reads : goal.returns-clause-reads
returns-clause-reads c = test-ok c.args.self.now c.open.new.self c.binary.new.self c.expect.new.self c.args.depth c.in_ok-value.value c.in_ok-_opening._opening c.in_ok-closing.closing c.requires c.in_ok-_opening.ensures.opened c.in_ok-value.ensures.reads c.in_ok-closing.ensures.expected
