use Rattle.std.proofs.lemmas.Result.{err_from_is_err_and}
use Rattle.perm_parse.proofs.Descent.RightSides.{plain-err, plain-missing, plain-ok}
use Rattle.perm_parse.proofs.parser.Parser.plain_value.Goals as goal

pub returns-in_err-e-clause-reads : goal.returns-in_err-e-clause-reads
returns-in_err-e-clause-reads c =
    let p = err_from_is_err_and c.from_residual.result c.from_residual.ensures.1 in
    rw (p.1, p.2) (plain-err c.args.self.now c.binary.new.self c.args.depth c.in_err-e.field-0.0 c.requires.plain c.in_err-e.ensures.reads)

pub returns-in_err-end-clause-reads : goal.returns-in_err-end-clause-reads
returns-in_err-end-clause-reads c =
    let r = c.from_residual-in_err-end in
    let p = err_from_is_err_and r.result r.ensures.1 in
    rw (p.1, p.2) (plain-missing c.args.self.now c.binary.new.self c.expect.new.self c.args.depth c.in_ok-e.e c.in_err-end.field-0.0 c.requires.plain c.in_ok-e.ensures.reads c.in_ok-e.ensures.closed c.in_err-end.ensures.expected)

pub returns-clause-reads : goal.returns-clause-reads
returns-clause-reads c = plain-ok c.args.self.now c.binary.new.self c.expect.new.self c.args.depth c.in_ok-e.e c.in_ok-end.end c.requires.depth c.requires.plain c.in_ok-e.ensures.reads c.in_ok-end.ensures.expected
