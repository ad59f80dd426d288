use Rattle.std.proofs.Common.{refl}
use Rattle.std.proofs.lemmas.Result.{err_from_is_err_and}
use Rattle.perm_parse.proofs.Descent.StatementEnds.{no-end, end-is}
use Rattle.perm_parse.proofs.parser.Parser.end_stmt.Goals as goal

pub returns-in_err-end-clause-ends : goal.returns-in_err-end-clause-ends
returns-in_err-end-clause-ends c =
    let p = err_from_is_err_and c.from_residual.result c.from_residual.ensures.1 in
    rw (p.1, p.2) (no-end c.args.self.now c.expect.new.self c.args.first c.args.kind c.in_err-end.field-0.0 c.in_err-end.ensures.expected)

pub returns-clause-ends : goal.returns-clause-ends
returns-clause-ends c =
    end-is c.args.self.now c.expect.new.self c.add_stmt.new.self c.args.first c.in_ok-end.end c.args.kind _ c.add_stmt.result c.in_ok-end.ensures.expected (rw (c.span_over.ensures, c.span_over-2.ensures) refl) c.add_stmt.ensures.pushed
