use Rattle.std.proofs.lemmas.Result.{err_from_is_err_and}
use Rattle.perm_parse.proofs.Descent.Arguments.{plain-err, plain-ok}
use Rattle.perm_parse.proofs.parser.Parser.arg.Goals as goal

pub returns-in_err-value-clause-reads : goal.returns-in_err-value-clause-reads
returns-in_err-value-clause-reads c =
    let p = err_from_is_err_and c.from_residual.result c.from_residual.ensures.1 in
    rw (p.1, p.2) (plain-err c.args.self.now c.binary.new.self c.args.depth c.in_err-value.field-0.0 c.if-next_is.ensures.no c.in_err-value.ensures.reads)

pub returns-clause-reads : goal.returns-clause-reads
returns-clause-reads c = plain-ok c.args.self.now c.binary.new.self c.args.depth c.in_ok-value.value c.if-next_is.ensures.no c.in_ok-value.ensures.reads c.in_ok-value.ensures.closed
