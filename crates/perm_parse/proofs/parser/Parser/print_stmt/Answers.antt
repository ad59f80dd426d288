use Rattle.std.proofs.Common.{refl}
use Rattle.std.proofs.lemmas.Result.{err_from_is_err_and}
use Rattle.perm_parse.proofs.Descent.PrintStatements.{print-value, print-no-end, print-is}
use Rattle.perm_parse.proofs.parser.Parser.print_stmt.Goals as goal

pub returns-in_err-value-clause-reads : goal.returns-in_err-value-clause-reads
returns-in_err-value-clause-reads c =
    let r = c.from_residual-in_err-value in
    let p = err_from_is_err_and r.result r.ensures.1 in
    rw (p.1, p.2) (print-value c.args.self.now c.expect.new.self c.binary.new.self c.args.depth c.in_ok-word.word c.in_err-value.field-0.0 c.requires.depth c.in_ok-word.ensures.expected c.in_err-value.ensures.reads)

pub returns-in_err-end-clause-reads : goal.returns-in_err-end-clause-reads
returns-in_err-end-clause-reads c =
    let r = c.from_residual-in_err-end in
    let p = err_from_is_err_and r.result r.ensures.1 in
    rw (p.1, p.2) (print-no-end c.args.self.now c.expect.new.self c.binary.new.self c.expect-2.new.self c.args.depth c.in_ok-value.value c.in_ok-word.word c.in_err-end.field-0.0 c.requires.depth c.in_ok-word.ensures.expected c.in_ok-value.ensures.reads c.in_ok-value.ensures.closed c.in_err-end.ensures.expected)

pub returns-clause-reads : goal.returns-clause-reads
returns-clause-reads c =
    print-is c.args.self.now c.expect.new.self c.binary.new.self c.expect-2.new.self c.add_stmt.new.self c.args.depth c.in_ok-value.value c.in_ok-word.word c.in_ok-end.end _ c.add_stmt.result
    c.requires.depth c.in_ok-word.ensures.expected c.in_ok-value.ensures.reads c.in_ok-end.ensures.expected (rw (c.span_over.ensures, c.span_over-2.ensures) refl) c.add_stmt.ensures.pushed
