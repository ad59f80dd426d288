use Rattle.std.proofs.lemmas.Result.{err_from_is_err_and}
use Rattle.perm_parse.proofs.Descent.Methods.{returned-missing, returned-arg, returned-no-end, returned-no-brace, returned-ok}
use Rattle.perm_parse.proofs.parser.Parser.returned.Goals as goal

pub returns-in_err-word-clause-reads : goal.returns-in_err-word-clause-reads
returns-in_err-word-clause-reads c =
    let r = c.from_residual in
    let p = err_from_is_err_and r.result r.ensures.1 in
    rw (p.1, p.2) (returned-missing c.args.self.now c.expect.new.self c.in_err-word.field-0.0 c.requires c.in_err-word.ensures.expected)

pub returns-in_err-back-clause-reads : goal.returns-in_err-back-clause-reads
returns-in_err-back-clause-reads c =
    let r = c.from_residual-in_err-back in
    let p = err_from_is_err_and r.result r.ensures.1 in
    rw (p.1, p.2) (returned-arg c.args.self.now c.expect.new.self c.arg.new.self c.in_ok-word.word c.in_err-back.field-0.0 c.in_ok-word.ensures.expected c.in_err-back.ensures.reads)

pub returns-in_err-end-clause-reads : goal.returns-in_err-end-clause-reads
returns-in_err-end-clause-reads c =
    let r = c.from_residual-in_err-end in
    let p = err_from_is_err_and r.result r.ensures.1 in
    rw (p.1, p.2) (returned-no-end c.args.self.now c.expect.new.self c.arg.new.self c.expect-2.new.self c.in_ok-word.word c.in_ok-back.back c.in_err-end.field-0.0 c.in_ok-word.ensures.expected c.in_ok-back.ensures.reads c.in_err-end.ensures.expected)

pub returns-in_err-_finish-clause-reads : goal.returns-in_err-_finish-clause-reads
returns-in_err-_finish-clause-reads c =
    let r = c.from_residual-in_err-_finish in
    let p = err_from_is_err_and r.result r.ensures.1 in
    rw (p.1, p.2) (returned-no-brace c.args.self.now c.expect.new.self c.arg.new.self c.expect-2.new.self c.expect-3.new.self c.in_ok-word.word c.in_ok-end.end c.in_ok-back.back c.in_err-_finish.field-0.0
    c.in_ok-word.ensures.expected c.in_ok-back.ensures.reads c.in_ok-end.ensures.expected c.in_err-_finish.ensures.expected)

pub returns-clause-reads : goal.returns-clause-reads
returns-clause-reads c =
    returned-ok c.args.self.now c.expect.new.self c.arg.new.self c.expect-2.new.self c.expect-3.new.self c.in_ok-word.word c.in_ok-end.end c.in_ok-_finish._finish c.in_ok-back.back c.span_over.result
    c.in_ok-word.ensures.expected c.in_ok-back.ensures.reads c.in_ok-end.ensures.expected c.in_ok-_finish.ensures.expected c.span_over.ensures
