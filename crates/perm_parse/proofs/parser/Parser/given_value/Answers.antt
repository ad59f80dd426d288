use Rattle.std.proofs.lemmas.Result.{err_from_is_err_and}
use Rattle.perm_parse.proofs.Descent.ConsumedReceivers.{value-not-opened, word-missed, value-call, value-no-end, value-ok}
use Rattle.perm_parse.proofs.parser.Parser.given_value.Goals as goal

pub returns-in_err-_opening-clause-reads : goal.returns-in_err-_opening-clause-reads
returns-in_err-_opening-clause-reads c =
    let r = c.from_residual in
    let p = err_from_is_err_and r.result r.ensures.1 in
    rw (p.1, p.2) (value-not-opened c.args.self.now c.open.new.self c.args.depth c.in_err-_opening.field-0.0 c.requires.depth c.requires.next c.in_err-_opening.ensures.opened)

pub returns-in_err-_word-clause-reads : goal.returns-in_err-_word-clause-reads
returns-in_err-_word-clause-reads c = absurd (word-missed c.args.self.now c.open.new.self c.expect.new.self c.args.depth c.in_ok-_opening._opening c.in_err-_word.field-0.0 c.requires.word c.in_ok-_opening.ensures.opened c.in_err-_word.ensures.expected)

pub returns-in_err-call-clause-reads : goal.returns-in_err-call-clause-reads
returns-in_err-call-clause-reads c =
    let r = c.from_residual-in_err-call in
    let p = err_from_is_err_and r.result r.ensures.1 in
    rw (p.1, p.2) (value-call c.args.self.now c.open.new.self c.expect.new.self c.given_call.new.self c.args.depth c.in_ok-_opening._opening c.in_ok-_word._word c.in_err-call.field-0.0 c.in_ok-_opening.ensures.opened c.in_ok-_word.ensures.expected c.in_err-call.ensures.reads)

pub returns-in_err-end-clause-reads : goal.returns-in_err-end-clause-reads
returns-in_err-end-clause-reads c =
    let r = c.from_residual-in_err-end in
    let p = err_from_is_err_and r.result r.ensures.1 in
    rw (p.1, p.2) (value-no-end c.args.self.now c.open.new.self c.expect.new.self c.given_call.new.self c.expect-2.new.self c.args.depth c.in_ok-_opening._opening c.in_ok-_word._word c.in_ok-call.call c.in_err-end.field-0.0 c.in_ok-_opening.ensures.opened c.in_ok-_word.ensures.expected c.in_ok-call.ensures.reads c.in_err-end.ensures.expected)

pub returns-clause-reads : goal.returns-clause-reads
returns-clause-reads c = value-ok c.args.self.now c.open.new.self c.expect.new.self c.given_call.new.self c.expect-2.new.self c.args.depth c.in_ok-_opening._opening c.in_ok-_word._word c.in_ok-end.end c.in_ok-call.call c.requires.depth c.in_ok-_opening.ensures.opened c.in_ok-_word.ensures.expected c.in_ok-call.ensures.reads c.in_ok-end.ensures.expected
