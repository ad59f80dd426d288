use Rattle.std.proofs.lemmas.Result.{err_from_is_err_and}
use Rattle.perm_parse.proofs.Descent.CallStatements.{given-not-opened, given-no-word, given-call, given-is}
use Rattle.perm_parse.proofs.parser.Parser.given_stmt.Goals as goal

pub returns-in_err-opening-clause-reads : goal.returns-in_err-opening-clause-reads
returns-in_err-opening-clause-reads c =
    let r = c.from_residual in
    let p = err_from_is_err_and r.result r.ensures.1 in
    rw (p.1, p.2) (given-not-opened c.args.self.now c.open.new.self c.args.depth c.in_err-opening.field-0.0 c.requires.depth c.requires.next c.in_err-opening.ensures.opened)

pub returns-in_err-_word-clause-reads : goal.returns-in_err-_word-clause-reads
returns-in_err-_word-clause-reads c =
    let r = c.from_residual-in_err-_word in
    let p = err_from_is_err_and r.result r.ensures.1 in
    rw (p.1, p.2) (given-no-word c.args.self.now c.open.new.self c.expect.new.self c.args.depth c.in_ok-opening.opening c.in_err-_word.field-0.0 c.in_ok-opening.ensures.opened c.in_err-_word.ensures.expected)

pub returns-in_err-call-clause-reads : goal.returns-in_err-call-clause-reads
returns-in_err-call-clause-reads c =
    let r = c.from_residual-in_err-call in
    let p = err_from_is_err_and r.result r.ensures.1 in
    rw (p.1, p.2) (given-call c.args.self.now c.open.new.self c.expect.new.self c.given_call.new.self c.args.depth c.in_ok-opening.opening c.in_ok-_word._word c.in_err-call.field-0.0 c.in_ok-opening.ensures.opened c.in_ok-_word.ensures.expected c.in_err-call.ensures.reads)

pub returns-clause-reads : goal.returns-clause-reads
returns-clause-reads c = given-is c.args.self.now c.open.new.self c.expect.new.self c.given_call.new.self c.end_stmt.new.self c.args.depth c.in_ok-opening.opening c.in_ok-_word._word c.in_ok-call.call c.end_stmt.result c.requires.depth c.in_ok-opening.ensures.opened c.in_ok-_word.ensures.expected c.in_ok-call.ensures.reads c.end_stmt.ensures.ends
