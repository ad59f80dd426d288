use Rattle.std.proofs.lemmas.Result.{err_from_is_err_and}
use Rattle.perm_parse.proofs.Descent.Types.{array-not-opened, array-not-closed, array-ok}
use Rattle.perm_parse.proofs.parser.Parser.array.Goals as goal

pub returns-in_err-_opening-clause-reads : goal.returns-in_err-_opening-clause-reads
returns-in_err-_opening-clause-reads c =
    let r = c.from_residual-in_err-_opening in
    let p = err_from_is_err_and r.result r.ensures.1 in
    rw (p.1, p.2) (array-not-opened c.args.self.now c.expect.new.self c.open.new.self c.args.depth c.args.perm c.in_ok-_word._word c.in_err-_opening.field-0.0 c.requires.depth c.in_ok-_word.ensures.expected c.in_err-_opening.ensures.opened)

pub returns-in_err-_closing-clause-reads : goal.returns-in_err-_closing-clause-reads
returns-in_err-_closing-clause-reads c =
    let r = c.from_residual-in_err-_closing in
    let p = err_from_is_err_and r.result r.ensures.1 in
    rw (p.1, p.2) (array-not-closed c.args.self.now c.expect.new.self c.open.new.self c.expect-2.new.self c.args.depth c.args.perm c.in_ok-_word._word c.in_ok-_opening._opening c.in_err-_closing.field-0.0
    c.requires.depth c.in_ok-_word.ensures.expected c.in_ok-_opening.ensures.opened c.in_err-_closing.ensures.expected)

pub returns-clause-reads : goal.returns-clause-reads
returns-clause-reads c =
    array-ok c.args.self.now c.expect.new.self c.open.new.self c.expect-2.new.self c.args.depth c.args.perm c.in_ok-_word._word c.in_ok-_opening._opening c.in_ok-_closing._closing
    c.requires.depth c.in_ok-_word.ensures.expected c.in_ok-_opening.ensures.opened c.in_ok-_closing.ensures.expected
