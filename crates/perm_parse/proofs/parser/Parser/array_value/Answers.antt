use Rattle.std.proofs.lemmas.Result.{err_from_is_err_and}
use Rattle.perm_parse.proofs.Descent.NewValues.{array-not-opened, array-count, array-not-closed, array-no-end, array-ok, second-missed}
use Rattle.perm_parse.proofs.parser.Parser.array_value.Goals as goal

pub returns-in_err-_long-clause-reads : goal.returns-in_err-_long-clause-reads
returns-in_err-_long-clause-reads c = absurd (second-missed c.args.self.now c.expect.new.self c.expect-2.new.self _ c.in_err-_long.field-0.0 c.requires.long c.in_ok-_word.ensures.expected.2 c.in_err-_long.ensures.expected)

pub returns-in_err-_opening-clause-reads : goal.returns-in_err-_opening-clause-reads
returns-in_err-_opening-clause-reads c =
    let r = c.from_residual-in_err-_opening in
    let p = err_from_is_err_and r.result r.ensures.1 in
    rw (p.1, p.2) (array-not-opened c.args.self.now c.expect.new.self c.expect-2.new.self c.open.new.self c.args.depth c.in_ok-_word._word c.in_ok-_long._long c.in_err-_opening.field-0.0 c.requires.depth c.in_ok-_word.ensures.expected c.in_ok-_long.ensures.expected c.in_err-_opening.ensures.opened)

pub returns-in_err-count-clause-reads : goal.returns-in_err-count-clause-reads
returns-in_err-count-clause-reads c =
    let r = c.from_residual-in_err-count in
    let p = err_from_is_err_and r.result r.ensures.1 in
    rw (p.1, p.2) (array-count c.args.self.now c.expect.new.self c.expect-2.new.self c.open.new.self c.binary.new.self c.args.depth c.in_ok-_word._word c.in_ok-_long._long c.in_ok-_opening._opening c.in_err-count.field-0.0 c.requires.depth c.in_ok-_word.ensures.expected c.in_ok-_long.ensures.expected c.in_ok-_opening.ensures.opened c.in_err-count.ensures.reads)

pub returns-in_err-_closing-clause-reads : goal.returns-in_err-_closing-clause-reads
returns-in_err-_closing-clause-reads c =
    let r = c.from_residual-in_err-_closing in
    let p = err_from_is_err_and r.result r.ensures.1 in
    rw (p.1, p.2) (array-not-closed c.args.self.now c.expect.new.self c.expect-2.new.self c.open.new.self c.binary.new.self c.expect-3.new.self c.args.depth c.in_ok-count.count c.in_ok-_word._word c.in_ok-_long._long c.in_ok-_opening._opening c.in_err-_closing.field-0.0 c.requires.depth c.in_ok-_word.ensures.expected c.in_ok-_long.ensures.expected c.in_ok-_opening.ensures.opened c.in_ok-count.ensures.reads c.in_ok-count.ensures.closed c.in_err-_closing.ensures.expected)

pub returns-in_err-end-clause-reads : goal.returns-in_err-end-clause-reads
returns-in_err-end-clause-reads c =
    let r = c.from_residual-in_err-end in
    let p = err_from_is_err_and r.result r.ensures.1 in
    rw (p.1, p.2) (array-no-end c.args.self.now c.expect.new.self c.expect-2.new.self c.open.new.self c.binary.new.self c.expect-3.new.self c.expect-4.new.self c.args.depth c.in_ok-count.count c.in_ok-_word._word c.in_ok-_long._long c.in_ok-_opening._opening c.in_ok-_closing._closing c.in_err-end.field-0.0 c.requires.depth c.in_ok-_word.ensures.expected c.in_ok-_long.ensures.expected c.in_ok-_opening.ensures.opened c.in_ok-count.ensures.reads c.in_ok-_closing.ensures.expected c.in_err-end.ensures.expected)

pub returns-clause-reads : goal.returns-clause-reads
returns-clause-reads c = array-ok c.args.self.now c.expect.new.self c.expect-2.new.self c.open.new.self c.binary.new.self c.expect-3.new.self c.expect-4.new.self c.args.depth c.in_ok-count.count c.in_ok-_word._word c.in_ok-_long._long c.in_ok-_opening._opening c.in_ok-_closing._closing c.in_ok-end.end c.requires.depth c.in_ok-_word.ensures.expected c.in_ok-_long.ensures.expected c.in_ok-_opening.ensures.opened c.in_ok-count.ensures.reads c.in_ok-_closing.ensures.expected c.in_ok-end.ensures.expected
