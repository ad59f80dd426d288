use Rattle.std.proofs.lemmas.Result.{err_from_is_err_and}
use Rattle.perm_parse.proofs.Descent.NewValues.{object-no-name, object-not-opened, object-not-closed, object-no-end, object-ok}
use Rattle.perm_parse.proofs.parser.Parser.object_value.Goals as goal

pub returns-in_err-token-clause-reads : goal.returns-in_err-token-clause-reads
returns-in_err-token-clause-reads c =
    let r = c.from_residual-in_err-token in
    let p = err_from_is_err_and r.result r.ensures.1 in
    rw (p.1, p.2) (object-no-name c.args.self.now c.expect.new.self c.expect-2.new.self c.args.depth c.in_ok-_word._word c.in_err-token.field-0.0 c.requires.depth c.requires.no_long c.in_ok-_word.ensures.expected c.in_err-token.ensures.expected)

pub returns-in_err-_opening-clause-reads : goal.returns-in_err-_opening-clause-reads
returns-in_err-_opening-clause-reads c =
    let r = c.from_residual-in_err-_opening in
    let p = err_from_is_err_and r.result r.ensures.1 in
    rw (p.1, p.2) (object-not-opened c.args.self.now c.expect.new.self c.expect-2.new.self c.ident.new.self c.mention.new.self c.open.new.self c.args.depth c.in_ok-_word._word c.in_ok-token.token c.in_ok-name.name c.in_err-_opening.field-0.0 c.requires.depth c.in_ok-_word.ensures.expected c.in_ok-token.ensures.expected c.in_ok-name.ensures.named c.in_ok-mention.ensures.mentioned c.in_err-_opening.ensures.opened)

pub returns-in_err-_closing-clause-reads : goal.returns-in_err-_closing-clause-reads
returns-in_err-_closing-clause-reads c =
    let r = c.from_residual-in_err-_closing in
    let p = err_from_is_err_and r.result r.ensures.1 in
    rw (p.1, p.2) (object-not-closed c.args.self.now c.expect.new.self c.expect-2.new.self c.ident.new.self c.mention.new.self c.open.new.self c.expect-3.new.self c.args.depth c.in_ok-_word._word c.in_ok-token.token c.in_ok-_opening._opening c.in_ok-name.name c.in_err-_closing.field-0.0 c.requires.depth c.in_ok-_word.ensures.expected c.in_ok-token.ensures.expected c.in_ok-name.ensures.named c.in_ok-mention.ensures.mentioned c.in_ok-_opening.ensures.opened c.in_err-_closing.ensures.expected)

pub returns-in_err-end-clause-reads : goal.returns-in_err-end-clause-reads
returns-in_err-end-clause-reads c =
    let r = c.from_residual-in_err-end in
    let p = err_from_is_err_and r.result r.ensures.1 in
    rw (p.1, p.2) (object-no-end c.args.self.now c.expect.new.self c.expect-2.new.self c.ident.new.self c.mention.new.self c.open.new.self c.expect-3.new.self c.expect-4.new.self c.args.depth c.in_ok-_word._word c.in_ok-token.token c.in_ok-_opening._opening c.in_ok-_closing._closing c.in_ok-name.name c.in_err-end.field-0.0 c.requires.depth c.in_ok-_word.ensures.expected c.in_ok-token.ensures.expected c.in_ok-name.ensures.named c.in_ok-mention.ensures.mentioned c.in_ok-_opening.ensures.opened c.in_ok-_closing.ensures.expected c.in_err-end.ensures.expected)

pub returns-clause-reads : goal.returns-clause-reads
returns-clause-reads c = object-ok c.args.self.now c.expect.new.self c.expect-2.new.self c.ident.new.self c.mention.new.self c.open.new.self c.expect-3.new.self c.expect-4.new.self c.args.depth c.in_ok-_word._word c.in_ok-token.token c.in_ok-_opening._opening c.in_ok-_closing._closing c.in_ok-end.end c.in_ok-name.name c.requires.depth c.in_ok-_word.ensures.expected c.in_ok-token.ensures.expected c.in_ok-name.ensures.named c.in_ok-mention.ensures.mentioned c.in_ok-_opening.ensures.opened c.in_ok-_closing.ensures.expected c.in_ok-end.ensures.expected
