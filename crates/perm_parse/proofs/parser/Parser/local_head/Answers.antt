use Rattle.std.proofs.Common.{sym, ◌∙◌}
use Rattle.std.proofs.lemmas.Result.{err_from_is_err_and}
use Rattle.perm_parse.proofs.Descent.LocalDeclarations.{type-missed, local-no-type, local-no-name, local-ok}
use Rattle.perm_parse.proofs.parser.Parser.local_head.Goals as goal

pub returns-in_default-clause-reads : goal.returns-in_default-clause-reads
returns-in_default-clause-reads c = absurd (type-missed c.args.self.now c.requires.next (sym c.peek.ensures ∙ c.in_default.is))

pub returns-in_err-ty-clause-reads : goal.returns-in_err-ty-clause-reads
returns-in_err-ty-clause-reads c =
    let r = c.from_residual in
    let p = err_from_is_err_and r.result r.ensures.1 in
    rw (p.1, p.2) (local-no-type c.args.self.now c.ty.new.self c.args.depth c.in_err-ty.field-0.0 c.requires.next c.in_err-ty.ensures.reads)

pub returns-in_err-token-clause-reads : goal.returns-in_err-token-clause-reads
returns-in_err-token-clause-reads c =
    let r = c.from_residual-in_err-token in
    let p = err_from_is_err_and r.result r.ensures.1 in
    rw (p.1, p.2) (local-no-name c.args.self.now c.ty.new.self c.expect.new.self c.args.depth c.in_ok-ty.ty c.in_err-token.field-0.0 c.requires.next c.in_ok-ty.ensures.reads c.in_err-token.ensures.expected)

pub returns-clause-reads : goal.returns-clause-reads
returns-clause-reads c =
    local-ok c.args.self.now c.ty.new.self c.expect.new.self c.ident.new.self c.args.depth c.in_ok-ty.ty c.in-Some.first c.in_ok-token.token c.in_ok-name.name
    c.requires.depth c.requires.next (sym c.in-Some.ensures) c.in_ok-ty.ensures.onward.text c.in_ok-ty.ensures.reads c.in_ok-token.ensures.expected c.in_ok-name.ensures.named
