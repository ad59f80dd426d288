use Rattle.std.proofs.Common.{refl, sym, ◌∙◌, ap, subst, length}
use Rattle.perm_lex.specs.Reading.{IsLexeme}
use Rattle.perm_lex.proofs.Lexemes.{sign_found}
use Rattle.perm_lex.proofs.lexeme.sign.Goals as goal

pub returns : goal.returns
returns c =
    let found = sign_found c.args.rest.now c.in_ok-kind.kind c.requires (sym c.sign_kind.ensures ∙ c.in_ok-kind.was) in
    (subst (λ n. IsLexeme c.args.rest.now (record { kind = c.in_ok-kind.kind; len = n; value = 0 })) (sym (ap length c.spelling.ensures)) found, refl)
