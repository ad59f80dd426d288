use Rattle.std.proofs.Common.{refl}
use Rattle.perm_lex.proofs.Lexemes.{all_digits, number_found, too_large}
use Rattle.perm_lex.proofs.lexeme.number.Goals as goal

pub value-requires : goal.value-requires
value-requires c = all_digits c.args.rest.now _ c.digits_len-len.result c.digits_len-len.ensures refl

pub returns-in-Some : goal.returns-in-Some
returns-in-Some c =
    (number_found c.args.rest.now _ c.digits_len-len.result c.in-Some.value c.requires c.digits_len-len.ensures refl c.in-Some.ensures.0, c.in-Some.ensures.1)

pub returns-in-None : goal.returns-in-None
returns-in-None c = too_large c.args.rest.now _ c.digits_len-len.result c.requires c.digits_len-len.ensures refl c.in-None.ensures
