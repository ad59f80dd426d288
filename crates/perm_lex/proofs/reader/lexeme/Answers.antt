use Rattle.std.proofs.Common.{sym}
use Rattle.perm_lex.proofs.Walk.{bad_byte}
use Rattle.perm_lex.proofs.reader.lexeme.Goals as goal

pub returns-in-None : goal.returns-in-None
returns-in-None c =
    bad_byte c.args.rest.now c.args.at c.requires.some c.requires.no_gap (sym c.if-is_letter.ensures) (sym c.if-is_ascii_digit.ensures.value) c.in-None.ensures
