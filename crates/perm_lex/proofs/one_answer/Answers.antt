use Rattle.perm_lex.proofs.Refusals.{one_lexing, one_cause, not_both}
use Rattle.perm_lex.proofs.Total.{has_answer}
use Rattle.perm_lex.proofs.one_answer.Goals as goal

pub returns : goal.returns
returns c text = record { some = has_answer text; tokens = one_lexing text; refusals = one_cause text; apart = not_both text }
