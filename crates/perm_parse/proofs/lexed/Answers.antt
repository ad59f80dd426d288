use Rattle.perm_lex.proofs.Answers.{pairs}
use Rattle.perm_parse.proofs.Descent.TextTokens.{lexed-over, lexed-few, lexed-some}
use Rattle.perm_parse.proofs.lexed.Goals as goal

pub returns-clause-over : goal.returns-clause-over
returns-clause-over c = lexed-over

pub returns-clause-some : goal.returns-clause-some
returns-clause-some c = lexed-some

pub returns-clause-order : goal.returns-clause-order
returns-clause-order c = pairs

pub returns-clause-few : goal.returns-clause-few
returns-clause-few c = lexed-few
