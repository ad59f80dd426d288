use Rattle.perm_parse.proofs.OneAnswer.{one-answer}
use Rattle.perm_parse.proofs.one_answer.Goals as goal

pub returns : goal.returns
returns c text tokens = one-answer text tokens
