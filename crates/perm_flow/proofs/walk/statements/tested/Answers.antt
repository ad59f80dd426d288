use Rattle.perm_flow.proofs.StatementForms.{no-test}
use Rattle.perm_flow.proofs.walk.statements.tested.Goals as goal

pub returns-in_default : goal.returns-in_default
returns-in_default c k b at says = no-test k b at c.args.action _ c.in_default.not-If c.in_default.not-While says
