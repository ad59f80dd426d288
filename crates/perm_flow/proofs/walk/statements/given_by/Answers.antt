use Rattle.perm_flow.proofs.StatementForms.{no-give}
use Rattle.perm_flow.proofs.walk.statements.given_by.Goals as goal

pub returns-in_default : goal.returns-in_default
returns-in_default c k w x says = no-give k w x c.args.action 0 0 c.in_default.not-Give says
