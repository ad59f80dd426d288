use Rattle.std.proofs.Common.{None, ap, sym}
use Rattle.perm_rules.specs.FirstRefused.{error_or}
use Rattle.perm_flow.proofs.walk.statements.pass.Goals as goal

pub returns-in-Some : goal.returns-in-Some
returns-in-Some c hides holds = ap (λ o. error_or c.args.at o None) (sym (c.in-Some.ensures hides holds))

pub returns-in-None : goal.returns-in-None
returns-in-None c hides holds = sym (c.in-None.ensures hides holds)
