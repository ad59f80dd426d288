use Rattle.std.proofs.Common.{◌≡◌, sym, subst}
use Rattle.perm_tree.specs.declared.bodies.Action.{Action}
use Rattle.perm_tree.specs.BodyTerms.{instruction_of}
use Rattle.perm_tree.specs.VarSets.{member}
use Rattle.perm_rules.specs.Liveness.{after}
use Rattle.perm_flow.proofs.walk.live.after_action.Goals as goal

pub returns-in-Invoke : goal.returns-in-Invoke
returns-in-Invoke c tie x within =
    subst (λ (a : Action). member c.after_call.result x ≡ after (instruction_of c.args.body.now.bodies tie a) (member c.args.live) x) (sym c.in-Invoke.is) (c.after_call.ensures x within)
