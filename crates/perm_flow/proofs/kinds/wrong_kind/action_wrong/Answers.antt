use Rattle.std.proofs.Common.{◌≡◌, subst, sym}
use Rattle.perm_tree.specs.declared.bodies.Action.{Action}
use Rattle.perm_tree.specs.BodyTerms.{instruction_of}
use Rattle.perm_rules.specs.Shapes.{instruction_wrong}
use Rattle.perm_rules.specs.MethodBodies.{context_of}
use Rattle.perm_flow.proofs.kinds.wrong_kind.action_wrong.Goals as goal

pub returns-in-Invoke : goal.returns-in-Invoke
returns-in-Invoke c tie =
    subst
    (λ (a : Action). c.call_wrong.result ≡ instruction_wrong (context_of c.args.body.now) (instruction_of c.args.body.now.bodies tie a))
    (sym c.in-Invoke.is)
    (c.call_wrong.ensures tie)
