use Rattle.std.proofs.Common.{◌≡◌, subst, sym}
use Rattle.perm_tree.specs.declared.bodies.Action.{Action}
use Rattle.perm_tree.specs.BodyTerms.{instruction_of}
use Rattle.perm_tree.specs.Mentions.{any_in_instruction}
use Rattle.perm_rules.specs.MethodBodies.{context_of}
use Rattle.perm_flow.specs.Questions.{passes}
use Rattle.perm_flow.proofs.mentions.any_in_action.Goals as goal

pub returns-in-Invoke : goal.returns-in-Invoke
returns-in-Invoke c tie =
    subst
    (λ (a : Action). c.any_in_call.result ≡ any_in_instruction (passes (context_of c.args.body.now) c.args.test) (instruction_of c.args.body.now.bodies tie a))
    (sym c.in-Invoke.is)
    (c.any_in_call.ensures tie)
