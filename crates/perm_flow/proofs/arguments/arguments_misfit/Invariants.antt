use Rattle.std.proofs.Common.{◌≡◌, drop, map}
use Rattle.std.specs.Prelude.{◌||◌}
use Rattle.perm_tree.specs.BodyTerms.{argument_of}
use Rattle.perm_rules.specs.MethodBodies.{context_of}
use Rattle.perm_rules.specs.Shapes.{arguments_misfit}
use Rattle.perm_flow.proofs.arguments.arguments_misfit.Given as goal

abbrev pub invariant-loop-at : goal.invariant-loop-at
invariant-loop-at l =
    (l.found || arguments_misfit (context_of l.body) (map (argument_of l.body.bodies.operations) (drop l.at l.args)) (map (λ f. f.ty) (drop l.at l.params)))
    ≡ arguments_misfit (context_of l.body) (map (argument_of l.body.bodies.operations) l.args) (map (λ f. f.ty) l.params)
