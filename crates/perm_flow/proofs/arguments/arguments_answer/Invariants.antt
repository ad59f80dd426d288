use Rattle.std.proofs.Common.{◌≡◌, drop, map}
use Rattle.std.specs.Prelude.{◌||◌}
use Rattle.std.specs.List.{list_any}
use Rattle.perm_tree.specs.BodyTerms.{argument_of}
use Rattle.perm_rules.specs.MethodBodies.{context_of}
use Rattle.perm_flow.specs.Questions.{argument_answer}
use Rattle.perm_flow.proofs.arguments.arguments_answer.Given as goal

abbrev pub invariant-loop-a : goal.invariant-loop-a
invariant-loop-a l =
    (l.found || list_any (argument_answer (context_of l.body) l.question) (map (argument_of l.body.bodies.operations) (drop l.a-index l.args)))
    ≡ list_any (argument_answer (context_of l.body) l.question) (map (argument_of l.body.bodies.operations) l.args)
