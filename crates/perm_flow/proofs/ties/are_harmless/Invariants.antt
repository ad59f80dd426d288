use Rattle.std.proofs.Common.{◌≡◌, drop, map}
use Rattle.std.specs.Prelude.{◌&&◌}
use Rattle.std.specs.List.{list_all}
use Rattle.perm_tree.specs.BodyTerms.{argument_of}
use Rattle.perm_tree.specs.Ties.{is_harmless}
use Rattle.perm_rules.specs.MethodBodies.{context_of}
use Rattle.perm_rules.specs.Parts.{type_of}
use Rattle.perm_flow.proofs.ties.are_harmless.Given as goal

abbrev pub invariant-loop-a : goal.invariant-loop-a
invariant-loop-a l =
    (l.all && list_all (is_harmless (type_of (context_of l.body))) (map (argument_of l.body.bodies.operations) (drop l.a-index l.args)))
    ≡ list_all (is_harmless (type_of (context_of l.body))) (map (argument_of l.body.bodies.operations) l.args)
