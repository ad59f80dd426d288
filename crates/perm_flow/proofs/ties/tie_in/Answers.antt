use Rattle.std.proofs.Common.{◌∙◌, List, map, ap}
use Rattle.std.specs.List.{list_all}
use Rattle.perm_tree.specs.declared.bodies.Argument.{Argument}
use Rattle.perm_tree.specs.BodyTerms.{argument_of, stretch}
use Rattle.perm_tree.specs.Ties.{is_harmless, tie_of}
use Rattle.perm_rules.specs.MethodBodies.{context_of}
use Rattle.perm_rules.specs.Parts.{type_of}
use Rattle.perm_flow.proofs.CallArguments.{types-same}
use Rattle.perm_flow.proofs.ties.tie_in.Goals as goal

pub returns : goal.returns
returns c =
    let b = c.args.body.now in
    let call = c.args.call.now in
    let ty = type_of (context_of b) in
    c.tie_of.ensures
    ∙ ap (λ t. tie_of t call.consumed c.are_harmless-harmless.result) c.ty.ensures
    ∙ ap (tie_of (ty call.receiver) call.consumed) (c.are_harmless-harmless.ensures ∙ ap (λ (args : List Argument). list_all (is_harmless ty) (map (argument_of b.bodies.operations) args)) c.given.ensures.values)
    ∙ ap (λ types. tie_of (types call.receiver) call.consumed (list_all (is_harmless types) (map (argument_of b.bodies.operations) (stretch b.bodies.arguments call.first call.count)))) (types-same b c.kept.ensures)
