use Rattle.std.proofs.Common.{List, map, sym, subst}
use Rattle.perm_tree.specs.declared.bodies.Argument.{Argument}
use Rattle.perm_tree.specs.BodyTerms.{argument_of, stretch, AreArgumentsIn}
use Rattle.perm_tree.specs.Mentions.{just_option}
use Rattle.perm_tree.specs.Vars.{just, plus}
use Rattle.perm_par.specs.Known.{HoldsKnown}
use Rattle.perm_par.specs.Operands.{stand_in}
use Rattle.perm_par.proofs.KnownVariables.{holds-plus}
use Rattle.perm_par.proofs.actions.mentioned_by_call.Goals as goal

pub in_arguments-arguments-requires : goal.in_arguments-arguments-requires
in_arguments-arguments-requires c = subst (λ (l : List Argument). AreArgumentsIn c.args.body.now.bodies.operations l) (sym c.arguments_of.ensures) c.requires.arguments

pub returns : goal.returns
returns c =
    let b = c.args.body.now in
    let v = c.args.call in
    let all = b.bodies.operations in
    let args = stand_in (map (argument_of all) (stretch b.bodies.arguments v.first v.count)) in
    holds-plus b c.union.result c.known_if.result c.union-used.result (just_option v.into) (plus (just v.receiver) args) c.union.ensures c.known_if.ensures
    (holds-plus b c.union-used.result c.known.result c.in_arguments-arguments.result (just v.receiver) args c.union-used.ensures c.known.ensures
    (subst (λ (l : List Argument). HoldsKnown b c.in_arguments-arguments.result (stand_in (map (argument_of all) l))) c.arguments_of.ensures c.in_arguments-arguments.ensures))
