use Rattle.std.proofs.Common.{subst, List, map}
use Rattle.perm_tree.specs.declared.bodies.Argument.{Argument}
use Rattle.perm_tree.specs.BodyTerms.{argument_of, stretch}
use Rattle.perm_tree.specs.Mentions.{arguments_consume, just_if}
use Rattle.perm_par.specs.Known.{HoldsKnown}
use Rattle.perm_par.proofs.KnownVariables.{holds-plus}
use Rattle.perm_par.proofs.actions.consumed_by_call.Goals as goal

pub returns : goal.returns
returns c =
    let b = c.args.body.now in
    let v = c.args.call in
    let all = b.bodies.operations in
    holds-plus b c.union.result c.receiver_of.result c.consumed_among.result (just_if v.consumed v.receiver) (arguments_consume (map (argument_of all) (stretch b.bodies.arguments v.first v.count))) c.union.ensures c.receiver_of.ensures
    (subst (λ (l : List Argument). HoldsKnown b c.consumed_among.result (arguments_consume (map (argument_of all) l))) c.arguments_of-arguments.ensures c.consumed_among.ensures)
