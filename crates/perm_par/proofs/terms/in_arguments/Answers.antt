use Rattle.std.proofs.Common.{List, ◌+◌, ap, drop, get_or, map}
use Rattle.std.proofs.lemmas.List.{drop_all, drop_more}
use Rattle.perm_tree.specs.declared.bodies.Argument.{Argument}
use Rattle.perm_tree.specs.BodyTerms.{argument_of}
use Rattle.perm_tree.specs.Mentions.{argument_mentions, known}
use Rattle.perm_par.specs.Operands.{stand_in}
use Rattle.perm_par.specs.Known.{count_of}
use Rattle.perm_par.proofs.KnownVariables.{gathers-all, gathers-more, gathers-none}
use Rattle.perm_par.proofs.Operations.{argument-at}
use Rattle.perm_par.proofs.terms.in_arguments.Goals as goal

pub arguments-init : goal.arguments-init
arguments-init c = gathers-none c.args.body.now c.new-set.result (stand_in (map (argument_of c.args.body.now.bodies.operations) c.args.arguments.now)) c.new-set.ensures

pub arguments-preserved : goal.arguments-preserved
arguments-preserved c =
    let b = c.args.body.now in
    let all = b.bodies.operations in
    let args = c.args.arguments.now in
    let i = c.arguments.argument-index in
    gathers-more b c.arguments.set c.union-set.result c.in_argument.result (argument_mentions (argument_of all (get_or args i _))) (stand_in (map (argument_of all) (drop i args))) (stand_in (map (argument_of all) (drop (i + 1) args)))
    (known (count_of b) (stand_in (map (argument_of all) args))) c.union-set.ensures c.in_argument.ensures
    (ap (λ (l : List Argument). stand_in (map (argument_of all) l)) (drop_more args i _ c.arguments-test.true)) c.arguments.invariant

pub returns : goal.returns
returns c =
    let all = c.args.body.now.bodies.operations in
    let args = c.args.arguments.now in
    gathers-all c.args.body.now c.arguments.set (stand_in (map (argument_of all) (drop c.arguments.argument-index args))) (known (count_of c.args.body.now) (stand_in (map (argument_of all) args)))
    (ap (λ (l : List Argument). stand_in (map (argument_of all) l)) (drop_all c.arguments.argument-index args c.arguments-test.false)) c.arguments.invariant

pub in_argument-requires : goal.in_argument-requires
in_argument-requires c = argument-at c.args.body.now.bodies.operations c.args.arguments.now c.arguments.argument-index _ c.arguments-test.true c.requires
