use Rattle.std.proofs.Common.{length, arith}
use Rattle.perm_tree.specs.BodyTerms.{argument_of}
use Rattle.perm_rules.specs.MethodBodies.{context_of}
use Rattle.perm_flow.proofs.CallArguments.{found-all, lesser, weak-past}
use Rattle.perm_flow.proofs.arguments.arguments_weak.Goals as goal

pub returns : goal.returns
returns c =
    let past = lesser (length c.args.args.now) (length c.args.params.now) c.loop-at.at (omega arith) in
    found-all c.loop-at.found _ _ c.loop-at.invariant (weak-past (context_of c.args.body.now) (argument_of c.args.body.now.bodies.operations) (λ f. f.ty) c.args.args.now c.args.params.now c.loop-at.at past)
