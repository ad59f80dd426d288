use Rattle.std.proofs.Common.{◌≡◌, ◌∙◌, ◌<◌, suc, length, ap, subst, arith}
use Rattle.perm_tree.specs.declared.bodies.Operand.{Operand}
use Rattle.perm_tree.specs.BodyTerms.{operand_term, operation_terms, IsOperandBelow}
use Rattle.perm_tree.specs.Mentions.{known, term_mentions}
use Rattle.perm_par.specs.Known.{count_of}
use Rattle.perm_par.specs.Operands.{rank}
use Rattle.perm_par.proofs.KnownVariables.{gathers-more}
use Rattle.perm_par.proofs.Operations.{operands-at, right-at}
use Rattle.perm_par.proofs.terms.+in_operand.Goals as goal

pub in_operand-requires : goal.in_operand-requires
in_operand-requires t c =
    let at = c.in-Earlier.at in
    let less : at < length c.args.run.now = subst (λ (a : Operand). IsOperandBelow (length c.args.run.now) a) c.in-Earlier.is c.on.invariant.below in
    let same : rank c.on.on ≡ suc at = ap rank c.in-Earlier.is in
    let both = right-at c.args.run.now at _ c.right.result c.requires.ordered less c.right.ensures in (
      omega (arith, c.decreases, c.on.invariant.rank, same, both.1),
      (c.requires.ordered, both.0),
    )

pub on-smaller : goal.on-smaller
on-smaller t c =
    let at = c.in-Earlier.at in
    let less : at < length c.args.run.now = subst (λ (a : Operand). IsOperandBelow (length c.args.run.now) a) c.in-Earlier.is c.on.invariant.below in
    let same : rank c.on.on ≡ suc at = ap rank c.in-Earlier.is in
    let parts = operands-at c.args.run.now at _ c.right.result c.left-on.result c.requires.ordered less c.right.ensures c.left-on.ensures in
    omega (arith, same, parts.left_rank)

pub on-preserved : goal.on-preserved
on-preserved t c =
    let at = c.in-Earlier.at in
    let b = c.args.body.now in
    let ts = operation_terms c.args.run.now in
    let less : at < length c.args.run.now = subst (λ (a : Operand). IsOperandBelow (length c.args.run.now) a) c.in-Earlier.is c.on.invariant.below in
    let same : rank c.on.on ≡ suc at = ap rank c.in-Earlier.is in
    let parts = operands-at c.args.run.now at _ c.right.result c.left-on.result c.requires.ordered less c.right.ensures c.left-on.ensures in
    record {
      below = parts.left;
      rank = omega (arith, same, parts.left_rank, c.on.invariant.rank);
      gathered =
          gathers-more b c.on.set c.union-set.result c.in_operand.result (term_mentions (operand_term ts c.right.result)) (term_mentions (operand_term ts c.on.on)) (term_mentions (operand_term ts c.left-on.result))
          (known (count_of b) (term_mentions (operand_term ts c.args.operand))) c.union-set.ensures c.in_operand.ensures
          (ap (λ (a : Operand). term_mentions (operand_term ts a)) c.in-Earlier.is ∙ parts.mentions) c.on.invariant.gathered;
    }
