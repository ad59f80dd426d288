use Rattle.std.proofs.Common.{[], sym, subst}
use Rattle.perm_tree.specs.declared.bodies.Operand.{Operand}
use Rattle.perm_tree.specs.BodyTerms.{operand_term}
use Rattle.perm_tree.specs.Mentions.{term_mentions}
use Rattle.perm_tree.specs.Vars.{Vars}
use Rattle.perm_par.specs.Known.{HoldsKnown}
use Rattle.perm_par.specs.Operands.{left_of, right_of}
use Rattle.perm_par.proofs.KnownVariables.{holds-plus}
use Rattle.perm_par.proofs.Operations.{operation-mentions}
use Rattle.perm_par.proofs.terms.in_operation.Goals as goal

pub returns : goal.returns
returns c =
    let b = c.args.body.now in
    let o = c.args.operation in
    subst (λ (G : Vars). HoldsKnown b c.union.result G) (sym (operation-mentions [] o))
    (holds-plus b c.union.result c.in_leaf.result c.in_leaf-2.result (term_mentions (operand_term [] (right_of o))) (term_mentions (operand_term [] (left_of o))) c.union.ensures
    (subst (λ (a : Operand). HoldsKnown b c.in_leaf.result (term_mentions (operand_term [] a))) c.right.ensures c.in_leaf.ensures)
    (subst (λ (a : Operand). HoldsKnown b c.in_leaf-2.result (term_mentions (operand_term [] a))) c.left.ensures c.in_leaf-2.ensures))
