use Rattle.std.proofs.Common.{◌≡◌, ◌∙◌, ◌+◌, List, [], ◌∷◌, ◌++◌, length, Some, get_or, pos, sym, ap, subst, arith}
use Rattle.std.specs.Prelude.{slice_get}
use Rattle.std.proofs.lemmas.Option.{slice_get-get_or}
use Rattle.perm_tree.specs.declared.ast.Expr.{Expr}
use Rattle.perm_tree.specs.declared.ast.Expr.TheVariants.{Number}
use Rattle.perm_tree.specs.declared.bodies.Operand.{Operand}
use Rattle.perm_tree.specs.declared.bodies.Operation.{Operation}
use Rattle.perm_tree.specs.Places.{IsPlaced, Listing}
use Rattle.perm_tree.proofs.LowLaws.{low-le}
use Rattle.perm_table.specs.Operands.{node_of, operand_at, operand_for, operations_for, AreKnown}
use Rattle.perm_table.specs.declared.numbering.expressions.Node.{Node}
use Rattle.perm_table.proofs.NumberingExpressions.{known-more, known-none}
use Rattle.perm_table.proofs.numbering.expressions.add_operands.Goals as goal

pub loop-at-init : goal.loop-at-init
loop-at-init c =
    let n = c.args.names.now in
    let low = c.args.low in
    subst (λ (all : List Operand). AreKnown n low low all c.args.operations.now.items) (sym c.requires.no_operands)
    (subst (λ (run : List Operation). AreKnown n low low [] run) (sym c.requires.no_operations) (known-none n low))

pub loop-at-preserved : goal.loop-at-preserved
loop-at-preserved c =
    let n = c.args.names.now in
    let low = c.args.low in
    let at = c.loop-at.at in
    let all = c.loop-at.operands.items in
    let run = c.loop-at.operations.items in
    let e : Expr = get_or c.exprs-exprs.result.now at (Number (pos 0)) in
    let same : c.exprs-exprs.result.now ≡ n.tables.program.exprs = c.exprs-exprs.ensures.value ∙ ap (λ (p : Listing). p.exprs) c.program.ensures in
    let here : slice_get n.tables.program.exprs at ≡ Some e =
    subst (λ (l : List Expr). slice_get l at ≡ Some e) same (slice_get-get_or c.exprs-exprs.result.now at (Number (pos 0)) (omega (arith, ap (λ (l : List Expr). length l) same, c.requires.within))) in
    let node : c.in_ok-node.node ≡ node_of n.vars (operand_at low all) e = c.in_ok-node.ensures ∙ ap (λ (l : List Operand). node_of n.vars (operand_at low l) e) c.as_slice.ensures.value in
    let placed : IsPlaced n.tables.program = subst IsPlaced c.program.ensures c.exprs-exprs.ensures.placed in
    let known = known-more n low at all run c.loop-at.invariant placed e here in
    subst (λ (l : List Operand). AreKnown n low (at + 1) l c.add_node.new.operations.items) (sym c.in_ok-add_node.ensures.operand)
    (subst (λ (l : List Operation). AreKnown n low (at + 1) (all ++ operand_for (length run) c.in_ok-node.node ∷ []) l) (sym c.in_ok-add_node.ensures.operation)
    (subst (λ (m : Node). AreKnown n low (at + 1) (all ++ operand_for (length run) m ∷ []) (run ++ operations_for m)) (sym node) known))

pub returns : goal.returns
returns c =
    let n = c.args.names.now in
    let place : c.loop-at.at ≡ c.args.root = omega (arith, low-le n.tables.program.exprs c.args.root, c.requires.low) in
    subst (λ m. AreKnown n c.args.low m c.loop-at.operands.items c.loop-at.operations.items) place c.loop-at.invariant
