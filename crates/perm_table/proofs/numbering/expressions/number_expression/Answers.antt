use Rattle.std.proofs.Common.{◌≡◌, ◌∙◌, List, length, Some, get_or, pos, ap, subst, arith}
use Rattle.std.specs.Prelude.{slice_get, IfOk}
use Rattle.std.proofs.lemmas.Option.{slice_get-get_or}
use Rattle.perm_tree.specs.declared.ast.Expr.{Expr}
use Rattle.perm_tree.specs.declared.ast.Expr.TheVariants.{Number}
use Rattle.perm_tree.specs.declared.bodies.Operand.{Operand}
use Rattle.perm_tree.specs.BodyTerms.{operation_terms}
use Rattle.perm_tree.specs.Code.{Term}
use Rattle.perm_tree.specs.Lows.{lows_of}
use Rattle.perm_tree.specs.Places.{IsPlaced, Listing}
use Rattle.perm_table.specs.Numbered.{TellsTerm}
use Rattle.perm_table.specs.Operands.{node_of, node_term, operand_at}
use Rattle.perm_table.proofs.NumberingExpressions.{node-term}
use Rattle.perm_table.proofs.numbering.expressions.number_expression.Goals as goal

pub returns : goal.returns
returns c =
    let n = c.args.names.now in
    let p = n.tables.program in
    let low = c.low-low.result in
    let root = c.args.root in
    let all = c.add_operands.new.operands.items in
    let run = c.add_operands.new.operations.items in
    let e : Expr = get_or c.exprs.result.now root (Number (pos 0)) in
    let same : c.exprs.result.now ≡ p.exprs = c.exprs.ensures.value ∙ ap (λ (q : Listing). q.exprs) c.program-2.ensures in
    let here : slice_get p.exprs root ≡ Some e =
    subst (λ (l : List Expr). slice_get l root ≡ Some e) same (slice_get-get_or c.exprs.result.now root (Number (pos 0)) (omega (arith, ap (λ (l : List Expr). length l) same, c.requires))) in
    let node : c.in_ok-node.node ≡ node_of n.vars (operand_at low all) e = c.in_ok-node.ensures ∙ ap (λ (l : List Operand). node_of n.vars (operand_at low l) e) c.as_slice.ensures.value in
    let placed : IsPlaced p = subst IsPlaced c.program-2.ensures c.exprs.ensures.placed in
    let from : low ≡ get_or (lows_of p.exprs) root 0 = c.low-low.ensures ∙ ap (λ (q : Listing). get_or (lows_of q.exprs) root 0) c.program.ensures in
    let term = ap (node_term (operation_terms run)) node ∙ node-term n low root all run c.in_ok-add_operands.ensures placed e here (omega (arith, from)) in
    subst (λ (t : Term). IfOk c.expression.result (TellsTerm c.args.bodies.now c.expression.new.bodies t)) term c.expression.ensures
