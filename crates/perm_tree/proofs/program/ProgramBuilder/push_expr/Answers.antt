use Rattle.std.proofs.Common.{List, ◌≡◌, ◌∙◌, ◌++◌, ◌∷◌, [], ap, sym, subst, length, arith}
use Rattle.perm_tree.specs.declared.ast.Expr.{Expr}
use Rattle.perm_tree.specs.Lows.{low_in}
use Rattle.perm_tree.specs.Places.{ExprBelow, IsPlaced, Listing}
use Rattle.perm_tree.proofs.Lows.{length-lows_of, lows_of-push}
use Rattle.perm_tree.proofs.Pushes.{more_exprs}
use Rattle.perm_tree.proofs.program.ProgramBuilder.push_expr.Goals as goal

pub low_among-low-requires-clause-count : goal.low_among-low-requires-clause-count
low_among-low-requires-clause-count c = omega (arith, c.in_ok-at.ensures, length-lows_of c.self.inside.exprs, ap length c.self.invariant.1, c.len.ensures.value, ap length c.as_slice.ensures.value)

pub invariant_of-self-2 : goal.invariant_of-self-2
invariant_of-self-2 c =
    let p : Listing = record { names = c.self.inside.names; classes = c.self.inside.classes; stmts = c.self.inside.stmts; exprs = c.self.inside.exprs; mentions = c.self.inside.mentions } in
    let P : List Expr → Type 0 = λ l. IsPlaced (record p { exprs = l }) in
    let fits : ExprBelow (length p.exprs) c.args.expr = subst (λ (v : Listing). ExprBelow (length v.exprs) c.args.expr) (sym c.self.view_is) c.requires in
    let pushed : c.push-2.new.self.items ≡ c.reserve.new.self.items ++ c.low_among-low.result ∷ [] = rw c.unwrap.ensures at c.push-2.ensures.items in
    let low : c.low_among-low.result ≡ low_in c.reserve.new.self.items c.args.expr = c.low_among-low.ensures ∙ ap (λ l. low_in l c.args.expr) (c.as_slice.ensures.value ∙ sym c.reserve.ensures.items) in
    (subst P (sym c.in_ok-push.ensures.ok) (more_exprs p c.args.expr c.self.invariant.0 fits c.literal.ensures), lows_of-push p.exprs c.push.new.self c.args.expr c.reserve.new.self.items c.push-2.new.self.items c.low_among-low.result (c.reserve.ensures.items ∙ c.self.invariant.1) c.in_ok-push.ensures.ok low pushed)
