use Rattle.std.proofs.Common.{List, sym, subst, length}
use Rattle.perm_tree.specs.declared.ast.Stmt.{Stmt}
use Rattle.perm_tree.specs.Places.{IsPlaced, KindPlaced, Listing}
use Rattle.perm_tree.proofs.Pushes.{more_stmts}
use Rattle.perm_tree.proofs.program.ProgramBuilder.push_stmt.Goals as goal

pub invariant_of-self-2 : goal.invariant_of-self-2
invariant_of-self-2 c =
    let p : Listing = record { names = c.self.inside.names; classes = c.self.inside.classes; stmts = c.self.inside.stmts; exprs = c.self.inside.exprs; mentions = c.self.inside.mentions } in
    let P : List Stmt → Type 0 = λ l. IsPlaced (record p { stmts = l }) in
    let fits : KindPlaced (length p.exprs) (length p.stmts) c.args.stmt.kind = subst (λ (v : Listing). KindPlaced (length v.exprs) (length v.stmts) c.args.stmt.kind) (sym c.self.view_is) c.requires in
    (subst P (sym c.in_ok-push.ensures.ok) (more_stmts p c.args.stmt c.self.invariant.0 fits), c.self.invariant.1)
