use Rattle.std.proofs.Common.{List, sym, subst, length}
use Rattle.perm_tree.specs.declared.ast.ClassDecl.{ClassDecl}
use Rattle.perm_tree.specs.Places.{IsPlaced, ClassPlaced, Listing}
use Rattle.perm_tree.proofs.Pushes.{more_classes}
use Rattle.perm_tree.proofs.program.ProgramBuilder.push_class.Goals as goal

pub invariant_of-self-2 : goal.invariant_of-self-2
invariant_of-self-2 c =
    let p : Listing = record { names = c.self.inside.names; classes = c.self.inside.classes; stmts = c.self.inside.stmts; exprs = c.self.inside.exprs; mentions = c.self.inside.mentions } in
    let P : List ClassDecl → Type 0 = λ l. IsPlaced (record p { classes = l }) in
    let fits : ClassPlaced (length p.exprs) (length p.stmts) c.args.class = subst (λ (v : Listing). ClassPlaced (length v.exprs) (length v.stmts) c.args.class) (sym c.self.view_is) c.requires in
    (subst P (sym c.in_ok-push.ensures.ok) (more_classes p c.args.class c.self.invariant.0 fits), c.self.invariant.1)
