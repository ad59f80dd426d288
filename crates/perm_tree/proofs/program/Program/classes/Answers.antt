use Rattle.std.proofs.Common.{subst, length}
use Rattle.std.specs.Prelude.{map}
use Rattle.perm_tree.specs.Places.{AllBelow, Listing}
use Rattle.perm_tree.proofs.ClassMaps.{classes-below}
use Rattle.perm_tree.proofs.program.Program.classes.Goals as goal

pub returns-clause-named : goal.returns-clause-named
returns-clause-named c =
    let p : Listing = record { names = c.self.inside.names; classes = c.self.inside.classes; stmts = c.self.inside.stmts; exprs = c.self.inside.exprs; mentions = c.self.inside.mentions } in
    subst (λ (v : Listing). AllBelow (length v.names) (map (λ d. d.name.name) v.classes)) c.self.view_is (classes-below p c.self.invariant.0)
