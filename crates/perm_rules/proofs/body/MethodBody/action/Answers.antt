use Rattle.std.proofs.Common.{◌≡◌, ◌<◌, ℕ, List, length, Some, subst, sym}
use Rattle.std.specs.Prelude.{get_or, slice_get}
use Rattle.perm_tree.specs.declared.ast.Stmt.{Stmt}
use Rattle.perm_tree.specs.declared.bodies.Action.TheVariants.{Declare}
use Rattle.perm_tree.specs.declared.bodies.Step.{Step}
use Rattle.perm_tree.specs.InBody.{IsStmtOf}
use Rattle.perm_tree.specs.StatementSteps.{Says}
use Rattle.perm_rules.specs.MethodBodies.{Body, setting_of}
use Rattle.perm_rules.proofs.BodiesThere.{place-within, step-within, read-says}
use Rattle.perm_rules.proofs.body.MethodBody.action.Goals as goal

pub bounds-as_slice-at : goal.bounds-as_slice-at
bounds-as_slice-at c =
    let inside = subst (λ (b : Body). IsStmtOf b.unit b.number c.args.at) (sym c.self.view_is) c.requires in
    subst (λ (xs : List ℕ). c.args.at < length xs) (sym c.as_slice.ensures) (place-within _ c.self.invariant c.args.at inside)

pub bounds-as_slice-place : goal.bounds-as_slice-place
bounds-as_slice-place c =
    let inside = subst (λ (b : Body). IsStmtOf b.unit b.number c.args.at) (sym c.self.view_is) c.requires in
    subst (λ (xs : List ℕ). get_or xs c.args.at 0 < length c.as_slice-2.result.now) (sym c.as_slice.ensures)
    (subst (λ (ss : List Step). get_or c.self.inside.bodies.now.places c.args.at 0 < length ss) (sym c.as_slice-2.ensures) (step-within _ c.self.invariant c.args.at inside))

pub returns : goal.returns
returns c =
    let inside = subst (λ (b : Body). IsStmtOf b.unit b.number c.args.at) (sym c.self.view_is) c.requires in
    let none : Step = record { span = record { start = 0; end = 0 }; next = 0; action = Declare 0 } in
    subst (λ (b : Body). (s : Stmt) → slice_get b.unit.program.stmts c.args.at ≡ Some s → Says (setting_of b) b.bodies s s.kind (get_or c.as_slice-2.result.now (get_or c.as_slice.result.now c.args.at 0) none).action) c.self.view_is
    (subst (λ (xs : List ℕ). (s : Stmt) → slice_get c.self.inside.program.now.stmts c.args.at ≡ Some s → Says (setting_of (record { unit = record { program = c.self.inside.program.now; tables = c.self.inside.tables.now }; bodies = c.self.inside.bodies.now; number = c.self.inside.number })) c.self.inside.bodies.now s s.kind (get_or c.as_slice-2.result.now (get_or xs c.args.at 0) none).action) (sym c.as_slice.ensures)
    (subst (λ (ss : List Step). (s : Stmt) → slice_get c.self.inside.program.now.stmts c.args.at ≡ Some s → Says (setting_of (record { unit = record { program = c.self.inside.program.now; tables = c.self.inside.tables.now }; bodies = c.self.inside.bodies.now; number = c.self.inside.number })) c.self.inside.bodies.now s s.kind (get_or ss (get_or c.self.inside.bodies.now.places c.args.at 0) none).action) (sym c.as_slice-2.ensures)
    (λ s here. read-says (record { unit = record { program = c.self.inside.program.now; tables = c.self.inside.tables.now }; bodies = c.self.inside.bodies.now; number = c.self.inside.number }) c.self.invariant c.args.at s none inside here)))
