use Rattle.std.proofs.Common.{◌≡◌, ◌∙◌, ℕ, List, Option, sym, ap, subst}
use Rattle.std.specs.Prelude.{slice_set}
use Rattle.perm_meaning.specs.declared.eval.asks.Told.{Told}
use Rattle.perm_meaning.specs.declared.eval.own.Own.{Own}
use Rattle.perm_meaning.specs.declared.eval.values.Value.{Value}
use Rattle.perm_meaning.specs.Evaluator.Asks.{told_by}
use Rattle.perm_meaning.specs.Effects.{GoesOn}
use Rattle.perm_meaning.specs.NamedHeap as heaps
use Rattle.perm_meaning.specs.NamedHeap.{Held}
use Rattle.perm_meaning.specs.Names.{Mark, after_object}
use Rattle.perm_meaning.specs.Evaluator.NumberedValues.{all_by, held_by, Names}
use Rattle.perm_meaning.specs.Evaluator.SimpleStatements.{own_by}
use Rattle.perm_meaning.specs.Evaluator.ToldAnswers.{mark_after}
use Rattle.perm_meaning.proofs.Evaluator.Asks.{set-by}
use Rattle.perm_meaning.proofs.eval.own.Own.tell.Goals as goal

-- what a branch has after one of its variables is set
set-own : (names : Names) (mark : Mark) (old new : Own) (x : ℕ) (v : Option Value) → new ≡ record old { vars = slice_set old.vars x v }
    → record (own_by names mark old) { vars = slice_set (all_by names old.vars) x (held_by names v) } ≡ own_by names mark new
set-own names mark old new x v e =
    ap (λ (ws : List Held). record (own_by names mark old) { vars = ws }) (sym (set-by names old.vars x v)) ∙ ap (own_by names mark) (sym e)

pub returns-in-Into-clause-acts : goal.returns-in-Into-clause-acts
returns-in-Into-clause-acts c names mark =
    subst (λ (t : Told). told_by names (own_by names mark c.args.self.now) t (held_by names c.args.found) ≡ GoesOn (own_by names (mark_after t mark) c.set.new.self)) (sym c.in-Into.is)
    (ap (λ (l : heaps.Own). GoesOn l) (set-own names mark c.args.self.now c.set.new.self c.in-Into.x c.args.found c.set.ensures))

pub returns-in-Sets-clause-acts : goal.returns-in-Sets-clause-acts
returns-in-Sets-clause-acts c names mark =
    subst (λ (t : Told). told_by names (own_by names mark c.args.self.now) t (held_by names c.args.found) ≡ GoesOn (own_by names (mark_after t mark) c.set-in-Sets.new.self)) (sym c.in-Sets.is)
    (ap (λ (l : heaps.Own). GoesOn l) (set-own names mark c.args.self.now c.set-in-Sets.new.self c.in-Sets.x c.in-Sets.value c.set-in-Sets.ensures))

pub returns-in-Made-clause-acts : goal.returns-in-Made-clause-acts
returns-in-Made-clause-acts c names mark =
    subst (λ (t : Told). told_by names (own_by names mark c.args.self.now) t (held_by names c.args.found) ≡ GoesOn (own_by names (mark_after t mark) c.set-in-Made.new.self)) (sym c.in-Made.is)
    (ap (λ (l : heaps.Own). GoesOn l) (set-own names (after_object mark) c.args.self.now c.set-in-Made.new.self c.in-Made.x c.args.found c.set-in-Made.ensures))
