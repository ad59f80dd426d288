-- The ends of parts of methods keep what a state means.
use Rattle.std.proofs.Common.{◌≡◌, ◌∙◌, ℕ, zero, suc, ◌-◌, ◌+◌, ◌*◌, ◌<◌, ◌≤◌, Bool, true, List, [], Option, Some, None, refl, sym, ap, subst, arith, le_refl}
use Rattle.std.specs.Prelude.{slice_get}
use Rattle.perm_tree.specs.declared.ast.Span.{Span}
use Rattle.perm_tree.specs.Code.{Code, UnitCode}
use Rattle.perm_tree.specs.CodeOf.{code_of}
use Rattle.perm_tree.specs.UnitTables.{Tables}
use Rattle.perm_meaning.specs.declared.eval.ends.Ended.{Ended}
use Rattle.perm_meaning.specs.declared.eval.ends.Ended.TheVariants.{Closes, Gives, Returns}
use Rattle.perm_meaning.specs.declared.eval.own.Own.{Own}
use Rattle.perm_meaning.specs.declared.eval.state.Fate.{Fate}
use Rattle.perm_meaning.specs.declared.eval.state.Fate.TheVariants as fates
use Rattle.perm_meaning.specs.declared.eval.state.State.{State}
use Rattle.perm_meaning.specs.declared.eval.values.Given.{Given}
use Rattle.perm_meaning.specs.declared.eval.values.Given.TheVariants as given
use Rattle.perm_meaning.specs.declared.eval.values.Value.{Value}
use Rattle.perm_meaning.specs.Evaluator.PartEnds.{ended, give_fate, return_fate, EndsAs, LosesGiven}
use Rattle.perm_meaning.specs.Expressions.{clear, tagged}
use Rattle.perm_meaning.specs.Meaning.{does, Moment, Result, Well, Gave, Handed, Fails, Full, Stuck}
use Rattle.perm_meaning.specs.Evaluator.Measure.{fate_weight, waiting_ends, waiting_turns}
use Rattle.perm_meaning.specs.NamedHeap.{Heap, Held}
use Rattle.perm_meaning.specs.Names.{root_mark, Mark}
use Rattle.perm_meaning.specs.Evaluator.NumberedValues.{all_by, held_by, Names}
use Rattle.perm_meaning.specs.Objects.{no_objects}
use Rattle.perm_meaning.specs.Evaluator.Parts.{end_in, stmts_in}
use Rattle.perm_meaning.specs.Evaluator.Runs.{FateBelow, IsNext}
use Rattle.perm_meaning.specs.Evaluator.States.{comes_to, Comes, Moves, Tied}
use Rattle.perm_meaning.specs.Evaluator.Ties.{moment_by, AllBelow, IsBelow}
use Rattle.perm_meaning.specs.Evaluator.Waits.{Waiting}
use Rattle.perm_meaning.specs.Evaluator.WholeCode.{whole}
use Rattle.perm_meaning.proofs.Evaluator.ControlTurns.{part-ends}
use Rattle.perm_meaning.proofs.Evaluator.Runs.Blocks.{moves-means}
use Rattle.perm_meaning.proofs.Evaluator.Ties.Below.{all-same}
use Rattle.perm_meaning.proofs.Evaluator.Ties.Running.{slot-by, vars-below}
use Rattle.perm_meaning.proofs.Evaluator.Unfolding.Fixed.{unfolds}
use Rattle.perm_meaning.proofs.Evaluator.Waits.{resumed-full, resumed-stuck}

-- ---------- fates ----------
-- a full heap and what is stuck end the whole run
comes-tied : (u : Tables) (fits : ℕ → Bool) (names : Names) (mark : Mark) (h : Heap) (s : State) (y : Fate) (ws : List Waiting) (r : Result) → Comes u fits names mark h s y ws r → Tied u fits names mark h s y ws r
comes-tied u fits names mark h s fates.Goes ws r comes = comes
comes-tied u fits names mark h s fates.Closes ws r comes = comes
comes-tied u fits names mark h s (fates.Gives v x) ws r comes = comes
comes-tied u fits names mark h s (fates.Returns v) ws r comes = comes
comes-tied u fits names mark h s (fates.Fails e) ws r comes = comes
comes-tied u fits names mark h s fates.Full ws r comes = sym (resumed-full (code_of u) fits ws) ∙ comes.is
comes-tied u fits names mark h s fates.Sticks ws r comes = sym (resumed-stuck (code_of u) fits ws) ∙ comes.is

-- a `give` ends code
give-ends : (t : ℕ) (g : Given) (x : ℕ) (at : Span) → fate_weight (give_fate t g x at) ≡ 0
give-ends zero g x at = refl
give-ends (suc t) (given.Value v) x at = refl
give-ends (suc t) (given.Trap k) x at = refl
give-ends (suc t) given.Nothing x at = refl

-- so does a `return`
return-ends : (t : ℕ) (g : Given) (at : Span) → fate_weight (return_fate t g at) ≡ 0
return-ends zero g at = refl
return-ends (suc t) (given.Value v) at = refl
return-ends (suc t) (given.Trap k) at = refl
return-ends (suc t) given.Nothing at = refl

-- its fate refers to no other objects than its value does
give-below : (n t : ℕ) (g : Given) (x : ℕ) (at : Span) → ((v : Value) → g ≡ given.Value v → IsBelow n v) → FateBelow n (give_fate t g x at)
give-below n zero g x at below = tt
give-below n (suc t) (given.Value v) x at below = below v refl
give-below n (suc t) (given.Trap k) x at below = tt
give-below n (suc t) given.Nothing x at below = tt

-- the same of a `return`
return-below : (n t : ℕ) (g : Given) (at : Span) → ((v : Value) → g ≡ given.Value v → IsBelow n v) → FateBelow n (return_fate t g at)
return-below n zero g at below = tt
return-below n (suc t) (given.Value v) at below = below v refl
return-below n (suc t) (given.Trap k) at below = tt
return-below n (suc t) given.Nothing at below = tt

-- ---------- what an end gives ----------
-- the value that a code gives
abbrev value_in : Result → Held
value_in (Gave v m) = v
value_in (Handed x v m) = v
value_in (Well m) = None
value_in (Fails e t p h) = None
value_in Full = None
value_in Stuck = None

-- a moment with these variables and a turn
abbrev with_vars : List Held → Moment
with_vars vs = record { turns = 1; own = record { vars = vs; routine = 0; depth = 0; printed = []; mark = root_mark }; heap = record { objects = no_objects; given = 0 } }

module _ (u : UnitCode) (c : Code) (old new : Own) (e : Ended) (ends : EndsAs u c old new e) (v : Value) where
  -- the value of an end is one that the variables determine
  value-below : ((names : Names) → value_in (ended names new.vars e (with_vars (all_by names old.vars))) ≡ held_by names (Some v)) → (n : ℕ) → AllBelow n old.vars → IsBelow n v
  value-below is n below =
      slot-by n (λ names. all_by names old.vars) (λ a b same. all-same n a b same old.vars below) (λ vs. value_in (does u (λ k. true) (λ d m. Stuck) c (with_vars vs))) (Some v)
      (λ names. sym (is names) ∙ sym (ap value_in (ends names (λ k. true) (λ d m. Stuck) (with_vars (all_by names old.vars)) refl)))

-- ---------- ends ----------
module _ (u : Tables) (s : State) (none : slice_get (stmts_in u s.own.«method» s.control.spot.part) s.control.spot.at ≡ None) where
  -- the state with these variables and so many turns left
  abbrev pub with_turns : List (Option Value) → ℕ → State
  with_turns vs t = record s { own = record s.own { vars = vs }; turns = t }

  -- the end of the part is found to be this, where the branch has this then
  abbrev pub EndsWith : Own → Ended → Type 0
  EndsWith o e = EndsAs (code_of u) (end_in u s.own.«method» s.control.spot.part) s.own o e

  module _ (vs : List (Option Value)) (e : Ended) (ends : EndsWith (record s.own { vars = vs }) e) where
    -- the part ends with a fate
    end-next : (y : Fate) (t : ℕ) → t ≤ s.turns → fate_weight y ≡ 0 → ((n : ℕ) → AllBelow n s.own.vars → AllBelow n vs × FateBelow n y)
        → ((fits : ℕ → Bool) (names : Names) (mark : Mark) (h : Heap) → ended names vs e (moment_by names mark h s.turns s.own) ≡ comes_to u fits names mark h (with_turns vs t) y) → IsNext u s fates.Goes (with_turns vs t) y
    end-next y t fewer over below is = record {
      means = moves-means u s (with_turns vs t) y moves refl (λ n. record { vars = λ vars. (below n vars).0; frames = λ vars frames. frames; value = λ vars. (below n vars).1 });
      small = λ small. record { turns = no-more t s.turns (waiting_turns s.control.frames) _ fewer small.turns; limit = small.limit; parents = small.parents };
      less = less-left t s.turns (waiting_turns s.control.frames) (waiting_ends s.control.frames) (fate_weight y) fewer over;
    }
      where
        no-more : (t n w b : ℕ) → t ≤ n → n + w ≤ b → t + w ≤ b
        no-more t n w b le small = omega (arith, le, small)

        less-left : (t n w e f : ℕ) → t ≤ n → f ≡ 0 → 8 * (t + w) + (e + f) < 8 * (n + w) + (e + 1)
        less-left t n w e f le q = omega (arith, le, q)

        moves : Moves u s (with_turns vs t) y
        moves fits names mark h ws r new due =
            let m = moment_by names mark h s.turns s.own in
            let code = end_in u s.own.«method» s.control.spot.part in
            let y-is = unfolds (code_of u) fits code m ∙ ends names fits (whole (code_of u) fits) m refl ∙ is fits names mark h in
            (mark, ws, new, comes-tied u fits names mark h (with_turns vs t) y ws r (part-ends u s fits names mark h ws r (comes_to u fits names mark h (with_turns vs t) y) none y-is due))

  -- a part that has no end of its own is done
  pub closes-next : (o : Own) → EndsWith o Closes → o ≡ s.own → IsNext u s fates.Goes (record s { own = o }) fates.Closes
  closes-next o ends same =
      subst (λ (o : Own). IsNext u s fates.Goes (record s { own = o }) fates.Closes) (sym same)
      (end-next s.own.vars Closes (subst (λ (o : Own). EndsWith o Closes) same ends) fates.Closes s.turns (le_refl s.turns) refl (λ n vars. (vars, tt)) (λ fits names mark h. refl))

  -- a turn less
  fewer : (t : ℕ) → t - 1 ≤ t
  fewer t = omega arith

  -- and it is one
  one-spent : (t : ℕ) → t ≡ suc t - 1
  one-spent t = omega arith

  -- the state where the branch has this and its turn is spent
  abbrev pub after_turn : Own → State
  after_turn o = record s { own = o; turns = s.turns - 1 }

  -- it is the next one also where it is only equal to this
  pub turn-next : (o : Own) (new : State) (y f : Fate) → new ≡ after_turn o → y ≡ f → IsNext u s fates.Goes (after_turn o) f → IsNext u s fates.Goes new y
  turn-next o new y f state fate next =
      subst (λ (z : State). IsNext u s fates.Goes z y) (sym state) (subst (λ (z : Fate). IsNext u s fates.Goes (after_turn o) z) (sym fate) next)

  module _ (g : Given) (x : ℕ) (at : Span) where
    -- what it comes to is told by its fate
    give-is : (vs : List (Option Value)) (t : ℕ) (fits : ℕ → Bool) (names : Names) (mark : Mark) (h : Heap) → ended names vs (Gives g x at) (moment_by names mark h t s.own) ≡ comes_to u fits names mark h (with_turns vs (t - 1)) (give_fate t g x at)
    give-is vs zero fits names mark h = refl
    give-is vs (suc t) fits names mark h =
        subst (λ (k : ℕ). ended names vs (Gives g x at) (moment_by names mark h (suc t) s.own) ≡ comes_to u fits names mark h (with_turns vs k) (give_fate (suc t) g x at)) (one-spent t) (by-value g)
      where
        by-value : (g : Given) → ended names vs (Gives g x at) (moment_by names mark h (suc t) s.own) ≡ comes_to u fits names mark h (with_turns vs t) (give_fate (suc t) g x at)
        by-value (given.Value v) = refl
        by-value (given.Trap k) = refl
        by-value given.Nothing = refl

    -- a recover block gives the value of a variable
    pub gives-next : (o : Own) → EndsWith o (Gives g x at) → LosesGiven s.own o (Gives g x at) → o ≡ record s.own { vars = o.vars } → IsNext u s fates.Goes (after_turn o) (give_fate s.turns g x at)
    gives-next o ends lost same =
        subst (λ (k : Own). IsNext u s fates.Goes (after_turn k) (give_fate s.turns g x at)) (sym same)
        (end-next o.vars (Gives g x at) (subst (λ (k : Own). EndsWith k (Gives g x at)) same ends) (give_fate s.turns g x at) (s.turns - 1) (fewer s.turns) (give-ends s.turns g x at)
        (λ n below. (
          vars-below n (λ names. all_by names s.own.vars) (λ a b k. all-same n a b k s.own.vars below) (λ ws. clear tagged ws lost.0) o.vars lost.1,
          give-below n s.turns g x at
              (λ v is. value-below (code_of u) (end_in u s.own.«method» s.control.spot.part) s.own o (Gives (given.Value v) x at) (subst (λ (g : Given). EndsWith o (Gives g x at)) is ends) v (λ names. refl) n below),
        ))
        (give-is o.vars s.turns))

  module _ (g : Given) (at : Span) where
    -- what it comes to is told by its fate
    return-is : (t : ℕ) (fits : ℕ → Bool) (names : Names) (mark : Mark) (h : Heap) → ended names s.own.vars (Returns g at) (moment_by names mark h t s.own) ≡ comes_to u fits names mark h (with_turns s.own.vars (t - 1)) (return_fate t g at)
    return-is zero fits names mark h = refl
    return-is (suc t) fits names mark h =
        subst (λ (k : ℕ). ended names s.own.vars (Returns g at) (moment_by names mark h (suc t) s.own) ≡ comes_to u fits names mark h (with_turns s.own.vars k) (return_fate (suc t) g at)) (one-spent t) (by-value g)
      where
        by-value : (g : Given) → ended names s.own.vars (Returns g at) (moment_by names mark h (suc t) s.own) ≡ comes_to u fits names mark h (with_turns s.own.vars t) (return_fate (suc t) g at)
        by-value (given.Value v) = refl
        by-value (given.Trap k) = refl
        by-value given.Nothing = refl

    -- a method gives a value back
    pub returns-next : (o : Own) → EndsWith o (Returns g at) → o ≡ s.own → IsNext u s fates.Goes (after_turn o) (return_fate s.turns g at)
    returns-next o ends same =
        subst (λ (k : Own). IsNext u s fates.Goes (after_turn k) (return_fate s.turns g at)) (sym same)
        (end-next s.own.vars (Returns g at) (subst (λ (k : Own). EndsWith k (Returns g at)) same ends) (return_fate s.turns g at) (s.turns - 1) (fewer s.turns) (return-ends s.turns g at)
        (λ n below. (
          below,
          return-below n s.turns g at
              (λ v is. value-below (code_of u) (end_in u s.own.«method» s.control.spot.part) s.own o (Returns (given.Value v) at) (subst (λ (g : Given). EndsWith o (Returns g at)) is ends) v (λ names. refl) n below),
        ))
        (return-is s.turns))
