-- What comes behind the left and the right side of a par.
use Rattle.std.proofs.Common.{◌≡◌, ◌∙◌, ℕ, ◌+◌, ◌≤◌, ◌/◌, ◌^◌, List, [], Option, Some, None, refl, sym, ap, subst, arith}
use Rattle.std.specs.Prelude.{ℤ}
use Rattle.perm_tree.specs.UnitTables.{Tables}
use Rattle.perm_meaning.specs.declared.eval.frames.Final as ending
use Rattle.perm_meaning.specs.declared.eval.frames.Final.TheVariants as finals
use Rattle.perm_meaning.specs.declared.eval.frames.Frame.TheVariants as frames
use Rattle.perm_meaning.specs.declared.eval.frames.Parent.{Parent}
use Rattle.perm_meaning.specs.declared.eval.own.Own.{Own}
use Rattle.perm_meaning.specs.declared.eval.parts.Part.TheVariants as parts
use Rattle.perm_meaning.specs.declared.eval.state.Fate.{Fate}
use Rattle.perm_meaning.specs.declared.eval.state.Fate.TheVariants as fates
use Rattle.perm_meaning.specs.declared.eval.state.State.{State}
use Rattle.perm_meaning.specs.declared.eval.values.Value.{Value}
use Rattle.perm_meaning.specs.Evaluator.Control.{entered}
use Rattle.perm_meaning.specs.Custody.{merged, writes_l, writes_r}
use Rattle.perm_meaning.specs.Evaluator.Frames.{final_by, turns_left}
use Rattle.perm_meaning.specs.Evaluator.Joins.{end_of_par, IsJoined}
use Rattle.perm_meaning.specs.Machine.{turns_of, Failed, Fine, GaveBack}
use Rattle.perm_meaning.specs.Evaluator.Measure.{waiting_turns}
use Rattle.perm_meaning.specs.NamedHeap.{Final, Held}
use Rattle.perm_meaning.specs.Evaluator.NumberedValues.{all_by, Names}
use Rattle.perm_meaning.specs.Evaluator.Runs.{below_frame, FinalBelow, IsNext}
use Rattle.perm_meaning.specs.Evaluator.States.{final_of, joined_at, joined_fate, right_at, side_of, BeginsRight, IsEnd}
use Rattle.perm_meaning.specs.Evaluator.Ties.{AllBelow, AreSame}
use Rattle.perm_meaning.specs.Evaluator.Writes.{par_at}
use Rattle.perm_meaning.proofs.Leads.{none-some, some-inj}
use Rattle.perm_meaning.proofs.Evaluator.Measure.{final-turns, join-less, right-less}
use Rattle.perm_meaning.proofs.Evaluator.Runs.Behind.{follows-means, past-stuck}
use Rattle.perm_meaning.proofs.Evaluator.States.{left-follows, left-sticks, right-follows, right-sticks}
use Rattle.perm_meaning.proofs.Evaluator.Ties.Below.{all-below, all-same}
use Rattle.perm_meaning.proofs.Evaluator.Unfolding.Same.{join-turns}

-- ---------- ends of sides ----------
-- the variables of a side that ends refer to the objects to which those of its branch do
final-below : (n : ℕ) (s : State) (x : Fate) (f : ending.Final) → AllBelow n s.own.vars → final_of s x ≡ Some f → FinalBelow n f
final-below n s fates.Closes f below e = subst (FinalBelow n) (some-inj e) below
final-below n s (fates.Fails k) f below e = subst (FinalBelow n) (some-inj e) tt
final-below n s fates.Goes f below e = none-some e
final-below n s (fates.Gives v y) f below e = none-some e
final-below n s (fates.Returns v) f below e = none-some e
final-below n s fates.Full f below e = none-some e
final-below n s fates.Sticks f below e = none-some e

-- names of other objects make no difference to it
final-same : (n : ℕ) (a b : Names) → AreSame n a b → (f : ending.Final) → FinalBelow n f → final_by a f ≡ final_by b f
final-same n a b same (finals.Fine vs t p) below = ap (λ (ws : List Held). Fine ws t p) (all-same n a b same vs below)
final-same n a b same (finals.Failed e t p) below = refl

-- the turns that it leaves
final-leaves : (names : Names) (f : ending.Final) → turns_of (final_by names f) ≡ turns_left f
final-leaves names (finals.Fine vs t p) = refl
final-leaves names (finals.Failed e t p) = refl

-- the variables of a branch that has ended well
abbrev vars_of : Final → List Held
vars_of (Fine vs t p) = vs
vars_of (GaveBack v t p) = []
vars_of (Failed e t p) = []

module _ (u : Tables) (at : ℕ) (parent : Own) (left right end : ending.Final) (joins : IsJoined u at parent left right end) where
  -- the turns of both sides come back
  joined-turns : turns_left end ≡ turns_left left + turns_left right
  joined-turns =
      let names : Names = λ r. record { by = []; count = 0 } in
      let b = par_at u parent.«method» at in
      sym (final-leaves names end)
      ∙ ap turns_of (joins names)
      ∙ join-turns (merged (writes_l b) (writes_r b)) (all_by names parent.vars) parent.printed (final_by names left) (final_by names right)
      ∙ (λ i. final-leaves names left i + final-leaves names right i)

  -- the variables behind the par refer to the objects to which those of the parent and of the sides do
  joined-below : (n : ℕ) (vs : List (Option Value)) (t : ℕ) (out : List ℤ) → end ≡ finals.Fine vs t out → AllBelow n parent.vars → FinalBelow n left → FinalBelow n right → AllBelow n vs
  joined-below n vs t out e own l r =
      let is : (names : Names) → all_by names vs ≡ vars_of (end_of_par (par_at u parent.«method» at) (all_by names parent.vars) parent.printed (final_by names left) (final_by names right)) =
      λ names. ap (λ (f : ending.Final). vars_of (final_by names f)) (sym e) ∙ ap vars_of (joins names) in
      all-below n vs
      (λ a b same. is a
      ∙ (λ i. vars_of (end_of_par (par_at u parent.«method» at) (all-same n a b same parent.vars own i) parent.printed (final-same n a b same left l i) (final-same n a b same right r i)))
      ∙ sym (is b))

-- ---------- behind a left side ----------
module _ (u : Tables) (p : Parent) (old : State) (x : Fate) (end : IsEnd x) where
  -- the right side begins
  left-next : (left : ending.Final) → final_of old x ≡ Some left → IsNext u (below_frame (frames.Left p) old) x (right_at p left old) fates.Goes
  left-next left e = record {
    means = λ r. follows-means u (frames.Left p) old x end (side_of p.own) (p.turns / 2) (entered (parts.Second p.stmt) (frames.Right p left) old.control) fates.Goes r (left-follows u p old x left e)
        (λ b. record { vars = b.frames.0; frames = ((b.frames.0, final-below _ old x left b.vars e), b.frames.1); value = tt });
    small = λ small. record {
      turns = halved (p.turns / 2) (turns_left left) old.turns (waiting_turns old.control.frames) (2 ^ 40) (final-turns old x left e) small.turns;
      limit = small.limit;
      parents = small.parents;
    };
    less = right-less old p left x (final-turns old x left e);
  }
    where
      halved : (h l t n all : ℕ) → l ≡ t → t + (h + n) ≤ all → h + (l + n) ≤ all
      halved h l t n all same le = omega (arith, same, le)

  -- or nothing is meant
  pub begins-next : (new : State) (y : Fate) → BeginsRight p old (final_of old x) new y → IsNext u (below_frame (frames.Left p) old) x new y
  begins-next new y = go (final_of old x) refl
    where
      go : (o : Option ending.Final) → final_of old x ≡ o → BeginsRight p old o new y → IsNext u (below_frame (frames.Left p) old) x new y
      go None e (sticks, same) =
          subst (λ (y : Fate). IsNext u (below_frame (frames.Left p) old) x new y) (sym sticks)
          (subst (λ (s : State). IsNext u (below_frame (frames.Left p) old) x s fates.Sticks) (sym same)
          (past-stuck u (frames.Left p) old x end new.own old.control.spot (left-sticks u p old (record old { own = new.own }) x end e)))
      go (Some left) e (goes, same) =
          subst (λ (y : Fate). IsNext u (below_frame (frames.Left p) old) x new y) (sym goes)
          (subst (λ (s : State). IsNext u (below_frame (frames.Left p) old) x s fates.Goes) (sym same) (left-next left e))

-- ---------- behind a right side ----------
-- the parent's own printed numbers make no difference behind the par
pub joined-same : (p : Parent) (own : Own) (end : ending.Final) (s : State) → own ≡ record p.own { printed = own.printed } → joined_at (record p { own = own }) end s ≡ joined_at p end s
joined-same p own (finals.Fine vs t out) s same = ap (λ (o : Own). record s { own = record o { vars = vs; printed = out }; turns = t; control = record s.control { spot = p.rest } }) same
joined-same p own (finals.Failed e t out) s same = ap (λ (o : Own). record s { own = record o { printed = out }; turns = t }) same

module _ (u : Tables) (p : Parent) (left : ending.Final) (old : State) (x : Fate) (end : IsEnd x) where
  -- an end that is none of a side is stuck
  pub right-stuck-next : (own : Own) → final_of old x ≡ None → IsNext u (below_frame (frames.Right p left) old) x (record old { own = own }) fates.Sticks
  right-stuck-next own e = past-stuck u (frames.Right p left) old x end own old.control.spot (right-sticks u p left old x (record old { own = own }) end e)

  module _ (right : ending.Final) (own : Own) (ends : final_of old x ≡ Some right) where
    -- the turns of both sides come back
    back : (f : ending.Final) → IsJoined u p.stmt p.own left right f → turns_left f ≡ turns_left left + old.turns
    back f joins = joined-turns u p.stmt p.own left right f joins ∙ ap (λ n. turns_left left + n) (final-turns old x right ends)

    -- they are as many as before
    back-small : (f : ending.Final) → IsJoined u p.stmt p.own left right f → old.turns + (turns_left left + waiting_turns old.control.frames) ≤ 2 ^ 40 → turns_left f + waiting_turns old.control.frames ≤ 2 ^ 40
    back-small f joins le = as-many (turns_left f) (turns_left left) old.turns (waiting_turns old.control.frames) (2 ^ 40) (back f joins) le
      where
        as-many : (k l t n all : ℕ) → k ≡ l + t → t + (l + n) ≤ all → k + n ≤ all
        as-many k l t n all same le = omega (arith, same, le)

    -- the branch goes on behind the par, or fails
    pub join-next : (f : ending.Final) → IsJoined u p.stmt p.own left right f → IsNext u (below_frame (frames.Right p left) old) x (joined_at p f (record old { own = own })) (joined_fate f)
    join-next (finals.Fine vs t out) joins = record {
      means = λ r. follows-means u (frames.Right p left) old x end (record p.own { vars = vs; printed = out }) t (record old.control { spot = p.rest }) fates.Goes r
          (right-follows u p left old x right (finals.Fine vs t out) ends joins own)
          (λ b. record {
            vars = joined-below u p.stmt p.own left right (finals.Fine vs t out) joins _ vs t out refl b.frames.0.0 b.frames.0.1 (final-below _ old x right b.vars ends);
            frames = b.frames.1;
            value = tt;
          });
      small = λ small. record { turns = back-small (finals.Fine vs t out) joins small.turns; limit = small.limit; parents = small.parents.1 };
      less = join-less (record old { own = own }) p left (finals.Fine vs t out) x (back (finals.Fine vs t out) joins);
    }
    join-next (finals.Failed e t out) joins = record {
      means = λ r. follows-means u (frames.Right p left) old x end (record p.own { printed = out }) t old.control (fates.Fails e) r (right-follows u p left old x right (finals.Failed e t out) ends joins own)
          (λ b. record { vars = b.frames.0.0; frames = b.frames.1; value = tt });
      small = λ small. record { turns = back-small (finals.Failed e t out) joins small.turns; limit = small.limit; parents = small.parents.1 };
      less = join-less (record old { own = own }) p left (finals.Failed e t out) x (back (finals.Failed e t out) joins);
    }
