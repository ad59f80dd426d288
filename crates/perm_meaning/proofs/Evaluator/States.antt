-- What becomes of a state, as the meaning says.
use Rattle.std.proofs.Common.{◌≡◌, ℕ, ◌-◌, Bool, List, ◌∷◌, Option, Some, None, refl, sym, ap, subst}
use Rattle.perm_tree.specs.UnitTables.{Tables}
use Rattle.perm_meaning.specs.declared.eval.frames.Final as ending
use Rattle.perm_meaning.specs.declared.eval.frames.Final.TheVariants as finals
use Rattle.perm_meaning.specs.Evaluator.Waits.{Waiting}
use Rattle.perm_meaning.specs.declared.eval.frames.Frame.TheVariants as frames
use Rattle.perm_meaning.specs.declared.eval.frames.Parent.{Parent}
use Rattle.perm_meaning.specs.declared.eval.own.Own.{Own}
use Rattle.perm_meaning.specs.declared.eval.state.Fate.{Fate}
use Rattle.perm_meaning.specs.declared.eval.state.Fate.TheVariants as fates
use Rattle.perm_meaning.specs.declared.eval.state.State.{State}
use Rattle.perm_meaning.specs.declared.eval.frames.Caller.{Caller}
use Rattle.perm_meaning.specs.declared.eval.frames.Failure.{Failure}
use Rattle.perm_meaning.specs.declared.eval.frames.Spot.{Spot}
use Rattle.perm_meaning.specs.declared.eval.parts.Part.{Part}
use Rattle.perm_meaning.specs.declared.eval.values.Value.{Value}
use Rattle.perm_tree.specs.CodeOf.{code_of}
use Rattle.perm_meaning.specs.Evaluator.SimpleStatements.{own_by}
use Rattle.perm_meaning.specs.Objects.{Objects}
use Rattle.perm_meaning.specs.Evaluator.WholeCode.{whole}
use Rattle.perm_meaning.specs.Evaluator.Frames.{code_at, failure_by, AmountsTo, WaitsForCall, WaitsForRight, final_by, WaitsForLeft}
use Rattle.perm_meaning.specs.Meaning.{Result, Stuck, on_final, set_vars}
use Rattle.perm_meaning.specs.Names.{Mark, Name, OnRight, after_par, side_mark}
use Rattle.perm_meaning.specs.NamedHeap.{Final, Heap, Held}
use Rattle.perm_meaning.specs.Evaluator.Joins.{IsJoined}
use Rattle.perm_meaning.specs.Evaluator.NewNames.{AreNew}
use Rattle.perm_meaning.specs.Evaluator.NumberedValues.{held_by, Names}
use Rattle.perm_meaning.specs.Evaluator.States.{behind_block, behind_call, comes_to, final_of, joined_at, joined_fate, left_call, right_at, Clears, ClearsAndTakes, Follows, IsEnd, Takes}
use Rattle.perm_meaning.specs.Evaluator.Ties.{moment_by}
use Rattle.perm_meaning.proofs.Evaluator.FrameEnds.{innermost, block-closes, block-fails, call-fails, call-gives, join-fails, join-goes, left-ends, left-stuck, recover-fails, recover-gives, right-stuck}
use Rattle.perm_meaning.proofs.Leads.{some-inj, none-some}

module _ (u : Tables) (fits : ℕ → Bool) (names : Names) (mark : Mark) (h : Heap) (s : State) where
  -- an end of a side's code is this end of the side
  pub final-is : (f : Fate) (x : ending.Final) → final_of s f ≡ Some x → (go : Final → Heap → Result) → on_final (comes_to u fits names mark h s f) go ≡ go (final_by names x) h
  final-is fates.Closes x e go = ap (λ x. go (final_by names x) h) (some-inj e)
  final-is (fates.Fails k) x e go = ap (λ x. go (final_by names x) h) (some-inj e)
  final-is fates.Goes x e go = none-some e
  final-is (fates.Gives v y) x e go = none-some e
  final-is (fates.Returns v) x e go = none-some e
  final-is fates.Full x e go = none-some e
  final-is fates.Sticks x e go = none-some e

  -- or nothing is meant of it
  pub final-none : (f : Fate) → IsEnd f → final_of s f ≡ None → (go : Final → Heap → Result) → on_final (comes_to u fits names mark h s f) go ≡ Stuck
  final-none fates.Closes end e go = none-some (sym e)
  final-none (fates.Fails k) end e go = none-some (sym e)
  final-none fates.Goes end e go = absurd end
  final-none (fates.Gives v y) end e go = refl
  final-none (fates.Returns v) end e go = refl
  final-none fates.Full end e go = absurd end
  final-none fates.Sticks end e go = absurd end

-- the right side of a par runs behind the left one, well or not
pub left-follows : (u : Tables) (p : Parent) (old : State) (f : Fate) (x : ending.Final) → final_of old f ≡ Some x → Follows u (frames.Left p) old f (right_at p x old) fates.Goes
left-follows u p old f x e fits names mark h w ws r new ends =
    let st : WaitsForLeft u names p w = innermost u fits names ends.stand in
    let is = subst (λ w. AreNew h.objects mark (w ∷ ws)) st.is new in (
      side_mark OnRight st.mark,
      _,
      (is.2, refl, is.3),
      left-ends u fits names old.own.«method» old.control.frames w ws r p st (comes_to u fits names mark h old f) x h (final-is u fits names mark h old f x e) ends,
    )

-- what is no end of a side is stuck
pub left-sticks : (u : Tables) (p : Parent) (old new : State) (f : Fate) → IsEnd f → final_of old f ≡ None → Follows u (frames.Left p) old f new fates.Sticks
left-sticks u p old new f end e fits names mark h w ws r news ends =
    (mark, w ∷ ws, news, left-stuck u fits names old.own.«method» old.control.frames w ws r p (comes_to u fits names mark h old f) (final-none u fits names mark h old f end e) ends)

-- ---------- behind a par ----------
module _ (u : Tables) (p : Parent) (left : ending.Final) (old : State) (f : Fate) where
  -- a par whose sides have joined goes on or fails
  pub right-follows : (right end : ending.Final) → final_of old f ≡ Some right → IsJoined u p.stmt p.own left right end → (own : Own) → Follows u (frames.Right p left) old f (joined_at p end (record old { own = own })) (joined_fate end)
  right-follows right (finals.Fine vs t out) e joins own fits names mark h w ws r new ends =
      let st : WaitsForRight u names p left w = innermost u fits names ends.stand in
      let is = subst (λ w. AreNew h.objects mark (w ∷ ws)) st.is new in (
        after_par st.mark,
        ws,
        is.2,
        join-goes u fits names old.own.«method» old.control.frames w ws r p left st (comes_to u fits names mark h old f) (final_by names right) h (final-is u fits names mark h old f right e) ends vs t out (sym (joins names)),
      )
  right-follows right (finals.Failed k t out) e joins own fits names mark h w ws r new ends =
      let st : WaitsForRight u names p left w = innermost u fits names ends.stand in
      let is = subst (λ w. AreNew h.objects mark (w ∷ ws)) st.is new in (
        after_par st.mark,
        ws,
        is.2,
        join-fails u fits names old.own.«method» old.control.frames w ws r p left st (comes_to u fits names mark h old f) (final_by names right) h (final-is u fits names mark h old f right e) ends k t out (sym (joins names)),
      )

  -- what is no end of a side is stuck
  pub right-sticks : (new : State) → IsEnd f → final_of old f ≡ None → Follows u (frames.Right p left) old f new fates.Sticks
  right-sticks new end e fits names mark h w ws r news ends =
      (mark, w ∷ ws, news, right-stuck u fits names old.own.«method» old.control.frames w ws r p left (comes_to u fits names mark h old f) (final-none u fits names mark h old f end e) ends)

-- ---------- behind blocks ----------
module _ (u : Tables) (part : Part) (rest : Spot) (old : State) where
  -- the code goes on behind a block
  pub block-follows : (vs : List (Option Value)) → Clears u part old.own vs → Follows u (frames.Block part rest) old fates.Closes (behind_block rest vs old) fates.Goes
  block-follows vs clears fits names mark h w ws r new ends =
      let a = block-closes u fits names old.own.«method» old.control.frames w ws r part rest (moment_by names mark h old.turns old.own) ends in (
        mark,
        ws,
        subst (λ w. AreNew h.objects mark (w ∷ ws)) (innermost u fits names ends.stand) new,
        subst (λ (vs : List Held). AmountsTo u fits names old.own.«method» old.control.frames ws (whole (code_of u) fits (code_at u old.own.«method» rest) (set_vars (moment_by names mark h old.turns old.own) vs)) r) (sym (clears names)) a,
      )

  -- a failure leaves it
  pub block-left : (e : Failure) → Follows u (frames.Block part rest) old (fates.Fails e) old (fates.Fails e)
  block-left e fits names mark h w ws r new ends = (
    mark,
    ws,
    subst (λ w. AreNew h.objects mark (w ∷ ws)) (innermost u fits names ends.stand) new,
    block-fails u fits names old.own.«method» old.control.frames w ws r part rest (failure_by e) old.turns old.own.printed h ends,
  )

  -- the code goes on behind a recover block
  pub recover-follows : (v : Value) (x : ℕ) (vs : List (Option Value)) → ClearsAndTakes u part old.own x v vs → Follows u (frames.Recover part rest) old (fates.Gives v x) (behind_block rest vs old) fates.Goes
  recover-follows v x vs takes fits names mark h w ws r new ends =
      let a = recover-gives u fits names old.own.«method» old.control.frames w ws r part rest x (held_by names (Some v)) (moment_by names mark h old.turns old.own) ends in (
        mark,
        ws,
        subst (λ w. AreNew h.objects mark (w ∷ ws)) (innermost u fits names ends.stand) new,
        subst (λ (vs : List Held). AmountsTo u fits names old.own.«method» old.control.frames ws (whole (code_of u) fits (code_at u old.own.«method» rest) (set_vars (moment_by names mark h old.turns old.own) vs)) r) (sym (takes names)) a,
      )

  -- a failure leaves it
  pub recover-left : (e : Failure) → Follows u (frames.Recover part rest) old (fates.Fails e) old (fates.Fails e)
  recover-left e fits names mark h w ws r new ends = (
    mark,
    ws,
    subst (λ w. AreNew h.objects mark (w ∷ ws)) (innermost u fits names ends.stand) new,
    recover-fails u fits names old.own.«method» old.control.frames w ws r part rest (failure_by e) old.turns old.own.printed h ends,
  )

-- ---------- behind calls ----------
module _ (u : Tables) (c : Caller) (old : State) where
  -- what waits for a call has the names of what waits besides
  call-new : (objects : Objects Name) (mark : Mark) (names : Names) (w : Waiting) (ws : List Waiting) → WaitsForCall u names c w → AreNew objects mark (w ∷ ws) → AreNew objects mark ws
  call-new objects mark names w ws st new = subst (λ w. AreNew objects mark (w ∷ ws)) st.is new

  -- the caller goes on with the value
  pub call-follows : (v : Value) (vs : List (Option Value)) → Takes c v vs → Follows u (frames.Call c) old (fates.Returns v) (behind_call c vs old) fates.Goes
  call-follows v vs takes fits names mark h w ws r new ends =
      let a = call-gives u fits names old.own.«method» old.control.frames w ws r c (held_by names (Some v)) (moment_by names mark h old.turns old.own) ends in (
        mark,
        ws,
        call-new h.objects mark names w ws (innermost u fits names ends.stand) new,
        subst
            (λ (vs : List Held). AmountsTo u fits names c.«method» old.control.frames ws
            (whole (code_of u) fits (code_at u c.«method» c.rest) (record { turns = old.turns; own = record (own_by names mark old.own) { vars = vs; routine = c.«method»; depth = old.own.depth - 1 }; heap = h })) r)
            (sym (takes names)) a,
      )

  -- a failure leaves a call
  pub call-left : (e : Failure) → Follows u (frames.Call c) old (fates.Fails e) (left_call c old) (fates.Fails e)
  call-left e fits names mark h w ws r new ends = (
    mark,
    ws,
    call-new h.objects mark names w ws (innermost u fits names ends.stand) new,
    call-fails u fits names old.own.«method» old.control.frames w ws r c (failure_by e) old.turns old.own.printed h ends,
  )
