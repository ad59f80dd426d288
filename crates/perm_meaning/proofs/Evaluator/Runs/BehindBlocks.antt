-- What comes behind a block, a recover block and a call.
use Rattle.std.proofs.Common.{◌≡◌, ◌∙◌, ℕ, ◌-◌, Bool, List, ◌∷◌, Option, Some, refl, sym, subst}
use Rattle.perm_tree.specs.UnitTables.{Tables}
use Rattle.perm_meaning.specs.declared.eval.frames.Caller.{Caller}
use Rattle.perm_meaning.specs.declared.eval.frames.Failure.{Failure}
use Rattle.perm_meaning.specs.declared.eval.frames.Frame.{Frame}
use Rattle.perm_meaning.specs.declared.eval.frames.Frame.TheVariants as frames
use Rattle.perm_meaning.specs.declared.eval.frames.Spot.{Spot}
use Rattle.perm_meaning.specs.declared.eval.own.Own.{Own}
use Rattle.perm_meaning.specs.declared.eval.parts.Part.{Part}
use Rattle.perm_meaning.specs.declared.eval.state.Fate.{Fate}
use Rattle.perm_meaning.specs.declared.eval.state.Fate.TheVariants as fates
use Rattle.perm_meaning.specs.declared.eval.state.State.{State}
use Rattle.perm_meaning.specs.declared.eval.values.Value.{Value}
use Rattle.perm_meaning.specs.Expressions.{assign, assign_into, clear_all, tagged}
use Rattle.perm_meaning.specs.Evaluator.Frames.{AmountsTo}
use Rattle.perm_meaning.specs.Meaning.{Result, Stuck}
use Rattle.perm_meaning.specs.Names.{Mark}
use Rattle.perm_meaning.specs.NamedHeap.{Heap}
use Rattle.perm_meaning.specs.Evaluator.NumberedValues.{held_by, Names}
use Rattle.perm_meaning.specs.Evaluator.Parts.{own_in}
use Rattle.perm_meaning.specs.Evaluator.Runs.{below_frame, IsNext}
use Rattle.perm_meaning.specs.Evaluator.States.{comes_to, left_call, Clears, ClearsAndTakes, Follows, IsEnd, Takes}
use Rattle.perm_meaning.specs.Evaluator.Ties.{moment_by, AllBelow, IsBelow}
use Rattle.perm_meaning.specs.Evaluator.Waits.{Waiting}
use Rattle.perm_meaning.proofs.Evaluator.FrameEnds.{block-gave, block-handed, call-closes, call-handed, recover-closes, recover-gave}
use Rattle.perm_meaning.proofs.Evaluator.Runs.Behind.{past-next, past-stuck}
use Rattle.perm_meaning.proofs.Evaluator.States.{block-follows, block-left, call-follows, call-left, recover-follows, recover-left}
use Rattle.perm_meaning.proofs.Evaluator.Ties.Below.{all-below, all-same, slot-same}

-- ---------- references ----------
module _ (n : ℕ) (u : Tables) (part : Part) (old : Own) (vs : List (Option Value)) (below : AllBelow n old.vars) where
  -- variables of which some have lost their values refer to no later object
  cleared-below : Clears u part old vs → AllBelow n vs
  cleared-below clears = all-below n vs (λ a b same. clears a ∙ (λ i. clear_all tagged (all-same n a b same old.vars below i) (own_in u old.«method» part)) ∙ sym (clears b))

  -- nor do they where one has taken a value that doesn't
  taken-below : (x : ℕ) (v : Value) → IsBelow n v → ClearsAndTakes u part old x v vs → AllBelow n vs
  taken-below x v value takes =
      all-below n vs (λ a b same. takes a ∙ (λ i. assign (clear_all tagged (all-same n a b same old.vars below i) (own_in u old.«method» part)) x (slot-same n a b same (Some v) value i)) ∙ sym (takes b))

-- nor do those of a caller that has taken one
back-below : (n : ℕ) (c : Caller) (v : Value) (vs : List (Option Value)) → AllBelow n c.vars → IsBelow n v → Takes c v vs → AllBelow n vs
back-below n c v vs below value takes = all-below n vs (λ a b same. takes a ∙ (λ i. assign_into (all-same n a b same c.vars below i) c.into (slot-same n a b same (Some v) value i)) ∙ sym (takes b))

-- what every run is stuck at follows so
stuck-follows : (u : Tables) (f : Frame) (old new : State) (x : Fate)
    → ((fits : ℕ → Bool) (names : Names) (mark : Mark) (h : Heap) (w : Waiting) (ws : List Waiting) (r : Result) → AmountsTo u fits names old.own.«method» (f ∷ old.control.frames) (w ∷ ws) (comes_to u fits names mark h old x) r → Stuck ≡ r)
    → Follows u f old x new fates.Sticks
stuck-follows u f old new x stuck fits names mark h w ws r news ends = (mark, w ∷ ws, news, stuck fits names mark h w ws r ends)

-- ---------- blocks ----------
module _ (u : Tables) (part : Part) (rest : Spot) (old : State) where
  -- the code goes on behind a block
  pub block-next : (own : Own) → Clears u part old.own own.vars → own ≡ record old.own { vars = own.vars }
      → IsNext u (below_frame (frames.Block part rest) old) fates.Closes (record old { own = own; control = record old.control { spot = rest } }) fates.Goes
  block-next own clears same =
      past-next u (frames.Block part rest) old fates.Closes tt own rest fates.Goes
      (subst (λ (o : Own). Follows u (frames.Block part rest) old fates.Closes (record old { own = o; control = record old.control { spot = rest } }) fates.Goes) (sym same) (block-follows u part rest old own.vars clears))
      (λ b. record { vars = cleared-below _ u part old.own own.vars b.vars clears; frames = b.frames.1; value = tt })

  -- it goes on behind a recover block
  pub recover-next : (v : Value) (x : ℕ) (own : Own) → ClearsAndTakes u part old.own x v own.vars → own ≡ record old.own { vars = own.vars }
      → IsNext u (below_frame (frames.Recover part rest) old) (fates.Gives v x) (record old { own = own; control = record old.control { spot = rest } }) fates.Goes
  recover-next v x own takes same =
      past-next u (frames.Recover part rest) old (fates.Gives v x) tt own rest fates.Goes
      (subst (λ (o : Own). Follows u (frames.Recover part rest) old (fates.Gives v x) (record old { own = o; control = record old.control { spot = rest } }) fates.Goes) (sym same) (recover-follows u part rest old v x own.vars takes))
      (λ b. record { vars = taken-below _ u part old.own own.vars b.vars x v b.value takes; frames = b.frames.1; value = tt })

  -- a failure leaves a block
  pub block-fails-next : (e : Failure) → IsNext u (below_frame (frames.Block part rest) old) (fates.Fails e) old (fates.Fails e)
  block-fails-next e =
      past-next u (frames.Block part rest) old (fates.Fails e) tt old.own old.control.spot (fates.Fails e) (block-left u part rest old e) (λ b. record { vars = b.vars; frames = b.frames.1; value = tt })

  -- and a recover block
  pub recover-fails-next : (e : Failure) → IsNext u (below_frame (frames.Recover part rest) old) (fates.Fails e) old (fates.Fails e)
  recover-fails-next e =
      past-next u (frames.Recover part rest) old (fates.Fails e) tt old.own old.control.spot (fates.Fails e) (recover-left u part rest old e) (λ b. record { vars = b.vars; frames = b.frames.1; value = tt })

  -- any other end of a block is stuck
  block-sticks : (x : Fate) → IsEnd x → (x ≡ fates.Closes → ⊥) → ((e : Failure) → x ≡ fates.Fails e → ⊥) → Follows u (frames.Block part rest) old x old fates.Sticks
  block-sticks fates.Goes end closes fails = absurd end
  block-sticks fates.Full end closes fails = absurd end
  block-sticks fates.Sticks end closes fails = absurd end
  block-sticks fates.Closes end closes fails = absurd (closes refl)
  block-sticks (fates.Fails e) end closes fails = absurd (fails e refl)
  block-sticks (fates.Gives v x) end closes fails =
      stuck-follows u (frames.Block part rest) old old (fates.Gives v x) (λ fits names mark h w ws r. block-handed u fits names old.own.«method» old.control.frames w ws r part rest x (held_by names (Some v)) (moment_by names mark h old.turns old.own))
  block-sticks (fates.Returns v) end closes fails =
      stuck-follows u (frames.Block part rest) old old (fates.Returns v) (λ fits names mark h w ws r. block-gave u fits names old.own.«method» old.control.frames w ws r part rest (held_by names (Some v)) (moment_by names mark h old.turns old.own))

  -- so nothing comes of it
  pub block-stuck-next : (x : Fate) → IsEnd x → (x ≡ fates.Closes → ⊥) → ((e : Failure) → x ≡ fates.Fails e → ⊥) → IsNext u (below_frame (frames.Block part rest) old) x old fates.Sticks
  block-stuck-next x end closes fails = past-stuck u (frames.Block part rest) old x end old.own old.control.spot (block-sticks x end closes fails)

  -- so is any other end of a recover block
  recover-sticks : (x : Fate) → IsEnd x → ((v : Value) (y : ℕ) → x ≡ fates.Gives v y → ⊥) → ((e : Failure) → x ≡ fates.Fails e → ⊥) → Follows u (frames.Recover part rest) old x old fates.Sticks
  recover-sticks fates.Goes end gives fails = absurd end
  recover-sticks fates.Full end gives fails = absurd end
  recover-sticks fates.Sticks end gives fails = absurd end
  recover-sticks (fates.Gives v x) end gives fails = absurd (gives v x refl)
  recover-sticks (fates.Fails e) end gives fails = absurd (fails e refl)
  recover-sticks fates.Closes end gives fails =
      stuck-follows u (frames.Recover part rest) old old fates.Closes (λ fits names mark h w ws r. recover-closes u fits names old.own.«method» old.control.frames w ws r part rest (moment_by names mark h old.turns old.own))
  recover-sticks (fates.Returns v) end gives fails =
      stuck-follows u (frames.Recover part rest) old old (fates.Returns v) (λ fits names mark h w ws r. recover-gave u fits names old.own.«method» old.control.frames w ws r part rest (held_by names (Some v)) (moment_by names mark h old.turns old.own))

  -- so nothing comes of that
  pub recover-stuck-next : (x : Fate) → IsEnd x → ((v : Value) (y : ℕ) → x ≡ fates.Gives v y → ⊥) → ((e : Failure) → x ≡ fates.Fails e → ⊥) → IsNext u (below_frame (frames.Recover part rest) old) x old fates.Sticks
  recover-stuck-next x end gives fails = past-stuck u (frames.Recover part rest) old x end old.own old.control.spot (recover-sticks x end gives fails)

-- ---------- calls ----------
module _ (u : Tables) (c : Caller) (old : State) where
  -- the caller goes on with the value
  pub call-next : (v : Value) (own : Own) → Takes c v own.vars → own ≡ record old.own { vars = own.vars; «method» = c.«method»; depth = old.own.depth - 1 }
      → IsNext u (below_frame (frames.Call c) old) (fates.Returns v) (record old { own = own; control = record old.control { spot = c.rest } }) fates.Goes
  call-next v own takes same =
      past-next u (frames.Call c) old (fates.Returns v) tt own c.rest fates.Goes
      (subst (λ (o : Own). Follows u (frames.Call c) old (fates.Returns v) (record old { own = o; control = record old.control { spot = c.rest } }) fates.Goes) (sym same) (call-follows u c old v own.vars takes))
      (λ b. record { vars = back-below _ c v own.vars b.frames.0 b.value takes; frames = b.frames.1; value = tt })

  -- a failure leaves a call
  pub call-fails-next : (e : Failure) → IsNext u (below_frame (frames.Call c) old) (fates.Fails e) (left_call c old) (fates.Fails e)
  call-fails-next e =
      past-next u (frames.Call c) old (fates.Fails e) tt (record old.own { «method» = c.«method» }) old.control.spot (fates.Fails e) (call-left u c old e) (λ b. record { vars = b.vars; frames = b.frames.1; value = tt })

  -- any other end of a method is stuck
  call-sticks : (x : Fate) → IsEnd x → ((v : Value) → x ≡ fates.Returns v → ⊥) → ((e : Failure) → x ≡ fates.Fails e → ⊥) → Follows u (frames.Call c) old x old fates.Sticks
  call-sticks fates.Goes end returns fails = absurd end
  call-sticks fates.Full end returns fails = absurd end
  call-sticks fates.Sticks end returns fails = absurd end
  call-sticks (fates.Returns v) end returns fails = absurd (returns v refl)
  call-sticks (fates.Fails e) end returns fails = absurd (fails e refl)
  call-sticks fates.Closes end returns fails = stuck-follows u (frames.Call c) old old fates.Closes (λ fits names mark h w ws r. call-closes u fits names old.own.«method» old.control.frames w ws r c (moment_by names mark h old.turns old.own))
  call-sticks (fates.Gives v x) end returns fails =
      stuck-follows u (frames.Call c) old old (fates.Gives v x) (λ fits names mark h w ws r. call-handed u fits names old.own.«method» old.control.frames w ws r c x (held_by names (Some v)) (moment_by names mark h old.turns old.own))

  -- so nothing comes of it
  pub call-stuck-next : (x : Fate) → IsEnd x → ((v : Value) → x ≡ fates.Returns v → ⊥) → ((e : Failure) → x ≡ fates.Fails e → ⊥) → IsNext u (below_frame (frames.Call c) old) x old fates.Sticks
  call-stuck-next x end returns fails = past-stuck u (frames.Call c) old x end old.own old.control.spot (call-sticks x end returns fails)
