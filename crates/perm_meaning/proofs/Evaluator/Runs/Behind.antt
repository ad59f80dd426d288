-- What comes behind code that has ended, from one whole state to the next.
use Rattle.std.proofs.Common.{◌≡◌, ℕ, ◌+◌, ◌≤◌, ◌^◌, List, ◌∷◌, length, subst, arith}
use Rattle.perm_tree.specs.UnitTables.{Tables}
use Rattle.perm_meaning.specs.declared.eval.control.Control.{Control}
use Rattle.perm_meaning.specs.declared.eval.frames.Frame.{Frame}
use Rattle.perm_meaning.specs.declared.eval.frames.Frame.TheVariants as frames
use Rattle.perm_meaning.specs.declared.eval.frames.Spot.{Spot}
use Rattle.perm_meaning.specs.declared.eval.own.Own.{Own}
use Rattle.perm_meaning.specs.declared.eval.state.Fate.{Fate}
use Rattle.perm_meaning.specs.declared.eval.state.Fate.TheVariants as fates
use Rattle.perm_meaning.specs.declared.eval.state.State.{State}
use Rattle.perm_meaning.specs.Meaning.{Result, Stuck}
use Rattle.perm_meaning.specs.Evaluator.Measure.{frame_turns, waiting_turns}
use Rattle.perm_meaning.specs.Names.{Mark}
use Rattle.perm_meaning.specs.NamedHeap.{Heap}
use Rattle.perm_meaning.specs.Evaluator.NewNames.{AreNew}
use Rattle.perm_meaning.specs.Evaluator.NumberedValues.{Names}
use Rattle.perm_meaning.specs.Evaluator.Frames.{AmountsTo}
use Rattle.perm_meaning.specs.Evaluator.Runs.{below_frame, AreShallow, FateBelow, FramesBelow, IsNext, IsSmall, Means, Stands}
use Rattle.perm_meaning.specs.Evaluator.States.{comes_to, Follows, IsEnd, Tied}
use Rattle.perm_meaning.specs.Steps.{within}
use Rattle.perm_meaning.specs.Evaluator.Ties.{AllBelow, AreTied}
use Rattle.perm_meaning.specs.Evaluator.Waits.{Waiting}
use Rattle.perm_meaning.proofs.Evaluator.FrameEnds.{something}
use Rattle.perm_meaning.proofs.Evaluator.Measure.{frame-less}

-- ---------- what a state means ----------
-- a branch, what waits for it, and the value that its code gives refer to the first n objects
pub record AreBelow (n : ℕ) (s : State) (f : Fate) : Type 0 where
  pub vars : AllBelow n s.own.vars
  pub frames : FramesBelow n s.control.frames
  pub value : FateBelow n f

-- an end of code means what its state stands for
pub end-stands : (u : Tables) (s : State) (f : Fate) (r : Result) → IsEnd f → Means u s f r → Stands u s f r
end-stands u s fates.Goes r end m = absurd end
end-stands u s fates.Full r end m = absurd end
end-stands u s fates.Sticks r end m = absurd end
end-stands u s f r end m = m

-- a state whose fate is tied to a result means it, where its objects are tied and all names to come are new
pub tied-means : (u : Tables) (names : Names) (mark : Mark) (h : Heap) (ws : List Waiting) (r : Result) (s : State) (f : Fate) → AreTied names s.heap h → AreBelow (length s.heap.objects) s f → AreNew h.objects mark ws
    → Tied u (within s.heap.limit) names mark h s f ws r → Means u s f r
tied-means u names mark h ws r s fates.Full objects below new tied = tied
tied-means u names mark h ws r s fates.Sticks objects below new tied = tied
tied-means u names mark h ws r s f objects below new tied =
    record { names = names; mark = mark; heap = h; waits = ws; objects = objects; vars = below.vars; frames = below.frames; value = below.value; new = new; comes = tied }

-- ---------- sizes ----------
-- the parents that wait behind the innermost frame are shallow too
others-shallow : (f : Frame) (fs : List Frame) → AreShallow (f ∷ fs) → AreShallow fs
others-shallow (frames.Block p rest) fs all = all
others-shallow (frames.Recover p rest) fs all = all
others-shallow (frames.Call c) fs all = all
others-shallow (frames.Left p) fs all = all.1
others-shallow (frames.Right p left) fs all = all.1

-- ---------- behind a frame ----------
module _ (u : Tables) (f : Frame) (old : State) (x : Fate) (end : IsEnd x) where
  -- behind the frame the state stands for the same
  led : (new : State) (y : Fate) (r : Result) → Follows u f old x new y → (st : Stands u (below_frame f old) x r)
      → (next : Mark) × (waits : List Waiting) × AreNew st.heap.objects next waits × Tied u (within old.heap.limit) st.names next st.heap new y waits r
  led new y r follows st =
      let is = something u (within old.heap.limit) st.names st.comes.stand in
      let fits = within old.heap.limit in
      follows fits st.names st.mark st.heap is.0 is.1 r (subst (λ ws. AreNew st.heap.objects st.mark ws) is.2 st.new)
      (subst (λ ws. AmountsTo u fits st.names old.own.«method» (f ∷ old.control.frames) ws (comes_to u fits st.names st.mark st.heap old x) r) is.2 st.comes)

  -- what nothing follows of is stuck
  pub follows-stuck : (new : State) (r : Result) → Follows u f old x new fates.Sticks → Means u (below_frame f old) x r → Stuck ≡ r
  follows-stuck new r follows m = (led new fates.Sticks r follows (end-stands u (below_frame f old) x r end m)).3

  module _ (own : Own) (turns : ℕ) (control : Control) where
    -- the state behind the frame, with the same heap
    abbrev pub beyond : State
    beyond = record old { own = own; turns = turns; control = control }

    -- it means what follows
    pub follows-means : (y : Fate) (r : Result) → Follows u f old x beyond y → (AreBelow (length old.heap.objects) (below_frame f old) x → AreBelow (length old.heap.objects) beyond y) → Means u (below_frame f old) x r → Means u beyond y r
    follows-means y r follows kept m =
        let st = end-stands u (below_frame f old) x r end m in
        let is = led beyond y r follows st in
        tied-means u st.names is.0 st.heap is.1 r beyond y st.objects (kept (record { vars = st.vars; frames = st.frames; value = st.value })) is.2 is.3

  module _ (own : Own) (spot : Spot) where
    -- the state behind the frame, with the same heap and the same turns
    abbrev pub past : State
    past = record old { own = own; control = record old.control { spot = spot } }

    -- it is as small
    past-small : IsSmall (below_frame f old) → IsSmall past
    past-small small = record { turns = fewer old.turns (frame_turns f) (waiting_turns old.control.frames) (2 ^ 40) small.turns; limit = small.limit; parents = others-shallow f old.control.frames small.parents }
      where
        fewer : (t d n all : ℕ) → t + (d + n) ≤ all → t + n ≤ all
        fewer t d n all le = omega (arith, le)

    -- it comes next where it is what follows
    pub past-next : (y : Fate) → Follows u f old x past y → (AreBelow (length old.heap.objects) (below_frame f old) x → AreBelow (length old.heap.objects) past y) → IsNext u (below_frame f old) x past y
    past-next y follows kept =
        record { means = λ r. follows-means own old.turns (record old.control { spot = spot }) y r follows kept; small = past-small; less = frame-less old f own spot x y }

    -- so does what nothing follows of
    pub past-stuck : Follows u f old x past fates.Sticks → IsNext u (below_frame f old) x past fates.Sticks
    past-stuck follows = record { means = λ r. follows-stuck past r follows; small = past-small; less = frame-less old f own spot x fates.Sticks }
