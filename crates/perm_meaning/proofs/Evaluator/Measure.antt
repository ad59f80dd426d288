-- Each step leaves less of a run.
use Rattle.std.proofs.Common.{◌≡◌, ℕ, suc, ◌+◌, ◌-◌, ◌*◌, ◌/◌, ◌<◌, ◌≤◌, true, false, Option, Some, None, sym, ap, arith}
use Rattle.perm_tree.specs.declared.ast.Span.{Span}
use Rattle.perm_meaning.specs.declared.eval.control.Tested.{Tested}
use Rattle.perm_meaning.specs.declared.eval.control.Tested.TheVariants as tests
use Rattle.perm_meaning.specs.declared.eval.frames.Final as ending
use Rattle.perm_meaning.specs.declared.eval.frames.Final.TheVariants as finals
use Rattle.perm_meaning.specs.declared.eval.frames.Frame.{Frame}
use Rattle.perm_meaning.specs.declared.eval.frames.Frame.TheVariants as frames
use Rattle.perm_meaning.specs.declared.eval.frames.Parent.{Parent}
use Rattle.perm_meaning.specs.declared.eval.frames.Spot.{Spot}
use Rattle.perm_meaning.specs.declared.eval.own.Own.{Own}
use Rattle.perm_meaning.specs.declared.eval.state.Fate.{Fate}
use Rattle.perm_meaning.specs.declared.eval.state.Fate.TheVariants as fates
use Rattle.perm_meaning.specs.declared.eval.state.State.{State}
use Rattle.perm_meaning.specs.Evaluator.Control.{if_control, recover_control, while_control}
use Rattle.perm_meaning.specs.Evaluator.Frames.{turns_left}
use Rattle.perm_meaning.specs.Evaluator.Measure.{fate_weight, frame_turns, frame_weight, left_of_run, left_with, waiting_ends, waiting_turns}
use Rattle.perm_meaning.specs.Evaluator.States.{final_of, joined_at, joined_fate, right_at, split_at, test_fate}

-- ---------- sums ----------
-- a turn less outweighs a frame more and any fate
turn-less : (t n e w f : ℕ) → w ≤ 4 → f ≤ 1 → 8 * (t + (0 + n)) + ((w + e) + f) < 8 * (suc t + n) + (e + 1)
turn-less t n e w f le lt = omega (arith, le, lt)

-- a turn less alone
turn-spent : (t n e f : ℕ) → f ≤ 1 → 8 * (t + n) + (e + f) < 8 * (suc t + n) + (e + 1)
turn-spent t n e f lt = omega (arith, lt)

-- ---------- turns ----------
-- an `if` leaves less
pub if-less : (s : State) (t i : ℕ) (q : Tested) (at : Span) → left_of_run (record s { turns = t; control = if_control i q s.control }) (test_fate at q) < left_of_run (record s { turns = suc t }) fates.Goes
if-less s t i (tests.Decides true) at = turn-less t (waiting_turns s.control.frames) (waiting_ends s.control.frames) 2 1 (omega arith) (omega arith)
if-less s t i (tests.Decides false) at = turn-less t (waiting_turns s.control.frames) (waiting_ends s.control.frames) 2 1 (omega arith) (omega arith)
if-less s t i (tests.Halts k) at = turn-spent t (waiting_turns s.control.frames) (waiting_ends s.control.frames) 0 (omega arith)
if-less s t i tests.Sticks at = turn-spent t (waiting_turns s.control.frames) (waiting_ends s.control.frames) 0 (omega arith)

-- so does a `while`
pub while-less : (s : State) (t i : ℕ) (q : Tested) (at : Span) → left_of_run (record s { turns = t; control = while_control i q s.control }) (test_fate at q) < left_of_run (record s { turns = suc t }) fates.Goes
while-less s t i (tests.Decides true) at = turn-less t (waiting_turns s.control.frames) (waiting_ends s.control.frames) 2 1 (omega arith) (omega arith)
while-less s t i (tests.Decides false) at = turn-spent t (waiting_turns s.control.frames) (waiting_ends s.control.frames) 1 (omega arith)
while-less s t i (tests.Halts k) at = turn-spent t (waiting_turns s.control.frames) (waiting_ends s.control.frames) 0 (omega arith)
while-less s t i tests.Sticks at = turn-spent t (waiting_turns s.control.frames) (waiting_ends s.control.frames) 0 (omega arith)

-- so does a recover block
pub recover-less : (s : State) (t i : ℕ) → left_of_run (record s { turns = t; control = recover_control i s.control }) fates.Goes < left_of_run (record s { turns = suc t }) fates.Goes
recover-less s t i = turn-less t (waiting_turns s.control.frames) (waiting_ends s.control.frames) 2 1 (omega arith) (omega arith)

-- the turns of both sides are those of the par
halves : (t : ℕ) → (t - t / 2) + t / 2 ≡ t
halves t = omega arith

-- so does a par
pub par-less : (s : State) (t i : ℕ) → left_of_run (split_at i (record s { turns = t })) fates.Goes < left_of_run (record s { turns = suc t }) fates.Goes
par-less s t i = par-sum t (t / 2) (waiting_turns s.control.frames) (waiting_ends s.control.frames) (halves t)
  where
    par-sum : (t h n e : ℕ) → (t - h) + h ≡ t → 8 * ((t - h) + (h + n)) + ((4 + e) + 1) < 8 * (suc t + n) + (e + 1)
    par-sum t h n e q = omega (arith, q)

-- a statement with no turn left fails, and any other end of a part does as well
pub end-less : (s : State) (f : Fate) → fate_weight f ≡ 0 → left_of_run s f < left_of_run s fates.Goes
end-less s f e = omega (arith, e)

-- ---------- ends ----------
-- every frame has ends to take
some-ends : (f : Frame) → 2 ≤ frame_weight f
some-ends (frames.Left p) = omega arith
some-ends (frames.Block p rest) = omega arith
some-ends (frames.Recover p rest) = omega arith
some-ends (frames.Call c) = omega arith
some-ends (frames.Right p left) = omega arith

-- a fate has one at most
one-end : (f : Fate) → fate_weight f ≤ 1
one-end fates.Goes = omega arith
one-end fates.Closes = omega arith
one-end (fates.Gives v x) = omega arith
one-end (fates.Returns v) = omega arith
one-end (fates.Fails e) = omega arith
one-end fates.Full = omega arith
one-end fates.Sticks = omega arith

-- less is left behind a frame where the turns are the same
pub frame-less : (s : State) (f : Frame) (own : Own) (spot : Spot) (x y : Fate) → left_of_run (record s { own = own; control = record s.control { spot = spot } }) y < left_with f s x
frame-less s f own spot x y = sum s.turns (frame_turns f) (waiting_turns s.control.frames) (frame_weight f) (waiting_ends s.control.frames) (fate_weight x) (fate_weight y) (some-ends f) (one-end y)
  where
    sum : (t d n w e a b : ℕ) → 2 ≤ w → b ≤ 1 → 8 * (t + n) + (e + b) < 8 * (t + (d + n)) + ((w + e) + a)
    sum t d n w e a b two one = omega (arith, two, one)

-- where the right side of a par begins, at the turns that the left one has left
pub right-less : (s : State) (p : Parent) (left : ending.Final) (f : Fate) → turns_left left ≡ s.turns → left_of_run (right_at p left s) fates.Goes < left_with (frames.Left p) s f
right-less s p left f e = omega (arith, e)

-- an end of a side leaves the turns of its state
pub final-turns : (s : State) (f : Fate) (x : ending.Final) → final_of s f ≡ Some x → turns_left x ≡ s.turns
final-turns s fates.Closes x e = sym (ap (λ (o : Option ending.Final). turns_if s.turns o) e)
  where
    turns_if : ℕ → Option ending.Final → ℕ
    turns_if d None = d
    turns_if d (Some x) = turns_left x
final-turns s (fates.Fails k) x e = sym (ap (λ (o : Option ending.Final). turns_if s.turns o) e)
  where
    turns_if : ℕ → Option ending.Final → ℕ
    turns_if d None = d
    turns_if d (Some x) = turns_left x
final-turns s fates.Goes x e = absurd (cc)
final-turns s (fates.Gives v y) x e = absurd (cc)
final-turns s (fates.Returns v) x e = absurd (cc)
final-turns s fates.Full x e = absurd (cc)
final-turns s fates.Sticks x e = absurd (cc)

-- behind a par, whose sides' turns come back
pub join-less : (s : State) (p : Parent) (left end : ending.Final) (f : Fate) → turns_left end ≡ turns_left left + s.turns → left_of_run (joined_at p end s) (joined_fate end) < left_with (frames.Right p left) s f
join-less s p left (finals.Fine vs t out) f e = omega (arith, e)
join-less s p left (finals.Failed k t out) f e = omega (arith, e)
