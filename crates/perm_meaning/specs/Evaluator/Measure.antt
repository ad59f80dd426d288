-- How much of a run is left: the turns, and what waits.
use Rattle.std.specs.Prelude.{ℕ, ◌+◌, ◌*◌, ◌/◌, List, [], ◌∷◌}
use Rattle.perm_meaning.specs.declared.eval.frames.Frame.{Frame}
use Rattle.perm_meaning.specs.declared.eval.frames.Frame.TheVariants as frames
use Rattle.perm_meaning.specs.declared.eval.state.Fate.{Fate}
use Rattle.perm_meaning.specs.declared.eval.state.Fate.TheVariants as fates
use Rattle.perm_meaning.specs.declared.eval.state.State.{State}
use Rattle.perm_meaning.specs.Evaluator.Frames.{turns_left}

-- the turns that wait in a frame: those of a right side that hasn't begun, or those that a left side has left
abbrev pub frame_turns : Frame → ℕ
frame_turns (frames.Left p) = p.turns / 2
frame_turns (frames.Right p left) = turns_left left
frame_turns f = 0

-- the ends that a frame has still to take, twice
abbrev pub frame_weight : Frame → ℕ
frame_weight (frames.Left p) = 4
frame_weight f = 2

-- the turns that wait in some frames
abbrev pub waiting_turns : List Frame → ℕ
waiting_turns [] = 0
waiting_turns (f ∷ fs) = frame_turns f + waiting_turns fs

-- the ends that they have still to take, twice
abbrev pub waiting_ends : List Frame → ℕ
waiting_ends [] = 0
waiting_ends (f ∷ fs) = frame_weight f + waiting_ends fs

-- code that goes on has still to end
abbrev pub fate_weight : Fate → ℕ
fate_weight fates.Goes = 1
fate_weight f = 0

-- all turns that are left of a run
abbrev pub all_turns : State → ℕ
all_turns s = s.turns + waiting_turns s.control.frames

-- what is left of a run
abbrev pub left_of_run : State → Fate → ℕ
left_of_run s f = 8 * all_turns s + (waiting_ends s.control.frames + fate_weight f)

-- the same where this frame is still there
abbrev pub left_with : Frame → State → Fate → ℕ
left_with f s x = 8 * (s.turns + waiting_turns (f ∷ s.control.frames)) + (waiting_ends (f ∷ s.control.frames) + fate_weight x)
