-- Where control goes at statements with blocks.
use Rattle.std.specs.Prelude.{◌≡◌, ◌⊎◌, ℕ, suc, true, false, ◌∷◌, Some, None}
use Rattle.perm_meaning.specs.declared.eval.control.Control.{Control}
use Rattle.perm_meaning.specs.declared.eval.control.Tested.{Tested}
use Rattle.perm_meaning.specs.declared.eval.control.Tested.TheVariants as tests
use Rattle.perm_meaning.specs.declared.eval.frames.Frame.{Frame}
use Rattle.perm_meaning.specs.declared.eval.frames.Frame.TheVariants as frames
use Rattle.perm_meaning.specs.declared.eval.frames.Spot.{Spot}
use Rattle.perm_meaning.specs.declared.eval.parts.Part.{Part}
use Rattle.perm_meaning.specs.declared.eval.parts.Part.TheVariants as parts
use Rattle.perm_meaning.specs.Expressions.{tagged}
use Rattle.perm_meaning.specs.NamedHeap.{Held}
use Rattle.perm_meaning.specs.Values.{Eval, Gives, Traps, Mistyped, Truth}

-- ---------- tests ----------
-- what a condition gives decides so, or traps, or is no truth value
abbrev pub TestsAs : Eval Held → Tested → Type 0
TestsAs e (tests.Decides b) = e ≡ Gives (Some (Truth b))
TestsAs e (tests.Halts k) = e ≡ Traps k
TestsAs e tests.Sticks = (e ≡ Mistyped) ⊎ ((v : Held) × (tagged.as_truth v ≡ None) × (e ≡ Gives v))

-- ---------- control ----------
-- where a part begins
abbrev pub start : Part → Spot
start p = record { part = p; at = 0 }

-- behind the statement at a place
abbrev pub behind : Spot → Spot
behind s = record { part = s.part; at = suc s.at }

-- control goes into a part, and this waits for its end
abbrev pub entered : Part → Frame → Control → Control
entered p f c = record { spot = start p; frames = f ∷ c.frames }

-- control goes behind a statement
abbrev pub passed : Control → Control
passed c = record c { spot = behind c.spot }

-- where an `if` at a place leads
abbrev pub if_control : ℕ → Tested → Control → Control
if_control i (tests.Decides true) c = entered (parts.First i) (frames.Block (parts.First i) (behind c.spot)) c
if_control i (tests.Decides false) c = entered (parts.Second i) (frames.Block (parts.Second i) (behind c.spot)) c
if_control i t c = c

-- where a `while` leads: behind its block it comes again
abbrev pub while_control : ℕ → Tested → Control → Control
while_control i (tests.Decides true) c = entered (parts.First i) (frames.Block (parts.First i) c.spot) c
while_control i (tests.Decides false) c = passed c
while_control i t c = c

-- where a recover block leads
abbrev pub recover_control : ℕ → Control → Control
recover_control i c = entered (parts.First i) (frames.Recover (parts.First i) (behind c.spot)) c
