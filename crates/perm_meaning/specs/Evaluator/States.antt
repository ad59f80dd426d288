-- What the state of a run stands for.
use Rattle.std.specs.Prelude.{◌≡◌, ℕ, suc, ◌-◌, ◌/◌, Bool, List, [], ◌∷◌, Option, Some, None}
use Rattle.perm_tree.specs.CodeOf.{code_of}
use Rattle.perm_tree.specs.UnitTables.{Tables}
use Rattle.perm_tree.specs.declared.ast.Span.{Span}
use Rattle.perm_meaning.specs.declared.eval.control.Tested.{Tested}
use Rattle.perm_meaning.specs.declared.eval.control.Tested.TheVariants as tests
use Rattle.perm_meaning.specs.declared.eval.frames.Failure.TheVariants as failures
use Rattle.perm_meaning.specs.declared.eval.frames.Caller.{Caller}
use Rattle.perm_meaning.specs.declared.eval.frames.Final as ending
use Rattle.perm_meaning.specs.declared.eval.frames.Spot.{Spot}
use Rattle.perm_meaning.specs.declared.eval.parts.Part.{Part}
use Rattle.perm_meaning.specs.declared.eval.values.Value.{Value}
use Rattle.perm_meaning.specs.Expressions.{assign, assign_into, clear_all, tagged}
use Rattle.perm_meaning.specs.declared.eval.frames.Final.TheVariants as finals
use Rattle.perm_meaning.specs.declared.eval.frames.Frame.{Frame}
use Rattle.perm_meaning.specs.declared.eval.frames.Frame.TheVariants as frames
use Rattle.perm_meaning.specs.declared.eval.frames.Parent.{Parent}
use Rattle.perm_meaning.specs.declared.eval.own.Own.{Own}
use Rattle.perm_meaning.specs.declared.eval.parts.Part.TheVariants as parts
use Rattle.perm_meaning.specs.declared.eval.state.Fate.{Fate}
use Rattle.perm_meaning.specs.declared.eval.state.Fate.TheVariants as fates
use Rattle.perm_meaning.specs.declared.eval.state.State.{State}
use Rattle.perm_meaning.specs.Evaluator.Control.{behind, entered}
use Rattle.perm_meaning.specs.Evaluator.Frames.{code_at, failure_by, AmountsTo}
use Rattle.perm_meaning.specs.Meaning.{Result, Well, Gave, Handed, Fails, Full, Stuck}
use Rattle.perm_meaning.specs.Names.{Mark}
use Rattle.perm_meaning.specs.NamedHeap.{Heap}
use Rattle.perm_meaning.specs.Evaluator.NumberedValues.{all_by, held_by, Names}
use Rattle.perm_meaning.specs.Evaluator.NewNames.{AreNew}
use Rattle.perm_meaning.specs.Evaluator.Parts.{own_in}
use Rattle.perm_meaning.specs.Evaluator.Ties.{moment_by}
use Rattle.perm_meaning.specs.Evaluator.Waits.{Waiting}
use Rattle.perm_meaning.specs.Evaluator.WholeCode.{whole}

-- ---------- what a state comes to ----------
-- the end that the fate of a state tells of, of a branch with this mark
abbrev pub comes_to : Tables → (ℕ → Bool) → Names → Mark → Heap → State → Fate → Result
comes_to u fits names mark h s fates.Goes = whole (code_of u) fits (code_at u s.own.«method» s.control.spot) (moment_by names mark h s.turns s.own)
comes_to u fits names mark h s fates.Closes = Well (moment_by names mark h s.turns s.own)
comes_to u fits names mark h s (fates.Gives v x) = Handed x (held_by names (Some v)) (moment_by names mark h s.turns s.own)
comes_to u fits names mark h s (fates.Returns v) = Gave (held_by names (Some v)) (moment_by names mark h s.turns s.own)
comes_to u fits names mark h s (fates.Fails e) = Fails (failure_by e) s.turns s.own.printed h
comes_to u fits names mark h s fates.Full = Full
comes_to u fits names mark h s fates.Sticks = Stuck

-- it comes to a result, where the state's frames stand for what waits
abbrev pub Comes : Tables → (ℕ → Bool) → Names → Mark → Heap → State → Fate → List Waiting → Result → Type 0
Comes u fits names mark h s f ws r = AmountsTo u fits names s.own.«method» s.control.frames ws (comes_to u fits names mark h s f) r

-- a state with this fate comes to a result. A full heap and what is stuck end the whole run
abbrev pub Tied : Tables → (ℕ → Bool) → Names → Mark → Heap → State → Fate → List Waiting → Result → Type 0
Tied u fits names mark h s fates.Full ws r = Full ≡ r
Tied u fits names mark h s fates.Sticks ws r = Stuck ≡ r
Tied u fits names mark h s f ws r = Comes u fits names mark h s f ws r

-- a code has ended, or failed
abbrev pub IsEnd : Fate → Type 0
IsEnd fates.Goes = ⊥
IsEnd fates.Full = ⊥
IsEnd fates.Sticks = ⊥
IsEnd f = Unit {0}

-- how a side ends, if this is an end of one
abbrev pub final_of : State → Fate → Option ending.Final
final_of s fates.Closes = Some (finals.Fine s.own.vars s.turns s.own.printed)
final_of s (fates.Fails e) = Some (finals.Failed e s.turns s.own.printed)
final_of s f = None

-- what this frame, taken out, makes of the fate of a state is the new state with its fate
abbrev pub Follows : Tables → Frame → State → Fate → State → Fate → Type 0
Follows u f old x new y =
    (fits : ℕ → Bool) (names : Names) (mark : Mark) (h : Heap) (w : Waiting) (ws : List Waiting) (r : Result)
    → AreNew h.objects mark (w ∷ ws)
    → AmountsTo u fits names old.own.«method» (f ∷ old.control.frames) (w ∷ ws) (comes_to u fits names mark h old x) r
    → (next : Mark) × (waits : List Waiting) × AreNew h.objects next waits × Tied u fits names next h new y waits r

-- ---------- sides ----------
-- what a side has where it begins
abbrev pub side_of : Own → Own
side_of o = record o { depth = suc o.depth; printed = [] }

-- the state where the left side of the par at a place begins
abbrev pub split_at : ℕ → State → State
split_at i s = record s {
  own = side_of s.own;
  turns = s.turns - s.turns / 2;
  control = entered (parts.First i) (frames.Left (record { own = s.own; turns = s.turns; stmt = i; rest = behind s.control.spot })) s.control;
}

-- the state where the right side of a par begins, whose left side has ended so
abbrev pub right_at : Parent → ending.Final → State → State
right_at p left s = record s { own = side_of p.own; turns = p.turns / 2; control = entered (parts.Second p.stmt) (frames.Right p left) s.control }

-- the right side begins where the left one has ended, and else nothing is meant
abbrev pub BeginsRight : Parent → State → Option ending.Final → State → Fate → Type 0
BeginsRight p old None new y = (y ≡ fates.Sticks) × (new ≡ record old { own = new.own })
BeginsRight p old (Some left) new y = (y ≡ fates.Goes) × (new ≡ right_at p left old)

-- ---------- behind a par ----------
-- the state behind a par whose sides have joined so
abbrev pub joined_at : Parent → ending.Final → State → State
joined_at p (finals.Fine vs t out) s = record s { own = record p.own { vars = vs; printed = out }; turns = t; control = record s.control { spot = p.rest } }
joined_at p (finals.Failed e t out) s = record s { own = record p.own { printed = out }; turns = t }

-- and its fate
abbrev pub joined_fate : ending.Final → Fate
joined_fate (finals.Fine vs t out) = fates.Goes
joined_fate (finals.Failed e t out) = fates.Fails e

-- ---------- behind blocks and calls ----------
-- the variables that a part itself declares have lost their values
abbrev pub Clears : Tables → Part → Own → List (Option Value) → Type 0
Clears u part old vs = (names : Names) → all_by names vs ≡ clear_all tagged (all_by names old.vars) (own_in u old.«method» part)

-- and another one has taken a value
abbrev pub ClearsAndTakes : Tables → Part → Own → ℕ → Value → List (Option Value) → Type 0
ClearsAndTakes u part old x v vs = (names : Names) → all_by names vs ≡ assign (clear_all tagged (all_by names old.vars) (own_in u old.«method» part)) x (held_by names (Some v))

-- a caller has taken a value
abbrev pub Takes : Caller → Value → List (Option Value) → Type 0
Takes c v vs = (names : Names) → all_by names vs ≡ assign_into (all_by names c.vars) c.into (held_by names (Some v))

-- the state behind a block
abbrev pub behind_block : Spot → List (Option Value) → State → State
behind_block rest vs s = record s { own = record s.own { vars = vs }; control = record s.control { spot = rest } }

-- the state behind a call
abbrev pub behind_call : Caller → List (Option Value) → State → State
behind_call c vs s = record s { own = record s.own { vars = vs; «method» = c.«method»; depth = s.own.depth - 1 }; control = record s.control { spot = c.rest } }

-- a failed state whose caller's method it is
abbrev pub left_call : Caller → State → State
left_call c s = record s { own = record s.own { «method» = c.«method» } }

-- ---------- turns of control ----------
-- what a state with its fate comes to, another one comes to, on the same heap
abbrev pub Moves : Tables → State → State → Fate → Type 0
Moves u old new y =
    (fits : ℕ → Bool) (names : Names) (mark : Mark) (h : Heap) (ws : List Waiting) (r : Result)
    → AreNew h.objects mark ws
    → Comes u fits names mark h old fates.Goes ws r
    → (next : Mark) × (waits : List Waiting) × AreNew h.objects next waits × Tied u fits names next h new y waits r

-- the fate where a condition at a span comes to this
abbrev pub test_fate : Span → Tested → Fate
test_fate at (tests.Decides b) = fates.Goes
test_fate at (tests.Halts k) = fates.Fails (failures.Trapped k at)
test_fate at tests.Sticks = fates.Sticks
