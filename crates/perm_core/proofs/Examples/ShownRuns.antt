-- Each state of a run on words shows that of the run on names, by computation: a test of all variables, words and counts after each event.
use Rattle.std.specs.Prelude.{◌≡◌, ℕ, zero, suc, Bool, true, false, ◌&&◌, nat_eq, ℤ, pos, List, [], ◌∷◌, length, Option, Some, None, slice_get, cond, refl}
use Rattle.std.specs.List.{list_all}
use Rattle.perm_tree.specs.Code.{UnitCode, Routine}
use Rattle.perm_tree.proofs.Builder.{Source}
use Rattle.perm_tree.proofs.Programs.{p2, p12}
use Rattle.perm_tree.proofs.ParPrograms.{p3, p4}
use Rattle.perm_meaning.specs.Values.{Value, Number, Truth, Null, Reference}
use Rattle.perm_meaning.specs.Words.{number_word, truth_word, reference_word}
use Rattle.perm_meaning.specs.Names.{Name, same_name, next_name, input_name, root_name}
use Rattle.perm_meaning.specs.Objects.{Object, size}
use Rattle.perm_meaning.specs.Machine.{Frame, OpenBlock, OpenRecover, OpenCall, Leaf, Fork, Way}
use Rattle.perm_meaning.specs.Effects.{Make}
use Rattle.perm_meaning.specs.NamedHeap as named
use Rattle.perm_meaning.specs.NamedHeap.{Held, has_room}
use Rattle.perm_meaning.specs.WordHeap as worded
use Rattle.perm_meaning.specs.Steps.{within}
use Rattle.perm_meaning.proofs.Examples.Shown.{code}
use Rattle.perm_core.specs.Core as core
use Rattle.perm_meaning.specs.Outcome as outcomes
use Rattle.perm_core.specs.WordCore as word_core
use Rattle.perm_core.proofs.Examples.RegionPrograms.{moving_regions, failing_regions}
use Rattle.perm_core.proofs.Examples.Schedules.{Policy, LeftFirst, RightFirst, InTurn, next_policy, next_way}

-- the bases of the objects that were made
abbrev Based : Type 0
Based = List (Name × ℕ)

abbrev base_of : Based → Name → ℕ
base_of [] n = 0
base_of (b ∷ bs) n = cond (same_name n b.0) b.1 (base_of bs n)

abbrev value_shown : Based → Value Name → ℕ → Bool
value_shown bs (Number n) w = nat_eq w (number_word n)
value_shown bs (Truth b) w = nat_eq w (truth_word b)
value_shown bs Null w = nat_eq w 0
value_shown bs (Reference r len) w = nat_eq w (reference_word (base_of bs r) len)

abbrev held_shown : Based → Held → ℕ → Bool
held_shown bs None w = true
held_shown bs (Some v) w = value_shown bs v w

abbrev vars_shown : Based → List Held → List ℕ → Bool
vars_shown bs [] [] = true
vars_shown bs (v ∷ vs) (w ∷ ws) = held_shown bs v w && vars_shown bs vs ws
vars_shown bs _ _ = false

abbrev lent_shown : Based → Option Held → Option ℕ → Bool
lent_shown bs None None = true
lent_shown bs (Some v) (Some w) = held_shown bs v w
lent_shown bs _ _ = false

abbrev stack_shown : Based → List (Frame Held) → List (Frame ℕ) → Bool
stack_shown bs [] [] = true
stack_shown bs (OpenBlock own rest ∷ st) (OpenBlock own' rest' ∷ st') = stack_shown bs st st'
stack_shown bs (OpenRecover own hides saved rest ∷ st) (OpenRecover own' hides' saved' rest' ∷ st') = vars_shown bs saved saved' && stack_shown bs st st'
stack_shown bs (OpenCall tie into y saved lent caller rest ∷ st) (OpenCall tie' into' y' saved' lent' caller' rest' ∷ st') =
    vars_shown bs saved saved' && (lent_shown bs lent lent' && (nat_eq caller caller' && stack_shown bs st st'))
stack_shown bs _ _ = false

abbrev branch_shown : Based → named.Branch → worded.Branch → Bool
branch_shown bs b c = vars_shown bs b.own.vars c.own.vars && (stack_shown bs b.stack c.stack && (nat_eq b.turns c.turns && nat_eq b.own.depth c.own.depth))

abbrev task_shown : Based → named.Task → worded.Task → Bool
task_shown bs (Leaf b) (Leaf c) = branch_shown bs b c
task_shown bs (Fork b p l r) (Fork c q x y) = branch_shown bs b c && (task_shown bs l x && task_shown bs r y)
task_shown bs _ _ = false

abbrev values_shown : Based → (ℕ → ℕ) → ℕ → List (Value Name) → Bool
values_shown bs word at [] = true
values_shown bs word at (v ∷ vs) = value_shown bs v (word at) && values_shown bs word (suc at) vs

abbrev object_shown : Based → (ℕ → ℕ) → ℕ → Option (Object Name) → Bool
object_shown bs word at None = false
object_shown bs word at (Some o) = values_shown bs word at o.values

abbrev state_shown : Based → named.State → worded.State → Bool
state_shown bs s t =
    task_shown bs s.task t.task && (nat_eq s.heap.given t.heap.given && list_all (λ b. object_shown bs t.heap.word b.1 (s.heap.objects b.0)) bs)

-- a new object has the words given before as its base
abbrev with_new : ℕ → named.State → Option named.Op → Based → Based
with_new limit s (Some (Make by shape n)) bs = cond (has_room (within limit) n s.heap) ((next_name by, s.heap.given) ∷ bs) bs
with_new limit s _ bs = bs

abbrev named_after : UnitCode → ℕ → named.State → Option Way → Option named.State
named_after u limit s None = None
named_after u limit s (Some w) = core.step u limit s w

abbrev worded_after : UnitCode → ℕ → worded.State → Option Way → Option worded.State
worded_after u limit t None = None
worded_after u limit t (Some w) = word_core.step u limit t w

-- both have gone on, or both have ended
abbrev on_both : Option Way → Option named.State → Option worded.State → (Way → named.State → worded.State → ℕ) → ℕ
on_both (Some w) (Some s) (Some t) go = go w s t
on_both None s t go = 0
on_both _ _ _ go = 1

abbrev if_shown : Bool → (Unit {0} → ℕ) → ℕ
if_shown true go = go tt
if_shown false go = 1

-- 0 where each of at most n states is shown
abbrev unshown : UnitCode → ℕ → Policy → ℕ → Based → named.State → worded.State → ℕ
unshown u limit p zero bs s t = 0
unshown u limit p (suc n) bs s t =
    if_shown (state_shown bs s t) (λ z. on_both (next_way u limit p s) (named_after u limit s (next_way u limit p s)) (worded_after u limit t (next_way u limit p s))
    (λ w s' t'. unshown u limit (next_policy p) n (with_new limit s (core.look u w s.task) bs) s' t'))

abbrev unshown_from : UnitCode → List ℤ → ℕ → ℕ → Policy → Option Routine → ℕ
unshown_from u input turns limit p None = 1
unshown_from u input turns limit p (Some r) =
    unshown u limit p 400 ((input_name, 0) ∷ (root_name, size (length input)) ∷ []) (outcomes.opening_state u input turns r) (worded.opening_state u input turns r)

-- 0 where the run on words shows that on names throughout
abbrev unshown_in : Source → List ℤ → ℕ → ℕ → Policy → ℕ
unshown_in s input turns limit p = unshown_from (code s) input turns limit p (slice_get (code s).routines (code s).run)

list-summed : unshown_in p2 (pos 5 ∷ pos 6 ∷ []) 1000 200 LeftFirst ≡ 0
list-summed = refl

ring : unshown_in p12 [] 1000 200 LeftFirst ≡ 0
ring = refl

child-bumped : unshown_in p4 [] 1000 200 RightFirst ≡ 0
child-bumped = refl

tree-summed : unshown_in (p3 1) (pos 7 ∷ pos 8 ∷ []) 1000 200 (InTurn true) ≡ 0
tree-summed = refl

moving : unshown_in moving_regions [] 1000 200 (InTurn false) ≡ 0
moving = refl

moving-few-words : unshown_in moving_regions [] 1000 40 RightFirst ≡ 0
moving-few-words = refl

failing : unshown_in failing_regions [] 1000 200 RightFirst ≡ 0
failing = refl
