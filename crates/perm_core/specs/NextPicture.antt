-- The picture after an event: which regions take another label, and what label a new object gets.
use Rattle.std.specs.Prelude.{ℕ, zero, suc, Bool, true, false, List, [], ◌&&◌, nat_eq, ◌∷◌, ◌++◌, length, map, slice_get, Option, Some, None, cond}
use Rattle.perm_tree.specs.declared.ast.Perm.{Perm}
use Rattle.perm_tree.specs.declared.ast.Perm.TheVariants.{Isolated, Immutable, Readable, Writable}
use Rattle.perm_tree.specs.declared.ast.Ty.{Ty}
use Rattle.perm_tree.specs.declared.ast.Ty.TheVariants.{Ref}
use Rattle.perm_tree.specs.Code.{Argument, Expression, Consumed, Instruction, Assign, LoadField, TakeField, NewObject, NewArray, StoreField, Invoke, Code, Give, Return, Do, Par, Routine, UnitCode, Tie, Shares, Raises, Lends}
use Rattle.perm_tree.specs.Vars.{Vars, meet}
use Rattle.perm_rules.specs.declared.ParMode.{ParMode}
use Rattle.perm_rules.specs.declared.ParMode.TheVariants.{Symmetric, LeftAlone, RightAlone}
use Rattle.perm_rules.specs.Parts.{Context, type_of, type_of_field, has_isolated}
use Rattle.perm_rules.specs.Pars.{isolated_vars}
use Rattle.perm_meaning.specs.Values.{Reference}
use Rattle.perm_meaning.specs.Names.{Name, Mark, same_name, next_name, input_name, root_name}
use Rattle.perm_meaning.specs.Machine.{Frame, OpenCall, Blocks, Leaf, Fork, Way, Here, GoL, GoR, Did, Dies, Turn, Takes, NoTurn, next_turn}
use Rattle.perm_meaning.specs.Effects.{Make}
use Rattle.perm_meaning.specs.Custody.{mentions_l, mentions_r, back_l, back_r}
use Rattle.perm_meaning.specs.Turns.{blocks}
use Rattle.perm_meaning.specs.NamedHeap.{Held, Op, Branch, Task, State, Heap, has_room}
use Rattle.perm_meaning.specs.Steps.{within}
use Rattle.perm_core.specs.Core.{core, look}
use Rattle.perm_core.specs.Regions.{Zone, Base, Under, Region, Absent, Frozen, OwnOf, OfVariable, OfField, Loose, Labels, same_way, same_zone, same_region, begins_zone, calls, zones, top_zone, left_zone, right_zone}
use Rattle.perm_core.specs.Picture.{context_of, mode_in}

-- a region that takes another label; all regions of zones that begin where a zone ends, which take one label; or a zone that becomes another, also where it stands round others
pub data Renaming : Type 0 where
  Moves : (from to : Region) → Renaming
  Ends : (w : Way) (k : ℕ) (to : Region) → Renaming
  Joins : (y z : Zone) → Renaming

-- renamings, one after the other
abbrev pub Renamings : Type 0
Renamings = List Renaming

-- what an event does to the labels
pub record Change : Type 0 where
  pub moves : Renamings
  pub new : Option (Name × Region)

-- the outermost zone round a zone, or itself, is this one
abbrev pub is_rooted : Way → ℕ → Zone → Bool
is_rooted w k (Base v j) = same_way v w && nat_eq j k
is_rooted w k (Under v z) = is_rooted w k z

-- what becomes of a zone where y becomes z
abbrev pub zone_joined : Zone → Zone → Zone → Zone
zone_joined y z (Base v j) = cond (same_zone (Base v j) y) z (Base v j)
zone_joined y z (Under v x) = cond (same_zone (Under v x) y) z (Under v (zone_joined y z x))

-- the label after one renaming
abbrev pub renamed : Renaming → Region → Region
renamed (Moves from to) r = cond (same_region r from) to r
renamed (Ends w k to) (OwnOf z) = cond (is_rooted w k z) to (OwnOf z)
renamed (Ends w k to) r = r
renamed (Joins y z) (OwnOf x) = OwnOf (zone_joined y z x)
renamed (Joins y z) r = r

-- the label after the renamings
abbrev pub moved : Renamings → Region → Region
moved [] r = r
moved (m ∷ ms) r = moved ms (renamed m r)

-- the label of a new object, and what the others keep
abbrev pub label_new : Option (Name × Region) → Name → Region → Region
label_new None n r = r
label_new (Some m) n r = cond (same_name n m.0) m.1 r

-- the labels after a change
abbrev pub relabelled : Change → Labels → Labels
relabelled c labels n = label_new c.new n (moved c.moves (labels n))

-- nothing changes
abbrev pub no_change : Change
no_change = record { moves = []; new = None }

-- regions take other labels, and no object is new
abbrev pub moving : Renamings → Change
moving ms = record { moves = ms; new = None }

-- ---------- where isolated values go ----------
-- the region to which an isolated value goes that comes into something of this permission: entry is the free region of which that would be the entry, and home the region in which it stands
abbrev pub goal : Perm → Region → Region → Region
goal Isolated entry home = entry
goal Writable entry home = home
goal Readable entry home = home
goal Immutable entry home = Frozen

-- the same of something of this type
abbrev pub goal_of : Option Ty → Region → Region → Region
goal_of (Some (Ref p k)) entry home = goal p entry home
goal_of _ entry home = Loose

-- the same of variable x of the frame that stands on a stack
abbrev pub goal_at : Context → Way → Zone → List (Frame Held) → ℕ → Region
goal_at c w z st x = goal_of (type_of c x) (OfVariable w (calls st) x) (OwnOf (top_zone w z st))

-- the same of the variable that takes a call's result, if there is one
abbrev pub goal_into : Context → Way → Zone → List (Frame Held) → Option ℕ → Region
goal_into c w z st None = Loose
goal_into c w z st (Some x) = goal_at c w z st x

-- the region of an isolated variable that is consumed moves
abbrev pub consumed_moves : Context → Way → ℕ → Argument → Region → Renamings
consumed_moves c w k (Expression e) to = []
consumed_moves c w k (Consumed y) to = cond (has_isolated (type_of c y)) (Moves (OfVariable w k y) to ∷ []) []

-- arguments go to the parameters from number x on, which stand above k open calls and in zone z
abbrev pub arguments_moves : Context → Way → ℕ → ℕ → List Argument → List Ty → Zone → Renamings
arguments_moves c w k x (a ∷ rest) (t ∷ ts) z =
    consumed_moves c w k a (goal_of (Some t) (OfVariable w (suc k) x) (OwnOf z)) ++ arguments_moves c w k (suc x) rest ts z
arguments_moves c w k x _ _ z = []

-- ---------- calls ----------
-- the zone in which a called method stands
abbrev pub zone_of_call : Tie → Way → Zone → List (Frame Held) → Zone
zone_of_call tie w z st = cond (begins_zone tie) (Base w (suc (zones st))) (top_zone w z st)

-- the region of a lent receiver becomes that of the call's zone; one that is consumed goes to `this`
abbrev pub receiver_moves : Context → Way → ℕ → Tie → Bool → ℕ → Perm → Zone → Renamings
receiver_moves c w k Lends consumed y r z = Moves (OfVariable w k y) (OwnOf z) ∷ []
receiver_moves c w k tie true y r z = consumed_moves c w k (Consumed y) (goal r (OfVariable w (suc k) 0) (OwnOf z))
receiver_moves c w k tie false y r z = []

-- what a call moves: its receiver, and its arguments
abbrev pub call_moves : Context → Way → Zone → List (Frame Held) → Tie → Bool → ℕ → List Argument → Option Routine → Renamings
call_moves c w z st tie consumed y args None = []
call_moves c w z st tie consumed y args (Some r) =
    receiver_moves c w (calls st) tie consumed y r.receiver (zone_of_call tie w z st)
    ++ arguments_moves c w (calls st) 1 args r.params (zone_of_call tie w z st)

-- the permission of a reference type
abbrev pub perm_of : Option Ty → Option Perm
perm_of (Some (Ref p k)) = Some p
perm_of _ = None

-- what becomes of the own region of a zone that ends with a value of this permission, which goes to the region `to`
abbrev pub ended_to : Option Perm → Region → Region
ended_to (Some Readable) to = Frozen
ended_to (Some Writable) to = to
ended_to _ to = Loose

-- the regions of the zone of a call, above a stack with so many zones: they stay where the call shares, and go back to the lent variable where it lends
abbrev pub tie_moves : Tie → ℕ → Way → ℕ → ℕ → Ty → Region → Renamings
tie_moves Shares j w k y t to = []
tie_moves Raises j w k y t to = Ends w (suc j) (ended_to (perm_of (Some t)) to) ∷ []
tie_moves Lends j w k y t to = Ends w (suc j) (OfVariable w k y) ∷ []

module _ (u : UnitCode) (labels : Labels) where
  -- ---------- simple statements ----------
  -- the region of what a variable refers to
  abbrev pub region_of : Option Held → Region
  region_of (Some (Some (Reference n len))) = labels n
  region_of _ = Loose

  -- the free region of which a field of what a variable refers to would be the entry
  abbrev pub field_region : Option Held → ℕ → Region
  field_region (Some (Some (Reference n len))) f = OfField n f
  field_region _ f = Loose

  -- an immutable reference type
  abbrev pub is_immutable : Option Ty → Bool
  is_immutable (Some (Ref Immutable k)) = true
  is_immutable _ = false

  -- a new object that comes into x
  abbrev pub new_label : Context → Way → Zone → Branch → ℕ → Change
  new_label c w z b x = record { moves = []; new = Some (next_name b.own.mark, goal_at c w z b.stack x) }

  -- an isolated field that is read through an immutable variable is frozen then
  abbrev pub instruction_change : Context → Way → Zone → Branch → Instruction → Change
  instruction_change c w z b (Assign x a) = moving (consumed_moves c w (calls b.stack) a (goal_at c w z b.stack x))
  instruction_change c w z b (LoadField x y f) =
      cond (is_immutable (type_of c y)) (cond (has_isolated (type_of_field c.classes (type_of c y) f)) (moving (Moves (field_region (slice_get b.own.vars y) f) Frozen ∷ [])) no_change) no_change
  instruction_change c w z b (TakeField x y f) = moving (Moves (field_region (slice_get b.own.vars y) f) (goal_at c w z b.stack x) ∷ [])
  instruction_change c w z b (NewObject x k) = new_label c w z b x
  instruction_change c w z b (NewArray x n) = new_label c w z b x
  instruction_change c w z b (StoreField y f a) =
      moving (consumed_moves c w (calls b.stack) a (goal_of (type_of_field c.classes (type_of c y) f) (field_region (slice_get b.own.vars y) f) (region_of (slice_get b.own.vars y))))
  instruction_change c w z b (Invoke into tie consumed y m args) = moving (call_moves c w z b.stack tie consumed y args (slice_get u.routines m))
  instruction_change c w z b _ = no_change

  -- ---------- the ends of recover blocks and calls ----------
  -- the given value goes to x, and the own region of the recover block is frozen where a readable value is raised, and else goes where x takes it
  abbrev pub give_moves : Context → Way → Zone → ℕ → ℕ → List (Frame Held) → Renamings
  give_moves c w z v x [] = []
  give_moves c w z v x (f ∷ st) =
      consumed_moves c w (calls st) (Consumed v) (goal_at c w z st x) ++ Ends w (suc (zones st)) (ended_to (perm_of (type_of c v)) (goal_at c w z st x)) ∷ []

  -- a consumed result goes into what takes it, and then the call's zone ends
  abbrev pub return_moves : Context → Way → Zone → Argument → List (Frame Held) → Renamings
  return_moves c w z a (OpenCall tie into y saved lent caller rest ∷ st) =
      let from : Zone = top_zone w z (OpenCall tie into y saved lent caller rest ∷ st) in
      let to : Region = goal_into (context_of u caller) w z st into in
      consumed_moves c w (suc (calls st)) a (goal_of (Some c.result) to (OwnOf from)) ++ tie_moves tie (zones st) w (calls st) y c.result to
  return_moves c w z a _ = []

  -- ---------- pars ----------
  -- the numbers below n that are in the set, from k on
  abbrev pub members_from : ℕ → ℕ → Vars → List ℕ
  members_from zero k G = []
  members_from (suc n) k G = cond (G k) (k ∷ members_from n (suc k) G) (members_from n (suc k) G)

  -- the isolated variables of the set
  abbrev pub isolated_among : Context → Vars → List ℕ
  isolated_among c G = members_from (length c.vars) 0 (meet (isolated_vars c) G)

  -- isolated variables are handed from a frame at one node to a frame at another
  abbrev pub handed : Way → ℕ → Way → ℕ → List ℕ → Renamings
  handed w k v j xs = map (λ x. Moves (OfVariable w k x) (OfVariable v j x)) xs

  -- the isolated variables that stand in a block are handed to its side
  abbrev pub par_moves : Context → (Way → Way) → List (Frame Held) → Blocks → Renamings
  par_moves c at st p =
      handed (at Here) (calls st) (at (GoL Here)) 0 (isolated_among c (mentions_l p))
      ++ handed (at Here) (calls st) (at (GoR Here)) 0 (isolated_among c (mentions_r p))

  -- the own regions of sides that began a zone are added to the parent's
  abbrev pub zone_moves : ParMode → Way → Way → Zone → Renamings
  zone_moves Symmetric l r z = Joins (Under l z) z ∷ Joins (Under r z) z ∷ []
  zone_moves LeftAlone l r z = Joins (Base l 0) z ∷ []
  zone_moves RightAlone l r z = Joins (Base r 0) z ∷ []

  -- what comes back from the sides is handed to the parent, and their regions are added to its own
  abbrev pub join_moves : Context → (Way → Way) → Zone → Branch → Blocks → Renamings
  join_moves c at z b p =
      handed (at (GoL Here)) 0 (at Here) (calls b.stack) (isolated_among c (back_l u b.own.routine p))
      ++ (handed (at (GoR Here)) 0 (at Here) (calls b.stack) (isolated_among c (back_r u b.own.routine p))
      ++ zone_moves (mode_in u b.own.routine p) (at (GoL Here)) (at (GoR Here)) (top_zone (at Here) z b.stack))

  -- ---------- events ----------
  -- the branch fails
  abbrev pub is_failing : Did Held Mark → Bool
  is_failing (Dies e) = true
  is_failing _ = false

  -- a turn that traps changes no label
  abbrev pub unless_trap : Turn Held Mark Op → Change → Change
  unless_trap (Takes o told) c = cond (is_failing (told None)) no_change c
  unless_trap NoTurn c = no_change

  -- what the next turn of a branch with this code changes, where it doesn't trap
  abbrev pub code_change : Context → (Way → Way) → Zone → Branch → Code → Change
  code_change c at z b (Do at' i rest) = instruction_change c (at Here) z b i
  code_change c at z b (Give at' v x) = moving (give_moves c (at Here) z v x b.stack)
  code_change c at z b (Return at' a) = moving (return_moves c (at Here) z a b.stack)
  code_change c at z b (Par at' own1 c1 own2 c2 rest) = moving (par_moves c at b.stack (blocks own1 c1 own2 c2))
  code_change c at z b _ = no_change

  -- what the event of a node changes, in a tree whose nodes are where `at` puts them, where the tree begins in zone z
  abbrev pub change : (Way → Way) → Zone → Way → Task → Change
  change at z Here (Leaf b) = unless_trap (next_turn (core u) b) (code_change (context_of u b.own.routine) at z b b.code)
  change at z Here (Fork b p l r) = moving (join_moves (context_of u b.own.routine) at z b p)
  change at z (GoL w) (Fork b p l r) = change (λ w. at (GoL w)) (left_zone (mode_in u b.own.routine p) (at (GoL Here)) (top_zone (at Here) z b.stack)) w l
  change at z (GoR w) (Fork b p l r) = change (λ w. at (GoR w)) (right_zone (mode_in u b.own.routine p) (at (GoR Here)) (top_zone (at Here) z b.stack)) w r
  change at z _ (Leaf b) = no_change

-- a refused allocation makes no object
abbrev pub unless_refused : ℕ → Heap → Option Op → Change → Change
unless_refused limit h (Some (Make by shape n)) c = cond (has_room (within limit) n h) c no_change
unless_refused limit h _ c = c

-- the picture after the event of a node
abbrev pub next_picture : UnitCode → ℕ → Labels → State → Way → Labels
next_picture u limit labels s w = relabelled (unless_refused limit s.heap (look u w s.task) (change u labels (λ w. w) (Base Here 0) w s.task)) labels

-- the picture of the opening: the input array is frozen, and the object of Main is in the region of the first zone
abbrev pub first_picture : Labels
first_picture n = cond (same_name n input_name) Frozen (cond (same_name n root_name) (OwnOf (Base Here 0)) Absent)
