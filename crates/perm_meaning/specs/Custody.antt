-- How variables are handed on at a par, a recover block and a lending call: by copies, as a run does it, or so that whatever is tied to one owner has one holder at a time.
use Rattle.std.specs.Prelude.{ℕ, suc, Bool, true, false, not, ◌||◌, List, [], ◌∷◌, Option, Some, None, cond, slice_get}
use Rattle.perm_tree.specs.declared.ast.Perm.TheVariants.{Isolated, Immutable, Readable, Writable}
use Rattle.perm_tree.specs.declared.ast.Ty.{Ty}
use Rattle.perm_tree.specs.declared.ast.Ty.TheVariants.{Ref}
use Rattle.perm_tree.specs.Code.{Tie, Lends, Routine, UnitCode}
use Rattle.perm_tree.specs.Vars.{Vars, those, plus, meet}
use Rattle.perm_tree.specs.Mentions.{block_mentions, block_writes}
use Rattle.perm_meaning.specs.Expressions.{Reading, clear}
use Rattle.perm_meaning.specs.Machine.{Blocks, Parting}

-- Copies: a side of a par works on a copy of all variables, and the caller keeps what it lends. Moves: a variable that is handed on leaves whoever handed it on, and comes back at the end
pub data Custody : Type 0 where
  Copies : Custody
  Moves : Custody

-- ---------- sets of variables ----------
-- an isolated reference type
abbrev pub is_isolated : Option Ty → Bool
is_isolated (Some (Ref Isolated k)) = true
is_isolated (Some (Ref Immutable k)) = false
is_isolated (Some (Ref Readable k)) = false
is_isolated (Some (Ref Writable k)) = false
is_isolated _ = false

-- the types of the variables of a method that is there
abbrev pub vars_of_routine : Option Routine → List Ty
vars_of_routine None = []
vars_of_routine (Some r) = r.vars

-- the types of the variables of a method
abbrev pub var_types : UnitCode → ℕ → List Ty
var_types u m = vars_of_routine (slice_get u.routines m)

-- the isolated variables of a method
abbrev pub isolated_in : UnitCode → ℕ → Vars
isolated_in u m x = is_isolated (slice_get (var_types u m) x)

-- the outer variables that stand in the blocks of a par
abbrev pub mentions_l : Blocks → Vars
mentions_l p = block_mentions p.own_l p.left

-- the same of the right block
abbrev pub mentions_r : Blocks → Vars
mentions_r p = block_mentions p.own_r p.right

-- the outer variables that they assign or consume
abbrev pub writes_l : Blocks → Vars
writes_l p = block_writes p.own_l p.left

-- the same of the right block
abbrev pub writes_r : Blocks → Vars
writes_r p = block_writes p.own_r p.right

-- where variables move: what comes back from a side are the variables that it writes, and the isolated ones that stand in it
abbrev pub back_l : UnitCode → ℕ → Blocks → Vars
back_l u m p = plus (writes_l p) (meet (isolated_in u m) (mentions_l p))

-- the same of the right side
abbrev pub back_r : UnitCode → ℕ → Blocks → Vars
back_r u m p = plus (writes_r p) (meet (isolated_in u m) (mentions_r p))

-- the variables that are in neither set
abbrev pub in_neither : Vars → Vars → Vars
in_neither G H x = not (G x || H x)

-- ---------- lists of variables ----------
-- those of the set from the one list, the others from the other
abbrev pub from_either_at : {V : Type 0} → ℕ → Vars → List V → List V → List V
from_either_at i G (v ∷ vs) (w ∷ ws) = cond (G i) v w ∷ from_either_at (suc i) G vs ws
from_either_at i G _ _ = []

-- the same of whole lists
abbrev pub from_either : {V : Type 0} → Vars → List V → List V → List V
from_either G vs ws = from_either_at 0 G vs ws

-- those of the first set from the left, of the second from the right, and of both from the right; all others stay
abbrev pub merged : {V : Type 0} → Vars → Vars → List V → List V → List V → List V
merged a b vs ls rs = from_either b rs (from_either a ls vs)

-- the same of a list whose first variable has number i
abbrev pub only_at : {V R : Type 0} → Reading V R → ℕ → Vars → List V → List V
only_at k i G [] = []
only_at k i G (v ∷ vs) = cond (G i) v (k.cleared v) ∷ only_at k (suc i) G vs

-- the variables of the set keep their values
abbrev pub only : {V R : Type 0} → Reading V R → Vars → List V → List V
only k G vs = only_at k 0 G vs

-- ---------- pars ----------
-- each side gets copies of all variables, and the parent keeps its own
abbrev pub copied : {V : Type 0} → Parting V
copied = record {
  to_left = λ m p vs. vs;
  to_right = λ m p vs. vs;
  kept = λ m p vs. vs;
  joined = λ m p vs ls rs. merged (writes_l p) (writes_r p) vs ls rs;
}

-- each side gets what stands in it, and the parent keeps what comes back from neither
abbrev pub moved : {V R : Type 0} → Reading V R → UnitCode → Parting V
moved k u = record {
  to_left = λ m p vs. only k (mentions_l p) vs;
  to_right = λ m p vs. only k (mentions_r p) vs;
  kept = λ m p vs. only k (in_neither (back_l u m p) (back_r u m p)) vs;
  joined = λ m p vs ls rs. merged (back_l u m p) (back_r u m p) vs ls rs;
}

-- how variables are handed on at a par
abbrev pub parting : {V R : Type 0} → Custody → Reading V R → UnitCode → Parting V
parting Copies k u = copied
parting Moves k u = moved k u

-- what an open call holds for its caller
abbrev pub lent_by : {V : Type 0} → Custody → Tie → V → Option V
lent_by Moves Lends v = Some v
lent_by c tie v = None

module _ {V R : Type 0} (k : Reading V R) where
  -- ---------- recover blocks ----------
  -- the variables within a recover block
  abbrev pub within_recover : Custody → List ℕ → List V → List V
  within_recover Copies hides vs = vs
  within_recover Moves hides vs = only k (λ x. not (those hides x)) vs

  -- what is laid by meanwhile
  abbrev pub laid_by : Custody → List ℕ → List V → List V
  laid_by Copies hides vs = []
  laid_by Moves hides vs = only k (those hides) vs

  -- the hidden variables are back
  abbrev pub back_from_recover : Custody → List ℕ → List V → List V → List V
  back_from_recover Copies hides saved vs = vs
  back_from_recover Moves hides saved vs = from_either (those hides) saved vs

  -- ---------- lending calls ----------
  -- the variables of a caller while its call is open
  abbrev pub while_called : Custody → Tie → ℕ → List V → List V
  while_called Moves Lends y vs = clear k vs y
  while_called c tie y vs = vs
