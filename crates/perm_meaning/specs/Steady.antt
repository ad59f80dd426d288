-- What a piece of code may change of the variables at its own level, and when code is steady: what a recover block hides is what nothing changes meanwhile, and no block of a par writes what the other only reads.
use Rattle.std.specs.Prelude.{◌≡◌, ℕ, true, false, List, Some, slice_get}
use Rattle.perm_tree.specs.Code.{Lends, Invoke, Code, End, Return, Give, Do, If, Par, Recover, Routine, UnitCode, Instruction, Declare, While}
use Rattle.perm_tree.specs.Vars.{none, Vars, just, those, plus, minus}
use Rattle.perm_tree.specs.Mentions.{consumes, assigns, block_writes}
use Rattle.perm_meaning.specs.Turns.{blocks}
use Rattle.perm_meaning.specs.Custody.{mentions_l, mentions_r, writes_l, writes_r}
use Rattle.perm_meaning.specs.Machine.{Blocks}

-- no variable is in both sets
abbrev pub AreApart : Vars → Vars → Type 0
AreApart H G = (x : ℕ) → H x ≡ true → G x ≡ false

-- the variable that takes what the code gives at its end
abbrev pub given_var : Code → Vars
given_var End = none
given_var (Give at w x) = just x
given_var (Return at a) = none
given_var (Do at i rest) = given_var rest
given_var (If at e own1 a own2 b rest) = given_var rest
given_var (While at e own body rest) = given_var rest
given_var (Par at own1 a own2 b rest) = given_var rest
given_var (Recover at x own hides body rest) = given_var rest

-- what the code gives at its end comes into x
abbrev pub GivesOnlyTo : ℕ → Code → Type 0
GivesOnlyTo x c = (y : ℕ) → given_var c y ≡ true → just x y ≡ true

-- a declaration clears its variable
abbrev pub declares : Instruction → Vars
declares (Declare x) = just x
declares i = none

-- what a simple statement may change
abbrev pub alters : Instruction → Vars
alters i = plus (declares i) (plus (consumes i) (assigns i))

-- the variables that a code may change up to its end; what takes the value that it gives is not among them
abbrev pub changed : Code → Vars
changed End = none
changed (Give at w x) = just w
changed (Return at a) = none
changed (Do at i rest) = plus (alters i) (changed rest)
changed (If at e own1 a own2 b rest) = plus (plus (changed a) (those own1)) (plus (plus (changed b) (those own2)) (changed rest))
changed (While at e own body rest) = plus (plus (changed body) (those own)) (changed rest)
changed (Par at own1 a own2 b rest) = plus (plus (block_writes own1 a) (block_writes own2 b)) (changed rest)
changed (Recover at x own hides body rest) = plus (given_var body) (plus (plus (changed body) (those own)) (changed rest))

-- the outer variables that stand in a block of a par and are not written by it
abbrev pub stays_l : Blocks → Vars
stays_l p = minus (mentions_l p) (writes_l p)

-- the same of the right block
abbrev pub stays_r : Blocks → Vars
stays_r p = minus (mentions_r p) (writes_r p)

-- the left block of a par writes nothing that the right one only reads
abbrev pub IsSteadyPar : Blocks → Type 0
IsSteadyPar p = AreApart (stays_r p) (writes_l p)

-- what is consumed isn't lent
abbrev pub KeepsLent : Instruction → Type 0
KeepsLent (Invoke into Lends true y m args) = ⊥
KeepsLent i = Unit {0}

-- a recover block changes nothing that it hides, and gives to the variable in its head
pub record IsSteadyRecover (x : ℕ) (own hides : List ℕ) (body : Code) : Type 0 where
  pub keeps : AreApart (those hides) (plus (changed body) (those own))
  pub gives : GivesOnlyTo x body

-- the code is steady: its calls, its pars and its recover blocks are
abbrev pub IsSteadyCode : Code → Type 0
IsSteadyCode End = Unit {0}
IsSteadyCode (Give at w x) = Unit {0}
IsSteadyCode (Return at a) = Unit {0}
IsSteadyCode (Do at i rest) = KeepsLent i × IsSteadyCode rest
IsSteadyCode (If at e own1 a own2 b rest) = IsSteadyCode a × IsSteadyCode b × IsSteadyCode rest
IsSteadyCode (While at e own body rest) = IsSteadyCode body × IsSteadyCode rest
IsSteadyCode (Par at own1 a own2 b rest) = IsSteadyPar (blocks own1 a own2 b) × (IsSteadyCode a × IsSteadyCode b) × IsSteadyCode rest
IsSteadyCode (Recover at x own hides body rest) = IsSteadyRecover x own hides body × IsSteadyCode body × IsSteadyCode rest

-- so is all code of a unit
abbrev pub IsSteady : UnitCode → Type 0
IsSteady u = (m : ℕ) (r : Routine) → slice_get u.routines m ≡ Some r → IsSteadyCode r.code
