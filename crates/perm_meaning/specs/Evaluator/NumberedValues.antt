-- Values that name objects by numbers, and what they stand for where each number has its name.
use Rattle.std.specs.Prelude.{ℕ, List, map, Option, Some, None}
use Rattle.perm_meaning.specs.declared.eval.values.Value.{Value}
use Rattle.perm_meaning.specs.declared.eval.values.Value.TheVariants as held
use Rattle.perm_meaning.specs.declared.eval.values.Given.{Given}
use Rattle.perm_meaning.specs.declared.eval.values.Given.TheVariants as given
use Rattle.perm_meaning.specs.Values as values
use Rattle.perm_meaning.specs.Values.{Number, Truth, Null, Reference, Eval, Gives, Traps, Mistyped}
use Rattle.perm_meaning.specs.Names.{Name}
use Rattle.perm_meaning.specs.NamedHeap.{Held}

-- the names of objects, by their numbers
abbrev pub Names : Type 0
Names = ℕ → Name

-- the value
abbrev pub value_by : Names → Value → values.Value Name
value_by names (held.Number n) = Number n
value_by names (held.Truth b) = Truth b
value_by names held.Null = Null
value_by names (held.Reference r len) = Reference (names r) len

-- what a variable holds
abbrev pub held_by : Names → Option Value → Held
held_by names None = None
held_by names (Some v) = Some (value_by names v)

-- what variables hold
abbrev pub all_by : Names → List (Option Value) → List Held
all_by names vs = map (held_by names) vs

-- what an expression gives
abbrev pub given_by : Names → Given → Eval Held
given_by names (given.Value v) = Gives (Some (value_by names v))
given_by names (given.Trap k) = Traps k
given_by names given.Nothing = Mistyped
