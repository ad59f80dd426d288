-- What evaluation answers.
use Rattle.std.specs.Prelude.{◌≡◌, ℕ, ◌+◌, ◌-◌, ◌<◌, ◌≤◌, List, length, get_or}
use Rattle.perm_tree.specs.declared.bodies.Operation.{Operation}
use Rattle.perm_tree.specs.declared.bodies.Expression.{Expression}
use Rattle.perm_tree.specs.declared.bodies.Expression.TheVariants.{Operations}
use Rattle.perm_tree.specs.BodyTerms.{operation_terms}
use Rattle.perm_tree.specs.Code.{Term, NullLit}
use Rattle.perm_meaning.specs.Expressions.{eval}
use Rattle.perm_meaning.specs.Values.{Eval, Gives, Traps, Mistyped}
use Rattle.perm_meaning.specs.Words.{words}
use Rattle.perm_step.specs.declared.values.Value.{Value}
use Rattle.perm_step.specs.declared.values.Value.TheVariants.{Word, Trap}

-- what an expression gives that has this value
abbrev pub as_eval : Value → Eval ℕ
as_eval (Word w) = Gives w
as_eval (Trap k) = Traps k

-- the expression gives this value; nothing is said of one that is mistyped
abbrev pub IsAnswer : Eval ℕ → Value → Type 0
IsAnswer (Gives w) v = as_eval v ≡ Gives w
IsAnswer (Traps k) v = as_eval v ≡ Traps k
IsAnswer Mistyped v = Unit {0}

-- the first so many values are those of the terms, where the variables hold these words
abbrev pub AreValues : List ℕ → List Term → ℕ → List Value → Type 0
AreValues held terms count values = (k : ℕ) → k < count → IsAnswer (eval words (get_or terms k NullLit) held) (get_or values k (Word 0))

-- of so many values this is the last
abbrev pub IsLast : ℕ → Value → List Value → Type 0
IsLast count last values = (k : ℕ) → k + 1 ≡ count → last ≡ get_or values k (Word 0)

-- the term of the last of some operations
abbrev pub last_term : List Operation → Term
last_term run = get_or (operation_terms run) (length run - 1) NullLit

-- so many values are enough for the operations of an expression
abbrev pub HasRoomFor : ℕ → Expression → Type 0
HasRoomFor room (Operations first count) = count ≤ room
HasRoomFor room _ = Unit {0}
