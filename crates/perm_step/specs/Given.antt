-- What expressions, arguments and variables give, as the interpreter finds it.
use Rattle.std.specs.Prelude.{◌≡◌, ℕ, ℤ, pos, negsuc, ◌+◌, ◌<◌, ◌≤◌, ◌⊎◌, List, [], ◌∷◌}
use Rattle.perm_tree.specs.declared.bodies.Argument.{Argument}
use Rattle.perm_tree.specs.declared.bodies.Expression.{Expression}
use Rattle.perm_tree.specs.declared.bodies.Operation.{Operation}
use Rattle.perm_tree.specs.declared.errors.TrapKind.{TrapKind}
use Rattle.perm_tree.specs.declared.errors.TrapKind.TheVariants.{NullReference, IndexOutOfRange, Overflow}
use Rattle.perm_tree.specs.BodyTerms.{argument_of, expression_term}
use Rattle.perm_meaning.specs.Expressions.{eval, look_up, value_of}
use Rattle.perm_meaning.specs.Values.{Eval, Gives, Traps, Mistyped, Referred, ToNull, ToObject, NoReference}
use Rattle.perm_meaning.specs.Words.{words as on_words}

-- ---------- values ----------
-- the word is what an expression gives; nothing is said of one that is mistyped
abbrev pub IsGiven : Eval ℕ → ℕ → Type 0
IsGiven (Gives w) word = word ≡ w
IsGiven (Traps k) word = ⊥
IsGiven Mistyped word = Unit {0}

-- it traps so
abbrev pub IsTrap : Eval ℕ → TrapKind → Type 0
IsTrap (Gives w) kind = ⊥
IsTrap (Traps k) kind = kind ≡ k
IsTrap Mistyped kind = Unit {0}

module _ (all : List Operation) (vs : List ℕ) where
  -- the word is that of an expression, where the variables hold these
  abbrev pub ExpressionGives : Expression → ℕ → Type 0
  ExpressionGives e w = IsGiven (eval on_words (expression_term all e) vs) w

  -- the expression traps so
  abbrev pub ExpressionTraps : Expression → TrapKind → Type 0
  ExpressionTraps e k = IsTrap (eval on_words (expression_term all e) vs) k

  -- the word is that of an argument
  abbrev pub ArgumentGives : Argument → ℕ → Type 0
  ArgumentGives a w = IsGiven (value_of on_words (argument_of all a) vs) w

  -- the argument traps so
  abbrev pub ArgumentTraps : Argument → TrapKind → Type 0
  ArgumentTraps a k = IsTrap (value_of on_words (argument_of all a) vs) k

  -- the words are those of some arguments, one after the other
  abbrev pub ArgumentsGive : List Argument → List ℕ → Type 0
  ArgumentsGive [] [] = Unit {0}
  ArgumentsGive (a ∷ rest) (w ∷ ws) = ArgumentGives a w × ArgumentsGive rest ws
  ArgumentsGive rest ws = ⊥

  -- the first of some arguments that doesn't give a word traps so
  abbrev pub ArgumentsTrap : List Argument → TrapKind → Type 0
  ArgumentsTrap [] k = ⊥
  ArgumentsTrap (a ∷ rest) k = ArgumentTraps a k ⊎ ((w : ℕ) × ArgumentGives a w × ArgumentsTrap rest k)

-- the word is that of a variable
abbrev pub VariableGives : List ℕ → ℕ → ℕ → Type 0
VariableGives vs y w = IsGiven (look_up on_words vs y) w

-- ---------- objects ----------
-- the place of a field's word, by what its variable refers to
abbrev pub IsPlaceBy : Referred ℕ → ℕ → ℕ → Type 0
IsPlaceBy (ToObject base len) f place = place ≡ base + f
IsPlaceBy ToNull f place = ⊥
IsPlaceBy NoReference f place = Unit {0}

-- the variable is null
abbrev pub IsNullBy : Referred ℕ → TrapKind → Type 0
IsNullBy (ToObject base len) kind = ⊥
IsNullBy ToNull kind = kind ≡ NullReference
IsNullBy NoReference kind = Unit {0}

-- the variable isn't null
abbrev pub IsObjectBy : Referred ℕ → Type 0
IsObjectBy (ToObject base len) = Unit {0}
IsObjectBy ToNull = ⊥
IsObjectBy NoReference = Unit {0}

-- the length of the array that a variable refers to
abbrev pub IsLengthBy : Referred ℕ → ℕ → Type 0
IsLengthBy (ToObject base len) n = n ≡ len
IsLengthBy ToNull n = ⊥
IsLengthBy NoReference n = Unit {0}

-- the place of an element's word, by what its variable refers to and the index
abbrev pub IsElementBy : Referred ℕ → ℤ → ℕ → Type 0
IsElementBy (ToObject base len) (pos i) place = (i < len) × (place ≡ base + i)
IsElementBy (ToObject base len) (negsuc i) place = ⊥
IsElementBy ToNull i place = ⊥
IsElementBy NoReference i place = Unit {0}

-- there is no such element
abbrev pub IsNoElementBy : Referred ℕ → ℤ → TrapKind → Type 0
IsNoElementBy (ToObject base len) (pos i) kind = (len ≤ i) × (kind ≡ IndexOutOfRange)
IsNoElementBy (ToObject base len) (negsuc i) kind = kind ≡ IndexOutOfRange
IsNoElementBy ToNull i kind = kind ≡ NullReference
IsNoElementBy NoReference i kind = Unit {0}

-- the length of a new array
abbrev pub IsNewLength : ℤ → ℕ → Type 0
IsNewLength (pos n) count = count ≡ n
IsNewLength (negsuc n) count = ⊥

-- there is no such array
abbrev pub IsNoLength : ℤ → TrapKind → Type 0
IsNoLength (pos n) kind = ⊥
IsNoLength (negsuc n) kind = kind ≡ Overflow
