-- The variables that stand in a piece of code, and those that it writes, which means that it assigns or consumes them.
use Rattle.std.specs.Prelude.{ℕ, Bool, true, false, ◌||◌, nat_eq, List, [], ◌∷◌, Option, Some, None}
use Rattle.std.specs.List.{list_any}
use Rattle.perm_tree.specs.Code.{Term, Local, Unary, Binary, Argument, Expression, Consumed, Instruction, Declare, Assign, LoadField, LoadLength, LoadItem, TakeField, NewObject, NewArray, StoreField, StoreItem, Invoke, Print, Code, End, Give, Return, Do, If, While, Par, Recover}
use Rattle.perm_tree.specs.Vars.{Vars, none, just, below, those, plus, minus, meet}

-- ---------- tests of variables ----------
-- some variable of an expression passes a test
abbrev pub any_in_term : Vars → Term → Bool
any_in_term test (Local x) = test x
any_in_term test (Unary op a) = any_in_term test a
any_in_term test (Binary op a b) = any_in_term test a || any_in_term test b
any_in_term test _ = false

-- the same of an argument
abbrev pub any_in_argument : Vars → Argument → Bool
any_in_argument test (Expression e) = any_in_term test e
any_in_argument test (Consumed y) = test y

-- the same of a variable that may be there
abbrev pub any_in_option : Vars → Option ℕ → Bool
any_in_option test None = false
any_in_option test (Some x) = test x

-- the same of a simple statement, an assigned variable included
abbrev pub any_in_instruction : Vars → Instruction → Bool
any_in_instruction test (Declare x) = test x
any_in_instruction test (Assign x a) = test x || any_in_argument test a
any_in_instruction test (LoadField x y f) = test x || test y
any_in_instruction test (LoadLength x y) = test x || test y
any_in_instruction test (LoadItem x y i) = test x || (test y || any_in_term test i)
any_in_instruction test (TakeField x y f) = test x || test y
any_in_instruction test (NewObject x class) = test x
any_in_instruction test (NewArray x n) = test x || any_in_term test n
any_in_instruction test (StoreField y f a) = test y || any_in_argument test a
any_in_instruction test (StoreItem y i e) = test y || (any_in_term test i || any_in_term test e)
any_in_instruction test (Invoke into tie consumed y routine args) = any_in_option test into || (test y || list_any (any_in_argument test) args)
any_in_instruction test (Print e) = any_in_term test e

-- ---------- simple statements ----------
-- the variables that stand in an expression
abbrev pub term_mentions : Term → Vars
term_mentions e x = any_in_term (nat_eq x) e

-- the variables that stand in an argument
abbrev pub argument_mentions : Argument → Vars
argument_mentions a x = any_in_argument (nat_eq x) a

-- the variables that stand in a simple statement, an assigned one included
abbrev pub mentions : Instruction → Vars
mentions i x = any_in_instruction (nat_eq x) i

-- the variable that an argument consumes
abbrev pub argument_consumes : Argument → Vars
argument_consumes (Expression e) = none
argument_consumes (Consumed y) = just y

-- the variables that some arguments consume
abbrev pub arguments_consume : List Argument → Vars
arguments_consume [] = none
arguments_consume (a ∷ rest) = plus (argument_consumes a) (arguments_consume rest)

-- the set of one variable, where a test holds
abbrev pub just_if : Bool → ℕ → Vars
just_if true y = just y
just_if false y = none

-- the set of a variable that may be there
abbrev pub just_option : Option ℕ → Vars
just_option None = none
just_option (Some x) = just x

-- the variables that a simple statement consumes
abbrev pub consumes : Instruction → Vars
consumes (Assign x a) = argument_consumes a
consumes (StoreField y f a) = argument_consumes a
consumes (Invoke into tie consumed y routine args) = plus (just_if consumed y) (arguments_consume args)
consumes _ = none

-- the variable that it assigns; a declaration without a value assigns none
abbrev pub assigns : Instruction → Vars
assigns (Assign x a) = just x
assigns (LoadField x y f) = just x
assigns (LoadLength x y) = just x
assigns (LoadItem x y i) = just x
assigns (TakeField x y f) = just x
assigns (NewObject x class) = just x
assigns (NewArray x n) = just x
assigns (Invoke into tie consumed y routine args) = just_option into
assigns _ = none

-- ---------- blocks ----------
-- the variables that stand anywhere in a code, an assigned variable included, but those that blocks within it declare
abbrev pub mentioned : Code → Vars
mentioned End = none
mentioned (Give at w x) = plus (just w) (just x)
mentioned (Return at a) = argument_mentions a
mentioned (Do at i rest) = plus (mentions i) (mentioned rest)
mentioned (If at e own1 a own2 b rest) =
    plus (term_mentions e) (plus (minus (mentioned a) (those own1)) (plus (minus (mentioned b) (those own2)) (mentioned rest)))
mentioned (While at e own body rest) = plus (term_mentions e) (plus (minus (mentioned body) (those own)) (mentioned rest))
mentioned (Par at own1 a own2 b rest) = plus (minus (mentioned a) (those own1)) (plus (minus (mentioned b) (those own2)) (mentioned rest))
mentioned (Recover at x own hides body rest) = plus (just x) (plus (minus (mentioned body) (those own)) (mentioned rest))

-- those that it assigns or consumes anywhere, run or not
abbrev pub written : Code → Vars
written End = none
written (Give at w x) = plus (just w) (just x)
written (Return at a) = argument_consumes a
written (Do at i rest) = plus (plus (consumes i) (assigns i)) (written rest)
written (If at e own1 a own2 b rest) = plus (minus (written a) (those own1)) (plus (minus (written b) (those own2)) (written rest))
written (While at e own body rest) = plus (minus (written body) (those own)) (written rest)
written (Par at own1 a own2 b rest) = plus (minus (written a) (those own1)) (plus (minus (written b) (those own2)) (written rest))
written (Recover at x own hides body rest) = plus (just x) (plus (minus (written body) (those own)) (written rest))

-- the outer variables that stand anywhere in a block, which declares own itself
abbrev pub block_mentions : List ℕ → Code → Vars
block_mentions own a = minus (mentioned a) (those own)

-- the outer variables that a block assigns or consumes
abbrev pub block_writes : List ℕ → Code → Vars
block_writes own a = minus (written a) (those own)

-- of a method with n variables the known ones: a name that isn't known stands in the code as the number n
abbrev pub known : ℕ → Vars → Vars
known n G = meet (below n) G
