-- The live set within a part and after it, and variables that are gone.
use Rattle.std.specs.Prelude.{ℕ, Bool, true, false, not, ◌||◌, List, [], ◌∷◌}
use Rattle.perm_tree.specs.Code.{Argument, Instruction, Declare, Assign, LoadField, LoadLength, LoadItem, TakeField, NewObject, NewArray, StoreField, StoreItem, Invoke, Print}
use Rattle.perm_tree.specs.Mentions.{any_in_term, any_in_argument, argument_consumes, consumes, assigns}
use Rattle.perm_tree.specs.Vars.{Vars, just, plus, minus}
use Rattle.perm_rules.specs.Parts.{Part, Simple, Condition, ParHead, RecoverHead, Given, Returned}

-- what isn't live
abbrev pub dead : Vars → Vars
dead G x = not (G x)

-- ---------- the live set after ----------
-- what an argument consumes is no longer live
abbrev pub after_argument : Argument → Vars → Vars
after_argument a G = minus G (argument_consumes a)

-- arguments are taken from left to right
abbrev pub after_arguments : List Argument → Vars → Vars
after_arguments [] G = G
after_arguments (a ∷ rest) G = after_arguments rest (after_argument a G)

-- what a simple statement consumes is no longer live, and then what it assigns is
abbrev pub after : Instruction → Vars → Vars
after (Declare x) G = minus G (just x)
after i G = plus (minus G (consumes i)) (assigns i)

-- what is given is consumed, and x takes it
abbrev pub after_give : ℕ → ℕ → Vars → Vars
after_give w x G = plus (minus G (just w)) (just x)

-- ---------- gone ----------
-- each argument is looked at after those before it are taken
abbrev pub arguments_gone : List Argument → Vars → Bool
arguments_gone [] G = false
arguments_gone (a ∷ rest) G = any_in_argument (dead G) a || arguments_gone rest (after_argument a G)

-- a receiver that is consumed comes before the arguments, and one that isn't after them
abbrev pub call_gone : Bool → ℕ → List Argument → Vars → Bool
call_gone true y args G = dead G y || arguments_gone args (minus G (just y))
call_gone false y args G = arguments_gone args G || dead (after_arguments args G) y

-- a variable isn't live where a simple statement reads it, looks at it or consumes it
abbrev pub instruction_gone : Instruction → Vars → Bool
instruction_gone (Declare x) G = false
instruction_gone (Assign x a) G = any_in_argument (dead G) a
instruction_gone (LoadField x y f) G = dead G y
instruction_gone (LoadLength x y) G = dead G y
instruction_gone (LoadItem x y i) G = any_in_term (dead G) i || dead G y
instruction_gone (TakeField x y f) G = dead G y
instruction_gone (NewObject x class) G = false
instruction_gone (NewArray x n) G = any_in_term (dead G) n
instruction_gone (StoreField y f a) G = any_in_argument (dead G) a || dead (after_argument a G) y
instruction_gone (StoreItem y i e) G = any_in_term (dead G) i || (any_in_term (dead G) e || dead G y)
instruction_gone (Invoke into tie consumed y routine args) G = call_gone consumed y args G
instruction_gone (Print e) G = any_in_term (dead G) e

-- the same of each part
abbrev pub gone : Part → Vars → Bool
gone (Simple i) G = instruction_gone i G
gone (Condition e) G = any_in_term (dead G) e
gone (ParHead u1 u2 a1 a2) G = false
gone (RecoverHead x) G = false
gone (Given w x) G = dead G w
gone (Returned a) G = any_in_argument (dead G) a
