-- The heap of words, and the machine on it: variables and the heap hold words, references are bases, and no branch knows a name. A running program's variables, slots and views hold this.
use Rattle.std.specs.Prelude.{ℕ, zero, suc, ◌+◌, Bool, true, false, ℤ, List, [], ◌∷◌, length, None, nat_eq, cond}
use Rattle.perm_tree.specs.Code.{Routine, UnitCode}
use Rattle.perm_meaning.specs.Objects.{size, length_of}
use Rattle.perm_meaning.specs.Machine as machines
use Rattle.perm_meaning.specs.Machine.{Marks, Machine, Leaf}
use Rattle.perm_meaning.specs.Effects as effects
use Rattle.perm_meaning.specs.Effects.{Tick, Load, Store, Take, Make, first_vars}
use Rattle.perm_meaning.specs.Custody.{Custody}
use Rattle.perm_meaning.specs.Turns.{machine}
use Rattle.perm_meaning.specs.Words.{words, number_word, reference_word}
use Rattle.perm_meaning.specs.Outcome.{opening_need}
use Rattle.perm_meaning.specs.Steps as steps
use Rattle.perm_meaning.specs.Steps.{Answer, Found, Refused, Memory}

-- the words of the heap by their places, and the number of words given so far
pub record Cells : Type 0 where
  pub word : ℕ → ℕ
  pub given : ℕ

-- what a branch bears for names is nothing
abbrev pub NoMark : Type 0
NoMark = Unit {0}

-- field f of the object with base b is the word at b + f
abbrev pub Ask : Type 0
Ask = effects.Op ℕ ℕ NoMark

-- what a turn may change
abbrev pub Own : Type 0
Own = machines.Own ℕ NoMark

-- a branch on words
abbrev pub Branch : Type 0
Branch = machines.Branch ℕ NoMark

-- a tree of branches on words
abbrev pub Task : Type 0
Task = machines.Task ℕ NoMark

-- a tree with the words of the heap
abbrev pub State : Type 0
State = steps.State ℕ NoMark Cells

-- branches have nothing to bear
abbrev pub no_marks : Marks NoMark
no_marks = record { to_left = λ g. g; to_right = λ g. g; after_par = λ g. g; after_object = λ g. g }

-- the machine of a unit on words. A word that has lost its value stays, so what is handed on is a plain copy
abbrev pub worded : Custody → UnitCode → Machine ℕ NoMark Ask
worded c u = machine words c no_marks u

-- ---------- what operations find and leave ----------
-- a new object is found as a reference whose base is the number of words given before
abbrev pub find : (ℕ → Bool) → Ask → Cells → Answer ℕ
find fits Tick c = Found 0
find fits (Load b f) c = Found (c.word (b + f))
find fits (Store b f w) c = Found 0
find fits (Take b f) c = Found (c.word (b + f))
find fits (Make by shape n) c = cond (fits (c.given + size n)) (Found (reference_word c.given (length_of shape n))) Refused

-- a new word, or the one that was there
abbrev pub word_or : Bool → ℕ → ℕ → ℕ
word_or true new old = new
word_or false new old = old

-- the heap with a word at a place
abbrev pub write : Cells → ℕ → ℕ → Cells
write c at w = record c { word = λ i. word_or (nat_eq i at) w (c.word i) }

-- the words given grow by a refused allocation too, unless it alone exceeds the heap
abbrev pub after : (ℕ → Bool) → Ask → Cells → Cells
after fits Tick c = c
after fits (Load b f) c = c
after fits (Store b f w) c = write c (b + f) w
after fits (Take b f) c = write c (b + f) 0
after fits (Make by shape n) c = record c { given = cond (fits (size n)) (c.given + size n) c.given }

-- the heap as the machine sees it
abbrev pub memory : Memory ℕ Ask Cells
memory = record { find = find; after = after }

-- ---------- the opening ----------
-- the words of the opening: the input array at base 0, and the object of Main behind it
abbrev pub opening_word : List ℤ → ℕ → ℕ
opening_word [] i = 0
opening_word (n ∷ ns) zero = number_word n
opening_word (n ∷ ns) (suc i) = opening_word ns i

-- the reference to the input array
abbrev pub input_word : List ℤ → ℕ
input_word input = reference_word 0 (length input)

-- the reference to the object of Main
abbrev pub root_word : List ℤ → ℕ
root_word input = reference_word (size (length input)) 0

-- the branch that is about to run the body of `Run`
abbrev pub opening_branch : UnitCode → List ℤ → ℕ → Routine → Branch
opening_branch u input turns r = record {
  own = record { vars = first_vars words r (root_word input) (input_word input ∷ []); routine = u.run; depth = 1; printed = []; mark = tt };
  turns = turns;
  code = r.code;
  stack = [];
  close = None;
}

-- one branch that is about to run the body of `Run`, on the words of the opening
abbrev pub opening_state : UnitCode → List ℤ → ℕ → Routine → State
opening_state u input turns r = record { task = Leaf (opening_branch u input turns r); heap = record { word = opening_word input; given = opening_need u input } }
