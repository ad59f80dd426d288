-- When a state on words shows a state on names. Two states on words match where they show one state on names.
use Rattle.std.specs.Prelude.{◌≡◌, ℕ, suc, ◌+◌, ◌<◌, ◌≤◌, ◌^◌, length, Option, Some, None}
use Rattle.perm_meaning.specs.Values.{Value, Number, Truth, Null, Reference}
use Rattle.perm_meaning.specs.Words.{number_in, truth_word, reference_word}
use Rattle.perm_meaning.specs.Names.{Name, Mark}
use Rattle.perm_meaning.specs.Objects.{Object, object_size, field_of}
use Rattle.perm_meaning.specs.NamedHeap as named
use Rattle.perm_meaning.specs.NamedHeap.{Heap, Held}
use Rattle.perm_meaning.specs.Effects.{Tick, Load, Store, Take, Make}
use Rattle.perm_meaning.specs.Relate.{TaskR}
use Rattle.perm_meaning.specs.WordHeap as worded
use Rattle.perm_meaning.specs.WordHeap.{Cells, NoMark}

-- the bases of objects; one that isn't made yet has none
abbrev pub Bases : Type 0
Bases = Name → Option ℕ

-- as objects are made, each keeps its base
abbrev pub Grows : Bases → Bases → Type 0
Grows b c = (n : Name) (k : ℕ) → b n ≡ Some k → c n ≡ Some k

-- the word of what a variable holds: a word of 64 bits that holds the number, that of a truth value, 0 for null, and for a reference that of its base and its length, of 32 bits each. Of a variable that has no value nothing is said
abbrev pub IsWordOf : Bases → Held → ℕ → Type 0
IsWordOf b None w = Unit {0}
IsWordOf b (Some (Number n)) w = (n ≡ number_in w) × (w < 2 ^ 64)
IsWordOf b (Some (Truth t)) w = w ≡ truth_word t
IsWordOf b (Some Null) w = w ≡ 0
IsWordOf b (Some (Reference r len)) w = (k : ℕ) × (b r ≡ Some k) × (suc k < 2 ^ 32) × (len < 2 ^ 32) × (w ≡ reference_word k len)

-- words bear no names, so nothing is said of them
abbrev pub AnyMark : Mark → NoMark → Type 0
AnyMark g k = Unit {0}

-- the operation on words that an operation on names is
abbrev pub IsAskOf : Bases → named.Op → worded.Ask → Type 0
IsAskOf b Tick Tick = Unit {0}
IsAskOf b (Load r f) (Load k g) = (b r ≡ Some k) × (f ≡ g)
IsAskOf b (Store r f v) (Store k g w) = (b r ≡ Some k) × (f ≡ g) × IsWordOf b v w
IsAskOf b (Take r f) (Take k g) = (b r ≡ Some k) × (f ≡ g)
IsAskOf b (Make by shape n) (Make by' shape' n') = (shape ≡ shape') × (n ≡ n')
IsAskOf b _ _ = ⊥

-- the place lies within the object with this base
abbrev pub IsWithin : ℕ → ℕ → Object Name → Type 0
IsWithin at base o = (base ≤ at) × (at < base + object_size o)

-- the word at base plus f is that of field f; objects don't overlap and lie below the number of words given; every other word is 0
pub record HeapShown (b : Bases) (h : Heap) (c : Cells) : Type 0 where
  pub given : h.given ≡ c.given
  pub based : (n : Name) (o : Object Name) → h.objects n ≡ Some o → (k : ℕ) × (b n ≡ Some k)
  pub made : (n : Name) (k : ℕ) → b n ≡ Some k → (o : Object Name) × (h.objects n ≡ Some o)
  pub fields : (n : Name) (k f : ℕ) (v : Value Name) → b n ≡ Some k → field_of h.objects n f ≡ Some v → IsWordOf b (Some v) (c.word (k + f))
  pub below : (n : Name) (k : ℕ) (o : Object Name) → b n ≡ Some k → h.objects n ≡ Some o → k + object_size o ≤ c.given
  pub apart : (n m : Name) (k l at : ℕ) (o q : Object Name) → b n ≡ Some k → b m ≡ Some l → h.objects n ≡ Some o → h.objects m ≡ Some q → IsWithin at k o → IsWithin at l q → n ≡ m
  pub unused : (at : ℕ) → ((n : Name) (k : ℕ) (o : Object Name) → b n ≡ Some k → h.objects n ≡ Some o → IsWithin at k o → ⊥) → c.word at ≡ 0
  pub filler : (n : Name) (k : ℕ) (o : Object Name) → b n ≡ Some k → h.objects n ≡ Some o → length o.values ≡ 0 → c.word k ≡ 0

-- a state on words shows a state on names, with these bases
pub record IsShownBy (b : Bases) (s : named.State) (t : worded.State) : Type 0 where
  pub task : TaskR (IsWordOf b) AnyMark s.task t.task
  pub heap : HeapShown b s.heap t.heap

-- a state on words shows a state on names
abbrev pub IsShown : named.State → worded.State → Type 0
IsShown s t = (b : Bases) × IsShownBy b s t
