-- What the calls on a control stack make of the stem that it means.
use Rattle.std.specs.Prelude.{◌≡◌, ℕ, ◌+◌, ◌≤◌, ◌^◌, ℤ, List, [], ◌∷◌, slice_get, Option, None, Some}
use Rattle.perm_tree.specs.Code.{Routine, UnitCode}
use Rattle.perm_meaning.specs.declared.End.{End}
use Rattle.perm_meaning.specs.Custody.{Copies}
use Rattle.perm_meaning.specs.Effects.{Tick, Load, Store, Take, Make}
use Rattle.perm_meaning.specs.Machine.{Leaf, Final, Fine, turns_of, printed_of, join_of, resumed}
use Rattle.perm_meaning.specs.Objects.{size, length_of}
use Rattle.perm_meaning.specs.Told.{told_end}
use Rattle.perm_meaning.specs.WordHeap.{Ask, Branch, input_word, opening_branch, root_word, worded}
use Rattle.perm_meaning.specs.Words.{reference_word}
use Rattle.perm_core.specs.Pieces.{AtRoot, OnRightSide, stem, without_number}
use Rattle.perm_step.specs.declared.ask.Ask as interpreter
use Rattle.perm_step.specs.declared.ask.Ask.TheVariants as asks
use Rattle.perm_step.specs.declared.ctl.Answered.{Answered}
use Rattle.perm_step.specs.declared.ctl.Answered.TheVariants.{Word, Full}
use Rattle.perm_step.specs.declared.ctl.Op.{Op}
use Rattle.perm_step.specs.declared.ctl.Op.TheVariants as ops
use Rattle.perm_step.specs.declared.ends.Finished.{Finished}
use Rattle.perm_step.specs.Events.{NextAsks, NextMakes}
use Rattle.perm_step.specs.Stems.{IsNext, IsOver, IsReady, IsRoot, Means, Parent, Stack, StartsPar, Stem}

-- ---------- answers ----------
-- what the machine's event is told by an answer: a new object is found as its reference
abbrev pub told_by : Ask → Answered → Option ℕ
told_by o Full = None
told_by Tick (Word w) = Some 0
told_by (Load base f) (Word w) = Some w
told_by (Store base f v) (Word w) = Some w
told_by (Take base f) (Word w) = Some w
told_by (Make by shape n) (Word base) = Some (reference_word base (length_of shape n))

-- the same for what the interpreter asks
abbrev pub word_by : interpreter.Ask → Answered → Option ℕ
word_by q Full = None
word_by asks.Nothing (Word w) = Some 0
word_by asks.Fork (Word w) = Some 0
word_by (asks.Load at) (Word w) = Some w
word_by (asks.Store at v) (Word w) = Some w
word_by (asks.Take at) (Word w) = Some w
word_by (asks.Make count len) (Word base) = Some (reference_word base len)

-- only new words are refused, and they lie within the largest heap. Neither a par nor an end is answered
abbrev pub IsAnswerTo : Op → Answered → Type 0
IsAnswerTo ops.Tick (Word w) = Unit {0}
IsAnswerTo (ops.Load at) (Word w) = Unit {0}
IsAnswerTo (ops.Store at v) (Word w) = Unit {0}
IsAnswerTo (ops.Take at) (Word w) = Unit {0}
IsAnswerTo (ops.Alloc words) (Word base) = base + words ≤ 4194304
IsAnswerTo (ops.Alloc words) Full = Unit {0}
IsAnswerTo op answer = ⊥

-- new words lie within the largest heap, and the length of a reference is no more than its values
abbrev pub IsAnswerFor : interpreter.Ask → Answered → Type 0
IsAnswerFor (asks.Make count len) (Word base) = (base + size count ≤ 4194304) × (len ≤ count)
IsAnswerFor q answer = Unit {0}

module _ (u : UnitCode) where
  -- what is next of the stem that a stack means is answered so
  pub record IsAnswered (k : Stack) (answer : Answered) (s : Stem) : Type 0 where
    pub ready : IsReady u k s
    pub op : Op
    pub next : IsNext u s op
    pub fits : IsAnswerTo op answer

  -- by this answer the leaf becomes another, and the stack means the stem with that leaf
  pub record Resumes (k : Stack) (answer : Answered) (s : Stem) : Type 0 where
    pub after : Branch
    pub makes : (ask : Ask) → NextAsks u s.leaf ask → NextMakes u s.leaf (told_by ask answer) (Leaf after)
    pub means : Means u k (record s { leaf = after })

  -- ---------- pars ----------
  -- the next event of the stem that a stack means starts a par
  pub record IsAtFork (k : Stack) (s : Stem) : Type 0 where
    pub ready : IsReady u k s
    pub starts : StartsPar u s

  -- the stack means the left side below the parent that waits, and another the right side
  pub record Forks (s : Stem) (p : StartsPar u s) (k right : Stack) : Type 0 where
    pub on_left : Means u k (record s { leaf = p.left; parents = without_number p.parent p.blocks ∷ s.parents })
    pub on_right : Means u right (stem p.right [] (OnRightSide None))

  -- two stacks mean the two ended sides of a waiting parent
  pub record AreSides (k right : Stack) (s t : Stem) : Type 0 where
    pub on_left : Means u k s
    pub on_right : Means u right t
    pub parent : Parent
    pub outer : List Parent
    pub waits : s.parents ≡ parent ∷ outer
    pub left_end : Final ℕ
    pub right_end : Final ℕ
    pub left_over : IsOver s left_end
    pub right_over : IsOver t right_end
    pub turns : s.leaf.turns + t.leaf.turns ≤ 2 ^ 40
    pub method : (vs : List ℕ) (n : ℕ) (printed : List ℤ) → right_end ≡ Fine vs n printed → t.leaf.own.routine ≡ parent.branch.own.routine

  -- the stack means the parent that goes on, or has ended
  pub record Rejoins (k : Stack) (s : Stem) (p : Parent) (outer : List Parent) (x y : Final ℕ) : Type 0 where
    pub after : Branch
    pub makes : resumed (worded Copies u) p.branch (join_of (worded Copies u) p.branch p.blocks x y) ≡ Leaf after
    pub means : Means u k (record s { leaf = after; parents = outer })

  -- ---------- begin and end ----------
  -- the stack means the root that is about to run with these words and so many turns
  abbrev pub Begins : ℕ → ℕ → ℕ → Stack → Type 0
  Begins input root turns k =
      (ns : List ℤ) (r : Routine) → input ≡ input_word ns → root ≡ root_word ns → slice_get u.routines u.run ≡ Some r → Means u k (stem (opening_branch u ns turns r) [] AtRoot)

  -- the stack means a root that has ended so, and of this end something is told
  pub record IsFinished (k : Stack) (s : Stem) (f : Final ℕ) : Type 0 where
    pub means : Means u k s
    pub root : IsRoot s
    pub over : IsOver s f
    pub end : End
    pub told : told_end f ≡ Some end

-- of the end of a root, what is told of it
pub record TellsEnd (f : Final ℕ) (told : Finished) : Type 0 where
  pub ending : told_end f ≡ Some told.end
  pub printed : printed_of f ≡ told.printed
  pub left : turns_of f ≡ told.left
