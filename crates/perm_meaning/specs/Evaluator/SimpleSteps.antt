-- What one simple statement does to what a branch has and to the numbered objects, by what the meaning does.
use Rattle.std.specs.Prelude.{◌≡◌, ℕ, Option, Some, None}
use Rattle.perm_tree.specs.declared.ast.Span.{Span}
use Rattle.perm_tree.specs.declared.errors.TrapKind.{TrapKind}
use Rattle.perm_tree.specs.Code.{Code, Instruction, UnitCode}
use Rattle.perm_meaning.specs.declared.eval.own.Own.{Own}
use Rattle.perm_meaning.specs.declared.eval.step.Step.{Step}
use Rattle.perm_meaning.specs.declared.eval.step.Step.TheVariants as steps
use Rattle.perm_meaning.specs.Effects.{effect}
use Rattle.perm_meaning.specs.Expressions.{tagged}
use Rattle.perm_meaning.specs.Machine.{Trapped}
use Rattle.perm_meaning.specs.Meaning.{doing, Fails, Full, Moment, Result, Stuck, Well}
use Rattle.perm_meaning.specs.NamedHeap.{marks, Heap}
use Rattle.perm_meaning.specs.Names.{Mark}
use Rattle.perm_meaning.specs.Evaluator.NumberedValues.{Names}
use Rattle.perm_meaning.specs.Evaluator.SimpleStatements.{own_by}
use Rattle.perm_meaning.specs.Steps.{within}
use Rattle.perm_meaning.specs.Evaluator.NumberedHeap.{Stored}
use Rattle.perm_meaning.specs.Evaluator.Ties.{moment_by, Grows, IsTied}

-- a moment that has a way to go by, with so many turns left
pub record At : Type 0 where
  -- what loops and calls go on with
  pub again : Code → Moment → Result
  -- where a trap is told of
  pub at : Span
  -- the turns left behind the one of the statement
  pub turns : ℕ
  -- the names of the numbered objects
  pub names : Names
  -- the mark of the branch
  pub mark : Mark
  -- the heap of names
  pub heap : Heap

-- what the instruction does there by the meaning
abbrev pub meant : UnitCode → Instruction → At → Own → ℕ → Result
meant u i z old limit = doing u (within limit) z.again z.at (effect tagged u marks i (own_by z.names z.mark old)) (moment_by z.names z.mark z.heap z.turns old)

-- the branch has gone on
pub record HasGone (u : UnitCode) (i : Instruction) (z : At) (old : Own) (s : Stored) (new : Own) (t : Stored) (later : Names) (next : Mark) (k : Heap) : Type 0 where
  -- what it has made
  pub grows : Grows z.names z.mark s z.heap later t k
  -- it is tied to the moment to which the meaning goes
  pub tied : IsTied later next new t k
  -- it is where it was
  pub path : next.path ≡ z.mark.path
  -- it has begun no par
  pub pars : next.pars ≡ z.mark.pars
  -- that is what is meant
  pub means : meant u i z old s.limit ≡ Well (moment_by later next k z.turns new)

-- the branch has trapped
pub record HasTrapped (u : UnitCode) (i : Instruction) (z : At) (kind : TrapKind) (old : Own) (s : Stored) (new : Own) (t : Stored) (later : Names) (k : Heap) : Type 0 where
  -- what it has made
  pub grows : Grows z.names z.mark s z.heap later t k
  -- that is what is meant
  pub means : meant u i z old s.limit ≡ Fails (Trapped kind z.at) z.turns new.printed k

-- what has come of the instruction
abbrev pub Comes : UnitCode → Instruction → At → Own → Stored → Own → Stored → Step → Type 0
Comes u i z old s new t steps.Goes = (later : Names) × (next : Mark) × (k : Heap) × HasGone u i z old s new t later next k
Comes u i z old s new t (steps.Traps kind) = (later : Names) × (k : Heap) × HasTrapped u i z kind old s new t later k
Comes u i z old s new t steps.Full = meant u i z old s.limit ≡ Full
Comes u i z old s new t steps.Sticks = meant u i z old s.limit ≡ Stuck

-- the same at every moment of which the branch and the objects are
abbrev pub IsStep : UnitCode → Instruction → Own → Stored → Own → Stored → Step → Type 0
IsStep u i old s new t r = (z : At) → IsTied z.names z.mark old s z.heap → Comes u i z old s new t r

-- the same of a statement that may be a simple one
abbrev pub MayStep : UnitCode → Option Instruction → Own → Stored → Own → Stored → Option Step → Type 0
MayStep u None old s new t r = (r ≡ None) × (new ≡ old) × (t ≡ s)
MayStep u (Some i) old s new t r = (q : Step) × (r ≡ Some q) × IsStep u i old s new t q
