-- Why code has to be steady: hand-built code that isn't ends otherwise in the core than it means.
use Rattle.std.specs.Prelude.{◌≡◌, ℕ, true, pos, [], ◌∷◌, Option, Some, None, option_and_then, refl}
use Rattle.perm_tree.specs.declared.ast.Span.{Span}
use Rattle.perm_tree.specs.declared.ast.BinaryOp.TheVariants.{Equal}
use Rattle.perm_tree.specs.declared.ast.Perm.TheVariants.{Isolated, Immutable, Writable}
use Rattle.perm_tree.specs.declared.ast.Shape.TheVariants.{Class, Array}
use Rattle.perm_tree.specs.declared.ast.Ty.TheVariants.{Long, Bool as Boolean, Ref}
use Rattle.perm_tree.specs.Code.{LongLit, BoolLit, NullLit, Local, Binary, Expression, Lends, Assign, NewObject, Invoke, Code, End, Return, Give, Do, If, Par, Recover, Routine, UnitCode}
use Rattle.perm_meaning.specs.declared.End.{End as Ending}
use Rattle.perm_meaning.specs.declared.End.TheVariants.{Done}
use Rattle.perm_meaning.specs.NamedHeap.{memory}
use Rattle.perm_meaning.specs.Steps.{within, alone}
use Rattle.perm_meaning.specs.Outcome.{Outcome, Ran, RanStuck, outcome, opening_state}
use Rattle.perm_core.specs.Core.{core, core_outcome}

abbrev at : Span
at = record { start = 0; end = 0 }

-- variables: `this`, the input, an isolated reference, a truth value, a number, another isolated reference
abbrev routine_of : Code → Routine
routine_of c = record { class = 0; receiver = Writable; result = Long; params = Ref Immutable Array ∷ []; vars = Ref Writable (Class 0) ∷ Ref Immutable Array ∷ Ref Isolated (Class 0) ∷ Boolean ∷ Long ∷ Ref Isolated (Class 0) ∷ []; code = c }

-- a method without parameters that gives 0
abbrev callee : Routine
callee = record { class = 0; receiver = Isolated; result = Long; params = []; vars = Ref Isolated (Class 0) ∷ []; code = Return at (Expression (LongLit (pos 0))) }

abbrev unit_of : Code → UnitCode
unit_of c = record { classes = [] ∷ []; routines = routine_of c ∷ callee ∷ []; main = 0; run = 0 }

-- how a run ends
abbrev ending : Outcome → Option Ending
ending (Ran r) = Some r.ending
ending o = None

-- how the code ends by its meaning
abbrev means : Code → Option Ending
means c = ending (outcome (unit_of c) [] 100 100)

-- how it ends in the core, left first after so many events
abbrev goes : ℕ → Code → Option Ending
goes n c = option_and_then ending (option_and_then (core_outcome 100) (alone (core (unit_of c)) (memory (unit_of c)) (within 100) n (opening_state (unit_of c) [] 100 (routine_of c))))

-- 1 where the isolated variable is null, otherwise 2
abbrev tell : Code
tell = If at (Binary Equal (Local 2) NullLit) [] (Do at (Assign 4 (Expression (LongLit (pos 1)))) End) [] (Do at (Assign 4 (Expression (LongLit (pos 2)))) End) (Return at (Expression (Local 4)))

-- ---------- a par whose left block writes what the right one reads ----------
abbrev shared : Code
shared = Do at (NewObject 2 0) (Par at [] (Do at (Assign 2 (Expression NullLit)) End) [] (Do at (Assign 3 (Expression (Binary Equal (Local 2) NullLit))) End) tell)

shared-means : means shared ≡ Some (Done (pos 1))
shared-means = refl

shared-goes : goes 8 shared ≡ Some (Done (pos 2))
shared-goes = refl

-- ---------- a consumed receiver that is lent ----------
abbrev lent : Code
lent = Do at (NewObject 2 0) (Do at (Invoke None Lends true 2 1 []) tell)

lent-means : outcome (unit_of lent) [] 100 100 ≡ RanStuck
lent-means = refl

lent-goes : goes 6 lent ≡ Some (Done (pos 2))
lent-goes = refl

-- ---------- a recover block within which a hidden variable is declared ----------
abbrev declared : Code
declared = Do at (Assign 4 (Expression (LongLit (pos 5)))) (Recover at 2 (5 ∷ []) (4 ∷ []) (If at (BoolLit true) (4 ∷ []) End [] End (Do at (NewObject 5 0) (Give at 5 2))) (Return at (Expression (Local 4))))

declared-means : outcome (unit_of declared) [] 100 100 ≡ RanStuck
declared-means = refl

declared-goes : goes 6 declared ≡ Some (Done (pos 5))
declared-goes = refl
