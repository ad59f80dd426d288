-- Simple statements of a program, without calls.
use Rattle.std.specs.Prelude.{◌≡◌, ℕ, List, Option, Some, None}
use Rattle.perm_tree.specs.declared.ast.Rhs.{Rhs}
use Rattle.perm_tree.specs.declared.ast.Rhs.TheVariants.{Value, Field, TakeField as TakeRhs, Item, New, NewArray as NewArrayRhs, Call as CallRhs, Recover}
use Rattle.perm_tree.specs.declared.ast.StmtKind.{StmtKind}
use Rattle.perm_tree.specs.declared.ast.StmtKind.TheVariants.{Declare as DeclareStmt, Assign as AssignStmt, SetField, SetItem, Call as CallStmt, Print as PrintStmt, If, While, Par}
use Rattle.perm_tree.specs.Code.{Argument, Expression, Consumed, Instruction, Declare, Assign, LoadItem, TakeField, NewObject, NewArray, StoreField, StoreItem, Print, UnitCode}
use Rattle.perm_tree.specs.CodeNames.{Setting, term_at, var_at, field_at, argument, read}
use Rattle.perm_tree.specs.Lookup.{class_place}
use Rattle.perm_meaning.specs.declared.eval.asks.Asked.{Asked}
use Rattle.perm_meaning.specs.declared.eval.own.Own.{Own}
use Rattle.perm_meaning.specs.Evaluator.Asks.{asked_by}
use Rattle.perm_meaning.specs.Effects.{effect}
use Rattle.perm_meaning.specs.Expressions.{tagged, clear}
use Rattle.perm_meaning.specs.NamedHeap as heaps
use Rattle.perm_meaning.specs.NamedHeap.{Held, marks}
use Rattle.perm_meaning.specs.Names.{Mark}
use Rattle.perm_meaning.specs.Evaluator.NumberedValues.{all_by, Names}

-- what turns may change of a branch with this mark
abbrev pub own_by : Names → Mark → Own → heaps.Own
own_by names mark o = record { vars = all_by names o.vars; routine = o.«method»; depth = o.depth; printed = o.printed; mark = mark }

-- the variables after an argument is evaluated
abbrev pub after_argument : Argument → List Held → List Held
after_argument (Expression e) vs = vs
after_argument (Consumed y) vs = clear tagged vs y

-- ---------- instructions ----------
-- what an assignment to x does, if it is simple and no call
abbrev pub assignment_to : Setting → ℕ → Rhs → Option Instruction
assignment_to k x (Value a) = Some (Assign x (argument k a))
assignment_to k x (Field y f) = Some (read k x y f)
assignment_to k x (TakeRhs y f) = Some (TakeField x (var_at k y) (field_at k y f))
assignment_to k x (Item y e) = Some (LoadItem x (var_at k y) (term_at k e))
assignment_to k x (New c) = Some (NewObject x (class_place k.tables.program c.name))
assignment_to k x (NewArrayRhs e) = Some (NewArray x (term_at k e))
assignment_to k x (CallRhs c) = None
assignment_to k x (Recover b w give) = None

-- what a statement does, if it is simple and no call
abbrev pub simple_of : Setting → StmtKind → Option Instruction
simple_of k (DeclareStmt t x) = Some (Declare (var_at k x))
simple_of k (AssignStmt t x r) = assignment_to k (var_at k x) r
simple_of k (SetField y f a) = Some (StoreField (var_at k y) (field_at k y f) (argument k a))
simple_of k (SetItem y i e) = Some (StoreItem (var_at k y) (term_at k i) (term_at k e))
simple_of k (CallStmt c) = None
simple_of k (PrintStmt e) = Some (Print (term_at k e))
simple_of k (If e a b) = None
simple_of k (While e a) = None
simple_of k (Par a b) = None

-- ---------- what is asked ----------
-- the turn of an instruction at what a branch has
abbrev pub Asks : UnitCode → Instruction → Own → Own → Asked → Type 0
Asks u i old new q = (names : Names) (mark : Mark) → effect tagged u marks i (own_by names mark old) ≡ asked_by u names (own_by names mark new) q

-- the same of a statement that may be a simple one; if it is none, the branch is as it was
abbrev pub MayAsk : UnitCode → Option Instruction → Own → Own → Option Asked → Type 0
MayAsk u None old new q = (q ≡ None) × (new ≡ old)
MayAsk u (Some i) old new q = (a : Asked) × (q ≡ Some a) × Asks u i old new a
