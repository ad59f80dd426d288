-- Call statements of a program.
use Rattle.std.specs.Prelude.{◌≡◌, ℕ, Option, Some, None}
use Rattle.perm_tree.specs.declared.ast.Rhs.{Rhs}
use Rattle.perm_tree.specs.declared.ast.Rhs.TheVariants as rhs
use Rattle.perm_tree.specs.declared.ast.StmtKind.{StmtKind}
use Rattle.perm_tree.specs.declared.ast.StmtKind.TheVariants as kinds
use Rattle.perm_tree.specs.Code.{Instruction, UnitCode}
use Rattle.perm_tree.specs.CodeNames.{Setting, call, var_at}
use Rattle.perm_meaning.specs.declared.eval.calls.Callee.{Callee}
use Rattle.perm_meaning.specs.declared.eval.own.Own.{Own}
use Rattle.perm_meaning.specs.Evaluator.BegunCalls.{IsCallOf}
use Rattle.perm_meaning.specs.Effects.{effect}
use Rattle.perm_meaning.specs.Expressions.{tagged}
use Rattle.perm_meaning.specs.NamedHeap.{marks}
use Rattle.perm_meaning.specs.Names.{Mark}
use Rattle.perm_meaning.specs.Evaluator.NumberedValues.{Names}
use Rattle.perm_meaning.specs.Evaluator.SimpleStatements.{own_by}

-- the call that an assignment to x makes, if it makes one
abbrev pub call_into : Setting → ℕ → Rhs → Option Instruction
call_into k x (rhs.Call c) = Some (call k (Some x) c)
call_into k x r = None

-- the call that a statement makes, if it makes one
abbrev pub call_in : Setting → StmtKind → Option Instruction
call_in k (kinds.Call c) = Some (call k None c)
call_in k (kinds.Assign t x r) = call_into k (var_at k x) r
call_in k kind = None

-- the turn of a call at what a branch has is what is found of it, with what the branch has then
abbrev pub Invokes : UnitCode → Instruction → Own → Own → Callee → Type 0
Invokes u i old new c = (names : Names) (mark : Mark) → IsCallOf names u (own_by names mark new) c (effect tagged u marks i (own_by names mark old))

-- the same of a statement that may be a call; if it is none, the branch is as it was
abbrev pub MayInvoke : UnitCode → Option Instruction → Own → Own → Option Callee → Type 0
MayInvoke u None old new c = (c ≡ None) × (new ≡ old)
MayInvoke u (Some i) old new c = (a : Callee) × (c ≡ Some a) × Invokes u i old new a
