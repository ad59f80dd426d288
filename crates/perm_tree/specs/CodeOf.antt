-- The code of a unit, made from its flat lists and its tables: the shape of its statements, blocks and methods.
use Rattle.std.specs.Prelude.{ℕ, List, [], ◌∷◌, ◌++◌, map, get_or, Option, Some, None}
use Rattle.perm_tree.specs.declared.ast.Stmt.{Stmt}
use Rattle.perm_tree.specs.declared.ast.StmtKind.{StmtKind}
use Rattle.perm_tree.specs.declared.ast.StmtKind.TheVariants.{Declare as DeclareStmt, Assign as AssignStmt, SetField, SetItem, Call as CallStmt, Print as PrintStmt, If as IfStmt, While as WhileStmt, Par as ParStmt}
use Rattle.perm_tree.specs.declared.ast.Rhs.{Rhs}
use Rattle.perm_tree.specs.declared.ast.Rhs.TheVariants.{Value, Field, TakeField as TakeRhs, Item, New, NewArray as NewArrayRhs, Call as CallRhs, Recover as RecoverRhs}
use Rattle.perm_tree.specs.declared.ast.Method.{Method}
use Rattle.perm_tree.specs.declared.unit.MethodTable.{MethodTable}
use Rattle.perm_tree.specs.Code.{Declare, Assign, LoadItem, TakeField, NewObject, NewArray, StoreField, StoreItem, Print, Code, End, Give, Return, Do, If, While, Par, Recover, Routine, UnitCode}
use Rattle.perm_tree.specs.CodeNames.{Setting, setting, term_at, var_at, field_at, argument, call, read, own_vars, tied_before}
use Rattle.perm_tree.specs.Entries.{entries_of}
use Rattle.perm_tree.specs.Lookup.{class_place, method_of, main_place, run_place}
use Rattle.perm_tree.specs.Scopes.{else_stmts}
use Rattle.perm_tree.specs.UnitTables.{Tables}

-- ---------- statements ----------
-- the statements of a block, each by its place, before an end
abbrev pub sequence : List (Code → Code) → List ℕ → Code → Code
sequence codes [] end = end
sequence codes (i ∷ is) end = get_or codes i (λ c. c) (sequence codes is end)

-- the code of an assignment to x, by the codes of the statements that stand before it
abbrev pub assignment : Setting → List (Code → Code) → Stmt → ℕ → Rhs → Code → Code
assignment k codes s x (Value a) rest = Do s.span (Assign x (argument k a)) rest
assignment k codes s x (Field y f) rest = Do s.span (read k x y f) rest
assignment k codes s x (TakeRhs y f) rest = Do s.span (TakeField x (var_at k y) (field_at k y f)) rest
assignment k codes s x (Item y e) rest = Do s.span (LoadItem x (var_at k y) (term_at k e)) rest
assignment k codes s x (New c) rest = Do s.span (NewObject x (class_place k.tables.program c.name)) rest
assignment k codes s x (NewArrayRhs e) rest = Do s.span (NewArray x (term_at k e)) rest
assignment k codes s x (CallRhs c) rest = Do s.span (call k (Some x) c) rest
assignment k codes s x (RecoverRhs b w give) rest =
    Recover s.head x (own_vars k b.stmts) (tied_before s.head.end 0 k.vars) (sequence codes b.stmts (Give give (var_at k w) x)) rest

-- the code of a statement before a rest, by the codes of the statements that stand before it
abbrev pub kind_code : Setting → List (Code → Code) → Stmt → StmtKind → Code → Code
kind_code k codes s (DeclareStmt t x) rest = Do s.span (Declare (var_at k x)) rest
kind_code k codes s (AssignStmt t x r) rest = assignment k codes s (var_at k x) r rest
kind_code k codes s (SetField y f a) rest = Do s.span (StoreField (var_at k y) (field_at k y f) (argument k a)) rest
kind_code k codes s (SetItem y i e) rest = Do s.span (StoreItem (var_at k y) (term_at k i) (term_at k e)) rest
kind_code k codes s (CallStmt c) rest = Do s.span (call k None c) rest
kind_code k codes s (PrintStmt e) rest = Do s.span (Print (term_at k e)) rest
kind_code k codes s (IfStmt e a b) rest =
    If s.head (term_at k e) (own_vars k a.stmts) (sequence codes a.stmts End) (own_vars k (else_stmts b)) (sequence codes (else_stmts b) End) rest
kind_code k codes s (WhileStmt e a) rest = While s.head (term_at k e) (own_vars k a.stmts) (sequence codes a.stmts End) rest
kind_code k codes s (ParStmt a b) rest =
    Par s.head (own_vars k a.stmts) (sequence codes a.stmts End) (own_vars k b.stmts) (sequence codes b.stmts End) rest

-- the codes of all statements, each before any rest
abbrev pub codes_of : Setting → List (Code → Code)
codes_of k = entries_of (λ codes s. kind_code k codes s s.kind) k.tables.program.stmts

-- the code of the statement at a place, before a rest
abbrev pub stmt_code : Setting → ℕ → Code → Code
stmt_code k at = get_or (codes_of k) at (λ c. c)

-- the code of the statements of a block, before an end
abbrev pub block_code : Setting → List ℕ → Code → Code
block_code k is = sequence (codes_of k) is

-- ---------- methods ----------
-- the routine of a method with its table
abbrev pub routine : Tables → MethodTable → Method → Routine
routine u t d =
    let k = setting u t.vars in
    record {
      class = t.class;
      receiver = d.receiver;
      result = d.result;
      params = map (λ f. f.ty) d.params;
      vars = map (λ v. v.ty) t.vars;
      code = block_code k d.body.stmts (Return d.span (argument k d.back));
    }

-- the same where there is such a method
abbrev pub routine_if : Tables → MethodTable → Option Method → List Routine
routine_if u t None = []
routine_if u t (Some d) = routine u t d ∷ []

-- the methods of some tables
abbrev pub routines_of : Tables → List MethodTable → List Routine
routines_of u [] = []
routines_of u (t ∷ ts) = routine_if u t (method_of u.program t) ++ routines_of u ts

-- the code of a unit
abbrev pub code_of : Tables → UnitCode
code_of u = record {
  classes = map (λ c. map (λ f. f.ty) c.fields) u.program.classes;
  routines = routines_of u u.tables;
  main = main_place u.program;
  run = run_place u;
}
