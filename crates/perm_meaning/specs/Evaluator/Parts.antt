-- The blocks of a method by their statements, and the code from a place in one on.
use Rattle.std.specs.Prelude.{ℕ, List, [], drop, Option, Some, None, slice_get}
use Rattle.perm_tree.specs.declared.ast.Method.{Method}
use Rattle.perm_tree.specs.declared.ast.Rhs.{Rhs}
use Rattle.perm_tree.specs.declared.ast.Rhs.TheVariants.{Recover}
use Rattle.perm_tree.specs.declared.ast.Stmt.{Stmt}
use Rattle.perm_tree.specs.declared.ast.StmtKind.{StmtKind}
use Rattle.perm_tree.specs.declared.ast.StmtKind.TheVariants.{Assign, If, While, Par}
use Rattle.perm_tree.specs.Code.{Code, End, Give, Return}
use Rattle.perm_tree.specs.CodeNames.{Setting, argument, own_vars, var_at}
use Rattle.perm_tree.specs.CodeOf.{block_code}
use Rattle.perm_tree.specs.InBody.{body_if, method_at, setting_at}
use Rattle.perm_tree.specs.Scopes.{else_stmts}
use Rattle.perm_tree.specs.UnitTables.{Tables}
use Rattle.perm_meaning.specs.declared.eval.parts.Part.{Part}
use Rattle.perm_meaning.specs.declared.eval.parts.Part.TheVariants as parts

-- ---------- statements ----------
-- those of a recover block
abbrev pub recover_stmts : Rhs → List ℕ
recover_stmts (Recover b w give) = b.stmts
recover_stmts r = []

-- those of the first block of a statement
abbrev pub first_stmts : StmtKind → List ℕ
first_stmts (If e a b) = a.stmts
first_stmts (While e a) = a.stmts
first_stmts (Par a b) = a.stmts
first_stmts (Assign t x r) = recover_stmts r
first_stmts kind = []

-- those of its second block
abbrev pub second_stmts : StmtKind → List ℕ
second_stmts (If e a b) = else_stmts b
second_stmts (Par a b) = b.stmts
second_stmts kind = []

-- the same of a statement that may be there
abbrev pub first_if : Option Stmt → List ℕ
first_if None = []
first_if (Some s) = first_stmts s.kind

-- the same of the second block
abbrev pub second_if : Option Stmt → List ℕ
second_if None = []
second_if (Some s) = second_stmts s.kind

-- the statements of a part of a method
abbrev pub stmts_in : Tables → ℕ → Part → List ℕ
stmts_in u m parts.Body = body_if (method_at u m)
stmts_in u m (parts.First i) = first_if (slice_get u.program.stmts i)
stmts_in u m (parts.Second i) = second_if (slice_get u.program.stmts i)

-- the variables that a part of a method itself declares
abbrev pub own_in : Tables → ℕ → Part → List ℕ
own_in u m p = own_vars (setting_at u m) (stmts_in u m p)

-- ---------- how a part ends ----------
-- a method ends with its `return`
abbrev pub return_if : Setting → Option Method → Code
return_if k None = End
return_if k (Some d) = Return d.span (argument k d.back)

-- a recover block that gives x a value ends with its `give`
abbrev pub give_of : Setting → ℕ → Rhs → Code
give_of k x (Recover b w give) = Give give (var_at k w) x
give_of k x r = End

-- the first block of a statement
abbrev pub first_end : Setting → StmtKind → Code
first_end k (Assign t x r) = give_of k (var_at k x) r
first_end k kind = End

-- the same of one that may be there
abbrev pub first_end_if : Setting → Option Stmt → Code
first_end_if k None = End
first_end_if k (Some s) = first_end k s.kind

-- how a part of a method ends
abbrev pub end_in : Tables → ℕ → Part → Code
end_in u m parts.Body = return_if (setting_at u m) (method_at u m)
end_in u m (parts.First i) = first_end_if (setting_at u m) (slice_get u.program.stmts i)
end_in u m (parts.Second i) = End

-- ---------- code ----------
-- the code of a part of a method from a place on
abbrev pub code_from : Tables → ℕ → Part → ℕ → Code
code_from u m p at = block_code (setting_at u m) (drop at (stmts_in u m p)) (end_in u m p)
