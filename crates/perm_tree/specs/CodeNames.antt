-- What the names in the body of a method mean in its code: expressions, arguments, calls and variables, each name a number.
use Rattle.std.specs.Prelude.{ℕ, suc, Bool, true, false, ◌&&◌, nat_lt, List, [], ◌∷◌, ◌++◌, map, get_or, Option, cond}
use Rattle.std.specs.List.{list_all}
use Rattle.perm_tree.specs.declared.ast.Ident.{Ident}
use Rattle.perm_tree.specs.declared.ast.Perm.TheVariants.{Readable, Writable}
use Rattle.perm_tree.specs.declared.ast.Ty.{Ty}
use Rattle.perm_tree.specs.declared.ast.Ty.TheVariants.{Ref}
use Rattle.perm_tree.specs.declared.ast.Expr.{Expr}
use Rattle.perm_tree.specs.declared.ast.Expr.TheVariants.{Number, Bool as Truth, Null, Var, Unary as UnaryExpr, Binary as BinaryExpr}
use Rattle.perm_tree.specs.declared.ast.Arg.{Arg}
use Rattle.perm_tree.specs.declared.ast.Arg.TheVariants.{Expr as Plain, Consume}
use Rattle.perm_tree.specs.declared.ast.Call.{Call}
use Rattle.perm_tree.specs.declared.unit.VarInfo.{VarInfo}
use Rattle.perm_tree.specs.Code.{Term, LongLit, BoolLit, NullLit, Local, Unary, Binary, Argument, Expression, Consumed, Instruction, LoadField, LoadLength, Invoke, Tie}
use Rattle.perm_tree.specs.Entries.{entries_of}
use Rattle.perm_tree.specs.Lookup.{var_place, var_ty, field_place, is_array, method_place}
use Rattle.perm_tree.specs.Scopes.{declared_at}
use Rattle.perm_tree.specs.Spelling.{length_word, is_word}
use Rattle.perm_tree.specs.Ties.{is_harmless, tie_of}
use Rattle.perm_tree.specs.UnitTables.{Tables}

-- ---------- expressions ----------
-- the term of an expression, by the terms of those that stand before it
abbrev pub term_of : List VarInfo → List Term → Expr → Term
term_of vars terms (Number n) = LongLit n
term_of vars terms (Truth b) = BoolLit b
term_of vars terms Null = NullLit
term_of vars terms (Var x) = Local (var_place vars x)
term_of vars terms (UnaryExpr op a) = Unary op (get_or terms a NullLit)
term_of vars terms (BinaryExpr op a b) = Binary op (get_or terms a NullLit) (get_or terms b NullLit)

-- the terms of all expressions, with the variables of one method
abbrev pub terms_of : List VarInfo → List Expr → List Term
terms_of vars exprs = entries_of (term_of vars) exprs

-- ---------- simple statements ----------
-- what the code of a method is made with: the unit, the method's variables, and the terms of all expressions
pub record Setting : Type 0 where
  pub tables : Tables
  pub vars : List VarInfo
  pub terms : List Term

-- the setting of a method with these variables
abbrev pub setting : Tables → List VarInfo → Setting
setting u vars = record { tables = u; vars = vars; terms = terms_of vars u.program.exprs }

-- the term of the expression at a place
abbrev pub term_at : Setting → ℕ → Term
term_at k e = get_or k.terms e NullLit

-- the number of the variable of a name where it stands
abbrev pub var_at : Setting → Ident → ℕ
var_at k i = var_place k.vars i

-- its declared type
abbrev pub ty_at : Setting → Ident → Option Ty
ty_at k i = var_ty k.vars (var_at k i)

-- the number of a field of it
abbrev pub field_at : Setting → Ident → Ident → ℕ
field_at k y f = field_place k.tables.program (ty_at k y) f.name

-- an argument with its names resolved
abbrev pub argument : Setting → Arg → Argument
argument k (Plain e) = Expression (term_at k e)
argument k (Consume y) = Consumed (var_at k y)

-- the tie of a call on y with these arguments
abbrev pub call_tie : Setting → Ident → Bool → List Argument → Tie
call_tie k y consumed args = tie_of (ty_at k y) consumed (list_all (is_harmless (var_ty k.vars)) args)

-- a call, whose result goes into a variable or nowhere
abbrev pub call : Setting → Option ℕ → Call → Instruction
call k into c =
    let args = map (argument k) c.args in
    Invoke into (call_tie k c.on c.consumed args) c.consumed (var_at k c.on) (method_place k.tables (ty_at k c.on) c.«method».name) args

-- `Length` of an array is no field
abbrev pub read : Setting → ℕ → Ident → Ident → Instruction
read k x y f =
    cond (is_array (ty_at k y) && is_word k.tables.program.names length_word f.name)
    (LoadLength x (var_at k y))
    (LoadField x (var_at k y) (field_at k y f))

-- ---------- variables ----------
-- the variables that a block itself declares
abbrev pub own_vars : Setting → List ℕ → List ℕ
own_vars k [] = []
own_vars k (i ∷ is) = map (λ d. var_at k d.name) (declared_at k.tables.program.stmts i) ++ own_vars k is

-- a variable of this type is hidden within the recover blocks that come after it
abbrev pub is_tied : Ty → Bool
is_tied (Ref Readable k) = true
is_tied (Ref Writable k) = true
is_tied _ = false

-- one more number in front, where a test holds
abbrev pub listed_if : Bool → ℕ → List ℕ → List ℕ
listed_if true x xs = x ∷ xs
listed_if false x xs = xs

-- the writable and readable variables that are declared before a place, where the first variable has number n
abbrev pub tied_before : ℕ → ℕ → List VarInfo → List ℕ
tied_before at n [] = []
tied_before at n (v ∷ vs) = listed_if (nat_lt v.declared.start at && is_tied v.ty) n (tied_before at (suc n) vs)
