-- The numbers in the code of a resolved unit have 64 bits.
use Rattle.std.proofs.Common.{◌≡◌, ℕ, zero, suc, Bool, true, false, List, [], ◌∷◌, ◌++◌, Option, Some, None, refl, get_or}
use Rattle.std.specs.Prelude.{cond, ◌&&◌, map, slice_get}
use Rattle.perm_tree.specs.declared.ast.Arg.{Arg}
use Rattle.perm_tree.specs.declared.ast.Arg.TheVariants.{Expr as Plain, Consume}
use Rattle.perm_tree.specs.declared.ast.Expr.{Expr}
use Rattle.perm_tree.specs.declared.ast.Expr.TheVariants.{Number, Bool as Truth, Null, Var, Unary as UnaryExpr, Binary as BinaryExpr}
use Rattle.perm_tree.specs.declared.ast.Method.{Method}
use Rattle.perm_tree.specs.declared.ast.Rhs.{Rhs}
use Rattle.perm_tree.specs.declared.ast.Rhs.TheVariants.{Value, Field, TakeField as TakeRhs, Item, New, NewArray as NewArrayRhs, Call as CallRhs, Recover as RecoverRhs}
use Rattle.perm_tree.specs.declared.ast.Stmt.{Stmt}
use Rattle.perm_tree.specs.declared.ast.StmtKind.{StmtKind}
use Rattle.perm_tree.specs.declared.ast.StmtKind.TheVariants.{Declare as DeclareStmt, Assign as AssignStmt, SetField, SetItem, Call as CallStmt, Print as PrintStmt, If as IfStmt, While as WhileStmt, Par as ParStmt}
use Rattle.perm_tree.specs.declared.unit.MethodTable.{MethodTable}
use Rattle.perm_tree.specs.declared.unit.VarInfo.{VarInfo}
use Rattle.perm_tree.specs.Code.{Term, NullLit, Instruction, LoadField, LoadLength, Code, End, Give, Return}
use Rattle.perm_tree.specs.CodeNames.{term_of, Setting, setting, var_at, ty_at, field_at, argument}
use Rattle.perm_tree.specs.CodeOf.{sequence, assignment, kind_code, codes_of, routine, routine_if, routines_of, code_of}
use Rattle.perm_tree.specs.Entries.{entries_from}
use Rattle.perm_tree.specs.Lookup.{is_array, method_of}
use Rattle.perm_tree.specs.Places.{IsPlaced, LiteralFits}
use Rattle.perm_tree.specs.Resolves.{IsResolved}
use Rattle.perm_tree.specs.Scopes.{else_stmts}
use Rattle.perm_tree.specs.Spelling.{is_word, length_word}
use Rattle.perm_tree.specs.UnitTables.{Tables}
use Rattle.perm_meaning.specs.Literals.{TermFits, ArgumentFits, ArgumentsFit, InstructionFits, CodeFits, RoutinesFit, UnitFits}

-- ---------- expressions ----------
abbrev AllTermsFit : List Term → Type 0
AllTermsFit [] = Unit {0}
AllTermsFit (e ∷ es) = TermFits e × AllTermsFit es

term-at : (es : List Term) (at : ℕ) → AllTermsFit es → TermFits (get_or es at NullLit)
term-at [] at all = tt
term-at (e ∷ es) zero all = all.0
term-at (e ∷ es) (suc at) all = term-at es at all.1

terms-append : (es : List Term) (e : Term) → AllTermsFit es → TermFits e → AllTermsFit (es ++ e ∷ [])
terms-append [] e all more = (more, tt)
terms-append (d ∷ es) e all more = (all.0, terms-append es e all.1 more)

term-fits : (vars : List VarInfo) (before : List Term) (e : Expr) → LiteralFits e → AllTermsFit before → TermFits (term_of vars before e)
term-fits vars before (Number n) fits all = fits
term-fits vars before (Truth b) fits all = tt
term-fits vars before Null fits all = tt
term-fits vars before (Var x) fits all = tt
term-fits vars before (UnaryExpr op a) fits all = term-at before a all
term-fits vars before (BinaryExpr op a b) fits all = (term-at before a all, term-at before b all)

terms-fit : (vars : List VarInfo) (before : List Term) (es : List Expr) → ((at : ℕ) (e : Expr) → slice_get es at ≡ Some e → LiteralFits e) → AllTermsFit before → AllTermsFit (entries_from (term_of vars) before es)
terms-fit vars before [] fits all = all
terms-fit vars before (e ∷ es) fits all =
    terms-fit vars (before ++ term_of vars before e ∷ []) es (λ at x here. fits (suc at) x here) (terms-append before (term_of vars before e) all (term-fits vars before e (fits zero e refl) all))

-- ---------- statements ----------
-- before a rest whose numbers fit, so do those of the whole
abbrev KeepsFit : (Code → Code) → Type 0
KeepsFit f = (rest : Code) → CodeFits rest → CodeFits (f rest)

abbrev AllKeepFit : List (Code → Code) → Type 0
AllKeepFit [] = Unit {0}
AllKeepFit (f ∷ fs) = KeepsFit f × AllKeepFit fs

code-at : (fs : List (Code → Code)) (at : ℕ) → AllKeepFit fs → KeepsFit (get_or fs at (λ c. c))
code-at [] at all rest fits = fits
code-at (f ∷ fs) zero all rest fits = all.0 rest fits
code-at (f ∷ fs) (suc at) all rest fits = code-at fs at all.1 rest fits

codes-append : (fs : List (Code → Code)) (f : Code → Code) → AllKeepFit fs → KeepsFit f → AllKeepFit (fs ++ f ∷ [])
codes-append [] f all more = (more, tt)
codes-append (g ∷ fs) f all more = (all.0, codes-append fs f all.1 more)

sequence-fits : (fs : List (Code → Code)) (is : List ℕ) → AllKeepFit fs → KeepsFit (sequence fs is)
sequence-fits fs [] all rest fits = fits
sequence-fits fs (i ∷ is) all rest fits = code-at fs i all (sequence fs is rest) (sequence-fits fs is all rest fits)

either-fits : (b : Bool) (i j : Instruction) → InstructionFits i → InstructionFits j → InstructionFits (cond b i j)
either-fits true i j left right = left
either-fits false i j left right = right

module _ (k : Setting) (terms : AllTermsFit k.terms) where
  argument-fits : (a : Arg) → ArgumentFits (argument k a)
  argument-fits (Plain e) = term-at k.terms e terms
  argument-fits (Consume y) = tt

  arguments-fit : (list : List Arg) → ArgumentsFit (map (argument k) list)
  arguments-fit [] = tt
  arguments-fit (a ∷ list) = (argument-fits a, arguments-fit list)

  module _ (fs : List (Code → Code)) (all : AllKeepFit fs) (s : Stmt) where
    assignment-fits : (x : ℕ) (r : Rhs) → KeepsFit (assignment k fs s x r)
    assignment-fits x (Value a) rest fits = (argument-fits a, fits)
    assignment-fits x (Field y f) rest fits = (
      either-fits (is_array (ty_at k y) && is_word k.tables.program.names length_word f.name) (LoadLength x (var_at k y)) (LoadField x (var_at k y) (field_at k y f)) tt tt,
      fits,
    )
    assignment-fits x (TakeRhs y f) rest fits = (tt, fits)
    assignment-fits x (Item y e) rest fits = (term-at k.terms e terms, fits)
    assignment-fits x (New c) rest fits = (tt, fits)
    assignment-fits x (NewArrayRhs e) rest fits = (term-at k.terms e terms, fits)
    assignment-fits x (CallRhs c) rest fits = (arguments-fit c.args, fits)
    assignment-fits x (RecoverRhs b w give) rest fits = (sequence-fits fs b.stmts all (Give give (var_at k w) x) tt, fits)

    kind-fits : (kind : StmtKind) → KeepsFit (kind_code k fs s kind)
    kind-fits (DeclareStmt t x) rest fits = (tt, fits)
    kind-fits (AssignStmt t x r) rest fits = assignment-fits (var_at k x) r rest fits
    kind-fits (SetField y f a) rest fits = (argument-fits a, fits)
    kind-fits (SetItem y i e) rest fits = ((term-at k.terms i terms, term-at k.terms e terms), fits)
    kind-fits (CallStmt c) rest fits = (arguments-fit c.args, fits)
    kind-fits (PrintStmt e) rest fits = (term-at k.terms e terms, fits)
    kind-fits (IfStmt e a b) rest fits = (term-at k.terms e terms, sequence-fits fs a.stmts all End tt, sequence-fits fs (else_stmts b) all End tt, fits)
    kind-fits (WhileStmt e a) rest fits = (term-at k.terms e terms, sequence-fits fs a.stmts all End tt, fits)
    kind-fits (ParStmt a b) rest fits = (sequence-fits fs a.stmts all End tt, sequence-fits fs b.stmts all End tt, fits)

  codes-fit : (before : List (Code → Code)) (ss : List Stmt) → AllKeepFit before → AllKeepFit (entries_from (λ fs s. kind_code k fs s s.kind) before ss)
  codes-fit before [] all = all
  codes-fit before (s ∷ ss) all = codes-fit (before ++ kind_code k before s s.kind ∷ []) ss (codes-append before (kind_code k before s s.kind) all (kind-fits before all s s.kind))

-- ---------- methods ----------
routine-fits : (u : Tables) (t : MethodTable) (d : Method) → IsPlaced u.program → CodeFits (routine u t d).code
routine-fits u t d placed =
    let k : Setting = setting u t.vars in
    let terms : AllTermsFit k.terms = terms-fit t.vars [] u.program.exprs placed.literals tt in
    sequence-fits (codes_of k) d.body.stmts (codes-fit k terms [] u.program.stmts tt) (Return d.span (argument k d.back)) (argument-fits k terms d.back)

routines-fit : (u : Tables) (ts : List MethodTable) → IsPlaced u.program → RoutinesFit (routines_of u ts)
routines-fit u [] placed = tt
routines-fit u (t ∷ ts) placed = by (method_of u.program t) (routines-fit u ts placed)
  where
    by : (o : Option Method) → RoutinesFit (routines_of u ts) → RoutinesFit (routine_if u t o ++ routines_of u ts)
    by None later = later
    by (Some d) later = (routine-fits u t d placed, later)

-- so it is of all methods of a resolved unit
pub IsResolved-fits : (u : Tables) → IsResolved u → UnitFits (code_of u)
IsResolved-fits u is = routines-fit u u.tables is.formed.placed
