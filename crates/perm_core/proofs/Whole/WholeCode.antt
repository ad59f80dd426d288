-- The code of a method of a resolved unit ends by its return, and each of its calls is tied as the types of its variables say.
use Rattle.std.proofs.Common.{◌≡◌, ℕ, Bool, true, false, List, [], ◌∷◌, Option, Some, None, refl, subst, get_or, ◌∙◌}
use Rattle.std.specs.Prelude.{◌&&◌, cond, map, option_map, slice_get}
use Rattle.std.specs.List.{list_all}
use Rattle.std.proofs.lemmas.Option.{slice_get-map}
use Rattle.perm_tree.specs.declared.ast.Call.{Call}
use Rattle.perm_tree.specs.declared.ast.Ident.{Ident}
use Rattle.perm_tree.specs.declared.ast.Method.{Method}
use Rattle.perm_tree.specs.declared.ast.Rhs.{Rhs}
use Rattle.perm_tree.specs.declared.ast.Rhs.TheVariants.{Value, Field, TakeField as TakeRhs, Item, New, NewArray as NewArrayRhs, Call as CallRhs, Recover as RecoverRhs}
use Rattle.perm_tree.specs.declared.ast.Span.{Span}
use Rattle.perm_tree.specs.declared.ast.Stmt.{Stmt}
use Rattle.perm_tree.specs.declared.ast.StmtKind.{StmtKind}
use Rattle.perm_tree.specs.declared.ast.StmtKind.TheVariants.{Declare as DeclareStmt, Assign as AssignStmt, SetField, SetItem, Call as CallStmt, Print as PrintStmt, If as IfStmt, While as WhileStmt, Par as ParStmt}
use Rattle.perm_tree.specs.declared.unit.MethodTable.{MethodTable}
use Rattle.perm_tree.specs.declared.unit.VarInfo.{VarInfo}
use Rattle.perm_tree.specs.Code.{Instruction, LoadField, LoadLength, Tie, Shares, Raises, Lends, Code, End, Give, Return, Do, Routine}
use Rattle.perm_tree.specs.CodeNames.{Setting, setting, argument, var_at, ty_at, field_at, call, read}
use Rattle.perm_tree.specs.CodeOf.{sequence, assignment, kind_code, codes_of, routine, code_of}
use Rattle.perm_tree.specs.Lookup.{ty_if, var_ty, is_array, method_place}
use Rattle.perm_tree.specs.Resolves.{IsResolved}
use Rattle.perm_tree.specs.Scopes.{else_stmts}
use Rattle.perm_tree.specs.Spelling.{length_word, is_word}
use Rattle.perm_tree.specs.Ties.{is_harmless, tie_of}
use Rattle.perm_tree.specs.UnitTables.{Tables}
use Rattle.perm_tree.proofs.TableLaws.{HasTable}
use Rattle.perm_rules.specs.Goes.{context}
use Rattle.perm_rules.specs.Parts.{Context, type_of}
use Rattle.perm_core.specs.Endings.{Ending, ByNothing, ByGive, ByReturn, ends}
use Rattle.perm_core.specs.Marked.{same_tie, is_called_on, call_right, calls_right}
use Rattle.perm_core.proofs.Whole.CalledClasses.{called-on}
use Rattle.perm_core.proofs.Whole.WholeTypes.{entries_from-each, IsResolved-table}

-- ---------- calls ----------
same_tie-refl : (t : Tie) → same_tie t t ≡ true
same_tie-refl Shares = refl
same_tie-refl Raises = refl
same_tie-refl Lends = refl

-- a code that fits: it ends so, and its calls are tied rightly
abbrev Fits : Context → Ending → Code → Type 0
Fits c e code = (ends e code ≡ true) × (calls_right c code ≡ true)

-- put before a rest, the code of a statement fits where the rest does
abbrev Keeps : Context → (Code → Code) → Type 0
Keeps c f = (e : Ending) (rest : Code) → Fits c e rest → Fits c e (f rest)

-- the types of the variables are those that the setting has
module _ (k : Setting) (c : Context) (same : (y : ℕ) → type_of c y ≡ var_ty k.vars y) (methods : c.routines ≡ (code_of k.tables).routines) (is : IsResolved k.tables) where
  call-right : (into : Option ℕ) (d : Call) → call_right c (call k into d) ≡ true
  call-right into d =
      let args = map (argument k) d.args in
      let own : Tie = tie_of (ty_at k d.on) d.consumed (list_all (is_harmless (var_ty k.vars)) args) in
      let tied = (λ j. same_tie own (tie_of (same (var_at k d.on) j) d.consumed (list_all (is_harmless (λ y. same y j)) args))) ∙ same_tie-refl own in
      let place : ℕ = method_place k.tables (ty_at k d.on) d.«method».name in
      let called = (λ j. is_called_on (same (var_at k d.on) j) (slice_get (methods j) place)) ∙ called-on k.tables (ty_at k d.on) d.«method».name is in
      λ j. tied j && called j

  -- what is read from a field or an array is no call
  read-right : (x : ℕ) (y f : Ident) → call_right c (read k x y f) ≡ true
  read-right x y f = chosen (is_array (ty_at k y) && is_word k.tables.program.names length_word f.name)
    where
      chosen : (b : Bool) → call_right c (cond b (LoadLength x (var_at k y)) (LoadField x (var_at k y) (field_at k y f))) ≡ true
      chosen true = refl
      chosen false = refl

  -- ---------- statements ----------
  -- a simple statement, before a rest
  do-fits : (e : Ending) (at : Span) (i : Instruction) (rest : Code) → call_right c i ≡ true → Fits c e rest → Fits c e (Do at i rest)
  do-fits e at i rest right fits = (fits.0, λ j. right j && fits.1 j)

  module _ (codes : List (Code → Code)) (all : (at : ℕ) → Keeps c (get_or codes at (λ r. r))) where
    -- a block fits where its end does
    sequence-fits : (e : Ending) (is : List ℕ) (end : Code) → Fits c e end → Fits c e (sequence codes is end)
    sequence-fits e [] end fits = fits
    sequence-fits e (i ∷ is) end fits = all i e (sequence codes is end) (sequence-fits e is end fits)

    block-fits : (is : List ℕ) → Fits c ByNothing (sequence codes is End)
    block-fits is = sequence-fits ByNothing is End (refl, refl)

    -- two blocks, before a rest
    two-fit : (e : Ending) (is js : List ℕ) (rest : Code) → Fits c e rest
        → (ends ByNothing (sequence codes is End) && (ends ByNothing (sequence codes js End) && ends e rest) ≡ true)
        × (calls_right c (sequence codes is End) && (calls_right c (sequence codes js End) && calls_right c rest) ≡ true)
    two-fit e is js rest fits =
        let a = block-fits is in
        let b = block-fits js in
        (λ i. a.0 i && (b.0 i && fits.0 i), λ i. a.1 i && (b.1 i && fits.1 i))

    assignment-keeps : (s : Stmt) (x : ℕ) (r : Rhs) → Keeps c (assignment k codes s x r)
    assignment-keeps s x (Value a) e rest fits = fits
    assignment-keeps s x (Field y f) e rest fits = do-fits e s.span (read k x y f) rest (read-right x y f) fits
    assignment-keeps s x (TakeRhs y f) e rest fits = fits
    assignment-keeps s x (Item y i) e rest fits = fits
    assignment-keeps s x (New d) e rest fits = fits
    assignment-keeps s x (NewArrayRhs n) e rest fits = fits
    assignment-keeps s x (CallRhs d) e rest fits = do-fits e s.span (call k (Some x) d) rest (call-right (Some x) d) fits
    assignment-keeps s x (RecoverRhs b w give) e rest fits =
        let body = sequence-fits ByGive b.stmts (Give give (var_at k w) x) (refl, refl) in
        (λ i. body.0 i && fits.0 i, λ i. body.1 i && fits.1 i)

    -- the code of a statement keeps what fits
    kind-keeps : (s : Stmt) (kind : StmtKind) → Keeps c (kind_code k codes s kind)
    kind-keeps s (DeclareStmt t x) e rest fits = fits
    kind-keeps s (AssignStmt t x r) e rest fits = assignment-keeps s (var_at k x) r e rest fits
    kind-keeps s (SetField y f a) e rest fits = fits
    kind-keeps s (SetItem y i v) e rest fits = fits
    kind-keeps s (CallStmt d) e rest fits = do-fits e s.span (call k None d) rest (call-right None d) fits
    kind-keeps s (PrintStmt v) e rest fits = fits
    kind-keeps s (IfStmt v a b) e rest fits = two-fit e a.stmts (else_stmts b) rest fits
    kind-keeps s (WhileStmt v a) e rest fits =
        let body = block-fits a.stmts in
        (λ i. body.0 i && fits.0 i, λ i. body.1 i && fits.1 i)
    kind-keeps s (ParStmt a b) e rest fits = two-fit e a.stmts b.stmts rest fits

  -- so do the codes of all statements
  codes_of-keep : (at : ℕ) → Keeps c (get_or (codes_of k) at (λ r. r))
  codes_of-keep =
      entries_from-each
      (λ (codes : List (Code → Code)) (s : Stmt). kind_code k codes s s.kind)
      (Keeps c)
      (λ rest. rest)
      (λ e rest fits. fits)
      (λ codes s all. kind-keeps codes all s s.kind)
      []
      k.tables.program.stmts
      (λ at e rest fits. fits)

-- ---------- methods ----------
-- a variable has one type in the routine and in the table
type-same : (vars : List VarInfo) (y : ℕ) → slice_get (map (λ v. v.ty) vars) y ≡ var_ty vars y
type-same vars y = slice_get-map (λ (v : VarInfo). v.ty) vars y ∙ there (slice_get vars y)
  where
    there : (o : Option VarInfo) → option_map (λ v. v.ty) o ≡ ty_if o
    there None = refl
    there (Some v) = refl

routine-fits : (u : Tables) (t : MethodTable) (d : Method) → IsResolved u → Fits (context (code_of u) (routine u t d)) ByReturn (routine u t d).code
routine-fits u t d is =
    let k = setting u t.vars in
    let c = context (code_of u) (routine u t d) in
    let same = type-same t.vars in
    sequence-fits k c same refl is (codes_of k) (codes_of-keep k c same refl is) ByReturn d.body.stmts (Return d.span (argument k d.back)) (refl, refl)

-- the code of a routine of a resolved unit
code-fits : (u : Tables) (at : ℕ) (r : Routine) → slice_get (code_of u).routines at ≡ Some r → IsResolved u → Fits (context (code_of u) r) ByReturn r.code
code-fits u at r here is = by_table (IsResolved-table u at r is here)
  where
    by_table : HasTable u u.tables at r → Fits (context (code_of u) r) ByReturn r.code
    by_table (t, d, there, table, same) = subst (λ (q : Routine). Fits (context (code_of u) q) ByReturn q.code) same (routine-fits u t d is)

-- it ends by its return
pub IsResolved-returns : (u : Tables) (at : ℕ) (r : Routine) → slice_get (code_of u).routines at ≡ Some r → IsResolved u → ends ByReturn r.code ≡ true
IsResolved-returns u at r here is = (code-fits u at r here is).0

-- and its calls are tied as the types of its variables say
pub IsResolved-calls : (u : Tables) (at : ℕ) (r : Routine) → slice_get (code_of u).routines at ≡ Some r → IsResolved u → calls_right (context (code_of u) r) r.code ≡ true
IsResolved-calls u at r here is = (code-fits u at r here is).1
