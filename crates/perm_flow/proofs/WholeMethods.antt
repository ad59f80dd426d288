-- Statements and methods of a unit: what the walk over a body tells of them.
use Rattle.std.proofs.Common.{◌≡◌, ◌∙◌, ℕ, ◌+◌, ◌<◌, ◌≤◌, true, List, [], length, Some, None, Ok, Err, refl, sym, ap, subst, arith, inl, inr}
use Rattle.std.specs.Prelude.{◌⊎◌, ◌||◌, map, nat_eq, slice_get, Result}
use Rattle.std.proofs.lemmas.Bool.{cases_lt, eqb-true, eq-eqb, or_cases, or_left, or_right}
use Rattle.std.proofs.lemmas.List.{length-append, length-map}
use mathlib.Core.Path.{fun_ext}
use Rattle.perm_tree.specs.declared.ast.FieldDecl.{FieldDecl}
use Rattle.perm_tree.specs.declared.ast.Method.{Method}
use Rattle.perm_tree.specs.declared.ast.Span.{Span}
use Rattle.perm_tree.specs.declared.ast.Stmt.{Stmt}
use Rattle.perm_tree.specs.declared.ast.Ty.{Ty}
use Rattle.perm_tree.specs.declared.errors.TypeError.{TypeError}
use Rattle.perm_tree.specs.declared.unit.VarInfo.{VarInfo}
use Rattle.perm_tree.specs.declared.var_set.VarSet.{VarSet}
use Rattle.perm_tree.specs.Code.{Argument, Code, End, Return, Routine}
use Rattle.perm_tree.specs.CodeNames.{argument, setting}
use Rattle.perm_tree.specs.CodeOf.{block_code, code_of, routine, stmt_code}
use Rattle.perm_tree.specs.InBody.{all_within, method_at, method_if, vars_at, vars_if}
use Rattle.perm_tree.specs.Resolves.{IsResolved}
use Rattle.perm_tree.specs.UnitTables.{Tables}
use Rattle.perm_tree.specs.VarSets.{member}
use Rattle.perm_tree.specs.Vars.{Vars, below, just, none, plus, those, IsWithin}
use Rattle.perm_tree.proofs.ClassMaps.{same_bool}
use Rattle.perm_tree.proofs.RoutineLaws.{IsResolved-vars}
use Rattle.perm_rules.specs.AtPlace.{flow_of, flow_unless, hidden_at, hidden_by}
use Rattle.perm_rules.specs.Effects.{changed, effect}
use Rattle.perm_rules.specs.FirstRefused.{error_or, first_refused, method_refusal}
use Rattle.perm_rules.specs.Goes.{context}
use Rattle.perm_rules.specs.MethodBodies.{Body, context_of, setting_of, IsBody}
use Rattle.perm_rules.specs.Parts.{Context, Returned}
use Rattle.perm_rules.specs.Refusals.{refusal}
use Rattle.perm_tree.proofs.StandOnce.{holders-same}
use Rattle.perm_tree.proofs.HeldStatements.{inner-below}
use Rattle.perm_rules.proofs.MethodsAtPlace.{method-there}
use Rattle.perm_flow.specs.Parts.{HoldsHidden}
use Rattle.perm_flow.specs.Walk.{told, AreHolders, CodeGives, GivesCode}
use Rattle.perm_flow.proofs.CodeForms.{below-less, less-below}
use Rattle.perm_flow.proofs.Statements.{few-vars}

-- ---------- statements ----------
told-is : (c : Context) (a : Code) (G : Vars) (r : Result VarSet TypeError) → CodeGives c a (effect a) G r → told r ≡ flow_unless (first_refused c a G) (changed (effect a) G)
told-is c a G (Ok set) h = ap Ok h.1 ∙ sym (ap (λ o. flow_unless o (changed (effect a) G)) h.0)
told-is c a G (Err e) h = sym (ap (λ o. flow_unless o (changed (effect a) G)) h)

-- what is given of the statement at a place is its flow
pub flow-told : (b : Body) (u : Tables) (m at : ℕ) (hidden live : VarSet) (r : Result VarSet TypeError) → b.unit ≡ u → b.number ≡ m → HoldsHidden b hidden (hidden_at b.unit b.number at)
    → GivesCode b hidden (stmt_code (setting_of b) at End) (effect (stmt_code (setting_of b) at End)) live r → told r ≡ flow_of u m at (member live)
flow-told b u m at hidden live r p q holds gives = told-is _ (stmt_code (setting_of b) at End) (member live) r (gives (hidden_at b.unit b.number at) holds) ∙ (λ i. flow_of (p i) (q i) at (member live))

-- the statements of a resolved unit hold those in their blocks
pub unit-holders : (u : Tables) → IsResolved u → AreHolders u.program.stmts
unit-holders u is = record {
  below = λ j s here. inner-below (length u.program.exprs) j s.kind (is.formed.placed.stmts j s here);
  one = holders-same u.program is.formed.orderly.once;
}

-- a set holds what is hidden at a place, by the variables and statements of the body
pub place-hidden : (b : Body) → IsBody b → (at : ℕ) (vars : List VarInfo) (stmts : List Stmt) (hidden : VarSet) → vars ≡ vars_at b.unit b.number → stmts ≡ b.unit.program.stmts
    → ((x : ℕ) → x < 256 → member hidden x ≡ those (hidden_by vars at (all_within stmts) stmts) x) → HoldsHidden b hidden (hidden_at b.unit b.number at)
place-hidden b is at vars stmts hidden p q holds x less = holds x (omega (arith, few-vars b is)) ∙ (λ i. those (hidden_by (p i) at (all_within (q i)) (q i)) x)

-- where a set holds nothing, nothing is hidden
pub none-hidden : (b : Body) (set : VarSet) → member set ≡ none → HoldsHidden b set []
none-hidden b set is x less = ap (λ (M : Vars). M x) is

-- ---------- the first variables ----------
pub below-more : (n : ℕ) (set more : VarSet) → member set ≡ below n → member more ≡ plus (member set) (just n) → member more ≡ below (n + 1)
below-more n set more p q = q ∙ (ap (λ (M : Vars). plus M (just n)) p ∙ fun_ext (λ x. same_bool (below n x || nat_eq x n) (below (n + 1) x) (up x) (down x)))
  where
    up : (x : ℕ) → below n x || nat_eq x n ≡ true → below (n + 1) x ≡ true
    up x h = go (or_cases (below n x) (nat_eq x n) h)
      where
        go : (below n x ≡ true) ⊎ (nat_eq x n ≡ true) → below (n + 1) x ≡ true
        go (inl e) = let less : x < n = less-below n x e in below-less (n + 1) x (omega arith)
        go (inr e) = let same : x ≡ n = eqb-true x n e in below-less (n + 1) x (omega arith)

    down : (x : ℕ) → below (n + 1) x ≡ true → below n x || nat_eq x n ≡ true
    down x h = let less : x < n + 1 = less-below (n + 1) x h in go less (cases_lt x n)
      where
        go : x < n + 1 → (x < n) ⊎ (n ≤ x) → below n x || nat_eq x n ≡ true
        go less (inl small) = or_left (below n x) (nat_eq x n) (below-less n x small)
        go less (inr past) = let same : x ≡ n = omega arith in or_right (below n x) (nat_eq x n) (eq-eqb x n same)

pub below-nothing : none ≡ below 0
below-nothing = fun_ext (λ x. refl)

-- fewer numbers are within more
pub below-within : (n m : ℕ) → n ≤ m → IsWithin (below n) (below m)
below-within n m least x h = let less : x < n = less-below n x h in below-less m x (omega arith)

-- ---------- methods ----------
module _ (b : Body) (is : IsBody b) (d : Method) (there : method_at b.unit b.number ≡ Some d) where
  found : method_at b.unit b.number ≡ Some (method-there b.unit b.number is.table is.resolved is.tabled).«method»
  found = ap (method_if b.unit) is.tabled ∙ (method-there b.unit b.number is.table is.resolved is.tabled).is

  same : (method-there b.unit b.number is.table is.resolved is.tabled).«method» ≡ d
  same = cc (found, there)

  routine-there : slice_get (code_of b.unit).routines b.number ≡ Some (routine b.unit is.table d)
  routine-there = (method-there b.unit b.number is.table is.resolved is.tabled).found ∙ ap (λ (e : Method). Some (routine b.unit is.table e)) same

  context-same : context (code_of b.unit) (routine b.unit is.table d) ≡ context_of b
  context-same = ap (λ (r : Routine). context (code_of b.unit) r) (sym ((method-there b.unit b.number is.table is.resolved is.tabled).routine ∙ ap (λ (e : Method). routine b.unit is.table e) same))

  vars : is.table.vars ≡ vars_at b.unit b.number
  vars = sym (ap vars_if is.tabled)

  -- `this` and the parameters are variables of the method
  pub first-few : length d.params + 1 ≤ length (context_of b).vars
  first-few =
      let known = IsResolved-vars b.unit b.number (routine b.unit is.table d) is.resolved routine-there in
      let count : length (routine b.unit is.table d).vars ≡ length (context_of b).vars = ap (λ (c : Context). length c.vars) context-same in
      omega (arith, ap (λ (ts : List Ty). length ts) known.1, count, length-append (routine b.unit is.table d).params known.0, length-map d.params (λ (f : FieldDecl). f.ty))

  -- what is first refused of the method, by its body
  pub method-told : (r : Routine) → slice_get (code_of b.unit).routines b.number ≡ Some r
      → method_refusal (code_of b.unit) r ≡ first_refused (context_of b) (block_code (setting_of b) d.body.stmts (Return d.span (argument (setting_of b) d.back))) (below (length d.params + 1))
  method-told r here =
      ap (λ (q : Routine). method_refusal (code_of b.unit) q) equal
      ∙ (ap (λ (c : Context). first_refused c (block_code (setting b.unit is.table.vars) d.body.stmts (Return d.span (argument (setting b.unit is.table.vars) d.back))) (below (1 + length (map (λ f. f.ty) d.params)))) context-same
      ∙ (ap (λ (vs : List VarInfo). first_refused (context_of b) (block_code (setting b.unit vs) d.body.stmts (Return d.span (argument (setting b.unit vs) d.back))) (below (1 + length (map (λ f. f.ty) d.params)))) vars
      ∙ ap (λ n. first_refused (context_of b) (block_code (setting_of b) d.body.stmts (Return d.span (argument (setting_of b) d.back))) (below n)) count))
    where
      equal : r ≡ routine b.unit is.table d
      equal = cc (here, routine-there)

      count : 1 + length (map (λ (f : FieldDecl). f.ty) d.params) ≡ length d.params + 1
      count = omega (arith, length-map d.params (λ (f : FieldDecl). f.ty))

  -- the same of the unit and the number, by a live set and statements
  pub method-of-unit : (u : Tables) (m : ℕ) (r : Routine) → b.unit ≡ u → b.number ≡ m → slice_get (code_of u).routines m ≡ Some r → (G : Vars) (stmts : List ℕ) → G ≡ below (length d.params + 1) → stmts ≡ d.body.stmts
      → method_refusal (code_of u) r ≡ first_refused (context_of b) (block_code (setting_of b) stmts (Return d.span (argument (setting_of b) d.back))) G
  method-of-unit u m r p q here G stmts first body =
      ap (λ (v : Tables). method_refusal (code_of v) r) (sym p)
      ∙ (method-told r ((λ i. slice_get (code_of (p i)).routines (q i)) ∙ here)
      ∙ (λ i. first_refused (context_of b) (block_code (setting_of b) (sym body i) (Return d.span (argument (setting_of b) d.back))) (sym first i)))

-- ---------- returns ----------
pub return-stops : (c : Context) (at : Span) (v w : Argument) (G : Vars) (e : TypeError) → v ≡ w → error_or at (refusal c (Returned v) G) None ≡ Some e → Some e ≡ first_refused c (Return at w) G
return-stops c at v w G e same h = sym (subst (λ (q : Argument). error_or at (refusal c (Returned q) G) None ≡ Some e) same h)

pub return-passes : (c : Context) (at : Span) (v w : Argument) (G : Vars) → v ≡ w → refusal c (Returned v) G ≡ None → None ≡ first_refused c (Return at w) G
return-passes c at v w G same h = sym (ap (λ o. error_or at o None) (subst (λ (q : Argument). refusal c (Returned q) G ≡ None) same h))
