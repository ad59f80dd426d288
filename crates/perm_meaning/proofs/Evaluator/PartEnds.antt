-- How parts of methods end, and which variables lose their values there.
use Rattle.std.proofs.Common.{◌≡◌, ◌∙◌, ℕ, zero, suc, ◌+◌, ◌<◌, ◌≤◌, Bool, false, List, [], ◌∷◌, ◌++◌, drop, get_or, length, Option, Some, None, refl, sym, ap, arith}
use Rattle.std.specs.Prelude.{map, nat_lt, option_to_list, slice_get}
use Rattle.std.proofs.lemmas.Bool.Decides.{nat_tests}
use Rattle.std.proofs.lemmas.Option.{slice_get-get_or, slice_get_past}
use Rattle.perm_tree.specs.declared.ast.FieldDecl.{FieldDecl}
use Rattle.perm_tree.specs.declared.ast.Ident.{Ident}
use Rattle.perm_tree.specs.declared.ast.Span.{Span}
use Rattle.perm_tree.specs.declared.ast.Stmt.{Stmt}
use Rattle.perm_tree.specs.Code.{Code, Give, UnitCode}
use Rattle.perm_tree.specs.CodeNames.{Setting, own_vars, var_at}
use Rattle.perm_tree.specs.Scopes.{declared_at}
use Rattle.perm_meaning.specs.declared.eval.ends.Ended.TheVariants.{Gives}
use Rattle.perm_meaning.specs.declared.eval.values.Given.{Given}
use Rattle.perm_meaning.specs.declared.eval.values.Value.{Value}
use Rattle.perm_meaning.specs.Evaluator.PartEnds.{ended}
use Rattle.perm_meaning.specs.Expressions.{tagged, clear, clear_all, look_up}
use Rattle.perm_meaning.specs.Meaning.{Moment, Result, Handed, does, on_value, set_vars}
use Rattle.perm_meaning.specs.NamedHeap.{Heap, Held, Own}
use Rattle.perm_meaning.specs.Evaluator.NumberedValues.{all_by, given_by, Names}

-- ---------- own variables ----------
-- first some variables lose their values, then others
pub cleared-both : (vs : List Held) (xs ys : List ℕ) → clear_all tagged vs (xs ++ ys) ≡ clear_all tagged (clear_all tagged vs xs) ys
cleared-both vs [] ys = refl
cleared-both vs (x ∷ xs) ys = cleared-both (clear tagged vs x) xs ys

-- the numbers of what is declared, by the names
numbers-by : (k : Setting) (ds : List FieldDecl) → map (λ (d : FieldDecl). var_at k d.name) ds ≡ map (var_at k) (map (λ (d : FieldDecl). d.name) ds)
numbers-by k [] = refl
numbers-by k (d ∷ ds) = ap (λ (xs : List ℕ). var_at k d.name ∷ xs) (numbers-by k ds)

-- what a statement declares loses its value
pub undeclared : (k : Setting) (ds : List FieldDecl) (x : Option Ident) (vs : List Held) → option_to_list x ≡ map (λ (d : FieldDecl). d.name) ds
    → clear_all tagged vs (map (var_at k) (option_to_list x)) ≡ clear_all tagged vs (map (λ (d : FieldDecl). var_at k d.name) ds)
undeclared k ds x vs e = ap (λ (is : List Ident). clear_all tagged vs (map (var_at k) is)) e ∙ ap (clear_all tagged vs) (sym (numbers-by k ds))

-- the variables of the statements from a place on are those of the one there and of the others
pub own-next : (k : Setting) (is : List ℕ) (at d : ℕ) → at < length is
    → own_vars k (drop at is) ≡ map (λ (f : FieldDecl). var_at k f.name) (declared_at k.tables.program.stmts (get_or is at d)) ++ own_vars k (drop (suc at) is)
own-next k [] at d lt = absurd (omega (arith, lt))
own-next k (i ∷ is) zero d lt = refl
own-next k (i ∷ is) (suc at) d lt = own-next k is at d (omega (arith, lt))

-- past the last statement there are none
pub own-none : (k : Setting) (is : List ℕ) (at : ℕ) → length is ≤ at → own_vars k (drop at is) ≡ []
own-none k [] zero le = refl
own-none k [] (suc at) le = refl
own-none k (i ∷ is) zero le = absurd (omega (arith, le))
own-none k (i ∷ is) (suc at) le = own-none k is at (omega (arith, le))

-- one more statement's variables have lost their values
pub own-step : (k : Setting) (is : List ℕ) (at d : ℕ) (vs ws all : List Held) → at < length is
    → ws ≡ clear_all tagged vs (map (λ (f : FieldDecl). var_at k f.name) (declared_at k.tables.program.stmts (get_or is at d)))
    → clear_all tagged vs (own_vars k (drop at is)) ≡ all → clear_all tagged ws (own_vars k (drop (at + 1) is)) ≡ all
own-step k is at d vs ws all lt e h =
    let next : at + 1 ≡ suc at = omega arith in
    let declared = map (λ (f : FieldDecl). var_at k f.name) (declared_at k.tables.program.stmts (get_or is at d)) in
    ap (λ n. clear_all tagged ws (own_vars k (drop n is))) next
    ∙ ap (λ (zs : List Held). clear_all tagged zs (own_vars k (drop (suc at) is))) e
    ∙ sym (cleared-both vs declared (own_vars k (drop (suc at) is)))
    ∙ ap (clear_all tagged vs) (sym (own-next k is at d lt))
    ∙ h

-- behind the last statement all have
pub own-done : (k : Setting) (is : List ℕ) (at : ℕ) (vs all : List Held) → length is ≤ at → clear_all tagged vs (own_vars k (drop at is)) ≡ all → vs ≡ all
own-done k is at vs all le h = ap (clear_all tagged vs) (sym (own-none k is at le)) ∙ h

-- ---------- ends that are turns ----------
module _ (u : UnitCode) (fits : ℕ → Bool) (again : Code → Moment → Result) (names : Names) (l : Own) (h : Heap) (g : Given) (at : Span) where
  -- a recover block gives the value of a variable
  pub gives-as : (t w x : ℕ) (old new : List (Option Value)) → l.vars ≡ all_by names old → given_by names g ≡ look_up tagged (all_by names old) w → all_by names new ≡ clear tagged (all_by names old) w
      → does u fits again (Give at w x) (record { turns = t; own = l; heap = h }) ≡ ended names new (Gives g x at) (record { turns = t; own = l; heap = h })
  gives-as zero w x old new same value vars = refl
  gives-as (suc t) w x old new same value vars =
      let m : Moment = record { turns = t; own = l; heap = h } in
      let value-now : look_up tagged l.vars w ≡ given_by names g = ap (λ (vs : List Held). look_up tagged vs w) same ∙ sym value in
      let vars-now : clear tagged l.vars w ≡ all_by names new = ap (λ (vs : List Held). clear tagged vs w) same ∙ sym vars in
      λ j. on_value (value-now j) at m (λ v. Handed x v (set_vars m (vars-now j)))

-- ---------- statements that are read ----------
-- a statement that is read stands there
pub stmt-there : (xs ys : List Stmt) (at : ℕ) (s d : Stmt) → xs ≡ ys → at < length xs → s ≡ get_or xs at d → slice_get ys at ≡ Some s
stmt-there xs ys at s d same within is = ap (λ (l : List Stmt). slice_get l at) (sym same) ∙ slice_get-get_or xs at d within ∙ ap (λ z. Some z) (sym is)

-- past the last one there is none
pub stmt-gone : (xs ys : List Stmt) (at : ℕ) → xs ≡ ys → false ≡ nat_lt at (length xs) → slice_get ys at ≡ None
stmt-gone xs ys at same e = ap (λ (l : List Stmt). slice_get l at) (sym same) ∙ slice_get_past xs at (let le : length xs ≤ at = grind (arith, nat_tests) in le)
