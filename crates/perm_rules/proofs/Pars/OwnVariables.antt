-- What is known of a method whose code is walked, and where the variables that a code itself declares begin and lie.
use Rattle.std.proofs.Common.{◌≡◌, ℕ, ◌<◌, ◌≤◌, true, false, List, [], ◌∷◌, ◌++◌, Some, sym, subst, arith, inl, inr}
use Rattle.std.specs.Prelude.{◌⊎◌, nat_eq, map, slice_get}
use Rattle.std.proofs.lemmas.Bool.{eqb-true, or_cases, or_left, or_right}
use Rattle.perm_tree.specs.declared.ast.FieldDecl.{FieldDecl}
use Rattle.perm_tree.specs.CodeNames.{Setting, var_at}
use Rattle.perm_tree.specs.Scopes.{known_until}
use Rattle.perm_tree.specs.TextOrder.{Marks}
use Rattle.perm_tree.specs.Vars.{those}
use Rattle.perm_rules.specs.Parts.{Context}
use Rattle.perm_rules.proofs.Pars.Scoped.{LiesIn, AllLie, lies-more, AreApart, AllHad, declared-lies}
use Rattle.perm_rules.proofs.Pars.Beginnings.{AllNamed, IsBegun, AreBegun, begun-more, declared-begun, AllEarly}
use Rattle.perm_rules.proofs.Pars.StandingTerms.{AllTermsStand}

-- what a method's code is made with, what its parts are checked by, the marks of its expressions and a place; no two variables of the method have one name, each is declared where its scope begins or before the place, and the expressions stand where their marks do
pub record MethodFacts : Type 0 where
  pub setting : Setting
  pub context : Context
  pub exprs : List Marks
  pub base : ℕ
  pub types : context.vars ≡ map (λ v. v.ty) setting.vars
  pub apart : AreApart setting.vars
  pub early : AllEarly base setting.vars
  pub terms : AllTermsStand setting.vars exprs setting.terms

module _ (facts : MethodFacts) where
  open facts use {setting as k}
  open k use {vars}

  -- some declarations have scopes that begin in a stretch and end with it
  abbrev pub OwnLie : ℕ → ℕ → List FieldDecl → Type 0
  OwnLie lo end ds = AllLie vars lo end (map (λ d. var_at k d.name) ds)

  pub own-none : (lo end : ℕ) → OwnLie lo end []
  own-none lo end x e = absurd (let no : ⊥ = cc e in no)

  pub own-one : (lo end : ℕ) (d : FieldDecl) → lo ≤ d.name.span.start → (y : ℕ) × (slice_get vars y ≡ Some (known_until end d)) → OwnLie lo end (d ∷ [])
  own-one lo end d low had x e = pick (or_cases (nat_eq x (var_at k d.name)) false e)
    where
      pick : (nat_eq x (var_at k d.name) ≡ true) ⊎ (false ≡ true) → LiesIn vars lo end x
      pick (inl q) = subst (LiesIn vars lo end) (sym (eqb-true x (var_at k d.name) q)) (declared-lies vars lo end d facts.apart had low)
      pick (inr q) = absurd (let no : ⊥ = cc q in no)

  pub own-both : (lo from end : ℕ) (xs ys : List ℕ) → lo ≤ from → AllLie vars lo end xs → AllLie vars from end ys → AllLie vars lo end (xs ++ ys)
  own-both lo from end [] ys low left right x e = lies-more vars from end lo end x low (omega arith) (right x e)
  own-both lo from end (y ∷ xs) ys low left right x e =
      pick (or_cases (nat_eq x y) (those (xs ++ ys) x) e) (own-both lo from end xs ys low (λ z q. left z (or_right (nat_eq z y) (those xs z) q)) right x)
    where
      pick : (nat_eq x y ≡ true) ⊎ (those (xs ++ ys) x ≡ true) → (those (xs ++ ys) x ≡ true → LiesIn vars lo end x) → LiesIn vars lo end x
      pick (inl q) later = left x (or_left (nat_eq x y) (those xs x) q)
      pick (inr q) later = later q

  pub own-begun : (lo hi end : ℕ) (ds : List FieldDecl) → hi ≤ end → AllNamed lo hi ds → AllHad vars (map (known_until end) ds) → AreBegun vars lo (map (λ d. var_at k d.name) ds)
  own-begun lo hi end [] more all had x e = absurd (let no : ⊥ = cc e in no)
  own-begun lo hi end (d ∷ ds) more all had x e = pick (or_cases (nat_eq x (var_at k d.name)) (those (map (λ d. var_at k d.name) ds) x) e) (own-begun lo hi end ds more all.1 had.1 x)
    where
      pick : (nat_eq x (var_at k d.name) ≡ true) ⊎ (those (map (λ d. var_at k d.name) ds) x ≡ true) → (those (map (λ d. var_at k d.name) ds) x ≡ true → IsBegun vars lo x) → IsBegun vars lo x
      pick (inl q) later =
          let less : d.name.span.start < hi = all.0.1 in
          subst (IsBegun vars lo) (sym (eqb-true x (var_at k d.name) q)) (declared-begun vars lo end d had.0 (omega arith) facts.apart all.0.0)
      pick (inr q) later = later q

  pub begun-both : (lo from : ℕ) (xs ys : List ℕ) → lo ≤ from → AreBegun vars lo xs → AreBegun vars from ys → AreBegun vars lo (xs ++ ys)
  begun-both lo from [] ys low left right x e = begun-more vars lo from ys low right x e
  begun-both lo from (y ∷ xs) ys low left right x e = pick (or_cases (nat_eq x y) (those (xs ++ ys) x) e) (begun-both lo from xs ys low (λ z q. left z (or_right (nat_eq z y) (those xs z) q)) right x)
    where
      pick : (nat_eq x y ≡ true) ⊎ (those (xs ++ ys) x ≡ true) → (those (xs ++ ys) x ≡ true → IsBegun vars lo x) → IsBegun vars lo x
      pick (inl q) later = left x (or_left (nat_eq x y) (those xs x) q)
      pick (inr q) later = later q
