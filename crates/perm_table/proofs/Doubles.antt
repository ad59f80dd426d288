-- Equal names in a group: of those behind a name the one that comes first in the text tells what is refused.
use Rattle.std.proofs.Common.{◌≡◌, ℕ, Bool, true, false, List, [], ◌∷◌, Option, Some, None, refl, sym, ap, arith, ◌∙◌}
use Rattle.std.specs.Prelude.{nat_eq, nat_lt, nat_le, ◌||◌, ◌&&◌, map, filter, cond, if◌then◌else◌}
use Rattle.std.proofs.lemmas.Bool.{eqb-true}
use Rattle.std.proofs.lemmas.Bool.Decides.{nat_tests}
use Rattle.perm_tree.specs.declared.ast.Ident.{Ident}
use Rattle.perm_tree.specs.Names.{Complaint, double_at, doubles, earlier, is_before, later}
use Rattle.perm_table.specs.Findings.{double_with, doubles_of, first_before, first_named, sooner}
use Rattle.perm_table.proofs.FirstFindings.{first_before-append}

-- ---------- the order of complaints ----------
order-before : (a b c p q r : ℕ) → nat_lt a b || (nat_eq a b && nat_le p q) ≡ true → nat_lt b c || (nat_eq b c && nat_le q r) ≡ true → nat_lt a c || (nat_eq a c && nat_le p r) ≡ true
order-before a b c p q r e f = grind (arith, nat_tests)

order-behind : (a b c p q r : ℕ) → nat_lt a b || (nat_eq a b && nat_le p q) ≡ false → nat_lt b c || (nat_eq b c && nat_le q r) ≡ false → nat_lt a c || (nat_eq a c && nat_le p r) ≡ false
order-behind a b c p q r e f = grind (arith, nat_tests)

-- one that comes before another one covers it
covers : (c d : Complaint) (rest : Option Complaint) → is_before c d ≡ true → earlier c (Some (earlier d rest)) ≡ earlier c rest
covers c d None before = rw before refl
covers c d (Some e) before = cases (is_before d e) refl
  where
    cases : (b : Bool) → is_before d e ≡ b → earlier c (Some (if b then d else e)) ≡ earlier c (Some e)
    cases true q = let whole = order-before c.at.start d.at.start e.at.start c.rank d.rank e.rank before q in rw (before, whole) refl
    cases false q = refl

-- one that comes behind another one is covered by it
covered : (c d : Complaint) (rest : Option Complaint) → is_before c d ≡ false → earlier c (Some (earlier d rest)) ≡ earlier d rest
covered c d None behind = rw behind refl
covered c d (Some e) behind = cases (is_before d e) refl
  where
    cases : (b : Bool) → is_before d e ≡ b → earlier c (Some (if b then d else e)) ≡ (if b then d else e)
    cases true q = rw behind refl
    cases false q = let whole = order-behind c.at.start d.at.start e.at.start c.rank d.rank e.rank behind q in rw whole refl

-- ---------- one name and those behind it ----------
-- the later one of two names stands no further behind where the other name stands sooner
later-before : (i j k : Ident) → nat_le j.span.start k.span.start ≡ true → is_before (double_at (later i j)) (double_at (later i k)) ≡ true
later-before i j k le = cases (nat_lt i.span.start j.span.start) (nat_lt i.span.start k.span.start) refl refl
  where
    cases : (a b : Bool) → nat_lt i.span.start j.span.start ≡ a → nat_lt i.span.start k.span.start ≡ b → is_before (double_at (if a then j else i)) (double_at (if b then k else i)) ≡ true
    cases true true e f = grind (arith, nat_tests)
    cases true false e f = grind (arith, nat_tests)
    cases false true e f = grind (arith, nat_tests)
    cases false false e f = grind (arith, nat_tests)

-- where it doesn't, the later one is in both cases the first name
later-same : (i j k : Ident) → nat_le j.span.start k.span.start ≡ false → is_before (double_at (later i j)) (double_at (later i k)) ≡ true → later i j ≡ later i k
later-same i j k behind = cases (nat_lt i.span.start j.span.start) (nat_lt i.span.start k.span.start) refl refl
  where
    cases : (a b : Bool) → nat_lt i.span.start j.span.start ≡ a → nat_lt i.span.start k.span.start ≡ b → is_before (double_at (if a then j else i)) (double_at (if b then k else i)) ≡ true
        → ◌≡◌ {A = Ident} (if a then j else i) (if b then k else i)
    cases true true e f q = absurd (grind (arith, nat_tests))
    cases true false e f q = absurd (grind (arith, nat_tests))
    cases false true e f q = absurd (grind (arith, nat_tests))
    cases false false e f q = refl

-- of two equal names behind a name the one that stands sooner tells what comes first
sooner-tells : (i j : Ident) (o : Option Ident) (rest : Option Complaint) → earlier (double_at (later i j)) (first_before (double_with i o) rest) ≡ earlier (double_at (later i (sooner j o))) rest
sooner-tells i j None rest = refl
sooner-tells i j (Some k) rest = cases (nat_le j.span.start k.span.start) refl
  where
    here : Complaint
    here = double_at (later i j)

    there : Complaint
    there = double_at (later i k)

    behind : (b : Bool) → is_before here there ≡ b → nat_le j.span.start k.span.start ≡ false → earlier here (Some (earlier there rest)) ≡ earlier there rest
    behind true e f = covers here there rest e ∙ ap (λ n. earlier (double_at n) rest) (later-same i j k f e)
    behind false e f = covered here there rest e

    cases : (b : Bool) → nat_le j.span.start k.span.start ≡ b → earlier here (Some (earlier there rest)) ≡ earlier (double_at (later i (if b then j else k))) rest
    cases true e = covers here there rest (later-before i j k e)
    cases false e = behind (is_before here there) refl e

-- so of all of them
first-tells : (i : Ident) (is : List Ident) (rest : Option Complaint) → first_before (doubles_of i is) rest ≡ first_before (double_with i (first_named i.name is)) rest
first-tells i [] rest = refl
first-tells i (j ∷ is) rest = cases (nat_eq i.name j.name) (nat_eq j.name i.name) (grind (arith, nat_tests)) (first-tells i is rest)
  where
    equal : List Ident
    equal = filter (λ k. nat_eq i.name k.name) is

    cases : (a b : Bool) → a ≡ b → first_before (doubles_of i is) rest ≡ first_before (double_with i (first_named i.name is)) rest → first_before (map (λ k. double_at (later i k)) (cond a (j ∷ equal) equal)) rest
        ≡ first_before (double_with i (if b then Some (sooner j (first_named i.name is)) else first_named i.name is)) rest
    cases true true e so_far = ap Some (ap (earlier (double_at (later i j))) so_far ∙ sooner-tells i j (first_named i.name is) rest)
    cases true false e so_far = absurd (cc)
    cases false true e so_far = absurd (cc)
    cases false false e so_far = so_far

-- ---------- a walk from the last name to the first ----------
-- what a map has of the names met so far, and what was found of them
pub record AreDoubles (behind : List Ident) (rest : Option Complaint) (of : ℕ → Option Ident) (first : Option Complaint) : Type 0 where
  pub firsts : (n : ℕ) → of n ≡ first_named n behind
  pub found : first ≡ first_before (doubles behind) rest

-- one name more
pub doubles-more : (i : Ident) (behind : List Ident) (rest first more : Option Complaint) (old new : ℕ → Option Ident) → AreDoubles behind rest old first
    → ((n : ℕ) → new n ≡ cond (nat_eq i.name n) (Some (sooner i (old i.name))) (old n)) → more ≡ first_before (double_with i (old i.name)) first → AreDoubles (i ∷ behind) rest new more
doubles-more i behind rest first more old new known now finds = record {
  firsts = λ n. now n ∙ one n (nat_eq i.name n) refl;
  found =
      finds
      ∙ (λ j. first_before (double_with i (known.firsts i.name j)) (known.found j))
      ∙ sym (first-tells i behind (first_before (doubles behind) rest))
      ∙ sym (first_before-append (doubles_of i behind) (doubles behind) rest);
}
  where
    one : (n : ℕ) (b : Bool) → nat_eq i.name n ≡ b → cond b (Some (sooner i (old i.name))) (old n) ≡ (if b then Some (sooner i (first_named n behind)) else first_named n behind)
    one n true e =
        let same : i.name ≡ n = eqb-true i.name n e in
        ap (λ o. Some (sooner i o)) (known.firsts i.name) ∙ ap (λ m. Some (sooner i (first_named m behind))) same
    one n false e = known.firsts n
