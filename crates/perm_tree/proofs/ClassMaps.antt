-- A map that takes the words of classes to their places finds the class of a name.
use Rattle.std.proofs.Common.{◌≡◌, ◌≢◌, ℕ, zero, suc, ◌+◌, ◌<◌, ◌≤◌, Bool, true, false, nat_eq, List, [], ◌∷◌, ◌++◌, length, Option, Some, None, refl, sym, ap, subst, arith, get_or, ◌∙◌}
use Rattle.std.specs.Prelude.{AllPairs, map, flat_map, option_map, slice_get, cond, not}
use Rattle.std.specs.List.{position_or_len}
use Rattle.std.specs.Map.{lookup}
use Rattle.std.specs.Str.{bytes_eq}
use Rattle.std.proofs.lemmas.Bool.{eq-eqb, eqb-true}
use Rattle.std.proofs.lemmas.List.{length-map}
use Rattle.std.proofs.lemmas.Option.{get_or_from_slice_get, slice_get-map}
use Rattle.std.proofs.lemmas.Slice.Eq.{bytes_eq-Decides}
use Rattle.perm_tree.specs.declared.ast.ClassDecl.{ClassDecl}
use Rattle.perm_tree.specs.Lookup.{class_place}
use Rattle.perm_tree.specs.Names.{class_names, names_refusal}
use Rattle.perm_tree.specs.Places.{AllBelow, Listing}
use Rattle.perm_tree.specs.Resolves.{class_word, class_words, unmentioned, HasDistinctWords, TakesNames}
use Rattle.perm_tree.specs.TextOrder.{mark_names, marks_of}
use Rattle.perm_tree.specs.WellFormed.{IsWellFormed}
use Rattle.perm_tree.proofs.AcceptedNames.{names_refusal-accepted}

-- ---------- words ----------
-- two tests that pass together are one
pub same_bool : (a b : Bool) → (a ≡ true → b ≡ true) → (b ≡ true → a ≡ true) → a ≡ b
same_bool true b to from = sym (to refl)
same_bool false true to from = from refl
same_bool false false to from = refl

-- a distinct word has one number
one-number : (words : List (List ℕ)) (m n : ℕ) → AllPairs (λ v w. v ≢ w) words → m < length words → n < length words → get_or words m [] ≡ get_or words n [] → m ≡ n
one-number words m n distinct in_m in_n same =
    let before : m < n → ⊥ = λ h. distinct m n [] h in_n same in
    let behind : n < m → ⊥ = λ h. distinct n m [] h in_m (sym same) in
    omega arith

-- so the words are compared as their numbers
word-test : (words : List (List ℕ)) (m n : ℕ) → AllPairs (λ v w. v ≢ w) words → m < length words → n < length words → bytes_eq (get_or words m []) (get_or words n []) ≡ nat_eq n m
word-test words m n distinct in_m in_n =
    let decides = bytes_eq-Decides (get_or words m []) (get_or words n []) in
    same_bool
    (bytes_eq (get_or words m []) (get_or words n []))
    (nat_eq n m)
    (λ t. eq-eqb n m (sym (one-number words m n distinct in_m in_n (decides.0 t))))
    (λ t. decides.1 (ap (λ i. get_or words i []) (sym (eqb-true n m t))))

-- ---------- places ----------
-- the test of a class by the number of its name
abbrev is_named : ℕ → ClassDecl → Bool
is_named name c = nat_eq c.name.name name

-- what a map whose places begin with `at` finds is the place, and it finds nothing where the place is past the last
abbrev Tells : ℕ → ℕ → ℕ → Option ℕ → Type 0
Tells at count place (Some v) = v ≡ at + place
Tells at count place None = count ≡ place

-- one place further on
tells-behind : (at count place : ℕ) (o : Option ℕ) → Tells (suc at) count place o → Tells at (suc count) (1 + place) o
tells-behind at count place (Some v) is = let there : v ≡ suc at + place = is in omega arith
tells-behind at count place None is = let there : count ≡ place = is in omega arith

-- one class and one entry more, by the test of both
tells-first : (at count place v : ℕ) (o : Option ℕ) (b : Bool) → v ≡ at → Tells (suc at) count place o → Tells at (suc count) (cond (not b) (1 + place) 0) (cond b (Some v) o)
tells-first at count place v o true here behind = omega arith
tells-first at count place v o false here behind = tells-behind at count place o behind

module _ (p : Listing) (name : ℕ) (distinct : AllPairs (λ v w. v ≢ w) p.names) where
  -- the map finds the first class with a name
  tells-place : (at : ℕ) (cs : List ClassDecl) (es : List (List ℕ × ℕ)) → name < length p.names → AllBelow (length p.names) (map (λ c. c.name.name) cs) → map (λ e. e.0) es ≡ map (class_word p) cs
      → ((i : ℕ) (e : List ℕ × ℕ) → slice_get es i ≡ Some e → e.1 ≡ at + i) → Tells at (length cs) (position_or_len (is_named name) cs) (lookup (bytes_eq (get_or p.names name [])) es)
  tells-place at [] [] within below words places = refl
  tells-place at [] (e ∷ es) within below words places = absurd (cc)
  tells-place at (c ∷ cs) [] within below words places = absurd (cc)
  tells-place at (c ∷ cs) (e ∷ es) within below words places =
      let word : e.0 ≡ class_word p c = cc in
      let rest : map (λ e. e.0) es ≡ map (class_word p) cs = cc in
      let here : e.1 ≡ at + 0 = places 0 e refl in
      let test : bytes_eq (get_or p.names name []) e.0 ≡ nat_eq c.name.name name = ap (bytes_eq (get_or p.names name [])) word ∙ word-test p.names name c.name.name distinct within below.0 in
      let behind = tells-place (suc at) cs es within below.1 rest (λ i f there. let q = places (suc i) f there in omega arith) in
      subst
      (λ b. Tells at (suc (length cs)) (cond (not (nat_eq c.name.name name)) (1 + position_or_len (is_named name) cs) 0) (cond b (Some e.1) (lookup (bytes_eq (get_or p.names name [])) es)))
      (sym test)
      (tells-first at (length cs) (position_or_len (is_named name) cs) e.1 (lookup (bytes_eq (get_or p.names name [])) es) (nat_eq c.name.name name) (omega arith) behind)

-- one class more, none of which has a number past the names
past-first : (names name here count place : ℕ) (b : Bool) → nat_eq here name ≡ b → names ≤ name → here < names → count ≡ place → suc count ≡ cond (not b) (1 + place) 0
past-first names name here count place true is past low rest = let same = eqb-true here name is in absurd (omega arith)
past-first names name here count place false is past low rest = omega arith

-- a number past the names is that of no class
no-place : (names name : ℕ) (cs : List ClassDecl) → names ≤ name → AllBelow names (map (λ c. c.name.name) cs) → length cs ≡ position_or_len (is_named name) cs
no-place names name [] past below = refl
no-place names name (c ∷ cs) past below =
    past-first names name c.name.name (length cs) (position_or_len (is_named name) cs) (nat_eq c.name.name name) refl past below.0 (no-place names name cs past below.1)

-- what holds of all numbers holds of the first ones
all-front : (n : ℕ) (xs ys : List ℕ) → AllBelow n (xs ++ ys) → AllBelow n xs
all-front n [] ys below = tt
all-front n (x ∷ xs) ys below = (below.0, all-front n xs ys below.1)

-- ---------- programs ----------
-- the numbers of the class names are in range
pub classes-below : (p : Listing) → IsWellFormed p → AllBelow (length p.names) (map (λ c. c.name.name) p.classes)
classes-below p formed = all-front (length p.names) (map (λ c. c.name.name) p.classes) (map (λ f. f.name.name) (flat_map (λ c. c.fields) p.classes) ++ mark_names (marks_of p)) formed.orderly.named

module _ (p : Listing) (name : ℕ) (formed : IsWellFormed p) where
  -- a name that isn't there is that of no class
  pub class_place-past : length p.names ≤ name → length p.classes ≡ class_place p name
  class_place-past past = no-place (length p.names) name p.classes past (classes-below p formed)

  module _ (entries : List (List ℕ × ℕ)) (takes : TakesNames p entries) (within : name < length p.names) where
    -- what the map says at the word of a name
    tells : Tells 0 (length p.classes) (class_place p name) (lookup (bytes_eq (get_or p.names name [])) entries)
    tells = tells-place p name formed.orderly.words 0 p.classes entries within (classes-below p formed) takes.words (λ i e here. let q = takes.places i e here in omega arith)

    -- what is at its word is the class
    pub class_place-found : (v : ℕ) → lookup (bytes_eq (get_or p.names name [])) entries ≡ Some v → v ≡ class_place p name
    class_place-found v is = let there : v ≡ 0 + class_place p name = subst (Tells 0 (length p.classes) (class_place p name)) is tells in omega arith

    -- where nothing is at its word no class has the name
    pub class_place-missing : lookup (bytes_eq (get_or p.names name [])) entries ≡ None → length p.classes ≡ class_place p name
    class_place-missing is = subst (Tells 0 (length p.classes) (class_place p name)) is tells

-- ---------- distinct words ----------
element : {A : Type 0} (xs : List A) (at : ℕ) → at < length xs → (x : A) × (slice_get xs at ≡ Some x)
element [] at within = absurd (omega arith)
element (x ∷ xs) zero within = (x, refl)
element (x ∷ xs) (suc at) within = element xs at (omega arith)

-- the number of a class name that is there is in range
pub below-at : (n : ℕ) (cs : List ClassDecl) (at : ℕ) (c : ClassDecl) → AllBelow n (map (λ d. d.name.name) cs) → slice_get cs at ≡ Some c → c.name.name < n
below-at n [] at c below here = absurd (let no : ⊥ = cc here in no)
below-at n (d ∷ cs) zero c below here = let same : d ≡ c = cc here in subst (λ (e : ClassDecl). e.name.name < n) same below.0
below-at n (d ∷ cs) (suc at) c below here = below-at n cs at c below.1 here

-- where nothing is refused of its names no two classes of a program have one word
pub distinct-words : (p : Listing) → IsWellFormed p → names_refusal (unmentioned p) ≡ None → HasDistinctWords p
distinct-words p formed accepted i j x before within same =
    let there : j < length p.classes = omega (arith, length-map p.classes (class_word p)) in
    by (element p.classes i (omega arith)) (element p.classes j there)
  where
    word : (at : ℕ) (c : ClassDecl) → slice_get p.classes at ≡ Some c → get_or (class_words p) at x ≡ class_word p c
    word at c here = get_or_from_slice_get (class_words p) at (class_word p c) x (slice_get-map (class_word p) p.classes at ∙ ap (option_map (class_word p)) here)

    named : (at : ℕ) (c : ClassDecl) → slice_get p.classes at ≡ Some c → slice_get (class_names p) at ≡ Some c.name
    named at c here = slice_get-map (λ (d : ClassDecl). d.name) p.classes at ∙ ap (option_map (λ (d : ClassDecl). d.name)) here

    by : (c : ClassDecl) × (slice_get p.classes i ≡ Some c) → (d : ClassDecl) × (slice_get p.classes j ≡ Some d) → ⊥
    by (c, here) (d, there) =
        let below = classes-below p formed in
        let one = one-number p.names c.name.name d.name.name formed.orderly.words (below-at (length p.names) p.classes i c below here) (below-at (length p.names) p.classes j d below there) (sym (word i c here) ∙ same ∙ word j d there) in
        let at_one = (names_refusal-accepted (unmentioned p) accepted).classes i j c.name d.name (named i c here) (named j d there) one in
        omega arith
