-- A map that takes words to their places.
use Rattle.std.proofs.Common.{◌≡◌, ◌≢◌, ℕ, zero, suc, ◌+◌, ◌<◌, ◌≤◌, Bool, true, false, List, [], ◌∷◌, ◌++◌, length, Some, None, refl, sym, ap, subst, arith, get_or, take, add-zero, zero-add, length-take-le, ◌∙◌}
use Rattle.std.specs.Prelude.{map, slice_get, cond}
use Rattle.std.specs.Map.{lookup}
use Rattle.std.specs.Str.{bytes_eq}
use Rattle.std.proofs.lemmas.List.{get_or-map, get_or-take, length-map, take_all, take_more}
use Rattle.std.proofs.lemmas.Option.{slice_get-get_or}
use Rattle.std.proofs.lemmas.Slice.Eq.{bytes_eq-Decides}
use Rattle.indexmap.specs.IndexMap.{IndexMap, get, insert_entry}
use Rattle.indexmap.proofs.CallerLemmas.{insert_entry-new}
use Rattle.perm_tree.specs.declared.ast.ClassDecl.{ClassDecl}
use Rattle.perm_tree.specs.Places.{AllBelow, Listing}
use Rattle.perm_tree.specs.Resolves.{class_word, class_words, HasDistinctWords, TakesNames}
use Rattle.perm_tree.proofs.ClassMaps.{below-at}

-- words with their places, of which the first is given
abbrev pub placed_words : ℕ → List (List ℕ) → List (List ℕ × ℕ)
placed_words at [] = []
placed_words at (w ∷ ws) = (w, at) ∷ placed_words (suc at) ws

placed_words-push : (at : ℕ) (ws : List (List ℕ)) (w : List ℕ) → placed_words at (ws ++ w ∷ []) ≡ placed_words at ws ++ (w, at + length ws) ∷ []
placed_words-push at [] w = ap (λ n. (w, n) ∷ []) (sym (add-zero at))
placed_words-push at (v ∷ ws) w =
    let place : suc at + length ws ≡ at + suc (length ws) = omega arith in
    ap (λ es. (v, at) ∷ es) (placed_words-push (suc at) ws w) ∙ ap (λ n. (v, at) ∷ (placed_words (suc at) ws ++ (w, n) ∷ [])) place

words-of : (at : ℕ) (ws : List (List ℕ)) → map (λ e. e.0) (placed_words at ws) ≡ ws
words-of at [] = refl
words-of at (w ∷ ws) = ap (λ vs. w ∷ vs) (words-of (suc at) ws)

place-of : (at : ℕ) (ws : List (List ℕ)) (i : ℕ) (e : List ℕ × ℕ) → slice_get (placed_words at ws) i ≡ Some e → e.1 ≡ at + i
place-of at [] i e here = absurd (let no : ⊥ = cc here in no)
place-of at (w ∷ ws) zero e here = let same : (w, at) ≡ e = cc here in sym (ap (λ p. p.1) same) ∙ sym (add-zero at)
place-of at (w ∷ ws) (suc i) e here = let there = place-of (suc at) ws i e here in omega arith

not-equal : (b : Bool) (P : Type 0) → (b ≡ true → P) → (P → ⊥) → b ≡ false
not-equal true P tells apart = absurd (apart (tells refl))
not-equal false P tells apart = refl

-- a word that isn't there has no place
no-place : (key : List ℕ) (at : ℕ) (ws : List (List ℕ)) → ((i : ℕ) → i < length ws → get_or ws i [] ≢ key) → lookup (bytes_eq key) (placed_words at ws) ≡ None
no-place key at [] apart = refl
no-place key at (w ∷ ws) apart =
    let differs : bytes_eq key w ≡ false = not-equal (bytes_eq key w) (key ≡ w) (bytes_eq-Decides key w).0 (λ e. apart 0 (omega arith) (sym e)) in
    ap (λ b. cond b (Some at) (lookup (bytes_eq key) (placed_words (suc at) ws))) differs ∙ no-place key (suc at) ws (λ i within. apart (suc i) (omega arith))

-- one class more
pub map-step : {S : Type 0} (p : Listing) (m : IndexMap (List ℕ) ℕ S) (new : List (List ℕ × ℕ)) (at : ℕ) (key : List ℕ) → HasDistinctWords p → at < length (class_words p) → key ≡ get_or (class_words p) at []
    → m.entries ≡ placed_words 0 (take at (class_words p)) → new ≡ insert_entry bytes_eq m.entries key at → new ≡ placed_words 0 (take (at + 1) (class_words p))
map-step p m new at key distinct within is so_far inserts =
    let ws = class_words p in
    let count : length (take at ws) ≡ at = length-take-le at ws (omega arith) in
    let apart : (i : ℕ) → i < length (take at ws) → get_or (take at ws) i [] ≢ key =
    λ i before e.
    let below : i < at = omega (arith, count) in
    distinct i at [] below within (sym (get_or-take at ws i [] below) ∙ e ∙ is) in
    let none : get bytes_eq m key ≡ None = ap (lookup (bytes_eq key)) so_far ∙ no-place key 0 (take at ws) apart in
    let place : 0 + length (take at ws) ≡ at = omega (arith, count) in
    inserts
    ∙ insert_entry-new bytes_eq m key at none
    ∙ (λ j. so_far j ++ (is j, sym place j) ∷ [])
    ∙ sym (placed_words-push 0 (take at ws) (get_or ws at []))
    ∙ ap (placed_words 0) (sym (take_more ws at [] within))

-- the word of the class at a place
pub word-at : (p : Listing) (names : List (List ℕ)) (classes : List ClassDecl) (c : ClassDecl) (at : ℕ) → names ≡ p.names → classes ≡ p.classes → at < length classes
    → get_or names (get_or classes at c).name.name [] ≡ get_or (class_words p) at []
word-at p names classes c at n k within =
    let there : at < length p.classes = subst (λ (cs : List ClassDecl). at < length cs) k within in
    ap (λ (ns : List (List ℕ)). get_or ns (get_or classes at c).name.name []) n
    ∙ ap (λ (cs : List ClassDecl). class_word p (get_or cs at c)) k
    ∙ sym (get_or-map (class_word p) p.classes at c [] there)

-- the number of its name is in range
pub number-at : (p : Listing) (names : List (List ℕ)) (classes : List ClassDecl) (c : ClassDecl) (at : ℕ) → names ≡ p.names → classes ≡ p.classes → AllBelow (length p.names) (map (λ d. d.name.name) p.classes)
    → at < length classes → (get_or classes at c).name.name < length names
number-at p names classes c at n k below within =
    let range : AllBelow (length names) (map (λ (d : ClassDecl). d.name.name) classes) = subst (λ (ns : List (List ℕ)). AllBelow (length ns) (map (λ d. d.name.name) classes)) (sym n)
    (subst (λ (cs : List ClassDecl). AllBelow (length p.names) (map (λ d. d.name.name) cs)) (sym k) below) in
    below-at (length names) classes at (get_or classes at c) range (slice_get-get_or classes at c within)

-- the map of all classes
pub map-whole : (p : Listing) (entries : List (List ℕ × ℕ)) (classes : List ClassDecl) (at : ℕ) → classes ≡ p.classes → length classes ≤ at → entries ≡ placed_words 0 (take at (class_words p)) → TakesNames p entries
map-whole p entries classes at k all is =
    let many : length (class_words p) ≤ at = omega (arith, length-map p.classes (class_word p), ap length k) in
    subst
    (TakesNames p)
    (sym (is ∙ ap (placed_words 0) (take_all at (class_words p) many)))
    (record {
      words = words-of 0 (class_words p);
      places = λ i e here. place-of 0 (class_words p) i e here ∙ zero-add i;
    })
