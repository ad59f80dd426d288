-- Stacks of the parts of texts.
use Rattle.std.proofs.Common.{◌≡◌, ◌∙◌, ap, sym, refl, List, [], ◌∷◌, ◌++◌, length, map, arith, append_assoc, append-nil, Result, Ok, Err}
use Rattle.std.specs.Prelude.{OnOk, flat_map, reverse}
use Rattle.std.proofs.lemmas.List.Concat.{flat_map-append}
use mathlib.Core.List.{reverse-append, reverse-cons, map-append}
use Rattle.perm_tree.specs.declared.print.part.Part.{Part}
use Rattle.perm_tree.specs.Printer.Parts.{onto}

-- nothing pushed
pub onto-nil : (stack : List Part) → onto stack [] ≡ stack
unfolding onto
onto-nil stack = append-nil stack

-- parts that are pushed behind others stand before them
pub onto-append : (stack xs ys : List Part) → onto stack (xs ++ ys) ≡ onto (onto stack ys) xs
unfolding onto
onto-append stack xs ys = rw (reverse-append xs ys) (sym (append_assoc stack (reverse ys) (reverse xs)))

-- so after one push more
pub pushed : (s0 : List Part) {s1 s2 : List Part} (xs ys : List Part) → s1 ≡ onto s0 ys → s2 ≡ onto s1 xs → s2 ≡ onto s0 (xs ++ ys)
pushed s0 xs ys first more = more ∙ ap (λ s. onto s xs) first ∙ sym (onto-append s0 xs ys)

-- and where the last push may fail
pub pushed_last : {A E : Type 0} (r : Result A E) (s0 s1 s2 : List Part) (xs ys : List Part) → s1 ≡ onto s0 ys → OnOk r (s2 ≡ onto s1 xs) → OnOk r (s2 ≡ onto s0 (xs ++ ys))
pushed_last (Ok a) s0 s1 s2 xs ys first more = pushed s0 xs ys first more
pushed_last (Err e) s0 s1 s2 xs ys first more = tt

-- a list whose last element is pushed, and of which the others are left
pub before_last : {A : Type 0} (f : A → List Part) (s s' s0 whole : List Part) (left before : List A) (last : A)
    → left ≡ before ++ last ∷ [] → s' ≡ onto s (f last) → onto s (flat_map f left) ≡ onto s0 whole → onto s' (flat_map f before) ≡ onto s0 whole
before_last f s s' s0 whole left before last split pushed_one all =
    let parts : flat_map f left ≡ flat_map f before ++ f last = ap (flat_map f) split ∙ flat_map-append f before (last ∷ []) ∙ ap (λ l. flat_map f before ++ l) (append-nil (f last)) in
    ap (λ l. onto l (flat_map f before)) pushed_one ∙ sym (onto-append s (flat_map f before) (f last)) ∙ sym (ap (onto s) parts) ∙ all

-- an empty list
pub empty : {A : Type 0} (xs : List A) → length xs ≡ 0 → xs ≡ []
empty [] none = refl
empty (x ∷ xs) none = absurd (omega arith)

-- a list of which nothing is left
pub none_left : {A : Type 0} (f : A → List Part) (s s0 whole : List Part) (left : List A) → length left ≡ 0 → onto s (flat_map f left) ≡ onto s0 whole → s ≡ onto s0 whole
none_left f s s0 whole left none all = sym (onto-nil s) ∙ sym (ap (λ l. onto s (flat_map f l)) (empty left none)) ∙ all

-- what holds of a success
pub when_ok : {A E P : Type 0} (r : Result A E) (a : A) → r ≡ Ok a → OnOk r P → P
when_ok (Ok b) a is h = h
when_ok (Err e) a is h = absurd (cc)

-- a map goes through a reversal
pub map-reverse : {A B : Type 0} (f : A → B) (xs : List A) → map f (reverse xs) ≡ reverse (map f xs)
map-reverse f [] = refl
map-reverse f (x ∷ xs) =
    ap (map f) (reverse-cons x xs) ∙ map-append f (reverse xs) (x ∷ []) ∙ ap (λ l. l ++ f x ∷ []) (map-reverse f xs) ∙ sym (reverse-cons (f x) (map f xs))
