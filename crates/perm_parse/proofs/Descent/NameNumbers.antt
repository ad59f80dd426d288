-- How the set of the names so far finds the number of a name.
use Rattle.std.proofs.Common.{◌≡◌, ℕ, suc, ◌+◌, List, [], ◌∷◌, ◌++◌, map, length, position, Option, Some, None, Result, Ok, Err, Bool, true, false, cond, not, ◌||◌, if◌then◌else◌, refl, sym, ap, ◌∙◌, bytes_eq, true≢false}
use Rattle.std.specs.Borrow.{Bor}
use Rattle.std.specs.Result.{IsOk, IfOk}
use Rattle.std.specs.List.{list_any, position_or_len, position_from}
use Rattle.std.proofs.lemmas.Cmp.{nat_list_eq_equiv}
use Rattle.std.proofs.lemmas.Iterator.Adapters.{position_from-zero}
use Rattle.std.proofs.lemmas.List.{map-append}
use Rattle.indexmap.specs.IndexSet.{insert_key}
use Rattle.perm_parse.specs.Tokens.{spellings}

-- what holds of the value of a call that succeeded
pub ok-has : {A E : Type 0} {P : A → Type 0} (r : Result A E) → IsOk r → IfOk r P → (x : A) × P x
ok-has (Ok x) h p = (x, p)
ok-has (Err e) h p = absurd (true≢false (sym h))

-- ---- the first place at which a test passes

place-map : {X Y : Type 0} (f : X → Y) (p : Y → Bool) (xs : List X) → position_or_len (λ x. p (f x)) xs ≡ position_or_len p (map f xs)
place-map f p [] = refl
place-map f p (x ∷ xs) = ap (λ (n : ℕ). cond (not (p (f x))) (1 + n) 0) (place-map f p xs)

length-images : {X Y : Type 0} (f : X → Y) (xs : List X) → length xs ≡ length (map f xs)
length-images f [] = refl
length-images f (x ∷ xs) = ap suc (length-images f xs)

position-map : {X Y : Type 0} (f : X → Y) (p : Y → Bool) (xs : List X) → position (λ x. p (f x)) xs ≡ position p (map f xs)
position-map f p xs = rw (place-map f p xs, length-images f xs) refl

split : (i : ℕ) (b any : Bool) (o : Option ℕ) → cond b (Some i) o ≡ None → (o ≡ None → any ≡ false) → (b || any) ≡ false
split i true any o h rest = absurd cc
split i false any o h rest = rest h

none-from : {X : Type 0} (p : X → Bool) (i : ℕ) (xs : List X) → position_from p i xs ≡ None → list_any p xs ≡ false
none-from p i [] h = refl
none-from p i (x ∷ xs) h = split i (p x) (list_any p xs) (position_from p (i + 1) xs) h (none-from p (i + 1) xs)

absent : {X : Type 0} (p : X → Bool) (xs : List X) → position p xs ≡ None → list_any p xs ≡ false
absent p xs h = none-from p 0 xs (sym (position_from-zero p xs) ∙ h)

-- ---- the names

abbrev has : List ℕ → List ℕ → Bool
has name other = bytes_eq name other

abbrev is : List ℕ → List ℕ → Bool
is name other = bytes_eq other name

turned : (name : List ℕ) → has name ≡ is name
turned name = λ i other. nat_list_eq_equiv.symm name other i

-- a name stands at its number
found-same : (name : List ℕ) (keys : List (Bor (List ℕ))) (names : List (List ℕ)) → spellings keys ≡ names → position (λ (k : Bor (List ℕ)). bytes_eq name k.now) keys ≡ position (λ (other : List ℕ). bytes_eq other name) names
found-same name keys names indexed =
    position-map (λ (k : Bor (List ℕ)). k.now) (has name) keys ∙ ap (λ (l : List (List ℕ)). position (has name) l) indexed ∙ ap (λ (p : List ℕ → Bool). position p names) (turned name)

pub known-is : (name : List ℕ) (keys : List (Bor (List ℕ))) (names : List (List ℕ)) (r : Option ℕ) → r ≡ position (λ (k : Bor (List ℕ)). bytes_eq name k.now) keys → spellings keys ≡ names → r ≡ position (λ (other : List ℕ). bytes_eq other name) names
known-is name keys names r h indexed = h ∙ found-same name keys names indexed

-- a name that isn't known goes last in the set and in the program
pub new-name : (k : Bor (List ℕ)) (keys room more : List (Bor (List ℕ))) (names : List (List ℕ)) → spellings keys ≡ names → position (λ (other : List ℕ). bytes_eq other k.now) names ≡ None → room ≡ keys → more ≡ insert_key (λ (a b : Bor (List ℕ)). bytes_eq a.now b.now) room k →
    spellings more ≡ names ++ k.now ∷ []
new-name k keys room more names indexed none same is =
    let out : list_any (λ (b : Bor (List ℕ)). bytes_eq k.now b.now) keys ≡ false = absent (λ (b : Bor (List ℕ)). bytes_eq k.now b.now) keys (found-same k.now keys names indexed ∙ none) in
    ap spellings (is ∙ ap (λ (l : List (Bor (List ℕ))). insert_key (λ (a b : Bor (List ℕ)). bytes_eq a.now b.now) l k) same ∙ ap (λ (b : Bool). if b then keys else keys ++ k ∷ []) out)
    ∙ map-append (λ (b : Bor (List ℕ)). b.now) keys (k ∷ []) ∙ ap (λ (l : List (List ℕ)). l ++ k.now ∷ []) indexed
