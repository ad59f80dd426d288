-- The value of digits, one more digit at a time.
use Rattle.std.proofs.Common.{◌≡◌, ℕ, ◌+◌, ◌-◌, ◌*◌, ◌<◌, ◌≤◌, true, List, [], ◌∷◌, ◌++◌, length, get_or, take, drop, refl, ◌∙◌, ap, arith}
use Rattle.std.specs.Char.{is_ascii_digit, digit_value}
use Rattle.std.specs.List.{list_all}
use Rattle.std.specs.Str.Parse.{digits_value, digits_value_after}
use Rattle.std.proofs.lemmas.Bool.{and_parts, leb-true, cond-true, cond-false, le-ltb, lt-ltb}
use Rattle.std.proofs.lemmas.List.{take-append-drop}
use Rattle.std.proofs.lemmas.List.Elements.{All-get_or}
use Rattle.std.proofs.lemmas.List.Sums.{AllPass-from_list_all}
use Rattle.std.proofs.lemmas.Int.Digits.{digits_value_more}

after_grows : (n : ℕ) (ds : List ℕ) → n ≤ digits_value_after 10 n ds
after_grows n [] = omega arith
after_grows n (d ∷ ds) = let h = after_grows (n * 10 + digit_value d) ds in omega arith

after_append : (n : ℕ) (xs ys : List ℕ) → digits_value_after 10 n (xs ++ ys) ≡ digits_value_after 10 (digits_value_after 10 n xs) ys
after_append n [] ys = refl
after_append n (x ∷ xs) ys = after_append (n * 10 + digit_value x) xs ys

-- a front of the digits has no greater value
pub front_value : (i : ℕ) (ds : List ℕ) → digits_value 10 (take i ds) ≤ digits_value 10 ds
front_value i ds =
    let e = after_append 0 (take i ds) (drop i ds) in
    let f = ap (digits_value 10) (take-append-drop i ds) in
    let h = after_grows (digits_value 10 (take i ds)) (drop i ds) in
    omega arith

pub digit_range : (ds : List ℕ) (i : ℕ) → i < length ds → list_all is_ascii_digit ds ≡ true → (48 ≤ get_or ds i 0) × (get_or ds i 0 ≤ 57)
digit_range ds i l all =
    let parts = and_parts _ _ (All-get_or (λ x. is_ascii_digit x ≡ true) ds i 0 l (AllPass-from_list_all is_ascii_digit ds all)) in
    (leb-true _ _ parts.0, leb-true _ _ parts.1)

value-digit : (b : ℕ) → 48 ≤ b → b ≤ 57 → digit_value b ≡ b - 48
value-digit b low high = cond-false _ _ _ (le-ltb b 48 low) ∙ cond-true _ _ _ (lt-ltb b 58 (omega arith))

pub value_more : (ds : List ℕ) (i : ℕ) → i < length ds → list_all is_ascii_digit ds ≡ true → digits_value 10 (take (i + 1) ds) ≡ digits_value 10 (take i ds) * 10 + (get_or ds i 0 - 48)
value_more ds i l all =
    let range = digit_range ds i l all in
    digits_value_more 10 ds i l ∙ ap (λ d. digits_value 10 (take i ds) * 10 + d) (value-digit (get_or ds i 0) range.0 range.1)
