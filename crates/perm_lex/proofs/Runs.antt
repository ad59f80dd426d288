-- The longest front of a text whose bytes pass a test, and tests of every byte.
use Rattle.std.proofs.Common.{◌≡◌, ◌≢◌, ℕ, ◌<◌, Bool, true, false, List, [], ◌∷◌, ◌++◌, length, get_or, take, drop, sym, refl, ◌∙◌, ap, subst, arith}
use Rattle.std.specs.Prelude.{slice_index, take_while}
use Rattle.std.specs.List.{list_all, prefix_len}
use Rattle.std.proofs.lemmas.Bool.{both_ways, and_parts, and_from}
use Rattle.std.proofs.lemmas.List.{take-append-drop, get_or-take, get_or-drop, length-drop}
use Rattle.std.proofs.lemmas.List.Elements.{All-from_get_or}
use Rattle.std.proofs.lemmas.List.Sums.{list_all-from_AllPass, prefix_len_passes, prefix_len_stops}
use Rattle.std.proofs.lemmas.List.Folds.{length-prefix_len}

-- what stands first does not pass
abbrev pub Stops : (ℕ → Bool) → List ℕ → Type 0
Stops p [] = Unit {0}
Stops p (x ∷ xs) = p x ≡ false

-- the longest front that passes is of this length
pub record IsRun (p : ℕ → Bool) (text : List ℕ) (len : ℕ) : Type 0 where
  pub front : List ℕ
  pub after : List ℕ
  pub whole : text ≡ front ++ after
  pub passes : list_all p front ≡ true
  pub stops : Stops p after
  pub long : len ≡ length front
  pub taken : front ≡ take len text

stops_from : (p : ℕ → Bool) (xs : List ℕ) → (0 < length xs → p (get_or xs 0 0) ≡ false) → Stops p xs
stops_from p [] h = tt
stops_from p (x ∷ xs) h = h (omega arith)

pub run_of : (p : ℕ → Bool) (text : List ℕ) (len : ℕ) → len ≡ length (take_while p text) → IsRun p text len
run_of p text len e =
    let n = prefix_len p text in
    let long : len ≡ n = e ∙ length-prefix_len p text in
    record {
      front = take n text;
      after = drop n text;
      whole = sym (take-append-drop n text);
      passes = list_all-from_AllPass p (take n text) (All-from_get_or (λ x. p x ≡ true) (take n text) 0 (λ i l.
          let below : i < n = omega (arith, length-prefix_len p text) in
          ap p (get_or-take n text i 0 below) ∙ prefix_len_passes p text i 0 below));
      stops = stops_from p (drop n text) (λ l.
          let within : n < length text = omega (arith, length-drop n text) in
          let at : get_or (drop n text) 0 0 ≡ get_or text n 0 = get_or-drop n text 0 0 ∙ ap (λ i. get_or text i 0) (omega arith) in
          ap p at ∙ prefix_len_stops p text 0 within);
      long = e;
      taken = ap (λ k. take k text) (sym long);
    }

pub all_append : (p : ℕ → Bool) (xs ys : List ℕ) → list_all p (xs ++ ys) ≡ true → (list_all p xs ≡ true) × (list_all p ys ≡ true)
all_append p [] ys h = (refl, h)
all_append p (x ∷ xs) ys h =
    let parts = and_parts (p x) (list_all p (xs ++ ys)) h in
    let rest = all_append p xs ys parts.1 in
    (and_from (p x) (list_all p xs) parts.0 rest.0, rest.1)

pub all_weaker : (p q : ℕ → Bool) → ((x : ℕ) → p x ≡ true → q x ≡ true) → (xs : List ℕ) → list_all p xs ≡ true → list_all q xs ≡ true
all_weaker p q weaker [] h = refl
all_weaker p q weaker (x ∷ xs) h =
    let parts = and_parts (p x) (list_all p xs) h in
    and_from (q x) (list_all q xs) (weaker x parts.0) (all_weaker p q weaker xs parts.1)

-- what stops has no front that passes
pub nothing_passes : (p : ℕ → Bool) (after more rest : List ℕ) → Stops p after → after ≡ more ++ rest → list_all p more ≡ true → more ≡ []
nothing_passes p after [] rest stops e h = refl
nothing_passes p after (m ∷ more) rest stops e h = absurd (both_ways (p m) (subst (Stops p) e stops) (and_parts (p m) (list_all p more) h).0)

-- the first byte of a text
pub record HasFirst (front : List ℕ) (text : List ℕ) : Type 0 where
  pub first : ℕ
  pub others : List ℕ
  pub is : front ≡ first ∷ others
  pub same : first ≡ slice_index text 0

pub head_of : (front after text : List ℕ) → text ≡ front ++ after → front ≢ [] → HasFirst front text
head_of [] after text e some = absurd (some refl)
head_of (f ∷ fs) after text e some = record { first = f; others = fs; is = refl; same = sym (ap (λ l. slice_index l 0) e) }

-- where the first byte passes, the front that passes isn't empty
pub run_first : (p : ℕ → Bool) (text : List ℕ) (len : ℕ) → p 0 ≡ false → p (slice_index text 0) ≡ true → (r : IsRun p text len) → r.front ≢ []
run_first p text len none first r empty = go text (subst (λ f. text ≡ f ++ r.after) empty r.whole) first
  where
    go : (t : List ℕ) → t ≡ r.after → p (slice_index t 0) ≡ true → ⊥
    go [] e h = both_ways (p 0) none h
    go (x ∷ xs) e h = both_ways (p x) (subst (Stops p) (sym e) r.stops) h
