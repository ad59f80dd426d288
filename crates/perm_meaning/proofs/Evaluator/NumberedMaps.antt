-- Maps whose keys are the numbers of their entries.
use Rattle.std.proofs.Common.{◌≡◌, ◌∙◌, ℕ, zero, suc, ◌+◌, Bool, true, false, cond, List, [], ◌∷◌, ◌++◌, length, Some, None, refl, sym, ap, subst, arith}
use Rattle.std.proofs.lemmas.Option.{slice_get_past}
use Rattle.std.specs.Prelude.{nat_eq, slice_get, slice_set}
use Rattle.std.specs.Map.{lookup, set_value, values_of}
use Rattle.std.proofs.lemmas.Bool.Decides.{nat_tests}
use Rattle.indexmap.specs.IndexMap.{insert_entry, IndexMap}
use Rattle.indexmap.proofs.CallerLemmas.{insert_entry-new}
use Rattle.perm_meaning.specs.declared.eval.values.Value.{Value}
use Rattle.perm_meaning.specs.Evaluator.NumberedHeap.{put_at, put_in, CountFrom}

-- ---------- tests of keys ----------
same-key : (n : ℕ) → nat_eq (n + zero) n ≡ true
same-key n = grind (arith, nat_tests)

later-key : (n k : ℕ) → nat_eq (n + suc k) n ≡ false
later-key n k = grind (arith, nat_tests)

one-more : (n k : ℕ) → suc n + k ≡ n + suc k
one-more n k = omega arith

module _ {A : Type 0} (x y : A) where
  yes-is : (b : Bool) → b ≡ true → cond b x y ≡ x
  yes-is b e = ap (λ b. cond b x y) e

  no-is : (b : Bool) → b ≡ false → cond b x y ≡ y
  no-is b e = ap (λ b. cond b x y) e

-- ---------- reading ----------
-- the entry with a number is at that place
pub lookup-from : (n k : ℕ) (es : List (ℕ × List Value)) → CountFrom n es → lookup (nat_eq (n + k)) es ≡ slice_get (values_of es) k
lookup-from n k [] counts = refl
lookup-from n zero (e ∷ es) counts = yes-is (Some e.1) (lookup (nat_eq (n + zero)) es) (nat_eq (n + zero) e.0) (ap (nat_eq (n + zero)) counts.0 ∙ same-key n)
lookup-from n (suc k) (e ∷ es) counts =
    no-is (Some e.1) (lookup (nat_eq (n + suc k)) es) (nat_eq (n + suc k) e.0) (ap (nat_eq (n + suc k)) counts.0 ∙ later-key n k)
    ∙ ap (λ key. lookup (nat_eq key) es) (sym (one-more n k))
    ∙ lookup-from (suc n) k es counts.1

-- where the numbers begin at 0
pub lookup-at : (k : ℕ) (es : List (ℕ × List Value)) → CountFrom 0 es → lookup (nat_eq k) es ≡ slice_get (values_of es) k
lookup-at k es counts = let e : 0 + k ≡ k = omega arith in subst (λ key. lookup (nat_eq key) es ≡ slice_get (values_of es) k) e (lookup-from 0 k es counts)

-- ---------- writing ----------
-- a value that is set leaves the keys
pub set-counts : (test : ℕ → Bool) (n : ℕ) (es : List (ℕ × List Value)) (w : List Value) → CountFrom n es → CountFrom n (set_value test es w)
set-counts test n [] w counts = counts
set-counts test n (e ∷ es) w counts = go (set_value test es w) (set-counts test (suc n) es w counts.1) (test e.0)
  where
    go : (rest : List (ℕ × List Value)) → CountFrom (suc n) rest → (b : Bool) → CountFrom n (cond b ((e.0, w) ∷ es) (e ∷ rest))
    go rest more true = counts
    go rest more false = (counts.0, more)

-- and stands at its place
pub set-values : (n k : ℕ) (es : List (ℕ × List Value)) (w : List Value) → CountFrom n es → values_of (set_value (nat_eq (n + k)) es w) ≡ slice_set (values_of es) k w
set-values n k [] w counts = refl
set-values n zero (e ∷ es) w counts = ap (λ (l : List (ℕ × List Value)). values_of l) (yes-is ((e.0, w) ∷ es) (e ∷ set_value (nat_eq (n + zero)) es w) (nat_eq (n + zero) e.0) (ap (nat_eq (n + zero)) counts.0 ∙ same-key n))
set-values n (suc k) (e ∷ es) w counts =
    ap (λ (l : List (ℕ × List Value)). values_of l) (no-is ((e.0, w) ∷ es) (e ∷ set_value (nat_eq (n + suc k)) es w) (nat_eq (n + suc k) e.0) (ap (nat_eq (n + suc k)) counts.0 ∙ later-key n k))
    ∙ ap (λ key. e.1 ∷ values_of (set_value (nat_eq key) es w)) (sym (one-more n k))
    ∙ ap (λ (l : List (List Value)). e.1 ∷ l) (set-values (suc n) k es w counts.1)

-- where the numbers begin at 0
pub set-at : (k : ℕ) (es : List (ℕ × List Value)) (w : List Value) → CountFrom 0 es → values_of (set_value (nat_eq k) es w) ≡ slice_set (values_of es) k w
set-at k es w counts = let e : 0 + k ≡ k = omega arith in subst (λ key. values_of (set_value (nat_eq key) es w) ≡ slice_set (values_of es) k w) e (set-values 0 k es w counts)

-- a new entry has the next number
pub add-counts : (n : ℕ) (es : List (ℕ × List Value)) (v : List Value) → CountFrom n es → CountFrom n (es ++ (n + length es, v) ∷ [])
add-counts n [] v counts = (let e : n + 0 ≡ n = omega arith in e, tt)
add-counts n (e ∷ es) v counts = (counts.0, subst (λ key. CountFrom (suc n) (es ++ (key, v) ∷ [])) (one-more n (length es)) (add-counts (suc n) es v counts.1))

-- and its value is the last
pub add-values : (es : List (ℕ × List Value)) (key : ℕ) (v : List Value) → values_of (es ++ (key, v) ∷ []) ≡ values_of es ++ v ∷ []
add-values [] key v = refl
add-values (e ∷ es) key v = ap (λ (l : List (List Value)). e.1 ∷ l) (add-values es key v)

-- ---------- a heap's objects ----------
module _ (es : List (ℕ × List Value)) (counts : CountFrom 0 es) (r f : ℕ) (v : Value) where
  -- what is put into a field of an object that is there is set in its values
  pub put-there : (o w : List Value) (later : List (ℕ × List Value)) → lookup (nat_eq r) es ≡ Some o → w ≡ slice_set o f v → later ≡ set_value (nat_eq r) es w → values_of later ≡ put_at (values_of es) r f v
  put-there o w later there written put =
      ap (λ (l : List (ℕ × List Value)). values_of l) put
      ∙ set-at r es w counts
      ∙ ap (slice_set (values_of es) r) written
      ∙ ap (λ found. put_in (values_of es) r found f v) (sym there ∙ lookup-at r es counts)

  -- and where no object is there, nothing changes
  pub put-nowhere : lookup (nat_eq r) es ≡ None → values_of es ≡ put_at (values_of es) r f v
  put-nowhere none = ap (λ found. put_in (values_of es) r found f v) (sym none ∙ lookup-at r es counts)

-- as many values as entries
pub length-values : (es : List (ℕ × List Value)) → length (values_of es) ≡ length es
length-values [] = refl
length-values (e ∷ es) = ap suc (length-values es)

-- no entry has the next number
pub next-absent : (es : List (ℕ × List Value)) → CountFrom 0 es → lookup (nat_eq (length es)) es ≡ None
next-absent es counts = let past = length-values es in lookup-at (length es) es counts ∙ slice_get_past (values_of es) (length es) (omega (arith, past))

-- the entries after one with the next number is put in
pub put-next : {S : Type 0} (m : IndexMap ℕ (List Value) S) (n : ℕ) (v : List Value) → CountFrom 0 m.entries → n ≡ length m.entries → insert_entry nat_eq m.entries n v ≡ m.entries ++ (n, v) ∷ []
put-next m n v counts is = insert_entry-new nat_eq m n v (ap (λ key. lookup (nat_eq key) m.entries) is ∙ next-absent m.entries counts)

-- they still count from 0
pub add-at : (es : List (ℕ × List Value)) (n : ℕ) (v : List Value) → CountFrom 0 es → n ≡ length es → CountFrom 0 (es ++ (n, v) ∷ [])
add-at es n v counts is = let e : 0 + length es ≡ n = omega (arith, is) in subst (λ key. CountFrom 0 (es ++ (key, v) ∷ [])) e (add-counts 0 es v counts)
