-- The variables of a par after the join, one by one.
use Rattle.std.proofs.Common.{◌≡◌, ℕ, zero, suc, ◌+◌, ◌<◌, ◌≤◌, Bool, List, [], ◌∷◌, ◌++◌, length, take, drop, get_or, set, cond, refl, sym, ap, ◌∙◌, arith}
use Rattle.perm_tree.specs.Vars.{Vars}
use Rattle.perm_meaning.specs.Custody.{from_either, from_either_at, merged}

-- ---------- lengths ----------
length-either : (i : ℕ) (G : Vars) (vs ws : List ℕ) → length vs ≡ length ws → length (from_either_at i G vs ws) ≡ length ws
length-either i G [] [] same = refl
length-either i G [] (w ∷ ws) same = absurd (omega arith)
length-either i G (v ∷ vs) [] same = absurd (omega arith)
length-either i G (v ∷ vs) (w ∷ ws) same = ap suc (length-either (suc i) G vs ws (omega arith))

-- the parent has as many variables as before
pub length-merged : (a b : Vars) (vs ls rs : List ℕ) → length ls ≡ length vs → length rs ≡ length vs → length (merged a b vs ls rs) ≡ length vs
length-merged a b vs ls rs left right =
    length-either 0 b rs (from_either a ls vs) (right ∙ sym (length-either 0 a ls vs left)) ∙ length-either 0 a ls vs left

-- ---------- words ----------
either-at : (i : ℕ) (G : Vars) (vs ws : List ℕ) (k : ℕ) → k < length ws → length vs ≡ length ws → get_or (from_either_at i G vs ws) k 0 ≡ cond (G (i + k)) (get_or vs k 0) (get_or ws k 0)
either-at i G vs [] k inside same = absurd (omega arith)
either-at i G [] (w ∷ ws) k inside same = absurd (omega arith)
either-at i G (v ∷ vs) (w ∷ ws) zero inside same = let e : i ≡ i + 0 = omega arith in ap (λ n. cond (G n) v w) e
either-at i G (v ∷ vs) (w ∷ ws) (suc k) inside same =
    let e : suc i + k ≡ i + suc k = omega arith in
    either-at (suc i) G vs ws k (omega arith) (omega arith) ∙ ap (λ n. cond (G n) (get_or vs k 0) (get_or ws k 0)) e

-- a variable after the join
pub merged-at : (a b : Vars) (vs ls rs : List ℕ) (k : ℕ) → k < length vs → length ls ≡ length vs → length rs ≡ length vs
    → get_or (merged a b vs ls rs) k 0 ≡ cond (b k) (get_or rs k 0) (cond (a k) (get_or ls k 0) (get_or vs k 0))
merged-at a b vs ls rs k inside left right =
    let count = length-either 0 a ls vs left in
    let place : 0 + k ≡ k = omega arith in
    either-at 0 b rs (from_either a ls vs) k (omega arith) (omega arith)
    ∙ ap (λ w. cond (b (0 + k)) (get_or rs k 0) w) (either-at 0 a ls vs k inside left)
    ∙ ap (λ n. cond (b n) (get_or rs k 0) (cond (a n) (get_or ls k 0) (get_or vs k 0))) place

-- ---------- one word after the other ----------
one-more : (m vs : List ℕ) (x : ℕ) → x < length vs → length m ≡ length vs → set (take x m ++ drop x vs) x (get_or m x 0) ≡ take (suc x) m ++ drop (suc x) vs
one-more m [] x inside same = absurd (omega arith)
one-more [] (v ∷ vs) x inside same = absurd (omega arith)
one-more (w ∷ m) (v ∷ vs) zero inside same = refl
one-more (w ∷ m) (v ∷ vs) (suc x) inside same = ap (λ l. w ∷ l) (one-more m vs x (omega arith) (omega arith))

-- the next word is that of the one list
pub next-word : (m vs : List ℕ) (x : ℕ) → x < length vs → length m ≡ length vs → set (take x m ++ drop x vs) x (get_or m x 0) ≡ take (x + 1) m ++ drop (x + 1) vs
next-word m vs x inside same = let e : suc x ≡ x + 1 = omega arith in one-more m vs x inside same ∙ ap (λ n. take n m ++ drop n vs) e

-- the words from a place on are as they were
pub next-old : (m vs : List ℕ) (x : ℕ) → x < length vs → length m ≡ length vs → get_or (take x m ++ drop x vs) x 0 ≡ get_or vs x 0
next-old m [] x inside same = absurd (omega arith)
next-old [] (v ∷ vs) x inside same = absurd (omega arith)
next-old (w ∷ m) (v ∷ vs) zero inside same = refl
next-old (w ∷ m) (v ∷ vs) (suc x) inside same = next-old m vs x (omega arith) (omega arith)

-- no word is left
pub last-word : (m vs : List ℕ) (x : ℕ) → length vs ≤ x → length m ≡ length vs → take x m ++ drop x vs ≡ m
last-word [] [] zero past same = refl
last-word [] [] (suc x) past same = refl
last-word [] (v ∷ vs) x past same = absurd (omega arith)
last-word (w ∷ m) [] x past same = absurd (omega arith)
last-word (w ∷ m) (v ∷ vs) zero past same = absurd (omega arith)
last-word (w ∷ m) (v ∷ vs) (suc x) past same = ap (λ l. w ∷ l) (last-word m vs x (omega arith) (omega arith))

-- one word after the join is more
pub merge-more : (a b : Vars) (vs ls rs words new : List ℕ) (x : ℕ) (left right : Bool) → x < length vs → length ls ≡ length vs → length rs ≡ length vs → words ≡ take x (merged a b vs ls rs) ++ drop x vs
    → a x ≡ left → b x ≡ right → new ≡ set words x (cond right (get_or rs x 0) (cond left (get_or ls x 0) (get_or words x 0))) → new ≡ take (x + 1) (merged a b vs ls rs) ++ drop (x + 1) vs
merge-more a b vs ls rs words new x left right inside lefts rights before first second made =
    let m = merged a b vs ls rs in
    let count : length m ≡ length vs = length-merged a b vs ls rs lefts rights in
    let old : get_or words x 0 ≡ get_or vs x 0 = ap (λ l. get_or l x 0) before ∙ next-old m vs x inside count in
    let word : cond right (get_or rs x 0) (cond left (get_or ls x 0) (get_or words x 0)) ≡ get_or m x 0 =
    ap (λ w. cond right (get_or rs x 0) (cond left (get_or ls x 0) w)) old
    ∙ sym (ap (λ t. cond right (get_or rs x 0) (cond t (get_or ls x 0) (get_or vs x 0))) first)
    ∙ sym (ap (λ t. cond t (get_or rs x 0) (cond (a x) (get_or ls x 0) (get_or vs x 0))) second)
    ∙ sym (merged-at a b vs ls rs x inside lefts rights) in
    made ∙ ap (λ w. set words x w) word ∙ ap (λ l. set l x (get_or m x 0)) before ∙ next-word m vs x inside count

-- ---------- equal sets ----------
either-same : (i n : ℕ) (G H : Vars) (vs ws : List ℕ) → i + length ws ≤ n → ((x : ℕ) → x < n → G x ≡ H x) → from_either_at i G vs ws ≡ from_either_at i H vs ws
either-same i n G H [] ws few same = refl
either-same i n G H (v ∷ vs) [] few same = refl
either-same i n G H (v ∷ vs) (w ∷ ws) few same =
    ap (λ b. cond b v w ∷ from_either_at (suc i) G vs ws) (same i (omega arith)) ∙ ap (λ l. cond (H i) v w ∷ l) (either-same (suc i) n G H vs ws (omega arith) same)

-- sets that agree on the variables merge alike
pub merged-same : (n : ℕ) (a b c d : Vars) (vs ls rs : List ℕ) → length vs ≤ n → length ls ≡ length vs → ((x : ℕ) → x < n → a x ≡ c x) → ((x : ℕ) → x < n → b x ≡ d x) → merged a b vs ls rs ≡ merged c d vs ls rs
merged-same n a b c d vs ls rs few left first second =
    let count = length-either 0 a ls vs left in
    either-same 0 n b d rs (from_either a ls vs) (omega arith) second ∙ ap (λ l. from_either d rs l) (either-same 0 n a c ls vs (omega arith) first)
