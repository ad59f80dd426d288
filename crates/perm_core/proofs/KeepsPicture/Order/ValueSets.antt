-- What is right of a code that is entered with many variables is right where it is entered with fewer, also for all that stands below it.
use Rattle.std.proofs.Common.{◌≡◌, ℕ, zero, suc, Bool, true, false, List, [], ◌∷◌, refl, sym, ap, ◌∙◌, inl, inr}
use Rattle.std.specs.Prelude.{◌⊎◌, ◌&&◌, ◌||◌, not, length}
use Rattle.std.specs.List.{list_any}
use Rattle.std.proofs.lemmas.Bool.{or_cases, or_left, or_right, and_parts}
use Rattle.perm_tree.specs.Code.{Code, End, Give, Return, Do, If, While, Par, Recover, UnitCode}
use Rattle.perm_tree.specs.Mentions.{mentions, mentioned, block_mentions}
use Rattle.perm_tree.specs.Vars.{Vars, just, those, plus, minus, meet, some_below, IsWithin}
use Rattle.perm_tree.proofs.MentionLaws.{within-plus, within-minus, same-within}
use Rattle.perm_rules.specs.Parts.{Context}
use Rattle.perm_rules.specs.Pars.{tied_vars}
use Rattle.perm_meaning.specs.Machine.{Frame, OpenBlock, OpenRecover, OpenCall}
use Rattle.perm_meaning.specs.NamedHeap.{Held}
use Rattle.perm_meaning.proofs.SameName.{together}
use Rattle.perm_rules.specs.Scoping.{hides_tied, has_none, is_scoped, given}
use Rattle.perm_core.specs.Marked.{calls_right}
use Rattle.perm_core.specs.Picture.{context_of, valued, rest_of, routine_below, just_lent, just_taken, grown, recover_right, code_right, stack_right}

pub and-map : (a b c d : Bool) → (a ≡ true → c ≡ true) → (b ≡ true → d ≡ true) → a && b ≡ true → c && d ≡ true
and-map a b c d f g e = let x = and_parts a b e in together c d (f x.0) (g x.1)

pub not-map : (a b : Bool) → (a ≡ true → b ≡ true) → not b ≡ true → not a ≡ true
not-map false b f e = refl
not-map true b f e = absurd (let p : b ≡ true = f refl in let q : false ≡ true = sym (ap (λ t. not t) p) ∙ e in cc)

any-more : (V U : Vars) (xs : List ℕ) → IsWithin V U → list_any V xs ≡ true → list_any U xs ≡ true
any-more V U [] less e = e
any-more V U (x ∷ xs) less e = go (any-more V U xs less) (or_cases (V x) (list_any V xs) e)
  where
    go : (list_any V xs ≡ true → list_any U xs ≡ true) → (V x ≡ true) ⊎ (list_any V xs ≡ true) → (U x || list_any U xs) ≡ true
    go rec (inl q) = or_left (U x) (list_any U xs) (less x q)
    go rec (inr q) = or_right (U x) (list_any U xs) (rec q)

below-more : (V U : Vars) (n : ℕ) → IsWithin V U → some_below n V ≡ true → some_below n U ≡ true
below-more V U zero less e = e
below-more V U (suc n) less e = go (below-more V U n less) (or_cases (V n) (some_below n V) e)
  where
    go : (some_below n V ≡ true → some_below n U ≡ true) → (V n ≡ true) ⊎ (some_below n V ≡ true) → (U n || some_below n U) ≡ true
    go rec (inl q) = or_left (U n) (some_below n U) (less n q)
    go rec (inr q) = or_right (U n) (some_below n U) (rec q)

pub none-fewer : (V U : Vars) (xs : List ℕ) → IsWithin V U → has_none U xs ≡ true → has_none V xs ≡ true
none-fewer V U xs less e = not-map (list_any V xs) (list_any U xs) (any-more V U xs less) e

pub tied-fewer : (c : Context) (V U : Vars) (hides : List ℕ) → IsWithin V U → hides_tied c U hides ≡ true → hides_tied c V hides ≡ true
tied-fewer c V U hides less e =
    let few : Vars = minus (meet (tied_vars c) V) (those hides) in
    let many : Vars = minus (meet (tied_vars c) U) (those hides) in
    not-map (some_below (length c.vars) few) (some_below (length c.vars) many) (below-more few many (length c.vars) (within-minus (meet (tied_vars c) V) (meet (tied_vars c) U) (those hides) (λ x q. (let d = and_parts (tied_vars c x) (V x) q in together (tied_vars c x) (U x) d.0 (less x d.1))))) e

-- ---------- codes ----------
module _ (c : Context) where
  grow : (V U M : Vars) → IsWithin V U → IsWithin (plus V M) (plus U M)
  grow V U M less = within-plus V U M M less (same-within M)

  pub scoped-fewer : (a : Code) (V U : Vars) → IsWithin V U → is_scoped c a U ≡ true → is_scoped c a V ≡ true
  scoped-fewer End V U less e = refl
  scoped-fewer (Give at w x) V U less e = refl
  scoped-fewer (Return at r) V U less e = refl
  scoped-fewer (Do at i rest) V U less e = scoped-fewer rest (plus V (mentions i)) (plus U (mentions i)) (grow V U (mentions i) less) e
  scoped-fewer (If at t own1 a own2 b rest) V U less e =
      let M : Vars = plus (block_mentions own1 a) (block_mentions own2 b) in
      and-map (has_none U own1 && has_none U own2) (is_scoped c a U && (is_scoped c b U && is_scoped c rest (plus U M))) (has_none V own1 && has_none V own2) (is_scoped c a V && (is_scoped c b V && is_scoped c rest (plus V M)))
      (and-map (has_none U own1) (has_none U own2) (has_none V own1) (has_none V own2) (none-fewer V U own1 less) (none-fewer V U own2 less))
      (and-map (is_scoped c a U) (is_scoped c b U && is_scoped c rest (plus U M)) (is_scoped c a V) (is_scoped c b V && is_scoped c rest (plus V M)) (scoped-fewer a V U less)
      (and-map (is_scoped c b U) (is_scoped c rest (plus U M)) (is_scoped c b V) (is_scoped c rest (plus V M)) (scoped-fewer b V U less) (scoped-fewer rest (plus V M) (plus U M) (grow V U M less)))) e
  scoped-fewer (Par at own1 a own2 b rest) V U less e =
      let M : Vars = plus (block_mentions own1 a) (block_mentions own2 b) in
      and-map (has_none U own1 && has_none U own2) (is_scoped c a U && (is_scoped c b U && is_scoped c rest (plus U M))) (has_none V own1 && has_none V own2) (is_scoped c a V && (is_scoped c b V && is_scoped c rest (plus V M)))
      (and-map (has_none U own1) (has_none U own2) (has_none V own1) (has_none V own2) (none-fewer V U own1 less) (none-fewer V U own2 less))
      (and-map (is_scoped c a U) (is_scoped c b U && is_scoped c rest (plus U M)) (is_scoped c a V) (is_scoped c b V && is_scoped c rest (plus V M)) (scoped-fewer a V U less)
      (and-map (is_scoped c b U) (is_scoped c rest (plus U M)) (is_scoped c b V) (is_scoped c rest (plus V M)) (scoped-fewer b V U less) (scoped-fewer rest (plus V M) (plus U M) (grow V U M less)))) e
  scoped-fewer (While at t own body rest) V U less e =
      let M : Vars = block_mentions own body in
      and-map (has_none U own) (is_scoped c body (plus U M) && is_scoped c rest (plus U M)) (has_none V own) (is_scoped c body (plus V M) && is_scoped c rest (plus V M)) (none-fewer V U own less)
      (and-map (is_scoped c body (plus U M)) (is_scoped c rest (plus U M)) (is_scoped c body (plus V M)) (is_scoped c rest (plus V M)) (scoped-fewer body (plus V M) (plus U M) (grow V U M less)) (scoped-fewer rest (plus V M) (plus U M) (grow V U M less))) e
  scoped-fewer (Recover at x own hides body rest) V U less e =
      let M : Vars = block_mentions own body in
      let H : Vars = those hides in
      let head : (W : Vars) → Bool = λ W. given body x && (has_none (plus W H) own && hides_tied c (plus W M) hides) in
      let later : (W : Vars) → Bool = λ W. is_scoped c body (plus W H) && is_scoped c rest (plus (just x) (plus W M)) in
      and-map (head U) (later U) (head V) (later V)
      (and-map (given body x) (has_none (plus U H) own && hides_tied c (plus U M) hides) (given body x) (has_none (plus V H) own && hides_tied c (plus V M) hides) (λ q. q)
      (and-map (has_none (plus U H) own) (hides_tied c (plus U M) hides) (has_none (plus V H) own) (hides_tied c (plus V M) hides) (none-fewer (plus V H) (plus U H) own (grow V U H less)) (tied-fewer c (plus V M) (plus U M) hides (grow V U M less))))
      (and-map (is_scoped c body (plus U H)) (is_scoped c rest (plus (just x) (plus U M))) (is_scoped c body (plus V H)) (is_scoped c rest (plus (just x) (plus V M))) (scoped-fewer body (plus V H) (plus U H) (grow V U H less))
      (scoped-fewer rest (plus (just x) (plus V M)) (plus (just x) (plus U M)) (within-plus (just x) (just x) (plus V M) (plus U M) (same-within (just x)) (grow V U M less)))) e

-- ---------- stacks ----------
grown-fewer : (f : Frame Held) (c : Code) (V U : Vars) → IsWithin V U → IsWithin (grown f c V) (grown f c U)
grown-fewer (OpenBlock own rest) c V U less = within-minus (plus V (mentioned c)) (plus U (mentioned c)) (those own) (within-plus V U (mentioned c) (mentioned c) less (same-within (mentioned c)))
grown-fewer (OpenRecover own hides saved rest) c V U less =
    let kept : Vars = plus (valued saved) (given c) in
    within-plus (minus (plus V (mentioned c)) (those own)) (minus (plus U (mentioned c)) (those own)) kept kept
    (within-minus (plus V (mentioned c)) (plus U (mentioned c)) (those own) (within-plus V U (mentioned c) (mentioned c) less (same-within (mentioned c)))) (same-within kept)
grown-fewer (OpenCall tie into y saved lent caller rest) c V U less = same-within (plus (valued saved) (plus (just_lent lent y) (just_taken into)))

recover-fewer : (k : Context) (f : Frame Held) (c : Code) (V U : Vars) → IsWithin V U → recover_right k f c U ≡ true → recover_right k f c V ≡ true
recover-fewer k (OpenBlock own rest) c V U less e = refl
recover-fewer k (OpenRecover own hides saved rest) c V U less e =
    tied-fewer k (minus (plus V (mentioned c)) (those own)) (minus (plus U (mentioned c)) (those own)) hides
    (within-minus (plus V (mentioned c)) (plus U (mentioned c)) (those own) (within-plus V U (mentioned c) (mentioned c) less (same-within (mentioned c)))) e
recover-fewer k (OpenCall tie into y saved lent caller rest) c V U less e = refl

pub code-fewer : (k : Context) (c : Code) (V U : Vars) → IsWithin V U → code_right k c U ≡ true → code_right k c V ≡ true
code-fewer k c V U less e = and-map (calls_right k c) (is_scoped k c U) (calls_right k c) (is_scoped k c V) (λ q. q) (scoped-fewer k c V U less) e

pub stack-fewer : (u : UnitCode) (m : ℕ) (c : Code) (st : List (Frame Held)) (V U : Vars) → IsWithin V U → stack_right u m c st U ≡ true → stack_right u m c st V ≡ true
stack-fewer u m c [] V U less e = code-fewer (context_of u m) c V U less e
stack-fewer u m c (f ∷ st) V U less e =
    let k = context_of u m in
    let n = routine_below f m in
    and-map (code_right k c U) (recover_right k f c U && stack_right u n (rest_of f) st (grown f c U)) (code_right k c V) (recover_right k f c V && stack_right u n (rest_of f) st (grown f c V)) (code-fewer k c V U less)
    (and-map (recover_right k f c U) (stack_right u n (rest_of f) st (grown f c U)) (recover_right k f c V) (stack_right u n (rest_of f) st (grown f c V)) (recover-fewer k f c V U less) (stack-fewer u n (rest_of f) st (grown f c V) (grown f c U) (grown-fewer f c V U less))) e
