-- Where the code to come is tied and scoped rightly, so is what a statement leaves of it: the code behind it, a block on top of that, or the sides of a par.
use Rattle.std.proofs.Common.{◌≡◌, ℕ, Bool, true, false, List, [], ◌∷◌, refl, sym, ap, subst, ◌∙◌, inl, inr}
use Rattle.std.specs.Prelude.{◌⊎◌, ◌&&◌, ◌||◌, not, nat_eq}
use Rattle.std.specs.List.{list_any}
use Rattle.std.proofs.lemmas.Bool.{or_cases, or_left, or_right, and_parts}
use Rattle.perm_tree.specs.declared.ast.Span.{Span}
use Rattle.perm_tree.specs.Code.{Term, Instruction, Code, End, Give, Return, Do, If, While, Par, Recover, UnitCode}
use Rattle.perm_tree.specs.Mentions.{term_mentions, mentions, mentioned, block_mentions}
use Rattle.perm_tree.specs.Vars.{Vars, none, just, those, plus, minus, IsWithin}
use Rattle.perm_tree.proofs.MentionLaws.{same-within, within-left, within-right, within-both, within-plus, within-minus}
use Rattle.perm_rules.specs.Parts.{Context}
use Rattle.perm_rules.specs.Scoping.{given, has_none, hides_tied, is_scoped}
use Rattle.perm_meaning.specs.Expressions.{tagged, clear_all}
use Rattle.perm_meaning.specs.Custody.{only, in_neither, back_l, back_r}
use Rattle.perm_meaning.specs.Machine.{Frame, OpenBlock, OpenRecover, OpenCall, Blocks, Leaf, On, Splits, settled, done}
use Rattle.perm_meaning.specs.NamedHeap.{Held, Own, Branch}
use Rattle.perm_meaning.specs.Turns.{blocks}
use Rattle.perm_meaning.proofs.SameName.{together, eq-itself, eq-true}
use Rattle.perm_core.specs.Core.{core}
use Rattle.perm_core.specs.Marked.{call_right, calls_right}
use Rattle.perm_core.specs.Picture.{context_of, valued, rest_of, routine_below, just_lent, just_taken, grown, recover_right, code_right, stack_right, tree_right}
use Rattle.perm_core.proofs.KeepsPicture.Order.ValueSets.{tied-fewer, scoped-fewer, stack-fewer}
use Rattle.perm_core.proofs.KeepsPicture.Order.ValuedLists.{clear_all-within, only-within}

-- ---------- sets ----------
pub within-then : {G H K : Vars} → IsWithin G H → IsWithin H K → IsWithin G K
within-then f g x e = g x (f x e)

-- what may have a value within a block and isn't its own stands outside
outer : (U : Vars) (a : Code) (own : List ℕ) → IsWithin (minus (plus U (mentioned a)) (those own)) (plus U (block_mentions own a))
outer U a own x e = go (and_parts (plus U (mentioned a) x) (not (those own x)) e)
  where
    go : (plus U (mentioned a) x ≡ true) × (not (those own x) ≡ true) → plus U (block_mentions own a) x ≡ true
    go (p, q) = pick (or_cases (U x) (mentioned a x) p)
      where
        pick : (U x ≡ true) ⊎ (mentioned a x ≡ true) → plus U (block_mentions own a) x ≡ true
        pick (inl i) = or_left (U x) (block_mentions own a x) i
        pick (inr i) = or_right (U x) (block_mentions own a x) (together (mentioned a x) (not (those own x)) i q)

-- a block declares nothing of what stands outside it
none-own : (U : Vars) (a : Code) (own : List ℕ) → has_none U own ≡ true → has_none (plus U (block_mentions own a)) own ≡ true
none-own U a own e = go own (λ x q. q) e
  where
    N : Vars
    N = block_mentions own a

    not-own : (x : ℕ) → those own x ≡ true → N x ≡ true → ⊥
    not-own x o n = clash (those own x) o (and_parts (mentioned a x) (not (those own x)) n).1
      where
        clash : (t : Bool) → t ≡ true → not t ≡ true → ⊥
        clash true p q = absurd (let no : ⊥ = cc q in no)
        clash false p q = absurd (let no : ⊥ = cc p in no)

    go : (xs : List ℕ) → ((x : ℕ) → those xs x ≡ true → those own x ≡ true) → has_none U xs ≡ true → has_none (plus U N) xs ≡ true
    go [] all e = refl
    go (x ∷ xs) all e = by_tests (U x) (N x) refl refl e (go xs (λ y q. all y (or_right (nat_eq y x) (those xs y) q)))
      where
        here : those own x ≡ true
        here = all x (or_left (nat_eq x x) (those xs x) (eq-itself x))

        by_tests : (p q : Bool) → U x ≡ p → N x ≡ q → not (U x || list_any U xs) ≡ true → (has_none U xs ≡ true → has_none (plus U N) xs ≡ true) → not ((U x || N x) || list_any (plus U N) xs) ≡ true
        by_tests true q i j e later = absurd (let no : false ≡ true = sym (ap (λ t. not (t || list_any U xs)) i) ∙ e in let z : ⊥ = cc no in z)
        by_tests false true i j e later = absurd (not-own x here j)
        by_tests false false i j e later = ap (λ t. not ((t || N x) || list_any (plus U N) xs)) i ∙ ap (λ t. not (t || list_any (plus U N) xs)) j ∙ later (sym (ap (λ t. not (t || list_any U xs)) i) ∙ e)

-- the variable to which a code gives is the one
pub given-one : (c : Code) (x y : ℕ) → given c x ≡ true → given c y ≡ true → just x y ≡ true
given-one End x y e f = absurd (let no : ⊥ = cc e in no)
given-one (Give at w z) x y e f = let p : x ≡ z = eq-true x z e in let q : y ≡ z = eq-true y z f in subst (λ n. nat_eq n x ≡ true) (sym (q ∙ sym p)) (eq-itself x)
given-one (Return at a) x y e f = absurd (let no : ⊥ = cc e in no)
given-one (Do at i rest) x y e f = given-one rest x y e f
given-one (If at t own1 a own2 b rest) x y e f = given-one rest x y e f
given-one (While at t own body rest) x y e f = given-one rest x y e f
given-one (Par at own1 a own2 b rest) x y e f = given-one rest x y e f
given-one (Recover at z own hides body rest) x y e f = given-one rest x y e f

module _ (u : UnitCode) where
  -- ---------- stacks ----------
  pub top-right : (m : ℕ) (c : Code) (st : List (Frame Held)) (U : Vars) → stack_right u m c st U ≡ true → code_right (context_of u m) c U ≡ true
  top-right m c [] U e = e
  top-right m c (f ∷ st) U e = (and_parts (code_right (context_of u m) c U) (recover_right (context_of u m) f c U && stack_right u (routine_below f m) (rest_of f) st (grown f c U)) e).0

  recover-instead : (k : Context) (f : Frame Held) (c a : Code) (U V : Vars) → IsWithin (plus V (mentioned a)) (plus U (mentioned c)) → recover_right k f c U ≡ true → recover_right k f a V ≡ true
  recover-instead k (OpenBlock own rest) c a U V less e = refl
  recover-instead k (OpenRecover own hides saved rest) c a U V less e = tied-fewer k (minus (plus V (mentioned a)) (those own)) (minus (plus U (mentioned c)) (those own)) hides (within-minus (plus V (mentioned a)) (plus U (mentioned c)) (those own) less) e
  recover-instead k (OpenCall tie into y saved lent caller rest) c a U V less e = refl

  grown-instead : (f : Frame Held) (c a : Code) (U V : Vars) → IsWithin (plus V (mentioned a)) (plus U (mentioned c)) → IsWithin (given a) (given c) → IsWithin (grown f a V) (grown f c U)
  grown-instead (OpenBlock own rest) c a U V less gives = within-minus (plus V (mentioned a)) (plus U (mentioned c)) (those own) less
  grown-instead (OpenRecover own hides saved rest) c a U V less gives =
      within-plus (minus (plus V (mentioned a)) (those own)) (minus (plus U (mentioned c)) (those own)) (plus (valued saved) (given a)) (plus (valued saved) (given c))
      (within-minus (plus V (mentioned a)) (plus U (mentioned c)) (those own) less) (within-plus (valued saved) (valued saved) (given a) (given c) (same-within (valued saved)) gives)
  grown-instead (OpenCall tie into y saved lent caller rest) c a U V less gives = same-within (plus (valued saved) (plus (just_lent lent y) (just_taken into)))

  -- other code in its place, in which no more stands and which gives to the same variable
  stack-instead : (m : ℕ) (c a : Code) (st : List (Frame Held)) (U V : Vars) → code_right (context_of u m) a V ≡ true → IsWithin (plus V (mentioned a)) (plus U (mentioned c)) → IsWithin (given a) (given c)
      → stack_right u m c st U ≡ true → stack_right u m a st V ≡ true
  stack-instead m c a [] U V code less gives e = code
  stack-instead m c a (f ∷ st) U V code less gives e =
      let k = context_of u m in
      let n = routine_below f m in
      let p = and_parts (code_right k c U) (recover_right k f c U && stack_right u n (rest_of f) st (grown f c U)) e in
      let q = and_parts (recover_right k f c U) (stack_right u n (rest_of f) st (grown f c U)) p.1 in
      together (code_right k a V) (recover_right k f a V && stack_right u n (rest_of f) st (grown f a V)) code
      (together (recover_right k f a V) (stack_right u n (rest_of f) st (grown f a V)) (recover-instead k f c a U V less q.0) (stack-fewer u n (rest_of f) st (grown f a V) (grown f c U) (grown-instead f c a U V less gives) q.1))

  -- what stands below a frame
  pub below-right : (m : ℕ) (c : Code) (f : Frame Held) (st : List (Frame Held)) (U : Vars) → stack_right u m c (f ∷ st) U ≡ true → stack_right u (routine_below f m) (rest_of f) st (grown f c U) ≡ true
  below-right m c f st U e =
      let k = context_of u m in
      let below : Bool = stack_right u (routine_below f m) (rest_of f) st (grown f c U) in
      (and_parts (recover_right k f c U) below (and_parts (code_right k c U) (recover_right k f c U && below) e).1).1

  pub settled-right : (b : Branch) (vs : List Held) (c : Code) (st : List (Frame Held)) → stack_right u b.own.routine c st (valued vs) ≡ true → tree_right u (Leaf (settled (core u) b vs c st)) ≡ true
  settled-right b vs End (OpenBlock own rest ∷ st) e =
      settled-right b (clear_all tagged vs own) rest st
      (stack-fewer u b.own.routine rest st (valued (clear_all tagged vs own)) (minus (plus (valued vs) none) (those own))
      (within-then (clear_all-within vs own) (within-minus (valued vs) (plus (valued vs) none) (those own) (within-left (valued vs) (valued vs) none (same-within (valued vs))))) (below-right b.own.routine End (OpenBlock own rest) st (valued vs) e))
  settled-right b vs End [] e = e
  settled-right b vs End (OpenRecover own hides saved rest ∷ st) e = e
  settled-right b vs End (OpenCall tie into y saved lent caller rest ∷ st) e = e
  settled-right b vs (Give at w x) st e = e
  settled-right b vs (Return at a) st e = e
  settled-right b vs (Do at i rest) st e = e
  settled-right b vs (If at x own1 a own2 d rest) st e = e
  settled-right b vs (While at x own a rest) st e = e
  settled-right b vs (Par at own1 a own2 d rest) st e = e
  settled-right b vs (Recover at x own hides a rest) st e = e

  -- a branch that goes on with these variables in this method
  pub on-right : (b : Branch) (l : Own) (t m : ℕ) (vs : List Held) (c : Code) (st : List (Frame Held)) → l.vars ≡ vs → l.routine ≡ m → stack_right u m c st (valued vs) ≡ true → tree_right u (done (core u) b t (On l c st)) ≡ true
  on-right b l t m vs c st vars routine e =
      settled-right (record b { own = l; turns = t }) l.vars c st (subst (λ (n : ℕ). stack_right u n c st (valued l.vars) ≡ true) (sym routine) (subst (λ (ws : List Held). stack_right u m c st (valued ws) ≡ true) (sym vars) e))

  -- ---------- simple statements ----------
  pub do-right : (m : ℕ) (at : Span) (i : Instruction) (rest : Code) (st : List (Frame Held)) (U V : Vars) → IsWithin V (plus U (mentions i)) → stack_right u m (Do at i rest) st U ≡ true → stack_right u m rest st V ≡ true
  do-right m at i rest st U V less e =
      let k = context_of u m in
      let p = and_parts (call_right k i && calls_right k rest) (is_scoped k rest (plus U (mentions i))) (top-right m (Do at i rest) st U e) in
      stack-instead m (Do at i rest) rest st U V
      (together (calls_right k rest) (is_scoped k rest V) (and_parts (call_right k i) (calls_right k rest) p.0).1 (scoped-fewer k rest V (plus U (mentions i)) less p.1))
      (within-both _ _ _ (within-then less (within-plus U U (mentions i) (plus (mentions i) (mentioned rest)) (same-within U) (within-left (mentions i) (mentions i) (mentioned rest) (same-within (mentions i)))))
      (within-right _ U (plus (mentions i) (mentioned rest)) (within-right (mentioned rest) (mentions i) (mentioned rest) (same-within (mentioned rest)))))
      (same-within (given rest)) e

  -- ---------- blocks ----------
  -- the code behind a statement, where what has a value stood before it or stands in it
  behind-right : (m : ℕ) (c rest : Code) (st : List (Frame Held)) (U M V : Vars) → calls_right (context_of u m) rest ≡ true → is_scoped (context_of u m) rest M ≡ true → IsWithin V M → IsWithin M (plus U (mentioned c)) → IsWithin (mentioned rest) (mentioned c)
      → IsWithin (given rest) (given c) → stack_right u m c st U ≡ true → stack_right u m rest st V ≡ true
  behind-right m c rest st U M V calls scoped less outer_m stands gives e =
      stack-instead m c rest st U V (together (calls_right (context_of u m) rest) (is_scoped (context_of u m) rest V) calls (scoped-fewer (context_of u m) rest V M less scoped))
      (within-both _ _ _ (within-then less outer_m) (within-right _ U (mentioned c) stands)) gives e

  pub if-right : (m : ℕ) (at : Span) (x : Term) (own1 : List ℕ) (a : Code) (own2 : List ℕ) (d rest : Code) (st : List (Frame Held)) (U : Vars) → stack_right u m (If at x own1 a own2 d rest) st U ≡ true
      → (stack_right u m a (OpenBlock own1 rest ∷ st) U ≡ true) × (stack_right u m d (OpenBlock own2 rest ∷ st) U ≡ true)
  if-right m at x own1 a own2 d rest st U e = (first_block, second_block)
    where
      k : Context
      k = context_of u m

      c : Code
      c = If at x own1 a own2 d rest

      N1 : Vars
      N1 = block_mentions own1 a

      N2 : Vars
      N2 = block_mentions own2 d

      M : Vars
      M = plus U (plus N1 N2)

      parts : (calls_right k c ≡ true) × (is_scoped k c U ≡ true)
      parts = and_parts (calls_right k c) (is_scoped k c U) (top-right m c st U e)

      calls : (calls_right k a ≡ true) × ((calls_right k d ≡ true) × (calls_right k rest ≡ true))
      calls = let p = and_parts (calls_right k a) (calls_right k d && calls_right k rest) parts.0 in (p.0, and_parts (calls_right k d) (calls_right k rest) p.1)

      scoped : (is_scoped k a U ≡ true) × ((is_scoped k d U ≡ true) × (is_scoped k rest M ≡ true))
      scoped =
          let p = and_parts (has_none U own1 && has_none U own2) (is_scoped k a U && (is_scoped k d U && is_scoped k rest M)) parts.1 in
          let q = and_parts (is_scoped k a U) (is_scoped k d U && is_scoped k rest M) p.1 in
          (q.0, and_parts (is_scoped k d U) (is_scoped k rest M) q.1)

      T : Vars
      T = term_mentions x

      stands : IsWithin (mentioned rest) (mentioned c)
      stands = within-then (within-right (mentioned rest) N2 (mentioned rest) (same-within (mentioned rest))) (within-right _ T (plus N1 (plus N2 (mentioned rest))) (within-right (plus N2 (mentioned rest)) N1 (plus N2 (mentioned rest)) (same-within (plus N2 (mentioned rest)))))

      within : IsWithin M (plus U (mentioned c))
      within =
          let R : Vars = mentioned rest in
          within-plus U U (plus N1 N2) (mentioned c) (same-within U)
          (within-right _ T (plus N1 (plus N2 R)) (within-plus N1 N1 N2 (plus N2 R) (same-within N1) (within-left N2 N2 R (same-within N2))))

      first_block : stack_right u m a (OpenBlock own1 rest ∷ st) U ≡ true
      first_block =
          let V : Vars = minus (plus U (mentioned a)) (those own1) in
          together (code_right k a U) (true && stack_right u m rest st V) (together (calls_right k a) (is_scoped k a U) calls.0 scoped.0)
          (behind-right m c rest st U M V calls.1.1 scoped.1.1 (within-then (outer U a own1) (within-plus U U N1 (plus N1 N2) (same-within U) (within-left N1 N1 N2 (same-within N1)))) within stands (same-within (given rest)) e)

      second_block : stack_right u m d (OpenBlock own2 rest ∷ st) U ≡ true
      second_block =
          let V : Vars = minus (plus U (mentioned d)) (those own2) in
          together (code_right k d U) (true && stack_right u m rest st V) (together (calls_right k d) (is_scoped k d U) calls.1.0 scoped.1.0)
          (behind-right m c rest st U M V calls.1.1 scoped.1.1 (within-then (outer U d own2) (within-plus U U N2 (plus N1 N2) (same-within U) (within-right N2 N1 N2 (same-within N2)))) within stands (same-within (given rest)) e)

  pub while-right : (m : ℕ) (at : Span) (x : Term) (own : List ℕ) (body rest : Code) (st : List (Frame Held)) (U : Vars) → stack_right u m (While at x own body rest) st U ≡ true
      → (stack_right u m body (OpenBlock own (While at x own body rest) ∷ st) U ≡ true) × (stack_right u m rest st U ≡ true)
  while-right m at x own body rest st U e = (in_loop, behind)
    where
      k : Context
      k = context_of u m

      c : Code
      c = While at x own body rest

      N : Vars
      N = block_mentions own body

      R : Vars
      R = mentioned rest

      M : Vars
      M = plus U N

      parts : (calls_right k c ≡ true) × (is_scoped k c U ≡ true)
      parts = and_parts (calls_right k c) (is_scoped k c U) (top-right m c st U e)

      calls : (calls_right k body ≡ true) × (calls_right k rest ≡ true)
      calls = and_parts (calls_right k body) (calls_right k rest) parts.0

      head : (has_none U own ≡ true) × (is_scoped k body M && is_scoped k rest M ≡ true)
      head = and_parts (has_none U own) (is_scoped k body M && is_scoped k rest M) parts.1

      scoped : (is_scoped k body M ≡ true) × (is_scoped k rest M ≡ true)
      scoped = and_parts (is_scoped k body M) (is_scoped k rest M) head.1

      T : Vars
      T = term_mentions x

      within : IsWithin M (plus U (mentioned c))
      within = within-plus U U N (mentioned c) (same-within U) (within-right _ T (plus N R) (within-left N N R (same-within N)))

      twice : IsWithin (plus M N) M
      twice = within-both _ _ _ (same-within M) (within-right N U N (same-within N))

      again : is_scoped k c M ≡ true
      again = together (has_none M own) (is_scoped k body (plus M N) && is_scoped k rest (plus M N)) (none-own U body own head.0) (together (is_scoped k body (plus M N)) (is_scoped k rest (plus M N)) (scoped-fewer k body (plus M N) M twice scoped.0) (scoped-fewer k rest (plus M N) M twice scoped.1))

      in_loop : stack_right u m body (OpenBlock own (While at x own body rest) ∷ st) U ≡ true
      in_loop =
          let V : Vars = minus (plus U (mentioned body)) (those own) in
          together (code_right k body U) (true && stack_right u m c st V) (together (calls_right k body) (is_scoped k body U) calls.0 (scoped-fewer k body U M (within-left U U N (same-within U)) scoped.0))
          (behind-right m c c st U M V parts.0 again (outer U body own) within (same-within (mentioned c)) (same-within (given c)) e)

      behind : stack_right u m rest st U ≡ true
      behind = behind-right m c rest st U M U calls.1 scoped.1 (within-left U U N (same-within U)) within (within-right _ T (plus N R) (within-right R N R (same-within R))) (same-within (given rest)) e

  -- a recover block is entered: what is hidden is laid by
  pub opened-right : (m : ℕ) (at : Span) (x : ℕ) (own hides : List ℕ) (body rest : Code) (st : List (Frame Held)) (vs : List Held) → stack_right u m (Recover at x own hides body rest) st (valued vs) ≡ true
      → stack_right u m body (OpenRecover own hides (only tagged (those hides) vs) rest ∷ st) (valued (only tagged (λ y. not (those hides y)) vs)) ≡ true
  opened-right m at x own hides body rest st vs e =
      together (code_right k body V) (hides_tied k (minus (plus V (mentioned body)) (those own)) hides && stack_right u m rest st W)
      (together (calls_right k body) (is_scoped k body V) calls.0 (scoped-fewer k body V (plus U H) (within-left _ U H fewer) scoped.0))
      (together (hides_tied k (minus (plus V (mentioned body)) (those own)) hides) (stack_right u m rest st W) (tied-fewer k (minus (plus V (mentioned body)) (those own)) (plus U N) hides inner tied)
      (behind-right m c rest st U M W calls.1 scoped.1 grown_within within (within-right _ (just x) (plus N R) (within-right R N R (same-within R))) (same-within (given rest)) e))
    where
      k : Context
      k = context_of u m

      c : Code
      c = Recover at x own hides body rest

      U : Vars
      U = valued vs

      H : Vars
      H = those hides

      N : Vars
      N = block_mentions own body

      R : Vars
      R = mentioned rest

      M : Vars
      M = plus (just x) (plus U N)

      V : Vars
      V = valued (only tagged (λ y. not (those hides y)) vs)

      saved : List Held
      saved = only tagged (those hides) vs

      W : Vars
      W = plus (minus (plus V (mentioned body)) (those own)) (plus (valued saved) (given body))

      parts : (calls_right k c ≡ true) × (is_scoped k c U ≡ true)
      parts = and_parts (calls_right k c) (is_scoped k c U) (top-right m c st U e)

      calls : (calls_right k body ≡ true) × (calls_right k rest ≡ true)
      calls = and_parts (calls_right k body) (calls_right k rest) parts.0

      halves : (given body x && (has_none (plus U H) own && hides_tied k (plus U N) hides) ≡ true) × (is_scoped k body (plus U H) && is_scoped k rest M ≡ true)
      halves = and_parts (given body x && (has_none (plus U H) own && hides_tied k (plus U N) hides)) (is_scoped k body (plus U H) && is_scoped k rest M) parts.1

      head : (given body x ≡ true) × (has_none (plus U H) own && hides_tied k (plus U N) hides ≡ true)
      head = and_parts (given body x) (has_none (plus U H) own && hides_tied k (plus U N) hides) halves.0

      tied : hides_tied k (plus U N) hides ≡ true
      tied = (and_parts (has_none (plus U H) own) (hides_tied k (plus U N) hides) head.1).1

      scoped : (is_scoped k body (plus U H) ≡ true) × (is_scoped k rest M ≡ true)
      scoped = and_parts (is_scoped k body (plus U H)) (is_scoped k rest M) halves.1

      fewer : IsWithin V U
      fewer y m = (and_parts (not (those hides y)) (valued vs y) (only-within (λ y. not (those hides y)) vs y m)).1

      fewer_saved : IsWithin (valued saved) U
      fewer_saved y m = (and_parts (those hides y) (valued vs y) (only-within (those hides) vs y m)).1

      inner : IsWithin (minus (plus V (mentioned body)) (those own)) (plus U N)
      inner = within-then (outer V body own) (within-plus V U N N fewer (same-within N))

      grown_within : IsWithin W M
      grown_within =
          within-both _ _ _ (within-right _ (just x) (plus U N) inner)
          (within-both _ _ _ (within-then fewer_saved (within-right _ (just x) (plus U N) (within-left U U N (same-within U)))) (λ y g. or_left (just x y) (plus U N y) (given-one body x y head.0 g)))

      within : IsWithin M (plus U (mentioned c))
      within =
          within-both _ _ _ (within-right _ U (mentioned c) (within-left (just x) (just x) (plus N R) (same-within (just x))))
          (within-plus U U N (mentioned c) (same-within U) (within-right _ (just x) (plus N R) (within-left N N R (same-within N))))

  -- a par begins: its sides get what stands in them
  pub split-right : (b : Branch) (t : ℕ) (at : Span) (own1 : List ℕ) (a : Code) (own2 : List ℕ) (d rest : Code) → stack_right u b.own.routine (Par at own1 a own2 d rest) b.stack (valued b.own.vars) ≡ true
      → tree_right u (done (core u) b t (Splits (blocks own1 a own2 d) rest)) ≡ true
  split-right b t at own1 a own2 d rest e =
      together (stack_right u m rest b.stack (plus (valued kept) (plus N1 N2))) (code_right k a (valued first_vs) && code_right k d (valued second_vs))
      (behind-right m c rest b.stack U M (plus (valued kept) (plus N1 N2)) calls.1.1 scoped.1.1 (within-plus (valued kept) U (plus N1 N2) (plus N1 N2) (fewer (in_neither (back_l u m p) (back_r u m p))) (same-within (plus N1 N2))) within stands (same-within (given rest)) e)
      (together (code_right k a (valued first_vs)) (code_right k d (valued second_vs))
      (together (calls_right k a) (is_scoped k a (valued first_vs)) calls.0 (scoped-fewer k a (valued first_vs) U (fewer N1) scoped.0))
      (together (calls_right k d) (is_scoped k d (valued second_vs)) calls.1.0 (scoped-fewer k d (valued second_vs) U (fewer N2) scoped.1.0)))
    where
      m : ℕ
      m = b.own.routine

      k : Context
      k = context_of u m

      p : Blocks
      p = blocks own1 a own2 d

      c : Code
      c = Par at own1 a own2 d rest

      U : Vars
      U = valued b.own.vars

      N1 : Vars
      N1 = block_mentions own1 a

      N2 : Vars
      N2 = block_mentions own2 d

      M : Vars
      M = plus U (plus N1 N2)

      kept : List Held
      kept = only tagged (in_neither (back_l u m p) (back_r u m p)) b.own.vars

      first_vs : List Held
      first_vs = only tagged N1 b.own.vars

      second_vs : List Held
      second_vs = only tagged N2 b.own.vars

      fewer : (G : Vars) → IsWithin (valued (only tagged G b.own.vars)) U
      fewer G y q = (and_parts (G y) (U y) (only-within G b.own.vars y q)).1

      parts : (calls_right k c ≡ true) × (is_scoped k c U ≡ true)
      parts = and_parts (calls_right k c) (is_scoped k c U) (top-right m c b.stack U e)

      calls : (calls_right k a ≡ true) × ((calls_right k d ≡ true) × (calls_right k rest ≡ true))
      calls = let p = and_parts (calls_right k a) (calls_right k d && calls_right k rest) parts.0 in (p.0, and_parts (calls_right k d) (calls_right k rest) p.1)

      scoped : (is_scoped k a U ≡ true) × ((is_scoped k d U ≡ true) × (is_scoped k rest M ≡ true))
      scoped =
          let p = and_parts (has_none U own1 && has_none U own2) (is_scoped k a U && (is_scoped k d U && is_scoped k rest M)) parts.1 in
          let q = and_parts (is_scoped k a U) (is_scoped k d U && is_scoped k rest M) p.1 in
          (q.0, and_parts (is_scoped k d U) (is_scoped k rest M) q.1)

      stands : IsWithin (mentioned rest) (mentioned c)
      stands = within-right _ N1 (plus N2 (mentioned rest)) (within-right (mentioned rest) N2 (mentioned rest) (same-within (mentioned rest)))

      within : IsWithin M (plus U (mentioned c))
      within = let R : Vars = mentioned rest in within-plus U U (plus N1 N2) (mentioned c) (same-within U) (within-plus N1 N1 N2 (plus N2 R) (same-within N1) (within-left N2 N2 R (same-within N2)))
