-- What the walk gives of each form of code, by what it gives of its parts.
use Rattle.std.proofs.Common.{◌≡◌, ◌∙◌, ℕ, zero, suc, ◌<◌, ◌≤◌, true, false, List, [], ◌++◌, length, Option, Some, None, Ok, Err, refl, sym, ap, subst, arith, inl, inr, append-nil}
use Rattle.std.specs.Prelude.{◌⊎◌, ◌&&◌, ◌||◌, Bool, not}
use Rattle.std.proofs.lemmas.Bool.{cases_lt, or_cases, and_parts, false_from_ne_true}
use mathlib.Core.Path.{fun_ext}
use Rattle.perm_tree.specs.declared.ast.Span.{Span}
use Rattle.perm_tree.specs.declared.errors.TypeError.{TypeError}
use Rattle.perm_tree.specs.declared.errors.TypeKind.{TypeKind}
use Rattle.perm_tree.specs.declared.var_set.VarSet.{VarSet}
use Rattle.perm_tree.specs.Code.{Term, Instruction, Code, End, Give, Do, If, While, Par, Recover}
use Rattle.perm_tree.specs.Mentions.{known}
use Rattle.perm_tree.specs.Vars.{Vars, just, below, those, plus, minus, meet, IsWithin}
use Rattle.perm_tree.specs.VarSets.{member}
use Rattle.perm_tree.proofs.SetWords.{member_small}
use Rattle.perm_rules.specs.Parts.{Context, Simple, Condition, RecoverHead}
use Rattle.perm_rules.specs.Liveness.{after}
use Rattle.perm_rules.specs.Pars.{par_head}
use Rattle.perm_rules.specs.Refusals.{refusal}
use Rattle.perm_rules.specs.Effects.{Effect, changed, no_effect, instruction_effect, then, effect, block_effect, either, both, repeated}
use Rattle.perm_rules.specs.Goes.{hiding, joined}
use Rattle.perm_rules.specs.FirstRefused.{Entry, entries, error_or, first_error, first_refused, or_later}
use Rattle.perm_rules.proofs.SetLaws.{then-changed, if-changed, par-changed, closed-changed, lost-changed, empty-changed}
use Rattle.perm_rules.proofs.PartLaws.{after-changed, taken-changed}
use Rattle.perm_rules.proofs.Fine.{IsFine, made-mentioned, mentioned-known, sides-apart, block-clear}
use Rattle.perm_rules.proofs.Refusals.{fine-from-unrefused}
use Rattle.perm_rules.proofs.Refusals.ErrorLists.{first_error-append}
use Rattle.perm_flow.specs.Walk.{CodeGives, Holds, PartGives}

-- ---------- numbers below another ----------
pub below-less : (n x : ℕ) → x < n → below n x ≡ true
below-less zero x less = absurd (omega arith)
below-less (suc n) zero less = refl
below-less (suc n) (suc x) less = below-less n x (omega arith)

pub less-below : (n x : ℕ) → below n x ≡ true → x < n
less-below zero x e = absurd (let no : ⊥ = cc e in no)
less-below (suc n) zero e = omega arith
less-below (suc n) (suc x) e = let less : x < n = less-below n x e in omega arith

-- ---------- live sets of known variables ----------
-- an unrefused code goes from known variables to known ones
pub stays-known : (c : Context) (a : Code) (G : Vars) → first_refused c a G ≡ None → IsWithin G (below (length c.vars)) → IsWithin (changed (effect a) G) (below (length c.vars))
stays-known c a G fine known x h = go (or_cases (G x && not ((effect a).lost x)) ((effect a).made x) h)
  where
    go : (G x && not ((effect a).lost x) ≡ true) ⊎ ((effect a).made x ≡ true) → below (length c.vars) x ≡ true
    go (inl kept) = known x (and_parts (G x) (not ((effect a).lost x)) kept).0
    go (inr made) = below-less (length c.vars) x (mentioned-known c a G (fine-from-unrefused c a G fine) x (made-mentioned a x made))

-- a set of words that holds known variables just as a set of them does is that set
pub held-known : (n : ℕ) (set : VarSet) (G : Vars) → n ≤ 256 → IsWithin G (below n) → Holds set G → member set ≡ G
held-known n set G few known holds = fun_ext (λ x. go x (cases_lt x 256))
  where
    go : (x : ℕ) → (x < 256) ⊎ (256 ≤ x) → member set x ≡ G x
    go x (inl less) = holds x less
    go x (inr past) = member_small set x past ∙ sym (false_from_ne_true (G x) (λ e. let less : x < n = less-below n x (known x e) in omega arith))

-- of known variables nothing more is lost than known ones
pub known-lost : (n : ℕ) (G L : Vars) → IsWithin G (below n) → minus G (known n L) ≡ minus G L
known-lost n G L inside = fun_ext (λ x. go (G x) (below n x) (L x) (inside x))
  where
    go : (g b l : Bool) → (g ≡ true → b ≡ true) → (g && not (b && l)) ≡ (g && not l)
    go false b l f = refl
    go true true l f = refl
    go true false l f = absurd (let clash : false ≡ true = f refl in cc)

-- ---------- errors ----------
error-any : (at : Span) (o : Option TypeKind) (e : TypeError) (later : Option TypeError) → error_or at o None ≡ Some e → error_or at o later ≡ Some e
error-any at None e later h = absurd (cc)
error-any at (Some k) e later h = h

error-past : (at : Span) (o : Option TypeKind) (later r : Option TypeError) → o ≡ None → later ≡ r → error_or at o later ≡ r
error-past at None later r h f = f
error-past at (Some k) later r h f = absurd (cc)

or-first : (a b : Option TypeError) (e : TypeError) → a ≡ Some e → or_later a b ≡ Some e
or-first None b e h = absurd (cc)
or-first (Some x) b e h = h

or-past : (a b r : Option TypeError) → a ≡ None → b ≡ r → or_later a b ≡ r
or-past None b r h f = f
or-past (Some x) b r h f = absurd (cc)

one-block : (xs : List Entry) → first_error (xs ++ []) ≡ first_error xs
one-block xs = ap first_error (append-nil xs)

two-blocks : (xs ys : List Entry) → first_error (xs ++ (ys ++ [])) ≡ or_later (first_error xs) (first_error ys)
two-blocks xs ys = first_error-append xs (ys ++ []) ∙ ap (λ o. or_later (first_error xs) o) (one-block ys)

-- ---------- effects ----------
-- behind a statement nothing more is changed
alone : (e : Effect) (G : Vars) → changed (then e no_effect) G ≡ changed e G
alone e G = sym (empty-changed (changed e G) ∙ then-changed e no_effect G)

-- ---------- simple statements ----------
pub do-gives : (c : Context) (at : Span) (i : Instruction) (G : Vars) (set : VarSet) → length c.vars ≤ 256 → IsWithin G (below (length c.vars)) → refusal c (Simple i) G ≡ None → Holds set (after i G)
    → CodeGives c (Do at i End) (effect (Do at i End)) G (Ok set)
do-gives c at i G set few known fine holds = (unrefused, held-known (length c.vars) set (changed (effect (Do at i End)) G) few (stays-known c (Do at i End) G unrefused known) told)
  where
    unrefused : first_refused c (Do at i End) G ≡ None
    unrefused = error-past at (refusal c (Simple i) G) None None fine refl

    same : after i G ≡ changed (effect (Do at i End)) G
    same = after-changed i G ∙ sym (alone (instruction_effect i) G)

    told : Holds set (changed (effect (Do at i End)) G)
    told = subst (λ (H : Vars). Holds set H) same holds

-- a condition in other words
pub condition-as : (c : Context) (at : Span) (G : Vars) (e t : Term) (x : TypeError) → e ≡ t → error_or at (refusal c (Condition e) G) None ≡ Some x → error_or at (refusal c (Condition t) G) None ≡ Some x
condition-as c at G e t x same h = subst (λ (q : Term). error_or at (refusal c (Condition q) G) None ≡ Some x) same h

-- ---------- two blocks behind a head ----------
module _ (c : Context) (at : Span) (own1 : List ℕ) (a : Code) (own2 : List ℕ) (b : Code) (G : Vars) where
  module _ (e : Term) where
    pub if-head : (x : TypeError) → PartGives c at (Condition e) G (Err x) → first_refused c (If at e own1 a own2 b End) G ≡ Some x
    if-head x h = error-any at (refusal c (Condition e) G) x _ h

    pub if-first : (x : TypeError) → refusal c (Condition e) G ≡ None → first_refused c a G ≡ Some x → first_refused c (If at e own1 a own2 b End) G ≡ Some x
    if-first x h f = error-past at (refusal c (Condition e) G) _ _ h (two-blocks (entries c a G) (entries c b G) ∙ or-first _ _ x f)

    pub if-second : (x : TypeError) → refusal c (Condition e) G ≡ None → first_refused c a G ≡ None → first_refused c b G ≡ Some x → first_refused c (If at e own1 a own2 b End) G ≡ Some x
    if-second x h f g = error-past at (refusal c (Condition e) G) _ _ h (two-blocks (entries c a G) (entries c b G) ∙ or-past _ _ _ f g)

    pub if-gives : (s t r : VarSet) → refusal c (Condition e) G ≡ None → CodeGives c a (block_effect own1 a) G (Ok s) → CodeGives c b (block_effect own2 b) G (Ok t) → member r ≡ meet (member s) (member t)
        → CodeGives c (If at e own1 a own2 b End) (effect (If at e own1 a own2 b End)) G (Ok r)
    if-gives s t r h f g is = (
      error-past at (refusal c (Condition e) G) _ _ h (two-blocks (entries c a G) (entries c b G) ∙ or-past _ _ _ f.0 g.0),
      is
          ∙ (ap (λ (M : Vars). meet M (member t)) f.1
          ∙ (ap (λ (M : Vars). meet (changed (block_effect own1 a) G) M) g.1
          ∙ (if-changed (block_effect own1 a) (block_effect own2 b) G (block-clear c own1 a G (fine-from-unrefused c a G f.0)) (block-clear c own2 b G (fine-from-unrefused c b G g.0))
          ∙ sym (alone (either (block_effect own1 a) (block_effect own2 b)) G)))),
    )

  pub par-head : (x : TypeError) → PartGives c at (par_head c own1 a own2 b) G (Err x) → first_refused c (Par at own1 a own2 b End) G ≡ Some x
  par-head x h = error-any at (refusal c (par_head c own1 a own2 b) G) x _ h

  pub par-first : (x : TypeError) → refusal c (par_head c own1 a own2 b) G ≡ None → first_refused c a G ≡ Some x → first_refused c (Par at own1 a own2 b End) G ≡ Some x
  par-first x h f = error-past at (refusal c (par_head c own1 a own2 b) G) _ _ h (two-blocks (entries c a G) (entries c b G) ∙ or-first _ _ x f)

  pub par-second : (x : TypeError) → refusal c (par_head c own1 a own2 b) G ≡ None → first_refused c a G ≡ None → first_refused c b G ≡ Some x → first_refused c (Par at own1 a own2 b End) G ≡ Some x
  par-second x h f g = error-past at (refusal c (par_head c own1 a own2 b) G) _ _ h (two-blocks (entries c a G) (entries c b G) ∙ or-past _ _ _ f g)

  pub par-gives : (s t r : VarSet) → refusal c (par_head c own1 a own2 b) G ≡ None → CodeGives c a (block_effect own1 a) G (Ok s) → CodeGives c b (block_effect own2 b) G (Ok t) → member r ≡ joined G (member s) (member t)
      → CodeGives c (Par at own1 a own2 b End) (effect (Par at own1 a own2 b End)) G (Ok r)
  par-gives s t r h f g is =
      let left : IsFine c a G = fine-from-unrefused c a G f.0 in
      let right : IsFine c b G = fine-from-unrefused c b G g.0 in
      let apart = sides-apart c own1 a own2 b G h left right in (
        error-past at (refusal c (par_head c own1 a own2 b) G) _ _ h (two-blocks (entries c a G) (entries c b G) ∙ or-past _ _ _ f.0 g.0),
        is
            ∙ (ap (λ (M : Vars). joined G M (member t)) f.1
            ∙ (ap (λ (M : Vars). joined G (changed (block_effect own1 a) G) M) g.1
            ∙ (par-changed (block_effect own1 a) (block_effect own2 b) G (block-clear c own1 a G left) (block-clear c own2 b G right) apart.0 apart.1
            ∙ sym (alone (both (block_effect own1 a) (block_effect own2 b)) G)))),
      )

-- ---------- loops ----------
module _ (c : Context) (at : Span) (e : Term) (own : List ℕ) (body : Code) (G K : Vars) (kept : K ≡ minus G (block_effect own body).lost) where
  pub while-head : (x : TypeError) → PartGives c at (Condition e) K (Err x) → first_refused c (While at e own body End) G ≡ Some x
  while-head x h = error-any at (refusal c (Condition e) (minus G (block_effect own body).lost)) x _ (subst (λ (M : Vars). error_or at (refusal c (Condition e) M) None ≡ Some x) kept h)

  pub while-body : (x : TypeError) → refusal c (Condition e) K ≡ None → first_refused c body K ≡ Some x → first_refused c (While at e own body End) G ≡ Some x
  while-body x h f =
      error-past at (refusal c (Condition e) (minus G (block_effect own body).lost)) _ _ (subst (λ (M : Vars). refusal c (Condition e) M ≡ None) kept h)
      (one-block (entries c body (minus G (block_effect own body).lost)) ∙ subst (λ (M : Vars). first_refused c body M ≡ Some x) kept f)

  pub while-gives : (r : VarSet) → refusal c (Condition e) K ≡ None → first_refused c body K ≡ None → member r ≡ K → CodeGives c (While at e own body End) (effect (While at e own body End)) G (Ok r)
  while-gives r h f is = (
    error-past at (refusal c (Condition e) (minus G (block_effect own body).lost)) _ _ (subst (λ (M : Vars). refusal c (Condition e) M ≡ None) kept h)
        (one-block (entries c body (minus G (block_effect own body).lost)) ∙ subst (λ (M : Vars). first_refused c body M ≡ None) kept f),
    is ∙ (kept ∙ (lost-changed (block_effect own body).lost G ∙ sym (alone (repeated (block_effect own body)) G))),
  )

-- ---------- recover blocks ----------
module _ (c : Context) (at give : Span) (x w : ℕ) (own hides : List ℕ) (body : Code → Code) (G : Vars) where
  -- the block with its `give`
  abbrev whole : Code
  whole = body (Give give w x)

  pub recover-head : (e : TypeError) → PartGives c at (RecoverHead x) G (Err e) → first_refused c (Recover at x own hides whole End) G ≡ Some e
  recover-head e h = error-any at (refusal c (RecoverHead x) G) e _ h

  pub recover-body : (e : TypeError) → refusal c (RecoverHead x) G ≡ None → first_refused (hiding hides c) whole G ≡ Some e → first_refused c (Recover at x own hides whole End) G ≡ Some e
  recover-body e h f = error-past at (refusal c (RecoverHead x) G) _ _ h (one-block (entries (hiding hides c) whole G) ∙ f)

  pub recover-gives : (end taken more r : VarSet) → length c.vars ≤ 256 → IsWithin G (below (length c.vars)) → refusal c (RecoverHead x) G ≡ None → first_refused (hiding hides c) whole G ≡ None
      → changed (effect whole) G ≡ changed (effect (Give give w x)) (member end)
      → Holds taken (minus (member end) (just w)) → Holds more (plus (member taken) (just x)) → member r ≡ minus (member more) (those own)
      → CodeGives c (Recover at x own hides whole End) (effect (Recover at x own hides whole End)) G (Ok r)
  recover-gives end taken more r few inside h f ends one two is = (
    error-past at (refusal c (RecoverHead x) G) _ _ h (one-block (entries (hiding hides c) whole G) ∙ f),
    is
        ∙ (ap (λ (M : Vars). minus M (those own)) (held-known (length c.vars) more (changed (effect whole) G) few (stays-known (hiding hides c) whole G f inside) held)
        ∙ (closed-changed (effect whole) (those own) G
        ∙ sym (alone (block_effect own whole) G))),
  )
    where
      same : plus (minus (member end) (just w)) (just x) ≡ changed (effect whole) G
      same = taken-changed (just w) (just x) (member end) ∙ sym ends

      held : Holds more (changed (effect whole) G)
      held y less = two y less ∙ (ap (λ b. b || just x y) (one y less) ∙ ap (λ (M : Vars). M y) same)
