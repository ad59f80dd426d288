-- Codes of which each part is allowed with its entry set: their variables are known, nothing is both lost and made, and a larger live set allows them too.
use Rattle.std.proofs.Common.{◌≡◌, ℕ, zero, suc, ◌<◌, true, false, List, length, Option, Some, None, refl, sym, ap, ◌∙◌, arith, inl, inr}
use Rattle.std.specs.Prelude.{not, ◌&&◌, ◌⊎◌, nat_eq}
use Rattle.std.proofs.lemmas.Bool.{or_cases, or_left, or_right, or_parts, and_parts, and_from, cases_lt, false_from_ne_true}
use Rattle.perm_tree.specs.declared.errors.TypeKind.TheVariants.{ParShared}
use Rattle.perm_tree.specs.Code.{Instruction, Declare, Assign, LoadField, LoadLength, LoadItem, TakeField, NewObject, NewArray, StoreField, StoreItem, Invoke, Print, Code, End, Give, Return, Do, If, While, Par, Recover}
use Rattle.perm_tree.specs.Mentions.{argument_consumes, consumes, mentions, mentioned, just_option, any_in_option, term_mentions}
use Rattle.perm_tree.specs.Vars.{Vars, none, just, below, those, plus, minus, meet, some_below, IsWithin}
use Rattle.perm_tree.proofs.MentionLaws.{within-left, within-right, within-plus, within-minus, none-within, same-within}
use Rattle.perm_rules.specs.Parts.{Context, Simple, Condition, RecoverHead, Given, Returned}
use Rattle.perm_rules.specs.Pars.{touched, touched_by, touches, uses, par_head, some_var}
use Rattle.perm_rules.specs.Refusals.{IsAllowed}
use Rattle.perm_rules.specs.Effects.{Effect, changed, instruction_effect, effect, block_effect, either, both, repeated}
use Rattle.perm_rules.specs.Goes.{hiding}
use Rattle.perm_rules.proofs.PartLaws.{applies-none, part-known, allowed-monotone, instruction-clear}
use Rattle.perm_rules.proofs.SetLaws.{IsApart, IsClear, changed-within, clear-then, clear-either, clear-both, clear-closed, clear-none, clear-empty, clear-minus}

-- each part is allowed with its entry set
abbrev pub IsFine : Context → Code → Vars → Type 0
IsFine c End G = Unit {0}
IsFine c (Give at w x) G = IsAllowed c (Given w x) G
IsFine c (Return at a) G = IsAllowed c (Returned a) G
IsFine c (Do at i rest) G = IsAllowed c (Simple i) G × IsFine c rest (changed (instruction_effect i) G)
IsFine c (If at e own1 a own2 b rest) G =
    IsAllowed c (Condition e) G × IsFine c a G × IsFine c b G × IsFine c rest (changed (either (block_effect own1 a) (block_effect own2 b)) G)
IsFine c (While at e own body rest) G =
    IsAllowed c (Condition e) (minus G (block_effect own body).lost) × IsFine c body (minus G (block_effect own body).lost) × IsFine c rest (changed (repeated (block_effect own body)) G)
IsFine c (Par at own1 a own2 b rest) G =
    IsAllowed c (par_head c own1 a own2 b) G × IsFine c a G × IsFine c b G × IsFine c rest (changed (both (block_effect own1 a) (block_effect own2 b)) G)
IsFine c (Recover at x own hides body rest) G =
    IsAllowed c (RecoverHead x) G × IsFine (hiding hides c) body G × IsFine c rest (changed (block_effect own body) G)

-- ---------- variables are known ----------
abbrev IsKnown : Context → Vars → Type 0
IsKnown c G = (x : ℕ) → G x ≡ true → x < length c.vars

known-plus : (c : Context) (A B : Vars) → IsKnown c A → IsKnown c B → IsKnown c (plus A B)
known-plus c A B f g x h = elim (or_cases (A x) (B x) h) [ inl a ↦ f x a | inr b ↦ g x b ]

known-minus : (c : Context) (A B : Vars) → IsKnown c A → IsKnown c (minus A B)
known-minus c A B f x h = f x (and_parts (A x) (not (B x)) h).0

-- the variables that stand in a fine code are known
pub mentioned-known : (c : Context) (a : Code) (G : Vars) → IsFine c a G → IsKnown c (mentioned a)
mentioned-known c End G h = λ x m. absurd (cc)
mentioned-known c (Give at w x) G h = part-known c (Given w x) G h
mentioned-known c (Return at a) G h = part-known c (Returned a) G h
mentioned-known c (Do at i rest) G h = known-plus c (mentions i) (mentioned rest) (part-known c (Simple i) G h.0) (mentioned-known c rest _ h.1)
mentioned-known c (If at e own1 a own2 b rest) G h =
    known-plus c (term_mentions e) _ (part-known c (Condition e) G h.0)
    (known-plus c (minus (mentioned a) (those own1)) _ (known-minus c (mentioned a) (those own1) (mentioned-known c a G h.1))
    (known-plus c (minus (mentioned b) (those own2)) (mentioned rest) (known-minus c (mentioned b) (those own2) (mentioned-known c b G h.2)) (mentioned-known c rest _ h.3)))
mentioned-known c (While at e own body rest) G h =
    known-plus c (term_mentions e) _ (part-known c (Condition e) _ h.0)
    (known-plus c (minus (mentioned body) (those own)) (mentioned rest) (known-minus c (mentioned body) (those own) (mentioned-known c body _ h.1)) (mentioned-known c rest _ h.2))
mentioned-known c (Par at own1 a own2 b rest) G h =
    known-plus c (minus (mentioned a) (those own1)) _ (known-minus c (mentioned a) (those own1) (mentioned-known c a G h.1))
    (known-plus c (minus (mentioned b) (those own2)) (mentioned rest) (known-minus c (mentioned b) (those own2) (mentioned-known c b G h.2)) (mentioned-known c rest _ h.3))
mentioned-known c (Recover at x own hides body rest) G h =
    known-plus c (just x) _ (part-known c (RecoverHead x) G h.0)
    (known-plus c (minus (mentioned body) (those own)) (mentioned rest) (known-minus c (mentioned body) (those own) (mentioned-known (hiding hides c) body G h.1)) (mentioned-known c rest _ h.2))

-- ---------- what is lost and made ----------
minus-stays-within : (A B C : Vars) → IsWithin A C → IsWithin (minus A B) C
minus-stays-within A B C f x h = f x (and_parts (A x) (not (B x)) h).0

-- what a statement loses, before a rest
lost-then : (s t : Effect) (S T : Vars) → IsWithin s.lost S → IsWithin t.lost T → IsWithin (plus (minus s.lost t.made) t.lost) (plus S T)
lost-then s t S T f g = within-plus (minus s.lost t.made) S t.lost T (minus-stays-within s.lost t.made S f) g

made-then : (s t : Effect) (S T : Vars) → IsWithin s.made S → IsWithin t.made T → IsWithin (plus (minus s.made t.lost) t.made) (plus S T)
made-then s t S T f g = within-plus (minus s.made t.lost) S t.made T (minus-stays-within s.made t.lost S f) g

minus-taken : (C A : Vars) → IsWithin (minus C A) (plus C A)
minus-taken C A = within-left (minus C A) C A (minus-stays-within C A C (same-within C))

instruction-lost-touched : (i : Instruction) → IsWithin (instruction_effect i).lost (touched_by i)
instruction-lost-touched (Declare x) = same-within _
instruction-lost-touched (Assign x a) = minus-taken _ _
instruction-lost-touched (LoadField x y f) = minus-taken none (just x)
instruction-lost-touched (LoadLength x y) = minus-taken none (just x)
instruction-lost-touched (LoadItem x y i) = minus-taken none (just x)
instruction-lost-touched (TakeField x y f) = minus-taken none (just x)
instruction-lost-touched (NewObject x class) = minus-taken none (just x)
instruction-lost-touched (NewArray x n) = minus-taken none (just x)
instruction-lost-touched (StoreField y f a) = minus-taken (argument_consumes a) none
instruction-lost-touched (StoreItem y i e) = minus-taken none none
instruction-lost-touched (Invoke into tie consumed y routine args) = minus-taken (consumes (Invoke into tie consumed y routine args)) (just_option into)
instruction-lost-touched (Print e) = minus-taken none none

regroup : (A B C : Vars) → IsWithin (plus (plus A B) C) (plus A (plus B C))
regroup A B C x h =
    elim (or_cases (plus A B x) (C x) h) [
      | inl ab ↦ elim (or_cases (A x) (B x) ab) [ inl a ↦ or_left (A x) (plus B C x) a | inr b ↦ or_right (A x) (plus B C x) (or_left (B x) (C x) b) ]
      | inr c ↦ or_right (A x) (plus B C x) (or_right (B x) (C x) c)
    ]

-- of two blocks, before a rest
branches-lost-touched : (own1 : List ℕ) (a : Code) (own2 : List ℕ) (b rest : Code)
    → IsWithin (effect a).lost (touched a) → IsWithin (effect b).lost (touched b) → IsWithin (effect rest).lost (touched rest)
    → IsWithin (plus (minus (plus (plus (effect a).lost (those own1)) (plus (effect b).lost (those own2))) (effect rest).made) (effect rest).lost) (plus (plus (touched a) (those own1)) (plus (plus (touched b) (those own2)) (touched rest)))
branches-lost-touched own1 a own2 b rest f g h x l =
    regroup (plus (touched a) (those own1)) (plus (touched b) (those own2)) (touched rest) x
    (lost-then (both (block_effect own1 a) (block_effect own2 b)) (effect rest) (plus (plus (touched a) (those own1)) (plus (touched b) (those own2))) (touched rest)
    (within-plus _ (plus (touched a) (those own1)) _ (plus (touched b) (those own2))
    (within-plus _ (touched a) _ (those own1) f (same-within (those own1)))
    (within-plus _ (touched b) _ (those own2) g (same-within (those own2)))) h x l)

-- what code loses it assigns, consumes or declares
pub lost-touched : (a : Code) → IsWithin (effect a).lost (touched a)
lost-touched End = none-within _
lost-touched (Give at w x) = minus-taken (just w) (just x)
lost-touched (Return at a) = same-within _
lost-touched (Do at i rest) = lost-then (instruction_effect i) (effect rest) (touched_by i) (touched rest) (instruction-lost-touched i) (lost-touched rest)
lost-touched (If at e own1 a own2 b rest) = branches-lost-touched own1 a own2 b rest (lost-touched a) (lost-touched b) (lost-touched rest)
lost-touched (While at e own body rest) = lost-then (repeated (block_effect own body)) (effect rest) (plus (touched body) (those own)) (touched rest) (within-plus _ (touched body) _ (those own) (lost-touched body) (same-within (those own))) (lost-touched rest)
lost-touched (Par at own1 a own2 b rest) = branches-lost-touched own1 a own2 b rest (lost-touched a) (lost-touched b) (lost-touched rest)
lost-touched (Recover at x own hides body rest) =
    within-right _ (just x) (plus (plus (touched body) (those own)) (touched rest))
    (lost-then (block_effect own body) (effect rest) (plus (touched body) (those own)) (touched rest) (within-plus _ (touched body) _ (those own) (lost-touched body) (same-within (those own))) (lost-touched rest))

option-made : (o : Option ℕ) (x : ℕ) → just_option o x ≡ true → any_in_option (nat_eq x) o ≡ true
option-made None x h = h
option-made (Some y) x h = h

instruction-made-mentioned : (i : Instruction) → IsWithin (instruction_effect i).made (mentions i)
instruction-made-mentioned (Declare x) = none-within _
instruction-made-mentioned (Assign x a) = λ y h. or_left (nat_eq y x) _ h
instruction-made-mentioned (LoadField x y f) = λ z h. or_left (nat_eq z x) _ h
instruction-made-mentioned (LoadLength x y) = λ z h. or_left (nat_eq z x) _ h
instruction-made-mentioned (LoadItem x y i) = λ z h. or_left (nat_eq z x) _ h
instruction-made-mentioned (TakeField x y f) = λ z h. or_left (nat_eq z x) _ h
instruction-made-mentioned (NewObject x class) = same-within _
instruction-made-mentioned (NewArray x n) = λ z h. or_left (nat_eq z x) _ h
instruction-made-mentioned (StoreField y f a) = none-within _
instruction-made-mentioned (StoreItem y i e) = none-within _
instruction-made-mentioned (Invoke into tie consumed y routine args) = λ z h. or_left (any_in_option (nat_eq z) into) _ (option-made into z h)
instruction-made-mentioned (Print e) = none-within _

block-made-mentioned : (own : List ℕ) (a : Code) → IsWithin (effect a).made (mentioned a) → IsWithin (block_effect own a).made (minus (mentioned a) (those own))
block-made-mentioned own a f = within-minus (effect a).made (mentioned a) (those own) f

-- what code makes live stands in it
pub made-mentioned : (a : Code) → IsWithin (effect a).made (mentioned a)
made-mentioned End = none-within _
made-mentioned (Give at w x) = within-right (just x) (just w) (just x) (same-within (just x))
made-mentioned (Return at a) = none-within _
made-mentioned (Do at i rest) = made-then (instruction_effect i) (effect rest) (mentions i) (mentioned rest) (instruction-made-mentioned i) (made-mentioned rest)
made-mentioned (If at e own1 a own2 b rest) =
    within-right _ (term_mentions e) (plus (minus (mentioned a) (those own1)) (plus (minus (mentioned b) (those own2)) (mentioned rest)))
    (λ x h. regroup (minus (mentioned a) (those own1)) (minus (mentioned b) (those own2)) (mentioned rest) x
    (made-then (either (block_effect own1 a) (block_effect own2 b)) (effect rest) (plus (minus (mentioned a) (those own1)) (minus (mentioned b) (those own2))) (mentioned rest)
    (λ y m. or_left (minus (mentioned a) (those own1) y) (minus (mentioned b) (those own2) y)
    (block-made-mentioned own1 a (made-mentioned a) y (and_parts ((block_effect own1 a).made y) ((block_effect own2 b).made y) m).0))
    (made-mentioned rest) x h))
made-mentioned (While at e own body rest) =
    within-right _ (term_mentions e) (plus (minus (mentioned body) (those own)) (mentioned rest))
    (made-then (repeated (block_effect own body)) (effect rest) (minus (mentioned body) (those own)) (mentioned rest) (none-within _) (made-mentioned rest))
made-mentioned (Par at own1 a own2 b rest) =
    λ x h. regroup (minus (mentioned a) (those own1)) (minus (mentioned b) (those own2)) (mentioned rest) x
    (made-then (both (block_effect own1 a) (block_effect own2 b)) (effect rest) (plus (minus (mentioned a) (those own1)) (minus (mentioned b) (those own2))) (mentioned rest)
    (within-plus _ (minus (mentioned a) (those own1)) _ (minus (mentioned b) (those own2)) (block-made-mentioned own1 a (made-mentioned a)) (block-made-mentioned own2 b (made-mentioned b)))
    (made-mentioned rest) x h)
made-mentioned (Recover at x own hides body rest) =
    within-right _ (just x) (plus (minus (mentioned body) (those own)) (mentioned rest))
    (made-then (block_effect own body) (effect rest) (minus (mentioned body) (those own)) (mentioned rest) (block-made-mentioned own body (made-mentioned body)) (made-mentioned rest))

-- ---------- the two sides of a par ----------
some_below-false : (n : ℕ) (G : Vars) → some_below n G ≡ false → (x : ℕ) → x < n → G x ≡ false
some_below-false zero G h x lt = absurd (omega arith)
some_below-false (suc n) G h x lt = go (some_below-false n G (or_parts (G n) (some_below n G) h).1 x) (near x n lt)
  where
    near : (x n : ℕ) → x < suc n → (x < n) ⊎ (x ≡ n)
    near x n lt = elim (cases_lt x n) [ inl l ↦ inl l | inr g ↦ inr (omega arith) ]

    go : (x < n → G x ≡ false) → (x < n) ⊎ (x ≡ n) → G x ≡ false
    go f (inl l) = f l
    go f (inr e) = ap G e ∙ (or_parts (G n) (some_below n G) h).0

below-true : (n x : ℕ) → x < n → below n x ≡ true
below-true zero x lt = absurd (omega arith)
below-true (suc n) zero lt = refl
below-true (suc n) (suc x) lt = below-true n x (omega arith)

-- where what the one block touches doesn't stand in the other, what it loses isn't made by the other
one-side : (c : Context) (own1 : List ℕ) (a : Code) (own2 : List ℕ) (b : Code) (G : Vars)
    → some_var c (meet (touches c own1 a) (uses c own2 b)) ≡ false → IsFine c b G → IsApart (block_effect own1 a).lost (block_effect own2 b).made
one-side c own1 a own2 b G apart fine x = false_from_ne_true ((block_effect own1 a).lost x && (block_effect own2 b).made x) clash
  where
    clash : ((block_effect own1 a).lost x && (block_effect own2 b).made x) ≡ true → ⊥
    clash h =
        let parts = and_parts ((block_effect own1 a).lost x) ((block_effect own2 b).made x) h in
        let stands = block-made-mentioned own2 b (made-mentioned b) x parts.1 in
        let known : x < length c.vars = mentioned-known c b G fine x (and_parts (mentioned b x) (not (those own2 x)) stands).0 in
        let there : below (length c.vars) x ≡ true = below-true (length c.vars) x known in
        let touched_x = within-plus _ (touched a) _ (those own1) (lost-touched a) (same-within (those own1)) x parts.0 in
        let left : touches c own1 a x ≡ true = and_from (below (length c.vars) x) (plus (touched a) (those own1) x) there touched_x in
        let right : uses c own2 b x ≡ true = and_from (below (length c.vars) x) (minus (mentioned b) (those own2) x) there stands in
        let met : meet (touches c own1 a) (uses c own2 b) x ≡ true = and_from (touches c own1 a x) (uses c own2 b x) left right in
        let none_met : meet (touches c own1 a) (uses c own2 b) x ≡ false = some_below-false (length c.vars) (meet (touches c own1 a) (uses c own2 b)) apart x known in
        let both : true ≡ false = sym met ∙ none_met in
        cc

pub sides-apart : (c : Context) (own1 : List ℕ) (a : Code) (own2 : List ℕ) (b : Code) (G : Vars)
    → IsAllowed c (par_head c own1 a own2 b) G → IsFine c a G → IsFine c b G
    → IsApart (block_effect own1 a).lost (block_effect own2 b).made × IsApart (block_effect own2 b).lost (block_effect own1 a).made
sides-apart c own1 a own2 b G h f g =
    let shared = applies-none c (par_head c own1 a own2 b) G h ParShared in
    let parts = or_parts (some_var c (meet (touches c own1 a) (uses c own2 b))) _ shared in
    let more = or_parts (some_var c (meet (touches c own2 b) (uses c own1 a))) _ parts.1 in
    (one-side c own1 a own2 b G parts.0 g, one-side c own2 b own1 a G more.0 f)

-- ---------- fine codes ----------
-- a fine code loses nothing that it makes
pub fine-clear : (c : Context) (a : Code) (G : Vars) → IsFine c a G → IsClear (effect a)
fine-clear c End G h = clear-empty
fine-clear c (Give at w x) G h = clear-minus (just w) (just x)
fine-clear c (Return at a) G h = clear-none (argument_consumes a)
fine-clear c (Do at i rest) G h = clear-then (instruction_effect i) (effect rest) (instruction-clear i) (fine-clear c rest _ h.1)
fine-clear c (If at e own1 a own2 b rest) G h =
    clear-then (either (block_effect own1 a) (block_effect own2 b)) (effect rest)
    (clear-either (block_effect own1 a) (block_effect own2 b) (clear-closed (effect a) (those own1) (fine-clear c a G h.1)) (clear-closed (effect b) (those own2) (fine-clear c b G h.2)))
    (fine-clear c rest _ h.3)
fine-clear c (While at e own body rest) G h =
    clear-then (repeated (block_effect own body)) (effect rest) (clear-none (block_effect own body).lost) (fine-clear c rest _ h.2)
fine-clear c (Par at own1 a own2 b rest) G h =
    let apart = sides-apart c own1 a own2 b G h.0 h.1 h.2 in
    clear-then (both (block_effect own1 a) (block_effect own2 b)) (effect rest)
    (clear-both (block_effect own1 a) (block_effect own2 b) (clear-closed (effect a) (those own1) (fine-clear c a G h.1)) (clear-closed (effect b) (those own2) (fine-clear c b G h.2)) apart.0 apart.1)
    (fine-clear c rest _ h.3)
fine-clear c (Recover at x own hides body rest) G h =
    clear-then (block_effect own body) (effect rest) (clear-closed (effect body) (those own) (fine-clear (hiding hides c) body G h.1)) (fine-clear c rest _ h.2)

pub block-clear : (c : Context) (own : List ℕ) (a : Code) (G : Vars) → IsFine c a G → IsClear (block_effect own a)
block-clear c own a G h = clear-closed (effect a) (those own) (fine-clear c a G h)

-- what is fine with a live set is so with a larger one
pub fine-monotone : (c : Context) (a : Code) (G H : Vars) → IsWithin G H → IsFine c a G → IsFine c a H
fine-monotone c End G H w h = tt
fine-monotone c (Give at v x) G H w h = allowed-monotone c (Given v x) G H w h
fine-monotone c (Return at a) G H w h = allowed-monotone c (Returned a) G H w h
fine-monotone c (Do at i rest) G H w h =
    (allowed-monotone c (Simple i) G H w h.0, fine-monotone c rest _ _ (changed-within (instruction_effect i) G H w) h.1)
fine-monotone c (If at e own1 a own2 b rest) G H w h = (
  allowed-monotone c (Condition e) G H w h.0,
  fine-monotone c a G H w h.1,
  fine-monotone c b G H w h.2,
  fine-monotone c rest _ _ (changed-within (either (block_effect own1 a) (block_effect own2 b)) G H w) h.3,
)
fine-monotone c (While at e own body rest) G H w h =
    let less = within-minus G H (block_effect own body).lost w in
    (allowed-monotone c (Condition e) _ _ less h.0, fine-monotone c body _ _ less h.1, fine-monotone c rest _ _ (changed-within (repeated (block_effect own body)) G H w) h.2)
fine-monotone c (Par at own1 a own2 b rest) G H w h = (
  allowed-monotone c (par_head c own1 a own2 b) G H w h.0,
  fine-monotone c a G H w h.1,
  fine-monotone c b G H w h.2,
  fine-monotone c rest _ _ (changed-within (both (block_effect own1 a) (block_effect own2 b)) G H w) h.3,
)
fine-monotone c (Recover at x own hides body rest) G H w h =
    (allowed-monotone c (RecoverHead x) G H w h.0, fine-monotone (hiding hides c) body G H w h.1, fine-monotone c rest _ _ (changed-within (block_effect own body) G H w) h.2)
