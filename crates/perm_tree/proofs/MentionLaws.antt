-- What a code writes it mentions.
use Rattle.std.proofs.Common.{◌≡◌, ℕ, Bool, true, false, List, [], ◌∷◌, Option, Some, None, refl, ◌⊎◌, inl, inr}
use Rattle.std.specs.Prelude.{◌&&◌, not, nat_eq}
use Rattle.std.specs.List.{list_any}
use Rattle.std.proofs.lemmas.Bool.{and_parts, or_cases, or_left, or_right}
use Rattle.perm_tree.specs.Code.{Argument, Expression, Consumed, Instruction, Declare, Assign, LoadField, LoadLength, LoadItem, TakeField, NewObject, NewArray, StoreField, StoreItem, Invoke, Print, Code, End, Give, Return, Do, If, While, Par, Recover}
use Rattle.perm_tree.specs.Mentions.{any_in_argument, any_in_option, term_mentions, argument_mentions, mentions, argument_consumes, arguments_consume, just_if, just_option, consumes, assigns, mentioned, written, block_mentions, block_writes}
use Rattle.perm_tree.specs.Vars.{Vars, none, just, those, plus, minus, IsWithin}

-- ---------- sets ----------
pub same-within : (G : Vars) → IsWithin G G
same-within G x e = e

pub minus-within : (G H : Vars) → IsWithin (minus G H) G
minus-within G H x e = (and_parts (G x) (not (H x)) e).0

pub within-left : (G H K : Vars) → IsWithin G H → IsWithin G (plus H K)
within-left G H K all x e = or_left (H x) (K x) (all x e)

pub within-right : (G H K : Vars) → IsWithin G K → IsWithin G (plus H K)
within-right G H K all x e = or_right (H x) (K x) (all x e)

pub within-both : (G H K : Vars) → IsWithin G K → IsWithin H K → IsWithin (plus G H) K
within-both G H K left right x e = pick (or_cases (G x) (H x) e)
  where
    pick : (G x ≡ true) ⊎ (H x ≡ true) → K x ≡ true
    pick (inl a) = left x a
    pick (inr b) = right x b

pub within-plus : (G G' H H' : Vars) → IsWithin G G' → IsWithin H H' → IsWithin (plus G H) (plus G' H')
within-plus G G' H H' left right = within-both G H (plus G' H') (within-left G G' H' left) (within-right H G' H' right)

and-first : (a a' b : Bool) → (a ≡ true → a' ≡ true) → a && b ≡ true → a' && b ≡ true
and-first true a' b more e = rw (more refl) e
and-first false a' b more e = absurd (let no : ⊥ = cc e in no)

pub within-minus : (G H K : Vars) → IsWithin G H → IsWithin (minus G K) (minus H K)
within-minus G H K all x e = and-first (G x) (H x) (not (K x)) (all x) e

pub none-within : (G : Vars) → IsWithin none G
none-within G x e = absurd (let no : ⊥ = cc e in no)

-- ---------- simple statements ----------
argument-within : (a : Argument) → IsWithin (argument_consumes a) (argument_mentions a)
argument-within (Expression e) = none-within (argument_mentions (Expression e))
argument-within (Consumed y) = λ x e. e

arguments-within : (args : List Argument) → IsWithin (arguments_consume args) (λ x. list_any (any_in_argument (nat_eq x)) args)
arguments-within [] = none-within none
arguments-within (a ∷ args) = within-plus (argument_consumes a) (argument_mentions a) (arguments_consume args) (λ x. list_any (any_in_argument (nat_eq x)) args) (argument-within a) (arguments-within args)

just_if-within : (b : Bool) (y : ℕ) → IsWithin (just_if b y) (just y)
just_if-within true y x e = e
just_if-within false y x e = absurd (let no : ⊥ = cc e in no)

option-within : (o : Option ℕ) → IsWithin (just_option o) (λ x. any_in_option (nat_eq x) o)
option-within None x e = e
option-within (Some y) x e = e

consumes-within : (i : Instruction) → IsWithin (consumes i) (mentions i)
consumes-within (Declare x) = none-within (mentions (Declare x))
consumes-within (Assign x a) = within-right (argument_consumes a) (just x) (argument_mentions a) (argument-within a)
consumes-within (LoadField x y f) = none-within (mentions (LoadField x y f))
consumes-within (LoadLength x y) = none-within (mentions (LoadLength x y))
consumes-within (LoadItem x y e) = none-within (mentions (LoadItem x y e))
consumes-within (TakeField x y f) = none-within (mentions (TakeField x y f))
consumes-within (NewObject x class) = none-within (mentions (NewObject x class))
consumes-within (NewArray x n) = none-within (mentions (NewArray x n))
consumes-within (StoreField y f a) = within-right (argument_consumes a) (just y) (argument_mentions a) (argument-within a)
consumes-within (StoreItem y i e) = none-within (mentions (StoreItem y i e))
consumes-within (Invoke into tie consumed y routine args) =
    let all : Vars = λ x. list_any (any_in_argument (nat_eq x)) args in
    within-right
    (plus (just_if consumed y) (arguments_consume args))
    (λ x. any_in_option (nat_eq x) into)
    (plus (just y) all)
    (within-plus (just_if consumed y) (just y) (arguments_consume args) all (just_if-within consumed y) (arguments-within args))
consumes-within (Print e) = none-within (mentions (Print e))

assigns-within : (i : Instruction) → IsWithin (assigns i) (mentions i)
assigns-within (Declare x) = none-within (mentions (Declare x))
assigns-within (Assign x a) = within-left (just x) (just x) (argument_mentions a) (same-within (just x))
assigns-within (LoadField x y f) = within-left (just x) (just x) (just y) (same-within (just x))
assigns-within (LoadLength x y) = within-left (just x) (just x) (just y) (same-within (just x))
assigns-within (LoadItem x y e) = within-left (just x) (just x) (plus (just y) (term_mentions e)) (same-within (just x))
assigns-within (TakeField x y f) = within-left (just x) (just x) (just y) (same-within (just x))
assigns-within (NewObject x class) = same-within (just x)
assigns-within (NewArray x n) = within-left (just x) (just x) (term_mentions n) (same-within (just x))
assigns-within (StoreField y f a) = none-within (mentions (StoreField y f a))
assigns-within (StoreItem y i e) = none-within (mentions (StoreItem y i e))
assigns-within (Invoke into tie consumed y routine args) =
    within-left (just_option into) (λ x. any_in_option (nat_eq x) into) (plus (just y) (λ x. list_any (any_in_argument (nat_eq x)) args)) (option-within into)
assigns-within (Print e) = none-within (mentions (Print e))

-- ---------- codes ----------
-- a block and what comes after it
one : (own : List ℕ) (a rest : Code) → IsWithin (written a) (mentioned a) → IsWithin (written rest) (mentioned rest)
    → IsWithin (plus (block_writes own a) (written rest)) (plus (block_mentions own a) (mentioned rest))
one own a rest here later = within-plus (block_writes own a) (block_mentions own a) (written rest) (mentioned rest) (within-minus (written a) (mentioned a) (those own) here) later

two : (own1 : List ℕ) (a : Code) (own2 : List ℕ) (b rest : Code) → IsWithin (written a) (mentioned a) → IsWithin (written b) (mentioned b) → IsWithin (written rest) (mentioned rest)
    → IsWithin (plus (block_writes own1 a) (plus (block_writes own2 b) (written rest))) (plus (block_mentions own1 a) (plus (block_mentions own2 b) (mentioned rest)))
two own1 a own2 b rest here there later =
    within-plus
    (block_writes own1 a)
    (block_mentions own1 a)
    (plus (block_writes own2 b) (written rest))
    (plus (block_mentions own2 b) (mentioned rest))
    (within-minus (written a) (mentioned a) (those own1) here)
    (one own2 b rest there later)

pub written-within : (c : Code) → IsWithin (written c) (mentioned c)
written-within End = none-within none
written-within (Give at w x) = same-within (plus (just w) (just x))
written-within (Return at a) = argument-within a
written-within (Do at i rest) =
    within-plus (plus (consumes i) (assigns i)) (mentions i) (written rest) (mentioned rest) (within-both (consumes i) (assigns i) (mentions i) (consumes-within i) (assigns-within i)) (written-within rest)
written-within (If at e own1 a own2 b rest) =
    within-right
    (written (Par at own1 a own2 b rest))
    (term_mentions e)
    (mentioned (Par at own1 a own2 b rest))
    (two own1 a own2 b rest (written-within a) (written-within b) (written-within rest))
written-within (While at e own body rest) =
    within-right
    (plus (block_writes own body) (written rest))
    (term_mentions e)
    (plus (block_mentions own body) (mentioned rest))
    (one own body rest (written-within body) (written-within rest))
written-within (Par at own1 a own2 b rest) = two own1 a own2 b rest (written-within a) (written-within b) (written-within rest)
written-within (Recover at x own hides body rest) =
    within-plus (just x) (just x) (plus (block_writes own body) (written rest)) (plus (block_mentions own body) (mentioned rest)) (same-within (just x)) (one own body rest (written-within body) (written-within rest))

-- the outer variables that a block writes it mentions
pub block_writes-within : (own : List ℕ) (a : Code) → IsWithin (block_writes own a) (block_mentions own a)
block_writes-within own a = within-minus (written a) (mentioned a) (those own) (written-within a)
