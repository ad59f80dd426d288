-- The first error of a list of entries: of two lists one behind the other, and of a head with its blocks and what comes behind them.
use Rattle.std.proofs.Common.{◌≡◌, List, [], ◌∷◌, ◌++◌, Option, Some, None, refl, sym, ◌∙◌}
use Rattle.perm_tree.specs.declared.ast.Span.{Span}
use Rattle.perm_tree.specs.declared.errors.TypeKind.{TypeKind}
use Rattle.perm_tree.specs.declared.errors.TypeError.{TypeError}
use Rattle.perm_rules.specs.Refusals.{refusal}
use Rattle.perm_rules.specs.FirstRefused.{Entry, error_or, first_error, or_later}

pub first_error-append : (xs ys : List Entry) → first_error (xs ++ ys) ≡ or_later (first_error xs) (first_error ys)
first_error-append [] ys = refl
first_error-append (e ∷ xs) ys = go (refusal e.context e.part e.live) (first_error-append xs ys)
  where
    go : (o : Option TypeKind) → first_error (xs ++ ys) ≡ or_later (first_error xs) (first_error ys)
        → error_or e.at o (first_error (xs ++ ys)) ≡ or_later (error_or e.at o (first_error xs)) (first_error ys)
    go None h = h
    go (Some k) h = refl

pub or_later-none : (a b : Option TypeError) → or_later a b ≡ None → (a ≡ None) × (b ≡ None)
or_later-none None b h = (refl, h)
or_later-none (Some e) b h = absurd (cc)

pub or_later-both : (a b : Option TypeError) → a ≡ None → b ≡ None → or_later a b ≡ None
or_later-both None b e f = f
or_later-both (Some x) b e f = cc

pub error_or-none : (at : Span) (o : Option TypeKind) (later : Option TypeError) → error_or at o later ≡ None → (o ≡ None) × (later ≡ None)
error_or-none at None later h = (refl, h)
error_or-none at (Some k) later h = absurd (cc)

pub error_or-both : (at : Span) (o : Option TypeKind) (later : Option TypeError) → o ≡ None → later ≡ None → error_or at o later ≡ None
error_or-both at None later e f = f
error_or-both at (Some k) later e f = cc

-- of two lists, one behind the other
pub first_error-none-parts : (xs ys : List Entry) → first_error (xs ++ ys) ≡ None → (first_error xs ≡ None) × (first_error ys ≡ None)
first_error-none-parts xs ys h = or_later-none (first_error xs) (first_error ys) (sym (first_error-append xs ys) ∙ h)

pub first_error-none-both : (xs ys : List Entry) → first_error xs ≡ None → first_error ys ≡ None → first_error (xs ++ ys) ≡ None
first_error-none-both xs ys e f = first_error-append xs ys ∙ or_later-both (first_error xs) (first_error ys) e f

-- an entry and what comes behind it
pub entry-none : (x : Entry) (xs : List Entry) → first_error (x ∷ xs) ≡ None → (refusal x.context x.part x.live ≡ None) × (first_error xs ≡ None)
entry-none x xs h = error_or-none x.at (refusal x.context x.part x.live) (first_error xs) h

-- a head, the entries of its block, and the rest
pub block-none : (x : Entry) (xs rest : List Entry) → first_error (x ∷ (xs ++ rest)) ≡ None
    → (refusal x.context x.part x.live ≡ None) × (first_error xs ≡ None) × (first_error rest ≡ None)
block-none x xs rest h =
    let q = entry-none x (xs ++ rest) h in
    let r = first_error-none-parts xs rest q.1 in
    (q.0, r.0, r.1)

-- the same with two blocks
pub blocks-none : (x : Entry) (xs ys rest : List Entry) → first_error (x ∷ (xs ++ (ys ++ rest))) ≡ None
    → (refusal x.context x.part x.live ≡ None) × (first_error xs ≡ None) × (first_error ys ≡ None) × (first_error rest ≡ None)
blocks-none x xs ys rest h =
    let q = block-none x xs (ys ++ rest) h in
    let r = first_error-none-parts ys rest q.2 in
    (q.0, q.1, r.0, r.1)
