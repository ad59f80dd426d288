-- What a code writes it touches.
use Rattle.std.proofs.Common.{ℕ, List}
use Rattle.std.proofs.lemmas.Bool.{or_left}
use Rattle.perm_tree.specs.Code.{Instruction, Declare, Assign, LoadField, LoadLength, LoadItem, TakeField, NewObject, NewArray, StoreField, StoreItem, Invoke, Print, Code, End, Give, Return, Do, If, While, Par, Recover}
use Rattle.perm_tree.specs.Mentions.{argument_consumes, consumes, assigns, written}
use Rattle.perm_tree.specs.Vars.{none, just, those, plus, minus, IsWithin}
use Rattle.perm_tree.proofs.MentionLaws.{within-plus, same-within, minus-within}
use Rattle.perm_rules.specs.Pars.{touched_by, touched}

writes-touched : (i : Instruction) → IsWithin (plus (consumes i) (assigns i)) (touched_by i)
writes-touched (Declare x) y e = absurd (let no : ⊥ = cc e in no)
writes-touched (Assign x a) y e = e
writes-touched (LoadField x y f) z e = e
writes-touched (LoadLength x y) z e = e
writes-touched (LoadItem x y i) z e = e
writes-touched (TakeField x y f) z e = e
writes-touched (NewObject x class) y e = e
writes-touched (NewArray x n) y e = e
writes-touched (StoreField y f a) z e = e
writes-touched (StoreItem y i v) z e = e
writes-touched (Invoke into tie consumed y routine args) z e = e
writes-touched (Print t) y e = e

pub block-touched : (own : List ℕ) (a : Code) → IsWithin (written a) (touched a) → IsWithin (minus (written a) (those own)) (plus (touched a) (those own))
block-touched own a is x e = or_left (touched a x) (those own x) (is x (minus-within (written a) (those own) x e))

pub written-touched : (a : Code) → IsWithin (written a) (touched a)
written-touched End = same-within none
written-touched (Give at w y) = same-within (plus (just w) (just y))
written-touched (Return at a) = same-within (argument_consumes a)
written-touched (Do at i rest) = within-plus (plus (consumes i) (assigns i)) (touched_by i) (written rest) (touched rest) (writes-touched i) (written-touched rest)
written-touched (If at e own1 a own2 b rest) =
    within-plus (minus (written a) (those own1)) (plus (touched a) (those own1)) (plus (minus (written b) (those own2)) (written rest)) (plus (plus (touched b) (those own2)) (touched rest))
    (block-touched own1 a (written-touched a))
    (within-plus (minus (written b) (those own2)) (plus (touched b) (those own2)) (written rest) (touched rest) (block-touched own2 b (written-touched b)) (written-touched rest))
written-touched (While at e own body rest) =
    within-plus (minus (written body) (those own)) (plus (touched body) (those own)) (written rest) (touched rest) (block-touched own body (written-touched body)) (written-touched rest)
written-touched (Par at own1 a own2 b rest) =
    within-plus (minus (written a) (those own1)) (plus (touched a) (those own1)) (plus (minus (written b) (those own2)) (written rest)) (plus (plus (touched b) (those own2)) (touched rest))
    (block-touched own1 a (written-touched a))
    (within-plus (minus (written b) (those own2)) (plus (touched b) (those own2)) (written rest) (touched rest) (block-touched own2 b (written-touched b)) (written-touched rest))
written-touched (Recover at y own hides body rest) =
    within-plus (just y) (just y) (plus (minus (written body) (those own)) (written rest)) (plus (plus (touched body) (those own)) (touched rest))
    (same-within (just y))
    (within-plus (minus (written body) (those own)) (plus (touched body) (those own)) (written rest) (touched rest) (block-touched own body (written-touched body)) (written-touched rest))
