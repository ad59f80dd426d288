use Rattle.std.proofs.Common.{◌≡◌, ◌∙◌, ◌+◌, ◌++◌, ◌∷◌, [], length, ap, sym, subst, arith}
use Rattle.std.specs.Map.{values_of}
use Rattle.perm_meaning.specs.Objects.{size}
use Rattle.perm_meaning.specs.Evaluator.NumberedHeap.{CountFrom, Stored}
use Rattle.perm_meaning.proofs.Evaluator.NumberedMaps.{add-at, add-values, length-values, put-next}
use Rattle.perm_meaning.proofs.eval.heap.Heap.add.Goals as goal

pub invariant_of-self-2 : goal.invariant_of-self-2
invariant_of-self-2 c =
    let put = put-next c.self.inside.objects c.len-number.result c.args.values c.self.invariant c.len-number.ensures.len in
    subst (CountFrom 0) (sym (c.in_ok-insert.ensures.entries ∙ put)) (add-at c.self.inside.objects.entries c.len-number.result c.args.values c.self.invariant c.len-number.ensures.len)

pub returns : goal.returns
returns c =
    let put = put-next c.self.inside.objects c.len-number.result c.args.values c.self.invariant c.len-number.ensures.len in
    let objects = ap values_of (c.in_ok-insert.ensures.entries ∙ put) ∙ add-values c.self.inside.objects.entries c.len-number.result c.args.values in
    let count = c.len.ensures.value in
    let max_is = c.max-words.ensures in
    let words : c.max-words.result ≡ size (length c.args.values) = omega (arith, count, max_is) in (
      c.len-number.ensures.len ∙ sym (length-values c.self.inside.objects.entries) ∙ ap (λ (s : Stored). length s.objects) c.self.view_is,
      (λ i. record { objects = objects i; given = c.self.inside.given + words i; limit = c.self.inside.limit })
          ∙ ap (λ (s : Stored). record s { objects = s.objects ++ c.args.values ∷ []; given = s.given + size (length c.args.values) }) c.self.view_is,
    )
