use Rattle.std.proofs.Common.{◌∙◌, ap, sym}
use Rattle.std.specs.Prelude.{option_copied, slice_get}
use Rattle.perm_meaning.specs.Evaluator.NumberedHeap.{value_of_object, Stored}
use Rattle.perm_meaning.proofs.Evaluator.NumberedMaps.{lookup-at}
use Rattle.perm_meaning.proofs.Evaluator.NumberedHeap.{copied-item}
use Rattle.perm_meaning.proofs.eval.heap.Heap.load.Goals as goal

pub returns-in-Some : goal.returns-in-Some
returns-in-Some c =
    let stands = lookup-at c.args.object c.self.inside.objects.entries c.self.invariant ∙ ap (λ (s : Stored). slice_get s.objects c.args.object) c.self.view_is in
    let found = sym (ap option_copied c.in-Some.is) ∙ c.get.ensures.value ∙ stands in
    copied-item c.in-Some.values.now c.as_slice.result.now c.args.f c.get-in-Some.result c.copied.result c.as_slice.ensures c.get-in-Some.ensures.lookup c.copied.ensures
    ∙ ap (λ o. value_of_object o c.args.f) found

pub returns-in-None : goal.returns-in-None
returns-in-None c =
    let stands = lookup-at c.args.object c.self.inside.objects.entries c.self.invariant ∙ ap (λ (s : Stored). slice_get s.objects c.args.object) c.self.view_is in
    let found = sym (ap option_copied c.in-None.is) ∙ c.get.ensures.value ∙ stands in
    ap (λ o. value_of_object o c.args.f) found
