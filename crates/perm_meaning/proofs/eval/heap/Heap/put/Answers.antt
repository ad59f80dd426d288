use Rattle.std.proofs.Common.{◌∙◌, ap, sym, subst}
use Rattle.std.specs.Option.{option_copied_mut}
use Rattle.indexmap.specs.IndexMap.{values}
use Rattle.perm_meaning.specs.Evaluator.NumberedHeap.{put_at, CountFrom, Stored}
use Rattle.perm_meaning.specs.contracts.eval.heap.Heap.{the_invariant, the_view}
use Rattle.perm_meaning.proofs.Evaluator.NumberedMaps.{put-nowhere, put-there, set-counts}
use Rattle.perm_meaning.proofs.eval.heap.Heap.put.Goals as goal
use Rattle.perm_meaning.proofs.eval.heap.Heap.put.Goals.{in-Some, in_default}

pub invariant_of-self : goal.invariant_of-self
invariant_of-self c = elim c.match-get_mut.branch [
  | in-Some w ↦
      let more = set-counts _ 0 c.self.inside.objects.entries w.put_into.new.values c.self.invariant in
      subst the_invariant (sym w.self-inside-is) (subst (CountFrom 0) (sym (c.get_mut.follows.holds w.put_into.new.values).0) more)
  | in_default w ↦
      subst the_invariant (sym w.self-inside-is) (subst (λ m. CountFrom 0 m.entries) (sym c.get_mut.follows.holds-at-none) c.self.invariant)
]

pub returns : goal.returns
returns c = elim c.match-get_mut.branch [
  | in-Some w ↦
      let there = sym c.get_mut.ensures.value ∙ ap option_copied_mut w.in-Some.is in
      let new = put-there c.self.inside.objects.entries c.self.invariant c.args.object c.args.f c.args.value w.in-Some.values.now w.put_into.new.values _ there w.put_into.ensures (c.get_mut.follows.holds w.put_into.new.values).0 in
      ap the_view w.self-inside-is
      ∙ ap (λ os. record { objects = os; given = c.self.inside.given; limit = c.self.inside.limit }) new
      ∙ ap (λ (s : Stored). record s { objects = put_at s.objects c.args.object c.args.f c.args.value }) c.self.view_is
  | in_default w ↦
      let none = sym c.get_mut.ensures.value ∙ ap option_copied_mut w.in_default.is in
      let same = put-nowhere c.self.inside.objects.entries c.self.invariant c.args.object c.args.f c.args.value none in
      ap the_view w.self-inside-is
      ∙ ap (λ m. record { objects = values m; given = c.self.inside.given; limit = c.self.inside.limit }) c.get_mut.follows.holds-at-none
      ∙ ap (λ os. record { objects = os; given = c.self.inside.given; limit = c.self.inside.limit }) same
      ∙ ap (λ (s : Stored). record s { objects = put_at s.objects c.args.object c.args.f c.args.value }) c.self.view_is
]
