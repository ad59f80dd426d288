use Rattle.std.proofs.Common.{◌≡◌, ◌∙◌, ◌+◌, true, List, [], ◌∷◌, ◌++◌, length, sym, ap, subst}
use Rattle.std.specs.Prelude.{nat_le}
use Rattle.perm_tree.specs.declared.ast.Shape.TheVariants.{Class}
use Rattle.perm_tree.specs.CodeOf.{code_of}
use Rattle.perm_tree.specs.Lookup.{main_place}
use Rattle.perm_tree.specs.Places.{Listing}
use Rattle.perm_meaning.specs.declared.eval.values.Value.{Value}
use Rattle.perm_meaning.specs.Objects.{field_types, size}
use Rattle.perm_meaning.specs.Evaluator.NumberedHeap.{Stored, StartsAs}
use Rattle.perm_meaning.proofs.Evaluator.Runs.Begun.{has-both}
use Rattle.perm_meaning.proofs.eval.start.first_heap.Goals as goal

pub returns : goal.returns
returns c =
    let u = c.args.unit.now in
    let array = c.in_ok-array.array in
    let main = c.in_ok-main.main in
    let place : c.main_place.result ≡ main_place u.program = c.main_place.ensures ∙ ap (λ (p : Listing). main_place p) c.program.ensures in
    let more = λ (values : List Value) (s : Stored). record s { objects = s.objects ++ values ∷ []; given = s.given + size (length values) } in
    let first = c.in_ok-add.ensures.1 ∙ ap (more array) c.new-heap.ensures in
    let room : nat_le (c.add.new.self.given + size (length main)) c.add.new.self.limit ≡ true = ap (λ n. nat_le (c.add.new.self.given + size n) c.add.new.self.limit) (sym c.len-2.ensures.value) ∙ sym c.if-not-has_room-2.ensures in
    has-both u c.args.input.now c.args.limit array main c.add-2.new.self c.in_ok-array.ensures
    (subst (λ k. StartsAs (code_of u) (Class k) (length main) main) place c.in_ok-main.ensures.start)
    (c.in_ok-main.ensures.count ∙ ap (λ k. length (field_types (code_of u) k)) place)
    (subst (λ (s : Stored). nat_le (s.given + size (length main)) s.limit ≡ true) first room)
    (c.in_ok-add-2.ensures.1 ∙ ap (more main) first)
