use Rattle.std.proofs.Common.{◌≡◌, ℕ, List, get_or, replicate, Some, ap, ◌∙◌, vec_capacity, length}
use Rattle.std.specs.Prelude.{slice_get, slice_set}
use Rattle.std.specs.Vec.{with_items}
use Rattle.std.proofs.lemmas.Option.{slice_get-get_or}
use Rattle.perm_tree.specs.declared.bodies.Entry.{Entry}
use Rattle.perm_step.specs.Working.{Room}
use Rattle.perm_step.proofs.WholeRuns.Opening.{written-variable}
use Rattle.perm_step.proofs.control.Control.enter.Goals as goal

pub returns : goal.returns
returns c =
    let b = c.args.bodies.now in
    let root = c.args.root in
    let input = c.args.input in
    let first : Entry = record { first = 0; last = 0; variables = 0 } in
    let entry : Entry = get_or c.as_slice.result.now b.run first in
    let here : slice_get b.entries b.run ≡ Some entry =
    slice_get-get_or b.entries b.run first c.requires.there ∙ ap (λ (es : List Entry). Some (get_or es b.run first)) cc in
    let blank : List ℕ = replicate entry.variables 0 in
    let made = c.in_ok-vars.vars in
    let rooted = with_items made c.set_word.new.words in
    let one : rooted.items ≡ slice_set blank 0 root =
    written-variable made blank c.set_word.new.words 0 root (c.in_ok-vars.ensures.items_if_clones_equal (λ y same. same)) (c.set_word.ensures ∙ ap (λ (ws : List ℕ). slice_set ws 0 root) c.deref_mut.ensures.value) in
    let both : (with_items rooted c.set_word-2.new.words).items ≡ slice_set (slice_set blank 0 root) 1 input =
    written-variable rooted (slice_set blank 0 root) c.set_word-2.new.words 1 input one (c.set_word-2.ensures ∙ ap (λ (ws : List ℕ). slice_set ws 1 input) c.deref_mut-2.ensures.value) in
    let room : Room = record {
      calls = vec_capacity c.new.result;
      vars = vec_capacity (with_items rooted c.set_word-2.new.words);
      printed = vec_capacity c.new-2.result;
      values = length c.new-3.result.items;
    } in
    record {
      entry = entry;
      here = here;
      room = room;
      control = λ j. record { at = entry.first; base = 0; calls = c.new.ensures.items j; vars = both j; printed = c.new-2.ensures.items j; depth = 1; turns = c.args.turns; room = room };
    }
