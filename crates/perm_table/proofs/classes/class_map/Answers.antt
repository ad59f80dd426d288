use Rattle.std.proofs.Common.{◌∙◌, ◌<◌, [], ap, arith, get_or, length}
use Rattle.std.proofs.lemmas.List.{get_or_default, length-map}
use Rattle.indexmap.specs.IndexMap.{insert_entry}
use Rattle.std.specs.Str.{bytes_eq}
use Rattle.perm_tree.specs.Resolves.{class_word, class_words}
use Rattle.perm_table.proofs.Maps.{map-step, map-whole, number-at, word-at}
use Rattle.perm_table.proofs.classes.class_map.Goals as goal

pub bounds-names-classes : goal.bounds-names-classes
bounds-names-classes c =
    let classes = c.classes-classes in
    number-at c.args.program.now c.names-names.result.now classes.result.now c.index-classes-at.result c.classes.at c.names-names.ensures classes.ensures.value classes.ensures.named c.classes-test.true

pub classes-preserved : goal.classes-preserved
classes-preserved c =
    let p = c.args.program.now in
    let names = c.names-names.result.now in
    let classes = c.classes-classes in
    let class = c.index-classes-at.result in
    let number = (get_or classes.result.now c.classes.at class).name.name in
    let within : c.classes.at < length (class_words p) = omega (arith, c.classes-test.true, length-map p.classes (class_word p), ap length classes.ensures.value) in
    let there : number < length names = number-at p names classes.result.now class c.classes.at c.names-names.ensures classes.ensures.value classes.ensures.named c.classes-test.true in
    let word = word-at p names classes.result.now class c.classes.at c.names-names.ensures classes.ensures.value c.classes-test.true in
    let copy = c.in_ok-name.ensures ∙ c.index-names-classes.is ∙ get_or_default names number c.index-names-classes.result [] there in
    map-step p c.classes.map c.insert.new.self.entries c.classes.at c.in_ok-name.name c.requires within (copy ∙ word)
    c.classes.invariant (c.in_ok-insert.ensures.entries ∙ ap (insert_entry bytes_eq c.classes.map.entries c.in_ok-name.name) c.in_ok-place.ensures)

pub returns : goal.returns
returns c = map-whole c.args.program.now c.classes.map.entries c.classes-classes.result.now c.classes.at c.classes-classes.ensures.value c.classes-test.false c.classes.invariant
