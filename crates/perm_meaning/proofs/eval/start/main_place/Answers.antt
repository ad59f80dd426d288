use Rattle.std.proofs.Common.{◌≡◌, ◌∙◌, ap, rules, tests, length, List, ℕ}
use Rattle.std.specs.List.{position, position_or_len}
use Rattle.std.specs.Option.{unwrap_or}
use Rattle.std.proofs.lemmas.Iterator.{YieldsList-from_slice}
use Rattle.std.proofs.lemmas.Iterator.Search.{position_from_yields_List}
use Rattle.perm_tree.specs.declared.ast.ClassDecl.{ClassDecl}
use Rattle.perm_tree.specs.Spelling.{is_word, main_word}
use Rattle.perm_tree.proofs.FoundPlaces.{position-or}
use Rattle.perm_meaning.proofs.eval.start.main_place.Goals as goal

pub returns : goal.returns
returns c =
    let p = c.args.program.now in
    let here = λ (d : ClassDecl). is_word c.names-names.result.now main_word d.name.name in
    let classes = c.classes-classes.result.now in
    let found : c.position.result ≡ position here classes =
    position_from_yields_List here _ _ c.position.result c.position.ensures.ran (YieldsList-from_slice _ c.iter.ensures.rest) (λ x b q k. search (rules, tests)) in
    c.unwrap_or.ensures ∙ ap (λ o. unwrap_or o (length classes)) found ∙ position-or here classes
    ∙ ap (λ (names : List (List ℕ)). position_or_len (λ (d : ClassDecl). is_word names main_word d.name.name) classes) c.names-names.ensures
    ∙ ap (position_or_len (λ (d : ClassDecl). is_word p.names main_word d.name.name)) c.classes-classes.ensures.value
