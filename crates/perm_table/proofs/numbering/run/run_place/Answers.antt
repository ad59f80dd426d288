use Rattle.std.proofs.Common.{◌≡◌, ◌∙◌, ap, rules, tests, length}
use Rattle.std.specs.List.{position, position_or_len}
use Rattle.std.specs.Option.{unwrap_or}
use Rattle.std.proofs.lemmas.Iterator.{YieldsList-from_slice}
use Rattle.std.proofs.lemmas.Iterator.Search.{position_from_yields_List}
use Rattle.perm_tree.specs.Lookup.{is_method_of}
use Rattle.perm_tree.specs.Spelling.{is_word, run_word}
use Rattle.perm_tree.proofs.FoundPlaces.{position-or}
use Rattle.perm_table.proofs.numbering.run.run_place.Goals as goal

pub returns : goal.returns
returns c =
    let p = c.args.program.now in
    let tables = c.args.tables.now in
    let here = is_method_of p c.main_place-main.result (is_word p.names run_word) in
    let found : c.position.result ≡ position here tables =
    position_from_yields_List here _ _ c.position.result c.position.ensures.ran (YieldsList-from_slice _ c.iter.ensures.rest) (λ x b q k. search (rules, tests)) in
    c.unwrap_or.ensures ∙ ap (λ o. unwrap_or o (length tables)) found ∙ position-or here tables ∙ ap (λ m. position_or_len (is_method_of p m (is_word p.names run_word)) tables) c.main_place-main.ensures
