use Rattle.std.proofs.Common.{◌≡◌, ◌∙◌, ap, rules, tests, length, nat_eq}
use Rattle.std.specs.List.{position}
use Rattle.std.specs.Option.{unwrap_or}
use Rattle.std.proofs.lemmas.Iterator.{YieldsList-from_slice}
use Rattle.std.proofs.lemmas.Iterator.Search.{position_from_yields_List}
use Rattle.perm_tree.specs.Lookup.{is_method_of}
use Rattle.perm_tree.proofs.FoundPlaces.{position-or}
use Rattle.perm_meaning.proofs.eval.names.method_among.Goals as goal

pub returns : goal.returns
returns c =
    let found : c.position.result ≡ position (is_method_of c.args.program.now c.args.class (λ n. nat_eq n c.args.name)) c.args.tables.now =
    position_from_yields_List (is_method_of c.args.program.now c.args.class (λ n. nat_eq n c.args.name)) _ _ c.position.result c.position.ensures.ran (YieldsList-from_slice _ c.iter.ensures.rest) (λ x b q k. search (rules, tests)) in
    c.unwrap_or.ensures ∙ ap (λ o. unwrap_or o (length c.args.tables.now)) found ∙ position-or (is_method_of c.args.program.now c.args.class (λ n. nat_eq n c.args.name)) c.args.tables.now
