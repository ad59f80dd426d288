use Rattle.std.proofs.Common.{◌≡◌, ◌∙◌, ap, rules, tests, length, nat_eq}
use Rattle.std.specs.List.{position}
use Rattle.std.specs.Option.{unwrap_or}
use Rattle.std.proofs.lemmas.Iterator.{YieldsList-from_slice}
use Rattle.std.proofs.lemmas.Iterator.Search.{position_from_yields_List}
use Rattle.perm_tree.specs.declared.ast.FieldDecl.{FieldDecl}
use Rattle.perm_tree.proofs.FoundPlaces.{position-or}
use Rattle.perm_meaning.proofs.eval.names.field_among.Goals as goal

pub returns : goal.returns
returns c =
    let found : c.position.result ≡ position (λ (f : FieldDecl). nat_eq f.name.name c.args.name) c.args.fields.now =
    position_from_yields_List (λ (f : FieldDecl). nat_eq f.name.name c.args.name) _ _ c.position.result c.position.ensures.ran (YieldsList-from_slice _ c.iter.ensures.rest) (λ x b q k. search (rules, tests)) in
    c.unwrap_or.ensures ∙ ap (λ o. unwrap_or o (length c.args.fields.now)) found ∙ position-or (λ (f : FieldDecl). nat_eq f.name.name c.args.name) c.args.fields.now
