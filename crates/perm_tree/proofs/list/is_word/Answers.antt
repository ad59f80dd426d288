use Rattle.std.proofs.Common.{◌≡◌, ◌∙◌, ◌<◌, ap, sym, length, List, []}
use Rattle.std.specs.Prelude.{ℕ}
use Rattle.std.specs.Str.{bytes_eq}
use Rattle.std.proofs.lemmas.Bool.{ltb-true}
use Rattle.std.proofs.lemmas.List.{get_or_read}
use Rattle.perm_tree.proofs.list.is_word.Goals as goal

pub returns-in-Some : goal.returns-in-Some
returns-in-Some c =
    let names = c.args.names.now in
    let name = c.in-Some.name.now in
    let within : c.args.n < length names = ltb-true c.args.n (length names) (sym c.in-Some.ensures.lookup.0) in
    let read : name ≡ _ = get_or_read names c.args.n name within c.in-Some.ensures.lookup.1 [] in
    c.eq.ensures ∙ ap (λ (v : List ℕ). bytes_eq v c.args.word.now) (c.as_slice.ensures ∙ read)
