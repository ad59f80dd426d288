use Rattle.std.proofs.Common.{rules, ◌≡◌, ◌∙◌, ℕ, ap, refl, map}
use Rattle.std.proofs.lemmas.Fn.{always_returns_same}
use Rattle.std.proofs.lemmas.List.Sorted.{IsNonDecreasingBy-from_sort_by_key}
use Rattle.perm_tree.specs.declared.print.class.Member.{Member}
use Rattle.perm_tree.specs.Printer.Programs.{sort_by}
use Rattle.perm_tree.specs.Printer.Members.{form_of, form_start}
use Rattle.perm_tree.proofs.Printer.StableSorts.{map-sorted_by, sorted}
use Rattle.perm_tree.proofs.print.class.sorted.Goals as goal

pub returns : goal.returns
returns c =
    let n : Member → ℕ = λ m. form_start (form_of m) in
    let xs = c.in_ok-members.members.items in
    let ys = c.sort_by_key.new.self.items in
    let rising = IsNonDecreasingBy-from_sort_by_key n ys c.in_ok-sort_by_key.ensures.sorted (λ a r q k. search rules) in
    let ties = c.in_ok-sort_by_key.ensures.stable n (always_returns_same _ (λ a r. r ≡ n a.0.now) _ (λ a r q k. search rules)) in
    ap (map form_of) (sorted n xs ys rising ties) ∙ map-sorted_by n form_start form_of (λ m. refl) xs ∙ ap (sort_by form_start) c.in_ok-members.ensures
