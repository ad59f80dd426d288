use Rattle.std.proofs.Common.{ℕ, ◌≡◌, ◌≤◌, ◌∙◌, ap, length, arith, sym, drop, List, []}
use Rattle.std.specs.Prelude.{nat_eq, unwrap_or}
use Rattle.std.proofs.lemmas.List.{drop_all}
use Rattle.indexmap.specs.IndexMap.{IndexMap, get}
use Rattle.std.specs.Map.{lookup}
use Rattle.std.specs.List.{position_or_len}
use Rattle.perm_tree.specs.declared.ast.ClassDecl.{ClassDecl}
use Rattle.perm_table.specs.Numbers.{place_from}
use Rattle.perm_table.proofs.FirstPlaces.{position-from, place_from-step}
use Rattle.perm_table.proofs.numbers.ClassNumbers.new.Goals as goal

-- an empty map has no class behind the last
empty : {S : Type 0} (m : IndexMap ℕ ℕ S) (count : ℕ) (classes : List ClassDecl) → count ≡ length classes → m.entries ≡ []
    → (count ≤ length classes) × ((name : ℕ) → get nat_eq m name ≡ place_from count (drop count classes) name)
empty m count classes is none = (
  omega arith,
  λ name. ap (λ es. lookup (nat_eq name) es) none ∙ ap (λ cs. place_from count cs name) (sym (drop_all count classes (omega arith))),
)

whole : {S : Type 0} (m : IndexMap ℕ ℕ S) (count at : ℕ) (classes : List ClassDecl) (name : ℕ) → count ≡ length classes → at ≡ 0 → get nat_eq m name ≡ place_from at (drop at classes) name
    → unwrap_or (get nat_eq m name) count ≡ position_or_len (λ c. nat_eq c.name.name name) classes
whole m count at classes name is start known =
    (λ j. unwrap_or (known j) (is j)) ∙ ap (λ n. unwrap_or (place_from n (drop n classes) name) (length classes)) start ∙ position-from name classes

pub places-init : goal.places-init
places-init c = empty c.new-places.result c.in_ok-count.count c.args.classes.now c.in_ok-count.ensures c.new-places.ensures.empty

pub places-preserved : goal.places-preserved
places-preserved c =
    place_from-step c.args.classes.now c.places.at c.index-classes-at.result (get nat_eq c.places.places) (get nat_eq c.insert.new.self) c.places-test.true c.places.invariant.0 c.places.invariant.1 (λ q. c.in_ok-insert.ensures.updates.0 q)

pub returns-clause-places : goal.returns-clause-places
returns-clause-places c name =
    let start : c.places.at ≡ 0 = omega arith in
    whole c.places.places c.in_ok-count.count c.places.at c.args.classes.now name c.in_ok-count.ensures start (c.places.invariant.1 name)
