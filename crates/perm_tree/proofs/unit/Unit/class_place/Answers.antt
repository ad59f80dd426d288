use Rattle.std.proofs.Common.{◌≡◌, ℕ, ◌<◌, ◌≤◌, List, [], length, Some, None, subst, sym, ap, arith, get_or, ◌∙◌}
use Rattle.std.specs.Prelude.{bytes_eq}
use Rattle.std.specs.Map.{lookup}
use Rattle.perm_tree.specs.Lookup.{class_place}
use Rattle.perm_tree.specs.UnitTables.{Tables}
use Rattle.perm_tree.proofs.ClassMaps.{class_place-past, class_place-found, class_place-missing}
use Rattle.perm_tree.proofs.unit.Unit.class_place.Goals as goal

pub returns-in_default : goal.returns-in_default
returns-in_default c =
    let past : length c.self.inside.program.names ≤ c.args.name = subst (λ ns. length ns ≤ c.args.name) c.names.ensures c.in_default.ensures.lookup.3 in
    ap length c.classes-count.ensures.value
    ∙ class_place-past c.self.inside.program c.args.name c.self.invariant.0.formed past
    ∙ ap (λ (u : Tables). class_place u.program c.args.name) c.self.view_is

pub returns-in-Some-get : goal.returns-in-Some-get
returns-in-Some-get c =
    let p = c.self.inside.program in
    let entries = c.self.inside.classes.entries in
    let within : c.args.name < length p.names = subst (λ ns. c.args.name < length ns) c.names.ensures c.in-Some.ensures.lookup.3.0 in
    let word : c.in-Some.word.now ≡ get_or p.names c.args.name [] = c.in-Some.ensures.lookup.4 (omega arith) [] ∙ ap (λ (ns : List (List ℕ)). get_or ns c.args.name []) c.names.ensures in
    let found : lookup (bytes_eq (get_or p.names c.args.name [])) entries ≡ Some c.in-Some-get.place.now = ap (λ w. lookup (bytes_eq w) entries) (sym word) ∙ sym c.in-Some-get.ensures.value in
    class_place-found p c.args.name c.self.invariant.0.formed entries c.self.invariant.1 within c.in-Some-get.place.now found ∙ ap (λ (u : Tables). class_place u.program c.args.name) c.self.view_is

pub returns-in-None : goal.returns-in-None
returns-in-None c =
    let p = c.self.inside.program in
    let entries = c.self.inside.classes.entries in
    let within : c.args.name < length p.names = subst (λ ns. c.args.name < length ns) c.names.ensures c.in-Some.ensures.lookup.3.0 in
    let word : c.in-Some.word.now ≡ get_or p.names c.args.name [] = c.in-Some.ensures.lookup.4 (omega arith) [] ∙ ap (λ (ns : List (List ℕ)). get_or ns c.args.name []) c.names.ensures in
    let missing : lookup (bytes_eq (get_or p.names c.args.name [])) entries ≡ None = ap (λ w. lookup (bytes_eq w) entries) (sym word) ∙ sym c.in-None.ensures.value in
    ap length c.classes-count.ensures.value
    ∙ class_place-missing p c.args.name c.self.invariant.0.formed entries c.self.invariant.1 within missing
    ∙ ap (λ (u : Tables). class_place u.program c.args.name) c.self.view_is
