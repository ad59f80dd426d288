use Rattle.std.proofs.Common.{◌≡◌, ◌∙◌, ◌<◌, ◌+◌, ℕ, List, length, Option, Some, get_or, sym, ap, arith}
use Rattle.std.specs.Prelude.{nat_eq, slice_get}
use Rattle.std.specs.List.{position}
use Rattle.std.proofs.lemmas.Option.{slice_get-get_or}
use Rattle.perm_tree.specs.declared.ast.ClassDecl.{ClassDecl}
use Rattle.perm_table.specs.Numbering.{firsts_from, method_number, number_behind}
use Rattle.perm_table.proofs.NumberingRoutines.{length-firsts_from}
use Rattle.perm_table.proofs.numbering.names.method_of.Goals as goal

there : (xs ys : List ClassDecl) (at : ℕ) (c : ClassDecl) → xs ≡ ys → at < length xs → c ≡ get_or xs at c → slice_get ys at ≡ Some c
there xs ys at c same within is = ap (λ (l : List ClassDecl). slice_get l at) (sym same) ∙ slice_get-get_or xs at c within ∙ ap Some (sym is)

told : (o : Option ClassDecl) (c : ClassDecl) (first count name : ℕ) (r : Option ℕ) → o ≡ Some c → r ≡ position (λ d. nat_eq d.name.name name) c.methods → number_behind first count r ≡ method_number first count o name
told o c first count name r is found = ap (number_behind first count) found ∙ ap (λ p. method_number first count p name) (sym is)

pub bounds-firsts-at : goal.bounds-firsts-at
bounds-firsts-at c =
    let within : c.args.at < length c.classes.result.now = c.in-Some.ensures.lookup.3.0 in
    omega (arith, within, ap (λ (l : List ClassDecl). length l) c.classes.ensures.value, ap (λ (l : List ℕ). length l) c.requires, length-firsts_from 0 c.args.program.now.classes)

pub returns-in-Some-method_among : goal.returns-in-Some-method_among
returns-in-Some-method_among c =
    let class = c.in-Some.class.now in
    let here = there c.classes.result.now c.args.program.now.classes c.args.at class c.classes.ensures.value c.in-Some.ensures.lookup.3.0 c.in-Some.ensures.lookup.1 in
    let first = get_or (firsts_from 0 c.args.program.now.classes) c.args.at 0 in
    let found : c.method_among.result ≡ position (λ d. nat_eq d.name.name c.args.name) class.methods = c.method_among.ensures ∙ ap (position (λ d. nat_eq d.name.name c.args.name)) c.as_slice.ensures in
    ap (λ (l : List ℕ). get_or l c.args.at 0 + c.in-Some-method_among.place) c.requires
    ∙ ap (number_behind first c.args.count) (sym c.in-Some-method_among.is)
    ∙ told (slice_get c.args.program.now.classes c.args.at) class first c.args.count c.args.name c.method_among.result here found

pub returns-in-None : goal.returns-in-None
returns-in-None c =
    let class = c.in-Some.class.now in
    let here = there c.classes.result.now c.args.program.now.classes c.args.at class c.classes.ensures.value c.in-Some.ensures.lookup.3.0 c.in-Some.ensures.lookup.1 in
    let first = get_or (firsts_from 0 c.args.program.now.classes) c.args.at 0 in
    let found : c.method_among.result ≡ position (λ d. nat_eq d.name.name c.args.name) class.methods = c.method_among.ensures ∙ ap (position (λ d. nat_eq d.name.name c.args.name)) c.as_slice.ensures in
    ap (number_behind first c.args.count) (sym c.in-None.is)
    ∙ told (slice_get c.args.program.now.classes c.args.at) class first c.args.count c.args.name c.method_among.result here found
