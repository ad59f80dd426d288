use Rattle.std.proofs.Common.{◌≡◌, ◌∙◌, ◌<◌, ap, sym, arith, length, get_or, List}
use Rattle.std.specs.Prelude.{Some, slice_get, slice_index}
use Rattle.std.proofs.lemmas.Option.{slice_get-get_or}
use Rattle.perm_tree.specs.declared.ast.Stmt.{Stmt}
use Rattle.perm_tree.specs.CodeNames.{own_vars}
use Rattle.perm_tree.specs.Places.{Listing}
use Rattle.perm_tree.specs.Vars.{those}
use Rattle.perm_table.specs.Numbering.{setting_of}
use Rattle.perm_table.proofs.Emission.Sets.{holds-none, own-step, own-done}
use Rattle.perm_table.proofs.Walking.{AllBelow-at}
use Rattle.perm_table.proofs.numbering.writes.own_vars.Goals as goal

pub bounds-all-at : goal.bounds-all-at
bounds-all-at c =
    omega (arith, AllBelow-at c.args.below c.args.stmts.now c.stmts.at-index c.requires.inside c.stmts-test.true, c.requires.below, ap length c.stmts-all.ensures.value, ap (λ (p : Listing). length p.stmts) c.program.ensures)

pub stmts-init : goal.stmts-init
stmts-init c x within = sym (holds-none c.new-set.result (those (own_vars (setting_of c.args.names.now) c.args.stmts.now)) c.new-set.ensures x)

pub stmts-preserved : goal.stmts-preserved
stmts-preserved c x within =
    let names = c.args.names.now in
    let k = setting_of names in
    let stmts = c.args.stmts.now in
    let all = c.stmts-all.result.now in
    let at = slice_index stmts c.stmts.at-index in
    let same : all ≡ names.tables.program.stmts = c.stmts-all.ensures.value ∙ ap (λ (p : Listing). p.stmts) c.program.ensures in
    let inside : at < length all = omega (arith, AllBelow-at c.args.below stmts c.stmts.at-index c.requires.inside c.stmts-test.true, c.requires.below, ap (λ (l : List Stmt). length l) same) in
    let here : slice_get names.tables.program.stmts at ≡ Some (get_or all at c.index-all-at.result) = ap (λ (l : List Stmt). slice_get l at) (sym same) ∙ slice_get-get_or all at c.index-all-at.result inside in
    own-step k stmts c.stmts.at-index (get_or all at c.index-all-at.result) c.stmts.set c.in_ok-set.set x (those (own_vars k stmts) x) c.stmts-test.true here (c.in_ok-set.ensures x within) (c.stmts.invariant x within)

pub returns : goal.returns
returns c x within =
    let names = c.args.names.now in
    let k = setting_of names in
    own-done k c.args.stmts.now c.stmts.at-index c.stmts.set x (those (own_vars k c.args.stmts.now) x) c.stmts-test.false (c.stmts.invariant x within)
