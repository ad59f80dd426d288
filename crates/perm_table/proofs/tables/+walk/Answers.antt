use Rattle.std.proofs.Common.{◌≡◌, ◌∙◌, ◌<◌, ◌++◌, ap, sym, subst, arith, length, get_or, List}
use Rattle.std.specs.Prelude.{Some, slice_get, slice_index, OnOk}
use Rattle.std.proofs.lemmas.Option.{slice_get-get_or}
use Rattle.perm_tree.specs.declared.ast.Stmt.{Stmt}
use Rattle.perm_tree.specs.declared.unit.VarInfo.{VarInfo}
use Rattle.perm_tree.specs.Places.{AllBelow}
use Rattle.perm_tree.specs.Scopes.{all_inner}
use Rattle.perm_tree.proofs.Pushes.{all_more}
use Rattle.perm_table.proofs.Walking.{AllBelow-at, block-step, inner-at}
use Rattle.perm_table.proofs.tables.+walk.Goals as goal

pub add_block-bounds-stmts-place : goal.add_block-bounds-stmts-place
add_block-bounds-stmts-place t c =
    omega (arith, AllBelow-at c.args.below c.args.places.now c.places.place-index c.requires.inside (omega arith), c.requires.below, ap length c.stmts-stmts.ensures.value)

pub add_block-add_inner-requires : goal.add_block-add_inner-requires
add_block-add_inner-requires t c =
    let here : slice_index c.args.places.now c.places.place-index < c.args.below = AllBelow-at c.args.below c.args.places.now c.places.place-index c.requires.inside (omega arith) in
    (omega (arith, c.decreases), omega (arith, c.requires.below))

pub add_block-places-preserved : goal.add_block-places-preserved
add_block-places-preserved t c =
    let stmts = c.args.program.now.stmts in
    let places = c.args.places.now in
    let at = slice_index places c.places.place-index in
    let list = c.stmts-stmts.result.now in
    let s = get_or list at c.index-stmts-place.result in
    let below : at < c.args.below = AllBelow-at c.args.below places c.places.place-index c.requires.inside (omega arith) in
    let within : at < length list = omega (arith, c.requires.below, ap length c.stmts-stmts.ensures.value) in
    let here : slice_get stmts at ≡ Some s = ap (λ (ss : List Stmt). slice_get ss at) (sym c.stmts-stmts.ensures.value) ∙ slice_get-get_or list at c.index-stmts-place.result within in
    block-step stmts (all_inner stmts) c.args.end places c.places.place-index c.args.vars.now c.places.vars c.add_declared.new.vars c.add_inner.new.vars s
    (omega arith) here c.places.invariant c.in_ok-add_declared.ensures c.in_ok-add_inner.ensures

pub add_braced-block_end-end-requires : goal.add_braced-block_end-end-requires
add_braced-block_end-end-requires t c =
    let le = ap length c.stmts.ensures.value in
    subst (AllBelow (length c.stmts.result.now)) (sym c.as_slice-places.ensures) (all_more c.args.below (length c.stmts.result.now) c.args.block.now.stmts (omega (arith, c.requires.below)) c.requires.inside)

pub add_inner-returns : goal.add_inner-returns
add_inner-returns t c =
    let stmts = c.args.program.now.stmts in
    let list = c.stmts-stmts.result.now in
    let s = get_or list c.args.at c.index-stmts-at.result in
    let within : c.args.at < length list = omega (arith, c.requires, ap length c.stmts-stmts.ensures.value) in
    let here : slice_get stmts c.args.at ≡ Some s = ap (λ (ss : List Stmt). slice_get ss c.args.at) (sym c.stmts-stmts.ensures.value) ∙ slice_get-get_or list c.args.at c.index-stmts-at.result within in
    subst (λ (vs : List VarInfo). OnOk c.add_kind.result (c.add_kind.new.vars ≡ c.args.vars.now ++ vs)) (sym (inner-at c.args.program.now c.args.at s c.stmts-stmts.ensures.placed here)) c.add_kind.ensures
