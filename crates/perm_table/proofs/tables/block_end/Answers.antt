use Rattle.std.proofs.Common.{◌<◌, length, arith, get_or}
use Rattle.std.specs.Prelude.{slice_index}
use Rattle.std.proofs.lemmas.Option.{slice_get-get_or}
use Rattle.perm_table.proofs.Walking.{AllBelow-at, block_end-step}
use Rattle.perm_table.proofs.tables.block_end.Goals as goal

pub bounds-stmts-place : goal.bounds-stmts-place
bounds-stmts-place c = AllBelow-at (length c.args.stmts.now) c.args.places.now c.places.place-index c.requires (omega arith)

pub bounds-stmts-place-in-places : goal.bounds-stmts-place-in-places
bounds-stmts-place-in-places c = AllBelow-at (length c.args.stmts.now) c.args.places.now c.places.place-index c.requires (omega arith)

pub places-preserved : goal.places-preserved
places-preserved c =
    let stmts = c.args.stmts.now in
    let places = c.args.places.now in
    let at = slice_index places c.places.place-index in
    let d = c.index-stmts-place.result in
    let here : at < length stmts = AllBelow-at (length stmts) places c.places.place-index c.requires (omega arith) in
    block_end-step stmts places c.places.place-index c.places.end (get_or stmts at d) (omega arith) (slice_get-get_or stmts at d here) c.places.invariant
