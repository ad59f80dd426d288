use Rattle.std.proofs.Common.{◌∙◌, arith, get_or, sym}
use Rattle.std.proofs.lemmas.Option.{slice_get-get_or, slice_get_within}
use Rattle.perm_flow.proofs.Holders.{none-holds}
use Rattle.perm_flow.proofs.walk.hidden.holder_of.Goals as goal

pub returns-then-holds : goal.returns-then-holds
returns-then-holds c = record {
  stmt = get_or c.args.stmts.now c.stmts.place c.index-stmts-place.result;
  there = slice_get-get_or c.args.stmts.now c.stmts.place c.index-stmts-place.result c.stmts-test.true;
  inside = sym c.holds.ensures ∙ c.if-holds.true;
}

pub stmts-preserved : goal.stmts-preserved
stmts-preserved c =
    none-holds c.args.stmts.now c.args.at c.stmts.place (get_or c.args.stmts.now c.stmts.place c.index-stmts-place.result) (slice_get-get_or c.args.stmts.now c.stmts.place c.index-stmts-place.result c.stmts-test.true)
    (sym c.holds.ensures ∙ c.if-holds.false) c.stmts.invariant

pub returns : goal.returns
returns c j s there inside =
    let less = slice_get_within c.args.stmts.now j s there in
    c.stmts.invariant j s (omega (arith, less)) there inside
