use Rattle.std.proofs.Common.{arith}
use Rattle.perm_flow.proofs.Holders.{holder-behind, holder-there, hidden-within, nothing-hidden}
use Rattle.perm_flow.proofs.walk.hidden.+hidden_at.Goals as goal

pub bounds-stmts-place : goal.bounds-stmts-place
bounds-stmts-place t c = holder-there c.args.stmts.now c.requires c.args.at c.in-Some.place c.in-Some.ensures

pub hidden_at-requires : goal.hidden_at-requires
hidden_at-requires t c =
    let there = holder-there c.args.stmts.now c.requires c.args.at c.in-Some.place c.in-Some.ensures in
    let behind = holder-behind c.args.stmts.now c.requires c.args.at c.in-Some.place c.in-Some.ensures in
    (omega (arith, c.decreases, there, behind), c.requires)

pub returns-in-Some : goal.returns-in-Some
returns-in-Some t c x within =
    hidden-within c.args.stmts.now c.requires c.args.at c.in-Some.place c.in-Some.ensures c.args.vars.now c.index-stmts-place.result c.hides_of.result c.hidden_at.result c.union.result x
    c.index-stmts-place.is (c.hides_of.ensures x within) (c.hidden_at.ensures x within) c.union.ensures

pub returns-in-None : goal.returns-in-None
returns-in-None t c x within = nothing-hidden c.args.stmts.now c.requires c.args.at c.in-None.ensures c.args.vars.now c.new.result x c.new.ensures
