use Rattle.std.proofs.Common.{◌∙◌, ◌<◌, ap, length, arith, get_or}
use Rattle.std.proofs.lemmas.List.{get_or_default}
use Rattle.perm_tree.specs.Lows.{lows_of}
use Rattle.perm_tree.specs.Places.{Listing}
use Rattle.perm_tree.proofs.Lows.{length-lows_of}
use Rattle.perm_tree.proofs.program.Program.low.Goals as goal

pub index-requires : goal.index-requires
index-requires c = omega (arith, length-lows_of c.self.inside.exprs, ap length c.self.invariant.1, ap (λ (v : Listing). length v.exprs) c.self.view_is)

pub returns : goal.returns
returns c =
    let within : c.args.at < length c.self.inside.lows.items = omega (arith, length-lows_of c.self.inside.exprs, ap length c.self.invariant.1, ap (λ (v : Listing). length v.exprs) c.self.view_is) in
    c.index.ensures ∙ get_or_default c.self.inside.lows.items c.args.at c.index.result.now 0 within ∙ ap (λ l. get_or l c.args.at 0) c.self.invariant.1 ∙ ap (λ (v : Listing). get_or (lows_of v.exprs) c.args.at 0) c.self.view_is
