use Rattle.std.proofs.Common.{◌≡◌, ◌∙◌, ap}
use Rattle.perm_tree.specs.Places.{Listing}
use Rattle.perm_meaning.proofs.Evaluator.PartEnds.{stmt-gone}
use Rattle.perm_meaning.proofs.Evaluator.Runs.StatementsThere.{stmts-there}
use Rattle.perm_meaning.proofs.eval.state.State.turn_at.Goals as goal

pub returns-in-None : goal.returns-in-None
returns-in-None c =
    let u = c.args.unit.now in
    let s = c.args.self.now in
    let stmts : c.stmts.result.now ≡ u.program.stmts = c.stmts.ensures.value ∙ ap (λ (p : Listing). p.stmts) c.program.ensures in
    let gone = stmt-gone c.stmts.result.now u.program.stmts c.args.at stmts c.in-None.ensures.lookup.0 in
    absurd (stmts-there u c.resolved.ensures.resolved.formed.placed s.own.«method» s.control.spot.part s.control.spot.at c.args.at c.requires.next gone)
