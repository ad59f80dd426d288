use Rattle.std.proofs.Common.{subst}
use Rattle.perm_meaning.specs.declared.eval.ends.Ended.{Ended}
use Rattle.perm_meaning.specs.Evaluator.PartEnds.{give_fate, return_fate, LosesGiven}
use Rattle.perm_meaning.proofs.Evaluator.Runs.PartEnds.{closes-next, gives-next, returns-next, turn-next, EndsWith}
use Rattle.perm_meaning.proofs.eval.state.State.end_part.Goals as goal

pub returns-in-Closes : goal.returns-in-Closes
returns-in-Closes c =
    let u = c.args.unit.now in
    let s = c.args.self.now in
    let o = c.end.new.self in
    closes-next u s c.requires.ends o (subst (λ (e : Ended). EndsWith u s c.requires.ends o e) c.in-Closes.is c.in_ok-end.ensures.ends) (subst (λ (e : Ended). LosesGiven s.own o e) c.in-Closes.is c.in_ok-end.ensures.vars)

pub returns-in-Gives : goal.returns-in-Gives
returns-in-Gives c =
    let u = c.args.unit.now in
    let s = c.args.self.now in
    let o = c.end.new.self in
    let g = c.in-Gives.given in
    turn-next u s c.requires.ends o c.on_give.new.self c.on_give.result (give_fate s.turns g c.in-Gives.x c.in-Gives.at) c.on_give.ensures.state c.on_give.ensures.fate
    (gives-next u s c.requires.ends g c.in-Gives.x c.in-Gives.at o (subst (λ (e : Ended). EndsWith u s c.requires.ends o e) c.in-Gives.is c.in_ok-end.ensures.ends)
    (subst (λ (e : Ended). LosesGiven s.own o e) c.in-Gives.is c.in_ok-end.ensures.vars) c.in_ok-end.ensures.same)

pub returns-in-Returns : goal.returns-in-Returns
returns-in-Returns c =
    let u = c.args.unit.now in
    let s = c.args.self.now in
    let o = c.end.new.self in
    let g = c.in-Returns.given in
    turn-next u s c.requires.ends o c.on_return.new.self c.on_return.result (return_fate s.turns g c.in-Returns.at) c.on_return.ensures.state c.on_return.ensures.fate
    (returns-next u s c.requires.ends g c.in-Returns.at o (subst (λ (e : Ended). EndsWith u s c.requires.ends o e) c.in-Returns.is c.in_ok-end.ensures.ends)
    (subst (λ (e : Ended). LosesGiven s.own o e) c.in-Returns.is c.in_ok-end.ensures.vars))
