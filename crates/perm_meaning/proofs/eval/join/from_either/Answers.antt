use Rattle.std.proofs.Common.{◌∙◌, ◌≤◌, List, ◌++◌, Option, append-nil, sym, ap, subst}
use Rattle.perm_meaning.specs.declared.eval.values.Value.{Value}
use Rattle.perm_meaning.specs.Evaluator.Writes.{part_writes}
use Rattle.perm_meaning.proofs.Evaluator.Joins.{either-none}
use Rattle.perm_meaning.proofs.eval.join.from_either.Goals as goal

pub returns : goal.returns
returns c =
    let G = part_writes c.args.unit.now c.args.«method» c.args.part in
    let past = subst (λ n. n ≤ c.vars.x) c.min-count.ensures c.vars-test.false in
    sym (c.vars.invariant ∙ ap (λ (l : List (Option Value)). c.vars.all ++ l) (either-none G c.args.first.now c.args.other.now c.vars.x past) ∙ append-nil c.vars.all)
