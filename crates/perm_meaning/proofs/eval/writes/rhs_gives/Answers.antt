use Rattle.std.proofs.Common.{◌∙◌, sym, ap}
use Rattle.std.specs.Prelude.{◌||◌}
use Rattle.perm_tree.specs.declared.ast.Rhs.{Rhs}
use Rattle.perm_tree.specs.CodeNames.{var_at}
use Rattle.perm_tree.specs.InBody.{setting_at}
use Rattle.perm_meaning.specs.Evaluator.Writes.{rhs_gives}
use Rattle.perm_meaning.proofs.eval.writes.rhs_gives.Goals as goal

pub returns-in-Recover : goal.returns-in-Recover
returns-in-Recover c =
    let k = setting_at c.args.unit.now c.args.«method» in
    (λ i. c.is_named.ensures i || c.is_named-in-Recover.ensures i) ∙ ap (λ (r : Rhs). rhs_gives k (var_at k c.args.y) r c.args.x) (sym c.in-Recover.is)
