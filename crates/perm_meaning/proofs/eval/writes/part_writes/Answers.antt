use Rattle.std.proofs.Common.{◌≡◌, ◌∙◌, List, ℕ, subst}
use Rattle.perm_tree.specs.InBody.{setting_at}
use Rattle.perm_meaning.specs.Evaluator.Writes.{stmts_write}
use Rattle.perm_meaning.proofs.Evaluator.Writes.{block-writes}
use Rattle.perm_meaning.proofs.eval.writes.part_writes.Goals as goal

pub returns : goal.returns
returns c =
    let k = setting_at c.args.unit.now c.args.«method» in
    subst (λ (is : List ℕ). c.from_block.result ≡ stmts_write k is c.args.x) c.stmts_of-stmts.ensures
    (c.from_block.ensures ∙ block-writes k c.stmts_of-stmts.result.now c.args.x c.some_writes-inner.result c.some_writes-inner.ensures)
