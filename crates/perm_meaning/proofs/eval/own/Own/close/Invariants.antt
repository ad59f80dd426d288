use Rattle.std.proofs.Common.{◌≡◌, drop}
use Rattle.perm_tree.specs.CodeNames.{own_vars}
use Rattle.perm_tree.specs.InBody.{setting_at}
use Rattle.perm_meaning.specs.Evaluator.Parts.{own_in}
use Rattle.perm_meaning.specs.Expressions.{clear_all, tagged}
use Rattle.perm_meaning.specs.Evaluator.NumberedValues.{all_by, Names}
use Rattle.perm_meaning.proofs.eval.own.Own.close.Given as goal

abbrev pub invariant-stmts : goal.invariant-stmts
invariant-stmts l =
    (l.self ≡ record l.fn.self { vars = l.self.vars })
    × ((names : Names) → clear_all tagged (all_by names l.self.vars) (own_vars (setting_at l.unit l.fn.self.«method») (drop l.at-index l.stmts))
    ≡ clear_all tagged (all_by names l.fn.self.vars) (own_in l.unit l.fn.self.«method» l.fn.part))
