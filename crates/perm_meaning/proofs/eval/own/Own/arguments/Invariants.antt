use Rattle.std.proofs.Common.{◌≡◌, List, [], drop}
use Rattle.std.specs.Prelude.{map}
use Rattle.perm_tree.specs.CodeNames.{argument}
use Rattle.perm_tree.specs.InBody.{setting_at}
use Rattle.perm_meaning.specs.Evaluator.Asks.{Way}
use Rattle.perm_meaning.specs.Effects.{on_arguments}
use Rattle.perm_meaning.specs.Expressions.{tagged}
use Rattle.perm_meaning.specs.NamedHeap.{Held}
use Rattle.perm_meaning.specs.Evaluator.NumberedValues.{all_by, Names}
use Rattle.perm_meaning.proofs.eval.own.Own.arguments.Given as goal

abbrev pub invariant-args-2 : goal.invariant-args-2
invariant-args-2 l =
    (l.self ≡ record l.fn.self { vars = l.self.vars })
    × ((names : Names) (go : List Held → List Held → Way) → on_arguments tagged (map (argument (setting_at l.unit l.fn.self.«method»)) l.args) [] (all_by names l.fn.self.vars) go
    ≡ on_arguments tagged (map (argument (setting_at l.unit l.fn.self.«method»)) (drop l.arg-index l.args)) (all_by names l.found) (all_by names l.self.vars) go)
