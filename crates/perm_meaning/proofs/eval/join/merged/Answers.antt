use Rattle.std.proofs.Common.{◌≡◌, ◌∙◌, List, Option, ap}
use Rattle.std.proofs.lemmas.Result.{IfOk-weaker}
use Rattle.perm_tree.specs.Vars.{Vars}
use Rattle.perm_meaning.specs.declared.eval.parts.Part.TheVariants as parts
use Rattle.perm_meaning.specs.declared.eval.values.Value.{Value}
use Rattle.perm_meaning.specs.Custody.{from_either, merged}
use Rattle.perm_meaning.specs.Evaluator.NumberedValues.{all_by, held_by, Names}
use Rattle.perm_meaning.specs.Evaluator.Writes.{part_writes}
use Rattle.perm_meaning.proofs.Evaluator.Joins.{map-merged}
use Rattle.perm_meaning.proofs.eval.join.merged.Goals as goal

pub returns : goal.returns
returns c =
    let m = c.args.parent.now.«method» in
    let a : Vars = part_writes c.args.unit.now m (parts.First c.args.at) in
    let b : Vars = part_writes c.args.unit.now m (parts.Second c.args.at) in
    let middle = c.as_slice-2.ensures ∙ c.in_ok-vars.ensures ∙ ap (λ (l : List (Option Value)). from_either a c.args.left.now l) c.as_slice.ensures in
    IfOk-weaker c.from_either-2.result
    (λ vs. vs ≡ from_either b c.args.right.now c.as_slice-2.result.now)
    (λ vs. (names : Names) → all_by names vs ≡ merged a b (all_by names c.args.parent.now.vars) (all_by names c.args.left.now) (all_by names c.args.right.now))
    (λ vs is names.
    ap (all_by names) (is ∙ ap (from_either b c.args.right.now) middle) ∙ map-merged (held_by names) a b c.args.parent.now.vars c.args.left.now c.args.right.now)
    c.from_either-2.ensures
