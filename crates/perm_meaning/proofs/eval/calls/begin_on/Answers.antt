use Rattle.std.proofs.Common.{◌≡◌, ℕ, sym, subst}
use Rattle.std.specs.Prelude.{IfOk}
use Rattle.perm_tree.specs.Code.{Tie}
use Rattle.perm_tree.specs.CodeOf.{code_of}
use Rattle.perm_meaning.specs.declared.eval.values.Given.{Given}
use Rattle.perm_meaning.specs.Evaluator.BegunCalls.{begun_on, IsCallOf}
use Rattle.perm_meaning.specs.NamedHeap.{Own}
use Rattle.perm_meaning.specs.Evaluator.NumberedValues.{all_by, given_by, Names}
use Rattle.perm_meaning.proofs.eval.calls.begin_on.Goals as goal

pub returns-in-Value : goal.returns-in-Value
returns-in-Value c =
    let u = code_of c.args.unit.now in
    subst
    (λ (g : Given). IfOk c.begin_at.result (λ x. (names : Names) (l : Own) (tie : Tie) (y : ℕ) → l.depth ≡ c.args.depth → IsCallOf names u l x (begun_on u tie y c.args.number c.args.into (given_by names g) (all_by names c.args.found) l)))
    (sym c.in-Value.is) c.begin_at.ensures
