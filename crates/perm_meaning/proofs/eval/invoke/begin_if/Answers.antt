use Rattle.std.proofs.Common.{◌≡◌, ℕ, sym, subst}
use Rattle.std.specs.Prelude.{IfOk}
use Rattle.perm_tree.specs.Code.{Tie}
use Rattle.perm_tree.specs.CodeOf.{code_of}
use Rattle.perm_meaning.specs.declared.eval.tell.Passed.{Passed}
use Rattle.perm_meaning.specs.Evaluator.BegunCalls.{begun_if, IsCallOf}
use Rattle.perm_meaning.specs.NamedHeap.{Own}
use Rattle.perm_meaning.specs.Evaluator.NumberedValues.{given_by, Names}
use Rattle.perm_meaning.proofs.eval.invoke.begin_if.Goals as goal

pub returns-in-All : goal.returns-in-All
returns-in-All c =
    let u = code_of c.args.unit.now in
    subst
    (λ (p : Passed). IfOk c.begin_on.result (λ x. (names : Names) (l : Own) (tie : Tie) (y : ℕ) → l.depth ≡ c.args.depth → IsCallOf names u l x (begun_if u names tie y c.args.number c.args.into (given_by names c.args.this) p l)))
    (sym c.in-All.is) c.begin_on.ensures
