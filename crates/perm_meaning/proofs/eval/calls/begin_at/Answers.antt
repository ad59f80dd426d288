use Rattle.std.proofs.Common.{◌≡◌, ℕ, Some, sym, subst}
use Rattle.std.proofs.lemmas.Result.{IfOk-weaker}
use Rattle.perm_tree.specs.Code.{Tie}
use Rattle.perm_tree.specs.CodeOf.{code_of}
use Rattle.perm_meaning.specs.declared.eval.values.Given.TheVariants as given
use Rattle.perm_meaning.specs.declared.eval.values.Value.{Value}
use Rattle.perm_meaning.specs.Evaluator.BegunCalls.{begun, begun_on, IsCallOf}
use Rattle.perm_meaning.specs.NamedHeap.{Own}
use Rattle.perm_meaning.specs.Evaluator.NumberedValues.{all_by, given_by, value_by, Names}
use Rattle.perm_meaning.proofs.eval.calls.begin_at.Goals as goal

pub returns-in-Reference : goal.returns-in-Reference
returns-in-Reference c =
    let u = code_of c.args.unit.now in
    IfOk-weaker c.begin.result
    (λ x. (names : Names) (l : Own) (tie : Tie) (y : ℕ) → l.depth ≡ c.args.depth → IsCallOf names u l x (begun u tie y c.args.number c.args.into (Some (value_by names c.args.this)) (all_by names c.args.found) l))
    (λ x. (names : Names) (l : Own) (tie : Tie) (y : ℕ) → l.depth ≡ c.args.depth → IsCallOf names u l x (begun_on u tie y c.args.number c.args.into (given_by names (given.Value c.args.this)) (all_by names c.args.found) l))
    (λ x h names l tie y e.
    subst (λ (v : Value). IsCallOf names u l x (begun_on u tie y c.args.number c.args.into (given_by names (given.Value v)) (all_by names c.args.found) l)) (sym c.in-Reference.is)
    (subst (λ (v : Value). IsCallOf names u l x (begun u tie y c.args.number c.args.into (Some (value_by names v)) (all_by names c.args.found) l)) c.in-Reference.is (h names l tie y e)))
    c.begin.ensures
