use Rattle.std.proofs.Common.{eq-eqb, eqb-true, arith}
use Rattle.std.proofs.lemmas.Bool.{false≢true}
use Rattle.perm_tree.proofs.SetWords.{same_fields, fields_same}
use Rattle.perm_tree.proofs.var_set.VarSet.same.Goals as goal

pub returns-then-self-other : goal.returns-then-self-other
returns-then-self-other c = (
  λ f. absurd (false≢true f),
  λ e. absurd (c.if-self-other.true (same_fields c.args.self c.args.other (omega arith) (omega arith) e).0),
)

pub returns-then-self-other-2 : goal.returns-then-self-other-2
returns-then-self-other-2 c = (
  λ f. absurd (false≢true f),
  λ e. absurd (c.if-self-other-2.true (same_fields c.args.self c.args.other (omega arith) (omega arith) e).1),
)

pub returns-then-self-other-3 : goal.returns-then-self-other-3
returns-then-self-other-3 c = (
  λ f. absurd (false≢true f),
  λ e. absurd (c.if-self-other-3.true (same_fields c.args.self c.args.other (omega arith) (omega arith) e).2),
)

pub returns : goal.returns
returns c = (
  λ t. fields_same c.args.self c.args.other (omega arith) (omega arith) (omega arith) (eqb-true _ _ t),
  λ e. eq-eqb _ _ (same_fields c.args.self c.args.other (omega arith) (omega arith) e).3,
)
