use Rattle.std.proofs.Common.{◌∙◌, ◌+◌, ◌++◌, List, append_assoc, sym, ap}
use Rattle.std.specs.Prelude.{ℤ}
use Rattle.perm_meaning.specs.declared.eval.frames.Final.{Final}
use Rattle.perm_meaning.specs.Custody.{merged, writes_l, writes_r}
use Rattle.perm_meaning.specs.Evaluator.Frames.{final_by}
use Rattle.perm_meaning.specs.Evaluator.Joins.{end_of_par}
use Rattle.perm_meaning.specs.Machine.{Fine}
use Rattle.perm_meaning.specs.Evaluator.NumberedValues.{all_by}
use Rattle.perm_meaning.specs.Evaluator.Writes.{par_at}
use Rattle.perm_meaning.proofs.eval.join.after_left.Goals as goal

pub returns : goal.returns
returns c names out p e =
    let pr = par_at c.args.unit.now c.args.parent.now.«method» c.args.at in
    let vs = all_by names c.args.parent.now.vars in
    let vars = c.in_ok-vars-in-Fine.ensures names
    ∙ (λ i. merged (writes_l pr) (writes_r pr) vs (all_by names (c.as_slice.ensures i)) (all_by names (c.as_slice-in-Fine.ensures i))) in
    let printed = c.in_ok-all-in-Fine.ensures ∙ ap (λ (l : List ℤ). l ++ c.in-Fine.own) e ∙ append_assoc out p c.in-Fine.own in
    (λ i. Fine (vars i) (c.args.turns + c.in-Fine.more) (printed i))
    ∙ ap (λ (y : Final). end_of_par pr vs out (Fine (all_by names c.args.left) c.args.turns p) (final_by names y)) (sym c.in-Fine.is)
