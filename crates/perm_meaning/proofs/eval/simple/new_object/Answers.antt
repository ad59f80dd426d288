use Rattle.std.proofs.Common.{◌∙◌, sym, ap}
use Rattle.std.specs.Prelude.{slice_get}
use Rattle.perm_tree.specs.CodeOf.{code_of}
use Rattle.perm_tree.specs.Lookup.{class_place}
use Rattle.perm_meaning.specs.Evaluator.Asks.{made_of, count_of}
use Rattle.perm_meaning.specs.Evaluator.SimpleStatements.{own_by}
use Rattle.perm_meaning.proofs.Evaluator.Asks.{makes-object}
use Rattle.perm_meaning.proofs.eval.simple.new_object.Goals as goal

pub returns : goal.returns
returns c own names mark =
    makes-object (code_of c.args.unit.now) names mark own c.args.x (class_place c.args.unit.now.program c.args.name)
    ∙ ap (λ k. made_of (own_by names mark own) c.args.x k (count_of (slice_get (code_of c.args.unit.now).classes k))) (sym c.class_place-class.ensures)
    ∙ ap (made_of (own_by names mark own) c.args.x c.class_place-class.result) (sym c.fields.ensures)
    ∙ c.new_object.ensures (code_of c.args.unit.now) names (own_by names mark own) c.fields.ensures
