use Rattle.std.proofs.Common.{List, [], ◌∷◌, ◌++◌, refl, ap, ◌∙◌}
use Rattle.perm_step.specs.declared.alone.Waiting.{Waiting}
use Rattle.perm_step.specs.declared.alone.Waiting.TheVariants.{ForLeft}
use Rattle.perm_step.proofs.alone.Run.start_par.Goals as goal

pub returns : goal.returns
returns c = record {
  at = record { step = c.step-step.result.now; here = c.step-step.ensures; first = c.in-Par.first; second = c.in-Par.second; place = c.in-Par.field-2; par = c.in-Par.is };
  parent = c.in_ok-parent.field-0.parent;
  right = c.in_ok-parent.field-0.right;
  parts = c.in_ok-parent.ensures.parts;
  runs = c.requires.runs;
  waits = c.push_reserved.ensures.items ∙ ap (λ (xs : List Waiting). xs ++ ForLeft c.in_ok-parent.field-0.parent c.in_ok-parent.field-0.right ∷ []) c.reserve.ensures.items;
  heap = refl;
}
