use Rattle.std.proofs.Common.{refl}
use Rattle.std.specs.Prelude.{flat_map}
use Rattle.perm_tree.specs.Names.{in_class}
use Rattle.perm_table.specs.Findings.{told_if}
use Rattle.perm_table.proofs.FirstFindings.{one-more}
use Rattle.perm_table.proofs.refusals.in_classes.Goals as goal

pub classes-preserved : goal.classes-preserved
classes-preserved c =
    one-more (λ d. d.now) (flat_map in_class) in_class c.classes.yielded c.in-Some.class (told_if c.args.rest) (told_if c.classes.first) (told_if c.in_ok-first.first) (λ a bs. refl) c.classes.invariant c.in_ok-first.ensures
