use Rattle.std.proofs.Common.{refl}
use Rattle.std.specs.Prelude.{flat_map}
use Rattle.perm_tree.specs.Names.{in_method}
use Rattle.perm_table.specs.Findings.{told_if}
use Rattle.perm_table.proofs.FirstFindings.{one-more}
use Rattle.perm_table.proofs.refusals.in_methods.Goals as goal

pub tables-preserved : goal.tables-preserved
tables-preserved c =
    one-more (λ t. t.now) (flat_map in_method) in_method c.tables.yielded c.in-Some.table (told_if c.args.rest) (told_if c.tables.first) (told_if c.in_ok-first.first) (λ a bs. refl) c.tables.invariant c.in_ok-first.ensures
