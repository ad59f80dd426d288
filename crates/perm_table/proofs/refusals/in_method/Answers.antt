use Rattle.std.proofs.Common.{◌∙◌}
use Rattle.perm_tree.specs.Names.{var_names}
use Rattle.perm_table.specs.Findings.{told_if}
use Rattle.perm_table.proofs.FirstFindings.{method-findings}
use Rattle.perm_table.proofs.refusals.in_method.Goals as goal

pub returns : goal.returns
returns c =
    method-findings (var_names c.args.table.now) c.as_slice.result.now c.as_slice-2.result.now (told_if c.args.rest) (told_if c.passing-past.result) c.doubles.result
    (c.as_slice.ensures.value ∙ c.in_ok-names.ensures) (c.as_slice-2.ensures.value ∙ c.in_ok-names.ensures) c.passing-past.ensures c.doubles.ensures
