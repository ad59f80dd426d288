use Rattle.std.proofs.Common.{◌∙◌, ◌++◌}
use Rattle.perm_tree.specs.Names.{field_names, method_names}
use Rattle.perm_table.specs.Findings.{told_if}
use Rattle.perm_table.proofs.FirstFindings.{class-findings}
use Rattle.perm_table.proofs.refusals.in_class.Goals as goal

pub returns : goal.returns
returns c =
    let fields = c.in_ok-members.ensures in
    let methods = c.in_ok-methods.ensures in
    let added = c.as_slice-3.ensures.value ∙ methods in
    class-findings (field_names c.args.class.now) (method_names c.args.class.now) c.as_slice-2.result.now c.as_slice.result.now c.as_slice-4.result.now
    (told_if c.args.rest) (told_if c.passing-past_methods.result) (told_if c.passing-past_fields.result) c.doubles.result
    (c.as_slice-2.ensures.value ∙ fields) (c.as_slice.ensures.value ∙ methods) (c.as_slice-4.ensures.value ∙ c.in_ok-extend_from_slice.ensures.items ∙ (λ j. fields j ++ added j))
    c.passing-past_methods.ensures c.passing-past_fields.ensures c.doubles.ensures
