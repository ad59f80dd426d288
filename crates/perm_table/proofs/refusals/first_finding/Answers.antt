use Rattle.std.proofs.Common.{◌∙◌, ap, map}
use Rattle.perm_tree.specs.declared.ast.ClassDecl.{ClassDecl}
use Rattle.perm_table.specs.Findings.{told_if}
use Rattle.perm_table.proofs.FirstFindings.{all-findings}
use Rattle.perm_table.proofs.refusals.first_finding.Goals as goal

pub returns : goal.returns
returns c =
    let names = c.in_ok-names.ensures ∙ ap (map (λ (d : ClassDecl). d.name)) c.classes-2.ensures.value in
    all-findings c.args.program.now c.args.tables.now c.classes.result.now c.as_slice.result.now c.as_slice-2.result.now
    (told_if c.args.unknown) (told_if c.in_ok-variables.variables) (told_if c.in_ok-members.members) (told_if c.passing-past.result) c.doubles.result
    c.classes.ensures.value (c.as_slice.ensures.value ∙ names) (c.as_slice-2.ensures.value ∙ names)
    c.in_ok-variables.ensures c.in_ok-members.ensures c.passing-past.ensures c.doubles.ensures
