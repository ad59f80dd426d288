use Rattle.perm_table.specs.Findings.{told_if}
use Rattle.perm_table.specs.Numbers.{knows_in}
use Rattle.perm_table.proofs.FirstFindings.{unknown-findings}
use Rattle.perm_table.proofs.refusals.first_unknown.Goals as goal

pub returns : goal.returns
returns c =
    unknown-findings (knows_in c.args.numbers.now) c.args.program.now c.stmts.result.now c.mentions.result.now (told_if c.in_stmts-made.result) (told_if c.in_mentions.result)
    c.stmts.ensures.value c.mentions.ensures c.in_stmts-made.ensures c.in_mentions.ensures
