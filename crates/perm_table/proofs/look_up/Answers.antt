use Rattle.perm_table.specs.Findings.{told_if}
use Rattle.perm_table.proofs.Renaming.{answered, places-of}
use Rattle.perm_table.proofs.look_up.Goals as goal

pub number_classes-requires : goal.number_classes-requires
number_classes-requires c = places-of c.args.program c.in_ok-numbers.numbers c.classes.result.now c.classes.ensures.value c.in_ok-numbers.ensures.places

pub returns-clause-refusal : goal.returns-clause-refusal
returns-clause-refusal c =
    let q = c.in_ok-numbered in
    let numbers = c.in_ok-numbers in
    answered c.args.program q.numbered c.in_ok-tables.tables c.as_slice.result.now numbers.numbers c.classes.result.now (told_if c.first_unknown-unknown.result) c.in_ok-refusal.refusal
    q.ensures.program c.in_ok-tables.ensures c.as_slice.ensures c.classes.ensures.value numbers.ensures.places numbers.ensures.count c.first_unknown-unknown.ensures c.in_ok-refusal.ensures
