use Rattle.perm_table.proofs.Walking.{AllBelow-at}
use Rattle.perm_table.proofs.numbering.blocks.place.Goals as goal

pub returns-clause-below : goal.returns-clause-below
returns-clause-below c = AllBelow-at c.args.below c.args.stmts.now c.args.at c.requires.inside c.requires.at
