use Rattle.perm_par.proofs.UsesWalks.{outer-written}
use Rattle.perm_par.proofs.mentions.sets_in.Goals as goal

pub returns : goal.returns
returns c = outer-written c.args.body.now c.uses_of_block.result c.args.block.now c.kept.ensures c.uses_of_block.ensures
