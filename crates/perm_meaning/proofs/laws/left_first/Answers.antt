use Rattle.perm_meaning.proofs.LeftFirst.WholeRun.{ends-as-meaning, fills-as-meaning}
use Rattle.perm_meaning.proofs.laws.left_first.Goals as goal

pub returns : goal.returns
returns c = record { ends = ends-as-meaning; fills = fills-as-meaning }
