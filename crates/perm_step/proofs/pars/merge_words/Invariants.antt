use Rattle.std.proofs.Common.{◌≡◌, ◌++◌, drop, take}
use Rattle.perm_tree.specs.VarSets.{member}
use Rattle.perm_meaning.specs.Custody.{merged}
use Rattle.perm_step.proofs.pars.merge_words.Given as goal

abbrev pub invariant-loop-x : goal.invariant-loop-x
invariant-loop-x l = l.words ≡ take l.x (merged (member l.sides.left) (member l.sides.right) l.fn.words l.left l.right) ++ drop l.x l.fn.words
