use Rattle.std.proofs.Common.{arith}
use Rattle.perm_tree.proofs.SetWords.{contains_at}
use Rattle.perm_tree.proofs.var_set.VarSet.contains.Goals as goal
use Rattle.perm_tree.proofs.var_set.VarSet.contains.Goals.{in-0, in-1, in-2, in_default}

pub returns : goal.returns
returns c =
    elim c.match-x-div64.branch [
      | in-0 w ↦ contains_at c.args.self c.args.x _ 0 (omega arith) w.word-is
      | in-1 w ↦ contains_at c.args.self c.args.x _ 1 (omega arith) w.word-is
      | in-2 w ↦ contains_at c.args.self c.args.x _ 2 (omega arith) w.word-is
      | in_default w ↦ contains_at c.args.self c.args.x _ 3 (omega arith) w.word-is
    ]
