use Rattle.std.proofs.Common.{rules}
use Rattle.perm_tree.specs.Printer.Parts.{onto}
use Rattle.perm_tree.proofs.print.stack.push.Goals as goal

pub returns : goal.returns
unfolding onto
returns c = search rules
