use Rattle.std.proofs.Common.{◌≡◌, drop}
use Rattle.std.specs.Prelude.{map}
use Rattle.perm_tree.specs.CodeNames.{argument}
use Rattle.perm_tree.specs.InBody.{setting_at}
use Rattle.perm_tree.specs.Mentions.{arguments_consume}
use Rattle.perm_meaning.proofs.eval.writes.arguments_consume.Given as goal

abbrev pub invariant-args-2 : goal.invariant-args-2
invariant-args-2 l = let f = argument (setting_at l.unit l.«method») in arguments_consume (map f l.args) l.x ≡ arguments_consume (map f (drop l.a-index l.args)) l.x
