use Rattle.std.proofs.Common.{◌∙◌}
use Rattle.perm_tree.specs.VarSets.{member}
use Rattle.perm_flow.proofs.Lowest.{lowest-refusal}
use Rattle.perm_flow.proofs.refusal.refusal_in.Goals as goal

pub returns : goal.returns
returns c hides holds = c.lowest.ensures ∙ lowest-refusal c.args.body.now c.args.part (member c.args.live) c.args.hidden hides holds
