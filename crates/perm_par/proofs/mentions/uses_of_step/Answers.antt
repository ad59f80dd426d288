use Rattle.perm_tree.specs.BodyTerms.{instruction_of}
use Rattle.perm_tree.specs.CodeOf.{code_of}
use Rattle.perm_tree.specs.Mentions.{assigns, consumes}
use Rattle.perm_par.specs.BlockSets.{instruction_uses}
use Rattle.perm_par.proofs.KnownVariables.{holds-plus}
use Rattle.perm_par.proofs.StepCodes.{call-in}
use Rattle.perm_par.proofs.UsesWalks.{uses-held}
use Rattle.perm_par.proofs.mentions.uses_of_step.Goals as goal

pub consumed-requires : goal.consumed-requires
consumed-requires c = call-in c.args.body.now.bodies (code_of c.args.body.now.unit) c.args.action c.requires

pub returns : goal.returns
returns c tie =
    let b = c.args.body.now in
    let i = instruction_of b.bodies tie c.args.action in
    uses-held b (record { mentioned = c.mentioned.result; written = c.union.result }) (instruction_uses i) (c.mentioned.ensures tie)
    (holds-plus b c.union.result c.consumed.result c.assigned.result (consumes i) (assigns i) c.union.ensures (c.consumed.ensures tie) (c.assigned.ensures tie))
