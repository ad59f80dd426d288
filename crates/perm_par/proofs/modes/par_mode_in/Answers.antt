use Rattle.std.proofs.Common.{◌∙◌, true, sym}
use Rattle.perm_rules.specs.AtPlace.{mode_unless}
use Rattle.perm_rules.specs.MethodBodies.{context_of}
use Rattle.perm_rules.specs.Pars.{mode_of}
use Rattle.perm_rules.specs.Parts.{ParHead}
use Rattle.perm_rules.specs.Refusals.{refusal}
use Rattle.perm_rules.proofs.Modes.{mode-by-writes}
use Rattle.perm_par.proofs.BlockStatements.{left-block, right-block}
use Rattle.perm_par.proofs.UsesWalks.{outer-mentioned, outer-written}
use Rattle.perm_par.proofs.modes.par_mode_in.Goals as goal

pub uses_of_block-left-requires : goal.uses_of_block-left-requires
uses_of_block-left-requires c =
    left-block c.args.body.now.unit c.args.body.now.number c.requires.at c.requires.stmt c.requires.stands c.args.left.now c.args.right.now c.requires.par

pub uses_of_block-right-requires : goal.uses_of_block-right-requires
uses_of_block-right-requires c =
    right-block c.args.body.now.unit c.args.body.now.number c.requires.at c.requires.stmt c.requires.stands c.args.left.now c.args.right.now c.requires.par

pub returns : goal.returns
returns c =
    let b = c.args.body.now in
    let k = context_of b in
    let l = c.uses_of_block-left.result in
    let r = c.uses_of_block-right.result in
    let u1 = outer-mentioned b l c.args.left.now c.kept.ensures c.uses_of_block-left.ensures in
    let u2 = outer-mentioned b r c.args.right.now c.kept.ensures c.uses_of_block-right.ensures in
    let a1 = outer-written b l c.args.left.now c.kept.ensures c.uses_of_block-left.ensures in
    let a2 = outer-written b r c.args.right.now c.kept.ensures c.uses_of_block-right.ensures in
    c.mode_by_uses.ensures
    ∙ (λ i. mode_unless (refusal k (ParHead (u1 i) (u2 i) (a1 i) (a2 i)) (λ x. true)) (mode_of k (u1 i) (u2 i)))
    ∙ sym (mode-by-writes b.unit b.number c.args.left.now c.args.right.now c.kept.ensures.resolved c.requires)
