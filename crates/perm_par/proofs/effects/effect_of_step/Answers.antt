use Rattle.std.proofs.Common.{sym, subst}
use Rattle.perm_tree.specs.BodyTerms.{instruction_of}
use Rattle.perm_tree.specs.Mentions.{assigns, consumes}
use Rattle.perm_tree.specs.Vars.{minus, plus}
use Rattle.perm_rules.specs.declared.Effect as held
use Rattle.perm_par.specs.BlockEffects.{HasEffect}
use Rattle.perm_par.specs.StepVariables.{declares}
use Rattle.perm_par.proofs.EffectWalks.{effect-held, step-effect}
use Rattle.perm_par.proofs.KnownVariables.{holds-minus, holds-plus}
use Rattle.perm_par.proofs.effects.effect_of_step.Goals as goal

pub returns : goal.returns
returns c tie =
    let b = c.args.body.now in
    let i = instruction_of b.bodies tie c.args.action in
    let r : held.Effect = record { lost = c.difference.result; made = c.assigned-made.result } in
    subst (HasEffect b r) (sym (step-effect i))
    (effect-held b r (record { lost = minus (plus (declares i) (consumes i)) (assigns i); made = assigns i })
    (holds-minus b c.difference.result c.union-lost.result c.assigned-made.result (plus (declares i) (consumes i)) (assigns i) c.difference.ensures
    (holds-plus b c.union-lost.result c.declared.result c.consumed.result (declares i) (consumes i) c.union-lost.ensures (c.declared.ensures tie) (c.consumed.ensures tie))
    (c.assigned-made.ensures tie))
    (c.assigned-made.ensures tie))
