use Rattle.perm_tree.specs.Vars.{just, minus}
use Rattle.perm_par.proofs.EffectWalks.{effect-held}
use Rattle.perm_par.proofs.KnownVariables.{holds-minus}
use Rattle.perm_par.proofs.effects.effect_of_give.Goals as goal

pub returns : goal.returns
returns c at =
    effect-held c.args.body.now (record { lost = c.difference.result; made = c.known-made.result }) (record { lost = minus (just c.args.gift.given) (just c.args.gift.taker); made = just c.args.gift.taker })
    (holds-minus c.args.body.now c.difference.result c.known.result c.known-made.result (just c.args.gift.given) (just c.args.gift.taker) c.difference.ensures c.known.ensures c.known-made.ensures) c.known-made.ensures
