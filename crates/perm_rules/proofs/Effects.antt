-- The law `effects`: a code goes to what its effect gives, loses nothing that it makes, and goes from each larger live set too; the effect of a block changes the variables of its method as the whole one does.
use Rattle.std.proofs.Common.{◌≡◌, Bool, true, false, cond, length, refl, sym, subst}
use Rattle.std.specs.Prelude.{not, ◌&&◌, ◌||◌}
use Rattle.perm_tree.specs.Vars.{Vars, below, IsWithin}
use Rattle.perm_rules.specs.Effects.{changed, effect}
use Rattle.perm_tree.specs.InBody.{vars_at}
use Rattle.perm_rules.specs.AtPlace.{whole_effect_of}
use Rattle.perm_rules.specs.Laws.{GoesByEffect, LosesOrMakes, GoesFromMore, ChangesKnown}
use Rattle.perm_rules.proofs.SetLaws.{changed-within}
use Rattle.perm_rules.proofs.Fine.{fine-clear, fine-monotone}
use Rattle.perm_rules.proofs.Agree.{agree}

pub goes-by-effect : GoesByEffect
goes-by-effect c a G H g = (agree c a G).same H g

pub loses-or-makes : LosesOrMakes
loses-or-makes c a G H g = fine-clear c a G ((agree c a G).fine H g)

pub goes-from-more : GoesFromMore
goes-from-more c a G H K w g = (
  changed (effect a) K,
  (agree c a K).to (fine-monotone c a G K w ((agree c a G).fine H g)),
  subst (λ (M : Vars). IsWithin M (changed (effect a) K)) (sym (goes-by-effect c a G H g)) (changed-within (effect a) G K w),
)

pub changes-known : ChangesKnown
changes-known u m b G x = go (below (length (vars_at u m)) x) (G x) ((whole_effect_of u m b).lost x) ((whole_effect_of u m b).made x)
  where
    go : (is live lost made : Bool) → ((live && not (is && lost)) || (is && made)) ≡ cond is ((live && not lost) || made) live
    go true live lost made = refl
    go false true lost made = refl
    go false false lost made = refl
