use Rattle.std.proofs.Common.{◌≡◌, subst, sym}
use Rattle.std.specs.Prelude.{◌||◌, not}
use Rattle.perm_tree.specs.declared.bodies.Action.{Action}
use Rattle.perm_tree.specs.BodyTerms.{instruction_of}
use Rattle.perm_tree.specs.VarSets.{member}
use Rattle.perm_rules.specs.Liveness.{instruction_gone}
use Rattle.perm_flow.proofs.kinds.gone.action_gone.Goals as goal

pub returns-in-StoreItem : goal.returns-in-StoreItem
returns-in-StoreItem c tie =
    subst
    (λ (a : Action). (c.answer-in-StoreItem.result || (c.answer-in-StoreItem-2.result || not c.holds-in-StoreItem.result)) ≡ instruction_gone (instruction_of c.args.body.now.bodies tie a) (member c.args.live))
    (sym c.in-StoreItem.is)
    (λ k. c.answer-in-StoreItem.ensures k || (c.answer-in-StoreItem-2.ensures k || not (c.holds-in-StoreItem.ensures k)))
