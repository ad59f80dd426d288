use Rattle.std.proofs.Common.{subst}
use Rattle.perm_tree.specs.Vars.{Vars}
use Rattle.perm_par.specs.Known.{HoldsKnown}
use Rattle.perm_par.proofs.StepCodes.{other-mentions}
use Rattle.perm_par.proofs.actions.mentioned.Goals as goal

pub returns-in_default : goal.returns-in_default
returns-in_default c tie =
    let o = c.in_default in
    subst (λ (G : Vars). HoldsKnown c.args.body.now c.declared.result G)
    (other-mentions c.args.body.now.bodies tie c.args.action o.not-Assign o.not-LoadField o.not-LoadLength o.not-LoadItem o.not-TakeField o.not-NewObject o.not-NewArray o.not-StoreField o.not-StoreItem o.not-Invoke o.not-Print)
    (c.declared.ensures tie)
