use Rattle.std.proofs.Common.{◌∙◌, ap}
use Rattle.perm_tree.specs.Lookup.{var_ty}
use Rattle.perm_tree.specs.Mentions.{known}
use Rattle.perm_tree.specs.StatementSteps.{action_tie}
use Rattle.perm_tree.specs.Vars.{Vars}
use Rattle.perm_rules.specs.MethodBodies.{setting_of}
use Rattle.perm_par.specs.Known.{count_of}
use Rattle.perm_par.proofs.StepCodes.{assignment-owns, declaration-owns}
use Rattle.perm_par.proofs.effects.own_of.Goals as goal

pub returns-in-Declare : goal.returns-in-Declare
returns-in-Declare c =
    let b = c.args.body.now in
    let k = setting_of b in
    let s = c.stmt-stmt.result.now in
    let action = c.action-action.result in
    c.declared.ensures (action_tie (var_ty k.vars) b.bodies action)
    ∙ ap (λ (G : Vars). known (count_of b) G) (declaration-owns k b.bodies c.args.at s c.in-Declare.field-0 c.in-Declare.field-1 action c.stmt-stmt.ensures c.in-Declare.is (c.action-action.ensures s c.stmt-stmt.ensures))

pub returns-in-Assign : goal.returns-in-Assign
returns-in-Assign c =
    let b = c.args.body.now in
    let k = setting_of b in
    let s = c.stmt-stmt.result.now in
    c.own_of_assignment.ensures
    ∙ ap (λ (G : Vars). known (count_of b) G)
    (assignment-owns k b.bodies c.args.at s c.in-Assign.ty c.in-Assign.field-1 c.in-Assign.field-2 c.action-action.result c.stmt-stmt.ensures c.in-Assign.is (c.action-action.ensures s c.stmt-stmt.ensures))
