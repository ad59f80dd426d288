use Rattle.std.proofs.Common.{◌∙◌, ◌+◌, ◌≤◌, [], length, refl, sym, ap, subst, arith}
use Rattle.perm_tree.specs.Code.{Code, Return}
use Rattle.perm_tree.specs.CodeNames.{argument}
use Rattle.perm_tree.specs.InBody.{IsBlockOf}
use Rattle.perm_tree.specs.VarSets.{member}
use Rattle.perm_tree.specs.Vars.{Vars, below, IsWithin}
use Rattle.perm_rules.specs.MethodBodies.{context_of, setting_of}
use Rattle.perm_flow.specs.Walk.{AreOfBody}
use Rattle.perm_flow.proofs.Statements.{block-inside, few-vars}
use Rattle.perm_flow.proofs.WholeMethods.{below-within, first-few, method-of-unit, none-hidden}
use Rattle.perm_flow.proofs.walk.methods.method_refusal.Goals as goal

pub first_variables-live-requires : goal.first_variables-live-requires
first_variables-live-requires c = omega (arith, few-vars c.new-body.result c.kept.ensures, first-few c.new-body.result c.kept.ensures c.method-declared.result.now c.method-declared.ensures, c.len.ensures.value)

pub flow_block-requires : goal.flow_block-requires
flow_block-requires c =
    let b = c.new-body.result in
    let d = c.method-declared.result.now in
    let few : c.len.result + 1 ≤ length (context_of b).vars = omega (arith, first-few b c.kept.ensures d c.method-declared.ensures, c.len.ensures.value) in
    record {
      inside = subst (AreOfBody b) (sym c.as_slice.ensures) (block-inside b c.kept.ensures d.body (IsBlockOf.Body d c.method-declared.ensures refl));
      known = subst (λ (M : Vars). IsWithin M (below (length (context_of b).vars))) (sym c.first_variables-live.ensures) (below-within (c.len.result + 1) (length (context_of b).vars) few);
    }

pub returns-in-Err : goal.returns-in-Err
returns-in-Err c r here =
    let b = c.new-body.result in
    let d = c.method-declared.result.now in
    let last : Code = Return d.span (argument (setting_of b) d.back) in
    sym
    (method-of-unit b c.kept.ensures d c.method-declared.ensures c.args.unit.now c.args.method r c.new-body.ensures.unit c.new-body.ensures.number here (member c.first_variables-live.result) c.as_slice.result.now
    (c.first_variables-live.ensures ∙ ap (λ n. below (n + 1)) c.len.ensures.value) c.as_slice.ensures
    ∙ c.in-Err.ensures [] (none-hidden b c.new.result c.new.ensures) last)

pub returns-in-Ok : goal.returns-in-Ok
returns-in-Ok c r here =
    let b = c.new-body.result in
    let d = c.method-declared.result.now in
    let last : Code = Return d.span (argument (setting_of b) d.back) in
    c.return_refusal.ensures d c.method-declared.ensures
    ∙ sym
    (method-of-unit b c.kept.ensures d c.method-declared.ensures c.args.unit.now c.args.method r c.new-body.ensures.unit c.new-body.ensures.number here (member c.first_variables-live.result) c.as_slice.result.now
    (c.first_variables-live.ensures ∙ ap (λ n. below (n + 1)) c.len.ensures.value) c.as_slice.ensures
    ∙ (c.in-Ok.ensures [] (none-hidden b c.new.result c.new.ensures) last).0)
