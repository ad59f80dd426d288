use Rattle.std.proofs.Common.{◌≡◌, ◌∙◌, ◌<◌, ◌≤◌, length, None, Some, refl, sym, ap, arith}
use Rattle.perm_tree.specs.CodeOf.{code_of}
use Rattle.perm_check.proofs.FewMethods.{few-methods}
use Rattle.perm_check.proofs.UnitRefusals.{methods-counted, methods-done, methods-next}
use Rattle.perm_check.proofs.units.unit_refusal.Goals as goal

pub methods-init : goal.methods-init
methods-init c = refl

pub overflow_cast-method : goal.overflow_cast-method
overflow_cast-method c = omega (arith, few-methods c.args.unit.now c.resolved.ensures.resolved, ap length c.tables-method-end.ensures)

pub methods-preserved : goal.methods-preserved
methods-preserved c =
    let u = c.args.unit.now in
    let counted : length (code_of u).routines ≡ length u.tables = methods-counted u c.resolved.ensures.resolved in
    let within : c.methods.method < length (code_of u).routines = omega (arith, counted, ap length c.tables-method-end.ensures, c.methods-test.true) in
    c.methods.invariant ∙ methods-next (code_of u) (code_of u).routines c.methods.method None within (λ r here. sym c.in_default.is ∙ c.method_refusal.ensures r here)

pub returns-in-Some : goal.returns-in-Some
returns-in-Some c =
    let u = c.args.unit.now in
    let counted : length (code_of u).routines ≡ length u.tables = methods-counted u c.resolved.ensures.resolved in
    let within : c.methods.method < length (code_of u).routines = omega (arith, counted, ap length c.tables-method-end.ensures, c.methods-test.true) in
    sym (c.methods.invariant ∙ methods-next (code_of u) (code_of u).routines c.methods.method (Some c.in-Some.error) within (λ r here. sym c.in-Some.is ∙ c.method_refusal.ensures r here))

pub returns : goal.returns
returns c =
    let u = c.args.unit.now in
    let counted : length (code_of u).routines ≡ length u.tables = methods-counted u c.resolved.ensures.resolved in
    let past : length (code_of u).routines ≤ c.methods.method = omega (arith, counted, ap length c.tables-method-end.ensures, c.methods-test.false) in
    sym (c.methods.invariant ∙ methods-done (code_of u) (code_of u).routines c.methods.method past)
