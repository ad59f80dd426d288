use Rattle.std.proofs.Common.{◌≡◌, ◌∙◌, ◌<◌, List, length, ap, subst, sym}
use Rattle.std.specs.Prelude.{get_or}
use Rattle.perm_tree.specs.declared.bodies.Action.TheVariants.{Declare, Return}
use Rattle.perm_tree.specs.declared.bodies.Entry.{Entry}
use Rattle.perm_tree.specs.declared.bodies.Step.{Step}
use Rattle.perm_rules.specs.MethodBodies.{Body, IsBody, ReturnsBack}
use Rattle.perm_rules.proofs.BodiesThere.{last-step, last-within, read-last, returns-back}
use Rattle.perm_rules.proofs.body.MethodBody.back.Goals as goal

-- the last step that is read is the method's `return`
read : (b : Body) (is : IsBody b) (entries : List Entry) (steps : List Step) → entries ≡ b.bodies.entries → steps ≡ b.bodies.steps
    → (get_or steps (get_or entries b.number (record { first = 0; last = 0; variables = 0 })).last (record { span = record { start = 0; end = 0 }; next = 0; action = Declare 0 })).action ≡ Return (last-step b is).handed
read b is entries steps same others =
    let none : Step = record { span = record { start = 0; end = 0 }; next = 0; action = Declare 0 } in
    let entry : Entry = record { first = 0; last = 0; variables = 0 } in
    ap (λ (es : List Entry). (get_or steps (get_or es b.number entry).last none).action) same
    ∙ (ap (λ (ss : List Step). (get_or ss (get_or b.bodies.entries b.number entry).last none).action) others ∙ read-last b is entry none)

pub bounds : goal.bounds
bounds c =
    let none : Entry = record { first = 0; last = 0; variables = 0 } in
    subst (λ (es : List Entry). (get_or es c.self.inside.number none).last < length c.as_slice-2.result.now) (sym c.as_slice.ensures)
    (subst (λ (ss : List Step). (get_or c.self.inside.bodies.now.entries c.self.inside.number none).last < length ss) (sym c.as_slice-2.ensures) (last-within _ c.self.invariant none))

pub returns-in-Return : goal.returns-in-Return
returns-in-Return c =
    subst (λ (b : Body). ReturnsBack b c.in-Return.value) c.self.view_is
    (returns-back _ c.self.invariant c.in-Return.value (cc (sym c.in-Return.is ∙ read _ c.self.invariant c.as_slice.result.now c.as_slice-2.result.now c.as_slice.ensures c.as_slice-2.ensures)))

pub returns-in_default : goal.returns-in_default
returns-in_default c = absurd (c.in_default.not-Return (last-step _ c.self.invariant).handed (read _ c.self.invariant c.as_slice.result.now c.as_slice-2.result.now c.as_slice.ensures c.as_slice-2.ensures))
