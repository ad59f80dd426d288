use Rattle.std.proofs.Common.{◌≡◌, ◌∙◌, List, ap, sym, subst, map}
use Rattle.std.specs.Prelude.{◌||◌}
use Rattle.perm_tree.specs.declared.bodies.Action.{Action}
use Rattle.perm_tree.specs.declared.bodies.Argument.{Argument}
use Rattle.perm_tree.specs.BodyTerms.{argument_of, instruction_of, stretch}
use Rattle.perm_tree.specs.Mentions.{argument_consumes, arguments_consume, just_if, just_option}
use Rattle.perm_tree.specs.Vars.{just, plus}
use Rattle.perm_tree.specs.VarSets.{member}
use Rattle.perm_table.specs.Emission.{writes_of}
use Rattle.perm_table.proofs.Emission.Sets.{holds-none, or-false}
use Rattle.perm_table.proofs.numbering.writes.written_by.Goals as goal

pub returns-in-Assign : goal.returns-in-Assign
returns-in-Assign c tie x within =
    let all = c.args.bodies.now.operations in
    subst (λ (a : Action). member c.with.result x ≡ writes_of (instruction_of c.args.bodies.now tie a) x) (sym c.in-Assign.is)
    (c.with.ensures x within ∙ ap (λ b. b || just c.in-Assign.x x) (c.with_consumed.ensures all x within ∙ sym (holds-none c.new.result (argument_consumes (argument_of all c.in-Assign.argument)) c.new.ensures x)))

pub returns-in-StoreField : goal.returns-in-StoreField
returns-in-StoreField c tie x within =
    let all = c.args.bodies.now.operations in
    let consumed = argument_consumes (argument_of all c.in-StoreField.argument) in
    subst (λ (a : Action). member c.with_consumed-in-StoreField.result x ≡ writes_of (instruction_of c.args.bodies.now tie a) x) (sym c.in-StoreField.is)
    (c.with_consumed-in-StoreField.ensures all x within ∙ sym (holds-none c.new-in-StoreField.result consumed c.new-in-StoreField.ensures x) ∙ sym (or-false (consumed x)))

pub returns-in-Invoke : goal.returns-in-Invoke
returns-in-Invoke c tie x within =
    let all = c.args.bodies.now.operations in
    let v = c.in-Invoke.call in
    subst (λ (a : Action). member c.written_by_call.result x ≡ writes_of (instruction_of c.args.bodies.now tie a) x) (sym c.in-Invoke.is)
    (subst
    (λ (l : List Argument). member c.written_by_call.result x ≡ plus (plus (just_if v.consumed v.receiver) (arguments_consume (map (argument_of all) (stretch l v.first v.count)))) (just_option v.into) x)
    c.as_slice.ensures
    (c.written_by_call.ensures all x within))
