use Rattle.std.proofs.Common.{◌≡◌, ◌∙◌, ℕ, ◌+◌, ◌≤◌, Bool, List, ◌++◌, Option, length, sym, ap, subst, arith, length-append}
use Rattle.std.specs.Prelude.{map}
use Rattle.std.proofs.lemmas.List.{length-map}
use Rattle.perm_tree.specs.declared.ast.Arg.{Arg}
use Rattle.perm_tree.specs.declared.bodies.Action.TheVariants as actions
use Rattle.perm_tree.specs.declared.bodies.Argument.{Argument}
use Rattle.perm_tree.specs.declared.bodies.Bodies.{Bodies}
use Rattle.perm_tree.specs.BodyTerms.{argument_of, stretch, AreArgumentsIn}
use Rattle.perm_tree.specs.Code as code
use Rattle.perm_tree.specs.Code.{Do, Tie, UnitCode}
use Rattle.perm_tree.specs.CodeNames.{argument, call_tie, ty_at, var_at}
use Rattle.perm_tree.specs.CodeOf.{code_of}
use Rattle.perm_tree.specs.Lookup.{method_place}
use Rattle.perm_table.specs.Numbered.{does, TellsArguments, TellsCode}
use Rattle.perm_table.specs.Numbering.{setting_of}
use Rattle.perm_table.proofs.NumberingExpressions.{behind}
use Rattle.perm_table.proofs.numbering.simple.number_call.Goals as goal

module _ (old new : Bodies) (u : UnitCode) (vs : List code.Argument) (tells : TellsArguments old new vs) where
  -- the arguments that are added are those of the call
  there : stretch new.arguments (length old.arguments) (length vs) ≡ tells.added
  there =
      ap (λ l. stretch l (length old.arguments) (length vs)) tells.arguments
      ∙ ap (stretch (old.arguments ++ tells.added) (length old.arguments)) many
      ∙ behind old.arguments tells.added
    where
      many : length vs ≡ length tells.added
      many = omega (arith, ap (λ (l : List code.Argument). length l) tells.values, length-map tells.added (argument_of new.operations))

  within : length old.arguments + length vs ≤ length new.arguments
  within =
      omega (
        arith,
        ap (λ (l : List code.Argument). length l) tells.values,
        length-map tells.added (argument_of new.operations),
        ap (λ (l : List Argument). length l) tells.arguments,
        length-append old.arguments tells.added,
      )

  told : (into : Option ℕ) (tie : Tie) (consumed : Bool) (y m first count receiver routine : ℕ) → receiver ≡ y → routine ≡ m → first ≡ length old.arguments → count ≡ length vs
      → TellsCode old new u (does (code.Invoke into tie consumed y m vs)) (actions.Invoke (record { into = into; consumed = consumed; receiver = receiver; routine = routine; first = first; count = count }))
  told into tie consumed y m first count receiver routine is_receiver is_routine begins counts =
      let same : stretch new.arguments first count ≡ tells.added = (λ j. stretch new.arguments (begins j) (counts j)) ∙ there in
      let values : map (argument_of new.operations) (stretch new.arguments first count) ≡ vs = ap (map (argument_of new.operations)) same ∙ tells.values in
      record {
        grows = tells.grows;
        inside = (omega (arith, begins, counts, within), subst (AreArgumentsIn new.operations) (sym same) tells.inside);
        simple = tt;
        tie = tie;
        code = λ codes s rest j. Do s.span (code.Invoke into tie consumed (sym is_receiver j) (sym is_routine j) (sym values j)) rest;
      }

pub returns : goal.returns
returns c =
    let n = c.args.names.now in
    let k = setting_of n in
    let call = c.args.call.now in
    let vs = map (argument k) call.args in
    let begins : c.in_ok-first.first ≡ length c.args.bodies.now.arguments = c.in_ok-first.ensures ∙ c.len.ensures.value in
    let counts : c.in_ok-count.count ≡ length vs = c.in_ok-count.ensures ∙ c.len-2.ensures.value ∙ sym (length-map call.args (argument k)) in
    let tells = subst (λ (l : List Arg). TellsArguments c.args.bodies.now c.number_arguments.new.bodies (map (argument k) l)) c.as_slice.ensures c.in_ok-number_arguments.ensures in
    told c.args.bodies.now c.number_arguments.new.bodies (code_of n.tables) vs tells c.args.into (call_tie k call.on call.consumed vs) call.consumed (var_at k call.on) (method_place n.tables (ty_at k call.on) call.«method».name) c.in_ok-first.first
    c.in_ok-count.count c.in_ok-receiver.receiver c.in_ok-routine.routine c.in_ok-receiver.ensures c.in_ok-routine.ensures begins counts
