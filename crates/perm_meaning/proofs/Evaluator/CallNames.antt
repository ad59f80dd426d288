-- What a call hands on names no other objects than its caller did.
use Rattle.std.proofs.Common.{◌≡◌, ◌∙◌, List, [], None, sym, ap}
use Rattle.perm_tree.specs.Code.{Instruction, UnitCode}
use Rattle.perm_meaning.specs.declared.eval.calls.Call.{Call}
use Rattle.perm_meaning.specs.declared.eval.calls.Callee.TheVariants as callees
use Rattle.perm_meaning.specs.declared.eval.own.Own.{Own}
use Rattle.perm_meaning.specs.Evaluator.Asks.{Way}
use Rattle.perm_meaning.specs.Effects.{Act, GoesOn, Calls, Halts, Does, Sticks, effect, ticks}
use Rattle.perm_meaning.specs.Expressions.{tagged}
use Rattle.perm_meaning.specs.Evaluator.CallStatements.{Invokes}
use Rattle.perm_meaning.specs.NamedHeap.{Held, marks}
use Rattle.perm_meaning.specs.Names.{Mark}
use Rattle.perm_meaning.specs.Evaluator.NumberedValues.{all_by, Names}
use Rattle.perm_meaning.specs.Evaluator.SimpleStatements.{own_by}

-- the first variables of the method that an act calls
abbrev act-first : Act Held Mark → List Held
act-first (Calls c l) = c.first
act-first (GoesOn l) = []
act-first (Halts k) = []

-- the variables of its caller
abbrev act-caller : Act Held Mark → List Held
act-caller (Calls c l) = l.vars
act-caller (GoesOn l) = []
act-caller (Halts k) = []

-- the same of a turn
abbrev way-first : Way → List Held
way-first (Does o told) = act-first (told None)
way-first Sticks = []

-- the same of the caller
abbrev way-caller : Way → List Held
way-caller (Does o told) = act-caller (told None)
way-caller Sticks = []

-- what two namings say alike of the variables before a call begins, they say alike of the caller's and the method's then
pub call-agrees : (u : UnitCode) (i : Instruction) (old new : Own) (c : Call) (mark : Mark) → Invokes u i old new (callees.Begins c) → (names other : Names) → all_by names old.vars ≡ all_by other old.vars
    → (all_by names new.vars ≡ all_by other new.vars) × (all_by names c.vars ≡ all_by other c.vars)
call-agrees u i old new c mark is names other e =
    let b = is names mark in
    let d = is other mark in
    let same : ticks tagged (Calls b.calling (own_by names mark new)) ≡ ticks tagged (Calls d.calling (own_by other mark new)) =
    sym b.turn ∙ ap (λ (vs : List Held). effect tagged u marks i (record (own_by names mark old) { vars = vs })) e ∙ d.turn in
    (ap way-caller same, sym b.first ∙ ap way-first same ∙ d.first)
