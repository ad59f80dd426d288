-- What is done by what the heap answers, and the values of arguments.
use Rattle.std.specs.Prelude.{◌≡◌, List, Option, Some, None}
use Rattle.perm_tree.specs.declared.errors.TrapKind.{TrapKind}
use Rattle.perm_meaning.specs.declared.eval.asks.Told.{Told}
use Rattle.perm_meaning.specs.declared.eval.asks.Told.TheVariants.{Made}
use Rattle.perm_meaning.specs.declared.eval.own.Own.{Own}
use Rattle.perm_meaning.specs.declared.eval.tell.Passed.{Passed}
use Rattle.perm_meaning.specs.declared.eval.tell.Passed.TheVariants as passed
use Rattle.perm_meaning.specs.declared.eval.values.Value.{Value}
use Rattle.perm_meaning.specs.Evaluator.Asks.{Way}
use Rattle.perm_meaning.specs.Effects.{Act, GoesOn, Halts, Sticks, halts}
use Rattle.perm_meaning.specs.Expressions.{tagged}
use Rattle.perm_meaning.specs.NamedHeap.{Held}
use Rattle.perm_meaning.specs.Names.{Mark, after_object}
use Rattle.perm_meaning.specs.Evaluator.NumberedValues.{all_by, Names}
use Rattle.perm_meaning.specs.Evaluator.SimpleStatements.{own_by}

-- the mark of a branch after it is told
abbrev pub mark_after : Told → Mark → Mark
mark_after (Made x) mark = after_object mark
mark_after t mark = mark

-- a branch goes on as it is now, or traps
abbrev pub act_by : Names → Mark → Own → Option TrapKind → Act Held Mark
act_by names mark o None = GoesOn (own_by names mark o)
act_by names mark o (Some k) = Halts k

-- a branch that traps is left as it was
abbrev pub IsLeft : Own → Own → Option TrapKind → Type 0
IsLeft old new None = Unit {0}
IsLeft old new (Some k) = new ≡ old

-- go on with the values of arguments, if each has one
abbrev pub passed_by : Names → List (Option Value) → Passed → (List Held → List Held → Way) → Way
passed_by names vs (passed.All found) go = go (all_by names found) (all_by names vs)
passed_by names vs (passed.Halts k) go = halts tagged k
passed_by names vs passed.Sticks go = Sticks
