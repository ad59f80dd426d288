-- The answer to a text that is accepted tells its run.
use Rattle.std.proofs.Common.{ℕ, ℤ, List, [], sym, subst}
use Rattle.perm_tree.specs.CodeOf.{code_of}
use Rattle.perm_tree.specs.UnitTables.{Tables}
use Rattle.perm_check.specs.Checks.{IsAcceptedOf}
use Rattle.perm_meaning.specs.declared.End.{End}
use Rattle.perm_meaning.specs.declared.End.TheVariants as ends
use Rattle.perm_meaning.specs.declared.Outcome.{Outcome}
use Rattle.perm_meaning.specs.Outcome as meaning
use Rattle.perm_meaning.specs.Outcome.{Ran, RanFull, RanStuck, outcome}
use Rattle.perm_step.specs.Tells.{Tells}
use Rattle.perm_answer.specs.Answers.{IsTold}
use Rattle.perm_answer.specs.declared.Answer.{Answer}
use Rattle.perm_answer.specs.declared.Answer.TheVariants.{Usage, ReadFault, TooLong, Lex, Syntax, Table, Typing, Done, Trap, OutOfTurns, HeapFull}
use Rattle.perm_top.specs.Programs.{IsAnswerTo, IsRunOf, TellsEnd, TellsRun, default_heap, default_turns}

-- ---------- what a run is told by ----------
-- the answer is one that tells a run
abbrev IsOfRun : Answer → Type 0
IsOfRun (Done n r) = Unit {0}
IsOfRun (Trap k p r) = Unit {0}
IsOfRun (OutOfTurns r) = Unit {0}
IsOfRun HeapFull = Unit {0}
IsOfRun _ = ⊥

told_by_end : (text : List ℕ) (e : End) (printed : List ℤ) (a : Answer) → TellsEnd text e printed a → IsOfRun a
told_by_end text (ends.Done n) printed a is = subst IsOfRun (sym is) tt
told_by_end text (ends.Trap k span) printed a (place, at, is) = subst IsOfRun (sym is) tt
told_by_end text ends.OutOfTurns printed a is = subst IsOfRun (sym is) tt
told_by_end text ends.HeapFull printed a is = subst IsOfRun (sym is) tt

told_by_run : (text : List ℕ) (o : meaning.Outcome) (a : Answer) → TellsRun text o a → IsOfRun a
told_by_run text (Ran r) a tells = told_by_end text r.ending r.printed a tells
told_by_run text RanFull a is = subst IsOfRun (sym is) tt
told_by_run text RanStuck a none = absurd none

-- ---------- answers ----------
module _ (text : List ℕ) (u : Tables) where
  -- what tells the run of the text's unit is an answer to the text
  pub run_answers : (a : Answer) → IsAcceptedOf text u → IsRunOf text u a → IsAnswerTo text a
  run_answers a accepted run = go a (told_by_run text (outcome (code_of u) [] default_turns default_heap) a run) run
    where
      go : (a : Answer) → IsOfRun a → IsRunOf text u a → IsAnswerTo text a
      go Usage none run = absurd none
      go (ReadFault w) none run = absurd none
      go (TooLong w) none run = absurd none
      go (Lex e p) none run = absurd none
      go (Syntax e p) none run = absurd none
      go (Table e p) none run = absurd none
      go (Typing e p) none run = absurd none
      go (Done n r) one run = record { unit = u; checked = accepted; run = run }
      go (Trap k p r) one run = record { unit = u; checked = accepted; run = run }
      go (OutOfTurns r) one run = record { unit = u; checked = accepted; run = run }
      go HeapFull one run = record { unit = u; checked = accepted; run = run }

  is_told : (a : Answer) → IsOfRun a → IsTold a
  is_told Usage none = absurd none
  is_told (ReadFault w) none = absurd none
  is_told (TooLong w) none = absurd none
  is_told (Lex e p) none = absurd none
  is_told (Syntax e p) none = absurd none
  is_told (Table e p) none = absurd none
  is_told (Typing e p) none = absurd none
  is_told (Done n r) one = tt
  is_told (Trap k p r) one = tt
  is_told (OutOfTurns r) one = tt
  is_told HeapFull one = tt

  -- it isn't want of memory
  pub run_is_told : (a : Answer) → IsRunOf text u a → IsTold a
  run_is_told a run = is_told a (told_by_run text (outcome (code_of u) [] default_turns default_heap) a run)

-- what is answered of the end that is told of a run tells the run
pub tells_run : (text : List ℕ) (o : meaning.Outcome) (told : Outcome) (a : Answer) → Tells o told → TellsEnd text told.end told.printed a → TellsRun text o a
tells_run text (Ran r) told a tells end =
    subst (λ ns. TellsEnd text r.ending ns a) tells.printed (subst (λ e. TellsEnd text e told.printed a) tells.ending end)
tells_run text RanFull told a full end = subst (λ e. TellsEnd text e told.printed a) full.ending end
tells_run text RanStuck told a none end = absurd none
