-- What the text of a program comes to: the place and kind of its refusal, or its run without input.
use Rattle.std.specs.Prelude.{◌≡◌, ℕ, ◌^◌, ℤ, List, []}
use Rattle.perm_tree.specs.declared.ast.Span.{Span}
use Rattle.perm_tree.specs.declared.errors.Refusal.{Refusal}
use Rattle.perm_tree.specs.declared.errors.Refusal.TheVariants as refusals
use Rattle.perm_tree.specs.declared.place.Place.{Place}
use Rattle.perm_tree.specs.CodeOf.{code_of}
use Rattle.perm_tree.specs.TextPlaces.{IsPlaceOf}
use Rattle.perm_tree.specs.UnitTables.{Tables}
use Rattle.perm_check.specs.Checks.{IsAcceptedOf, IsRefusalOf}
use Rattle.perm_meaning.specs.declared.End.{End}
use Rattle.perm_meaning.specs.declared.End.TheVariants as ends
use Rattle.perm_meaning.specs.Outcome.{Outcome, Ran, RanFull, RanStuck, outcome}
use Rattle.perm_answer.specs.declared.Answer.{Answer}
use Rattle.perm_answer.specs.declared.Answer.TheVariants.{Usage, ReadFault, TooLong, Lex, Syntax, Table, Typing, Done, Trap, OutOfTurns, HeapFull}

-- ---------- refusals ----------
-- the span of a refusal
abbrev pub refusal_span : Refusal → Span
refusal_span (refusals.Lex e span) = span
refusal_span (refusals.Parse e span) = span
refusal_span (refusals.Table e span) = span
refusal_span (refusals.Typing e) = e.span

-- the text is refused so, and the refusal begins at a place
pub record IsRefusedAt (text : List ℕ) (refusal : Refusal) (place : Place) : Type 0 where
  pub refused : IsRefusalOf text refusal
  pub at : IsPlaceOf text (refusal_span refusal).start place

-- ---------- runs ----------
-- the turns of a run, where no option says otherwise
abbrev pub default_turns : ℕ
default_turns = 2 ^ 40

-- the words of its heap
abbrev pub default_heap : ℕ
default_heap = 2 ^ 20

-- the answer tells the end of a run of a text that printed these numbers; a trap has the place at which its span begins
abbrev pub TellsEnd : List ℕ → End → List ℤ → Answer → Type 0
TellsEnd text (ends.Done returned) printed answer = answer ≡ Done returned (record { printed = printed })
TellsEnd text (ends.Trap kind span) printed answer = (place : Place) × IsPlaceOf text span.start place × (answer ≡ Trap kind place (record { printed = printed }))
TellsEnd text ends.OutOfTurns printed answer = answer ≡ OutOfTurns (record { printed = printed })
TellsEnd text ends.HeapFull printed answer = answer ≡ HeapFull

-- it tells what a run comes to: of a full heap nothing but that. No run is stuck
abbrev pub TellsRun : List ℕ → Outcome → Answer → Type 0
TellsRun text (Ran report) answer = TellsEnd text report.ending report.printed answer
TellsRun text RanFull answer = answer ≡ HeapFull
TellsRun text RanStuck answer = ⊥

-- it tells the run of a unit of the text without input
abbrev pub IsRunOf : List ℕ → Tables → Answer → Type 0
IsRunOf text unit answer = TellsRun text (outcome (code_of unit) [] default_turns default_heap) answer

-- it tells the run of the text's unit, which is accepted
pub record Runs (text : List ℕ) (answer : Answer) : Type 0 where
  pub unit : Tables
  pub checked : IsAcceptedOf text unit
  pub run : IsRunOf text unit answer

-- ---------- answers ----------
-- the answer to a text that was read
abbrev pub IsAnswerTo : List ℕ → Answer → Type 0
IsAnswerTo text Usage = ⊥
IsAnswerTo text (ReadFault which) = ⊥
IsAnswerTo text (TooLong which) = ⊥
IsAnswerTo text (Lex e place) = (span : Span) × IsRefusedAt text (refusals.Lex e span) place
IsAnswerTo text (Syntax e place) = (span : Span) × IsRefusedAt text (refusals.Parse e span) place
IsAnswerTo text (Table e place) = (span : Span) × IsRefusedAt text (refusals.Table e span) place
IsAnswerTo text (Typing e place) = IsRefusedAt text (refusals.Typing e) place
IsAnswerTo text answer = Runs text answer
