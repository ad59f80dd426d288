-- A text has one answer.
use Rattle.std.proofs.Common.{◌≡◌, ◌∙◌, ℕ, ℤ, List, [], inl, inr, sym, refl, subst}
use Rattle.std.specs.Prelude.{◌⊎◌}
use Rattle.perm_tree.specs.declared.errors.Refusal.{Refusal}
use Rattle.perm_tree.specs.declared.errors.Refusal.TheVariants as refusals
use Rattle.perm_tree.specs.declared.place.Place.{Place}
use Rattle.perm_tree.specs.TextPlaces.{IsPlaceOf}
use Rattle.perm_tree.specs.UnitTables.{Tables}
use Rattle.perm_check.proofs.OneCheck.{one-accepted, one-refusal, refused-apart}
use Rattle.perm_meaning.specs.declared.End.{End}
use Rattle.perm_meaning.specs.declared.End.TheVariants as ends
use Rattle.perm_meaning.specs.Outcome.{Outcome, Ran, RanFull, RanStuck, outcome}
use Rattle.perm_tree.specs.CodeOf.{code_of}
use Rattle.perm_answer.specs.declared.Answer.{Answer}
use Rattle.perm_answer.specs.declared.Answer.TheVariants.{Usage, ReadFault, TooLong, Lex, Syntax, Table, Typing, Done, Trap, OutOfTurns, HeapFull}
use Rattle.perm_top.specs.Programs.{IsAnswerTo, IsRefusedAt, IsRunOf, Runs, TellsEnd, TellsRun, default_heap, default_turns, refusal_span}

-- a byte has one place
one-place : (text : List ℕ) (at : ℕ) (p q : Place) → IsPlaceOf text at p → IsPlaceOf text at q → p ≡ q
one-place text at p q a b = let line = a.line ∙ sym b.line in let column = a.column ∙ sym b.column in λ i. record { line = line i; column = column i }

-- ---------- refusals ----------
-- the answer that tells a refusal at a place
abbrev pub refusal_answer : Refusal → Place → Answer
refusal_answer (refusals.Lex e span) place = Lex e place
refusal_answer (refusals.Parse e span) place = Syntax e place
refusal_answer (refusals.Table e span) place = Table e place
refusal_answer (refusals.Typing e) place = Typing e place

-- the answer tells a refusal
pub record TellsRefusal (text : List ℕ) (answer : Answer) : Type 0 where
  pub refusal : Refusal
  pub place : Place
  pub refused : IsRefusedAt text refusal place
  pub is : answer ≡ refusal_answer refusal place

either-answer : (text : List ℕ) (answer : Answer) → IsAnswerTo text answer → TellsRefusal text answer ⊎ Runs text answer
either-answer text Usage x = absurd x
either-answer text (ReadFault w) x = absurd x
either-answer text (TooLong w) x = absurd x
either-answer text (Lex e p) (span, x) = inl (record { refusal = refusals.Lex e span; place = p; refused = x; is = refl })
either-answer text (Syntax e p) (span, x) = inl (record { refusal = refusals.Parse e span; place = p; refused = x; is = refl })
either-answer text (Table e p) (span, x) = inl (record { refusal = refusals.Table e span; place = p; refused = x; is = refl })
either-answer text (Typing e p) x = inl (record { refusal = refusals.Typing e; place = p; refused = x; is = refl })
either-answer text (Done n r) x = inr x
either-answer text (Trap k p r) x = inr x
either-answer text (OutOfTurns r) x = inr x
either-answer text HeapFull x = inr x

-- ---------- runs ----------
-- an end with its printed numbers is told by one answer
one-end : (text : List ℕ) (e : End) (printed : List ℤ) (a b : Answer) → TellsEnd text e printed a → TellsEnd text e printed b → a ≡ b
one-end text (ends.Done n) printed a b x y = x ∙ sym y
one-end text (ends.Trap k span) printed a b x y =
    let placed = one-place text span.start x.0 y.0 x.1 y.1 in
    x.2 ∙ ((λ i. Trap k (placed i) (record { printed = printed })) ∙ sym y.2)
one-end text ends.OutOfTurns printed a b x y = x ∙ sym y
one-end text ends.HeapFull printed a b x y = x ∙ sym y

-- so is what a run comes to
one-run : (text : List ℕ) (o : Outcome) (a b : Answer) → TellsRun text o a → TellsRun text o b → a ≡ b
one-run text (Ran r) a b x y = one-end text r.ending r.printed a b x y
one-run text RanFull a b x y = x ∙ sym y
one-run text RanStuck a b x y = absurd x

module _ (text : List ℕ) where
  one-told : (a b : Answer) → TellsRefusal text a → TellsRefusal text b → a ≡ b
  one-told a b x y =
      let same = one-refusal text x.refusal y.refusal x.refused.refused y.refused.refused in
      let there = subst (λ (r : Refusal). IsPlaceOf text (refusal_span r).start x.place) same x.refused.at in
      let placed = one-place text (refusal_span y.refusal).start x.place y.place there y.refused.at in
      x.is ∙ ((λ i. refusal_answer (same i) (placed i)) ∙ sym y.is)

  one-unit : (a b : Answer) → Runs text a → Runs text b → a ≡ b
  one-unit a b x y =
      one-run text (outcome (code_of y.unit) [] default_turns default_heap) a b
      (subst (λ (u : Tables). IsRunOf text u a) (one-accepted text x.unit y.unit x.checked y.checked) x.run) y.run

  apart : (a b : Answer) → TellsRefusal text a → Runs text b → ⊥
  apart a b x y = refused-apart text x.refusal y.unit x.refused.refused y.checked

  -- a text has no two answers
  pub one-answer : (a b : Answer) → IsAnswerTo text a → IsAnswerTo text b → a ≡ b
  one-answer a b x y = go (either-answer text a x) (either-answer text b y)
    where
      go : TellsRefusal text a ⊎ Runs text a → TellsRefusal text b ⊎ Runs text b → a ≡ b
      go (inl p) (inl q) = one-told a b p q
      go (inl p) (inr q) = absurd (apart a b p q)
      go (inr p) (inl q) = absurd (apart b a q p)
      go (inr p) (inr q) = one-unit a b p q
