-- Without a fault, a program of the shelf gets the one answer that it has.
use Rattle.std.proofs.Common.{◌≡◌, ℕ, ◌<◌, ◌≤◌, inl, inr, List, Option, Some, None, sym, ap, subst, length, arith, ◌∙◌}
use Rattle.std.specs.Prelude.{IsSomeAnd}
use Rattle.perm_base.specs.Counts.{Rose}
use Rattle.perm_base.specs.Files.{Files, HasFile, HasNoFile, WhereTold}
use Rattle.perm_base.specs.Pieces.{appended}
use Rattle.perm_answer.specs.declared.Answer.{Answer}
use Rattle.perm_answer.specs.declared.Answer.TheVariants.{Usage, ReadFault, TooLong, Lex, Syntax, Table, Typing, Done, Trap, OutOfTurns, HeapFull}
use Rattle.perm_answer.specs.declared.Which.TheVariants.{Program, Input}
use Rattle.perm_answer.specs.Answers.{status, text_of}
use Rattle.perm_top.specs.Causes.{IsCaused, IsPlain, IsWritten, most_bytes}
use Rattle.perm_top.specs.Programs.{IsAnswerTo}
use Rattle.perm_top.proofs.OneAnswer.{one-answer}

-- what holds of the bytes that are told holds of those of the file
of_file : (told : Option Files) (path bytes : List ℕ) (P : List ℕ → Type 0) → HasFile told path bytes → WhereTold told path P → P bytes
of_file None path bytes P file h = absurd file
of_file (Some files) path bytes P file h = subst (λ o. IsSomeAnd o P) file h

no_missing : (told : Option Files) (path bytes : List ℕ) → HasFile told path bytes → HasNoFile told path → ⊥
no_missing None path bytes file missing = file
no_missing (Some files) path bytes file missing = let clash : Some bytes ≡ None = sym file ∙ missing in let r : ⊥ = cc clash in r

module _ (told : Option Files) (before now : ℕ) (path bytes : List ℕ) (file : HasFile told path bytes) (short : length bytes ≤ most_bytes) (no_fault : Rose before now → ⊥) where
  -- a caused answer is one to the file's bytes
  answers : (answer : Answer) → IsCaused told before now (Some path) answer → IsAnswerTo bytes answer
  answers Usage c = absurd c
  answers (ReadFault Program) (inl rose) = absurd (no_fault rose)
  answers (ReadFault Program) (inr missing) = absurd (no_missing told path bytes file missing)
  answers (ReadFault Input) c = absurd c
  answers (TooLong Program) c = let long = of_file told path bytes (λ bs. most_bytes < length bs) file c in absurd (omega (arith, long, short))
  answers (TooLong Input) c = absurd c
  answers (Lex e p) c = (of_file told path bytes (λ bs. (length bs ≤ most_bytes) × IsAnswerTo bs (Lex e p)) file c).1
  answers (Syntax e p) c = (of_file told path bytes (λ bs. (length bs ≤ most_bytes) × IsAnswerTo bs (Syntax e p)) file c).1
  answers (Table e p) c = (of_file told path bytes (λ bs. (length bs ≤ most_bytes) × IsAnswerTo bs (Table e p)) file c).1
  answers (Typing e p) c = (of_file told path bytes (λ bs. (length bs ≤ most_bytes) × IsAnswerTo bs (Typing e p)) file c).1
  answers (Done n r) c = (of_file told path bytes (λ bs. (length bs ≤ most_bytes) × IsAnswerTo bs (Done n r)) file c).1
  answers (Trap k p r) c = (of_file told path bytes (λ bs. (length bs ≤ most_bytes) × IsAnswerTo bs (Trap k p r)) file c).1
  answers (OutOfTurns r) c = (of_file told path bytes (λ bs. (length bs ≤ most_bytes) × IsAnswerTo bs (OutOfTurns r)) file c).1
  answers HeapFull c = (of_file told path bytes (λ bs. (length bs ≤ most_bytes) × IsAnswerTo bs HeapFull) file c).1

-- the same of a written text that is that of an answer
pub complete_from : (told : Option Files) (before now : ℕ) (path : Option (List ℕ)) (found : Answer) (old new : Option (List ℕ)) (sink_before sink_now : ℕ) (text : List ℕ) (wanted given : ℕ)
    → IsCaused told before now path found → text ≡ text_of found → wanted ≡ status found → IsWritten old new sink_before sink_now text wanted given
    → (bytes : List ℕ) (other : Answer) → IsPlain told path bytes → IsAnswerTo bytes other → (Rose before now → ⊥) → (Rose sink_before sink_now → ⊥)
    → (given ≡ status other) × (new ≡ appended old (text_of other))
complete_from told before now path found old new sink_before sink_now text wanted given caused words is_status (inr part) bytes other plain to no_fault no_part = absurd (no_part part.1)
complete_from told before now path found old new sink_before sink_now text wanted given caused words is_status (inl whole) bytes other plain to no_fault no_part =
    let here = subst (λ p. IsCaused told before now p found) plain.named caused in
    let same = one-answer bytes found other (answers told before now plain.name bytes plain.file plain.short no_fault found here) to in
    (whole.0 ∙ (is_status ∙ ap status same), whole.1 ∙ (ap (λ t. appended old t) words ∙ ap (λ r. appended old (text_of r)) same))
