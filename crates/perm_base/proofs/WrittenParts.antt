-- How far a text is written.
use Rattle.std.proofs.Common.{◌≡◌, ℕ, ◌+◌, ◌-◌, ◌<◌, ◌≤◌, List, ◌++◌, length, take, drop, Option, None, Some, Result, Ok, Err, OnErr, refl, sym, ◌∙◌, ap, arith, subst, [], append-nil, append_assoc, length-append, length-drop}
use Rattle.std.proofs.lemmas.List.{drop-drop, take-append-drop, take_all}
use Rattle.std.proofs.Math.Seq.{take-append_seam}
use Rattle.perm_base.specs.Pieces.{appended, AppendsPart}
use Rattle.perm_base.specs.Writes.{IsRefusedAfter, WritesUpTo, no_write, one_more}

-- what holds anyhow holds at an error
pub on_err : {T E P : Type 0} (r : Result T E) → P → OnErr r P
on_err (Ok x) p = tt
on_err (Err e) p = p

-- the sink has taken the front of the text, up to what is left of it
pub record IsWrittenUpTo (old now : Option (List ℕ)) (text rest : List ℕ) : Type 0 where
  pub done : List ℕ
  pub split : done ++ rest ≡ text
  pub taken : now ≡ appended old done

-- before the first write
pub none_written : (old : Option (List ℕ)) (text : List ℕ) → IsWrittenUpTo old old text text
none_written None text = record { done = []; split = refl; taken = refl }
none_written (Some taken) text = record { done = []; split = refl; taken = ap Some (sym (append-nil taken)) }

-- two pieces are one
pub appended-append : (old : Option (List ℕ)) (a b : List ℕ) → appended (appended old a) b ≡ appended old (a ++ b)
appended-append None a b = refl
appended-append (Some taken) a b = ap Some (append_assoc taken a b)

-- after a write of n bytes
pub more_written : (old now new : Option (List ℕ)) (text rest : List ℕ) (n : ℕ) → IsWrittenUpTo old now text rest
    → new ≡ appended now (take n rest) → IsWrittenUpTo old new text (take (length rest - n) (drop n rest))
more_written old now new text rest n before step = record {
  done = before.done ++ take n rest;
  split = ap (λ xs. (before.done ++ take n rest) ++ xs) (take_all (length rest - n) (drop n rest) (omega (arith, length-drop n rest)))
      ∙ append_assoc before.done (take n rest) (drop n rest) ∙ ap (λ xs. before.done ++ xs) (take-append-drop n rest) ∙ before.split;
  taken = step ∙ ap (λ told. appended told (take n rest)) before.taken ∙ appended-append old before.done (take n rest);
}

-- where a write is refused
pub part_written : (old now new : Option (List ℕ)) (text rest : List ℕ) → IsWrittenUpTo old now text rest → 0 < length rest
    → new ≡ now → AppendsPart old new text
part_written old now new text rest before some same = (
  length before.done,
  omega (arith, ap length before.split, length-append before.done rest),
  same ∙ before.taken ∙ ap (λ xs. appended old xs) (sym (take-append_seam before.done rest) ∙ ap (take (length before.done)) before.split),
)

-- ---------- the writes ----------
-- the writes have come as far as what is left of the text
pub record AreWritten {S : Type 0} (gives : S → List ℕ → Option ℕ → S → Type 0) (text : List ℕ) (first : S) (rest : List ℕ) (after : S) : Type 0 where
  pub at : ℕ
  pub left : rest ≡ drop at text
  pub size : at + length rest ≡ length text
  pub writes : WritesUpTo gives text first at after

module _ {S : Type 0} (gives : S → List ℕ → Option ℕ → S → Type 0) (text : List ℕ) (first : S) where
  -- before the first write
  pub no_writes : AreWritten gives text first text first
  no_writes = record { at = 0; left = refl; size = omega arith; writes = no_write }

  -- one write more
  pub more_writes : (rest : List ℕ) (before after : S) (n : ℕ) → AreWritten gives text first rest before → 0 < n → n ≤ length rest
      → gives before rest (Some n) after → AreWritten gives text first (take (length rest - n) (drop n rest)) after
  more_writes rest before after n are some within given = record {
    at = are.at + n;
    left = take_all (length rest - n) (drop n rest) (omega (arith, length-drop n rest)) ∙ ap (drop n) are.left ∙ drop-drop n are.at text;
    size = omega (arith, are.size, ap length (take_all (length rest - n) (drop n rest) (omega (arith, length-drop n rest))), length-drop n rest);
    writes = one_more are.at n (are.at + n) before after are.writes (omega (arith, are.size)) some
        (subst (λ r. gives before r (Some n) after) are.left given) refl;
  }

  -- a write of what is left was refused
  pub refused_write : (rest : List ℕ) (before after : S) → AreWritten gives text first rest before → 0 < length rest
      → gives before rest None after → IsRefusedAfter gives text first after
  refused_write rest before after are some given = record {
    at = are.at;
    before = before;
    writes = are.writes;
    missing = omega (arith, are.size);
    refused = subst (λ r. gives before r None after) are.left given;
  }
