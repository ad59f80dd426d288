-- How far a file is read.
use Rattle.std.proofs.Common.{◌≡◌, ℕ, ◌+◌, ◌≤◌, List, ◌++◌, length, take, drop, Option, None, Some, Err, IfSome, IsSomeAnd, sym, subst, ◌∙◌, ap, arith, length-append, length-drop}
use Rattle.std.proofs.lemmas.List.{length-take-le}
use Rattle.std.proofs.Math.Seq.{take-add}
use Rattle.perm_base.specs.Files.{Files, WhereTold, Copies}
use Rattle.perm_base.specs.Reads.{AreReadsFor, GaveFor, ReadsUpTo, asked_count}
use Rattle.perm_base.specs.declared.reading.ReadFault.{ReadFault}
use Rattle.perm_base.specs.declared.reading.ReadFault.TheVariants.{Fault, TooLong, NoMemory}

-- what was read is the front of the file, and nothing was read where no file is there
abbrev pub IsFrontOf : Option (List ℕ) → List ℕ → Type 0
IsFrontOf None text = length text ≡ 0
IsFrontOf (Some bytes) text = (text ≡ take (length text) bytes) × (length text ≤ length bytes)

-- the same of the file under a path, where the shelf tells its bytes
abbrev pub IsFrontWhereTold : Option Files → List ℕ → List ℕ → Type 0
IsFrontWhereTold told path text = IfSome told (λ files. IsFrontOf (files path) text)

-- `more_read` at a file
front_more : (file : Option (List ℕ)) (text piece : List ℕ) (n at : ℕ) → at ≡ length text → IsFrontOf file text
    → IsSomeAnd file (λ bytes. Copies bytes at n piece) → IsFrontOf file (text ++ take n piece)
front_more None text piece n at is front copied = absurd copied
front_more (Some bytes) text piece n at is front copied =
    let from : length text ≡ at = sym is in
    let there : n ≤ length (drop at bytes) = omega (arith, copied.there, length-drop at bytes) in
    let came : length (take n piece) ≡ n = ap length copied.same ∙ length-take-le n (drop at bytes) there in
    let longer : length (text ++ take n piece) ≡ length text + n = omega (arith, length-append text (take n piece), came) in
    let parts : take (length text + n) bytes ≡ take (length text) bytes ++ take n (drop (length text) bytes) = take-add (length text) n bytes in
    let same : take n piece ≡ take n (drop (length text) bytes) = copied.same ∙ ap (λ k. take n (drop k bytes)) is in (
      ap (λ xs. xs ++ take n piece) front.0 ∙ ap (λ xs. take (length text) bytes ++ xs) same ∙ sym parts ∙ ap (λ k. take k bytes) (sym longer),
      omega (arith, longer, copied.there, front.1, from),
    )

-- `more_read` at what is told
more_told : (told : Option Files) (path text new piece : List ℕ) (n at : ℕ) → at ≡ length text
    → IsFrontWhereTold told path text → WhereTold told path (λ bytes. Copies bytes at n piece)
    → new ≡ text ++ take n piece → IsFrontWhereTold told path new
more_told None path text new piece n at is front copied longer = tt
more_told (Some files) path text new piece n at is front copied longer =
    subst (λ xs. IsFrontOf (files path) xs) (sym longer) (front_more (files path) text piece n at is front copied)

-- a read goes on from the front of a file to a longer one
pub more_read : (told now : Option Files) (path text new piece : List ℕ) (n at : ℕ) → now ≡ told → at ≡ length text
    → IsFrontWhereTold told path text → WhereTold now path (λ bytes. Copies bytes at n piece)
    → new ≡ text ++ take n piece → IsFrontWhereTold told path new
more_read told now path text new piece n at same is front copied longer =
    more_told told path text new piece n at is front (subst (λ t. WhereTold t path (λ bytes. Copies bytes at n piece)) same copied) longer

-- a read that isn't gone on from ends the reads
pub ended : {S : Type 0} (gives : S → List ℕ → ℕ → ℕ → Option ℕ → S → Type 0) (path : List ℕ) (limit : ℕ) (first : S) (at size : ℕ) (before after : S) (e : ReadFault)
    → ReadsUpTo gives path limit first at before → at ≤ limit → size ≡ asked_count limit at
    → GaveFor (λ came. gives before path at size came after) (Err e) → AreReadsFor gives path limit first (Err e) after
ended gives path limit first at size before after Fault reads missing asked gave =
    (at, record { before = before; reads = reads; missing = missing; last = subst (λ k. gives before path at k None after) asked gave })
ended gives path limit first at size before after TooLong reads missing asked gave = absurd gave
ended gives path limit first at size before after NoMemory reads missing asked gave =
    (at, (gave.0, record { before = before; reads = reads; missing = missing; last = subst (λ k. gives before path at k (Some gave.0) after) asked gave.1 }))
