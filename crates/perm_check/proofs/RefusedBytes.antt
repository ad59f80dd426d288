-- A refused byte is one of the text.
use Rattle.std.proofs.Common.{◌≢◌, ◌<◌, ℕ, List, [], ◌∷◌, length, refl, ap, arith, length-append}
use Rattle.perm_tree.specs.declared.errors.LexError.TheVariants.{BadByte, UnclosedComment}
use Rattle.perm_lex.specs.Lexes.{Refuses, pieces_text}

some-bytes : (bytes : List ℕ) → bytes ≢ [] → 0 < length bytes
some-bytes [] differs = absurd (differs refl)
some-bytes (b ∷ bytes) differs = omega arith

pub bad-within : (text : List ℕ) (at : ℕ) → Refuses text (BadByte at) → at < length text
bad-within text at (pieces, rest, begins, (some, none, other, is)) =
    omega (arith, ap length begins.whole, length-append (pieces_text pieces) rest, some-bytes rest some, is)

pub comment-within : (text : List ℕ) (at : ℕ) → Refuses text (UnclosedComment at) → at < length text
comment-within text at (pieces, rest, begins, (inside, opened, open_end, is)) =
    omega (arith, ap length begins.whole, length-append (pieces_text pieces) rest, ap length opened, is)
