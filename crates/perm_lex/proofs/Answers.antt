-- What the reader's answer says to callers.
use Rattle.std.proofs.Common.{◌≡◌, ◌≢◌, ℕ, zero, suc, ◌+◌, ◌<◌, ◌≤◌, ◌⊎◌, inl, inr, List, [], ◌∷◌, ◌++◌, length, Result, Ok, Err, MatchResult, IfOk, sym, refl, ◌∙◌, ap, subst, arith}
use Rattle.std.specs.Prelude.{AllPairs, All, IfErr}
use Rattle.std.specs.List.{AllByRecursion}
use Rattle.std.proofs.lemmas.List.{length-append, append-nil}
use Rattle.std.proofs.lemmas.List.Elements.{All-from_recursion}
use Rattle.perm_tree.specs.declared.errors.LexError.{LexError}
use Rattle.perm_tree.specs.declared.errors.LexError.TheVariants.{BadByte, NumberTooLarge, UnclosedComment, NoMemory}
use Rattle.perm_tree.specs.declared.tokens.Token.{Token}
use Rattle.perm_lex.specs.Tokens.{largest}
use Rattle.perm_lex.specs.Lexes.{Piece, piece_text, pieces_text, ArePieces, tokens_from, Lexes, Refuses}
use Rattle.perm_lex.specs.Lexes.Piece.{blank, line_comment, block_comment, token}
use Rattle.perm_lex.specs.Reading.{IsCause}
use Rattle.perm_lex.proofs.Refusals.{one_lexing, not_both, one_cause}
use Rattle.perm_lex.proofs.Unique.{piece_some}

cause_of : (text : List ℕ) (e : LexError) → IsCause text e → e ≢ NoMemory → Refuses text e
cause_of text NoMemory c some = absurd (some refl)
cause_of text (BadByte p) c some = c
cause_of text (NumberTooLarge s) c some = c
cause_of text (UnclosedComment p) c some = c

only_memory : (text : List ℕ) (ts : List Token) (e : LexError) → Lexes text ts → IsCause text e → e ≡ NoMemory
only_memory text ts NoMemory l c = refl
only_memory text ts (BadByte p) l c = absurd (not_both text ts (BadByte p) l c)
only_memory text ts (NumberTooLarge s) l c = absurd (not_both text ts (NumberTooLarge s) l c)
only_memory text ts (UnclosedComment p) l c = absurd (not_both text ts (UnclosedComment p) l c)

this_or_memory : (text : List ℕ) (e f : LexError) → Refuses text e → IsCause text f → (f ≡ e) ⊎ (f ≡ NoMemory)
this_or_memory text e NoMemory r c = inr refl
this_or_memory text e (BadByte p) r c = inl (one_cause text (BadByte p) e c r)
this_or_memory text e (NumberTooLarge s) r c = inl (one_cause text (NumberTooLarge s) e c r)
this_or_memory text e (UnclosedComment p) r c = inl (one_cause text (UnclosedComment p) e c r)

abbrev pub IsAnswer : {V : Type 0} → (V → List Token) → List ℕ → Result V LexError → Type 0
IsAnswer items text r = MatchResult r (λ v. Lexes text (items v)) (IsCause text)

pub only_tokens : {V : Type 0} (items : V → List Token) (text : List ℕ) (r : Result V LexError) → IsAnswer items text r → (ts : List Token) → Lexes text ts → MatchResult r (λ v. items v ≡ ts) (λ e. e ≡ NoMemory)
only_tokens items text (Ok v) h ts l = one_lexing text (items v) ts h l
only_tokens items text (Err e) h ts l = only_memory text ts e l h

pub refused : {V : Type 0} (items : V → List Token) (text : List ℕ) (r : Result V LexError) → IsAnswer items text r → IfErr r (λ e. e ≢ NoMemory → Refuses text e)
refused items text (Ok v) h = tt
refused items text (Err e) h = cause_of text e h

pub only_refusal : {V : Type 0} (items : V → List Token) (text : List ℕ) (r : Result V LexError) → IsAnswer items text r → (e : LexError) → Refuses text e → MatchResult r (λ v. ⊥) (λ f. (f ≡ e) ⊎ (f ≡ NoMemory))
only_refusal items text (Ok v) h e r = not_both text (items v) e h r
only_refusal items text (Err f) h e r = this_or_memory text e f r h

-- each token has a byte, begins no earlier than this place or the end of the token before it, and ends within the text
abbrev AreInOrder : ℕ → ℕ → List Token → Type 0
AreInOrder from end [] = Unit {0}
AreInOrder from end (t ∷ ts) = (from ≤ t.span.start) × (t.span.start < t.span.end) × (t.span.end ≤ end) × AreInOrder t.span.end end ts

from_earlier : (a b end : ℕ) (ts : List Token) → a ≤ b → AreInOrder b end ts → AreInOrder a end ts
from_earlier a b end [] l h = tt
from_earlier a b end (t ∷ ts) l h = let here = h.0 in (omega arith, h.1, h.2, h.3)

ends_at : (p : Piece) (ps : List Piece) (at : ℕ) → at + length (piece_text p) + length (pieces_text ps) ≡ at + length (pieces_text (p ∷ ps))
ends_at p ps at = let size = length-append (piece_text p) (pieces_text ps) in omega arith

some_length : (xs : List ℕ) → xs ≢ [] → 0 < length xs
some_length [] some = absurd (some refl)
some_length (x ∷ xs) some = omega arith

later : (p : Piece) (ps : List Piece) (at : ℕ) (ts : List Token) → AreInOrder (at + length (piece_text p)) (at + length (piece_text p) + length (pieces_text ps)) ts → AreInOrder (at + length (piece_text p)) (at + length (pieces_text (p ∷ ps))) ts
later p ps at ts h = subst (λ end. AreInOrder (at + length (piece_text p)) end ts) (ends_at p ps at) h

in_order_from : (ps : List Piece) (after : List ℕ) (at : ℕ) → ArePieces ps after → AreInOrder at (at + length (pieces_text ps)) (tokens_from at ps)
in_order_from [] after at h = tt
in_order_from (blank b ∷ ps) after at h = from_earlier at (at + 1) _ _ (omega arith) (later (blank b) ps at _ (in_order_from ps after (at + 1) h.1))
in_order_from (line_comment xs ∷ ps) after at h =
    from_earlier at (at + length (piece_text (line_comment xs))) _ _ (omega arith) (later (line_comment xs) ps at _ (in_order_from ps after (at + length (piece_text (line_comment xs))) h.1))
in_order_from (block_comment xs ∷ ps) after at h =
    from_earlier at (at + length (piece_text (block_comment xs))) _ _ (omega arith) (later (block_comment xs) ps at _ (in_order_from ps after (at + length (piece_text (block_comment xs))) h.1))
in_order_from (token k bytes ∷ ps) after at h =
    let some = some_length bytes (piece_some (token k bytes) (pieces_text ps ++ after) h.0) in
    let end = ends_at (token k bytes) ps at in
    (omega arith, omega arith, omega arith, later (token k bytes) ps at _ (in_order_from ps after (at + length bytes) h.1))

small_from : (ps : List Piece) (after : List ℕ) (at : ℕ) → ArePieces ps after → AllByRecursion (λ t. t.value ≤ largest) (tokens_from at ps)
small_from [] after at h = tt
small_from (blank b ∷ ps) after at h = small_from ps after (at + 1) h.1
small_from (line_comment xs ∷ ps) after at h = small_from ps after (at + length (piece_text (line_comment xs))) h.1
small_from (block_comment xs ∷ ps) after at h = small_from ps after (at + length (piece_text (block_comment xs))) h.1
small_from (token k bytes ∷ ps) after at h = (h.0.4, small_from ps after (at + length bytes) h.1)

few_in_order : (from end : ℕ) (ts : List Token) → from ≤ end → AreInOrder from end ts → length ts + from ≤ end
few_in_order from end [] l h = omega arith
few_in_order from end (t ∷ ts) l h = let rest = few_in_order t.span.end end ts h.2 h.3 in let a = h.0 in let b = h.1 in omega arith

in_order : (text : List ℕ) (ts : List Token) → Lexes text ts → AreInOrder 0 (length text) ts
in_order text ts l =
    let end : length text ≡ 0 + length (pieces_text l.0) = ap length (l.1.whole ∙ append-nil (pieces_text l.0)) ∙ omega arith in
    subst (λ n. AreInOrder 0 n ts) (sym end) (subst (AreInOrder 0 (0 + length (pieces_text l.0))) (sym l.2) (in_order_from l.0 [] 0 l.1.each))

abbrev pub IsWithin : ℕ → Token → Type 0
IsWithin end t = (t.span.start < t.span.end) × (t.span.end ≤ end)

abbrev pub StandsBefore : Token → Token → Type 0
StandsBefore a b = a.span.end ≤ b.span.start

within_from : (from end : ℕ) (ts : List Token) → AreInOrder from end ts → AllByRecursion (IsWithin end) ts
within_from from end [] h = tt
within_from from end (t ∷ ts) h = ((h.1, h.2), within_from t.span.end end ts h.3)

starts_from : (low from end : ℕ) (ts : List Token) → low ≤ from → AreInOrder from end ts → AllByRecursion (λ t. low ≤ t.span.start) ts
starts_from low from end [] l h = tt
starts_from low from end (t ∷ ts) l h = let a = h.0 in let b = h.1 in (omega arith, starts_from low t.span.end end ts (omega arith) h.3)

pairs_from : (from end : ℕ) (ts : List Token) → AreInOrder from end ts → AllPairs StandsBefore ts
pairs_from from end [] h i j d l m = absurd (omega arith)
pairs_from from end (t ∷ ts) h i zero d l m = absurd (omega arith)
pairs_from from end (t ∷ ts) h zero (suc j) d l m =
    All-from_recursion (λ (b : Token). t.span.end ≤ b.span.start) ts (starts_from t.span.end t.span.end end ts (omega arith) h.3) j d (omega arith)
pairs_from from end (t ∷ ts) h (suc i) (suc j) d l m = pairs_from t.span.end end ts h.3 i j d (omega arith) (omega arith)

pub within : (text : List ℕ) (ts : List Token) → Lexes text ts → All (IsWithin (length text)) ts
within text ts l = All-from_recursion (IsWithin (length text)) ts (within_from 0 (length text) ts (in_order text ts l))

pub pairs : (text : List ℕ) (ts : List Token) → Lexes text ts → AllPairs StandsBefore ts
pairs text ts l = pairs_from 0 (length text) ts (in_order text ts l)

pub small : (text : List ℕ) (ts : List Token) → Lexes text ts → All (λ t. t.value ≤ largest) ts
small text ts l = All-from_recursion (λ (t : Token). t.value ≤ largest) ts (subst (AllByRecursion (λ t. t.value ≤ largest)) (sym l.2) (small_from l.0 [] 0 l.1.each))

pub few : (text : List ℕ) (ts : List Token) → Lexes text ts → length ts ≤ length text
few text ts l = let h = few_in_order 0 (length text) ts (omega arith) (in_order text ts l) in omega arith

-- what holds of each list of tokens holds of the one that is given
pub of_tokens : {V : Type 0} (items : V → List Token) (P : V → Type 0) (text : List ℕ) (r : Result V LexError) → IsAnswer items text r → ((v : V) → Lexes text (items v) → P v) → IfOk r P
of_tokens items P text (Ok v) h p = p v h
of_tokens items P text (Err e) h p = tt
