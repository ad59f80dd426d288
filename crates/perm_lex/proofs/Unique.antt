-- A text is cut into pieces in one way alone.
use Rattle.std.proofs.Common.{◌≡◌, ◌≢◌, ℕ, ◌≤◌, true, false, not, ⊎_elim, List, [], ◌∷◌, ◌++◌, length, codes, Some, unwrap_or, eqb, suc, sym, refl, ◌∙◌, ap, subst, arith, append_assoc}
use Rattle.std.specs.Prelude.{slice_index, Contains}
use Rattle.std.specs.Char.{is_ascii_digit}
use Rattle.std.specs.List.{list_all}
use Rattle.std.proofs.lemmas.Bool.{both_ways, and_parts, or_left, or_right, or_cases, eqb-true, not-true, false≢true, cases_lt}
use Rattle.std.proofs.lemmas.List.{length-append, append-nil, append_cancel_right}
use Rattle.perm_tree.specs.declared.tokens.TokenKind.{TokenKind}
use Rattle.perm_tree.specs.declared.tokens.TokenKind.TheVariants.{Number}
use Rattle.perm_lex.specs.declared.table.TheConstants.{SIGNS}
use Rattle.perm_lex.specs.Tokens.{spelling, is_letter, is_word_byte, IsWord, IsToken, IsLongest}
use Rattle.perm_lex.specs.Lexes.{Piece, piece_text, pieces_text, is_blank, EndsLine, IsPiece, ArePieces}
use Rattle.perm_lex.specs.Lexes.Piece.{blank, line_comment, block_comment, token}
use Rattle.perm_lex.proofs.Spellings.{Among, spelled, same_kind}
use Rattle.perm_lex.proofs.Lexemes.{token_cases, letter_no_digit, word_begins, among_all}

-- the longer of two fronts of a text begins with the shorter one
pub record Extends (short long : List ℕ) (after_short after_long : List ℕ) : Type 0 where
  pub more : List ℕ
  pub long_is : long ≡ short ++ more
  pub after_is : after_short ≡ more ++ after_long

cons_head : (x y : ℕ) (xs ys : List ℕ) → x ∷ xs ≡ y ∷ ys → x ≡ y
cons_head x y xs ys e = cc

pub cons_tail : (x y : ℕ) (xs ys : List ℕ) → x ∷ xs ≡ y ∷ ys → xs ≡ ys
cons_tail x y xs ys e = cc

pub extends : (xs ys a b : List ℕ) → xs ++ a ≡ ys ++ b → length xs ≤ length ys → Extends xs ys a b
extends [] ys a b e l = record { more = ys; long_is = refl; after_is = e }
extends (x ∷ xs) [] a b e l = absurd (omega arith)
extends (x ∷ xs) (y ∷ ys) a b e l =
    let rest = extends xs ys a b (cons_tail x y (xs ++ a) (ys ++ b) e) (omega arith) in
    let head = cons_head x y (xs ++ a) (ys ++ b) e in
    record { more = rest.more; long_is = cc (rest.long_is, head); after_is = rest.after_is }

-- bytes that a token begins with
blank_not_word : (b : ℕ) → is_blank b ≡ true → is_word_byte b ≡ true → ⊥
blank_not_word b h w =
    let no' = λ (n : ℕ) (e : eqb b n ≡ true) (f : is_word_byte n ≡ false). both_ways (is_word_byte b) (ap is_word_byte (eqb-true b n e) ∙ f) w in
    ⊎_elim (λ e. no' 32 e refl) (λ h2. ⊎_elim (λ e. no' 9 e refl) (λ h3. ⊎_elim (λ e. no' 13 e refl) (λ e. no' 10 e refl) (or_cases _ _ h3)) (or_cases _ _ h2)) (or_cases _ _ h)

sign_not_blank : (k : TokenKind) (bytes : List ℕ) → spelling k ≡ Some bytes → Among k SIGNS → is_blank (slice_index bytes 0) ≡ false
sign_not_blank k bytes e among =
    not-true _ (ap (λ o. not (is_blank (slice_index (unwrap_or o []) 0))) (sym e) ∙ among_all (λ t. not (is_blank (slice_index (unwrap_or (spelling t) []) 0))) SIGNS k refl among)

pub token_not_blank : (k : TokenKind) (bytes : List ℕ) → IsToken k bytes → is_blank (slice_index bytes 0) ≡ true → ⊥
token_not_blank k [] t h = false≢true h
token_not_blank k (b ∷ bs) t h = ⊎_elim
    (λ name. blank_not_word b h (or_left (is_letter b) (is_ascii_digit b) (word_begins (b ∷ bs) name.1.0)))
    (⊎_elim
    (λ number. blank_not_word b h (or_right (is_letter b) (is_ascii_digit b) (and_parts (is_ascii_digit b) (list_all is_ascii_digit bs) number.1.1).0))
    (λ s. ⊎_elim
    (λ keyword. blank_not_word b h (or_left (is_letter b) (is_ascii_digit b) (word_begins (b ∷ bs) keyword.0)))
    (λ sign. both_ways (is_blank b) (sign_not_blank k (b ∷ bs) s.0 sign.2) h)
    s.1))
    (token_cases k (b ∷ bs) t)

pub token_some : (k : TokenKind) (bytes : List ℕ) → IsToken k bytes → bytes ≢ []
token_some k bytes t e = ⊎_elim
    (λ name. subst IsWord e name.1.0)
    (⊎_elim (λ number. number.1.0 e) (λ s. ⊎_elim (λ keyword. subst IsWord e keyword.0) (λ sign. sign.0 e) s.1))
    (token_cases k bytes t)

-- bytes are a token of one kind alone
pub digits_begin : (bytes : List ℕ) → IsToken Number bytes → is_ascii_digit (slice_index bytes 0) ≡ true
digits_begin [] t = absurd (t.0 refl)
digits_begin (b ∷ bs) t = (and_parts (is_ascii_digit b) (list_all is_ascii_digit bs) t.1).0

number_not_spelled : (k : TokenKind) (bytes : List ℕ) → IsToken Number bytes → spelling k ≡ Some bytes → ⊥
number_not_spelled k bytes t e = ⊎_elim
    (λ keyword. letter_no_digit (slice_index bytes 0) (word_begins bytes keyword.0) (digits_begin bytes t))
    (λ sign. both_ways _ sign.1 (or_right (is_letter (slice_index bytes 0)) (is_ascii_digit (slice_index bytes 0)) (digits_begin bytes t)))
    (spelled k bytes e)

pub one_kind : (j k : TokenKind) (bytes : List ℕ) → IsToken j bytes → IsToken k bytes → j ≡ k
one_kind j k bytes s t = ⊎_elim
    (λ name. ⊎_elim
    (λ name'. name.0 ∙ sym name'.0)
    (⊎_elim
    (λ number. absurd (letter_no_digit (slice_index bytes 0) (word_begins bytes name.1.0) (digits_begin bytes number.1)))
    (λ keyword. absurd (name.1.1 k keyword.0)))
    (token_cases k bytes t))
    (⊎_elim
    (λ number. ⊎_elim
    (λ name. absurd (letter_no_digit (slice_index bytes 0) (word_begins bytes name.1.0) (digits_begin bytes number.1)))
    (⊎_elim
    (λ number'. number.0 ∙ sym number'.0)
    (λ keyword. absurd (number_not_spelled k bytes number.1 keyword.0)))
    (token_cases k bytes t))
    (λ keyword. ⊎_elim
    (λ name. absurd (name.1.1 j keyword.0))
    (⊎_elim
    (λ number. absurd (number_not_spelled j bytes number.1 keyword.0))
    (λ keyword'. same_kind j k bytes keyword.0 keyword'.0))
    (token_cases k bytes t)))
    (token_cases j bytes s)

-- the longest tokens at one place are one
pub one_token : (j k : TokenKind) (xs ys a b : List ℕ) → xs ++ a ≡ ys ++ b → IsToken j xs → IsLongest xs a → IsToken k ys → IsLongest ys b → (xs ≡ ys) × (a ≡ b)
one_token j k xs ys a b e s longest t longest' = ⊎_elim
    (λ shorter.
    let x = extends xs ys a b e (omega arith) in
    let none = longest k x.more b x.after_is (subst (IsToken k) x.long_is t) in
    (sym (x.long_is ∙ ap (λ m. xs ++ m) none ∙ append-nil xs), x.after_is ∙ ap (λ m. m ++ b) none))
    (λ longer.
    let x = extends ys xs b a (sym e) longer in
    let none = longest' j x.more a x.after_is (subst (IsToken j) x.long_is s) in
    (x.long_is ∙ ap (λ m. ys ++ m) none ∙ append-nil ys, sym (x.after_is ∙ ap (λ m. m ++ a) none)))
    (cases_lt (length xs) (length ys))

-- no two pieces of different sorts begin one text
pub blank_apart : (b x : ℕ) (xs ys : List ℕ) → is_blank b ≡ true → is_blank x ≡ false → b ∷ xs ≡ x ∷ ys → ⊥
blank_apart b x xs ys h f e = both_ways (is_blank b) (ap is_blank (cons_head b x xs ys e) ∙ f) h

pub marks_apart : (xs ys : List ℕ) → 47 ∷ 47 ∷ xs ≡ 47 ∷ 42 ∷ ys → ⊥
marks_apart xs ys e = let h = cons_head 47 42 xs ys (cons_tail 47 47 (47 ∷ xs) (42 ∷ ys) e) in absurd (omega arith)

pub blank_token : (b : ℕ) (k : TokenKind) (bytes xs ys : List ℕ) → is_blank b ≡ true → IsToken k bytes → b ∷ xs ≡ bytes ++ ys → ⊥
blank_token b k [] xs ys h t e = token_some k [] t refl
blank_token b k (c ∷ bytes) xs ys h t e = token_not_blank k (c ∷ bytes) t (ap is_blank (sym (cons_head b c xs (bytes ++ ys) e)) ∙ h)

-- the line comments at one place are one
no_feed_head : (x : ℕ) (xs : List ℕ) → (Contains (x ∷ xs) 10 → ⊥) → x ≢ 10
no_feed_head x xs none e = none (0, omega arith, e)

no_feed_tail : (x : ℕ) (xs : List ℕ) → (Contains (x ∷ xs) 10 → ⊥) → Contains xs 10 → ⊥
no_feed_tail x xs none h = none (suc h.0, omega (arith, h.1), h.2)

one_line : (xs ys a b : List ℕ) → xs ++ a ≡ ys ++ b → (Contains xs 10 → ⊥) → (Contains ys 10 → ⊥) → EndsLine a → EndsLine b → (xs ≡ ys) × (a ≡ b)
one_line [] [] a b e none none' ends ends' = (refl, e)
one_line [] (y ∷ ys) a b e none none' ends ends' = absurd (no_feed_head y ys none' (subst EndsLine e ends))
one_line (x ∷ xs) [] a b e none none' ends ends' = absurd (no_feed_head x xs none (subst EndsLine (sym e) ends'))
one_line (x ∷ xs) (y ∷ ys) a b e none none' ends ends' =
    let head = cons_head x y (xs ++ a) (ys ++ b) e in
    let rest = one_line xs ys a b (cons_tail x y (xs ++ a) (ys ++ b) e) (no_feed_tail x xs none) (no_feed_tail y ys none') ends ends' in
    (cc (head, rest.0), rest.1)

-- the comments with an end at one place are one
abbrev EndsOnce : List ℕ → Type 0
EndsOnce inside = (front back : List ℕ) → inside ++ codes "*/" ≡ front ++ (codes "*/" ++ back) → back ≡ []

shorter_comment : (xs ys a b : List ℕ) → (xs ++ codes "*/") ++ a ≡ (ys ++ codes "*/") ++ b → EndsOnce ys → length xs ≤ length ys → (xs ≡ ys) × (a ≡ b)
shorter_comment xs ys a b e once l =
    let sizes = length-append xs (42 ∷ 47 ∷ []) in
    let sizes' = length-append ys (42 ∷ 47 ∷ []) in
    let x = extends (xs ++ codes "*/") (ys ++ codes "*/") a b e (omega arith) in
    let none = once xs x.more (x.long_is ∙ append_assoc xs (codes "*/") x.more) in
    let same : ys ++ codes "*/" ≡ xs ++ codes "*/" = x.long_is ∙ ap (λ m. (xs ++ codes "*/") ++ m) none ∙ append-nil (xs ++ codes "*/") in
    (sym (append_cancel_right ys xs (codes "*/") same), x.after_is ∙ ap (λ m. m ++ b) none)

one_comment : (xs ys a b : List ℕ) → (xs ++ codes "*/") ++ a ≡ (ys ++ codes "*/") ++ b → EndsOnce xs → EndsOnce ys → (xs ≡ ys) × (a ≡ b)
one_comment xs ys a b e once once' = ⊎_elim
    (λ shorter. shorter_comment xs ys a b e once' (omega arith))
    (λ longer. let r = shorter_comment ys xs b a (sym e) once longer in (sym r.0, sym r.1))
    (cases_lt (length xs) (length ys))

-- the pieces at one place are one
pub one_piece : (p q : Piece) (a b : List ℕ) → piece_text p ++ a ≡ piece_text q ++ b → IsPiece p a → IsPiece q b → (p ≡ q) × (a ≡ b)
one_piece (blank x) (blank y) a b e h k = (ap blank (cons_head x y a b e), cons_tail x y a b e)
one_piece (blank x) (line_comment ys) a b e h k = absurd (blank_apart x 47 a (47 ∷ (ys ++ b)) h refl e)
one_piece (blank x) (block_comment ys) a b e h k = absurd (blank_apart x 47 a (42 ∷ ((ys ++ codes "*/") ++ b)) h refl e)
one_piece (blank x) (token j ys) a b e h k = absurd (blank_token x j ys a b h k.0 e)
one_piece (line_comment xs) (blank y) a b e h k = absurd (blank_apart y 47 b (47 ∷ (xs ++ a)) k refl (sym e))
one_piece (line_comment xs) (line_comment ys) a b e h k =
    let r = one_line xs ys a b (cons_tail 47 47 (xs ++ a) (ys ++ b) (cons_tail 47 47 (47 ∷ (xs ++ a)) (47 ∷ (ys ++ b)) e)) h.0 k.0 h.1 k.1 in
    (ap line_comment r.0, r.1)
one_piece (line_comment xs) (block_comment ys) a b e h k = absurd (marks_apart (xs ++ a) ((ys ++ codes "*/") ++ b) e)
one_piece (line_comment xs) (token j ys) a b e h k = absurd (k.2 (xs ++ a, sym e))
one_piece (block_comment xs) (blank y) a b e h k = absurd (blank_apart y 47 b (42 ∷ ((xs ++ codes "*/") ++ a)) k refl (sym e))
one_piece (block_comment xs) (line_comment ys) a b e h k = absurd (marks_apart (ys ++ b) ((xs ++ codes "*/") ++ a) (sym e))
one_piece (block_comment xs) (block_comment ys) a b e h k =
    let r = one_comment xs ys a b (cons_tail 42 42 ((xs ++ codes "*/") ++ a) ((ys ++ codes "*/") ++ b) (cons_tail 47 47 (42 ∷ ((xs ++ codes "*/") ++ a)) (42 ∷ ((ys ++ codes "*/") ++ b)) e)) h k in
    (ap block_comment r.0, r.1)
one_piece (block_comment xs) (token j ys) a b e h k = absurd (k.3 ((xs ++ codes "*/") ++ a, sym e))
one_piece (token j xs) (blank y) a b e h k = absurd (blank_token y j xs b a k h.0 (sym e))
one_piece (token j xs) (line_comment ys) a b e h k = absurd (h.2 (ys ++ b, e))
one_piece (token j xs) (block_comment ys) a b e h k = absurd (h.3 ((ys ++ codes "*/") ++ b, e))
one_piece (token i xs) (token j ys) a b e h k =
    let r = one_token i j xs ys a b e h.0 h.1 k.0 k.1 in
    let kind = one_kind i j xs h.0 (subst (IsToken j) (sym r.0) k.0) in
    (cc (kind, r.0), r.1)

-- a piece has a byte
pub piece_some : (p : Piece) (after : List ℕ) → IsPiece p after → piece_text p ≢ []
piece_some (blank b) after h e = cc
piece_some (line_comment xs) after h e = cc
piece_some (block_comment xs) after h e = cc
piece_some (token k bytes) after h e = token_some k bytes h.0 e

-- no piece begins there
abbrev pub IsStuck : List ℕ → Type 0
IsStuck rest = (p : Piece) (after : List ℕ) → rest ≡ piece_text p ++ after → IsPiece p after → ⊥

pub append_some : (xs ys : List ℕ) → xs ≢ [] → [] ≡ xs ++ ys → ⊥
append_some [] ys some e = some refl
append_some (x ∷ xs) ys some e = cc

pub end_stuck : IsStuck []
end_stuck p after e h = append_some (piece_text p) after (piece_some p after h) e

-- the pieces up to where no piece begins are the same
pub one_cut : (ps qs : List Piece) (a b : List ℕ) → pieces_text ps ++ a ≡ pieces_text qs ++ b → ArePieces ps a → ArePieces qs b → IsStuck a → IsStuck b → (ps ≡ qs) × (a ≡ b)
one_cut [] [] a b e h k s t = (refl, e)
one_cut [] (q ∷ qs) a b e h k s t = absurd (s q (pieces_text qs ++ b) (e ∙ append_assoc (piece_text q) (pieces_text qs) b) k.0)
one_cut (p ∷ ps) [] a b e h k s t = absurd (t p (pieces_text ps ++ a) (sym e ∙ append_assoc (piece_text p) (pieces_text ps) a) h.0)
one_cut (p ∷ ps) (q ∷ qs) a b e h k s t =
    let here = one_piece p q (pieces_text ps ++ a) (pieces_text qs ++ b) (sym (append_assoc (piece_text p) (pieces_text ps) a) ∙ e ∙ append_assoc (piece_text q) (pieces_text qs) b) h.0 k.0 in
    let rest = one_cut ps qs a b here.1 h.1 k.1 s t in
    (cc (here.0, rest.0), rest.1)
