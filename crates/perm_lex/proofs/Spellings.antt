-- The table of spellings: keywords are words and signs are not, and each spelling is that of one kind.
use Rattle.std.proofs.Common.{◌≡◌, ◌≢◌, ℕ, Bool as Boolean, false, ◌⊎◌, inl, inr, List, [], ◌∷◌, ◌++◌, length, Option, Some, None, unwrap_or, sym, refl, subst, leb, find, ap}
use Rattle.std.specs.Prelude.{bytes_eq, IsTrue, slice_index}
use Rattle.std.specs.List.{list_all}
use Rattle.perm_tree.specs.declared.tokens.TokenKind.{TokenKind}
use Rattle.perm_tree.specs.declared.tokens.TokenKind.TheVariants.{Name, Number, Class, Long, Bool, Isolated, Immutable, Readable, Writable, This, Null, True, False, New, Consume, Recover, Give, Par, Parfor, If, Else, While, Print, Return, Language, OpenBrace, CloseBrace, OpenParen, CloseParen, OpenBracket, CloseBracket, Semicolon, Comma, Dot, Assign, Equal, Differs, Less, AtMost, Greater, AtLeast, Plus, Minus, Star, Slash, Percent, Bang, And, Or}
use Rattle.perm_lex.specs.declared.table.TheConstants.{KEYWORDS, SIGNS}
use Rattle.perm_lex.specs.Tokens.{spelling, IsWord, is_word_byte}

-- one of a list of kinds
abbrev pub Among : TokenKind → List TokenKind → Type 0
Among k [] = ⊥
Among k (j ∷ js) = (k ≡ j) ⊎ Among k js

abbrev pub IsKeyword : TokenKind → List ℕ → Type 0
IsKeyword k bytes = IsWord bytes × Among k KEYWORDS

abbrev pub IsSign : TokenKind → List ℕ → Type 0
IsSign k bytes = (bytes ≢ []) × (is_word_byte (slice_index bytes 0) ≡ false) × Among k SIGNS

abbrev Shape : TokenKind → Option (List ℕ) → Type 0
Shape k None = Unit {0}
Shape k (Some bytes) = IsKeyword k bytes ⊎ IsSign k bytes

cons_not_nil : (x : ℕ) (xs : List ℕ) → x ∷ xs ≢ []
cons_not_nil x xs e = cc

shape : (k : TokenKind) → Shape k (spelling k)
shape Name = tt
shape Number = tt
shape Class = inl ((refl, refl), inl refl)
shape Long = inl ((refl, refl), inr (inl refl))
shape Bool = inl ((refl, refl), inr (inr (inl refl)))
shape Isolated = inl ((refl, refl), inr (inr (inr (inl refl))))
shape Immutable = inl ((refl, refl), inr (inr (inr (inr (inl refl)))))
shape Readable = inl ((refl, refl), inr (inr (inr (inr (inr (inl refl))))))
shape Writable = inl ((refl, refl), inr (inr (inr (inr (inr (inr (inl refl)))))))
shape This = inl ((refl, refl), inr (inr (inr (inr (inr (inr (inr (inl refl))))))))
shape Null = inl ((refl, refl), inr (inr (inr (inr (inr (inr (inr (inr (inl refl)))))))))
shape True = inl ((refl, refl), inr (inr (inr (inr (inr (inr (inr (inr (inr (inl refl))))))))))
shape False = inl ((refl, refl), inr (inr (inr (inr (inr (inr (inr (inr (inr (inr (inl refl)))))))))))
shape New = inl ((refl, refl), inr (inr (inr (inr (inr (inr (inr (inr (inr (inr (inr (inl refl))))))))))))
shape Consume = inl ((refl, refl), inr (inr (inr (inr (inr (inr (inr (inr (inr (inr (inr (inr (inl refl)))))))))))))
shape Recover = inl ((refl, refl), inr (inr (inr (inr (inr (inr (inr (inr (inr (inr (inr (inr (inr (inl refl))))))))))))))
shape Give = inl ((refl, refl), inr (inr (inr (inr (inr (inr (inr (inr (inr (inr (inr (inr (inr (inr (inl refl)))))))))))))))
shape Par = inl ((refl, refl), inr (inr (inr (inr (inr (inr (inr (inr (inr (inr (inr (inr (inr (inr (inr (inl refl))))))))))))))))
shape Parfor = inl ((refl, refl), inr (inr (inr (inr (inr (inr (inr (inr (inr (inr (inr (inr (inr (inr (inr (inr (inl refl)))))))))))))))))
shape If = inl ((refl, refl), inr (inr (inr (inr (inr (inr (inr (inr (inr (inr (inr (inr (inr (inr (inr (inr (inr (inl refl))))))))))))))))))
shape Else = inl ((refl, refl), inr (inr (inr (inr (inr (inr (inr (inr (inr (inr (inr (inr (inr (inr (inr (inr (inr (inr (inl refl)))))))))))))))))))
shape While = inl ((refl, refl), inr (inr (inr (inr (inr (inr (inr (inr (inr (inr (inr (inr (inr (inr (inr (inr (inr (inr (inr (inl refl))))))))))))))))))))
shape Print = inl ((refl, refl), inr (inr (inr (inr (inr (inr (inr (inr (inr (inr (inr (inr (inr (inr (inr (inr (inr (inr (inr (inr (inl refl)))))))))))))))))))))
shape Return = inl ((refl, refl), inr (inr (inr (inr (inr (inr (inr (inr (inr (inr (inr (inr (inr (inr (inr (inr (inr (inr (inr (inr (inr (inl refl))))))))))))))))))))))
shape Language = inl ((refl, refl), inr (inr (inr (inr (inr (inr (inr (inr (inr (inr (inr (inr (inr (inr (inr (inr (inr (inr (inr (inr (inr (inr (inl refl)))))))))))))))))))))))
shape OpenBrace = inr (cons_not_nil _ _, refl, inr (inr (inr (inr (inr (inr (inl refl)))))))
shape CloseBrace = inr (cons_not_nil _ _, refl, inr (inr (inr (inr (inr (inr (inr (inl refl))))))))
shape OpenParen = inr (cons_not_nil _ _, refl, inr (inr (inr (inr (inr (inr (inr (inr (inl refl)))))))))
shape CloseParen = inr (cons_not_nil _ _, refl, inr (inr (inr (inr (inr (inr (inr (inr (inr (inl refl))))))))))
shape OpenBracket = inr (cons_not_nil _ _, refl, inr (inr (inr (inr (inr (inr (inr (inr (inr (inr (inl refl)))))))))))
shape CloseBracket = inr (cons_not_nil _ _, refl, inr (inr (inr (inr (inr (inr (inr (inr (inr (inr (inr (inl refl))))))))))))
shape Semicolon = inr (cons_not_nil _ _, refl, inr (inr (inr (inr (inr (inr (inr (inr (inr (inr (inr (inr (inl refl)))))))))))))
shape Comma = inr (cons_not_nil _ _, refl, inr (inr (inr (inr (inr (inr (inr (inr (inr (inr (inr (inr (inr (inl refl))))))))))))))
shape Dot = inr (cons_not_nil _ _, refl, inr (inr (inr (inr (inr (inr (inr (inr (inr (inr (inr (inr (inr (inr (inl refl)))))))))))))))
shape Assign = inr (cons_not_nil _ _, refl, inr (inr (inr (inr (inr (inr (inr (inr (inr (inr (inr (inr (inr (inr (inr (inl refl))))))))))))))))
shape Equal = inr (cons_not_nil _ _, refl, inl refl)
shape Differs = inr (cons_not_nil _ _, refl, inr (inl refl))
shape Less = inr (cons_not_nil _ _, refl, inr (inr (inr (inr (inr (inr (inr (inr (inr (inr (inr (inr (inr (inr (inr (inr (inl refl)))))))))))))))))
shape AtMost = inr (cons_not_nil _ _, refl, inr (inr (inl refl)))
shape Greater = inr (cons_not_nil _ _, refl, inr (inr (inr (inr (inr (inr (inr (inr (inr (inr (inr (inr (inr (inr (inr (inr (inr (inl refl))))))))))))))))))
shape AtLeast = inr (cons_not_nil _ _, refl, inr (inr (inr (inl refl))))
shape Plus = inr (cons_not_nil _ _, refl, inr (inr (inr (inr (inr (inr (inr (inr (inr (inr (inr (inr (inr (inr (inr (inr (inr (inr (inl refl)))))))))))))))))))
shape Minus = inr (cons_not_nil _ _, refl, inr (inr (inr (inr (inr (inr (inr (inr (inr (inr (inr (inr (inr (inr (inr (inr (inr (inr (inr (inl refl))))))))))))))))))))
shape Star = inr (cons_not_nil _ _, refl, inr (inr (inr (inr (inr (inr (inr (inr (inr (inr (inr (inr (inr (inr (inr (inr (inr (inr (inr (inr (inl refl)))))))))))))))))))))
shape Slash = inr (cons_not_nil _ _, refl, inr (inr (inr (inr (inr (inr (inr (inr (inr (inr (inr (inr (inr (inr (inr (inr (inr (inr (inr (inr (inr (inl refl))))))))))))))))))))))
shape Percent = inr (cons_not_nil _ _, refl, inr (inr (inr (inr (inr (inr (inr (inr (inr (inr (inr (inr (inr (inr (inr (inr (inr (inr (inr (inr (inr (inr (inl refl)))))))))))))))))))))))
shape Bang = inr (cons_not_nil _ _, refl, inr (inr (inr (inr (inr (inr (inr (inr (inr (inr (inr (inr (inr (inr (inr (inr (inr (inr (inr (inr (inr (inr (inr (inl refl))))))))))))))))))))))))
shape And = inr (cons_not_nil _ _, refl, inr (inr (inr (inr (inl refl)))))
shape Or = inr (cons_not_nil _ _, refl, inr (inr (inr (inr (inr (inl refl))))))

-- what is spelled is a keyword or a sign
pub spelled : (k : TokenKind) (bytes : List ℕ) → spelling k ≡ Some bytes → IsKeyword k bytes ⊎ IsSign k bytes
spelled k bytes e = subst (Shape k) e (shape k)

abbrev all_kinds : List TokenKind
all_kinds = KEYWORDS ++ SIGNS

abbrev pub spells : List ℕ → TokenKind → Boolean
spells bytes k = bytes_eq (unwrap_or (spelling k) []) bytes

abbrev ReadsBack : TokenKind → Option (List ℕ) → Type 0
ReadsBack k None = Unit {0}
ReadsBack k (Some bytes) = find (spells bytes) all_kinds ≡ Some k

reads_back : (k : TokenKind) → ReadsBack k (spelling k)
reads_back Name = tt
reads_back Number = tt
reads_back Class = refl
reads_back Long = refl
reads_back Bool = refl
reads_back Isolated = refl
reads_back Immutable = refl
reads_back Readable = refl
reads_back Writable = refl
reads_back This = refl
reads_back Null = refl
reads_back True = refl
reads_back False = refl
reads_back New = refl
reads_back Consume = refl
reads_back Recover = refl
reads_back Give = refl
reads_back Par = refl
reads_back Parfor = refl
reads_back If = refl
reads_back Else = refl
reads_back While = refl
reads_back Print = refl
reads_back Return = refl
reads_back Language = refl
reads_back OpenBrace = refl
reads_back CloseBrace = refl
reads_back OpenParen = refl
reads_back CloseParen = refl
reads_back OpenBracket = refl
reads_back CloseBracket = refl
reads_back Semicolon = refl
reads_back Comma = refl
reads_back Dot = refl
reads_back Assign = refl
reads_back Equal = refl
reads_back Differs = refl
reads_back Less = refl
reads_back AtMost = refl
reads_back Greater = refl
reads_back AtLeast = refl
reads_back Plus = refl
reads_back Minus = refl
reads_back Star = refl
reads_back Slash = refl
reads_back Percent = refl
reads_back Bang = refl
reads_back And = refl
reads_back Or = refl

-- two kinds have two spellings
pub same_kind : (j k : TokenKind) (bytes : List ℕ) → spelling j ≡ Some bytes → spelling k ≡ Some bytes → j ≡ k
same_kind j k bytes e f =
    let a = subst (ReadsBack j) e (reads_back j) in
    let b = subst (ReadsBack k) f (reads_back k) in cc

-- from a list that is not empty, a spelling is read back
pub spelled_so : (k : TokenKind) (bytes : List ℕ) → bytes ≢ [] → unwrap_or (spelling k) [] ≡ bytes → spelling k ≡ Some bytes
spelled_so k bytes some = go (spelling k) bytes some
  where
    go : (o : Option (List ℕ)) (bytes : List ℕ) → bytes ≢ [] → unwrap_or o [] ≡ bytes → o ≡ Some bytes
    go None bytes some e = absurd (some (sym e))
    go (Some x) bytes some e = ap Some e

-- no later sign of the list is longer
abbrev pub IsDescending : List TokenKind → Type 0
IsDescending [] = Unit {0}
IsDescending (k ∷ ks) = IsTrue (list_all (λ j. leb (length (unwrap_or (spelling j) [])) (length (unwrap_or (spelling k) []))) ks) × IsDescending ks

pub descending : IsDescending SIGNS
descending = (refl, (refl, (refl, (refl, (refl, (refl, (refl, (refl, (refl, (refl, (refl, (refl, (refl, (refl, (refl, (refl, (refl, (refl, (refl, (refl, (refl, (refl, (refl, (refl, tt))))))))))))))))))))))))
