-- What a token is.
use Rattle.std.specs.Prelude.{◌≡◌, ◌≢◌, ℕ, ◌==◌, Bool as Boolean, ◌||◌, List, [], ◌∷◌, ◌++◌, codes, Option, Some, None, IsTrue}
use Rattle.std.specs.Char.{is_ascii_alphabetic, is_ascii_digit}
use Rattle.std.specs.List.{list_all}
use Rattle.std.specs.Str.Parse.{digits_value}
use Rattle.perm_tree.specs.declared.tokens.TokenKind.{TokenKind}
use Rattle.perm_tree.specs.declared.tokens.TokenKind.TheVariants.{Name, Number, Class, Long, Bool, Isolated, Immutable, Readable, Writable, This, Null, True, False, New, Consume, Recover, Give, Par, Parfor, If, Else, While, Print, Return, Language, OpenBrace, CloseBrace, OpenParen, CloseParen, OpenBracket, CloseBracket, Semicolon, Comma, Dot, Assign, Equal, Differs, Less, AtMost, Greater, AtLeast, Plus, Minus, Star, Slash, Percent, Bang, And, Or}

-- a letter of either case, or `_`
abbrev pub is_letter : ℕ → Boolean
is_letter b = is_ascii_alphabetic b || b == 95

-- a letter, `_` or a digit
abbrev pub is_word_byte : ℕ → Boolean
is_word_byte b = is_letter b || is_ascii_digit b

-- the one spelling of a keyword or a sign
abbrev pub spelling : TokenKind → Option (List ℕ)
spelling Class = Some (codes "class")
spelling Long = Some (codes "long")
spelling Bool = Some (codes "bool")
spelling Isolated = Some (codes "isolated")
spelling Immutable = Some (codes "immutable")
spelling Readable = Some (codes "readable")
spelling Writable = Some (codes "writable")
spelling This = Some (codes "this")
spelling Null = Some (codes "null")
spelling True = Some (codes "true")
spelling False = Some (codes "false")
spelling New = Some (codes "new")
spelling Consume = Some (codes "consume")
spelling Recover = Some (codes "recover")
spelling Give = Some (codes "give")
spelling Par = Some (codes "par")
spelling Parfor = Some (codes "parfor")
spelling If = Some (codes "if")
spelling Else = Some (codes "else")
spelling While = Some (codes "while")
spelling Print = Some (codes "print")
spelling Return = Some (codes "return")
spelling Language = Some (codes "language")
spelling OpenBrace = Some (codes "{")
spelling CloseBrace = Some (codes "}")
spelling OpenParen = Some (codes "(")
spelling CloseParen = Some (codes ")")
spelling OpenBracket = Some (codes "[")
spelling CloseBracket = Some (codes "]")
spelling Semicolon = Some (codes ";")
spelling Comma = Some (codes ",")
spelling Dot = Some (codes ".")
spelling Assign = Some (codes "=")
spelling Equal = Some (codes "==")
spelling Differs = Some (codes "!=")
spelling Less = Some (codes "<")
spelling AtMost = Some (codes "<=")
spelling Greater = Some (codes ">")
spelling AtLeast = Some (codes ">=")
spelling Plus = Some (codes "+")
spelling Minus = Some (codes "-")
spelling Star = Some (codes "*")
spelling Slash = Some (codes "/")
spelling Percent = Some (codes "%")
spelling Bang = Some (codes "!")
spelling And = Some (codes "&&")
spelling Or = Some (codes "||")
spelling Name = None
spelling Number = None

-- a letter, and then letters and digits
abbrev pub IsWord : List ℕ → Type 0
IsWord [] = ⊥
IsWord (b ∷ bs) = IsTrue (is_letter b) × IsTrue (list_all is_word_byte bs)

-- These bytes alone are a token of this kind: a name is a word that spells no keyword.
abbrev pub IsToken : TokenKind → List ℕ → Type 0
IsToken Name bytes = IsWord bytes × ((k : TokenKind) → spelling k ≢ Some bytes)
IsToken Number bytes = (bytes ≢ []) × IsTrue (list_all is_ascii_digit bytes)
IsToken k bytes = spelling k ≡ Some bytes

-- no token begins as these bytes do and goes on into what stands behind them
abbrev pub IsLongest : List ℕ → List ℕ → Type 0
IsLongest bytes after = (k : TokenKind) (more rest : List ℕ) → after ≡ more ++ rest → IsToken k (bytes ++ more) → more ≡ []

-- the value of a number, and 0 for any other token
abbrev pub value_of : TokenKind → List ℕ → ℕ
value_of Number bytes = digits_value 10 bytes
value_of _ bytes = 0

-- the largest value of a number
abbrev pub largest : ℕ
largest = 9223372036854775807
