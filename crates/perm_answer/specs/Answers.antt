-- The texts and statuses of answers.
use Rattle.std.specs.Prelude.{ℕ, ℤ, List, [], ◌∷◌, ◌++◌, codes, flat_map}
use Rattle.std.specs.Fmt.{decimal, signed_decimal}
use Rattle.perm_tree.specs.declared.errors.LexError.{LexError}
use Rattle.perm_tree.specs.declared.errors.LexError.TheVariants as lexical
use Rattle.perm_tree.specs.declared.errors.ParseError.{ParseError}
use Rattle.perm_tree.specs.declared.errors.ParseError.TheVariants as syntactic
use Rattle.perm_tree.specs.declared.errors.TableError.{TableError}
use Rattle.perm_tree.specs.declared.errors.TableError.TheVariants as table
use Rattle.perm_tree.specs.declared.errors.TrapKind.{TrapKind}
use Rattle.perm_tree.specs.declared.errors.TrapKind.TheVariants as traps
use Rattle.perm_tree.specs.declared.errors.TypeKind.{TypeKind}
use Rattle.perm_tree.specs.declared.errors.TypeKind.TheVariants as typing
use Rattle.perm_tree.specs.declared.place.Place.{Place}
use Rattle.perm_answer.specs.declared.Answer.{Answer}
use Rattle.perm_answer.specs.declared.Answer.TheVariants.{Usage, ReadFault, TooLong, Lex, Syntax, Table, Typing, Done, Trap, OutOfTurns, HeapFull}
use Rattle.perm_answer.specs.declared.Which.{Which}
use Rattle.perm_answer.specs.declared.Which.TheVariants.{Program, Input}

-- ---------- refusals ----------
-- the word of a lexical refusal
abbrev pub lex_word_of : LexError → List ℕ
lex_word_of (lexical.BadByte at) = codes "BadByte"
lex_word_of (lexical.NumberTooLarge span) = codes "NumberTooLarge"
lex_word_of (lexical.UnclosedComment at) = codes "UnclosedComment"
lex_word_of lexical.NoMemory = []

-- the word of a syntactic refusal
abbrev pub syntax_word_of : ParseError → List ℕ
syntax_word_of (syntactic.Unexpected token) = codes "Unexpected"
syntax_word_of (syntactic.TooDeep token) = codes "TooDeep"
syntax_word_of syntactic.NoMemory = []

-- the word of a refusal of names
abbrev pub table_word_of : TableError → List ℕ
table_word_of (table.DuplicateName span) = codes "DuplicateName"
table_word_of (table.UnknownClass span) = codes "UnknownClass"
table_word_of table.NoMain = codes "NoMain"
table_word_of (table.BadMain span) = codes "BadMain"
table_word_of (table.TooMany span limit) = codes "TooMany"
table_word_of table.NoMemory = []

-- the word of a refusal of typing
abbrev pub type_word_of : TypeKind → List ℕ
type_word_of typing.UnknownName = codes "UnknownName"
type_word_of typing.WrongKind = codes "WrongKind"
type_word_of typing.Gone = codes "Gone"
type_word_of typing.NeedsConsume = codes "NeedsConsume"
type_word_of typing.NotAllowedThrough = codes "NotAllowedThrough"
type_word_of typing.PermissionTooWeak = codes "PermissionTooWeak"
type_word_of typing.Hidden = codes "Hidden"
type_word_of typing.BadGive = codes "BadGive"
type_word_of typing.ParShared = codes "ParShared"
type_word_of typing.ParPermission = codes "ParPermission"

-- ---------- ends of runs ----------
-- the word of a trap
abbrev pub trap_word_of : TrapKind → List ℕ
trap_word_of traps.DivideByZero = codes "DivideByZero"
trap_word_of traps.NullReference = codes "NullReference"
trap_word_of traps.IndexOutOfRange = codes "IndexOutOfRange"
trap_word_of traps.Overflow = codes "Overflow"
trap_word_of traps.StackOverflow = codes "StackOverflow"

-- ---------- answers that are told ----------
-- want of memory is no refusal that is told
abbrev pub IsTold : Answer → Type 0
IsTold (Lex lexical.NoMemory place) = ⊥
IsTold (Syntax syntactic.NoMemory place) = ⊥
IsTold (Table table.NoMemory place) = ⊥
IsTold _ = Unit {0}

-- ---------- texts ----------
-- a line ends with a line feed
abbrev pub line : List ℕ → List ℕ
line bytes = bytes ++ 10 ∷ []

-- the line and the column, in decimal
abbrev pub place_text : Place → List ℕ
place_text place = decimal place.line ++ (codes ":" ++ decimal place.column)

-- what is told with a place: what it is, its word and the place
abbrev pub placed_line : List ℕ → List ℕ → Place → List ℕ
placed_line stage word place = line (stage ++ (word ++ (codes " " ++ place_text place)))

-- a line with a number behind some bytes
abbrev pub number_line : List ℕ → ℤ → List ℕ
number_line front n = line (front ++ signed_decimal n)

-- each printed number on a line of its own
abbrev pub printed_text : List ℤ → List ℕ
printed_text numbers = flat_map (number_line []) numbers

-- the printed numbers, and the line of the end
abbrev pub run_text : List ℤ → List ℕ → List ℕ
run_text printed end = printed_text printed ++ end

-- the name of a file
abbrev pub file_word : Which → List ℕ
file_word Program = codes "program"
file_word Input = codes "input"

-- the text of an answer
abbrev pub text_of : Answer → List ℕ
text_of Usage = line (codes "usage: permrun [--check] [--workers N] [--turns N] [--heap N] [--dump] [--stats] (PROGRAM [INPUT] | --make SIZE [--from N])")
text_of (ReadFault which) = line (codes "read fault " ++ file_word which)
text_of (TooLong which) = line (codes "too long " ++ file_word which)
text_of (Lex error place) = placed_line (codes "lex ") (lex_word_of error) place
text_of (Syntax error place) = placed_line (codes "syntax ") (syntax_word_of error) place
text_of (Table table.NoMain place) = line (codes "table NoMain")
text_of (Table error place) = placed_line (codes "table ") (table_word_of error) place
text_of (Typing error place) = placed_line (codes "type ") (type_word_of error.kind) place
text_of (Done returned run) = run_text run.printed (number_line (codes "done ") returned)
text_of (Trap kind place run) = run_text run.printed (placed_line (codes "trap ") (trap_word_of kind) place)
text_of (OutOfTurns run) = run_text run.printed (line (codes "out of turns"))
text_of HeapFull = line (codes "heap full")

-- the status of an answer
abbrev pub status : Answer → ℕ
status Usage = 2
status (ReadFault which) = 3
status (TooLong which) = 4
status (Lex error place) = 10
status (Syntax error place) = 11
status (Table error place) = 12
status (Typing error place) = 13
status (Done returned run) = 0
status (Trap kind place run) = 20
status (OutOfTurns run) = 21
status HeapFull = 22
