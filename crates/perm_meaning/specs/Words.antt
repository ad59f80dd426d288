-- Values as words of 64 bits: what a running program's variables and its heap hold.
use Rattle.std.specs.Prelude.{ℕ, zero, suc, ◌+◌, ◌*◌, ◌/◌, ◌%◌, ◌^◌, Bool, true, false, not, nat_eq, ℤ, Option, Some}
use Rattle.std.specs.Int.{cast_signed, cast_unsigned}
use mir.Syntax.{w64}
use Rattle.perm_tree.specs.declared.ast.UnaryOp.{UnaryOp}
use Rattle.perm_tree.specs.declared.ast.UnaryOp.TheVariants.{Minus as Negative, Not}
use Rattle.perm_tree.specs.declared.ast.BinaryOp.{BinaryOp}
use Rattle.perm_tree.specs.declared.ast.BinaryOp.TheVariants.{Equal, Differs, And, Or}
use Rattle.perm_meaning.specs.Values.{Value, Number, Truth, Null, Reference, Eval, Gives, Traps, Mistyped, Referred, ToNull, ToObject, on_numbers, negative}
use Rattle.perm_meaning.specs.Expressions.{Reading}

-- the word of a truth value is 0 or 1
abbrev pub truth_word : Bool → ℕ
truth_word true = 1
truth_word false = 0

-- the word of a number is its 64 bits
abbrev pub number_word : ℤ → ℕ
number_word n = cast_unsigned w64 n

-- the word of a reference holds the base plus 1 in the low 32 bits, and the length of an array in the high 32 bits
abbrev pub reference_word : ℕ → ℕ → ℕ
reference_word base len = suc base + len * 2 ^ 32

-- the word of a value whose references are bases; null is 0
abbrev pub word_of : Value ℕ → ℕ
word_of (Number n) = number_word n
word_of (Truth b) = truth_word b
word_of Null = 0
word_of (Reference base len) = reference_word base len

-- ---------- reading words ----------
-- the number that a word holds
abbrev pub number_in : ℕ → ℤ
number_in w = cast_signed w64 w

-- what a reference of these low and high 32 bits refers to
abbrev pub referred_by : ℕ → ℕ → Referred ℕ
referred_by zero len = ToNull
referred_by (suc base) len = ToObject base len

-- what a word refers to, if it is that of a reference
abbrev pub reference_in : ℕ → Referred ℕ
reference_in w = referred_by (w % 2 ^ 32) (w / 2 ^ 32)

-- ---------- operators on words ----------
-- the word of what an operator gives
abbrev pub value_word : Eval (Value ℕ) → Eval ℕ
value_word (Gives v) = Gives (word_of v)
value_word (Traps k) = Traps k
value_word Mistyped = Mistyped

-- two values of one kind are equal where their words are
abbrev pub binary : BinaryOp → ℕ → ℕ → Eval ℕ
binary Equal a b = Gives (truth_word (nat_eq a b))
binary Differs a b = Gives (truth_word (not (nat_eq a b)))
binary And a b = Gives b
binary Or a b = Gives b
binary op a b = value_word (on_numbers op (number_in a) (number_in b))

-- a unary operator on a word
abbrev pub unary : UnaryOp → ℕ → Eval ℕ
unary Negative a = Gives (number_word (negative (number_in a)))
unary Not a = Gives (truth_word (nat_eq a 0))

-- whether the left word decides
abbrev pub decided : BinaryOp → ℕ → Option Bool
decided And a = Some (nat_eq a 0)
decided Or a = Some (not (nat_eq a 0))
decided _ a = Some false

-- variables that hold words. One that loses its value keeps its word, which nothing reads
abbrev pub words : Reading ℕ ℕ
words = record {
  unset = 0;
  cleared = λ w. w;
  value = λ w. Gives w;
  number = number_word;
  truth = truth_word;
  null = 0;
  unary = unary;
  binary = binary;
  decided = decided;
  as_number = λ w. Some (number_in w);
  as_truth = λ w. Some (not (nat_eq w 0));
  as_reference = reference_in;
}
