-- Questions that are asked of an expression, and what the code's sorts and ties stand for.
use Rattle.std.specs.Prelude.{Bool, true, false, ◌&&◌, is_none}
use Rattle.perm_tree.specs.declared.ast.UnaryOp.{UnaryOp}
use Rattle.perm_tree.specs.declared.ast.BinaryOp.{BinaryOp}
use Rattle.perm_tree.specs.Code as code
use Rattle.perm_tree.specs.Code.{Term, Argument}
use Rattle.perm_tree.specs.Mentions.{any_in_term, any_in_argument}
use Rattle.perm_tree.specs.VarSets.{member}
use Rattle.perm_tree.specs.Vars.{Vars}
use Rattle.perm_rules.specs.Liveness.{dead}
use Rattle.perm_rules.specs.Parts.{Context, type_of}
use Rattle.perm_rules.specs.Permissions.{argument_needs, is_equality, term_needs}
use Rattle.perm_rules.specs.Sorts as rules
use Rattle.perm_rules.specs.Sorts.{argument_wrong, is_null_test, isnt_plain, may_be_reference, operands_misfit, term_sort, term_wrong, unary_type}
use Rattle.perm_flow.specs.declared.sorts.Sort.{Sort}
use Rattle.perm_flow.specs.declared.sorts.Sort.TheVariants.{Unknown, Null, Typed}
use Rattle.perm_flow.specs.declared.terms.Question.{Question}
use Rattle.perm_flow.specs.declared.terms.Question.TheVariants.{Any, Wrong, Needs}
use Rattle.perm_flow.specs.declared.terms.Test.{Test}
use Rattle.perm_flow.specs.declared.terms.Test.TheVariants as tests
use Rattle.perm_flow.specs.declared.ties.Tie.{Tie}
use Rattle.perm_flow.specs.declared.ties.Tie.TheVariants.{Shares, Raises, Lends}

-- what is known of an expression's value
abbrev pub as_sort : Sort → rules.Sort
as_sort Unknown = rules.Unknown
as_sort Null = rules.Null
as_sort (Typed t) = rules.Typed t

-- how a call is tied
abbrev pub as_tie : Tie → code.Tie
as_tie Shares = code.Shares
as_tie Raises = code.Raises
as_tie Lends = code.Lends

-- ---------- questions ----------
-- the variables that pass a test
abbrev pub passes : Context → Test → Vars
passes c tests.Unknown x = is_none (type_of c x)
passes c (tests.Gone live) x = dead (member live) x
passes c (tests.Hidden hidden) x = member hidden x

-- the answer for an expression
abbrev pub answer : Context → Question → Term → Bool
answer c (Any test) e = any_in_term (passes c test) e
answer c Wrong e = term_wrong c e
answer c Needs e = term_needs c e

-- the same of an argument
abbrev pub argument_answer : Context → Question → Argument → Bool
argument_answer c (Any test) a = any_in_argument (passes c test) a
argument_answer c Wrong a = argument_wrong c a
argument_answer c Needs a = argument_needs c a

-- ---------- operators ----------
-- a unary operator answers so, whatever its operand does
abbrev pub unary_answer : Context → Question → UnaryOp → Term → Bool
unary_answer c Wrong op a = isnt_plain (term_sort c a) (unary_type op)
unary_answer c _ op a = false

-- the same of a binary operator
abbrev pub binary_answer : Context → Question → BinaryOp → Term → Term → Bool
binary_answer c Wrong op a b = operands_misfit c op a b
binary_answer c _ op a b = false

-- nothing is asked of the operands
abbrev pub is_passed_over : Context → Question → BinaryOp → Term → Term → Bool
is_passed_over c Needs op a b = is_equality op && is_null_test c a b
is_passed_over c _ op a b = false

-- the term is `null`
abbrev pub is_null : Term → Bool
is_null code.NullLit = true
is_null _ = false

-- the first term is a variable that may be a reference, and the other is `null`
abbrev pub is_beside_null : Context → Term → Term → Bool
is_beside_null c (code.Local x) b = is_null b && may_be_reference (type_of c x)
is_beside_null c _ b = false
