-- What is still to be written: the texts of parts, whether they fit a program, and how much work they are.
use Rattle.std.specs.Prelude.{◌≡◌, ℕ, suc, ◌+◌, ◌<◌, ◌≤◌, List, [], ◌∷◌, ◌++◌, length, map, reverse, get_or, codes}
use Rattle.std.specs.Fmt.{signed_decimal}
use Rattle.perm_tree.specs.declared.print.part.Part.{Part}
use Rattle.perm_tree.specs.declared.print.part.Part.TheVariants.{Word as Fixed, Indent, Name, Perm, Declared, Target, Receiver, Number, Sign, Operator, Arg as Argument, Expr as Expression, Stmt as Statement}
use Rattle.perm_tree.specs.declared.ast.Shape.{Shape}
use Rattle.perm_tree.specs.declared.ast.Shape.TheVariants.{Class, Array}
use Rattle.perm_tree.specs.declared.ast.Expr.{Expr}
use Rattle.perm_tree.specs.declared.ast.Stmt.{Stmt}
use Rattle.perm_tree.specs.declared.ast.Arg.TheVariants.{Expr as Plain}
use Rattle.perm_tree.specs.Printer.Expressions.{parts_text, word, perm_text, operator_text, sign_text}
use Rattle.perm_tree.specs.Printer.Programs.{Wording, wording, arg_text, declared_text, expr_text, indent, name_text, receiver_text, stmt_texts, target_text}
use Rattle.perm_tree.specs.Entries.{entries_of}
use Rattle.perm_tree.specs.Places.{Listing}
use Rattle.perm_tree.specs.Printer.Parts.{expr_tasks, stmt_tasks, word_text}

-- ---------- texts ----------
-- what stands behind the permission of a reference
abbrev pub shape_word : List (List ℕ) → Shape → List ℕ
shape_word names (Class n) = codes " " ++ word names n
shape_word names Array = codes " long[]"

-- the text of a part, by the texts of statements
abbrev pub part_text_in : Wording → List (ℕ → List ℕ) → Part → List ℕ
part_text_in w texts (Fixed f) = word_text f
part_text_in w texts (Indent d) = indent d
part_text_in w texts (Name x) = name_text w.names x
part_text_in w texts (Perm q) = perm_text q
part_text_in w texts (Declared t x) = declared_text w.names t x
part_text_in w texts (Target t x) = target_text w.names t x
part_text_in w texts (Receiver b x) = receiver_text w.names b x
part_text_in w texts (Number n) = signed_decimal n
part_text_in w texts (Sign o) = sign_text o
part_text_in w texts (Operator o) = operator_text o
part_text_in w texts (Argument a) = arg_text w a
part_text_in w texts (Expression e) = expr_text w e
part_text_in w texts (Statement at d) = get_or texts at (λ d. []) d

-- the text of a part of a program
abbrev pub part_text : Listing → Part → List ℕ
part_text p part = part_text_in (wording p) (stmt_texts p) part

-- the text of a stack, of which the last part is the next one
unfoldable pub rest_text : Listing → List Part → List ℕ
rest_text p stack = parts_text (map (part_text p) (reverse stack))

-- ---------- places ----------
-- the expression or statement of a part is among the first ones, and its indentation isn't deeper than there is room for
abbrev pub Fits : ℕ → ℕ → ℕ → Part → Type 0
Fits exprs stmts room (Argument (Plain e)) = e < exprs
Fits exprs stmts room (Expression e) = e < exprs
Fits exprs stmts room (Statement at d) = (at < stmts) × (d + at ≤ room)
Fits exprs stmts room _ = Unit {0}

-- the same of each part
abbrev pub AllFit : ℕ → ℕ → ℕ → List Part → Type 0
AllFit exprs stmts room [] = Unit {0}
AllFit exprs stmts room (p ∷ ps) = Fits exprs stmts room p × AllFit exprs stmts room ps

-- a part fits a program: a statement stands within no more braces than statements can hold it
abbrev pub IsPart : Listing → Part → Type 0
IsPart p part = Fits (length p.exprs) (length p.stmts) (length p.stmts + 1) part

-- the same of each part
abbrev pub AreParts : Listing → List Part → Type 0
AreParts p parts = AllFit (length p.exprs) (length p.stmts) (length p.stmts + 1) parts

-- ---------- work ----------
-- the sum of some numbers
abbrev pub total : List ℕ → ℕ
total [] = 0
total (n ∷ ns) = n + total ns

-- the number of steps that a part takes, by those of expressions and statements
abbrev pub work_in : List ℕ → List (ℕ → ℕ) → Part → ℕ
work_in exprs stmts (Argument (Plain e)) = suc (suc (get_or exprs e 0))
work_in exprs stmts (Expression e) = suc (get_or exprs e 0)
work_in exprs stmts (Statement at d) = suc (get_or stmts at (λ d. 0) d)
work_in exprs stmts _ = 1

-- the steps of an expression's parts
abbrev pub expr_work : List Expr → List ℕ → Expr → ℕ
expr_work exprs before e = total (map (work_in before []) (expr_tasks exprs e))

-- the steps of a statement's parts
abbrev pub stmt_work : List ℕ → List (ℕ → ℕ) → Stmt → ℕ → ℕ
stmt_work exprs before s depth = total (map (work_in exprs before) (stmt_tasks depth s.kind))

-- the steps of all expressions
abbrev pub exprs_work : List Expr → List ℕ
exprs_work exprs = entries_of (expr_work exprs) exprs

-- the steps of all statements
abbrev pub stmts_work : Listing → List (ℕ → ℕ)
stmts_work p = entries_of (stmt_work (exprs_work p.exprs)) p.stmts

-- the number of steps that a part of a program takes
abbrev pub part_work : Listing → Part → ℕ
part_work p part = work_in (exprs_work p.exprs) (stmts_work p) part

-- the number of steps that a stack takes
abbrev pub rest_work : Listing → List Part → ℕ
rest_work p stack = total (map (part_work p) stack)

-- ---------- steps ----------
-- a part is taken from a stack: its text is written, or it is replaced by the parts of which it is made
pub record Steps (p : Listing) (part : Part) (text text' : List ℕ) (stack stack' : List Part) : Type 0 where
  pub whole : text' ++ rest_text p stack' ≡ text ++ (part_text p part ++ rest_text p stack)
  pub fits : AreParts p stack → AreParts p stack'
  pub less : rest_work p stack' < part_work p part + rest_work p stack

-- a text and a stack are together what they were
pub record Remains (p : Listing) (text text' : List ℕ) (stack stack' : List Part) : Type 0 where
  pub whole : text' ++ rest_text p stack' ≡ text ++ rest_text p stack
  pub fits : AreParts p stack'
