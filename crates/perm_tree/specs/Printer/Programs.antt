-- The canonical text of a program: its statements, methods and classes.
use Rattle.std.specs.Prelude.{ℕ, zero, suc, ◌+◌, Bool, true, false, nat_le, if◌then◌else◌, List, [], ◌∷◌, ◌++◌, map, flat_map, get_or, codes, Option, Some, None}
use Rattle.perm_tree.specs.declared.ast.Ident.{Ident}
use Rattle.perm_tree.specs.declared.ast.Ty.{Ty}
use Rattle.perm_tree.specs.declared.ast.FieldDecl.{FieldDecl}
use Rattle.perm_tree.specs.declared.ast.Arg.{Arg}
use Rattle.perm_tree.specs.declared.ast.Arg.TheVariants.{Expr as Plain, Consume}
use Rattle.perm_tree.specs.declared.ast.Call.{Call}
use Rattle.perm_tree.specs.declared.ast.Block.{Block}
use Rattle.perm_tree.specs.declared.ast.Rhs.{Rhs}
use Rattle.perm_tree.specs.declared.ast.Rhs.TheVariants as right
use Rattle.perm_tree.specs.declared.ast.Stmt.{Stmt}
use Rattle.perm_tree.specs.declared.ast.StmtKind.{StmtKind}
use Rattle.perm_tree.specs.declared.ast.StmtKind.TheVariants as form
use Rattle.perm_tree.specs.declared.ast.Method.{Method}
use Rattle.perm_tree.specs.declared.ast.ClassDecl.{ClassDecl}
use Rattle.perm_tree.specs.Printer.Expressions.{parts_text, word, perm_text, type_text, ExprText, expr_text_at, expr_texts_of}
use Rattle.perm_tree.specs.Entries.{entries_of}
use Rattle.perm_tree.specs.Places.{Listing}

-- what statements are written with: the words of the names, and all expressions written down
pub record Wording : Type 0 where
  pub names : List (List ℕ)
  pub expr_texts : List ExprText

-- the wording of a program
abbrev pub wording : Listing → Wording
wording p = record { names = p.names; expr_texts = expr_texts_of p.names p.exprs }

-- ---------- parts of a line ----------
-- two spaces for each open brace
abbrev pub indent : ℕ → List ℕ
indent zero = []
indent (suc depth) = 32 ∷ 32 ∷ indent depth

-- a name where it stands
abbrev pub name_text : List (List ℕ) → Ident → List ℕ
name_text names x = word names x.name

-- a receiver, which may be consumed
abbrev pub receiver_text : List (List ℕ) → Bool → Ident → List ℕ
receiver_text names true y = parts_text (codes "(consume " ∷ name_text names y ∷ codes ")" ∷ [])
receiver_text names false y = name_text names y

-- a type and a name
abbrev pub declared_text : List (List ℕ) → Ty → Ident → List ℕ
declared_text names t x = parts_text (type_text names t ∷ codes " " ∷ name_text names x ∷ [])

-- the left side of an assignment, which may declare its variable
abbrev pub target_text : List (List ℕ) → Option Ty → Ident → List ℕ
target_text names None x = name_text names x
target_text names (Some t) x = declared_text names t x

-- the expression at a place
abbrev pub expr_text : Wording → ℕ → List ℕ
expr_text w e = (expr_text_at w.expr_texts e).text

-- a value that is handed over
abbrev pub arg_text : Wording → Arg → List ℕ
arg_text w (Plain e) = expr_text w e
arg_text w (Consume y) = parts_text (codes "consume " ∷ name_text w.names y ∷ [])

-- arguments behind another one
abbrev pub more_args_parts : Wording → List Arg → List (List ℕ)
more_args_parts w [] = []
more_args_parts w (a ∷ args) = codes ", " ∷ arg_text w a ∷ more_args_parts w args

-- arguments with `, ` between them
abbrev pub args_parts : Wording → List Arg → List (List ℕ)
args_parts w [] = []
args_parts w (a ∷ args) = arg_text w a ∷ more_args_parts w args

-- a call
abbrev pub call_parts : Wording → Call → List (List ℕ)
call_parts w c = receiver_text w.names c.consumed c.on ∷ codes "." ∷ name_text w.names c.«method» ∷ codes "(" ∷ (args_parts w c.args ++ codes ")" ∷ [])

-- ---------- statements ----------
-- the statements of a block at an indentation, each by its place
abbrev pub block_parts : List (ℕ → List ℕ) → ℕ → List ℕ → List (List ℕ)
block_parts texts depth is = map (λ i. get_or texts i (λ d. []) depth) is

-- the right side of an assignment and the end of its line; a recover block goes on over more lines
abbrev pub rhs_parts : Wording → List (ℕ → List ℕ) → ℕ → Rhs → List (List ℕ)
rhs_parts w texts depth (right.Value a) = arg_text w a ∷ codes ";\n" ∷ []
rhs_parts w texts depth (right.Field y f) = name_text w.names y ∷ codes "." ∷ name_text w.names f ∷ codes ";\n" ∷ []
rhs_parts w texts depth (right.TakeField y f) = codes "consume " ∷ name_text w.names y ∷ codes "." ∷ name_text w.names f ∷ codes ";\n" ∷ []
rhs_parts w texts depth (right.Item y e) = name_text w.names y ∷ codes "[" ∷ expr_text w e ∷ codes "];\n" ∷ []
rhs_parts w texts depth (right.New c) = codes "new " ∷ name_text w.names c ∷ codes "();\n" ∷ []
rhs_parts w texts depth (right.NewArray e) = codes "new long[" ∷ expr_text w e ∷ codes "];\n" ∷ []
rhs_parts w texts depth (right.Call c) = call_parts w c ++ codes ";\n" ∷ []
rhs_parts w texts depth (right.Recover b y give) =
    codes "recover {\n" ∷ (block_parts texts (depth + 1) b.stmts
    ++ indent (depth + 1) ∷ codes "give " ∷ name_text w.names y ∷ codes ";\n"
    ∷ indent depth ∷ codes "};\n" ∷ [])

-- what stands behind the first block of an `if`
abbrev pub else_parts : List (ℕ → List ℕ) → ℕ → Option Block → List (List ℕ)
else_parts texts depth None = indent depth ∷ codes "}\n" ∷ []
else_parts texts depth (Some b) = indent depth ∷ codes "} else {\n" ∷ (block_parts texts (depth + 1) b.stmts ++ indent depth ∷ codes "}\n" ∷ [])

-- the lines of a statement at an indentation, by the texts of the statements that stand before it
abbrev pub stmt_parts : Wording → List (ℕ → List ℕ) → ℕ → StmtKind → List (List ℕ)
stmt_parts w texts depth (form.Declare t x) = indent depth ∷ declared_text w.names t x ∷ codes ";\n" ∷ []
stmt_parts w texts depth (form.Assign t x r) = indent depth ∷ target_text w.names t x ∷ codes " = " ∷ rhs_parts w texts depth r
stmt_parts w texts depth (form.SetField y f a) = indent depth ∷ name_text w.names y ∷ codes "." ∷ name_text w.names f ∷ codes " = " ∷ arg_text w a ∷ codes ";\n" ∷ []
stmt_parts w texts depth (form.SetItem y i e) = indent depth ∷ name_text w.names y ∷ codes "[" ∷ expr_text w i ∷ codes "] = " ∷ expr_text w e ∷ codes ";\n" ∷ []
stmt_parts w texts depth (form.Call c) = indent depth ∷ (call_parts w c ++ codes ";\n" ∷ [])
stmt_parts w texts depth (form.Print e) = indent depth ∷ codes "print " ∷ expr_text w e ∷ codes ";\n" ∷ []
stmt_parts w texts depth (form.If e a b) = indent depth ∷ codes "if (" ∷ expr_text w e ∷ codes ") {\n" ∷ (block_parts texts (depth + 1) a.stmts ++ else_parts texts depth b)
stmt_parts w texts depth (form.While e a) =
    indent depth ∷ codes "while (" ∷ expr_text w e ∷ codes ") {\n" ∷ (block_parts texts (depth + 1) a.stmts ++ indent depth ∷ codes "}\n" ∷ [])
stmt_parts w texts depth (form.Par a b) =
    indent depth ∷ codes "par {\n" ∷ (block_parts texts (depth + 1) a.stmts
    ++ indent depth ∷ codes "} {\n" ∷ (block_parts texts (depth + 1) b.stmts ++ indent depth ∷ codes "}\n" ∷ []))

-- the text of a statement, for any indentation
abbrev pub stmt_text : Wording → List (ℕ → List ℕ) → Stmt → ℕ → List ℕ
stmt_text w texts s depth = parts_text (stmt_parts w texts depth s.kind)

-- the texts of all statements of a program
abbrev pub stmt_texts : Listing → List (ℕ → List ℕ)
stmt_texts p = entries_of (stmt_text (wording p)) p.stmts

-- ---------- classes ----------
-- parameters behind another one
abbrev pub more_params_parts : Wording → List FieldDecl → List (List ℕ)
more_params_parts w [] = []
more_params_parts w (d ∷ params) = codes ", " ∷ declared_text w.names d.ty d.name ∷ more_params_parts w params

-- parameters with `, ` between them
abbrev pub params_parts : Wording → List FieldDecl → List (List ℕ)
params_parts w [] = []
params_parts w (d ∷ params) = declared_text w.names d.ty d.name ∷ more_params_parts w params

-- the line of a field
abbrev pub field_parts : Listing → FieldDecl → List (List ℕ)
field_parts p f = indent 1 ∷ declared_text p.names f.ty f.name ∷ codes ";\n" ∷ []

-- the lines of a method
abbrev pub method_parts : Listing → Method → List (List ℕ)
method_parts p m =
    let w = wording p in
    indent 1 ∷ declared_text w.names m.result m.name ∷ codes "(" ∷ (params_parts w m.params
    ++ codes ") " ∷ perm_text m.receiver ∷ codes " {\n"
    ∷ (block_parts (stmt_texts p) 2 m.body.stmts
    ++ indent 2 ∷ codes "return " ∷ arg_text w m.back ∷ codes ";\n"
    ∷ indent 1 ∷ codes "}\n" ∷ []))

-- a member of a class: where its name starts, and its text
pub record Member : Type 0 where
  pub start : ℕ
  pub text : List ℕ

-- a field as a member
abbrev pub field_member : Listing → FieldDecl → Member
field_member p f = record { start = f.name.span.start; text = parts_text (field_parts p f) }

-- a method as a member
abbrev pub method_member : Listing → Method → Member
method_member p m = record { start = m.name.span.start; text = parts_text (method_parts p m) }

-- one element more, before the first one whose number isn't smaller
abbrev pub insert_by : {A : Type 0} → (A → ℕ) → A → List A → List A
insert_by number x [] = x ∷ []
insert_by number x (y ∷ ys) = if nat_le (number x) (number y) then x ∷ y ∷ ys else y ∷ insert_by number x ys

-- the elements in the order of their numbers; those with the same number keep their order
abbrev pub sort_by : {A : Type 0} → (A → ℕ) → List A → List A
sort_by number [] = []
sort_by number (x ∷ xs) = insert_by number x (sort_by number xs)

-- the members of a class in the order of the starts of their names; where two start alike, fields come first and each list keeps its order
abbrev pub members : Listing → ClassDecl → List Member
members p c = sort_by (λ m. m.start) (map (field_member p) c.fields ++ map (method_member p) c.methods)

-- the lines of a class
abbrev pub class_text : Listing → ClassDecl → List ℕ
class_text p c = parts_text (codes "class " ∷ word p.names c.name.name ∷ codes " {\n" ∷ (map (λ m. m.text) (members p c) ++ codes "}\n" ∷ []))

-- the canonical text of a program
abbrev pub canonical : Listing → List ℕ
canonical p = flat_map (class_text p) p.classes
