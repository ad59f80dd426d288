-- The parts of which canonical texts are made, and a stack of them.
use Rattle.std.specs.Prelude.{ℕ, ◌+◌, Bool, true, false, nat_lt, nat_le, List, [], ◌∷◌, ◌++◌, map, flat_map, reverse, codes, Option, Some, None, slice_get}
use Rattle.perm_tree.specs.declared.print.part.Part.{Part}
use Rattle.perm_tree.specs.declared.print.part.Part.TheVariants.{Word as Fixed, Indent, Name, Perm, Declared, Target, Receiver, Number, Sign, Operator, Arg as Argument, Expr as Expression, Stmt as Statement}
use Rattle.perm_tree.specs.declared.print.part.Word.{Word}
use Rattle.perm_tree.specs.declared.print.part.Word.TheVariants as fixed
use Rattle.perm_tree.specs.declared.ast.Ident.{Ident}
use Rattle.perm_tree.specs.declared.ast.FieldDecl.{FieldDecl}
use Rattle.perm_tree.specs.declared.ast.Expr.{Expr}
use Rattle.perm_tree.specs.declared.ast.Expr.TheVariants as node
use Rattle.perm_tree.specs.declared.ast.Arg.{Arg}
use Rattle.perm_tree.specs.declared.ast.Call.{Call}
use Rattle.perm_tree.specs.declared.ast.Block.{Block}
use Rattle.perm_tree.specs.declared.ast.Rhs.{Rhs}
use Rattle.perm_tree.specs.declared.ast.Rhs.TheVariants as right
use Rattle.perm_tree.specs.declared.ast.StmtKind.{StmtKind}
use Rattle.perm_tree.specs.declared.ast.StmtKind.TheVariants as form
use Rattle.perm_tree.specs.declared.ast.Method.{Method}
use Rattle.perm_tree.specs.Printer.Expressions.{level}

-- the bytes of a fixed word
abbrev pub word_text : Word → List ℕ
word_text fixed.Space = codes " "
word_text fixed.Dot = codes "."
word_text fixed.Comma = codes ", "
word_text fixed.Open = codes "("
word_text fixed.Close = codes ")"
word_text fixed.Gets = codes " = "
word_text fixed.End = codes ";\n"
word_text fixed.Consume = codes "consume "
word_text fixed.OpenConsume = codes "(consume "
word_text fixed.OpenItem = codes "["
word_text fixed.ItemGets = codes "] = "
word_text fixed.ItemEnd = codes "];\n"
word_text fixed.New = codes "new "
word_text fixed.NewEnd = codes "();\n"
word_text fixed.NewArray = codes "new long["
word_text fixed.Recover = codes "recover {\n"
word_text fixed.Give = codes "give "
word_text fixed.RecoverEnd = codes "};\n"
word_text fixed.Print = codes "print "
word_text fixed.If = codes "if ("
word_text fixed.While = codes "while ("
word_text fixed.Body = codes ") {\n"
word_text fixed.Else = codes "} else {\n"
word_text fixed.Par = codes "par {\n"
word_text fixed.Beside = codes "} {\n"
word_text fixed.BlockEnd = codes "}\n"
word_text fixed.ParamsEnd = codes ") "
word_text fixed.MethodBody = codes " {\n"
word_text fixed.Return = codes "return "
word_text fixed.True = codes "true"
word_text fixed.False = codes "false"
word_text fixed.Null = codes "null"

-- ---------- stacks ----------
-- a stack with these parts pushed onto it, of which the first is the next one
unfoldable pub onto : List Part → List Part → List Part
onto stack parts = stack ++ reverse parts

-- ---------- parts of expressions ----------
-- how loosely the outermost operator of an expression binds
abbrev pub looseness : Expr → ℕ
looseness (node.Binary o a b) = level o
looseness _ = 0

-- the same of one that is there
abbrev pub looseness_if : Option Expr → ℕ
looseness_if None = 0
looseness_if (Some e) = looseness e

-- the same of the expression at a place
abbrev pub looseness_at : List Expr → ℕ → ℕ
looseness_at exprs at = looseness_if (slice_get exprs at)

-- an operand, in parentheses where a test holds
abbrev pub operand_tasks : Bool → ℕ → List Part
operand_tasks true e = Fixed fixed.Open ∷ Expression e ∷ Fixed fixed.Close ∷ []
operand_tasks false e = Expression e ∷ []

-- the parts of `true` and `false`
abbrev pub truth_task : Bool → Part
truth_task true = Fixed fixed.True
truth_task false = Fixed fixed.False

-- an expression
abbrev pub expr_tasks : List Expr → Expr → List Part
expr_tasks exprs (node.Number n) = Number n ∷ []
expr_tasks exprs (node.Bool b) = truth_task b ∷ []
expr_tasks exprs node.Null = Fixed fixed.Null ∷ []
expr_tasks exprs (node.Var x) = Name x ∷ []
expr_tasks exprs (node.Unary o a) = Sign o ∷ operand_tasks (nat_lt 0 (looseness_at exprs a)) a
expr_tasks exprs (node.Binary o a b) =
    operand_tasks (nat_lt (level o) (looseness_at exprs a)) a ++ Operator o ∷ operand_tasks (nat_le (level o) (looseness_at exprs b)) b

-- ---------- parts of statements ----------
-- arguments behind another one
abbrev pub more_args_tasks : List Arg → List Part
more_args_tasks args = flat_map (λ a. Fixed fixed.Comma ∷ Argument a ∷ []) args

-- arguments with `, ` between them
abbrev pub args_tasks : List Arg → List Part
args_tasks [] = []
args_tasks (a ∷ args) = Argument a ∷ more_args_tasks args

-- a call
abbrev pub call_tasks : Call → List Part
call_tasks c = Receiver c.consumed c.on ∷ Fixed fixed.Dot ∷ Name c.«method» ∷ Fixed fixed.Open ∷ (args_tasks c.args ++ Fixed fixed.Close ∷ [])

-- the statements of a block within so many braces
abbrev pub block_tasks : ℕ → List ℕ → List Part
block_tasks depth is = map (λ i. Statement i depth) is

-- a recover block, and the end of its line
abbrev pub recover_tasks : ℕ → Block → Ident → List Part
recover_tasks depth b y =
    Fixed fixed.Recover ∷ (block_tasks (depth + 1) b.stmts
    ++ Indent (depth + 1) ∷ Fixed fixed.Give ∷ Name y ∷ Fixed fixed.End
    ∷ Indent depth ∷ Fixed fixed.RecoverEnd ∷ [])

-- the right side of an assignment and the end of its line
abbrev pub rhs_tasks : ℕ → Rhs → List Part
rhs_tasks depth (right.Value a) = Argument a ∷ Fixed fixed.End ∷ []
rhs_tasks depth (right.Field y f) = Name y ∷ Fixed fixed.Dot ∷ Name f ∷ Fixed fixed.End ∷ []
rhs_tasks depth (right.TakeField y f) = Fixed fixed.Consume ∷ Name y ∷ Fixed fixed.Dot ∷ Name f ∷ Fixed fixed.End ∷ []
rhs_tasks depth (right.Item y e) = Name y ∷ Fixed fixed.OpenItem ∷ Expression e ∷ Fixed fixed.ItemEnd ∷ []
rhs_tasks depth (right.New c) = Fixed fixed.New ∷ Name c ∷ Fixed fixed.NewEnd ∷ []
rhs_tasks depth (right.NewArray e) = Fixed fixed.NewArray ∷ Expression e ∷ Fixed fixed.ItemEnd ∷ []
rhs_tasks depth (right.Call c) = call_tasks c ++ Fixed fixed.End ∷ []
rhs_tasks depth (right.Recover b y give) = recover_tasks depth b y

-- what stands behind the first block of an `if`
abbrev pub else_tasks : ℕ → Option Block → List Part
else_tasks depth None = Indent depth ∷ Fixed fixed.BlockEnd ∷ []
else_tasks depth (Some b) = Indent depth ∷ Fixed fixed.Else ∷ (block_tasks (depth + 1) b.stmts ++ Indent depth ∷ Fixed fixed.BlockEnd ∷ [])

-- a statement within so many braces
abbrev pub stmt_tasks : ℕ → StmtKind → List Part
stmt_tasks depth (form.Declare t x) = Indent depth ∷ Declared t x ∷ Fixed fixed.End ∷ []
stmt_tasks depth (form.Assign t x r) = Indent depth ∷ Target t x ∷ Fixed fixed.Gets ∷ rhs_tasks depth r
stmt_tasks depth (form.SetField y f a) = Indent depth ∷ Name y ∷ Fixed fixed.Dot ∷ Name f ∷ Fixed fixed.Gets ∷ Argument a ∷ Fixed fixed.End ∷ []
stmt_tasks depth (form.SetItem y i e) =
    Indent depth ∷ Name y ∷ Fixed fixed.OpenItem ∷ Expression i ∷ Fixed fixed.ItemGets ∷ Expression e ∷ Fixed fixed.End ∷ []
stmt_tasks depth (form.Call c) = Indent depth ∷ (call_tasks c ++ Fixed fixed.End ∷ [])
stmt_tasks depth (form.Print e) = Indent depth ∷ Fixed fixed.Print ∷ Expression e ∷ Fixed fixed.End ∷ []
stmt_tasks depth (form.If e a b) = Indent depth ∷ Fixed fixed.If ∷ Expression e ∷ Fixed fixed.Body ∷ (block_tasks (depth + 1) a.stmts ++ else_tasks depth b)
stmt_tasks depth (form.While e a) =
    Indent depth ∷ Fixed fixed.While ∷ Expression e ∷ Fixed fixed.Body ∷ (block_tasks (depth + 1) a.stmts ++ Indent depth ∷ Fixed fixed.BlockEnd ∷ [])
stmt_tasks depth (form.Par a b) =
    Indent depth ∷ Fixed fixed.Par ∷ (block_tasks (depth + 1) a.stmts
    ++ Indent depth ∷ Fixed fixed.Beside ∷ (block_tasks (depth + 1) b.stmts ++ Indent depth ∷ Fixed fixed.BlockEnd ∷ []))

-- ---------- parts of members ----------
-- parameters behind another one
abbrev pub more_params_tasks : List FieldDecl → List Part
more_params_tasks params = flat_map (λ d. Fixed fixed.Comma ∷ Declared d.ty d.name ∷ []) params

-- parameters with `, ` between them
abbrev pub params_tasks : List FieldDecl → List Part
params_tasks [] = []
params_tasks (d ∷ params) = Declared d.ty d.name ∷ more_params_tasks params

-- a field
abbrev pub field_tasks : FieldDecl → List Part
field_tasks f = Indent 1 ∷ Declared f.ty f.name ∷ Fixed fixed.End ∷ []

-- a method
abbrev pub method_tasks : Method → List Part
method_tasks m =
    Indent 1 ∷ Declared m.result m.name ∷ Fixed fixed.Open ∷ (params_tasks m.params
    ++ Fixed fixed.ParamsEnd ∷ Perm m.receiver ∷ Fixed fixed.MethodBody
    ∷ (block_tasks 2 m.body.stmts
    ++ Indent 2 ∷ Fixed fixed.Return ∷ Argument m.back ∷ Fixed fixed.End
    ∷ Indent 1 ∷ Fixed fixed.BlockEnd ∷ []))
