-- Programs that differ in nothing but their spans.
use Rattle.std.specs.Prelude.{◌≡◌, map}
use Rattle.perm_tree.specs.Places.{Listing}
use Rattle.perm_tree.specs.declared.ast.Span.{Span}
use Rattle.perm_tree.specs.declared.ast.Ident.{Ident}
use Rattle.perm_tree.specs.declared.ast.FieldDecl.{FieldDecl}
use Rattle.perm_tree.specs.declared.ast.Expr.{Expr}
use Rattle.perm_tree.specs.declared.ast.Expr.TheVariants as node
use Rattle.perm_tree.specs.declared.ast.Arg.{Arg}
use Rattle.perm_tree.specs.declared.ast.Arg.TheVariants as argument
use Rattle.perm_tree.specs.declared.ast.Call.{Call}
use Rattle.perm_tree.specs.declared.ast.Rhs.{Rhs}
use Rattle.perm_tree.specs.declared.ast.Rhs.TheVariants as right
use Rattle.perm_tree.specs.declared.ast.Stmt.{Stmt}
use Rattle.perm_tree.specs.declared.ast.StmtKind.{StmtKind}
use Rattle.perm_tree.specs.declared.ast.StmtKind.TheVariants as form
use Rattle.perm_tree.specs.declared.ast.Method.{Method}
use Rattle.perm_tree.specs.declared.ast.ClassDecl.{ClassDecl}

-- the span that stands for each
abbrev pub no_span : Span
no_span = record { start = 0; end = 0 }

-- a name without its span
abbrev pub clear_ident : Ident → Ident
clear_ident i = record { name = i.name; span = no_span }

-- an expression without its span
abbrev pub clear_expr : Expr → Expr
clear_expr (node.Number n) = node.Number n
clear_expr (node.Bool b) = node.Bool b
clear_expr node.Null = node.Null
clear_expr (node.Var x) = node.Var (clear_ident x)
clear_expr (node.Unary o a) = node.Unary o a
clear_expr (node.Binary o a b) = node.Binary o a b

-- a value that is handed over
abbrev pub clear_arg : Arg → Arg
clear_arg (argument.Expr e) = argument.Expr e
clear_arg (argument.Consume y) = argument.Consume (clear_ident y)

-- a call
abbrev pub clear_call : Call → Call
clear_call c = record { consumed = c.consumed; on = clear_ident c.on; «method» = clear_ident c.«method»; args = map clear_arg c.args }

-- a right side
abbrev pub clear_rhs : Rhs → Rhs
clear_rhs (right.Value a) = right.Value (clear_arg a)
clear_rhs (right.Field y f) = right.Field (clear_ident y) (clear_ident f)
clear_rhs (right.TakeField y f) = right.TakeField (clear_ident y) (clear_ident f)
clear_rhs (right.Item y e) = right.Item (clear_ident y) e
clear_rhs (right.New c) = right.New (clear_ident c)
clear_rhs (right.NewArray e) = right.NewArray e
clear_rhs (right.Call c) = right.Call (clear_call c)
clear_rhs (right.Recover b w give) = right.Recover b (clear_ident w) no_span

-- what a statement does
abbrev pub clear_kind : StmtKind → StmtKind
clear_kind (form.Declare t x) = form.Declare t (clear_ident x)
clear_kind (form.Assign t x r) = form.Assign t (clear_ident x) (clear_rhs r)
clear_kind (form.SetField y f a) = form.SetField (clear_ident y) (clear_ident f) (clear_arg a)
clear_kind (form.SetItem y i e) = form.SetItem (clear_ident y) i e
clear_kind (form.Call c) = form.Call (clear_call c)
clear_kind (form.Print e) = form.Print e
clear_kind (form.If e a b) = form.If e a b
clear_kind (form.While e a) = form.While e a
clear_kind (form.Par a b) = form.Par a b

-- a statement
abbrev pub clear_stmt : Stmt → Stmt
clear_stmt s = record { span = no_span; head = no_span; kind = clear_kind s.kind }

-- a field or a parameter
abbrev pub clear_field : FieldDecl → FieldDecl
clear_field f = record { ty = f.ty; name = clear_ident f.name }

-- a method
abbrev pub clear_method : Method → Method
clear_method m = record {
  result = m.result;
  name = clear_ident m.name;
  params = map clear_field m.params;
  receiver = m.receiver;
  body = m.body;
  back = clear_arg m.back;
  span = no_span;
}

-- a class
abbrev pub clear_class : ClassDecl → ClassDecl
clear_class c = record { name = clear_ident c.name; fields = map clear_field c.fields; methods = map clear_method c.methods }

-- a program without its spans
abbrev pub without_spans : Listing → Listing
without_spans p = record {
  names = p.names;
  classes = map clear_class p.classes;
  stmts = map clear_stmt p.stmts;
  exprs = map clear_expr p.exprs;
  mentions = map clear_ident p.mentions;
}

-- the same names, classes, statements, expressions and mentions, but for their spans
abbrev pub SameButSpans : Listing → Listing → Type 0
SameButSpans p q = without_spans p ≡ without_spans q
