-- The program that a tree means: names in order of first appearance, and expressions and statements in the order in which they end.
use Rattle.std.specs.Prelude.{ℕ, List, [], ◌∷◌, ◌++◌, length, Bool as Boolean, true, false, Option, Some, None, pos, position, slice_range, bytes_eq, codes}
use Rattle.perm_tree.specs.Places.{Listing}
use Rattle.perm_tree.specs.declared.ast.Span.{Span}
use Rattle.perm_tree.specs.declared.ast.Ident.{Ident}
use Rattle.perm_tree.specs.declared.ast.Shape.TheVariants.{Class, Array}
use Rattle.perm_tree.specs.declared.ast.Ty.{Ty}
use Rattle.perm_tree.specs.declared.ast.Ty.TheVariants.{Long, Bool, Ref}
use Rattle.perm_tree.specs.declared.ast.FieldDecl.{FieldDecl}
use Rattle.perm_tree.specs.declared.ast.Expr.{Expr}
use Rattle.perm_tree.specs.declared.ast.Expr.TheVariants as node
use Rattle.perm_tree.specs.declared.ast.Arg.{Arg}
use Rattle.perm_tree.specs.declared.ast.Arg.TheVariants as argument
use Rattle.perm_tree.specs.declared.ast.Call.{Call}
use Rattle.perm_tree.specs.declared.ast.Block.{Block}
use Rattle.perm_tree.specs.declared.ast.Rhs.{Rhs}
use Rattle.perm_tree.specs.declared.ast.Rhs.TheVariants as right
use Rattle.perm_tree.specs.declared.ast.Stmt.{Stmt}
use Rattle.perm_tree.specs.declared.ast.StmtKind.{StmtKind}
use Rattle.perm_tree.specs.declared.ast.StmtKind.TheVariants as form
use Rattle.perm_tree.specs.declared.ast.Method.{Method}
use Rattle.perm_tree.specs.declared.tokens.Token.{Token}
use Rattle.perm_tree.specs.declared.tokens.TokenKind.{TokenKind}
use Rattle.perm_tree.specs.declared.tokens.TokenKind.TheVariants.{This}
use Rattle.perm_parse.specs.Grammar.{TypeTree, ExprTree, ArgTree, ArgList, Args, RecvTree, CallTree, TargetTree, RhsTree, BlockTree, StmtTree, Stmts, ParamList, Params, MemberTree, Members, Classes}

-- ---- names

-- the number of a name that stands at this place or nowhere
abbrev pub number_at : List ℕ → Listing → Option ℕ → ℕ × Listing
number_at name s (Some at) = (at, s)
number_at name s None = (length s.names, record s { names = s.names ++ name ∷ [] })

-- the number of a name, by its bytes in the text: that of its first appearance
abbrev pub number_of : List ℕ → Token → Listing → ℕ × Listing
number_of text t s =
    let name = slice_range text t.span.start t.span.end in
    number_at name s (position (λ other. bytes_eq other name) s.names)

-- a name where it stands, by its number
abbrev pub ident : List ℕ → Token → Listing → Ident × Listing
ident text t s = let r = number_of text t s in (record { name = r.0; span = t.span }, r.1)

-- `this` has number 0
abbrev pub var_as : List ℕ → Token → Listing → TokenKind → Ident × Listing
var_as text t s This = (record { name = 0; span = t.span }, s)
var_as text t s _ = ident text t s

-- a name or `this` where it stands, by its number
abbrev pub var : List ℕ → Token → Listing → Ident × Listing
var text t s = var_as text t s t.kind

-- ---- places and spans

-- from the first byte of one token to the last of another
abbrev pub span_over : Token → Token → Span
span_over first last = record { start = first.span.start; end = last.span.end }

-- the place of one expression more, and the program with it
abbrev pub push_expr : Expr → Listing → ℕ × Listing
push_expr e s = (length s.exprs, record s { exprs = s.exprs ++ e ∷ [] })

-- the place of one statement more, and the program with it
abbrev pub push_stmt : Stmt → Listing → ℕ × Listing
push_stmt x s = (length s.stmts, record s { stmts = s.stmts ++ x ∷ [] })

-- the program with one mentioned class name more
abbrev pub push_mention : Ident → Listing → Listing
push_mention i s = record s { mentions = s.mentions ++ i ∷ [] }

-- ---- types and expressions

-- what a type means, and the program after it
abbrev pub type_of : List ℕ → TypeTree → Listing → Ty × Listing
type_of text (TypeTree.long_type t) s = (Long, s)
type_of text (TypeTree.bool_type t) s = (Bool, s)
type_of text (TypeTree.object_type p perm name) s = let r = ident text name s in (Ref p (Class r.0.name), push_mention r.0 r.1)
type_of text (TypeTree.array_type p perm word opening closing) s = (Ref p Array, s)

-- the first token of a type
abbrev pub type_first : TypeTree → Token
type_first (TypeTree.long_type t) = t
type_first (TypeTree.bool_type t) = t
type_first (TypeTree.object_type p perm name) = perm
type_first (TypeTree.array_type p perm word opening closing) = perm

-- what an expression means, and the program after it
abbrev pub expr_of : List ℕ → ExprTree → Listing → ℕ × Listing
expr_of text (ExprTree.number t) s = push_expr (node.Number (pos t.value)) s
expr_of text (ExprTree.true_word t) s = push_expr (node.Bool true) s
expr_of text (ExprTree.false_word t) s = push_expr (node.Bool false) s
expr_of text (ExprTree.null_word t) s = push_expr node.Null s
expr_of text (ExprTree.variable t) s = let r = var text t s in push_expr (node.Var r.0) r.1
expr_of text (ExprTree.parens opening e closing) s = expr_of text e s
expr_of text (ExprTree.unary o t e) s = let r = expr_of text e s in push_expr (node.Unary o r.0) r.1
expr_of text (ExprTree.binary o a t b) s =
    let x = expr_of text a s in
    let y = expr_of text b x.1 in
    push_expr (node.Binary o x.0 y.0) y.1

-- ---- arguments and calls

-- what an argument means, and the program after it
abbrev pub arg_of : List ℕ → ArgTree → Listing → Arg × Listing
arg_of text (ArgTree.plain e) s = let r = expr_of text e s in (argument.Expr r.0, r.1)
arg_of text (ArgTree.consumed word name) s = let r = var text name s in (argument.Consume r.0, r.1)

-- what arguments with commas between them means, and the program after it
abbrev pub arg_list_of : List ℕ → ArgList → Listing → List Arg × Listing
arg_list_of text (ArgList.one_arg a) s = let r = arg_of text a s in (r.0 ∷ [], r.1)
arg_list_of text (ArgList.more_args list comma a) s =
    let x = arg_list_of text list s in
    let y = arg_of text a x.1 in
    (x.0 ++ y.0 ∷ [], y.1)

-- what the arguments of a call means, and the program after it
abbrev pub args_of : List ℕ → Args → Listing → List Arg × Listing
args_of text Args.no_args s = ([], s)
args_of text (Args.args list) s = arg_list_of text list s

-- whether the receiver is consumed, and which it is
abbrev pub recv_of : List ℕ → RecvTree → Listing → Boolean × Ident × Listing
recv_of text (RecvTree.lent name) s = let r = var text name s in (false, r.0, r.1)
recv_of text (RecvTree.given opening word name closing) s = let r = var text name s in (true, r.0, r.1)

-- the first token of a receiver
abbrev pub recv_first : RecvTree → Token
recv_first (RecvTree.lent name) = name
recv_first (RecvTree.given opening word name closing) = opening

-- what a call means, and the program after it
abbrev pub call_of : List ℕ → CallTree → Listing → Call × Listing
call_of text (CallTree.call recv dot name opening list closing) s =
    let x = recv_of text recv s in
    let y = ident text name x.2 in
    let z = args_of text list y.1 in
    (record { consumed = x.0; on = x.1; method = y.0; args = z.0 }, z.1)

-- the first token of a call
abbrev pub call_first : CallTree → Token
call_first (CallTree.call recv dot name opening list closing) = recv_first recv

-- ---- statements

-- the type, where the target is declared, and the name
abbrev pub target_of : List ℕ → TargetTree → Listing → Option Ty × Ident × Listing
target_of text (TargetTree.known name) s = let r = ident text name s in (None, r.0, r.1)
target_of text (TargetTree.declared ty name) s =
    let x = type_of text ty s in
    let r = ident text name x.1 in
    (Some x.0, r.0, r.1)

-- the first token of the left side of an assignment
abbrev pub target_first : TargetTree → Token
target_first (TargetTree.known name) = name
target_first (TargetTree.declared ty name) = type_first ty

-- the last token of the head of an assignment: the word `recover`, or the semicolon
abbrev pub head_last : RhsTree → Token → Token
head_last (RhsTree.recover word opening b give name semicolon closing) end = word
head_last _ end = end

-- the brace that closes a block
abbrev pub block_last : BlockTree → Token
block_last (BlockTree.block opening b closing) = closing

-- a statement whose head is the whole
abbrev pub simple : Token → Token → StmtKind → Stmt
simple first last kind = record { span = span_over first last; head = span_over first last; kind = kind }

abbrev mutual
  -- what a right side means, and the program after it
  pub rhs_of : List ℕ → RhsTree → Listing → Rhs × Listing
  rhs_of text (RhsTree.value a) s = let r = arg_of text a s in (right.Value r.0, r.1)
  rhs_of text (RhsTree.field name dot member) s =
      let x = var text name s in
      let y = ident text member x.1 in
      (right.Field x.0 y.0, y.1)
  rhs_of text (RhsTree.take_field word name dot member) s =
      let x = var text name s in
      let y = ident text member x.1 in
      (right.TakeField x.0 y.0, y.1)
  rhs_of text (RhsTree.item name opening e closing) s =
      let x = var text name s in
      let y = expr_of text e x.1 in
      (right.Item x.0 y.0, y.1)
  rhs_of text (RhsTree.new_object word name opening closing) s = let r = ident text name s in (right.New r.0, push_mention r.0 r.1)
  rhs_of text (RhsTree.new_array word long opening e closing) s = let r = expr_of text e s in (right.NewArray r.0, r.1)
  rhs_of text (RhsTree.called c) s = let r = call_of text c s in (right.Call r.0, r.1)
  rhs_of text (RhsTree.recover word opening b give name end closing) s =
      let x = stmts_of text b s in
      let y = ident text name x.1 in
      (right.Recover (record { stmts = x.0 }) y.0 (span_over give end), y.1)

  -- what a block means, and the program after it
  pub block_of : List ℕ → BlockTree → Listing → Block × Listing
  block_of text (BlockTree.block opening b closing) s = let r = stmts_of text b s in (record { stmts = r.0 }, r.1)

  -- what a statement means, and the program after it
  pub stmt_of : List ℕ → StmtTree → Listing → Stmt × Listing
  stmt_of text (StmtTree.declare ty name end) s =
      let x = type_of text ty s in
      let y = ident text name x.1 in
      (simple (type_first ty) end (form.Declare x.0 y.0), y.1)
  stmt_of text (StmtTree.assign target equals r end) s =
      let x = target_of text target s in
      let y = rhs_of text r x.2 in
      (record { span = span_over (target_first target) end; head = span_over (target_first target) (head_last r end); kind = form.Assign x.0 x.1 y.0 }, y.1)
  stmt_of text (StmtTree.set_field name dot member equals a end) s =
      let x = var text name s in
      let y = ident text member x.1 in
      let z = arg_of text a y.1 in
      (simple name end (form.SetField x.0 y.0 z.0), z.1)
  stmt_of text (StmtTree.set_item name opening i closing equals e end) s =
      let x = var text name s in
      let y = expr_of text i x.1 in
      let z = expr_of text e y.1 in
      (simple name end (form.SetItem x.0 y.0 z.0), z.1)
  stmt_of text (StmtTree.run_call c end) s = let r = call_of text c s in (simple (call_first c) end (form.Call r.0), r.1)
  stmt_of text (StmtTree.print word e end) s = let r = expr_of text e s in (simple word end (form.Print r.0), r.1)
  stmt_of text (StmtTree.if_then word opening e closing a) s =
      let x = expr_of text e s in
      let y = block_of text a x.1 in
      (record { span = span_over word (block_last a); head = span_over word closing; kind = form.If x.0 y.0 None }, y.1)
  stmt_of text (StmtTree.if_else word opening e closing a otherwise b) s =
      let x = expr_of text e s in
      let y = block_of text a x.1 in
      let z = block_of text b y.1 in
      (record { span = span_over word (block_last b); head = span_over word closing; kind = form.If x.0 y.0 (Some z.0) }, z.1)
  stmt_of text (StmtTree.repeat word opening e closing a) s =
      let x = expr_of text e s in
      let y = block_of text a x.1 in
      (record { span = span_over word (block_last a); head = span_over word closing; kind = form.While x.0 y.0 }, y.1)
  stmt_of text (StmtTree.par word a b) s =
      let x = block_of text a s in
      let y = block_of text b x.1 in
      (record { span = span_over word (block_last b); head = word.span; kind = form.Par x.0 y.0 }, y.1)

  -- the places of the statements
  pub stmts_of : List ℕ → Stmts → Listing → List ℕ × Listing
  stmts_of text Stmts.no_stmts s = ([], s)
  stmts_of text (Stmts.more_stmts b x) s =
      let y = stmts_of text b s in
      let z = stmt_of text x y.1 in
      let w = push_stmt z.0 z.1 in
      (y.0 ++ w.0 ∷ [], w.1)

-- ---- members and classes

-- what parameters with commas between them means, and the program after it
abbrev pub param_list_of : List ℕ → ParamList → Listing → List FieldDecl × Listing
param_list_of text (ParamList.one_param ty name) s =
    let x = type_of text ty s in
    let y = ident text name x.1 in
    (record { ty = x.0; name = y.0 } ∷ [], y.1)
param_list_of text (ParamList.more_params list comma ty name) s =
    let z = param_list_of text list s in
    let x = type_of text ty z.1 in
    let y = ident text name x.1 in
    (z.0 ++ record { ty = x.0; name = y.0 } ∷ [], y.1)

-- what the parameters of a method means, and the program after it
abbrev pub params_of : List ℕ → Params → Listing → List FieldDecl × Listing
params_of text Params.no_params s = ([], s)
params_of text (Params.params list) s = param_list_of text list s

-- what stands of a method before its body, and the program after it
pub record MethodHead : Type 0 where
  pub result : Ty
  pub name : Ident
  pub params : List FieldDecl
  pub program : Listing

-- the head of a method
abbrev pub method_of : List ℕ → TypeTree → Token → Params → Listing → MethodHead
method_of text ty name list s =
    let x = type_of text ty s in
    let y = ident text name x.1 in
    let z = params_of text list y.1 in
    record { result = x.0; name = y.0; params = z.0; program = z.1 }

-- the fields and the methods so far, with one member more
abbrev pub member_of : List ℕ → MemberTree → List FieldDecl → List Method → Listing → List FieldDecl × List Method × Listing
member_of text (MemberTree.field_member ty name end) fields methods s =
    let x = type_of text ty s in
    let y = ident text name x.1 in
    (fields ++ record { ty = x.0; name = y.0 } ∷ [], methods, y.1)
member_of text (MemberTree.method ty name opening list closing p perm start b word a end finish) fields methods s =
    let head = method_of text ty name list s in
    let x = stmts_of text b head.program in
    let y = arg_of text a x.1 in
    let made : Method = record { result = head.result; name = head.name; params = head.params; receiver = p; body = record { stmts = x.0 }; back = y.0; span = span_over word end } in
    (fields, methods ++ made ∷ [], y.1)

-- what the members of a class means, and the program after it
abbrev pub members_of : List ℕ → Members → Listing → List FieldDecl × List Method × Listing
members_of text Members.no_members s = ([], [], s)
members_of text (Members.more_members list x) s = let r = members_of text list s in member_of text x r.0 r.1 r.2

-- the program that classes mean
abbrev pub classes_of : List ℕ → Classes → Listing → Listing
classes_of text Classes.no_classes s = s
classes_of text (Classes.more_classes list word name opening members closing) s =
    let x = ident text name (classes_of text list s) in
    let r = members_of text members x.1 in
    let done = r.2 in
    record done { classes = done.classes ++ record { name = x.0; fields = r.0; methods = r.1 } ∷ [] }

-- no classes, and the word `this` for the only name
abbrev pub nothing_yet : Listing
nothing_yet = record { names = codes "this" ∷ []; classes = []; stmts = []; exprs = []; mentions = [] }

-- the program that a tree means, over the text that its tokens stand in
abbrev pub meaning : List ℕ → Classes → Listing
meaning text list = classes_of text list nothing_yet
