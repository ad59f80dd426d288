-- What is kept by each move of a walk over a tree is kept by the whole walk.
pub mod ListGrowth
pub mod UnchangedClasses
use Rattle.std.proofs.Common.{ℕ, List, [], ◌∷◌, ◌++◌}
use Rattle.perm_tree.specs.Places.{Listing}
use Rattle.perm_tree.specs.declared.ast.Ident.{Ident}
use Rattle.perm_tree.specs.declared.ast.ClassDecl.{ClassDecl}
use Rattle.perm_tree.specs.declared.ast.Expr.{Expr}
use Rattle.perm_tree.specs.declared.ast.Stmt.{Stmt}
use Rattle.perm_tree.specs.declared.ast.FieldDecl.{FieldDecl}
use Rattle.perm_tree.specs.declared.ast.Method.{Method}
use Rattle.perm_tree.specs.declared.tokens.Token.{Token}
use Rattle.perm_tree.specs.declared.tokens.TokenKind.{TokenKind}
use Rattle.perm_tree.specs.declared.tokens.TokenKind.TheVariants as kinds
use Rattle.perm_parse.specs.Grammar.{TypeTree, ExprTree, ArgTree, ArgList, Args, RecvTree, CallTree, TargetTree, RhsTree, BlockTree, StmtTree, Stmts, ParamList, Params, MemberTree, Members, Classes}
use Rattle.perm_parse.specs.Meaning.{number_of, ident, var_as, var, push_expr, push_stmt, push_mention, type_of, expr_of, arg_of, arg_list_of, args_of, recv_of, call_of, target_of, rhs_of, block_of, stmt_of, stmts_of, param_list_of, params_of, method_of, member_of, members_of, classes_of}

-- A relation of a program to a later one that holds over no move, over two moves where it holds over each, and over a name that
-- is given its number, an expression or a mention more.
pub record IsKept (R : Listing → Listing → Type 0) : Type 0 where
  pub stays : (s : Listing) → R s s
  pub then : {s t u : Listing} → R s t → R t u → R s u
  pub name : (text : List ℕ) (t : Token) (s : Listing) → R s (number_of text t s).1
  pub expr : (e : Expr) (s : Listing) → R s (push_expr e s).1
  pub mention : (i : Ident) (s : Listing) → R s (push_mention i s)

-- it holds over the walk of each kind of tree that holds no statement
module _ (R : Listing → Listing → Type 0) (kept : IsKept R) where
  pub ident-kept : (text : List ℕ) (t : Token) (s : Listing) → R s (ident text t s).1
  ident-kept text t s = kept.name text t s

  var_as-kept : (text : List ℕ) (t : Token) (s : Listing) (k : TokenKind) → R s (var_as text t s k).1
  var_as-kept text t s kinds.This = kept.stays s
  var_as-kept text t s _ = ident-kept text t s

  pub var-kept : (text : List ℕ) (t : Token) (s : Listing) → R s (var text t s).1
  var-kept text t s = var_as-kept text t s t.kind

  pub type-kept : (text : List ℕ) (a : TypeTree) (s : Listing) → R s (type_of text a s).1
  type-kept text (TypeTree.long_type t) s = kept.stays s
  type-kept text (TypeTree.bool_type t) s = kept.stays s
  type-kept text (TypeTree.object_type p perm name) s = kept.then (ident-kept text name s) (kept.mention _ _)
  type-kept text (TypeTree.array_type p perm word opening closing) s = kept.stays s

  pub expr-kept : (text : List ℕ) (a : ExprTree) (s : Listing) → R s (expr_of text a s).1
  expr-kept text (ExprTree.number t) s = kept.expr _ s
  expr-kept text (ExprTree.true_word t) s = kept.expr _ s
  expr-kept text (ExprTree.false_word t) s = kept.expr _ s
  expr-kept text (ExprTree.null_word t) s = kept.expr _ s
  expr-kept text (ExprTree.variable t) s = kept.then (var-kept text t s) (kept.expr _ _)
  expr-kept text (ExprTree.parens opening e closing) s = expr-kept text e s
  expr-kept text (ExprTree.unary o t e) s = kept.then (expr-kept text e s) (kept.expr _ _)
  expr-kept text (ExprTree.binary o a t b) s = kept.then (expr-kept text a s) (kept.then (expr-kept text b _) (kept.expr _ _))

  pub arg-kept : (text : List ℕ) (a : ArgTree) (s : Listing) → R s (arg_of text a s).1
  arg-kept text (ArgTree.plain e) s = expr-kept text e s
  arg-kept text (ArgTree.consumed word name) s = var-kept text name s

  pub arg_list-kept : (text : List ℕ) (a : ArgList) (s : Listing) → R s (arg_list_of text a s).1
  arg_list-kept text (ArgList.one_arg a) s = arg-kept text a s
  arg_list-kept text (ArgList.more_args list comma a) s = kept.then (arg_list-kept text list s) (arg-kept text a _)

  pub args-kept : (text : List ℕ) (a : Args) (s : Listing) → R s (args_of text a s).1
  args-kept text Args.no_args s = kept.stays s
  args-kept text (Args.args list) s = arg_list-kept text list s

  pub recv-kept : (text : List ℕ) (a : RecvTree) (s : Listing) → R s (recv_of text a s).2
  recv-kept text (RecvTree.lent name) s = var-kept text name s
  recv-kept text (RecvTree.given opening word name closing) s = var-kept text name s

  pub call-kept : (text : List ℕ) (a : CallTree) (s : Listing) → R s (call_of text a s).1
  call-kept text (CallTree.call recv dot name opening list closing) s = kept.then (recv-kept text recv s) (kept.then (ident-kept text name _) (args-kept text list _))

  pub target-kept : (text : List ℕ) (a : TargetTree) (s : Listing) → R s (target_of text a s).2
  target-kept text (TargetTree.known name) s = ident-kept text name s
  target-kept text (TargetTree.declared ty name) s = kept.then (type-kept text ty s) (ident-kept text name _)

  pub param_list-kept : (text : List ℕ) (a : ParamList) (s : Listing) → R s (param_list_of text a s).1
  param_list-kept text (ParamList.one_param ty name) s = kept.then (type-kept text ty s) (ident-kept text name _)
  param_list-kept text (ParamList.more_params list comma ty name) s = kept.then (param_list-kept text list s) (kept.then (type-kept text ty _) (ident-kept text name _))

  pub params-kept : (text : List ℕ) (a : Params) (s : Listing) → R s (params_of text a s).1
  params-kept text Params.no_params s = kept.stays s
  params-kept text (Params.params list) s = param_list-kept text list s

  -- what stands of a method before its body
  pub method-kept : (text : List ℕ) (ty : TypeTree) (name : Token) (list : Params) (s : Listing) → R s (method_of text ty name list s).program
  method-kept text ty name list s = kept.then (type-kept text ty s) (kept.then (ident-kept text name _) (params-kept text list _))

  -- and over that of each other kind, where it holds over a statement more
  module _ (more_stmt : (x : Stmt) (s : Listing) → R s (push_stmt x s).1) where
    mutual
      pub rhs-kept : (text : List ℕ) (a : RhsTree) (s : Listing) → R s (rhs_of text a s).1
      rhs-kept text (RhsTree.value a) s = arg-kept text a s
      rhs-kept text (RhsTree.field name dot member) s = kept.then (var-kept text name s) (ident-kept text member _)
      rhs-kept text (RhsTree.take_field word name dot member) s = kept.then (var-kept text name s) (ident-kept text member _)
      rhs-kept text (RhsTree.item name opening e closing) s = kept.then (var-kept text name s) (expr-kept text e _)
      rhs-kept text (RhsTree.new_object word name opening closing) s = kept.then (ident-kept text name s) (kept.mention _ _)
      rhs-kept text (RhsTree.new_array word long opening e closing) s = expr-kept text e s
      rhs-kept text (RhsTree.called c) s = call-kept text c s
      rhs-kept text (RhsTree.recover word opening b give name end closing) s = kept.then (stmts-kept text b s) (ident-kept text name _)

      pub block-kept : (text : List ℕ) (a : BlockTree) (s : Listing) → R s (block_of text a s).1
      block-kept text (BlockTree.block opening b closing) s = stmts-kept text b s

      pub stmt-kept : (text : List ℕ) (a : StmtTree) (s : Listing) → R s (stmt_of text a s).1
      stmt-kept text (StmtTree.declare ty name end) s = kept.then (type-kept text ty s) (ident-kept text name _)
      stmt-kept text (StmtTree.assign target equals r end) s = kept.then (target-kept text target s) (rhs-kept text r _)
      stmt-kept text (StmtTree.set_field name dot member equals a end) s = kept.then (var-kept text name s) (kept.then (ident-kept text member _) (arg-kept text a _))
      stmt-kept text (StmtTree.set_item name opening i closing equals e end) s = kept.then (var-kept text name s) (kept.then (expr-kept text i _) (expr-kept text e _))
      stmt-kept text (StmtTree.run_call c end) s = call-kept text c s
      stmt-kept text (StmtTree.print word e end) s = expr-kept text e s
      stmt-kept text (StmtTree.if_then word opening e closing a) s = kept.then (expr-kept text e s) (block-kept text a _)
      stmt-kept text (StmtTree.if_else word opening e closing a otherwise b) s = kept.then (expr-kept text e s) (kept.then (block-kept text a _) (block-kept text b _))
      stmt-kept text (StmtTree.repeat word opening e closing a) s = kept.then (expr-kept text e s) (block-kept text a _)
      stmt-kept text (StmtTree.par word a b) s = kept.then (block-kept text a s) (block-kept text b _)

      pub stmts-kept : (text : List ℕ) (a : Stmts) (s : Listing) → R s (stmts_of text a s).1
      stmts-kept text Stmts.no_stmts s = kept.stays s
      stmts-kept text (Stmts.more_stmts b x) s = kept.then (stmts-kept text b s) (kept.then (stmt-kept text x _) (more_stmt _ _))

    pub member-kept : (text : List ℕ) (a : MemberTree) (fs : List FieldDecl) (ms : List Method) (s : Listing) → R s (member_of text a fs ms s).2
    member-kept text (MemberTree.field_member ty name end) fs ms s = kept.then (type-kept text ty s) (ident-kept text name _)
    member-kept text (MemberTree.method ty name opening list closing p perm start b word a end finish) fs ms s = kept.then (method-kept text ty name list s) (kept.then (stmts-kept text b _) (arg-kept text a _))

    pub members-kept : (text : List ℕ) (a : Members) (s : Listing) → R s (members_of text a s).2
    members-kept text Members.no_members s = kept.stays s
    members-kept text (Members.more_members list x) s = kept.then (members-kept text list s) (member-kept text x _ _ _)

    -- and over that of a program, where it holds over a class more
    pub classes-kept : (more : (c : ClassDecl) (s : Listing) → R s (record s { classes = s.classes ++ c ∷ [] })) (text : List ℕ) (a : Classes) (s : Listing) → R s (classes_of text a s)
    classes-kept more text Classes.no_classes s = kept.stays s
    classes-kept more text (Classes.more_classes list word name opening members closing) s =
        kept.then (classes-kept more text list s) (kept.then (ident-kept text name _) (kept.then (members-kept text members _) (more _ _)))
