-- How a tree is written: its tokens in order, with the blanks that the canonical text has between them.
use Rattle.std.proofs.Common.{ℕ, zero, suc, List, [], ◌∷◌, pos, unwrap_or}
use Rattle.std.specs.Prelude.{slice_range}
use Rattle.std.specs.Fmt.{signed_decimal}
use Rattle.perm_tree.specs.declared.tokens.Token.{Token}
use Rattle.perm_tree.specs.declared.tokens.TokenKind.{TokenKind}
use Rattle.perm_tree.specs.declared.tokens.TokenKind.TheVariants as kind
use Rattle.perm_lex.specs.Tokens.{spelling}
use Rattle.perm_lex.specs.Lexes.{Piece}
use Rattle.perm_lex.specs.Lexes.Piece.{blank, token}
use Rattle.perm_parse.specs.Grammar.{TypeTree, ExprTree, ArgTree, ArgList, Args, RecvTree, CallTree, TargetTree, RhsTree, BlockTree, StmtTree, Stmts, ParamList, Params, MemberTree, Members, Classes, perm_word, unary_sign, sign}

-- ---- tokens and blanks

abbrev pub spelled_as : TokenKind → List ℕ
spelled_as k = unwrap_or (spelling k) []

-- a keyword or a sign
abbrev pub mark : TokenKind → Piece
mark k = token k (spelled_as k)

abbrev pub space : Piece
space = blank 32

abbrev pub line : Piece
line = blank 10

abbrev pub name_bytes : List ℕ → Token → List ℕ
name_bytes text t = slice_range text t.span.start t.span.end

abbrev pub name_piece : List ℕ → Token → Piece
name_piece text t = token kind.Name (name_bytes text t)

abbrev pub var_piece_as : List ℕ → Token → TokenKind → Piece
var_piece_as text t kind.This = mark kind.This
var_piece_as text t _ = name_piece text t

abbrev pub var_piece : List ℕ → Token → Piece
var_piece text t = var_piece_as text t t.kind

-- two spaces for each open brace
abbrev pub indent_pieces : ℕ → List Piece → List Piece
indent_pieces zero ps = ps
indent_pieces (suc depth) ps = space ∷ space ∷ indent_pieces depth ps

-- ---- types, expressions and calls

abbrev pub type_pieces : List ℕ → TypeTree → List Piece → List Piece
type_pieces text (TypeTree.long_type t) ps = mark kind.Long ∷ ps
type_pieces text (TypeTree.bool_type t) ps = mark kind.Bool ∷ ps
type_pieces text (TypeTree.object_type p perm name) ps = mark (perm_word p) ∷ space ∷ name_piece text name ∷ ps
type_pieces text (TypeTree.array_type p perm word opening closing) ps = mark (perm_word p) ∷ space ∷ mark kind.Long ∷ mark kind.OpenBracket ∷ mark kind.CloseBracket ∷ ps

abbrev pub expr_pieces : List ℕ → ExprTree → List Piece → List Piece
expr_pieces text (ExprTree.number t) ps = token kind.Number (signed_decimal (pos t.value)) ∷ ps
expr_pieces text (ExprTree.true_word t) ps = mark kind.True ∷ ps
expr_pieces text (ExprTree.false_word t) ps = mark kind.False ∷ ps
expr_pieces text (ExprTree.null_word t) ps = mark kind.Null ∷ ps
expr_pieces text (ExprTree.variable t) ps = var_piece text t ∷ ps
expr_pieces text (ExprTree.parens opening e closing) ps = mark kind.OpenParen ∷ expr_pieces text e (mark kind.CloseParen ∷ ps)
expr_pieces text (ExprTree.unary o t e) ps = mark (unary_sign o) ∷ expr_pieces text e ps
expr_pieces text (ExprTree.binary o a t b) ps = expr_pieces text a (space ∷ mark (sign o) ∷ space ∷ expr_pieces text b ps)

abbrev pub arg_pieces : List ℕ → ArgTree → List Piece → List Piece
arg_pieces text (ArgTree.plain e) ps = expr_pieces text e ps
arg_pieces text (ArgTree.consumed word name) ps = mark kind.Consume ∷ space ∷ var_piece text name ∷ ps

abbrev pub arg_list_pieces : List ℕ → ArgList → List Piece → List Piece
arg_list_pieces text (ArgList.one_arg a) ps = arg_pieces text a ps
arg_list_pieces text (ArgList.more_args list comma a) ps = arg_list_pieces text list (mark kind.Comma ∷ space ∷ arg_pieces text a ps)

abbrev pub args_pieces : List ℕ → Args → List Piece → List Piece
args_pieces text Args.no_args ps = ps
args_pieces text (Args.args list) ps = arg_list_pieces text list ps

abbrev pub recv_pieces : List ℕ → RecvTree → List Piece → List Piece
recv_pieces text (RecvTree.lent name) ps = var_piece text name ∷ ps
recv_pieces text (RecvTree.given opening word name closing) ps = mark kind.OpenParen ∷ mark kind.Consume ∷ space ∷ var_piece text name ∷ mark kind.CloseParen ∷ ps

abbrev pub call_pieces : List ℕ → CallTree → List Piece → List Piece
call_pieces text (CallTree.call recv dot name opening list closing) ps =
    recv_pieces text recv (mark kind.Dot ∷ name_piece text name ∷ mark kind.OpenParen ∷ args_pieces text list (mark kind.CloseParen ∷ ps))

abbrev pub target_pieces : List ℕ → TargetTree → List Piece → List Piece
target_pieces text (TargetTree.known name) ps = name_piece text name ∷ ps
target_pieces text (TargetTree.declared ty name) ps = type_pieces text ty (space ∷ name_piece text name ∷ ps)

-- ---- statements

-- the end of a statement's line
abbrev pub end_pieces : List Piece → List Piece
end_pieces ps = mark kind.Semicolon ∷ line ∷ ps

abbrev mutual
  pub rhs_pieces : List ℕ → ℕ → RhsTree → List Piece → List Piece
  rhs_pieces text depth (RhsTree.value a) ps = arg_pieces text a ps
  rhs_pieces text depth (RhsTree.field name dot member) ps = var_piece text name ∷ mark kind.Dot ∷ name_piece text member ∷ ps
  rhs_pieces text depth (RhsTree.take_field word name dot member) ps = mark kind.Consume ∷ space ∷ var_piece text name ∷ mark kind.Dot ∷ name_piece text member ∷ ps
  rhs_pieces text depth (RhsTree.item name opening e closing) ps = var_piece text name ∷ mark kind.OpenBracket ∷ expr_pieces text e (mark kind.CloseBracket ∷ ps)
  rhs_pieces text depth (RhsTree.new_object word name opening closing) ps = mark kind.New ∷ space ∷ name_piece text name ∷ mark kind.OpenParen ∷ mark kind.CloseParen ∷ ps
  rhs_pieces text depth (RhsTree.new_array word long opening e closing) ps =
      mark kind.New ∷ space ∷ mark kind.Long ∷ mark kind.OpenBracket ∷ expr_pieces text e (mark kind.CloseBracket ∷ ps)
  rhs_pieces text depth (RhsTree.called c) ps = call_pieces text c ps
  rhs_pieces text depth (RhsTree.recover word opening b give name end closing) ps =
      mark kind.Recover ∷ space ∷ mark kind.OpenBrace ∷ line ∷ stmts_pieces text (suc depth) b (indent_pieces (suc depth)
      (mark kind.Give ∷ space ∷ name_piece text name ∷ end_pieces (indent_pieces depth (mark kind.CloseBrace ∷ ps))))

  pub block_pieces : List ℕ → ℕ → BlockTree → List Piece → List Piece
  block_pieces text depth (BlockTree.block opening b closing) ps = mark kind.OpenBrace ∷ line ∷ stmts_pieces text (suc depth) b (indent_pieces depth (mark kind.CloseBrace ∷ ps))

  -- a statement behind its indentation
  pub stmt_pieces : List ℕ → ℕ → StmtTree → List Piece → List Piece
  stmt_pieces text depth (StmtTree.declare ty name end) ps = type_pieces text ty (space ∷ name_piece text name ∷ end_pieces ps)
  stmt_pieces text depth (StmtTree.assign target equals r end) ps = target_pieces text target (space ∷ mark kind.Assign ∷ space ∷ rhs_pieces text depth r (end_pieces ps))
  stmt_pieces text depth (StmtTree.set_field name dot member equals a end) ps =
      var_piece text name ∷ mark kind.Dot ∷ name_piece text member ∷ space ∷ mark kind.Assign ∷ space ∷ arg_pieces text a (end_pieces ps)
  stmt_pieces text depth (StmtTree.set_item name opening i closing equals e end) ps =
      var_piece text name ∷ mark kind.OpenBracket ∷ expr_pieces text i (mark kind.CloseBracket ∷ space ∷ mark kind.Assign ∷ space ∷ expr_pieces text e (end_pieces ps))
  stmt_pieces text depth (StmtTree.run_call c end) ps = call_pieces text c (end_pieces ps)
  stmt_pieces text depth (StmtTree.print word e end) ps = mark kind.Print ∷ space ∷ expr_pieces text e (end_pieces ps)
  stmt_pieces text depth (StmtTree.if_then word opening e closing a) ps =
      mark kind.If ∷ space ∷ mark kind.OpenParen ∷ expr_pieces text e (mark kind.CloseParen ∷ space ∷ block_pieces text depth a (line ∷ ps))
  stmt_pieces text depth (StmtTree.if_else word opening e closing a otherwise b) ps =
      mark kind.If ∷ space ∷ mark kind.OpenParen ∷ expr_pieces text e (mark kind.CloseParen ∷ space ∷ block_pieces text depth a
      (space ∷ mark kind.Else ∷ space ∷ block_pieces text depth b (line ∷ ps)))
  stmt_pieces text depth (StmtTree.repeat word opening e closing a) ps =
      mark kind.While ∷ space ∷ mark kind.OpenParen ∷ expr_pieces text e (mark kind.CloseParen ∷ space ∷ block_pieces text depth a (line ∷ ps))
  stmt_pieces text depth (StmtTree.par word a b) ps = mark kind.Par ∷ space ∷ block_pieces text depth a (space ∷ block_pieces text depth b (line ∷ ps))

  pub stmts_pieces : List ℕ → ℕ → Stmts → List Piece → List Piece
  stmts_pieces text depth Stmts.no_stmts ps = ps
  stmts_pieces text depth (Stmts.more_stmts b x) ps = stmts_pieces text depth b (indent_pieces depth (stmt_pieces text depth x ps))

-- ---- members and classes

abbrev pub param_list_pieces : List ℕ → ParamList → List Piece → List Piece
param_list_pieces text (ParamList.one_param ty name) ps = type_pieces text ty (space ∷ name_piece text name ∷ ps)
param_list_pieces text (ParamList.more_params list comma ty name) ps = param_list_pieces text list (mark kind.Comma ∷ space ∷ type_pieces text ty (space ∷ name_piece text name ∷ ps))

abbrev pub params_pieces : List ℕ → Params → List Piece → List Piece
params_pieces text Params.no_params ps = ps
params_pieces text (Params.params list) ps = param_list_pieces text list ps

abbrev pub member_pieces : List ℕ → MemberTree → List Piece → List Piece
member_pieces text (MemberTree.field_member ty name end) ps = space ∷ space ∷ type_pieces text ty (space ∷ name_piece text name ∷ end_pieces ps)
member_pieces text (MemberTree.method ty name opening list closing p perm start b word a end finish) ps =
    space ∷ space ∷ type_pieces text ty (space ∷ name_piece text name ∷ mark kind.OpenParen ∷ params_pieces text list
    (mark kind.CloseParen ∷ space ∷ mark (perm_word p) ∷ space ∷ mark kind.OpenBrace ∷ line ∷ stmts_pieces text 2 b
    (space ∷ space ∷ space ∷ space ∷ mark kind.Return ∷ space ∷ arg_pieces text a (end_pieces (space ∷ space ∷ mark kind.CloseBrace ∷ line ∷ ps)))))

abbrev pub members_pieces : List ℕ → Members → List Piece → List Piece
members_pieces text Members.no_members ps = ps
members_pieces text (Members.more_members list x) ps = members_pieces text list (member_pieces text x ps)

abbrev pub program_pieces : List ℕ → Classes → List Piece → List Piece
program_pieces text Classes.no_classes ps = ps
program_pieces text (Classes.more_classes list word name opening members closing) ps =
    program_pieces text list (mark kind.Class ∷ space ∷ name_piece text name ∷ space ∷ mark kind.OpenBrace ∷ line ∷ members_pieces text members (mark kind.CloseBrace ∷ line ∷ ps))
