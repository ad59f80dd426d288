-- The pieces of a tree are those of a text, and write the tree's tokens.
use Rattle.std.proofs.Common.{ℕ, suc, List, ◌∷◌, refl}
use Rattle.perm_tree.specs.declared.ast.Perm.{Perm}
use Rattle.perm_tree.specs.declared.ast.Perm.TheVariants.{Isolated, Immutable, Readable, Writable}
use Rattle.perm_tree.specs.declared.ast.UnaryOp.{UnaryOp}
use Rattle.perm_tree.specs.declared.ast.UnaryOp.TheVariants as unary_op
use Rattle.perm_tree.specs.declared.ast.BinaryOp.{BinaryOp}
use Rattle.perm_tree.specs.declared.ast.BinaryOp.TheVariants as op
use Rattle.perm_tree.specs.declared.tokens.Token.{Token}
use Rattle.perm_tree.specs.declared.tokens.TokenKind.TheVariants as kinds
use Rattle.perm_lex.specs.Lexes.{Piece, pieces_text}
use Rattle.perm_lex.proofs.Runs.{Stops}
use Rattle.perm_lex.proofs.Writing.{goes_on}
use Rattle.perm_parse.specs.Grammar.{TypeTree, ExprTree, ArgTree, ArgList, Args, RecvTree, CallTree, TargetTree, RhsTree, BlockTree, StmtTree, Stmts, ParamList, Params, MemberTree, Members, Classes}
use Rattle.perm_parse.specs.Grammar.{Is, IsType, IsExpr, IsArg, IsArgList, AreArgs, IsRecv, IsCall, IsTarget, IsRhs, IsBlock, IsStmt, AreStmts, IsParamList, AreParams, IsMember, AreMembers, IsProgram}
use Rattle.perm_parse.specs.Grammar.{type_text, expr_text, arg_text, arg_list_text, args_text, recv_text, call_text, target_text, rhs_text, block_text, stmt_text, stmts_text, param_list_text, params_text, member_text, members_text, program_text, perm_word, unary_sign, sign}
use Rattle.perm_parse.proofs.RoundTrip.CanonicalPieces.{mark, space, end_pieces, name_piece, type_pieces, expr_pieces, arg_pieces, arg_list_pieces, args_pieces, recv_pieces, call_pieces, target_pieces}
use Rattle.perm_parse.proofs.RoundTrip.CanonicalPieces.{rhs_pieces, block_pieces, stmt_pieces, stmts_pieces, param_list_pieces, params_pieces, member_pieces, members_pieces, program_pieces}
use Rattle.perm_parse.proofs.RoundTrip.TokenPieces.{Lays, Starts, plainly, Ends, gap, newline, indented, word_laid, sign_laid, name_laid, var_laid, number_laid, name-starts, var-starts, number-starts}

-- ---- types

perm_laid : (text : List ℕ) (p : Perm) (u : Token) (us : List Token) (ps : List Piece) → Is (perm_word p) u → Lays text us ps → Lays text (u ∷ us) (mark (perm_word p) ∷ space ∷ ps)
perm_laid text Isolated u us ps is more = word_laid kinds.Isolated refl (refl, refl) is refl (gap more)
perm_laid text Immutable u us ps is more = word_laid kinds.Immutable refl (refl, refl) is refl (gap more)
perm_laid text Readable u us ps is more = word_laid kinds.Readable refl (refl, refl) is refl (gap more)
perm_laid text Writable u us ps is more = word_laid kinds.Writable refl (refl, refl) is refl (gap more)

perm-starts : (p : Perm) (ps : List Piece) → Stops goes_on (pieces_text (mark (perm_word p) ∷ ps))
perm-starts Isolated ps = refl
perm-starts Immutable ps = refl
perm-starts Readable ps = refl
perm-starts Writable ps = refl

type_laid : (text : List ℕ) (a : TypeTree) (us : List Token) (ps : List Piece) → IsType a → Ends ps → Lays text us ps → Lays text (type_text a us) (type_pieces text a ps)
type_laid text (TypeTree.long_type t) us ps is ends more = word_laid kinds.Long refl (refl, refl) is ends.0 more
type_laid text (TypeTree.bool_type t) us ps is ends more = word_laid kinds.Bool refl (refl, refl) is ends.0 more
type_laid text (TypeTree.object_type p perm name) us ps is ends more = perm_laid text p perm _ _ is.0 (name_laid is.1 ends.0 more)
type_laid text (TypeTree.array_type p perm word opening closing) us ps is ends more =
    perm_laid text p perm _ _ is.perm (word_laid kinds.Long refl (refl, refl) is.word refl
    (sign_laid kinds.OpenBracket refl refl is.opening (plainly refl) (sign_laid kinds.CloseBracket refl refl is.closing (plainly ends.1) more)))

type-starts : (text : List ℕ) (a : TypeTree) (us : List Token) (ps : List Piece) → Starts text (type_text a us) (type_pieces text a ps)
type-starts text (TypeTree.long_type t) us ps = plainly refl
type-starts text (TypeTree.bool_type t) us ps = plainly refl
type-starts text (TypeTree.object_type p perm name) us ps = plainly (perm-starts p (space ∷ name_piece text name ∷ ps))
type-starts text (TypeTree.array_type p perm word opening closing) us ps =
    plainly (perm-starts p (space ∷ mark kinds.Long ∷ mark kinds.OpenBracket ∷ mark kinds.CloseBracket ∷ ps))

-- ---- expressions

binary_laid : (text : List ℕ) (o : BinaryOp) (u : Token) (us : List Token) (ps : List Piece) → Is (sign o) u → Lays text us ps → Lays text (u ∷ us) (mark (sign o) ∷ space ∷ ps)
binary_laid text op.Mul u us ps is more = sign_laid kinds.Star refl refl is (plainly refl) (gap more)
binary_laid text op.Div u us ps is more = sign_laid kinds.Slash refl refl is (plainly refl) (gap more)
binary_laid text op.Rem u us ps is more = sign_laid kinds.Percent refl refl is (plainly refl) (gap more)
binary_laid text op.Plus u us ps is more = sign_laid kinds.Plus refl refl is (plainly refl) (gap more)
binary_laid text op.Minus u us ps is more = sign_laid kinds.Minus refl refl is (plainly refl) (gap more)
binary_laid text op.Less u us ps is more = sign_laid kinds.Less refl refl is (plainly refl) (gap more)
binary_laid text op.AtMost u us ps is more = sign_laid kinds.AtMost refl refl is (plainly refl) (gap more)
binary_laid text op.Greater u us ps is more = sign_laid kinds.Greater refl refl is (plainly refl) (gap more)
binary_laid text op.AtLeast u us ps is more = sign_laid kinds.AtLeast refl refl is (plainly refl) (gap more)
binary_laid text op.Equal u us ps is more = sign_laid kinds.Equal refl refl is (plainly refl) (gap more)
binary_laid text op.Differs u us ps is more = sign_laid kinds.Differs refl refl is (plainly refl) (gap more)
binary_laid text op.And u us ps is more = sign_laid kinds.And refl refl is (plainly refl) (gap more)
binary_laid text op.Or u us ps is more = sign_laid kinds.Or refl refl is (plainly refl) (gap more)

unary_laid : (text : List ℕ) (o : UnaryOp) (u : Token) (us : List Token) (ps : List Piece) → Is (unary_sign o) u → Starts text us ps → Lays text us ps → Lays text (u ∷ us) (mark (unary_sign o) ∷ ps)
unary_laid text unary_op.Minus u us ps is starts more = sign_laid kinds.Minus refl refl is starts more
unary_laid text unary_op.Not u us ps is starts more = sign_laid kinds.Bang refl refl is starts more

unary-starts : (o : UnaryOp) (ps : List Piece) → Stops goes_on (pieces_text (mark (unary_sign o) ∷ ps))
unary-starts unary_op.Minus ps = refl
unary-starts unary_op.Not ps = refl

expr-starts : (text : List ℕ) (a : ExprTree) (us : List Token) (ps : List Piece) → IsExpr a → Starts text (expr_text a us) (expr_pieces text a ps)
expr-starts text (ExprTree.number t) us ps is = number-starts text t us ps is
expr-starts text (ExprTree.true_word t) us ps is = plainly refl
expr-starts text (ExprTree.false_word t) us ps is = plainly refl
expr-starts text (ExprTree.null_word t) us ps is = plainly refl
expr-starts text (ExprTree.variable t) us ps is = var-starts text t us ps is
expr-starts text (ExprTree.parens opening e closing) us ps is = plainly refl
expr-starts text (ExprTree.unary o t e) us ps is = plainly (unary-starts o (expr_pieces text e ps))
expr-starts text (ExprTree.binary o a t b) us ps is = expr-starts text a _ _ is.left

expr_laid : (text : List ℕ) (a : ExprTree) (us : List Token) (ps : List Piece) → IsExpr a → Ends ps → Lays text us ps → Lays text (expr_text a us) (expr_pieces text a ps)
expr_laid text (ExprTree.number t) us ps is ends more = number_laid is ends.0 more
expr_laid text (ExprTree.true_word t) us ps is ends more = word_laid kinds.True refl (refl, refl) is ends.0 more
expr_laid text (ExprTree.false_word t) us ps is ends more = word_laid kinds.False refl (refl, refl) is ends.0 more
expr_laid text (ExprTree.null_word t) us ps is ends more = word_laid kinds.Null refl (refl, refl) is ends.0 more
expr_laid text (ExprTree.variable t) us ps is ends more = var_laid is ends.0 more
expr_laid text (ExprTree.parens opening e closing) us ps is ends more =
    sign_laid kinds.OpenParen refl refl is.0 (expr-starts text e _ _ is.1) (expr_laid text e _ _ is.1 (refl, refl) (sign_laid kinds.CloseParen refl refl is.2 (plainly ends.1) more))
expr_laid text (ExprTree.unary o t e) us ps is ends more = unary_laid text o t _ _ is.0 (expr-starts text e us ps is.1) (expr_laid text e us ps is.1 ends more)
expr_laid text (ExprTree.binary o a t b) us ps is ends more =
    expr_laid text a _ _ is.left (refl, refl) (gap (binary_laid text o t _ _ is.operator (expr_laid text b us ps is.right ends more)))

-- ---- arguments and calls

arg-starts : (text : List ℕ) (a : ArgTree) (us : List Token) (ps : List Piece) → IsArg a → Starts text (arg_text a us) (arg_pieces text a ps)
arg-starts text (ArgTree.plain e) us ps is = expr-starts text e us ps is
arg-starts text (ArgTree.consumed word name) us ps is = plainly refl

arg_laid : (text : List ℕ) (a : ArgTree) (us : List Token) (ps : List Piece) → IsArg a → Ends ps → Lays text us ps → Lays text (arg_text a us) (arg_pieces text a ps)
arg_laid text (ArgTree.plain e) us ps is ends more = expr_laid text e us ps is ends more
arg_laid text (ArgTree.consumed word name) us ps is ends more = word_laid kinds.Consume refl (refl, refl) is.0 refl (gap (var_laid is.1 ends.0 more))

arg_list-starts : (text : List ℕ) (a : ArgList) (us : List Token) (ps : List Piece) → IsArgList a → Starts text (arg_list_text a us) (arg_list_pieces text a ps)
arg_list-starts text (ArgList.one_arg a) us ps is = arg-starts text a us ps is
arg_list-starts text (ArgList.more_args list comma a) us ps is = arg_list-starts text list _ _ is.0

arg_list_laid : (text : List ℕ) (a : ArgList) (us : List Token) (ps : List Piece) → IsArgList a → Ends ps → Lays text us ps → Lays text (arg_list_text a us) (arg_list_pieces text a ps)
arg_list_laid text (ArgList.one_arg a) us ps is ends more = arg_laid text a us ps is ends more
arg_list_laid text (ArgList.more_args list comma a) us ps is ends more =
    arg_list_laid text list _ _ is.0 (refl, refl) (sign_laid kinds.Comma refl refl is.1 (plainly refl) (gap (arg_laid text a us ps is.2 ends more)))

args-starts : (text : List ℕ) (a : Args) (us : List Token) (ps : List Piece) → AreArgs a → Starts text us ps → Starts text (args_text a us) (args_pieces text a ps)
args-starts text Args.no_args us ps is starts = starts
args-starts text (Args.args list) us ps is starts = arg_list-starts text list us ps is

args_laid : (text : List ℕ) (a : Args) (us : List Token) (ps : List Piece) → AreArgs a → Ends ps → Lays text us ps → Lays text (args_text a us) (args_pieces text a ps)
args_laid text Args.no_args us ps is ends more = more
args_laid text (Args.args list) us ps is ends more = arg_list_laid text list us ps is ends more

recv_laid : (text : List ℕ) (a : RecvTree) (us : List Token) (ps : List Piece) → IsRecv a → Ends ps → Lays text us ps → Lays text (recv_text a us) (recv_pieces text a ps)
recv_laid text (RecvTree.lent name) us ps is ends more = var_laid is ends.0 more
recv_laid text (RecvTree.given opening word name closing) us ps is ends more =
    sign_laid kinds.OpenParen refl refl is.opening (plainly refl) (word_laid kinds.Consume refl (refl, refl) is.word refl (gap (var_laid is.name refl (sign_laid kinds.CloseParen refl refl is.closing (plainly ends.1) more))))

call_laid : (text : List ℕ) (a : CallTree) (us : List Token) (ps : List Piece) → IsCall a → Ends ps → Lays text us ps → Lays text (call_text a us) (call_pieces text a ps)
call_laid text (CallTree.call recv dot name opening list closing) us ps is ends more =
    recv_laid text recv _ _ is.receiver (refl, refl) (sign_laid kinds.Dot refl refl is.dot (name-starts text name _ _ is.name) (name_laid is.name refl
    (sign_laid kinds.OpenParen refl refl is.opening (args-starts text list _ _ is.args (plainly refl)) (args_laid text list _ _ is.args (refl, refl)
    (sign_laid kinds.CloseParen refl refl is.closing (plainly ends.1) more)))))

-- ---- statements

ended : {text : List ℕ} {u : Token} {us : List Token} {ps : List Piece} → Is kinds.Semicolon u → Lays text us ps → Lays text (u ∷ us) (end_pieces ps)
ended is more = sign_laid kinds.Semicolon refl refl is (plainly refl) (newline more)

target_laid : (text : List ℕ) (a : TargetTree) (us : List Token) (ps : List Piece) → IsTarget a → Ends ps → Lays text us ps → Lays text (target_text a us) (target_pieces text a ps)
target_laid text (TargetTree.known name) us ps is ends more = name_laid is ends.0 more
target_laid text (TargetTree.declared ty name) us ps is ends more = type_laid text ty _ _ is.0 (refl, refl) (gap (name_laid is.1 ends.0 more))

-- the test of an `if` or a `while`, and a space behind it
test_laid : (text : List ℕ) (e : ExprTree) (opening closing : Token) (us : List Token) (ps : List Piece) → Is kinds.OpenParen opening → IsExpr e → Is kinds.CloseParen closing → Lays text us ps →
    Lays text (opening ∷ expr_text e (closing ∷ us)) (mark kinds.OpenParen ∷ expr_pieces text e (mark kinds.CloseParen ∷ space ∷ ps))
test_laid text e opening closing us ps a is b more =
    sign_laid kinds.OpenParen refl refl a (expr-starts text e _ _ is) (expr_laid text e _ _ is (refl, refl) (sign_laid kinds.CloseParen refl refl b (plainly refl) (gap more)))

mutual
  rhs_laid : (text : List ℕ) (depth : ℕ) (a : RhsTree) (us : List Token) (ps : List Piece) → IsRhs a → Ends ps → Lays text us ps → Lays text (rhs_text a us) (rhs_pieces text depth a ps)
  rhs_laid text depth (RhsTree.value a) us ps is ends more = arg_laid text a us ps is ends more
  rhs_laid text depth (RhsTree.field name dot member) us ps is ends more =
      var_laid is.0 refl (sign_laid kinds.Dot refl refl is.1 (name-starts text member _ _ is.2) (name_laid is.2 ends.0 more))
  rhs_laid text depth (RhsTree.take_field word name dot member) us ps is ends more =
      word_laid kinds.Consume refl (refl, refl) is.word refl (gap (var_laid is.name refl (sign_laid kinds.Dot refl refl is.dot (name-starts text member _ _ is.member) (name_laid is.member ends.0 more))))
  rhs_laid text depth (RhsTree.item name opening e closing) us ps is ends more =
      var_laid is.name refl (sign_laid kinds.OpenBracket refl refl is.opening (expr-starts text e _ _ is.index) (expr_laid text e _ _ is.index (refl, refl) (sign_laid kinds.CloseBracket refl refl is.closing (plainly ends.1) more)))
  rhs_laid text depth (RhsTree.new_object word name opening closing) us ps is ends more =
      word_laid kinds.New refl (refl, refl) is.word refl (gap (name_laid is.name refl (sign_laid kinds.OpenParen refl refl is.opening (plainly refl) (sign_laid kinds.CloseParen refl refl is.closing (plainly ends.1) more))))
  rhs_laid text depth (RhsTree.new_array word long opening e closing) us ps is ends more =
      word_laid kinds.New refl (refl, refl) is.word refl (gap (word_laid kinds.Long refl (refl, refl) is.long refl
      (sign_laid kinds.OpenBracket refl refl is.opening (expr-starts text e _ _ is.size) (expr_laid text e _ _ is.size (refl, refl) (sign_laid kinds.CloseBracket refl refl is.closing (plainly ends.1) more)))))
  rhs_laid text depth (RhsTree.called c) us ps is ends more = call_laid text c us ps is ends more
  rhs_laid text depth (RhsTree.recover word opening b give name end closing) us ps is ends more =
      word_laid kinds.Recover refl (refl, refl) is.word refl (gap (sign_laid kinds.OpenBrace refl refl is.opening (plainly refl) (newline (stmts_laid text (suc depth) b _ _ is.body (indented (suc depth)
      (word_laid kinds.Give refl (refl, refl) is.give refl (gap (name_laid is.name refl (ended is.end (indented depth (sign_laid kinds.CloseBrace refl refl is.closing (plainly ends.1) more)))))))))))

  block_laid : (text : List ℕ) (depth : ℕ) (a : BlockTree) (us : List Token) (ps : List Piece) → IsBlock a → Stops goes_on (pieces_text ps) → Lays text us ps → Lays text (block_text a us) (block_pieces text depth a ps)
  block_laid text depth (BlockTree.block opening b closing) us ps is stops more =
      sign_laid kinds.OpenBrace refl refl is.0 (plainly refl) (newline (stmts_laid text (suc depth) b _ _ is.1 (indented depth (sign_laid kinds.CloseBrace refl refl is.2 (plainly stops) more))))

  stmt_laid : (text : List ℕ) (depth : ℕ) (a : StmtTree) (us : List Token) (ps : List Piece) → IsStmt a → Lays text us ps → Lays text (stmt_text a us) (stmt_pieces text depth a ps)
  stmt_laid text depth (StmtTree.declare ty name end) us ps is more = type_laid text ty _ _ is.0 (refl, refl) (gap (name_laid is.1 refl (ended is.2 more)))
  stmt_laid text depth (StmtTree.assign target equals r end) us ps is more =
      target_laid text target _ _ is.target (refl, refl) (gap (sign_laid kinds.Assign refl refl is.equals (plainly refl) (gap (rhs_laid text depth r _ _ is.right (refl, refl) (ended is.end more)))))
  stmt_laid text depth (StmtTree.set_field name dot member equals a end) us ps is more =
      var_laid is.name refl (sign_laid kinds.Dot refl refl is.dot (name-starts text member _ _ is.member) (name_laid is.member refl
      (gap (sign_laid kinds.Assign refl refl is.equals (plainly refl) (gap (arg_laid text a _ _ is.value (refl, refl) (ended is.end more)))))))
  stmt_laid text depth (StmtTree.set_item name opening i closing equals e end) us ps is more =
      var_laid is.name refl (sign_laid kinds.OpenBracket refl refl is.opening (expr-starts text i _ _ is.index) (expr_laid text i _ _ is.index (refl, refl) (sign_laid kinds.CloseBracket refl refl is.closing (plainly refl)
      (gap (sign_laid kinds.Assign refl refl is.equals (plainly refl) (gap (expr_laid text e _ _ is.value (refl, refl) (ended is.end more))))))))
  stmt_laid text depth (StmtTree.run_call c end) us ps is more = call_laid text c _ _ is.0 (refl, refl) (ended is.1 more)
  stmt_laid text depth (StmtTree.print word e end) us ps is more = word_laid kinds.Print refl (refl, refl) is.0 refl (gap (expr_laid text e _ _ is.1 (refl, refl) (ended is.2 more)))
  stmt_laid text depth (StmtTree.if_then word opening e closing a) us ps is more =
      word_laid kinds.If refl (refl, refl) is.word refl (gap (test_laid text e opening closing _ _ is.opening is.test is.closing (block_laid text depth a _ _ is.block refl (newline more))))
  stmt_laid text depth (StmtTree.if_else word opening e closing a otherwise b) us ps is more =
      word_laid kinds.If refl (refl, refl) is.word refl (gap (test_laid text e opening closing _ _ is.opening is.test is.closing (block_laid text depth a _ _ is.first refl
      (gap (word_laid kinds.Else refl (refl, refl) is.otherwise refl (gap (block_laid text depth b _ _ is.second refl (newline more))))))))
  stmt_laid text depth (StmtTree.repeat word opening e closing a) us ps is more =
      word_laid kinds.While refl (refl, refl) is.word refl (gap (test_laid text e opening closing _ _ is.opening is.test is.closing (block_laid text depth a _ _ is.block refl (newline more))))
  stmt_laid text depth (StmtTree.par word a b) us ps is more =
      word_laid kinds.Par refl (refl, refl) is.0 refl (gap (block_laid text depth a _ _ is.1 refl (gap (block_laid text depth b _ _ is.2 refl (newline more)))))

  stmts_laid : (text : List ℕ) (depth : ℕ) (a : Stmts) (us : List Token) (ps : List Piece) → AreStmts a → Lays text us ps → Lays text (stmts_text a us) (stmts_pieces text depth a ps)
  stmts_laid text depth Stmts.no_stmts us ps is more = more
  stmts_laid text depth (Stmts.more_stmts b x) us ps is more = stmts_laid text depth b _ _ is.0 (indented depth (stmt_laid text depth x us ps is.1 more))

-- ---- members and classes

param_list-starts : (text : List ℕ) (a : ParamList) (us : List Token) (ps : List Piece) → Starts text (param_list_text a us) (param_list_pieces text a ps)
param_list-starts text (ParamList.one_param ty name) us ps = type-starts text ty _ _
param_list-starts text (ParamList.more_params list comma ty name) us ps = param_list-starts text list _ _

params-starts : (text : List ℕ) (a : Params) (us : List Token) (ps : List Piece) → Starts text us ps → Starts text (params_text a us) (params_pieces text a ps)
params-starts text Params.no_params us ps starts = starts
params-starts text (Params.params list) us ps starts = param_list-starts text list us ps

param_list_laid : (text : List ℕ) (a : ParamList) (us : List Token) (ps : List Piece) → IsParamList a → Ends ps → Lays text us ps → Lays text (param_list_text a us) (param_list_pieces text a ps)
param_list_laid text (ParamList.one_param ty name) us ps is ends more = type_laid text ty _ _ is.0 (refl, refl) (gap (name_laid is.1 ends.0 more))
param_list_laid text (ParamList.more_params list comma ty name) us ps is ends more =
    param_list_laid text list _ _ is.list (refl, refl) (sign_laid kinds.Comma refl refl is.comma (plainly refl) (gap (type_laid text ty _ _ is.ty (refl, refl) (gap (name_laid is.name ends.0 more)))))

params_laid : (text : List ℕ) (a : Params) (us : List Token) (ps : List Piece) → AreParams a → Ends ps → Lays text us ps → Lays text (params_text a us) (params_pieces text a ps)
params_laid text Params.no_params us ps is ends more = more
params_laid text (Params.params list) us ps is ends more = param_list_laid text list us ps is ends more

member_laid : (text : List ℕ) (a : MemberTree) (us : List Token) (ps : List Piece) → IsMember a → Lays text us ps → Lays text (member_text a us) (member_pieces text a ps)
member_laid text (MemberTree.field_member ty name end) us ps is more = gap (gap (type_laid text ty _ _ is.0 (refl, refl) (gap (name_laid is.1 refl (ended is.2 more)))))
member_laid text (MemberTree.method ty name opening list closing p perm start b word a end finish) us ps is more =
    gap (gap (type_laid text ty _ _ is.ty (refl, refl) (gap (name_laid is.name refl (sign_laid kinds.OpenParen refl refl is.opening (params-starts text list _ _ (plainly refl)) (params_laid text list _ _ is.params (refl, refl)
    (sign_laid kinds.CloseParen refl refl is.closing (plainly refl) (gap (perm_laid text p perm _ _ is.perm (sign_laid kinds.OpenBrace refl refl is.start (plainly refl) (newline (stmts_laid text 2 b _ _ is.body
    (gap (gap (gap (gap (word_laid kinds.Return refl (refl, refl) is.word refl (gap (arg_laid text a _ _ is.back (refl, refl) (ended is.end
    (gap (gap (sign_laid kinds.CloseBrace refl refl is.finish (plainly refl) (newline more))))))))))))))))))))))))

members_laid : (text : List ℕ) (a : Members) (us : List Token) (ps : List Piece) → AreMembers a → Lays text us ps → Lays text (members_text a us) (members_pieces text a ps)
members_laid text Members.no_members us ps is more = more
members_laid text (Members.more_members list x) us ps is more = members_laid text list _ _ is.0 (member_laid text x us ps is.1 more)

pub program_laid : (text : List ℕ) (a : Classes) (us : List Token) (ps : List Piece) → IsProgram a → Lays text us ps → Lays text (program_text a us) (program_pieces text a ps)
program_laid text Classes.no_classes us ps is more = more
program_laid text (Classes.more_classes list word name opening members closing) us ps is more =
    program_laid text list _ _ is.list (word_laid kinds.Class refl (refl, refl) is.word refl (gap (name_laid is.name refl (gap (sign_laid kinds.OpenBrace refl refl is.opening (plainly refl) (newline (members_laid text members _ _ is.members
    (sign_laid kinds.CloseBrace refl refl is.closing (plainly refl) (newline more)))))))))
