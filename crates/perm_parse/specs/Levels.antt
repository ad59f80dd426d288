-- The level behind each token of a tree: brackets that are open, and unary operators whose operand isn't complete.
use Rattle.std.specs.Prelude.{ℕ, ◌+◌, List, ◌∷◌}
use Rattle.perm_parse.specs.Grammar.{TypeTree, ExprTree, ArgTree, ArgList, Args, RecvTree, CallTree, TargetTree, RhsTree, BlockTree, StmtTree, Stmts, ParamList, Params, MemberTree, Members, Classes}

-- the levels behind the tokens of a type at level d, and behind them the others
abbrev pub type_levels : ℕ → TypeTree → List ℕ → List ℕ
type_levels d (TypeTree.long_type t) rest = d ∷ rest
type_levels d (TypeTree.bool_type t) rest = d ∷ rest
type_levels d (TypeTree.object_type p perm name) rest = d ∷ d ∷ rest
type_levels d (TypeTree.array_type p perm word opening closing) rest = d ∷ d ∷ (d + 1) ∷ d ∷ rest

-- inside is the level before the last token of an expression, and behind is that behind it
abbrev pub expr_levels : ℕ → ℕ → ExprTree → List ℕ → List ℕ
expr_levels inside behind (ExprTree.parens opening e closing) rest = (inside + 1) ∷ expr_levels (inside + 1) (inside + 1) e (behind ∷ rest)
expr_levels inside behind (ExprTree.unary o t e) rest = (inside + 1) ∷ expr_levels (inside + 1) behind e rest
expr_levels inside behind (ExprTree.binary o a t b) rest = expr_levels inside behind a (inside ∷ expr_levels inside behind b rest)
expr_levels inside behind _ rest = behind ∷ rest

-- the levels behind the tokens of an argument
abbrev pub arg_levels : ℕ → ArgTree → List ℕ → List ℕ
arg_levels d (ArgTree.plain e) rest = expr_levels d d e rest
arg_levels d (ArgTree.consumed word name) rest = d ∷ d ∷ rest

-- the levels behind the tokens of arguments with commas between them
abbrev pub arg_list_levels : ℕ → ArgList → List ℕ → List ℕ
arg_list_levels d (ArgList.one_arg a) rest = arg_levels d a rest
arg_list_levels d (ArgList.more_args list comma a) rest = arg_list_levels d list (d ∷ arg_levels d a rest)

-- the levels behind the tokens of the arguments of a call
abbrev pub args_levels : ℕ → Args → List ℕ → List ℕ
args_levels d Args.no_args rest = rest
args_levels d (Args.args list) rest = arg_list_levels d list rest

-- the levels behind the tokens of a receiver
abbrev pub recv_levels : ℕ → RecvTree → List ℕ → List ℕ
recv_levels d (RecvTree.lent name) rest = d ∷ rest
recv_levels d (RecvTree.given opening word name closing) rest = (d + 1) ∷ (d + 1) ∷ (d + 1) ∷ d ∷ rest

-- the levels behind the tokens of a call
abbrev pub call_levels : ℕ → CallTree → List ℕ → List ℕ
call_levels d (CallTree.call recv dot name opening list closing) rest = recv_levels d recv (d ∷ d ∷ (d + 1) ∷ args_levels (d + 1) list (d ∷ rest))

-- the levels behind the tokens of the left side of an assignment
abbrev pub target_levels : ℕ → TargetTree → List ℕ → List ℕ
target_levels d (TargetTree.known name) rest = d ∷ rest
target_levels d (TargetTree.declared ty name) rest = type_levels d ty (d ∷ rest)

abbrev mutual
  -- the levels behind the tokens of a right side
  pub rhs_levels : ℕ → RhsTree → List ℕ → List ℕ
  rhs_levels d (RhsTree.value a) rest = arg_levels d a rest
  rhs_levels d (RhsTree.field name dot member) rest = d ∷ d ∷ d ∷ rest
  rhs_levels d (RhsTree.take_field word name dot member) rest = d ∷ d ∷ d ∷ d ∷ rest
  rhs_levels d (RhsTree.item name opening e closing) rest = d ∷ (d + 1) ∷ expr_levels (d + 1) (d + 1) e (d ∷ rest)
  rhs_levels d (RhsTree.new_object word name opening closing) rest = d ∷ d ∷ (d + 1) ∷ d ∷ rest
  rhs_levels d (RhsTree.new_array word long opening e closing) rest = d ∷ d ∷ (d + 1) ∷ expr_levels (d + 1) (d + 1) e (d ∷ rest)
  rhs_levels d (RhsTree.called c) rest = call_levels d c rest
  rhs_levels d (RhsTree.recover word opening b give name end closing) rest = d ∷ (d + 1) ∷ stmts_levels (d + 1) b ((d + 1) ∷ (d + 1) ∷ (d + 1) ∷ d ∷ rest)

  -- the levels behind the tokens of a block
  pub block_levels : ℕ → BlockTree → List ℕ → List ℕ
  block_levels d (BlockTree.block opening b closing) rest = (d + 1) ∷ stmts_levels (d + 1) b (d ∷ rest)

  -- the levels behind the tokens of a statement
  pub stmt_levels : ℕ → StmtTree → List ℕ → List ℕ
  stmt_levels d (StmtTree.declare ty name end) rest = type_levels d ty (d ∷ d ∷ rest)
  stmt_levels d (StmtTree.assign target equals r end) rest = target_levels d target (d ∷ rhs_levels d r (d ∷ rest))
  stmt_levels d (StmtTree.set_field name dot member equals a end) rest = d ∷ d ∷ d ∷ d ∷ arg_levels d a (d ∷ rest)
  stmt_levels d (StmtTree.set_item name opening i closing equals e end) rest = d ∷ (d + 1) ∷ expr_levels (d + 1) (d + 1) i (d ∷ d ∷ expr_levels d d e (d ∷ rest))
  stmt_levels d (StmtTree.run_call c end) rest = call_levels d c (d ∷ rest)
  stmt_levels d (StmtTree.print word e end) rest = d ∷ expr_levels d d e (d ∷ rest)
  stmt_levels d (StmtTree.if_then word opening e closing a) rest = d ∷ (d + 1) ∷ expr_levels (d + 1) (d + 1) e (d ∷ block_levels d a rest)
  stmt_levels d (StmtTree.if_else word opening e closing a otherwise b) rest = d ∷ (d + 1) ∷ expr_levels (d + 1) (d + 1) e (d ∷ block_levels d a (d ∷ block_levels d b rest))
  stmt_levels d (StmtTree.repeat word opening e closing a) rest = d ∷ (d + 1) ∷ expr_levels (d + 1) (d + 1) e (d ∷ block_levels d a rest)
  stmt_levels d (StmtTree.par word a b) rest = d ∷ block_levels d a (block_levels d b rest)

  -- the levels behind the tokens of the statements of a block
  pub stmts_levels : ℕ → Stmts → List ℕ → List ℕ
  stmts_levels d Stmts.no_stmts rest = rest
  stmts_levels d (Stmts.more_stmts b x) rest = stmts_levels d b (stmt_levels d x rest)

-- the levels behind the tokens of parameters with commas between them
abbrev pub param_list_levels : ℕ → ParamList → List ℕ → List ℕ
param_list_levels d (ParamList.one_param ty name) rest = type_levels d ty (d ∷ rest)
param_list_levels d (ParamList.more_params list comma ty name) rest = param_list_levels d list (d ∷ type_levels d ty (d ∷ rest))

-- the levels behind the tokens of the parameters of a method
abbrev pub params_levels : ℕ → Params → List ℕ → List ℕ
params_levels d Params.no_params rest = rest
params_levels d (Params.params list) rest = param_list_levels d list rest

-- a member stands at level 1, and the statements of a method at level 2
abbrev pub member_levels : MemberTree → List ℕ → List ℕ
member_levels (MemberTree.field_member ty name end) rest = type_levels 1 ty (1 ∷ 1 ∷ rest)
member_levels (MemberTree.method ty name opening list closing p perm start b word a end finish) rest =
    type_levels 1 ty (1 ∷ 2 ∷ params_levels 2 list (1 ∷ 1 ∷ 2 ∷ stmts_levels 2 b (2 ∷ arg_levels 2 a (2 ∷ 1 ∷ rest))))

-- the levels behind the tokens of the members of a class
abbrev pub members_levels : Members → List ℕ → List ℕ
members_levels Members.no_members rest = rest
members_levels (Members.more_members list x) rest = members_levels list (member_levels x rest)

-- the levels behind the tokens of a program
abbrev pub program_levels : Classes → List ℕ → List ℕ
program_levels Classes.no_classes rest = rest
program_levels (Classes.more_classes list word name opening members closing) rest = program_levels list (0 ∷ 0 ∷ 1 ∷ members_levels members (0 ∷ rest))
