-- Where the reading of a program can stand: a state for each place between two tokens, with the trees that have been read.
use Rattle.std.specs.Prelude.{◌≡◌, ℕ, ◌+◌, ◌<◌, List, [], ◌∷◌}
use Rattle.perm_tree.specs.declared.ast.Perm.{Perm}
use Rattle.perm_tree.specs.declared.ast.UnaryOp.{UnaryOp}
use Rattle.perm_tree.specs.declared.ast.BinaryOp.{BinaryOp}
use Rattle.perm_tree.specs.declared.tokens.Token.{Token}
use Rattle.perm_tree.specs.declared.tokens.TokenKind.{TokenKind}
use Rattle.perm_parse.specs.Grammar.{TypeTree, ExprTree, ArgTree, ArgList, RecvTree, TargetTree, BlockTree, Stmts, ParamList, Params, Members, Classes, level, type_text, expr_text, arg_list_text, recv_text, target_text, block_text, stmts_text, param_list_text, params_text, members_text, program_text}

-- ---- what has been read

-- an operator whose right operand isn't complete
pub data Pending : Type 0 where
  before : UnaryOp → Token → Pending
  left : ExprTree → BinaryOp → Token → Pending

-- a class whose members are read: the classes before it, `class`, its name, the brace, the members so far
pub data ClassPart : Type 0 where
  class_part : Classes → Token → Token → Token → Members → ClassPart

-- a method whose parameters are read: its class, the type, the name, the parenthesis
pub data MethodPart : Type 0 where
  method_part : ClassPart → TypeTree → Token → Token → MethodPart

-- the parameters so far, with the comma
pub data ParamsPart : Type 0 where
  no_param_yet : ParamsPart
  behind_param : ParamList → Token → ParamsPart

-- a method whose statements are read: the parameters, the parenthesis, the permission, the brace
pub data BodyPart : Type 0 where
  body_part : MethodPart → Params → Token → Perm → Token → Token → BodyPart

-- what stands before the brace of an inner block, in its statement
pub data Lead : Type 0 where
  then_lead : Token → Token → ExprTree → Token → Lead
  else_lead : Token → Token → ExprTree → Token → BlockTree → Token → Lead
  while_lead : Token → Token → ExprTree → Token → Lead
  left_lead : Token → Lead
  right_lead : Token → BlockTree → Lead
  recover_lead : TargetTree → Token → Token → Lead

-- the blocks that are open, each with its statements so far
pub data Outer : Type 0 where
  body : BodyPart → Outer
  inside : Outer → Stmts → Lead → Token → Outer

-- the statements so far of the block that is read, and the blocks round it
pub data Open : Type 0 where
  at : Outer → Stmts → Open

-- an assignment whose right side is read: the target, the sign
pub data Assigning : Type 0 where
  assigning : Open → TargetTree → Token → Assigning

-- what a call is read for
pub data CallFor : Type 0 where
  to_stand : Open → CallFor
  to_assign : Assigning → CallFor

-- a call whose arguments are read
pub data CallPart : Type 0 where
  call_part : CallFor → RecvTree → Token → Token → Token → CallPart

-- the arguments so far, with the comma
pub data ArgsPart : Type 0 where
  no_arg_yet : ArgsPart
  behind_arg : ArgList → Token → ArgsPart

-- what an argument is read for
pub data ArgFor : Type 0 where
  to_set : Open → Token → Token → Token → Token → ArgFor
  to_value : Assigning → ArgFor
  to_pass : CallPart → ArgsPart → ArgFor
  to_return : BodyPart → Stmts → Token → ArgFor

-- what an expression is read for
pub data Purpose : Type 0 where
  inner : List Pending → Purpose → Token → Purpose
  to_arg : ArgFor → Purpose
  to_print : Open → Token → Purpose
  to_if : Open → Token → Token → Purpose
  to_while : Open → Token → Token → Purpose
  to_index : Open → Token → Token → Purpose
  to_item : Open → Token → Token → ExprTree → Token → Token → Purpose
  to_read : Assigning → Token → Token → Purpose
  to_length : Assigning → Token → Token → Token → Purpose

-- what a type is read for
pub data TypeFor : Type 0 where
  to_member : ClassPart → TypeFor
  to_param : MethodPart → ParamsPart → TypeFor
  to_local : Open → TypeFor

-- which token has to come
pub data Wanted : Type 0 where
  exactly : TokenKind → Wanted
  a_variable : Wanted

-- where the reading stands. One state is for every place with one way to go on: with the tokens so far, its level, the token that has to come, and the state behind it
pub data State : Type 0 where
  expects : (List Token → List Token) → ℕ → Wanted → (Token → State) → State
  between_classes : Classes → State
  in_class : ClassPart → State
  perm_seen : TypeFor → Perm → Token → State
  member_named : ClassPart → TypeTree → Token → State
  params_due : MethodPart → State
  type_due : TypeFor → State
  param_named : MethodPart → ParamList → State
  perm_due : MethodPart → Params → Token → State
  listing : Open → State
  after_then : Open → Token → Token → ExprTree → Token → BlockTree → State
  local_named : Open → TypeTree → Token → State
  begun : Open → Token → State
  member_seen : Open → Token → Token → Token → State
  value_due : Assigning → State
  value_named : Assigning → Token → State
  value_member : Assigning → Token → Token → Token → State
  value_consumed : Assigning → Token → Token → State
  paren_seen : Assigning → Token → State
  new_seen : Assigning → Token → State
  args_due : CallPart → State
  arg_due : ArgFor → State
  arg_taken : ArgFor → ArgTree → State
  operand : List Pending → Purpose → State
  after : ExprTree → List Pending → Purpose → State

-- ---- the tokens so far, and behind them the others

-- the tokens of operators and left operands that wait, and behind them the others
abbrev pub pending_text : List Pending → List Token → List Token
pending_text [] rest = rest
pending_text (before o t ∷ ps) rest = pending_text ps (t ∷ rest)
pending_text (left a o t ∷ ps) rest = pending_text ps (expr_text a (t ∷ rest))

-- the tokens of a class so far, and behind them the others
abbrev pub class_part_text : ClassPart → List Token → List Token
class_part_text (class_part list word name opening members) rest = program_text list (word ∷ name ∷ opening ∷ members_text members rest)

-- the tokens of a method so far, and behind them the others
abbrev pub method_part_text : MethodPart → List Token → List Token
method_part_text (method_part c ty name opening) rest = class_part_text c (type_text ty (name ∷ opening ∷ rest))

-- the tokens of parameters so far, and behind them the others
abbrev pub params_part_text : ParamsPart → List Token → List Token
params_part_text no_param_yet rest = rest
params_part_text (behind_param list comma) rest = param_list_text list (comma ∷ rest)

-- the tokens of a body so far, and behind them the others
abbrev pub body_part_text : BodyPart → List Token → List Token
body_part_text (body_part m list closing p word opening) rest = method_part_text m (params_text list (closing ∷ word ∷ opening ∷ rest))

-- the tokens of what stands before a block, and behind them the others
abbrev pub lead_text : Lead → List Token → List Token
lead_text (then_lead word opening e closing) rest = word ∷ opening ∷ expr_text e (closing ∷ rest)
lead_text (else_lead word opening e closing a otherwise) rest = word ∷ opening ∷ expr_text e (closing ∷ block_text a (otherwise ∷ rest))
lead_text (while_lead word opening e closing) rest = word ∷ opening ∷ expr_text e (closing ∷ rest)
lead_text (left_lead word) rest = word ∷ rest
lead_text (right_lead word a) rest = word ∷ block_text a rest
lead_text (recover_lead target equals word) rest = target_text target (equals ∷ word ∷ rest)

-- the tokens of the blocks round a place, and behind them the others
abbrev pub outer_text : Outer → List Token → List Token
outer_text (body b) rest = body_part_text b rest
outer_text (inside u b lead opening) rest = outer_text u (stmts_text b (lead_text lead (opening ∷ rest)))

-- the tokens of the open block so far, and behind them the others
abbrev pub open_text : Open → List Token → List Token
open_text (at u b) rest = outer_text u (stmts_text b rest)

-- the tokens of an assignment up to its right side, and behind them the others
abbrev pub assigning_text : Assigning → List Token → List Token
assigning_text (assigning o target equals) rest = open_text o (target_text target (equals ∷ rest))

-- the tokens of what a call is read for, and behind them the others
abbrev pub call_for_text : CallFor → List Token → List Token
call_for_text (to_stand o) rest = open_text o rest
call_for_text (to_assign a) rest = assigning_text a rest

-- the tokens of a call so far, and behind them the others
abbrev pub call_part_text : CallPart → List Token → List Token
call_part_text (call_part k recv dot name opening) rest = call_for_text k (recv_text recv (dot ∷ name ∷ opening ∷ rest))

-- the tokens of arguments so far, and behind them the others
abbrev pub args_part_text : ArgsPart → List Token → List Token
args_part_text no_arg_yet rest = rest
args_part_text (behind_arg list comma) rest = arg_list_text list (comma ∷ rest)

-- the tokens of what an argument is read for, and behind them the others
abbrev pub arg_for_text : ArgFor → List Token → List Token
arg_for_text (to_set o name dot member equals) rest = open_text o (name ∷ dot ∷ member ∷ equals ∷ rest)
arg_for_text (to_value a) rest = assigning_text a rest
arg_for_text (to_pass c list) rest = call_part_text c (args_part_text list rest)
arg_for_text (to_return b list word) rest = body_part_text b (stmts_text list (word ∷ rest))

-- the tokens of what an expression is read for, and behind them the others
abbrev pub purpose_text : Purpose → List Token → List Token
purpose_text (inner ps k opening) rest = purpose_text k (pending_text ps (opening ∷ rest))
purpose_text (to_arg k) rest = arg_for_text k rest
purpose_text (to_print o word) rest = open_text o (word ∷ rest)
purpose_text (to_if o word opening) rest = open_text o (word ∷ opening ∷ rest)
purpose_text (to_while o word opening) rest = open_text o (word ∷ opening ∷ rest)
purpose_text (to_index o name opening) rest = open_text o (name ∷ opening ∷ rest)
purpose_text (to_item o name opening i closing equals) rest = open_text o (name ∷ opening ∷ expr_text i (closing ∷ equals ∷ rest))
purpose_text (to_read a name opening) rest = assigning_text a (name ∷ opening ∷ rest)
purpose_text (to_length a word long opening) rest = assigning_text a (word ∷ long ∷ opening ∷ rest)

-- the tokens of what a type is read for, and behind them the others
abbrev pub type_for_text : TypeFor → List Token → List Token
type_for_text (to_member c) rest = class_part_text c rest
type_for_text (to_param m list) rest = method_part_text m (params_part_text list rest)
type_for_text (to_local o) rest = open_text o rest

-- ---- the level: brackets that are open, and unary operators whose operand isn't complete

-- the level at the blocks round a place
abbrev pub level_outer : Outer → ℕ
level_outer (body b) = 2
level_outer (inside u b lead opening) = level_outer u + 1

-- the level at the open block so far
abbrev pub level_open : Open → ℕ
level_open (at u b) = level_outer u

-- the level at an assignment up to its right side
abbrev pub level_assigning : Assigning → ℕ
level_assigning (assigning o target equals) = level_open o

-- the level at what a call is read for
abbrev pub level_call_for : CallFor → ℕ
level_call_for (to_stand o) = level_open o
level_call_for (to_assign a) = level_assigning a

-- the level at a call so far
abbrev pub level_call_part : CallPart → ℕ
level_call_part (call_part k recv dot name opening) = level_call_for k + 1

-- the level at what an argument is read for
abbrev pub level_arg_for : ArgFor → ℕ
level_arg_for (to_set o name dot member equals) = level_open o
level_arg_for (to_value a) = level_assigning a
level_arg_for (to_pass c list) = level_call_part c
level_arg_for (to_return b list word) = 2

-- above a level
abbrev pub level_pending : ℕ → List Pending → ℕ
level_pending d [] = d
level_pending d (before o t ∷ ps) = level_pending d ps + 1
level_pending d (left a o t ∷ ps) = level_pending d ps

-- the level at what an expression is read for
abbrev pub level_purpose : Purpose → ℕ
level_purpose (inner ps k opening) = level_pending (level_purpose k) ps + 1
level_purpose (to_arg k) = level_arg_for k
level_purpose (to_print o word) = level_open o
level_purpose (to_if o word opening) = level_open o + 1
level_purpose (to_while o word opening) = level_open o + 1
level_purpose (to_index o name opening) = level_open o + 1
level_purpose (to_item o name opening i closing equals) = level_open o
level_purpose (to_read a name opening) = level_assigning a + 1
level_purpose (to_length a word long opening) = level_assigning a + 1

-- the level at what a type is read for
abbrev pub level_type_for : TypeFor → ℕ
level_type_for (to_member c) = 1
level_type_for (to_param m list) = 2
level_type_for (to_local o) = level_open o

-- the level at a state
abbrev pub level_state : State → ℕ
level_state (expects so_far d wanted next) = d
level_state (between_classes list) = 0
level_state (in_class c) = 1
level_state (perm_seen k p t) = level_type_for k
level_state (member_named c ty name) = 1
level_state (params_due m) = 2
level_state (type_due k) = level_type_for k
level_state (param_named m list) = 2
level_state (perm_due m list closing) = 1
level_state (listing o) = level_open o
level_state (after_then o word opening e closing a) = level_open o
level_state (local_named o ty name) = level_open o
level_state (begun o name) = level_open o
level_state (member_seen o name dot member) = level_open o
level_state (value_due a) = level_assigning a
level_state (value_named a name) = level_assigning a
level_state (value_member a name dot member) = level_assigning a
level_state (value_consumed a word name) = level_assigning a
level_state (paren_seen a opening) = level_assigning a + 1
level_state (new_seen a word) = level_assigning a
level_state (args_due c) = level_call_part c
level_state (arg_due k) = level_arg_for k
level_state (arg_taken k a) = level_arg_for k
level_state (operand ps k) = level_pending (level_purpose k) ps
level_state (after e ps k) = level_purpose k

-- an expression of looseness l may stand under the pending operators
abbrev pub Room : ℕ → List Pending → Type 0
Room l [] = Unit {0}
Room l (before o t ∷ ps) = l ≡ 0
Room l (left a o t ∷ ps) = l < level o
