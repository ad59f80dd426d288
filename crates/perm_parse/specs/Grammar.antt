-- The grammar: trees as they stand in the text, and the tokens that each spells. Leaves are whole tokens.
use Rattle.std.specs.Prelude.{◌≡◌, ℕ, ◌<◌, ◌≤◌, ◌⊎◌, List, ◌∷◌}
use Rattle.perm_tree.specs.declared.ast.Perm.{Perm}
use Rattle.perm_tree.specs.declared.ast.Perm.TheVariants.{Isolated, Immutable, Readable, Writable}
use Rattle.perm_tree.specs.declared.ast.UnaryOp.{UnaryOp}
use Rattle.perm_tree.specs.declared.ast.UnaryOp.TheVariants as unary_op
use Rattle.perm_tree.specs.declared.ast.BinaryOp.{BinaryOp}
use Rattle.perm_tree.specs.declared.ast.BinaryOp.TheVariants as op
use Rattle.perm_tree.specs.declared.tokens.Token.{Token}
use Rattle.perm_tree.specs.declared.tokens.TokenKind.{TokenKind}
use Rattle.perm_tree.specs.declared.tokens.TokenKind.TheVariants as kind
pub use Rattle.perm_tree.specs.Printer.Expressions.{level}

-- a token of this kind
abbrev pub Is : TokenKind → Token → Type 0
Is wanted t = t.kind ≡ wanted

-- Var = Name | "this"
abbrev pub IsVar : Token → Type 0
IsVar t = Is kind.Name t ⊎ Is kind.This t

-- Perm = "isolated" | "immutable" | "readable" | "writable"
abbrev pub perm_word : Perm → TokenKind
perm_word Isolated = kind.Isolated
perm_word Immutable = kind.Immutable
perm_word Readable = kind.Readable
perm_word Writable = kind.Writable

-- ---- types

-- Type = "long" | "bool" | Perm Name | Perm "long" "[" "]"
pub data TypeTree : Type 0 where
  long_type : Token → TypeTree
  bool_type : Token → TypeTree
  object_type : Perm → Token → Token → TypeTree
  array_type : Perm → Token → Token → Token → Token → TypeTree

-- the tokens of a type, and behind them the others
abbrev pub type_text : TypeTree → List Token → List Token
type_text (long_type t) rest = t ∷ rest
type_text (bool_type t) rest = t ∷ rest
type_text (object_type p perm name) rest = perm ∷ name ∷ rest
type_text (array_type p perm word opening closing) rest = perm ∷ word ∷ opening ∷ closing ∷ rest

-- Perm "long" "[" "]"
pub record IsArrayType (p : Perm) (r w o c : Token) : Type 0 where
  pub perm : Is (perm_word p) r
  pub word : Is kind.Long w
  pub opening : Is kind.OpenBracket o
  pub closing : Is kind.CloseBracket c

-- a type is as the grammar has it
abbrev pub IsType : TypeTree → Type 0
IsType (long_type t) = Is kind.Long t
IsType (bool_type t) = Is kind.Bool t
IsType (object_type p perm name) = Is (perm_word p) perm × Is kind.Name name
IsType (array_type p perm word opening closing) = IsArrayType p perm word opening closing

-- a word that begins a type
abbrev pub BeginsType : TokenKind → Type 0
BeginsType kind.Long = Unit {0}
BeginsType kind.Bool = Unit {0}
BeginsType kind.Isolated = Unit {0}
BeginsType kind.Immutable = Unit {0}
BeginsType kind.Readable = Unit {0}
BeginsType kind.Writable = Unit {0}
BeginsType _ = ⊥

-- ---- expressions

-- Unary = "-" Unary | "!" Unary | Number | "true" | "false" | "null" | Var | "(" Expr ")", and the binary operators over Unary
pub data ExprTree : Type 0 where
  number : Token → ExprTree
  true_word : Token → ExprTree
  false_word : Token → ExprTree
  null_word : Token → ExprTree
  variable : Token → ExprTree
  parens : Token → ExprTree → Token → ExprTree
  unary : UnaryOp → Token → ExprTree → ExprTree
  binary : BinaryOp → ExprTree → Token → ExprTree → ExprTree

-- the token of a unary operator
abbrev pub unary_sign : UnaryOp → TokenKind
unary_sign unary_op.Minus = kind.Minus
unary_sign unary_op.Not = kind.Bang

-- the token of a binary operator
abbrev pub sign : BinaryOp → TokenKind
sign op.Mul = kind.Star
sign op.Div = kind.Slash
sign op.Rem = kind.Percent
sign op.Plus = kind.Plus
sign op.Minus = kind.Minus
sign op.Less = kind.Less
sign op.AtMost = kind.AtMost
sign op.Greater = kind.Greater
sign op.AtLeast = kind.AtLeast
sign op.Equal = kind.Equal
sign op.Differs = kind.Differs
sign op.And = kind.And
sign op.Or = kind.Or

-- how loosely the outermost operator binds: 0 for a Unary
abbrev pub looseness : ExprTree → ℕ
looseness (binary o a t b) = level o
looseness _ = 0

-- the tokens of an expression, and behind them the others
abbrev pub expr_text : ExprTree → List Token → List Token
expr_text (number t) rest = t ∷ rest
expr_text (true_word t) rest = t ∷ rest
expr_text (false_word t) rest = t ∷ rest
expr_text (null_word t) rest = t ∷ rest
expr_text (variable t) rest = t ∷ rest
expr_text (parens opening e closing) rest = opening ∷ expr_text e (closing ∷ rest)
expr_text (unary o t e) rest = t ∷ expr_text e rest
expr_text (binary o a t b) rest = expr_text a (t ∷ expr_text b rest)

-- two operands that are expressions (A and B), with an operator that binds looser than the right one and not tighter than the left one
pub record IsBinary (A B : Type 0) (o : BinaryOp) (a : ExprTree) (t : Token) (b : ExprTree) : Type 0 where
  pub left : A
  pub operator : Is (sign o) t
  pub right : B
  pub left_level : looseness a ≤ level o
  pub right_level : looseness b < level o

-- each binary operator is left associative, and a unary one binds tighter
abbrev pub IsExpr : ExprTree → Type 0
IsExpr (number t) = Is kind.Number t
IsExpr (true_word t) = Is kind.True t
IsExpr (false_word t) = Is kind.False t
IsExpr (null_word t) = Is kind.Null t
IsExpr (variable t) = IsVar t
IsExpr (parens opening e closing) = Is kind.OpenParen opening × IsExpr e × Is kind.CloseParen closing
IsExpr (unary o t e) = Is (unary_sign o) t × IsExpr e × (looseness e ≡ 0)
IsExpr (binary o a t b) = IsBinary (IsExpr a) (IsExpr b) o a t b

-- ---- arguments and calls

-- Arg = Expr | "consume" Var
pub data ArgTree : Type 0 where
  plain : ExprTree → ArgTree
  consumed : Token → Token → ArgTree

-- the tokens of an argument, and behind them the others
abbrev pub arg_text : ArgTree → List Token → List Token
arg_text (plain e) rest = expr_text e rest
arg_text (consumed word name) rest = word ∷ name ∷ rest

-- an argument is as the grammar has it
abbrev pub IsArg : ArgTree → Type 0
IsArg (plain e) = IsExpr e
IsArg (consumed word name) = Is kind.Consume word × IsVar name

-- Arg ("," Arg)*
pub data ArgList : Type 0 where
  one_arg : ArgTree → ArgList
  more_args : ArgList → Token → ArgTree → ArgList

-- the tokens of arguments with commas between them, and behind them the others
abbrev pub arg_list_text : ArgList → List Token → List Token
arg_list_text (one_arg a) rest = arg_text a rest
arg_list_text (more_args list comma a) rest = arg_list_text list (comma ∷ arg_text a rest)

-- arguments with commas between them are as the grammar has it
abbrev pub IsArgList : ArgList → Type 0
IsArgList (one_arg a) = IsArg a
IsArgList (more_args list comma a) = IsArgList list × Is kind.Comma comma × IsArg a

-- [Arg ("," Arg)*]
pub data Args : Type 0 where
  no_args : Args
  args : ArgList → Args

-- the tokens of the arguments of a call, and behind them the others
abbrev pub args_text : Args → List Token → List Token
args_text no_args rest = rest
args_text (args list) rest = arg_list_text list rest

-- the arguments of a call are as the grammar has it
abbrev pub AreArgs : Args → Type 0
AreArgs no_args = Unit {0}
AreArgs (args list) = IsArgList list

-- Recv = Var | "(" "consume" Var ")"
pub data RecvTree : Type 0 where
  lent : Token → RecvTree
  given : Token → Token → Token → Token → RecvTree

-- the tokens of a receiver, and behind them the others
abbrev pub recv_text : RecvTree → List Token → List Token
recv_text (lent name) rest = name ∷ rest
recv_text (given opening word name closing) rest = opening ∷ word ∷ name ∷ closing ∷ rest

-- "(" "consume" Var ")"
pub record IsConsumedReceiver (o w n c : Token) : Type 0 where
  pub opening : Is kind.OpenParen o
  pub word : Is kind.Consume w
  pub name : IsVar n
  pub closing : Is kind.CloseParen c

-- a receiver is as the grammar has it
abbrev pub IsRecv : RecvTree → Type 0
IsRecv (lent name) = IsVar name
IsRecv (given opening word name closing) = IsConsumedReceiver opening word name closing

-- Call = Recv "." Name "(" [Arg ("," Arg)*] ")"
pub data CallTree : Type 0 where
  call : RecvTree → Token → Token → Token → Args → Token → CallTree

-- the tokens of a call, and behind them the others
abbrev pub call_text : CallTree → List Token → List Token
call_text (call recv dot name opening list closing) rest = recv_text recv (dot ∷ name ∷ opening ∷ args_text list (closing ∷ rest))

-- Recv "." Name "(" [Arg ("," Arg)*] ")"
pub record IsWholeCall (r : RecvTree) (d n o : Token) (a : Args) (c : Token) : Type 0 where
  pub receiver : IsRecv r
  pub dot : Is kind.Dot d
  pub name : Is kind.Name n
  pub opening : Is kind.OpenParen o
  pub args : AreArgs a
  pub closing : Is kind.CloseParen c

-- a call is as the grammar has it
abbrev pub IsCall : CallTree → Type 0
IsCall (call recv dot name opening list closing) = IsWholeCall recv dot name opening list closing

-- ---- statements

-- what is assigned: [Type] Name
pub data TargetTree : Type 0 where
  known : Token → TargetTree
  declared : TypeTree → Token → TargetTree

-- the tokens of the left side of an assignment, and behind them the others
abbrev pub target_text : TargetTree → List Token → List Token
target_text (known name) rest = name ∷ rest
target_text (declared ty name) rest = type_text ty (name ∷ rest)

-- the left side of an assignment is as the grammar has it
abbrev pub IsTarget : TargetTree → Type 0
IsTarget (known name) = Is kind.Name name
IsTarget (declared ty name) = IsType ty × Is kind.Name name

mutual
  -- Rhs = Arg | Var "." Name | "consume" Var "." Name | Var "[" Expr "]" | "new" Name "(" ")" | "new" "long" "[" Expr "]" | Call
  --     | "recover" "{" Stmt* "give" Name ";" "}"
  pub data RhsTree : Type 0 where
    value : ArgTree → RhsTree
    field : Token → Token → Token → RhsTree
    take_field : Token → Token → Token → Token → RhsTree
    item : Token → Token → ExprTree → Token → RhsTree
    new_object : Token → Token → Token → Token → RhsTree
    new_array : Token → Token → Token → ExprTree → Token → RhsTree
    called : CallTree → RhsTree
    recover : Token → Token → Stmts → Token → Token → Token → Token → RhsTree

  -- Block = "{" Stmt* "}"
  pub data BlockTree : Type 0 where
    block : Token → Stmts → Token → BlockTree

  -- Stmt = Type Name ";" | [Type] Name "=" Rhs ";" | Var "." Name "=" Arg ";" | Var "[" Expr "]" "=" Expr ";" | Call ";" | "print" Expr ";"
  --      | "if" "(" Expr ")" Block ["else" Block] | "while" "(" Expr ")" Block | "par" Block Block
  pub data StmtTree : Type 0 where
    declare : TypeTree → Token → Token → StmtTree
    assign : TargetTree → Token → RhsTree → Token → StmtTree
    set_field : Token → Token → Token → Token → ArgTree → Token → StmtTree
    set_item : Token → Token → ExprTree → Token → Token → ExprTree → Token → StmtTree
    run_call : CallTree → Token → StmtTree
    print : Token → ExprTree → Token → StmtTree
    if_then : Token → Token → ExprTree → Token → BlockTree → StmtTree
    if_else : Token → Token → ExprTree → Token → BlockTree → Token → BlockTree → StmtTree
    repeat : Token → Token → ExprTree → Token → BlockTree → StmtTree
    par : Token → BlockTree → BlockTree → StmtTree

  -- Stmt*: statements, and one more at the end
  pub data Stmts : Type 0 where
    no_stmts : Stmts
    more_stmts : Stmts → StmtTree → Stmts

abbrev mutual
  -- the tokens of a right side, and behind them the others
  pub rhs_text : RhsTree → List Token → List Token
  rhs_text (value a) rest = arg_text a rest
  rhs_text (field name dot member) rest = name ∷ dot ∷ member ∷ rest
  rhs_text (take_field word name dot member) rest = word ∷ name ∷ dot ∷ member ∷ rest
  rhs_text (item name opening e closing) rest = name ∷ opening ∷ expr_text e (closing ∷ rest)
  rhs_text (new_object word name opening closing) rest = word ∷ name ∷ opening ∷ closing ∷ rest
  rhs_text (new_array word long opening e closing) rest = word ∷ long ∷ opening ∷ expr_text e (closing ∷ rest)
  rhs_text (called c) rest = call_text c rest
  rhs_text (recover word opening b give name end closing) rest = word ∷ opening ∷ stmts_text b (give ∷ name ∷ end ∷ closing ∷ rest)

  -- the tokens of a block, and behind them the others
  pub block_text : BlockTree → List Token → List Token
  block_text (block opening b closing) rest = opening ∷ stmts_text b (closing ∷ rest)

  -- the tokens of a statement, and behind them the others
  pub stmt_text : StmtTree → List Token → List Token
  stmt_text (declare ty name end) rest = type_text ty (name ∷ end ∷ rest)
  stmt_text (assign target equals r end) rest = target_text target (equals ∷ rhs_text r (end ∷ rest))
  stmt_text (set_field name dot member equals a end) rest = name ∷ dot ∷ member ∷ equals ∷ arg_text a (end ∷ rest)
  stmt_text (set_item name opening i closing equals e end) rest = name ∷ opening ∷ expr_text i (closing ∷ equals ∷ expr_text e (end ∷ rest))
  stmt_text (run_call c end) rest = call_text c (end ∷ rest)
  stmt_text (print word e end) rest = word ∷ expr_text e (end ∷ rest)
  stmt_text (if_then word opening e closing a) rest = word ∷ opening ∷ expr_text e (closing ∷ block_text a rest)
  stmt_text (if_else word opening e closing a otherwise b) rest = word ∷ opening ∷ expr_text e (closing ∷ block_text a (otherwise ∷ block_text b rest))
  stmt_text (repeat word opening e closing a) rest = word ∷ opening ∷ expr_text e (closing ∷ block_text a rest)
  stmt_text (par word a b) rest = word ∷ block_text a (block_text b rest)

  -- the tokens of the statements of a block, and behind them the others
  pub stmts_text : Stmts → List Token → List Token
  stmts_text no_stmts rest = rest
  stmts_text (more_stmts b x) rest = stmts_text b (stmt_text x rest)

-- "consume" Var "." Name
pub record IsTakenField (w n d m : Token) : Type 0 where
  pub word : Is kind.Consume w
  pub name : IsVar n
  pub dot : Is kind.Dot d
  pub member : Is kind.Name m

-- Var "[" Expr "]"
pub record IsItem (n o : Token) (e : ExprTree) (c : Token) : Type 0 where
  pub name : IsVar n
  pub opening : Is kind.OpenBracket o
  pub index : IsExpr e
  pub closing : Is kind.CloseBracket c

-- "new" Name "(" ")"
pub record IsNewObject (w n o c : Token) : Type 0 where
  pub word : Is kind.New w
  pub name : Is kind.Name n
  pub opening : Is kind.OpenParen o
  pub closing : Is kind.CloseParen c

-- "new" "long" "[" Expr "]"
pub record IsNewArray (w l o : Token) (e : ExprTree) (c : Token) : Type 0 where
  pub word : Is kind.New w
  pub long : Is kind.Long l
  pub opening : Is kind.OpenBracket o
  pub size : IsExpr e
  pub closing : Is kind.CloseBracket c

-- "recover" "{" Stmt* "give" Name ";" "}", with statements (B)
pub record IsRecover (B : Type 0) (w o g n s c : Token) : Type 0 where
  pub word : Is kind.Recover w
  pub opening : Is kind.OpenBrace o
  pub body : B
  pub give : Is kind.Give g
  pub name : Is kind.Name n
  pub end : Is kind.Semicolon s
  pub closing : Is kind.CloseBrace c

-- [Type] Name "=" Rhs ";", with a right side (R)
pub record IsAssignment (R : Type 0) (t : TargetTree) (q s : Token) : Type 0 where
  pub target : IsTarget t
  pub equals : Is kind.Assign q
  pub right : R
  pub end : Is kind.Semicolon s

-- Var "." Name "=" Arg ";"
pub record IsFieldWrite (n d m q : Token) (a : ArgTree) (s : Token) : Type 0 where
  pub name : IsVar n
  pub dot : Is kind.Dot d
  pub member : Is kind.Name m
  pub equals : Is kind.Assign q
  pub value : IsArg a
  pub end : Is kind.Semicolon s

-- Var "[" Expr "]" "=" Expr ";"
pub record IsItemWrite (n o : Token) (i : ExprTree) (c q : Token) (e : ExprTree) (s : Token) : Type 0 where
  pub name : IsVar n
  pub opening : Is kind.OpenBracket o
  pub index : IsExpr i
  pub closing : Is kind.CloseBracket c
  pub equals : Is kind.Assign q
  pub value : IsExpr e
  pub end : Is kind.Semicolon s

-- "if" or "while" with "(" Expr ")" Block, with a block (B)
pub record IsTestedBlock (k : TokenKind) (B : Type 0) (w o : Token) (e : ExprTree) (c : Token) : Type 0 where
  pub word : Is k w
  pub opening : Is kind.OpenParen o
  pub test : IsExpr e
  pub closing : Is kind.CloseParen c
  pub block : B

-- "if" "(" Expr ")" Block "else" Block, with two blocks (A and B)
pub record IsIfElse (A B : Type 0) (w o : Token) (e : ExprTree) (c l : Token) : Type 0 where
  pub word : Is kind.If w
  pub opening : Is kind.OpenParen o
  pub test : IsExpr e
  pub closing : Is kind.CloseParen c
  pub first : A
  pub otherwise : Is kind.Else l
  pub second : B

abbrev mutual
  -- a right side is as the grammar has it
  pub IsRhs : RhsTree → Type 0
  IsRhs (value a) = IsArg a
  IsRhs (field name dot member) = IsVar name × Is kind.Dot dot × Is kind.Name member
  IsRhs (take_field word name dot member) = IsTakenField word name dot member
  IsRhs (item name opening e closing) = IsItem name opening e closing
  IsRhs (new_object word name opening closing) = IsNewObject word name opening closing
  IsRhs (new_array word long opening e closing) = IsNewArray word long opening e closing
  IsRhs (called c) = IsCall c
  IsRhs (recover word opening b give name end closing) = IsRecover (AreStmts b) word opening give name end closing

  -- a block is as the grammar has it
  pub IsBlock : BlockTree → Type 0
  IsBlock (block opening b closing) = Is kind.OpenBrace opening × AreStmts b × Is kind.CloseBrace closing

  -- a statement is as the grammar has it
  pub IsStmt : StmtTree → Type 0
  IsStmt (declare ty name end) = IsType ty × Is kind.Name name × Is kind.Semicolon end
  IsStmt (assign target equals r end) = IsAssignment (IsRhs r) target equals end
  IsStmt (set_field name dot member equals a end) = IsFieldWrite name dot member equals a end
  IsStmt (set_item name opening i closing equals e end) = IsItemWrite name opening i closing equals e end
  IsStmt (run_call c end) = IsCall c × Is kind.Semicolon end
  IsStmt (print word e end) = Is kind.Print word × IsExpr e × Is kind.Semicolon end
  IsStmt (if_then word opening e closing a) = IsTestedBlock kind.If (IsBlock a) word opening e closing
  IsStmt (if_else word opening e closing a otherwise b) = IsIfElse (IsBlock a) (IsBlock b) word opening e closing otherwise
  IsStmt (repeat word opening e closing a) = IsTestedBlock kind.While (IsBlock a) word opening e closing
  IsStmt (par word a b) = Is kind.Par word × IsBlock a × IsBlock b

  -- the statements of a block are as the grammar has it
  pub AreStmts : Stmts → Type 0
  AreStmts no_stmts = Unit {0}
  AreStmts (more_stmts b x) = AreStmts b × IsStmt x

-- ---- members and classes

-- Param ("," Param)*, where Param = Type Name
pub data ParamList : Type 0 where
  one_param : TypeTree → Token → ParamList
  more_params : ParamList → Token → TypeTree → Token → ParamList

-- the tokens of parameters with commas between them, and behind them the others
abbrev pub param_list_text : ParamList → List Token → List Token
param_list_text (one_param ty name) rest = type_text ty (name ∷ rest)
param_list_text (more_params list comma ty name) rest = param_list_text list (comma ∷ type_text ty (name ∷ rest))

-- one parameter more, behind parameters (P)
pub record IsOneParamMore (P : Type 0) (m : Token) (t : TypeTree) (n : Token) : Type 0 where
  pub list : P
  pub comma : Is kind.Comma m
  pub ty : IsType t
  pub name : Is kind.Name n

-- parameters with commas between them are as the grammar has it
abbrev pub IsParamList : ParamList → Type 0
IsParamList (one_param ty name) = IsType ty × Is kind.Name name
IsParamList (more_params list comma ty name) = IsOneParamMore (IsParamList list) comma ty name

-- [Param ("," Param)*]
pub data Params : Type 0 where
  no_params : Params
  params : ParamList → Params

-- the tokens of the parameters of a method, and behind them the others
abbrev pub params_text : Params → List Token → List Token
params_text no_params rest = rest
params_text (params list) rest = param_list_text list rest

-- the parameters of a method are as the grammar has it
abbrev pub AreParams : Params → Type 0
AreParams no_params = Unit {0}
AreParams (params list) = IsParamList list

-- Member = Type Name ";" | Type Name "(" [Param ("," Param)*] ")" Perm "{" Stmt* "return" Arg ";" "}"
pub data MemberTree : Type 0 where
  field_member : TypeTree → Token → Token → MemberTree
  method : TypeTree → Token → Token → Params → Token → Perm → Token → Token → Stmts → Token → ArgTree → Token → Token → MemberTree

-- the tokens of a member, and behind them the others
abbrev pub member_text : MemberTree → List Token → List Token
member_text (field_member ty name end) rest = type_text ty (name ∷ end ∷ rest)
member_text (method ty name opening list closing p perm start b word a end finish) rest =
    type_text ty (name ∷ opening ∷ params_text list (closing ∷ perm ∷ start ∷ stmts_text b (word ∷ arg_text a (end ∷ finish ∷ rest))))

-- Type Name "(" [Param ("," Param)*] ")" Perm "{" Stmt* "return" Arg ";" "}"
pub record IsMethod (t : TypeTree) (n o : Token) (l : Params) (c : Token) (p : Perm) (r b : Token) (x : Stmts) (w : Token) (a : ArgTree) (s f : Token) : Type 0 where
  pub ty : IsType t
  pub name : Is kind.Name n
  pub opening : Is kind.OpenParen o
  pub params : AreParams l
  pub closing : Is kind.CloseParen c
  pub perm : Is (perm_word p) r
  pub start : Is kind.OpenBrace b
  pub body : AreStmts x
  pub word : Is kind.Return w
  pub back : IsArg a
  pub end : Is kind.Semicolon s
  pub finish : Is kind.CloseBrace f

-- a member is as the grammar has it
abbrev pub IsMember : MemberTree → Type 0
IsMember (field_member ty name end) = IsType ty × Is kind.Name name × Is kind.Semicolon end
IsMember (method ty name opening list closing p perm start b word a end finish) = IsMethod ty name opening list closing p perm start b word a end finish

-- Member*: members, and one more at the end
pub data Members : Type 0 where
  no_members : Members
  more_members : Members → MemberTree → Members

-- the tokens of the members of a class, and behind them the others
abbrev pub members_text : Members → List Token → List Token
members_text no_members rest = rest
members_text (more_members list x) rest = members_text list (member_text x rest)

-- the members of a class are as the grammar has it
abbrev pub AreMembers : Members → Type 0
AreMembers no_members = Unit {0}
AreMembers (more_members list x) = AreMembers list × IsMember x

-- Class = "class" Name "{" Member* "}", and Program = Class*: classes, and one more at the end
pub data Classes : Type 0 where
  no_classes : Classes
  more_classes : Classes → Token → Token → Token → Members → Token → Classes

-- the tokens of a program, and behind them the others
abbrev pub program_text : Classes → List Token → List Token
program_text no_classes rest = rest
program_text (more_classes list word name opening members closing) rest = program_text list (word ∷ name ∷ opening ∷ members_text members (closing ∷ rest))

-- one class more, behind classes (C)
pub record IsOneClassMore (C : Type 0) (w n o : Token) (m : Members) (c : Token) : Type 0 where
  pub list : C
  pub word : Is kind.Class w
  pub name : Is kind.Name n
  pub opening : Is kind.OpenBrace o
  pub members : AreMembers m
  pub closing : Is kind.CloseBrace c

-- a program is as the grammar has it
abbrev pub IsProgram : Classes → Type 0
IsProgram no_classes = Unit {0}
IsProgram (more_classes list word name opening members closing) = IsOneClassMore (IsProgram list) word name opening members closing
