-- What a method of the parser does, said by the reading of the tokens that are left.
use Rattle.std.specs.Prelude.{◌≡◌, ℕ, ◌+◌, ◌<◌, ◌≤◌, List, [], slice_get, drop, length, Option, Some, None, Result, Ok, Err, ◌==◌, if◌then◌else◌, Bool as Boolean, true, false}
use Rattle.perm_tree.specs.declared.ast.Perm.{Perm}
use Rattle.perm_tree.specs.declared.ast.Stmt.{Stmt}
use Rattle.perm_tree.specs.declared.ast.StmtKind.{StmtKind}
use Rattle.perm_tree.specs.declared.ast.Ty.{Ty}
use Rattle.perm_tree.specs.declared.errors.ParseError.{ParseError}
use Rattle.perm_tree.specs.declared.errors.ParseError.TheVariants.{Unexpected, TooDeep, NoMemory}
use Rattle.perm_tree.specs.declared.tokens.Token.{Token}
use Rattle.perm_tree.specs.declared.tokens.TokenKind.{TokenKind}
use Rattle.perm_tree.specs.declared.tokens.TokenKind.TheVariants as kind
use Rattle.perm_parse.specs.declared.parser.Parser.{Parser}
use Rattle.perm_parse.specs.declared.parser.LocalHead.{LocalHead}
use Rattle.perm_parse.specs.declared.parser.Value.{Value}
use Rattle.perm_parse.specs.declared.parser.Braced.{Braced}
use Rattle.perm_parse.specs.declared.parser.Test.{Test}
use Rattle.perm_tree.specs.declared.ast.Arg.{Arg}
use Rattle.perm_tree.specs.declared.ast.BinaryOp.{BinaryOp}
use Rattle.perm_tree.specs.declared.ast.Call.{Call}
use Rattle.perm_tree.specs.declared.ast.Expr.{Expr}
use Rattle.perm_tree.specs.declared.ast.Ident.{Ident}
use Rattle.perm_parse.specs.Grammar.{Is, IsVar, TypeTree, ExprTree, ArgTree, Args, RhsTree, StmtTree, Stmts, level, CallTree, RecvTree, BlockTree, BeginsType}
use Rattle.perm_parse.specs.States.{State, Pending, Purpose, ArgFor, ArgsPart, CallPart, TypeFor, Assigning, Outer, Open, Room, level_purpose, level_pending, level_arg_for, level_call_part, level_type_for, level_assigning, level_open, level_outer, CallFor, level_call_for, Lead, Wanted, level_state}
use Rattle.perm_parse.specs.Machine.{op_of, push_arg, close_call, after_type, after_value, gives_receiver, enter, after_block, finish}
use Rattle.perm_parse.specs.Meaning.{number_of, ident, var, push_expr, expr_of, arg_of, arg_list_of, args_of, type_of, type_first, push_mention, rhs_of, head_last, stmt_of, push_stmt, simple, call_of, stmts_of, block_of, block_last}
use Rattle.perm_parse.specs.Parses.{deepest}
use Rattle.perm_parse.specs.Answers.{Answer, read_from, unexpected, too_deep}

-- the tokens that are left
abbrev pub rest : Parser → List Token
rest p = drop p.at p.tokens.now

-- what the tokens that are left give, from a state
abbrev pub From : Parser → State → Answer
From p q = read_from (rest p) q p.at

-- the token that comes next
abbrev pub Next : Parser → Token → Type 0
Next p t = slice_get p.tokens.now p.at ≡ Some t

-- one token further, with the same program
pub record IsAhead (old new : Parser) : Type 0 where
  pub text : new.text ≡ old.text
  pub tokens : new.tokens ≡ old.tokens
  pub at : new.at ≡ old.at + 1
  pub program : new.program ≡ old.program

-- no token is given back, and nothing of the program is lost
pub record Onward (old new : Parser) : Type 0 where
  pub text : new.text ≡ old.text
  pub tokens : new.tokens ≡ old.tokens
  pub at : old.at ≤ new.at
  pub exprs : length old.program.exprs ≤ length new.program.exprs
  pub stmts : length old.program.stmts ≤ length new.program.stmts

-- a token of this kind is taken, or it doesn't come next
abbrev pub TakesToken : TokenKind → Parser → Parser → Result Token ParseError → Type 0
TakesToken wanted old new (Ok t) = Next old t × Is wanted t × IsAhead old new
TakesToken wanted old new (Err e) = (e ≡ Unexpected old.at) × ((t : Token) → Next old t → Is wanted t → ⊥)

-- a token of this kind comes next
abbrev pub IsNext : TokenKind → Parser → Type 0
IsNext wanted p = (t : Token) × (Next p t × Is wanted t)

-- no token of this kind comes next
abbrev pub IsNotNext : TokenKind → Parser → Type 0
IsNotNext wanted p = (t : Token) → Next p t → Is wanted t → ⊥

-- a name or `this` is taken, or it doesn't come next
abbrev pub TakesVar : Parser → Parser → Result Token ParseError → Type 0
TakesVar old new (Ok t) = Next old t × IsVar t × IsAhead old new
TakesVar old new (Err e) = (e ≡ Unexpected old.at) × ((t : Token) → Next old t → IsVar t → ⊥)

-- a bracket or a unary operator is taken, or it doesn't come next, or it opens a level too many
abbrev pub OpensLevel : TokenKind → ℕ → Parser → Parser → Result Token ParseError → Type 0
OpensLevel wanted depth old new (Ok t) = TakesToken wanted old new (Ok t) × (depth < deepest)
OpensLevel wanted depth old new (Err (Unexpected i)) = TakesToken wanted old new (Err (Unexpected i))
OpensLevel wanted depth old new (Err (TooDeep i)) = (i ≡ old.at) × IsNext wanted old × (depth ≡ deepest)
OpensLevel wanted depth old new (Err NoMemory) = ⊥

-- the same place
pub record IsHere (old new : Parser) : Type 0 where
  pub text : new.text ≡ old.text
  pub tokens : new.tokens ≡ old.tokens
  pub at : new.at ≡ old.at

-- an expression is added, and this is its place
abbrev pub PushesExpr : Expr → Parser → Parser → Result ℕ ParseError → Type 0
PushesExpr e old new (Ok n) = (n ≡ length old.program.exprs) × (new.program ≡ (push_expr e old.program).1) × IsHere old new
PushesExpr e old new (Err err) = err ≡ NoMemory

-- the name of a token has this number
abbrev pub NumbersName : Token → Parser → Parser → Result ℕ ParseError → Type 0
NumbersName t old new (Ok n) = (n ≡ (number_of old.text.now t old.program).0) × (new.program ≡ (number_of old.text.now t old.program).1) × IsHere old new
NumbersName t old new (Err err) = err ≡ NoMemory

-- the same with its span
abbrev pub NamesToken : Token → Parser → Parser → Result Ident ParseError → Type 0
NamesToken t old new (Ok i) = (i ≡ (ident old.text.now t old.program).0) × (new.program ≡ (ident old.text.now t old.program).1) × IsHere old new
NamesToken t old new (Err err) = err ≡ NoMemory

-- a class name is added to the mentioned ones
abbrev pub MentionsClass : Ident → Parser → Parser → Result (Unit {0}) ParseError → Type 0
MentionsClass i old new (Ok u) = (new.program ≡ push_mention i old.program) × IsHere old new
MentionsClass i old new (Err err) = err ≡ NoMemory

-- the same of a name or `this`
abbrev pub NamesVar : Token → Parser → Parser → Result Ident ParseError → Type 0
NamesVar t old new (Ok i) = (i ≡ (var old.text.now t old.program).0) × (new.program ≡ (var old.text.now t old.program).1) × IsHere old new
NamesVar t old new (Err err) = err ≡ NoMemory

-- ---- from state to state

-- what a parser gives from a state, another gives from another
pub record Leads (p : Parser) (q : State) (r : Parser) (s : State) : Type 0 where
  pub same : From p q ≡ From r s

-- the refusal is this answer
abbrev pub IsRefusal : ParseError → Answer → Type 0
IsRefusal (Unexpected i) answer = answer ≡ unexpected i
IsRefusal (TooDeep i) answer = answer ≡ too_deep i
IsRefusal NoMemory answer = Unit {0}

-- this is the refusal that a parser gives from a state, or memory ran out
pub record Refuses (p : Parser) (q : State) (e : ParseError) : Type 0 where
  pub says : IsRefusal e (From p q)

-- ---- expressions

-- the operator is looser than this
abbrev pub NoOp : ℕ → Option BinaryOp → Type 0
NoOp l None = Unit {0}
NoOp l (Some o) = l < level o

-- the next token is no operator of this looseness or less
abbrev pub IsClosed : ℕ → Parser → Type 0
IsClosed l p = (t : Token) → Next p t → NoOp l (op_of t.kind)

-- the operator, if it is of this level
abbrev pub of_level : ℕ → Option BinaryOp → Option BinaryOp
of_level wanted None = None
of_level wanted (Some o) = if level o == wanted then Some o else None

-- the operator of a token, if it is of this level
abbrev pub operator_at : ℕ → Option Token → Option BinaryOp
operator_at wanted None = None
operator_at wanted (Some t) = of_level wanted (op_of t.kind)

-- an expression of at most this looseness was read, whatever stands round it
pub record ExprRead (l depth : ℕ) (old new : Parser) (e : ℕ) : Type 0 where
  pub tree : ExprTree
  pub place : e ≡ (expr_of old.text.now tree old.program).0
  pub program : new.program ≡ (expr_of old.text.now tree old.program).1
  pub leads : (ps : List Pending) (k : Purpose) → level_pending (level_purpose k) ps ≡ depth → Room l ps → Leads old (State.operand ps k) new (State.after tree ps k)

-- what a method that reads an expression answers: it was read, whatever stands round it, or refused
abbrev pub ReadsExpr : ℕ → ℕ → Parser → Parser → Result ℕ ParseError → Type 0
ReadsExpr l depth old new (Ok e) = ExprRead l depth old new e
ReadsExpr l depth old new (Err e) = (ps : List Pending) (k : Purpose) → level_pending (level_purpose k) ps ≡ depth → Room l ps → Refuses old (State.operand ps k) e

-- ---- arguments

-- an argument was read, whatever it is for
pub record ArgRead (depth : ℕ) (old new : Parser) (a : Arg) : Type 0 where
  pub tree : ArgTree
  pub is : a ≡ (arg_of old.text.now tree old.program).0
  pub program : new.program ≡ (arg_of old.text.now tree old.program).1
  pub leads : (k : ArgFor) → level_arg_for k ≡ depth → Leads old (State.arg_due k) new (State.arg_taken k tree)

-- what a method that reads an argument answers: it was read, whatever stands round it, or refused
abbrev pub ReadsArg : ℕ → Parser → Parser → Result Arg ParseError → Type 0
ReadsArg depth old new (Ok a) = ArgRead depth old new a
ReadsArg depth old new (Err e) = (k : ArgFor) → level_arg_for k ≡ depth → Refuses old (State.arg_due k) e

-- some arguments were read, of which the last is taken
pub record ArgsPartRead (depth : ℕ) (old new : Parser) (list : List Arg) : Type 0 where
  pub part : ArgsPart
  pub last : ArgTree
  pub is : list ≡ (arg_list_of old.text.now (push_arg part last) old.program).0
  pub program : new.program ≡ (arg_list_of old.text.now (push_arg part last) old.program).1
  pub leads : (c : CallPart) → level_call_part c ≡ depth → Leads old (State.args_due c) new (State.arg_taken (ArgFor.to_pass c part) last)

-- the arguments of a call were read, with its closing parenthesis
pub record ArgsRead (depth : ℕ) (old new : Parser) (list : List Arg) : Type 0 where
  pub tree : Args
  pub closing : Token
  pub is : list ≡ (args_of old.text.now tree old.program).0
  pub program : new.program ≡ (args_of old.text.now tree old.program).1
  pub leads : (c : CallPart) → level_call_part c ≡ depth → Leads old (State.args_due c) new (close_call c tree closing)

-- what a method that reads the arguments of a call answers: it was read, whatever stands round it, or refused
abbrev pub ReadsArgs : ℕ → Parser → Parser → Result (List Arg) ParseError → Type 0
ReadsArgs depth old new (Ok list) = ArgsRead depth old new list
ReadsArgs depth old new (Err e) = (c : CallPart) → level_call_part c ≡ depth → Refuses old (State.args_due c) e

-- a call was read from behind `( consume`, whatever it is for
pub record GivenRead (depth : ℕ) (old new : Parser) (c : Call) : Type 0 where
  pub name : Token
  pub closing : Token
  pub dot : Token
  pub member : Token
  pub paren : Token
  pub list : Args
  pub end : Token
  pub is : (opening word : Token) → c ≡ (call_of old.text.now (CallTree.call (RecvTree.given opening word name closing) dot member paren list end) old.program).0
  pub program : (opening word : Token) → new.program ≡ (call_of old.text.now (CallTree.call (RecvTree.given opening word name closing) dot member paren list end) old.program).1
  pub leads : (k : CallFor) (opening word : Token) → level_call_for k ≡ depth →
      Leads old (gives_receiver k opening word) new (close_call (CallPart.call_part k (RecvTree.given opening word name closing) dot member paren) list end)

-- what a method that reads a call on a consumed receiver answers: it was read, whatever stands round it, or refused
abbrev pub ReadsGiven : ℕ → Parser → Parser → Result Call ParseError → Type 0
ReadsGiven depth old new (Ok c) = GivenRead depth old new c
ReadsGiven depth old new (Err e) = (k : CallFor) (opening word : Token) → level_call_for k ≡ depth → Refuses old (gives_receiver k opening word) e

-- ---- types

-- the class's name, or `long[]`, was read behind the word of a permission, whatever the type is for
pub record ShapeRead (depth : ℕ) (p : Perm) (old new : Parser) (t : Ty) : Type 0 where
  pub tree : Token → TypeTree
  pub first : (word : Token) → type_first (tree word) ≡ word
  pub is : (word : Token) → t ≡ (type_of old.text.now (tree word) old.program).0
  pub program : (word : Token) → new.program ≡ (type_of old.text.now (tree word) old.program).1
  pub leads : (k : TypeFor) (word : Token) → level_type_for k ≡ depth → Leads old (State.perm_seen k p word) new (after_type k (tree word))

-- what a method that reads a type behind its permission answers: it was read, whatever stands round it, or refused
abbrev pub ReadsShape : ℕ → Perm → Parser → Parser → Result Ty ParseError → Type 0
ReadsShape depth p old new (Ok t) = ShapeRead depth p old new t
ReadsShape depth p old new (Err e) = (k : TypeFor) (word : Token) → level_type_for k ≡ depth → Refuses old (State.perm_seen k p word) e

-- a type was read, whatever it is for
pub record TypeRead (depth : ℕ) (old new : Parser) (t : Ty) : Type 0 where
  pub tree : TypeTree
  pub first : Next old (type_first tree)
  pub is : t ≡ (type_of old.text.now tree old.program).0
  pub program : new.program ≡ (type_of old.text.now tree old.program).1
  pub leads : (k : TypeFor) → level_type_for k ≡ depth → Leads old (State.type_due k) new (after_type k tree)

-- what a method that reads a type answers: it was read, whatever stands round it, or refused
abbrev pub ReadsType : ℕ → Parser → Parser → Result Ty ParseError → Type 0
ReadsType depth old new (Ok t) = TypeRead depth old new t
ReadsType depth old new (Err e) = (k : TypeFor) → level_type_for k ≡ depth → Refuses old (State.type_due k) e

-- a type comes next
abbrev pub IsNextType : Parser → Type 0
IsNextType p = (t : Token) × (Next p t × BeginsType t.kind)

-- the type and the name of a local variable were read, where a statement begins
pub record LocalRead (depth : ℕ) (old new : Parser) (h : LocalHead) : Type 0 where
  pub tree : TypeTree
  pub word : Token
  pub ty : h.ty ≡ (type_of old.text.now tree old.program).0
  pub name : h.name ≡ (ident old.text.now word (type_of old.text.now tree old.program).1).0
  pub program : new.program ≡ (ident old.text.now word (type_of old.text.now tree old.program).1).1
  pub first : h.first ≡ type_first tree
  pub leads : (o : Open) → level_open o ≡ depth → Leads old (State.listing o) new (State.local_named o tree word)

-- what a method that reads the head of a local declaration answers: it was read, whatever stands round it, or refused
abbrev pub ReadsLocal : ℕ → Parser → Parser → Result LocalHead ParseError → Type 0
ReadsLocal depth old new (Ok h) = LocalRead depth old new h
ReadsLocal depth old new (Err e) = (o : Open) → level_open o ≡ depth → Refuses old (State.listing o) e

-- ---- right sides

-- the token behind the next one
abbrev pub Second : Parser → Token → Type 0
Second p t = slice_get p.tokens.now (p.at + 1) ≡ Some t

-- a token of this kind stands behind the next one
abbrev pub IsSecond : TokenKind → Parser → Type 0
IsSecond wanted p = (t : Token) × (Second p t × Is wanted t)

-- no token of this kind stands behind the next one
abbrev pub IsNotSecond : TokenKind → Parser → Type 0
IsNotSecond wanted p = (t : Token) → Second p t → Is wanted t → ⊥

-- a name or `this` comes next
abbrev pub IsNextVar : Parser → Type 0
IsNextVar p = (t : Token) × (Next p t × IsVar t)

-- the next two tokens begin an expression on the right side, and no other value
pub record IsPlain (p : Parser) : Type 0 where
  pub no_consume : IsNotNext kind.Consume p
  pub no_new : IsNotNext kind.New p
  pub no_recover : IsNotNext kind.Recover p
  pub no_member : (t c : Token) → Next p t → IsVar t → Second p c → Is kind.Dot c → ⊥
  pub no_item : (t c : Token) → Next p t → IsVar t → Second p c → Is kind.OpenBracket c → ⊥
  pub no_receiver : (t c : Token) → Next p t → Is kind.OpenParen t → Second p c → Is kind.Consume c → ⊥

-- a right side was read with its semicolon, whatever is assigned
pub record ValueRead (depth : ℕ) (old new : Parser) (v : Value) : Type 0 where
  pub tree : RhsTree
  pub is : v.rhs ≡ (rhs_of old.text.now tree old.program).0
  pub program : new.program ≡ (rhs_of old.text.now tree old.program).1
  pub head : v.head ≡ head_last tree v.end
  pub leads : (a : Assigning) → level_assigning a ≡ depth → Leads old (State.value_due a) new (after_value a tree v.end)

-- what a method that reads a right side answers: it was read, whatever stands round it, or refused
abbrev pub ReadsValue : ℕ → Parser → Parser → Result Value ParseError → Type 0
ReadsValue depth old new (Ok v) = ValueRead depth old new v
ReadsValue depth old new (Err e) = (a : Assigning) → level_assigning a ≡ depth → Refuses old (State.value_due a) e

-- ---- statements

-- a statement is added, and this is its place
abbrev pub PushesStmt : Stmt → Parser → Parser → Result ℕ ParseError → Type 0
PushesStmt x old new (Ok n) = (n ≡ length old.program.stmts) × (new.program ≡ (push_stmt x old.program).1) × IsHere old new
PushesStmt x old new (Err err) = err ≡ NoMemory

-- the semicolon of a statement with no block was taken, and the statement is added at this place
pub record StmtEnded (first : Token) (k : StmtKind) (old new : Parser) (n : ℕ) : Type 0 where
  pub end : Token
  pub next : Next old end
  pub is : Is kind.Semicolon end
  pub tokens : new.tokens ≡ old.tokens
  pub at : new.at ≡ old.at + 1
  pub place : n ≡ length old.program.stmts
  pub program : new.program ≡ (push_stmt (simple first end k) old.program).1

-- what a method that ends a statement answers
abbrev pub EndsStmt : Token → StmtKind → Parser → Parser → Result ℕ ParseError → Type 0
EndsStmt first k old new (Ok n) = StmtEnded first k old new n
EndsStmt first k old new (Err (Unexpected i)) = (i ≡ old.at) × IsNotNext kind.Semicolon old
EndsStmt first k old new (Err (TooDeep i)) = ⊥
EndsStmt first k old new (Err NoMemory) = Unit {0}

-- a statement was read behind others, whatever blocks stand round it
pub record StmtRead (depth : ℕ) (old new : Parser) (n : ℕ) : Type 0 where
  pub tree : StmtTree
  pub place : n ≡ length (stmt_of old.text.now tree old.program).1.stmts
  pub program : new.program ≡ (push_stmt (stmt_of old.text.now tree old.program).0 (stmt_of old.text.now tree old.program).1).1
  pub leads : (u : Outer) (b : Stmts) → level_outer u ≡ depth → Leads old (State.listing (Open.at u b)) new (State.listing (Open.at u (Stmts.more_stmts b tree)))

-- what a method that reads a statement answers: it was read, whatever stands round it, or refused
abbrev pub ReadsStmt : ℕ → Parser → Parser → Result ℕ ParseError → Type 0
ReadsStmt depth old new (Ok n) = StmtRead depth old new n
ReadsStmt depth old new (Err e) = (u : Outer) (b : Stmts) → level_outer u ≡ depth → Refuses old (State.listing (Open.at u b)) e

-- ---- lists of statements and blocks

-- whether a statement begins with a token of this kind
abbrev pub begins_stmt : TokenKind → Boolean
begins_stmt kind.Name = true
begins_stmt kind.This = true
begins_stmt kind.OpenParen = true
begins_stmt kind.Long = true
begins_stmt kind.Bool = true
begins_stmt kind.Isolated = true
begins_stmt kind.Immutable = true
begins_stmt kind.Readable = true
begins_stmt kind.Writable = true
begins_stmt kind.Print = true
begins_stmt kind.If = true
begins_stmt kind.While = true
begins_stmt kind.Par = true
begins_stmt _ = false

-- a token comes next that begins a statement
abbrev pub IsStmtNext : Parser → Type 0
IsStmtNext p = (t : Token) × (Next p t × (begins_stmt t.kind ≡ true))

-- the next token begins no statement
abbrev pub IsNoStmtNext : Parser → Type 0
IsNoStmtNext p = (t : Token) → Next p t → begins_stmt t.kind ≡ false

-- statements were read, whatever blocks stand round them
pub record StmtsRead (depth : ℕ) (old new : Parser) (list : List ℕ) : Type 0 where
  pub tree : Stmts
  pub is : list ≡ (stmts_of old.text.now tree old.program).0
  pub program : new.program ≡ (stmts_of old.text.now tree old.program).1
  pub leads : (u : Outer) → level_outer u ≡ depth → Leads old (State.listing (Open.at u Stmts.no_stmts)) new (State.listing (Open.at u tree))

-- they were read, or this is the refusal
abbrev pub ReadsStmts : ℕ → Parser → Parser → Result (List ℕ) ParseError → Type 0
ReadsStmts depth old new (Ok list) = StmtsRead depth old new list
ReadsStmts depth old new (Err e) = (u : Outer) → level_outer u ≡ depth → Refuses old (State.listing (Open.at u Stmts.no_stmts)) e

-- the brace that closes the block of this statement leads to this state, whatever is in the block
abbrev pub Closes : Outer → Stmts → Lead → (BlockTree → State) → Type 0
Closes u b lead next = (a : BlockTree) → after_block u b lead a ≡ Some (next a)

-- a block was read, whatever statement it is part of
pub record BlockRead (depth : ℕ) (old new : Parser) (v : Braced) : Type 0 where
  pub tree : BlockTree
  pub is : v.block ≡ (block_of old.text.now tree old.program).0
  pub program : new.program ≡ (block_of old.text.now tree old.program).1
  pub last : v.closing ≡ block_last tree
  pub leads : (u : Outer) (b : Stmts) (lead : Lead) (next : BlockTree → State) → level_outer u ≡ depth → Closes u b lead next → Leads old (enter (Open.at u b) lead) new (next tree)

-- it was read, or this is the refusal
abbrev pub ReadsBlock : ℕ → Parser → Parser → Result Braced ParseError → Type 0
ReadsBlock depth old new (Ok v) = BlockRead depth old new v
ReadsBlock depth old new (Err e) = (u : Outer) (b : Stmts) (lead : Lead) (next : BlockTree → State) → level_outer u ≡ depth → Closes u b lead next → Refuses old (enter (Open.at u b) lead) e

-- an expression in parentheses, read for this purpose: it stands one level deeper, and its closing parenthesis leads to this state
pub record Between (depth : ℕ) (purpose : Token → Purpose) (next : Token → ExprTree → Token → State) : Type 0 where
  pub level : (opening : Token) → level_purpose (purpose opening) ≡ depth + 1
  pub behind : (opening : Token) (e : ExprTree) (t : Token) → level_state (next opening e t) ≡ depth
  pub closes : (opening : Token) (e : ExprTree) (t : Token) → finish (purpose opening) e t kind.CloseParen ≡ Some (next opening e t)
  pub others : (opening : Token) (e : ExprTree) (t : Token) (other : TokenKind) → (other ≡ kind.CloseParen → ⊥) → finish (purpose opening) e t other ≡ None

-- where the opening parenthesis of a condition has to come
abbrev pub test_due : (List Token → List Token) → ℕ → (Token → Purpose) → State
test_due so_far depth purpose = State.expects so_far depth (Wanted.exactly kind.OpenParen) (λ opening. State.operand [] (purpose opening))

-- a condition in parentheses was read, whatever it is for
pub record TestRead (depth : ℕ) (old new : Parser) (v : Test) : Type 0 where
  pub opening : Token
  pub tree : ExprTree
  pub place : v.value ≡ (expr_of old.text.now tree old.program).0
  pub program : new.program ≡ (expr_of old.text.now tree old.program).1
  pub leads : (so_far : List Token → List Token) (d : ℕ) (purpose : Token → Purpose) (next : Token → ExprTree → Token → State) → Between depth purpose next →
      Leads old (test_due so_far d purpose) new (next opening tree v.closing)

-- it was read, or this is the refusal
abbrev pub ReadsTest : ℕ → Parser → Parser → Result Test ParseError → Type 0
ReadsTest depth old new (Ok v) = TestRead depth old new v
ReadsTest depth old new (Err e) = (so_far : List Token → List Token) (d : ℕ) (purpose : Token → Purpose) (next : Token → ExprTree → Token → State) → Between depth purpose next →
    Refuses old (test_due so_far d purpose) e
