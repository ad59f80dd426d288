-- Reading what statements spell: from the statements so far to one more.
use Rattle.std.proofs.Common.{◌≡◌, ℕ, ◌+◌, List, [], ◌∷◌, Option, Some, None, refl, sym, ◌∙◌, ap, subst, inl, inr}
use denote.Enum.Bare.{sameb}
use Rattle.perm_tree.specs.contracts.tokens.TokenKind.{the_type}
use Rattle.perm_tree.specs.declared.ast.Perm.{Perm}
use Rattle.perm_tree.specs.declared.ast.Perm.TheVariants as perm
use Rattle.perm_tree.specs.declared.ast.BinaryOp.{BinaryOp}
use Rattle.perm_tree.specs.declared.ast.UnaryOp.TheVariants as unary_op
use Rattle.perm_tree.specs.declared.tokens.Token.{Token}
use Rattle.perm_tree.specs.declared.tokens.TokenKind.{TokenKind}
use Rattle.perm_tree.specs.declared.tokens.TokenKind.TheVariants as kind
use Rattle.perm_parse.specs.Grammar.{TypeTree, ExprTree, ArgTree, Args, RecvTree, CallTree, TargetTree, RhsTree, BlockTree, StmtTree, Stmts, Is, IsVar, IsType, IsExpr, AreArgs, IsRecv, IsCall, IsTarget, IsRhs, IsBlock, IsStmt, AreStmts, perm_word, sign, type_text, expr_text, args_text, recv_text, call_text, target_text, rhs_text, block_text, stmt_text, stmts_text, BeginsType}
use Rattle.perm_parse.specs.Levels.{args_levels, call_levels, target_levels, rhs_levels, block_levels, stmt_levels, stmts_levels}
use Rattle.perm_parse.specs.States.{Purpose, TypeFor, ArgFor, CallFor, CallPart, Lead, Outer, Open, Assigning, State, level_state, level_outer, level_open, level_assigning, level_call_for}
use Rattle.perm_parse.specs.Machine.{step_as, step_type, state_if, enter, after_block, add_if, after_call, op_of, walk, note_level}
use Rattle.perm_parse.proofs.OneAnswer.Runs.{Runs, stop, go, via}
use Rattle.perm_parse.proofs.OneAnswer.ExpressionRuns.{op_of-sign}
use Rattle.perm_parse.proofs.OneAnswer.ArgumentRuns.{Begins, expr, arg, args, type, go_var, from_same, same_at, same_at-expr}

-- ---- what doesn't begin with `else`

abbrev pub NoElse : List Token → Type 0
NoElse [] = ⊥
NoElse (t ∷ ts) = Is kind.Else t → ⊥

other_kind : (t : Token) (wanted : TokenKind) → (wanted ≡ kind.Else → ⊥) → Is wanted t → Is kind.Else t → ⊥
other_kind t wanted h is e = h (sym is ∙ e)

pub no-else-at : (t : Token) (ts : List Token) (wanted : TokenKind) → (wanted ≡ kind.Else → ⊥) → Is wanted t → NoElse (t ∷ ts)
no-else-at t ts wanted h is e = other_kind t wanted h is e

perm-no-else : (p : Perm) → perm_word p ≡ kind.Else → ⊥
perm-no-else perm.Isolated e = cc
perm-no-else perm.Immutable e = cc
perm-no-else perm.Readable e = cc
perm-no-else perm.Writable e = cc

type-no-else : (ty : TypeTree) (rest : List Token) → IsType ty → NoElse (type_text ty rest)
type-no-else (TypeTree.long_type t) rest h = λ e. other_kind t kind.Long (λ x. cc) h e
type-no-else (TypeTree.bool_type t) rest h = λ e. other_kind t kind.Bool (λ x. cc) h e
type-no-else (TypeTree.object_type p word name) rest h = λ e. other_kind word (perm_word p) (perm-no-else p) h.0 e
type-no-else (TypeTree.array_type p word long opening closing) rest h = λ e. other_kind word (perm_word p) (perm-no-else p) h.perm e

var-no-else : (t : Token) → IsVar t → Is kind.Else t → ⊥
var-no-else t (inl h) e = other_kind t kind.Name (λ x. cc) h e
var-no-else t (inr h) e = other_kind t kind.This (λ x. cc) h e

recv-no-else : (recv : RecvTree) (rest : List Token) → IsRecv recv → NoElse (recv_text recv rest)
recv-no-else (RecvTree.lent name) rest h = λ e. var-no-else name h e
recv-no-else (RecvTree.given opening word name closing) rest h = λ e. other_kind opening kind.OpenParen (λ x. cc) h.opening e

pub stmt-no-else : (x : StmtTree) (rest : List Token) → IsStmt x → NoElse (stmt_text x rest)
stmt-no-else (StmtTree.declare ty name end) rest h = type-no-else ty (name ∷ end ∷ rest) h.0
stmt-no-else (StmtTree.assign (TargetTree.known name) equals r end) rest h = λ e. other_kind name kind.Name (λ x. cc) h.target e
stmt-no-else (StmtTree.assign (TargetTree.declared ty name) equals r end) rest h = type-no-else ty (name ∷ equals ∷ rhs_text r (end ∷ rest)) h.target.0
stmt-no-else (StmtTree.set_field name dot member equals a end) rest h = λ e. var-no-else name h.name e
stmt-no-else (StmtTree.set_item name opening i closing equals v end) rest h = λ e. var-no-else name h.name e
stmt-no-else (StmtTree.run_call (CallTree.call recv dot name opening list closing) end) rest h = recv-no-else recv _ h.0.receiver
stmt-no-else (StmtTree.print word v end) rest h = λ e. other_kind word kind.Print (λ x. cc) h.0 e
stmt-no-else (StmtTree.if_then word opening v closing a) rest h = λ e. other_kind word kind.If (λ x. cc) h.word e
stmt-no-else (StmtTree.if_else word opening v closing a otherwise b) rest h = λ e. other_kind word kind.If (λ x. cc) h.word e
stmt-no-else (StmtTree.repeat word opening v closing a) rest h = λ e. other_kind word kind.While (λ x. cc) h.word e
stmt-no-else (StmtTree.par word a b) rest h = λ e. other_kind word kind.Par (λ x. cc) h.0 e

-- an `if` with no `else`, at the token behind its block
same-then : (o : Open) (word opening : Token) (e : ExprTree) (closing : Token) (a : BlockTree) (t : Token) (other : TokenKind) → (other ≡ kind.Else → ⊥) →
    step_as (State.after_then o word opening e closing a) t other ≡ step_as (State.listing (add_if o word opening e closing a)) t other
same-then o word opening e closing a t kind.Else h = absurd (h refl)
same-then o word opening e closing a t _ h = refl

pub then-ends : (u : Outer) (b : Stmts) (word opening : Token) (e : ExprTree) (closing : Token) (a : BlockTree) (rest : List Token) → NoElse rest →
    Runs (State.after_then (Open.at u b) word opening e closing a) rest (λ ls. ls) (State.listing (Open.at u (Stmts.more_stmts b (StmtTree.if_then word opening e closing a)))) rest
then-ends u b word opening e closing a [] h = absurd h
then-ends u b word opening e closing a (t ∷ ts) h = record { same = ap (λ (x : Option State). note_level x (λ r. walk r ts)) (same-then (Open.at u b) word opening e closing a t t.kind h) }

-- ---- a type that begins a statement

local-type : (o : Open) (t : Token) (other : TokenKind) → BeginsType other → step_as (State.listing o) t other ≡ step_type (TypeFor.to_local o) t other
local-type o t kind.Long h = refl
local-type o t kind.Bool h = refl
local-type o t kind.Isolated h = refl
local-type o t kind.Immutable h = refl
local-type o t kind.Readable h = refl
local-type o t kind.Writable h = refl
local-type o t _ h = absurd h

-- the target of an assignment, and the sign
target : (u : Outer) (b : Stmts) (x : TargetTree) (equals : Token) → IsTarget x → Is kind.Assign equals → {rest : List Token} {levels : List ℕ → List ℕ} {s : State} {last : List Token} →
    Runs (State.value_due (Assigning.assigning (Open.at u b) x equals)) rest levels s last →
    Runs (State.listing (Open.at u b)) (target_text x (equals ∷ rest)) (λ ls. target_levels (level_outer u) x (level_outer u ∷ levels ls)) s last
target u b (TargetTree.known name) equals h is next =
    go h refl (go is (ap (λ (x : TokenKind). state_if (sameb the_type kind.Name x) (State.value_due (Assigning.assigning (Open.at u b) (TargetTree.known name) equals))) h) next)
target u b (TargetTree.declared ty name) equals h is next =
    type (State.listing (Open.at u b)) (TypeFor.to_local (Open.at u b)) (λ t o x. local-type (Open.at u b) t o x) ty h.0 (go h.1 refl (go is refl next))

-- ---- calls

call-tail : (k : CallFor) (recv : RecvTree) (dot name opening : Token) (list : Args) (closing end : Token) → AreArgs list → Is kind.CloseParen closing → Is kind.Semicolon end →
    {rest : List Token} {levels : List ℕ → List ℕ} {s : State} {last : List Token} →
    Runs (after_call k (CallTree.call recv dot name opening list closing) end) rest levels s last →
    Runs (State.args_due (CallPart.call_part k recv dot name opening)) (args_text list (closing ∷ end ∷ rest))
    (λ ls. args_levels (level_call_for k + 1) list (level_call_for k ∷ level_state (after_call k (CallTree.call recv dot name opening list closing) end) ∷ levels ls)) s last
call-tail k recv dot name opening list closing end h is ends next = args (CallPart.call_part k recv dot name opening) list closing h is (go ends refl next)

-- a call that stands alone
call-stands : (o : Open) (c : CallTree) (end : Token) → IsCall c → Is kind.Semicolon end → {rest : List Token} {levels : List ℕ → List ℕ} {s : State} {last : List Token} →
    Runs (after_call (CallFor.to_stand o) c end) rest levels s last →
    Runs (State.listing o) (call_text c (end ∷ rest)) (λ ls. call_levels (level_open o) c (level_state (after_call (CallFor.to_stand o) c end) ∷ levels ls)) s last
call-stands o (CallTree.call (RecvTree.lent receiver) dot name opening list closing) end h ends next =
    go_var h.receiver refl refl (go h.dot refl (go h.name refl (go h.opening refl (call-tail (CallFor.to_stand o) (RecvTree.lent receiver) dot name opening list closing end h.args h.closing ends next))))
call-stands o (CallTree.call (RecvTree.given paren word receiver paren') dot name opening list closing) end h ends next =
    go h.receiver.opening refl (go h.receiver.word refl (go_var h.receiver.name refl refl (go h.receiver.closing refl (go h.dot refl (go h.name refl (go h.opening refl
    (call-tail (CallFor.to_stand o) (RecvTree.given paren word receiver paren') dot name opening list closing end h.args h.closing ends next)))))))

-- a call on the right side
call-assigned : (a : Assigning) (c : CallTree) (end : Token) → IsCall c → Is kind.Semicolon end → {rest : List Token} {levels : List ℕ → List ℕ} {s : State} {last : List Token} →
    Runs (after_call (CallFor.to_assign a) c end) rest levels s last →
    Runs (State.value_due a) (call_text c (end ∷ rest)) (λ ls. call_levels (level_assigning a) c (level_state (after_call (CallFor.to_assign a) c end) ∷ levels ls)) s last
call-assigned a (CallTree.call (RecvTree.lent receiver) dot name opening list closing) end h ends next =
    go_var h.receiver refl refl (go h.dot refl (go h.name refl (go h.opening refl (call-tail (CallFor.to_assign a) (RecvTree.lent receiver) dot name opening list closing end h.args h.closing ends next))))
call-assigned a (CallTree.call (RecvTree.given paren word receiver paren') dot name opening list closing) end h ends next =
    go h.receiver.opening refl (go h.receiver.word refl (go_var h.receiver.name refl refl (go h.receiver.closing refl (go h.dot refl (go h.name refl (go h.opening refl
    (call-tail (CallFor.to_assign a) (RecvTree.given paren word receiver paren') dot name opening list closing end h.args h.closing ends next)))))))

-- ---- an expression on the right side

-- a token that makes no more of a name than a variable
abbrev pub Alone : Token → Type 0
Alone t = (Is kind.Dot t → ⊥) × (Is kind.OpenBracket t → ⊥)

named-alone : (a : Assigning) (name t : Token) (other : TokenKind) → (other ≡ kind.Dot → ⊥) → (other ≡ kind.OpenBracket → ⊥) →
    step_as (State.value_named a name) t other ≡ step_as (State.after (ExprTree.variable name) [] (Purpose.to_arg (ArgFor.to_value a))) t other
named-alone a name t kind.Dot h g = absurd (h refl)
named-alone a name t kind.OpenBracket h g = absurd (g refl)
named-alone a name t _ h g = refl

paren-operand : (a : Assigning) (opening t : Token) (other : TokenKind) → Begins other →
    step_as (State.paren_seen a opening) t other ≡ step_as (State.operand [] (Purpose.inner [] (Purpose.to_arg (ArgFor.to_value a)) opening)) t other
paren-operand a opening t kind.Consume h = absurd h
paren-operand a opening t _ h = refl

no-operator : (o : BinaryOp) (k : TokenKind) → op_of k ≡ None → sign o ≡ k → ⊥
no-operator o k no_op e = clash o (sym (op_of-sign o) ∙ ap op_of e ∙ no_op)
  where
    clash : (o : BinaryOp) → Some o ≡ None → ⊥
    clash o e = cc

sign-alone : (o : BinaryOp) (t : Token) → Is (sign o) t → Alone t
sign-alone o t is = (λ e. no-operator o kind.Dot refl (sym is ∙ e), λ e. no-operator o kind.OpenBracket refl (sym is ∙ e))

-- one token first, and then the same
same-behind : {q r x y : State} {t : Token} {ts : List Token} → Runs q (t ∷ ts) (λ ls. level_state x ∷ ls) x ts → Runs r (t ∷ ts) (λ ls. level_state y ∷ ls) y ts → level_state x ≡ level_state y → walk x ts ≡ walk y ts →
    walk q (t ∷ ts) ≡ walk r (t ∷ ts)
same-behind {y = y} {ts = ts} h g level e = h.same ∙ rw (e, level) refl ∙ sym g.same

pub value-operand : (a : Assigning) (e : ExprTree) → IsExpr e → (c : Token) (ts : List Token) → Alone c →
    walk (State.value_due a) (expr_text e (c ∷ ts)) ≡ walk (State.operand [] (Purpose.to_arg (ArgFor.to_value a))) (expr_text e (c ∷ ts))
value-operand a (ExprTree.number t) h c ts alone = same_at (State.value_due a) (State.operand [] (Purpose.to_arg (ArgFor.to_value a))) t (c ∷ ts) kind.Number h refl
value-operand a (ExprTree.true_word t) h c ts alone = same_at (State.value_due a) (State.operand [] (Purpose.to_arg (ArgFor.to_value a))) t (c ∷ ts) kind.True h refl
value-operand a (ExprTree.false_word t) h c ts alone = same_at (State.value_due a) (State.operand [] (Purpose.to_arg (ArgFor.to_value a))) t (c ∷ ts) kind.False h refl
value-operand a (ExprTree.null_word t) h c ts alone = same_at (State.value_due a) (State.operand [] (Purpose.to_arg (ArgFor.to_value a))) t (c ∷ ts) kind.Null h refl
value-operand a (ExprTree.variable t) h c ts alone =
    same-behind {q = State.value_due a} {r = State.operand [] (Purpose.to_arg (ArgFor.to_value a))} {x = State.value_named a t} {y = State.after (ExprTree.variable t) [] (Purpose.to_arg (ArgFor.to_value a))} {ts = c ∷ ts}
    (go_var h refl refl stop) (go_var h refl refl stop) refl
    (ap (λ (x : Option State). note_level x (λ r. walk r ts)) (named-alone a t c c.kind alone.0 alone.1))
value-operand a (ExprTree.parens opening e closing) h c ts alone =
    let inner = State.operand [] (Purpose.inner [] (Purpose.to_arg (ArgFor.to_value a)) opening) in
    same-behind {q = State.value_due a} {r = State.operand [] (Purpose.to_arg (ArgFor.to_value a))} {x = State.paren_seen a opening} {y = inner} {ts = expr_text e (closing ∷ c ∷ ts)}
    (go h.0 refl stop) (go h.0 refl stop) refl
    (same_at-expr (State.paren_seen a opening) inner (λ t o b. paren-operand a opening t o b) e h.1 (closing ∷ c ∷ ts))
value-operand a (ExprTree.unary unary_op.Minus t e) h c ts alone = same_at (State.value_due a) (State.operand [] (Purpose.to_arg (ArgFor.to_value a))) t (expr_text e (c ∷ ts)) kind.Minus h.0 refl
value-operand a (ExprTree.unary unary_op.Not t e) h c ts alone = same_at (State.value_due a) (State.operand [] (Purpose.to_arg (ArgFor.to_value a))) t (expr_text e (c ∷ ts)) kind.Bang h.0 refl
value-operand a (ExprTree.binary o x t y) h c ts alone = value-operand a x h.left t (expr_text y (c ∷ ts)) (sign-alone o t h.operator)

kind-alone : (t : Token) (wanted : TokenKind) → Is wanted t → (wanted ≡ kind.Dot → ⊥) → (wanted ≡ kind.OpenBracket → ⊥) → Alone t
kind-alone t wanted is h g = (λ e. h (sym is ∙ e), λ e. g (sym is ∙ e))

mutual
  -- a right side, and the semicolon
  pub rhs : (u : Outer) (b : Stmts) (x : TargetTree) (equals : Token) (r : RhsTree) (end : Token) (rest : List Token) → IsRhs r → Is kind.Semicolon end →
      Runs (State.value_due (Assigning.assigning (Open.at u b) x equals)) (rhs_text r (end ∷ rest)) (λ ls. rhs_levels (level_outer u) r (level_outer u ∷ ls))
      (State.listing (Open.at u (Stmts.more_stmts b (StmtTree.assign x equals r end)))) rest
  rhs u b x equals (RhsTree.value (ArgTree.plain e)) end rest h is =
      let a = Assigning.assigning (Open.at u b) x equals in
      from_same (State.value_due a) (value-operand a e h end rest (kind-alone end kind.Semicolon is (λ e. cc) (λ e. cc)))
      (expr (Purpose.to_arg (ArgFor.to_value a)) e end h is refl refl stop)
  rhs u b x equals (RhsTree.value (ArgTree.consumed word name)) end rest h is = go h.0 refl (go_var h.1 refl refl (go is refl stop))
  rhs u b x equals (RhsTree.field name dot member) end rest h is = go_var h.0 refl refl (go h.1 refl (go h.2 refl (go is refl stop)))
  rhs u b x equals (RhsTree.take_field word name dot member) end rest h is = go h.word refl (go_var h.name refl refl (go h.dot refl (go h.member refl (go is refl stop))))
  rhs u b x equals (RhsTree.item name opening e closing) end rest h is =
      go_var h.name refl refl (go h.opening refl (expr (Purpose.to_read (Assigning.assigning (Open.at u b) x equals) name opening) e closing h.index h.closing refl refl (go is refl stop)))
  rhs u b x equals (RhsTree.new_object word name opening closing) end rest h is = go h.word refl (go h.name refl (go h.opening refl (go h.closing refl (go is refl stop))))
  rhs u b x equals (RhsTree.new_array word long opening e closing) end rest h is =
      go h.word refl (go h.long refl (go h.opening refl (expr (Purpose.to_length (Assigning.assigning (Open.at u b) x equals) word long opening) e closing h.size h.closing refl refl (go is refl stop))))
  rhs u b x equals (RhsTree.called c) end rest h is = call-assigned (Assigning.assigning (Open.at u b) x equals) c end h is stop
  rhs u b x equals (RhsTree.recover word opening list give name semi closing) end rest h is =
      go h.word refl (go h.opening refl
      (via (stmts (Outer.inside u b (Lead.recover_lead x equals word) opening) list (give ∷ name ∷ semi ∷ closing ∷ end ∷ rest) h.body (no-else-at give (name ∷ semi ∷ closing ∷ end ∷ rest) kind.Give (λ e. cc) h.give))
      (go h.give refl (go h.name refl (go h.end refl (go h.closing refl (go is refl stop)))))))

  -- a block behind what leads to it
  pub block : (u : Outer) (b : Stmts) (lead : Lead) (x : BlockTree) (r : State) (rest : List Token) → IsBlock x → after_block u b lead x ≡ Some r → level_state r ≡ level_outer u →
      Runs (enter (Open.at u b) lead) (block_text x rest) (block_levels (level_outer u) x) r rest
  block u b lead (BlockTree.block opening list closing) r rest h is level =
      subst (λ (n : ℕ). Runs (enter (Open.at u b) lead) (opening ∷ stmts_text list (closing ∷ rest)) (λ ls. (level_outer u + 1) ∷ stmts_levels (level_outer u + 1) list (n ∷ ls)) r rest) level
      (go h.0 refl (via (stmts (Outer.inside u b lead opening) list (closing ∷ rest) h.1 (no-else-at closing rest kind.CloseBrace (λ e. cc) h.2)) (go h.2 is stop)))

  pub stmt : (u : Outer) (b : Stmts) (x : StmtTree) (rest : List Token) → IsStmt x → NoElse rest →
      Runs (State.listing (Open.at u b)) (stmt_text x rest) (stmt_levels (level_outer u) x) (State.listing (Open.at u (Stmts.more_stmts b x))) rest
  stmt u b (StmtTree.declare ty name end) rest h other =
      type (State.listing (Open.at u b)) (TypeFor.to_local (Open.at u b)) (λ t o x. local-type (Open.at u b) t o x) ty h.0 (go h.1 refl (go h.2 refl stop))
  stmt u b (StmtTree.assign x equals r end) rest h other = target u b x equals h.target h.equals (rhs u b x equals r end rest h.right h.end)
  stmt u b (StmtTree.set_field name dot member equals a end) rest h other =
      go_var h.name refl refl (go h.dot refl (go h.member refl (go h.equals refl (arg (ArgFor.to_set (Open.at u b) name dot member equals) a end h.value h.end refl refl stop))))
  stmt u b (StmtTree.set_item name opening i closing equals e end) rest h other =
      go_var h.name refl refl (go h.opening refl (expr (Purpose.to_index (Open.at u b) name opening) i closing h.index h.closing refl refl
      (go h.equals refl (expr (Purpose.to_item (Open.at u b) name opening i closing equals) e end h.value h.end refl refl stop))))
  stmt u b (StmtTree.run_call c end) rest h other = call-stands (Open.at u b) c end h.0 h.1 stop
  stmt u b (StmtTree.print word e end) rest h other = go h.0 refl (expr (Purpose.to_print (Open.at u b) word) e end h.1 h.2 refl refl stop)
  stmt u b (StmtTree.if_then word opening e closing a) rest h other =
      go h.word refl (go h.opening refl (expr (Purpose.to_if (Open.at u b) word opening) e closing h.test h.closing refl refl
      (via (block u b (Lead.then_lead word opening e closing) a (State.after_then (Open.at u b) word opening e closing a) rest h.block refl refl) (then-ends u b word opening e closing a rest other))))
  stmt u b (StmtTree.if_else word opening e closing a otherwise c) rest h other =
      go h.word refl (go h.opening refl (expr (Purpose.to_if (Open.at u b) word opening) e closing h.test h.closing refl refl
      (via (block u b (Lead.then_lead word opening e closing) a (State.after_then (Open.at u b) word opening e closing a) (otherwise ∷ block_text c rest) h.first refl refl)
      (go h.otherwise refl (block u b (Lead.else_lead word opening e closing a otherwise) c (State.listing (Open.at u (Stmts.more_stmts b (StmtTree.if_else word opening e closing a otherwise c)))) rest h.second refl refl)))))
  stmt u b (StmtTree.repeat word opening e closing a) rest h other =
      go h.word refl (go h.opening refl (expr (Purpose.to_while (Open.at u b) word opening) e closing h.test h.closing refl refl
      (block u b (Lead.while_lead word opening e closing) a (State.listing (Open.at u (Stmts.more_stmts b (StmtTree.repeat word opening e closing a)))) rest h.block refl refl)))
  stmt u b (StmtTree.par word a c) rest h other =
      go h.0 refl (via (block u b (Lead.left_lead word) a (enter (Open.at u b) (Lead.right_lead word a)) (block_text c rest) h.1 refl refl)
      (block u b (Lead.right_lead word a) c (State.listing (Open.at u (Stmts.more_stmts b (StmtTree.par word a c)))) rest h.2 refl refl))

  -- the statements of a block, from its start
  pub stmts : (u : Outer) (list : Stmts) (rest : List Token) → AreStmts list → NoElse rest →
      Runs (State.listing (Open.at u Stmts.no_stmts)) (stmts_text list rest) (stmts_levels (level_outer u) list) (State.listing (Open.at u list)) rest
  stmts u Stmts.no_stmts rest h other = stop
  stmts u (Stmts.more_stmts list x) rest h other = via (stmts u list (stmt_text x rest) h.0 (stmt-no-else x rest h.1)) (stmt u list x rest h.1 other)
