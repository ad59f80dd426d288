-- What has been read is the text of the state: each step leaves a good state and adds its token.
use Rattle.std.proofs.Common.{◌≡◌, ℕ, ◌<◌, ◌≤◌, List, [], ◌∷◌, Option, Some, None, Bool, true, false, cond, refl, sym, ◌∙◌, ap, arith, nat_le, inl, inr}
use Rattle.std.proofs.lemmas.Bool.{leb-true, leb-false}
use Rattle.perm_tree.specs.declared.ast.BinaryOp.{BinaryOp}
use Rattle.perm_tree.specs.declared.ast.BinaryOp.TheVariants as op
use Rattle.perm_tree.specs.declared.tokens.Token.{Token}
use Rattle.perm_tree.specs.declared.tokens.TokenKind.{TokenKind}
use Rattle.perm_tree.specs.declared.tokens.TokenKind.TheVariants as kind
use Rattle.perm_parse.specs.Grammar.{ExprTree, ArgTree, Args, CallTree, RhsTree, StmtTree, Stmts, Is, IsExpr, IsArg, IsArgList, AreArgs, IsCall, IsRhs, IsStmt, AreStmts, looseness, level, sign, expr_text, arg_text, arg_list_text, args_text, call_text, rhs_text, stmt_text, stmts_text}
use Rattle.perm_parse.specs.States.{Pending, ClassPart, MethodPart, BodyPart, Lead, Open, Assigning, CallFor, CallPart, ArgsPart, ArgFor, Purpose, State, Room, pending_text, body_part_text, lead_text, open_text, assigning_text, call_for_text, call_part_text, args_part_text, arg_for_text, purpose_text}
use Rattle.perm_parse.specs.Machine.{reduce, step_operand, finish, finish_arg, behind, op_of, enter, add, after_value, ends_value, after_call, close_call, end_method, push_arg}
use Rattle.perm_parse.proofs.OneAnswer.GoodStates.{state_text, IsState, ArePending, IsBodyPart, IsLead, IsOpen, IsAssigning, IsCallFor, IsCallPart, AreArgsPart, IsArgFor, IsPurpose}
use Rattle.perm_parse.proofs.OneAnswer.ExpressionRuns.{level-positive, level-most}

-- a good state whose text is this text with one token more
abbrev pub Longer : (List Token → List Token) → Token → State → Type 0
Longer so_far t q = IsState q × ((rest : List Token) → state_text q rest ≡ so_far (t ∷ rest))

abbrev pub Extends : (List Token → List Token) → Token → Option State → Type 0
Extends so_far t None = Unit {0}
Extends so_far t (Some q) = Longer so_far t q

-- ---- operators

Room-zero : (l : ℕ) (ps : List Pending) → l ≡ 0 → Room l ps
Room-zero l [] e = tt
Room-zero l (Pending.before o t ∷ ps) e = e
Room-zero l (Pending.left a o t ∷ ps) e = omega (arith, level-positive o)

-- what reducing leaves
record Reduced (l : ℕ) (e : ExprTree) (ps : List Pending) (r : ExprTree × List Pending) : Type 0 where
  pub expr : IsExpr r.0
  pub loose : looseness r.0 ≤ l
  pub rest : ArePending r.1
  pub room : Room l r.1
  pub text : (rest : List Token) → pending_text r.1 (expr_text r.0 rest) ≡ pending_text ps (expr_text e rest)

reduces : (l : ℕ) (e : ExprTree) (ps : List Pending) → 0 < l → IsExpr e → looseness e ≤ l → ArePending ps → Room (looseness e) ps → Reduced l e ps (reduce l e ps)
reduces l e [] pos h le hp room = record { expr = h; loose = le; rest = tt; room = tt; text = λ rest. refl }
reduces l e (Pending.before o t ∷ ps) pos h le hp room =
    let r = reduces l (ExprTree.unary o t e) ps pos (hp.0, h, room) (omega arith) hp.1 (Room-zero 0 ps refl) in
    record { expr = r.expr; loose = r.loose; rest = r.rest; room = r.room; text = r.text }
reduces l e (Pending.left a o t ∷ ps) pos h le hp room =
    joins (nat_le (level o) l) refl (λ lo. reduces l (ExprTree.binary o a t e) ps pos (record { left = hp.0; operator = hp.2; right = h; left_level = hp.1; right_level = room }) lo hp.4 hp.3)
  where
    joins : (b : Bool) → nat_le (level o) l ≡ b → (level o ≤ l → Reduced l (ExprTree.binary o a t e) ps (reduce l (ExprTree.binary o a t e) ps)) →
        Reduced l e (Pending.left a o t ∷ ps) (cond b (reduce l (ExprTree.binary o a t e) ps) (e, Pending.left a o t ∷ ps))
    joins true eq more = let r = more (leb-true (level o) l eq) in record { expr = r.expr; loose = r.loose; rest = r.rest; room = r.room; text = r.text }
    joins false eq more = record { expr = h; loose = le; rest = hp; room = leb-false (level o) l eq; text = λ rest. refl }

some-op : (a b : BinaryOp) → Some a ≡ Some b → a ≡ b
some-op a b e = cc

pub op_of-is : (k : TokenKind) (o : BinaryOp) → op_of k ≡ Some o → k ≡ sign o
op_of-is kind.Star o e = rw (← some-op op.Mul o e) refl
op_of-is kind.Slash o e = rw (← some-op op.Div o e) refl
op_of-is kind.Percent o e = rw (← some-op op.Rem o e) refl
op_of-is kind.Plus o e = rw (← some-op op.Plus o e) refl
op_of-is kind.Minus o e = rw (← some-op op.Minus o e) refl
op_of-is kind.Less o e = rw (← some-op op.Less o e) refl
op_of-is kind.AtMost o e = rw (← some-op op.AtMost o e) refl
op_of-is kind.Greater o e = rw (← some-op op.Greater o e) refl
op_of-is kind.AtLeast o e = rw (← some-op op.AtLeast o e) refl
op_of-is kind.Equal o e = rw (← some-op op.Equal o e) refl
op_of-is kind.Differs o e = rw (← some-op op.Differs o e) refl
op_of-is kind.And o e = rw (← some-op op.And o e) refl
op_of-is kind.Or o e = rw (← some-op op.Or o e) refl
op_of-is _ o e = absurd cc

all-reduced : (ps : List Pending) → Room 6 ps → (rest : List Token) → pending_text ps rest ≡ rest
all-reduced [] h rest = refl
all-reduced (Pending.before o t ∷ ps) h rest = absurd (omega arith)
all-reduced (Pending.left a o t ∷ ps) h rest = absurd (omega (arith, level-most o))

pub operand : (ps : List Pending) (k : Purpose) (t : Token) (other : TokenKind) → Is other t → ArePending ps → IsPurpose k → Extends (λ rest. purpose_text k (pending_text ps rest)) t (step_operand ps k t other)
operand ps k t kind.Number is hp hk = ((is, refl, hp, hk), λ rest. refl)
operand ps k t kind.True is hp hk = ((is, refl, hp, hk), λ rest. refl)
operand ps k t kind.False is hp hk = ((is, refl, hp, hk), λ rest. refl)
operand ps k t kind.Null is hp hk = ((is, refl, hp, hk), λ rest. refl)
operand ps k t kind.Name is hp hk = ((inl is, refl, hp, hk), λ rest. refl)
operand ps k t kind.This is hp hk = ((inr is, refl, hp, hk), λ rest. refl)
operand ps k t kind.Minus is hp hk = (((is, hp), hk), λ rest. refl)
operand ps k t kind.Bang is hp hk = (((is, hp), hk), λ rest. refl)
operand ps k t kind.OpenParen is hp hk = ((tt, (hp, hk, is)), λ rest. refl)
operand ps k t _ is hp hk = tt

-- ---- statements that are complete

pub added : (o : Open) (x : StmtTree) (so_far : List Token → List Token) (t : Token) → IsOpen o → IsStmt x →
    ((rest : List Token) → open_text o (stmt_text x rest) ≡ so_far (t ∷ rest)) → Longer so_far t (add o x)
added (Open.at u b) x so_far t h g e = ((h.0, (h.1, g)), e)

pub after_value-is : (a : Assigning) (r : RhsTree) (so_far : List Token → List Token) (t : Token) → IsAssigning a → IsRhs r → Is kind.Semicolon t →
    ((rest : List Token) → assigning_text a (rhs_text r (t ∷ rest)) ≡ so_far (t ∷ rest)) → Longer so_far t (after_value a r t)
after_value-is (Assigning.assigning o target equals) r so_far t h g is e = added o (StmtTree.assign target equals r t) so_far t h.0 (record { target = h.1; equals = h.2; right = g; end = is }) e

pub value-ends : (a : Assigning) (r : RhsTree) (r_text so_far : List Token → List Token) (t : Token) → IsAssigning a → IsRhs r → ((rest : List Token) → rhs_text r rest ≡ r_text rest) →
    ((rest : List Token) → assigning_text a (r_text rest) ≡ so_far (t ∷ rest)) → Longer so_far t (ends_value a r r_text)
value-ends a r r_text so_far t h g text e =
    (λ end is. after_value-is a r (λ rest. assigning_text a (r_text rest)) end h g is (λ rest. ap (λ (x : List Token). assigning_text a x) (text (end ∷ rest))), e)

pub enters : (o : Open) (lead : Lead) (so_far : List Token → List Token) (t : Token) → IsOpen o → IsLead lead → ((rest : List Token) → open_text o (lead_text lead rest) ≡ so_far (t ∷ rest)) → Longer so_far t (enter o lead)
enters (Open.at u b) lead so_far t h g e = (λ opening is. (((h.0, h.1, g, is), tt), λ rest. refl), e)

-- ---- arguments and calls

push_arg-text : (part : ArgsPart) (a : ArgTree) (rest : List Token) → arg_list_text (push_arg part a) rest ≡ args_part_text part (arg_text a rest)
push_arg-text ArgsPart.no_arg_yet a rest = refl
push_arg-text (ArgsPart.behind_arg list comma) a rest = refl

push_arg-is : (part : ArgsPart) (a : ArgTree) → AreArgsPart part → IsArg a → IsArgList (push_arg part a)
push_arg-is ArgsPart.no_arg_yet a h g = g
push_arg-is (ArgsPart.behind_arg list comma) a h g = (h.0, h.1, g)

call-ended : (k : CallFor) (c : CallTree) (end : Token) → IsCallFor k → IsCall c → Is kind.Semicolon end → Longer (λ rest. call_for_text k (call_text c rest)) end (after_call k c end)
call-ended (CallFor.to_stand o) c end h g is = added o (StmtTree.run_call c end) (λ rest. open_text o (call_text c rest)) end h (g, is) (λ rest. refl)
call-ended (CallFor.to_assign a) c end h g is = after_value-is a (RhsTree.called c) (λ rest. assigning_text a (call_text c rest)) end h g is (λ rest. refl)

pub call-closes : (c : CallPart) (list : Args) (so_far : List Token → List Token) (t : Token) → IsCallPart c → AreArgs list → Is kind.CloseParen t → ((rest : List Token) → call_part_text c (args_text list (t ∷ rest)) ≡ so_far (t ∷ rest)) → Longer so_far t (close_call c list t)
call-closes (CallPart.call_part k recv dot name opening) list so_far t h g is e =
    (λ end ends. call-ended k (CallTree.call recv dot name opening list t) end h.0 (record { receiver = h.1; dot = h.2; name = h.3; opening = h.4; args = g; closing = is }) ends, e)

method-ends : (b : BodyPart) (list : Stmts) (word : Token) (a : ArgTree) (end finish : Token) → IsBodyPart b → AreStmts list → Is kind.Return word → IsArg a → Is kind.Semicolon end → Is kind.CloseBrace finish →
    Longer (λ rest. body_part_text b (stmts_text list (word ∷ arg_text a (end ∷ rest)))) finish (end_method b list word a end finish)
method-ends (BodyPart.body_part (MethodPart.method_part (ClassPart.class_part done class_word name opening so_far) ty method paren) ps closing p perm start) list word a end finish h hl hw ha he hf =
    ((h.0.0.0, h.0.0.1, h.0.0.2, h.0.0.3, (h.0.0.4, record { ty = h.0.1; name = h.0.2; opening = h.0.3; params = h.1; closing = h.2; perm = h.3; start = h.4; body = hl; word = hw; back = ha; end = he; finish = hf })), λ rest. refl)

pub finish-arg : (k : ArgFor) (a : ArgTree) (t : Token) (other : TokenKind) → Is other t → IsArgFor k → IsArg a → Extends (λ rest. arg_for_text k (arg_text a rest)) t (finish_arg k a t other)
finish-arg (ArgFor.to_set o name dot member equals) a t kind.Semicolon is hk h =
    added o (StmtTree.set_field name dot member equals a t) (λ rest. open_text o (name ∷ dot ∷ member ∷ equals ∷ arg_text a rest)) t hk.0 (record { name = hk.1; dot = hk.2; member = hk.3; equals = hk.4; value = h; end = is }) (λ rest. refl)
finish-arg (ArgFor.to_set o name dot member equals) a t _ is hk h = tt
finish-arg (ArgFor.to_value g) a t kind.Semicolon is hk h = after_value-is g (RhsTree.value a) (λ rest. assigning_text g (arg_text a rest)) t hk h is (λ rest. refl)
finish-arg (ArgFor.to_value g) a t _ is hk h = tt
finish-arg (ArgFor.to_pass c part) a t kind.Comma is hk h = ((hk.0, (push_arg-is part a hk.1 h, is)), λ rest. ap (λ (x : List Token). call_part_text c x) (push_arg-text part a (t ∷ rest)))
finish-arg (ArgFor.to_pass c part) a t kind.CloseParen is hk h =
    call-closes c (Args.args (push_arg part a)) (λ rest. call_part_text c (args_part_text part (arg_text a rest))) t hk.0 (push_arg-is part a hk.1 h) is (λ rest. ap (λ (x : List Token). call_part_text c x) (push_arg-text part a (t ∷ rest)))
finish-arg (ArgFor.to_pass c part) a t _ is hk h = tt
finish-arg (ArgFor.to_return b list word) a t kind.Semicolon is hk h = (λ finish ends. method-ends b list word a t finish hk.0 hk.1 hk.2 h is ends, λ rest. refl)
finish-arg (ArgFor.to_return b list word) a t _ is hk h = tt

pub finishes : (k : Purpose) (e : ExprTree) (t : Token) (other : TokenKind) → Is other t → IsPurpose k → IsExpr e → Extends (λ rest. purpose_text k (expr_text e rest)) t (finish k e t other)
finishes (Purpose.inner ps k opening) e t kind.CloseParen is hk h = (((hk.2, h, is), refl, hk.0, hk.1), λ rest. refl)
finishes (Purpose.inner ps k opening) e t _ is hk h = tt
finishes (Purpose.to_arg k) e t other is hk h = finish-arg k (ArgTree.plain e) t other is hk h
finishes (Purpose.to_print o word) e t kind.Semicolon is hk h = added o (StmtTree.print word e t) (λ rest. open_text o (word ∷ expr_text e rest)) t hk.0 (hk.1, h, is) (λ rest. refl)
finishes (Purpose.to_print o word) e t _ is hk h = tt
finishes (Purpose.to_if o word opening) e t kind.CloseParen is hk h = enters o (Lead.then_lead word opening e t) (λ rest. open_text o (word ∷ opening ∷ expr_text e rest)) t hk.0 (hk.1, hk.2, h, is) (λ rest. refl)
finishes (Purpose.to_if o word opening) e t _ is hk h = tt
finishes (Purpose.to_while o word opening) e t kind.CloseParen is hk h = enters o (Lead.while_lead word opening e t) (λ rest. open_text o (word ∷ opening ∷ expr_text e rest)) t hk.0 (hk.1, hk.2, h, is) (λ rest. refl)
finishes (Purpose.to_while o word opening) e t _ is hk h = tt
finishes (Purpose.to_index o name opening) e t kind.CloseBracket is hk h = (λ equals eq. ((tt, (hk.0, hk.1, hk.2, h, is, eq)), λ rest. refl), λ rest. refl)
finishes (Purpose.to_index o name opening) e t _ is hk h = tt
finishes (Purpose.to_item o name opening i closing equals) e t kind.Semicolon is hk h =
    added o (StmtTree.set_item name opening i closing equals e t) (λ rest. open_text o (name ∷ opening ∷ expr_text i (closing ∷ equals ∷ expr_text e rest))) t hk.0 (record { name = hk.1; opening = hk.2; index = hk.3; closing = hk.4; equals = hk.5; value = h; end = is }) (λ rest. refl)
finishes (Purpose.to_item o name opening i closing equals) e t _ is hk h = tt
finishes (Purpose.to_read a name opening) e t kind.CloseBracket is hk h =
    value-ends a (RhsTree.item name opening e t) (λ rest. name ∷ opening ∷ expr_text e (t ∷ rest)) (λ rest. assigning_text a (name ∷ opening ∷ expr_text e rest)) t hk.0 (record { name = hk.1; opening = hk.2; index = h; closing = is }) (λ rest. refl) (λ rest. refl)
finishes (Purpose.to_read a name opening) e t _ is hk h = tt
finishes (Purpose.to_length a word long opening) e t kind.CloseBracket is hk h =
    value-ends a (RhsTree.new_array word long opening e t) (λ rest. word ∷ long ∷ opening ∷ expr_text e (t ∷ rest)) (λ rest. assigning_text a (word ∷ long ∷ opening ∷ expr_text e rest)) t hk.0 (record { word = hk.1; long = hk.2; opening = hk.3; size = h; closing = is }) (λ rest. refl) (λ rest. refl)
finishes (Purpose.to_length a word long opening) e t _ is hk h = tt

pub behind-is : (e : ExprTree) (ps : List Pending) (k : Purpose) (t : Token) (other : TokenKind) (o : Option BinaryOp) → op_of other ≡ o → Is other t →
    IsExpr e → looseness e ≡ 0 → ArePending ps → IsPurpose k → Extends (λ rest. purpose_text k (pending_text ps (expr_text e rest))) t (behind e ps k t other o)
behind-is e ps k t other (Some o) eq is h loose hp hk =
    let r = reduces (level o) e ps (level-positive o) h (omega arith) hp (Room-zero _ ps loose) in
    (((r.expr, r.loose, is ∙ op_of-is other o eq, r.room, r.rest), hk), λ rest. ap (λ (x : List Token). purpose_text k x) (r.text (t ∷ rest)))
behind-is e ps k t other None eq is h loose hp hk =
    let r = reduces 6 e ps (omega arith) h (omega arith) hp (Room-zero _ ps loose) in
    let v = reduce 6 e ps in
    let text = λ (rest : List Token). sym (all-reduced v.1 r.room (expr_text v.0 rest)) ∙ r.text rest in
    longer (finish k v.0 t other) (λ rest. purpose_text k (expr_text v.0 rest)) (λ rest. ap (λ (x : List Token). purpose_text k x) (text rest)) (finishes k v.0 t other is hk r.expr)
  where
    longer : (x : Option State) (first : List Token → List Token) → ((rest : List Token) → first rest ≡ purpose_text k (pending_text ps (expr_text e rest))) → Extends first t x →
        Extends (λ rest. purpose_text k (pending_text ps (expr_text e rest))) t x
    longer None first same h = tt
    longer (Some q) first same h = (h.0, λ rest. h.1 rest ∙ same (t ∷ rest))
