-- Each step of the machine leaves a good state and adds its token.
use Rattle.std.proofs.Common.{◌≡◌, ℕ, List, [], ◌∷◌, Option, Some, None, Bool, true, false, refl, sym, ◌∙◌, ap, inl, inr}
use denote.Enum.Bare.{same_true, sameb}
use Rattle.perm_tree.specs.contracts.tokens.TokenKind.{the_type}
use Rattle.perm_tree.specs.declared.ast.Perm.{Perm}
use Rattle.perm_tree.specs.declared.ast.Perm.TheVariants as perm
use Rattle.perm_tree.specs.declared.tokens.Token.{Token}
use Rattle.perm_tree.specs.declared.tokens.TokenKind.{TokenKind}
use Rattle.perm_tree.specs.declared.tokens.TokenKind.TheVariants as kind
use Rattle.perm_parse.specs.Grammar.{TypeTree, ExprTree, ArgTree, Args, TargetTree, RhsTree, BlockTree, StmtTree, Stmts, ParamList, Params, Classes, Is, IsVar, IsType, IsExpr, IsBlock, AreStmts, IsParamList, AreParams, IsProgram, perm_word, type_text, expr_text, target_text, block_text, stmts_text, param_list_text, params_text, program_text}
use Rattle.perm_parse.specs.States.{ClassPart, MethodPart, ParamsPart, Lead, Outer, Open, Assigning, CallFor, CallPart, ArgsPart, ArgFor, Purpose, TypeFor, Wanted, State, class_part_text, method_part_text, params_part_text, outer_text, open_text, assigning_text, call_for_text, call_part_text, arg_for_text, type_for_text}
use Rattle.perm_parse.specs.Machine.{step_as, step_arg, step_args, step_type, step_perm_seen, step_classes, step_in_class, step_member_named, step_params, step_param_named, step_perm, step_listing, step_after_then, step_local_named, step_begun, step_member_seen, step_value, step_value_named, step_value_member, step_value_consumed, step_paren, step_new, op_of, suits, state_if, after_block, gives, add_if, gives_receiver, end_class, end_field, opens_body, after_type, after_named_type, push_param, close_block, give_block, return_block, is_variable}
use Rattle.perm_parse.proofs.OneAnswer.GoodStates.{state_text, IsState, IsClassPart, IsMethodPart, AreParamsPart, IsLead, IsOuter, IsOpen, IsAssigning, IsCallFor, IsCallPart, IsArgFor, IsTypeFor, Suits}
use Rattle.perm_parse.proofs.OneAnswer.Soundness.{Longer, Extends, operand, behind-is, added, after_value-is, value-ends, enters, call-closes, finish-arg}

-- ---- types

push_param-text : (part : ParamsPart) (ty : TypeTree) (name : Token) (rest : List Token) → param_list_text (push_param part ty name) rest ≡ params_part_text part (type_text ty (name ∷ rest))
push_param-text ParamsPart.no_param_yet ty name rest = refl
push_param-text (ParamsPart.behind_param list comma) ty name rest = refl

push_param-is : (part : ParamsPart) (ty : TypeTree) (name : Token) → AreParamsPart part → IsType ty → Is kind.Name name → IsParamList (push_param part ty name)
push_param-is ParamsPart.no_param_yet ty name h g n = (g, n)
push_param-is (ParamsPart.behind_param list comma) ty name h g n = record { list = h.0; comma = h.1; ty = g; name = n }

named : (k : TypeFor) (ty : TypeTree) (name : Token) → IsTypeFor k → IsType ty → Is kind.Name name → Longer (λ rest. type_for_text k (type_text ty rest)) name (after_named_type k ty name)
named (TypeFor.to_member c) ty name hk h is = ((hk, h, is), λ rest. refl)
named (TypeFor.to_param part list) ty name hk h is = ((hk.0, push_param-is list ty name hk.1 h is), λ rest. ap (λ (x : List Token). method_part_text part x) (push_param-text list ty name rest))
named (TypeFor.to_local o) ty name hk h is = ((hk, h, is), λ rest. refl)

after_type-is : (k : TypeFor) (ty : TypeTree) (so_far : List Token → List Token) (t : Token) → IsTypeFor k → IsType ty → ((rest : List Token) → type_for_text k (type_text ty rest) ≡ so_far (t ∷ rest)) → Longer so_far t (after_type k ty)
after_type-is k ty so_far t hk h e = (λ name is. named k ty name hk h is, e)

type : (k : TypeFor) (t : Token) (other : TokenKind) → Is other t → IsTypeFor k → Extends (λ rest. type_for_text k rest) t (step_type k t other)
type k t kind.Long is hk = after_type-is k (TypeTree.long_type t) (λ rest. type_for_text k rest) t hk is (λ rest. refl)
type k t kind.Bool is hk = after_type-is k (TypeTree.bool_type t) (λ rest. type_for_text k rest) t hk is (λ rest. refl)
type k t kind.Isolated is hk = ((hk, is), λ rest. refl)
type k t kind.Immutable is hk = ((hk, is), λ rest. refl)
type k t kind.Readable is hk = ((hk, is), λ rest. refl)
type k t kind.Writable is hk = ((hk, is), λ rest. refl)
type k t _ is hk = tt

perm-seen : (k : TypeFor) (p : Perm) (word t : Token) (other : TokenKind) → Is other t → IsTypeFor k → Is (perm_word p) word → Extends (λ rest. type_for_text k (word ∷ rest)) t (step_perm_seen k p word t other)
perm-seen k p word t kind.Name is hk h = after_type-is k (TypeTree.object_type p word t) (λ rest. type_for_text k (word ∷ rest)) t hk (h, is) (λ rest. refl)
perm-seen k p word t kind.Long is hk h =
    (λ opening o. (λ closing c. after_type-is k (TypeTree.array_type p word t opening closing) (λ rest. type_for_text k (word ∷ t ∷ opening ∷ rest)) closing hk (record { perm = h; word = is; opening = o; closing = c }) (λ rest. refl), λ rest. refl), λ rest. refl)
perm-seen k p word t _ is hk h = tt

-- ---- classes and members

classes : (list : Classes) (t : Token) (other : TokenKind) → Is other t → IsProgram list → Extends (λ rest. program_text list rest) t (step_classes list t other)
classes list t kind.Class is h = (λ name n. (λ opening o. ((h, is, n, o, tt), λ rest. refl), λ rest. refl), λ rest. refl)
classes list t _ is h = tt

class-ends : (c : ClassPart) (t : Token) → IsClassPart c → Is kind.CloseBrace t → Longer (λ rest. class_part_text c rest) t (end_class c t)
class-ends (ClassPart.class_part list word name opening so_far) t h is = (record { list = h.0; word = h.1; name = h.2; opening = h.3; members = h.4; closing = is }, λ rest. refl)

in-class : (c : ClassPart) (t : Token) (other : TokenKind) → Is other t → IsClassPart c → Extends (λ rest. class_part_text c rest) t (step_in_class c t other)
in-class c t kind.CloseBrace is h = class-ends c t h is
in-class c t other is h = type (TypeFor.to_member c) t other is h

field-ends : (c : ClassPart) (ty : TypeTree) (name t : Token) → IsClassPart c → IsType ty → Is kind.Name name → Is kind.Semicolon t → Longer (λ rest. class_part_text c (type_text ty (name ∷ rest))) t (end_field c ty name t)
field-ends (ClassPart.class_part list word class_name opening so_far) ty name t h hy hn is = ((h.0, h.1, h.2, h.3, (h.4, (hy, hn, is))), λ rest. refl)

member-named : (c : ClassPart) (ty : TypeTree) (name t : Token) (other : TokenKind) → Is other t → IsClassPart c → IsType ty → Is kind.Name name → Extends (λ rest. class_part_text c (type_text ty (name ∷ rest))) t (step_member_named c ty name t other)
member-named c ty name t kind.Semicolon is h hy hn = field-ends c ty name t h hy hn is
member-named c ty name t kind.OpenParen is h hy hn = ((h, hy, hn, is), λ rest. refl)
member-named c ty name t _ is h hy hn = tt

params : (part : MethodPart) (t : Token) (other : TokenKind) → Is other t → IsMethodPart part → Extends (λ rest. method_part_text part rest) t (step_params part t other)
params part t kind.CloseParen is h = ((h, tt, is), λ rest. refl)
params part t other is h = type (TypeFor.to_param part ParamsPart.no_param_yet) t other is (h, tt)

param-named : (part : MethodPart) (list : ParamList) (t : Token) (other : TokenKind) → Is other t → IsMethodPart part → IsParamList list → Extends (λ rest. method_part_text part (param_list_text list rest)) t (step_param_named part list t other)
param-named part list t kind.Comma is h g = ((h, (g, is)), λ rest. refl)
param-named part list t kind.CloseParen is h g = ((h, g, is), λ rest. refl)
param-named part list t _ is h g = tt

body-opens : (part : MethodPart) (list : Params) (closing : Token) (p : Perm) (t : Token) → IsMethodPart part → AreParams list → Is kind.CloseParen closing → Is (perm_word p) t →
    Longer (λ rest. method_part_text part (params_text list (closing ∷ rest))) t (opens_body part list closing p t)
body-opens part list closing p t h g c is = (λ opening o. (((h, g, c, is, o), tt), λ rest. refl), λ rest. refl)

receiver : (part : MethodPart) (list : Params) (closing t : Token) (other : TokenKind) → Is other t → IsMethodPart part → AreParams list → Is kind.CloseParen closing →
    Extends (λ rest. method_part_text part (params_text list (closing ∷ rest))) t (step_perm part list closing t other)
receiver part list closing t kind.Isolated is h g c = body-opens part list closing perm.Isolated t h g c is
receiver part list closing t kind.Immutable is h g c = body-opens part list closing perm.Immutable t h g c is
receiver part list closing t kind.Readable is h g c = body-opens part list closing perm.Readable t h g c is
receiver part list closing t kind.Writable is h g c = body-opens part list closing perm.Writable t h g c is
receiver part list closing t _ is h g c = tt

-- ---- blocks

block-closes : (u : Outer) (c : Stmts) (lead : Lead) (opening : Token) (b : Stmts) (t : Token) → IsOuter u → AreStmts c → IsLead lead → Is kind.OpenBrace opening → AreStmts b → Is kind.CloseBrace t →
    Extends (λ rest. outer_text (Outer.inside u c lead opening) (stmts_text b rest)) t (after_block u c lead (BlockTree.block opening b t))
block-closes u c (Lead.then_lead word paren e closing) opening b t hu hc hl ho hb is = (((hu, hc), hl.0, hl.1, hl.2, hl.3, (ho, hb, is)), λ rest. refl)
block-closes u c (Lead.else_lead word paren e closing a otherwise) opening b t hu hc hl ho hb is = ((hu, (hc, record { word = hl.0; opening = hl.1; test = hl.2; closing = hl.3; first = hl.4; otherwise = hl.5; second = (ho, hb, is) })), λ rest. refl)
block-closes u c (Lead.while_lead word paren e closing) opening b t hu hc hl ho hb is = ((hu, (hc, record { word = hl.0; opening = hl.1; test = hl.2; closing = hl.3; block = (ho, hb, is) })), λ rest. refl)
block-closes u c (Lead.left_lead word) opening b t hu hc hl ho hb is =
    enters (Open.at u c) (Lead.right_lead word (BlockTree.block opening b t)) (λ rest. outer_text (Outer.inside u c (Lead.left_lead word) opening) (stmts_text b rest)) t (hu, hc) (hl, (ho, hb, is)) (λ rest. refl)
block-closes u c (Lead.right_lead word a) opening b t hu hc hl ho hb is = ((hu, (hc, (hl.0, hl.1, (ho, hb, is)))), λ rest. refl)
block-closes u c (Lead.recover_lead x equals word) opening b t hu hc hl ho hb is = tt

closes : (o : Open) (t : Token) → IsOpen o → Is kind.CloseBrace t → Extends (λ rest. open_text o rest) t (close_block o t)
closes (Open.at (Outer.body d) b) t h is = tt
closes (Open.at (Outer.inside u c lead opening) b) t h is = block-closes u c lead opening b t h.0.0 h.0.1 h.0.2 h.0.3 h.1 is

block-gives : (u : Outer) (c : Stmts) (lead : Lead) (opening : Token) (b : Stmts) (t : Token) → IsOuter u → AreStmts c → IsLead lead → Is kind.OpenBrace opening → AreStmts b → Is kind.Give t →
    Extends (λ rest. outer_text (Outer.inside u c lead opening) (stmts_text b rest)) t (gives u c lead opening b t)
block-gives u c (Lead.recover_lead x equals word) opening b t hu hc hl ho hb is =
    (λ name hn. (λ end he. (λ closing hg. (λ last ht. ((hu, (hc, record { target = hl.0; equals = hl.1; right = record { word = hl.2; opening = ho; body = hb; give = is; name = hn; end = he; closing = hg }; end = ht })), λ rest. refl), λ rest. refl), λ rest. refl), λ rest. refl), λ rest. refl)
block-gives u c (Lead.then_lead word paren e closing) opening b t hu hc hl ho hb is = tt
block-gives u c (Lead.else_lead word paren e closing a otherwise) opening b t hu hc hl ho hb is = tt
block-gives u c (Lead.while_lead word paren e closing) opening b t hu hc hl ho hb is = tt
block-gives u c (Lead.left_lead word) opening b t hu hc hl ho hb is = tt
block-gives u c (Lead.right_lead word a) opening b t hu hc hl ho hb is = tt

give : (o : Open) (t : Token) → IsOpen o → Is kind.Give t → Extends (λ rest. open_text o rest) t (give_block o t)
give (Open.at (Outer.body d) b) t h is = tt
give (Open.at (Outer.inside u c lead opening) b) t h is = block-gives u c lead opening b t h.0.0 h.0.1 h.0.2 h.0.3 h.1 is

returns : (o : Open) (t : Token) → IsOpen o → Is kind.Return t → Extends (λ rest. open_text o rest) t (return_block o t)
returns (Open.at (Outer.body d) b) t h is = ((h.0, h.1, is), λ rest. refl)
returns (Open.at (Outer.inside u c lead opening) b) t h is = tt

-- ---- statements

receiver-given : (k : CallFor) (opening word : Token) (so_far : List Token → List Token) (t : Token) → IsCallFor k → Is kind.OpenParen opening → Is kind.Consume word → ((rest : List Token) → call_for_text k (opening ∷ word ∷ rest) ≡ so_far (t ∷ rest)) →
    Longer so_far t (gives_receiver k opening word)
receiver-given k opening word so_far t hk ho hw e =
    (λ name hn. (λ closing hc. (λ dot hd. (λ member hm. (λ paren hp. ((hk, record { opening = ho; word = hw; name = hn; closing = hc }, hd, hm, hp), λ rest. refl), λ rest. refl), λ rest. refl), λ rest. refl), λ rest. refl), e)

listing : (o : Open) (t : Token) (other : TokenKind) → Is other t → IsOpen o → Extends (λ rest. open_text o rest) t (step_listing o t other)
listing o t kind.Name is h = ((h, inl is), λ rest. refl)
listing o t kind.This is h = ((h, inr is), λ rest. refl)
listing o t kind.OpenParen is h = (λ word w. receiver-given (CallFor.to_stand o) t word (λ rest. open_text o (t ∷ rest)) word h is w (λ rest. refl), λ rest. refl)
listing o t kind.Print is h = ((tt, (h, is)), λ rest. refl)
listing o t kind.If is h = (λ opening p. ((tt, (h, is, p)), λ rest. refl), λ rest. refl)
listing o t kind.While is h = (λ opening p. ((tt, (h, is, p)), λ rest. refl), λ rest. refl)
listing o t kind.Par is h = enters o (Lead.left_lead t) (λ rest. open_text o rest) t h is (λ rest. refl)
listing o t kind.CloseBrace is h = closes o t h is
listing o t kind.Give is h = give o t h is
listing o t kind.Return is h = returns o t h is
listing o t other is h = type (TypeFor.to_local o) t other is h

if-added : (o : Open) (word opening : Token) (e : ExprTree) (closing : Token) (a : BlockTree) → IsOpen o → Is kind.If word → Is kind.OpenParen opening → IsExpr e → Is kind.CloseParen closing → IsBlock a →
    IsOpen (add_if o word opening e closing a) × ((rest : List Token) → open_text (add_if o word opening e closing a) rest ≡ open_text o (word ∷ opening ∷ expr_text e (closing ∷ block_text a rest)))
if-added (Open.at u b) word opening e closing a h hw ho he hc ha = ((h.0, (h.1, record { word = hw; opening = ho; test = he; closing = hc; block = ha })), λ rest. refl)

same-text : (x : Option State) (first second : List Token → List Token) (t : Token) → ((rest : List Token) → first rest ≡ second rest) → Extends first t x → Extends second t x
same-text None first second t e h = tt
same-text (Some q) first second t e h = (h.0, λ rest. h.1 rest ∙ e (t ∷ rest))

after-then : (o : Open) (word opening : Token) (e : ExprTree) (closing : Token) (a : BlockTree) (t : Token) (other : TokenKind) → Is other t →
    IsOpen o → Is kind.If word → Is kind.OpenParen opening → IsExpr e → Is kind.CloseParen closing → IsBlock a →
    Extends (λ rest. open_text o (word ∷ opening ∷ expr_text e (closing ∷ block_text a rest))) t (step_after_then o word opening e closing a t other)
after-then o word opening e closing a t kind.Else is h hw ho he hc ha =
    enters o (Lead.else_lead word opening e closing a t) (λ rest. open_text o (word ∷ opening ∷ expr_text e (closing ∷ block_text a rest))) t h (hw, ho, he, hc, ha, is) (λ rest. refl)
after-then o word opening e closing a t other is h hw ho he hc ha =
    let g = if-added o word opening e closing a h hw ho he hc ha in
    same-text (step_listing (add_if o word opening e closing a) t other) (λ rest. open_text (add_if o word opening e closing a) rest) (λ rest. open_text o (word ∷ opening ∷ expr_text e (closing ∷ block_text a rest))) t g.1
    (listing (add_if o word opening e closing a) t other is g.0)

local-named : (o : Open) (ty : TypeTree) (name t : Token) (other : TokenKind) → Is other t → IsOpen o → IsType ty → Is kind.Name name → Extends (λ rest. open_text o (type_text ty (name ∷ rest))) t (step_local_named o ty name t other)
local-named o ty name t kind.Semicolon is h hy hn = added o (StmtTree.declare ty name t) (λ rest. open_text o (type_text ty (name ∷ rest))) t h (hy, hn, is) (λ rest. refl)
local-named o ty name t kind.Assign is h hy hn = ((h, (hy, hn), is), λ rest. refl)
local-named o ty name t _ is h hy hn = tt

begun : (o : Open) (name t : Token) (other : TokenKind) → Is other t → IsOpen o → IsVar name → Extends (λ rest. open_text o (name ∷ rest)) t (step_begun o name t other)
begun o name t kind.Assign is h hn = only (sameb the_type kind.Name name.kind) refl
  where
    only : (b : Bool) → sameb the_type kind.Name name.kind ≡ b → Extends (λ rest. open_text o (name ∷ rest)) t (state_if b (State.value_due (Assigning.assigning o (TargetTree.known name) t)))
    only true e = ((h, sym (same_true the_type tt kind.Name name.kind e), is), λ rest. refl)
    only false e = tt
begun o name t kind.Dot is h hn = (λ member m. ((h, hn, is, m), λ rest. refl), λ rest. refl)
begun o name t kind.OpenBracket is h hn = ((tt, (h, hn, is)), λ rest. refl)
begun o name t _ is h hn = tt

member-seen : (o : Open) (name dot member t : Token) (other : TokenKind) → Is other t → IsOpen o → IsVar name → Is kind.Dot dot → Is kind.Name member → Extends (λ rest. open_text o (name ∷ dot ∷ member ∷ rest)) t (step_member_seen o name dot member t other)
member-seen o name dot member t kind.Assign is h hn hd hm = ((h, hn, hd, hm, is), λ rest. refl)
member-seen o name dot member t kind.OpenParen is h hn hd hm = ((h, hn, hd, hm, is), λ rest. refl)
member-seen o name dot member t _ is h hn hd hm = tt

-- ---- right sides

value : (a : Assigning) (t : Token) (other : TokenKind) → Is other t → IsAssigning a → Extends (λ rest. assigning_text a rest) t (step_value a t other)
value a t kind.Consume is h = (λ name n. ((h, is, n), λ rest. refl), λ rest. refl)
value a t kind.Name is h = ((h, inl is), λ rest. refl)
value a t kind.This is h = ((h, inr is), λ rest. refl)
value a t kind.New is h = ((h, is), λ rest. refl)
value a t kind.OpenParen is h = ((h, is), λ rest. refl)
value (Assigning.assigning o x equals) t kind.Recover is h = enters o (Lead.recover_lead x equals t) (λ rest. open_text o (target_text x (equals ∷ rest))) t h.0 (h.1, h.2, is) (λ rest. refl)
value a t other is h = operand [] (Purpose.to_arg (ArgFor.to_value a)) t other is tt h

value-named : (a : Assigning) (name t : Token) (other : TokenKind) → Is other t → IsAssigning a → IsVar name → Extends (λ rest. assigning_text a (name ∷ rest)) t (step_value_named a name t other)
value-named a name t kind.Dot is h hn = (λ member m. ((h, hn, is, m), λ rest. refl), λ rest. refl)
value-named a name t kind.OpenBracket is h hn = ((tt, (h, hn, is)), λ rest. refl)
value-named a name t other is h hn = behind-is (ExprTree.variable name) [] (Purpose.to_arg (ArgFor.to_value a)) t other (op_of other) refl is hn refl tt h

value-member : (a : Assigning) (name dot member t : Token) (other : TokenKind) → Is other t → IsAssigning a → IsVar name → Is kind.Dot dot → Is kind.Name member → Extends (λ rest. assigning_text a (name ∷ dot ∷ member ∷ rest)) t (step_value_member a name dot member t other)
value-member a name dot member t kind.Semicolon is h hn hd hm = after_value-is a (RhsTree.field name dot member) (λ rest. assigning_text a (name ∷ dot ∷ member ∷ rest)) t h (hn, hd, hm) is (λ rest. refl)
value-member a name dot member t kind.OpenParen is h hn hd hm = ((h, hn, hd, hm, is), λ rest. refl)
value-member a name dot member t _ is h hn hd hm = tt

value-consumed : (a : Assigning) (word name t : Token) (other : TokenKind) → Is other t → IsAssigning a → Is kind.Consume word → IsVar name → Extends (λ rest. assigning_text a (word ∷ name ∷ rest)) t (step_value_consumed a word name t other)
value-consumed a word name t kind.Dot is h hw hn =
    (λ member m. value-ends a (RhsTree.take_field word name t member) (λ rest. word ∷ name ∷ t ∷ member ∷ rest) (λ rest. assigning_text a (word ∷ name ∷ t ∷ rest)) member h (record { word = hw; name = hn; dot = is; member = m }) (λ rest. refl) (λ rest. refl), λ rest. refl)
value-consumed a word name t kind.Semicolon is h hw hn = after_value-is a (RhsTree.value (ArgTree.consumed word name)) (λ rest. assigning_text a (word ∷ name ∷ rest)) t h (hw, hn) is (λ rest. refl)
value-consumed a word name t _ is h hw hn = tt

paren : (a : Assigning) (opening t : Token) (other : TokenKind) → Is other t → IsAssigning a → Is kind.OpenParen opening → Extends (λ rest. assigning_text a (opening ∷ rest)) t (step_paren a opening t other)
paren a opening t kind.Consume is h ho = receiver-given (CallFor.to_assign a) opening t (λ rest. assigning_text a (opening ∷ rest)) t h ho is (λ rest. refl)
paren a opening t other is h ho = operand [] (Purpose.inner [] (Purpose.to_arg (ArgFor.to_value a)) opening) t other is tt (tt, h, ho)

new : (a : Assigning) (word t : Token) (other : TokenKind) → Is other t → IsAssigning a → Is kind.New word → Extends (λ rest. assigning_text a (word ∷ rest)) t (step_new a word t other)
new a word t kind.Name is h hw =
    (λ opening o. (λ closing c. value-ends a (RhsTree.new_object word t opening closing) (λ rest. word ∷ t ∷ opening ∷ closing ∷ rest) (λ rest. assigning_text a (word ∷ t ∷ opening ∷ rest)) closing h (record { word = hw; name = is; opening = o; closing = c }) (λ rest. refl) (λ rest. refl), λ rest. refl), λ rest. refl)
new a word t kind.Long is h hw = (λ opening o. ((tt, (h, hw, is, o)), λ rest. refl), λ rest. refl)
new a word t _ is h hw = tt

-- ---- arguments

arg : (k : ArgFor) (t : Token) (other : TokenKind) → Is other t → IsArgFor k → Extends (λ rest. arg_for_text k rest) t (step_arg k t other)
arg k t kind.Consume is h = (λ name n. ((h, (is, n)), λ rest. refl), λ rest. refl)
arg k t other is h = operand [] (Purpose.to_arg k) t other is tt h

args : (c : CallPart) (t : Token) (other : TokenKind) → Is other t → IsCallPart c → Extends (λ rest. call_part_text c rest) t (step_args c t other)
args c t kind.CloseParen is h = call-closes c Args.no_args (λ rest. call_part_text c rest) t h tt is (λ rest. refl)
args c t other is h = arg (ArgFor.to_pass c ArgsPart.no_arg_yet) t other is (h, tt)

-- ---- the step

variable-is : (t : Token) (other : TokenKind) → Is other t → is_variable other ≡ true → IsVar t
variable-is t kind.Name is e = inl is
variable-is t kind.This is e = inr is
variable-is t _ is e = absurd cc

suits-is : (wanted : Wanted) (t : Token) → suits wanted t.kind ≡ true → Suits wanted t
suits-is (Wanted.exactly k) t e = sym (same_true the_type tt k t.kind e)
suits-is Wanted.a_variable t e = variable-is t t.kind refl e

expected : (so_far : List Token → List Token) (d : ℕ) (wanted : Wanted) (next : Token → State) (t : Token) → IsState (State.expects so_far d wanted next) → Extends so_far t (state_if (suits wanted t.kind) (next t))
expected so_far d wanted next t h = only (suits wanted t.kind) refl
  where
    only : (b : Bool) → suits wanted t.kind ≡ b → Extends so_far t (state_if b (next t))
    only true e = h t (suits-is wanted t e)
    only false e = tt

pub step-is : (q : State) (t : Token) → IsState q → Extends (state_text q) t (step_as q t t.kind)
step-is (State.expects so_far d wanted next) t h = expected so_far d wanted next t h
step-is (State.between_classes list) t h = classes list t t.kind refl h
step-is (State.in_class c) t h = in-class c t t.kind refl h
step-is (State.perm_seen k p word) t h = perm-seen k p word t t.kind refl h.0 h.1
step-is (State.member_named c ty name) t h = member-named c ty name t t.kind refl h.0 h.1 h.2
step-is (State.params_due part) t h = params part t t.kind refl h
step-is (State.type_due k) t h = type k t t.kind refl h
step-is (State.param_named part list) t h = param-named part list t t.kind refl h.0 h.1
step-is (State.perm_due part list closing) t h = receiver part list closing t t.kind refl h.0 h.1 h.2
step-is (State.listing o) t h = listing o t t.kind refl h
step-is (State.after_then o word opening e closing a) t h = after-then o word opening e closing a t t.kind refl h.0 h.1 h.2 h.3 h.4 h.5
step-is (State.local_named o ty name) t h = local-named o ty name t t.kind refl h.0 h.1 h.2
step-is (State.begun o name) t h = begun o name t t.kind refl h.0 h.1
step-is (State.member_seen o name dot member) t h = member-seen o name dot member t t.kind refl h.0 h.1 h.2 h.3
step-is (State.value_due a) t h = value a t t.kind refl h
step-is (State.value_named a name) t h = value-named a name t t.kind refl h.0 h.1
step-is (State.value_member a name dot member) t h = value-member a name dot member t t.kind refl h.0 h.1 h.2 h.3
step-is (State.value_consumed a word name) t h = value-consumed a word name t t.kind refl h.0 h.1 h.2
step-is (State.paren_seen a opening) t h = paren a opening t t.kind refl h.0 h.1
step-is (State.new_seen a word) t h = new a word t t.kind refl h.0 h.1
step-is (State.args_due c) t h = args c t t.kind refl h
step-is (State.arg_due k) t h = arg k t t.kind refl h
step-is (State.arg_taken k a) t h = finish-arg k a t t.kind refl h.0 h.1
step-is (State.operand ps k) t h = operand ps k t t.kind refl h.0 h.1
step-is (State.after e ps k) t h = behind-is e ps k t t.kind (op_of t.kind) refl refl h.0 h.1 h.2 h.3
