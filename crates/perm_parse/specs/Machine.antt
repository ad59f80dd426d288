-- Reading a program token by token, from state to state.
use Rattle.std.specs.Prelude.{ℕ, ◌+◌, List, [], ◌∷◌, Bool, true, false, Option, Some, None, nat_le, if◌then◌else◌}
use Rattle.perm_tree.specs.declared.ast.Perm.{Perm}
use Rattle.perm_tree.specs.declared.ast.Perm.TheVariants as perm
use Rattle.perm_tree.specs.declared.ast.UnaryOp.TheVariants as unary_op
use Rattle.perm_tree.specs.declared.ast.BinaryOp.{BinaryOp}
use Rattle.perm_tree.specs.declared.ast.BinaryOp.TheVariants as op
use Rattle.perm_tree.specs.declared.tokens.Token.{Token}
use Rattle.perm_tree.specs.declared.tokens.TokenKind.{TokenKind}
use Rattle.perm_tree.specs.declared.tokens.TokenKind.TheVariants as kind
use Rattle.perm_tree.specs.contracts.tokens.TokenKind.{the_type}
use denote.Enum.Bare.{sameb}
use Rattle.perm_parse.specs.Grammar.{TypeTree, ExprTree, ArgTree, ArgList, Args, RecvTree, CallTree, TargetTree, RhsTree, BlockTree, StmtTree, Stmts, ParamList, Params, MemberTree, Members, Classes, level, type_text, expr_text, arg_text, args_text, recv_text, target_text, stmts_text, params_text, program_text}
use Rattle.perm_parse.specs.States.{ArgFor, ArgsPart, Assigning, BodyPart, CallFor, CallPart, ClassPart, Lead, MethodPart, Open, Outer, ParamsPart, Pending, Purpose, State, TypeFor, Wanted, arg_for_text, assigning_text, body_part_text, call_for_text, lead_text, level_arg_for, level_assigning, level_call_for, level_open, level_outer, level_state, level_type_for, method_part_text, open_text, outer_text, type_for_text, before, left, class_part, method_part, no_param_yet, behind_param, body_part, then_lead, else_lead, while_lead, left_lead, right_lead, recover_lead, body, inside, at, assigning, to_stand, to_assign, call_part, no_arg_yet, behind_arg, to_set, to_value, to_pass, to_return, inner, to_arg, to_print, to_if, to_while, to_index, to_item, to_read, to_length, to_member, to_param, to_local, exactly, a_variable, expects, between_classes, in_class, perm_seen, member_named, params_due, type_due, param_named, perm_due, listing, after_then, local_named, begun, member_seen, value_due, value_named, value_member, value_consumed, paren_seen, new_seen, args_due, arg_due, arg_taken, operand, after}

-- ---- one token

-- a token that is a name or `this`
abbrev pub is_variable : TokenKind → Bool
is_variable kind.Name = true
is_variable kind.This = true
is_variable _ = false

-- the token is one of those that are waited for
abbrev pub suits : Wanted → TokenKind → Bool
suits (exactly k) other = sameb the_type k other
suits a_variable other = is_variable other

-- the state behind the only token that may come
abbrev pub state_if : Bool → State → Option State
state_if true q = Some q
state_if false q = None

-- the state behind a whole statement
abbrev pub add : Open → StmtTree → State
add (at u b) x = listing (at u (Stmts.more_stmts b x))

-- into a block
abbrev pub enter : Open → Lead → State
enter (at u b) lead =
    expects (λ rest. outer_text u (stmts_text b (lead_text lead rest))) (level_outer u) (exactly kind.OpenBrace)
    (λ opening. listing (at (inside u b lead opening) Stmts.no_stmts))

-- the state behind a whole assignment
abbrev pub after_value : Assigning → RhsTree → Token → State
after_value (assigning o target equals) r end = add o (StmtTree.assign target equals r end)

-- a right side that is complete, up to the semicolon
abbrev pub ends_value : Assigning → RhsTree → (List Token → List Token) → State
ends_value a r r_text = expects (λ rest. assigning_text a (r_text rest)) (level_assigning a) (exactly kind.Semicolon) (λ end. after_value a r end)

-- the operators on top that bind at least as tight as level l take the operand
abbrev pub reduce : ℕ → ExprTree → List Pending → ExprTree × List Pending
reduce l e [] = (e, [])
reduce l e (before o t ∷ ps) = reduce l (ExprTree.unary o t e) ps
reduce l e (left a o t ∷ ps) = if nat_le (level o) l then reduce l (ExprTree.binary o a t e) ps else (e, left a o t ∷ ps)

-- the binary operator of a token, if it is one
abbrev pub op_of : TokenKind → Option BinaryOp
op_of kind.Star = Some op.Mul
op_of kind.Slash = Some op.Div
op_of kind.Percent = Some op.Rem
op_of kind.Plus = Some op.Plus
op_of kind.Minus = Some op.Minus
op_of kind.Less = Some op.Less
op_of kind.AtMost = Some op.AtMost
op_of kind.Greater = Some op.Greater
op_of kind.AtLeast = Some op.AtLeast
op_of kind.Equal = Some op.Equal
op_of kind.Differs = Some op.Differs
op_of kind.And = Some op.And
op_of kind.Or = Some op.Or
op_of _ = None

-- arguments so far, and one more
abbrev pub push_arg : ArgsPart → ArgTree → ArgList
push_arg no_arg_yet a = ArgList.one_arg a
push_arg (behind_arg list comma) a = ArgList.more_args list comma a

-- parameters so far, and one more
abbrev pub push_param : ParamsPart → TypeTree → Token → ParamList
push_param no_param_yet ty name = ParamList.one_param ty name
push_param (behind_param list comma) ty name = ParamList.more_params list comma ty name

-- the state behind a whole call
abbrev pub after_call : CallFor → CallTree → Token → State
after_call (to_stand o) c end = add o (StmtTree.run_call c end)
after_call (to_assign a) c end = after_value a (RhsTree.called c) end

-- behind the parenthesis of a call
abbrev pub close_call : CallPart → Args → Token → State
close_call (call_part k recv dot name opening) list closing =
    expects (λ rest. call_for_text k (recv_text recv (dot ∷ name ∷ opening ∷ args_text list (closing ∷ rest)))) (level_call_for k) (exactly kind.Semicolon)
    (λ end. after_call k (CallTree.call recv dot name opening list closing) end)

-- behind the member of a receiver
abbrev pub opens_args : CallFor → RecvTree → Token → Token → State
opens_args k recv dot name =
    expects (λ rest. call_for_text k (recv_text recv (dot ∷ name ∷ rest))) (level_call_for k) (exactly kind.OpenParen) (λ opening. args_due (CallPart.call_part k recv dot name opening))

-- behind `( consume`
abbrev pub gives_receiver : CallFor → Token → Token → State
gives_receiver k opening word =
    expects (λ rest. call_for_text k (opening ∷ word ∷ rest)) (level_call_for k + 1) a_variable
    (λ name. expects (λ rest. call_for_text k (opening ∷ word ∷ name ∷ rest)) (level_call_for k + 1) (exactly kind.CloseParen)
    (λ closing. expects (λ rest. call_for_text k (opening ∷ word ∷ name ∷ closing ∷ rest)) (level_call_for k) (exactly kind.Dot)
    (λ dot. expects (λ rest. call_for_text k (opening ∷ word ∷ name ∷ closing ∷ dot ∷ rest)) (level_call_for k) (exactly kind.Name)
    (λ member. opens_args k (RecvTree.given opening word name closing) dot member))))

-- the state behind a whole method
abbrev pub end_method : BodyPart → Stmts → Token → ArgTree → Token → Token → State
end_method (body_part (method_part (class_part list word name opening members) ty member paren) ps closing p perm start) b return_word a end finish =
    in_class (class_part list word name opening (Members.more_members members (MemberTree.method ty member paren ps closing p perm start b return_word a end finish)))

-- what the token behind a whole argument does
abbrev pub finish_arg : ArgFor → ArgTree → Token → TokenKind → Option State
finish_arg (to_set o name dot member equals) a t kind.Semicolon = Some (add o (StmtTree.set_field name dot member equals a t))
finish_arg (to_set o name dot member equals) a t _ = None
finish_arg (to_value g) a t kind.Semicolon = Some (after_value g (RhsTree.value a) t)
finish_arg (to_value g) a t _ = None
finish_arg (to_pass c list) a t kind.Comma = Some (arg_due (to_pass c (behind_arg (push_arg list a) t)))
finish_arg (to_pass c list) a t kind.CloseParen = Some (close_call c (Args.args (push_arg list a)) t)
finish_arg (to_pass c list) a t _ = None
finish_arg (to_return b list word) a t kind.Semicolon =
    Some (expects (λ rest. body_part_text b (stmts_text list (word ∷ arg_text a (t ∷ rest)))) 2 (exactly kind.CloseBrace) (λ finish. end_method b list word a t finish))
finish_arg (to_return b list word) a t _ = None

-- what the token behind a whole expression does
abbrev pub finish : Purpose → ExprTree → Token → TokenKind → Option State
finish (inner ps k opening) e t kind.CloseParen = Some (after (ExprTree.parens opening e t) ps k)
finish (inner ps k opening) e t _ = None
finish (to_arg k) e t other = finish_arg k (ArgTree.plain e) t other
finish (to_print o word) e t kind.Semicolon = Some (add o (StmtTree.print word e t))
finish (to_print o word) e t _ = None
finish (to_if o word opening) e t kind.CloseParen = Some (enter o (then_lead word opening e t))
finish (to_if o word opening) e t _ = None
finish (to_while o word opening) e t kind.CloseParen = Some (enter o (while_lead word opening e t))
finish (to_while o word opening) e t _ = None
finish (to_index o name opening) e t kind.CloseBracket =
    Some (expects (λ rest. open_text o (name ∷ opening ∷ expr_text e (t ∷ rest))) (level_open o) (exactly kind.Assign) (λ equals. operand [] (to_item o name opening e t equals)))
finish (to_index o name opening) e t _ = None
finish (to_item o name opening i closing equals) e t kind.Semicolon = Some (add o (StmtTree.set_item name opening i closing equals e t))
finish (to_item o name opening i closing equals) e t _ = None
finish (to_read a name opening) e t kind.CloseBracket = Some (ends_value a (RhsTree.item name opening e t) (λ rest. name ∷ opening ∷ expr_text e (t ∷ rest)))
finish (to_read a name opening) e t _ = None
finish (to_length a word long opening) e t kind.CloseBracket = Some (ends_value a (RhsTree.new_array word long opening e t) (λ rest. word ∷ long ∷ opening ∷ expr_text e (t ∷ rest)))
finish (to_length a word long opening) e t _ = None

-- the state behind a token where an operand is due, if the token isn't dead
abbrev pub step_operand : List Pending → Purpose → Token → TokenKind → Option State
step_operand ps k t kind.Number = Some (after (ExprTree.number t) ps k)
step_operand ps k t kind.True = Some (after (ExprTree.true_word t) ps k)
step_operand ps k t kind.False = Some (after (ExprTree.false_word t) ps k)
step_operand ps k t kind.Null = Some (after (ExprTree.null_word t) ps k)
step_operand ps k t kind.Name = Some (after (ExprTree.variable t) ps k)
step_operand ps k t kind.This = Some (after (ExprTree.variable t) ps k)
step_operand ps k t kind.Minus = Some (operand (before unary_op.Minus t ∷ ps) k)
step_operand ps k t kind.Bang = Some (operand (before unary_op.Not t ∷ ps) k)
step_operand ps k t kind.OpenParen = Some (operand [] (inner ps k t))
step_operand ps k t _ = None

-- behind an operand, at a token that is this operator or none
abbrev pub behind : ExprTree → List Pending → Purpose → Token → TokenKind → Option BinaryOp → Option State
behind e ps k t other (Some o) = let r = reduce (level o) e ps in Some (operand (left r.0 o t ∷ r.1) k)
behind e ps k t other None = let r = reduce 6 e ps in finish k r.0 t other

-- the state behind a token where an argument is due, if the token isn't dead
abbrev pub step_arg : ArgFor → Token → TokenKind → Option State
step_arg k t kind.Consume = Some (expects (λ rest. arg_for_text k (t ∷ rest)) (level_arg_for k) a_variable (λ name. arg_taken k (ArgTree.consumed t name)))
step_arg k t other = step_operand [] (to_arg k) t other

-- the state behind a token where arguments are due, if the token isn't dead
abbrev pub step_args : CallPart → Token → TokenKind → Option State
step_args c t kind.CloseParen = Some (close_call c Args.no_args t)
step_args c t other = step_arg (to_pass c no_arg_yet) t other

-- the state behind a type and its name
abbrev pub after_named_type : TypeFor → TypeTree → Token → State
after_named_type (to_member c) ty name = member_named c ty name
after_named_type (to_param m list) ty name = param_named m (push_param list ty name)
after_named_type (to_local o) ty name = local_named o ty name

-- behind a whole type comes a name
abbrev pub after_type : TypeFor → TypeTree → State
after_type k ty = expects (λ rest. type_for_text k (type_text ty rest)) (level_type_for k) (exactly kind.Name) (λ name. after_named_type k ty name)

-- the state behind a token where a type is due, if the token isn't dead
abbrev pub step_type : TypeFor → Token → TokenKind → Option State
step_type k t kind.Long = Some (after_type k (TypeTree.long_type t))
step_type k t kind.Bool = Some (after_type k (TypeTree.bool_type t))
step_type k t kind.Isolated = Some (perm_seen k perm.Isolated t)
step_type k t kind.Immutable = Some (perm_seen k perm.Immutable t)
step_type k t kind.Readable = Some (perm_seen k perm.Readable t)
step_type k t kind.Writable = Some (perm_seen k perm.Writable t)
step_type k t _ = None

-- the state behind a token where the word of a permission stands, if the token isn't dead
abbrev pub step_perm_seen : TypeFor → Perm → Token → Token → TokenKind → Option State
step_perm_seen k p word t kind.Name = Some (after_type k (TypeTree.object_type p word t))
step_perm_seen k p word t kind.Long =
    Some (expects (λ rest. type_for_text k (word ∷ t ∷ rest)) (level_type_for k) (exactly kind.OpenBracket)
    (λ opening. expects (λ rest. type_for_text k (word ∷ t ∷ opening ∷ rest)) (level_type_for k + 1) (exactly kind.CloseBracket)
    (λ closing. after_type k (TypeTree.array_type p word t opening closing))))
step_perm_seen k p word t _ = None

-- the state behind a token where classes stand, if the token isn't dead
abbrev pub step_classes : Classes → Token → TokenKind → Option State
step_classes list t kind.Class =
    Some (expects (λ rest. program_text list (t ∷ rest)) 0 (exactly kind.Name)
    (λ name. expects (λ rest. program_text list (t ∷ name ∷ rest)) 0 (exactly kind.OpenBrace) (λ opening. in_class (class_part list t name opening Members.no_members))))
step_classes list t _ = None

-- the state behind a whole class
abbrev pub end_class : ClassPart → Token → State
end_class (class_part list word name opening members) t = between_classes (Classes.more_classes list word name opening members t)

-- the state behind a token where a member is due, if the token isn't dead
abbrev pub step_in_class : ClassPart → Token → TokenKind → Option State
step_in_class c t kind.CloseBrace = Some (end_class c t)
step_in_class c t other = step_type (to_member c) t other

-- the state behind a whole field
abbrev pub end_field : ClassPart → TypeTree → Token → Token → State
end_field (class_part list word name opening members) ty member t = in_class (class_part list word name opening (Members.more_members members (MemberTree.field_member ty member t)))

-- the state behind a token where a member has its name, if the token isn't dead
abbrev pub step_member_named : ClassPart → TypeTree → Token → Token → TokenKind → Option State
step_member_named c ty name t kind.Semicolon = Some (end_field c ty name t)
step_member_named c ty name t kind.OpenParen = Some (params_due (method_part c ty name t))
step_member_named c ty name t _ = None

-- the state behind a token where parameters are due, if the token isn't dead
abbrev pub step_params : MethodPart → Token → TokenKind → Option State
step_params m t kind.CloseParen = Some (perm_due m Params.no_params t)
step_params m t other = step_type (to_param m no_param_yet) t other

-- the state behind a token where a parameter has its name, if the token isn't dead
abbrev pub step_param_named : MethodPart → ParamList → Token → TokenKind → Option State
step_param_named m list t kind.Comma = Some (type_due (to_param m (behind_param list t)))
step_param_named m list t kind.CloseParen = Some (perm_due m (Params.params list) t)
step_param_named m list t _ = None

-- the state behind the permission of a method
abbrev pub opens_body : MethodPart → Params → Token → Perm → Token → State
opens_body m list closing p t =
    expects (λ rest. method_part_text m (params_text list (closing ∷ t ∷ rest))) 1 (exactly kind.OpenBrace) (λ opening. listing (at (body (body_part m list closing p t opening)) Stmts.no_stmts))

-- the state behind a token where the permission of a method is due, if the token isn't dead
abbrev pub step_perm : MethodPart → Params → Token → Token → TokenKind → Option State
step_perm m list closing t kind.Isolated = Some (opens_body m list closing perm.Isolated t)
step_perm m list closing t kind.Immutable = Some (opens_body m list closing perm.Immutable t)
step_perm m list closing t kind.Readable = Some (opens_body m list closing perm.Readable t)
step_perm m list closing t kind.Writable = Some (opens_body m list closing perm.Writable t)
step_perm m list closing t _ = None

-- a brace that closes a block
abbrev pub after_block : Outer → Stmts → Lead → BlockTree → Option State
after_block u b (then_lead word opening e closing) a = Some (after_then (at u b) word opening e closing a)
after_block u b (else_lead word opening e closing a otherwise) c = Some (listing (at u (Stmts.more_stmts b (StmtTree.if_else word opening e closing a otherwise c))))
after_block u b (while_lead word opening e closing) a = Some (listing (at u (Stmts.more_stmts b (StmtTree.repeat word opening e closing a))))
after_block u b (left_lead word) a = Some (enter (at u b) (right_lead word a))
after_block u b (right_lead word a) c = Some (listing (at u (Stmts.more_stmts b (StmtTree.par word a c))))
after_block u b (recover_lead target equals word) a = None

-- the state behind a brace that closes the open block
abbrev pub close_block : Open → Token → Option State
close_block (at (body d) b) t = None
close_block (at (inside u c lead opening) b) t = after_block u c lead (BlockTree.block opening b t)

-- `give` ends the block of a recover
abbrev pub gives : Outer → Stmts → Lead → Token → Stmts → Token → Option State
gives u c (recover_lead target equals word) opening b t =
    let so_far = λ (rest : List Token). outer_text u (stmts_text c (target_text target (equals ∷ word ∷ opening ∷ stmts_text b (t ∷ rest)))) in
    Some (expects so_far (level_outer u + 1) (exactly kind.Name)
    (λ name. expects (λ rest. so_far (name ∷ rest)) (level_outer u + 1) (exactly kind.Semicolon)
    (λ end. expects (λ rest. so_far (name ∷ end ∷ rest)) (level_outer u + 1) (exactly kind.CloseBrace)
    (λ closing. expects (λ rest. so_far (name ∷ end ∷ closing ∷ rest)) (level_outer u) (exactly kind.Semicolon)
    (λ last. listing (at u (Stmts.more_stmts c (StmtTree.assign target equals (RhsTree.recover word opening b t name end closing) last))))))))
gives u c _ opening b t = None

-- the state behind a `give` in the open block
abbrev pub give_block : Open → Token → Option State
give_block (at (body d) b) t = None
give_block (at (inside u c lead opening) b) t = gives u c lead opening b t

-- the state behind a `return` in the open block
abbrev pub return_block : Open → Token → Option State
return_block (at (body d) b) t = Some (arg_due (to_return d b t))
return_block (at (inside u c lead opening) b) t = None

-- the state behind a token where statements stand, if the token isn't dead
abbrev pub step_listing : Open → Token → TokenKind → Option State
step_listing o t kind.Name = Some (begun o t)
step_listing o t kind.This = Some (begun o t)
step_listing o t kind.OpenParen = Some (expects (λ rest. open_text o (t ∷ rest)) (level_open o + 1) (exactly kind.Consume) (λ word. gives_receiver (to_stand o) t word))
step_listing o t kind.Print = Some (operand [] (to_print o t))
step_listing o t kind.If = Some (expects (λ rest. open_text o (t ∷ rest)) (level_open o) (exactly kind.OpenParen) (λ opening. operand [] (to_if o t opening)))
step_listing o t kind.While = Some (expects (λ rest. open_text o (t ∷ rest)) (level_open o) (exactly kind.OpenParen) (λ opening. operand [] (to_while o t opening)))
step_listing o t kind.Par = Some (enter o (left_lead t))
step_listing o t kind.CloseBrace = close_block o t
step_listing o t kind.Give = give_block o t
step_listing o t kind.Return = return_block o t
step_listing o t other = step_type (to_local o) t other

-- the open block with an `if` without `else`
abbrev pub add_if : Open → Token → Token → ExprTree → Token → BlockTree → Open
add_if (at u b) word opening e closing a = at u (Stmts.more_stmts b (StmtTree.if_then word opening e closing a))

-- the state behind a token where the first block of an `if` stands, if the token isn't dead
abbrev pub step_after_then : Open → Token → Token → ExprTree → Token → BlockTree → Token → TokenKind → Option State
step_after_then o word opening e closing a t kind.Else = Some (enter o (else_lead word opening e closing a t))
step_after_then o word opening e closing a t other = step_listing (add_if o word opening e closing a) t other

-- the state behind a token where a local variable has its name, if the token isn't dead
abbrev pub step_local_named : Open → TypeTree → Token → Token → TokenKind → Option State
step_local_named o ty name t kind.Semicolon = Some (add o (StmtTree.declare ty name t))
step_local_named o ty name t kind.Assign = Some (value_due (assigning o (TargetTree.declared ty name) t))
step_local_named o ty name t _ = None

-- the state behind a token where a statement has begun with a name, if the token isn't dead
abbrev pub step_begun : Open → Token → Token → TokenKind → Option State
step_begun o name t kind.Assign = state_if (sameb the_type kind.Name name.kind) (value_due (assigning o (TargetTree.known name) t))
step_begun o name t kind.Dot = Some (expects (λ rest. open_text o (name ∷ t ∷ rest)) (level_open o) (exactly kind.Name) (λ member. member_seen o name t member))
step_begun o name t kind.OpenBracket = Some (operand [] (to_index o name t))
step_begun o name t _ = None

-- the state behind a token where a member of a variable stands, if the token isn't dead
abbrev pub step_member_seen : Open → Token → Token → Token → Token → TokenKind → Option State
step_member_seen o name dot member t kind.Assign = Some (arg_due (to_set o name dot member t))
step_member_seen o name dot member t kind.OpenParen = Some (args_due (call_part (to_stand o) (RecvTree.lent name) dot member t))
step_member_seen o name dot member t _ = None

-- the state behind a token where a right side is due, if the token isn't dead
abbrev pub step_value : Assigning → Token → TokenKind → Option State
step_value a t kind.Consume = Some (expects (λ rest. assigning_text a (t ∷ rest)) (level_assigning a) a_variable (λ name. value_consumed a t name))
step_value a t kind.Name = Some (value_named a t)
step_value a t kind.This = Some (value_named a t)
step_value a t kind.New = Some (new_seen a t)
step_value a t kind.OpenParen = Some (paren_seen a t)
step_value (assigning o target equals) t kind.Recover = Some (enter o (recover_lead target equals t))
step_value a t other = step_operand [] (to_arg (to_value a)) t other

-- the state behind a token where a right side has begun with a name, if the token isn't dead
abbrev pub step_value_named : Assigning → Token → Token → TokenKind → Option State
step_value_named a name t kind.Dot = Some (expects (λ rest. assigning_text a (name ∷ t ∷ rest)) (level_assigning a) (exactly kind.Name) (λ member. value_member a name t member))
step_value_named a name t kind.OpenBracket = Some (operand [] (to_read a name t))
step_value_named a name t other = behind (ExprTree.variable name) [] (to_arg (to_value a)) t other (op_of other)

-- the state behind a token where a right side has a member, if the token isn't dead
abbrev pub step_value_member : Assigning → Token → Token → Token → Token → TokenKind → Option State
step_value_member a name dot member t kind.Semicolon = Some (after_value a (RhsTree.field name dot member) t)
step_value_member a name dot member t kind.OpenParen = Some (args_due (call_part (to_assign a) (RecvTree.lent name) dot member t))
step_value_member a name dot member t _ = None

-- the state behind a token where a right side has `consume` and a name, if the token isn't dead
abbrev pub step_value_consumed : Assigning → Token → Token → Token → TokenKind → Option State
step_value_consumed a word name t kind.Dot =
    Some (expects (λ rest. assigning_text a (word ∷ name ∷ t ∷ rest)) (level_assigning a) (exactly kind.Name)
    (λ member. ends_value a (RhsTree.take_field word name t member) (λ rest. word ∷ name ∷ t ∷ member ∷ rest)))
step_value_consumed a word name t kind.Semicolon = Some (after_value a (RhsTree.value (ArgTree.consumed word name)) t)
step_value_consumed a word name t _ = None

-- the state behind a token where a right side has begun with a parenthesis, if the token isn't dead
abbrev pub step_paren : Assigning → Token → Token → TokenKind → Option State
step_paren a opening t kind.Consume = Some (gives_receiver (to_assign a) opening t)
step_paren a opening t other = step_operand [] (inner [] (to_arg (to_value a)) opening) t other

-- the state behind a token where a right side has begun with `new`, if the token isn't dead
abbrev pub step_new : Assigning → Token → Token → TokenKind → Option State
step_new a word t kind.Name =
    Some (expects (λ rest. assigning_text a (word ∷ t ∷ rest)) (level_assigning a) (exactly kind.OpenParen)
    (λ opening. expects (λ rest. assigning_text a (word ∷ t ∷ opening ∷ rest)) (level_assigning a + 1) (exactly kind.CloseParen)
    (λ closing. ends_value a (RhsTree.new_object word t opening closing) (λ rest. word ∷ t ∷ opening ∷ closing ∷ rest))))
step_new a word t kind.Long =
    Some (expects (λ rest. assigning_text a (word ∷ t ∷ rest)) (level_assigning a) (exactly kind.OpenBracket) (λ opening. operand [] (to_length a word t opening)))
step_new a word t _ = None

-- a token of this kind: None where it is dead
abbrev pub step_as : State → Token → TokenKind → Option State
step_as (expects so_far d wanted next) t other = state_if (suits wanted other) (next t)
step_as (between_classes list) t other = step_classes list t other
step_as (in_class c) t other = step_in_class c t other
step_as (perm_seen k p word) t other = step_perm_seen k p word t other
step_as (member_named c ty name) t other = step_member_named c ty name t other
step_as (params_due m) t other = step_params m t other
step_as (type_due k) t other = step_type k t other
step_as (param_named m list) t other = step_param_named m list t other
step_as (perm_due m list closing) t other = step_perm m list closing t other
step_as (listing o) t other = step_listing o t other
step_as (after_then o word opening e closing a) t other = step_after_then o word opening e closing a t other
step_as (local_named o ty name) t other = step_local_named o ty name t other
step_as (begun o name) t other = step_begun o name t other
step_as (member_seen o name dot member) t other = step_member_seen o name dot member t other
step_as (value_due a) t other = step_value a t other
step_as (value_named a name) t other = step_value_named a name t other
step_as (value_member a name dot member) t other = step_value_member a name dot member t other
step_as (value_consumed a word name) t other = step_value_consumed a word name t other
step_as (paren_seen a opening) t other = step_paren a opening t other
step_as (new_seen a word) t other = step_new a word t other
step_as (args_due c) t other = step_args c t other
step_as (arg_due k) t other = step_arg k t other
step_as (arg_taken k a) t other = finish_arg k a t other
step_as (operand ps k) t other = step_operand ps k t other
step_as (after e ps k) t other = behind e ps k t other (op_of other)

-- the state behind a token, if that isn't dead
abbrev pub step : State → Token → Option State
step q t = step_as q t t.kind

-- ---- a list of tokens

-- the levels behind the tokens that are taken, and the state behind them all
abbrev pub note_level : Option State → (State → List ℕ × Option State) → List ℕ × Option State
note_level None go = ([], None)
note_level (Some q) go = let r = go q in (level_state q ∷ r.0, r.1)

-- the levels behind tokens, and the state behind them all
abbrev pub walk : State → List Token → List ℕ × Option State
walk q [] = ([], Some q)
walk q (t ∷ ts) = note_level (step q t) (λ r. walk r ts)
