-- What it is for a state to be good: the trees that it holds are trees of the grammar.
use Rattle.std.proofs.Common.{◌≡◌, ◌≤◌, List, [], ◌∷◌}
use Rattle.perm_tree.specs.declared.tokens.Token.{Token}
use Rattle.perm_tree.specs.declared.tokens.TokenKind.TheVariants as kind
use Rattle.perm_parse.specs.Grammar.{Is, IsVar, IsType, IsExpr, IsArg, IsArgList, IsRecv, IsTarget, IsBlock, AreStmts, IsParamList, AreParams, AreMembers, IsProgram, looseness, level, sign, unary_sign, perm_word, type_text, expr_text, arg_text, program_text, param_list_text, params_text, block_text}
use Rattle.perm_parse.specs.States.{Pending, ClassPart, MethodPart, ParamsPart, BodyPart, Lead, Outer, Open, Assigning, CallFor, CallPart, ArgsPart, ArgFor, Purpose, TypeFor, Wanted, State, Room, pending_text, class_part_text, method_part_text, open_text, assigning_text, call_part_text, arg_for_text, purpose_text, type_for_text}

-- the tokens that have been read, and behind them the others
abbrev pub state_text : State → List Token → List Token
state_text (State.expects so_far d wanted next) rest = so_far rest
state_text (State.between_classes list) rest = program_text list rest
state_text (State.in_class c) rest = class_part_text c rest
state_text (State.perm_seen k p t) rest = type_for_text k (t ∷ rest)
state_text (State.member_named c ty name) rest = class_part_text c (type_text ty (name ∷ rest))
state_text (State.params_due part) rest = method_part_text part rest
state_text (State.type_due k) rest = type_for_text k rest
state_text (State.param_named part list) rest = method_part_text part (param_list_text list rest)
state_text (State.perm_due part list closing) rest = method_part_text part (params_text list (closing ∷ rest))
state_text (State.listing o) rest = open_text o rest
state_text (State.after_then o word opening e closing a) rest = open_text o (word ∷ opening ∷ expr_text e (closing ∷ block_text a rest))
state_text (State.local_named o ty name) rest = open_text o (type_text ty (name ∷ rest))
state_text (State.begun o name) rest = open_text o (name ∷ rest)
state_text (State.member_seen o name dot member) rest = open_text o (name ∷ dot ∷ member ∷ rest)
state_text (State.value_due a) rest = assigning_text a rest
state_text (State.value_named a name) rest = assigning_text a (name ∷ rest)
state_text (State.value_member a name dot member) rest = assigning_text a (name ∷ dot ∷ member ∷ rest)
state_text (State.value_consumed a word name) rest = assigning_text a (word ∷ name ∷ rest)
state_text (State.paren_seen a opening) rest = assigning_text a (opening ∷ rest)
state_text (State.new_seen a word) rest = assigning_text a (word ∷ rest)
state_text (State.args_due c) rest = call_part_text c rest
state_text (State.arg_due k) rest = arg_for_text k rest
state_text (State.arg_taken k a) rest = arg_for_text k (arg_text a rest)
state_text (State.operand ps k) rest = purpose_text k (pending_text ps rest)
state_text (State.after e ps k) rest = purpose_text k (pending_text ps (expr_text e rest))

-- ---- the parts of states

abbrev pub ArePending : List Pending → Type 0
ArePending [] = Unit {0}
ArePending (Pending.before o t ∷ ps) = Is (unary_sign o) t × ArePending ps
ArePending (Pending.left a o t ∷ ps) = IsExpr a × (looseness a ≤ level o) × Is (sign o) t × Room (level o) ps × ArePending ps

abbrev pub IsClassPart : ClassPart → Type 0
IsClassPart (ClassPart.class_part list word name opening members) = IsProgram list × Is kind.Class word × Is kind.Name name × Is kind.OpenBrace opening × AreMembers members

abbrev pub IsMethodPart : MethodPart → Type 0
IsMethodPart (MethodPart.method_part c ty name opening) = IsClassPart c × IsType ty × Is kind.Name name × Is kind.OpenParen opening

abbrev pub AreParamsPart : ParamsPart → Type 0
AreParamsPart ParamsPart.no_param_yet = Unit {0}
AreParamsPart (ParamsPart.behind_param list comma) = IsParamList list × Is kind.Comma comma

abbrev pub IsBodyPart : BodyPart → Type 0
IsBodyPart (BodyPart.body_part part list closing p word opening) = IsMethodPart part × AreParams list × Is kind.CloseParen closing × Is (perm_word p) word × Is kind.OpenBrace opening

abbrev pub IsLead : Lead → Type 0
IsLead (Lead.then_lead word opening e closing) = Is kind.If word × Is kind.OpenParen opening × IsExpr e × Is kind.CloseParen closing
IsLead (Lead.else_lead word opening e closing a otherwise) = Is kind.If word × Is kind.OpenParen opening × IsExpr e × Is kind.CloseParen closing × IsBlock a × Is kind.Else otherwise
IsLead (Lead.while_lead word opening e closing) = Is kind.While word × Is kind.OpenParen opening × IsExpr e × Is kind.CloseParen closing
IsLead (Lead.left_lead word) = Is kind.Par word
IsLead (Lead.right_lead word a) = Is kind.Par word × IsBlock a
IsLead (Lead.recover_lead target equals word) = IsTarget target × Is kind.Assign equals × Is kind.Recover word

abbrev pub IsOuter : Outer → Type 0
IsOuter (Outer.body b) = IsBodyPart b
IsOuter (Outer.inside u b lead opening) = IsOuter u × AreStmts b × IsLead lead × Is kind.OpenBrace opening

abbrev pub IsOpen : Open → Type 0
IsOpen (Open.at u b) = IsOuter u × AreStmts b

abbrev pub IsAssigning : Assigning → Type 0
IsAssigning (Assigning.assigning o target equals) = IsOpen o × IsTarget target × Is kind.Assign equals

abbrev pub IsCallFor : CallFor → Type 0
IsCallFor (CallFor.to_stand o) = IsOpen o
IsCallFor (CallFor.to_assign a) = IsAssigning a

abbrev pub IsCallPart : CallPart → Type 0
IsCallPart (CallPart.call_part k recv dot name opening) = IsCallFor k × IsRecv recv × Is kind.Dot dot × Is kind.Name name × Is kind.OpenParen opening

abbrev pub AreArgsPart : ArgsPart → Type 0
AreArgsPart ArgsPart.no_arg_yet = Unit {0}
AreArgsPart (ArgsPart.behind_arg list comma) = IsArgList list × Is kind.Comma comma

abbrev pub IsArgFor : ArgFor → Type 0
IsArgFor (ArgFor.to_set o name dot member equals) = IsOpen o × IsVar name × Is kind.Dot dot × Is kind.Name member × Is kind.Assign equals
IsArgFor (ArgFor.to_value a) = IsAssigning a
IsArgFor (ArgFor.to_pass c list) = IsCallPart c × AreArgsPart list
IsArgFor (ArgFor.to_return b list word) = IsBodyPart b × AreStmts list × Is kind.Return word

abbrev pub IsPurpose : Purpose → Type 0
IsPurpose (Purpose.inner ps k opening) = ArePending ps × IsPurpose k × Is kind.OpenParen opening
IsPurpose (Purpose.to_arg k) = IsArgFor k
IsPurpose (Purpose.to_print o word) = IsOpen o × Is kind.Print word
IsPurpose (Purpose.to_if o word opening) = IsOpen o × Is kind.If word × Is kind.OpenParen opening
IsPurpose (Purpose.to_while o word opening) = IsOpen o × Is kind.While word × Is kind.OpenParen opening
IsPurpose (Purpose.to_index o name opening) = IsOpen o × IsVar name × Is kind.OpenBracket opening
IsPurpose (Purpose.to_item o name opening i closing equals) = IsOpen o × IsVar name × Is kind.OpenBracket opening × IsExpr i × Is kind.CloseBracket closing × Is kind.Assign equals
IsPurpose (Purpose.to_read a name opening) = IsAssigning a × IsVar name × Is kind.OpenBracket opening
IsPurpose (Purpose.to_length a word long opening) = IsAssigning a × Is kind.New word × Is kind.Long long × Is kind.OpenBracket opening

abbrev pub IsTypeFor : TypeFor → Type 0
IsTypeFor (TypeFor.to_member c) = IsClassPart c
IsTypeFor (TypeFor.to_param part list) = IsMethodPart part × AreParamsPart list
IsTypeFor (TypeFor.to_local o) = IsOpen o

abbrev pub Suits : Wanted → Token → Type 0
Suits (Wanted.exactly k) t = Is k t
Suits Wanted.a_variable t = IsVar t

abbrev pub IsState : State → Type 0
IsState (State.expects so_far d wanted next) = (t : Token) → Suits wanted t → IsState (next t) × ((rest : List Token) → state_text (next t) rest ≡ so_far (t ∷ rest))
IsState (State.between_classes list) = IsProgram list
IsState (State.in_class c) = IsClassPart c
IsState (State.perm_seen k p t) = IsTypeFor k × Is (perm_word p) t
IsState (State.member_named c ty name) = IsClassPart c × IsType ty × Is kind.Name name
IsState (State.params_due part) = IsMethodPart part
IsState (State.type_due k) = IsTypeFor k
IsState (State.param_named part list) = IsMethodPart part × IsParamList list
IsState (State.perm_due part list closing) = IsMethodPart part × AreParams list × Is kind.CloseParen closing
IsState (State.listing o) = IsOpen o
IsState (State.after_then o word opening e closing a) = IsOpen o × Is kind.If word × Is kind.OpenParen opening × IsExpr e × Is kind.CloseParen closing × IsBlock a
IsState (State.local_named o ty name) = IsOpen o × IsType ty × Is kind.Name name
IsState (State.begun o name) = IsOpen o × IsVar name
IsState (State.member_seen o name dot member) = IsOpen o × IsVar name × Is kind.Dot dot × Is kind.Name member
IsState (State.value_due a) = IsAssigning a
IsState (State.value_named a name) = IsAssigning a × IsVar name
IsState (State.value_member a name dot member) = IsAssigning a × IsVar name × Is kind.Dot dot × Is kind.Name member
IsState (State.value_consumed a word name) = IsAssigning a × Is kind.Consume word × IsVar name
IsState (State.paren_seen a opening) = IsAssigning a × Is kind.OpenParen opening
IsState (State.new_seen a word) = IsAssigning a × Is kind.New word
IsState (State.args_due c) = IsCallPart c
IsState (State.arg_due k) = IsArgFor k
IsState (State.arg_taken k a) = IsArgFor k × IsArg a
IsState (State.operand ps k) = ArePending ps × IsPurpose k
IsState (State.after e ps k) = IsExpr e × (looseness e ≡ 0) × ArePending ps × IsPurpose k
