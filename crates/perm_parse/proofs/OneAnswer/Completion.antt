-- Each state has a text that ends the program.
use Rattle.std.proofs.Common.{◌≡◌, ℕ, List, [], ◌∷◌, Option, Some, refl, ◌∙◌, ap}
use Rattle.perm_tree.specs.declared.tokens.Token.{Token}
use Rattle.perm_tree.specs.declared.tokens.TokenKind.{TokenKind}
use Rattle.perm_tree.specs.declared.tokens.TokenKind.TheVariants as kind
use Rattle.perm_parse.specs.Grammar.{TypeTree, ExprTree, ArgTree, Args, CallTree, RhsTree, Params, BlockTree, StmtTree, Stmts, Classes}
use Rattle.perm_parse.specs.States.{Pending, ClassPart, MethodPart, BodyPart, Lead, Outer, Open, Assigning, CallFor, CallPart, ArgFor, Purpose, TypeFor, Wanted, State}
use Rattle.perm_parse.specs.Machine.{walk, reduce, end_method, after_named_type, push_arg, push_param}
use Rattle.perm_tree.specs.contracts.tokens.TokenKind.{the_type}
use denote.Enum.Bare.{true_same}
use Rattle.perm_parse.proofs.OneAnswer.StatementRuns.{NoElse, then-ends}

-- some token of this kind
abbrev pub some_token : TokenKind → Token
some_token k = record { kind = k; span = record { start = 0; end = 0 }; value = 0 }

abbrev pub wanted_token : Wanted → Token
wanted_token (Wanted.exactly k) = some_token k
wanted_token Wanted.a_variable = some_token kind.Name

abbrev end_class : List Token
end_class = some_token kind.CloseBrace ∷ []

-- the end of a method behind its parameters
abbrev end_perm : List Token
end_perm = some_token kind.Readable ∷ some_token kind.OpenBrace ∷ some_token kind.Return ∷ some_token kind.Number ∷ some_token kind.Semicolon ∷ some_token kind.CloseBrace ∷ end_class

abbrev end_block : List Token → Lead → List Token
end_block rest (Lead.left_lead word) = some_token kind.CloseBrace ∷ some_token kind.OpenBrace ∷ some_token kind.CloseBrace ∷ rest
end_block rest (Lead.recover_lead target equals word) = some_token kind.Give ∷ some_token kind.Name ∷ some_token kind.Semicolon ∷ some_token kind.CloseBrace ∷ some_token kind.Semicolon ∷ rest
end_block rest _ = some_token kind.CloseBrace ∷ rest

-- from behind a statement
abbrev end_outer : Outer → List Token
end_outer (Outer.body b) = some_token kind.Return ∷ some_token kind.Number ∷ some_token kind.Semicolon ∷ some_token kind.CloseBrace ∷ end_class
end_outer (Outer.inside u b lead opening) = end_block (end_outer u) lead

abbrev end_open : Open → List Token
end_open (Open.at u b) = end_outer u

abbrev end_assigning : Assigning → List Token
end_assigning (Assigning.assigning o target equals) = some_token kind.Semicolon ∷ end_open o

abbrev end_call_for : CallFor → List Token
end_call_for (CallFor.to_stand o) = some_token kind.Semicolon ∷ end_open o
end_call_for (CallFor.to_assign a) = end_assigning a

abbrev end_call_part : CallPart → List Token
end_call_part (CallPart.call_part k recv dot name opening) = some_token kind.CloseParen ∷ end_call_for k

-- from behind an argument
abbrev end_arg : ArgFor → List Token
end_arg (ArgFor.to_set o name dot member equals) = some_token kind.Semicolon ∷ end_open o
end_arg (ArgFor.to_value a) = end_assigning a
end_arg (ArgFor.to_pass c list) = end_call_part c
end_arg (ArgFor.to_return b list word) = some_token kind.Semicolon ∷ some_token kind.CloseBrace ∷ end_class

-- from behind an expression
abbrev end_purpose : Purpose → List Token
end_purpose (Purpose.inner ps k opening) = some_token kind.CloseParen ∷ end_purpose k
end_purpose (Purpose.to_arg k) = end_arg k
end_purpose (Purpose.to_print o word) = some_token kind.Semicolon ∷ end_open o
end_purpose (Purpose.to_if o word opening) = some_token kind.CloseParen ∷ some_token kind.OpenBrace ∷ some_token kind.CloseBrace ∷ end_open o
end_purpose (Purpose.to_while o word opening) = some_token kind.CloseParen ∷ some_token kind.OpenBrace ∷ some_token kind.CloseBrace ∷ end_open o
end_purpose (Purpose.to_index o name opening) = some_token kind.CloseBracket ∷ some_token kind.Assign ∷ some_token kind.Number ∷ some_token kind.Semicolon ∷ end_open o
end_purpose (Purpose.to_item o name opening i closing equals) = some_token kind.Semicolon ∷ end_open o
end_purpose (Purpose.to_read a name opening) = some_token kind.CloseBracket ∷ end_assigning a
end_purpose (Purpose.to_length a word long opening) = some_token kind.CloseBracket ∷ end_assigning a

-- from behind a declared name
abbrev end_named : TypeFor → List Token
end_named (TypeFor.to_member c) = some_token kind.Semicolon ∷ end_class
end_named (TypeFor.to_param part list) = some_token kind.CloseParen ∷ end_perm
end_named (TypeFor.to_local o) = some_token kind.Semicolon ∷ end_open o

abbrev pub end_state : State → List Token
end_state (State.expects so_far d wanted next) = wanted_token wanted ∷ end_state (next (wanted_token wanted))
end_state (State.between_classes list) = []
end_state (State.in_class c) = end_class
end_state (State.perm_seen k p t) = some_token kind.Name ∷ some_token kind.Name ∷ end_named k
end_state (State.member_named c ty name) = some_token kind.Semicolon ∷ end_class
end_state (State.params_due part) = some_token kind.CloseParen ∷ end_perm
end_state (State.type_due k) = some_token kind.Long ∷ some_token kind.Name ∷ end_named k
end_state (State.param_named part list) = some_token kind.CloseParen ∷ end_perm
end_state (State.perm_due part list closing) = end_perm
end_state (State.listing o) = end_open o
end_state (State.after_then o word opening e closing a) = end_open o
end_state (State.local_named o ty name) = some_token kind.Semicolon ∷ end_open o
end_state (State.begun o name) = some_token kind.Dot ∷ some_token kind.Name ∷ some_token kind.Assign ∷ some_token kind.Number ∷ some_token kind.Semicolon ∷ end_open o
end_state (State.member_seen o name dot member) = some_token kind.Assign ∷ some_token kind.Number ∷ some_token kind.Semicolon ∷ end_open o
end_state (State.value_due a) = some_token kind.Number ∷ end_assigning a
end_state (State.value_named a name) = end_assigning a
end_state (State.value_member a name dot member) = end_assigning a
end_state (State.value_consumed a word name) = end_assigning a
end_state (State.paren_seen a opening) = some_token kind.Number ∷ some_token kind.CloseParen ∷ end_assigning a
end_state (State.new_seen a word) = some_token kind.Name ∷ some_token kind.OpenParen ∷ some_token kind.CloseParen ∷ end_assigning a
end_state (State.args_due c) = end_call_part c
end_state (State.arg_due k) = some_token kind.Number ∷ end_arg k
end_state (State.arg_taken k a) = end_arg k
end_state (State.operand ps k) = some_token kind.Number ∷ end_purpose k
end_state (State.after e ps k) = end_purpose k

-- the walk over these tokens ends behind a class
abbrev pub Ends : State → List Token → Type 0
Ends q ts = (c : Classes) × ((walk q ts).1 ≡ Some (State.between_classes c))

ends-class : (c : ClassPart) → Ends (State.in_class c) end_class
ends-class (ClassPart.class_part list word name opening so_far) = (_, refl)

end-no-else : (u : Outer) → NoElse (end_outer u)
end-no-else (Outer.body b) = λ e. cc
end-no-else (Outer.inside u c (Lead.then_lead word opening e closing) start) = λ e. cc
end-no-else (Outer.inside u c (Lead.else_lead word opening e closing a otherwise) start) = λ e. cc
end-no-else (Outer.inside u c (Lead.while_lead word opening e closing) start) = λ e. cc
end-no-else (Outer.inside u c (Lead.left_lead word) start) = λ e. cc
end-no-else (Outer.inside u c (Lead.right_lead word a) start) = λ e. cc
end-no-else (Outer.inside u c (Lead.recover_lead target equals word) start) = λ e. cc

ends-method : (b : BodyPart) (list : Stmts) (word : Token) (a : ArgTree) (end finish : Token) → Ends (end_method b list word a end finish) end_class
ends-method (BodyPart.body_part (MethodPart.method_part (ClassPart.class_part done class_word name opening so_far) ty method paren) ps closing p perm start) list word a end finish = (_, refl)

ends-body : (b : BodyPart) (list : Stmts) → Ends (State.listing (Open.at (Outer.body b) list)) (end_outer (Outer.body b))
ends-body b list = let r = ends-method b list (some_token kind.Return) (ArgTree.plain (ExprTree.number (some_token kind.Number))) (some_token kind.Semicolon) (some_token kind.CloseBrace) in (r.0, r.1)

ends-then : (u : Outer) (b : Stmts) (word opening : Token) (e : ExprTree) (closing : Token) (a : BlockTree) →
    ((c : Stmts) → Ends (State.listing (Open.at u c)) (end_outer u)) → Ends (State.after_then (Open.at u b) word opening e closing a) (end_outer u)
ends-then u b word opening e closing a more =
    let r = more (Stmts.more_stmts b (StmtTree.if_then word opening e closing a)) in
    (r.0, ap (λ (x : List ℕ × Option State). x.1) (then-ends u b word opening e closing a (end_outer u) (end-no-else u)).same ∙ r.1)

ends-outer : (u : Outer) (b : Stmts) → Ends (State.listing (Open.at u b)) (end_outer u)
ends-outer (Outer.body part) b = ends-body part b
ends-outer (Outer.inside u c (Lead.then_lead word opening e closing) start) b =
    let r = ends-then u c word opening e closing (BlockTree.block start b (some_token kind.CloseBrace)) (λ x. ends-outer u x) in (r.0, r.1)
ends-outer (Outer.inside u c (Lead.else_lead word opening e closing a otherwise) start) b = let r = ends-outer u (Stmts.more_stmts c (StmtTree.if_else word opening e closing a otherwise (BlockTree.block start b (some_token kind.CloseBrace)))) in (r.0, r.1)
ends-outer (Outer.inside u c (Lead.while_lead word opening e closing) start) b = ends-outer u (Stmts.more_stmts c (StmtTree.repeat word opening e closing (BlockTree.block start b (some_token kind.CloseBrace))))
ends-outer (Outer.inside u c (Lead.left_lead word) start) b = ends-outer u (Stmts.more_stmts c (StmtTree.par word (BlockTree.block start b (some_token kind.CloseBrace)) (BlockTree.block (some_token kind.OpenBrace) Stmts.no_stmts (some_token kind.CloseBrace))))
ends-outer (Outer.inside u c (Lead.right_lead word a) start) b = ends-outer u (Stmts.more_stmts c (StmtTree.par word a (BlockTree.block start b (some_token kind.CloseBrace))))
ends-outer (Outer.inside u c (Lead.recover_lead target equals word) start) b = ends-outer u (Stmts.more_stmts c (StmtTree.assign target equals (RhsTree.recover word start b (some_token kind.Give) (some_token kind.Name) (some_token kind.Semicolon) (some_token kind.CloseBrace)) (some_token kind.Semicolon)))

-- from behind an argument
ends-arg : (k : ArgFor) (a : ArgTree) → Ends (State.arg_taken k a) (end_arg k)
ends-arg (ArgFor.to_set (Open.at u b) name dot member equals) a = ends-outer u (Stmts.more_stmts b (StmtTree.set_field name dot member equals a (some_token kind.Semicolon)))
ends-arg (ArgFor.to_value (Assigning.assigning (Open.at u b) target equals)) a = ends-outer u (Stmts.more_stmts b (StmtTree.assign target equals (RhsTree.value a) (some_token kind.Semicolon)))
ends-arg (ArgFor.to_pass (CallPart.call_part (CallFor.to_stand (Open.at u b)) recv dot name opening) list) a = ends-outer u (Stmts.more_stmts b (StmtTree.run_call (CallTree.call recv dot name opening (Args.args (push_arg list a)) (some_token kind.CloseParen)) (some_token kind.Semicolon)))
ends-arg (ArgFor.to_pass (CallPart.call_part (CallFor.to_assign (Assigning.assigning (Open.at u b) target equals)) recv dot name opening) list) a = ends-outer u (Stmts.more_stmts b (StmtTree.assign target equals (RhsTree.called (CallTree.call recv dot name opening (Args.args (push_arg list a)) (some_token kind.CloseParen))) (some_token kind.Semicolon)))
ends-arg (ArgFor.to_return b list word) a = ends-method b list word a (some_token kind.Semicolon) (some_token kind.CloseBrace)

ends-args : (c : CallPart) → Ends (State.args_due c) (end_call_part c)
ends-args (CallPart.call_part (CallFor.to_stand (Open.at u b)) recv dot name opening) = ends-outer u (Stmts.more_stmts b (StmtTree.run_call (CallTree.call recv dot name opening Args.no_args (some_token kind.CloseParen)) (some_token kind.Semicolon)))
ends-args (CallPart.call_part (CallFor.to_assign (Assigning.assigning (Open.at u b) target equals)) recv dot name opening) = ends-outer u (Stmts.more_stmts b (StmtTree.assign target equals (RhsTree.called (CallTree.call recv dot name opening Args.no_args (some_token kind.CloseParen))) (some_token kind.Semicolon)))

-- from behind a plain argument
ends-plain : (k : ArgFor) (e : ExprTree) (ps : List Pending) → Ends (State.after e ps (Purpose.to_arg k)) (end_arg k)
ends-plain (ArgFor.to_set o name dot member equals) e ps = let r = reduce 6 e ps in ends-arg (ArgFor.to_set o name dot member equals) (ArgTree.plain r.0)
ends-plain (ArgFor.to_value (Assigning.assigning o target equals)) e ps = let r = reduce 6 e ps in ends-arg (ArgFor.to_value (Assigning.assigning o target equals)) (ArgTree.plain r.0)
ends-plain (ArgFor.to_pass (CallPart.call_part k recv dot name opening) list) e ps = let r = reduce 6 e ps in ends-arg (ArgFor.to_pass (CallPart.call_part k recv dot name opening) list) (ArgTree.plain r.0)
ends-plain (ArgFor.to_return b list word) e ps = let r = reduce 6 e ps in ends-arg (ArgFor.to_return b list word) (ArgTree.plain r.0)

-- from behind an expression
ends-purpose : (k : Purpose) (e : ExprTree) (ps : List Pending) → Ends (State.after e ps k) (end_purpose k)
ends-purpose (Purpose.inner qs k opening) e ps = let r = reduce 6 e ps in ends-purpose k (ExprTree.parens opening r.0 (some_token kind.CloseParen)) qs
ends-purpose (Purpose.to_arg k) e ps = ends-plain k e ps
ends-purpose (Purpose.to_print (Open.at u b) word) e ps = ends-outer u (Stmts.more_stmts b (StmtTree.print word (reduce 6 e ps).0 (some_token kind.Semicolon)))
ends-purpose (Purpose.to_if (Open.at u b) word opening) e ps =
    let r = reduce 6 e ps in
    ends-then u b word opening r.0 (some_token kind.CloseParen) (BlockTree.block (some_token kind.OpenBrace) Stmts.no_stmts (some_token kind.CloseBrace)) (λ c. ends-outer u c)
ends-purpose (Purpose.to_while (Open.at u b) word opening) e ps = ends-outer u (Stmts.more_stmts b (StmtTree.repeat word opening (reduce 6 e ps).0 (some_token kind.CloseParen) (BlockTree.block (some_token kind.OpenBrace) Stmts.no_stmts (some_token kind.CloseBrace))))
ends-purpose (Purpose.to_index (Open.at u b) name opening) e ps = ends-outer u (Stmts.more_stmts b (StmtTree.set_item name opening (reduce 6 e ps).0 (some_token kind.CloseBracket) (some_token kind.Assign) (ExprTree.number (some_token kind.Number)) (some_token kind.Semicolon)))
ends-purpose (Purpose.to_item (Open.at u b) name opening i closing equals) e ps = ends-outer u (Stmts.more_stmts b (StmtTree.set_item name opening i closing equals (reduce 6 e ps).0 (some_token kind.Semicolon)))
ends-purpose (Purpose.to_read (Assigning.assigning (Open.at u b) target equals) name opening) e ps = ends-outer u (Stmts.more_stmts b (StmtTree.assign target equals (RhsTree.item name opening (reduce 6 e ps).0 (some_token kind.CloseBracket)) (some_token kind.Semicolon)))
ends-purpose (Purpose.to_length (Assigning.assigning (Open.at u b) target equals) word long opening) e ps = ends-outer u (Stmts.more_stmts b (StmtTree.assign target equals (RhsTree.new_array word long opening (reduce 6 e ps).0 (some_token kind.CloseBracket)) (some_token kind.Semicolon)))

ends-perm : (part : MethodPart) (list : Params) (closing : Token) → Ends (State.perm_due part list closing) end_perm
ends-perm (MethodPart.method_part (ClassPart.class_part done class_word name opening so_far) ty method paren) list closing = (_, refl)

ends-named : (k : TypeFor) (ty : TypeTree) (name : Token) → Ends (after_named_type k ty name) (end_named k)
ends-named (TypeFor.to_member (ClassPart.class_part done class_word class_name opening so_far)) ty name = (_, refl)
ends-named (TypeFor.to_param part list) ty name = ends-perm part (Params.params (push_param list ty name)) (some_token kind.CloseParen)
ends-named (TypeFor.to_local (Open.at u b)) ty name = ends-outer u (Stmts.more_stmts b (StmtTree.declare ty name (some_token kind.Semicolon)))

ends-open : (o : Open) → Ends (State.listing o) (end_open o)
ends-open (Open.at u b) = ends-outer u b

pub ends : (q : State) → Ends q (end_state q)
ends (State.expects so_far d (Wanted.exactly k) next) = let r = ends (next (some_token k)) in (r.0, rw (true_same the_type k k refl) r.1)
ends (State.expects so_far d Wanted.a_variable next) = let r = ends (next (some_token kind.Name)) in (r.0, r.1)
ends (State.between_classes list) = (list, refl)
ends (State.in_class c) = ends-class c
ends (State.perm_seen k p t) = ends-named k (TypeTree.object_type p t (some_token kind.Name)) (some_token kind.Name)
ends (State.member_named c ty name) = ends-named (TypeFor.to_member c) ty name
ends (State.params_due part) = ends-perm part Params.no_params (some_token kind.CloseParen)
ends (State.type_due k) = ends-named k (TypeTree.long_type (some_token kind.Long)) (some_token kind.Name)
ends (State.param_named part list) = ends-perm part (Params.params list) (some_token kind.CloseParen)
ends (State.perm_due part list closing) = ends-perm part list closing
ends (State.listing o) = ends-open o
ends (State.after_then (Open.at u b) word opening e closing a) = ends-then u b word opening e closing a (λ c. ends-outer u c)
ends (State.local_named o ty name) = ends-named (TypeFor.to_local o) ty name
ends (State.begun o name) = ends-plain (ArgFor.to_set o name (some_token kind.Dot) (some_token kind.Name) (some_token kind.Assign)) (ExprTree.number (some_token kind.Number)) []
ends (State.member_seen o name dot member) = ends-plain (ArgFor.to_set o name dot member (some_token kind.Assign)) (ExprTree.number (some_token kind.Number)) []
ends (State.value_due a) = ends-plain (ArgFor.to_value a) (ExprTree.number (some_token kind.Number)) []
ends (State.value_named (Assigning.assigning (Open.at u b) target equals) name) = ends-outer u (Stmts.more_stmts b (StmtTree.assign target equals (RhsTree.value (ArgTree.plain (ExprTree.variable name))) (some_token kind.Semicolon)))
ends (State.value_member (Assigning.assigning (Open.at u b) target equals) name dot member) = ends-outer u (Stmts.more_stmts b (StmtTree.assign target equals (RhsTree.field name dot member) (some_token kind.Semicolon)))
ends (State.value_consumed (Assigning.assigning (Open.at u b) target equals) word name) = ends-outer u (Stmts.more_stmts b (StmtTree.assign target equals (RhsTree.value (ArgTree.consumed word name)) (some_token kind.Semicolon)))
ends (State.paren_seen (Assigning.assigning (Open.at u b) target equals) opening) = ends-outer u (Stmts.more_stmts b (StmtTree.assign target equals (RhsTree.value (ArgTree.plain (ExprTree.parens opening (ExprTree.number (some_token kind.Number)) (some_token kind.CloseParen)))) (some_token kind.Semicolon)))
ends (State.new_seen (Assigning.assigning (Open.at u b) target equals) word) = ends-outer u (Stmts.more_stmts b (StmtTree.assign target equals (RhsTree.new_object word (some_token kind.Name) (some_token kind.OpenParen) (some_token kind.CloseParen)) (some_token kind.Semicolon)))
ends (State.args_due c) = ends-args c
ends (State.arg_due k) = ends-plain k (ExprTree.number (some_token kind.Number)) []
ends (State.arg_taken k a) = ends-arg k a
ends (State.operand ps k) = ends-purpose k (ExprTree.number (some_token kind.Number)) ps
ends (State.after e ps k) = ends-purpose k e ps
