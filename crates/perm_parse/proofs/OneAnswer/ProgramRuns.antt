-- Reading what members, classes and programs spell.
use Rattle.std.proofs.Common.{◌≡◌, ℕ, List, ◌∷◌, Some, refl}
use Rattle.perm_tree.specs.declared.ast.Perm.{Perm}
use Rattle.perm_tree.specs.declared.ast.Perm.TheVariants as perm
use Rattle.perm_tree.specs.declared.tokens.Token.{Token}
use Rattle.perm_tree.specs.declared.tokens.TokenKind.{TokenKind}
use Rattle.perm_tree.specs.declared.tokens.TokenKind.TheVariants as kind
use Rattle.perm_parse.specs.Grammar.{ParamList, Params, MemberTree, Members, Classes, Is, IsParamList, AreParams, IsMember, AreMembers, IsProgram, perm_word, type_text, arg_text, param_list_text, params_text, member_text, members_text, program_text, BeginsType}
use Rattle.perm_parse.specs.Levels.{param_list_levels, params_levels, member_levels, members_levels, program_levels}
use Rattle.perm_parse.specs.States.{TypeFor, ArgFor, ClassPart, MethodPart, ParamsPart, BodyPart, Outer, State}
use Rattle.perm_parse.specs.Machine.{step_as, step_type, step_perm, opens_body}
use Rattle.perm_parse.proofs.OneAnswer.Runs.{Runs, stop, go, via}
use Rattle.perm_parse.proofs.OneAnswer.ArgumentRuns.{arg, type}
use Rattle.perm_parse.proofs.OneAnswer.StatementRuns.{stmts, no-else-at}

first-param : (part : MethodPart) (t : Token) (other : TokenKind) → BeginsType other → step_as (State.params_due part) t other ≡ step_type (TypeFor.to_param part ParamsPart.no_param_yet) t other
first-param part t kind.CloseParen h = absurd h
first-param part t _ h = refl

param_list : (part : MethodPart) (list : ParamList) (rest : List Token) → IsParamList list →
    Runs (State.params_due part) (param_list_text list rest) (param_list_levels 2 list) (State.param_named part list) rest
param_list part (ParamList.one_param ty name) rest h =
    type (State.params_due part) (TypeFor.to_param part ParamsPart.no_param_yet) (λ t o b. first-param part t o b) ty h.0 (go h.1 refl stop)
param_list part (ParamList.more_params list comma ty name) rest h =
    via (param_list part list (comma ∷ type_text ty (name ∷ rest)) h.list)
    (go h.comma refl (type (State.type_due (TypeFor.to_param part (ParamsPart.behind_param list comma))) (TypeFor.to_param part (ParamsPart.behind_param list comma)) (λ t o b. refl) ty h.ty (go h.name refl stop)))

-- the parameters of a method, with its parenthesis
params : (part : MethodPart) (list : Params) (closing : Token) → AreParams list → Is kind.CloseParen closing → {rest : List Token} {levels : List ℕ → List ℕ} {s : State} {last : List Token} →
    Runs (State.perm_due part list closing) rest levels s last → Runs (State.params_due part) (params_text list (closing ∷ rest)) (λ ls. params_levels 2 list (1 ∷ levels ls)) s last
params part Params.no_params closing h is next = go is refl next
params part (Params.params list) closing h is {rest} next = via (param_list part list (closing ∷ rest) h) (go is refl next)

perm-opens : (part : MethodPart) (list : Params) (closing : Token) (p : Perm) (t : Token) → step_perm part list closing t (perm_word p) ≡ Some (opens_body part list closing p t)
perm-opens part list closing perm.Isolated t = refl
perm-opens part list closing perm.Immutable t = refl
perm-opens part list closing perm.Readable t = refl
perm-opens part list closing perm.Writable t = refl

member-type : (c : ClassPart) (t : Token) (other : TokenKind) → BeginsType other → step_as (State.in_class c) t other ≡ step_type (TypeFor.to_member c) t other
member-type c t kind.CloseBrace h = absurd h
member-type c t _ h = refl

member : (list : Classes) (word name opening : Token) (members : Members) (x : MemberTree) (rest : List Token) → IsMember x →
    Runs (State.in_class (ClassPart.class_part list word name opening members)) (member_text x rest) (member_levels x) (State.in_class (ClassPart.class_part list word name opening (Members.more_members members x))) rest
member list word name opening members (MemberTree.field_member ty field end) rest h =
    let c = ClassPart.class_part list word name opening members in
    type (State.in_class c) (TypeFor.to_member c) (λ t o b. member-type c t o b) ty h.0 (go h.1 refl (go h.2 refl stop))
member list word name opening members (MemberTree.method ty method paren ps closing p perm start b back a end finish) rest h =
    let c = ClassPart.class_part list word name opening members in
    let part = MethodPart.method_part c ty method paren in
    let body = BodyPart.body_part part ps closing p perm start in
    type (State.in_class c) (TypeFor.to_member c) (λ t o b. member-type c t o b) ty h.ty (go h.name refl (go h.opening refl (params part ps closing h.params h.closing
    (go h.perm (perm-opens part ps closing p perm) (go h.start refl
    (via (stmts (Outer.body body) b (back ∷ arg_text a (end ∷ finish ∷ rest)) h.body (no-else-at back (arg_text a (end ∷ finish ∷ rest)) kind.Return (λ e. cc) h.word))
    (go h.word refl (arg (ArgFor.to_return body b back) a end h.back h.end refl refl (go h.finish refl stop)))))))))

members : (list : Classes) (word name opening : Token) (x : Members) (rest : List Token) → AreMembers x →
    Runs (State.in_class (ClassPart.class_part list word name opening Members.no_members)) (members_text x rest) (members_levels x) (State.in_class (ClassPart.class_part list word name opening x)) rest
members list word name opening Members.no_members rest h = stop
members list word name opening (Members.more_members x y) rest h = via (members list word name opening x (member_text y rest) h.0) (member list word name opening x y rest h.1)

-- a program, from the start
pub program : (x : Classes) (rest : List Token) → IsProgram x → Runs (State.between_classes Classes.no_classes) (program_text x rest) (program_levels x) (State.between_classes x) rest
program Classes.no_classes rest h = stop
program (Classes.more_classes x word name opening y closing) rest h =
    via (program x (word ∷ name ∷ opening ∷ members_text y (closing ∷ rest)) h.list)
    (go h.word refl (go h.name refl (go h.opening refl (via (members x word name opening y (closing ∷ rest) h.members) (go h.closing refl stop)))))
