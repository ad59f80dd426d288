-- The tokens of a tree without its redundant parentheses are tokens of the tree, or parentheses.
use Rattle.std.proofs.Common.{◌≡◌, ℕ, ◌≤◌, List, [], ◌∷◌, Bool as Boolean, true, false, ltb, leb}
use Rattle.std.specs.Prelude.{slice_range}
use Rattle.perm_tree.specs.declared.tokens.Token.{Token}
use Rattle.perm_tree.specs.declared.tokens.TokenKind.TheVariants as kind
use Rattle.perm_lex.specs.Tokens.{IsToken, largest}
use Rattle.perm_parse.specs.Grammar.{ExprTree, ArgTree, ArgList, Args, CallTree, RhsTree, BlockTree, StmtTree, Stmts, MemberTree, Members, Classes}
use Rattle.perm_parse.specs.Grammar.{TypeTree, type_text, RecvTree, recv_text, TargetTree, target_text, ParamList, param_list_text, Params, params_text}
use Rattle.perm_parse.specs.Grammar.{expr_text, arg_text, arg_list_text, args_text, call_text, rhs_text, block_text, stmt_text, stmts_text, member_text, members_text, program_text, looseness, level}
use Rattle.perm_parse.proofs.OneAnswer.Completion.{some_token}
use Rattle.perm_parse.proofs.RoundTrip.CanonicalTrees.{bare, enclose}
use Rattle.perm_parse.proofs.RoundTrip.BareTrees.{bare_arg, bare_arg_list, bare_args, bare_call, bare_rhs, bare_block, bare_stmt, bare_stmts, bare_member, bare_members, bare_classes}

-- in this text the bytes of a name are one, and a number isn't too large
pub record IsWritten (text : List ℕ) (t : Token) : Type 0 where
  pub name : t.kind ≡ kind.Name → IsToken kind.Name (slice_range text t.span.start t.span.end)
  pub number : t.kind ≡ kind.Number → t.value ≤ largest

abbrev pub AreWritten : List ℕ → List Token → Type 0
AreWritten text [] = Unit {0}
AreWritten text (t ∷ ts) = IsWritten text t × AreWritten text ts

-- where the first tokens are written, so are the others
record Kept (text : List ℕ) (rest others : List Token) : Type 0 where
  pub keeps : AreWritten text rest → AreWritten text others

one : {text : List ℕ} {t : Token} {rest others : List Token} → Kept text rest others → Kept text (t ∷ rest) (t ∷ others)
one more = record { keeps = λ h. (h.0, more.keeps h.1) }

type-kept : (text : List ℕ) (t : TypeTree) (rest others : List Token) → Kept text rest others → Kept text (type_text t rest) (type_text t others)
type-kept text (TypeTree.long_type t) rest others more = one more
type-kept text (TypeTree.bool_type t) rest others more = one more
type-kept text (TypeTree.object_type p perm name) rest others more = one (one more)
type-kept text (TypeTree.array_type p perm word opening closing) rest others more = one (one (one (one more)))

-- parentheses are written
paren-written : (text : List ℕ) → IsWritten text (some_token kind.OpenParen) × IsWritten text (some_token kind.CloseParen)
paren-written text = (record { name = λ e. absurd (cc); number = λ e. absurd (cc) }, record { name = λ e. absurd (cc); number = λ e. absurd (cc) })

-- an operand's tokens, where those of the tree in it are kept
enclose-kept : (text : List ℕ) (b : Boolean) (e : ExprTree) → ((rest others : List Token) → Kept text rest others → Kept text (expr_text e rest) (expr_text (bare e) others)) →
    (rest others : List Token) → Kept text rest others → Kept text (expr_text e rest) (expr_text (enclose b (bare e)) others)
enclose-kept text true e inside rest others more =
    let p = paren-written text in
    let inner = inside rest (some_token kind.CloseParen ∷ others) (record { keeps = λ h. (p.1, more.keeps h) }) in
    record { keeps = λ h. (p.0, inner.keeps h) }
enclose-kept text false e inside rest others more = inside rest others more

expr-kept : (text : List ℕ) (e : ExprTree) (rest others : List Token) → Kept text rest others → Kept text (expr_text e rest) (expr_text (bare e) others)
expr-kept text (ExprTree.number t) rest others more = one more
expr-kept text (ExprTree.true_word t) rest others more = one more
expr-kept text (ExprTree.false_word t) rest others more = one more
expr-kept text (ExprTree.null_word t) rest others more = one more
expr-kept text (ExprTree.variable t) rest others more = one more
expr-kept text (ExprTree.parens opening e closing) rest others more =
    let inner : Kept text (expr_text e (closing ∷ rest)) (expr_text (bare e) others) = expr-kept text e (closing ∷ rest) others (record { keeps = λ h. more.keeps h.1 }) in
    record { keeps = λ h. inner.keeps h.1 }
expr-kept text (ExprTree.unary o t e) rest others more = one (enclose-kept text (ltb 0 (looseness (bare e))) e (λ r s k. expr-kept text e r s k) rest others more)
expr-kept text (ExprTree.binary o a t b) rest others more =
    enclose-kept text (ltb (level o) (looseness (bare a))) a (λ r s k. expr-kept text a r s k) _ _
    (one (enclose-kept text (leb (level o) (looseness (bare b))) b (λ r s k. expr-kept text b r s k) rest others more))

arg-kept : (text : List ℕ) (a : ArgTree) (rest others : List Token) → Kept text rest others → Kept text (arg_text a rest) (arg_text (bare_arg a) others)
arg-kept text (ArgTree.plain e) rest others more = expr-kept text e _ _ more
arg-kept text (ArgTree.consumed word name) rest others more = one (one more)

arg_list-kept : (text : List ℕ) (list : ArgList) (rest others : List Token) → Kept text rest others → Kept text (arg_list_text list rest) (arg_list_text (bare_arg_list list) others)
arg_list-kept text (ArgList.one_arg a) rest others more = arg-kept text a _ _ more
arg_list-kept text (ArgList.more_args list comma a) rest others more =
    arg_list-kept text list _ _ (one (arg-kept text a _ _ more))

args-kept : (text : List ℕ) (list : Args) (rest others : List Token) → Kept text rest others → Kept text (args_text list rest) (args_text (bare_args list) others)
args-kept text Args.no_args rest others more = more
args-kept text (Args.args list) rest others more = arg_list-kept text list _ _ more

recv-kept : (text : List ℕ) (r : RecvTree) (rest others : List Token) → Kept text rest others → Kept text (recv_text r rest) (recv_text r others)
recv-kept text (RecvTree.lent name) rest others more = one more
recv-kept text (RecvTree.given opening word name closing) rest others more = one (one (one (one more)))

call-kept : (text : List ℕ) (c : CallTree) (rest others : List Token) → Kept text rest others → Kept text (call_text c rest) (call_text (bare_call c) others)
call-kept text (CallTree.call recv dot name opening list closing) rest others more =
    recv-kept text recv _ _ (one (one (one (args-kept text list _ _ (one more)))))

target-kept : (text : List ℕ) (t : TargetTree) (rest others : List Token) → Kept text rest others → Kept text (target_text t rest) (target_text t others)
target-kept text (TargetTree.known name) rest others more = one more
target-kept text (TargetTree.declared ty name) rest others more = type-kept text ty _ _ (one more)

mutual
  rhs-kept : (text : List ℕ) (r : RhsTree) (rest others : List Token) → Kept text rest others → Kept text (rhs_text r rest) (rhs_text (bare_rhs r) others)
  rhs-kept text (RhsTree.value a) rest others more = arg-kept text a _ _ more
  rhs-kept text (RhsTree.field name dot member) rest others more = one (one (one more))
  rhs-kept text (RhsTree.take_field word name dot member) rest others more = one (one (one (one more)))
  rhs-kept text (RhsTree.item name opening e closing) rest others more = one (one (expr-kept text e _ _ (one more)))
  rhs-kept text (RhsTree.new_object word name opening closing) rest others more = one (one (one (one more)))
  rhs-kept text (RhsTree.new_array word long opening e closing) rest others more = one (one (one (expr-kept text e _ _ (one more))))
  rhs-kept text (RhsTree.called c) rest others more = call-kept text c _ _ more
  rhs-kept text (RhsTree.recover word opening b give name end closing) rest others more =
      one (one (stmts-kept text b _ _ (one (one (one (one more))))))

  block-kept : (text : List ℕ) (a : BlockTree) (rest others : List Token) → Kept text rest others → Kept text (block_text a rest) (block_text (bare_block a) others)
  block-kept text (BlockTree.block opening b closing) rest others more = one (stmts-kept text b _ _ (one more))

  stmt-kept : (text : List ℕ) (x : StmtTree) (rest others : List Token) → Kept text rest others → Kept text (stmt_text x rest) (stmt_text (bare_stmt x) others)
  stmt-kept text (StmtTree.declare ty name end) rest others more = type-kept text ty _ _ (one (one more))
  stmt-kept text (StmtTree.assign target equals r end) rest others more =
      target-kept text target _ _ (one (rhs-kept text r _ _ (one more)))
  stmt-kept text (StmtTree.set_field name dot member equals a end) rest others more = one (one (one (one (arg-kept text a _ _ (one more)))))
  stmt-kept text (StmtTree.set_item name opening i closing equals e end) rest others more =
      one (one (expr-kept text i _ _ (one (one (expr-kept text e _ _ (one more))))))
  stmt-kept text (StmtTree.run_call c end) rest others more = call-kept text c _ _ (one more)
  stmt-kept text (StmtTree.print word e end) rest others more = one (expr-kept text e _ _ (one more))
  stmt-kept text (StmtTree.if_then word opening e closing a) rest others more =
      one (one (expr-kept text e _ _ (one (block-kept text a _ _ more))))
  stmt-kept text (StmtTree.if_else word opening e closing a otherwise b) rest others more =
      one (one (expr-kept text e _ _ (one (block-kept text a _ _ (one (block-kept text b _ _ more))))))
  stmt-kept text (StmtTree.repeat word opening e closing a) rest others more =
      one (one (expr-kept text e _ _ (one (block-kept text a _ _ more))))
  stmt-kept text (StmtTree.par word a b) rest others more = one (block-kept text a _ _ (block-kept text b _ _ more))

  stmts-kept : (text : List ℕ) (b : Stmts) (rest others : List Token) → Kept text rest others → Kept text (stmts_text b rest) (stmts_text (bare_stmts b) others)
  stmts-kept text Stmts.no_stmts rest others more = more
  stmts-kept text (Stmts.more_stmts b x) rest others more = stmts-kept text b _ _ (stmt-kept text x _ _ more)

param_list-kept : (text : List ℕ) (list : ParamList) (rest others : List Token) → Kept text rest others → Kept text (param_list_text list rest) (param_list_text list others)
param_list-kept text (ParamList.one_param ty name) rest others more = type-kept text ty _ _ (one more)
param_list-kept text (ParamList.more_params list comma ty name) rest others more = param_list-kept text list _ _ (one (type-kept text ty _ _ (one more)))

params-kept : (text : List ℕ) (list : Params) (rest others : List Token) → Kept text rest others → Kept text (params_text list rest) (params_text list others)
params-kept text Params.no_params rest others more = more
params-kept text (Params.params list) rest others more = param_list-kept text list _ _ more

member-kept : (text : List ℕ) (x : MemberTree) (rest others : List Token) → Kept text rest others → Kept text (member_text x rest) (member_text (bare_member x) others)
member-kept text (MemberTree.field_member ty name end) rest others more = type-kept text ty _ _ (one (one more))
member-kept text (MemberTree.method ty name opening list closing p perm start b word a end finish) rest others more =
    type-kept text ty _ _ (one (one (params-kept text list _ _ (one (one (one
    (stmts-kept text b _ _ (one (arg-kept text a _ _ (one (one more)))))))))))

members-kept : (text : List ℕ) (list : Members) (rest others : List Token) → Kept text rest others → Kept text (members_text list rest) (members_text (bare_members list) others)
members-kept text Members.no_members rest others more = more
members-kept text (Members.more_members list x) rest others more = members-kept text list _ _ (member-kept text x _ _ more)

classes-kept : (text : List ℕ) (list : Classes) (rest others : List Token) → Kept text rest others → Kept text (program_text list rest) (program_text (bare_classes list) others)
classes-kept text Classes.no_classes rest others more = more
classes-kept text (Classes.more_classes list word name opening members closing) rest others more =
    classes-kept text list _ _ (one (one (one (members-kept text members _ _ (one more)))))

pub bare_classes-written : (text : List ℕ) (list : Classes) → AreWritten text (program_text list []) → AreWritten text (program_text (bare_classes list) [])
bare_classes-written text list h = (classes-kept text list [] [] (record { keeps = λ k. k })).keeps h
