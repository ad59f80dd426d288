-- What stands behind a tree is the end of the tokens.
use Rattle.std.proofs.Common.{◌≡◌, ℕ, ◌+◌, ◌<◌, List, [], ◌∷◌, length, arith, subst, sym}
use Rattle.perm_tree.specs.declared.tokens.Token.{Token}
use Rattle.perm_lex.specs.Lexes.{Piece, piece_text, ArePieces, tokens_from, Lexes}
use Rattle.perm_lex.specs.Lexes.Piece.{blank, line_comment, block_comment, token}
use Rattle.perm_lex.proofs.Unique.{token_some}
use Rattle.perm_parse.specs.Grammar.{TypeTree, ExprTree, ArgTree, ArgList, Args, RecvTree, CallTree, TargetTree, RhsTree, BlockTree, StmtTree, Stmts, ParamList, Params, MemberTree, Members, Classes}
use Rattle.perm_parse.specs.Grammar.{type_text, expr_text, arg_text, arg_list_text, args_text, recv_text, call_text, target_text, rhs_text, block_text, stmt_text, stmts_text, param_list_text, params_text, member_text, members_text, program_text}

-- a token begins behind this place, and so do all of them
abbrev pub AllBehind : ℕ → List Token → Type 0
AllBehind n [] = Unit {0}
AllBehind n (t ∷ ts) = (n < t.span.start) × AllBehind n ts

-- each token begins behind the start of those before it
abbrev pub IsAscending : List Token → Type 0
IsAscending [] = Unit {0}
IsAscending (t ∷ ts) = AllBehind t.span.start ts × IsAscending ts

-- what holds of tokens that ascend behind a place holds of those at their end
pub record Trails (us vs : List Token) : Type 0 where
  pub behind : (n : ℕ) → AllBehind n vs → AllBehind n us
  pub ascending : IsAscending vs → IsAscending us

pub here : {us : List Token} → Trails us us
here = record { behind = λ n h. h; ascending = λ h. h }

pub skip : {t : Token} {us vs : List Token} → Trails us vs → Trails us (t ∷ vs)
skip r = record { behind = λ n h. r.behind n h.1; ascending = λ h. r.ascending h.1 }

pub after : {us vs ws : List Token} → Trails vs ws → Trails us vs → Trails us ws
after q r = record { behind = λ n h. r.behind n (q.behind n h); ascending = λ h. r.ascending (q.ascending h) }

pub type-trails : (a : TypeTree) (us : List Token) → Trails us (type_text a us)
type-trails (TypeTree.long_type t) us = skip here
type-trails (TypeTree.bool_type t) us = skip here
type-trails (TypeTree.object_type p perm name) us = skip (skip here)
type-trails (TypeTree.array_type p perm word opening closing) us = skip (skip (skip (skip here)))

expr-trails : (a : ExprTree) (us : List Token) → Trails us (expr_text a us)
expr-trails (ExprTree.number t) us = skip here
expr-trails (ExprTree.true_word t) us = skip here
expr-trails (ExprTree.false_word t) us = skip here
expr-trails (ExprTree.null_word t) us = skip here
expr-trails (ExprTree.variable t) us = skip here
expr-trails (ExprTree.parens opening e closing) us = skip (after (expr-trails e _) (skip here))
expr-trails (ExprTree.unary o t e) us = skip (expr-trails e us)
expr-trails (ExprTree.binary o a t b) us = after (expr-trails a _) (skip (expr-trails b us))

pub arg-trails : (a : ArgTree) (us : List Token) → Trails us (arg_text a us)
arg-trails (ArgTree.plain e) us = expr-trails e us
arg-trails (ArgTree.consumed word name) us = skip (skip here)

arg_list-trails : (a : ArgList) (us : List Token) → Trails us (arg_list_text a us)
arg_list-trails (ArgList.one_arg a) us = arg-trails a us
arg_list-trails (ArgList.more_args list comma a) us = after (arg_list-trails list _) (skip (arg-trails a us))

args-trails : (a : Args) (us : List Token) → Trails us (args_text a us)
args-trails Args.no_args us = here
args-trails (Args.args list) us = arg_list-trails list us

recv-trails : (a : RecvTree) (us : List Token) → Trails us (recv_text a us)
recv-trails (RecvTree.lent name) us = skip here
recv-trails (RecvTree.given opening word name closing) us = skip (skip (skip (skip here)))

call-trails : (a : CallTree) (us : List Token) → Trails us (call_text a us)
call-trails (CallTree.call recv dot name opening list closing) us = after (recv-trails recv _) (skip (skip (skip (after (args-trails list _) (skip here)))))

target-trails : (a : TargetTree) (us : List Token) → Trails us (target_text a us)
target-trails (TargetTree.known name) us = skip here
target-trails (TargetTree.declared ty name) us = after (type-trails ty _) (skip here)

mutual
  rhs-trails : (a : RhsTree) (us : List Token) → Trails us (rhs_text a us)
  rhs-trails (RhsTree.value a) us = arg-trails a us
  rhs-trails (RhsTree.field name dot member) us = skip (skip (skip here))
  rhs-trails (RhsTree.take_field word name dot member) us = skip (skip (skip (skip here)))
  rhs-trails (RhsTree.item name opening e closing) us = skip (skip (after (expr-trails e _) (skip here)))
  rhs-trails (RhsTree.new_object word name opening closing) us = skip (skip (skip (skip here)))
  rhs-trails (RhsTree.new_array word long opening e closing) us = skip (skip (skip (after (expr-trails e _) (skip here))))
  rhs-trails (RhsTree.called c) us = call-trails c us
  rhs-trails (RhsTree.recover word opening b give name end closing) us = skip (skip (after (stmts-trails b _) (skip (skip (skip (skip here))))))

  block-trails : (a : BlockTree) (us : List Token) → Trails us (block_text a us)
  block-trails (BlockTree.block opening b closing) us = skip (after (stmts-trails b _) (skip here))

  stmt-trails : (a : StmtTree) (us : List Token) → Trails us (stmt_text a us)
  stmt-trails (StmtTree.declare ty name end) us = after (type-trails ty _) (skip (skip here))
  stmt-trails (StmtTree.assign target equals r end) us = after (target-trails target _) (skip (after (rhs-trails r _) (skip here)))
  stmt-trails (StmtTree.set_field name dot member equals a end) us = skip (skip (skip (skip (after (arg-trails a _) (skip here)))))
  stmt-trails (StmtTree.set_item name opening i closing equals e end) us = skip (skip (after (expr-trails i _) (skip (skip (after (expr-trails e _) (skip here))))))
  stmt-trails (StmtTree.run_call c end) us = after (call-trails c _) (skip here)
  stmt-trails (StmtTree.print word e end) us = skip (after (expr-trails e _) (skip here))
  stmt-trails (StmtTree.if_then word opening e closing a) us = skip (skip (after (expr-trails e _) (skip (block-trails a us))))
  stmt-trails (StmtTree.if_else word opening e closing a otherwise b) us = skip (skip (after (expr-trails e _) (skip (after (block-trails a _) (skip (block-trails b us))))))
  stmt-trails (StmtTree.repeat word opening e closing a) us = skip (skip (after (expr-trails e _) (skip (block-trails a us))))
  stmt-trails (StmtTree.par word a b) us = skip (after (block-trails a _) (block-trails b us))

  pub stmts-trails : (a : Stmts) (us : List Token) → Trails us (stmts_text a us)
  stmts-trails Stmts.no_stmts us = here
  stmts-trails (Stmts.more_stmts b x) us = after (stmts-trails b _) (stmt-trails x us)

param_list-trails : (a : ParamList) (us : List Token) → Trails us (param_list_text a us)
param_list-trails (ParamList.one_param ty name) us = after (type-trails ty _) (skip here)
param_list-trails (ParamList.more_params list comma ty name) us = after (param_list-trails list _) (skip (after (type-trails ty _) (skip here)))

params-trails : (a : Params) (us : List Token) → Trails us (params_text a us)
params-trails Params.no_params us = here
params-trails (Params.params list) us = param_list-trails list us

-- the name of a member
abbrev pub member_name : MemberTree → Token
member_name (MemberTree.field_member ty name end) = name
member_name (MemberTree.method ty name opening list closing p perm start b word a end finish) = name

-- the tokens of a member from its name on
abbrev pub from_name : MemberTree → List Token → List Token
from_name (MemberTree.field_member ty name end) us = end ∷ us
from_name (MemberTree.method ty name opening list closing p perm start b word a end finish) us =
    opening ∷ params_text list (closing ∷ perm ∷ start ∷ stmts_text b (word ∷ arg_text a (end ∷ finish ∷ us)))

pub name-trails : (x : MemberTree) (us : List Token) → Trails (member_name x ∷ from_name x us) (member_text x us)
name-trails (MemberTree.field_member ty name end) us = type-trails ty _
name-trails (MemberTree.method ty name opening list closing p perm start b word a end finish) us = type-trails ty _

pub from-trails : (x : MemberTree) (us : List Token) → Trails us (from_name x us)
from-trails (MemberTree.field_member ty name end) us = skip here
from-trails (MemberTree.method ty name opening list closing p perm start b word a end finish) us =
    skip (after (params-trails list _) (skip (skip (skip (after (stmts-trails b _) (skip (after (arg-trails a _) (skip (skip here)))))))))

pub members-trails : (a : Members) (us : List Token) → Trails us (members_text a us)
members-trails Members.no_members us = here
members-trails (Members.more_members list x) us = after (members-trails list _) (after (name-trails x us) (skip (from-trails x us)))

pub program-trails : (a : Classes) (us : List Token) → Trails us (program_text a us)
program-trails Classes.no_classes us = here
program-trails (Classes.more_classes list word name opening members closing) us = after (program-trails list _) (skip (skip (skip (after (members-trails members _) (skip here)))))

-- ---- the tokens of a text ascend

some-length : (bytes : List ℕ) → (bytes ≡ [] → ⊥) → 0 < length bytes
some-length [] h = absurd (h (λ i. []))
some-length (b ∷ bs) h = omega arith

from-behind : (n : ℕ) (ps : List Piece) (at : ℕ) → n < at → AllBehind n (tokens_from at ps)
from-behind n [] at l = tt
from-behind n (blank b ∷ ps) at l = from-behind n ps (at + length (piece_text (blank b))) (omega arith)
from-behind n (line_comment inside ∷ ps) at l = from-behind n ps (at + length (piece_text (line_comment inside))) (omega arith)
from-behind n (block_comment inside ∷ ps) at l = from-behind n ps (at + length (piece_text (block_comment inside))) (omega arith)
from-behind n (token k bytes ∷ ps) at l = (l, from-behind n ps (at + length bytes) (omega arith))

from-ascends : (ps : List Piece) (at : ℕ) → ArePieces ps [] → IsAscending (tokens_from at ps)
from-ascends [] at h = tt
from-ascends (blank b ∷ ps) at h = from-ascends ps (at + length (piece_text (blank b))) h.1
from-ascends (line_comment inside ∷ ps) at h = from-ascends ps (at + length (piece_text (line_comment inside))) h.1
from-ascends (block_comment inside ∷ ps) at h = from-ascends ps (at + length (piece_text (block_comment inside))) h.1
from-ascends (token k bytes ∷ ps) at h =
    let long = some-length bytes (token_some k bytes h.0.0) in
    (from-behind at ps (at + length bytes) (omega arith), from-ascends ps (at + length bytes) h.1)

pub lexes-ascends : (text : List ℕ) (tokens : List Token) → Lexes text tokens → IsAscending tokens
lexes-ascends text tokens (ps, b, e) = subst IsAscending (sym e) (from-ascends ps 0 b.each)
