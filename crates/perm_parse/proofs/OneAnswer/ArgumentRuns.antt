-- Reading an expression with the token behind it, types, arguments and calls.
use Rattle.std.proofs.Common.{◌≡◌, ℕ, List, [], ◌∷◌, Option, Some, None, refl, sym, ◌∙◌, ap, inl, inr}
use Rattle.perm_tree.specs.declared.ast.Perm.{Perm}
use Rattle.perm_tree.specs.declared.ast.Perm.TheVariants as perm
use Rattle.perm_tree.specs.declared.ast.UnaryOp.TheVariants as unary_op
use Rattle.perm_tree.specs.declared.tokens.Token.{Token}
use Rattle.perm_tree.specs.declared.tokens.TokenKind.{TokenKind}
use Rattle.perm_tree.specs.declared.tokens.TokenKind.TheVariants as kind
use Rattle.perm_parse.specs.Grammar.{TypeTree, ExprTree, ArgTree, ArgList, Args, Is, IsVar, IsType, IsExpr, IsArg, IsArgList, AreArgs, perm_word, type_text, expr_text, arg_text, arg_list_text, args_text, BeginsType}
use Rattle.perm_parse.specs.Levels.{type_levels, expr_levels, arg_levels, arg_list_levels, args_levels}
use Rattle.perm_parse.specs.States.{Purpose, TypeFor, ArgFor, ArgsPart, CallPart, State, level_state, level_purpose, level_type_for, level_arg_for, level_call_part}
use Rattle.perm_parse.specs.Machine.{step_as, step_type, finish, finish_arg, push_arg, close_call, after_type, walk, note_level, op_of}
use Rattle.perm_parse.proofs.OneAnswer.Runs.{Runs, go, moves, via}
use Rattle.perm_parse.proofs.OneAnswer.ExpressionRuns.{reads, closes}

-- an expression, and the token behind it
pub expr : (k : Purpose) (e : ExprTree) (c : Token) → IsExpr e → {wanted : TokenKind} {r : State} {rest : List Token} {levels : List ℕ → List ℕ} {s : State} {last : List Token} →
    Is wanted c → op_of wanted ≡ None → finish k e c wanted ≡ Some r → Runs r rest levels s last →
    Runs (State.operand [] k) (expr_text e (c ∷ rest)) (λ ls. expr_levels (level_purpose k) (level_purpose k) e (level_state r ∷ levels ls)) s last
expr k e c h {wanted} {r} {rest} is no_op f next =
    via (reads k e [] (c ∷ rest) h tt) (moves (closes k e c h (ap op_of is ∙ no_op) ∙ ap (λ (x : TokenKind). finish k e c x) is ∙ f) next)

-- a variable at a state that takes it
pub go_var : {q : State} {t : Token} {ts : List Token} {r : State} {levels : List ℕ → List ℕ} {s : State} {rest : List Token} →
    IsVar t → step_as q t kind.Name ≡ Some r → step_as q t kind.This ≡ Some r → Runs r ts levels s rest → Runs q (t ∷ ts) (λ ls. level_state r ∷ levels ls) s rest
go_var (inl is) name this next = go is name next
go_var (inr is) name this next = go is this next

-- ---- what begins an operand, or an argument

abbrev pub Begins : TokenKind → Type 0
Begins kind.Number = Unit {0}
Begins kind.True = Unit {0}
Begins kind.False = Unit {0}
Begins kind.Null = Unit {0}
Begins kind.Name = Unit {0}
Begins kind.This = Unit {0}
Begins kind.Minus = Unit {0}
Begins kind.Bang = Unit {0}
Begins kind.OpenParen = Unit {0}
Begins _ = ⊥

-- at a token of this kind two states do the same
pub same_at : (q r : State) (t : Token) (ts : List Token) (wanted : TokenKind) → Is wanted t → step_as q t wanted ≡ step_as r t wanted → walk q (t ∷ ts) ≡ walk r (t ∷ ts)
same_at q r t ts wanted is e =
    ap (λ (x : Option State). note_level x (λ z. walk z ts)) (ap (λ (x : TokenKind). step_as q t x) is ∙ e ∙ sym (ap (λ (x : TokenKind). step_as r t x) is))

-- where two states do the same at each token that begins an operand, they do the same at an expression
pub same_at-expr : (q r : State) → ((t : Token) (k : TokenKind) → Begins k → step_as q t k ≡ step_as r t k) → (e : ExprTree) → IsExpr e → (rest : List Token) → walk q (expr_text e rest) ≡ walk r (expr_text e rest)
same_at-expr q r same (ExprTree.number t) h rest = same_at q r t rest kind.Number h (same t kind.Number tt)
same_at-expr q r same (ExprTree.true_word t) h rest = same_at q r t rest kind.True h (same t kind.True tt)
same_at-expr q r same (ExprTree.false_word t) h rest = same_at q r t rest kind.False h (same t kind.False tt)
same_at-expr q r same (ExprTree.null_word t) h rest = same_at q r t rest kind.Null h (same t kind.Null tt)
same_at-expr q r same (ExprTree.variable t) (inl h) rest = same_at q r t rest kind.Name h (same t kind.Name tt)
same_at-expr q r same (ExprTree.variable t) (inr h) rest = same_at q r t rest kind.This h (same t kind.This tt)
same_at-expr q r same (ExprTree.parens opening e closing) h rest = same_at q r opening (expr_text e (closing ∷ rest)) kind.OpenParen h.0 (same opening kind.OpenParen tt)
same_at-expr q r same (ExprTree.unary unary_op.Minus t e) h rest = same_at q r t (expr_text e rest) kind.Minus h.0 (same t kind.Minus tt)
same_at-expr q r same (ExprTree.unary unary_op.Not t e) h rest = same_at q r t (expr_text e rest) kind.Bang h.0 (same t kind.Bang tt)
same_at-expr q r same (ExprTree.binary o a t b) h rest = same_at-expr q r same a h.left (t ∷ expr_text b rest)

pub same_at-arg : (q r : State) → ((t : Token) (k : TokenKind) → Begins k → step_as q t k ≡ step_as r t k) → ((t : Token) → step_as q t kind.Consume ≡ step_as r t kind.Consume) →
    (a : ArgTree) → IsArg a → (rest : List Token) → walk q (arg_text a rest) ≡ walk r (arg_text a rest)
same_at-arg q r same consume (ArgTree.plain e) h rest = same_at-expr q r same e h rest
same_at-arg q r same consume (ArgTree.consumed word name) h rest = same_at q r word (name ∷ rest) kind.Consume h.0 (consume word)

-- a run from a state that does the same
pub from_same : {q : State} {ts : List Token} {levels : List ℕ → List ℕ} {r : State} {rest : List Token} → (p : State) → walk p ts ≡ walk q ts → Runs q ts levels r rest → Runs p ts levels r rest
from_same p e h = record { same = e ∙ h.same }

arg-as-operand : (k : ArgFor) (t : Token) (other : TokenKind) → Begins other → step_as (State.arg_due k) t other ≡ step_as (State.operand [] (Purpose.to_arg k)) t other
arg-as-operand k t kind.Consume h = absurd h
arg-as-operand k t _ h = refl

-- an argument, and the token behind it
pub arg : (k : ArgFor) (a : ArgTree) (c : Token) → IsArg a → {wanted : TokenKind} {r : State} {rest : List Token} {levels : List ℕ → List ℕ} {s : State} {last : List Token} →
    Is wanted c → op_of wanted ≡ None → finish_arg k a c wanted ≡ Some r → Runs r rest levels s last →
    Runs (State.arg_due k) (arg_text a (c ∷ rest)) (λ ls. arg_levels (level_arg_for k) a (level_state r ∷ levels ls)) s last
arg k (ArgTree.plain e) c h {wanted} {r} {rest} is no_op f next =
    from_same (State.arg_due k) (same_at-expr (State.arg_due k) (State.operand [] (Purpose.to_arg k)) (λ t o b. arg-as-operand k t o b) e h (c ∷ rest)) (expr (Purpose.to_arg k) e c h is no_op f next)
arg k (ArgTree.consumed word name) c h is no_op f next = go h.0 refl (go_var h.1 refl refl (go is f next))

first-arg : (c : CallPart) (t : Token) (other : TokenKind) → Begins other → step_as (State.args_due c) t other ≡ step_as (State.arg_due (ArgFor.to_pass c ArgsPart.no_arg_yet)) t other
first-arg c t kind.CloseParen h = absurd h
first-arg c t _ h = refl

-- arguments, and the token behind them
pub arg_list : (c : CallPart) (list : ArgList) (t : Token) → IsArgList list → {wanted : TokenKind} {r : State} {rest : List Token} {levels : List ℕ → List ℕ} {s : State} {last : List Token} →
    Is wanted t → op_of wanted ≡ None → ((part : ArgsPart) (a : ArgTree) → push_arg part a ≡ list → finish_arg (ArgFor.to_pass c part) a t wanted ≡ Some r) → Runs r rest levels s last →
    Runs (State.args_due c) (arg_list_text list (t ∷ rest)) (λ ls. arg_list_levels (level_call_part c) list (level_state r ∷ levels ls)) s last
arg_list c (ArgList.one_arg a) t h {wanted} {r} {rest} is no_op f next =
    from_same (State.args_due c) (same_at-arg (State.args_due c) (State.arg_due (ArgFor.to_pass c ArgsPart.no_arg_yet)) (λ t o b. first-arg c t o b) (λ t. refl) a h (t ∷ rest))
    (arg (ArgFor.to_pass c ArgsPart.no_arg_yet) a t h is no_op (f ArgsPart.no_arg_yet a refl) next)
arg_list c (ArgList.more_args list comma a) t h is no_op f next =
    arg_list c list comma h.0 h.1 refl (λ part x e. ap (λ (l : ArgList). Some (State.arg_due (ArgFor.to_pass c (ArgsPart.behind_arg l comma)))) e)
    (arg (ArgFor.to_pass c (ArgsPart.behind_arg list comma)) a t h.2 is no_op (f (ArgsPart.behind_arg list comma) a refl) next)

-- the arguments of a call, with its parenthesis
pub args : (c : CallPart) (list : Args) (closing : Token) → AreArgs list → {rest : List Token} {levels : List ℕ → List ℕ} {s : State} {last : List Token} →
    Is kind.CloseParen closing → Runs (close_call c list closing) rest levels s last →
    Runs (State.args_due c) (args_text list (closing ∷ rest)) (λ ls. args_levels (level_call_part c) list (level_state (close_call c list closing) ∷ levels ls)) s last
args c Args.no_args closing h is next = go is refl next
args c (Args.args list) closing h is next = arg_list c list closing h is refl (λ part a e. ap (λ (l : ArgList). Some (close_call c (Args.args l) closing)) e) next

-- ---- types

begins-perm : (p : Perm) → BeginsType (perm_word p)
begins-perm perm.Isolated = tt
begins-perm perm.Immutable = tt
begins-perm perm.Readable = tt
begins-perm perm.Writable = tt

perm-seen : (k : TypeFor) (p : Perm) (t : Token) → step_type k t (perm_word p) ≡ Some (State.perm_seen k p t)
perm-seen k perm.Isolated t = refl
perm-seen k perm.Immutable t = refl
perm-seen k perm.Readable t = refl
perm-seen k perm.Writable t = refl

-- a type, at a state that reads one
pub type : (q : State) (k : TypeFor) → ((t : Token) (other : TokenKind) → BeginsType other → step_as q t other ≡ step_type k t other) → (ty : TypeTree) → IsType ty → {rest : List Token} {levels : List ℕ → List ℕ} {s : State} {last : List Token} →
    Runs (after_type k ty) rest levels s last → Runs q (type_text ty rest) (λ ls. type_levels (level_type_for k) ty (levels ls)) s last
type q k same (TypeTree.long_type t) h next = go h (same t kind.Long tt) next
type q k same (TypeTree.bool_type t) h next = go h (same t kind.Bool tt) next
type q k same (TypeTree.object_type p word name) h next = go h.0 (same word (perm_word p) (begins-perm p) ∙ perm-seen k p word) (go h.1 refl next)
type q k same (TypeTree.array_type p word long opening closing) h next =
    go h.perm (same word (perm_word p) (begins-perm p) ∙ perm-seen k p word) (go h.word refl (go h.opening refl (go h.closing refl next)))
