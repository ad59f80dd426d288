-- The arms of the descent through arguments: what each does to the reading that is left.
use Rattle.std.proofs.Common.{◌≡◌, ℕ, ◌<◌, ◌≤◌, List, [], ◌∷◌, ◌++◌, Option, Some, None, Ok, Err, refl, ap, ◌∙◌, subst, arith}
use Rattle.perm_tree.specs.Places.{ArgPlaced, ArgsPlaced}
use Rattle.perm_tree.specs.declared.ast.Arg.{Arg}
use Rattle.perm_tree.specs.declared.ast.Arg.TheVariants as argument
use Rattle.perm_tree.specs.declared.ast.Ident.{Ident}
use Rattle.perm_tree.specs.declared.errors.ParseError.{ParseError}
use Rattle.perm_tree.specs.declared.tokens.Token.{Token}
use Rattle.perm_tree.specs.declared.tokens.TokenKind.{TokenKind}
use Rattle.perm_tree.specs.declared.tokens.TokenKind.TheVariants as kind
use Rattle.perm_parse.specs.declared.parser.Parser.{Parser}
use Rattle.perm_parse.specs.Grammar.{ExprTree, ArgTree, Args}
use Rattle.perm_parse.specs.States.{State, Purpose, ArgFor, ArgsPart, CallPart, arg_for_text, level_arg_for, level_call_part, level_state}
use Rattle.perm_parse.specs.Machine.{step_arg, step_args, step_operand, finish_arg, behind, push_arg, close_call, op_of}
use Rattle.perm_parse.specs.ParserResults.{IsNotNext, TakesToken, TakesVar, NamesVar, Leads, NoOp, IsClosed, ReadsExpr, ArgRead, ReadsArg, ArgsPartRead, ArgsRead, ReadsArgs}
use Rattle.perm_parse.proofs.OneAnswer.ExpressionRuns.{level-most}
use Rattle.perm_parse.proofs.Descent.TokenSteps.{via, refused, here, takes, misses, takes-var, misses-var, same-next}
use Rattle.perm_tree.specs.declared.ast.BinaryOp.{BinaryOp}
use Rattle.perm_parse.specs.Grammar.{level}
use Rattle.perm_parse.specs.Parses.{deepest}

-- ---- plain arguments

plain-begins : (k : ArgFor) (t : Token) (other : TokenKind) → (other ≡ kind.Consume → ⊥) → step_arg k t other ≡ step_operand [] (Purpose.to_arg k) t other
plain-begins k t kind.Consume h = absurd (h refl)
plain-begins k t _ h = refl

as-operand : (p : Parser) (k : ArgFor) → IsNotNext kind.Consume p → Leads p (State.arg_due k) p (State.operand [] (Purpose.to_arg k))
as-operand p k h = same-next p (State.arg_due k) (State.operand [] (Purpose.to_arg k)) (λ t n. plain-begins k t t.kind (h t n)) refl

-- behind a whole expression an argument is complete
pub settle-arg : (p : Parser) (e : ExprTree) (k : ArgFor) → IsClosed 6 p → Leads p (State.after e [] (Purpose.to_arg k)) p (State.arg_taken k (ArgTree.plain e))
settle-arg p e k closed = same-next p (State.after e [] (Purpose.to_arg k)) (State.arg_taken k (ArgTree.plain e)) (λ t n. at t (op_of t.kind) refl (closed t n)) refl
  where
    at : (t : Token) (o : Option BinaryOp) → op_of t.kind ≡ o → NoOp 6 (op_of t.kind) → behind e [] (Purpose.to_arg k) t t.kind (op_of t.kind) ≡ finish_arg k (ArgTree.plain e) t t.kind
    at t None eq free = rw eq refl
    at t (Some o) eq free = absurd (let lt : 6 < level o = subst (λ (x : Option BinaryOp). NoOp 6 x) eq free in omega (arith, level-most o))

pub plain-err : (old new : Parser) (depth : ℕ) (e : ParseError) → IsNotNext kind.Consume old → ReadsExpr 6 depth old new (Err e) → ReadsArg depth old new (Err e)
plain-err old new depth e h r = λ k lv. refused (as-operand old k h) (r [] (Purpose.to_arg k) lv tt)

pub plain-ok : (old new : Parser) (depth x : ℕ) → IsNotNext kind.Consume old → ReadsExpr 6 depth old new (Ok x) → IsClosed 6 new → ArgRead depth old new (argument.Expr x)
plain-ok old new depth x h g closed = record {
  tree = ArgTree.plain g.tree;
  is = ap argument.Expr g.place;
  program = g.program;
  leads = λ k lv. via (as-operand old k h) (via (g.leads [] (Purpose.to_arg k) lv tt) (settle-arg new g.tree k closed));
}

-- ---- consumed arguments

pub consumed-missing : (old mid new : Parser) (depth : ℕ) (word : Token) (e : ParseError) → depth ≤ deepest → TakesToken kind.Consume old mid (Ok word) → TakesVar mid new (Err e) → ReadsArg depth old new (Err e)
consumed-missing old mid new depth word e le h miss = λ k lv.
    refused (takes old mid kind.Consume word (State.arg_due k) _ h refl (omega arith))
    (misses-var mid new e (λ rest. arg_for_text k (word ∷ rest)) (level_arg_for k) (λ name. State.arg_taken k (ArgTree.consumed word name)) miss)

pub consumed-ok : (old mid mid2 new : Parser) (depth : ℕ) (word t : Token) (i : Ident) → depth ≤ deepest → TakesToken kind.Consume old mid (Ok word) → TakesVar mid mid2 (Ok t) → NamesVar t mid2 new (Ok i) → ArgRead depth old new (argument.Consume i)
consumed-ok old mid mid2 new depth word t i le h g v = record {
  tree = ArgTree.consumed word t;
  is = ap argument.Consume (v.0 ∙ rw (g.2.text, h.2.text, g.2.program, h.2.program) refl);
  program = v.1 ∙ rw (g.2.text, h.2.text, g.2.program, h.2.program) refl;
  leads = λ k lv.
      via (takes old mid kind.Consume word (State.arg_due k) _ h refl (omega arith))
      (via (takes-var mid mid2 t (λ rest. arg_for_text k (word ∷ rest)) (level_arg_for k) (λ name. State.arg_taken k (ArgTree.consumed word name)) g (omega arith)) (here mid2 new (State.arg_taken k (ArgTree.consumed word t)) v.2));
}

-- ---- the arguments of a call

close-level : (c : CallPart) (list : Args) (t : Token) → level_state (close_call c list t) ≤ level_call_part c
close-level (CallPart.call_part k recv dot name opening) list t = omega arith

pub args-none : (old new : Parser) (depth : ℕ) (t : Token) (list : List Arg) → depth ≤ deepest → TakesToken kind.CloseParen old new (Ok t) → list ≡ [] → ArgsRead depth old new list
args-none old new depth t list le h is = record {
  tree = Args.no_args;
  closing = t;
  is = is;
  program = h.2.program;
  leads = λ c lv. takes old new kind.CloseParen t (State.args_due c) (close_call c Args.no_args t) h refl (omega (arith, close-level c Args.no_args t));
}

first-begins : (c : CallPart) (t : Token) (other : TokenKind) → (other ≡ kind.CloseParen → ⊥) → step_args c t other ≡ step_arg (ArgFor.to_pass c ArgsPart.no_arg_yet) t other
first-begins c t kind.CloseParen h = absurd (h refl)
first-begins c t _ h = refl

as-first : (p : Parser) (c : CallPart) → IsNotNext kind.CloseParen p → Leads p (State.args_due c) p (State.arg_due (ArgFor.to_pass c ArgsPart.no_arg_yet))
as-first p c h = same-next p (State.args_due c) (State.arg_due (ArgFor.to_pass c ArgsPart.no_arg_yet)) (λ t n. first-begins c t t.kind (h t n)) refl

pub first-err : (old new : Parser) (depth : ℕ) (e : ParseError) → IsNotNext kind.CloseParen old → ReadsArg depth old new (Err e) → ReadsArgs depth old new (Err e)
first-err old new depth e h r = λ c lv. refused (as-first old c h) (r (ArgFor.to_pass c ArgsPart.no_arg_yet) lv)

pub first-ok : (old new : Parser) (depth : ℕ) (a : Arg) (list : List Arg) → IsNotNext kind.CloseParen old → ReadsArg depth old new (Ok a) → list ≡ a ∷ [] → ArgsPartRead depth old new list
first-ok old new depth a list h g is = record {
  part = ArgsPart.no_arg_yet;
  last = g.tree;
  is = is ∙ ap (λ (x : Arg). x ∷ []) g.is;
  program = g.program;
  leads = λ c lv. via (as-first old c h) (g.leads (ArgFor.to_pass c ArgsPart.no_arg_yet) lv);
}

pub more-err : (old p mid new : Parser) (depth : ℕ) (list : List Arg) (comma : Token) (e : ParseError) → depth ≤ deepest → ArgsPartRead depth old p list → TakesToken kind.Comma p mid (Ok comma) → ReadsArg depth mid new (Err e) → ReadsArgs depth old new (Err e)
more-err old p mid new depth list comma e le g h r = λ c lv.
    refused (via (g.leads c lv) (takes p mid kind.Comma comma (State.arg_taken (ArgFor.to_pass c g.part) g.last) (State.arg_due (ArgFor.to_pass c (ArgsPart.behind_arg (push_arg g.part g.last) comma))) h refl (omega arith)))
    (r (ArgFor.to_pass c (ArgsPart.behind_arg (push_arg g.part g.last) comma)) lv)

pub more-ok : (old p mid new : Parser) (depth : ℕ) (list more : List Arg) (a : Arg) (comma : Token) → depth ≤ deepest → p.text ≡ old.text → ArgsPartRead depth old p list → TakesToken kind.Comma p mid (Ok comma) → ReadsArg depth mid new (Ok a) → more ≡ list ++ a ∷ [] →
    ArgsPartRead depth old new more
more-ok old p mid new depth list more a comma le text g h r is = record {
  part = ArgsPart.behind_arg (push_arg g.part g.last) comma;
  last = r.tree;
  is = is ∙ rw (g.is, r.is, h.2.text, text, h.2.program, g.program) refl;
  program = r.program ∙ rw (h.2.text, text, h.2.program, g.program) refl;
  leads = λ c lv.
      via (g.leads c lv)
      (via (takes p mid kind.Comma comma (State.arg_taken (ArgFor.to_pass c g.part) g.last) (State.arg_due (ArgFor.to_pass c (ArgsPart.behind_arg (push_arg g.part g.last) comma))) h refl (omega arith))
      (r.leads (ArgFor.to_pass c (ArgsPart.behind_arg (push_arg g.part g.last) comma)) lv));
}

neither : (c : CallPart) (part : ArgsPart) (a : ArgTree) (t : Token) (other : TokenKind) → (other ≡ kind.Comma → ⊥) → (other ≡ kind.CloseParen → ⊥) → finish_arg (ArgFor.to_pass c part) a t other ≡ None
neither c part a t kind.Comma h g = absurd (h refl)
neither c part a t kind.CloseParen h g = absurd (g refl)
neither c part a t _ h g = refl

pub end-err : (old p new : Parser) (depth : ℕ) (list : List Arg) (e : ParseError) → ArgsPartRead depth old p list → IsNotNext kind.Comma p → TakesToken kind.CloseParen p new (Err e) → ReadsArgs depth old new (Err e)
end-err old p new depth list e g no_comma miss = λ c lv.
    refused (g.leads c lv)
    (misses p new kind.CloseParen e (State.arg_taken (ArgFor.to_pass c g.part) g.last) miss (record { others = λ t n h. neither c g.part g.last t t.kind (no_comma t n) h; ends = refl }))

pub end-ok : (old p new : Parser) (depth : ℕ) (list : List Arg) (t : Token) → depth ≤ deepest → ArgsPartRead depth old p list → TakesToken kind.CloseParen p new (Ok t) → ArgsRead depth old new list
end-ok old p new depth list t le g h = record {
  tree = Args.args (push_arg g.part g.last);
  closing = t;
  is = g.is;
  program = h.2.program ∙ g.program;
  leads = λ c lv.
      via (g.leads c lv)
      (takes p new kind.CloseParen t (State.arg_taken (ArgFor.to_pass c g.part) g.last) (close_call c (Args.args (push_arg g.part g.last)) t) h refl (omega (arith, close-level c (Args.args (push_arg g.part g.last)) t)));
}

-- ---- places

pub placed-more : (n m : ℕ) (list : List Arg) (a : Arg) → n ≤ m → ArgsPlaced n list → ArgPlaced m a → ArgsPlaced m (list ++ a ∷ [])
placed-more n m [] a le h g = (g, tt)
placed-more n m (argument.Expr e ∷ list) a le h g = (omega (arith, h.0), placed-more n m list a le h.1 g)
placed-more n m (argument.Consume i ∷ list) a le h g = (tt, placed-more n m list a le h.1 g)
