-- The arms of the descent through a right side: what each does to the reading that is left.
use Rattle.std.proofs.Common.{◌≡◌, ℕ, ◌+◌, ◌≤◌, List, [], ◌∷◌, drop, Option, Some, None, Ok, Err, refl, sym, ap, ◌∙◌, arith, inl, inr}
use Rattle.std.specs.List.{slice_get}
use Rattle.perm_tree.specs.declared.ast.Arg.TheVariants as argument
use Rattle.perm_tree.specs.declared.ast.Rhs.TheVariants as right
use Rattle.perm_tree.specs.declared.errors.ParseError.{ParseError}
use Rattle.perm_tree.specs.declared.tokens.Token.{Token}
use Rattle.perm_tree.specs.declared.tokens.TokenKind.{TokenKind}
use Rattle.perm_tree.specs.declared.tokens.TokenKind.TheVariants as kind
use Rattle.perm_parse.specs.declared.parser.Parser.{Parser}
use Rattle.perm_parse.specs.Grammar.{ExprTree, ArgTree, RhsTree, Is, IsVar}
use Rattle.perm_parse.specs.States.{State, Open, Purpose, ArgFor, Assigning, level_assigning, level_state}
use Rattle.perm_parse.specs.Machine.{step, step_value, step_operand, step_value_named, step_paren, behind, finish, after_value, op_of}
use Rattle.perm_parse.specs.Answers.{read_from, answer_at_end}
use Rattle.perm_parse.specs.ParserResults.{rest, From, Next, IsPlain, TakesToken, Leads, IsClosed, ReadsExpr, ValueRead, ReadsValue}
use Rattle.perm_parse.specs.Parses.{deepest}
use Rattle.perm_parse.proofs.Descent.TokenSteps.{via, refused, takes, misses, drop-some, drop-none}
use Rattle.perm_parse.proofs.Descent.Operands.{only-closes}

-- behind a whole assignment
pub after_value-level : (a : Assigning) (r : RhsTree) (end : Token) → level_state (after_value a r end) ≡ level_assigning a
after_value-level (Assigning.assigning (Open.at u b) target equals) r end = refl

-- ---- an expression

-- two states that do the same at the token of a place, and at the end
same-from : (ts : List Token) (m n : ℕ) (q r : State) → ((t : Token) → slice_get ts m ≡ Some t → step q t ≡ step r t) → answer_at_end q n ≡ answer_at_end r n → read_from (drop m ts) q n ≡ read_from (drop m ts) r n
same-from ts m n q r h ends = cases (slice_get ts m) refl
  where
    some : (l after : List Token) (t : Token) → l ≡ t ∷ after → step q t ≡ step r t → read_from l q n ≡ read_from l r n
    some l after t e s = rw (e, s) refl

    none : (l : List Token) → l ≡ [] → read_from l q n ≡ read_from l r n
    none l e = rw e ends

    cases : (o : Option Token) → slice_get ts m ≡ o → read_from (drop m ts) q n ≡ read_from (drop m ts) r n
    cases None e = none (drop m ts) (drop-none ts m e)
    cases (Some t) e = some (drop m ts) (drop (m + 1) ts) t (drop-some ts m t e) (h t e)

-- two states that go on from the next token to states that do the same
same-second : (p : Parser) (t : Token) (q r x y : State) → Next p t → step q t ≡ Some x → step r t ≡ Some y → level_state x ≡ level_state y →
    read_from (drop (p.at + 1) p.tokens.now) x (p.at + 1) ≡ read_from (drop (p.at + 1) p.tokens.now) y (p.at + 1) → From p q ≡ From p r
same-second p t q r x y n hq hr level same = over (rest p) (drop (p.at + 1) p.tokens.now) (drop-some p.tokens.now p.at t n) same
  where
    over : (l after : List Token) → l ≡ t ∷ after → read_from after x (p.at + 1) ≡ read_from after y (p.at + 1) → read_from l q p.at ≡ read_from l r p.at
    over l after e s = rw (e, hq, hr, level, s) refl

named-alone : (a : Assigning) (name t : Token) (other : TokenKind) → (other ≡ kind.Dot → ⊥) → (other ≡ kind.OpenBracket → ⊥) →
    step_value_named a name t other ≡ behind (ExprTree.variable name) [] (Purpose.to_arg (ArgFor.to_value a)) t other (op_of other)
named-alone a name t kind.Dot h g = absurd (h refl)
named-alone a name t kind.OpenBracket h g = absurd (g refl)
named-alone a name t _ h g = refl

paren-alone : (a : Assigning) (opening t : Token) (other : TokenKind) → (other ≡ kind.Consume → ⊥) → step_paren a opening t other ≡ step_operand [] (Purpose.inner [] (Purpose.to_arg (ArgFor.to_value a)) opening) t other
paren-alone a opening t kind.Consume h = absurd (h refl)
paren-alone a opening t _ h = refl

-- where an expression begins, a value is read as one
as-plain : (p : Parser) (a : Assigning) → IsPlain p → Leads p (State.value_due a) p (State.operand [] (Purpose.to_arg (ArgFor.to_value a)))
as-plain p a plain = record { same = cases (slice_get p.tokens.now p.at) refl }
  where
    k : Purpose
    k = Purpose.to_arg (ArgFor.to_value a)

    variable : (t : Token) (wanted : TokenKind) → Next p t → IsVar t → Is wanted t → step_value a t wanted ≡ Some (State.value_named a t) → step_operand [] (Purpose.to_arg (ArgFor.to_value a)) t wanted ≡ Some (State.after (ExprTree.variable t) [] (Purpose.to_arg (ArgFor.to_value a))) →
        From p (State.value_due a) ≡ From p (State.operand [] (Purpose.to_arg (ArgFor.to_value a)))
    variable t wanted n v is hv ho =
        same-second p t (State.value_due a) (State.operand [] (Purpose.to_arg (ArgFor.to_value a))) (State.value_named a t) (State.after (ExprTree.variable t) [] (Purpose.to_arg (ArgFor.to_value a))) n
        (ap (λ (x : TokenKind). step_value a t x) is ∙ hv) (ap (λ (x : TokenKind). step_operand [] (Purpose.to_arg (ArgFor.to_value a)) t x) is ∙ ho) refl
        (same-from p.tokens.now (p.at + 1) (p.at + 1) (State.value_named a t) (State.after (ExprTree.variable t) [] (Purpose.to_arg (ArgFor.to_value a)))
        (λ c s. named-alone a t c c.kind (plain.no_member t c n v s) (plain.no_item t c n v s)) refl)

    paren : (t : Token) → Next p t → Is kind.OpenParen t → From p (State.value_due a) ≡ From p (State.operand [] (Purpose.to_arg (ArgFor.to_value a)))
    paren t n is =
        same-second p t (State.value_due a) (State.operand [] (Purpose.to_arg (ArgFor.to_value a))) (State.paren_seen a t) (State.operand [] (Purpose.inner [] (Purpose.to_arg (ArgFor.to_value a)) t)) n
        (ap (λ (x : TokenKind). step_value a t x) is) (ap (λ (x : TokenKind). step_operand [] (Purpose.to_arg (ArgFor.to_value a)) t x) is) refl
        (same-from p.tokens.now (p.at + 1) (p.at + 1) (State.paren_seen a t) (State.operand [] (Purpose.inner [] (Purpose.to_arg (ArgFor.to_value a)) t))
        (λ c s. paren-alone a t c c.kind (plain.no_receiver t c n is s)) refl)

    one : (t : Token) → Next p t → step (State.value_due a) t ≡ step (State.operand [] (Purpose.to_arg (ArgFor.to_value a))) t → From p (State.value_due a) ≡ From p (State.operand [] (Purpose.to_arg (ArgFor.to_value a)))
    one t n s = over (rest p) (drop (p.at + 1) p.tokens.now) (drop-some p.tokens.now p.at t n)
      where
        over : (l after : List Token) → l ≡ t ∷ after → read_from l (State.value_due a) p.at ≡ read_from l (State.operand [] (Purpose.to_arg (ArgFor.to_value a))) p.at
        over l after e = rw (e, s) refl

    next : (t : Token) (other : TokenKind) → Next p t → Is other t → From p (State.value_due a) ≡ From p (State.operand [] (Purpose.to_arg (ArgFor.to_value a)))
    next t kind.Consume n is = absurd (plain.no_consume t n is)
    next t kind.New n is = absurd (plain.no_new t n is)
    next t kind.Recover n is = absurd (plain.no_recover t n is)
    next t kind.Name n is = variable t kind.Name n (inl is) is refl refl
    next t kind.This n is = variable t kind.This n (inr is) is refl refl
    next t kind.OpenParen n is = paren t n is
    next t other n is = one t n (ap (λ (x : TokenKind). step_value a t x) is ∙ sym (ap (λ (x : TokenKind). step_operand [] (Purpose.to_arg (ArgFor.to_value a)) t x) is))

    cases : (o : Option Token) → slice_get p.tokens.now p.at ≡ o → From p (State.value_due a) ≡ From p (State.operand [] (Purpose.to_arg (ArgFor.to_value a)))
    cases None n = none (rest p) (drop-none p.tokens.now p.at n)
      where
        none : (l : List Token) → l ≡ [] → read_from l (State.value_due a) p.at ≡ read_from l (State.operand [] (Purpose.to_arg (ArgFor.to_value a))) p.at
        none l e = rw e refl
    cases (Some t) n = next t t.kind n refl

value-closes : (a : Assigning) (e : ExprTree) (t : Token) (other : TokenKind) → (other ≡ kind.Semicolon → ⊥) → finish (Purpose.to_arg (ArgFor.to_value a)) e t other ≡ None
value-closes a e t kind.Semicolon h = absurd (h refl)
value-closes a e t _ h = refl

pub plain-err : (old new : Parser) (depth : ℕ) (e : ParseError) → IsPlain old → ReadsExpr 6 depth old new (Err e) → ReadsValue depth old new (Err e)
plain-err old new depth e plain r = λ a lv. refused (as-plain old a plain) (r [] (Purpose.to_arg (ArgFor.to_value a)) lv tt)

pub plain-missing : (old mid new : Parser) (depth x : ℕ) (e : ParseError) → IsPlain old → ReadsExpr 6 depth old mid (Ok x) → IsClosed 6 mid → TakesToken kind.Semicolon mid new (Err e) → ReadsValue depth old new (Err e)
plain-missing old mid new depth x e plain g closed miss = λ a lv.
    refused (via (as-plain old a plain) (g.leads [] (Purpose.to_arg (ArgFor.to_value a)) lv tt))
    (misses mid new kind.Semicolon e (State.after g.tree [] (Purpose.to_arg (ArgFor.to_value a))) miss (only-closes mid kind.Semicolon g.tree (Purpose.to_arg (ArgFor.to_value a)) closed (λ t other n. value-closes a g.tree t other n)))

pub plain-ok : (old mid new : Parser) (depth x : ℕ) (end : Token) → depth ≤ deepest → IsPlain old → ReadsExpr 6 depth old mid (Ok x) → TakesToken kind.Semicolon mid new (Ok end) →
    ValueRead depth old new (record { rhs = right.Value (argument.Expr x); head = end; end = end })
plain-ok old mid new depth x end le plain g h = record {
  tree = RhsTree.value (ArgTree.plain g.tree);
  is = ap (λ (n : ℕ). right.Value (argument.Expr n)) g.place;
  program = h.2.program ∙ g.program;
  head = refl;
  leads = λ a lv.
      via (as-plain old a plain)
      (via (g.leads [] (Purpose.to_arg (ArgFor.to_value a)) lv tt)
      (takes mid new kind.Semicolon end (State.after g.tree [] (Purpose.to_arg (ArgFor.to_value a))) (after_value a (RhsTree.value (ArgTree.plain g.tree)) end) h refl (omega (arith, after_value-level a (RhsTree.value (ArgTree.plain g.tree)) end))));
}
