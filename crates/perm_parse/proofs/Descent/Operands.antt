-- The arms of the descent through an expression: what each does to the reading that is left.
use Rattle.std.proofs.Common.{◌≡◌, ℕ, ◌+◌, ◌-◌, ◌<◌, ◌≤◌, List, [], ◌∷◌, length, drop, Option, Some, None, Result, Ok, Err, Bool, true, false, refl, sym, ap, ◌∙◌, subst, arith, ◌==◌, cond}
use Rattle.std.specs.List.{slice_get}
use Rattle.std.proofs.lemmas.Bool.{le-leb, eqb-true}
use Rattle.std.proofs.lemmas.Option.{same_Some}
use Rattle.perm_tree.specs.Places.{Listing}
use Rattle.perm_tree.specs.declared.ast.UnaryOp.{UnaryOp}
use Rattle.perm_tree.specs.declared.ast.UnaryOp.TheVariants as unary_op
use Rattle.perm_tree.specs.declared.ast.BinaryOp.{BinaryOp}
use Rattle.perm_tree.specs.declared.ast.Expr.{Expr}
use Rattle.perm_tree.specs.declared.ast.Expr.TheVariants as node
use Rattle.perm_tree.specs.declared.ast.Ident.{Ident}
use Rattle.perm_tree.specs.declared.errors.ParseError.{ParseError}
use Rattle.perm_tree.specs.declared.errors.ParseError.TheVariants.{Unexpected, TooDeep, NoMemory}
use Rattle.perm_tree.specs.declared.tokens.Token.{Token}
use Rattle.perm_tree.specs.declared.tokens.TokenKind.{TokenKind}
use Rattle.perm_tree.specs.declared.tokens.TokenKind.TheVariants as kind
use Rattle.perm_parse.specs.declared.parser.Parser.{Parser}
use Rattle.perm_parse.specs.Grammar.{ExprTree, Is, level, sign, unary_sign}
use Rattle.perm_parse.specs.States.{State, Pending, Purpose, Room, level_pending, level_purpose, level_state}
use Rattle.perm_parse.specs.Machine.{step_as, step_operand, finish, behind, op_of}
use Rattle.perm_parse.specs.Meaning.{push_expr, expr_of}
use Rattle.perm_parse.specs.Answers.{read_from, answer_after}
use Rattle.perm_parse.specs.ParserResults.{rest, From, Next, IsNext, IsAhead, IsHere, TakesToken, OpensLevel, PushesExpr, NamesVar, Leads, Refuses, NoOp, IsClosed, ExprRead, ReadsExpr, of_level, operator_at}
use Rattle.perm_parse.specs.Parses.{deepest}
use Rattle.perm_parse.proofs.OneAnswer.ExpressionRuns.{level-positive, level-most, reduce-stays, op_of-sign}
use Rattle.perm_parse.proofs.OneAnswer.Soundness.{op_of-is}
use Rattle.perm_parse.proofs.Descent.TokenSteps.{Only, stepped, too-deep, via, refused, here, no-memory, takes, misses, drop-some, drop-none, dead, at-end}

pub level-below : (d : ℕ) (ps : List Pending) → d ≤ level_pending d ps
level-below d [] = omega arith
level-below d (Pending.before o t ∷ ps) = omega (arith, level-below d ps)
level-below d (Pending.left a o t ∷ ps) = level-below d ps

-- ---- operands of one token

pub leaf : (old mid new : Parser) (depth : ℕ) (t : Token) (wanted : TokenKind) (tree : ExprTree) (e : Expr) (r : Result ℕ ParseError) → Next old t → Is wanted t → IsAhead old mid → PushesExpr e mid new r → depth ≤ deepest →
    ((ps : List Pending) (k : Purpose) → step_as (State.operand ps k) t wanted ≡ Some (State.after tree ps k)) → ((text : List ℕ) (s : Listing) → expr_of text tree s ≡ push_expr e s) → ReadsExpr 0 depth old new r
leaf old mid new depth t wanted tree e (Ok n) next is a d le h m = record {
  tree = tree;
  place = d.0 ∙ ap (λ (s : Listing). length s.exprs) a.program ∙ sym (ap (λ (x : ℕ × Listing). x.0) (m old.text.now old.program));
  program = d.1 ∙ ap (λ (s : Listing). (push_expr e s).1) a.program ∙ sym (ap (λ (x : ℕ × Listing). x.1) (m old.text.now old.program));
  leads = λ ps k lv room.
      via (stepped old mid t (State.operand ps k) (State.after tree ps k) next a (ap (λ (x : TokenKind). step_as (State.operand ps k) t x) is ∙ h ps k) (omega (arith, level-below (level_purpose k) ps)))
      (here mid new (State.after tree ps k) d.2);
}
leaf old mid new depth t wanted tree e (Err x) next is a d le h m = λ ps k lv room. no-memory old (State.operand ps k) x d

pub variable : (old mid named new : Parser) (depth : ℕ) (t : Token) (wanted : TokenKind) (i : Ident) (r : Result ℕ ParseError) → Next old t → Is wanted t → IsAhead old mid → NamesVar t mid named (Ok i) → PushesExpr (node.Var i) named new r → depth ≤ deepest →
    ((ps : List Pending) (k : Purpose) → step_as (State.operand ps k) t wanted ≡ Some (State.after (ExprTree.variable t) ps k)) → ReadsExpr 0 depth old new r
variable old mid named new depth t wanted i (Ok n) next is a v d le h = record {
  tree = ExprTree.variable t;
  place = d.0 ∙ rw (v.1, a.program, a.text) refl;
  program = d.1 ∙ rw (v.0, v.1, a.program, a.text) refl;
  leads = λ ps k lv room.
      via (stepped old mid t (State.operand ps k) (State.after (ExprTree.variable t) ps k) next a (ap (λ (x : TokenKind). step_as (State.operand ps k) t x) is ∙ h ps k) (omega (arith, level-below (level_purpose k) ps)))
      (via (here mid named (State.after (ExprTree.variable t) ps k) v.2) (here named new (State.after (ExprTree.variable t) ps k) d.2));
}
variable old mid named new depth t wanted i (Err x) next is a v d le h = λ ps k lv room. no-memory old (State.operand ps k) x d

-- ---- unary operators

prefixed-step : (o : UnaryOp) (t : Token) (ps : List Pending) (k : Purpose) → step_as (State.operand ps k) t (unary_sign o) ≡ Some (State.operand (Pending.before o t ∷ ps) k)
prefixed-step unary_op.Minus t ps k = refl
prefixed-step unary_op.Not t ps k = refl

-- a bracket or an operator that isn't opened where it comes next
pub not-opened : (old new : Parser) (wanted : TokenKind) (depth : ℕ) (q : State) (e : ParseError) → IsNext wanted old → OpensLevel wanted depth old new (Err e) →
    ((t : Token) → depth ≡ deepest → (r : State) × ((step_as q t wanted ≡ Some r) × (deepest < level_state r))) → Refuses old q e
not-opened old new wanted depth q (Unexpected i) next h goes = absurd (h.1 next.0 next.1.0 next.1.1)
not-opened old new wanted depth q (TooDeep i) next h goes =
    let t = h.1.0 in
    let g = goes t h.2 in
    rw h.0 (too-deep old t q g.0 h.1.1.0 (ap (λ (x : TokenKind). step_as q t x) h.1.1.1 ∙ g.1.0) g.1.1)
not-opened old new wanted depth q NoMemory next h goes = absurd h

pub prefixed-refused : (old new : Parser) (depth : ℕ) (o : UnaryOp) (e : ParseError) → IsNext (unary_sign o) old → OpensLevel (unary_sign o) depth old new (Err e) → ReadsExpr 0 depth old new (Err e)
prefixed-refused old new depth o e next h = λ ps k lv room.
    not-opened old new (unary_sign o) depth (State.operand ps k) e next h (λ t deep. (State.operand (Pending.before o t ∷ ps) k, (prefixed-step o t ps k, omega arith)))

prefixed-opens : (old mid : Parser) (depth : ℕ) (o : UnaryOp) (t : Token) (ps : List Pending) (k : Purpose) → OpensLevel (unary_sign o) depth old mid (Ok t) → level_pending (level_purpose k) ps ≡ depth →
    Leads old (State.operand ps k) mid (State.operand (Pending.before o t ∷ ps) k)
prefixed-opens old mid depth o t ps k h lv = takes old mid (unary_sign o) t (State.operand ps k) (State.operand (Pending.before o t ∷ ps) k) h.0 (prefixed-step o t ps k) (omega (arith, h.1))

pub prefixed-err : (old mid new : Parser) (depth : ℕ) (o : UnaryOp) (t : Token) (e : ParseError) → OpensLevel (unary_sign o) depth old mid (Ok t) → ReadsExpr 0 (depth + 1) mid new (Err e) → ReadsExpr 0 depth old new (Err e)
prefixed-err old mid new depth o t e h r = λ ps k lv room. refused (prefixed-opens old mid depth o t ps k h lv) (r (Pending.before o t ∷ ps) k (omega arith) refl)

-- an operand takes the unary operator before it
settle-unary : (p : Parser) (e : ExprTree) (o : UnaryOp) (t : Token) (ps : List Pending) (k : Purpose) → Leads p (State.after e (Pending.before o t ∷ ps) k) p (State.after (ExprTree.unary o t e) ps k)
settle-unary p e o t ps k = record { same = over (rest p) p.at }
  where
    over : (ts : List Token) (n : ℕ) → read_from ts (State.after e (Pending.before o t ∷ ps) k) n ≡ read_from ts (State.after (ExprTree.unary o t e) ps k) n
    over [] n = refl
    over (c ∷ ts) n = at (op_of c.kind)
      where
        at : (x : Option BinaryOp) → answer_after n (behind e (Pending.before o t ∷ ps) k c c.kind x) (λ r. read_from ts r (n + 1)) ≡ answer_after n (behind (ExprTree.unary o t e) ps k c c.kind x) (λ r. read_from ts r (n + 1))
        at None = refl
        at (Some y) = refl

pub prefixed-ok : (old mid mid2 new : Parser) (depth : ℕ) (o : UnaryOp) (t : Token) (x : ℕ) (r : Result ℕ ParseError) → OpensLevel (unary_sign o) depth old mid (Ok t) → ReadsExpr 0 (depth + 1) mid mid2 (Ok x) → PushesExpr (node.Unary o x) mid2 new r → ReadsExpr 0 depth old new r
prefixed-ok old mid mid2 new depth o t x (Ok n) h g d = record {
  tree = ExprTree.unary o t g.tree;
  place = d.0 ∙ rw (g.program, h.0.2.program, h.0.2.text) refl;
  program = d.1 ∙ rw (g.place, g.program, h.0.2.program, h.0.2.text) refl;
  leads = λ ps k lv room.
      via (prefixed-opens old mid depth o t ps k h lv)
      (via (g.leads (Pending.before o t ∷ ps) k (omega arith) refl) (via (settle-unary mid2 g.tree o t ps k) (here mid2 new (State.after (ExprTree.unary o t g.tree) ps k) d.2)));
}
prefixed-ok old mid mid2 new depth o t x (Err e) h g d = λ ps k lv room. no-memory old (State.operand ps k) e d

-- ---- parentheses

pub parens-refused : (old new : Parser) (depth : ℕ) (e : ParseError) → IsNext kind.OpenParen old → OpensLevel kind.OpenParen depth old new (Err e) → ReadsExpr 0 depth old new (Err e)
parens-refused old new depth e next h = λ ps k lv room.
    not-opened old new kind.OpenParen depth (State.operand ps k) e next h (λ t deep. (State.operand [] (Purpose.inner ps k t), (refl, omega arith)))

parens-opens : (old mid : Parser) (depth : ℕ) (t : Token) (ps : List Pending) (k : Purpose) → OpensLevel kind.OpenParen depth old mid (Ok t) → level_pending (level_purpose k) ps ≡ depth → Leads old (State.operand ps k) mid (State.operand [] (Purpose.inner ps k t))
parens-opens old mid depth t ps k h lv = takes old mid kind.OpenParen t (State.operand ps k) (State.operand [] (Purpose.inner ps k t)) h.0 refl (omega (arith, h.1))

pub parens-err : (old mid new : Parser) (depth : ℕ) (t : Token) (e : ParseError) → OpensLevel kind.OpenParen depth old mid (Ok t) → ReadsExpr 6 (depth + 1) mid new (Err e) → ReadsExpr 0 depth old new (Err e)
parens-err old mid new depth t e h r = λ ps k lv room. refused (parens-opens old mid depth t ps k h lv) (r [] (Purpose.inner ps k t) (omega arith) tt)

-- behind a whole expression, where only what closes it may come
pub only-closes : (p : Parser) (wanted : TokenKind) (e : ExprTree) (k : Purpose) → IsClosed 6 p → ((t : Token) (other : TokenKind) → (other ≡ wanted → ⊥) → finish k e t other ≡ None) → Only p wanted (State.after e [] k)
only-closes p wanted e k closed h = record {
  others = λ t n other. go t (op_of t.kind) refl (closed t n) other;
  ends = refl;
}
  where
    go : (t : Token) (o : Option BinaryOp) → op_of t.kind ≡ o → NoOp 6 (op_of t.kind) → (Is wanted t → ⊥) → behind e [] k t t.kind (op_of t.kind) ≡ None
    go t None eq free other = rw eq (h t t.kind other)
    go t (Some o) eq free other = absurd (let lt : 6 < level o = subst (λ (x : Option BinaryOp). NoOp 6 x) eq free in omega (arith, level-most o))

inner-closes : (ps : List Pending) (k : Purpose) (opening : Token) (e : ExprTree) (t : Token) (other : TokenKind) → (other ≡ kind.CloseParen → ⊥) → finish (Purpose.inner ps k opening) e t other ≡ None
inner-closes ps k opening e t kind.CloseParen h = absurd (h refl)
inner-closes ps k opening e t _ h = refl

pub parens-missing : (old mid mid2 new : Parser) (depth : ℕ) (t : Token) (x : ℕ) (e : ParseError) → OpensLevel kind.OpenParen depth old mid (Ok t) → ReadsExpr 6 (depth + 1) mid mid2 (Ok x) → IsClosed 6 mid2 → TakesToken kind.CloseParen mid2 new (Err e) →
    ReadsExpr 0 depth old new (Err e)
parens-missing old mid mid2 new depth t x e h g closed miss = λ ps k lv room.
    refused (via (parens-opens old mid depth t ps k h lv) (g.leads [] (Purpose.inner ps k t) (omega arith) tt))
    (misses mid2 new kind.CloseParen e (State.after g.tree [] (Purpose.inner ps k t)) miss (only-closes mid2 kind.CloseParen g.tree (Purpose.inner ps k t) closed (λ u other n. inner-closes ps k t g.tree u other n)))

pub parens-ok : (old mid mid2 new : Parser) (depth : ℕ) (t c : Token) (x : ℕ) → OpensLevel kind.OpenParen depth old mid (Ok t) → ReadsExpr 6 (depth + 1) mid mid2 (Ok x) → TakesToken kind.CloseParen mid2 new (Ok c) → ReadsExpr 0 depth old new (Ok x)
parens-ok old mid mid2 new depth t c x h g close = record {
  tree = ExprTree.parens t g.tree c;
  place = g.place ∙ rw (h.0.2.program, h.0.2.text) refl;
  program = close.2.program ∙ g.program ∙ rw (h.0.2.program, h.0.2.text) refl;
  leads = λ ps k lv room.
      via (parens-opens old mid depth t ps k h lv)
      (via (g.leads [] (Purpose.inner ps k t) (omega arith) tt)
      (takes mid2 new kind.CloseParen c (State.after g.tree [] (Purpose.inner ps k t)) (State.after (ExprTree.parens t g.tree c) ps k) close refl (omega (arith, level-below (level_purpose k) ps, h.1))));
}

-- ---- no operand

pub no-operand : (p : Parser) (depth : ℕ) → ((t : Token) → Next p t → (ps : List Pending) (k : Purpose) → step_operand ps k t t.kind ≡ None) → ReadsExpr 0 depth p p (Err (Unexpected p.at))
no-operand p depth h = λ ps k lv room. cases ps k (slice_get p.tokens.now p.at) refl
  where
    cases : (ps : List Pending) (k : Purpose) (o : Option Token) → slice_get p.tokens.now p.at ≡ o → Refuses p (State.operand ps k) (Unexpected p.at)
    cases ps k None n = at-end p (State.operand ps k) n refl
    cases ps k (Some t) n = dead p t (State.operand ps k) n (h t n ps k)

-- a kind that begins no operand
pub no-start : (k : TokenKind) → (k ≡ kind.Number → ⊥) → (k ≡ kind.True → ⊥) → (k ≡ kind.False → ⊥) → (k ≡ kind.Null → ⊥) → (k ≡ kind.Name → ⊥) → (k ≡ kind.This → ⊥) → (k ≡ kind.Minus → ⊥) → (k ≡ kind.Bang → ⊥) → (k ≡ kind.OpenParen → ⊥) →
    (ps : List Pending) (p : Purpose) (t : Token) → step_operand ps p t k ≡ None
no-start kind.Number a b c d e f g h i ps p t = absurd (a refl)
no-start kind.True a b c d e f g h i ps p t = absurd (b refl)
no-start kind.False a b c d e f g h i ps p t = absurd (c refl)
no-start kind.Null a b c d e f g h i ps p t = absurd (d refl)
no-start kind.Name a b c d e f g h i ps p t = absurd (e refl)
no-start kind.This a b c d e f g h i ps p t = absurd (f refl)
no-start kind.Minus a b c d e f g h i ps p t = absurd (g refl)
no-start kind.Bang a b c d e f g h i ps p t = absurd (h refl)
no-start kind.OpenParen a b c d e f g h i ps p t = absurd (i refl)
no-start _ a b c d e f g h i ps p t = refl

-- ---- binary operators

-- which token the operator is
pub operator-is : (l : ℕ) (p : Parser) (o : BinaryOp) → operator_at l (slice_get p.tokens.now p.at) ≡ Some o → (t : Token) × (Next p t × Is (sign o) t × (level o ≡ l))
operator-is l p o e = cases (slice_get p.tokens.now p.at) refl e
  where
    test : (t : Token) (x : BinaryOp) (b : Bool) → (level x == l) ≡ b → op_of t.kind ≡ Some x → cond b (Some x) None ≡ Some o → Is (sign o) t × (level o ≡ l)
    test t x true b e h =
        let same : x ≡ o = same_Some x o h in
        (op_of-is t.kind o (e ∙ h), rw (← same) (eqb-true (level x) l b))
    test t x false b e h = absurd cc

    at : (t : Token) (x : Option BinaryOp) → op_of t.kind ≡ x → of_level l x ≡ Some o → Is (sign o) t × (level o ≡ l)
    at t None e h = absurd cc
    at t (Some x) e h = test t x (level x == l) refl e h

    cases : (x : Option Token) → slice_get p.tokens.now p.at ≡ x → operator_at l x ≡ Some o → (t : Token) × (Next p t × Is (sign o) t × (level o ≡ l))
    cases None n e = absurd cc
    cases (Some t) n e = let r = at t (op_of t.kind) refl e in (t, (n, r.0, r.1))

turn : (first p mid : Parser) (l depth a : ℕ) (o : BinaryOp) (t : Token) (g : ExprRead l depth first p a) → Next p t → Is (sign o) t → level o ≡ l → IsAhead p mid → depth ≤ deepest →
    (ps : List Pending) (k : Purpose) → level_pending (level_purpose k) ps ≡ depth → Room l ps → Leads first (State.operand ps k) mid (State.operand (Pending.left g.tree o t ∷ ps) k)
turn first p mid l depth a o t g next is lo ahead le ps k lv room =
    via (g.leads ps k lv room)
    (stepped p mid t (State.after g.tree ps k) (State.operand (Pending.left g.tree o t ∷ ps) k) next ahead
    (rw (is, op_of-sign o, reduce-stays (level o) g.tree ps (level-positive o) (subst (λ (j : ℕ). Room j ps) (sym lo) room)) refl) (omega arith))

pub turn-err : (first p mid new : Parser) (l depth a : ℕ) (o : BinaryOp) (e : ParseError) → ReadsExpr l depth first p (Ok a) → operator_at l (slice_get p.tokens.now p.at) ≡ Some o → IsAhead p mid → depth ≤ deepest → 0 < l →
    ReadsExpr (l - 1) depth mid new (Err e) → ReadsExpr l depth first new (Err e)
turn-err first p mid new l depth a o e g op ahead le pos r = λ ps k lv room.
    let w = operator-is l p o op in
    refused (turn first p mid l depth a o w.0 g w.1.0 w.1.1 w.1.2 ahead le ps k lv room) (r (Pending.left g.tree o w.0 ∷ ps) k lv (omega (arith, w.1.2)))

-- a right operand takes the operator and its left operand
settle-binary : (p : Parser) (a b : ExprTree) (o : BinaryOp) (t : Token) (ps : List Pending) (k : Purpose) (l : ℕ) → level o ≡ l + 1 → IsClosed l p → Leads p (State.after b (Pending.left a o t ∷ ps) k) p (State.after (ExprTree.binary o a t b) ps k)
settle-binary p a b o t ps k l lo closed = record { same = cases (slice_get p.tokens.now p.at) refl }
  where
    at : (c : Token) (ts : List Token) (x : Option BinaryOp) → NoOp l x →
        answer_after p.at (behind b (Pending.left a o t ∷ ps) k c c.kind x) (λ r. read_from ts r (p.at + 1)) ≡ answer_after p.at (behind (ExprTree.binary o a t b) ps k c c.kind x) (λ r. read_from ts r (p.at + 1))
    at c ts None h = rw (le-leb (level o) 6 (level-most o)) refl
    at c ts (Some y) h = let le : level o ≤ level y = omega arith in rw (le-leb (level o) (level y) le) refl

    over : (ts after : List Token) (c : Token) → ts ≡ c ∷ after → NoOp l (op_of c.kind) → read_from ts (State.after b (Pending.left a o t ∷ ps) k) p.at ≡ read_from ts (State.after (ExprTree.binary o a t b) ps k) p.at
    over ts after c e h = rw e (at c after (op_of c.kind) h)

    none : (ts : List Token) → ts ≡ [] → read_from ts (State.after b (Pending.left a o t ∷ ps) k) p.at ≡ read_from ts (State.after (ExprTree.binary o a t b) ps k) p.at
    none ts e = rw e refl

    cases : (x : Option Token) → slice_get p.tokens.now p.at ≡ x → From p (State.after b (Pending.left a o t ∷ ps) k) ≡ From p (State.after (ExprTree.binary o a t b) ps k)
    cases None n = none (rest p) (drop-none p.tokens.now p.at n)
    cases (Some c) n = over (rest p) (drop (p.at + 1) p.tokens.now) c (drop-some p.tokens.now p.at c n) (closed c n)

pub turn-ok : (first p mid mid2 new : Parser) (l depth a b n : ℕ) (o : BinaryOp) → ReadsExpr l depth first p (Ok a) → operator_at l (slice_get p.tokens.now p.at) ≡ Some o → IsAhead p mid → p.text ≡ first.text → depth ≤ deepest → 0 < l →
    ReadsExpr (l - 1) depth mid mid2 (Ok b) → IsClosed (l - 1) mid2 → PushesExpr (node.Binary o a b) mid2 new (Ok n) → ReadsExpr l depth first new (Ok n)
turn-ok first p mid mid2 new l depth a b n o g op ahead text le pos r closed d =
    let w = operator-is l p o op in
    record {
      tree = ExprTree.binary o g.tree w.0 r.tree;
      place = d.0 ∙ rw (r.program, ahead.text, text, ahead.program, g.program) refl;
      program = d.1 ∙ rw (g.place, r.place, r.program, ahead.text, text, ahead.program, g.program) refl;
      leads = λ ps k lv room.
          via (turn first p mid l depth a o w.0 g w.1.0 w.1.1 w.1.2 ahead le ps k lv room)
          (via (r.leads (Pending.left g.tree o w.0 ∷ ps) k lv (omega (arith, w.1.2)))
          (via (settle-binary mid2 g.tree r.tree o w.0 ps k (l - 1) (omega (arith, w.1.2)) closed) (here mid2 new (State.after (ExprTree.binary o g.tree w.0 r.tree) ps k) d.2)));
    }

pub closed-here : (p new : Parser) (l : ℕ) → IsHere p new → IsClosed l p → IsClosed l new
closed-here p new l h closed = λ t n. closed t (rw (← h.tokens, ← h.at) n)

pub some-token : (a b : Token) → Some a ≡ Some b → a ≡ b
some-token a b e = same_Some a b e
