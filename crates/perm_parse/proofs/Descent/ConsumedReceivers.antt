-- The arms of the descent through a call whose receiver is consumed: what each does to the reading that is left.
use Rattle.std.proofs.Common.{◌≡◌, ℕ, ◌+◌, ◌<◌, ◌≤◌, List, Ok, Err, true, refl, ap, ◌∙◌, arith}
use Rattle.perm_tree.specs.declared.ast.Arg.{Arg}
use Rattle.perm_tree.specs.declared.ast.Ident.{Ident}
use Rattle.perm_tree.specs.declared.errors.ParseError.{ParseError}
use Rattle.perm_tree.specs.declared.tokens.Token.{Token}
use Rattle.perm_tree.specs.declared.tokens.TokenKind.TheVariants as kind
use Rattle.perm_parse.specs.declared.parser.Parser.{Parser}
use Rattle.perm_parse.specs.Grammar.{CallTree, RecvTree, RhsTree}
use Rattle.perm_parse.specs.States.{State, Assigning, CallFor, CallPart, level_assigning, level_call_for}
use Rattle.perm_parse.specs.Machine.{gives_receiver, opens_args, after_value}
use Rattle.perm_tree.specs.declared.ast.Call.{Call}
use Rattle.perm_tree.specs.declared.ast.Rhs.TheVariants as right
use Rattle.perm_parse.specs.ParserResults.{IsNext, IsSecond, ValueRead, ReadsValue, TakesToken, TakesVar, OpensLevel, NamesToken, NamesVar, Leads, ReadsArgs, GivenRead, ReadsGiven}
use Rattle.perm_parse.specs.Parses.{deepest}
use Rattle.perm_parse.proofs.Descent.TokenSteps.{via, refused, here, takes, misses, takes-var, misses-var, only-expects}
use Rattle.perm_parse.proofs.Descent.Types.{opened-or}
use Rattle.perm_parse.proofs.Descent.Operands.{not-opened}
use Rattle.perm_parse.proofs.Descent.RightSides.{after_value-level}

pub given-no-name : (old new : Parser) (depth : ℕ) (e : ParseError) → TakesVar old new (Err e) → ReadsGiven depth old new (Err e)
given-no-name old new depth e miss = λ k opening word lv. misses-var old new e _ _ _ miss

pub given-not-closed : (old p1 p2 new : Parser) (depth : ℕ) (t : Token) (i : Ident) (e : ParseError) → depth < deepest → TakesVar old p1 (Ok t) → NamesVar t p1 p2 (Ok i) → TakesToken kind.CloseParen p2 new (Err e) → ReadsGiven depth old new (Err e)
given-not-closed old p1 p2 new depth t i e lt h1 v miss = λ k opening word lv.
    refused (via (takes-var old p1 t _ _ _ h1 (omega arith)) (here p1 p2 _ v.2)) (misses p2 new kind.CloseParen e _ miss (only-expects p2 _ _ kind.CloseParen _))

pub given-no-dot : (old p1 p2 p3 new : Parser) (depth : ℕ) (t closing : Token) (i : Ident) (e : ParseError) → depth < deepest → TakesVar old p1 (Ok t) → NamesVar t p1 p2 (Ok i) → TakesToken kind.CloseParen p2 p3 (Ok closing) → TakesToken kind.Dot p3 new (Err e) →
    ReadsGiven depth old new (Err e)
given-no-dot old p1 p2 p3 new depth t closing i e lt h1 v h3 miss = λ k opening word lv.
    refused (via (takes-var old p1 t _ _ _ h1 (omega arith)) (via (here p1 p2 _ v.2) (takes p2 p3 kind.CloseParen closing _ _ h3 refl (omega arith)))) (misses p3 new kind.Dot e _ miss (only-expects p3 _ _ kind.Dot _))

pub given-no-member : (old p1 p2 p3 p4 new : Parser) (depth : ℕ) (t closing dot : Token) (i : Ident) (e : ParseError) → depth < deepest → TakesVar old p1 (Ok t) → NamesVar t p1 p2 (Ok i) → TakesToken kind.CloseParen p2 p3 (Ok closing) → TakesToken kind.Dot p3 p4 (Ok dot) →
    TakesToken kind.Name p4 new (Err e) → ReadsGiven depth old new (Err e)
given-no-member old p1 p2 p3 p4 new depth t closing dot i e lt h1 v h3 h4 miss = λ k opening word lv.
    refused (via (takes-var old p1 t _ _ _ h1 (omega arith)) (via (here p1 p2 _ v.2) (via (takes p2 p3 kind.CloseParen closing _ _ h3 refl (omega arith)) (takes p3 p4 kind.Dot dot _ _ h4 refl (omega arith)))))
    (misses p4 new kind.Name e _ miss (only-expects p4 _ _ kind.Name _))

-- up to behind the member
pub record GivenPath (old p1 p2 p3 p4 p5 p6 : Parser) (t closing dot member : Token) (i f : Ident) : Type 0 where
  pub receiver : TakesVar old p1 (Ok t)
  pub variable : NamesVar t p1 p2 (Ok i)
  pub closed : TakesToken kind.CloseParen p2 p3 (Ok closing)
  pub dot_next : TakesToken kind.Dot p3 p4 (Ok dot)
  pub member_next : TakesToken kind.Name p4 p5 (Ok member)
  pub name : NamesToken member p5 p6 (Ok f)

path : (old p1 p2 p3 p4 p5 p6 : Parser) (depth : ℕ) (t closing dot member : Token) (i f : Ident) (k : CallFor) (opening word : Token) → depth < deepest → level_call_for k ≡ depth → GivenPath old p1 p2 p3 p4 p5 p6 t closing dot member i f →
    Leads old (gives_receiver k opening word) p6 (opens_args k (RecvTree.given opening word t closing) dot member)
path old p1 p2 p3 p4 p5 p6 depth t closing dot member i f k opening word lt lv h =
    via (takes-var old p1 t _ _ _ h.receiver (omega arith)) (via (here p1 p2 _ h.variable.2) (via (takes p2 p3 kind.CloseParen closing _ _ h.closed refl (omega arith)) (via (takes p3 p4 kind.Dot dot _ _ h.dot_next refl (omega arith))
    (via (takes p4 p5 kind.Name member _ (opens_args k (RecvTree.given opening word t closing) dot member) h.member_next refl (omega arith)) (here p5 p6 (opens_args k (RecvTree.given opening word t closing) dot member) h.name.2)))))

pub given-not-opened : (old p1 p2 p3 p4 p5 p6 new : Parser) (depth : ℕ) (t closing dot member : Token) (i f : Ident) (e : ParseError) → depth < deepest → GivenPath old p1 p2 p3 p4 p5 p6 t closing dot member i f → OpensLevel kind.OpenParen depth p6 new (Err e) → ReadsGiven depth old new (Err e)
given-not-opened old p1 p2 p3 p4 p5 p6 new depth t closing dot member i f e lt h o = λ k opening word lv.
    refused (path old p1 p2 p3 p4 p5 p6 depth t closing dot member i f k opening word lt lv h) (opened-or p6 new kind.OpenParen depth _ _ _ e (λ u. omega arith) (λ u. refl) o)

pub given-args : (old p1 p2 p3 p4 p5 p6 p7 new : Parser) (depth : ℕ) (t closing dot member paren : Token) (i f : Ident) (e : ParseError) → depth < deepest → GivenPath old p1 p2 p3 p4 p5 p6 t closing dot member i f → OpensLevel kind.OpenParen depth p6 p7 (Ok paren) →
    ReadsArgs (depth + 1) p7 new (Err e) → ReadsGiven depth old new (Err e)
given-args old p1 p2 p3 p4 p5 p6 p7 new depth t closing dot member paren i f e lt h o r = λ k opening word lv.
    let c = CallPart.call_part k (RecvTree.given opening word t closing) dot member paren in
    refused (via (path old p1 p2 p3 p4 p5 p6 depth t closing dot member i f k opening word lt lv h) (takes p6 p7 kind.OpenParen paren (opens_args k (RecvTree.given opening word t closing) dot member) (State.args_due c) o.0 refl (omega arith)))
    (r c (omega arith))

pub given-ok : (old p1 p2 p3 p4 p5 p6 p7 new : Parser) (depth : ℕ) (t closing dot member paren : Token) (i f : Ident) (list : List Arg) → depth < deepest → GivenPath old p1 p2 p3 p4 p5 p6 t closing dot member i f → OpensLevel kind.OpenParen depth p6 p7 (Ok paren) →
    ReadsArgs (depth + 1) p7 new (Ok list) → GivenRead depth old new (record { consumed = true; on = i; method = f; args = list })
given-ok old p1 p2 p3 p4 p5 p6 p7 new depth t closing dot member paren i f list lt h o g = record {
  name = t;
  closing = closing;
  dot = dot;
  member = member;
  paren = paren;
  list = g.tree;
  end = g.closing;
  is = λ opening word. rw (g.is, h.name.0, h.variable.0, o.0.2.text, o.0.2.program, h.name.2.text, h.name.1, h.member_next.2.text, h.member_next.2.program, h.dot_next.2.text, h.dot_next.2.program, h.closed.2.text, h.closed.2.program, h.variable.2.text, h.variable.1, h.receiver.2.text, h.receiver.2.program) refl;
  program = λ opening word. g.program ∙ rw (o.0.2.text, o.0.2.program, h.name.2.text, h.name.1, h.member_next.2.text, h.member_next.2.program, h.dot_next.2.text, h.dot_next.2.program, h.closed.2.text, h.closed.2.program, h.variable.2.text, h.variable.1, h.receiver.2.text, h.receiver.2.program) refl;
  leads = λ k opening word lv.
      let c = CallPart.call_part k (RecvTree.given opening word t closing) dot member paren in
      via (path old p1 p2 p3 p4 p5 p6 depth t closing dot member i f k opening word lt lv h)
      (via (takes p6 p7 kind.OpenParen paren (opens_args k (RecvTree.given opening word t closing) dot member) (State.args_due c) o.0 refl (omega arith)) (g.leads c (omega arith)));
}

-- ---- on the right side

pub value-not-opened : (old new : Parser) (depth : ℕ) (e : ParseError) → depth ≤ deepest → IsNext kind.OpenParen old → OpensLevel kind.OpenParen depth old new (Err e) → ReadsValue depth old new (Err e)
value-not-opened old new depth e le next o = λ a lv. not-opened old new kind.OpenParen depth (State.value_due a) e next o (λ u deep. (State.paren_seen a u, (refl, omega arith)))

-- the word that comes second isn't missed
pub word-missed : (old p1 new : Parser) (depth : ℕ) (opening : Token) (e : ParseError) → IsSecond kind.Consume old → OpensLevel kind.OpenParen depth old p1 (Ok opening) → TakesToken kind.Consume p1 new (Err e) → ⊥
word-missed old p1 new depth opening e next o miss = miss.1 next.0 (rw (o.0.2.at, o.0.2.tokens) next.1.0) next.1.1

value-opens : (old p1 p2 : Parser) (depth : ℕ) (opening word : Token) (a : Assigning) → level_assigning a ≡ depth → OpensLevel kind.OpenParen depth old p1 (Ok opening) → TakesToken kind.Consume p1 p2 (Ok word) → Leads old (State.value_due a) p2 (gives_receiver (CallFor.to_assign a) opening word)
value-opens old p1 p2 depth opening word a lv o h =
    via (takes old p1 kind.OpenParen opening (State.value_due a) (State.paren_seen a opening) o.0 refl (omega (arith, o.1)))
    (takes p1 p2 kind.Consume word (State.paren_seen a opening) (gives_receiver (CallFor.to_assign a) opening word) h refl (omega (arith, o.1)))

pub value-call : (old p1 p2 new : Parser) (depth : ℕ) (opening word : Token) (e : ParseError) → OpensLevel kind.OpenParen depth old p1 (Ok opening) → TakesToken kind.Consume p1 p2 (Ok word) → ReadsGiven depth p2 new (Err e) → ReadsValue depth old new (Err e)
value-call old p1 p2 new depth opening word e o h r = λ a lv. refused (value-opens old p1 p2 depth opening word a lv o h) (r (CallFor.to_assign a) opening word lv)

pub value-no-end : (old p1 p2 p3 new : Parser) (depth : ℕ) (opening word : Token) (c : Call) (e : ParseError) → OpensLevel kind.OpenParen depth old p1 (Ok opening) → TakesToken kind.Consume p1 p2 (Ok word) → ReadsGiven depth p2 p3 (Ok c) → TakesToken kind.Semicolon p3 new (Err e) →
    ReadsValue depth old new (Err e)
value-no-end old p1 p2 p3 new depth opening word c e o h g miss = λ a lv.
    refused (via (value-opens old p1 p2 depth opening word a lv o h) (g.leads (CallFor.to_assign a) opening word lv)) (misses p3 new kind.Semicolon e _ miss (only-expects p3 _ _ kind.Semicolon _))

pub value-ok : (old p1 p2 p3 new : Parser) (depth : ℕ) (opening word end : Token) (c : Call) → depth ≤ deepest → OpensLevel kind.OpenParen depth old p1 (Ok opening) → TakesToken kind.Consume p1 p2 (Ok word) → ReadsGiven depth p2 p3 (Ok c) → TakesToken kind.Semicolon p3 new (Ok end) →
    ValueRead depth old new (record { rhs = right.Call c; head = end; end = end })
value-ok old p1 p2 p3 new depth opening word end c le o h g s =
    let tree = CallTree.call (RecvTree.given opening word g.name g.closing) g.dot g.member g.paren g.list g.end in
    record {
      tree = RhsTree.called tree;
      is = ap (λ (x : Call). right.Call x) (g.is opening word) ∙ rw (h.2.text, h.2.program, o.0.2.text, o.0.2.program) refl;
      program = s.2.program ∙ g.program opening word ∙ rw (h.2.text, h.2.program, o.0.2.text, o.0.2.program) refl;
      head = refl;
      leads = λ a lv.
          via (value-opens old p1 p2 depth opening word a lv o h) (via (g.leads (CallFor.to_assign a) opening word lv)
          (takes p3 new kind.Semicolon end _ (after_value a (RhsTree.called tree) end) s refl (omega (arith, after_value-level a (RhsTree.called tree) end))));
    }
