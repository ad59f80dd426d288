-- The arms of the descent through `if`, `while` and `par`: what each does to the reading that is left.
use Rattle.std.proofs.Common.{◌≡◌, ℕ, ◌+◌, ◌≤◌, List, [], ◌∷◌, Some, None, Result, Ok, Err, refl, ◌∙◌, arith}
use Rattle.perm_tree.specs.declared.ast.Stmt.{Stmt}
use Rattle.perm_tree.specs.declared.ast.StmtKind.TheVariants as form
use Rattle.perm_tree.specs.declared.errors.ParseError.{ParseError}
use Rattle.perm_tree.specs.declared.tokens.Token.{Token}
use Rattle.perm_tree.specs.declared.tokens.TokenKind.{TokenKind}
use Rattle.perm_tree.specs.declared.tokens.TokenKind.TheVariants as kind
use Rattle.perm_parse.specs.declared.parser.Parser.{Parser}
use Rattle.perm_parse.specs.declared.parser.Braced.{Braced}
use Rattle.perm_parse.specs.declared.parser.Test.{Test}
use Rattle.perm_parse.specs.Grammar.{ExprTree, BlockTree, StmtTree, Stmts}
use Rattle.perm_parse.specs.States.{State, Purpose, Lead, Open, Outer, open_text, level_open, level_outer}
use Rattle.perm_parse.specs.Machine.{add_if, enter, finish, step_after_then, step_listing}
use Rattle.perm_parse.specs.Meaning.{span_over}
use Rattle.perm_parse.specs.ParserResults.{IsNotNext, TakesToken, OpensLevel, Leads, IsClosed, ReadsExpr, PushesStmt, ReadsStmt, ReadsBlock, Between, TestRead, ReadsTest, test_due}
use Rattle.perm_parse.specs.Parses.{deepest}
use Rattle.perm_parse.proofs.Descent.TokenSteps.{via, refused, here, no-memory, takes, misses, same-next}
use Rattle.perm_parse.proofs.Descent.Operands.{only-closes}
use Rattle.perm_parse.proofs.Descent.Types.{opened-or}

-- ---- conditions

pub test-not-opened : (old new : Parser) (depth : ℕ) (e : ParseError) → OpensLevel kind.OpenParen depth old new (Err e) → ReadsTest depth old new (Err e)
test-not-opened old new depth e o = λ so_far d purpose next between. opened-or old new kind.OpenParen depth so_far d (λ opening. State.operand [] (purpose opening)) e between.level (λ t. refl) o

test-opens : (old p1 : Parser) (depth : ℕ) (opening : Token) (so_far : List Token → List Token) (d : ℕ) (purpose : Token → Purpose) (next : Token → ExprTree → Token → State) → Between depth purpose next → OpensLevel kind.OpenParen depth old p1 (Ok opening) →
    Leads old (test_due so_far d purpose) p1 (State.operand [] (purpose opening))
test-opens old p1 depth opening so_far d purpose next between o = takes old p1 kind.OpenParen opening (test_due so_far d purpose) (State.operand [] (purpose opening)) o.0 refl (omega (arith, o.1, between.level opening))

pub test-value : (old p1 new : Parser) (depth : ℕ) (opening : Token) (e : ParseError) → OpensLevel kind.OpenParen depth old p1 (Ok opening) → ReadsExpr 6 (depth + 1) p1 new (Err e) → ReadsTest depth old new (Err e)
test-value old p1 new depth opening e o r = λ so_far d purpose next between. refused (test-opens old p1 depth opening so_far d purpose next between o) (r [] (purpose opening) (between.level opening) tt)

pub test-not-closed : (old p1 p2 new : Parser) (depth x : ℕ) (opening : Token) (e : ParseError) → OpensLevel kind.OpenParen depth old p1 (Ok opening) → ReadsExpr 6 (depth + 1) p1 p2 (Ok x) → IsClosed 6 p2 → TakesToken kind.CloseParen p2 new (Err e) → ReadsTest depth old new (Err e)
test-not-closed old p1 p2 new depth x opening e o g closed miss = λ so_far d purpose next between.
    refused (via (test-opens old p1 depth opening so_far d purpose next between o) (g.leads [] (purpose opening) (between.level opening) tt))
    (misses p2 new kind.CloseParen e (State.after g.tree [] (purpose opening)) miss (only-closes p2 kind.CloseParen g.tree (purpose opening) closed (λ t other n. between.others opening g.tree t other n)))

pub test-ok : (old p1 p2 new : Parser) (depth x : ℕ) (opening closing : Token) → depth ≤ deepest → OpensLevel kind.OpenParen depth old p1 (Ok opening) → ReadsExpr 6 (depth + 1) p1 p2 (Ok x) → TakesToken kind.CloseParen p2 new (Ok closing) →
    TestRead depth old new (record { value = x; closing = closing })
test-ok old p1 p2 new depth x opening closing le o g h = record {
  opening = opening;
  tree = g.tree;
  place = g.place ∙ rw (o.0.2.text, o.0.2.program) refl;
  program = h.2.program ∙ g.program ∙ rw (o.0.2.text, o.0.2.program) refl;
  leads = λ so_far d purpose next between.
      via (test-opens old p1 depth opening so_far d purpose next between o)
      (via (g.leads [] (purpose opening) (between.level opening) tt)
      (takes p2 new kind.CloseParen closing (State.after g.tree [] (purpose opening)) (next opening g.tree closing) h (between.closes opening g.tree closing) (omega (arith, between.behind opening g.tree closing))));
}

-- ---- `while`

while-others : (o : Open) (word opening : Token) (e : ExprTree) (t : Token) (other : TokenKind) → (other ≡ kind.CloseParen → ⊥) → finish (Purpose.to_while o word opening) e t other ≡ None
while-others o word opening e t kind.CloseParen n = absurd (n refl)
while-others o word opening e t _ n = refl

between-while : (depth : ℕ) (u : Outer) (b : Stmts) (word : Token) → level_outer u ≡ depth → Between depth (λ opening. Purpose.to_while (Open.at u b) word opening) (λ opening e t. enter (Open.at u b) (Lead.while_lead word opening e t))
between-while depth u b word lv = record {
  level = λ opening. omega arith;
  behind = λ opening e t. lv;
  closes = λ opening e t. refl;
  others = λ opening e t other n. while-others (Open.at u b) word opening e t other n;
}

while-starts : (old p1 : Parser) (depth : ℕ) (word : Token) (u : Outer) (b : Stmts) → depth ≤ deepest → level_outer u ≡ depth → TakesToken kind.While old p1 (Ok word) →
    Leads old (State.listing (Open.at u b)) p1 (test_due (λ rest. open_text (Open.at u b) (word ∷ rest)) (level_open (Open.at u b)) (λ opening. Purpose.to_while (Open.at u b) word opening))
while-starts old p1 depth word u b le lv h = takes old p1 kind.While word (State.listing (Open.at u b)) _ h refl (omega arith)

pub while-test : (old p1 new : Parser) (depth : ℕ) (word : Token) (e : ParseError) → depth ≤ deepest → TakesToken kind.While old p1 (Ok word) → ReadsTest depth p1 new (Err e) → ReadsStmt depth old new (Err e)
while-test old p1 new depth word e le h r = λ u b lv. refused (while-starts old p1 depth word u b le lv h) (r _ _ _ _ (between-while depth u b word lv))

pub while-body : (old p1 p2 new : Parser) (depth : ℕ) (word : Token) (v : Test) (e : ParseError) → depth ≤ deepest → TakesToken kind.While old p1 (Ok word) → ReadsTest depth p1 p2 (Ok v) → ReadsBlock depth p2 new (Err e) → ReadsStmt depth old new (Err e)
while-body old p1 p2 new depth word v e le h t r = λ u b lv.
    refused (via (while-starts old p1 depth word u b le lv h) (t.leads _ _ _ _ (between-while depth u b word lv)))
    (r u b (Lead.while_lead word t.opening t.tree v.closing) (λ a. State.listing (Open.at u (Stmts.more_stmts b (StmtTree.repeat word t.opening t.tree v.closing a)))) lv (λ a. refl))

pub while-is : (old p1 p2 p3 new : Parser) (depth : ℕ) (word : Token) (v : Test) (w : Braced) (s : Stmt) (r : Result ℕ ParseError) → depth ≤ deepest → TakesToken kind.While old p1 (Ok word) → ReadsTest depth p1 p2 (Ok v) → p2.text ≡ old.text → ReadsBlock depth p2 p3 (Ok w) →
    s ≡ record { span = span_over word w.closing; head = span_over word v.closing; kind = form.While v.value w.block } → PushesStmt s p3 new r → ReadsStmt depth old new r
while-is old p1 p2 p3 new depth word v w s (Ok n) le h t text g is d =
    let tree = StmtTree.repeat word t.opening t.tree v.closing g.tree in
    record {
      tree = tree;
      place = d.0 ∙ rw (g.program, text, t.program, h.2.text, h.2.program) refl;
      program = d.1 ∙ rw (is, t.place, g.is, g.last, g.program, text, t.program, h.2.text, h.2.program) refl;
      leads = λ u b lv.
          via (while-starts old p1 depth word u b le lv h)
          (via (t.leads _ _ _ _ (between-while depth u b word lv))
          (via (g.leads u b (Lead.while_lead word t.opening t.tree v.closing) (λ a. State.listing (Open.at u (Stmts.more_stmts b (StmtTree.repeat word t.opening t.tree v.closing a)))) lv (λ a. refl))
          (here p3 new (State.listing (Open.at u (Stmts.more_stmts b tree))) d.2)));
    }
while-is old p1 p2 p3 new depth word v w s (Err e) le h t text g is d = λ u b lv. no-memory old (State.listing (Open.at u b)) e d

-- ---- `par`

par-starts : (old p1 : Parser) (depth : ℕ) (word : Token) (u : Outer) (b : Stmts) → depth ≤ deepest → level_outer u ≡ depth → TakesToken kind.Par old p1 (Ok word) → Leads old (State.listing (Open.at u b)) p1 (enter (Open.at u b) (Lead.left_lead word))
par-starts old p1 depth word u b le lv h = takes old p1 kind.Par word (State.listing (Open.at u b)) (enter (Open.at u b) (Lead.left_lead word)) h refl (omega arith)

pub par-left : (old p1 new : Parser) (depth : ℕ) (word : Token) (e : ParseError) → depth ≤ deepest → TakesToken kind.Par old p1 (Ok word) → ReadsBlock depth p1 new (Err e) → ReadsStmt depth old new (Err e)
par-left old p1 new depth word e le h r = λ u b lv. refused (par-starts old p1 depth word u b le lv h) (r u b (Lead.left_lead word) (λ a. enter (Open.at u b) (Lead.right_lead word a)) lv (λ a. refl))

pub par-right : (old p1 p2 new : Parser) (depth : ℕ) (word : Token) (v : Braced) (e : ParseError) → depth ≤ deepest → TakesToken kind.Par old p1 (Ok word) → ReadsBlock depth p1 p2 (Ok v) → ReadsBlock depth p2 new (Err e) → ReadsStmt depth old new (Err e)
par-right old p1 p2 new depth word v e le h g r = λ u b lv.
    refused (via (par-starts old p1 depth word u b le lv h) (g.leads u b (Lead.left_lead word) (λ a. enter (Open.at u b) (Lead.right_lead word a)) lv (λ a. refl)))
    (r u b (Lead.right_lead word g.tree) (λ a. State.listing (Open.at u (Stmts.more_stmts b (StmtTree.par word g.tree a)))) lv (λ a. refl))

pub par-is : (old p1 p2 p3 new : Parser) (depth : ℕ) (word : Token) (v w : Braced) (s : Stmt) (r : Result ℕ ParseError) → depth ≤ deepest → TakesToken kind.Par old p1 (Ok word) → ReadsBlock depth p1 p2 (Ok v) → p2.text ≡ old.text → ReadsBlock depth p2 p3 (Ok w) →
    s ≡ record { span = span_over word w.closing; head = word.span; kind = form.Par v.block w.block } → PushesStmt s p3 new r → ReadsStmt depth old new r
par-is old p1 p2 p3 new depth word v w s (Ok n) le h g text f is d =
    let tree = StmtTree.par word g.tree f.tree in
    record {
      tree = tree;
      place = d.0 ∙ rw (f.program, text, g.program, h.2.text, h.2.program) refl;
      program = d.1 ∙ rw (is, f.is, g.is, f.last, f.program, text, g.program, h.2.text, h.2.program) refl;
      leads = λ u b lv.
          via (par-starts old p1 depth word u b le lv h)
          (via (g.leads u b (Lead.left_lead word) (λ a. enter (Open.at u b) (Lead.right_lead word a)) lv (λ a. refl))
          (via (f.leads u b (Lead.right_lead word g.tree) (λ a. State.listing (Open.at u (Stmts.more_stmts b (StmtTree.par word g.tree a)))) lv (λ a. refl))
          (here p3 new (State.listing (Open.at u (Stmts.more_stmts b tree))) d.2)));
    }
par-is old p1 p2 p3 new depth word v w s (Err e) le h g text f is d = λ u b lv. no-memory old (State.listing (Open.at u b)) e d

-- ---- `if`

if-others : (o : Open) (word opening : Token) (e : ExprTree) (t : Token) (other : TokenKind) → (other ≡ kind.CloseParen → ⊥) → finish (Purpose.to_if o word opening) e t other ≡ None
if-others o word opening e t kind.CloseParen n = absurd (n refl)
if-others o word opening e t _ n = refl

between-if : (depth : ℕ) (u : Outer) (b : Stmts) (word : Token) → level_outer u ≡ depth → Between depth (λ opening. Purpose.to_if (Open.at u b) word opening) (λ opening e t. enter (Open.at u b) (Lead.then_lead word opening e t))
between-if depth u b word lv = record {
  level = λ opening. omega arith;
  behind = λ opening e t. lv;
  closes = λ opening e t. refl;
  others = λ opening e t other n. if-others (Open.at u b) word opening e t other n;
}

if-starts : (old p1 : Parser) (depth : ℕ) (word : Token) (u : Outer) (b : Stmts) → depth ≤ deepest → level_outer u ≡ depth → TakesToken kind.If old p1 (Ok word) →
    Leads old (State.listing (Open.at u b)) p1 (test_due (λ rest. open_text (Open.at u b) (word ∷ rest)) (level_open (Open.at u b)) (λ opening. Purpose.to_if (Open.at u b) word opening))
if-starts old p1 depth word u b le lv h = takes old p1 kind.If word (State.listing (Open.at u b)) _ h refl (omega arith)

pub if-test : (old p1 new : Parser) (depth : ℕ) (word : Token) (e : ParseError) → depth ≤ deepest → TakesToken kind.If old p1 (Ok word) → ReadsTest depth p1 new (Err e) → ReadsStmt depth old new (Err e)
if-test old p1 new depth word e le h r = λ u b lv. refused (if-starts old p1 depth word u b le lv h) (r _ _ _ _ (between-if depth u b word lv))

pub if-first : (old p1 p2 new : Parser) (depth : ℕ) (word : Token) (v : Test) (e : ParseError) → depth ≤ deepest → TakesToken kind.If old p1 (Ok word) → ReadsTest depth p1 p2 (Ok v) → ReadsBlock depth p2 new (Err e) → ReadsStmt depth old new (Err e)
if-first old p1 p2 new depth word v e le h t r = λ u b lv.
    refused (via (if-starts old p1 depth word u b le lv h) (t.leads _ _ _ _ (between-if depth u b word lv)))
    (r u b (Lead.then_lead word t.opening t.tree v.closing) (λ a. State.after_then (Open.at u b) word t.opening t.tree v.closing a) lv (λ a. refl))

-- an `if` was read up to behind its first block
pub record IfPath (depth : ℕ) (old p1 p2 p3 : Parser) (word : Token) (v : Test) (w : Braced) : Type 0 where
  pub word_next : TakesToken kind.If old p1 (Ok word)
  pub test : ReadsTest depth p1 p2 (Ok v)
  pub text : p2.text ≡ old.text
  pub first : ReadsBlock depth p2 p3 (Ok w)

if-goes : (old p1 p2 p3 : Parser) (depth : ℕ) (word : Token) (v : Test) (w : Braced) (u : Outer) (b : Stmts) → depth ≤ deepest → level_outer u ≡ depth → (i : IfPath depth old p1 p2 p3 word v w) →
    Leads old (State.listing (Open.at u b)) p3 (State.after_then (Open.at u b) word i.test.opening i.test.tree v.closing i.first.tree)
if-goes old p1 p2 p3 depth word v w u b le lv i =
    via (if-starts old p1 depth word u b le lv i.word_next)
    (via (i.test.leads _ _ _ _ (between-if depth u b word lv))
    (i.first.leads u b (Lead.then_lead word i.test.opening i.test.tree v.closing) (λ a. State.after_then (Open.at u b) word i.test.opening i.test.tree v.closing a) lv (λ a. refl)))

-- without `else` the statement is complete
no-else : (o : Open) (word opening : Token) (e : ExprTree) (closing : Token) (a : BlockTree) (t : Token) (other : TokenKind) → (other ≡ kind.Else → ⊥) → step_after_then o word opening e closing a t other ≡ step_listing (add_if o word opening e closing a) t other
no-else o word opening e closing a t kind.Else n = absurd (n refl)
no-else o word opening e closing a t _ n = refl

settle-if : (p : Parser) (o : Open) (word opening : Token) (e : ExprTree) (closing : Token) (a : BlockTree) → IsNotNext kind.Else p → Leads p (State.after_then o word opening e closing a) p (State.listing (add_if o word opening e closing a))
settle-if p o word opening e closing a h = same-next p (State.after_then o word opening e closing a) (State.listing (add_if o word opening e closing a)) (λ t n. no-else o word opening e closing a t t.kind (h t n)) refl

pub if-is : (old p1 p2 p3 new : Parser) (depth : ℕ) (word : Token) (v : Test) (w : Braced) (s : Stmt) (r : Result ℕ ParseError) → depth ≤ deepest → IfPath depth old p1 p2 p3 word v w → IsNotNext kind.Else p3 →
    s ≡ record { span = span_over word w.closing; head = span_over word v.closing; kind = form.If v.value w.block None } → PushesStmt s p3 new r → ReadsStmt depth old new r
if-is old p1 p2 p3 new depth word v w s (Ok n) le i no_else is d =
    let tree = StmtTree.if_then word i.test.opening i.test.tree v.closing i.first.tree in
    record {
      tree = tree;
      place = d.0 ∙ rw (i.first.program, i.text, i.test.program, i.word_next.2.text, i.word_next.2.program) refl;
      program = d.1 ∙ rw (is, i.test.place, i.first.is, i.first.last, i.first.program, i.text, i.test.program, i.word_next.2.text, i.word_next.2.program) refl;
      leads = λ u b lv.
          via (if-goes old p1 p2 p3 depth word v w u b le lv i)
          (via (settle-if p3 (Open.at u b) word i.test.opening i.test.tree v.closing i.first.tree no_else) (here p3 new (State.listing (Open.at u (Stmts.more_stmts b tree))) d.2));
    }
if-is old p1 p2 p3 new depth word v w s (Err e) le i no_else is d = λ u b lv. no-memory old (State.listing (Open.at u b)) e d

else-starts : (p3 p4 : Parser) (depth : ℕ) (word opening : Token) (e : ExprTree) (closing : Token) (a : BlockTree) (otherwise : Token) (u : Outer) (b : Stmts) → depth ≤ deepest → level_outer u ≡ depth → TakesToken kind.Else p3 p4 (Ok otherwise) →
    Leads p3 (State.after_then (Open.at u b) word opening e closing a) p4 (enter (Open.at u b) (Lead.else_lead word opening e closing a otherwise))
else-starts p3 p4 depth word opening e closing a otherwise u b le lv h = takes p3 p4 kind.Else otherwise (State.after_then (Open.at u b) word opening e closing a) (enter (Open.at u b) (Lead.else_lead word opening e closing a otherwise)) h refl (omega arith)

pub else-block : (old p1 p2 p3 p4 new : Parser) (depth : ℕ) (word otherwise : Token) (v : Test) (w : Braced) (e : ParseError) → depth ≤ deepest → IfPath depth old p1 p2 p3 word v w → TakesToken kind.Else p3 p4 (Ok otherwise) → ReadsBlock depth p4 new (Err e) →
    ReadsStmt depth old new (Err e)
else-block old p1 p2 p3 p4 new depth word otherwise v w e le i h r = λ u b lv.
    refused (via (if-goes old p1 p2 p3 depth word v w u b le lv i) (else-starts p3 p4 depth word i.test.opening i.test.tree v.closing i.first.tree otherwise u b le lv h))
    (r u b (Lead.else_lead word i.test.opening i.test.tree v.closing i.first.tree otherwise) (λ a. State.listing (Open.at u (Stmts.more_stmts b (StmtTree.if_else word i.test.opening i.test.tree v.closing i.first.tree otherwise a)))) lv (λ a. refl))

pub else-is : (old p1 p2 p3 p4 p5 new : Parser) (depth : ℕ) (word otherwise : Token) (v : Test) (w x : Braced) (s : Stmt) (r : Result ℕ ParseError) → depth ≤ deepest → IfPath depth old p1 p2 p3 word v w → TakesToken kind.Else p3 p4 (Ok otherwise) → p3.text ≡ old.text →
    ReadsBlock depth p4 p5 (Ok x) → s ≡ record { span = span_over word x.closing; head = span_over word v.closing; kind = form.If v.value w.block (Some x.block) } → PushesStmt s p5 new r → ReadsStmt depth old new r
else-is old p1 p2 p3 p4 p5 new depth word otherwise v w x s (Ok n) le i h text g is d =
    let tree = StmtTree.if_else word i.test.opening i.test.tree v.closing i.first.tree otherwise g.tree in
    record {
      tree = tree;
      place = d.0 ∙ rw (g.program, h.2.text, text, h.2.program, i.first.program, i.text, i.test.program, i.word_next.2.text, i.word_next.2.program) refl;
      program = d.1 ∙ rw (is, g.is, g.last, i.test.place, i.first.is, g.program, h.2.text, text, h.2.program, i.first.program, i.text, i.test.program, i.word_next.2.text, i.word_next.2.program) refl;
      leads = λ u b lv.
          via (if-goes old p1 p2 p3 depth word v w u b le lv i)
          (via (else-starts p3 p4 depth word i.test.opening i.test.tree v.closing i.first.tree otherwise u b le lv h)
          (via (g.leads u b (Lead.else_lead word i.test.opening i.test.tree v.closing i.first.tree otherwise) (λ a. State.listing (Open.at u (Stmts.more_stmts b (StmtTree.if_else word i.test.opening i.test.tree v.closing i.first.tree otherwise a)))) lv (λ a. refl))
          (here p5 new (State.listing (Open.at u (Stmts.more_stmts b tree))) d.2)));
    }
else-is old p1 p2 p3 p4 p5 new depth word otherwise v w x s (Err e) le i h text g is d = λ u b lv. no-memory old (State.listing (Open.at u b)) e d
