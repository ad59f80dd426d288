-- The arms of the descent through `print E;`: what each does to the reading that is left.
use Rattle.std.proofs.Common.{◌≡◌, ℕ, ◌≤◌, [], None, Result, Ok, Err, refl, ◌∙◌, arith}
use Rattle.perm_tree.specs.declared.ast.Stmt.{Stmt}
use Rattle.perm_tree.specs.declared.ast.StmtKind.TheVariants as form
use Rattle.perm_tree.specs.declared.errors.ParseError.{ParseError}
use Rattle.perm_tree.specs.declared.tokens.Token.{Token}
use Rattle.perm_tree.specs.declared.tokens.TokenKind.{TokenKind}
use Rattle.perm_tree.specs.declared.tokens.TokenKind.TheVariants as kind
use Rattle.perm_parse.specs.declared.parser.Parser.{Parser}
use Rattle.perm_parse.specs.Grammar.{ExprTree, StmtTree, Stmts}
use Rattle.perm_parse.specs.States.{State, Purpose, Open, Outer, level_outer}
use Rattle.perm_parse.specs.Machine.{finish}
use Rattle.perm_parse.specs.Meaning.{simple}
use Rattle.perm_parse.specs.ParserResults.{TakesToken, Leads, IsClosed, ReadsExpr, PushesStmt, ReadsStmt}
use Rattle.perm_parse.specs.Parses.{deepest}
use Rattle.perm_parse.proofs.Descent.TokenSteps.{via, refused, here, no-memory, takes, misses}
use Rattle.perm_parse.proofs.Descent.Operands.{only-closes}

starts : (old p1 : Parser) (depth : ℕ) (word : Token) (u : Outer) (b : Stmts) → depth ≤ deepest → level_outer u ≡ depth → TakesToken kind.Print old p1 (Ok word) → Leads old (State.listing (Open.at u b)) p1 (State.operand [] (Purpose.to_print (Open.at u b) word))
starts old p1 depth word u b le lv h = takes old p1 kind.Print word (State.listing (Open.at u b)) (State.operand [] (Purpose.to_print (Open.at u b) word)) h refl (omega arith)

pub print-value : (old p1 new : Parser) (depth : ℕ) (word : Token) (e : ParseError) → depth ≤ deepest → TakesToken kind.Print old p1 (Ok word) → ReadsExpr 6 depth p1 new (Err e) → ReadsStmt depth old new (Err e)
print-value old p1 new depth word e le h r = λ u b lv. refused (starts old p1 depth word u b le lv h) (r [] (Purpose.to_print (Open.at u b) word) lv tt)

print-closes : (o : Open) (word : Token) (e : ExprTree) (t : Token) (other : TokenKind) → (other ≡ kind.Semicolon → ⊥) → finish (Purpose.to_print o word) e t other ≡ None
print-closes o word e t kind.Semicolon h = absurd (h refl)
print-closes o word e t _ h = refl

pub print-no-end : (old p1 p2 new : Parser) (depth x : ℕ) (word : Token) (e : ParseError) → depth ≤ deepest → TakesToken kind.Print old p1 (Ok word) → ReadsExpr 6 depth p1 p2 (Ok x) → IsClosed 6 p2 → TakesToken kind.Semicolon p2 new (Err e) → ReadsStmt depth old new (Err e)
print-no-end old p1 p2 new depth x word e le h g closed miss = λ u b lv.
    let k = Purpose.to_print (Open.at u b) word in
    refused (via (starts old p1 depth word u b le lv h) (g.leads [] k lv tt))
    (misses p2 new kind.Semicolon e (State.after g.tree [] k) miss (only-closes p2 kind.Semicolon g.tree k closed (λ t other n. print-closes (Open.at u b) word g.tree t other n)))

pub print-is : (old p1 p2 p3 new : Parser) (depth x : ℕ) (word end : Token) (s : Stmt) (r : Result ℕ ParseError) → depth ≤ deepest → TakesToken kind.Print old p1 (Ok word) → ReadsExpr 6 depth p1 p2 (Ok x) → TakesToken kind.Semicolon p2 p3 (Ok end) →
    s ≡ simple word end (form.Print x) → PushesStmt s p3 new r → ReadsStmt depth old new r
print-is old p1 p2 p3 new depth x word end s (Ok n) le h g h3 is d = record {
  tree = StmtTree.print word g.tree end;
  place = d.0 ∙ rw (h3.2.program, g.program, h.2.text, h.2.program) refl;
  program = d.1 ∙ rw (is, g.place, h3.2.program, g.program, h.2.text, h.2.program) refl;
  leads = λ u b lv.
      let k = Purpose.to_print (Open.at u b) word in
      let r = State.listing (Open.at u (Stmts.more_stmts b (StmtTree.print word g.tree end))) in
      via (starts old p1 depth word u b le lv h) (via (g.leads [] k lv tt) (via (takes p2 p3 kind.Semicolon end (State.after g.tree [] k) r h3 refl (omega arith)) (here p3 new r d.2)));
}
print-is old p1 p2 p3 new depth x word end s (Err e) le h g h3 is d = λ u b lv. no-memory old (State.listing (Open.at u b)) e d
