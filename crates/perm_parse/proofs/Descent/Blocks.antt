-- The arms of the descent through lists of statements and blocks: what each does to the reading that is left.
use Rattle.std.proofs.Common.{◌≡◌, ℕ, ◌+◌, ◌≤◌, ◌<◌, List, [], ◌∷◌, ◌++◌, false, Some, None, Ok, Err, refl, ◌∙◌, arith}
use Rattle.perm_tree.proofs.Pushes.{all_more, all_append}
use Rattle.perm_tree.specs.Places.{AllBelow}
use Rattle.perm_tree.specs.declared.errors.ParseError.{ParseError}
use Rattle.perm_tree.specs.declared.tokens.Token.{Token}
use Rattle.perm_tree.specs.declared.tokens.TokenKind.{TokenKind}
use Rattle.perm_tree.specs.declared.tokens.TokenKind.TheVariants as kind
use Rattle.perm_parse.specs.declared.parser.Parser.{Parser}
use Rattle.perm_parse.specs.Grammar.{BlockTree, Stmts}
use Rattle.perm_parse.specs.States.{State, BodyPart, Lead, Open, Outer, level_outer, level_state}
use Rattle.perm_parse.specs.Machine.{after_block, enter, gives, step_listing}
use Rattle.perm_parse.specs.ParserResults.{IsNoStmtNext, OpensLevel, TakesToken, Leads, Closes, begins_stmt, StmtRead, ReadsStmt, StmtsRead, ReadsStmts, BlockRead, ReadsBlock}
use Rattle.perm_parse.specs.Parses.{deepest}
use Rattle.perm_parse.proofs.Descent.TokenSteps.{via, refused, takes, misses}
use Rattle.perm_parse.proofs.Descent.Types.{opened-or}

-- ---- lists

pub stmts-none : (old : Parser) (depth : ℕ) (list : List ℕ) → list ≡ [] → StmtsRead depth old old list
stmts-none old depth list is = record { tree = Stmts.no_stmts; is = is; program = refl; leads = λ u lv. record { same = refl } }

pub stmts-err : (old p new : Parser) (depth : ℕ) (list : List ℕ) (e : ParseError) → StmtsRead depth old p list → ReadsStmt depth p new (Err e) → ReadsStmts depth old new (Err e)
stmts-err old p new depth list e g r = λ u lv. refused (g.leads u lv) (r u g.tree lv)

pub stmts-more : (old p new : Parser) (depth n : ℕ) (list more : List ℕ) → p.text ≡ old.text → StmtsRead depth old p list → StmtRead depth p new n → more ≡ list ++ n ∷ [] → StmtsRead depth old new more
stmts-more old p new depth n list more text g r is = record {
  tree = Stmts.more_stmts g.tree r.tree;
  is = is ∙ rw (g.is, r.place, text, g.program) refl;
  program = r.program ∙ rw (text, g.program) refl;
  leads = λ u lv. via (g.leads u lv) (r.leads u g.tree lv);
}

pub below-more : (n m : ℕ) (list : List ℕ) (x : ℕ) → n ≤ m → AllBelow n list → x < m → AllBelow m (list ++ x ∷ [])
below-more n m list x le below lt = all_append m list (x ∷ []) (all_more n m list le below) (lt, tt)

-- ---- what ends them

-- in the body of a method
pub body-closes : (d : BodyPart) (c : Stmts) (t : Token) (other : TokenKind) → begins_stmt other ≡ false → (other ≡ kind.Return → ⊥) → step_listing (Open.at (Outer.body d) c) t other ≡ None
body-closes d c t kind.Name h g = absurd (cc)
body-closes d c t kind.This h g = absurd (cc)
body-closes d c t kind.OpenParen h g = absurd (cc)
body-closes d c t kind.Long h g = absurd (cc)
body-closes d c t kind.Bool h g = absurd (cc)
body-closes d c t kind.Isolated h g = absurd (cc)
body-closes d c t kind.Immutable h g = absurd (cc)
body-closes d c t kind.Readable h g = absurd (cc)
body-closes d c t kind.Writable h g = absurd (cc)
body-closes d c t kind.Print h g = absurd (cc)
body-closes d c t kind.If h g = absurd (cc)
body-closes d c t kind.While h g = absurd (cc)
body-closes d c t kind.Par h g = absurd (cc)
body-closes d c t kind.Return h g = absurd (g refl)
body-closes d c t _ h g = refl

-- in a block of a statement, where another token isn't the brace, and isn't the `give` of a recover
inside-closes : (u : Outer) (b : Stmts) (lead : Lead) (opening : Token) (c : Stmts) (t : Token) (other : TokenKind) → begins_stmt other ≡ false → (other ≡ kind.CloseBrace → after_block u b lead (BlockTree.block opening c t) ≡ None) →
    (other ≡ kind.Give → gives u b lead opening c t ≡ None) → step_listing (Open.at (Outer.inside u b lead opening) c) t other ≡ None
inside-closes u b lead opening c t kind.Name h g k = absurd (cc)
inside-closes u b lead opening c t kind.This h g k = absurd (cc)
inside-closes u b lead opening c t kind.OpenParen h g k = absurd (cc)
inside-closes u b lead opening c t kind.Long h g k = absurd (cc)
inside-closes u b lead opening c t kind.Bool h g k = absurd (cc)
inside-closes u b lead opening c t kind.Isolated h g k = absurd (cc)
inside-closes u b lead opening c t kind.Immutable h g k = absurd (cc)
inside-closes u b lead opening c t kind.Readable h g k = absurd (cc)
inside-closes u b lead opening c t kind.Writable h g k = absurd (cc)
inside-closes u b lead opening c t kind.Print h g k = absurd (cc)
inside-closes u b lead opening c t kind.If h g k = absurd (cc)
inside-closes u b lead opening c t kind.While h g k = absurd (cc)
inside-closes u b lead opening c t kind.Par h g k = absurd (cc)
inside-closes u b lead opening c t kind.CloseBrace h g k = g refl
inside-closes u b lead opening c t kind.Give h g k = k refl
inside-closes u b lead opening c t _ h g k = refl

no-give : (u : Outer) (b : Stmts) (lead : Lead) (opening : Token) (c : Stmts) (t : Token) (next : BlockTree → State) → Closes u b lead next → gives u b lead opening c t ≡ None
no-give u b (Lead.then_lead word paren e closing) opening c t next closes = refl
no-give u b (Lead.else_lead word paren e closing a otherwise) opening c t next closes = refl
no-give u b (Lead.while_lead word paren e closing) opening c t next closes = refl
no-give u b (Lead.left_lead word) opening c t next closes = refl
no-give u b (Lead.right_lead word a) opening c t next closes = refl
no-give u b (Lead.recover_lead target equals word) opening c t next closes = absurd (let r : ⊥ = cc (closes (BlockTree.block opening c t)) in r)

block-closes : (u : Outer) (b : Stmts) (lead : Lead) (opening : Token) (c : Stmts) (next : BlockTree → State) (t : Token) (other : TokenKind) → Closes u b lead next → begins_stmt other ≡ false → (other ≡ kind.CloseBrace → ⊥) →
    step_listing (Open.at (Outer.inside u b lead opening) c) t other ≡ None
block-closes u b lead opening c next t other closes h g = inside-closes u b lead opening c t other h (λ e. absurd (g e)) (λ e. no-give u b lead opening c t next closes)

pub recover-closes : (u : Outer) (b : Stmts) (lead : Lead) (opening : Token) (c : Stmts) (t : Token) (other : TokenKind) → ((a : BlockTree) → after_block u b lead a ≡ None) → begins_stmt other ≡ false → (other ≡ kind.Give → ⊥) →
    step_listing (Open.at (Outer.inside u b lead opening) c) t other ≡ None
recover-closes u b lead opening c t other unclosed h g = inside-closes u b lead opening c t other h (λ e. unclosed (BlockTree.block opening c t)) (λ e. absurd (g e))

-- ---- blocks

same-level : (r q : State) → Some r ≡ Some q → level_state q ≡ level_state r
same-level r q h = cc

after_block-level : (u : Outer) (b : Stmts) (lead : Lead) (a : BlockTree) (q : State) → after_block u b lead a ≡ Some q → level_state q ≡ level_outer u
after_block-level u b (Lead.then_lead word paren e closing) a q h = same-level _ q h
after_block-level u b (Lead.else_lead word paren e closing c otherwise) a q h = same-level _ q h
after_block-level u b (Lead.while_lead word paren e closing) a q h = same-level _ q h
after_block-level u b (Lead.left_lead word) a q h = same-level _ q h
after_block-level u b (Lead.right_lead word c) a q h = same-level _ q h
after_block-level u b (Lead.recover_lead target equals word) a q h = absurd (let r : ⊥ = cc in r)

pub block-opens : (old p1 : Parser) (depth : ℕ) (opening : Token) (u : Outer) (b : Stmts) (lead : Lead) → level_outer u ≡ depth → OpensLevel kind.OpenBrace depth old p1 (Ok opening) →
    Leads old (enter (Open.at u b) lead) p1 (State.listing (Open.at (Outer.inside u b lead opening) Stmts.no_stmts))
block-opens old p1 depth opening u b lead lv o = takes old p1 kind.OpenBrace opening (enter (Open.at u b) lead) (State.listing (Open.at (Outer.inside u b lead opening) Stmts.no_stmts)) o.0 refl (omega (arith, o.1))

pub block-not-opened : (old new : Parser) (depth : ℕ) (e : ParseError) → OpensLevel kind.OpenBrace depth old new (Err e) → ReadsBlock depth old new (Err e)
block-not-opened old new depth e o = λ u b lead next lv closes. opened-or old new kind.OpenBrace depth _ _ _ e (λ t. omega arith) (λ t. refl) o

pub block-stmts : (old p1 new : Parser) (depth : ℕ) (opening : Token) (e : ParseError) → OpensLevel kind.OpenBrace depth old p1 (Ok opening) → ReadsStmts (depth + 1) p1 new (Err e) → ReadsBlock depth old new (Err e)
block-stmts old p1 new depth opening e o r = λ u b lead next lv closes. refused (block-opens old p1 depth opening u b lead lv o) (r (Outer.inside u b lead opening) (omega arith))

pub block-not-closed : (old p1 p2 new : Parser) (depth : ℕ) (opening : Token) (list : List ℕ) (e : ParseError) → OpensLevel kind.OpenBrace depth old p1 (Ok opening) → ReadsStmts (depth + 1) p1 p2 (Ok list) → IsNoStmtNext p2 → TakesToken kind.CloseBrace p2 new (Err e) →
    ReadsBlock depth old new (Err e)
block-not-closed old p1 p2 new depth opening list e o g ended miss = λ u b lead next lv closes.
    refused (via (block-opens old p1 depth opening u b lead lv o) (g.leads (Outer.inside u b lead opening) (omega arith)))
    (misses p2 new kind.CloseBrace e (State.listing (Open.at (Outer.inside u b lead opening) g.tree)) miss
    (record { others = λ t n other. block-closes u b lead opening g.tree next t t.kind closes (ended t n) other; ends = refl }))

pub block-ok : (old p1 p2 new : Parser) (depth : ℕ) (opening closing : Token) (list : List ℕ) → depth ≤ deepest → OpensLevel kind.OpenBrace depth old p1 (Ok opening) → ReadsStmts (depth + 1) p1 p2 (Ok list) → TakesToken kind.CloseBrace p2 new (Ok closing) →
    BlockRead depth old new (record { block = record { stmts = list }; closing = closing })
block-ok old p1 p2 new depth opening closing list le o g h = record {
  tree = BlockTree.block opening g.tree closing;
  is = rw (g.is, o.0.2.text, o.0.2.program) refl;
  program = h.2.program ∙ g.program ∙ rw (o.0.2.text, o.0.2.program) refl;
  last = refl;
  leads = λ u b lead next lv closes.
      via (block-opens old p1 depth opening u b lead lv o)
      (via (g.leads (Outer.inside u b lead opening) (omega arith))
      (takes p2 new kind.CloseBrace closing (State.listing (Open.at (Outer.inside u b lead opening) g.tree)) (next (BlockTree.block opening g.tree closing)) h (closes (BlockTree.block opening g.tree closing))
      (omega (arith, after_block-level u b lead (BlockTree.block opening g.tree closing) (next (BlockTree.block opening g.tree closing)) (closes (BlockTree.block opening g.tree closing))))));
}
