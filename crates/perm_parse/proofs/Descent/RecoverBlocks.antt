-- The arms of the descent through `recover`: what each does to the reading that is left.
use Rattle.std.proofs.Common.{◌≡◌, ℕ, ◌+◌, ◌≤◌, ◌<◌, List, Ok, Err, refl, ◌∙◌, arith}
use Rattle.perm_tree.specs.declared.ast.Ident.{Ident}
use Rattle.perm_tree.specs.declared.ast.Rhs.TheVariants as right
use Rattle.perm_tree.specs.declared.ast.Span.{Span}
use Rattle.perm_tree.specs.declared.errors.ParseError.{ParseError}
use Rattle.perm_tree.specs.declared.tokens.Token.{Token}
use Rattle.perm_tree.specs.declared.tokens.TokenKind.TheVariants as kind
use Rattle.perm_parse.specs.declared.parser.Parser.{Parser}
use Rattle.perm_parse.specs.Grammar.{TargetTree, RhsTree, Stmts}
use Rattle.perm_parse.specs.States.{State, Assigning, Lead, Open, Outer, level_assigning, level_outer}
use Rattle.perm_parse.specs.Machine.{after_value, enter}
use Rattle.perm_parse.specs.Meaning.{span_over}
use Rattle.perm_parse.specs.ParserResults.{IsNoStmtNext, TakesToken, OpensLevel, NamesToken, Leads, Refuses, ReadsStmts, ValueRead}
use Rattle.perm_parse.specs.Parses.{deepest}
use Rattle.perm_parse.proofs.Descent.TokenSteps.{via, refused, here, takes, misses, only-expects}
use Rattle.perm_parse.proofs.Descent.Types.{opened-or}
use Rattle.perm_parse.proofs.Descent.Blocks.{block-opens, recover-closes}

word-starts : (old p1 : Parser) (depth : ℕ) (word : Token) (u : Outer) (c : Stmts) (target : TargetTree) (equals : Token) → depth ≤ deepest → level_outer u ≡ depth → TakesToken kind.Recover old p1 (Ok word) →
    Leads old (State.value_due (Assigning.assigning (Open.at u c) target equals)) p1 (enter (Open.at u c) (Lead.recover_lead target equals word))
word-starts old p1 depth word u c target equals le lv h = takes old p1 kind.Recover word (State.value_due (Assigning.assigning (Open.at u c) target equals)) (enter (Open.at u c) (Lead.recover_lead target equals word)) h refl (omega arith)

pub recover-not-opened : (old p1 new : Parser) (depth : ℕ) (word : Token) (e : ParseError) → depth ≤ deepest → TakesToken kind.Recover old p1 (Ok word) → OpensLevel kind.OpenBrace depth p1 new (Err e) → (a : Assigning) → level_assigning a ≡ depth → Refuses old (State.value_due a) e
recover-not-opened old p1 new depth word e le h o (Assigning.assigning (Open.at u c) target equals) lv =
    refused (word-starts old p1 depth word u c target equals le lv h) (opened-or p1 new kind.OpenBrace depth _ _ _ e (λ t. omega arith) (λ t. refl) o)

recover-starts : (old p1 p2 : Parser) (depth : ℕ) (word opening : Token) (u : Outer) (c : Stmts) (target : TargetTree) (equals : Token) → depth ≤ deepest → level_outer u ≡ depth → TakesToken kind.Recover old p1 (Ok word) → OpensLevel kind.OpenBrace depth p1 p2 (Ok opening) →
    Leads old (State.value_due (Assigning.assigning (Open.at u c) target equals)) p2 (State.listing (Open.at (Outer.inside u c (Lead.recover_lead target equals word) opening) Stmts.no_stmts))
recover-starts old p1 p2 depth word opening u c target equals le lv h o = via (word-starts old p1 depth word u c target equals le lv h) (block-opens p1 p2 depth opening u c (Lead.recover_lead target equals word) lv o)

pub recover-stmts : (old p1 p2 new : Parser) (depth : ℕ) (word opening : Token) (e : ParseError) → depth ≤ deepest → TakesToken kind.Recover old p1 (Ok word) → OpensLevel kind.OpenBrace depth p1 p2 (Ok opening) → ReadsStmts (depth + 1) p2 new (Err e) →
    (a : Assigning) → level_assigning a ≡ depth → Refuses old (State.value_due a) e
recover-stmts old p1 p2 new depth word opening e le h o r (Assigning.assigning (Open.at u c) target equals) lv =
    refused (recover-starts old p1 p2 depth word opening u c target equals le lv h o) (r (Outer.inside u c (Lead.recover_lead target equals word) opening) (omega arith))

-- a recover was read up to behind its statements
pub record RecoverPath (depth : ℕ) (old p1 p2 p3 : Parser) (word opening : Token) (list : List ℕ) : Type 0 where
  pub word_next : TakesToken kind.Recover old p1 (Ok word)
  pub opened : OpensLevel kind.OpenBrace depth p1 p2 (Ok opening)
  pub stmts : ReadsStmts (depth + 1) p2 p3 (Ok list)

recover-goes : (old p1 p2 p3 : Parser) (depth : ℕ) (word opening : Token) (list : List ℕ) (u : Outer) (c : Stmts) (target : TargetTree) (equals : Token) → depth ≤ deepest → level_outer u ≡ depth → (path : RecoverPath depth old p1 p2 p3 word opening list) →
    Leads old (State.value_due (Assigning.assigning (Open.at u c) target equals)) p3 (State.listing (Open.at (Outer.inside u c (Lead.recover_lead target equals word) opening) path.stmts.tree))
recover-goes old p1 p2 p3 depth word opening list u c target equals le lv path =
    via (recover-starts old p1 p2 depth word opening u c target equals le lv path.word_next path.opened) (path.stmts.leads (Outer.inside u c (Lead.recover_lead target equals word) opening) (omega arith))

pub recover-no-give : (old p1 p2 p3 new : Parser) (depth : ℕ) (word opening : Token) (list : List ℕ) (e : ParseError) → depth ≤ deepest → RecoverPath depth old p1 p2 p3 word opening list → IsNoStmtNext p3 → TakesToken kind.Give p3 new (Err e) →
    (a : Assigning) → level_assigning a ≡ depth → Refuses old (State.value_due a) e
recover-no-give old p1 p2 p3 new depth word opening list e le path ended miss (Assigning.assigning (Open.at u c) target equals) lv =
    let lead = Lead.recover_lead target equals word in
    refused (recover-goes old p1 p2 p3 depth word opening list u c target equals le lv path)
    (misses p3 new kind.Give e (State.listing (Open.at (Outer.inside u c lead opening) path.stmts.tree)) miss
    (record { others = λ t n other. recover-closes u c lead opening path.stmts.tree t t.kind (λ a. refl) (ended t n) other; ends = refl }))

pub recover-no-name : (old p1 p2 p3 p4 new : Parser) (depth : ℕ) (word opening give : Token) (list : List ℕ) (e : ParseError) → depth < deepest → RecoverPath depth old p1 p2 p3 word opening list → TakesToken kind.Give p3 p4 (Ok give) → TakesToken kind.Name p4 new (Err e) →
    (a : Assigning) → level_assigning a ≡ depth → Refuses old (State.value_due a) e
recover-no-name old p1 p2 p3 p4 new depth word opening give list e le path h miss (Assigning.assigning (Open.at u c) target equals) lv =
    refused (via (recover-goes old p1 p2 p3 depth word opening list u c target equals (omega arith) lv path) (takes p3 p4 kind.Give give _ _ h refl (omega arith)))
    (misses p4 new kind.Name e _ miss (only-expects p4 _ _ kind.Name _))

pub recover-no-end : (old p1 p2 p3 p4 p5 p6 new : Parser) (depth : ℕ) (word opening give name : Token) (list : List ℕ) (i : Ident) (e : ParseError) → depth < deepest → RecoverPath depth old p1 p2 p3 word opening list → TakesToken kind.Give p3 p4 (Ok give) →
    TakesToken kind.Name p4 p5 (Ok name) → NamesToken name p5 p6 (Ok i) → TakesToken kind.Semicolon p6 new (Err e) → (a : Assigning) → level_assigning a ≡ depth → Refuses old (State.value_due a) e
recover-no-end old p1 p2 p3 p4 p5 p6 new depth word opening give name list i e le path h h5 n miss (Assigning.assigning (Open.at u c) target equals) lv =
    refused (via (recover-goes old p1 p2 p3 depth word opening list u c target equals (omega arith) lv path)
    (via (takes p3 p4 kind.Give give _ _ h refl (omega arith))
    (via (takes p4 p5 kind.Name name _ _ h5 refl (omega arith)) (here p5 p6 _ n.2))))
    (misses p6 new kind.Semicolon e _ miss (only-expects p6 _ _ kind.Semicolon _))

pub recover-not-closed : (old p1 p2 p3 p4 p5 p6 p7 new : Parser) (depth : ℕ) (word opening give name end : Token) (list : List ℕ) (i : Ident) (e : ParseError) → depth < deepest → RecoverPath depth old p1 p2 p3 word opening list → TakesToken kind.Give p3 p4 (Ok give) →
    TakesToken kind.Name p4 p5 (Ok name) → NamesToken name p5 p6 (Ok i) → TakesToken kind.Semicolon p6 p7 (Ok end) → TakesToken kind.CloseBrace p7 new (Err e) → (a : Assigning) → level_assigning a ≡ depth → Refuses old (State.value_due a) e
recover-not-closed old p1 p2 p3 p4 p5 p6 p7 new depth word opening give name end list i e le path h h5 n h7 miss (Assigning.assigning (Open.at u c) target equals) lv =
    refused (via (recover-goes old p1 p2 p3 depth word opening list u c target equals (omega arith) lv path)
    (via (takes p3 p4 kind.Give give _ _ h refl (omega arith))
    (via (takes p4 p5 kind.Name name _ _ h5 refl (omega arith)) (via (here p5 p6 _ n.2)
    (takes p6 p7 kind.Semicolon end _ _ h7 refl (omega arith))))))
    (misses p7 new kind.CloseBrace e _ miss (only-expects p7 _ _ kind.CloseBrace _))

-- what is given, up to behind the brace
pub record GivePath (p3 p4 p5 p6 p7 p8 : Parser) (give name end closing : Token) (i : Ident) : Type 0 where
  pub give_next : TakesToken kind.Give p3 p4 (Ok give)
  pub name_next : TakesToken kind.Name p4 p5 (Ok name)
  pub named : NamesToken name p5 p6 (Ok i)
  pub ended : TakesToken kind.Semicolon p6 p7 (Ok end)
  pub closed : TakesToken kind.CloseBrace p7 p8 (Ok closing)

pub recover-no-last : (old p1 p2 p3 p4 p5 p6 p7 p8 new : Parser) (depth : ℕ) (word opening give name end closing : Token) (list : List ℕ) (i : Ident) (e : ParseError) → depth < deepest → RecoverPath depth old p1 p2 p3 word opening list →
    GivePath p3 p4 p5 p6 p7 p8 give name end closing i → TakesToken kind.Semicolon p8 new (Err e) → (a : Assigning) → level_assigning a ≡ depth → Refuses old (State.value_due a) e
recover-no-last old p1 p2 p3 p4 p5 p6 p7 p8 new depth word opening give name end closing list i e le path g miss (Assigning.assigning (Open.at u c) target equals) lv =
    refused (via (recover-goes old p1 p2 p3 depth word opening list u c target equals (omega arith) lv path)
    (via (takes p3 p4 kind.Give give _ _ g.give_next refl (omega arith))
    (via (takes p4 p5 kind.Name name _ _ g.name_next refl (omega arith)) (via (here p5 p6 _ g.named.2)
    (via (takes p6 p7 kind.Semicolon end _ _ g.ended refl (omega arith))
    (takes p7 p8 kind.CloseBrace closing _ _ g.closed refl (omega arith)))))))
    (misses p8 new kind.Semicolon e _ miss (only-expects p8 _ _ kind.Semicolon _))

recover-leads : (old p1 p2 p3 p4 p5 p6 p7 p8 new : Parser) (depth : ℕ) (word opening give name end closing last : Token) (list : List ℕ) (i : Ident) → depth < deepest → (path : RecoverPath depth old p1 p2 p3 word opening list) →
    GivePath p3 p4 p5 p6 p7 p8 give name end closing i → TakesToken kind.Semicolon p8 new (Ok last) → (a : Assigning) → level_assigning a ≡ depth → Leads old (State.value_due a) new (after_value a (RhsTree.recover word opening path.stmts.tree give name end closing) last)
recover-leads old p1 p2 p3 p4 p5 p6 p7 p8 new depth word opening give name end closing last list i le path g h (Assigning.assigning (Open.at u c) target equals) lv =
    via (recover-goes old p1 p2 p3 depth word opening list u c target equals (omega arith) lv path)
    (via (takes p3 p4 kind.Give give _ _ g.give_next refl (omega arith))
    (via (takes p4 p5 kind.Name name _ _ g.name_next refl (omega arith)) (via (here p5 p6 _ g.named.2)
    (via (takes p6 p7 kind.Semicolon end _ _ g.ended refl (omega arith))
    (via (takes p7 p8 kind.CloseBrace closing _ _ g.closed refl (omega arith))
    (takes p8 new kind.Semicolon last _ (after_value (Assigning.assigning (Open.at u c) target equals) (RhsTree.recover word opening path.stmts.tree give name end closing) last) h refl (omega arith)))))))

pub recover-ok : (old p1 p2 p3 p4 p5 p6 p7 p8 new : Parser) (depth : ℕ) (word opening give name end closing last : Token) (list : List ℕ) (i : Ident) (span : Span) → depth < deepest → p3.text ≡ old.text → RecoverPath depth old p1 p2 p3 word opening list →
    GivePath p3 p4 p5 p6 p7 p8 give name end closing i → TakesToken kind.Semicolon p8 new (Ok last) → span ≡ span_over give end → ValueRead depth old new (record { rhs = right.Recover (record { stmts = list }) i span; head = word; end = last })
recover-ok old p1 p2 p3 p4 p5 p6 p7 p8 new depth word opening give name end closing last list i span le text path g h is =
    let t : p5.text ≡ old.text = g.name_next.2.text ∙ g.give_next.2.text ∙ text in
    let q : p5.program ≡ p3.program = g.name_next.2.program ∙ g.give_next.2.program in
    record {
      tree = RhsTree.recover word opening path.stmts.tree give name end closing;
      is = rw (is, g.named.0, path.stmts.is, t, q, path.stmts.program, path.opened.0.2.text, path.word_next.2.text, path.opened.0.2.program, path.word_next.2.program) refl;
      program = h.2.program ∙ g.closed.2.program ∙ g.ended.2.program ∙ g.named.1 ∙ rw (t, q, path.stmts.program, path.opened.0.2.text, path.word_next.2.text, path.opened.0.2.program, path.word_next.2.program) refl;
      head = refl;
      leads = λ a lv. recover-leads old p1 p2 p3 p4 p5 p6 p7 p8 new depth word opening give name end closing last list i le path g h a lv;
    }
