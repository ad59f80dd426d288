-- The arms of the descent through `new`: what each does to the reading that is left.
use Rattle.std.proofs.Common.{◌≡◌, ℕ, ◌+◌, ◌≤◌, [], None, Ok, Err, refl, ap, ◌∙◌, arith}
use Rattle.perm_tree.specs.declared.ast.Ident.{Ident}
use Rattle.perm_tree.specs.declared.ast.Rhs.TheVariants as right
use Rattle.perm_tree.specs.declared.errors.ParseError.{ParseError}
use Rattle.perm_tree.specs.declared.tokens.Token.{Token}
use Rattle.perm_tree.specs.declared.tokens.TokenKind.{TokenKind}
use Rattle.perm_tree.specs.declared.tokens.TokenKind.TheVariants as kind
use Rattle.perm_parse.specs.declared.parser.Parser.{Parser}
use Rattle.perm_parse.specs.Grammar.{ExprTree, RhsTree}
use Rattle.perm_parse.specs.States.{State, Purpose, Assigning, level_assigning}
use Rattle.perm_parse.specs.Machine.{step_new, finish, after_value}
use Rattle.perm_parse.specs.Meaning.{ident}
use Rattle.perm_parse.specs.ParserResults.{Next, Second, IsSecond, IsNotSecond, IsAhead, TakesToken, OpensLevel, NamesToken, MentionsClass, Leads, IsClosed, ReadsExpr, ValueRead, ReadsValue}
use Rattle.perm_parse.specs.Parses.{deepest}
use Rattle.perm_parse.proofs.Descent.TokenSteps.{via, refused, here, takes, misses, only-expects}
use Rattle.perm_parse.proofs.Descent.Operands.{only-closes}
use Rattle.perm_parse.proofs.Descent.Types.{opened-or}
use Rattle.perm_parse.proofs.Descent.RightSides.{after_value-level}

-- the second token is the next one once the first is taken
pub now-next : (old new : Parser) (t : Token) → IsAhead old new → Next new t → Second old t
now-next old new t a n = rw (← a.at, ← a.tokens) n

pub second-missed : (old mid new : Parser) (wanted : TokenKind) (e : ParseError) → IsSecond wanted old → IsAhead old mid → TakesToken wanted mid new (Err e) → ⊥
second-missed old mid new wanted e next a h = h.1 next.0 (rw (a.at, a.tokens) next.1.0) next.1.1

new-others : (a : Assigning) (word t : Token) (other : TokenKind) → (other ≡ kind.Long → ⊥) → (other ≡ kind.Name → ⊥) → step_new a word t other ≡ None
new-others a word t kind.Long h g = absurd (h refl)
new-others a word t kind.Name h g = absurd (g refl)
new-others a word t _ h g = refl

-- ---- `new C();`

pub object-no-name : (old p1 new : Parser) (depth : ℕ) (word : Token) (e : ParseError) → depth ≤ deepest → IsNotSecond kind.Long old → TakesToken kind.New old p1 (Ok word) → TakesToken kind.Name p1 new (Err e) → ReadsValue depth old new (Err e)
object-no-name old p1 new depth word e le no_long h1 miss = λ a lv.
    refused (takes old p1 kind.New word (State.value_due a) (State.new_seen a word) h1 refl (omega arith))
    (misses p1 new kind.Name e (State.new_seen a word) miss (record { others = λ t n other. new-others a word t t.kind (no_long t (now-next old p1 t h1.2 n)) other; ends = refl }))

pub object-not-opened : (old p1 p2 p3 p4 new : Parser) (depth : ℕ) (word t : Token) (i : Ident) (e : ParseError) → depth ≤ deepest → TakesToken kind.New old p1 (Ok word) → TakesToken kind.Name p1 p2 (Ok t) → NamesToken t p2 p3 (Ok i) → MentionsClass i p3 p4 (Ok tt) →
    OpensLevel kind.OpenParen depth p4 new (Err e) → ReadsValue depth old new (Err e)
object-not-opened old p1 p2 p3 p4 new depth word t i e le h1 h2 n m o = λ a lv.
    refused (via (takes old p1 kind.New word (State.value_due a) (State.new_seen a word) h1 refl (omega arith))
    (via (takes p1 p2 kind.Name t (State.new_seen a word) _ h2 refl (omega arith)) (via (here p2 p3 _ n.2) (here p3 p4 _ m.1))))
    (opened-or p4 new kind.OpenParen depth _ _ _ e (λ u. omega arith) (λ u. refl) o)

pub object-not-closed : (old p1 p2 p3 p4 p5 new : Parser) (depth : ℕ) (word t opening : Token) (i : Ident) (e : ParseError) → depth ≤ deepest → TakesToken kind.New old p1 (Ok word) → TakesToken kind.Name p1 p2 (Ok t) → NamesToken t p2 p3 (Ok i) → MentionsClass i p3 p4 (Ok tt) →
    OpensLevel kind.OpenParen depth p4 p5 (Ok opening) → TakesToken kind.CloseParen p5 new (Err e) → ReadsValue depth old new (Err e)
object-not-closed old p1 p2 p3 p4 p5 new depth word t opening i e le h1 h2 n m o miss = λ a lv.
    refused (via (takes old p1 kind.New word (State.value_due a) (State.new_seen a word) h1 refl (omega arith))
    (via (takes p1 p2 kind.Name t (State.new_seen a word) _ h2 refl (omega arith)) (via (here p2 p3 _ n.2) (via (here p3 p4 _ m.1)
    (takes p4 p5 kind.OpenParen opening _ _ o.0 refl (omega (arith, o.1)))))))
    (misses p5 new kind.CloseParen e _ miss (only-expects p5 _ _ kind.CloseParen _))

pub object-no-end : (old p1 p2 p3 p4 p5 p6 new : Parser) (depth : ℕ) (word t opening closing : Token) (i : Ident) (e : ParseError) → depth ≤ deepest → TakesToken kind.New old p1 (Ok word) → TakesToken kind.Name p1 p2 (Ok t) → NamesToken t p2 p3 (Ok i) → MentionsClass i p3 p4 (Ok tt) →
    OpensLevel kind.OpenParen depth p4 p5 (Ok opening) → TakesToken kind.CloseParen p5 p6 (Ok closing) → TakesToken kind.Semicolon p6 new (Err e) → ReadsValue depth old new (Err e)
object-no-end old p1 p2 p3 p4 p5 p6 new depth word t opening closing i e le h1 h2 n m o h6 miss = λ a lv.
    refused (via (takes old p1 kind.New word (State.value_due a) (State.new_seen a word) h1 refl (omega arith))
    (via (takes p1 p2 kind.Name t (State.new_seen a word) _ h2 refl (omega arith)) (via (here p2 p3 _ n.2) (via (here p3 p4 _ m.1)
    (via (takes p4 p5 kind.OpenParen opening _ _ o.0 refl (omega (arith, o.1)))
    (takes p5 p6 kind.CloseParen closing _ _ h6 refl (omega arith)))))))
    (misses p6 new kind.Semicolon e _ miss (only-expects p6 _ _ kind.Semicolon _))

pub object-ok : (old p1 p2 p3 p4 p5 p6 new : Parser) (depth : ℕ) (word t opening closing end : Token) (i : Ident) → depth ≤ deepest → TakesToken kind.New old p1 (Ok word) → TakesToken kind.Name p1 p2 (Ok t) → NamesToken t p2 p3 (Ok i) → MentionsClass i p3 p4 (Ok tt) →
    OpensLevel kind.OpenParen depth p4 p5 (Ok opening) → TakesToken kind.CloseParen p5 p6 (Ok closing) → TakesToken kind.Semicolon p6 new (Ok end) → ValueRead depth old new (record { rhs = right.New i; head = end; end = end })
object-ok old p1 p2 p3 p4 p5 p6 new depth word t opening closing end i le h1 h2 n m o h6 h7 =
    let same : i ≡ (ident old.text.now t old.program).0 = n.0 ∙ rw (h2.2.text, h1.2.text, h2.2.program, h1.2.program) refl in
    record {
      tree = RhsTree.new_object word t opening closing;
      is = ap (λ (x : Ident). right.New x) same;
      program = h7.2.program ∙ h6.2.program ∙ o.0.2.program ∙ m.0 ∙ rw (n.0, n.1, h2.2.text, h1.2.text, h2.2.program, h1.2.program) refl;
      head = refl;
      leads = λ a lv.
          via (takes old p1 kind.New word (State.value_due a) (State.new_seen a word) h1 refl (omega arith))
          (via (takes p1 p2 kind.Name t (State.new_seen a word) _ h2 refl (omega arith)) (via (here p2 p3 _ n.2) (via (here p3 p4 _ m.1)
          (via (takes p4 p5 kind.OpenParen opening _ _ o.0 refl (omega (arith, o.1)))
          (via (takes p5 p6 kind.CloseParen closing _ _ h6 refl (omega arith))
          (takes p6 new kind.Semicolon end _ (after_value a (RhsTree.new_object word t opening closing) end) h7 refl (omega (arith, after_value-level a (RhsTree.new_object word t opening closing) end))))))));
    }

-- ---- `new long[E];`

pub array-not-opened : (old p1 p2 new : Parser) (depth : ℕ) (word long : Token) (e : ParseError) → depth ≤ deepest → TakesToken kind.New old p1 (Ok word) → TakesToken kind.Long p1 p2 (Ok long) → OpensLevel kind.OpenBracket depth p2 new (Err e) → ReadsValue depth old new (Err e)
array-not-opened old p1 p2 new depth word long e le h1 h2 o = λ a lv.
    refused (via (takes old p1 kind.New word (State.value_due a) (State.new_seen a word) h1 refl (omega arith)) (takes p1 p2 kind.Long long (State.new_seen a word) _ h2 refl (omega arith)))
    (opened-or p2 new kind.OpenBracket depth _ _ _ e (λ u. omega arith) (λ u. refl) o)

array-opens : (old p1 p2 p3 : Parser) (depth : ℕ) (word long opening : Token) (a : Assigning) → depth ≤ deepest → level_assigning a ≡ depth → TakesToken kind.New old p1 (Ok word) → TakesToken kind.Long p1 p2 (Ok long) → OpensLevel kind.OpenBracket depth p2 p3 (Ok opening) →
    Leads old (State.value_due a) p3 (State.operand [] (Purpose.to_length a word long opening))
array-opens old p1 p2 p3 depth word long opening a le lv h1 h2 o =
    via (takes old p1 kind.New word (State.value_due a) (State.new_seen a word) h1 refl (omega arith))
    (via (takes p1 p2 kind.Long long (State.new_seen a word) _ h2 refl (omega arith)) (takes p2 p3 kind.OpenBracket opening _ _ o.0 refl (omega (arith, o.1))))

pub array-count : (old p1 p2 p3 new : Parser) (depth : ℕ) (word long opening : Token) (e : ParseError) → depth ≤ deepest → TakesToken kind.New old p1 (Ok word) → TakesToken kind.Long p1 p2 (Ok long) → OpensLevel kind.OpenBracket depth p2 p3 (Ok opening) →
    ReadsExpr 6 (depth + 1) p3 new (Err e) → ReadsValue depth old new (Err e)
array-count old p1 p2 p3 new depth word long opening e le h1 h2 o r = λ a lv.
    refused (array-opens old p1 p2 p3 depth word long opening a le lv h1 h2 o) (r [] (Purpose.to_length a word long opening) (omega arith) tt)

length-closes : (a : Assigning) (word long opening : Token) (e : ExprTree) (t : Token) (other : TokenKind) → (other ≡ kind.CloseBracket → ⊥) → finish (Purpose.to_length a word long opening) e t other ≡ None
length-closes a word long opening e t kind.CloseBracket h = absurd (h refl)
length-closes a word long opening e t _ h = refl

pub array-not-closed : (old p1 p2 p3 p4 new : Parser) (depth x : ℕ) (word long opening : Token) (e : ParseError) → depth ≤ deepest → TakesToken kind.New old p1 (Ok word) → TakesToken kind.Long p1 p2 (Ok long) → OpensLevel kind.OpenBracket depth p2 p3 (Ok opening) →
    ReadsExpr 6 (depth + 1) p3 p4 (Ok x) → IsClosed 6 p4 → TakesToken kind.CloseBracket p4 new (Err e) → ReadsValue depth old new (Err e)
array-not-closed old p1 p2 p3 p4 new depth x word long opening e le h1 h2 o g closed miss = λ a lv.
    let k = Purpose.to_length a word long opening in
    refused (via (array-opens old p1 p2 p3 depth word long opening a le lv h1 h2 o) (g.leads [] k (omega arith) tt))
    (misses p4 new kind.CloseBracket e (State.after g.tree [] k) miss (only-closes p4 kind.CloseBracket g.tree k closed (λ t other n. length-closes a word long opening g.tree t other n)))

pub array-no-end : (old p1 p2 p3 p4 p5 new : Parser) (depth x : ℕ) (word long opening closing : Token) (e : ParseError) → depth ≤ deepest → TakesToken kind.New old p1 (Ok word) → TakesToken kind.Long p1 p2 (Ok long) → OpensLevel kind.OpenBracket depth p2 p3 (Ok opening) →
    ReadsExpr 6 (depth + 1) p3 p4 (Ok x) → TakesToken kind.CloseBracket p4 p5 (Ok closing) → TakesToken kind.Semicolon p5 new (Err e) → ReadsValue depth old new (Err e)
array-no-end old p1 p2 p3 p4 p5 new depth x word long opening closing e le h1 h2 o g h5 miss = λ a lv.
    let k = Purpose.to_length a word long opening in
    refused (via (array-opens old p1 p2 p3 depth word long opening a le lv h1 h2 o) (via (g.leads [] k (omega arith) tt) (takes p4 p5 kind.CloseBracket closing (State.after g.tree [] k) _ h5 refl (omega arith))))
    (misses p5 new kind.Semicolon e _ miss (only-expects p5 _ _ kind.Semicolon _))

pub array-ok : (old p1 p2 p3 p4 p5 new : Parser) (depth x : ℕ) (word long opening closing end : Token) → depth ≤ deepest → TakesToken kind.New old p1 (Ok word) → TakesToken kind.Long p1 p2 (Ok long) → OpensLevel kind.OpenBracket depth p2 p3 (Ok opening) →
    ReadsExpr 6 (depth + 1) p3 p4 (Ok x) → TakesToken kind.CloseBracket p4 p5 (Ok closing) → TakesToken kind.Semicolon p5 new (Ok end) → ValueRead depth old new (record { rhs = right.NewArray x; head = end; end = end })
array-ok old p1 p2 p3 p4 p5 new depth x word long opening closing end le h1 h2 o g h5 h6 = record {
  tree = RhsTree.new_array word long opening g.tree closing;
  is = rw (g.place, o.0.2.text, h2.2.text, h1.2.text, o.0.2.program, h2.2.program, h1.2.program) refl;
  program = h6.2.program ∙ h5.2.program ∙ g.program ∙ rw (o.0.2.text, h2.2.text, h1.2.text, o.0.2.program, h2.2.program, h1.2.program) refl;
  head = refl;
  leads = λ a lv.
      let k = Purpose.to_length a word long opening in
      via (array-opens old p1 p2 p3 depth word long opening a le lv h1 h2 o) (via (g.leads [] k (omega arith) tt)
      (via (takes p4 p5 kind.CloseBracket closing (State.after g.tree [] k) _ h5 refl (omega arith))
      (takes p5 new kind.Semicolon end _ (after_value a (RhsTree.new_array word long opening g.tree closing) end) h6 refl (omega (arith, after_value-level a (RhsTree.new_array word long opening g.tree closing) end)))));
}
