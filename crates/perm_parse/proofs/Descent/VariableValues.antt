-- The arms of the descent through right sides that begin with a variable or `consume`: what each does to the reading that is left.
use Rattle.std.proofs.Common.{◌≡◌, ℕ, ◌+◌, ◌≤◌, [], ◌∷◌, Some, None, Ok, Err, refl, ap, ◌∙◌, arith, inl, inr}
use Rattle.perm_tree.specs.declared.ast.Arg.TheVariants as argument
use Rattle.perm_tree.specs.declared.ast.Ident.{Ident}
use Rattle.perm_tree.specs.declared.ast.Rhs.TheVariants as right
use Rattle.perm_tree.specs.declared.errors.ParseError.{ParseError}
use Rattle.perm_tree.specs.declared.tokens.Token.{Token}
use Rattle.perm_tree.specs.declared.tokens.TokenKind.{TokenKind}
use Rattle.perm_tree.specs.declared.tokens.TokenKind.TheVariants as kind
use Rattle.perm_parse.specs.declared.parser.Parser.{Parser}
use Rattle.perm_parse.specs.Grammar.{ExprTree, ArgTree, RhsTree, IsVar}
use Rattle.perm_parse.specs.States.{State, Purpose, Assigning, assigning_text, level_assigning, level_state}
use Rattle.perm_parse.specs.Machine.{step_as, step_value_consumed, finish, after_value}
use Rattle.perm_parse.specs.Meaning.{var}
use Rattle.perm_parse.specs.ParserResults.{IsNext, IsNextVar, IsSecond, IsNotNext, IsAhead, IsHere, TakesToken, TakesVar, OpensLevel, NamesToken, NamesVar, Leads, IsClosed, ReadsExpr, ValueRead, ReadsValue}
use Rattle.perm_parse.specs.Parses.{deepest}
use Rattle.perm_parse.proofs.Descent.TokenSteps.{via, refused, here, takes, misses, takes-var, misses-var, only-expects, stepped}
use Rattle.perm_parse.proofs.Descent.Operands.{only-closes, not-opened}
use Rattle.perm_parse.proofs.Descent.RightSides.{after_value-level}

-- a variable at a state that takes it
pub takes-named : (p new : Parser) (t : Token) (q r : State) → TakesVar p new (Ok t) → step_as q t kind.Name ≡ Some r → step_as q t kind.This ≡ Some r → level_state r ≤ deepest → Leads p q new r
takes-named p new t q r h name this le = stepped p new t q r h.0 h.2 (at h.1) le
  where
    at : IsVar t → step_as q t t.kind ≡ Some r
    at (inl is) = ap (λ (x : TokenKind). step_as q t x) is ∙ name
    at (inr is) = ap (λ (x : TokenKind). step_as q t x) is ∙ this

pub var-missed : (old new : Parser) (e : ParseError) → IsNextVar old → TakesVar old new (Err e) → ⊥
var-missed old new e next h = h.1 next.0 next.1.0 next.1.1

-- the second token is the next one once the first is taken, also behind what leaves the place
pub then-next : (old mid here : Parser) (wanted : TokenKind) → IsAhead old mid → IsHere mid here → IsSecond wanted old → IsNext wanted here
then-next old mid here wanted a h next = (next.0, (rw (h.at, h.tokens, a.at, a.tokens) next.1.0, next.1.1))

-- ---- `consume x;` and `consume x.f;`

pub consumed-no-name : (old p1 new : Parser) (depth : ℕ) (word : Token) (e : ParseError) → depth ≤ deepest → TakesToken kind.Consume old p1 (Ok word) → TakesVar p1 new (Err e) → ReadsValue depth old new (Err e)
consumed-no-name old p1 new depth word e le h1 miss = λ a lv.
    refused (takes old p1 kind.Consume word (State.value_due a) _ h1 refl (omega arith)) (misses-var p1 new e (λ rest. assigning_text a (word ∷ rest)) (level_assigning a) (λ name. State.value_consumed a word name) miss)

starts : (old p1 p2 p3 : Parser) (depth : ℕ) (word t : Token) (i : Ident) (a : Assigning) → depth ≤ deepest → level_assigning a ≡ depth → TakesToken kind.Consume old p1 (Ok word) → TakesVar p1 p2 (Ok t) → NamesVar t p2 p3 (Ok i) →
    Leads old (State.value_due a) p3 (State.value_consumed a word t)
starts old p1 p2 p3 depth word t i a le lv h1 h2 v =
    via (takes old p1 kind.Consume word (State.value_due a) _ h1 refl (omega arith))
    (via (takes-var p1 p2 t (λ rest. assigning_text a (word ∷ rest)) (level_assigning a) (λ name. State.value_consumed a word name) h2 (omega arith)) (here p2 p3 (State.value_consumed a word t) v.2))

take-others : (a : Assigning) (word name t : Token) (other : TokenKind) → (other ≡ kind.Dot → ⊥) → (other ≡ kind.Semicolon → ⊥) → step_value_consumed a word name t other ≡ None
take-others a word name t kind.Dot h g = absurd (h refl)
take-others a word name t kind.Semicolon h g = absurd (g refl)
take-others a word name t _ h g = refl

pub consumed-no-end : (old p1 p2 p3 new : Parser) (depth : ℕ) (word t : Token) (i : Ident) (e : ParseError) → depth ≤ deepest → TakesToken kind.Consume old p1 (Ok word) → TakesVar p1 p2 (Ok t) → NamesVar t p2 p3 (Ok i) → IsNotNext kind.Dot p3 →
    TakesToken kind.Semicolon p3 new (Err e) → ReadsValue depth old new (Err e)
consumed-no-end old p1 p2 p3 new depth word t i e le h1 h2 v no_dot miss = λ a lv.
    refused (starts old p1 p2 p3 depth word t i a le lv h1 h2 v)
    (misses p3 new kind.Semicolon e (State.value_consumed a word t) miss (record { others = λ u n other. take-others a word t u u.kind (no_dot u n) other; ends = refl }))

pub consumed-ok : (old p1 p2 p3 new : Parser) (depth : ℕ) (word t end : Token) (i : Ident) → depth ≤ deepest → TakesToken kind.Consume old p1 (Ok word) → TakesVar p1 p2 (Ok t) → NamesVar t p2 p3 (Ok i) → TakesToken kind.Semicolon p3 new (Ok end) →
    ValueRead depth old new (record { rhs = right.Value (argument.Consume i); head = end; end = end })
consumed-ok old p1 p2 p3 new depth word t end i le h1 h2 v h4 =
    let same : i ≡ (var old.text.now t old.program).0 = v.0 ∙ rw (h2.2.text, h1.2.text, h2.2.program, h1.2.program) refl in
    record {
      tree = RhsTree.value (ArgTree.consumed word t);
      is = ap (λ (x : Ident). right.Value (argument.Consume x)) same;
      program = h4.2.program ∙ v.1 ∙ rw (h2.2.text, h1.2.text, h2.2.program, h1.2.program) refl;
      head = refl;
      leads = λ a lv.
          via (starts old p1 p2 p3 depth word t i a le lv h1 h2 v)
          (takes p3 new kind.Semicolon end (State.value_consumed a word t) (after_value a (RhsTree.value (ArgTree.consumed word t)) end) h4 refl (omega (arith, after_value-level a (RhsTree.value (ArgTree.consumed word t)) end)));
    }

pub taken-no-member : (old p1 p2 p3 p4 new : Parser) (depth : ℕ) (word t dot : Token) (i : Ident) (e : ParseError) → depth ≤ deepest → TakesToken kind.Consume old p1 (Ok word) → TakesVar p1 p2 (Ok t) → NamesVar t p2 p3 (Ok i) → TakesToken kind.Dot p3 p4 (Ok dot) →
    TakesToken kind.Name p4 new (Err e) → ReadsValue depth old new (Err e)
taken-no-member old p1 p2 p3 p4 new depth word t dot i e le h1 h2 v h4 miss = λ a lv.
    refused (via (starts old p1 p2 p3 depth word t i a le lv h1 h2 v) (takes p3 p4 kind.Dot dot (State.value_consumed a word t) _ h4 refl (omega arith)))
    (misses p4 new kind.Name e _ miss (only-expects p4 _ _ kind.Name _))

pub taken-no-end : (old p1 p2 p3 p4 p5 p6 new : Parser) (depth : ℕ) (word t dot member : Token) (i f : Ident) (e : ParseError) → depth ≤ deepest → TakesToken kind.Consume old p1 (Ok word) → TakesVar p1 p2 (Ok t) → NamesVar t p2 p3 (Ok i) → TakesToken kind.Dot p3 p4 (Ok dot) →
    TakesToken kind.Name p4 p5 (Ok member) → NamesToken member p5 p6 (Ok f) → TakesToken kind.Semicolon p6 new (Err e) → ReadsValue depth old new (Err e)
taken-no-end old p1 p2 p3 p4 p5 p6 new depth word t dot member i f e le h1 h2 v h4 h5 n miss = λ a lv.
    refused (via (starts old p1 p2 p3 depth word t i a le lv h1 h2 v) (via (takes p3 p4 kind.Dot dot (State.value_consumed a word t) _ h4 refl (omega arith)) (via (takes p4 p5 kind.Name member _ _ h5 refl (omega arith)) (here p5 p6 _ n.2))))
    (misses p6 new kind.Semicolon e _ miss (only-expects p6 _ _ kind.Semicolon _))

pub taken-ok : (old p1 p2 p3 p4 p5 p6 new : Parser) (depth : ℕ) (word t dot member end : Token) (i f : Ident) → depth ≤ deepest → TakesToken kind.Consume old p1 (Ok word) → TakesVar p1 p2 (Ok t) → NamesVar t p2 p3 (Ok i) → TakesToken kind.Dot p3 p4 (Ok dot) →
    TakesToken kind.Name p4 p5 (Ok member) → NamesToken member p5 p6 (Ok f) → TakesToken kind.Semicolon p6 new (Ok end) → ValueRead depth old new (record { rhs = right.TakeField i f; head = end; end = end })
taken-ok old p1 p2 p3 p4 p5 p6 new depth word t dot member end i f le h1 h2 v h4 h5 n h7 = record {
  tree = RhsTree.take_field word t dot member;
  is = rw (n.0, v.0, h5.2.text, h4.2.text, v.2.text, h2.2.text, h1.2.text, h5.2.program, h4.2.program, v.1, h2.2.text, h1.2.text, h2.2.program, h1.2.program) refl;
  program = h7.2.program ∙ n.1 ∙ rw (h5.2.text, h4.2.text, v.2.text, h2.2.text, h1.2.text, h5.2.program, h4.2.program, v.1, h2.2.text, h1.2.text, h2.2.program, h1.2.program) refl;
  head = refl;
  leads = λ a lv.
      via (starts old p1 p2 p3 depth word t i a le lv h1 h2 v) (via (takes p3 p4 kind.Dot dot (State.value_consumed a word t) _ h4 refl (omega arith)) (via (takes p4 p5 kind.Name member _ _ h5 refl (omega arith)) (via (here p5 p6 _ n.2)
      (takes p6 new kind.Semicolon end _ (after_value a (RhsTree.take_field word t dot member) end) h7 refl (omega (arith, after_value-level a (RhsTree.take_field word t dot member) end))))));
}

-- ---- `x[E];`

pub named : (old p1 p2 : Parser) (depth : ℕ) (t : Token) (i : Ident) (a : Assigning) → depth ≤ deepest → level_assigning a ≡ depth → TakesVar old p1 (Ok t) → NamesVar t p1 p2 (Ok i) → Leads old (State.value_due a) p2 (State.value_named a t)
named old p1 p2 depth t i a le lv h1 v = via (takes-named old p1 t (State.value_due a) (State.value_named a t) h1 refl refl (omega arith)) (here p1 p2 (State.value_named a t) v.2)

pub item-not-opened : (old p1 p2 new : Parser) (depth : ℕ) (t : Token) (i : Ident) (e : ParseError) → depth ≤ deepest → IsSecond kind.OpenBracket old → TakesVar old p1 (Ok t) → NamesVar t p1 p2 (Ok i) → OpensLevel kind.OpenBracket depth p2 new (Err e) → ReadsValue depth old new (Err e)
item-not-opened old p1 p2 new depth t i e le next h1 v o = λ a lv.
    refused (named old p1 p2 depth t i a le lv h1 v)
    (not-opened p2 new kind.OpenBracket depth (State.value_named a t) e (then-next old p1 p2 kind.OpenBracket h1.2 v.2 next) o (λ u deep. (State.operand [] (Purpose.to_read a t u), (refl, omega arith))))

opens : (old p1 p2 p3 : Parser) (depth : ℕ) (t opening : Token) (i : Ident) (a : Assigning) → depth ≤ deepest → level_assigning a ≡ depth → TakesVar old p1 (Ok t) → NamesVar t p1 p2 (Ok i) → OpensLevel kind.OpenBracket depth p2 p3 (Ok opening) →
    Leads old (State.value_due a) p3 (State.operand [] (Purpose.to_read a t opening))
opens old p1 p2 p3 depth t opening i a le lv h1 v o = via (named old p1 p2 depth t i a le lv h1 v) (takes p2 p3 kind.OpenBracket opening (State.value_named a t) _ o.0 refl (omega (arith, o.1)))

pub item-index : (old p1 p2 p3 new : Parser) (depth : ℕ) (t opening : Token) (i : Ident) (e : ParseError) → depth ≤ deepest → TakesVar old p1 (Ok t) → NamesVar t p1 p2 (Ok i) → OpensLevel kind.OpenBracket depth p2 p3 (Ok opening) → ReadsExpr 6 (depth + 1) p3 new (Err e) →
    ReadsValue depth old new (Err e)
item-index old p1 p2 p3 new depth t opening i e le h1 v o r = λ a lv. refused (opens old p1 p2 p3 depth t opening i a le lv h1 v o) (r [] (Purpose.to_read a t opening) (omega arith) tt)

read-closes : (a : Assigning) (name opening : Token) (e : ExprTree) (t : Token) (other : TokenKind) → (other ≡ kind.CloseBracket → ⊥) → finish (Purpose.to_read a name opening) e t other ≡ None
read-closes a name opening e t kind.CloseBracket h = absurd (h refl)
read-closes a name opening e t _ h = refl

pub item-not-closed : (old p1 p2 p3 p4 new : Parser) (depth x : ℕ) (t opening : Token) (i : Ident) (e : ParseError) → depth ≤ deepest → TakesVar old p1 (Ok t) → NamesVar t p1 p2 (Ok i) → OpensLevel kind.OpenBracket depth p2 p3 (Ok opening) → ReadsExpr 6 (depth + 1) p3 p4 (Ok x) →
    IsClosed 6 p4 → TakesToken kind.CloseBracket p4 new (Err e) → ReadsValue depth old new (Err e)
item-not-closed old p1 p2 p3 p4 new depth x t opening i e le h1 v o g closed miss = λ a lv.
    let k = Purpose.to_read a t opening in
    refused (via (opens old p1 p2 p3 depth t opening i a le lv h1 v o) (g.leads [] k (omega arith) tt))
    (misses p4 new kind.CloseBracket e (State.after g.tree [] k) miss (only-closes p4 kind.CloseBracket g.tree k closed (λ u other n. read-closes a t opening g.tree u other n)))

pub item-no-end : (old p1 p2 p3 p4 p5 new : Parser) (depth x : ℕ) (t opening closing : Token) (i : Ident) (e : ParseError) → depth ≤ deepest → TakesVar old p1 (Ok t) → NamesVar t p1 p2 (Ok i) → OpensLevel kind.OpenBracket depth p2 p3 (Ok opening) → ReadsExpr 6 (depth + 1) p3 p4 (Ok x) →
    TakesToken kind.CloseBracket p4 p5 (Ok closing) → TakesToken kind.Semicolon p5 new (Err e) → ReadsValue depth old new (Err e)
item-no-end old p1 p2 p3 p4 p5 new depth x t opening closing i e le h1 v o g h5 miss = λ a lv.
    let k = Purpose.to_read a t opening in
    refused (via (opens old p1 p2 p3 depth t opening i a le lv h1 v o) (via (g.leads [] k (omega arith) tt) (takes p4 p5 kind.CloseBracket closing (State.after g.tree [] k) _ h5 refl (omega arith))))
    (misses p5 new kind.Semicolon e _ miss (only-expects p5 _ _ kind.Semicolon _))

pub item-ok : (old p1 p2 p3 p4 p5 new : Parser) (depth x : ℕ) (t opening closing end : Token) (i : Ident) → depth ≤ deepest → TakesVar old p1 (Ok t) → NamesVar t p1 p2 (Ok i) → OpensLevel kind.OpenBracket depth p2 p3 (Ok opening) → ReadsExpr 6 (depth + 1) p3 p4 (Ok x) →
    TakesToken kind.CloseBracket p4 p5 (Ok closing) → TakesToken kind.Semicolon p5 new (Ok end) → ValueRead depth old new (record { rhs = right.Item i x; head = end; end = end })
item-ok old p1 p2 p3 p4 p5 new depth x t opening closing end i le h1 v o g h5 h6 = record {
  tree = RhsTree.item t opening g.tree closing;
  is = rw (v.0, g.place, o.0.2.text, v.2.text, h1.2.text, o.0.2.program, v.1, h1.2.text, h1.2.program) refl;
  program = h6.2.program ∙ h5.2.program ∙ g.program ∙ rw (o.0.2.text, v.2.text, h1.2.text, o.0.2.program, v.1, h1.2.text, h1.2.program) refl;
  head = refl;
  leads = λ a lv.
      let k = Purpose.to_read a t opening in
      via (opens old p1 p2 p3 depth t opening i a le lv h1 v o) (via (g.leads [] k (omega arith) tt) (via (takes p4 p5 kind.CloseBracket closing (State.after g.tree [] k) _ h5 refl (omega arith))
      (takes p5 new kind.Semicolon end _ (after_value a (RhsTree.item t opening g.tree closing) end) h6 refl (omega (arith, after_value-level a (RhsTree.item t opening g.tree closing) end)))));
}
