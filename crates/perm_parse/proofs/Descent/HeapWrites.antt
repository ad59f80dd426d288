-- The arms of the descent through `y[i] = e;` and `y.f = A;`: what each does to the reading that is left.
use Rattle.std.proofs.Common.{◌≡◌, ℕ, ◌+◌, ◌≤◌, [], None, Result, Ok, Err, refl, ◌∙◌, arith}
use Rattle.perm_tree.specs.declared.ast.Arg.{Arg}
use Rattle.perm_tree.specs.declared.ast.Ident.{Ident}
use Rattle.perm_tree.specs.declared.ast.StmtKind.TheVariants as form
use Rattle.perm_tree.specs.declared.errors.ParseError.{ParseError}
use Rattle.perm_tree.specs.declared.tokens.Token.{Token}
use Rattle.perm_tree.specs.declared.tokens.TokenKind.{TokenKind}
use Rattle.perm_tree.specs.declared.tokens.TokenKind.TheVariants as kind
use Rattle.perm_parse.specs.declared.parser.Parser.{Parser}
use Rattle.perm_parse.specs.Grammar.{ExprTree, ArgTree, StmtTree, Stmts}
use Rattle.perm_parse.specs.States.{State, Purpose, ArgFor, Open, Outer, level_outer}
use Rattle.perm_parse.specs.Machine.{finish, finish_arg, step_member_seen}
use Rattle.perm_parse.specs.ParserResults.{IsSecond, IsNotNext, TakesToken, TakesVar, OpensLevel, NamesVar, Leads, IsClosed, ReadsExpr, ReadsArg, EndsStmt, ReadsStmt}
use Rattle.perm_parse.specs.Parses.{deepest}
use Rattle.perm_parse.proofs.Descent.TokenSteps.{via, refused, here, takes, misses, only-expects}
use Rattle.perm_parse.proofs.Descent.Operands.{only-closes, not-opened}
use Rattle.perm_parse.proofs.Descent.VariableValues.{then-next}
use Rattle.perm_parse.proofs.Descent.MemberValues.{MemberPath}
use Rattle.perm_parse.proofs.Descent.StatementEnds.{begins, ends, ends-not}

-- ---- `y[i] = e;`

pub item-not-opened : (old p1 p2 new : Parser) (depth : ℕ) (t : Token) (i : Ident) (e : ParseError) → depth ≤ deepest → IsSecond kind.OpenBracket old → TakesVar old p1 (Ok t) → NamesVar t p1 p2 (Ok i) → OpensLevel kind.OpenBracket depth p2 new (Err e) → ReadsStmt depth old new (Err e)
item-not-opened old p1 p2 new depth t i e le next h1 v o = λ u b lv.
    refused (begins old p1 p2 depth t i (Open.at u b) le lv h1 v)
    (not-opened p2 new kind.OpenBracket depth (State.begun (Open.at u b) t) e (then-next old p1 p2 kind.OpenBracket h1.2 v.2 next) o (λ w deep. (State.operand [] (Purpose.to_index (Open.at u b) t w), (refl, omega arith))))

opens : (old p1 p2 p3 : Parser) (depth : ℕ) (t opening : Token) (i : Ident) (u : Outer) (b : Stmts) → depth ≤ deepest → level_outer u ≡ depth → TakesVar old p1 (Ok t) → NamesVar t p1 p2 (Ok i) → OpensLevel kind.OpenBracket depth p2 p3 (Ok opening) →
    Leads old (State.listing (Open.at u b)) p3 (State.operand [] (Purpose.to_index (Open.at u b) t opening))
opens old p1 p2 p3 depth t opening i u b le lv h1 v o =
    via (begins old p1 p2 depth t i (Open.at u b) le lv h1 v) (takes p2 p3 kind.OpenBracket opening (State.begun (Open.at u b) t) _ o.0 refl (omega (arith, o.1)))

pub item-index : (old p1 p2 p3 new : Parser) (depth : ℕ) (t opening : Token) (i : Ident) (e : ParseError) → depth ≤ deepest → TakesVar old p1 (Ok t) → NamesVar t p1 p2 (Ok i) → OpensLevel kind.OpenBracket depth p2 p3 (Ok opening) → ReadsExpr 6 (depth + 1) p3 new (Err e) →
    ReadsStmt depth old new (Err e)
item-index old p1 p2 p3 new depth t opening i e le h1 v o r = λ u b lv. refused (opens old p1 p2 p3 depth t opening i u b le lv h1 v o) (r [] (Purpose.to_index (Open.at u b) t opening) (omega arith) tt)

index-closes : (o : Open) (name opening : Token) (e : ExprTree) (t : Token) (other : TokenKind) → (other ≡ kind.CloseBracket → ⊥) → finish (Purpose.to_index o name opening) e t other ≡ None
index-closes o name opening e t kind.CloseBracket h = absurd (h refl)
index-closes o name opening e t _ h = refl

pub item-not-closed : (old p1 p2 p3 p4 new : Parser) (depth x : ℕ) (t opening : Token) (i : Ident) (e : ParseError) → depth ≤ deepest → TakesVar old p1 (Ok t) → NamesVar t p1 p2 (Ok i) → OpensLevel kind.OpenBracket depth p2 p3 (Ok opening) → ReadsExpr 6 (depth + 1) p3 p4 (Ok x) →
    IsClosed 6 p4 → TakesToken kind.CloseBracket p4 new (Err e) → ReadsStmt depth old new (Err e)
item-not-closed old p1 p2 p3 p4 new depth x t opening i e le h1 v o g closed miss = λ u b lv.
    let k = Purpose.to_index (Open.at u b) t opening in
    refused (via (opens old p1 p2 p3 depth t opening i u b le lv h1 v o) (g.leads [] k (omega arith) tt))
    (misses p4 new kind.CloseBracket e (State.after g.tree [] k) miss (only-closes p4 kind.CloseBracket g.tree k closed (λ w other n. index-closes (Open.at u b) t opening g.tree w other n)))

pub item-no-equals : (old p1 p2 p3 p4 p5 new : Parser) (depth x : ℕ) (t opening closing : Token) (i : Ident) (e : ParseError) → depth ≤ deepest → TakesVar old p1 (Ok t) → NamesVar t p1 p2 (Ok i) → OpensLevel kind.OpenBracket depth p2 p3 (Ok opening) → ReadsExpr 6 (depth + 1) p3 p4 (Ok x) →
    TakesToken kind.CloseBracket p4 p5 (Ok closing) → TakesToken kind.Assign p5 new (Err e) → ReadsStmt depth old new (Err e)
item-no-equals old p1 p2 p3 p4 p5 new depth x t opening closing i e le h1 v o g h5 miss = λ u b lv.
    let k = Purpose.to_index (Open.at u b) t opening in
    refused (via (opens old p1 p2 p3 depth t opening i u b le lv h1 v o) (via (g.leads [] k (omega arith) tt) (takes p4 p5 kind.CloseBracket closing (State.after g.tree [] k) _ h5 refl (omega arith))))
    (misses p5 new kind.Assign e _ miss (only-expects p5 _ _ kind.Assign _))

-- up to behind the sign
pub record ItemPath (old p1 p2 p3 p4 p5 p6 : Parser) (depth x : ℕ) (t opening closing equals : Token) (i : Ident) : Type 0 where
  pub receiver : TakesVar old p1 (Ok t)
  pub variable : NamesVar t p1 p2 (Ok i)
  pub opened : OpensLevel kind.OpenBracket depth p2 p3 (Ok opening)
  pub index : ReadsExpr 6 (depth + 1) p3 p4 (Ok x)
  pub text : p4.text ≡ p3.text
  pub closed : TakesToken kind.CloseBracket p4 p5 (Ok closing)
  pub sign : TakesToken kind.Assign p5 p6 (Ok equals)

value-due : (old p1 p2 p3 p4 p5 p6 : Parser) (depth x : ℕ) (t opening closing equals : Token) (i : Ident) (u : Outer) (b : Stmts) → depth ≤ deepest → level_outer u ≡ depth → (h : ItemPath old p1 p2 p3 p4 p5 p6 depth x t opening closing equals i) →
    Leads old (State.listing (Open.at u b)) p6 (State.operand [] (Purpose.to_item (Open.at u b) t opening h.index.tree closing equals))
value-due old p1 p2 p3 p4 p5 p6 depth x t opening closing equals i u b le lv h =
    let k = Purpose.to_index (Open.at u b) t opening in
    via (opens old p1 p2 p3 depth t opening i u b le lv h.receiver h.variable h.opened) (via (h.index.leads [] k (omega arith) tt)
    (via (takes p4 p5 kind.CloseBracket closing (State.after h.index.tree [] k) _ h.closed refl (omega arith)) (takes p5 p6 kind.Assign equals _ _ h.sign refl (omega arith))))

pub item-no-value : (old p1 p2 p3 p4 p5 p6 new : Parser) (depth x : ℕ) (t opening closing equals : Token) (i : Ident) (e : ParseError) → depth ≤ deepest → ItemPath old p1 p2 p3 p4 p5 p6 depth x t opening closing equals i → ReadsExpr 6 depth p6 new (Err e) → ReadsStmt depth old new (Err e)
item-no-value old p1 p2 p3 p4 p5 p6 new depth x t opening closing equals i e le h r = λ u b lv.
    refused (value-due old p1 p2 p3 p4 p5 p6 depth x t opening closing equals i u b le lv h) (r [] (Purpose.to_item (Open.at u b) t opening h.index.tree closing equals) lv tt)

item-closes : (o : Open) (name opening closing equals : Token) (i e : ExprTree) (t : Token) (other : TokenKind) → (other ≡ kind.Semicolon → ⊥) → finish (Purpose.to_item o name opening i closing equals) e t other ≡ None
item-closes o name opening closing equals i e t kind.Semicolon h = absurd (h refl)
item-closes o name opening closing equals i e t _ h = refl

pub item-is : (old p1 p2 p3 p4 p5 p6 p7 new : Parser) (depth x y : ℕ) (t opening closing equals : Token) (i : Ident) (r : Result ℕ ParseError) → depth ≤ deepest → ItemPath old p1 p2 p3 p4 p5 p6 depth x t opening closing equals i → ReadsExpr 6 depth p6 p7 (Ok y) → IsClosed 6 p7 →
    EndsStmt t (form.SetItem i x y) p7 new r → ReadsStmt depth old new r
item-is old p1 p2 p3 p4 p5 p6 p7 new depth x y t opening closing equals i (Ok n) le h g closed d =
    let tree = StmtTree.set_item t opening h.index.tree closing equals g.tree d.end in
    record {
      tree = tree;
      place = d.place ∙ rw (g.program, h.sign.2.text, h.sign.2.program, h.closed.2.text, h.closed.2.program, h.text, h.index.program, h.opened.0.2.text, h.opened.0.2.program, h.variable.2.text, h.variable.1, h.receiver.2.text, h.receiver.2.program) refl;
      program = d.program ∙ rw (g.place, g.program, h.sign.2.text, h.sign.2.program, h.closed.2.text, h.closed.2.program, h.text, h.index.place, h.index.program, h.opened.0.2.text, h.opened.0.2.program, h.variable.0, h.variable.2.text, h.variable.1, h.receiver.2.text, h.receiver.2.program) refl;
      leads = λ u b lv.
          let k = Purpose.to_item (Open.at u b) t opening h.index.tree closing equals in
          via (value-due old p1 p2 p3 p4 p5 p6 depth x t opening closing equals i u b le lv h) (via (g.leads [] k lv tt)
          (ends p7 new t (form.SetItem i x y) n (State.after g.tree [] k) (State.listing (Open.at u (Stmts.more_stmts b tree))) d refl (omega arith)));
    }
item-is old p1 p2 p3 p4 p5 p6 p7 new depth x y t opening closing equals i (Err e) le h g closed d = λ u b lv.
    let k = Purpose.to_item (Open.at u b) t opening h.index.tree closing equals in
    refused (via (value-due old p1 p2 p3 p4 p5 p6 depth x t opening closing equals i u b le lv h) (g.leads [] k lv tt))
    (ends-not p7 new t (form.SetItem i x y) e (State.after g.tree [] k) d (only-closes p7 kind.Semicolon g.tree k closed (λ w other n. item-closes (Open.at u b) t opening closing equals h.index.tree g.tree w other n)))

-- ---- behind the member

pub no-member : (old p1 p2 p3 new : Parser) (depth : ℕ) (t dot : Token) (i : Ident) (e : ParseError) → depth ≤ deepest → TakesVar old p1 (Ok t) → NamesVar t p1 p2 (Ok i) → TakesToken kind.Dot p2 p3 (Ok dot) → TakesToken kind.Name p3 new (Err e) → ReadsStmt depth old new (Err e)
no-member old p1 p2 p3 new depth t dot i e le h1 v h3 miss = λ u b lv.
    refused (via (begins old p1 p2 depth t i (Open.at u b) le lv h1 v) (takes p2 p3 kind.Dot dot (State.begun (Open.at u b) t) _ h3 refl (omega arith)))
    (misses p3 new kind.Name e _ miss (only-expects p3 _ _ kind.Name _))

pub member : (old p1 p2 p3 p4 p5 : Parser) (depth : ℕ) (t dot m : Token) (i f : Ident) (u : Outer) (b : Stmts) → depth ≤ deepest → level_outer u ≡ depth → MemberPath old p1 p2 p3 p4 p5 t dot m i f → Leads old (State.listing (Open.at u b)) p5 (State.member_seen (Open.at u b) t dot m)
member old p1 p2 p3 p4 p5 depth t dot m i f u b le lv h =
    let q = State.member_seen (Open.at u b) t dot m in
    via (begins old p1 p2 depth t i (Open.at u b) le lv h.receiver h.variable) (via (takes p2 p3 kind.Dot dot (State.begun (Open.at u b) t) _ h.dot_next refl (omega arith))
    (via (takes p3 p4 kind.Name m _ q h.member_next refl (omega arith)) (here p4 p5 q h.name.2)))

-- ---- `y.f = A;`

member-others : (o : Open) (name dot m t : Token) (other : TokenKind) → (other ≡ kind.OpenParen → ⊥) → (other ≡ kind.Assign → ⊥) → step_member_seen o name dot m t other ≡ None
member-others o name dot m t kind.OpenParen h g = absurd (h refl)
member-others o name dot m t kind.Assign h g = absurd (g refl)
member-others o name dot m t _ h g = refl

pub field-no-equals : (old p1 p2 p3 p4 p5 new : Parser) (depth : ℕ) (t dot m : Token) (i f : Ident) (e : ParseError) → depth ≤ deepest → MemberPath old p1 p2 p3 p4 p5 t dot m i f → IsNotNext kind.OpenParen p5 → TakesToken kind.Assign p5 new (Err e) → ReadsStmt depth old new (Err e)
field-no-equals old p1 p2 p3 p4 p5 new depth t dot m i f e le h no_paren miss = λ u b lv.
    refused (member old p1 p2 p3 p4 p5 depth t dot m i f u b le lv h)
    (misses p5 new kind.Assign e (State.member_seen (Open.at u b) t dot m) miss (record { others = λ w n other. member-others (Open.at u b) t dot m w w.kind (no_paren w n) other; ends = refl }))

field-due : (old p1 p2 p3 p4 p5 p6 : Parser) (depth : ℕ) (t dot m equals : Token) (i f : Ident) (u : Outer) (b : Stmts) → depth ≤ deepest → level_outer u ≡ depth → MemberPath old p1 p2 p3 p4 p5 t dot m i f → TakesToken kind.Assign p5 p6 (Ok equals) →
    Leads old (State.listing (Open.at u b)) p6 (State.arg_due (ArgFor.to_set (Open.at u b) t dot m equals))
field-due old p1 p2 p3 p4 p5 p6 depth t dot m equals i f u b le lv h s =
    via (member old p1 p2 p3 p4 p5 depth t dot m i f u b le lv h) (takes p5 p6 kind.Assign equals (State.member_seen (Open.at u b) t dot m) _ s refl (omega arith))

pub field-no-value : (old p1 p2 p3 p4 p5 p6 new : Parser) (depth : ℕ) (t dot m equals : Token) (i f : Ident) (e : ParseError) → depth ≤ deepest → MemberPath old p1 p2 p3 p4 p5 t dot m i f → TakesToken kind.Assign p5 p6 (Ok equals) → ReadsArg depth p6 new (Err e) → ReadsStmt depth old new (Err e)
field-no-value old p1 p2 p3 p4 p5 p6 new depth t dot m equals i f e le h s r = λ u b lv. refused (field-due old p1 p2 p3 p4 p5 p6 depth t dot m equals i f u b le lv h s) (r (ArgFor.to_set (Open.at u b) t dot m equals) lv)

field-closes : (o : Open) (name dot m equals : Token) (a : ArgTree) (t : Token) (other : TokenKind) → (other ≡ kind.Semicolon → ⊥) → finish_arg (ArgFor.to_set o name dot m equals) a t other ≡ None
field-closes o name dot m equals a t kind.Semicolon h = absurd (h refl)
field-closes o name dot m equals a t _ h = refl

pub field-is : (old p1 p2 p3 p4 p5 p6 p7 new : Parser) (depth : ℕ) (t dot m equals : Token) (i f : Ident) (a : Arg) (r : Result ℕ ParseError) → depth ≤ deepest → MemberPath old p1 p2 p3 p4 p5 t dot m i f → TakesToken kind.Assign p5 p6 (Ok equals) → ReadsArg depth p6 p7 (Ok a) →
    EndsStmt t (form.SetField i f a) p7 new r → ReadsStmt depth old new r
field-is old p1 p2 p3 p4 p5 p6 p7 new depth t dot m equals i f a (Ok n) le h s g d =
    let tree = StmtTree.set_field t dot m equals g.tree d.end in
    record {
      tree = tree;
      place = d.place ∙ rw (g.program, s.2.text, s.2.program, h.name.2.text, h.name.1, h.member_next.2.text, h.member_next.2.program, h.dot_next.2.text, h.dot_next.2.program, h.variable.2.text, h.variable.1, h.receiver.2.text, h.receiver.2.program) refl;
      program = d.program ∙ rw (g.is, g.program, s.2.text, s.2.program, h.name.0, h.name.2.text, h.name.1, h.member_next.2.text, h.member_next.2.program, h.dot_next.2.text, h.dot_next.2.program, h.variable.0, h.variable.2.text, h.variable.1, h.receiver.2.text, h.receiver.2.program) refl;
      leads = λ u b lv.
          let k = ArgFor.to_set (Open.at u b) t dot m equals in
          via (field-due old p1 p2 p3 p4 p5 p6 depth t dot m equals i f u b le lv h s) (via (g.leads k lv)
          (ends p7 new t (form.SetField i f a) n (State.arg_taken k g.tree) (State.listing (Open.at u (Stmts.more_stmts b tree))) d refl (omega arith)));
    }
field-is old p1 p2 p3 p4 p5 p6 p7 new depth t dot m equals i f a (Err e) le h s g d = λ u b lv.
    let k = ArgFor.to_set (Open.at u b) t dot m equals in
    refused (via (field-due old p1 p2 p3 p4 p5 p6 depth t dot m equals i f u b le lv h s) (g.leads k lv))
    (ends-not p7 new t (form.SetField i f a) e (State.arg_taken k g.tree) d (record { others = λ w n other. field-closes (Open.at u b) t dot m equals g.tree w w.kind other; ends = refl }))
