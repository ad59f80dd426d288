-- The arms of the descent through a member of a variable on the right side: what each does to the reading that is left.
use Rattle.std.proofs.Common.{◌≡◌, ℕ, ◌+◌, ◌≤◌, List, None, Ok, Err, false, refl, ◌∙◌, arith}
use Rattle.perm_tree.specs.declared.ast.Arg.{Arg}
use Rattle.perm_tree.specs.declared.ast.Ident.{Ident}
use Rattle.perm_tree.specs.declared.ast.Rhs.TheVariants as right
use Rattle.perm_tree.specs.declared.errors.ParseError.{ParseError}
use Rattle.perm_tree.specs.declared.tokens.Token.{Token}
use Rattle.perm_tree.specs.declared.tokens.TokenKind.{TokenKind}
use Rattle.perm_tree.specs.declared.tokens.TokenKind.TheVariants as kind
use Rattle.perm_parse.specs.declared.parser.Parser.{Parser}
use Rattle.perm_parse.specs.Grammar.{RecvTree, CallTree, RhsTree}
use Rattle.perm_parse.specs.States.{State, Assigning, CallFor, CallPart, level_assigning}
use Rattle.perm_parse.specs.Machine.{step_value_member, after_value, close_call}
use Rattle.perm_parse.specs.ParserResults.{IsNext, IsSecond, IsNotNext, TakesToken, TakesVar, OpensLevel, NamesToken, NamesVar, Leads, ReadsArgs, ValueRead, ReadsValue}
use Rattle.perm_parse.specs.Parses.{deepest}
use Rattle.perm_parse.proofs.Descent.TokenSteps.{via, refused, here, takes, misses, only-expects}
use Rattle.perm_parse.proofs.Descent.Operands.{not-opened}
use Rattle.perm_parse.proofs.Descent.RightSides.{after_value-level}
use Rattle.perm_parse.proofs.Descent.VariableValues.{named, then-next}

-- the dot that comes second isn't missed
pub dot-missed : (old p1 p2 new : Parser) (t : Token) (i : Ident) (e : ParseError) → IsSecond kind.Dot old → TakesVar old p1 (Ok t) → NamesVar t p1 p2 (Ok i) → TakesToken kind.Dot p2 new (Err e) → ⊥
dot-missed old p1 p2 new t i e next h1 v miss = let n = then-next old p1 p2 kind.Dot h1.2 v.2 next in miss.1 n.0 n.1.0 n.1.1

pub no-member : (old p1 p2 p3 new : Parser) (depth : ℕ) (t dot : Token) (i : Ident) (e : ParseError) → depth ≤ deepest → TakesVar old p1 (Ok t) → NamesVar t p1 p2 (Ok i) → TakesToken kind.Dot p2 p3 (Ok dot) → TakesToken kind.Name p3 new (Err e) → ReadsValue depth old new (Err e)
no-member old p1 p2 p3 new depth t dot i e le h1 v h3 miss = λ a lv.
    refused (via (named old p1 p2 depth t i a le lv h1 v) (takes p2 p3 kind.Dot dot (State.value_named a t) _ h3 refl (omega arith)))
    (misses p3 new kind.Name e _ miss (only-expects p3 _ _ kind.Name _))

-- up to behind the member
pub record MemberPath (old p1 p2 p3 p4 p5 : Parser) (t dot member : Token) (i f : Ident) : Type 0 where
  pub receiver : TakesVar old p1 (Ok t)
  pub variable : NamesVar t p1 p2 (Ok i)
  pub dot_next : TakesToken kind.Dot p2 p3 (Ok dot)
  pub member_next : TakesToken kind.Name p3 p4 (Ok member)
  pub name : NamesToken member p4 p5 (Ok f)

member : (old p1 p2 p3 p4 p5 : Parser) (depth : ℕ) (t dot m : Token) (i f : Ident) (a : Assigning) → depth ≤ deepest → level_assigning a ≡ depth → MemberPath old p1 p2 p3 p4 p5 t dot m i f → Leads old (State.value_due a) p5 (State.value_member a t dot m)
member old p1 p2 p3 p4 p5 depth t dot m i f a le lv h =
    via (named old p1 p2 depth t i a le lv h.receiver h.variable) (via (takes p2 p3 kind.Dot dot (State.value_named a t) _ h.dot_next refl (omega arith))
    (via (takes p3 p4 kind.Name m _ (State.value_member a t dot m) h.member_next refl (omega arith)) (here p4 p5 (State.value_member a t dot m) h.name.2)))

-- ---- a field

member-others : (a : Assigning) (name dot m t : Token) (other : TokenKind) → (other ≡ kind.OpenParen → ⊥) → (other ≡ kind.Semicolon → ⊥) → step_value_member a name dot m t other ≡ None
member-others a name dot m t kind.OpenParen h g = absurd (h refl)
member-others a name dot m t kind.Semicolon h g = absurd (g refl)
member-others a name dot m t _ h g = refl

pub field-no-end : (old p1 p2 p3 p4 p5 new : Parser) (depth : ℕ) (t dot m : Token) (i f : Ident) (e : ParseError) → depth ≤ deepest → MemberPath old p1 p2 p3 p4 p5 t dot m i f → IsNotNext kind.OpenParen p5 → TakesToken kind.Semicolon p5 new (Err e) → ReadsValue depth old new (Err e)
field-no-end old p1 p2 p3 p4 p5 new depth t dot m i f e le h no_paren miss = λ a lv.
    refused (member old p1 p2 p3 p4 p5 depth t dot m i f a le lv h)
    (misses p5 new kind.Semicolon e (State.value_member a t dot m) miss (record { others = λ u n other. member-others a t dot m u u.kind (no_paren u n) other; ends = refl }))

pub field-ok : (old p1 p2 p3 p4 p5 new : Parser) (depth : ℕ) (t dot m end : Token) (i f : Ident) → depth ≤ deepest → MemberPath old p1 p2 p3 p4 p5 t dot m i f → TakesToken kind.Semicolon p5 new (Ok end) → ValueRead depth old new (record { rhs = right.Field i f; head = end; end = end })
field-ok old p1 p2 p3 p4 p5 new depth t dot m end i f le h g = record {
  tree = RhsTree.field t dot m;
  is = rw (h.name.0, h.variable.0, h.member_next.2.text, h.member_next.2.program, h.dot_next.2.text, h.dot_next.2.program, h.variable.2.text, h.variable.1, h.receiver.2.text, h.receiver.2.program) refl;
  program = g.2.program ∙ h.name.1 ∙ rw (h.member_next.2.text, h.member_next.2.program, h.dot_next.2.text, h.dot_next.2.program, h.variable.2.text, h.variable.1, h.receiver.2.text, h.receiver.2.program) refl;
  head = refl;
  leads = λ a lv.
      via (member old p1 p2 p3 p4 p5 depth t dot m i f a le lv h)
      (takes p5 new kind.Semicolon end (State.value_member a t dot m) (after_value a (RhsTree.field t dot m) end) g refl (omega (arith, after_value-level a (RhsTree.field t dot m) end)));
}

-- ---- a call

pub call-not-opened : (old p1 p2 p3 p4 p5 new : Parser) (depth : ℕ) (t dot m : Token) (i f : Ident) (e : ParseError) → depth ≤ deepest → MemberPath old p1 p2 p3 p4 p5 t dot m i f → IsNext kind.OpenParen p5 → OpensLevel kind.OpenParen depth p5 new (Err e) → ReadsValue depth old new (Err e)
call-not-opened old p1 p2 p3 p4 p5 new depth t dot m i f e le h next o = λ a lv.
    refused (member old p1 p2 p3 p4 p5 depth t dot m i f a le lv h)
    (not-opened p5 new kind.OpenParen depth (State.value_member a t dot m) e next o (λ u deep. (State.args_due (CallPart.call_part (CallFor.to_assign a) (RecvTree.lent t) dot m u), (refl, omega arith))))

opens : (old p1 p2 p3 p4 p5 p6 : Parser) (depth : ℕ) (t dot m opening : Token) (i f : Ident) (a : Assigning) → depth ≤ deepest → level_assigning a ≡ depth → MemberPath old p1 p2 p3 p4 p5 t dot m i f → OpensLevel kind.OpenParen depth p5 p6 (Ok opening) →
    Leads old (State.value_due a) p6 (State.args_due (CallPart.call_part (CallFor.to_assign a) (RecvTree.lent t) dot m opening))
opens old p1 p2 p3 p4 p5 p6 depth t dot m opening i f a le lv h o =
    via (member old p1 p2 p3 p4 p5 depth t dot m i f a le lv h) (takes p5 p6 kind.OpenParen opening (State.value_member a t dot m) _ o.0 refl (omega (arith, o.1)))

pub call-args : (old p1 p2 p3 p4 p5 p6 new : Parser) (depth : ℕ) (t dot m opening : Token) (i f : Ident) (e : ParseError) → depth ≤ deepest → MemberPath old p1 p2 p3 p4 p5 t dot m i f → OpensLevel kind.OpenParen depth p5 p6 (Ok opening) → ReadsArgs (depth + 1) p6 new (Err e) → ReadsValue depth old new (Err e)
call-args old p1 p2 p3 p4 p5 p6 new depth t dot m opening i f e le h o r = λ a lv.
    refused (opens old p1 p2 p3 p4 p5 p6 depth t dot m opening i f a le lv h o) (r (CallPart.call_part (CallFor.to_assign a) (RecvTree.lent t) dot m opening) (omega arith))

pub call-no-end : (old p1 p2 p3 p4 p5 p6 p7 new : Parser) (depth : ℕ) (t dot m opening : Token) (i f : Ident) (list : List Arg) (e : ParseError) → depth ≤ deepest → MemberPath old p1 p2 p3 p4 p5 t dot m i f → OpensLevel kind.OpenParen depth p5 p6 (Ok opening) →
    ReadsArgs (depth + 1) p6 p7 (Ok list) → TakesToken kind.Semicolon p7 new (Err e) → ReadsValue depth old new (Err e)
call-no-end old p1 p2 p3 p4 p5 p6 p7 new depth t dot m opening i f list e le h o g miss = λ a lv.
    let c = CallPart.call_part (CallFor.to_assign a) (RecvTree.lent t) dot m opening in
    refused (via (opens old p1 p2 p3 p4 p5 p6 depth t dot m opening i f a le lv h o) (g.leads c (omega arith)))
    (misses p7 new kind.Semicolon e (close_call c g.tree g.closing) miss (only-expects p7 _ _ kind.Semicolon _))

pub call-ok : (old p1 p2 p3 p4 p5 p6 p7 new : Parser) (depth : ℕ) (t dot m opening end : Token) (i f : Ident) (list : List Arg) → depth ≤ deepest → MemberPath old p1 p2 p3 p4 p5 t dot m i f → OpensLevel kind.OpenParen depth p5 p6 (Ok opening) →
    ReadsArgs (depth + 1) p6 p7 (Ok list) → TakesToken kind.Semicolon p7 new (Ok end) → ValueRead depth old new (record { rhs = right.Call (record { consumed = false; on = i; method = f; args = list }); head = end; end = end })
call-ok old p1 p2 p3 p4 p5 p6 p7 new depth t dot m opening end i f list le h o g s = record {
  tree = RhsTree.called (CallTree.call (RecvTree.lent t) dot m opening g.tree g.closing);
  is = rw (g.is, h.name.0, h.variable.0, o.0.2.text, o.0.2.program, h.name.2.text, h.name.1, h.member_next.2.text, h.member_next.2.program, h.dot_next.2.text, h.dot_next.2.program, h.variable.2.text, h.variable.1, h.receiver.2.text, h.receiver.2.program) refl;
  program = s.2.program ∙ g.program ∙ rw (o.0.2.text, o.0.2.program, h.name.2.text, h.name.1, h.member_next.2.text, h.member_next.2.program, h.dot_next.2.text, h.dot_next.2.program, h.variable.2.text, h.variable.1, h.receiver.2.text, h.receiver.2.program) refl;
  head = refl;
  leads = λ a lv.
      let c = CallPart.call_part (CallFor.to_assign a) (RecvTree.lent t) dot m opening in
      let r = RhsTree.called (CallTree.call (RecvTree.lent t) dot m opening g.tree g.closing) in
      via (opens old p1 p2 p3 p4 p5 p6 depth t dot m opening i f a le lv h o) (via (g.leads c (omega arith))
      (takes p7 new kind.Semicolon end (close_call c g.tree g.closing) (after_value a r end) s refl (omega (arith, after_value-level a r end))));
}
