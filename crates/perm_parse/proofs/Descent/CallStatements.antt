-- The arms of the descent through a call that is a statement: what each does to the reading that is left.
use Rattle.std.proofs.Common.{◌≡◌, ℕ, ◌+◌, ◌≤◌, List, ◌∷◌, Result, Ok, Err, false, refl, ◌∙◌, arith}
use Rattle.perm_tree.specs.declared.ast.Arg.{Arg}
use Rattle.perm_tree.specs.declared.ast.Call.{Call}
use Rattle.perm_tree.specs.declared.ast.Ident.{Ident}
use Rattle.perm_tree.specs.declared.ast.StmtKind.TheVariants as form
use Rattle.perm_tree.specs.declared.errors.ParseError.{ParseError}
use Rattle.perm_tree.specs.declared.tokens.Token.{Token}
use Rattle.perm_tree.specs.declared.tokens.TokenKind.TheVariants as kind
use Rattle.perm_parse.specs.declared.parser.Parser.{Parser}
use Rattle.perm_parse.specs.Grammar.{CallTree, RecvTree, StmtTree, Stmts}
use Rattle.perm_parse.specs.States.{State, CallFor, CallPart, Open, Outer, Wanted, level_outer, open_text}
use Rattle.perm_parse.specs.Machine.{gives_receiver, close_call}
use Rattle.perm_parse.specs.ParserResults.{IsNext, TakesToken, OpensLevel, Leads, ReadsArgs, ReadsGiven, EndsStmt, ReadsStmt}
use Rattle.perm_parse.specs.Parses.{deepest}
use Rattle.perm_parse.proofs.Descent.TokenSteps.{via, refused, takes, misses, only-expects}
use Rattle.perm_parse.proofs.Descent.Operands.{not-opened}
use Rattle.perm_parse.proofs.Descent.MemberValues.{MemberPath}
use Rattle.perm_parse.proofs.Descent.StatementEnds.{ends, ends-not}
use Rattle.perm_parse.proofs.Descent.HeapWrites.{member}

-- ---- `y.m(..);`

pub call-not-opened : (old p1 p2 p3 p4 p5 new : Parser) (depth : ℕ) (t dot m : Token) (i f : Ident) (e : ParseError) → depth ≤ deepest → MemberPath old p1 p2 p3 p4 p5 t dot m i f → IsNext kind.OpenParen p5 → OpensLevel kind.OpenParen depth p5 new (Err e) → ReadsStmt depth old new (Err e)
call-not-opened old p1 p2 p3 p4 p5 new depth t dot m i f e le h next o = λ u b lv.
    refused (member old p1 p2 p3 p4 p5 depth t dot m i f u b le lv h)
    (not-opened p5 new kind.OpenParen depth (State.member_seen (Open.at u b) t dot m) e next o (λ w deep. (State.args_due (CallPart.call_part (CallFor.to_stand (Open.at u b)) (RecvTree.lent t) dot m w), (refl, omega arith))))

opens : (old p1 p2 p3 p4 p5 p6 : Parser) (depth : ℕ) (t dot m opening : Token) (i f : Ident) (u : Outer) (b : Stmts) → depth ≤ deepest → level_outer u ≡ depth → MemberPath old p1 p2 p3 p4 p5 t dot m i f → OpensLevel kind.OpenParen depth p5 p6 (Ok opening) →
    Leads old (State.listing (Open.at u b)) p6 (State.args_due (CallPart.call_part (CallFor.to_stand (Open.at u b)) (RecvTree.lent t) dot m opening))
opens old p1 p2 p3 p4 p5 p6 depth t dot m opening i f u b le lv h o =
    via (member old p1 p2 p3 p4 p5 depth t dot m i f u b le lv h) (takes p5 p6 kind.OpenParen opening (State.member_seen (Open.at u b) t dot m) _ o.0 refl (omega (arith, o.1)))

pub call-args : (old p1 p2 p3 p4 p5 p6 new : Parser) (depth : ℕ) (t dot m opening : Token) (i f : Ident) (e : ParseError) → depth ≤ deepest → MemberPath old p1 p2 p3 p4 p5 t dot m i f → OpensLevel kind.OpenParen depth p5 p6 (Ok opening) → ReadsArgs (depth + 1) p6 new (Err e) → ReadsStmt depth old new (Err e)
call-args old p1 p2 p3 p4 p5 p6 new depth t dot m opening i f e le h o r = λ u b lv.
    refused (opens old p1 p2 p3 p4 p5 p6 depth t dot m opening i f u b le lv h o) (r (CallPart.call_part (CallFor.to_stand (Open.at u b)) (RecvTree.lent t) dot m opening) (omega arith))

pub call-is : (old p1 p2 p3 p4 p5 p6 p7 new : Parser) (depth : ℕ) (t dot m opening : Token) (i f : Ident) (list : List Arg) (c : Call) (r : Result ℕ ParseError) → depth ≤ deepest → MemberPath old p1 p2 p3 p4 p5 t dot m i f → OpensLevel kind.OpenParen depth p5 p6 (Ok opening) →
    ReadsArgs (depth + 1) p6 p7 (Ok list) → c ≡ record { consumed = false; on = i; method = f; args = list } → EndsStmt t (form.Call c) p7 new r → ReadsStmt depth old new r
call-is old p1 p2 p3 p4 p5 p6 p7 new depth t dot m opening i f list c (Ok n) le h o g is d =
    let tree = StmtTree.run_call (CallTree.call (RecvTree.lent t) dot m opening g.tree g.closing) d.end in
    record {
      tree = tree;
      place = d.place ∙ rw (g.program, o.0.2.text, o.0.2.program, h.name.2.text, h.name.1, h.member_next.2.text, h.member_next.2.program, h.dot_next.2.text, h.dot_next.2.program, h.variable.2.text, h.variable.1, h.receiver.2.text, h.receiver.2.program) refl;
      program = d.program ∙ rw (is, g.is, g.program, o.0.2.text, o.0.2.program, h.name.0, h.name.2.text, h.name.1, h.member_next.2.text, h.member_next.2.program, h.dot_next.2.text, h.dot_next.2.program, h.variable.0, h.variable.2.text, h.variable.1, h.receiver.2.text, h.receiver.2.program) refl;
      leads = λ u b lv.
          let part = CallPart.call_part (CallFor.to_stand (Open.at u b)) (RecvTree.lent t) dot m opening in
          via (opens old p1 p2 p3 p4 p5 p6 depth t dot m opening i f u b le lv h o) (via (g.leads part (omega arith))
          (ends p7 new t (form.Call c) n (close_call part g.tree g.closing) (State.listing (Open.at u (Stmts.more_stmts b tree))) d refl (omega arith)));
    }
call-is old p1 p2 p3 p4 p5 p6 p7 new depth t dot m opening i f list c (Err e) le h o g is d = λ u b lv.
    let part = CallPart.call_part (CallFor.to_stand (Open.at u b)) (RecvTree.lent t) dot m opening in
    refused (via (opens old p1 p2 p3 p4 p5 p6 depth t dot m opening i f u b le lv h o) (g.leads part (omega arith)))
    (ends-not p7 new t (form.Call c) e (close_call part g.tree g.closing) d (only-expects p7 _ _ kind.Semicolon _))

-- ---- `(consume y).m(..);`

pub given-not-opened : (old new : Parser) (depth : ℕ) (e : ParseError) → depth ≤ deepest → IsNext kind.OpenParen old → OpensLevel kind.OpenParen depth old new (Err e) → ReadsStmt depth old new (Err e)
given-not-opened old new depth e le next o = λ u b lv.
    not-opened old new kind.OpenParen depth (State.listing (Open.at u b)) e next o
    (λ t deep. (State.expects (λ rest. open_text (Open.at u b) (t ∷ rest)) (level_outer u + 1) (Wanted.exactly kind.Consume) (λ word. gives_receiver (CallFor.to_stand (Open.at u b)) t word), (refl, omega arith)))

pub given-no-word : (old p1 new : Parser) (depth : ℕ) (opening : Token) (e : ParseError) → OpensLevel kind.OpenParen depth old p1 (Ok opening) → TakesToken kind.Consume p1 new (Err e) → ReadsStmt depth old new (Err e)
given-no-word old p1 new depth opening e o miss = λ u b lv.
    refused (takes old p1 kind.OpenParen opening (State.listing (Open.at u b)) _ o.0 refl (omega (arith, o.1))) (misses p1 new kind.Consume e _ miss (only-expects p1 _ _ kind.Consume _))

gives : (old p1 p2 : Parser) (depth : ℕ) (opening word : Token) (u : Outer) (b : Stmts) → level_outer u ≡ depth → OpensLevel kind.OpenParen depth old p1 (Ok opening) → TakesToken kind.Consume p1 p2 (Ok word) →
    Leads old (State.listing (Open.at u b)) p2 (gives_receiver (CallFor.to_stand (Open.at u b)) opening word)
gives old p1 p2 depth opening word u b lv o h =
    via (takes old p1 kind.OpenParen opening (State.listing (Open.at u b)) _ o.0 refl (omega (arith, o.1)))
    (takes p1 p2 kind.Consume word _ (gives_receiver (CallFor.to_stand (Open.at u b)) opening word) h refl (omega (arith, o.1)))

pub given-call : (old p1 p2 new : Parser) (depth : ℕ) (opening word : Token) (e : ParseError) → OpensLevel kind.OpenParen depth old p1 (Ok opening) → TakesToken kind.Consume p1 p2 (Ok word) → ReadsGiven depth p2 new (Err e) → ReadsStmt depth old new (Err e)
given-call old p1 p2 new depth opening word e o h r = λ u b lv. refused (gives old p1 p2 depth opening word u b lv o h) (r (CallFor.to_stand (Open.at u b)) opening word lv)

pub given-is : (old p1 p2 p3 new : Parser) (depth : ℕ) (opening word : Token) (c : Call) (r : Result ℕ ParseError) → depth ≤ deepest → OpensLevel kind.OpenParen depth old p1 (Ok opening) → TakesToken kind.Consume p1 p2 (Ok word) → ReadsGiven depth p2 p3 (Ok c) → EndsStmt opening (form.Call c) p3 new r →
    ReadsStmt depth old new r
given-is old p1 p2 p3 new depth opening word c (Ok n) le o h g d =
    let call = CallTree.call (RecvTree.given opening word g.name g.closing) g.dot g.member g.paren g.list g.end in
    record {
      tree = StmtTree.run_call call d.end;
      place = d.place ∙ rw (g.program opening word, h.2.text, h.2.program, o.0.2.text, o.0.2.program) refl;
      program = d.program ∙ rw (g.is opening word, g.program opening word, h.2.text, h.2.program, o.0.2.text, o.0.2.program) refl;
      leads = λ u b lv.
          via (gives old p1 p2 depth opening word u b lv o h) (via (g.leads (CallFor.to_stand (Open.at u b)) opening word lv)
          (ends p3 new opening (form.Call c) n _ (State.listing (Open.at u (Stmts.more_stmts b (StmtTree.run_call call d.end)))) d refl (omega arith)));
    }
given-is old p1 p2 p3 new depth opening word c (Err e) le o h g d = λ u b lv.
    refused (via (gives old p1 p2 depth opening word u b lv o h) (g.leads (CallFor.to_stand (Open.at u b)) opening word lv))
    (ends-not p3 new opening (form.Call c) e _ d (only-expects p3 _ _ kind.Semicolon _))
