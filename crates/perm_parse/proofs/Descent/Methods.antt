-- The arms of the descent through a method: what each does to the reading that is left.
use Rattle.std.proofs.Common.{◌≡◌, ℕ, List, Option, None, Some, Ok, Err, refl, ap, ◌∙◌, arith}
use Rattle.std.specs.List.{slice_get}
use Rattle.perm_tree.specs.declared.ast.Arg.{Arg}
use Rattle.perm_tree.specs.declared.ast.FieldDecl.{FieldDecl}
use Rattle.perm_tree.specs.declared.ast.Perm.{Perm}
use Rattle.perm_tree.specs.declared.ast.Perm.TheVariants as perm
use Rattle.perm_tree.specs.declared.ast.Span.{Span}
use Rattle.perm_tree.specs.declared.errors.ParseError.{ParseError}
use Rattle.perm_tree.specs.declared.errors.ParseError.TheVariants.{Unexpected}
use Rattle.perm_tree.specs.declared.tokens.Token.{Token}
use Rattle.perm_tree.specs.declared.tokens.TokenKind.{TokenKind}
use Rattle.perm_tree.specs.declared.tokens.TokenKind.TheVariants as kind
use Rattle.perm_parse.specs.declared.parser.Parser.{Parser}
use Rattle.perm_parse.specs.declared.members.Returned.{Returned}
use Rattle.perm_parse.specs.declared.members.Signature.{Signature}
use Rattle.perm_parse.specs.Grammar.{perm_word, TypeTree, ArgTree, Params, Stmts}
use Rattle.perm_parse.specs.States.{State, ArgFor, ClassPart, MethodPart, Outer, Open, BodyPart, level_state}
use Rattle.perm_parse.specs.Machine.{step_perm, finish_arg, opens_body, end_method}
use Rattle.perm_parse.specs.Meaning.{span_over}
use Rattle.perm_parse.specs.ParserResults.{IsNext, TakesToken, OpensLevel, Leads, Refuses, ReadsArg, IsNoStmtNext, ReadsStmts}
use Rattle.perm_parse.specs.MemberResults.{ReadsParams, TakesPerm, SignatureRead, ReadsSignature, ReturnedRead, ReadsReturned, MethodRead}
use Rattle.perm_parse.proofs.Descent.TokenSteps.{via, refused, stepped, dead, at-end, takes, misses, only-expects}
use Rattle.perm_parse.proofs.Descent.Blocks.{body-closes}
use Rattle.perm_parse.proofs.Descent.Operands.{not-opened}
use Rattle.perm_parse.proofs.Descent.Types.{opened-or}

-- ---- the word of a permission

no-perm : (m : MethodPart) (list : Params) (closing t : Token) (other : TokenKind) → ((p : Perm) → other ≡ perm_word p → ⊥) → step_perm m list closing t other ≡ None
no-perm m list closing t kind.Isolated h = absurd (h perm.Isolated refl)
no-perm m list closing t kind.Immutable h = absurd (h perm.Immutable refl)
no-perm m list closing t kind.Readable h = absurd (h perm.Readable refl)
no-perm m list closing t kind.Writable h = absurd (h perm.Writable refl)
no-perm m list closing t _ h = refl

perm-step : (m : MethodPart) (list : Params) (closing t : Token) (p : Perm) → step_perm m list closing t (perm_word p) ≡ Some (opens_body m list closing p t)
perm-step m list closing t perm.Isolated = refl
perm-step m list closing t perm.Immutable = refl
perm-step m list closing t perm.Readable = refl
perm-step m list closing t perm.Writable = refl

perm-missed : (old new : Parser) (m : MethodPart) (list : Params) (closing : Token) (e : ParseError) → TakesPerm old new (Err e) → Refuses old (State.perm_due m list closing) e
perm-missed old new m list closing e h = rw h.0 (cases (slice_get old.tokens.now old.at) refl)
  where
    cases : (o : Option Token) → slice_get old.tokens.now old.at ≡ o → Refuses old (State.perm_due m list closing) (Unexpected old.at)
    cases None n = at-end old (State.perm_due m list closing) n refl
    cases (Some t) n = dead old t (State.perm_due m list closing) n (no-perm m list closing t t.kind (λ p e. h.1 t n p e))

perm-taken : (old new : Parser) (m : MethodPart) (list : Params) (closing : Token) (p : Perm) (h : TakesPerm old new (Ok p)) → Leads old (State.perm_due m list closing) new (opens_body m list closing p h.0)
perm-taken old new m list closing p h = stepped old new h.0 (State.perm_due m list closing) (opens_body m list closing p h.0) h.1.0 h.1.2 (ap (λ (x : TokenKind). step_perm m list closing h.0 x) h.1.1 ∙ perm-step m list closing h.0 p) (omega arith)

-- ---- what stands between the name and the body

paren-opens : (old p1 : Parser) (c : ClassPart) (ty : TypeTree) (name opening : Token) → OpensLevel kind.OpenParen 1 old p1 (Ok opening) → Leads old (State.member_named c ty name) p1 (State.params_due (MethodPart.method_part c ty name opening))
paren-opens old p1 c ty name opening o = takes old p1 kind.OpenParen opening (State.member_named c ty name) (State.params_due (MethodPart.method_part c ty name opening)) o.0 refl (omega arith)

pub signature-not-opened : (old new : Parser) (e : ParseError) → IsNext kind.OpenParen old → OpensLevel kind.OpenParen 1 old new (Err e) → ReadsSignature old new (Err e)
signature-not-opened old new e next o = λ c ty name.
    not-opened old new kind.OpenParen 1 (State.member_named c ty name) e next o (λ t deep. (State.params_due (MethodPart.method_part c ty name t), (refl, absurd (omega arith))))

pub signature-params : (old p1 new : Parser) (opening : Token) (e : ParseError) → OpensLevel kind.OpenParen 1 old p1 (Ok opening) → ReadsParams p1 new (Err e) → ReadsSignature old new (Err e)
signature-params old p1 new opening e o r = λ c ty name. refused (paren-opens old p1 c ty name opening o) (r (MethodPart.method_part c ty name opening))

pub signature-perm : (old p1 p2 new : Parser) (opening : Token) (list : List FieldDecl) (e : ParseError) → OpensLevel kind.OpenParen 1 old p1 (Ok opening) → ReadsParams p1 p2 (Ok list) → TakesPerm p2 new (Err e) → ReadsSignature old new (Err e)
signature-perm old p1 p2 new opening list e o g miss = λ c ty name.
    let m = MethodPart.method_part c ty name opening in
    refused (via (paren-opens old p1 c ty name opening o) (g.leads m)) (perm-missed p2 new m g.tree g.closing e miss)

pub signature-no-body : (old p1 p2 p3 new : Parser) (opening : Token) (list : List FieldDecl) (p : Perm) (e : ParseError) → OpensLevel kind.OpenParen 1 old p1 (Ok opening) → ReadsParams p1 p2 (Ok list) → TakesPerm p2 p3 (Ok p) → OpensLevel kind.OpenBrace 1 p3 new (Err e) →
    ReadsSignature old new (Err e)
signature-no-body old p1 p2 p3 new opening list p e o g h miss = λ c ty name.
    let m = MethodPart.method_part c ty name opening in
    refused (via (paren-opens old p1 c ty name opening o) (via (g.leads m) (perm-taken p2 p3 m g.tree g.closing p h))) (opened-or p3 new kind.OpenBrace 1 _ _ _ e (λ t. refl) (λ t. refl) miss)

pub signature-ok : (old p1 p2 p3 new : Parser) (opening start : Token) (list : List FieldDecl) (p : Perm) → OpensLevel kind.OpenParen 1 old p1 (Ok opening) → ReadsParams p1 p2 (Ok list) → TakesPerm p2 p3 (Ok p) → OpensLevel kind.OpenBrace 1 p3 new (Ok start) →
    SignatureRead old new (record { params = list; receiver = p })
signature-ok old p1 p2 p3 new opening start list p o g h b = record {
  opening = opening;
  tree = g.tree;
  closing = g.closing;
  word = h.0;
  start = start;
  is = rw (g.is, o.0.2.text, o.0.2.program) refl;
  program = b.0.2.program ∙ h.1.2.program ∙ g.program ∙ rw (o.0.2.text, o.0.2.program) refl;
  leads = λ c ty name.
      let m = MethodPart.method_part c ty name opening in
      via (paren-opens old p1 c ty name opening o)
      (via (g.leads m)
      (via (perm-taken p2 p3 m g.tree g.closing p h)
      (takes p3 new kind.OpenBrace start (opens_body m g.tree g.closing p h.0) (State.listing (Open.at (Outer.body (BodyPart.body_part m g.tree g.closing p h.0 start)) Stmts.no_stmts)) b.0 refl (omega arith))));
}

-- ---- what stands behind the statements

pub returned-missing : (old new : Parser) (e : ParseError) → IsNoStmtNext old → TakesToken kind.Return old new (Err e) → ReadsReturned old new (Err e)
returned-missing old new e ended miss = λ d b. misses old new kind.Return e (State.listing (Open.at (Outer.body d) b)) miss (record { others = λ t n other. body-closes d b t t.kind (ended t n) other; ends = refl })

return-taken : (old p1 : Parser) (word : Token) (d : BodyPart) (b : Stmts) → TakesToken kind.Return old p1 (Ok word) → Leads old (State.listing (Open.at (Outer.body d) b)) p1 (State.arg_due (ArgFor.to_return d b word))
return-taken old p1 word d b h = takes old p1 kind.Return word (State.listing (Open.at (Outer.body d) b)) (State.arg_due (ArgFor.to_return d b word)) h refl (omega arith)

pub returned-arg : (old p1 new : Parser) (word : Token) (e : ParseError) → TakesToken kind.Return old p1 (Ok word) → ReadsArg 2 p1 new (Err e) → ReadsReturned old new (Err e)
returned-arg old p1 new word e h r = λ d b. refused (return-taken old p1 word d b h) (r (ArgFor.to_return d b word) refl)

return-ends : (d : BodyPart) (b : Stmts) (word : Token) (a : ArgTree) (t : Token) (other : TokenKind) → (other ≡ kind.Semicolon → ⊥) → finish_arg (ArgFor.to_return d b word) a t other ≡ None
return-ends d b word a t kind.Semicolon h = absurd (h refl)
return-ends d b word a t _ h = refl

pub returned-no-end : (old p1 p2 new : Parser) (word : Token) (a : Arg) (e : ParseError) → TakesToken kind.Return old p1 (Ok word) → ReadsArg 2 p1 p2 (Ok a) → TakesToken kind.Semicolon p2 new (Err e) → ReadsReturned old new (Err e)
returned-no-end old p1 p2 new word a e h g miss = λ d b.
    let k = ArgFor.to_return d b word in
    refused (via (return-taken old p1 word d b h) (g.leads k refl)) (misses p2 new kind.Semicolon e (State.arg_taken k g.tree) miss (record { others = λ t n other. return-ends d b word g.tree t t.kind other; ends = refl }))

pub returned-no-brace : (old p1 p2 p3 new : Parser) (word end : Token) (a : Arg) (e : ParseError) → TakesToken kind.Return old p1 (Ok word) → ReadsArg 2 p1 p2 (Ok a) → TakesToken kind.Semicolon p2 p3 (Ok end) → TakesToken kind.CloseBrace p3 new (Err e) → ReadsReturned old new (Err e)
returned-no-brace old p1 p2 p3 new word end a e h g h3 miss = λ d b.
    let k = ArgFor.to_return d b word in
    refused (via (return-taken old p1 word d b h) (via (g.leads k refl) (takes p2 p3 kind.Semicolon end (State.arg_taken k g.tree) _ h3 refl (omega arith)))) (misses p3 new kind.CloseBrace e _ miss (only-expects p3 _ _ kind.CloseBrace _))

end-level : (d : BodyPart) (b : Stmts) (word : Token) (a : ArgTree) (end finish : Token) → level_state (end_method d b word a end finish) ≡ 1
end-level (BodyPart.body_part (MethodPart.method_part (ClassPart.class_part list cword name opening members) ty member paren) ps closing p perm start) b word a end finish = refl

pub returned-ok : (old p1 p2 p3 new : Parser) (word end finish : Token) (a : Arg) (s : Span) → TakesToken kind.Return old p1 (Ok word) → ReadsArg 2 p1 p2 (Ok a) → TakesToken kind.Semicolon p2 p3 (Ok end) → TakesToken kind.CloseBrace p3 new (Ok finish) → s ≡ span_over word end →
    ReturnedRead old new (record { back = a; span = s })
returned-ok old p1 p2 p3 new word end finish a s h g h3 h4 is = record {
  tree = g.tree;
  word = word;
  end = end;
  finish = finish;
  is = rw (g.is, h.2.text, h.2.program) refl;
  span = is;
  program = h4.2.program ∙ h3.2.program ∙ g.program ∙ rw (h.2.text, h.2.program) refl;
  leads = λ d b.
      let k = ArgFor.to_return d b word in
      via (return-taken old p1 word d b h) (via (g.leads k refl) (via (takes p2 p3 kind.Semicolon end (State.arg_taken k g.tree) _ h3 refl (omega arith))
      (takes p3 new kind.CloseBrace finish _ (end_method d b word g.tree end finish) h4 refl (omega (arith, end-level d b word g.tree end finish)))));
}

-- ---- a whole method

pub method-ok : (old p1 p2 new : Parser) (head : FieldDecl) (s : Signature) (list : List ℕ) (r : Returned) → p1.text ≡ old.text → p2.text ≡ p1.text → ReadsSignature old p1 (Ok s) → ReadsStmts 2 p1 p2 (Ok list) → ReadsReturned p2 new (Ok r) →
    MethodRead old new head (record { result = head.ty; name = head.name; params = s.params; receiver = s.receiver; body = record { stmts = list }; back = r.back; span = r.span })
method-ok old p1 p2 new head s list r text1 text2 g b h = record {
  opening = g.opening;
  params = g.tree;
  closing = g.closing;
  perm = s.receiver;
  receiver = g.word;
  start = g.start;
  body = b.tree;
  word = h.word;
  back = h.tree;
  end = h.end;
  finish = h.finish;
  is = rw (g.is, b.is, h.is, h.span, text2, text1, b.program, text1, g.program) refl;
  program = h.program ∙ rw (text2, text1, b.program, text1, g.program) refl;
  leads = λ c ty name.
      let d = BodyPart.body_part (MethodPart.method_part c ty name g.opening) g.tree g.closing s.receiver g.word g.start in
      via (g.leads c ty name) (via (b.leads (Outer.body d) refl) (h.leads d b.tree));
}
