-- The arms of the descent through parameters: what each does to the reading that is left.
use Rattle.std.proofs.Common.{◌≡◌, ℕ, ◌≤◌, List, [], ◌∷◌, ◌++◌, None, Ok, Err, refl, ap, ◌∙◌, arith}
use Rattle.perm_tree.specs.declared.ast.FieldDecl.{FieldDecl}
use Rattle.perm_tree.specs.declared.ast.Ident.{Ident}
use Rattle.perm_tree.specs.declared.ast.Ty.{Ty}
use Rattle.perm_tree.specs.declared.errors.ParseError.{ParseError}
use Rattle.perm_tree.specs.declared.tokens.Token.{Token}
use Rattle.perm_tree.specs.declared.tokens.TokenKind.{TokenKind}
use Rattle.perm_tree.specs.declared.tokens.TokenKind.TheVariants as kind
use Rattle.perm_parse.specs.declared.parser.Parser.{Parser}
use Rattle.perm_parse.specs.Grammar.{TypeTree, ParamList, Params}
use Rattle.perm_parse.specs.States.{State, TypeFor, MethodPart, ParamsPart, level_type_for, level_state}
use Rattle.perm_parse.specs.Machine.{step_type, step_params, step_param_named, after_type, after_named_type}
use Rattle.perm_parse.specs.ParserResults.{IsNotNext, TakesToken, NamesToken, Leads, ReadsType}
use Rattle.perm_parse.specs.MemberResults.{DeclRead, ReadsDecl, ParamsPartRead, ParamsRead, ReadsParams}
use Rattle.perm_parse.specs.Parses.{deepest}
use Rattle.perm_parse.proofs.Descent.TokenSteps.{via, refused, here, takes, misses, only-expects, same-next}

-- ---- a type and a name

named-level : (k : TypeFor) (tree : TypeTree) (name : Token) → level_state (after_named_type k tree name) ≡ level_type_for k
named-level (TypeFor.to_member c) tree name = refl
named-level (TypeFor.to_param m list) tree name = refl
named-level (TypeFor.to_local o) tree name = refl

pub decl-no-name : (old p1 new : Parser) (depth : ℕ) (ty : Ty) (e : ParseError) → ReadsType depth old p1 (Ok ty) → TakesToken kind.Name p1 new (Err e) → ReadsDecl depth old new (Err e)
decl-no-name old p1 new depth ty e g miss = λ k lv. refused (g.leads k lv) (misses p1 new kind.Name e (after_type k g.tree) miss (only-expects p1 _ _ kind.Name _))

pub decl-ok : (old p1 p2 new : Parser) (depth : ℕ) (ty : Ty) (t : Token) (i : Ident) → depth ≤ deepest → p1.text ≡ old.text → ReadsType depth old p1 (Ok ty) → TakesToken kind.Name p1 p2 (Ok t) → NamesToken t p2 new (Ok i) → DeclRead depth old new (record { ty = ty; name = i })
decl-ok old p1 p2 new depth ty t i le text g h n = record {
  tree = g.tree;
  name = t;
  is = rw (g.is, n.0, h.2.text, text, h.2.program, g.program) refl;
  program = n.1 ∙ rw (h.2.text, text, h.2.program, g.program) refl;
  leads = λ k lv.
      via (g.leads k lv)
      (via (takes p1 p2 kind.Name t (after_type k g.tree) (after_named_type k g.tree t) h refl (omega (arith, named-level k g.tree t))) (here p2 new (after_named_type k g.tree t) n.2));
}

-- ---- the parameters of a method

pub params-none : (old new : Parser) (t : Token) (list : List FieldDecl) → TakesToken kind.CloseParen old new (Ok t) → list ≡ [] → ParamsRead old new list
params-none old new t list h is = record {
  tree = Params.no_params;
  closing = t;
  is = is;
  program = h.2.program;
  leads = λ m. takes old new kind.CloseParen t (State.params_due m) (State.perm_due m Params.no_params t) h refl (omega arith);
}

first-begins : (m : MethodPart) (t : Token) (other : TokenKind) → (other ≡ kind.CloseParen → ⊥) → step_params m t other ≡ step_type (TypeFor.to_param m ParamsPart.no_param_yet) t other
first-begins m t kind.CloseParen h = absurd (h refl)
first-begins m t _ h = refl

as-first : (p : Parser) (m : MethodPart) → IsNotNext kind.CloseParen p → Leads p (State.params_due m) p (State.type_due (TypeFor.to_param m ParamsPart.no_param_yet))
as-first p m h = same-next p (State.params_due m) (State.type_due (TypeFor.to_param m ParamsPart.no_param_yet)) (λ t n. first-begins m t t.kind (h t n)) refl

pub first-err : (old new : Parser) (e : ParseError) → IsNotNext kind.CloseParen old → ReadsDecl 2 old new (Err e) → ReadsParams old new (Err e)
first-err old new e h r = λ m. refused (as-first old m h) (r (TypeFor.to_param m ParamsPart.no_param_yet) refl)

pub first-ok : (old new : Parser) (d : FieldDecl) (list : List FieldDecl) → IsNotNext kind.CloseParen old → ReadsDecl 2 old new (Ok d) → list ≡ d ∷ [] → ParamsPartRead old new list
first-ok old new d list h g is = record {
  tree = ParamList.one_param g.tree g.name;
  is = is ∙ ap (λ (x : FieldDecl). x ∷ []) g.is;
  program = g.program;
  leads = λ m. via (as-first old m h) (g.leads (TypeFor.to_param m ParamsPart.no_param_yet) refl);
}

comma-taken : (p mid : Parser) (m : MethodPart) (list : ParamList) (comma : Token) → TakesToken kind.Comma p mid (Ok comma) → Leads p (State.param_named m list) mid (State.type_due (TypeFor.to_param m (ParamsPart.behind_param list comma)))
comma-taken p mid m list comma h = takes p mid kind.Comma comma (State.param_named m list) (State.type_due (TypeFor.to_param m (ParamsPart.behind_param list comma))) h refl (omega arith)

pub more-err : (old p mid new : Parser) (list : List FieldDecl) (comma : Token) (e : ParseError) → ParamsPartRead old p list → TakesToken kind.Comma p mid (Ok comma) → ReadsDecl 2 mid new (Err e) → ReadsParams old new (Err e)
more-err old p mid new list comma e g h r = λ m. refused (via (g.leads m) (comma-taken p mid m g.tree comma h)) (r (TypeFor.to_param m (ParamsPart.behind_param g.tree comma)) refl)

pub more-ok : (old p mid new : Parser) (list more : List FieldDecl) (d : FieldDecl) (comma : Token) → p.text ≡ old.text → ParamsPartRead old p list → TakesToken kind.Comma p mid (Ok comma) → ReadsDecl 2 mid new (Ok d) → more ≡ list ++ d ∷ [] → ParamsPartRead old new more
more-ok old p mid new list more d comma text g h r is = record {
  tree = ParamList.more_params g.tree comma r.tree r.name;
  is = is ∙ rw (g.is, r.is, h.2.text, text, h.2.program, g.program) refl;
  program = r.program ∙ rw (h.2.text, text, h.2.program, g.program) refl;
  leads = λ m. via (g.leads m) (via (comma-taken p mid m g.tree comma h) (r.leads (TypeFor.to_param m (ParamsPart.behind_param g.tree comma)) refl));
}

neither : (m : MethodPart) (list : ParamList) (t : Token) (other : TokenKind) → (other ≡ kind.Comma → ⊥) → (other ≡ kind.CloseParen → ⊥) → step_param_named m list t other ≡ None
neither m list t kind.Comma h g = absurd (h refl)
neither m list t kind.CloseParen h g = absurd (g refl)
neither m list t _ h g = refl

pub end-err : (old p new : Parser) (list : List FieldDecl) (e : ParseError) → ParamsPartRead old p list → IsNotNext kind.Comma p → TakesToken kind.CloseParen p new (Err e) → ReadsParams old new (Err e)
end-err old p new list e g no_comma miss = λ m.
    refused (g.leads m) (misses p new kind.CloseParen e (State.param_named m g.tree) miss (record { others = λ t n h. neither m g.tree t t.kind (no_comma t n) h; ends = refl }))

pub end-ok : (old p new : Parser) (list : List FieldDecl) (t : Token) → ParamsPartRead old p list → TakesToken kind.CloseParen p new (Ok t) → ParamsRead old new list
end-ok old p new list t g h = record {
  tree = Params.params g.tree;
  closing = t;
  is = g.is;
  program = h.2.program ∙ g.program;
  leads = λ m. via (g.leads m) (takes p new kind.CloseParen t (State.param_named m g.tree) (State.perm_due m (Params.params g.tree) t) h refl (omega arith));
}
