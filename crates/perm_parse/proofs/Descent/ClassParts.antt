-- The arms of the descent through members and classes: what each does to the reading that is left.
use Rattle.std.proofs.Common.{◌≡◌, ℕ, ◌<◌, ◌≤◌, ◌⊎◌, inl, inr, List, [], ◌∷◌, ◌++◌, length, get_or, None, Some, Result, Ok, Err, refl, ◌∙◌, subst, arith}
use Rattle.std.specs.List.{slice_get}
use Rattle.std.specs.Result.{OnErr, OnOk}
use Rattle.std.proofs.lemmas.Option.{slice_get_cases}
use Rattle.perm_tree.proofs.Pushes.{all_more, arg_more, get_push}
use Rattle.perm_tree.specs.Places.{ClassPlaced, MethodPlaced}
use Rattle.perm_tree.specs.declared.ast.ClassDecl.{ClassDecl}
use Rattle.perm_tree.specs.declared.ast.FieldDecl.{FieldDecl}
use Rattle.perm_tree.specs.declared.ast.Ident.{Ident}
use Rattle.perm_tree.specs.declared.ast.Method.{Method}
use Rattle.perm_tree.specs.declared.errors.ParseError.{ParseError}
use Rattle.perm_tree.specs.declared.errors.ParseError.TheVariants.{Unexpected, NoMemory}
use Rattle.perm_tree.specs.declared.tokens.Token.{Token}
use Rattle.perm_tree.specs.declared.tokens.TokenKind.{TokenKind}
use Rattle.perm_tree.specs.declared.tokens.TokenKind.TheVariants as kind
use Rattle.perm_parse.specs.declared.parser.Parser.{Parser}
use Rattle.perm_parse.specs.Grammar.{TypeTree, MemberTree, Members, Classes}
use Rattle.perm_parse.specs.States.{State, TypeFor, ClassPart}
use Rattle.perm_parse.specs.Machine.{step_type, step_classes, step_in_class, step_member_named, end_field}
use Rattle.perm_parse.specs.ParserResults.{IsNotNext, TakesToken, OpensLevel, NamesToken, Leads, Refuses}
use Rattle.perm_parse.specs.MemberResults.{ReadsDecl, ReadsMethod, MemberRead, ReadsMember, MembersPartRead, MembersRead, ReadsMembers, PushesClass, ReadsClass}
use Rattle.perm_parse.proofs.Descent.Types.{opened-or}
use Rattle.perm_parse.proofs.Descent.TokenSteps.{dead, here, only-expects, via, refused, no-memory, takes, misses, same-next}

-- ---- places

class-same : (n n' m m' : ℕ) (c c' : ClassDecl) → n ≤ n' → m ≤ m' → c'.methods ≡ c.methods → ClassPlaced n m c → ClassPlaced n' m' c'
class-same n n' m m' c c' le le' same placed = λ k d e.
    let h = placed k d (subst (λ (x : List Method). slice_get x k ≡ Some d) same e) in
    (all_more m m' d.body.stmts le' h.0, arg_more n n' d.back le h.1)

class-more : (n n' m m' : ℕ) (c c' : ClassDecl) (d : Method) → n ≤ n' → m ≤ m' → c'.methods ≡ c.methods ++ d ∷ [] → ClassPlaced n m c → MethodPlaced n' m' d → ClassPlaced n' m' c'
class-more n n' m m' c c' d le le' more placed new = λ k x e. pick k x (get_push c.methods d k x (subst (λ (y : List Method). slice_get y k ≡ Some x) more e))
  where
    pick : (k : ℕ) (x : Method) → (slice_get c.methods k ≡ Some x) ⊎ ((k ≡ length c.methods) × (d ≡ x)) → MethodPlaced n' m' x
    pick k x (inl h) = class-same n n' m m' c c le le' refl placed k x h
    pick k x (inr h) = subst (λ (y : Method). MethodPlaced n' m' y) h.1 new

pub method-placed : (n n' m m' : ℕ) (c : ClassDecl) (methods : List Method) (d : Method) → n ≤ n' → m ≤ m' → methods ≡ c.methods ++ d ∷ [] → ClassPlaced n m c → MethodPlaced n' m' d → ClassPlaced n' m' (record c { methods = methods })
method-placed n n' m m' c methods d le le' more placed new = class-more n n' m m' c (record c { methods = methods }) d le le' more placed new

pub field-placed : (n n' m m' : ℕ) (c : ClassDecl) (fields : List FieldDecl) → n ≤ n' → m ≤ m' → ClassPlaced n m c → ClassPlaced n' m' (record c { fields = fields })
field-placed n n' m m' c fields le le' placed = class-same n n' m m' c (record c { fields = fields }) le le' refl placed

-- ---- what was added, or want of memory

pub on-ok : {A B : Type 0} (r : Result (Unit {0}) ParseError) → OnOk r A → (A → B) → OnOk r B
on-ok (Ok u) h f = f h
on-ok (Err e) h f = tt

member-is : (old new : Parser) (before after : ClassDecl) (r : Result (Unit {0}) ParseError) (A B : Type 0) → OnOk r A → OnErr r ((r ≡ Err NoMemory) × B) → (A → MemberRead old new before after) → ReadsMember old new before after r
member-is old new before after (Ok u) A B h g f = f h
member-is old new before after (Err e) A B h g f =
    let is : e ≡ NoMemory = cc g.0 in
    λ list word name opening members. no-memory old (State.in_class (ClassPart.class_part list word name opening members)) e is

-- ---- a member

begins : (c : ClassPart) (t : Token) (other : TokenKind) → (other ≡ kind.CloseBrace → ⊥) → step_in_class c t other ≡ step_type (TypeFor.to_member c) t other
begins c t kind.CloseBrace h = absurd (h refl)
begins c t _ h = refl

as-member : (p : Parser) (c : ClassPart) → IsNotNext kind.CloseBrace p → Leads p (State.in_class c) p (State.type_due (TypeFor.to_member c))
as-member p c h = same-next p (State.in_class c) (State.type_due (TypeFor.to_member c)) (λ t n. begins c t t.kind (h t n)) refl

pub member-no-decl : (old new : Parser) (before after : ClassDecl) (e : ParseError) → IsNotNext kind.CloseBrace old → ReadsDecl 1 old new (Err e) → ReadsMember old new before after (Err e)
member-no-decl old new before after e starts r = λ list word name opening members.
    let c = ClassPart.class_part list word name opening members in
    refused (as-member old c starts) (r (TypeFor.to_member c) refl)

pub member-no-method : (old p1 new : Parser) (before after : ClassDecl) (head : FieldDecl) (e : ParseError) → IsNotNext kind.CloseBrace old → ReadsDecl 1 old p1 (Ok head) → ReadsMethod p1 new head (Err e) → ReadsMember old new before after (Err e)
member-no-method old p1 new before after head e starts g r = λ list word name opening members.
    let c = ClassPart.class_part list word name opening members in
    refused (via (as-member old c starts) (g.leads (TypeFor.to_member c) refl)) (r c g.tree g.name)

member-method : (old p1 new : Parser) (before after : ClassDecl) (head : FieldDecl) (m : Method) → p1.text ≡ old.text → IsNotNext kind.CloseBrace old → ReadsDecl 1 old p1 (Ok head) → ReadsMethod p1 new head (Ok m) →
    after.name ≡ before.name → after.fields ≡ before.fields → after.methods ≡ before.methods ++ m ∷ [] → MemberRead old new before after
member-method old p1 new before after head m text starts g h same fields methods = record {
  tree = MemberTree.method g.tree g.name h.opening h.params h.closing h.perm h.receiver h.start h.body h.word h.back h.end h.finish;
  same = same;
  fields = fields;
  methods = methods ∙ rw (h.is, g.is, text, g.program) refl;
  program = h.program ∙ rw (text, g.program) refl;
  leads = λ list word name opening members.
      let c = ClassPart.class_part list word name opening members in
      via (as-member old c starts) (via (g.leads (TypeFor.to_member c) refl) (h.leads c g.tree g.name));
}

pub method-added : (old p1 new : Parser) (before : ClassDecl) (methods : List Method) (head : FieldDecl) (m : Method) (r : Result (Unit {0}) ParseError) → p1.text ≡ old.text → IsNotNext kind.CloseBrace old → ReadsDecl 1 old p1 (Ok head) → ReadsMethod p1 new head (Ok m) →
    OnOk r (methods ≡ before.methods ++ m ∷ []) → OnErr r ((r ≡ Err NoMemory) × (methods ≡ before.methods)) → ReadsMember old new before (record before { methods = methods }) r
method-added old p1 new before methods head m r text starts g h ok err =
    member-is old new before (record before { methods = methods }) r _ _ ok err (λ is. member-method old p1 new before (record before { methods = methods }) head m text starts g h refl refl is)

others : (c : ClassPart) (ty : TypeTree) (name t : Token) (other : TokenKind) → (other ≡ kind.OpenParen → ⊥) → (other ≡ kind.Semicolon → ⊥) → step_member_named c ty name t other ≡ None
others c ty name t kind.OpenParen h g = absurd (h refl)
others c ty name t kind.Semicolon h g = absurd (g refl)
others c ty name t _ h g = refl

pub member-no-end : (old p1 new : Parser) (before after : ClassDecl) (head : FieldDecl) (e : ParseError) → IsNotNext kind.CloseBrace old → ReadsDecl 1 old p1 (Ok head) → IsNotNext kind.OpenParen p1 → TakesToken kind.Semicolon p1 new (Err e) → ReadsMember old new before after (Err e)
member-no-end old p1 new before after head e starts g no_paren miss = λ list word name opening members.
    let c = ClassPart.class_part list word name opening members in
    refused (via (as-member old c starts) (g.leads (TypeFor.to_member c) refl))
    (misses p1 new kind.Semicolon e (State.member_named c g.tree g.name) miss (record { others = λ t n h. others c g.tree g.name t t.kind (no_paren t n) h; ends = refl }))

member-field : (old p1 new : Parser) (before after : ClassDecl) (head : FieldDecl) (end : Token) → IsNotNext kind.CloseBrace old → ReadsDecl 1 old p1 (Ok head) → TakesToken kind.Semicolon p1 new (Ok end) →
    after.name ≡ before.name → after.fields ≡ before.fields ++ head ∷ [] → after.methods ≡ before.methods → MemberRead old new before after
member-field old p1 new before after head end starts g h same fields methods = record {
  tree = MemberTree.field_member g.tree g.name end;
  same = same;
  fields = fields ∙ rw g.is refl;
  methods = methods;
  program = h.2.program ∙ g.program;
  leads = λ list word name opening members.
      let c = ClassPart.class_part list word name opening members in
      via (as-member old c starts) (via (g.leads (TypeFor.to_member c) refl)
      (takes p1 new kind.Semicolon end (State.member_named c g.tree g.name) (end_field c g.tree g.name end) h refl (omega arith)));
}

pub field-added : (old p1 new : Parser) (before : ClassDecl) (fields : List FieldDecl) (head : FieldDecl) (end : Token) (r : Result (Unit {0}) ParseError) → IsNotNext kind.CloseBrace old → ReadsDecl 1 old p1 (Ok head) → TakesToken kind.Semicolon p1 new (Ok end) →
    OnOk r (fields ≡ before.fields ++ head ∷ []) → OnErr r ((r ≡ Err NoMemory) × (fields ≡ before.fields)) → ReadsMember old new before (record before { fields = fields }) r
field-added old p1 new before fields head end r starts g h ok err =
    member-is old new before (record before { fields = fields }) r _ _ ok err (λ is. member-field old p1 new before (record before { fields = fields }) head end starts g h refl is refl)

-- ---- the members of a class

pub members-more : (old p new : Parser) (class after : ClassDecl) → p.text ≡ old.text → MembersPartRead old p class → MemberRead p new class after → MembersPartRead old new after
members-more old p new class after text g r = record {
  tree = Members.more_members g.tree r.tree;
  fields = r.fields ∙ rw (g.fields, g.methods, text, g.program) refl;
  methods = r.methods ∙ rw (g.fields, g.methods, text, g.program) refl;
  program = r.program ∙ rw (g.fields, g.methods, text, g.program) refl;
  leads = λ list word name opening. via (g.leads list word name opening) (r.leads list word name opening g.tree);
}

pub members-end : (old p new : Parser) (class : ClassDecl) (closing : Token) → MembersPartRead old p class → TakesToken kind.CloseBrace p new (Ok closing) → MembersRead old new class
members-end old p new class closing g h = record {
  tree = g.tree;
  closing = closing;
  fields = g.fields;
  methods = g.methods;
  program = h.2.program ∙ g.program;
  leads = λ list word name opening.
      via (g.leads list word name opening)
      (takes p new kind.CloseBrace closing (State.in_class (ClassPart.class_part list word name opening g.tree)) (State.between_classes (Classes.more_classes list word name opening g.tree closing)) h refl (omega arith));
}

-- ---- a class

-- no class begins with another token
no-class : (list : Classes) (t : Token) (other : TokenKind) → (other ≡ kind.Class → ⊥) → step_classes list t other ≡ None
no-class list t kind.Class h = absurd (h refl)
no-class list t _ h = refl

-- a token comes next, and it isn't the word of a class
pub class-missing : (old new : Parser) (e : ParseError) → old.at < length old.tokens.now → TakesToken kind.Class old new (Err e) → ReadsClass old new (Err e)
class-missing old new e lt miss = λ list. rw miss.0 (cases list (slice_get_cases old.tokens.now old.at).1)
  where
    cases : (list : Classes) → ((t : Token) × (old.at < length old.tokens.now) × (slice_get old.tokens.now old.at ≡ Some t) × (get_or old.tokens.now old.at t ≡ t)) ⊎ ((length old.tokens.now ≤ old.at) × (slice_get old.tokens.now old.at ≡ None)) →
        Refuses old (State.between_classes list) (Unexpected old.at)
    cases list (inl h) = dead old h.0 (State.between_classes list) h.2 (no-class list h.0 h.0.kind (miss.1 h.0 h.2))
    cases list (inr h) = absurd (omega arith)

pub class-no-name : (old p1 new : Parser) (word : Token) (e : ParseError) → TakesToken kind.Class old p1 (Ok word) → TakesToken kind.Name p1 new (Err e) → ReadsClass old new (Err e)
class-no-name old p1 new word e h miss = λ list.
    refused (takes old p1 kind.Class word (State.between_classes list) _ h refl (omega arith)) (misses p1 new kind.Name e _ miss (only-expects p1 _ _ kind.Name _))

-- up to behind the name
pub record ClassPath (old p1 p2 p3 : Parser) (word name : Token) (i : Ident) : Type 0 where
  pub begins : TakesToken kind.Class old p1 (Ok word)
  pub name_next : TakesToken kind.Name p1 p2 (Ok name)
  pub numbered : NamesToken name p2 p3 (Ok i)

pub class-not-opened : (old p1 p2 p3 new : Parser) (word name : Token) (i : Ident) (e : ParseError) → ClassPath old p1 p2 p3 word name i → OpensLevel kind.OpenBrace 0 p3 new (Err e) → ReadsClass old new (Err e)
class-not-opened old p1 p2 p3 new word name i e h o = λ list.
    refused (via (takes old p1 kind.Class word (State.between_classes list) _ h.begins refl (omega arith)) (via (takes p1 p2 kind.Name name _ _ h.name_next refl (omega arith)) (here p2 p3 _ h.numbered.2)))
    (opened-or p3 new kind.OpenBrace 0 _ _ _ e (λ t. refl) (λ t. refl) o)

class-opens : (old p1 p2 p3 p4 : Parser) (word name opening : Token) (i : Ident) (list : Classes) → ClassPath old p1 p2 p3 word name i → OpensLevel kind.OpenBrace 0 p3 p4 (Ok opening) →
    Leads old (State.between_classes list) p4 (State.in_class (ClassPart.class_part list word name opening Members.no_members))
class-opens old p1 p2 p3 p4 word name opening i list h o =
    via (takes old p1 kind.Class word (State.between_classes list) _ h.begins refl (omega arith)) (via (takes p1 p2 kind.Name name _ _ h.name_next refl (omega arith)) (via (here p2 p3 _ h.numbered.2)
    (takes p3 p4 kind.OpenBrace opening _ (State.in_class (ClassPart.class_part list word name opening Members.no_members)) o.0 refl (omega arith))))

pub class-members : (old p1 p2 p3 p4 new : Parser) (word name opening : Token) (i : Ident) (e : ParseError) → ClassPath old p1 p2 p3 word name i → OpensLevel kind.OpenBrace 0 p3 p4 (Ok opening) → ReadsMembers p4 new (Err e) → ReadsClass old new (Err e)
class-members old p1 p2 p3 p4 new word name opening i e h o r = λ list. refused (class-opens old p1 p2 p3 p4 word name opening i list h o) (r list word name opening)

class-is : (c : ClassDecl) (n : Ident) (f : List FieldDecl) (m : List Method) → c.name ≡ n → c.fields ≡ f → c.methods ≡ m → c ≡ record { name = n; fields = f; methods = m }
class-is c n f m a b d = λ i. record { name = a i; fields = b i; methods = d i }

pub class-added : (old p1 p2 p3 p4 p5 new : Parser) (word name opening : Token) (i : Ident) (class : ClassDecl) (r : Result (Unit {0}) ParseError) → ClassPath old p1 p2 p3 word name i → OpensLevel kind.OpenBrace 0 p3 p4 (Ok opening) → ReadsMembers p4 p5 (Ok class) →
    class.name ≡ i → PushesClass class p5 new r → ReadsClass old new r
class-added old p1 p2 p3 p4 p5 new word name opening i class (Ok u) h o g same d =
    let n = h.numbered in
    let whole = class-is class i _ _ same g.fields g.methods in
    record {
      word = word;
      name = name;
      opening = opening;
      members = g.tree;
      closing = g.closing;
      program = d.0 ∙ rw (whole, g.program, o.0.2.text, n.2.text, h.name_next.2.text, h.begins.2.text, o.0.2.program, n.0, n.1, h.name_next.2.text, h.begins.2.text, h.name_next.2.program, h.begins.2.program) refl;
      leads = λ list. via (class-opens old p1 p2 p3 p4 word name opening i list h o) (via (g.leads list word name opening) (here p5 new (State.between_classes (Classes.more_classes list word name opening g.tree g.closing)) d.1));
    }
class-added old p1 p2 p3 p4 p5 new word name opening i class (Err e) h o g same d = λ list. no-memory old (State.between_classes list) e d
