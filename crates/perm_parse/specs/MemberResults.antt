-- What the methods of the parser that read members and classes do, said by the reading of the tokens that are left.
use Rattle.std.specs.Prelude.{◌≡◌, ℕ, List, [], ◌∷◌, ◌++◌, length, Result, Ok, Err}
use Rattle.perm_tree.specs.Places.{Listing}
use Rattle.perm_tree.specs.declared.ast.ClassDecl.{ClassDecl}
use Rattle.perm_tree.specs.declared.ast.FieldDecl.{FieldDecl}
use Rattle.perm_tree.specs.declared.ast.Method.{Method}
use Rattle.perm_tree.specs.declared.ast.Perm.{Perm}
use Rattle.perm_tree.specs.declared.errors.ParseError.{ParseError}
use Rattle.perm_tree.specs.declared.errors.ParseError.TheVariants.{Unexpected, NoMemory}
use Rattle.perm_tree.specs.declared.tokens.Token.{Token}
use Rattle.perm_parse.specs.declared.parser.Parser.{Parser}
use Rattle.perm_parse.specs.declared.members.Returned.{Returned}
use Rattle.perm_parse.specs.declared.members.Signature.{Signature}
use Rattle.perm_parse.specs.Grammar.{Is, perm_word, TypeTree, ArgTree, Stmts, ParamList, Params, MemberTree, Members, Classes}
use Rattle.perm_parse.specs.States.{State, TypeFor, Outer, Open, ClassPart, MethodPart, BodyPart, level_type_for}
use Rattle.perm_parse.specs.Machine.{after_named_type, end_method}
use Rattle.perm_parse.specs.Meaning.{ident, type_of, arg_of, stmts_of, param_list_of, params_of, member_of, members_of, classes_of, span_over, meaning}
use Rattle.perm_parse.specs.ParserResults.{Next, IsHere, TakesToken, Leads, IsRefusal, Refuses}
use Rattle.perm_parse.specs.Answers.{parsed, read}

-- ---- types with names

-- a field or a parameter: its type, then its name
abbrev pub decl_of : List ℕ → TypeTree → Token → Listing → FieldDecl × Listing
decl_of text ty name s =
    let x = type_of text ty s in
    let y = ident text name x.1 in
    (record { ty = x.0; name = y.0 }, y.1)

-- a type and a name were read, whatever they are for
pub record DeclRead (depth : ℕ) (old new : Parser) (d : FieldDecl) : Type 0 where
  pub tree : TypeTree
  pub name : Token
  pub is : d ≡ (decl_of old.text.now tree name old.program).0
  pub program : new.program ≡ (decl_of old.text.now tree name old.program).1
  pub leads : (k : TypeFor) → level_type_for k ≡ depth → Leads old (State.type_due k) new (after_named_type k tree name)

-- a type and a name were read or refused, whatever they are for
abbrev pub ReadsDecl : ℕ → Parser → Parser → Result FieldDecl ParseError → Type 0
ReadsDecl depth old new (Ok d) = DeclRead depth old new d
ReadsDecl depth old new (Err e) = (k : TypeFor) → level_type_for k ≡ depth → Refuses old (State.type_due k) e

-- ---- parameters

-- some parameters were read
pub record ParamsPartRead (old new : Parser) (list : List FieldDecl) : Type 0 where
  pub tree : ParamList
  pub is : list ≡ (param_list_of old.text.now tree old.program).0
  pub program : new.program ≡ (param_list_of old.text.now tree old.program).1
  pub leads : (m : MethodPart) → Leads old (State.params_due m) new (State.param_named m tree)

-- the parameters of a method were read, with the closing parenthesis
pub record ParamsRead (old new : Parser) (list : List FieldDecl) : Type 0 where
  pub tree : Params
  pub closing : Token
  pub is : list ≡ (params_of old.text.now tree old.program).0
  pub program : new.program ≡ (params_of old.text.now tree old.program).1
  pub leads : (m : MethodPart) → Leads old (State.params_due m) new (State.perm_due m tree closing)

-- the parameters of a method were read or refused
abbrev pub ReadsParams : Parser → Parser → Result (List FieldDecl) ParseError → Type 0
ReadsParams old new (Ok list) = ParamsRead old new list
ReadsParams old new (Err e) = (m : MethodPart) → Refuses old (State.params_due m) e

-- ---- methods

-- the word of a permission is taken
abbrev pub TakesPerm : Parser → Parser → Result Perm ParseError → Type 0
TakesPerm old new (Ok p) = (t : Token) × TakesToken (perm_word p) old new (Ok t)
TakesPerm old new (Err e) = (e ≡ Unexpected old.at) × ((t : Token) → Next old t → (p : Perm) → Is (perm_word p) t → ⊥)

-- the parameters and the permission of a method were read, up to the brace behind them
pub record SignatureRead (old new : Parser) (s : Signature) : Type 0 where
  pub opening : Token
  pub tree : Params
  pub closing : Token
  pub word : Token
  pub start : Token
  pub is : s.params ≡ (params_of old.text.now tree old.program).0
  pub program : new.program ≡ (params_of old.text.now tree old.program).1
  pub leads : (c : ClassPart) (ty : TypeTree) (name : Token) →
      Leads old (State.member_named c ty name) new (State.listing (Open.at (Outer.body (BodyPart.body_part (MethodPart.method_part c ty name opening) tree closing s.receiver word start)) Stmts.no_stmts))

-- what stands between the name and the body of a method was read or refused
abbrev pub ReadsSignature : Parser → Parser → Result Signature ParseError → Type 0
ReadsSignature old new (Ok s) = SignatureRead old new s
ReadsSignature old new (Err e) = (c : ClassPart) (ty : TypeTree) (name : Token) → Refuses old (State.member_named c ty name) e

-- `return A;` and the brace behind it were read, behind the statements of a method
pub record ReturnedRead (old new : Parser) (r : Returned) : Type 0 where
  pub tree : ArgTree
  pub word : Token
  pub end : Token
  pub finish : Token
  pub is : r.back ≡ (arg_of old.text.now tree old.program).0
  pub span : r.span ≡ span_over word end
  pub program : new.program ≡ (arg_of old.text.now tree old.program).1
  pub leads : (d : BodyPart) (b : Stmts) → Leads old (State.listing (Open.at (Outer.body d) b)) new (end_method d b word tree end finish)

-- what stands behind the statements of a method was read or refused
abbrev pub ReadsReturned : Parser → Parser → Result Returned ParseError → Type 0
ReadsReturned old new (Ok r) = ReturnedRead old new r
ReadsReturned old new (Err e) = (d : BodyPart) (b : Stmts) → Refuses old (State.listing (Open.at (Outer.body d) b)) e

-- a method was read behind its type and its name
pub record MethodRead (old new : Parser) (head : FieldDecl) (m : Method) : Type 0 where
  pub opening : Token
  pub params : Params
  pub closing : Token
  pub perm : Perm
  pub receiver : Token
  pub start : Token
  pub body : Stmts
  pub word : Token
  pub back : ArgTree
  pub end : Token
  pub finish : Token
  pub is : m ≡ (let z = params_of old.text.now params old.program in
      let x = stmts_of old.text.now body z.1 in
      let y = arg_of old.text.now back x.1 in
      record { result = head.ty; name = head.name; params = z.0; receiver = perm; body = record { stmts = x.0 }; back = y.0; span = span_over word end })
  pub program : new.program ≡ (arg_of old.text.now back (stmts_of old.text.now body (params_of old.text.now params old.program).1).1).1
  pub leads : (c : ClassPart) (ty : TypeTree) (name : Token) →
      Leads old (State.member_named c ty name) new (end_method (BodyPart.body_part (MethodPart.method_part c ty name opening) params closing perm receiver start) body word back end finish)

-- a method was read or refused, behind its type and its name
abbrev pub ReadsMethod : Parser → Parser → FieldDecl → Result Method ParseError → Type 0
ReadsMethod old new head (Ok m) = MethodRead old new head m
ReadsMethod old new head (Err e) = (c : ClassPart) (ty : TypeTree) (name : Token) → Refuses old (State.member_named c ty name) e

-- ---- members

-- a member was read behind others, into the fields or the methods of its class
pub record MemberRead (old new : Parser) (before after : ClassDecl) : Type 0 where
  pub tree : MemberTree
  pub same : after.name ≡ before.name
  pub fields : after.fields ≡ (member_of old.text.now tree before.fields before.methods old.program).0
  pub methods : after.methods ≡ (member_of old.text.now tree before.fields before.methods old.program).1
  pub program : new.program ≡ (member_of old.text.now tree before.fields before.methods old.program).2
  pub leads : (list : Classes) (word name opening : Token) (members : Members) →
      Leads old (State.in_class (ClassPart.class_part list word name opening members)) new (State.in_class (ClassPart.class_part list word name opening (Members.more_members members tree)))

-- a member was read or refused
abbrev pub ReadsMember : Parser → Parser → ClassDecl → ClassDecl → Result (Unit {0}) ParseError → Type 0
ReadsMember old new before after (Ok u) = MemberRead old new before after
ReadsMember old new before after (Err e) = (list : Classes) (word name opening : Token) (members : Members) → Refuses old (State.in_class (ClassPart.class_part list word name opening members)) e

-- some members of a class were read
pub record MembersPartRead (old new : Parser) (class : ClassDecl) : Type 0 where
  pub tree : Members
  pub fields : class.fields ≡ (members_of old.text.now tree old.program).0
  pub methods : class.methods ≡ (members_of old.text.now tree old.program).1
  pub program : new.program ≡ (members_of old.text.now tree old.program).2
  pub leads : (list : Classes) (word name opening : Token) →
      Leads old (State.in_class (ClassPart.class_part list word name opening Members.no_members)) new (State.in_class (ClassPart.class_part list word name opening tree))

-- the members of a class were read, with the closing brace
pub record MembersRead (old new : Parser) (class : ClassDecl) : Type 0 where
  pub tree : Members
  pub closing : Token
  pub fields : class.fields ≡ (members_of old.text.now tree old.program).0
  pub methods : class.methods ≡ (members_of old.text.now tree old.program).1
  pub program : new.program ≡ (members_of old.text.now tree old.program).2
  pub leads : (list : Classes) (word name opening : Token) →
      Leads old (State.in_class (ClassPart.class_part list word name opening Members.no_members)) new (State.between_classes (Classes.more_classes list word name opening tree closing))

-- the members of a class were read or refused
abbrev pub ReadsMembers : Parser → Parser → Result ClassDecl ParseError → Type 0
ReadsMembers old new (Ok class) = MembersRead old new class
ReadsMembers old new (Err e) = (list : Classes) (word name opening : Token) → Refuses old (State.in_class (ClassPart.class_part list word name opening Members.no_members)) e

-- ---- classes

-- a class is added
abbrev pub PushesClass : ClassDecl → Parser → Parser → Result (Unit {0}) ParseError → Type 0
PushesClass class old new (Ok u) = (new.program ≡ record old.program { classes = old.program.classes ++ class ∷ [] }) × IsHere old new
PushesClass class old new (Err e) = e ≡ NoMemory

-- the program with one class more
abbrev pub with_class : List ℕ → Token → Members → Listing → Listing
with_class text name members s =
    let x = ident text name s in
    let r = members_of text members x.1 in
    let done = r.2 in
    record done { classes = done.classes ++ record { name = x.0; fields = r.0; methods = r.1 } ∷ [] }

-- a class was read behind others
pub record ClassRead (old new : Parser) : Type 0 where
  pub word : Token
  pub name : Token
  pub opening : Token
  pub members : Members
  pub closing : Token
  pub program : new.program ≡ with_class old.text.now name members old.program
  pub leads : (list : Classes) → Leads old (State.between_classes list) new (State.between_classes (Classes.more_classes list word name opening members closing))

-- a class was read or refused
abbrev pub ReadsClass : Parser → Parser → Result (Unit {0}) ParseError → Type 0
ReadsClass old new (Ok u) = ClassRead old new
ReadsClass old new (Err e) = (list : Classes) → Refuses old (State.between_classes list) e

-- some classes were read
pub record ClassesRead (old new : Parser) : Type 0 where
  pub tree : Classes
  pub program : new.program ≡ classes_of old.text.now tree old.program
  pub leads : Leads old (State.between_classes Classes.no_classes) new (State.between_classes tree)

-- classes were read up to the end of the tokens, or refused
abbrev pub ReadsClasses : Parser → Parser → Result (Unit {0}) ParseError → Type 0
ReadsClasses old new (Ok u) = ClassesRead old new × (new.at ≡ length new.tokens.now)
ReadsClasses old new (Err e) = Refuses old (State.between_classes Classes.no_classes) e

-- ---- a whole program

-- the reading of all tokens gives this program or this refusal, unless memory ran out
abbrev pub Gives : List ℕ → List Token → Result Listing ParseError → Type 0
Gives text tokens (Ok program) = (tree : Classes) × (read tokens ≡ parsed tree) × (program ≡ meaning text tree)
Gives text tokens (Err e) = IsRefusal e (read tokens)
