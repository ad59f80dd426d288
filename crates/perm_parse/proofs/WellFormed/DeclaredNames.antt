-- The names of a program's classes and fields are among its names.
use Rattle.std.proofs.Common.{◌≡◌, ℕ, ◌<◌, ◌≤◌, List, [], ◌∷◌, ◌++◌, length, map, position, Option, Some, None, refl, ◌∙◌, arith, length-append, bytes_eq}
use Rattle.std.specs.Prelude.{flat_map}
use Rattle.std.proofs.lemmas.List.{map-append, flat_map_more}
use Rattle.std.proofs.lemmas.List.Quantifiers.{position-Some}
use Rattle.perm_tree.specs.Places.{AllBelow, Listing}
use Rattle.perm_tree.specs.declared.ast.ClassDecl.{ClassDecl}
use Rattle.perm_tree.specs.declared.ast.FieldDecl.{FieldDecl}
use Rattle.perm_tree.specs.declared.ast.Method.{Method}
use Rattle.perm_tree.specs.declared.tokens.Token.{Token}
use Rattle.perm_tree.proofs.Pushes.{all_more, all_append}
use Rattle.perm_parse.specs.Grammar.{MemberTree, Members, Classes}
use Rattle.perm_parse.specs.Meaning.{number_at, ident, type_of, member_of, members_of, classes_of, meaning, nothing_yet}
use Rattle.perm_parse.proofs.Walks.ListGrowth.{front-length, Grows, ident-grows, member-grows, members-grows}
use Rattle.perm_parse.proofs.Walks.{ident-kept, members-kept}
use Rattle.perm_parse.proofs.Walks.UnchangedClasses.{SameClasses, same-classes}

-- ---- numbers in range

abbrev names_in : Listing → ℕ
names_in s = length s.names

abbrev field_number : FieldDecl → ℕ
field_number f = f.name.name

abbrev class_number : ClassDecl → ℕ
class_number c = c.name.name

more-names : (s t : Listing) → Grows s t → names_in s ≤ names_in t
more-names s t g = front-length s.names t.names g.names

-- what has the numbers of two lists, one behind the other, where the first list was in range of fewer names
below-behind : {A : Type 0} (number : A → ℕ) (n m : ℕ) (xs ys : List A) → n ≤ m → AllBelow n (map number xs) → AllBelow m (map number ys) → AllBelow m (map number (xs ++ ys))
below-behind number n m xs ys le b c = rw (map-append number xs ys) (all_append m (map number xs) (map number ys) (all_more n m (map number xs) le b) c)

-- the number of a name is the place of one of the names: of an earlier one or of the last
number_at-below : (name : List ℕ) (s : Listing) (o : Option ℕ) → position (λ other. bytes_eq other name) s.names ≡ o → (number_at name s o).0 < names_in (number_at name s o).1
number_at-below name s (Some at) e = (position-Some (λ other. bytes_eq other name) s.names at [] e).0
number_at-below name s None e = omega (arith, length-append s.names (name ∷ []))

pub ident-below : (text : List ℕ) (t : Token) (s : Listing) → (ident text t s).0.name < names_in (ident text t s).1
ident-below text t s = number_at-below _ s _ refl

-- ---- fields

-- one member more keeps the numbers of the fields in range
member-fields : (text : List ℕ) (x : MemberTree) (fs : List FieldDecl) (ms : List Method) (s : Listing) → AllBelow (names_in s) (map field_number fs) → AllBelow (names_in (member_of text x fs ms s).2) (map field_number (member_of text x fs ms s).0)
member-fields text (MemberTree.field_member ty name end) fs ms s b =
    let made = ident text name (type_of text ty s).1 in
    let le = more-names s made.1 (member-grows text (MemberTree.field_member ty name end) fs ms s) in
    below-behind field_number (names_in s) (names_in made.1) fs _ le b (ident-below text name (type_of text ty s).1, tt)
member-fields text (MemberTree.method ty name opening list closing p perm start b word a end finish) fs ms s below =
    let x = MemberTree.method ty name opening list closing p perm start b word a end finish in
    all_more (names_in s) (names_in (member_of text x fs ms s).2) (map field_number fs) (more-names s (member_of text x fs ms s).2 (member-grows text x fs ms s)) below

members-fields : (text : List ℕ) (a : Members) (s : Listing) → AllBelow (names_in (members_of text a s).2) (map field_number (members_of text a s).0)
members-fields text Members.no_members s = tt
members-fields text (Members.more_members list x) s =
    let r = members_of text list s in
    member-fields text x r.0 r.1 r.2 (members-fields text list s)

-- ---- classes

-- the numbers of the names of classes and of their fields are below a bound
abbrev HaveNames : ℕ → List ClassDecl → Type 0
HaveNames n cs = AllBelow n (map class_number cs) × AllBelow n (map field_number (flat_map (λ (c : ClassDecl). c.fields) cs))

-- the same with a class more and perhaps a higher bound
class-more : (n m : ℕ) (cs : List ClassDecl) (c : ClassDecl) → n ≤ m → HaveNames n cs → class_number c < m → AllBelow m (map field_number c.fields) → HaveNames m (cs ++ c ∷ [])
class-more n m cs c le b lt fields = (
  below-behind class_number n m cs (c ∷ []) le b.0 (lt, tt),
  rw (← flat_map_more (λ (d : ClassDecl). d.fields) [] cs c) (below-behind field_number n m (flat_map (λ (d : ClassDecl). d.fields) cs) c.fields le b.1 fields),
)

classes-names : (text : List ℕ) (a : Classes) (s : Listing) → HaveNames (names_in s) s.classes → HaveNames (names_in (classes_of text a s)) (classes_of text a s).classes
classes-names text Classes.no_classes s b = b
classes-names text (Classes.more_classes list word name opening members closing) s b =
    let front = classes_of text list s in
    let x = ident text name front in
    let r = members_of text members x.1 in
    let class : ClassDecl = record { name = x.0; fields = r.0; methods = r.1 } in
    let kept : r.2.classes ≡ front.classes = members-kept SameClasses same-classes (λ x s. refl) text members x.1 ∙ ident-kept SameClasses same-classes text name front in
    let begun = more-names front x.1 (ident-grows text name front) in
    let ended = more-names x.1 r.2 (members-grows text members x.1) in
    let number = ident-below text name front in
    rw kept (class-more (names_in front) (names_in r.2) front.classes class (omega arith) (classes-names text list s b) (omega arith) (members-fields text members x.1))

pub meaning-classes : (text : List ℕ) (tree : Classes) → AllBelow (length (meaning text tree).names) (map (λ c. c.name.name) (meaning text tree).classes)
meaning-classes text tree = (classes-names text tree nothing_yet (tt, tt)).0

pub meaning-fields : (text : List ℕ) (tree : Classes) → AllBelow (length (meaning text tree).names) (map (λ f. f.name.name) (flat_map (λ c. c.fields) (meaning text tree).classes))
meaning-fields text tree = (classes-names text tree nothing_yet (tt, tt)).1
