-- The first refusal of the names of a program.
use Rattle.std.specs.Prelude.{ℕ, Bool, true, false, not, ◌&&◌, ◌||◌, nat_eq, nat_lt, nat_le, List, [], ◌∷◌, ◌++◌, map, filter, flat_map, Option, Some, None, slice_get, if◌then◌else◌, find}
use Rattle.std.specs.List.{list_any}
use Rattle.perm_tree.specs.declared.ast.Span.{Span}
use Rattle.perm_tree.specs.declared.ast.Ident.{Ident}
use Rattle.perm_tree.specs.declared.ast.FieldDecl.{FieldDecl}
use Rattle.perm_tree.specs.declared.ast.Perm.{Perm}
use Rattle.perm_tree.specs.declared.ast.Perm.TheVariants.{Immutable, Writable}
use Rattle.perm_tree.specs.declared.ast.Shape.TheVariants.{Array}
use Rattle.perm_tree.specs.declared.ast.Ty.{Ty}
use Rattle.perm_tree.specs.declared.ast.Ty.TheVariants.{Long, Ref}
use Rattle.perm_tree.specs.declared.ast.StmtKind.{StmtKind}
use Rattle.perm_tree.specs.declared.ast.StmtKind.TheVariants.{Assign}
use Rattle.perm_tree.specs.declared.ast.Rhs.TheVariants.{New}
use Rattle.perm_tree.specs.declared.ast.Method.{Method}
use Rattle.perm_tree.specs.declared.ast.ClassDecl.{ClassDecl}
use Rattle.perm_tree.specs.declared.unit.MethodTable.{MethodTable}
use Rattle.perm_tree.specs.declared.errors.Limit.{Limit}
use Rattle.perm_tree.specs.declared.errors.Limit.TheVariants.{Classes, Fields, Methods, Variables}
use Rattle.perm_tree.specs.declared.errors.TableError.{TableError}
use Rattle.perm_tree.specs.declared.errors.TableError.TheVariants.{DuplicateName, UnknownClass, NoMain, BadMain, TooMany}
use Rattle.perm_tree.specs.Lookup.{is_class_word}
use Rattle.perm_tree.specs.Places.{Listing}
use Rattle.perm_tree.specs.Scopes.{tables_of}
use Rattle.perm_tree.specs.Spelling.{main_word, run_word, is_word}

-- ---------- groups of names ----------
-- the names of the classes
abbrev pub class_names : Listing → List Ident
class_names p = map (λ c. c.name) p.classes

-- the names of the fields of a class
abbrev pub field_names : ClassDecl → List Ident
field_names c = map (λ f. f.name) c.fields

-- the names of its methods
abbrev pub method_names : ClassDecl → List Ident
method_names c = map (λ d. d.name) c.methods

-- `this`, the parameters and the locals of a method
abbrev pub var_names : MethodTable → List Ident
var_names t = map (λ v. record { name = v.name; span = v.declared }) t.vars

-- the name after `new`, if the statement is such an assignment
abbrev pub made_class : StmtKind → List Ident
made_class (Assign t x (New c)) = c ∷ []
made_class _ = []

-- the names that have to be those of classes: in types, and after `new`
abbrev pub class_mentions : Listing → List Ident
class_mentions p = p.mentions ++ flat_map (λ s. made_class s.kind) p.stmts

-- ---------- complaints ----------
-- a refusal, with the name at which it stands and the number by which it comes among those at one name
pub record Complaint : Type 0 where
  pub at : Span
  pub rank : ℕ
  pub what : TableError

-- of two names the one that comes later in the text
abbrev pub later : Ident → Ident → Ident
later i j = if nat_lt i.span.start j.span.start then j else i

-- the refusal of a second name
abbrev pub double_at : Ident → Complaint
double_at i = record { at = i.span; rank = 1; what = DuplicateName i.span }

-- each two equal names of a group are refused at the later one
abbrev pub doubles : List Ident → List Complaint
doubles [] = []
doubles (i ∷ is) = map (λ j. double_at (later i j)) (filter (λ j. nat_eq i.name j.name) is) ++ doubles is

-- some class has this name
abbrev pub is_class_name : List Ident → Ident → Bool
is_class_name classes i = list_any (λ c. nat_eq c.name i.name) classes

-- names that no class has
abbrev pub unknowns : List Ident → List Ident → List Complaint
unknowns classes is = map (λ i. record { at = i.span; rank = 2; what = UnknownClass i.span }) (filter (λ i. not (is_class_name classes i)) is)

-- how many there may be
abbrev pub most : Limit → ℕ
most Classes = 1000
most Fields = 256
most Methods = 256
most Variables = 256

-- the refusal of a declaration that passes a limit, if there is one
abbrev pub passes : Limit → Option Ident → List Complaint
passes limit None = []
passes limit (Some i) = record { at = i.span; rank = 5; what = TooMany i.span limit } ∷ []

-- the declaration that passes a limit
abbrev pub passing : Limit → List Ident → List Complaint
passing limit is = passes limit (slice_get is (most limit))

-- what is refused of the members of a class
abbrev pub in_class : ClassDecl → List Complaint
in_class c = doubles (field_names c ++ method_names c) ++ (passing Fields (field_names c) ++ passing Methods (method_names c))

-- what is refused of the variables of a method
abbrev pub in_method : MethodTable → List Complaint
in_method t = doubles (var_names t) ++ passing Variables (var_names t)

-- all that is refused at a name
abbrev pub complaints : Listing → List Complaint
complaints p =
    doubles (class_names p)
    ++ (passing Classes (class_names p)
    ++ (flat_map in_class p.classes
    ++ (flat_map in_method (tables_of p)
    ++ unknowns (class_names p) (class_mentions p))))

-- the place comes first, and then the number
abbrev pub is_before : Complaint → Complaint → Bool
is_before a b = nat_lt a.at.start b.at.start || (nat_eq a.at.start b.at.start && nat_le a.rank b.rank)

-- the one that comes first
abbrev pub earlier : Complaint → Option Complaint → Complaint
earlier a None = a
earlier a (Some b) = if is_before a b then a else b

-- the first in the order of the text, and at one name the one with the lowest number
abbrev pub first_of_all : List Complaint → Option Complaint
first_of_all [] = None
first_of_all (c ∷ cs) = Some (earlier c (first_of_all cs))

-- ---------- Main and Run ----------
-- the method `Run` of a class
abbrev pub run_in : Listing → Option ClassDecl → Option Method
run_in p None = None
run_in p (Some c) = find (λ d. is_word p.names run_word d.name.name) c.methods

-- the method `Run` of the class `Main`
abbrev pub main_run : Listing → Option Method
main_run p = run_in p (find (is_class_word p main_word) p.classes)

-- the type is `long`
abbrev pub is_long : Ty → Bool
is_long Long = true
is_long _ = false

-- the permission is `writable`
abbrev pub is_writable : Perm → Bool
is_writable Writable = true
is_writable _ = false

-- the type is `immutable long[]`
abbrev pub is_input : Ty → Bool
is_input (Ref Immutable Array) = true
is_input _ = false

-- there is one parameter, and it is of that type
abbrev pub takes_input : List FieldDecl → Bool
takes_input (f ∷ []) = is_input f.ty
takes_input _ = false

-- it is `long Run(immutable long[] x) writable`, with any name for x
abbrev pub is_good_run : Method → Bool
is_good_run d = is_long d.result && (takes_input d.params && is_writable d.receiver)

-- what is refused of `Main` and its `Run`
abbrev pub run_refusal : Option Method → Option TableError
run_refusal None = Some NoMain
run_refusal (Some d) = if is_good_run d then None else Some (BadMain d.name.span)

-- ---------- the first refusal ----------
-- the refusal at a name, else another
abbrev pub refusal_from : Option Complaint → Option TableError → Option TableError
refusal_from None otherwise = otherwise
refusal_from (Some c) otherwise = Some c.what

-- what is refused at a name comes before what is refused of `Main` and its `Run`
abbrev pub names_refusal : Listing → Option TableError
names_refusal p = refusal_from (first_of_all (complaints p)) (run_refusal (main_run p))
