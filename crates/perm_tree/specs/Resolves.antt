-- Programs in which types name classes by their names, and the units that they are resolved to.
use Rattle.std.specs.Prelude.{◌≡◌, ◌≢◌, ℕ, AllPairs, List, [], length, map, Some, None, option_map, slice_get, get_or}
use Rattle.perm_tree.specs.declared.ast.Ident.{Ident}
use Rattle.perm_tree.specs.declared.ast.Shape.{Shape}
use Rattle.perm_tree.specs.declared.ast.Shape.TheVariants.{Class, Array}
use Rattle.perm_tree.specs.declared.ast.Ty.{Ty}
use Rattle.perm_tree.specs.declared.ast.Ty.TheVariants.{Ref}
use Rattle.perm_tree.specs.declared.ast.FieldDecl.{FieldDecl}
use Rattle.perm_tree.specs.declared.ast.Stmt.{Stmt}
use Rattle.perm_tree.specs.declared.ast.StmtKind.{StmtKind}
use Rattle.perm_tree.specs.declared.ast.StmtKind.TheVariants.{Declare, Assign}
use Rattle.perm_tree.specs.declared.ast.Method.{Method}
use Rattle.perm_tree.specs.declared.ast.ClassDecl.{ClassDecl}
use Rattle.perm_tree.specs.Lookup.{class_place}
use Rattle.perm_tree.specs.Names.{names_refusal}
use Rattle.perm_tree.specs.Places.{AllBelow, Listing}
use Rattle.perm_tree.specs.Scopes.{tables_of}
use Rattle.perm_tree.specs.UnitTables.{Tables}
use Rattle.perm_tree.specs.WellFormed.{IsWellFormed, mention_numbers}

-- ---------- numbers for class names ----------
-- the name of a class becomes a number
abbrev pub renamed_shape : (ℕ → ℕ) → Shape → Shape
renamed_shape number (Class name) = Class (number name)
renamed_shape number Array = Array

-- so in a type
abbrev pub renamed_ty : (ℕ → ℕ) → Ty → Ty
renamed_ty number (Ref q shape) = Ref q (renamed_shape number shape)
renamed_ty number t = t

-- so in a field or a parameter
abbrev pub renamed_decl : (ℕ → ℕ) → FieldDecl → FieldDecl
renamed_decl number d = record d { ty = renamed_ty number d.ty }

-- so in the types of a method
abbrev pub renamed_method : (ℕ → ℕ) → Method → Method
renamed_method number d = record d { result = renamed_ty number d.result; params = map (renamed_decl number) d.params }

-- so in the members of a class
abbrev pub renamed_class : (ℕ → ℕ) → ClassDecl → ClassDecl
renamed_class number c = record c { fields = map (renamed_decl number) c.fields; methods = map (renamed_method number) c.methods }

-- so in the types of declarations
abbrev pub renamed_kind : (ℕ → ℕ) → StmtKind → StmtKind
renamed_kind number (Declare t x) = Declare (renamed_ty number t) x
renamed_kind number (Assign t x r) = Assign (option_map (renamed_ty number) t) x r
renamed_kind number k = k

-- so in a statement
abbrev pub renamed_stmt : (ℕ → ℕ) → Stmt → Stmt
renamed_stmt number s = record s { kind = renamed_kind number s.kind }

-- so where a class is mentioned
abbrev pub renamed_mention : (ℕ → ℕ) → Ident → Ident
renamed_mention number i = record i { name = number i.name }

-- ---------- class names become the numbers of classes ----------
-- the program in which each class name in a type has become the number of its class
abbrev pub with_types : Listing → Listing
with_types p = record p { classes = map (renamed_class (class_place p)) p.classes; stmts = map (renamed_stmt (class_place p)) p.stmts }

-- so in what it mentions
abbrev pub resolved : Listing → Listing
resolved p = record (with_types p) { mentions = map (renamed_mention (class_place p)) p.mentions }

-- without what it mentions
abbrev pub unmentioned : Listing → Listing
unmentioned p = record p { mentions = [] }

-- ---------- units ----------
-- the unit of a program, of whose names nothing is refused
pub record Resolves (p : Listing) (u : Tables) : Type 0 where
  pub accepted : names_refusal p ≡ None
  pub program : u.program ≡ resolved p
  pub tables : u.tables ≡ tables_of (resolved p)

-- what every resolved unit keeps: its program is well formed, nothing is refused of its names, the classes that it mentions are there, and its tables are those of its program
pub record IsResolved (u : Tables) : Type 0 where
  pub formed : IsWellFormed u.program
  pub accepted : names_refusal (unmentioned u.program) ≡ None
  pub mentions : AllBelow (length u.program.classes) (mention_numbers u.program)
  pub tables : u.tables ≡ tables_of u.program

-- the bytes of the name of a class
abbrev pub class_word : Listing → ClassDecl → List ℕ
class_word p c = get_or p.names c.name.name []

-- the words of the classes
abbrev pub class_words : Listing → List (List ℕ)
class_words p = map (class_word p) p.classes

-- no two classes have the same word
abbrev pub HasDistinctWords : Listing → Type 0
HasDistinctWords p = AllPairs (λ v w. v ≢ w) (class_words p)

-- a map takes the name of each class to its place
pub record TakesNames (p : Listing) (entries : List (List ℕ × ℕ)) : Type 0 where
  pub words : map (λ e. e.0) entries ≡ class_words p
  pub places : (i : ℕ) (e : List ℕ × ℕ) → slice_get entries i ≡ Some e → e.1 ≡ i
