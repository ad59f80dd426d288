-- What every program keeps.
use Rattle.std.specs.Prelude.{◌≡◌, ◌≢◌, ℕ, All, AllPairs, Contains, List, [], ◌∷◌, ◌++◌, length, map, flat_map}
use Rattle.perm_tree.specs.declared.ast.FieldDecl.{FieldDecl}
use Rattle.perm_tree.specs.declared.ast.Shape.TheVariants.{Class}
use Rattle.perm_tree.specs.declared.ast.Ty.{Ty}
use Rattle.perm_tree.specs.declared.ast.Ty.TheVariants.{Ref}
use Rattle.perm_tree.specs.declared.ast.Stmt.{Stmt}
use Rattle.perm_tree.specs.declared.ast.Method.{Method}
use Rattle.perm_tree.specs.declared.ast.ClassDecl.{ClassDecl}
use Rattle.perm_tree.specs.Blocks.{HasShallowBlocks, HasStatementsOnce}
use Rattle.perm_tree.specs.Operands.{HasShallowOperands}
use Rattle.perm_tree.specs.Places.{AllBelow, IsPlaced, Listing}
use Rattle.perm_tree.specs.Scopes.{declared_by}
use Rattle.perm_tree.specs.Spelling.{this_word}
use Rattle.perm_tree.specs.TextOrder.{IsRising, mark_names, marks_of}

-- the numbers of the names of a program's classes and fields, and of the names that stand in its methods
abbrev pub name_numbers : Listing → List ℕ
name_numbers p =
    map (λ c. c.name.name) p.classes
    ++ (map (λ f. f.name.name) (flat_map (λ c. c.fields) p.classes)
    ++ mark_names (marks_of p))

-- the numbers of the classes that a program mentions
abbrev pub mention_numbers : Listing → List ℕ
mention_numbers p = map (λ i. i.name) p.mentions

-- the class of a type, if it has one
abbrev pub ty_classes : Ty → List ℕ
ty_classes (Ref q (Class n)) = n ∷ []
ty_classes _ = []

-- so of some declarations
abbrev pub decl_classes : List FieldDecl → List ℕ
decl_classes ds = flat_map (λ d. ty_classes d.ty) ds

-- of a method but for its body
abbrev pub method_classes : Method → List ℕ
method_classes d = ty_classes d.result ++ decl_classes d.params

-- of the members of a class
abbrev pub member_classes : ClassDecl → List ℕ
member_classes c = decl_classes c.fields ++ flat_map method_classes c.methods

-- of a statement that declares a variable
abbrev pub stmt_classes : Stmt → List ℕ
stmt_classes s = decl_classes (declared_by s.kind)

-- the classes of all types of a program
abbrev pub type_classes : Listing → List ℕ
type_classes p = flat_map member_classes p.classes ++ flat_map stmt_classes p.stmts

-- the first name, where there is one, is the word `this`
abbrev pub HasThisFirst : List (List ℕ) → Type 0
HasThisFirst [] = Unit {0}
HasThisFirst (word ∷ words) = word ≡ this_word

-- its names are distinct words, of which the first is `this`, each name in it is one of them, the classes of its types are mentioned, its methods are in text order, each one and one behind the other, each statement stands in one block, and blocks and operands are shallow
pub record IsOrderly (p : Listing) : Type 0 where
  pub words : AllPairs (λ v w. v ≢ w) p.names
  pub first : HasThisFirst p.names
  pub named : AllBelow (length p.names) (name_numbers p)
  pub mentioned : All (Contains (mention_numbers p)) (type_classes p)
  pub ordered : IsRising 0 (marks_of p)
  pub once : HasStatementsOnce p
  pub blocks : HasShallowBlocks p.stmts
  pub operands : HasShallowOperands p.exprs

-- besides, its places are in range
pub record IsWellFormed (p : Listing) : Type 0 where
  pub placed : IsPlaced p
  pub orderly : IsOrderly p
