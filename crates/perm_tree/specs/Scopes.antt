-- The variables of a method, each with the stretch of the text in which it is known.
use Rattle.std.specs.Prelude.{ℕ, suc, List, [], ◌∷◌, ◌++◌, map, get_or, Option, Some, None, slice_get}
use Rattle.perm_tree.specs.declared.ast.Span.{Span}
use Rattle.perm_tree.specs.declared.ast.FieldDecl.{FieldDecl}
use Rattle.perm_tree.specs.declared.ast.Shape.TheVariants.{Class}
use Rattle.perm_tree.specs.declared.ast.Ty.TheVariants.{Ref}
use Rattle.perm_tree.specs.declared.ast.Stmt.{Stmt}
use Rattle.perm_tree.specs.declared.ast.StmtKind.{StmtKind}
use Rattle.perm_tree.specs.declared.ast.StmtKind.TheVariants.{Declare, Assign, If, While, Par}
use Rattle.perm_tree.specs.declared.ast.Rhs.{Rhs}
use Rattle.perm_tree.specs.declared.ast.Rhs.TheVariants.{Recover}
use Rattle.perm_tree.specs.declared.ast.Block.{Block}
use Rattle.perm_tree.specs.declared.ast.Method.{Method}
use Rattle.perm_tree.specs.declared.ast.ClassDecl.{ClassDecl}
use Rattle.perm_tree.specs.declared.unit.VarInfo.{VarInfo}
use Rattle.perm_tree.specs.declared.unit.MethodTable.{MethodTable}
use Rattle.perm_tree.specs.Entries.{entries_of}
use Rattle.perm_tree.specs.Places.{Listing}

-- what a statement declares in the block in which it stands
abbrev pub declared_by : StmtKind → List FieldDecl
declared_by (Declare t x) = record { ty = t; name = x } ∷ []
declared_by (Assign (Some t) x r) = record { ty = t; name = x } ∷ []
declared_by _ = []

-- the same of a statement that is there
abbrev pub declared_if : Option Stmt → List FieldDecl
declared_if None = []
declared_if (Some s) = declared_by s.kind

-- the same of the statement at a place
abbrev pub declared_at : List Stmt → ℕ → List FieldDecl
declared_at stmts at = declared_if (slice_get stmts at)

-- a variable that is known from its name to the end of its block
abbrev pub known_until : ℕ → FieldDecl → VarInfo
known_until end d = record { name = d.name.name; ty = d.ty; declared = d.name.span; scope = record { start = d.name.span.start; end = end } }

-- where a statement ends, if it is there
abbrev pub end_if : ℕ → Option Stmt → ℕ
end_if end None = end
end_if end (Some s) = s.span.end

-- where the last statement of a block ends
abbrev pub block_end : List Stmt → ℕ → List ℕ → ℕ
block_end stmts end [] = end
block_end stmts end (i ∷ is) = block_end stmts (end_if end (slice_get stmts i)) is

-- the variables of a block that ends at a place, in text order; inner has those of the blocks within each statement
abbrev pub block_vars : List Stmt → List (List VarInfo) → ℕ → List ℕ → List VarInfo
block_vars stmts inner end [] = []
block_vars stmts inner end (i ∷ is) = map (known_until end) (declared_at stmts i) ++ (get_or inner i [] ++ block_vars stmts inner end is)

-- the same of a block that ends with its last statement
abbrev pub braced_vars : List Stmt → List (List VarInfo) → List ℕ → List VarInfo
braced_vars stmts inner is = block_vars stmts inner (block_end stmts 0 is) is

-- the statements behind `else`; without it there are none
abbrev pub else_stmts : Option Block → List ℕ
else_stmts None = []
else_stmts (Some b) = b.stmts

-- a recover block ends with its `give`
abbrev pub rhs_vars : List Stmt → List (List VarInfo) → Rhs → List VarInfo
rhs_vars stmts inner (Recover b w give) = block_vars stmts inner give.end b.stmts
rhs_vars stmts inner _ = []

-- the variables of the blocks within a statement
abbrev pub inner_vars : List Stmt → List (List VarInfo) → StmtKind → List VarInfo
inner_vars stmts inner (Assign t x r) = rhs_vars stmts inner r
inner_vars stmts inner (If e a b) = braced_vars stmts inner a.stmts ++ braced_vars stmts inner (else_stmts b)
inner_vars stmts inner (While e a) = braced_vars stmts inner a.stmts
inner_vars stmts inner (Par a b) = braced_vars stmts inner a.stmts ++ braced_vars stmts inner b.stmts
inner_vars stmts inner _ = []

-- the same for each statement of a program
abbrev pub all_inner : List Stmt → List (List VarInfo)
all_inner stmts = entries_of (λ inner s. inner_vars stmts inner s.kind) stmts

-- `this` and the parameters are known from the method's name to the end of its `return`
abbrev pub whole_method : Method → Span
whole_method d = record { start = d.name.span.start; end = d.span.end }

-- `this` stands in no declaration: its span is empty, at the method's name
abbrev pub this_var : ℕ → Method → VarInfo
this_var class d = record { name = 0; ty = Ref d.receiver (Class class); declared = record { start = d.name.span.start; end = d.name.span.start }; scope = whole_method d }

-- a parameter as a variable
abbrev pub param_var : Method → FieldDecl → VarInfo
param_var d p = record { name = p.name.name; ty = p.ty; declared = p.name.span; scope = whole_method d }

-- the variables of a method, each at its number: `this`, the parameters, the locals in text order
abbrev pub method_vars : List Stmt → List (List VarInfo) → ℕ → Method → List VarInfo
method_vars stmts inner class d = this_var class d ∷ (map (param_var d) d.params ++ block_vars stmts inner d.span.end d.body.stmts)

-- the tables of the methods of one class, of which the first has number m
abbrev pub class_tables : List Stmt → List (List VarInfo) → ℕ → ℕ → List Method → List MethodTable
class_tables stmts inner class m [] = []
class_tables stmts inner class m (d ∷ ds) =
    record { class = class; «method» = m; vars = method_vars stmts inner class d } ∷ class_tables stmts inner class (suc m) ds

-- the tables of some classes, of which the first has number k
abbrev pub tables_from : List Stmt → List (List VarInfo) → ℕ → List ClassDecl → List MethodTable
tables_from stmts inner k [] = []
tables_from stmts inner k (c ∷ cs) = class_tables stmts inner k 0 c.methods ++ tables_from stmts inner (suc k) cs

-- the tables of all methods of a program, in text order
abbrev pub tables_of : Listing → List MethodTable
tables_of p = tables_from p.stmts (all_inner p.stmts) 0 p.classes
