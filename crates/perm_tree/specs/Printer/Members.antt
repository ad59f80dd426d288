-- The members of a class, as they are listed before they are put in order.
use Rattle.std.specs.Prelude.{ℕ, List, [], ◌∷◌, ◌++◌, map}
use Rattle.perm_tree.specs.declared.print.class.Member.{Member}
use Rattle.perm_tree.specs.declared.print.class.Member.TheVariants.{Field, Method as Body}
use Rattle.perm_tree.specs.declared.print.part.Part.{Part}
use Rattle.perm_tree.specs.declared.ast.ClassDecl.{ClassDecl}
use Rattle.perm_tree.specs.declared.ast.FieldDecl.{FieldDecl}
use Rattle.perm_tree.specs.declared.ast.Method.{Method}
use Rattle.perm_tree.specs.Printer.Programs as text
use Rattle.perm_tree.specs.Printer.Programs.{field_member, method_member}
use Rattle.perm_tree.specs.Places.{Listing, MethodPlaced}
use Rattle.perm_tree.specs.Printer.Parts.{field_tasks, method_tasks}

-- a field or a method
pub data Form : Type 0 where
  one_field : (f : FieldDecl) → Form
  one_method : (m : Method) → Form

-- what a member is
abbrev pub form_of : Member → Form
form_of (Field f) = one_field f
form_of (Body m) = one_method m.now

-- where its name starts
abbrev pub form_start : Form → ℕ
form_start (one_field f) = f.name.span.start
form_start (one_method m) = m.name.span.start

-- its parts
abbrev pub form_tasks : Form → List Part
form_tasks (one_field f) = field_tasks f
form_tasks (one_method m) = method_tasks m

-- its place and its text
abbrev pub form_member : Listing → Form → text.Member
form_member p (one_field f) = field_member p f
form_member p (one_method m) = method_member p m

-- the fields and then the methods of a class
abbrev pub forms : ClassDecl → List Form
forms c = map one_field c.fields ++ map one_method c.methods

-- a method's body is there
abbrev pub IsFormPlaced : ℕ → ℕ → Form → Type 0
IsFormPlaced exprs stmts (one_field f) = Unit {0}
IsFormPlaced exprs stmts (one_method m) = MethodPlaced exprs stmts m

-- the same of each form
abbrev pub AllFormsPlaced : ℕ → ℕ → List Form → Type 0
AllFormsPlaced exprs stmts [] = Unit {0}
AllFormsPlaced exprs stmts (f ∷ fs) = IsFormPlaced exprs stmts f × AllFormsPlaced exprs stmts fs

-- the text of some forms
abbrev pub forms_text : Listing → List Form → List ℕ
forms_text p [] = []
forms_text p (f ∷ fs) = (form_member p f).text ++ forms_text p fs
