-- Programs written in antt. Each form writes its canonical text and its part of the flat program side by side, so that spans, the numbers of names and the places of statements and expressions are those that reading the text gives.
use Prim.Native.String.{String}
use Rattle.std.specs.Prelude.{ℕ, zero, suc, ◌+◌, ◌/◌, ◌%◌, Bool, true, false, nat_eq, nat_lt, pos, List, [], ◌∷◌, ◌++◌, length, map, flat_map, codes, Option, Some, None, if◌then◌else◌, bytes_eq}
use Rattle.std.specs.List.{position_or_len}
use Rattle.perm_tree.specs.declared.ast.Span.{Span}
use Rattle.perm_tree.specs.declared.ast.Perm.{Perm}
use Rattle.perm_tree.specs.declared.ast.Perm.TheVariants.{Isolated, Immutable, Readable, Writable}
use Rattle.perm_tree.specs.declared.ast.Shape.TheVariants.{Class, Array}
use Rattle.perm_tree.specs.declared.ast.Ty.{Ty}
use Rattle.perm_tree.specs.declared.ast.Ty.TheVariants.{Long, Bool as Boolean, Ref}
use Rattle.perm_tree.specs.declared.ast.Ident.{Ident}
use Rattle.perm_tree.specs.declared.ast.FieldDecl.{FieldDecl}
use Rattle.perm_tree.specs.declared.ast.UnaryOp.TheVariants.{Minus as Negative}
use Rattle.perm_tree.specs.declared.ast.BinaryOp.{BinaryOp}
use Rattle.perm_tree.specs.declared.ast.BinaryOp.TheVariants.{Mul, Div, Rem, Plus, Minus, Less, AtMost, Greater, AtLeast, Equal, Differs, And, Or}
use Rattle.perm_tree.specs.declared.ast.Expr.{Expr}
use Rattle.perm_tree.specs.declared.ast.Expr.TheVariants.{Number, Bool as Truth, Null, Var, Unary, Binary}
use Rattle.perm_tree.specs.declared.ast.Arg.{Arg}
use Rattle.perm_tree.specs.declared.ast.Arg.TheVariants.{Expr as Plain, Consume}
use Rattle.perm_tree.specs.declared.ast.Call.{Call}
use Rattle.perm_tree.specs.declared.ast.Block.{Block}
use Rattle.perm_tree.specs.declared.ast.Rhs.{Rhs}
use Rattle.perm_tree.specs.declared.ast.Rhs.TheVariants.{Value, Field, TakeField, Item, New, NewArray, Call as CallRhs, Recover}
use Rattle.perm_tree.specs.declared.ast.StmtKind.{StmtKind}
use Rattle.perm_tree.specs.declared.ast.StmtKind.TheVariants.{Declare, Assign, SetField, SetItem, Call as CallStmt, Print, If, While, Par}
use Rattle.perm_tree.specs.declared.ast.Method.{Method}
use Rattle.perm_tree.specs.declared.ast.ClassDecl.{ClassDecl}
use Rattle.perm_tree.specs.Places.{Listing}
use Rattle.perm_tree.specs.Resolves.{resolved}
use Rattle.perm_tree.specs.Scopes.{tables_of}
use Rattle.perm_tree.specs.UnitTables.{Tables}

-- ---------- what is written so far ----------
-- the text with its last byte first, its length, the number of open braces, whether all stands on one line, and the program
pub record Draft : Type 0 where
  pub text : List ℕ
  pub at : ℕ
  pub depth : ℕ
  pub flat : Bool
  pub program : Listing

-- a form of the language: it writes itself behind a draft, and gives what it is in the flat program
abbrev pub Writes : Type 0 → Type 0
Writes A = Draft → Draft × A

abbrev feed : {A B : Type 0} → Draft × A → (A → Writes B) → Draft × B
feed r f = f r.1 r.0

infixl 10 ◌>>=◌
-- one form, and then another that may use what the first gave
abbrev pub ◌>>=◌ : {A B : Type 0} → Writes A → (A → Writes B) → Writes B
(w >>= f) d = feed (w d) f

infixl 10 ◌>>◌
-- one form, and then another
abbrev pub ◌>>◌ : {A B : Type 0} → Writes A → Writes B → Writes B
w >> v = w >>= λ a. v

abbrev pub give : {A : Type 0} → A → Writes A
give a d = (d, a)

abbrev onto : List ℕ → List ℕ → List ℕ
onto [] text = text
onto (b ∷ bs) text = onto bs (b ∷ text)

abbrev bytes : List ℕ → Writes (Unit {0})
bytes w d = (record d { text = onto w d.text; at = d.at + length w }, tt)

-- a piece of text
abbrev pub say : String → Writes (Unit {0})
say w = bytes (codes w)

infixl 10 ◌<<◌
-- a form, and then a piece of text
abbrev pub ◌<<◌ : {A : Type 0} → Writes A → String → Writes A
w << t = w >>= λ a. say t >> give a

abbrev spaces : ℕ → List ℕ
spaces zero = []
spaces (suc n) = 32 ∷ 32 ∷ spaces n

abbrev layout : (Bool → List ℕ) → Writes (Unit {0})
layout f d = bytes (f d.flat) d

abbrev indented : ℕ → Bool → List ℕ
indented depth true = []
indented depth false = spaces depth

abbrev ended : Bool → List ℕ
ended true = 32 ∷ []
ended false = 10 ∷ []

abbrev indentation : Writes (Unit {0})
indentation d = layout (indented d.depth) d

-- a form on a line of its own
abbrev pub line : {A : Type 0} → Writes A → Writes A
line w = indentation >> w >>= λ a. layout ended >> give a

abbrev spanned : {A : Type 0} → ℕ → Draft × A → Draft × (Span × A)
spanned start r = (r.0, (record { start = start; end = r.0.at }, r.1))

-- a form with its span
abbrev pub span_of : {A : Type 0} → Writes A → Writes (Span × A)
span_of w d = spanned d.at (w d)

abbrev risen : {A : Type 0} → ℕ → Draft × A → Draft × A
risen depth r = (record r.0 { depth = depth }, r.1)

-- a form that is one brace deeper
abbrev pub deeper : {A : Type 0} → Writes A → Writes A
deeper w d = risen d.depth (w (record d { depth = suc d.depth }))

-- `{`, a form on lines of its own, and `}`
abbrev pub braces : {A : Type 0} → Writes A → Writes A
braces w = say "{" >> layout ended >> deeper w >>= λ a. indentation >> say "}" >> give a

-- forms one after the other
abbrev pub each : {A : Type 0} → List (Writes A) → Writes (List A)
each [] = give []
each (w ∷ ws) = w >>= λ a. each ws >>= λ rest. give (a ∷ rest)

-- forms with a comma between them
abbrev pub separated : {A : Type 0} → List (Writes A) → Writes (List A)
separated [] = give []
separated (w ∷ ws) = w >>= λ a. each (map (λ v. say ", " >> v) ws) >>= λ rest. give (a ∷ rest)

abbrev pub parens : {A : Type 0} → Writes A → Writes A
parens w = say "(" >> w << ")"

-- ---------- the flat program ----------
abbrev changed : {A : Type 0} → (Listing → Listing) → A → Writes A
changed f a d = (record d { program = f d.program }, a)

abbrev counted : {A X : Type 0} → (Listing → List X) → (ℕ → Writes A) → Writes A
counted xs w d = w (length (xs d.program)) d

-- an expression, by its place
abbrev pub push_expr : Expr → Writes ℕ
push_expr e = counted (λ p. p.exprs) (changed (λ p. record p { exprs = p.exprs ++ e ∷ [] }))

-- a statement, by its place
abbrev pub push_stmt : Span → Span → StmtKind → Writes ℕ
push_stmt span head kind = counted (λ p. p.stmts) (changed (λ p. record p { stmts = p.stmts ++ record { span = span; head = head; kind = kind } ∷ [] }))

abbrev interned_if : Bool → List ℕ → ℕ → Writes ℕ
interned_if true w n = give n
interned_if false w n = changed (λ p. record p { names = p.names ++ w ∷ [] }) n

abbrev interned_at : List ℕ → ℕ → Writes ℕ
interned_at w n d = interned_if (nat_lt n (length d.program.names)) w n d

-- the number of a word among the names, in order of first appearance
abbrev pub interned : List ℕ → Writes ℕ
interned w d = interned_at w (position_or_len (bytes_eq w) d.program.names) d

-- ---------- names and types ----------
abbrev name_of : Span × ℕ → Ident
name_of r = record { name = r.1; span = r.0 }

-- a name of these bytes where it stands
abbrev pub word : List ℕ → Writes Ident
word w = span_of (bytes w >> interned w) >>= λ r. give (name_of r)

abbrev pub name : String → Writes Ident
name w = word (codes w)

-- the name of a class in a type or after `new`
abbrev pub class_name : String → Writes Ident
class_name w = name w >>= λ i. changed (λ p. record p { mentions = p.mentions ++ i ∷ [] }) i

abbrev perm_word : Perm → String
perm_word Isolated = "isolated"
perm_word Immutable = "immutable"
perm_word Readable = "readable"
perm_word Writable = "writable"

abbrev pub long : Writes Ty
long = say "long" >> give Long

abbrev pub bool : Writes Ty
bool = say "bool" >> give Boolean

-- a reference to an object of a class
abbrev pub ref : Perm → String → Writes Ty
ref p c = say (perm_word p) >> say " " >> class_name c >>= λ i. give (Ref p (Class i.name))

-- a reference to an array
abbrev pub array : Perm → Writes Ty
array p = say (perm_word p) >> say " long[]" >> give (Ref p Array)

abbrev of_type : Writes Ty → Writes Ident → Writes FieldDecl
of_type t x = t >>= λ ty. say " " >> x >>= λ i. give (record { ty = ty; name = i })

-- ---------- expressions ----------
abbrev pub digits_within : ℕ → ℕ → List ℕ
digits_within zero n = []
digits_within (suc most) n = (if nat_lt n 10 then [] else digits_within most (n / 10)) ++ (48 + n % 10) ∷ []

-- a number of at most four digits
abbrev pub num : ℕ → Writes ℕ
num n = bytes (digits_within 4 n) >> push_expr (Number (pos n))

abbrev truth_word : Bool → String
truth_word true = "true"
truth_word false = "false"

abbrev pub truth : Bool → Writes ℕ
truth b = say (truth_word b) >> push_expr (Truth b)

abbrev pub null : Writes ℕ
null = say "null" >> push_expr Null

abbrev pub var : String → Writes ℕ
var x = name x >>= λ i. push_expr (Var i)

abbrev pub negative : Writes ℕ → Writes ℕ
negative e = say "-" >> e >>= λ a. push_expr (Unary Negative a)

abbrev sign : BinaryOp → String
sign Mul = " * "
sign Div = " / "
sign Rem = " % "
sign Plus = " + "
sign Minus = " - "
sign Less = " < "
sign AtMost = " <= "
sign Greater = " > "
sign AtLeast = " >= "
sign Equal = " == "
sign Differs = " != "
sign And = " && "
sign Or = " || "

-- two operands with their operator between them
abbrev pub binary : Writes ℕ → BinaryOp → Writes ℕ → Writes ℕ
binary e op f = e >>= λ a. say (sign op) >> f >>= λ b. push_expr (Binary op a b)

-- ---------- arguments and calls ----------
abbrev pub value : Writes ℕ → Writes Arg
value e = e >>= λ a. give (Plain a)

abbrev pub consume : String → Writes Arg
consume x = say "consume " >> name x >>= λ i. give (Consume i)

abbrev call_by : Bool → Writes Ident → String → List (Writes Arg) → Writes Call
call_by consumed y m args =
    y >>= λ i. say "." >> name m >>= λ j. parens (separated args) >>= λ list.
    give (record { consumed = consumed; on = i; «method» = j; args = list })

abbrev pub call : String → String → List (Writes Arg) → Writes Call
call y m args = call_by false (name y) m args

-- a call whose receiver is consumed
abbrev pub call_consumed : String → String → List (Writes Arg) → Writes Call
call_consumed y m args = call_by true (parens (say "consume " >> name y)) m args

-- ---------- right sides ----------
abbrev dotted : {A : Type 0} → String → String → (Ident → Ident → A) → Writes A
dotted y f what = name y >>= λ i. say "." >> name f >>= λ j. give (what i j)

abbrev pub expr : Writes ℕ → Writes Rhs
expr e = value e >>= λ a. give (Value a)

abbrev pub consumed : String → Writes Rhs
consumed x = consume x >>= λ a. give (Value a)

abbrev pub get : String → String → Writes Rhs
get y f = dotted y f Field

abbrev pub take : String → String → Writes Rhs
take y f = say "consume " >> dotted y f TakeField

abbrev pub get_item : String → Writes ℕ → Writes Rhs
get_item y e = name y >>= λ i. say "[" >> e << "]" >>= λ a. give (Item i a)

abbrev pub new : String → Writes Rhs
new c = say "new " >> class_name c << "()" >>= λ i. give (New i)

abbrev pub new_array : Writes ℕ → Writes Rhs
new_array e = say "new long[" >> e << "]" >>= λ a. give (NewArray a)

abbrev pub result_of : Writes Call → Writes Rhs
result_of c = c >>= λ k. give (CallRhs k)

-- ---------- statements ----------
-- the statements of a line, by their places
abbrev pub Line : Type 0
Line = Writes (List ℕ)

abbrev alone : Writes ℕ → Line
alone w = w >>= λ i. give (i ∷ [])

-- a simple statement
abbrev simple : Writes StmtKind → Line
simple w = alone (span_of (w << ";") >>= λ r. push_stmt r.0 r.0 r.1)

-- a statement whose head ends before it does
abbrev headed : Writes (Span × StmtKind) → Line
headed w = alone (span_of w >>= λ r. push_stmt r.0 r.1.0 r.1.1)

-- two statements on one line
abbrev pub beside : Line → Line → Line
beside a b = a >>= λ is. say " " >> b >>= λ js. give (is ++ js)

abbrev joined : List (List ℕ) → Block
joined iss = record { stmts = flat_map (λ is. is) iss }

abbrev lines : List Line → Writes Block
lines ls = each (map line ls) >>= λ iss. give (joined iss)

abbrev block : List Line → Writes Block
block ls = braces (lines ls)

abbrev pub declare_as : Writes Ty → Writes Ident → Line
declare_as t x = simple (of_type t x >>= λ d. give (Declare d.ty d.name))

abbrev pub declare : Writes Ty → String → Line
declare t x = declare_as t (name x)

abbrev assigned : Option Ty → Ident → Writes Rhs → Writes StmtKind
assigned t x r = say " = " >> r >>= λ rhs. give (Assign t x rhs)

-- a declaration with a value
abbrev pub init : Writes Ty → String → Writes Rhs → Line
init t x r = simple (of_type t (name x) >>= λ d. assigned (Some d.ty) d.name r)

abbrev pub assign : String → Writes Rhs → Line
assign x r = simple (name x >>= λ i. assigned None i r)

abbrev given : String → Writes (Span × Ident)
given w = span_of (say "give " >> name w << ";")

abbrev recovering : Writes (Option Ty × Ident) → List Line → String → Line
recovering target ls w =
    headed (span_of (target << " = recover") >>= λ h. say " " >> braces (lines ls >>= λ b. line (given w) >>= λ g. give {A = Block × (Span × Ident)} (b, g)) << ";" >>= λ b.
    give {A = Span × StmtKind} (h.0, Assign h.1.0 h.1.1 (Recover b.0 b.1.1 b.1.0)))

-- a declaration with a recover block, which gives the variable w
abbrev pub init_recover : Writes Ty → String → List Line → String → Line
init_recover t x ls w = recovering (of_type t (name x) >>= λ d. give {A = Option Ty × Ident} (Some d.ty, d.name)) ls w

abbrev pub assign_recover : String → List Line → String → Line
assign_recover x ls w = recovering (name x >>= λ i. give {A = Option Ty × Ident} (None, i)) ls w

abbrev pub set_field : String → String → Writes Arg → Line
set_field y f a = simple (dotted {A = Ident × Ident} y f (λ i j. (i, j)) >>= λ r. say " = " >> a >>= λ v. give (SetField r.0 r.1 v))

abbrev pub set_item : String → Writes ℕ → Writes ℕ → Line
set_item y e f = simple (name y >>= λ i. say "[" >> e << "] = " >>= λ a. f >>= λ b. give (SetItem i a b))

abbrev pub run : Writes Call → Line
run c = simple (c >>= λ k. give (CallStmt k))

abbrev pub print : Writes ℕ → Line
print e = simple (say "print " >> e >>= λ a. give (Print a))

-- a head, and then what the statement is by that
abbrev with_head : {A : Type 0} → Writes A → (A → Writes StmtKind) → Line
with_head h w = headed (span_of h << " " >>= λ r. w r.1 >>= λ kind. give {A = Span × StmtKind} (r.0, kind))

abbrev pub if_only : Writes ℕ → List Line → Line
if_only e ls = with_head (say "if " >> parens e) (λ a. block ls >>= λ b. give (If a b None))

abbrev pub if_else : Writes ℕ → List Line → List Line → Line
if_else e ls ms = with_head (say "if " >> parens e) (λ a. block ls << " else " >>= λ b. block ms >>= λ c. give (If a b (Some c)))

abbrev pub while : Writes ℕ → List Line → Line
while e ls = with_head (say "while " >> parens e) (λ a. block ls >>= λ b. give (While a b))

abbrev pub par : List Line → List Line → Line
par ls ms = with_head (say "par") (λ u. block ls << " " >>= λ b. block ms >>= λ c. give (Par b c))

-- ---------- classes and programs ----------
pub data Member : Type 0 where
  OfField : (f : FieldDecl) → Member
  OfMethod : (d : Method) → Member

abbrev pub param : Writes Ty → String → Writes FieldDecl
param t x = of_type t (name x)

abbrev pub field_as : Writes Ty → Writes Ident → Writes Member
field_as t x = of_type t x << ";" >>= λ f. give (OfField f)

abbrev pub field : Writes Ty → String → Writes Member
field t x = field_as t (name x)

abbrev returned : Writes Arg → Writes (Span × Arg)
returned a = span_of (say "return " >> a << ";")

-- a method with its parameters, its permission, its body and what it returns
abbrev pub «method» : Writes Ty → String → List (Writes FieldDecl) → Perm → List Line → Writes Arg → Writes Member
«method» t m ps p ls a =
    of_type t (name m) >>= λ h. parens (separated ps) << " " >>= λ fs. say (perm_word p) >> say " "
    >> braces (lines ls >>= λ b. line (returned a) >>= λ r. give {A = Block × (Span × Arg)} (b, r)) >>= λ b.
    give (OfMethod (record { result = h.ty; name = h.name; params = fs; receiver = p; body = b.0; back = b.1.1; span = b.1.0 }))

abbrev fields_of : List Member → List FieldDecl
fields_of [] = []
fields_of (OfField f ∷ ms) = f ∷ fields_of ms
fields_of (OfMethod d ∷ ms) = fields_of ms

abbrev methods_of : List Member → List Method
methods_of [] = []
methods_of (OfField f ∷ ms) = methods_of ms
methods_of (OfMethod d ∷ ms) = d ∷ methods_of ms

abbrev class_of : Ident → List Member → ClassDecl
class_of i ms = record { name = i; fields = fields_of ms; methods = methods_of ms }

abbrev pub class : String → List (Writes Member) → Writes (Unit {0})
class c ms =
    say "class " >> name c << " " >>= λ i. braces (each (map line ms)) >>= λ list.
    changed (λ p. record p { classes = p.classes ++ class_of i list ∷ [] }) tt

-- a program is written as its classes, each on lines of its own
abbrev pub Source : Type 0
Source = List (Writes (Unit {0}))

abbrev nothing_yet : Bool → Draft
nothing_yet flat = record { text = []; at = 0; depth = 0; flat = flat; program = record { names = codes "this" ∷ []; classes = []; stmts = []; exprs = []; mentions = [] } }

abbrev drafted : Bool → Source → Draft
drafted flat s = (each (map line s) (nothing_yet flat)).0

-- its text
abbrev pub text_of : Source → List ℕ
text_of s = onto (drafted false s).text []

-- its flat program, as reading the text gives it
abbrev pub listing_of : Source → Listing
listing_of s = (drafted false s).program

-- the same where all stands on one line
abbrev pub flat_text_of : Source → List ℕ
flat_text_of s = onto (drafted true s).text []

abbrev pub flat_listing_of : Source → Listing
flat_listing_of s = (drafted true s).program

abbrev place_behind : ℕ → ℕ × ℕ → ℕ × ℕ
place_behind b place = if nat_eq b 10 then (suc place.0, 1) else (place.0, suc place.1)

abbrev place_from : ℕ × ℕ → ℕ → List ℕ → ℕ × ℕ
place_from place zero bs = place
place_from place (suc at) [] = place
place_from place (suc at) (b ∷ bs) = place_from (place_behind b place) at bs

-- the line and the column of a byte of a text, each counted from 1
abbrev pub place_in : List ℕ → ℕ → ℕ × ℕ
place_in text at = place_from (1, 1) at text

-- the unit that a program is resolved to
abbrev pub unit_of : Listing → Tables
unit_of p = let r = resolved p in record { program = r; tables = tables_of r }
