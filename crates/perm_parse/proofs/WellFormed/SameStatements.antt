-- Reading a part that holds no block adds no statement.
use Rattle.std.proofs.Common.{◌≡◌, ℕ, List, Option, Some, None, refl, ◌∙◌}
use Rattle.perm_tree.specs.Places.{Listing}
use Rattle.perm_tree.specs.declared.tokens.Token.{Token}
use Rattle.perm_parse.specs.Grammar.{TypeTree, ExprTree, ArgTree, CallTree, TargetTree, Params}
use Rattle.perm_parse.specs.Meaning.{number_at, ident, var, type_of, expr_of, arg_of, call_of, target_of, method_of}
use Rattle.perm_parse.proofs.Walks.{IsKept, ident-kept, var-kept, type-kept, expr-kept, arg-kept, call-kept, target-kept, method-kept}

-- the same statements
pub record IsSame (s t : Listing) : Type 0 where
  pub stmts : t.stmts ≡ s.stmts

pub stays : (s : Listing) → IsSame s s
stays s = record { stmts = refl }

-- over two moves
pub then : {s t u : Listing} → IsSame s t → IsSame t u → IsSame s u
then g h = record { stmts = h.stmts ∙ g.stmts }

-- with a mention or an expression more besides
pub pushed : {s t u : Listing} → IsSame s t → u.stmts ≡ t.stmts → IsSame s u
pushed g e = record { stmts = e ∙ g.stmts }

number_at-same : (name : List ℕ) (s : Listing) (o : Option ℕ) → IsSame s (number_at name s o).1
number_at-same name s (Some at) = stays s
number_at-same name s None = record { stmts = refl }

same : IsKept IsSame
same = record { stays = stays; then = then; name = λ text t s. number_at-same _ s _; expr = λ e s. record { stmts = refl }; mention = λ i s. record { stmts = refl } }

-- ---- over each kind of part

pub ident-same : (text : List ℕ) (t : Token) (s : Listing) → IsSame s (ident text t s).1
ident-same = ident-kept IsSame same

pub var-same : (text : List ℕ) (t : Token) (s : Listing) → IsSame s (var text t s).1
var-same = var-kept IsSame same

pub type-same : (text : List ℕ) (a : TypeTree) (s : Listing) → IsSame s (type_of text a s).1
type-same = type-kept IsSame same

pub expr-same : (text : List ℕ) (a : ExprTree) (s : Listing) → IsSame s (expr_of text a s).1
expr-same = expr-kept IsSame same

pub arg-same : (text : List ℕ) (a : ArgTree) (s : Listing) → IsSame s (arg_of text a s).1
arg-same = arg-kept IsSame same

pub call-same : (text : List ℕ) (a : CallTree) (s : Listing) → IsSame s (call_of text a s).1
call-same = call-kept IsSame same

pub target-same : (text : List ℕ) (a : TargetTree) (s : Listing) → IsSame s (target_of text a s).2
target-same = target-kept IsSame same

pub method-same : (text : List ℕ) (ty : TypeTree) (name : Token) (list : Params) (s : Listing) → IsSame s (method_of text ty name list s).program
method-same = method-kept IsSame same
