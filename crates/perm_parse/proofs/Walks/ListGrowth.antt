-- The lists of a program only grow as its tree is read.
use Rattle.std.proofs.Common.{◌≡◌, ℕ, ◌≤◌, List, [], ◌∷◌, ◌++◌, length, Option, Some, None, refl, sym, ◌∙◌, ap, arith, append_assoc, append-nil}
use Rattle.std.proofs.lemmas.List.{length-append}
use Rattle.perm_tree.specs.Places.{Listing}
use Rattle.perm_tree.specs.declared.ast.Ident.{Ident}
use Rattle.perm_tree.specs.declared.ast.ClassDecl.{ClassDecl}
use Rattle.perm_tree.specs.declared.ast.Expr.{Expr}
use Rattle.perm_tree.specs.declared.ast.Stmt.{Stmt}
use Rattle.perm_tree.specs.declared.ast.FieldDecl.{FieldDecl}
use Rattle.perm_tree.specs.declared.ast.Method.{Method}
use Rattle.perm_tree.specs.declared.tokens.Token.{Token}
use Rattle.perm_parse.specs.Grammar.{TypeTree, ExprTree, ArgTree, Args, RhsTree, BlockTree, StmtTree, Stmts, Params, MemberTree, Members, Classes}
use Rattle.perm_parse.specs.Meaning.{number_at, ident, push_expr, push_stmt, push_mention, type_of, expr_of, arg_of, args_of, rhs_of, block_of, stmt_of, stmts_of, params_of, member_of, members_of, classes_of}
use Rattle.perm_parse.proofs.Walks.{IsKept, ident-kept, type-kept, expr-kept, arg-kept, args-kept, rhs-kept, block-kept, stmt-kept, stmts-kept, params-kept, member-kept, members-kept, classes-kept}

-- a list begins with another one
pub record Front {A : Type 0} (xs ys : List A) : Type 0 where
  pub more : List A
  pub is : ys ≡ xs ++ more

pub front-refl : {A : Type 0} (xs : List A) → Front xs xs
front-refl xs = record { more = []; is = sym (append-nil xs) }

pub front-trans : {A : Type 0} {xs ys zs : List A} → Front xs ys → Front ys zs → Front xs zs
front-trans {A} {xs} f g = record { more = f.more ++ g.more; is = g.is ∙ ap (λ l. l ++ g.more) f.is ∙ append_assoc xs f.more g.more }

pub front-push : {A : Type 0} (xs : List A) (x : A) → Front xs (xs ++ x ∷ [])
front-push xs x = record { more = x ∷ []; is = refl }

pub front-length : {A : Type 0} (xs ys : List A) → Front xs ys → length xs ≤ length ys
front-length xs ys f = omega (arith, ap length f.is, length-append xs f.more)

-- the names, expressions and statements stay, and more stand behind them
pub record Grows (s t : Listing) : Type 0 where
  pub names : Front s.names t.names
  pub exprs : Front s.exprs t.exprs
  pub stmts : Front s.stmts t.stmts

pub stays : (s : Listing) → Grows s s
stays s = record { names = front-refl s.names; exprs = front-refl s.exprs; stmts = front-refl s.stmts }

pub then : {s t u : Listing} → Grows s t → Grows t u → Grows s u
then g h = record { names = front-trans g.names h.names; exprs = front-trans g.exprs h.exprs; stmts = front-trans g.stmts h.stmts }

-- each move makes the lists grow or leaves them
number_at-grows : (name : List ℕ) (s : Listing) (o : Option ℕ) → Grows s (number_at name s o).1
number_at-grows name s (Some at) = stays s
number_at-grows name s None = record { names = front-push s.names name; exprs = front-refl s.exprs; stmts = front-refl s.stmts }

pub push_expr-grows : (e : Expr) (s : Listing) → Grows s (push_expr e s).1
push_expr-grows e s = record { names = front-refl s.names; exprs = front-push s.exprs e; stmts = front-refl s.stmts }

pub push_stmt-grows : (x : Stmt) (s : Listing) → Grows s (push_stmt x s).1
push_stmt-grows x s = record { names = front-refl s.names; exprs = front-refl s.exprs; stmts = front-push s.stmts x }

mention-grows : (i : Ident) (s : Listing) → Grows s (push_mention i s)
mention-grows i s = record { names = front-refl s.names; exprs = front-refl s.exprs; stmts = front-refl s.stmts }

class-grows : (c : ClassDecl) (s : Listing) → Grows s (record s { classes = s.classes ++ c ∷ [] })
class-grows c s = record { names = front-refl s.names; exprs = front-refl s.exprs; stmts = front-refl s.stmts }

grows : IsKept Grows
grows = record { stays = stays; then = then; name = λ text t s. number_at-grows _ s _; expr = push_expr-grows; mention = mention-grows }

-- ---- over each kind of tree

pub ident-grows : (text : List ℕ) (t : Token) (s : Listing) → Grows s (ident text t s).1
ident-grows = ident-kept Grows grows

pub type-grows : (text : List ℕ) (a : TypeTree) (s : Listing) → Grows s (type_of text a s).1
type-grows = type-kept Grows grows

pub expr-grows : (text : List ℕ) (a : ExprTree) (s : Listing) → Grows s (expr_of text a s).1
expr-grows = expr-kept Grows grows

pub arg-grows : (text : List ℕ) (a : ArgTree) (s : Listing) → Grows s (arg_of text a s).1
arg-grows = arg-kept Grows grows

pub args-grows : (text : List ℕ) (a : Args) (s : Listing) → Grows s (args_of text a s).1
args-grows = args-kept Grows grows

pub rhs-grows : (text : List ℕ) (a : RhsTree) (s : Listing) → Grows s (rhs_of text a s).1
rhs-grows = rhs-kept Grows grows push_stmt-grows

pub block-grows : (text : List ℕ) (a : BlockTree) (s : Listing) → Grows s (block_of text a s).1
block-grows = block-kept Grows grows push_stmt-grows

pub stmt-grows : (text : List ℕ) (a : StmtTree) (s : Listing) → Grows s (stmt_of text a s).1
stmt-grows = stmt-kept Grows grows push_stmt-grows

pub stmts-grows : (text : List ℕ) (a : Stmts) (s : Listing) → Grows s (stmts_of text a s).1
stmts-grows = stmts-kept Grows grows push_stmt-grows

pub params-grows : (text : List ℕ) (a : Params) (s : Listing) → Grows s (params_of text a s).1
params-grows = params-kept Grows grows

pub member-grows : (text : List ℕ) (a : MemberTree) (fs : List FieldDecl) (ms : List Method) (s : Listing) → Grows s (member_of text a fs ms s).2
member-grows = member-kept Grows grows push_stmt-grows

pub members-grows : (text : List ℕ) (a : Members) (s : Listing) → Grows s (members_of text a s).2
members-grows = members-kept Grows grows push_stmt-grows

pub classes-grows : (text : List ℕ) (a : Classes) (s : Listing) → Grows s (classes_of text a s)
classes-grows = classes-kept Grows grows push_stmt-grows class-grows
