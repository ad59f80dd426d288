-- A program stays well placed where one part more is pushed.
use Rattle.std.proofs.Common.{◌≡◌, ℕ, zero, suc, ◌≤◌, ◌⊎◌, inl, inr, List, [], ◌∷◌, ◌++◌, length, Some, refl, sym, ap, subst, arith, length-append, Result, Ok, Err}
use Rattle.std.specs.Prelude.{slice_get, OnOk, OnErr}
use Rattle.perm_tree.specs.declared.ast.Arg.{Arg}
use Rattle.perm_tree.specs.declared.ast.Arg.TheVariants.{Expr as Plain, Consume}
use Rattle.perm_tree.specs.declared.ast.ClassDecl.{ClassDecl}
use Rattle.perm_tree.specs.declared.ast.Expr.{Expr}
use Rattle.perm_tree.specs.declared.ast.Method.{Method}
use Rattle.perm_tree.specs.declared.ast.Rhs.{Rhs}
use Rattle.perm_tree.specs.declared.ast.Rhs.TheVariants.{Value, Item, NewArray, Call, Recover}
use Rattle.perm_tree.specs.declared.ast.Stmt.{Stmt}
use Rattle.perm_tree.specs.declared.ast.StmtKind.{StmtKind}
use Rattle.perm_tree.specs.declared.ast.StmtKind.TheVariants.{Declare, Assign, SetField, SetItem, Call as CallStmt, Print, If, While, Par}
use Rattle.perm_tree.specs.Places.{AllBelow, ArgPlaced, ArgsPlaced, ClassPlaced, ExprBelow, IsPlaced, KindPlaced, LiteralFits, Listing, MethodPlaced, RhsPlaced}

-- an element of a list with one more is one of the list, or the new one
pub get_push : {X : Type 0} (xs : List X) (x : X) (i : ℕ) (y : X) → slice_get (xs ++ x ∷ []) i ≡ Some y → (slice_get xs i ≡ Some y) ⊎ ((i ≡ length xs) × (x ≡ y))
get_push [] x zero y e = let q : x ≡ y = cc e in inr (refl, q)
get_push [] x (suc i) y e = absurd (let r : ⊥ = cc e in r)
get_push (z ∷ xs) x zero y e = inl e
get_push (z ∷ xs) x (suc i) y e = next (get_push xs x i y e)
  where
    next : (slice_get xs i ≡ Some y) ⊎ ((i ≡ length xs) × (x ≡ y)) → (slice_get xs i ≡ Some y) ⊎ ((suc i ≡ suc (length xs)) × (x ≡ y))
    next (inl p) = inl p
    next (inr p) = inr (ap suc p.0, p.1)

pub all_more : (n n' : ℕ) (is : List ℕ) → n ≤ n' → AllBelow n is → AllBelow n' is
all_more n n' [] le b = tt
all_more n n' (i ∷ is) le b = (omega (arith, b.0), all_more n n' is le b.1)

pub all_append : (n : ℕ) (xs ys : List ℕ) → AllBelow n xs → AllBelow n ys → AllBelow n (xs ++ ys)
all_append n [] ys b c = c
all_append n (x ∷ xs) ys b c = (b.0, all_append n xs ys b.1 c)

pub arg_more : (n n' : ℕ) (a : Arg) → n ≤ n' → ArgPlaced n a → ArgPlaced n' a
arg_more n n' (Plain e) le b = omega arith
arg_more n n' (Consume y) le b = tt

args_more : (n n' : ℕ) (list : List Arg) → n ≤ n' → ArgsPlaced n list → ArgsPlaced n' list
args_more n n' [] le b = tt
args_more n n' (a ∷ rest) le b = (arg_more n n' a le b.0, args_more n n' rest le b.1)

rhs_more : (n n' at : ℕ) (r : Rhs) → n ≤ n' → RhsPlaced n at r → RhsPlaced n' at r
rhs_more n n' at (Value a) le b = arg_more n n' a le b
rhs_more n n' at (Item y e) le b = omega arith
rhs_more n n' at (NewArray e) le b = omega arith
rhs_more n n' at (Call c) le b = args_more n n' c.args le b
rhs_more n n' at (Recover body w give) le b = b
rhs_more n n' at _ le b = tt

kind_more : (n n' at : ℕ) (k : StmtKind) → n ≤ n' → KindPlaced n at k → KindPlaced n' at k
kind_more n n' at (Declare t x) le b = tt
kind_more n n' at (Assign t x r) le b = rhs_more n n' at r le b
kind_more n n' at (SetField y f a) le b = arg_more n n' a le b
kind_more n n' at (SetItem y i e) le b = (omega (arith, b.0), omega (arith, b.1))
kind_more n n' at (CallStmt c) le b = args_more n n' c.args le b
kind_more n n' at (Print e) le b = omega arith
kind_more n n' at (If e a o) le b = (omega (arith, b.0), b.1, b.2)
kind_more n n' at (While e a) le b = (omega (arith, b.0), b.1)
kind_more n n' at (Par a o) le b = b

method_more : (exprs exprs' stmts stmts' : ℕ) (d : Method) → exprs ≤ exprs' → stmts ≤ stmts' → MethodPlaced exprs stmts d → MethodPlaced exprs' stmts' d
method_more exprs exprs' stmts stmts' d le le' b = (all_more stmts stmts' d.body.stmts le' b.0, arg_more exprs exprs' d.back le b.1)

length_more : {X : Type 0} (xs : List X) (x : X) → length xs ≤ length (xs ++ x ∷ [])
length_more xs x = omega (arith, length-append xs (x ∷ []))

pub more_exprs : (p : Listing) (e : Expr) → IsPlaced p → ExprBelow (length p.exprs) e → LiteralFits e → IsPlaced (record p { exprs = p.exprs ++ e ∷ [] })
more_exprs p e w b fits = record {
  exprs = λ at x q. pick at x (get_push p.exprs e at x q);
  literals = λ at x q. fit at x (get_push p.exprs e at x q);
  stmts = λ at s q. kind_more (length p.exprs) (length (p.exprs ++ e ∷ [])) at s.kind le (w.stmts at s q);
  bodies = λ k c q m d r. method_more (length p.exprs) (length (p.exprs ++ e ∷ [])) (length p.stmts) (length p.stmts) d le (omega arith) (w.bodies k c q m d r);
}
  where
    le : length p.exprs ≤ length (p.exprs ++ e ∷ [])
    le = length_more p.exprs e

    pick : (at : ℕ) (x : Expr) → (slice_get p.exprs at ≡ Some x) ⊎ ((at ≡ length p.exprs) × (e ≡ x)) → ExprBelow at x
    pick at x (inl h) = w.exprs at x h
    pick at x (inr h) = subst (λ n. ExprBelow n x) (sym h.0) (subst (λ y. ExprBelow (length p.exprs) y) h.1 b)

    fit : (at : ℕ) (x : Expr) → (slice_get p.exprs at ≡ Some x) ⊎ ((at ≡ length p.exprs) × (e ≡ x)) → LiteralFits x
    fit at x (inl h) = w.literals at x h
    fit at x (inr h) = subst LiteralFits h.1 fits

pub more_stmts : (p : Listing) (s : Stmt) → IsPlaced p → KindPlaced (length p.exprs) (length p.stmts) s.kind → IsPlaced (record p { stmts = p.stmts ++ s ∷ [] })
more_stmts p s w b = record {
  exprs = w.exprs;
  literals = w.literals;
  stmts = λ at x q. pick at x (get_push p.stmts s at x q);
  bodies = λ k c q m d r. method_more (length p.exprs) (length p.exprs) (length p.stmts) (length (p.stmts ++ s ∷ [])) d (omega arith) (length_more p.stmts s) (w.bodies k c q m d r);
}
  where
    pick : (at : ℕ) (x : Stmt) → (slice_get p.stmts at ≡ Some x) ⊎ ((at ≡ length p.stmts) × (s ≡ x)) → KindPlaced (length p.exprs) at x.kind
    pick at x (inl h) = w.stmts at x h
    pick at x (inr h) = subst (λ n. KindPlaced (length p.exprs) n x.kind) (sym h.0) (subst (λ (y : Stmt). KindPlaced (length p.exprs) (length p.stmts) y.kind) h.1 b)

pub more_classes : (p : Listing) (c : ClassDecl) → IsPlaced p → ClassPlaced (length p.exprs) (length p.stmts) c → IsPlaced (record p { classes = p.classes ++ c ∷ [] })
more_classes p c w b = record {
  exprs = w.exprs;
  literals = w.literals;
  stmts = w.stmts;
  bodies = λ k x q. pick k x (get_push p.classes c k x q);
}
  where
    pick : (k : ℕ) (x : ClassDecl) → (slice_get p.classes k ≡ Some x) ⊎ ((k ≡ length p.classes) × (c ≡ x)) → ClassPlaced (length p.exprs) (length p.stmts) x
    pick k x (inl h) = w.bodies k x h
    pick k x (inr h) = subst (λ (y : ClassDecl). ClassPlaced (length p.exprs) (length p.stmts) y) h.1 b

-- what follows whether or not a push succeeded
pub either : {T E : Type 0} (r : Result T E) (A B C : Type 0) → OnOk r A → OnErr r B → (A → C) → (B → C) → C
either (Ok x) A B C a b f g = f a
either (Err x) A B C a b f g = g b
