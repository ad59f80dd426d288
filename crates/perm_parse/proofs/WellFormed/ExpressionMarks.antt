-- The marks of an expression, an argument or a call stand at its tokens, in the same order, and their names are numbered.
use Rattle.std.proofs.Common.{◌≡◌, ℕ, suc, ◌<◌, ◌≤◌, List, [], ◌∷◌, ◌++◌, length, get_or, position, bytes_eq, Option, Some, None, refl, sym, ◌∙◌, ap, subst, arith, length-append}
use Rattle.std.specs.Prelude.{All, AllPairs, slice_range}
use Rattle.std.proofs.Math.Seq.{get_or-append_seam}
use Rattle.std.proofs.lemmas.List.Quantifiers.{position-Some}
use Rattle.perm_tree.specs.Entries.{entries_of}
use Rattle.perm_tree.specs.Places.{AllBelow, Listing}
use Rattle.perm_tree.specs.TextOrder.{Mark, IsRising, mark_names, Marks, expr_marks, all_expr_marks, marks_at, arg_marks, args_marks, call_marks}
use Rattle.perm_tree.specs.TextOrder.Mark.{names, ends}
use Rattle.perm_tree.specs.declared.ast.Arg.{Arg}
use Rattle.perm_tree.specs.declared.ast.Expr.{Expr}
use Rattle.perm_tree.specs.declared.ast.Expr.TheVariants as node
use Rattle.perm_tree.specs.declared.ast.Ident.{Ident}
use Rattle.perm_tree.specs.declared.ast.Stmt.{Stmt}
use Rattle.perm_tree.specs.declared.tokens.Token.{Token}
use Rattle.perm_tree.specs.declared.tokens.TokenKind.{TokenKind}
use Rattle.perm_tree.specs.declared.tokens.TokenKind.TheVariants as kinds
use Rattle.perm_tree.proofs.Entries.{length-entries_of, entries_from-append, entries_of-front}
use Rattle.perm_tree.proofs.Passing.{rising-less}
use Rattle.perm_parse.specs.Grammar.{TypeTree, ExprTree, ArgTree, ArgList, Args, RecvTree, CallTree, type_text, expr_text, arg_text, arg_list_text, args_text, recv_text, call_text}
use Rattle.perm_parse.specs.Meaning.{number_at, ident, var_as, var, push_expr, expr_of, arg_of, arg_list_of, args_of, recv_of, call_of}
use Rattle.perm_parse.proofs.Walks.ListGrowth.{Front, front-refl, front-trans, front-length, Grows, ident-grows, expr-grows, arg-grows, args-grows}

-- ---- tokens in order

-- each token has a byte at least and begins no earlier than the one before it ends, the first one not before a place
abbrev pub AreInOrder : ℕ → List Token → Type 0
AreInOrder from [] = Unit {0}
AreInOrder from (t ∷ ts) = (from ≤ t.span.start) × (t.span.start < t.span.end) × AreInOrder t.span.end ts

order-below : (from : ℕ) (ts : List Token) → All (λ t. from ≤ t.span.start) ts → All (λ t. t.span.start < t.span.end) ts → AllPairs (λ a b. a.span.end ≤ b.span.start) ts → AreInOrder from ts
order-below from [] low some pairs = tt
order-below from (t ∷ ts) low some pairs = (
  low 0 t (omega arith),
  some 0 t (omega arith),
  order-below
      t.span.end
      ts
      (λ k d within. pairs 0 (suc k) d (omega arith) (omega arith))
      (λ k d within. some (suc k) d (omega arith))
      (λ i j d before within. pairs (suc i) (suc j) d (omega arith) (omega arith)),
)

pub in-order : (ts : List Token) → All (λ t. t.span.start < t.span.end) ts → AllPairs (λ a b. a.span.end ≤ b.span.start) ts → AreInOrder 0 ts
in-order ts some pairs = order-below 0 ts (λ k d within. omega arith) some pairs

-- ---- marks and tokens side by side

-- what rises from a place rises from each one before it
pub order-from : (from later : ℕ) (us : List Token) → from ≤ later → AreInOrder later us → AreInOrder from us
order-from from later [] le h = tt
order-from from later (t ∷ us) le h = (omega (arith, h.0), h.1, h.2)

-- marks rise where these tokens are in order, and so are the tokens at their end; the names among the marks have numbers below this one
pub record Told (n : ℕ) (vs us : List Token) (ms : List Mark) : Type 0 where
  pub rising : (from : ℕ) → AreInOrder from us → IsRising from ms
  pub behind : (from : ℕ) → AreInOrder from us → AreInOrder 0 vs
  pub numbered : AllBelow n (mark_names ms)

pub nothing : {n : ℕ} {us : List Token} → Told n us us []
nothing {us} = record { rising = λ from h. tt; behind = λ from h. order-from 0 from us (omega arith) h; numbered = tt }

-- a token with no mark
pub skip : {n : ℕ} {t : Token} {vs us : List Token} {ms : List Mark} → Told n vs us ms → Told n vs (t ∷ us) ms
skip {t} {ms} r = record {
  rising = λ from h. rising-less from t.span.end ms (omega (arith, h.0, h.1)) (r.rising t.span.end h.2);
  behind = λ from h. r.behind t.span.end h.2;
  numbered = r.numbered;
}

-- a token that is a name
named : {n : ℕ} {t : Token} {vs us : List Token} {ms : List Mark} (i : Ident) → i.span ≡ t.span → i.name < n → Told n vs us ms → Told n vs (t ∷ us) (names i ∷ ms)
named {t} {ms} i same below r =
    let start : i.span.start ≡ t.span.start = λ j. (same j).start in
    record {
      rising = λ from h. (omega (arith, h.0, start), rising-less (suc i.span.start) t.span.end ms (omega (arith, h.1, start)) (r.rising t.span.end h.2));
      behind = λ from h. r.behind t.span.end h.2;
      numbered = (below, r.numbered);
    }

-- a token at whose end something has ended
pub ended : {n : ℕ} {t : Token} {vs us : List Token} {ms : List Mark} → Told n vs us ms → Told n vs (t ∷ us) (ends t.span.end ∷ ms)
ended {t} r = record {
  rising = λ from h. (omega (arith, h.0, h.1), r.rising t.span.end h.2);
  behind = λ from h. r.behind t.span.end h.2;
  numbered = r.numbered;
}

-- ---- what is read of longer lists

-- the names of a program so far have numbers below this one, and these expressions and statements begin with its own
pub record Under (n : ℕ) (xs : List Expr) (ys : List Stmt) (s : Listing) : Type 0 where
  pub some : 0 < n
  pub names : length s.names ≤ n
  pub exprs : Front s.exprs xs
  pub stmts : Front s.stmts ys

pub before : {n : ℕ} {xs : List Expr} {ys : List Stmt} {s t : Listing} → Grows s t → Under n xs ys t → Under n xs ys s
before {s} {t} g u = record {
  some = u.some;
  names = omega (arith, front-length s.names t.names g.names, u.names);
  exprs = front-trans g.exprs u.exprs;
  stmts = front-trans g.stmts u.stmts;
}

-- the entry of an element that was pushed is made of those before it, however many follow
pub entry-pushed : {X A : Type 0} (make : List A → X → A) (xs ys : List X) (x : X) (d : A) → Front (xs ++ x ∷ []) ys → get_or (entries_of make ys) (length xs) d ≡ make (entries_of make xs) x
entry-pushed {A} make xs ys x d f =
    let es = entries_of make xs in
    let last : entries_of make (xs ++ x ∷ []) ≡ es ++ make es x ∷ [] = entries_from-append make [] xs (x ∷ []) in
    ap (λ zs. get_or (entries_of make zs) (length xs) d) f.is
    ∙ entries_of-front make (xs ++ x ∷ []) f.more (length xs) d (omega (arith, length-append xs (x ∷ [])))
    ∙ ap (λ (zs : List A). get_or zs (length xs) d) last
    ∙ ap (λ (k : ℕ). get_or (es ++ make es x ∷ []) k d) (sym (length-entries_of make xs))
    ∙ get_or-append_seam es (make es x) [] d

-- ---- names

number-below : (name : List ℕ) (s : Listing) (o : Option ℕ) → position (λ other. bytes_eq other name) s.names ≡ o → (number_at name s o).0 < length (number_at name s o).1.names
number-below name s (Some at) e = (position-Some (λ other. bytes_eq other name) s.names at [] e).0
number-below name s None e = omega (arith, length-append s.names (name ∷ []))

pub ident-told : {n : ℕ} {xs : List Expr} {ys : List Stmt} {vs us : List Token} {ms : List Mark} (text : List ℕ) (t : Token) (s : Listing) →
    Under n xs ys (ident text t s).1 → Told n vs us ms → Told n vs (t ∷ us) (names (ident text t s).0 ∷ ms)
ident-told text t s u r =
    let word = slice_range text t.span.start t.span.end in
    named (ident text t s).0 refl (omega (arith, number-below word s (position (λ other. bytes_eq other word) s.names) refl, u.names)) r

-- the number of `this` is below any that has names below it
var_as-told : {n : ℕ} {xs : List Expr} {ys : List Stmt} {vs us : List Token} {ms : List Mark} (text : List ℕ) (t : Token) (s : Listing) (k : TokenKind) →
    Under n xs ys (var_as text t s k).1 → Told n vs us ms → Told n vs (t ∷ us) (names (var_as text t s k).0 ∷ ms)
var_as-told text t s kinds.This u r = named (var_as text t s kinds.This).0 refl u.some r
var_as-told text t s _ u r = ident-told text t s u r

pub var-told : {n : ℕ} {xs : List Expr} {ys : List Stmt} {vs us : List Token} {ms : List Mark} (text : List ℕ) (t : Token) (s : Listing) →
    Under n xs ys (var text t s).1 → Told n vs us ms → Told n vs (t ∷ us) (names (var text t s).0 ∷ ms)
var-told text t s u r = var_as-told text t s t.kind u r

-- ---- types and expressions

pub type-told : {n : ℕ} {vs us : List Token} {ms : List Mark} (a : TypeTree) → Told n vs us ms → Told n vs (type_text a us) ms
type-told (TypeTree.long_type t) r = skip r
type-told (TypeTree.bool_type t) r = skip r
type-told (TypeTree.object_type p perm name) r = skip (skip r)
type-told (TypeTree.array_type p perm word opening closing) r = skip (skip (skip (skip r)))

-- the operands of an expression are read of the expressions before it
abbrev operands : {n : ℕ} {xs : List Expr} {ys : List Stmt} (e : Expr) (s : Listing) → Under n xs ys (push_expr e s).1 → Under n s.exprs ys s
operands e s u = record { some = u.some; names = u.names; exprs = front-refl s.exprs; stmts = u.stmts }

pushed-told : {n : ℕ} {xs : List Expr} {ys : List Stmt} {vs us : List Token} (e : Expr) (s : Listing) (ms : List Mark) →
    Under n xs ys (push_expr e s).1 → Told n vs us (expr_marks (all_expr_marks s.exprs) e ms) → Told n vs us (marks_at (all_expr_marks xs) (length s.exprs) ms)
pushed-told {n} {xs} {vs} {us} e s ms u r = subst (λ (m : Marks). Told n vs us (m ms)) (sym (entry-pushed expr_marks s.exprs xs e (λ ms. ms) u.exprs)) r

pub expr-told : {n : ℕ} {vs : List Token} (text : List ℕ) (a : ExprTree) (s : Listing) {xs : List Expr} {ys : List Stmt} {us : List Token} {ms : List Mark} →
    Under n xs ys (expr_of text a s).1 → Told n vs us ms → Told n vs (expr_text a us) (marks_at (all_expr_marks xs) (expr_of text a s).0 ms)
expr-told text (ExprTree.number t) s u r = pushed-told _ s _ u (skip r)
expr-told text (ExprTree.true_word t) s u r = pushed-told _ s _ u (skip r)
expr-told text (ExprTree.false_word t) s u r = pushed-told _ s _ u (skip r)
expr-told text (ExprTree.null_word t) s u r = pushed-told _ s _ u (skip r)
expr-told text (ExprTree.variable t) s u r =
    let x = var text t s in
    pushed-told (node.Var x.0) x.1 _ u (var-told text t s (operands (node.Var x.0) x.1 u) r)
expr-told text (ExprTree.parens opening e closing) s u r = skip (expr-told text e s u (skip r))
expr-told text (ExprTree.unary o t e) s u r =
    let x = expr_of text e s in
    pushed-told (node.Unary o x.0) x.1 _ u (skip (expr-told text e s (operands (node.Unary o x.0) x.1 u) r))
expr-told text (ExprTree.binary o a t b) s u r =
    let x = expr_of text a s in
    let y = expr_of text b x.1 in
    let v = operands (node.Binary o x.0 y.0) y.1 u in
    pushed-told (node.Binary o x.0 y.0) y.1 _ u (expr-told text a s (before (expr-grows text b x.1) v) (skip (expr-told text b x.1 v r)))

-- ---- arguments and calls

pub arg-told : {n : ℕ} {xs : List Expr} {ys : List Stmt} {vs us : List Token} {ms : List Mark} (text : List ℕ) (a : ArgTree) (s : Listing) →
    Under n xs ys (arg_of text a s).1 → Told n vs us ms → Told n vs (arg_text a us) (arg_marks (all_expr_marks xs) (arg_of text a s).0 ms)
arg-told text (ArgTree.plain e) s u r = expr-told text e s u r
arg-told text (ArgTree.consumed word name) s u r = skip (var-told text name s u r)

-- the marks of one argument more stand last
args-last : (es : List Marks) (list : List Arg) (a : Arg) (ms : List Mark) → args_marks es (list ++ a ∷ []) ms ≡ args_marks es list (arg_marks es a ms)
args-last es [] a ms = refl
args-last es (b ∷ list) a ms = ap (arg_marks es b) (args-last es list a ms)

arg_list-told : {n : ℕ} {vs : List Token} (text : List ℕ) (a : ArgList) (s : Listing) {xs : List Expr} {ys : List Stmt} {us : List Token} {ms : List Mark} →
    Under n xs ys (arg_list_of text a s).1 → Told n vs us ms → Told n vs (arg_list_text a us) (args_marks (all_expr_marks xs) (arg_list_of text a s).0 ms)
arg_list-told text (ArgList.one_arg a) s u r = arg-told text a s u r
arg_list-told {n} {vs} text (ArgList.more_args list comma a) s {xs} {us} {ms} u r =
    let x = arg_list_of text list s in
    let y = arg_of text a x.1 in
    subst
    (Told n vs (arg_list_text list (comma ∷ arg_text a us)))
    (sym (args-last (all_expr_marks xs) x.0 y.0 ms))
    (arg_list-told text list s (before (arg-grows text a x.1) u) (skip (arg-told text a x.1 u r)))

args-told : {n : ℕ} {xs : List Expr} {ys : List Stmt} {vs us : List Token} {ms : List Mark} (text : List ℕ) (a : Args) (s : Listing) →
    Under n xs ys (args_of text a s).1 → Told n vs us ms → Told n vs (args_text a us) (args_marks (all_expr_marks xs) (args_of text a s).0 ms)
args-told text Args.no_args s u r = r
args-told text (Args.args list) s u r = arg_list-told text list s u r

recv-told : {n : ℕ} {xs : List Expr} {ys : List Stmt} {vs us : List Token} {ms : List Mark} (text : List ℕ) (a : RecvTree) (s : Listing) →
    Under n xs ys (recv_of text a s).2 → Told n vs us ms → Told n vs (recv_text a us) (names (recv_of text a s).1 ∷ ms)
recv-told text (RecvTree.lent name) s u r = var-told text name s u r
recv-told text (RecvTree.given opening word name closing) s u r = skip (skip (var-told text name s u (skip r)))

pub call-told : {n : ℕ} {xs : List Expr} {ys : List Stmt} {vs us : List Token} {ms : List Mark} (text : List ℕ) (a : CallTree) (s : Listing) →
    Under n xs ys (call_of text a s).1 → Told n vs us ms → Told n vs (call_text a us) (call_marks (all_expr_marks xs) (call_of text a s).0 ms)
call-told text (CallTree.call recv dot name opening list closing) s u r =
    let x = recv_of text recv s in
    let y = ident text name x.2 in
    let v = before (args-grows text list y.1) u in
    recv-told text recv s (before (ident-grows text name x.2) v) (skip (ident-told text name x.2 v (skip (args-told text list y.1 u (skip r)))))
