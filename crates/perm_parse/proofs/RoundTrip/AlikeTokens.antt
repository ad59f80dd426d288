-- Other tokens with the same kinds, names and numbers, over another text, are those of a tree that means the same but for its spans: types and expressions.
use Rattle.std.proofs.Common.{◌≡◌, ℕ, inl, inr, List, [], ◌∷◌, ◌++◌, length, map, Option, Some, None, refl, sym, ◌∙◌, ap, subst}
use Rattle.std.specs.Prelude.{slice_range, position, bytes_eq}
use Rattle.std.proofs.lemmas.List.{map-append, length-map}
use Rattle.perm_tree.specs.Places.{Listing}
use Rattle.perm_tree.specs.declared.ast.Ident.{Ident}
use Rattle.perm_tree.specs.declared.ast.Shape.TheVariants.{Class}
use Rattle.perm_tree.specs.declared.ast.Ty.{Ty}
use Rattle.perm_tree.specs.declared.ast.Ty.TheVariants.{Ref}
use Rattle.perm_tree.specs.declared.ast.Expr.{Expr}
use Rattle.perm_tree.specs.declared.ast.Stmt.{Stmt}
use Rattle.perm_tree.specs.declared.tokens.Token.{Token}
use Rattle.perm_tree.specs.declared.tokens.TokenKind.{TokenKind}
use Rattle.perm_tree.specs.declared.tokens.TokenKind.TheVariants as kinds
use Rattle.perm_parse.specs.Grammar.{TypeTree, IsVar, IsType, type_text}
use Rattle.perm_parse.specs.Levels.{type_levels}
use Rattle.perm_parse.specs.Meaning.{number_at, number_of, ident, var_as, var, push_expr, push_stmt, push_mention, type_of}
use Rattle.perm_parse.specs.SameButSpans.{no_span, clear_ident, clear_expr, clear_stmt, without_spans}

-- ---- programs that are the same but for their spans

pub record Same (s t : Listing) : Type 0 where
  pub same : without_spans s ≡ without_spans t

names-same : (s t : Listing) → Same s t → s.names ≡ t.names
names-same s t h = ap (λ (p : Listing). p.names) h.same

-- one element more on each
pub last-same : {A : Type 0} (f : A → A) (xs ys : List A) (x y : A) → map f xs ≡ map f ys → f x ≡ f y → map f (xs ++ x ∷ []) ≡ map f (ys ++ y ∷ [])
last-same f xs ys x y e h = map-append f xs (x ∷ []) ∙ (λ i. e i ++ h i ∷ []) ∙ sym (map-append f ys (y ∷ []))

map-length : {A : Type 0} (f : A → A) (xs ys : List A) → map f xs ≡ map f ys → length xs ≡ length ys
map-length f xs ys e = sym (length-map xs f) ∙ ap length e ∙ length-map ys f

-- the same number or place, and the same programs behind it
pub record SamePlace (x y : ℕ × Listing) : Type 0 where
  pub place : x.0 ≡ y.0
  pub rest : Same x.1 y.1

pub push_expr-same : (e f : Expr) (s t : Listing) → clear_expr e ≡ clear_expr f → Same s t → SamePlace (push_expr e s) (push_expr f t)
push_expr-same e f s t h k =
    let exprs : map clear_expr s.exprs ≡ map clear_expr t.exprs = ap (λ (p : Listing). p.exprs) k.same in
    let more = last-same clear_expr s.exprs t.exprs e f exprs h in
    record { place = map-length clear_expr s.exprs t.exprs exprs; rest = record { same = λ i. record (k.same i) { exprs = more i } } }

pub push_stmt-same : (x y : Stmt) (s t : Listing) → clear_stmt x ≡ clear_stmt y → Same s t → SamePlace (push_stmt x s) (push_stmt y t)
push_stmt-same x y s t h k =
    let stmts : map clear_stmt s.stmts ≡ map clear_stmt t.stmts = ap (λ (p : Listing). p.stmts) k.same in
    let more = last-same clear_stmt s.stmts t.stmts x y stmts h in
    record { place = map-length clear_stmt s.stmts t.stmts stmts; rest = record { same = λ i. record (k.same i) { stmts = more i } } }

pub push_mention-same : (x y : Ident) (s t : Listing) → clear_ident x ≡ clear_ident y → Same s t → Same (push_mention x s) (push_mention y t)
push_mention-same x y s t h k =
    let more = last-same clear_ident s.mentions t.mentions x y (ap (λ (p : Listing). p.mentions) k.same) h in
    record { same = λ i. record (k.same i) { mentions = more i } }

number_at-same : (name : List ℕ) (o : Option ℕ) (s t : Listing) → Same s t → SamePlace (number_at name s o) (number_at name t o)
number_at-same name (Some at) s t k = record { place = refl; rest = k }
number_at-same name None s t k =
    let names = names-same s t k in
    record { place = ap length names; rest = record { same = λ i. record (k.same i) { names = names i ++ name ∷ [] } } }

-- ---- tokens that are alike over two texts

-- the same kind, the same bytes of a name, and the same value of a number
pub record Alike (text other : List ℕ) (u v : Token) : Type 0 where
  pub kind : u.kind ≡ v.kind
  pub name : u.kind ≡ kinds.Name → slice_range text u.span.start u.span.end ≡ slice_range other v.span.start v.span.end
  pub number : u.kind ≡ kinds.Number → u.value ≡ v.value

abbrev pub AllAlike : List ℕ → List ℕ → List Token → List Token → Type 0
AllAlike text other [] [] = Unit {0}
AllAlike text other (u ∷ us) (v ∷ vs) = Alike text other u v × AllAlike text other us vs
AllAlike text other _ _ = ⊥

-- tokens that are alike, one after the other
pub record Follow (text other : List ℕ) (us vs : List Token) : Type 0 where
  pub all : AllAlike text other us vs

-- the first of them, and those behind it
pub record First (text other : List ℕ) (u : Token) (us vs : List Token) : Type 0 where
  pub token : Token
  pub behind : List Token
  pub is : token ∷ behind ≡ vs
  pub alike : Alike text other u token
  pub rest : Follow text other us behind

pub first : {text other : List ℕ} {u : Token} {us vs : List Token} → Follow text other (u ∷ us) vs → First text other u us vs
first {text} {other} {u} {us} {vs} h = go vs h.all
  where
    go : (ws : List Token) → AllAlike text other (u ∷ us) ws → First text other u us ws
    go [] k = absurd k
    go (v ∷ ws) k = record { token = v; behind = ws; is = refl; alike = k.0; rest = record { all = k.1 } }

pub is-same : {text other : List ℕ} {u v : Token} {k : TokenKind} → Alike text other u v → u.kind ≡ k → v.kind ≡ k
is-same h e = sym h.kind ∙ e

pub var-is : {text other : List ℕ} {u v : Token} → Alike text other u v → IsVar u → IsVar v
var-is h (inl e) = inl (is-same h e)
var-is h (inr e) = inr (is-same h e)

-- the same name where it stands, and the same programs behind it
pub record SameIdent (x y : Ident × Listing) : Type 0 where
  pub ident : clear_ident x.0 ≡ clear_ident y.0
  pub rest : Same x.1 y.1

number_of-same : (text other : List ℕ) (u v : Token) (s t : Listing) → Alike text other u v → u.kind ≡ kinds.Name → Same s t → SamePlace (number_of text u s) (number_of other v t)
number_of-same text other u v s t h e k =
    let bytes = h.name e in
    let names = names-same s t k in
    let name = slice_range text u.span.start u.span.end in
    let here = position (λ x. bytes_eq x name) s.names in
    let there : number_at name t here ≡ number_of other v t = λ i. number_at (bytes i) t (position (λ x. bytes_eq x (bytes i)) (names i)) in
    subst (λ (z : ℕ × Listing). SamePlace (number_of text u s) z) there (number_at-same name here s t k)

pub ident-same : {text other : List ℕ} {u v : Token} (s t : Listing) → Alike text other u v → u.kind ≡ kinds.Name → Same s t → SameIdent (ident text u s) (ident other v t)
ident-same {text} {other} {u} {v} s t h e k =
    let d = number_of-same text other u v s t h e k in
    record { ident = λ i. record { name = d.place i; span = no_span }; rest = d.rest }

pub var-same : {text other : List ℕ} {u v : Token} (s t : Listing) → Alike text other u v → IsVar u → Same s t → SameIdent (var text u s) (var other v t)
var-same {text} {other} {u} {v} s t h (inl e) k =
    let left : ident text u s ≡ var text u s = ap (var_as text u s) (sym e) in
    let right : ident other v t ≡ var other v t = ap (var_as other v t) (sym (is-same h e)) in
    subst (λ (z : Ident × Listing). SameIdent z (var other v t)) left (subst (λ (z : Ident × Listing). SameIdent (ident text u s) z) right (ident-same s t h e k))
var-same {text} {other} {u} {v} s t h (inr e) k =
    let left : var_as text u s kinds.This ≡ var text u s = ap (var_as text u s) (sym e) in
    let right : var_as other v t kinds.This ≡ var other v t = ap (var_as other v t) (sym (is-same h e)) in
    let both : SameIdent (var_as text u s kinds.This) (var_as other v t kinds.This) = record { ident = refl; rest = k } in
    subst (λ (z : Ident × Listing). SameIdent z (var other v t)) left (subst (λ (z : Ident × Listing). SameIdent (var_as text u s kinds.This) z) right both)

-- ---- trees

-- a tree of other tokens that is like a tree, and the tokens behind it
pub record Renewed {X : Type 0} (text other : List ℕ) (spell : X → List Token → List Token) (Like : X → Type 0) (us vs : List Token) : Type 0 where
  pub tree : X
  pub behind : List Token
  pub spells : spell tree behind ≡ vs
  pub rest : Follow text other us behind
  pub like : Like tree

pub record SameType (x y : Ty × Listing) : Type 0 where
  pub ty : x.0 ≡ y.0
  pub rest : Same x.1 y.1

pub record LikeType (text other : List ℕ) (a b : TypeTree) : Type 0 where
  pub is : IsType b
  pub levels : (d : ℕ) (ls : List ℕ) → type_levels d b ls ≡ type_levels d a ls
  pub means : (s t : Listing) → Same s t → SameType (type_of text a s) (type_of other b t)

pub renew_type : (text other : List ℕ) (a : TypeTree) (us vs : List Token) → IsType a → Follow text other (type_text a us) vs → Renewed text other type_text (LikeType text other a) us vs
renew_type text other (TypeTree.long_type u) us vs is h =
    let x = first h in
    record {
      tree = TypeTree.long_type x.token;
      behind = x.behind;
      spells = x.is;
      rest = x.rest;
      like = record { is = is-same x.alike is; levels = λ d ls. refl; means = λ s t k. record { ty = refl; rest = k } };
    }
renew_type text other (TypeTree.bool_type u) us vs is h =
    let x = first h in
    record {
      tree = TypeTree.bool_type x.token;
      behind = x.behind;
      spells = x.is;
      rest = x.rest;
      like = record { is = is-same x.alike is; levels = λ d ls. refl; means = λ s t k. record { ty = refl; rest = k } };
    }
renew_type text other (TypeTree.object_type p perm name) us vs is h =
    let x = first h in
    let y = first x.rest in
    record {
      tree = TypeTree.object_type p x.token y.token;
      behind = y.behind;
      spells = rw (y.is, x.is) refl;
      rest = y.rest;
      like = record {
        is = (is-same x.alike is.0, is-same y.alike is.1);
        levels = λ d ls. refl;
        means = λ s t k.
            let i = ident-same s t y.alike is.1 k in
            record { ty = ap (λ (z : Ident). Ref p (Class z.name)) i.ident; rest = push_mention-same _ _ _ _ i.ident i.rest };
      };
    }
renew_type text other (TypeTree.array_type p perm word opening closing) us vs is h =
    let x = first h in
    let y = first x.rest in
    let z = first y.rest in
    let w = first z.rest in
    record {
      tree = TypeTree.array_type p x.token y.token z.token w.token;
      behind = w.behind;
      spells = rw (w.is, z.is, y.is, x.is) refl;
      rest = w.rest;
      like = record {
        is = record { perm = is-same x.alike is.perm; word = is-same y.alike is.word; opening = is-same z.alike is.opening; closing = is-same w.alike is.closing };
        levels = λ d ls. refl;
        means = λ s t k. record { ty = refl; rest = k };
      };
    }
