-- What is written of a name, a type or an expression is what the canonical text of the program has there.
use Rattle.std.proofs.Common.{◌≡◌, ℕ, ◌<◌, inl, inr, List, [], ◌∷◌, ◌++◌, length, get_or, Bool as Boolean, true, false, ltb, leb, Option, Some, None, codes, pos, refl, sym, ◌∙◌, ap, subst, arith, append_assoc, append-nil}
use Rattle.std.specs.Prelude.{position, bytes_eq, slice_get}
use Rattle.std.proofs.Math.ListN.{get_or-append}
use Rattle.std.proofs.Math.Seq.{get_or-append_seam}
use Rattle.std.proofs.lemmas.List.{length-append}
use Rattle.std.proofs.lemmas.List.Quantifiers.{position-Some}
use Rattle.std.proofs.lemmas.Option.{slice_get-get_or}
use Rattle.std.proofs.lemmas.Slice.Eq.{bytes_eq-Decides}
use Rattle.perm_tree.specs.Places.{Listing}
use Rattle.perm_tree.specs.Printer.Expressions as canonical
use Rattle.perm_tree.specs.Printer.Expressions.{parts_text, word, ExprText, tight_text, operand, expr_text_of, expr_text_at, expr_texts_of, perm_text, operator_text, sign_text}
use Rattle.perm_tree.specs.declared.ast.Perm.{Perm}
use Rattle.perm_tree.specs.declared.ast.Perm.TheVariants.{Isolated, Immutable, Readable, Writable}
use Rattle.perm_tree.specs.declared.ast.UnaryOp.{UnaryOp}
use Rattle.perm_tree.specs.declared.ast.UnaryOp.TheVariants as unary_op
use Rattle.perm_tree.specs.declared.ast.BinaryOp.{BinaryOp}
use Rattle.perm_tree.specs.declared.ast.BinaryOp.TheVariants as op
use Rattle.perm_tree.specs.declared.ast.Expr.{Expr}
use Rattle.perm_tree.specs.declared.ast.Expr.TheVariants as node
use Rattle.perm_tree.specs.declared.tokens.Token.{Token}
use Rattle.perm_tree.specs.declared.tokens.TokenKind.TheVariants as kinds
use Rattle.perm_tree.proofs.Entries.{ReadsBefore, entries_of-at}
use Rattle.perm_lex.specs.Lexes.{Piece, pieces_text}
use Rattle.perm_parse.specs.Grammar.{TypeTree, ExprTree, IsVar, IsExpr, looseness, level, perm_word, unary_sign, sign}
use Rattle.perm_parse.specs.Meaning.{number_at, ident, var_as, var, push_expr, type_of, expr_of}
use Rattle.perm_parse.proofs.RoundTrip.CanonicalTrees.{bare, enclose, right_operand}
use Rattle.perm_parse.proofs.RoundTrip.CanonicalPieces.{spelled_as, mark, space, name_bytes, name_piece, var_piece_as, var_piece, type_pieces, expr_pieces}
use Rattle.perm_tree.proofs.Printer.Texts.{parts_text-append}
use Rattle.perm_parse.proofs.Walks.ListGrowth.{Front, front-length, Grows, then, expr-grows, push_expr-grows}

-- ---- lists that begin with others

pub get-front : {A : Type 0} (xs ys : List A) (k : ℕ) (d : A) → Front xs ys → k < length xs → get_or ys k d ≡ get_or xs k d
get-front xs ys k d f l = ap (λ zs. get_or zs k d) f.is ∙ get_or-append xs f.more d k l

pub get-pushed : {A : Type 0} (xs ys : List A) (x d : A) → Front (xs ++ x ∷ []) ys → get_or ys (length xs) d ≡ x
get-pushed xs ys x d f = get-front (xs ++ x ∷ []) ys (length xs) d f (omega (arith, length-append xs (x ∷ []))) ∙ get_or-append_seam xs x [] d

pub slice-pushed : {A : Type 0} (xs ys : List A) (x : A) → Front (xs ++ x ∷ []) ys → slice_get ys (length xs) ≡ Some x
slice-pushed xs ys x f =
    let long : length xs < length ys = omega (arith, ap length f.is, length-append (xs ++ x ∷ []) f.more, length-append xs (x ∷ [])) in
    slice_get-get_or ys (length xs) x long ∙ ap Some (get-pushed xs ys x x f)

-- ---- names

-- number 0 is the word `this`
pub record HasThis (p : Listing) : Type 0 where
  pub this : word p.names 0 ≡ codes "this"

pub ident-written : (text : List ℕ) (t : Token) (s p : Listing) → Grows (ident text t s).1 p → word p.names (ident text t s).0.name ≡ name_bytes text t
ident-written text t s p g = go (position (λ other. bytes_eq other (name_bytes text t)) s.names) refl g
  where
    go : (o : Option ℕ) → position (λ other. bytes_eq other (name_bytes text t)) s.names ≡ o → Grows (number_at (name_bytes text t) s o).1 p → word p.names (number_at (name_bytes text t) s o).0 ≡ name_bytes text t
    go (Some at) e h =
        let k = position-Some (λ other. bytes_eq other (name_bytes text t)) s.names at [] e in
        get-front s.names p.names at [] h.names k.0 ∙ (bytes_eq-Decides (get_or s.names at []) (name_bytes text t)).0 k.1
    go None e h = get-pushed s.names p.names (name_bytes text t) [] h.names

pub name-written : (text : List ℕ) (t : Token) (s p : Listing) (ps : List Piece) → Grows (ident text t s).1 p → pieces_text (name_piece text t ∷ ps) ≡ word p.names (ident text t s).0.name ++ pieces_text ps
name-written text t s p ps g = ap (λ w. w ++ pieces_text ps) (sym (ident-written text t s p g))

pub var-written : (text : List ℕ) (t : Token) (s p : Listing) (ps : List Piece) → HasThis p → IsVar t → Grows (var text t s).1 p → pieces_text (var_piece text t ∷ ps) ≡ word p.names (var text t s).0.name ++ pieces_text ps
var-written text t s p ps this (inl e) g =
    let at : var text t s ≡ ident text t s = ap (var_as text t s) e in
    ap (λ z. pieces_text (z ∷ ps)) (ap (var_piece_as text t) e) ∙ name-written text t s p ps (subst (λ z. Grows z.1 p) at g) ∙ ap (λ z. word p.names z.0.name ++ pieces_text ps) (sym at)
var-written text t s p ps this (inr e) g =
    let at : var text t s ≡ var_as text t s kinds.This = ap (var_as text t s) e in
    ap (λ z. pieces_text (z ∷ ps)) (ap (var_piece_as text t) e) ∙ ap (λ w. w ++ pieces_text ps) (sym this.this) ∙ ap (λ z. word p.names z.0.name ++ pieces_text ps) (sym at)

-- ---- types

pub perm-same : (q : Perm) → spelled_as (perm_word q) ≡ perm_text q
perm-same Isolated = refl
perm-same Immutable = refl
perm-same Readable = refl
perm-same Writable = refl

pub type-written : (text : List ℕ) (a : TypeTree) (s p : Listing) (ps : List Piece) → Grows (type_of text a s).1 p → pieces_text (type_pieces text a ps) ≡ canonical.type_text p.names (type_of text a s).0 ++ pieces_text ps
type-written text (TypeTree.long_type t) s p ps g = refl
type-written text (TypeTree.bool_type t) s p ps g = refl
type-written text (TypeTree.object_type q perm name) s p ps g =
    let last : Grows (ident text name s).1 p = record { names = g.names; exprs = g.exprs; stmts = g.stmts } in
    ap (λ w. w ++ (32 ∷ pieces_text (name_piece text name ∷ ps))) (perm-same q) ∙ ap (λ w. perm_text q ++ (32 ∷ w)) (name-written text name s p ps last)
    ∙ parts (perm_text q) (word p.names (ident text name s).0.name) (pieces_text ps)
  where
    parts : (a b r : List ℕ) → a ++ (32 ∷ (b ++ r)) ≡ parts_text (a ∷ codes " " ∷ b ∷ []) ++ r
    parts a b r = simp (append_assoc, append-nil)
type-written text (TypeTree.array_type q perm word opening closing) s p ps g =
    ap (λ w. w ++ (codes " long[]" ++ pieces_text ps)) (perm-same q) ∙ parts (perm_text q) (codes " long[]") (pieces_text ps)
  where
    parts : (a b r : List ℕ) → a ++ (b ++ r) ≡ parts_text (a ∷ b ∷ []) ++ r
    parts a b r = simp (append_assoc, append-nil)

-- ---- expressions

abbrev pub at : Listing → ℕ → ExprText
at p k = expr_text_at (expr_texts_of p.names p.exprs) k

-- the entry of an expression that was pushed, where it is made of the entries before it
entry-pushed : (e : Expr) (s p : Listing) → Grows (push_expr e s).1 p → ReadsBefore (expr_text_of p.names) (length s.exprs) e → at p (length s.exprs) ≡ expr_text_of p.names (expr_texts_of p.names p.exprs) e
entry-pushed e s p g reads = entries_of-at (expr_text_of p.names) p.exprs (length s.exprs) e (tight_text []) (slice-pushed s.exprs p.exprs e g.exprs) reads

expr-below : (text : List ℕ) (a : ExprTree) (s : Listing) → (expr_of text a s).0 < length (expr_of text a s).1.exprs
expr-below text (ExprTree.number t) s = omega (arith, length-append s.exprs (node.Number (pos t.value) ∷ []))
expr-below text (ExprTree.true_word t) s = omega (arith, length-append s.exprs (node.Bool true ∷ []))
expr-below text (ExprTree.false_word t) s = omega (arith, length-append s.exprs (node.Bool false ∷ []))
expr-below text (ExprTree.null_word t) s = omega (arith, length-append s.exprs (node.Null ∷ []))
expr-below text (ExprTree.variable t) s = let r = var text t s in omega (arith, length-append r.1.exprs (node.Var r.0 ∷ []))
expr-below text (ExprTree.parens opening e closing) s = expr-below text e s
expr-below text (ExprTree.unary o t e) s = let r = expr_of text e s in omega (arith, length-append r.1.exprs (node.Unary o r.0 ∷ []))
expr-below text (ExprTree.binary o a t b) s =
    let x = expr_of text a s in
    let y = expr_of text b x.1 in
    omega (arith, length-append y.1.exprs (node.Binary o x.0 y.0 ∷ []))

reads-unary : (names : List (List ℕ)) (o : UnaryOp) (a n : ℕ) → a < n → ReadsBefore (expr_text_of names) n (node.Unary o a)
reads-unary names o a n l before after long = ap (λ (w : ExprText). tight_text (parts_text (sign_text o ∷ canonical.unary_operand w))) (get_or-append before after (tight_text []) a (omega arith))

reads-binary : (names : List (List ℕ)) (o : BinaryOp) (a b n : ℕ) → a < n → b < n → ReadsBefore (expr_text_of names) n (node.Binary o a b)
reads-binary names o a b n l m before after long =
    let x : expr_text_at (before ++ after) a ≡ expr_text_at before a = get_or-append before after (tight_text []) a (omega arith) in
    let y : expr_text_at (before ++ after) b ≡ expr_text_at before b = get_or-append before after (tight_text []) b (omega arith) in
    λ i. record { text = parts_text (canonical.left_operand o (x i) ++ operator_text o ∷ canonical.right_operand o (y i)); looseness = canonical.level o }

-- what is written of an expression is its entry
pub record ExprWritten (text : List ℕ) (p : Listing) (a : ExprTree) (s : Listing) : Type 0 where
  pub bytes : (ps : List Piece) → pieces_text (expr_pieces text (bare a) ps) ≡ (at p (expr_of text a s).0).text ++ pieces_text ps
  pub loose : looseness (bare a) ≡ (at p (expr_of text a s).0).looseness

enclose-written : (text : List ℕ) (b : Boolean) (e : ExprTree) (w : List ℕ) → ((ps : List Piece) → pieces_text (expr_pieces text e ps) ≡ w ++ pieces_text ps) →
    (ps : List Piece) → pieces_text (expr_pieces text (enclose b e) ps) ≡ parts_text (operand b w) ++ pieces_text ps
enclose-written text true e w h ps = ap (λ z. 40 ∷ z) (h (mark kinds.CloseParen ∷ ps)) ∙ parts w (pieces_text ps)
  where
    parts : (w r : List ℕ) → 40 ∷ (w ++ (41 ∷ r)) ≡ parts_text (operand true w) ++ r
    parts w r = simp (append_assoc, append-nil)
enclose-written text false e w h ps = h ps ∙ ap (λ z. z ++ pieces_text ps) (sym (append-nil w))

sign-same : (o : UnaryOp) → spelled_as (unary_sign o) ≡ sign_text o
sign-same unary_op.Minus = refl
sign-same unary_op.Not = refl

operator-same : (o : BinaryOp) → 32 ∷ (spelled_as (sign o) ++ 32 ∷ []) ≡ operator_text o
operator-same op.Mul = refl
operator-same op.Div = refl
operator-same op.Rem = refl
operator-same op.Plus = refl
operator-same op.Minus = refl
operator-same op.Less = refl
operator-same op.AtMost = refl
operator-same op.Greater = refl
operator-same op.AtLeast = refl
operator-same op.Equal = refl
operator-same op.Differs = refl
operator-same op.And = refl
operator-same op.Or = refl

level-same : (o : BinaryOp) → level o ≡ canonical.level o
level-same op.Mul = refl
level-same op.Div = refl
level-same op.Rem = refl
level-same op.Plus = refl
level-same op.Minus = refl
level-same op.Less = refl
level-same op.AtMost = refl
level-same op.Greater = refl
level-same op.AtLeast = refl
level-same op.Equal = refl
level-same op.Differs = refl
level-same op.And = refl
level-same op.Or = refl

binary-parts : (A B : List (List ℕ)) (sp r op : List ℕ) → 32 ∷ (sp ++ 32 ∷ []) ≡ op → parts_text A ++ (32 ∷ (sp ++ (32 ∷ (parts_text B ++ r)))) ≡ parts_text (A ++ op ∷ B) ++ r
binary-parts A B sp r op e = rw (← e, parts_text-append) (simp append_assoc)

pub expr-written : (text : List ℕ) (a : ExprTree) (s p : Listing) → HasThis p → IsExpr a → Grows (expr_of text a s).1 p → ExprWritten text p a s
expr-written text (ExprTree.number t) s p this is g =
    let h = entry-pushed _ s p g (λ before after l. refl) in
    record { bytes = λ ps. ap (λ (z : ExprText). z.text ++ pieces_text ps) (sym h); loose = ap (λ (z : ExprText). z.looseness) (sym h) }
expr-written text (ExprTree.true_word t) s p this is g =
    let h = entry-pushed _ s p g (λ before after l. refl) in
    record { bytes = λ ps. ap (λ (z : ExprText). z.text ++ pieces_text ps) (sym h); loose = ap (λ (z : ExprText). z.looseness) (sym h) }
expr-written text (ExprTree.false_word t) s p this is g =
    let h = entry-pushed _ s p g (λ before after l. refl) in
    record { bytes = λ ps. ap (λ (z : ExprText). z.text ++ pieces_text ps) (sym h); loose = ap (λ (z : ExprText). z.looseness) (sym h) }
expr-written text (ExprTree.null_word t) s p this is g =
    let h = entry-pushed _ s p g (λ before after l. refl) in
    record { bytes = λ ps. ap (λ (z : ExprText). z.text ++ pieces_text ps) (sym h); loose = ap (λ (z : ExprText). z.looseness) (sym h) }
expr-written text (ExprTree.variable t) s p this is g =
    let r = var text t s in
    let h = entry-pushed (node.Var r.0) r.1 p g (λ before after l. refl) in
    record {
      bytes = λ ps. var-written text t s p ps this is (then (push_expr-grows (node.Var r.0) r.1) g) ∙ ap (λ (z : ExprText). z.text ++ pieces_text ps) (sym h);
      loose = ap (λ (z : ExprText). z.looseness) (sym h);
    }
expr-written text (ExprTree.parens opening e closing) s p this is g =
    let k = expr-written text e s p this is.1 g in
    record { bytes = λ ps. k.bytes ps; loose = k.loose }
expr-written text (ExprTree.unary o t e) s p this is g =
    let r = expr_of text e s in
    let k = expr-written text e s p this is.1 (then (push_expr-grows (node.Unary o r.0) r.1) g) in
    let h = entry-pushed (node.Unary o r.0) r.1 p g (reads-unary p.names o r.0 (length r.1.exprs) (expr-below text e s)) in
    record {
      bytes = λ ps.
          ap (λ z. spelled_as (unary_sign o) ++ z) (enclose-written text (ltb 0 (looseness (bare e))) (bare e) (at p r.0).text k.bytes ps)
          ∙ (λ i. sign-same o i ++ (parts_text (operand (ltb 0 (k.loose i)) (at p r.0).text) ++ pieces_text ps))
          ∙ sym (append_assoc (sign_text o) (parts_text (canonical.unary_operand (at p r.0))) (pieces_text ps))
          ∙ ap (λ (z : ExprText). z.text ++ pieces_text ps) (sym h);
      loose = ap (λ (z : ExprText). z.looseness) (sym h);
    }
expr-written text (ExprTree.binary o a t b) s p this is g =
    let x = expr_of text a s in
    let y = expr_of text b x.1 in
    let g2 = then (push_expr-grows (node.Binary o x.0 y.0) y.1) g in
    let k = expr-written text a s p this is.left (then (expr-grows text b x.1) g2) in
    let l = expr-written text b x.1 p this is.right g2 in
    let grown = front-length x.1.exprs y.1.exprs (expr-grows text b x.1).exprs in
    let below : x.0 < length y.1.exprs = omega (arith, expr-below text a s) in
    let h = entry-pushed (node.Binary o x.0 y.0) y.1 p g (reads-binary p.names o x.0 y.0 (length y.1.exprs) below (expr-below text b x.1)) in
    record {
      bytes = λ ps.
          enclose-written text (ltb (level o) (looseness (bare a))) (bare a) (at p x.0).text k.bytes (space ∷ mark (sign o) ∷ space ∷ expr_pieces text (right_operand (level o) (bare b)) ps)
          ∙ ap (λ z. parts_text (operand (ltb (level o) (looseness (bare a))) (at p x.0).text) ++ (32 ∷ (spelled_as (sign o) ++ (32 ∷ z)))) (enclose-written text (leb (level o) (looseness (bare b))) (bare b) (at p y.0).text l.bytes ps)
          ∙ binary-parts (operand (ltb (level o) (looseness (bare a))) (at p x.0).text) (operand (leb (level o) (looseness (bare b))) (at p y.0).text) (spelled_as (sign o)) (pieces_text ps) (operator_text o) (operator-same o)
          ∙ (λ i. parts_text (operand (ltb (level-same o i) (k.loose i)) (at p x.0).text ++ operator_text o ∷ operand (leb (level-same o i) (l.loose i)) (at p y.0).text) ++ pieces_text ps)
          ∙ ap (λ (z : ExprText). z.text ++ pieces_text ps) (sym h);
      loose = level-same o ∙ ap (λ (z : ExprText). z.looseness) (sym h);
    }
