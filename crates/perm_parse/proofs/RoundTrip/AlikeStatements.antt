-- Other tokens that are alike are those of statements that mean the same but for spans.
use Rattle.std.proofs.Common.{◌≡◌, ℕ, ◌+◌, List, [], ◌∷◌, ◌++◌, Option, Some, None, refl, ◌∙◌, ap}
use Rattle.perm_tree.specs.Places.{Listing}
use Rattle.perm_tree.specs.declared.ast.Ident.{Ident}
use Rattle.perm_tree.specs.declared.ast.Ty.{Ty}
use Rattle.perm_tree.specs.declared.ast.Block.{Block}
use Rattle.perm_tree.specs.declared.ast.Rhs.{Rhs}
use Rattle.perm_tree.specs.declared.ast.Rhs.TheVariants as right
use Rattle.perm_tree.specs.declared.ast.Stmt.{Stmt}
use Rattle.perm_tree.specs.declared.ast.StmtKind.TheVariants as form
use Rattle.perm_tree.specs.declared.tokens.Token.{Token}
use Rattle.perm_parse.specs.Grammar.{TargetTree, RhsTree, BlockTree, StmtTree, Stmts, IsTarget, IsRhs, IsBlock, IsStmt, AreStmts, target_text, rhs_text, block_text, stmt_text, stmts_text}
use Rattle.perm_parse.specs.Levels.{expr_levels, target_levels, rhs_levels, block_levels, stmt_levels, stmts_levels}
use Rattle.perm_parse.specs.Meaning.{target_of, rhs_of, block_of, stmt_of, stmts_of}
use Rattle.perm_parse.specs.SameButSpans.{no_span, clear_ident, clear_rhs, clear_kind}
use Rattle.perm_parse.proofs.RoundTrip.AlikeTokens.{Same, push_stmt-same, push_mention-same, Follow, first, is-same, var-is, ident-same, var-same, Renewed, renew_type}
use Rattle.perm_parse.proofs.RoundTrip.AlikeExpressions.{renew_expr, renew_arg, renew_call}

-- ---- what is assigned

pub record SameTarget (x y : Option Ty × Ident × Listing) : Type 0 where
  pub ty : x.0 ≡ y.0
  pub ident : clear_ident x.1 ≡ clear_ident y.1
  pub rest : Same x.2 y.2

pub record LikeTarget (text other : List ℕ) (a b : TargetTree) : Type 0 where
  pub is : IsTarget b
  pub levels : (d : ℕ) (ls : List ℕ) → target_levels d b ls ≡ target_levels d a ls
  pub means : (s t : Listing) → Same s t → SameTarget (target_of text a s) (target_of other b t)

renew_target : (text other : List ℕ) (a : TargetTree) (us vs : List Token) → IsTarget a → Follow text other (target_text a us) vs → Renewed text other target_text (LikeTarget text other a) us vs
renew_target text other (TargetTree.known name) us vs is h =
    let x = first h in
    record {
      tree = TargetTree.known x.token;
      behind = x.behind;
      spells = x.is;
      rest = x.rest;
      like = record {
        is = is-same x.alike is;
        levels = λ d ls. refl;
        means = λ s t k. let m = ident-same s t x.alike is k in record { ty = refl; ident = m.ident; rest = m.rest };
      };
    }
renew_target text other (TargetTree.declared ty name) us vs is h =
    let x = renew_type text other ty _ _ is.0 h in
    let y = first x.rest in
    record {
      tree = TargetTree.declared x.tree y.token;
      behind = y.behind;
      spells = rw (y.is, x.spells) refl;
      rest = y.rest;
      like = record {
        is = (x.like.is, is-same y.alike is.1);
        levels = λ d ls. x.like.levels d (d ∷ ls);
        means = λ s t k.
            let m = x.like.means s t k in
            let n = ident-same _ _ y.alike is.1 m.rest in
            record { ty = ap Some m.ty; ident = n.ident; rest = n.rest };
      };
    }

-- ---- statements

pub record SameRhs (x y : Rhs × Listing) : Type 0 where
  pub rhs : clear_rhs x.0 ≡ clear_rhs y.0
  pub rest : Same x.1 y.1

pub record LikeRhs (text other : List ℕ) (a b : RhsTree) : Type 0 where
  pub is : IsRhs b
  pub levels : (d : ℕ) (ls : List ℕ) → rhs_levels d b ls ≡ rhs_levels d a ls
  pub means : (s t : Listing) → Same s t → SameRhs (rhs_of text a s) (rhs_of other b t)

pub record SameBlock (x y : Block × Listing) : Type 0 where
  pub block : x.0 ≡ y.0
  pub rest : Same x.1 y.1

pub record LikeBlock (text other : List ℕ) (a b : BlockTree) : Type 0 where
  pub is : IsBlock b
  pub levels : (d : ℕ) (ls : List ℕ) → block_levels d b ls ≡ block_levels d a ls
  pub means : (s t : Listing) → Same s t → SameBlock (block_of text a s) (block_of other b t)

pub record SameStmt (x y : Stmt × Listing) : Type 0 where
  pub kind : clear_kind x.0.kind ≡ clear_kind y.0.kind
  pub rest : Same x.1 y.1

pub record LikeStmt (text other : List ℕ) (a b : StmtTree) : Type 0 where
  pub is : IsStmt b
  pub levels : (d : ℕ) (ls : List ℕ) → stmt_levels d b ls ≡ stmt_levels d a ls
  pub means : (s t : Listing) → Same s t → SameStmt (stmt_of text a s) (stmt_of other b t)

pub record SamePlaces (x y : List ℕ × Listing) : Type 0 where
  pub places : x.0 ≡ y.0
  pub rest : Same x.1 y.1

pub record LikeStmts (text other : List ℕ) (a b : Stmts) : Type 0 where
  pub is : AreStmts b
  pub levels : (d : ℕ) (ls : List ℕ) → stmts_levels d b ls ≡ stmts_levels d a ls
  pub means : (s t : Listing) → Same s t → SamePlaces (stmts_of text a s) (stmts_of other b t)

mutual
  renew_rhs : (text other : List ℕ) (a : RhsTree) (us vs : List Token) → IsRhs a → Follow text other (rhs_text a us) vs → Renewed text other rhs_text (LikeRhs text other a) us vs
  renew_rhs text other (RhsTree.value a) us vs is h =
      let x = renew_arg text other a us vs is h in
      record {
        tree = RhsTree.value x.tree;
        behind = x.behind;
        spells = x.spells;
        rest = x.rest;
        like = record {
          is = x.like.is;
          levels = λ d ls. x.like.levels d ls;
          means = λ s t k. let m = x.like.means s t k in record { rhs = ap right.Value m.arg; rest = m.rest };
        };
      }
  renew_rhs text other (RhsTree.field name dot member) us vs is h =
      let x = first h in
      let y = first x.rest in
      let z = first y.rest in
      record {
        tree = RhsTree.field x.token y.token z.token;
        behind = z.behind;
        spells = rw (z.is, y.is, x.is) refl;
        rest = z.rest;
        like = record {
          is = (var-is x.alike is.0, is-same y.alike is.1, is-same z.alike is.2);
          levels = λ d ls. refl;
          means = λ s t k.
              let m = var-same s t x.alike is.0 k in
              let n = ident-same _ _ z.alike is.2 m.rest in
              record { rhs = λ i. right.Field (m.ident i) (n.ident i); rest = n.rest };
        };
      }
  renew_rhs text other (RhsTree.take_field word name dot member) us vs is h =
      let w = first h in
      let x = first w.rest in
      let y = first x.rest in
      let z = first y.rest in
      record {
        tree = RhsTree.take_field w.token x.token y.token z.token;
        behind = z.behind;
        spells = rw (z.is, y.is, x.is, w.is) refl;
        rest = z.rest;
        like = record {
          is = record { word = is-same w.alike is.word; name = var-is x.alike is.name; dot = is-same y.alike is.dot; member = is-same z.alike is.member };
          levels = λ d ls. refl;
          means = λ s t k.
              let m = var-same s t x.alike is.name k in
              let n = ident-same _ _ z.alike is.member m.rest in
              record { rhs = λ i. right.TakeField (m.ident i) (n.ident i); rest = n.rest };
        };
      }
  renew_rhs text other (RhsTree.item name opening e closing) us vs is h =
      let x = first h in
      let y = first x.rest in
      let z = renew_expr text other e _ _ is.index y.rest in
      let w = first z.rest in
      record {
        tree = RhsTree.item x.token y.token z.tree w.token;
        behind = w.behind;
        spells = rw (w.is, z.spells, y.is, x.is) refl;
        rest = w.rest;
        like = record {
          is = record { name = var-is x.alike is.name; opening = is-same y.alike is.opening; index = z.like.is; closing = is-same w.alike is.closing };
          levels = λ d ls. ap (λ ks. d ∷ (d + 1) ∷ ks) (z.like.levels (d + 1) (d + 1) (d ∷ ls));
          means = λ s t k.
              let m = var-same s t x.alike is.name k in
              let n = z.like.means _ _ m.rest in
              record { rhs = λ i. right.Item (m.ident i) (n.place i); rest = n.rest };
        };
      }
  renew_rhs text other (RhsTree.new_object word name opening closing) us vs is h =
      let x = first h in
      let y = first x.rest in
      let z = first y.rest in
      let w = first z.rest in
      record {
        tree = RhsTree.new_object x.token y.token z.token w.token;
        behind = w.behind;
        spells = rw (w.is, z.is, y.is, x.is) refl;
        rest = w.rest;
        like = record {
          is = record { word = is-same x.alike is.word; name = is-same y.alike is.name; opening = is-same z.alike is.opening; closing = is-same w.alike is.closing };
          levels = λ d ls. refl;
          means = λ s t k. let m = ident-same s t y.alike is.name k in record { rhs = ap right.New m.ident; rest = push_mention-same _ _ _ _ m.ident m.rest };
        };
      }
  renew_rhs text other (RhsTree.new_array word long opening e closing) us vs is h =
      let v = first h in
      let x = first v.rest in
      let y = first x.rest in
      let z = renew_expr text other e _ _ is.size y.rest in
      let w = first z.rest in
      record {
        tree = RhsTree.new_array v.token x.token y.token z.tree w.token;
        behind = w.behind;
        spells = rw (w.is, z.spells, y.is, x.is, v.is) refl;
        rest = w.rest;
        like = record {
          is = record { word = is-same v.alike is.word; long = is-same x.alike is.long; opening = is-same y.alike is.opening; size = z.like.is; closing = is-same w.alike is.closing };
          levels = λ d ls. ap (λ ks. d ∷ d ∷ (d + 1) ∷ ks) (z.like.levels (d + 1) (d + 1) (d ∷ ls));
          means = λ s t k. let m = z.like.means s t k in record { rhs = ap right.NewArray m.place; rest = m.rest };
        };
      }
  renew_rhs text other (RhsTree.called c) us vs is h =
      let x = renew_call text other c us vs is h in
      record {
        tree = RhsTree.called x.tree;
        behind = x.behind;
        spells = x.spells;
        rest = x.rest;
        like = record {
          is = x.like.is;
          levels = λ d ls. x.like.levels d ls;
          means = λ s t k. let m = x.like.means s t k in record { rhs = ap right.Call m.call; rest = m.rest };
        };
      }
  renew_rhs text other (RhsTree.recover word opening b give name end closing) us vs is h =
      let v = first h in
      let w = first v.rest in
      let x = renew_stmts text other b _ _ is.body w.rest in
      let y = first x.rest in
      let z = first y.rest in
      let p = first z.rest in
      let q = first p.rest in
      record {
        tree = RhsTree.recover v.token w.token x.tree y.token z.token p.token q.token;
        behind = q.behind;
        spells = rw (q.is, p.is, z.is, y.is, x.spells, w.is, v.is) refl;
        rest = q.rest;
        like = record {
          is = record { word = is-same v.alike is.word; opening = is-same w.alike is.opening; body = x.like.is; give = is-same y.alike is.give; name = is-same z.alike is.name; end = is-same p.alike is.end; closing = is-same q.alike is.closing };
          levels = λ d ls. ap (λ ks. d ∷ (d + 1) ∷ ks) (x.like.levels (d + 1) _);
          means = λ s t k.
              let m = x.like.means s t k in
              let n = ident-same _ _ z.alike is.name m.rest in
              record { rhs = λ i. right.Recover (record { stmts = m.places i }) (n.ident i) no_span; rest = n.rest };
        };
      }

  renew_block : (text other : List ℕ) (a : BlockTree) (us vs : List Token) → IsBlock a → Follow text other (block_text a us) vs → Renewed text other block_text (LikeBlock text other a) us vs
  renew_block text other (BlockTree.block opening b closing) us vs is h =
      let x = first h in
      let y = renew_stmts text other b _ _ is.1 x.rest in
      let z = first y.rest in
      record {
        tree = BlockTree.block x.token y.tree z.token;
        behind = z.behind;
        spells = rw (z.is, y.spells, x.is) refl;
        rest = z.rest;
        like = record {
          is = (is-same x.alike is.0, y.like.is, is-same z.alike is.2);
          levels = λ d ls. ap (λ ks. (d + 1) ∷ ks) (y.like.levels (d + 1) (d ∷ ls));
          means = λ s t k. let m = y.like.means s t k in record { block = λ i. record { stmts = m.places i }; rest = m.rest };
        };
      }

  renew_stmt : (text other : List ℕ) (a : StmtTree) (us vs : List Token) → IsStmt a → Follow text other (stmt_text a us) vs → Renewed text other stmt_text (LikeStmt text other a) us vs
  renew_stmt text other (StmtTree.declare ty name end) us vs is h =
      let x = renew_type text other ty _ _ is.0 h in
      let y = first x.rest in
      let z = first y.rest in
      record {
        tree = StmtTree.declare x.tree y.token z.token;
        behind = z.behind;
        spells = rw (z.is, y.is, x.spells) refl;
        rest = z.rest;
        like = record {
          is = (x.like.is, is-same y.alike is.1, is-same z.alike is.2);
          levels = λ d ls. x.like.levels d (d ∷ d ∷ ls);
          means = λ s t k.
              let m = x.like.means s t k in
              let n = ident-same _ _ y.alike is.1 m.rest in
              record { kind = λ i. form.Declare (m.ty i) (n.ident i); rest = n.rest };
        };
      }
  renew_stmt text other (StmtTree.assign target equals r end) us vs is h =
      let x = renew_target text other target _ _ is.target h in
      let y = first x.rest in
      let z = renew_rhs text other r _ _ is.right y.rest in
      let w = first z.rest in
      record {
        tree = StmtTree.assign x.tree y.token z.tree w.token;
        behind = w.behind;
        spells = rw (w.is, z.spells, y.is, x.spells) refl;
        rest = w.rest;
        like = record {
          is = record { target = x.like.is; equals = is-same y.alike is.equals; right = z.like.is; end = is-same w.alike is.end };
          levels = λ d ls. x.like.levels d _ ∙ ap (λ ks. target_levels d target (d ∷ ks)) (z.like.levels d (d ∷ ls));
          means = λ s t k.
              let m = x.like.means s t k in
              let n = z.like.means _ _ m.rest in
              record { kind = λ i. form.Assign (m.ty i) (m.ident i) (n.rhs i); rest = n.rest };
        };
      }
  renew_stmt text other (StmtTree.set_field name dot member equals a end) us vs is h =
      let v = first h in
      let w = first v.rest in
      let x = first w.rest in
      let y = first x.rest in
      let z = renew_arg text other a _ _ is.value y.rest in
      let p = first z.rest in
      record {
        tree = StmtTree.set_field v.token w.token x.token y.token z.tree p.token;
        behind = p.behind;
        spells = rw (p.is, z.spells, y.is, x.is, w.is, v.is) refl;
        rest = p.rest;
        like = record {
          is = record { name = var-is v.alike is.name; dot = is-same w.alike is.dot; member = is-same x.alike is.member; equals = is-same y.alike is.equals; value = z.like.is; end = is-same p.alike is.end };
          levels = λ d ls. ap (λ ks. d ∷ d ∷ d ∷ d ∷ ks) (z.like.levels d (d ∷ ls));
          means = λ s t k.
              let m = var-same s t v.alike is.name k in
              let n = ident-same _ _ x.alike is.member m.rest in
              let o = z.like.means _ _ n.rest in
              record { kind = λ i. form.SetField (m.ident i) (n.ident i) (o.arg i); rest = o.rest };
        };
      }
  renew_stmt text other (StmtTree.set_item name opening j closing equals e end) us vs is h =
      let v = first h in
      let w = first v.rest in
      let x = renew_expr text other j _ _ is.index w.rest in
      let y = first x.rest in
      let z = first y.rest in
      let p = renew_expr text other e _ _ is.value z.rest in
      let q = first p.rest in
      record {
        tree = StmtTree.set_item v.token w.token x.tree y.token z.token p.tree q.token;
        behind = q.behind;
        spells = rw (q.is, p.spells, z.is, y.is, x.spells, w.is, v.is) refl;
        rest = q.rest;
        like = record {
          is = record { name = var-is v.alike is.name; opening = is-same w.alike is.opening; index = x.like.is; closing = is-same y.alike is.closing; equals = is-same z.alike is.equals; value = p.like.is; end = is-same q.alike is.end };
          levels = λ d ls. ap (λ ks. d ∷ (d + 1) ∷ ks) (x.like.levels (d + 1) (d + 1) _ ∙ ap (λ ks. expr_levels (d + 1) (d + 1) j (d ∷ d ∷ ks)) (p.like.levels d d (d ∷ ls)));
          means = λ s t k.
              let m = var-same s t v.alike is.name k in
              let n = x.like.means _ _ m.rest in
              let o = p.like.means _ _ n.rest in
              record { kind = λ i. form.SetItem (m.ident i) (n.place i) (o.place i); rest = o.rest };
        };
      }
  renew_stmt text other (StmtTree.run_call c end) us vs is h =
      let x = renew_call text other c _ _ is.0 h in
      let y = first x.rest in
      record {
        tree = StmtTree.run_call x.tree y.token;
        behind = y.behind;
        spells = rw (y.is, x.spells) refl;
        rest = y.rest;
        like = record {
          is = (x.like.is, is-same y.alike is.1);
          levels = λ d ls. x.like.levels d (d ∷ ls);
          means = λ s t k. let m = x.like.means s t k in record { kind = ap form.Call m.call; rest = m.rest };
        };
      }
  renew_stmt text other (StmtTree.print word e end) us vs is h =
      let x = first h in
      let y = renew_expr text other e _ _ is.1 x.rest in
      let z = first y.rest in
      record {
        tree = StmtTree.print x.token y.tree z.token;
        behind = z.behind;
        spells = rw (z.is, y.spells, x.is) refl;
        rest = z.rest;
        like = record {
          is = (is-same x.alike is.0, y.like.is, is-same z.alike is.2);
          levels = λ d ls. ap (λ ks. d ∷ ks) (y.like.levels d d (d ∷ ls));
          means = λ s t k. let m = y.like.means s t k in record { kind = ap form.Print m.place; rest = m.rest };
        };
      }
  renew_stmt text other (StmtTree.if_then word opening e closing a) us vs is h =
      let v = first h in
      let w = first v.rest in
      let x = renew_expr text other e _ _ is.test w.rest in
      let y = first x.rest in
      let z = renew_block text other a _ _ is.block y.rest in
      record {
        tree = StmtTree.if_then v.token w.token x.tree y.token z.tree;
        behind = z.behind;
        spells = rw (z.spells, y.is, x.spells, w.is, v.is) refl;
        rest = z.rest;
        like = record {
          is = record { word = is-same v.alike is.word; opening = is-same w.alike is.opening; test = x.like.is; closing = is-same y.alike is.closing; block = z.like.is };
          levels = λ d ls. ap (λ ks. d ∷ (d + 1) ∷ ks) (x.like.levels (d + 1) (d + 1) _ ∙ ap (λ ks. expr_levels (d + 1) (d + 1) e (d ∷ ks)) (z.like.levels d ls));
          means = λ s t k.
              let m = x.like.means s t k in
              let n = z.like.means _ _ m.rest in
              record { kind = λ i. form.If (m.place i) (n.block i) None; rest = n.rest };
        };
      }
  renew_stmt text other (StmtTree.if_else word opening e closing a otherwise b) us vs is h =
      let v = first h in
      let w = first v.rest in
      let x = renew_expr text other e _ _ is.test w.rest in
      let y = first x.rest in
      let z = renew_block text other a _ _ is.first y.rest in
      let p = first z.rest in
      let q = renew_block text other b _ _ is.second p.rest in
      record {
        tree = StmtTree.if_else v.token w.token x.tree y.token z.tree p.token q.tree;
        behind = q.behind;
        spells = rw (q.spells, p.is, z.spells, y.is, x.spells, w.is, v.is) refl;
        rest = q.rest;
        like = record {
          is = record { word = is-same v.alike is.word; opening = is-same w.alike is.opening; test = x.like.is; closing = is-same y.alike is.closing; first = z.like.is; otherwise = is-same p.alike is.otherwise; second = q.like.is };
          levels = λ d ls. ap (λ ks. d ∷ (d + 1) ∷ ks) (x.like.levels (d + 1) (d + 1) _
              ∙ ap (λ ks. expr_levels (d + 1) (d + 1) e (d ∷ ks)) (z.like.levels d _ ∙ ap (λ ks. block_levels d a (d ∷ ks)) (q.like.levels d ls)));
          means = λ s t k.
              let m = x.like.means s t k in
              let n = z.like.means _ _ m.rest in
              let o = q.like.means _ _ n.rest in
              record { kind = λ i. form.If (m.place i) (n.block i) (Some (o.block i)); rest = o.rest };
        };
      }
  renew_stmt text other (StmtTree.repeat word opening e closing a) us vs is h =
      let v = first h in
      let w = first v.rest in
      let x = renew_expr text other e _ _ is.test w.rest in
      let y = first x.rest in
      let z = renew_block text other a _ _ is.block y.rest in
      record {
        tree = StmtTree.repeat v.token w.token x.tree y.token z.tree;
        behind = z.behind;
        spells = rw (z.spells, y.is, x.spells, w.is, v.is) refl;
        rest = z.rest;
        like = record {
          is = record { word = is-same v.alike is.word; opening = is-same w.alike is.opening; test = x.like.is; closing = is-same y.alike is.closing; block = z.like.is };
          levels = λ d ls. ap (λ ks. d ∷ (d + 1) ∷ ks) (x.like.levels (d + 1) (d + 1) _ ∙ ap (λ ks. expr_levels (d + 1) (d + 1) e (d ∷ ks)) (z.like.levels d ls));
          means = λ s t k.
              let m = x.like.means s t k in
              let n = z.like.means _ _ m.rest in
              record { kind = λ i. form.While (m.place i) (n.block i); rest = n.rest };
        };
      }
  renew_stmt text other (StmtTree.par word a b) us vs is h =
      let x = first h in
      let y = renew_block text other a _ _ is.1 x.rest in
      let z = renew_block text other b _ _ is.2 y.rest in
      record {
        tree = StmtTree.par x.token y.tree z.tree;
        behind = z.behind;
        spells = rw (z.spells, y.spells, x.is) refl;
        rest = z.rest;
        like = record {
          is = (is-same x.alike is.0, y.like.is, z.like.is);
          levels = λ d ls. ap (λ ks. d ∷ ks) (y.like.levels d _ ∙ ap (block_levels d a) (z.like.levels d ls));
          means = λ s t k.
              let m = y.like.means s t k in
              let n = z.like.means _ _ m.rest in
              record { kind = λ i. form.Par (m.block i) (n.block i); rest = n.rest };
        };
      }

  pub renew_stmts : (text other : List ℕ) (a : Stmts) (us vs : List Token) → AreStmts a → Follow text other (stmts_text a us) vs → Renewed text other stmts_text (LikeStmts text other a) us vs
  renew_stmts text other Stmts.no_stmts us vs is h =
      record { tree = Stmts.no_stmts; behind = vs; spells = refl; rest = h; like = record { is = tt; levels = λ d ls. refl; means = λ s t k. record { places = refl; rest = k } } }
  renew_stmts text other (Stmts.more_stmts b x) us vs is h =
      let y = renew_stmts text other b _ _ is.0 h in
      let z = renew_stmt text other x _ _ is.1 y.rest in
      record {
        tree = Stmts.more_stmts y.tree z.tree;
        behind = z.behind;
        spells = rw (z.spells, y.spells) refl;
        rest = z.rest;
        like = record {
          is = (y.like.is, z.like.is);
          levels = λ d ls. y.like.levels d _ ∙ ap (stmts_levels d b) (z.like.levels d ls);
          means = λ s t k.
              let m = y.like.means s t k in
              let n = z.like.means _ _ m.rest in
              let o = push_stmt-same _ _ _ _ (λ i. record { span = no_span; head = no_span; kind = n.kind i }) n.rest in
              record { places = λ i. m.places i ++ o.place i ∷ []; rest = o.rest };
        };
      }
