-- Other tokens that are alike are those of an expression, arguments or a call that means the same.
use Rattle.std.proofs.Common.{◌≡◌, ℕ, ◌+◌, List, [], ◌∷◌, map, Bool as Boolean, pos, refl, ◌∙◌, ap, arith}
use Rattle.perm_tree.specs.Places.{Listing}
use Rattle.perm_tree.specs.declared.ast.Ident.{Ident}
use Rattle.perm_tree.specs.declared.ast.Expr.TheVariants as node
use Rattle.perm_tree.specs.declared.ast.Arg.{Arg}
use Rattle.perm_tree.specs.declared.ast.Arg.TheVariants as argument
use Rattle.perm_tree.specs.declared.ast.Call.{Call}
use Rattle.perm_tree.specs.declared.tokens.Token.{Token}
use Rattle.perm_parse.specs.Grammar.{ExprTree, ArgTree, ArgList, Args, RecvTree, CallTree, IsExpr, IsArg, IsArgList, AreArgs, IsRecv, IsCall, expr_text, arg_text, arg_list_text, args_text, recv_text, call_text, looseness}
use Rattle.perm_parse.specs.Levels.{expr_levels, arg_levels, arg_list_levels, args_levels, recv_levels, call_levels}
use Rattle.perm_parse.specs.Meaning.{expr_of, arg_of, arg_list_of, args_of, recv_of, call_of}
use Rattle.perm_parse.specs.SameButSpans.{clear_ident, clear_arg, clear_call}
use Rattle.perm_parse.proofs.RoundTrip.AlikeTokens.{Same, SamePlace, last-same, push_expr-same, Follow, first, is-same, var-is, ident-same, var-same, Renewed}

-- ---- expressions

pub record LikeExpr (text other : List ℕ) (a b : ExprTree) : Type 0 where
  pub is : IsExpr b
  pub loose : looseness b ≡ looseness a
  pub levels : (i d : ℕ) (ls : List ℕ) → expr_levels i d b ls ≡ expr_levels i d a ls
  pub means : (s t : Listing) → Same s t → SamePlace (expr_of text a s) (expr_of other b t)

pub renew_expr : (text other : List ℕ) (a : ExprTree) (us vs : List Token) → IsExpr a → Follow text other (expr_text a us) vs → Renewed text other expr_text (LikeExpr text other a) us vs
renew_expr text other (ExprTree.number u) us vs is h =
    let x = first h in
    record {
      tree = ExprTree.number x.token;
      behind = x.behind;
      spells = x.is;
      rest = x.rest;
      like = record { is = is-same x.alike is; loose = refl; levels = λ i d ls. refl; means = λ s t k. push_expr-same _ _ s t (ap (λ n. node.Number (pos n)) (x.alike.number is)) k };
    }
renew_expr text other (ExprTree.true_word u) us vs is h =
    let x = first h in
    record {
      tree = ExprTree.true_word x.token;
      behind = x.behind;
      spells = x.is;
      rest = x.rest;
      like = record { is = is-same x.alike is; loose = refl; levels = λ i d ls. refl; means = λ s t k. push_expr-same _ _ s t refl k };
    }
renew_expr text other (ExprTree.false_word u) us vs is h =
    let x = first h in
    record {
      tree = ExprTree.false_word x.token;
      behind = x.behind;
      spells = x.is;
      rest = x.rest;
      like = record { is = is-same x.alike is; loose = refl; levels = λ i d ls. refl; means = λ s t k. push_expr-same _ _ s t refl k };
    }
renew_expr text other (ExprTree.null_word u) us vs is h =
    let x = first h in
    record {
      tree = ExprTree.null_word x.token;
      behind = x.behind;
      spells = x.is;
      rest = x.rest;
      like = record { is = is-same x.alike is; loose = refl; levels = λ i d ls. refl; means = λ s t k. push_expr-same _ _ s t refl k };
    }
renew_expr text other (ExprTree.variable u) us vs is h =
    let x = first h in
    record {
      tree = ExprTree.variable x.token;
      behind = x.behind;
      spells = x.is;
      rest = x.rest;
      like = record {
        is = var-is x.alike is;
        loose = refl;
        levels = λ i d ls. refl;
        means = λ s t k. let v = var-same s t x.alike is k in push_expr-same _ _ _ _ (ap node.Var v.ident) v.rest;
      };
    }
renew_expr text other (ExprTree.parens opening e closing) us vs is h =
    let x = first h in
    let y = renew_expr text other e _ _ is.1 x.rest in
    let z = first y.rest in
    record {
      tree = ExprTree.parens x.token y.tree z.token;
      behind = z.behind;
      spells = rw (z.is, y.spells, x.is) refl;
      rest = z.rest;
      like = record {
        is = (is-same x.alike is.0, y.like.is, is-same z.alike is.2);
        loose = refl;
        levels = λ i d ls. ap (λ w. (i + 1) ∷ w) (y.like.levels (i + 1) (i + 1) (d ∷ ls));
        means = λ s t k. y.like.means s t k;
      };
    }
renew_expr text other (ExprTree.unary o u e) us vs is h =
    let x = first h in
    let y = renew_expr text other e _ _ is.1 x.rest in
    record {
      tree = ExprTree.unary o x.token y.tree;
      behind = y.behind;
      spells = rw (y.spells, x.is) refl;
      rest = y.rest;
      like = record {
        is = (is-same x.alike is.0, y.like.is, y.like.loose ∙ is.2);
        loose = refl;
        levels = λ i d ls. ap (λ w. (i + 1) ∷ w) (y.like.levels (i + 1) d ls);
        means = λ s t k. let m = y.like.means s t k in push_expr-same _ _ _ _ (ap (node.Unary o) m.place) m.rest;
      };
    }
renew_expr text other (ExprTree.binary o a u b) us vs is h =
    let x = renew_expr text other a _ _ is.left h in
    let y = first x.rest in
    let z = renew_expr text other b _ _ is.right y.rest in
    record {
      tree = ExprTree.binary o x.tree y.token z.tree;
      behind = z.behind;
      spells = rw (z.spells, y.is, x.spells) refl;
      rest = z.rest;
      like = record {
        is = record { left = x.like.is; operator = is-same y.alike is.operator; right = z.like.is; left_level = (let k = x.like.loose in omega (arith, is.left_level)); right_level = (let k = z.like.loose in omega (arith, is.right_level)) };
        loose = refl;
        levels = λ i d ls. x.like.levels i d (i ∷ expr_levels i d z.tree ls) ∙ ap (λ w. expr_levels i d a (i ∷ w)) (z.like.levels i d ls);
        means = λ s t k.
            let m = x.like.means s t k in
            let n = z.like.means _ _ m.rest in
            push_expr-same _ _ _ _ (λ i. node.Binary o (m.place i) (n.place i)) n.rest;
      };
    }

-- ---- arguments

pub record SameArg (x y : Arg × Listing) : Type 0 where
  pub arg : clear_arg x.0 ≡ clear_arg y.0
  pub rest : Same x.1 y.1

pub record LikeArg (text other : List ℕ) (a b : ArgTree) : Type 0 where
  pub is : IsArg b
  pub levels : (d : ℕ) (ls : List ℕ) → arg_levels d b ls ≡ arg_levels d a ls
  pub means : (s t : Listing) → Same s t → SameArg (arg_of text a s) (arg_of other b t)

pub renew_arg : (text other : List ℕ) (a : ArgTree) (us vs : List Token) → IsArg a → Follow text other (arg_text a us) vs → Renewed text other arg_text (LikeArg text other a) us vs
renew_arg text other (ArgTree.plain e) us vs is h =
    let y = renew_expr text other e us vs is h in
    record {
      tree = ArgTree.plain y.tree;
      behind = y.behind;
      spells = y.spells;
      rest = y.rest;
      like = record {
        is = y.like.is;
        levels = λ d ls. y.like.levels d d ls;
        means = λ s t k. let m = y.like.means s t k in record { arg = ap argument.Expr m.place; rest = m.rest };
      };
    }
renew_arg text other (ArgTree.consumed word name) us vs is h =
    let x = first h in
    let y = first x.rest in
    record {
      tree = ArgTree.consumed x.token y.token;
      behind = y.behind;
      spells = rw (y.is, x.is) refl;
      rest = y.rest;
      like = record {
        is = (is-same x.alike is.0, var-is y.alike is.1);
        levels = λ d ls. refl;
        means = λ s t k. let m = var-same s t y.alike is.1 k in record { arg = ap argument.Consume m.ident; rest = m.rest };
      };
    }

pub record SameArgs (x y : List Arg × Listing) : Type 0 where
  pub args : map clear_arg x.0 ≡ map clear_arg y.0
  pub rest : Same x.1 y.1

pub record LikeArgList (text other : List ℕ) (a b : ArgList) : Type 0 where
  pub is : IsArgList b
  pub levels : (d : ℕ) (ls : List ℕ) → arg_list_levels d b ls ≡ arg_list_levels d a ls
  pub means : (s t : Listing) → Same s t → SameArgs (arg_list_of text a s) (arg_list_of other b t)

renew_arg_list : (text other : List ℕ) (a : ArgList) (us vs : List Token) → IsArgList a → Follow text other (arg_list_text a us) vs → Renewed text other arg_list_text (LikeArgList text other a) us vs
renew_arg_list text other (ArgList.one_arg a) us vs is h =
    let y = renew_arg text other a us vs is h in
    record {
      tree = ArgList.one_arg y.tree;
      behind = y.behind;
      spells = y.spells;
      rest = y.rest;
      like = record {
        is = y.like.is;
        levels = λ d ls. y.like.levels d ls;
        means = λ s t k. let m = y.like.means s t k in record { args = ap (λ (z : Arg). z ∷ []) m.arg; rest = m.rest };
      };
    }
renew_arg_list text other (ArgList.more_args list comma a) us vs is h =
    let x = renew_arg_list text other list _ _ is.0 h in
    let y = first x.rest in
    let z = renew_arg text other a _ _ is.2 y.rest in
    record {
      tree = ArgList.more_args x.tree y.token z.tree;
      behind = z.behind;
      spells = rw (z.spells, y.is, x.spells) refl;
      rest = z.rest;
      like = record {
        is = (x.like.is, is-same y.alike is.1, z.like.is);
        levels = λ d ls. x.like.levels d (d ∷ arg_levels d z.tree ls) ∙ ap (λ w. arg_list_levels d list (d ∷ w)) (z.like.levels d ls);
        means = λ s t k.
            let m = x.like.means s t k in
            let n = z.like.means _ _ m.rest in
            record { args = last-same clear_arg _ _ _ _ m.args n.arg; rest = n.rest };
      };
    }

pub record LikeArgs (text other : List ℕ) (a b : Args) : Type 0 where
  pub is : AreArgs b
  pub levels : (d : ℕ) (ls : List ℕ) → args_levels d b ls ≡ args_levels d a ls
  pub means : (s t : Listing) → Same s t → SameArgs (args_of text a s) (args_of other b t)

renew_args : (text other : List ℕ) (a : Args) (us vs : List Token) → AreArgs a → Follow text other (args_text a us) vs → Renewed text other args_text (LikeArgs text other a) us vs
renew_args text other Args.no_args us vs is h =
    record { tree = Args.no_args; behind = vs; spells = refl; rest = h; like = record { is = tt; levels = λ d ls. refl; means = λ s t k. record { args = refl; rest = k } } }
renew_args text other (Args.args list) us vs is h =
    let y = renew_arg_list text other list us vs is h in
    record {
      tree = Args.args y.tree;
      behind = y.behind;
      spells = y.spells;
      rest = y.rest;
      like = record { is = y.like.is; levels = λ d ls. y.like.levels d ls; means = λ s t k. y.like.means s t k };
    }

-- ---- receivers and calls

pub record SameRecv (x y : Boolean × Ident × Listing) : Type 0 where
  pub consumed : x.0 ≡ y.0
  pub ident : clear_ident x.1 ≡ clear_ident y.1
  pub rest : Same x.2 y.2

pub record LikeRecv (text other : List ℕ) (a b : RecvTree) : Type 0 where
  pub is : IsRecv b
  pub levels : (d : ℕ) (ls : List ℕ) → recv_levels d b ls ≡ recv_levels d a ls
  pub means : (s t : Listing) → Same s t → SameRecv (recv_of text a s) (recv_of other b t)

renew_recv : (text other : List ℕ) (a : RecvTree) (us vs : List Token) → IsRecv a → Follow text other (recv_text a us) vs → Renewed text other recv_text (LikeRecv text other a) us vs
renew_recv text other (RecvTree.lent name) us vs is h =
    let x = first h in
    record {
      tree = RecvTree.lent x.token;
      behind = x.behind;
      spells = x.is;
      rest = x.rest;
      like = record {
        is = var-is x.alike is;
        levels = λ d ls. refl;
        means = λ s t k. let m = var-same s t x.alike is k in record { consumed = refl; ident = m.ident; rest = m.rest };
      };
    }
renew_recv text other (RecvTree.given opening word name closing) us vs is h =
    let x = first h in
    let y = first x.rest in
    let z = first y.rest in
    let w = first z.rest in
    record {
      tree = RecvTree.given x.token y.token z.token w.token;
      behind = w.behind;
      spells = rw (w.is, z.is, y.is, x.is) refl;
      rest = w.rest;
      like = record {
        is = record { opening = is-same x.alike is.opening; word = is-same y.alike is.word; name = var-is z.alike is.name; closing = is-same w.alike is.closing };
        levels = λ d ls. refl;
        means = λ s t k. let m = var-same s t z.alike is.name k in record { consumed = refl; ident = m.ident; rest = m.rest };
      };
    }

pub record SameCall (x y : Call × Listing) : Type 0 where
  pub call : clear_call x.0 ≡ clear_call y.0
  pub rest : Same x.1 y.1

pub record LikeCall (text other : List ℕ) (a b : CallTree) : Type 0 where
  pub is : IsCall b
  pub levels : (d : ℕ) (ls : List ℕ) → call_levels d b ls ≡ call_levels d a ls
  pub means : (s t : Listing) → Same s t → SameCall (call_of text a s) (call_of other b t)

pub renew_call : (text other : List ℕ) (a : CallTree) (us vs : List Token) → IsCall a → Follow text other (call_text a us) vs → Renewed text other call_text (LikeCall text other a) us vs
renew_call text other (CallTree.call recv dot name opening list closing) us vs is h =
    let x = renew_recv text other recv _ _ is.receiver h in
    let y = first x.rest in
    let z = first y.rest in
    let w = first z.rest in
    let l = renew_args text other list _ _ is.args w.rest in
    let c = first l.rest in
    record {
      tree = CallTree.call x.tree y.token z.token w.token l.tree c.token;
      behind = c.behind;
      spells = rw (c.is, l.spells, w.is, z.is, y.is, x.spells) refl;
      rest = c.rest;
      like = record {
        is = record { receiver = x.like.is; dot = is-same y.alike is.dot; name = is-same z.alike is.name; opening = is-same w.alike is.opening; args = l.like.is; closing = is-same c.alike is.closing };
        levels = λ d ls. x.like.levels d _ ∙ ap (λ ks. recv_levels d recv (d ∷ d ∷ (d + 1) ∷ ks)) (l.like.levels (d + 1) (d ∷ ls));
        means = λ s t k.
            let m = x.like.means s t k in
            let n = ident-same _ _ z.alike is.name m.rest in
            let o = l.like.means _ _ n.rest in
            record { call = λ i. record { consumed = m.consumed i; on = m.ident i; «method» = n.ident i; args = o.args i }; rest = o.rest };
      };
    }
