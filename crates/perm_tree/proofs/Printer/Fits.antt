-- The parts of well placed forms fit.
use Rattle.std.proofs.Common.{ℕ, ◌+◌, ◌<◌, ◌≤◌, List, [], ◌∷◌, ◌++◌, sym, subst, arith, Bool, true, false, Option, Some, None}
use Rattle.std.specs.Prelude.{reverse, nat_lt, nat_le}
use mathlib.Core.List.{reverse-cons}
use Rattle.perm_tree.specs.declared.ast.Arg.{Arg}
use Rattle.perm_tree.specs.declared.ast.Arg.TheVariants.{Expr as Plain, Consume}
use Rattle.perm_tree.specs.declared.ast.Block.{Block}
use Rattle.perm_tree.specs.declared.ast.Call.{Call}
use Rattle.perm_tree.specs.declared.ast.Expr.{Expr}
use Rattle.perm_tree.specs.declared.ast.Expr.TheVariants as node
use Rattle.perm_tree.specs.declared.ast.FieldDecl.{FieldDecl}
use Rattle.perm_tree.specs.declared.ast.Method.{Method}
use Rattle.perm_tree.specs.declared.ast.Rhs.{Rhs}
use Rattle.perm_tree.specs.declared.ast.Rhs.TheVariants as right
use Rattle.perm_tree.specs.declared.ast.StmtKind.{StmtKind}
use Rattle.perm_tree.specs.declared.ast.StmtKind.TheVariants as form
use Rattle.perm_tree.specs.declared.print.part.Part.{Part}
use Rattle.perm_tree.specs.declared.print.part.Part.TheVariants.{Word as Fixed, Arg as Argument}
use Rattle.perm_tree.specs.declared.print.part.Word.TheVariants as fixed
use Rattle.perm_tree.specs.Printer.Expressions.{level}
use Rattle.perm_tree.specs.Printer.PendingParts.{AllFit, Fits}
use Rattle.perm_tree.specs.Places.{AllBelow, ArgPlaced, ArgsPlaced, ElseBelow, ExprBelow, KindPlaced, MethodPlaced, RhsPlaced}
use Rattle.perm_tree.specs.Printer.Parts.{onto, args_tasks, block_tasks, call_tasks, else_tasks, expr_tasks, looseness_at, method_tasks, more_args_tasks, more_params_tasks, operand_tasks, params_tasks, rhs_tasks, stmt_tasks, truth_task}

module _ (exprs stmts room : ℕ) where
  abbrev All : List Part → Type 0
  All = AllFit exprs stmts room

  pub both : (xs ys : List Part) → All xs → All ys → All (xs ++ ys)
  both [] ys a b = b
  both (x ∷ xs) ys a b = (a.0, both xs ys a.1 b)

  pub first_ones : (xs ys : List Part) → All (xs ++ ys) → All xs
  first_ones [] ys a = tt
  first_ones (x ∷ xs) ys a = (a.0, first_ones xs ys a.1)

  pub last_one : (xs : List Part) (y : Part) → All (xs ++ y ∷ []) → Fits exprs stmts room y
  last_one [] y a = a.0
  last_one (x ∷ xs) y a = last_one xs y a.1

  pub reversed : (xs : List Part) → All xs → All (reverse xs)
  reversed [] a = tt
  reversed (x ∷ xs) a = subst All (sym (reverse-cons x xs)) (both (reverse xs) (x ∷ []) (reversed xs a.1) (a.0, tt))

  pub fits-onto : (stack parts : List Part) → All stack → All parts → All (onto stack parts)
  unfolding onto
  fits-onto stack parts a b = both stack (reverse parts) a (reversed parts b)

  arg_fits : (a : Arg) → ArgPlaced exprs a → Fits exprs stmts room (Argument a)
  arg_fits (Plain e) placed = placed
  arg_fits (Consume y) placed = tt

  more_args_fit : (args : List Arg) → ArgsPlaced exprs args → All (more_args_tasks args)
  more_args_fit [] placed = tt
  more_args_fit (a ∷ args) placed = (tt, (arg_fits a placed.0, more_args_fit args placed.1))

  args_fit : (args : List Arg) → ArgsPlaced exprs args → All (args_tasks args)
  args_fit [] placed = tt
  args_fit (a ∷ args) placed = (arg_fits a placed.0, more_args_fit args placed.1)

  block_fits : (depth at : ℕ) (is : List ℕ) → at ≤ stmts → depth + at ≤ room + 1 → AllBelow at is → All (block_tasks depth is)
  block_fits depth at [] low deep placed = tt
  block_fits depth at (i ∷ is) low deep placed = ((omega (arith, placed.0), omega (arith, placed.0)), block_fits depth at is low deep placed.1)

  operand_fits : (b : Bool) (e : ℕ) → e < exprs → All (operand_tasks b e)
  operand_fits true e placed = (tt, (placed, (tt, tt)))
  operand_fits false e placed = (placed, tt)

  truth_fits : (b : Bool) → Fits exprs stmts room (truth_task b)
  truth_fits true = tt
  truth_fits false = tt

  pub expr_fits : (all : List Expr) (at : ℕ) (e : Expr) → at ≤ exprs → ExprBelow at e → All (expr_tasks all e)
  expr_fits all at (node.Number n) low placed = (tt, tt)
  expr_fits all at (node.Bool b) low placed = (truth_fits b, tt)
  expr_fits all at node.Null low placed = (tt, tt)
  expr_fits all at (node.Var x) low placed = (tt, tt)
  expr_fits all at (node.Unary o a) low placed = (tt, operand_fits (nat_lt 0 (looseness_at all a)) a (omega arith))
  expr_fits all at (node.Binary o a b) low placed =
      both (operand_tasks (nat_lt (level o) (looseness_at all a)) a) _ (operand_fits (nat_lt (level o) (looseness_at all a)) a (omega (arith, placed.0)))
      (tt, operand_fits (nat_le (level o) (looseness_at all b)) b (omega (arith, placed.1)))

  call_fits : (c : Call) → ArgsPlaced exprs c.args → All (call_tasks c)
  call_fits c placed = (tt, (tt, (tt, (tt, both (args_tasks c.args) (Fixed fixed.Close ∷ []) (args_fit c.args placed) (tt, tt)))))

  rhs_fits : (depth at : ℕ) (r : Rhs) → at ≤ stmts → depth + at ≤ room → RhsPlaced exprs at r → All (rhs_tasks depth r)
  rhs_fits depth at (right.Value a) low deep placed = (arg_fits a placed, (tt, tt))
  rhs_fits depth at (right.Field y f) low deep placed = (tt, (tt, (tt, (tt, tt))))
  rhs_fits depth at (right.TakeField y f) low deep placed = (tt, (tt, (tt, (tt, (tt, tt)))))
  rhs_fits depth at (right.Item y e) low deep placed = (tt, (tt, (placed, (tt, tt))))
  rhs_fits depth at (right.New c) low deep placed = (tt, (tt, (tt, tt)))
  rhs_fits depth at (right.NewArray e) low deep placed = (tt, (placed, (tt, tt)))
  rhs_fits depth at (right.Call c) low deep placed = both (call_tasks c) (Fixed fixed.End ∷ []) (call_fits c placed) (tt, tt)
  rhs_fits depth at (right.Recover b y give) low deep placed =
      (tt, both (block_tasks (depth + 1) b.stmts) _ (block_fits (depth + 1) at b.stmts low (omega arith) placed) (tt, (tt, (tt, (tt, (tt, (tt, tt)))))))

  else_fits : (depth at : ℕ) (b : Option Block) → at ≤ stmts → depth + at ≤ room → ElseBelow at b → All (else_tasks depth b)
  else_fits depth at None low deep placed = (tt, (tt, tt))
  else_fits depth at (Some b) low deep placed =
      (tt, (tt, both (block_tasks (depth + 1) b.stmts) _ (block_fits (depth + 1) at b.stmts low (omega arith) placed) (tt, (tt, tt))))

  pub stmt_fits : (depth at : ℕ) (k : StmtKind) → at ≤ stmts → depth + at ≤ room → KindPlaced exprs at k → All (stmt_tasks depth k)
  stmt_fits depth at (form.Declare t x) low deep placed = (tt, (tt, (tt, tt)))
  stmt_fits depth at (form.Assign t x r) low deep placed = (tt, (tt, (tt, rhs_fits depth at r low deep placed)))
  stmt_fits depth at (form.SetField y f a) low deep placed = (tt, (tt, (tt, (tt, (tt, (arg_fits a placed, (tt, tt)))))))
  stmt_fits depth at (form.SetItem y i e) low deep placed = (tt, (tt, (tt, (placed.0, (tt, (placed.1, (tt, tt)))))))
  stmt_fits depth at (form.Call c) low deep placed = (tt, both (call_tasks c) (Fixed fixed.End ∷ []) (call_fits c placed) (tt, tt))
  stmt_fits depth at (form.Print e) low deep placed = (tt, (tt, (placed, (tt, tt))))
  stmt_fits depth at (form.If e a b) low deep placed =
      (tt, (tt, (placed.0, (tt, both (block_tasks (depth + 1) a.stmts) (else_tasks depth b) (block_fits (depth + 1) at a.stmts low (omega arith) placed.1) (else_fits depth at b low deep placed.2)))))
  stmt_fits depth at (form.While e a) low deep placed =
      (tt, (tt, (placed.0, (tt, both (block_tasks (depth + 1) a.stmts) _ (block_fits (depth + 1) at a.stmts low (omega arith) placed.1) (tt, (tt, tt))))))
  stmt_fits depth at (form.Par a b) low deep placed = (
    tt,
    (
      tt,
      both (block_tasks (depth + 1) a.stmts) _ (block_fits (depth + 1) at a.stmts low (omega arith) placed.0)
          (tt, (tt, both (block_tasks (depth + 1) b.stmts) _ (block_fits (depth + 1) at b.stmts low (omega arith) placed.1) (tt, (tt, tt)))),
    ),
  )

  more_params_fit : (ds : List FieldDecl) → All (more_params_tasks ds)
  more_params_fit [] = tt
  more_params_fit (d ∷ ds) = (tt, (tt, more_params_fit ds))

  params_fit : (ds : List FieldDecl) → All (params_tasks ds)
  params_fit [] = tt
  params_fit (d ∷ ds) = (tt, more_params_fit ds)

  pub method_fits : (m : Method) → stmts + 1 ≤ room → MethodPlaced exprs stmts m → All (method_tasks m)
  method_fits m deep placed = (
    tt,
    (
      tt,
      (
        tt,
        both (params_tasks m.params) _ (params_fit m.params) (
          tt,
          (
            tt,
            (
              tt,
              both (block_tasks 2 m.body.stmts) _ (block_fits 2 stmts m.body.stmts (omega arith) (omega arith) placed.0)
                  (tt, (tt, (arg_fits m.back placed.1, (tt, (tt, (tt, tt)))))),
            ),
          ),
        ),
      ),
    ),
  )
