-- What is numbered stays the same where bodies grow.
use Rattle.std.proofs.Common.{◌≡◌, ◌∙◌, ℕ, ◌+◌, ◌≤◌, List, [], ◌∷◌, ◌++◌, length, take, drop, refl, sym, ap, subst, arith, append_assoc, append-nil, length-append, length-drop}
use Rattle.std.specs.Prelude.{map}
use Rattle.std.proofs.lemmas.List.{drop-append-le, take-append-le}
use Rattle.perm_tree.specs.declared.bodies.Operation.{Operation}
use Rattle.perm_tree.specs.declared.bodies.Expression.{Expression}
use Rattle.perm_tree.specs.declared.bodies.Expression.TheVariants as expressions
use Rattle.perm_tree.specs.declared.bodies.Argument.{Argument}
use Rattle.perm_tree.specs.declared.bodies.Argument.TheVariants as handed
use Rattle.perm_tree.specs.declared.bodies.Action.{Action}
use Rattle.perm_tree.specs.declared.bodies.Action.TheVariants as actions
use Rattle.perm_tree.specs.declared.bodies.Bodies.{Bodies}
use Rattle.perm_tree.specs.declared.bodies.Invocation.{Invocation}
use Rattle.perm_tree.specs.Code as code
use Rattle.perm_tree.specs.Code.{Tie, UnitCode}
use Rattle.perm_tree.specs.BodyTerms.{stretch, expression_term, argument_of, instruction_of, AreOrdered, IsExpressionIn, IsArgumentIn, AreArgumentsIn, IsActionIn}
use Rattle.perm_table.specs.Growth.{HasMore, Extends, Grows}

-- ---------- lists with more behind ----------
pub HasMore-refl : {A : Type 0} (xs : List A) → HasMore xs xs
HasMore-refl xs = ([], sym (append-nil xs))

pub HasMore-trans : {A : Type 0} (xs ys zs : List A) → HasMore xs ys → HasMore ys zs → HasMore xs zs
HasMore-trans xs ys zs (m, e) (n, f) = (m ++ n, f ∙ ap (λ l. l ++ n) e ∙ append_assoc xs m n)

pub HasMore-length : {A : Type 0} (xs ys : List A) → HasMore xs ys → length xs ≤ length ys
HasMore-length xs ys (m, e) = omega (arith, ap length e, length-append xs m)

-- a stretch that is there stays
pub stretch-stays : {A : Type 0} (xs ys : List A) (first count : ℕ) → first + count ≤ length xs → HasMore xs ys → stretch ys first count ≡ stretch xs first count
stretch-stays xs ys first count within (m, e) =
    ap (λ l. stretch l first count) e ∙ ap (take count) (drop-append-le first xs m (omega arith)) ∙ take-append-le count (drop first xs) m (omega (arith, length-drop first xs))

-- ---------- bodies ----------
pub Grows-refl : (b : Bodies) → Grows b b
Grows-refl b = record { operations = HasMore-refl b.operations; arguments = HasMore-refl b.arguments; sides = refl; steps = refl; places = refl; entries = refl; run = refl; fields = refl }

pub Grows-trans : (a b c : Bodies) → Grows a b → Grows b c → Grows a c
Grows-trans a b c f g = record {
  operations = HasMore-trans a.operations b.operations c.operations f.operations g.operations;
  arguments = HasMore-trans a.arguments b.arguments c.arguments f.arguments g.arguments;
  sides = g.sides ∙ f.sides;
  steps = g.steps ∙ f.steps;
  places = g.places ∙ f.places;
  entries = g.entries ∙ f.entries;
  run = g.run ∙ f.run;
  fields = g.fields ∙ f.fields;
}

pub Extends-refl : (b : Bodies) → Extends b b
Extends-refl b = record { operations = HasMore-refl b.operations; arguments = HasMore-refl b.arguments; sides = HasMore-refl b.sides }

pub Extends-trans : (a b c : Bodies) → Extends a b → Extends b c → Extends a c
Extends-trans a b c f g = record {
  operations = HasMore-trans a.operations b.operations c.operations f.operations g.operations;
  arguments = HasMore-trans a.arguments b.arguments c.arguments f.arguments g.arguments;
  sides = HasMore-trans a.sides b.sides c.sides f.sides g.sides;
}

-- bodies that grow are extended
pub Grows-extends : (a b : Bodies) → Grows a b → Extends a b
Grows-extends a b g = record { operations = g.operations; arguments = g.arguments; sides = ([], g.sides ∙ sym (append-nil a.sides)) }

-- ---------- expressions and arguments ----------
module _ (all more : List Operation) (grows : HasMore all more) where
  -- the operations of an expression are still there
  pub expression-in-stays : (e : Expression) → IsExpressionIn all e → IsExpressionIn more e
  expression-in-stays (expressions.Operand a) is = is
  expression-in-stays (expressions.Operation o) is = is
  expression-in-stays (expressions.Operations first count) is = (
    is.0,
    omega (arith, is.1, HasMore-length all more grows),
    subst AreOrdered (sym (stretch-stays all more first count is.1 grows)) is.2,
  )

  -- and it has the same term
  pub expression-stays : (e : Expression) → IsExpressionIn all e → expression_term more e ≡ expression_term all e
  expression-stays (expressions.Operand a) is = refl
  expression-stays (expressions.Operation o) is = refl
  expression-stays (expressions.Operations first count) is = rw (stretch-stays all more first count is.1 grows) refl

  -- so of an argument
  pub argument-in-stays : (a : Argument) → IsArgumentIn all a → IsArgumentIn more a
  argument-in-stays (handed.Expression e) is = expression-in-stays e is
  argument-in-stays (handed.Consume y) is = is

  pub argument-stays : (a : Argument) → IsArgumentIn all a → argument_of more a ≡ argument_of all a
  argument-stays (handed.Expression e) is = ap code.Expression (expression-stays e is)
  argument-stays (handed.Consume y) is = refl

  -- so of some arguments
  pub arguments-in-stay : (xs : List Argument) → AreArgumentsIn all xs → AreArgumentsIn more xs
  arguments-in-stay [] are = are
  arguments-in-stay (a ∷ xs) are = (argument-in-stays a are.0, arguments-in-stay xs are.1)

  pub arguments-stay : (xs : List Argument) → AreArgumentsIn all xs → map (argument_of more) xs ≡ map (argument_of all) xs
  arguments-stay [] are = refl
  arguments-stay (a ∷ xs) are = (λ j. argument-stays a are.0 j ∷ arguments-stay xs are.1 j)

-- ---------- steps ----------
module _ (old new : Bodies) (u : UnitCode) (more : Extends old new) where
  pub in-stays : (e : Expression) → IsExpressionIn old.operations e → IsExpressionIn new.operations e
  in-stays e is = expression-in-stays old.operations new.operations more.operations e is

  pub handed-stays : (a : Argument) → IsArgumentIn old.operations a → IsArgumentIn new.operations a
  handed-stays a is = argument-in-stays old.operations new.operations more.operations a is

  -- what a step refers to is still there
  pub action-in-stays : (a : Action) → IsActionIn old u a → IsActionIn new u a
  action-in-stays (actions.Declare x) is = is
  action-in-stays (actions.Assign x a) is = handed-stays a is
  action-in-stays (actions.LoadField x y f) is = is
  action-in-stays (actions.LoadLength x y) is = is
  action-in-stays (actions.LoadItem x y e) is = in-stays e is
  action-in-stays (actions.TakeField x y f) is = is
  action-in-stays (actions.NewObject x class fields) is = is
  action-in-stays (actions.NewArray x e) is = in-stays e is
  action-in-stays (actions.StoreField y f a) is = handed-stays a is
  action-in-stays (actions.StoreItem y i e) is = (in-stays i is.0, in-stays e is.1)
  action-in-stays (actions.Invoke v) is = (
    omega (arith, is.0, HasMore-length old.arguments new.arguments more.arguments),
    subst (AreArgumentsIn new.operations) (sym (stretch-stays old.arguments new.arguments v.first v.count is.0 more.arguments))
        (arguments-in-stay old.operations new.operations more.operations (stretch old.arguments v.first v.count) is.1),
  )
  action-in-stays (actions.Print e) is = in-stays e is
  action-in-stays (actions.If e other) is = in-stays e is
  action-in-stays (actions.While e body) is = in-stays e is
  action-in-stays (actions.Par left right sides) is = omega (arith, is, HasMore-length old.sides new.sides more.sides)
  action-in-stays actions.Recover is = is
  action-in-stays (actions.Give w x) is = is
  action-in-stays (actions.Return a) is = handed-stays a is
  action-in-stays actions.End is = is

  pub term-stays : (e : Expression) → IsExpressionIn old.operations e → expression_term new.operations e ≡ expression_term old.operations e
  term-stays e is = expression-stays old.operations new.operations more.operations e is

  pub value-stays : (a : Argument) → IsArgumentIn old.operations a → argument_of new.operations a ≡ argument_of old.operations a
  value-stays a is = argument-stays old.operations new.operations more.operations a is

  -- so are the arguments of a call, which are the same
  pub handed-stay : (v : Invocation) → IsActionIn old u (actions.Invoke v) → map (argument_of new.operations) (stretch new.arguments v.first v.count) ≡ map (argument_of old.operations) (stretch old.arguments v.first v.count)
  handed-stay v is =
      ap (map (argument_of new.operations)) (stretch-stays old.arguments new.arguments v.first v.count is.0 more.arguments)
      ∙ arguments-stay old.operations new.operations more.operations (stretch old.arguments v.first v.count) is.1

  -- and it asks for the same
  pub action-stays : (tie : Tie) (a : Action) → IsActionIn old u a → instruction_of new tie a ≡ instruction_of old tie a
  action-stays tie (actions.Declare x) is = refl
  action-stays tie (actions.Assign x a) is = ap (code.Assign x) (value-stays a is)
  action-stays tie (actions.LoadField x y f) is = refl
  action-stays tie (actions.LoadLength x y) is = refl
  action-stays tie (actions.LoadItem x y e) is = ap (code.LoadItem x y) (term-stays e is)
  action-stays tie (actions.TakeField x y f) is = refl
  action-stays tie (actions.NewObject x class fields) is = refl
  action-stays tie (actions.NewArray x e) is = ap (code.NewArray x) (term-stays e is)
  action-stays tie (actions.StoreField y f a) is = ap (code.StoreField y f) (value-stays a is)
  action-stays tie (actions.StoreItem y i e) is = (λ j. code.StoreItem y (term-stays i is.0 j) (term-stays e is.1 j))
  action-stays tie (actions.Invoke v) is =
      ap (code.Invoke v.into tie v.consumed v.receiver v.routine) (handed-stay v is)
  action-stays tie (actions.Print e) is = ap code.Print (term-stays e is)
  action-stays tie (actions.If e other) is = refl
  action-stays tie (actions.While e body) is = refl
  action-stays tie (actions.Par left right sides) is = refl
  action-stays tie actions.Recover is = refl
  action-stays tie (actions.Give w x) is = refl
  action-stays tie (actions.Return a) is = refl
  action-stays tie actions.End is = refl
