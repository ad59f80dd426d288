-- What the numbered expressions, arguments and simple statements of a unit's bodies are in its code.
use Rattle.std.specs.Prelude.{◌≡◌, ℕ, ◌+◌, ◌-◌, ◌<◌, ◌≤◌, List, [], ◌∷◌, length, map, take, drop, get_or, slice_get, Some}
use Rattle.perm_tree.specs.declared.ast.Ty.{Ty}
use Rattle.perm_tree.specs.declared.bodies.Operand.{Operand}
use Rattle.perm_tree.specs.declared.bodies.Operand.TheVariants as operands
use Rattle.perm_tree.specs.declared.bodies.Operation.{Operation}
use Rattle.perm_tree.specs.declared.bodies.Operation.TheVariants as operations
use Rattle.perm_tree.specs.declared.bodies.Expression.{Expression}
use Rattle.perm_tree.specs.declared.bodies.Expression.TheVariants as expressions
use Rattle.perm_tree.specs.declared.bodies.Argument.{Argument}
use Rattle.perm_tree.specs.declared.bodies.Argument.TheVariants as handed
use Rattle.perm_tree.specs.declared.bodies.Action.{Action}
use Rattle.perm_tree.specs.declared.bodies.Action.TheVariants as actions
use Rattle.perm_tree.specs.declared.bodies.Bodies.{Bodies}
use Rattle.perm_tree.specs.Code as code
use Rattle.perm_tree.specs.Code.{Term, LongLit, BoolLit, NullLit, Local, Unary, Binary, Tie, Instruction, UnitCode}
use Rattle.perm_tree.specs.Entries.{entries_of}

-- ---------- expressions ----------
-- the term of an operand, by those of the operations that stand before it in its expression
abbrev pub operand_term : List Term → Operand → Term
operand_term earlier (operands.Number n) = LongLit n
operand_term earlier (operands.Bool b) = BoolLit b
operand_term earlier operands.Null = NullLit
operand_term earlier (operands.Local x) = Local x
operand_term earlier (operands.Earlier i) = get_or earlier i NullLit

-- the term of an operation, by those of the operations before it
abbrev pub operation_term : List Term → Operation → Term
operation_term earlier (operations.Unary op a) = Unary op (operand_term earlier a)
operation_term earlier (operations.Binary op a b) = Binary op (operand_term earlier a) (operand_term earlier b)

-- the terms of some operations, each by those before it
abbrev pub operation_terms : List Operation → List Term
operation_terms run = entries_of operation_term run

-- a stretch of a list
abbrev pub stretch : {A : Type 0} → List A → ℕ → ℕ → List A
stretch all first count = take count (drop first all)

-- the term of an expression, whose operations may stand in a list
abbrev pub expression_term : List Operation → Expression → Term
expression_term all (expressions.Operand a) = operand_term [] a
expression_term all (expressions.Operation o) = operation_term [] o
expression_term all (expressions.Operations first count) = get_or (operation_terms (stretch all first count)) (count - 1) NullLit

-- an operand is no value of an operation from a place on
abbrev pub IsOperandBelow : ℕ → Operand → Type 0
IsOperandBelow at (operands.Earlier i) = i < at
IsOperandBelow at a = Unit {0}

-- the operands of an operation at a place stand before it
abbrev pub IsOperationBelow : ℕ → Operation → Type 0
IsOperationBelow at (operations.Unary op a) = IsOperandBelow at a
IsOperationBelow at (operations.Binary op a b) = IsOperandBelow at a × IsOperandBelow at b

-- so of each of some operations
abbrev pub AreOrdered : List Operation → Type 0
AreOrdered run = (at : ℕ) (o : Operation) → slice_get run at ≡ Some o → IsOperationBelow at o

-- the operations of an expression are there, some of them, and each stands behind its operands
abbrev pub IsExpressionIn : List Operation → Expression → Type 0
IsExpressionIn all (expressions.Operand a) = IsOperandBelow 0 a
IsExpressionIn all (expressions.Operation o) = IsOperationBelow 0 o
IsExpressionIn all (expressions.Operations first count) = (0 < count) × (first + count ≤ length all) × AreOrdered (stretch all first count)

-- ---------- arguments ----------
-- an argument in the code
abbrev pub argument_of : List Operation → Argument → code.Argument
argument_of all (handed.Expression e) = code.Expression (expression_term all e)
argument_of all (handed.Consume y) = code.Consumed y

-- its operations are there
abbrev pub IsArgumentIn : List Operation → Argument → Type 0
IsArgumentIn all (handed.Expression e) = IsExpressionIn all e
IsArgumentIn all (handed.Consume y) = Unit {0}

-- so of some arguments
abbrev pub AreArgumentsIn : List Operation → List Argument → Type 0
AreArgumentsIn all [] = Unit {0}
AreArgumentsIn all (a ∷ rest) = IsArgumentIn all a × AreArgumentsIn all rest

-- ---------- simple statements ----------
-- what a step asks for that is a simple statement, tied so if it is a call; nothing is meant of another one
abbrev pub instruction_of : Bodies → Tie → Action → Instruction
instruction_of b tie (actions.Declare x) = code.Declare x
instruction_of b tie (actions.Assign x a) = code.Assign x (argument_of b.operations a)
instruction_of b tie (actions.LoadField x y f) = code.LoadField x y f
instruction_of b tie (actions.LoadLength x y) = code.LoadLength x y
instruction_of b tie (actions.LoadItem x y e) = code.LoadItem x y (expression_term b.operations e)
instruction_of b tie (actions.TakeField x y f) = code.TakeField x y f
instruction_of b tie (actions.NewObject x class fields) = code.NewObject x class
instruction_of b tie (actions.NewArray x e) = code.NewArray x (expression_term b.operations e)
instruction_of b tie (actions.StoreField y f a) = code.StoreField y f (argument_of b.operations a)
instruction_of b tie (actions.StoreItem y i e) = code.StoreItem y (expression_term b.operations i) (expression_term b.operations e)
instruction_of b tie (actions.Invoke v) = code.Invoke v.into tie v.consumed v.receiver v.routine (map (argument_of b.operations) (stretch b.arguments v.first v.count))
instruction_of b tie (actions.Print e) = code.Print (expression_term b.operations e)
instruction_of b tie action = code.Declare 0

-- a class that is there has so many fields
abbrev pub HasFields : UnitCode → ℕ → ℕ → Type 0
HasFields u class fields = (ts : List Ty) → slice_get u.classes class ≡ Some ts → length ts ≡ fields

-- the expressions and arguments of a step are there, and a class that it names has the fields that it says
abbrev pub IsActionIn : Bodies → UnitCode → Action → Type 0
IsActionIn b u (actions.Assign x a) = IsArgumentIn b.operations a
IsActionIn b u (actions.LoadItem x y e) = IsExpressionIn b.operations e
IsActionIn b u (actions.NewObject x class fields) = HasFields u class fields
IsActionIn b u (actions.NewArray x e) = IsExpressionIn b.operations e
IsActionIn b u (actions.StoreField y f a) = IsArgumentIn b.operations a
IsActionIn b u (actions.StoreItem y i e) = IsExpressionIn b.operations i × IsExpressionIn b.operations e
IsActionIn b u (actions.Invoke v) = (v.first + v.count ≤ length b.arguments) × AreArgumentsIn b.operations (stretch b.arguments v.first v.count)
IsActionIn b u (actions.Print e) = IsExpressionIn b.operations e
IsActionIn b u (actions.If e other) = IsExpressionIn b.operations e
IsActionIn b u (actions.While e body) = IsExpressionIn b.operations e
IsActionIn b u (actions.Par left right sides) = sides < length b.sides
IsActionIn b u (actions.Return a) = IsArgumentIn b.operations a
IsActionIn b u action = Unit {0}
