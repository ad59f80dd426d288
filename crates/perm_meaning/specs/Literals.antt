-- The numbers in code are of 64 bits, as those of a checked program are.
use Rattle.std.specs.Prelude.{ℤ, List, [], ◌∷◌, FitsSigned}
use mir.Syntax.{w64}
use Rattle.perm_tree.specs.Code.{Argument, Expression, Consumed, Term, LongLit, BoolLit, NullLit, Local, Unary, Binary, Instruction, Assign, LoadItem, NewArray, StoreField, StoreItem, Invoke, Print, Code, End, Give, Return, Do, If, While, Par, Recover, Routine, UnitCode}

-- these numbers are of 64 bits
abbrev pub NumbersFit : List ℤ → Type 0
NumbersFit [] = Unit {0}
NumbersFit (n ∷ ns) = FitsSigned w64 n × NumbersFit ns

-- the numbers that stand in an expression
abbrev pub TermFits : Term → Type 0
TermFits (LongLit n) = FitsSigned w64 n
TermFits (BoolLit b) = Unit {0}
TermFits NullLit = Unit {0}
TermFits (Local x) = Unit {0}
TermFits (Unary op a) = TermFits a
TermFits (Binary op a b) = TermFits a × TermFits b

-- in an argument
abbrev pub ArgumentFits : Argument → Type 0
ArgumentFits (Expression e) = TermFits e
ArgumentFits (Consumed y) = Unit {0}

-- in arguments
abbrev pub ArgumentsFit : List Argument → Type 0
ArgumentsFit [] = Unit {0}
ArgumentsFit (a ∷ rest) = ArgumentFits a × ArgumentsFit rest

-- in a simple statement
abbrev pub InstructionFits : Instruction → Type 0
InstructionFits (Assign x a) = ArgumentFits a
InstructionFits (LoadItem x y i) = TermFits i
InstructionFits (NewArray x n) = TermFits n
InstructionFits (StoreField y f a) = ArgumentFits a
InstructionFits (StoreItem y i e) = TermFits i × TermFits e
InstructionFits (Invoke into tie consumed y m args) = ArgumentsFit args
InstructionFits (Print e) = TermFits e
InstructionFits _ = Unit {0}

-- in code
abbrev pub CodeFits : Code → Type 0
CodeFits End = Unit {0}
CodeFits (Give at w x) = Unit {0}
CodeFits (Return at a) = ArgumentFits a
CodeFits (Do at i rest) = InstructionFits i × CodeFits rest
CodeFits (If at e own1 a own2 b rest) = TermFits e × CodeFits a × CodeFits b × CodeFits rest
CodeFits (While at e own body rest) = TermFits e × CodeFits body × CodeFits rest
CodeFits (Par at own1 a own2 b rest) = CodeFits a × CodeFits b × CodeFits rest
CodeFits (Recover at x own hides body rest) = CodeFits body × CodeFits rest

-- in methods
abbrev pub RoutinesFit : List Routine → Type 0
RoutinesFit [] = Unit {0}
RoutinesFit (r ∷ rs) = CodeFits r.code × RoutinesFit rs

-- in a unit
abbrev pub UnitFits : UnitCode → Type 0
UnitFits u = RoutinesFit u.routines
