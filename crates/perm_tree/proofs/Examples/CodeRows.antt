-- Worked examples of code, and of the variables that blocks mention and write, by computation.
use Rattle.std.specs.Prelude.{◌≡◌, ℕ, zero, suc, false, pos, List, [], ◌∷◌, ◌++◌, Some, map, filter, refl}
use Rattle.perm_tree.specs.declared.ast.Span.{Span}
use Rattle.perm_tree.specs.declared.ast.BinaryOp.TheVariants.{Plus}
use Rattle.perm_tree.specs.declared.ast.Perm.TheVariants.{Isolated, Immutable, Writable}
use Rattle.perm_tree.specs.declared.ast.Shape.TheVariants.{Class, Array}
use Rattle.perm_tree.specs.declared.ast.Ty.TheVariants.{Long, Ref}
use Rattle.perm_tree.specs.Code.{LongLit, Local, Binary, Expression, Consumed, Shares, Raises, Lends, Instruction, Assign, LoadField, NewObject, TakeField, StoreField, Invoke, Print, Code, End, Give, Return, Do, If, While, Par, Recover}
use Rattle.perm_tree.specs.CodeOf.{code_of}
use Rattle.perm_tree.specs.Mentions.{block_mentions, block_writes}
use Rattle.perm_tree.specs.Vars.{Vars}
use Rattle.perm_tree.proofs.Builder.{Source}
use Rattle.perm_tree.proofs.ParPrograms.{p4, p11}
use Rattle.perm_tree.proofs.Programs.{unit, p2, p6, p7}

abbrev at : ℕ → ℕ → Span
at start end = record { start = start; end = end }

-- the codes of the methods of a program
abbrev codes : Source → List Code
codes s = map (λ r. r.code) (code_of (unit s)).routines

-- ---------- codes ----------
-- variables: `this`, input, a, b
abbrev p11_code : Code
p11_code =
    Do (at 63 74) (Assign 2 (Expression (LongLit (pos 0))))
    (Do (at 79 90) (Assign 3 (Expression (LongLit (pos 0))))
    (Par (at 95 98)
    [] (Do (at 107 113) (Assign 2 (Expression (LongLit (pos 1)))) End)
    [] (Do (at 128 134) (Assign 3 (Expression (LongLit (pos 2)))) End)
    (Do (at 145 157) (Print (Binary Plus (Local 2) (Local 3)))
    (Return (at 162 171) (Expression (LongLit (pos 0)))))))

pub p11-code : codes p11 ≡ p11_code ∷ []
p11-code = refl

-- variables: `this`, input, a, r, x, w; the writable `this` and the readable r are hidden
abbrev p6_code : Code
p6_code =
    Do (at 99 126) (NewObject 2 0)
    (Do (at 131 158) (Assign 3 (Consumed 2))
    (Recover (at 163 187) 4 (5 ∷ []) (0 ∷ 3 ∷ [])
    (Do (at 196 223) (NewObject 5 0)
    (Do (at 230 242) (StoreField 5 0 (Expression (Local 3)))
    (Give (at 249 256) 5 4)))
    (Return (at 268 277) (Expression (LongLit (pos 0))))))

pub p6-code : codes p6 ≡ p6_code ∷ []
p6-code = refl

-- variables: `this`, input, y, t; y is lent, and consumed as an argument
abbrev p7_code : Code
p7_code =
    Do (at 134 161) (NewObject 2 0)
    (Do (at 166 192) (Invoke (Some 3) Lends false 2 0 (Consumed 2 ∷ []))
    (Return (at 197 206) (Expression (Local 3))))

pub p7-code : codes p7 ≡ Return (at 55 64) (Expression (LongLit (pos 0))) ∷ p7_code ∷ []
p7-code = refl

abbrev bump_code : Code
bump_code =
    Do (at 53 69) (LoadField 1 0 0)
    (Do (at 74 89) (StoreField 0 0 (Expression (Binary Plus (Local 1) (LongLit (pos 1)))))
    (Return (at 94 107) (Expression (Binary Plus (Local 1) (LongLit (pos 1))))))

abbrev p4_left : Code
p4_left = Do (at 351 366) (Invoke (Some 4) Lends false 3 0 []) End

abbrev p4_right : Code
p4_right = Do (at 381 395) (StoreField 0 1 (Expression (LongLit (pos 5)))) End

-- variables: `this`, input, c, d, got
abbrev p4_code : Code
p4_code =
    Do (at 214 245) (NewObject 2 0)
    (Do (at 250 273) (StoreField 0 0 (Consumed 2))
    (Do (at 278 316) (TakeField 3 0 0)
    (Do (at 321 334) (Assign 4 (Expression (LongLit (pos 0))))
    (Par (at 339 342) [] p4_left [] p4_right
    (Do (at 406 429) (StoreField 0 0 (Consumed 3))
    (Do (at 434 444) (Print (Local 4))
    (Return (at 449 458) (Expression (LongLit (pos 0))))))))))

pub p4-codes : codes p4 ≡ bump_code ∷ p4_code ∷ []
p4-codes = refl

-- the class Main and its method Run
pub p4-main : (code_of (unit p4)).main ≡ 1
p4-main = refl

pub p4-run : (code_of (unit p4)).run ≡ 1
p4-run = refl

-- the types of the fields of its classes, and of the variables of Run
pub p4-classes : (code_of (unit p4)).classes ≡ (Long ∷ []) ∷ (Ref Isolated (Class 0) ∷ Long ∷ []) ∷ []
p4-classes = refl

pub p4-vars : map (λ r. r.vars) (code_of (unit p4)).routines ≡ (Ref Writable (Class 0) ∷ Long ∷ []) ∷ (Ref Writable (Class 1) ∷ Ref Immutable Array ∷ Ref Isolated (Class 0) ∷ Ref Isolated (Class 0) ∷ Long ∷ []) ∷ []
p4-vars = refl

-- ---------- ties ----------
abbrev if_call : Instruction → List Instruction
if_call (Invoke into tie consumed y routine args) = Invoke into tie consumed y routine args ∷ []
if_call i = []

-- the calls of a code, in text order
abbrev calls : Code → List Instruction
calls End = []
calls (Give at w x) = []
calls (Return at a) = []
calls (Do at i rest) = if_call i ++ calls rest
calls (If at e own1 a own2 b rest) = calls a ++ (calls b ++ calls rest)
calls (While at e own body rest) = calls body ++ calls rest
calls (Par at own1 a own2 b rest) = calls a ++ (calls b ++ calls rest)
calls (Recover at x own hides body rest) = calls body ++ calls rest

-- a call on a readable variable shares, and one on an immutable variable without arguments raises
pub p2-calls : map calls (codes p2) ≡ (Invoke (Some 3) Shares false 2 0 [] ∷ []) ∷ (Invoke (Some 9) Raises false 2 0 [] ∷ []) ∷ []
p2-calls = refl

-- ---------- variables of blocks ----------
-- the members of a set below n
abbrev members : ℕ → Vars → List ℕ
members zero G = []
members (suc n) G = members n G ++ filter G (n ∷ [])

-- the left side mentions d and got, and assigns got
pub p4-left : members 5 (block_mentions [] p4_left) ≡ 3 ∷ 4 ∷ []
p4-left = refl

pub p4-left-writes : members 5 (block_writes [] p4_left) ≡ 4 ∷ []
p4-left-writes = refl

-- the right side mentions `this`, and a store to a field writes no variable
pub p4-right : members 5 (block_mentions [] p4_right) ≡ 0 ∷ []
p4-right = refl

pub p4-right-writes : members 5 (block_writes [] p4_right) ≡ []
p4-right-writes = refl

-- the whole body: what it declares itself is no outer variable
pub p6-body : members 6 (block_mentions (2 ∷ 3 ∷ 4 ∷ []) p6_code) ≡ []
p6-body = refl

-- without that the variable of the recover block alone is taken away
pub p6-inner : members 6 (block_mentions [] p6_code) ≡ 2 ∷ 3 ∷ 4 ∷ []
p6-inner = refl

-- it assigns a, r and x, and consumes a
pub p6-writes : members 6 (block_writes [] p6_code) ≡ 2 ∷ 3 ∷ 4 ∷ []
p6-writes = refl
