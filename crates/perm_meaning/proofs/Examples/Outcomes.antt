-- What the worked programs come to, by computation: the end, the printed numbers, the turns spent and the need.
use Rattle.std.specs.Prelude.{◌≡◌, pos, negsuc, [], ◌∷◌, refl}
use Rattle.perm_tree.specs.declared.errors.TrapKind.TheVariants.{DivideByZero, NullReference, IndexOutOfRange, Overflow, StackOverflow}
use Rattle.perm_tree.proofs.Programs.{p1, p2, p5_new, p6_immutable, p8, p12, p13, p14}
use Rattle.perm_tree.proofs.ParPrograms.{p3, p4, p9, p10, p11}
use Rattle.perm_meaning.proofs.Examples.Shown.{IsDone, TrapsAt, IsOutOfTurns, Shows, ShowsFull, run, run_plain, turn_limit, heap_words}

-- ---------- one branch ----------
pub two-fields : run_plain p1 [] ≡ Shows (IsDone (pos 0)) (pos 7 ∷ []) 7 5
two-fields = refl

pub list-summed : run_plain p2 (pos 5 ∷ pos 6 ∷ pos 7 ∷ []) ≡ Shows (IsDone (pos 18)) (pos 18 ∷ []) 48 10
list-summed = refl

-- the list is null where the input is empty
pub list-empty : run_plain p2 [] ≡ Shows (TrapsAt NullReference (34, 5)) [] 9 2
list-empty = refl

pub consumed-in-loop : run_plain p5_new [] ≡ Shows (IsDone (pos 2)) [] 12 5
consumed-in-loop = refl

pub immutable-in-recover : run_plain p6_immutable [] ≡ Shows (IsDone (pos 0)) [] 7 4
immutable-in-recover = refl

pub ring : run_plain p12 [] ≡ Shows (IsDone (pos 0)) [] 11 7
ring = refl

pub input-kept : run_plain p14 (pos 5 ∷ negsuc 5 ∷ []) ≡ Shows (IsDone (pos 0)) [] 3 4
input-kept = refl

-- ---------- traps of arithmetic ----------
pub least-by-minus-one : run_plain p8 (negsuc 9223372036854775807 ∷ negsuc 0 ∷ []) ≡ Shows (TrapsAt Overflow (5, 5)) [] 3 3
least-by-minus-one = refl

pub by-zero : run_plain p8 (pos 5 ∷ pos 0 ∷ []) ≡ Shows (TrapsAt DivideByZero (5, 5)) [] 3 3
by-zero = refl

pub no-second-number : run_plain p8 (pos 5 ∷ []) ≡ Shows (TrapsAt IndexOutOfRange (4, 5)) [] 2 2
no-second-number = refl

-- -7 by 2: the quotient is truncated, and the remainder has the sign of the left side
pub truncated : run_plain p8 (negsuc 6 ∷ pos 2 ∷ []) ≡ Shows (IsDone (negsuc 8)) (negsuc 2 ∷ negsuc 0 ∷ []) 5 3
truncated = refl

-- the difference wraps
pub wrapped : run_plain p8 (pos 9223372036854775807 ∷ negsuc 0 ∷ []) ≡ Shows (IsDone (negsuc 9223372036854775807)) (negsuc 9223372036854775806 ∷ pos 0 ∷ []) 5 3
wrapped = refl

-- ---------- pars ----------
pub tree-summed : run_plain (p3 2) (pos 7 ∷ pos 8 ∷ pos 9 ∷ pos 10 ∷ []) ≡ Shows (IsDone (pos 0)) (pos 34 ∷ []) 120 26
tree-summed = refl

pub child-bumped : run_plain p4 [] ≡ Shows (IsDone (pos 0)) (pos 1 ∷ []) 13 4
child-bumped = refl

-- the left side traps after it has printed; what the right side printed isn't told, but its turn is spent
pub left-traps : run_plain p9 [] ≡ Shows (TrapsAt DivideByZero (6, 7)) (pos 1 ∷ []) 5 2
left-traps = refl

-- three turns are spent before the par, each side gets two of the four that are left and spends one, two come back
pub seven-turns : run p11 [] 7 heap_words ≡ Shows (IsDone (pos 0)) (pos 3 ∷ []) 7 2
seven-turns = refl

-- of three the left side gets two and the right one, and the one that comes back prints
pub six-turns : run p11 [] 6 heap_words ≡ Shows IsOutOfTurns (pos 3 ∷ []) 6 2
six-turns = refl

-- of one the left side gets one and the right none
pub four-turns : run p11 [] 4 heap_words ≡ Shows IsOutOfTurns [] 4 2
four-turns = refl

-- ---------- the heap ----------
pub five-words : run p1 [] turn_limit 5 ≡ Shows (IsDone (pos 0)) (pos 7 ∷ []) 7 5
five-words = refl

pub four-words : run p1 [] turn_limit 4 ≡ ShowsFull
four-words = refl

-- the right side makes its array also where the left one has trapped
pub ten-words : run p10 [] turn_limit 10 ≡ Shows (TrapsAt DivideByZero (5, 7)) [] 4 10
ten-words = refl

pub nine-words : run p10 [] turn_limit 9 ≡ ShowsFull
nine-words = refl

-- the opening alone needs two words
pub one-word : run p10 [] turn_limit 1 ≡ ShowsFull
one-word = refl

-- ---------- depth ----------
pub endless-calls : run_plain p13 [] ≡ Shows (TrapsAt StackOverflow (3, 5)) [] 100000 2
endless-calls = refl
