-- What a refused allocation makes of a branch that runs.
use Rattle.std.proofs.Common.{◌≡◌, ℕ, suc, ◌-◌, List, [], ◌∷◌, ◌++◌, Some, None, refl, sym, ap, ◌∙◌, subst, arith}
use Rattle.perm_tree.specs.Code.{Code, End, Give, Return, Do, If, While, Par, Recover, UnitCode}
use Rattle.perm_tree.specs.Links.{Spot}
use Rattle.perm_meaning.specs.Custody.{Copies}
use Rattle.perm_meaning.specs.Machine.{Frame, Failing, Leaf, NoRoom, Turn, Takes, NoTurn, ended, next_turn, told_to, turn_op}
use Rattle.perm_meaning.specs.WordHeap.{Ask, Branch, NoMark, Own, Task, worded}
use Rattle.perm_step.specs.declared.control.Ending.TheVariants as endings
use Rattle.perm_step.specs.declared.control.Failure.TheVariants as failures
use Rattle.perm_step.specs.Events.{NextAsks, NextMakes}
use Rattle.perm_step.specs.LeafMoves.{spent}
use Rattle.perm_step.specs.Standing.{below_of, branch_of, frames_of, leaf_branch}
use Rattle.perm_step.specs.Working.{Working, locals}

module _ (u : UnitCode) where
  -- a turn that is refused what it asks ends the branch
  refused-turn : (x : Branch) (t : ℕ) (turn : Turn ℕ NoMark Ask) (o : Ask) → turn_op (worded Copies u) turn ≡ Some o → told_to (worded Copies u) x t turn None ≡ ended (worded Copies u) x t x.own.printed (Failing NoRoom)
  refused-turn x t (Takes p told) o asks = refl
  refused-turn x t NoTurn o asks = absurd (let no : ⊥ = cc asks in no)

  module _ (l : Own) (t : ℕ) where
    -- a branch with a turn left for the next step
    abbrev at : Code → List (Frame ℕ) → Branch
    at code st = record { own = l; turns = suc t; code = code; stack = st; close = None }

    refused-due : (code : Code) (st : List (Frame ℕ)) (o : Ask) → turn_op (worded Copies u) (next_turn (worded Copies u) (at code st)) ≡ Some o
        → told_to (worded Copies u) (at code st) t (next_turn (worded Copies u) (at code st)) None ≡ ended (worded Copies u) (at code st) t l.printed (Failing NoRoom)
    refused-due code st o asks = refused-turn (at code st) t (next_turn (worded Copies u) (at code st)) o asks

    -- the next event of a branch, if it is refused
    refused-at : (code : Code) (st : List (Frame ℕ)) (o : Ask) → NextAsks u (at code st) o → NextMakes u (at code st) None (ended (worded Copies u) (at code st) t l.printed (Failing NoRoom))
    refused-at End [] o asks = absurd (let no : ⊥ = cc asks in no)
    refused-at End (f ∷ st) o asks = refused-due End (f ∷ st) o asks
    refused-at (Give at w x) st o asks = refused-due (Give at w x) st o asks
    refused-at (Return at a) st o asks = refused-due (Return at a) st o asks
    refused-at (Do at i rest) st o asks = refused-due (Do at i rest) st o asks
    refused-at (If at e own1 a own2 b rest) st o asks = refused-due (If at e own1 a own2 b rest) st o asks
    refused-at (While at e own body rest) st o asks = refused-due (While at e own body rest) st o asks
    refused-at (Par at own1 a own2 b rest) st o asks = refused-due (Par at own1 a own2 b rest) st o asks
    refused-at (Recover at x own hides body rest) st o asks = refused-due (Recover at x own hides body rest) st o asks

  -- a branch that is refused what its next event asks has failed for want of room
  pub refused-next : (spot : ℕ → Spot) (c : Working) (t : ℕ) (o : Ask) → c.turns ≡ suc t → NextAsks u (branch_of spot c) o
      → NextMakes u (branch_of spot c) None (Leaf (leaf_branch spot (record { control = spent c; ending = Some (endings.Failed failures.NoRoom) })))
  refused-next spot c t o due asks =
      let l : Own = record { vars = locals c; routine = (spot c.at).routine; depth = c.depth; printed = c.printed; mark = tt } in
      let code = (spot c.at).code in
      let st = frames_of (spot c.at).within ++ below_of spot c in
      let is : branch_of spot c ≡ at l t code st = λ j. record (branch_of spot c) { turns = due j } in
      let left : t ≡ c.turns - 1 = omega (arith, due) in
      subst
      (λ (x : Branch). NextMakes u x None (Leaf (leaf_branch spot (record { control = spent c; ending = Some (endings.Failed failures.NoRoom) }))))
      (sym is)
      (refused-at l t code st o (subst (λ (x : Branch). NextAsks u x o) is asks)
      ∙ ap (λ n. let x : Task = Leaf (record { own = record l { vars = [] }; turns = n; code = End; stack = []; close = Some (Failing NoRoom) }) in x) left)
