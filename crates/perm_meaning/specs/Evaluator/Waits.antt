-- What waits for a code to end, and what a run comes to then.
use Rattle.std.specs.Prelude.{ℕ, Bool, List, [], ◌∷◌, Option}
use Rattle.perm_tree.specs.Code.{Code, UnitCode}
use Rattle.perm_meaning.specs.Machine.{Blocks, join_final}
use Rattle.perm_meaning.specs.Custody.{merged, writes_l, writes_r}
use Rattle.perm_meaning.specs.NamedHeap.{Final, Own}
use Rattle.perm_meaning.specs.Meaning.{Moment, Result, then_do, close, recovered, returned, right_of, on_final, after_join, par_of}
use Rattle.perm_meaning.specs.Evaluator.WholeCode.{whole}

-- the code behind a block that declares own, behind a recover block, behind a call of this caller, and behind a par whose left side runs, or whose right side runs after the left one
pub data Waiting : Type 0 where
  ForBlock : (own : List ℕ) (rest : Code) → Waiting
  ForRecover : (own : List ℕ) (rest : Code) → Waiting
  ForCall : (caller : Own) (into : Option ℕ) (rest : Code) → Waiting
  ForLeft : (p : Blocks) (parent : Moment) (rest : Code) → Waiting
  ForRight : (p : Blocks) (parent : Moment) (left : Final) (rest : Code) → Waiting

module _ (u : UnitCode) (fits : ℕ → Bool) where
  -- a par whose left side has ended so ends as its right side does
  abbrev pub joined : Blocks → Moment → Final → Result → Result
  joined p m x r = on_final r (λ y h. after_join m (join_final (merged (writes_l p) (writes_r p)) m.own.vars m.own.printed x y) h)

  -- what the code that waits comes to, by how the code ends for which it waits
  abbrev pub after_waiting : Waiting → Result → Result
  after_waiting (ForBlock own rest) r = then_do (close own r) (whole u fits rest)
  after_waiting (ForRecover own rest) r = then_do (recovered own r) (whole u fits rest)
  after_waiting (ForCall l into rest) r = then_do (returned u fits (whole u fits) l into r) (whole u fits rest)
  after_waiting (ForLeft p m rest) r = then_do (par_of p m r (λ h. whole u fits p.right (right_of m h))) (whole u fits rest)
  after_waiting (ForRight p m x rest) r = then_do (joined p m x r) (whole u fits rest)

  -- the same of all that waits, the innermost first
  abbrev pub resumed : List Waiting → Result → Result
  resumed [] r = r
  resumed (w ∷ ws) r = resumed ws (after_waiting w r)
