-- The machine of names, left first, follows the meaning.
use Rattle.std.proofs.Common.{ℕ, zero, suc, ◌≤◌, ◌<◌, Bool, Option, None, List, [], ◌∷◌, refl, arith, le_refl}
use Rattle.std.specs.Prelude.{nat_lt, slice_get}
use Rattle.perm_tree.specs.declared.ast.Span.{Span}
use Rattle.perm_tree.specs.declared.errors.TrapKind.TheVariants.{StackOverflow}
use Rattle.perm_tree.specs.Code.{Tie, Code, End, Give, Return, Do, If, While, Par, Recover, UnitCode}
use Rattle.perm_meaning.specs.Expressions.{tagged, clear, look_up, eval, value_of}
use Rattle.perm_meaning.specs.Names.{Name, Mark}
use Rattle.perm_meaning.specs.Machine.{OpenBlock, OpenRecover, OpenCall, NoTurns}
use Rattle.perm_meaning.specs.Custody.{Copies}
use Rattle.perm_meaning.specs.Effects.{choose, Act, GoesOn, Calls, Halts, Resumption, Does, Sticks, depth_limit, effect}
use Rattle.perm_meaning.specs.Turns.{blocks, acted, turn_of}
use Rattle.perm_meaning.specs.NamedHeap.{Heap, Held, Own, State, marks, named, memory, find, after}
use Rattle.perm_meaning.specs.Steps.{Answer, Found, Refused, Missing}
use Rattle.perm_meaning.specs.Meaning as meaning
use Rattle.perm_meaning.specs.Meaning.{Moment, Result, Well, Gave, Handed, Fails, Full, Stuck, fail, left_of, right_of, set_vars, then_do, close, recovered, par_of, perform, doing, does, mean}
use Rattle.perm_meaning.proofs.Leads.{stay}
use Rattle.perm_meaning.proofs.LeftFirst.Reached.{Frame, going, Follows, then-follows, close-follows, recovered-follows}
use Rattle.perm_meaning.proofs.LeftFirst.OneTurn.{TurnTo, Answered, then_task, spending, dies-follows, on-follows, test-to, depth-to, give-to, return-to}
use Rattle.perm_meaning.proofs.LeftFirst.AtPar.{par-to}

module _ (u : UnitCode) (fits : ℕ → Bool) (t : ℕ) (again : Code → Moment → Result) (less : (c : Code) (m : Moment) (st : List Frame) → m.turns < t → Follows u fits End st m.turns (going u c st m) (again c m)) where
  -- the end of a call
  returned-follows : (tie : Tie) (into : Option ℕ) (y : ℕ) (l : Own) (rest : Code) (st : List Frame) (n : ℕ) (s : State) (r : Result)
      → Follows u fits End (OpenCall tie into y l.vars None l.routine rest ∷ st) n s r → Follows u fits rest st n s (meaning.returned u fits again l into r)
  returned-follows tie into y l rest st n s (Well m) f = tt
  returned-follows tie into y l rest st n s (Gave v m) f = f
  returned-follows tie into y l rest st n s (Handed x v m) f = tt
  returned-follows tie into y l rest st n s (Fails e w p h) f = f
  returned-follows tie into y l rest st n s Full f = f
  returned-follows tie into y l rest st n s Stuck f = tt

  -- what a simple statement leaves of its branch, whatever it is
  act-follows : (c : Code) (at : Span) (rest : Code) (st : List Frame) (m : Moment) (h : Heap) (a : Act Held Mark) → m.turns < t
      → Follows u fits rest st m.turns (record { task = then_task u fits c st m (acted tagged Copies at rest st a); heap = h }) (perform u fits again at (record { turns = m.turns; own = m.own; heap = h }) a)
  act-follows c at rest st m h (GoesOn l) lt = on-follows u fits c rest rest st st m l h (Well (record { turns = m.turns; own = l; heap = h })) (le_refl m.turns, stay (named Copies u) (memory u) fits _)
  act-follows c at rest st m h (Halts k) lt = dies-follows u fits c rest st m h at k
  act-follows c at rest st m h (Calls x l) lt =
      on-follows u fits c rest x.code st (OpenCall x.tie x.into x.y l.vars None l.routine rest ∷ st) m (record l { vars = x.first; routine = x.routine; depth = suc l.depth }) h _
      (returned-follows x.tie x.into x.y l rest st m.turns _ _
      (less x.code (record { turns = m.turns; own = record l { vars = x.first; routine = x.routine; depth = suc l.depth }; heap = h }) (OpenCall x.tie x.into x.y l.vars None l.routine rest ∷ st) lt))

  -- the turn of a simple statement
  pub effect-to : (c : Code) (at : Span) (rest : Code) (st : List Frame) (m : Moment) (e : Resumption Held Name Mark) → m.turns < t
      → TurnTo u fits c rest st m (turn_of tagged Copies at rest st e) (doing u fits again at e m)
  effect-to c at rest st m Sticks lt = tt
  effect-to c at rest st m (Does o told) lt = go (find fits o m.heap) (λ h v. act-follows c at rest st m h (told v) lt)
    where
      go : (a : Answer Held) → ((h : Heap) (v : Held) → Follows u fits rest st m.turns (record { task = then_task u fits c st m (acted tagged Copies at rest st (told v)); heap = h }) (perform u fits again at (record { turns = m.turns; own = m.own; heap = h }) (told v)))
          → Answered u fits c rest st m o (λ w. acted tagged Copies at rest st (told w)) a (meaning.answered u fits again a o at told m)
      go (Found v) f = f (after u fits o m.heap) v
      go Refused f = refl
      go Missing f = refl

  -- the machine follows what code does
  pub follows : (c : Code) (m : Moment) (st : List Frame) → m.turns ≤ t → Follows u fits End st m.turns (going u c st m) (does u fits again c m)
  follows End m st le = (le_refl m.turns, stay (named Copies u) (memory u) fits _)
  follows (Give at w x) m st le =
      spending u fits (Give at w x) End st (λ n l. refl) m.turns m.own m.heap (λ z. meaning.on_value (look_up tagged z.own.vars w) at z (λ v. Handed x v (set_vars z (clear tagged z.own.vars w))))
      (λ n q. give-to u fits (Give at w x) st (record m { turns = n }) w x at (slice_get m.own.vars w))
  follows (Return at a) m st le =
      spending u fits (Return at a) End st (λ n l. refl) m.turns m.own m.heap (λ z. meaning.on_value (value_of tagged a z.own.vars) at z (λ v. Gave v z))
      (λ n q. return-to u fits (Return at a) st (record m { turns = n }) (value_of tagged a m.own.vars) at)
  follows (Do at i rest) m st le =
      then-follows u fits rest End st st m.turns (going u (Do at i rest) st m) _ (does u fits again rest)
      (spending u fits (Do at i rest) rest st (λ n l. refl) m.turns m.own m.heap (λ z. doing u fits again at (effect tagged u marks i z.own) z)
      (λ n q. effect-to (Do at i rest) at rest st (record m { turns = n }) (effect tagged u marks i m.own) (omega arith)))
      (λ z lz. follows rest z st (omega arith))
  follows (If at e own1 a own2 b rest) m st le =
      let f : Moment → Result = λ z. close own1 (does u fits again a z) in
      let g : Moment → Result = λ z. close own2 (does u fits again b z) in
      then-follows u fits rest End st st m.turns (going u (If at e own1 a own2 b rest) st m) _ (does u fits again rest)
      (spending u fits (If at e own1 a own2 b rest) rest st (λ n l. refl) m.turns m.own m.heap (λ z. meaning.on_test (eval tagged e z.own.vars) at z f g)
      (λ n q. test-to u fits (If at e own1 a own2 b rest) rest st (record m { turns = n }) (eval tagged e m.own.vars) at _ _ f g
      (on-follows u fits (If at e own1 a own2 b rest) rest a st (OpenBlock own1 rest ∷ st) (record m { turns = n }) m.own m.heap (f (record m { turns = n }))
      (close-follows u fits own1 rest st n _ (does u fits again a (record m { turns = n })) (follows a (record m { turns = n }) (OpenBlock own1 rest ∷ st) (omega arith))))
      (on-follows u fits (If at e own1 a own2 b rest) rest b st (OpenBlock own2 rest ∷ st) (record m { turns = n }) m.own m.heap (g (record m { turns = n }))
      (close-follows u fits own2 rest st n _ (does u fits again b (record m { turns = n })) (follows b (record m { turns = n }) (OpenBlock own2 rest ∷ st) (omega arith))))))
      (λ z lz. follows rest z st (omega arith))
  follows (While at e own body rest) m st le =
      let f : Moment → Result = λ z. then_do (close own (does u fits again body z)) (again (While at e own body rest)) in
      let g : Moment → Result = λ z. does u fits again rest z in
      spending u fits (While at e own body rest) End st (λ n l. refl) m.turns m.own m.heap (λ z. meaning.on_test (eval tagged e z.own.vars) at z f g)
      (λ n q. test-to u fits (While at e own body rest) End st (record m { turns = n }) (eval tagged e m.own.vars) at _ _ f g
      (on-follows u fits (While at e own body rest) End body st (OpenBlock own (While at e own body rest) ∷ st) (record m { turns = n }) m.own m.heap (f (record m { turns = n }))
      (then-follows u fits (While at e own body rest) End st st n _ (close own (does u fits again body (record m { turns = n }))) (again (While at e own body rest))
      (close-follows u fits own (While at e own body rest) st n _ (does u fits again body (record m { turns = n })) (follows body (record m { turns = n }) (OpenBlock own (While at e own body rest) ∷ st) (omega arith)))
      (λ z lz. less (While at e own body rest) z st (omega arith))))
      (on-follows u fits (While at e own body rest) End rest st st (record m { turns = n }) m.own m.heap (g (record m { turns = n })) (follows rest (record m { turns = n }) st (omega arith))))
  follows (Par at own1 a own2 b rest) m st le =
      let f : Moment → Result = λ z. par_of (blocks own1 a own2 b) z (does u fits again a (left_of z)) (λ h. does u fits again b (right_of z h)) in
      then-follows u fits rest End st st m.turns (going u (Par at own1 a own2 b rest) st m) _ (does u fits again rest)
      (spending u fits (Par at own1 a own2 b rest) rest st (λ n l. refl) m.turns m.own m.heap (λ z. choose (nat_lt z.own.depth depth_limit) f (meaning.trap at StackOverflow) z)
      (λ n q. depth-to u fits (Par at own1 a own2 b rest) rest st (record m { turns = n }) (nat_lt m.own.depth depth_limit) at _ f
      (par-to u fits (Par at own1 a own2 b rest) rest st (record m { turns = n }) (blocks own1 a own2 b) (does u fits again a (left_of (record m { turns = n }))) (λ h. does u fits again b (right_of (record m { turns = n }) h))
      (follows a (left_of (record m { turns = n })) [] (omega arith)) (λ h. follows b (right_of (record m { turns = n }) h) [] (omega arith)))))
      (λ z lz. follows rest z st (omega arith))
  follows (Recover at x own hides body rest) m st le =
      let f : Moment → Result = λ z. recovered own (does u fits again body z) in
      then-follows u fits rest End st st m.turns (going u (Recover at x own hides body rest) st m) _ (does u fits again rest)
      (spending u fits (Recover at x own hides body rest) rest st (λ n l. refl) m.turns m.own m.heap f
      (λ n q. on-follows u fits (Recover at x own hides body rest) rest body st (OpenRecover own hides [] rest ∷ st) (record m { turns = n }) m.own m.heap (f (record m { turns = n }))
      (recovered-follows u fits own hides [] rest st n _ (does u fits again body (record m { turns = n })) (follows body (record m { turns = n }) (OpenRecover own hides [] rest ∷ st) (omega arith)))))
      (λ z lz. follows rest z st (omega arith))

-- the machine follows the meaning where the bound is no less than the turns that are left
pub mean-follows : (u : UnitCode) (fits : ℕ → Bool) (n : ℕ) (c : Code) (m : Moment) (st : List Frame) → m.turns ≤ n → Follows u fits End st m.turns (going u c st m) (mean u fits n c m)
mean-follows u fits zero c m st le = follows u fits 0 (λ c m. fail NoTurns m) (λ c m st h. absurd (omega arith)) c m st le
mean-follows u fits (suc n) c m st le = follows u fits (suc n) (λ c m. mean u fits n c m) (λ c m st h. mean-follows u fits n c m st (omega arith)) c m st le
