-- One step of code, where other code waits for its end.
use Rattle.std.proofs.Common.{◌≡◌, ◌∙◌, ℕ, suc, ◌≤◌, Bool, true, false, List, [], ◌∷◌, Some, None, refl, sym, ap}
use Rattle.std.specs.Prelude.{ℤ, nat_lt, slice_get}
use Rattle.perm_tree.specs.declared.ast.Span.{Span}
use Rattle.perm_tree.specs.declared.errors.TrapKind.{TrapKind}
use Rattle.perm_tree.specs.declared.errors.TrapKind.TheVariants.{StackOverflow}
use Rattle.perm_tree.specs.Code.{Term, Argument, Instruction, Code, End, Give, Return, Do, If, While, Par, Recover, Routine, UnitCode}
use Rattle.perm_meaning.specs.Values.{Eval, Gives, Traps, Mistyped, Truth}
use Rattle.perm_meaning.specs.Expressions.{tagged, assign, clear, clear_all, look_up, eval, value_of}
use Rattle.perm_meaning.specs.Names.{Mark}
use Rattle.perm_meaning.specs.Machine.{Trapped, NoTurns}
use Rattle.perm_meaning.specs.Effects.{choose, Calling, Act, Calls, Halts, Does, Sticks, depth_limit, effect}
use Rattle.perm_meaning.specs.Turns.{blocks}
use Rattle.perm_meaning.specs.NamedHeap.{Heap, Held, Op, Own, marks, find, after}
use Rattle.perm_meaning.specs.Steps.{Answer, Found}
use Rattle.perm_meaning.specs.Meaning as meaning
use Rattle.perm_meaning.specs.Meaning.{Moment, Result, Well, Gave, Handed, Fails, Full, Stuck, left_of, right_of, set_vars, then_do, close, recovered, on_test, on_value, after_join, par_of, perform, answered, doing, does}
use Rattle.perm_meaning.specs.Evaluator.Waits.{Waiting, ForBlock, ForRecover, ForCall, ForLeft, ForRight, after_waiting, resumed}
use Rattle.perm_meaning.specs.Evaluator.WholeCode.{whole}
use Rattle.perm_meaning.specs.Outcome.{outcome, opening, opening_need, reported_result}
use Rattle.perm_meaning.specs.Steps.{within}
use Rattle.perm_meaning.proofs.LeftFirst.WholeRun.{outcome-is}
use Rattle.perm_meaning.proofs.Evaluator.Unfolding.Fixed.{unfolds}

-- what is no truth value leads nowhere
no-truth : (v : Held) (at : Span) (m : Moment) (f g : Moment → Result) → tagged.as_truth v ≡ None → on_test (Gives v) at m f g ≡ Stuck
no-truth None at m f g e = refl
no-truth (Some (Truth b)) at m f g e = absurd (cc)
no-truth (Some _) at m f g e = refl

module _ (u : UnitCode) (fits : ℕ → Bool) where
  -- ---------- what ends all that waits ----------
  after-stuck : (w : Waiting) → after_waiting u fits w Stuck ≡ Stuck
  after-stuck (ForBlock own rest) = refl
  after-stuck (ForRecover own rest) = refl
  after-stuck (ForCall l into rest) = refl
  after-stuck (ForLeft p m rest) = refl
  after-stuck (ForRight p m x rest) = refl

  after-full : (w : Waiting) → after_waiting u fits w Full ≡ Full
  after-full (ForBlock own rest) = refl
  after-full (ForRecover own rest) = refl
  after-full (ForCall l into rest) = refl
  after-full (ForLeft p m rest) = refl
  after-full (ForRight p m x rest) = refl

  -- a run that is stuck within is stuck
  pub resumed-stuck : (ws : List Waiting) → resumed u fits ws Stuck ≡ Stuck
  resumed-stuck [] = refl
  resumed-stuck (w ∷ ws) = ap (resumed u fits ws) (after-stuck w) ∙ resumed-stuck ws

  -- a run that fills the heap within fills the heap
  pub resumed-full : (ws : List Waiting) → resumed u fits ws Full ≡ Full
  resumed-full [] = refl
  resumed-full (w ∷ ws) = ap (resumed u fits ws) (after-full w) ∙ resumed-full ws

  -- ---------- code at its end ----------
  -- code at its end is done
  pub end-is : (m : Moment) → whole u fits End m ≡ Well m
  end-is m = unfolds u fits End m

  -- a step is due
  abbrev pub IsDue : Code → Type 0
  IsDue End = ⊥
  IsDue c = Unit {0}

  -- no step is done with no turn left
  pub no-turns : (ws : List Waiting) (c : Code) (l : Own) (h : Heap) → IsDue c → resumed u fits ws (whole u fits c (record { turns = 0; own = l; heap = h })) ≡ resumed u fits ws (Fails NoTurns 0 l.printed h)
  no-turns ws End l h due = absurd due
  no-turns ws (Give at w x) l h due = refl
  no-turns ws (Return at a) l h due = refl
  no-turns ws (Do at i rest) l h due = refl
  no-turns ws (If at e own1 a own2 b rest) l h due = refl
  no-turns ws (While at e own body rest) l h due = refl
  no-turns ws (Par at own1 a own2 b rest) l h due = refl
  no-turns ws (Recover at x own hides body rest) l h due = refl

  -- ---------- steps ----------
  -- what comes behind may be unfolded or not
  then-whole : (c : Code) (r : Result) → then_do r (does u fits (whole u fits) c) ≡ then_do r (whole u fits c)
  then-whole c (Well m) = sym (unfolds u fits c m)
  then-whole c (Gave v m) = refl
  then-whole c (Handed x v m) = refl
  then-whole c (Fails e t p h) = refl
  then-whole c Full = refl
  then-whole c Stuck = refl

  module _ (ws : List Waiting) (t : ℕ) (l : Own) (h : Heap) where
    -- the moment before the turn is spent
    abbrev pub before : Moment
    before = record { turns = suc t; own = l; heap = h }

    -- and behind it
    abbrev pub spent : Moment
    spent = record { turns = t; own = l; heap = h }

    -- ---------- simple statements ----------
    -- what a simple statement does
    pub simple-is : (at : Span) (i : Instruction) (rest : Code)
        → resumed u fits ws (whole u fits (Do at i rest) before) ≡ resumed u fits ws (then_do (doing u fits (whole u fits) at (effect tagged u marks i l) spent) (whole u fits rest))
    simple-is at i rest = ap (resumed u fits ws) (unfolds u fits (Do at i rest) before ∙ then-whole rest (doing u fits (whole u fits) at (effect tagged u marks i l) spent))

    -- nothing is meant of it
    pub simple-sticks : (at : Span) (i : Instruction) (rest : Code) → effect tagged u marks i l ≡ Sticks → resumed u fits ws (whole u fits (Do at i rest) before) ≡ Stuck
    simple-sticks at i rest e =
        simple-is at i rest ∙ ap (λ x. resumed u fits ws (then_do (doing u fits (whole u fits) at x spent) (whole u fits rest))) e ∙ resumed-stuck ws

    module _ (at : Span) (i : Instruction) (rest : Code) (o : Op) (told : Held → Act Held Mark) (asks : effect tagged u marks i l ≡ Does o told) where
      by-answer : (a : Answer Held) → find fits o h ≡ a
          → resumed u fits ws (whole u fits (Do at i rest) before) ≡ resumed u fits ws (then_do (answered u fits (whole u fits) a o at told spent) (whole u fits rest))
      by-answer a e =
          simple-is at i rest
          ∙ ap (λ x. resumed u fits ws (then_do (doing u fits (whole u fits) at x spent) (whole u fits rest))) asks
          ∙ ap (λ x. resumed u fits ws (then_do (answered u fits (whole u fits) x o at told spent) (whole u fits rest))) e

      module _ (v : Held) (found : find fits o h ≡ Found v) where
        by-act : (a : Act Held Mark) → told v ≡ a
            → resumed u fits ws (whole u fits (Do at i rest) before)
            ≡ resumed u fits ws (then_do (perform u fits (whole u fits) at (record { turns = t; own = l; heap = after u fits o h }) a) (whole u fits rest))
        by-act a e =
            by-answer (Found v) found
            ∙ ap (λ x. resumed u fits ws (then_do (perform u fits (whole u fits) at (record { turns = t; own = l; heap = after u fits o h }) x) (whole u fits rest))) e

        -- it traps
        pub simple-traps : (k : TrapKind) → told v ≡ Halts k → resumed u fits ws (whole u fits (Do at i rest) before) ≡ resumed u fits ws (Fails (Trapped k at) t l.printed (after u fits o h))
        simple-traps k e = by-act (Halts k) e

        -- it calls
        pub simple-calls : (c : Calling Held) (k : Own) → told v ≡ Calls c k
            → resumed u fits ws (whole u fits (Do at i rest) before)
            ≡ resumed u fits (ForCall k c.into rest ∷ ws) (whole u fits c.code (record { turns = t; own = record k { vars = c.first; routine = c.routine; depth = suc k.depth }; heap = after u fits o h }))
        simple-calls c k e = by-act (Calls c k) e

    -- ---------- tests ----------
    module _ (at : Span) (e : Term) (own1 : List ℕ) (a : Code) (own2 : List ℕ) (b rest : Code) where
      if-is : (x : Eval Held) → eval tagged e l.vars ≡ x → resumed u fits ws (whole u fits (If at e own1 a own2 b rest) before)
          ≡ resumed u fits ws (then_do (on_test x at spent (λ m. close own1 (whole u fits a m)) (λ m. close own2 (whole u fits b m))) (whole u fits rest))
      if-is x q =
          ap (resumed u fits ws)
          (unfolds u fits (If at e own1 a own2 b rest) before
          ∙ then-whole rest (on_test (eval tagged e l.vars) at spent (λ m. close own1 (does u fits (whole u fits) a m)) (λ m. close own2 (does u fits (whole u fits) b m)))
          ∙ (λ j. then_do (on_test (eval tagged e l.vars) at spent (λ m. close own1 (sym (unfolds u fits a m) j)) (λ m. close own2 (sym (unfolds u fits b m) j))) (whole u fits rest)))
          ∙ ap (λ y. resumed u fits ws (then_do (on_test y at spent (λ m. close own1 (whole u fits a m)) (λ m. close own2 (whole u fits b m))) (whole u fits rest))) q

      -- the test is mistyped
      pub if-mistyped : eval tagged e l.vars ≡ Mistyped → resumed u fits ws (whole u fits (If at e own1 a own2 b rest) before) ≡ Stuck
      if-mistyped q = if-is Mistyped q ∙ resumed-stuck ws

      -- the test gives no truth value
      pub if-sticks : (v : Held) → tagged.as_truth v ≡ None → eval tagged e l.vars ≡ Gives v → resumed u fits ws (whole u fits (If at e own1 a own2 b rest) before) ≡ Stuck
      if-sticks v n q =
          if-is (Gives v) q
          ∙ ap (λ r. resumed u fits ws (then_do r (whole u fits rest))) (no-truth v at spent (λ m. close own1 (whole u fits a m)) (λ m. close own2 (whole u fits b m)) n)
          ∙ resumed-stuck ws

      -- the first block
      pub if-true : eval tagged e l.vars ≡ Gives (Some (Truth true)) → resumed u fits ws (whole u fits (If at e own1 a own2 b rest) before) ≡ resumed u fits (ForBlock own1 rest ∷ ws) (whole u fits a spent)
      if-true q = if-is (Gives (Some (Truth true))) q

      -- the other one
      pub if-false : eval tagged e l.vars ≡ Gives (Some (Truth false)) → resumed u fits ws (whole u fits (If at e own1 a own2 b rest) before) ≡ resumed u fits (ForBlock own2 rest ∷ ws) (whole u fits b spent)
      if-false q = if-is (Gives (Some (Truth false))) q

      -- the test traps
      pub if-traps : (k : TrapKind) → eval tagged e l.vars ≡ Traps k → resumed u fits ws (whole u fits (If at e own1 a own2 b rest) before) ≡ resumed u fits ws (Fails (Trapped k at) t l.printed h)
      if-traps k q = if-is (Traps k) q

    module _ (at : Span) (e : Term) (own : List ℕ) (body rest : Code) where
      while-is : (x : Eval Held) → eval tagged e l.vars ≡ x → resumed u fits ws (whole u fits (While at e own body rest) before)
          ≡ resumed u fits ws (on_test x at spent (λ m. then_do (close own (whole u fits body m)) (whole u fits (While at e own body rest))) (whole u fits rest))
      while-is x q =
          ap (resumed u fits ws)
          (unfolds u fits (While at e own body rest) before
          ∙ (λ j. on_test (eval tagged e l.vars) at spent (λ m. then_do (close own (sym (unfolds u fits body m) j)) (whole u fits (While at e own body rest))) (λ m. sym (unfolds u fits rest m) j)))
          ∙ ap (λ y. resumed u fits ws (on_test y at spent (λ m. then_do (close own (whole u fits body m)) (whole u fits (While at e own body rest))) (whole u fits rest))) q

      -- the test is mistyped
      pub while-mistyped : eval tagged e l.vars ≡ Mistyped → resumed u fits ws (whole u fits (While at e own body rest) before) ≡ Stuck
      while-mistyped q = while-is Mistyped q ∙ resumed-stuck ws

      -- the test gives no truth value
      pub while-sticks : (v : Held) → tagged.as_truth v ≡ None → eval tagged e l.vars ≡ Gives v → resumed u fits ws (whole u fits (While at e own body rest) before) ≡ Stuck
      while-sticks v n q = while-is (Gives v) q ∙ ap (resumed u fits ws) (no-truth v at spent (λ m. then_do (close own (whole u fits body m)) (whole u fits (While at e own body rest))) (whole u fits rest) n) ∙ resumed-stuck ws

      -- one round more
      pub while-true : eval tagged e l.vars ≡ Gives (Some (Truth true)) → resumed u fits ws (whole u fits (While at e own body rest) before) ≡ resumed u fits (ForBlock own (While at e own body rest) ∷ ws) (whole u fits body spent)
      while-true q = while-is (Gives (Some (Truth true))) q

      -- the loop is over
      pub while-false : eval tagged e l.vars ≡ Gives (Some (Truth false)) → resumed u fits ws (whole u fits (While at e own body rest) before) ≡ resumed u fits ws (whole u fits rest spent)
      while-false q = while-is (Gives (Some (Truth false))) q

      -- the test traps
      pub while-traps : (k : TrapKind) → eval tagged e l.vars ≡ Traps k → resumed u fits ws (whole u fits (While at e own body rest) before) ≡ resumed u fits ws (Fails (Trapped k at) t l.printed h)
      while-traps k q = while-is (Traps k) q

    -- ---------- pars and recover blocks ----------
    module _ (at : Span) (own1 : List ℕ) (a : Code) (own2 : List ℕ) (b rest : Code) where
      par-is : (x : Bool) → nat_lt l.depth depth_limit ≡ x → resumed u fits ws (whole u fits (Par at own1 a own2 b rest) before)
          ≡ resumed u fits ws (then_do (choose x (λ m. par_of (blocks own1 a own2 b) m (whole u fits a (left_of m)) (λ k. whole u fits b (right_of m k))) (meaning.trap at StackOverflow) spent) (whole u fits rest))
      par-is x q =
          ap (resumed u fits ws)
          (unfolds u fits (Par at own1 a own2 b rest) before
          ∙ then-whole rest (choose (nat_lt l.depth depth_limit) (λ m. par_of (blocks own1 a own2 b) m (does u fits (whole u fits) a (left_of m)) (λ k. does u fits (whole u fits) b (right_of m k))) (meaning.trap at StackOverflow) spent)
          ∙ (λ j. then_do (choose (nat_lt l.depth depth_limit) (λ m. par_of (blocks own1 a own2 b) m (sym (unfolds u fits a (left_of m)) j) (λ k. sym (unfolds u fits b (right_of m k)) j)) (meaning.trap at StackOverflow) spent) (whole u fits rest)))
          ∙ ap (λ y. resumed u fits ws (then_do (choose y (λ m. par_of (blocks own1 a own2 b) m (whole u fits a (left_of m)) (λ k. whole u fits b (right_of m k))) (meaning.trap at StackOverflow) spent) (whole u fits rest))) q

      -- the left side runs first
      pub par-left : nat_lt l.depth depth_limit ≡ true → resumed u fits ws (whole u fits (Par at own1 a own2 b rest) before) ≡ resumed u fits (ForLeft (blocks own1 a own2 b) spent rest ∷ ws) (whole u fits a (left_of spent))
      par-left q = par-is true q

      -- a par at the depth limit traps
      pub par-traps : nat_lt l.depth depth_limit ≡ false → resumed u fits ws (whole u fits (Par at own1 a own2 b rest) before) ≡ resumed u fits ws (Fails (Trapped StackOverflow at) t l.printed h)
      par-traps q = par-is false q

    -- a recover block runs
    pub recover-is : (at : Span) (x : ℕ) (own hides : List ℕ) (body rest : Code) → resumed u fits ws (whole u fits (Recover at x own hides body rest) before) ≡ resumed u fits (ForRecover own rest ∷ ws) (whole u fits body spent)
    recover-is at x own hides body rest =
        ap (resumed u fits ws)
        (unfolds u fits (Recover at x own hides body rest) before
        ∙ then-whole rest (recovered own (does u fits (whole u fits) body spent))
        ∙ ap (λ r. then_do (recovered own r) (whole u fits rest)) (sym (unfolds u fits body spent)))

    -- its end gives a value
    pub give-is : (own : List ℕ) (rest : Code) (at : Span) (w x : ℕ) (v : Held) → look_up tagged l.vars w ≡ Gives v
        → resumed u fits (ForRecover own rest ∷ ws) (whole u fits (Give at w x) before)
        ≡ resumed u fits ws (whole u fits rest (set_vars spent (assign (clear_all tagged (clear tagged l.vars w) own) x v)))
    give-is own rest at w x v q =
        ap (resumed u fits (ForRecover own rest ∷ ws)) (unfolds u fits (Give at w x) before ∙ ap (λ e. on_value e at spent (λ v. Handed x v (set_vars spent (clear tagged l.vars w)))) q)

    -- a method gives a value back
    pub return-is : (at : Span) (a : Argument) (e : Eval Held) → value_of tagged a l.vars ≡ e → resumed u fits ws (whole u fits (Return at a) before) ≡ resumed u fits ws (on_value e at spent (λ v. Gave v spent))
    return-is at a e q = ap (resumed u fits ws) (unfolds u fits (Return at a) before ∙ ap (λ e. on_value e at spent (λ v. Gave v spent)) q)

-- what the run of a unit comes to: its opening is followed by the body of `Run`, for which nothing waits
pub outcome-of : (u : UnitCode) (limit : ℕ) (input : List ℤ) (turns : ℕ) (r : Routine) → slice_get u.routines u.run ≡ Some r → opening_need u input ≤ limit
    → outcome u input turns limit ≡ reported_result turns (resumed u (within limit) [] (whole u (within limit) r.code (opening u input turns r)))
outcome-of u limit input turns r e le = outcome-is u limit input turns r e le
