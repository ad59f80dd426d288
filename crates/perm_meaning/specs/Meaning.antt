-- What a program means: left then right, on named objects.
use Rattle.std.specs.Prelude.{ℕ, zero, suc, ◌-◌, ◌/◌, Bool, true, false, ℤ, List, [], Option, Some, None, nat_lt}
use Rattle.perm_tree.specs.declared.ast.Span.{Span}
use Rattle.perm_tree.specs.declared.errors.TrapKind.{TrapKind}
use Rattle.perm_tree.specs.declared.errors.TrapKind.TheVariants.{StackOverflow}
use Rattle.perm_tree.specs.Code.{Code, End, Give, Return, Do, If, While, Par, Recover, UnitCode}
use Rattle.perm_meaning.specs.Values.{Eval, Gives, Traps, Mistyped}
use Rattle.perm_meaning.specs.Expressions.{tagged, assign, assign_into, look_up, clear, clear_all, eval, value_of}
use Rattle.perm_meaning.specs.Names.{Name, Mark, Side, OnLeft, OnRight, side_mark, after_par}
use Rattle.perm_meaning.specs.Machine.{Blocks, Failure, Trapped, NoTurns, Final, Fine, GaveBack, Failed, join_final}
use Rattle.perm_meaning.specs.Effects.{Act, GoesOn, Calls, Halts, Resumption, Does, Sticks, choose, depth_limit, effect}
use Rattle.perm_meaning.specs.Custody.{merged, writes_l, writes_r}
use Rattle.perm_meaning.specs.Turns.{blocks}
use Rattle.perm_meaning.specs.NamedHeap.{Heap, Held, Op, Own, marks, find, after}
use Rattle.perm_meaning.specs.Steps.{Answer, Found, Refused, Missing}

-- ---------- moments and results ----------
-- where a branch stands in a run: the turns left, what its turns may change, and the heap, whose number of words given is the need so far
pub record Moment : Type 0 where
  pub turns : ℕ
  pub own : Own
  pub heap : Heap

-- how code ends: it is done; a method gives back a value; a recover block gives a value for the variable x; the branch fails, with the turns left, the printed numbers and the heap; the heap is full, which ends the whole run; or it is stuck
pub data Result : Type 0 where
  Well : (m : Moment) → Result
  Gave : (v : Held) (m : Moment) → Result
  Handed : (x : ℕ) (v : Held) (m : Moment) → Result
  Fails : (e : Failure) (turns : ℕ) (printed : List ℤ) (h : Heap) → Result
  Full : Result
  Stuck : Result

-- the branch fails at a moment
abbrev pub fail : Failure → Moment → Result
fail e m = Fails e m.turns m.own.printed m.heap

-- the branch traps at a moment
abbrev pub trap : Span → TrapKind → Moment → Result
trap at t m = fail (Trapped t at) m

-- the moment with other variables
abbrev pub set_vars : Moment → List Held → Moment
set_vars m vs = record m { own = record m.own { vars = vs } }

-- each step spends one turn, and a step that is due with no turn left ends the branch
abbrev pub spend : Moment → (Moment → Result) → Result
spend m go = from m.turns
  where
    from : ℕ → Result
    from zero = fail NoTurns m
    from (suc t) = go (record m { turns = t })

-- what comes after code that is done
abbrev pub then_do : Result → (Moment → Result) → Result
then_do (Well m) go = go m
then_do (Gave v m) go = Stuck
then_do (Handed x v m) go = Stuck
then_do (Fails e t p h) go = Fails e t p h
then_do Full go = Full
then_do Stuck go = Stuck

-- at the end of a block its own variables lose their values
abbrev pub close : List ℕ → Result → Result
close own r = then_do r (λ m. Well (set_vars m (clear_all tagged m.own.vars own)))

-- at the end of a recover block its own variables lose their values, and the one that it gives a value for takes that
abbrev pub recovered : List ℕ → Result → Result
recovered own (Handed x v r) = Well (set_vars r (assign (clear_all tagged r.own.vars own) x v))
recovered own (Gave v r) = Stuck
recovered own (Well r) = Stuck
recovered own (Fails e t p h) = Fails e t p h
recovered own Full = Full
recovered own Stuck = Stuck

-- ---------- what is needed of values ----------
-- go one of two ways by a truth value
abbrev pub on_test : Eval Held → Span → Moment → (Moment → Result) → (Moment → Result) → Result
on_test (Gives v) at m first second = by_truth (tagged.as_truth v)
  where
    by_truth : Option Bool → Result
    by_truth None = Stuck
    by_truth (Some true) = first m
    by_truth (Some false) = second m
on_test (Traps t) at m first second = trap at t m
on_test Mistyped at m first second = Stuck

-- go on with a value, or trap
abbrev pub on_value : Eval Held → Span → Moment → (Held → Result) → Result
on_value (Gives v) at m go = go v
on_value (Traps t) at m go = trap at t m
on_value Mistyped at m go = Stuck

-- ---------- pars ----------
-- a side's own part: one deeper, with the mark of that side, a copy of the variables, and nothing printed
abbrev pub side_own : Side → Own → Own
side_own s l = record l { depth = suc l.depth; printed = []; mark = side_mark s l.mark }

-- the right side gets half of the turns, rounded down, and the left side the rest
abbrev pub left_of : Moment → Moment
left_of m = record { turns = m.turns - m.turns / 2; own = side_own OnLeft m.own; heap = m.heap }

-- the right side runs on the heap that the left one leaves
abbrev pub right_of : Moment → Heap → Moment
right_of m h = record { turns = m.turns / 2; own = side_own OnRight m.own; heap = h }

-- a side has ended well or has failed
abbrev pub on_final : Result → (Final Held → Heap → Result) → Result
on_final (Well m) go = go (Fine m.own.vars m.turns m.own.printed) m.heap
on_final (Gave v m) go = Stuck
on_final (Handed x v m) go = Stuck
on_final (Fails e t p h) go = go (Failed e t p) h
on_final Full go = Full
on_final Stuck go = Stuck

-- the parent goes on as its sides have ended
abbrev pub after_join : Moment → Final Held → Heap → Result
after_join m (Fine vs t p) h = Well (record { turns = t; own = record m.own { vars = vs; printed = p; mark = after_par m.own.mark }; heap = h })
after_join m (GaveBack v t p) h = Stuck
after_join m (Failed e t p) h = Fails e t p h

-- the right side runs also where the left one failed. The variables that a side writes are taken from it
abbrev pub par_of : Blocks → Moment → Result → (Heap → Result) → Result
par_of p m left right =
    on_final left (λ x h. on_final (right h) (λ y h1. after_join m (join_final (merged (writes_l p) (writes_r p)) m.own.vars m.own.printed x y) h1))

module _ (u : UnitCode) (fits : ℕ → Bool) (again : Code → Moment → Result) where
  -- ---------- simple statements ----------
  -- the caller's variables and method are back, one level up, and take the value that the method gives back
  abbrev pub returned : Own → Option ℕ → Result → Result
  returned l into (Gave v r) = Well (record r { own = record r.own { vars = assign_into l.vars into v; routine = l.routine; depth = r.own.depth - 1 } })
  returned l into (Handed x v r) = Stuck
  returned l into (Well r) = Stuck
  returned l into (Fails e t p h) = Fails e t p h
  returned l into Full = Full
  returned l into Stuck = Stuck

  -- what a simple statement does at a moment
  abbrev pub perform : Span → Moment → Act Held Mark → Result
  perform at m (GoesOn l) = Well (record m { own = l })
  perform at m (Calls c l) = returned l c.into (again c.code (record m { own = record l { vars = c.first; routine = c.routine; depth = suc l.depth } }))
  perform at m (Halts t) = trap at t m

  -- it goes on with what the heap answers
  abbrev pub answered : Answer Held → Op → Span → (Held → Act Held Mark) → Moment → Result
  answered (Found v) o at told m = perform at (record m { heap = after u fits o m.heap }) (told v)
  answered Refused o at told m = Full
  answered Missing o at told m = Stuck

  -- the effect of a simple statement at a moment
  abbrev pub doing : Span → Resumption Held Name Mark → Moment → Result
  doing at (Does o told) m = answered (find fits o m.heap) o at told m
  doing at Sticks m = Stuck

  -- ---------- code ----------
  -- what code does, where a loop's next round and a method's code are again's
  abbrev pub does : Code → Moment → Result
  does End m = Well m
  does (Give at w x) m = spend m (λ m. on_value (look_up tagged m.own.vars w) at m (λ v. Handed x v (set_vars m (clear tagged m.own.vars w))))
  does (Return at a) m = spend m (λ m. on_value (value_of tagged a m.own.vars) at m (λ v. Gave v m))
  does (Do at i rest) m = then_do (spend m (λ m. doing at (effect tagged u marks i m.own) m)) (does rest)
  does (If at e own1 a own2 b rest) m =
      then_do (spend m (λ m. on_test (eval tagged e m.own.vars) at m (λ m. close own1 (does a m)) (λ m. close own2 (does b m)))) (does rest)
  does (While at e own body rest) m =
      spend m (λ m. on_test (eval tagged e m.own.vars) at m (λ m. then_do (close own (does body m)) (again (While at e own body rest))) (does rest))
  does (Par at own1 a own2 b rest) m =
      then_do (spend m (choose (nat_lt m.own.depth depth_limit)
      (λ m. par_of (blocks own1 a own2 b) m (does a (left_of m)) (λ h. does b (right_of m h)))
      (trap at StackOverflow))) (does rest)
  does (Recover at x own hides body rest) m = then_do (spend m (λ m. recovered own (does body m))) (does rest)

-- what code does, where at most n rounds of loops and calls are open one in another
abbrev pub mean : UnitCode → (ℕ → Bool) → ℕ → Code → Moment → Result
mean u fits zero c m = does u fits (λ c m. fail NoTurns m) c m
mean u fits (suc n) c m = does u fits (λ c m. mean u fits n c m) c m
