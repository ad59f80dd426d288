-- The turn of any code: what it asks of the heap, and what it leaves of its branch.
use Rattle.std.specs.Prelude.{ℕ, suc, ◌-◌, Bool, true, false, List, [], ◌∷◌, Option, Some, None, nat_lt, cond}
use Rattle.perm_tree.specs.declared.ast.Span.{Span}
use Rattle.perm_tree.specs.declared.errors.TrapKind.{TrapKind}
use Rattle.perm_tree.specs.declared.errors.TrapKind.TheVariants.{StackOverflow}
use Rattle.perm_tree.specs.Code.{Code, End, Give, Return, Do, If, While, Par, Recover, UnitCode}
use Rattle.perm_meaning.specs.Values.{Eval, Gives, Traps, Mistyped}
use Rattle.perm_meaning.specs.Expressions.{Reading, assign, assign_into, look_up, clear, clear_all, eval, value_of}
use Rattle.perm_meaning.specs.Machine.{Own, Frame, OpenBlock, OpenRecover, OpenCall, Blocks, Trapped, Marks, Did, On, Splits, Ends, Dies, Turn, Takes, NoTurn, Machine}
use Rattle.perm_meaning.specs.Effects.{Op, Tick, Calling, Act, GoesOn, Calls, Halts, Resumption, Does, Sticks, depth_limit, effect, with_vars}
use Rattle.perm_meaning.specs.Custody.{Custody, parting, within_recover, laid_by, back_from_recover, while_called, lent_by}

-- the two blocks of a par
abbrev pub blocks : List ℕ → Code → List ℕ → Code → Blocks
blocks own1 a own2 b = record { own_l = own1; left = a; own_r = own2; right = b }

-- what was lent is back
abbrev pub lent_back : {V : Type 0} → Option V → ℕ → List V → List V
lent_back None y vs = vs
lent_back (Some v) y vs = assign vs y v

module _ {V R G : Type 0} (k : Reading V R) (c : Custody) where
  -- a turn that asks nothing of the heap
  abbrev pub tick : Did V G → Turn V G (Op V R G)
  tick d = Takes Tick (λ w. d)

  -- a turn that traps
  abbrev pub trap : Span → TrapKind → Turn V G (Op V R G)
  trap at t = tick (Dies (Trapped t at))

  -- ---------- calls ----------
  -- the method's code stands above the open call
  abbrev pub called : Calling V → Own V G → Code → List (Frame V) → Did V G
  called x l rest st =
      On (record l { vars = x.first; routine = x.routine; depth = suc l.depth }) x.code
      (OpenCall x.tie x.into x.y (while_called k c x.tie x.y l.vars) (lent_by c x.tie x.receiver) l.routine rest ∷ st)

  -- the caller's variables are back, and the result is assigned; with no open call the run ends with it
  abbrev pub returned : V → List (Frame V) → Own V G → Turn V G (Op V R G)
  returned v [] l = tick (Ends v)
  returned v (OpenCall tie into y saved lent caller rest ∷ st) l =
      tick (On (record l { vars = assign_into (lent_back lent y saved) into v; routine = caller; depth = l.depth - 1 }) rest st)
  returned v _ l = NoTurn

  -- ---------- simple statements ----------
  -- what a simple statement leaves of its branch
  abbrev pub acted : Span → Code → List (Frame V) → Act V G → Did V G
  acted at rest st (GoesOn l) = On l rest st
  acted at rest st (Calls x l) = called x l rest st
  acted at rest st (Halts t) = Dies (Trapped t at)

  -- the turn of a simple statement
  abbrev pub turn_of : Span → Code → List (Frame V) → Resumption V R G → Turn V G (Op V R G)
  turn_of at rest st (Does o told) = Takes o (λ w. acted at rest st (told w))
  turn_of at rest st Sticks = NoTurn

  -- ---------- what is needed of values ----------
  -- go on with a value, or trap
  abbrev pub on_value : Eval V → Span → (V → Turn V G (Op V R G)) → Turn V G (Op V R G)
  on_value (Gives v) at go = go v
  on_value (Traps t) at go = trap at t
  on_value Mistyped at go = NoTurn

  -- one of two turns, by a truth value
  abbrev pub by_truth : Option Bool → Turn V G (Op V R G) → Turn V G (Op V R G) → Turn V G (Op V R G)
  by_truth None first second = NoTurn
  by_truth (Some true) first second = first
  by_truth (Some false) first second = second

  -- one of two turns, by what a condition gives
  abbrev pub on_test : Eval V → Span → Turn V G (Op V R G) → Turn V G (Op V R G) → Turn V G (Op V R G)
  on_test (Gives v) at first second = by_truth (k.as_truth v) first second
  on_test (Traps t) at first second = trap at t
  on_test Mistyped at first second = NoTurn

  -- the end of a recover block: its own variables and the given one lose their values, the hidden ones are back, and x takes what is given
  abbrev pub given_back : Eval V → ℕ → ℕ → List (Frame V) → Own V G → Turn V G (Op V R G)
  given_back (Gives v) w x (OpenRecover own hides saved rest ∷ st) l =
      tick (On (with_vars k l (assign (back_from_recover k c hides saved (clear_all k (clear k l.vars w) own)) x v)) rest st)
  given_back e w x st l = NoTurn

  -- the turn of a branch with this code and stack
  abbrev pub turn : UnitCode → Marks G → Code → List (Frame V) → Own V G → Turn V G (Op V R G)
  turn u g End st l = NoTurn
  turn u g (Give at w x) st l = given_back (look_up k l.vars w) w x st l
  turn u g (Return at a) st l = on_value (value_of k a l.vars) at (λ v. returned v st l)
  turn u g (Do at i rest) st l = turn_of at rest st (effect k u g i l)
  turn u g (If at e own1 a own2 b rest) st l = on_test (eval k e l.vars) at (tick (On l a (OpenBlock own1 rest ∷ st))) (tick (On l b (OpenBlock own2 rest ∷ st)))
  turn u g (While at e own body rest) st l = on_test (eval k e l.vars) at (tick (On l body (OpenBlock own (While at e own body rest) ∷ st))) (tick (On l rest st))
  turn u g (Par at own1 a own2 b rest) st l = cond (nat_lt l.depth depth_limit) (tick (Splits (blocks own1 a own2 b) rest)) (trap at StackOverflow)
  turn u g (Recover at x own hides body rest) st l =
      tick (On (with_vars k l (within_recover k c hides l.vars)) body (OpenRecover own hides (laid_by k c hides l.vars) rest ∷ st))

-- the machine of a unit
abbrev pub machine : {V R G : Type 0} → Reading V R → Custody → Marks G → UnitCode → Machine V G (Op V R G)
machine k c g u = record {
  marks = g;
  parting = parting c k u;
  clear_own = clear_all k;
  idle = Tick;
  turn = turn k c u g;
}
