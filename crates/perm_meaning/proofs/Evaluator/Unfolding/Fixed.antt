-- What code does is one fixed point.
use Rattle.std.proofs.Common.{ℕ, zero, suc, ◌≤◌, ◌<◌, Bool, Option, refl, subst, arith, le_refl}
use Rattle.std.specs.Prelude.{nat_lt}
use Rattle.perm_tree.specs.declared.ast.Span.{Span}
use Rattle.perm_tree.specs.declared.errors.TrapKind.TheVariants.{StackOverflow}
use Rattle.perm_tree.specs.Code.{Code, End, Give, Return, Do, If, While, Par, Recover, UnitCode}
use Rattle.perm_meaning.specs.Values.{Eval, Gives, Traps, Mistyped}
use Rattle.perm_meaning.specs.Expressions.{tagged, clear, look_up, eval, value_of}
use Rattle.perm_meaning.specs.Names.{Name, Mark}
use Rattle.perm_meaning.specs.Machine.{NoTurns}
use Rattle.perm_meaning.specs.Effects.{choose, Act, GoesOn, Calls, Halts, Resumption, Does, Sticks, depth_limit, effect}
use Rattle.perm_meaning.specs.Turns.{blocks}
use Rattle.perm_meaning.specs.NamedHeap.{Held, Op, Own, marks, find, after}
use Rattle.perm_meaning.specs.Steps.{Answer, Found, Refused, Missing}
use Rattle.perm_meaning.specs.Meaning as meaning
use Rattle.perm_meaning.specs.Meaning.{Moment, Result, Well, Gave, Handed, Fails, Full, Stuck, fail, left_of, right_of, set_vars, then_do, close, recovered, on_test, on_value, par_of, perform, answered, doing, does, mean}
use Rattle.perm_meaning.specs.Evaluator.WholeCode.{whole, Unfolds}
use Rattle.perm_meaning.proofs.Evaluator.Unfolding.Same.{Leaves, Same, itself, then-same, close-same, recovered-same, spend-same, test-same, depth-same, par-same}

module _ (u : UnitCode) (fits : ℕ → Bool) (t : ℕ) (f g : Code → Moment → Result) (less : (c : Code) (m : Moment) → m.turns < t → Same m.turns (f c m) (g c m)) where
  returned-itself : (n : ℕ) (l : Own) (into : Option ℕ) (r : Result) → Leaves n r → Same n (meaning.returned u fits f l into r) (meaning.returned u fits g l into r)
  returned-itself n l into (Well m) b = itself n Stuck tt
  returned-itself n l into (Gave v m) b = (b, refl)
  returned-itself n l into (Handed x v m) b = itself n Stuck tt
  returned-itself n l into (Fails e w p h) b = itself n (Fails e w p h) b
  returned-itself n l into Full b = itself n Full tt
  returned-itself n l into Stuck b = itself n Stuck tt

  -- what a simple statement does, whatever it is
  act-same : (at : Span) (m : Moment) (a : Act Held Mark) → m.turns < t → Same m.turns (perform u fits f at m a) (perform u fits g at m a)
  act-same at m (GoesOn l) lt = itself m.turns (Well (record m { own = l })) (le_refl m.turns)
  act-same at m (Halts k) lt = itself m.turns (meaning.trap at k m) (le_refl m.turns)
  act-same at m (Calls c l) lt =
      let begun : Moment = record m { own = record l { vars = c.first; routine = c.routine; depth = suc l.depth } } in
      let x = less c.code begun lt in
      subst (λ (z : Result). Same m.turns (meaning.returned u fits f l c.into (f c.code begun)) (meaning.returned u fits g l c.into z)) x.1
      (returned-itself m.turns l c.into (f c.code begun) x.0)

  answered-same : (a : Answer Held) (o : Op) (at : Span) (told : Held → Act Held Mark) (m : Moment) → m.turns < t
      → Same m.turns (answered u fits f a o at told m) (answered u fits g a o at told m)
  answered-same (Found v) o at told m lt = act-same at (record m { heap = after u fits o m.heap }) (told v) lt
  answered-same Refused o at told m lt = itself m.turns Full tt
  answered-same Missing o at told m lt = itself m.turns Stuck tt

  -- the effect of a simple statement
  doing-same : (at : Span) (e : Resumption Held Name Mark) (m : Moment) → m.turns < t → Same m.turns (doing u fits f at e m) (doing u fits g at e m)
  doing-same at (Does o told) m lt = answered-same (find fits o m.heap) o at told m lt
  doing-same at Sticks m lt = itself m.turns Stuck tt

  -- a value that is given
  leaves-value : (e : Eval Held) (at : Span) (m : Moment) (go : Held → Result) → ((v : Held) → Leaves m.turns (go v)) → Leaves m.turns (on_value e at m go)
  leaves-value (Gives v) at m go b = b v
  leaves-value (Traps k) at m go b = le_refl m.turns
  leaves-value Mistyped at m go b = tt

  -- what code does
  does-same : (c : Code) (m : Moment) → m.turns ≤ t → Same m.turns (does u fits f c m) (does u fits g c m)
  does-same End m le = itself m.turns (Well m) (le_refl m.turns)
  does-same (Give at w x) m le =
      let go : Moment → Result = λ z. on_value (look_up tagged z.own.vars w) at z (λ v. Handed x v (set_vars z (clear tagged z.own.vars w))) in
      spend-same m.turns m.own m.heap go go
      (λ k q. itself k (go (record m { turns = k })) (leaves-value (look_up tagged m.own.vars w) at (record m { turns = k }) (λ v. Handed x v (set_vars (record m { turns = k }) (clear tagged m.own.vars w))) (λ v. le_refl k)))
  does-same (Return at a) m le =
      let go : Moment → Result = λ z. on_value (value_of tagged a z.own.vars) at z (λ v. Gave v z) in
      spend-same m.turns m.own m.heap go go
      (λ k q. itself k (go (record m { turns = k })) (leaves-value (value_of tagged a m.own.vars) at (record m { turns = k }) (λ v. Gave v (record m { turns = k })) (λ v. le_refl k)))
  does-same (Do at i rest) m le =
      then-same m.turns _ _ (does u fits f rest) (does u fits g rest)
      (spend-same m.turns m.own m.heap (λ z. doing u fits f at (effect tagged u marks i z.own) z) (λ z. doing u fits g at (effect tagged u marks i z.own) z)
      (λ k q. doing-same at (effect tagged u marks i m.own) (record m { turns = k }) (omega (arith, q, le))))
      (λ z lz. does-same rest z (omega (arith, lz, le)))
  does-same (If at e own1 a own2 b rest) m le =
      then-same m.turns _ _ (does u fits f rest) (does u fits g rest)
      (spend-same m.turns m.own m.heap
      (λ z. on_test (eval tagged e z.own.vars) at z (λ m. close own1 (does u fits f a m)) (λ m. close own2 (does u fits f b m)))
      (λ z. on_test (eval tagged e z.own.vars) at z (λ m. close own1 (does u fits g a m)) (λ m. close own2 (does u fits g b m)))
      (λ k q. test-same (record m { turns = k }) (eval tagged e m.own.vars) at _ _ _ _
      (close-same k own1 _ _ (does-same a (record m { turns = k }) (omega (arith, q, le))))
      (close-same k own2 _ _ (does-same b (record m { turns = k }) (omega (arith, q, le))))))
      (λ z lz. does-same rest z (omega (arith, lz, le)))
  does-same (While at e own body rest) m le =
      spend-same m.turns m.own m.heap
      (λ z. on_test (eval tagged e z.own.vars) at z (λ m. then_do (close own (does u fits f body m)) (f (While at e own body rest))) (does u fits f rest))
      (λ z. on_test (eval tagged e z.own.vars) at z (λ m. then_do (close own (does u fits g body m)) (g (While at e own body rest))) (does u fits g rest))
      (λ k q. test-same (record m { turns = k }) (eval tagged e m.own.vars) at _ _ _ _
      (then-same k _ _ (f (While at e own body rest)) (g (While at e own body rest))
      (close-same k own _ _ (does-same body (record m { turns = k }) (omega (arith, q, le))))
      (λ z lz. less (While at e own body rest) z (omega (arith, lz, q, le))))
      (does-same rest (record m { turns = k }) (omega (arith, q, le))))
  does-same (Par at own1 a own2 b rest) m le =
      then-same m.turns _ _ (does u fits f rest) (does u fits g rest)
      (spend-same m.turns m.own m.heap
      (λ z. choose (nat_lt z.own.depth depth_limit) (λ z. par_of (blocks own1 a own2 b) z (does u fits f a (left_of z)) (λ h. does u fits f b (right_of z h))) (meaning.trap at StackOverflow) z)
      (λ z. choose (nat_lt z.own.depth depth_limit) (λ z. par_of (blocks own1 a own2 b) z (does u fits g a (left_of z)) (λ h. does u fits g b (right_of z h))) (meaning.trap at StackOverflow) z)
      (λ k q. depth-same (record m { turns = k }) (nat_lt m.own.depth depth_limit) _ _ (meaning.trap at StackOverflow)
      (par-same (blocks own1 a own2 b) (record m { turns = k }) _ _ _ _
      (does-same a (left_of (record m { turns = k })) (omega (arith, q, le))) (λ h. does-same b (right_of (record m { turns = k }) h) (omega (arith, q, le))))
      (le_refl k)))
      (λ z lz. does-same rest z (omega (arith, lz, le)))
  does-same (Recover at x own hides body rest) m le =
      then-same m.turns _ _ (does u fits f rest) (does u fits g rest)
      (spend-same m.turns m.own m.heap (λ z. recovered own (does u fits f body z)) (λ z. recovered own (does u fits g body z))
      (λ k q. recovered-same k own _ _ (does-same body (record m { turns = k }) (omega (arith, q, le)))))
      (λ z lz. does-same rest z (omega (arith, lz, le)))

module _ (u : UnitCode) (fits : ℕ → Bool) where
  -- with no turn left no round begins
  none-left : (f g : Code → Moment → Result) (c : Code) (m : Moment) → m.turns ≤ 0 → Same m.turns (does u fits f c m) (does u fits g c m)
  none-left f g c m le = does-same u fits 0 f g (λ d z lt. absurd (omega (arith, lt))) c m le

  -- rounds that suffice are enough
  pub enough-rounds : (n k : ℕ) (c : Code) (m : Moment) → m.turns ≤ n → m.turns ≤ k → Same m.turns (mean u fits n c m) (mean u fits k c m)
  enough-rounds zero zero c m a b = none-left (λ d z. fail NoTurns z) (λ d z. fail NoTurns z) c m a
  enough-rounds zero (suc k) c m a b = none-left (λ d z. fail NoTurns z) (λ d z. mean u fits k d z) c m a
  enough-rounds (suc n) zero c m a b = none-left (λ d z. mean u fits n d z) (λ d z. fail NoTurns z) c m b
  enough-rounds (suc n) (suc k) c m a b =
      does-same u fits m.turns (λ d z. mean u fits n d z) (λ d z. mean u fits k d z)
      (λ d z lt. enough-rounds n k d z (omega (arith, lt, a)) (omega (arith, lt, b))) c m (le_refl m.turns)

  unfolds-at : (t : ℕ) (c : Code) (m : Moment) → m.turns ≤ t → Same m.turns (mean u fits t c m) (does u fits (whole u fits) c m)
  unfolds-at zero c m le = none-left (λ d z. fail NoTurns z) (whole u fits) c m le
  unfolds-at (suc t) c m le =
      does-same u fits m.turns (λ d z. mean u fits t d z) (whole u fits)
      (λ d z lt. enough-rounds t z.turns d z (omega (arith, lt, le)) (le_refl z.turns)) c m (le_refl m.turns)

  -- what code does unfolds
  pub unfolds : Unfolds u fits
  unfolds c m = (unfolds-at m.turns c m (le_refl m.turns)).1
