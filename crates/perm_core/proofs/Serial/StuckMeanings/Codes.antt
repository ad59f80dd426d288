-- Code that ends rightly and whose meaning is stuck stops the machine that copies variables, left first.
use Rattle.std.proofs.Common.{◌≡◌, ℕ, zero, suc, ◌≤◌, ◌<◌, Bool, true, false, Option, Some, None, List, [], ◌∷◌, refl, arith}
use Rattle.std.specs.Prelude.{◌&&◌, nat_lt, slice_get}
use Rattle.std.proofs.lemmas.Bool.{and_parts}
use Rattle.perm_tree.specs.declared.ast.Span.{Span}
use Rattle.perm_tree.specs.declared.errors.TrapKind.TheVariants.{StackOverflow}
use Rattle.perm_tree.specs.Code.{Code, End, Give, Return, Do, If, While, Par, Recover, UnitCode}
use Rattle.perm_meaning.specs.Values.{Eval, Gives, Traps, Mistyped}
use Rattle.perm_meaning.specs.Expressions.{tagged, clear, held, look_up, eval, value_of}
use Rattle.perm_meaning.specs.Names.{Name, Mark}
use Rattle.perm_meaning.specs.Machine.{OpenBlock, OpenRecover, OpenCall, NoTurns}
use Rattle.perm_meaning.specs.Custody.{Copies}
use Rattle.perm_meaning.specs.Effects.{choose, Act, GoesOn, Calls, Halts, Resumption, Does, Sticks, depth_limit, effect}
use Rattle.perm_meaning.specs.Turns as turns
use Rattle.perm_meaning.specs.Turns.{blocks, acted, turn_of}
use Rattle.perm_meaning.specs.NamedHeap.{Heap, Held, Own, marks, find, after}
use Rattle.perm_meaning.specs.Steps.{Answer, Found, Refused, Missing}
use Rattle.perm_meaning.specs.Meaning as meaning
use Rattle.perm_meaning.specs.Meaning.{Moment, Result, Well, Gave, Handed, Fails, Full, Stuck, fail, left_of, right_of, set_vars, then_do, close, recovered, par_of, perform, doing, does, mean}
use Rattle.perm_meaning.proofs.LeftFirst.Reached.{Frame, going, Follows, close-follows, recovered-follows}
use Rattle.perm_meaning.proofs.LeftFirst.OneTurn.{then_task, spending, on-follows, test-to, depth-to}
use Rattle.perm_meaning.proofs.LeftFirst.AtPar.{par-to}
use Rattle.perm_meaning.proofs.LeftFirst.Serial.{effect-to, follows, mean-follows}
use Rattle.perm_core.specs.Endings.{Ending, ByNothing, ByGive, ByReturn, ends}
use Rattle.perm_core.proofs.Serial.StuckMeanings.CalledCodes.{AllReturn, CallsRightly, AllCallRightly, effect-calls}
use Rattle.perm_core.proofs.Serial.StuckMeanings.Results.{EndsBy, spend-by, test-by, fails-by, does-by, mean-by}
use Rattle.perm_core.proofs.Serial.StuckMeanings.Stops.{Stalls, AnswerStalls, TurnStalls, spending-stalls, on-stalls, test-stalls, then-stalls}
use Rattle.perm_core.proofs.Serial.StuckMeanings.Pars.{par-by, par-stalls, depth-stalls}

-- ---------- ends of blocks ----------
-- a block ends well, or fails
close-by : (own : List ℕ) (r : Result) → EndsBy ByNothing (close own r)
close-by own (Well m) = tt
close-by own (Gave v m) = tt
close-by own (Handed x v m) = tt
close-by own (Fails e t p h) = tt
close-by own Full = tt
close-by own Stuck = tt

-- it is stuck only where its code is
close-stuck : (own : List ℕ) (r : Result) → EndsBy ByNothing r → close own r ≡ Stuck → r ≡ Stuck
close-stuck own (Well m) is e = absurd (let z : ⊥ = cc e in z)
close-stuck own (Gave v m) is e = absurd is
close-stuck own (Handed x v m) is e = absurd is
close-stuck own (Fails f t p h) is e = e
close-stuck own Full is e = e
close-stuck own Stuck is e = refl

-- the same of a recover block
recovered-by : (own : List ℕ) (r : Result) → EndsBy ByNothing (recovered own r)
recovered-by own (Well m) = tt
recovered-by own (Gave v m) = tt
recovered-by own (Handed x v m) = tt
recovered-by own (Fails e t p h) = tt
recovered-by own Full = tt
recovered-by own Stuck = tt

recovered-stuck : (own : List ℕ) (r : Result) → EndsBy ByGive r → recovered own r ≡ Stuck → r ≡ Stuck
recovered-stuck own (Well m) is e = absurd is
recovered-stuck own (Gave v m) is e = absurd is
recovered-stuck own (Handed x v m) is e = absurd (let z : ⊥ = cc e in z)
recovered-stuck own (Fails f t p h) is e = e
recovered-stuck own Full is e = e
recovered-stuck own Stuck is e = refl

module _ (u : UnitCode) (fits : ℕ → Bool) (t : ℕ) (again : Code → Moment → Result) (less : (c : Code) (m : Moment) (st : List Frame) → m.turns < t → Follows u fits End st m.turns (going u c st m) (again c m))
    (later : (k : Ending) (c : Code) (m : Moment) → ends k c ≡ true → EndsBy k (again c m))
    (stops : (k : Ending) (c : Code) (m : Moment) (st : List Frame) → m.turns < t → ends k c ≡ true → Stalls u fits (again c m) (going u c st m)) (all : AllReturn u) where
  -- ---------- simple statements ----------
  returned-by : (l : Own) (into : Option ℕ) (r : Result) → EndsBy ByNothing (meaning.returned u fits again l into r)
  returned-by l into (Well m) = tt
  returned-by l into (Gave v m) = tt
  returned-by l into (Handed x v m) = tt
  returned-by l into (Fails e t p h) = tt
  returned-by l into Full = tt
  returned-by l into Stuck = tt

  returned-stuck : (l : Own) (into : Option ℕ) (r : Result) → EndsBy ByReturn r → meaning.returned u fits again l into r ≡ Stuck → r ≡ Stuck
  returned-stuck l into (Well m) is e = absurd is
  returned-stuck l into (Gave v m) is e = absurd (let z : ⊥ = cc e in z)
  returned-stuck l into (Handed x v m) is e = absurd is
  returned-stuck l into (Fails f t p h) is e = e
  returned-stuck l into Full is e = e
  returned-stuck l into Stuck is e = refl

  perform-by : (at : Span) (m : Moment) (a : Act Held Mark) → EndsBy ByNothing (perform u fits again at m a)
  perform-by at m (GoesOn l) = tt
  perform-by at m (Calls x l) = returned-by l x.into (again x.code (record m { own = record l { vars = x.first; routine = x.routine; depth = suc l.depth } }))
  perform-by at m (Halts k) = tt

  doing-by : (at : Span) (e : Resumption Held Name Mark) (m : Moment) → EndsBy ByNothing (doing u fits again at e m)
  doing-by at Sticks m = tt
  doing-by at (Does o told) m = go (find fits o m.heap)
    where
      go : (a : Answer Held) → EndsBy ByNothing (meaning.answered u fits again a o at told m)
      go (Found v) = perform-by at (record m { heap = after u fits o m.heap }) (told v)
      go Refused = tt
      go Missing = tt

  -- what a simple statement leaves of its branch
  act-stalls : (c : Code) (at : Span) (rest : Code) (st : List Frame) (m : Moment) (h : Heap) (a : Act Held Mark) → m.turns < t → CallsRightly a
      → Stalls u fits (perform u fits again at (record { turns = m.turns; own = m.own; heap = h }) a) (record { task = then_task u fits c st m (acted tagged Copies at rest st a); heap = h })
  act-stalls c at rest st m h (GoesOn l) lt ok = λ e. absurd (let z : ⊥ = cc e in z)
  act-stalls c at rest st m h (Halts k) lt ok = λ e. absurd (let z : ⊥ = cc e in z)
  act-stalls c at rest st m h (Calls x l) lt ok =
      on-stalls u fits c x.code st (OpenCall x.tie x.into x.y l.vars None l.routine rest ∷ st) m (record l { vars = x.first; routine = x.routine; depth = suc l.depth }) h _
      (λ e. stops ByReturn x.code begun (OpenCall x.tie x.into x.y l.vars None l.routine rest ∷ st) lt ok (returned-stuck l x.into (again x.code begun) (later ByReturn x.code begun ok) e))
    where
      begun : Moment
      begun = record { turns = m.turns; own = record l { vars = x.first; routine = x.routine; depth = suc l.depth }; heap = h }

  -- the turn of a simple statement
  effect-stalls : (c : Code) (at : Span) (rest : Code) (st : List Frame) (m : Moment) (e : Resumption Held Name Mark) → m.turns < t → AllCallRightly e → TurnStalls u fits c st m (turn_of tagged Copies at rest st e) (doing u fits again at e m)
  effect-stalls c at rest st m Sticks lt ok = tt
  effect-stalls c at rest st m (Does o told) lt ok = go (find fits o m.heap)
    where
      go : (a : Answer Held) → AnswerStalls u fits c st m o (λ w. acted tagged Copies at rest st (told w)) a (meaning.answered u fits again a o at told m)
      go (Found v) = act-stalls c at rest st m (after u fits o m.heap) (told v) lt (ok v)
      go Refused = refl
      go Missing = tt

  -- ---------- values that are given ----------
  give-stalls : (c : Code) (st : List Frame) (m : Moment) (w x : ℕ) (at : Span) (s : Option Held)
      → TurnStalls u fits c st m (turns.given_back tagged Copies (held tagged s) w x st m.own) (meaning.on_value (held tagged s) at m (λ v. Handed x v (set_vars m (clear tagged m.own.vars w))))
  give-stalls c st m w x at None = tt
  give-stalls c st m w x at (Some None) = tt
  give-stalls c [] m w x at (Some (Some v)) = tt
  give-stalls c (OpenBlock own rest ∷ st) m w x at (Some (Some v)) = tt
  give-stalls c (OpenCall tie into y saved lent caller rest ∷ st) m w x at (Some (Some v)) = tt
  give-stalls c (OpenRecover own hides saved rest ∷ st) m w x at (Some (Some v)) = λ e. absurd (let z : ⊥ = cc e in z)

  gave-stalls : (c : Code) (st : List Frame) (m : Moment) (v : Held) → TurnStalls u fits c st m (turns.returned tagged Copies v st m.own) (Gave v m)
  gave-stalls c [] m v = λ e. absurd (let z : ⊥ = cc e in z)
  gave-stalls c (OpenBlock own rest ∷ st) m v = tt
  gave-stalls c (OpenRecover own hides saved rest ∷ st) m v = tt
  gave-stalls c (OpenCall tie into y saved lent caller rest ∷ st) m v = λ e. absurd (let z : ⊥ = cc e in z)

  return-stalls : (c : Code) (st : List Frame) (m : Moment) (e : Eval Held) (at : Span)
      → TurnStalls u fits c st m (turns.on_value tagged Copies e at (λ v. turns.returned tagged Copies v st m.own)) (meaning.on_value e at m (λ v. Gave v m))
  return-stalls c st m (Gives v) at = gave-stalls c st m v
  return-stalls c st m (Traps k) at = λ e. absurd (let z : ⊥ = cc e in z)
  return-stalls c st m Mistyped at = tt

  -- ---------- code ----------
  by : (k : Ending) (c : Code) (m : Moment) → ends k c ≡ true → EndsBy k (does u fits again c m)
  by k c m e = does-by u fits again later k c m e

  pub code-stalls : (k : Ending) (c : Code) (m : Moment) (st : List Frame) → m.turns ≤ t → ends k c ≡ true → Stalls u fits (does u fits again c m) (going u c st m)
  code-stalls k End m st le e = λ q. absurd (let z : ⊥ = cc q in z)
  code-stalls k (Give at w x) m st le e =
      spending-stalls u fits (Give at w x) st (λ n l. refl) m.turns m.own m.heap (λ z. meaning.on_value (look_up tagged z.own.vars w) at z (λ v. Handed x v (set_vars z (clear tagged z.own.vars w))))
      (λ n q. give-stalls (Give at w x) st (record m { turns = n }) w x at (slice_get m.own.vars w))
  code-stalls k (Return at a) m st le e =
      spending-stalls u fits (Return at a) st (λ n l. refl) m.turns m.own m.heap (λ z. meaning.on_value (value_of tagged a z.own.vars) at z (λ v. Gave v z))
      (λ n q. return-stalls (Return at a) st (record m { turns = n }) (value_of tagged a m.own.vars) at)
  code-stalls k (Do at i rest) m st le e =
      let f : Moment → Result = λ z. doing u fits again at (effect tagged u marks i z.own) z in
      then-stalls u fits rest st m.turns (going u (Do at i rest) st m) _ (does u fits again rest)
      (spending u fits (Do at i rest) rest st (λ n l. refl) m.turns m.own m.heap f
      (λ n q. effect-to u fits t again less (Do at i rest) at rest st (record m { turns = n }) (effect tagged u marks i m.own) (omega arith)))
      (spend-by ByNothing m.turns m.own m.heap f (λ z. doing-by at (effect tagged u marks i z.own) z))
      (spending-stalls u fits (Do at i rest) st (λ n l. refl) m.turns m.own m.heap f
      (λ n q. effect-stalls (Do at i rest) at rest st (record m { turns = n }) (effect tagged u marks i m.own) (omega arith) (effect-calls u all i m.own)))
      (λ z lz. code-stalls k rest z st (omega arith) e)
  code-stalls k (If at x own1 a own2 b rest) m st le e =
      let f : Moment → Result = λ z. close own1 (does u fits again a z) in
      let g : Moment → Result = λ z. close own2 (does u fits again b z) in
      let p = and_parts (ends ByNothing a) (ends ByNothing b && ends k rest) e in
      let r = and_parts (ends ByNothing b) (ends k rest) p.1 in
      then-stalls u fits rest st m.turns (going u (If at x own1 a own2 b rest) st m) _ (does u fits again rest)
      (spending u fits (If at x own1 a own2 b rest) rest st (λ n l. refl) m.turns m.own m.heap (λ z. meaning.on_test (eval tagged x z.own.vars) at z f g)
      (λ n q. test-to u fits (If at x own1 a own2 b rest) rest st (record m { turns = n }) (eval tagged x m.own.vars) at _ _ f g
      (on-follows u fits (If at x own1 a own2 b rest) rest a st (OpenBlock own1 rest ∷ st) (record m { turns = n }) m.own m.heap (f (record m { turns = n }))
      (close-follows u fits own1 rest st n _ (does u fits again a (record m { turns = n })) (follows u fits t again less a (record m { turns = n }) (OpenBlock own1 rest ∷ st) (omega arith))))
      (on-follows u fits (If at x own1 a own2 b rest) rest b st (OpenBlock own2 rest ∷ st) (record m { turns = n }) m.own m.heap (g (record m { turns = n }))
      (close-follows u fits own2 rest st n _ (does u fits again b (record m { turns = n })) (follows u fits t again less b (record m { turns = n }) (OpenBlock own2 rest ∷ st) (omega arith))))))
      (spend-by ByNothing m.turns m.own m.heap _ (λ z. test-by ByNothing (eval tagged x z.own.vars) at z f g (close-by own1 (does u fits again a z)) (close-by own2 (does u fits again b z))))
      (spending-stalls u fits (If at x own1 a own2 b rest) st (λ n l. refl) m.turns m.own m.heap (λ z. meaning.on_test (eval tagged x z.own.vars) at z f g)
      (λ n q. test-stalls u fits (If at x own1 a own2 b rest) st (record m { turns = n }) (eval tagged x m.own.vars) at _ _ f g
      (on-stalls u fits (If at x own1 a own2 b rest) a st (OpenBlock own1 rest ∷ st) (record m { turns = n }) m.own m.heap (f (record m { turns = n }))
      (λ s. code-stalls ByNothing a (record m { turns = n }) (OpenBlock own1 rest ∷ st) (omega arith) p.0 (close-stuck own1 (does u fits again a (record m { turns = n })) (by ByNothing a (record m { turns = n }) p.0) s)))
      (on-stalls u fits (If at x own1 a own2 b rest) b st (OpenBlock own2 rest ∷ st) (record m { turns = n }) m.own m.heap (g (record m { turns = n }))
      (λ s. code-stalls ByNothing b (record m { turns = n }) (OpenBlock own2 rest ∷ st) (omega arith) r.0 (close-stuck own2 (does u fits again b (record m { turns = n })) (by ByNothing b (record m { turns = n }) r.0) s)))))
      (λ z lz. code-stalls k rest z st (omega arith) r.1)
  code-stalls k (While at x own body rest) m st le e =
      let f : Moment → Result = λ z. then_do (close own (does u fits again body z)) (again (While at x own body rest)) in
      let g : Moment → Result = λ z. does u fits again rest z in
      let p = and_parts (ends ByNothing body) (ends k rest) e in
      spending-stalls u fits (While at x own body rest) st (λ n l. refl) m.turns m.own m.heap (λ z. meaning.on_test (eval tagged x z.own.vars) at z f g)
      (λ n q. test-stalls u fits (While at x own body rest) st (record m { turns = n }) (eval tagged x m.own.vars) at _ _ f g
      (on-stalls u fits (While at x own body rest) body st (OpenBlock own (While at x own body rest) ∷ st) (record m { turns = n }) m.own m.heap (f (record m { turns = n }))
      (then-stalls u fits (While at x own body rest) st n (going u body (OpenBlock own (While at x own body rest) ∷ st) (record m { turns = n })) (close own (does u fits again body (record m { turns = n }))) (again (While at x own body rest))
      (close-follows u fits own (While at x own body rest) st n _ (does u fits again body (record m { turns = n })) (follows u fits t again less body (record m { turns = n }) (OpenBlock own (While at x own body rest) ∷ st) (omega arith)))
      (close-by own (does u fits again body (record m { turns = n })))
      (λ s. code-stalls ByNothing body (record m { turns = n }) (OpenBlock own (While at x own body rest) ∷ st) (omega arith) p.0 (close-stuck own (does u fits again body (record m { turns = n })) (by ByNothing body (record m { turns = n }) p.0) s))
      (λ z lz. stops k (While at x own body rest) z st (omega arith) e)))
      (on-stalls u fits (While at x own body rest) rest st st (record m { turns = n }) m.own m.heap (g (record m { turns = n })) (code-stalls k rest (record m { turns = n }) st (omega arith) p.1)))
  code-stalls k (Par at own1 a own2 b rest) m st le e =
      let f : Moment → Result = λ z. par_of (blocks own1 a own2 b) z (does u fits again a (left_of z)) (λ h. does u fits again b (right_of z h)) in
      let p = and_parts (ends ByNothing a) (ends ByNothing b && ends k rest) e in
      let r = and_parts (ends ByNothing b) (ends k rest) p.1 in
      then-stalls u fits rest st m.turns (going u (Par at own1 a own2 b rest) st m) _ (does u fits again rest)
      (spending u fits (Par at own1 a own2 b rest) rest st (λ n l. refl) m.turns m.own m.heap (λ z. choose (nat_lt z.own.depth depth_limit) f (meaning.trap at StackOverflow) z)
      (λ n q. depth-to u fits (Par at own1 a own2 b rest) rest st (record m { turns = n }) (nat_lt m.own.depth depth_limit) at _ f
      (par-to u fits (Par at own1 a own2 b rest) rest st (record m { turns = n }) (blocks own1 a own2 b) (does u fits again a (left_of (record m { turns = n }))) (λ h. does u fits again b (right_of (record m { turns = n }) h))
      (follows u fits t again less a (left_of (record m { turns = n })) [] (omega arith)) (λ h. follows u fits t again less b (right_of (record m { turns = n }) h) [] (omega arith)))))
      (spend-by ByNothing m.turns m.own m.heap _ (λ z. deep (nat_lt z.own.depth depth_limit) z f (par-by (blocks own1 a own2 b) z (does u fits again a (left_of z)) (λ h. does u fits again b (right_of z h)))))
      (spending-stalls u fits (Par at own1 a own2 b rest) st (λ n l. refl) m.turns m.own m.heap (λ z. choose (nat_lt z.own.depth depth_limit) f (meaning.trap at StackOverflow) z)
      (λ n q. depth-stalls u fits (Par at own1 a own2 b rest) st (record m { turns = n }) (nat_lt m.own.depth depth_limit) at _ f
      (par-stalls u fits (Par at own1 a own2 b rest) rest st (record m { turns = n }) (blocks own1 a own2 b) (does u fits again a (left_of (record m { turns = n }))) (λ h. does u fits again b (right_of (record m { turns = n }) h))
      (follows u fits t again less a (left_of (record m { turns = n })) [] (omega arith)) (by ByNothing a (left_of (record m { turns = n })) p.0) (code-stalls ByNothing a (left_of (record m { turns = n })) [] (omega arith) p.0)
      (λ h. follows u fits t again less b (right_of (record m { turns = n }) h) [] (omega arith)) (λ h. by ByNothing b (right_of (record m { turns = n }) h) r.0) (λ h. code-stalls ByNothing b (right_of (record m { turns = n }) h) [] (omega arith) r.0))))
      (λ z lz. code-stalls k rest z st (omega arith) r.1)
    where
      deep : (d : Bool) (z : Moment) (f : Moment → Result) → EndsBy ByNothing (f z) → EndsBy ByNothing (choose d f (meaning.trap at StackOverflow) z)
      deep true z f is = is
      deep false z f is = tt
  code-stalls k (Recover at x own hides body rest) m st le e =
      let f : Moment → Result = λ z. recovered own (does u fits again body z) in
      let p = and_parts (ends ByGive body) (ends k rest) e in
      then-stalls u fits rest st m.turns (going u (Recover at x own hides body rest) st m) _ (does u fits again rest)
      (spending u fits (Recover at x own hides body rest) rest st (λ n l. refl) m.turns m.own m.heap f
      (λ n q. on-follows u fits (Recover at x own hides body rest) rest body st (OpenRecover own hides [] rest ∷ st) (record m { turns = n }) m.own m.heap (f (record m { turns = n }))
      (recovered-follows u fits own hides [] rest st n _ (does u fits again body (record m { turns = n })) (follows u fits t again less body (record m { turns = n }) (OpenRecover own hides [] rest ∷ st) (omega arith)))))
      (spend-by ByNothing m.turns m.own m.heap f (λ z. recovered-by own (does u fits again body z)))
      (spending-stalls u fits (Recover at x own hides body rest) st (λ n l. refl) m.turns m.own m.heap f
      (λ n q. on-stalls u fits (Recover at x own hides body rest) body st (OpenRecover own hides [] rest ∷ st) (record m { turns = n }) m.own m.heap (f (record m { turns = n }))
      (λ s. code-stalls ByGive body (record m { turns = n }) (OpenRecover own hides [] rest ∷ st) (omega arith) p.0 (recovered-stuck own (does u fits again body (record m { turns = n })) (by ByGive body (record m { turns = n }) p.0) s))))
      (λ z lz. code-stalls k rest z st (omega arith) p.1)

-- the machine stops where the meaning is stuck, whose bound is no less than the turns that are left
pub mean-stalls : (u : UnitCode) (fits : ℕ → Bool) → AllReturn u → (n : ℕ) (k : Ending) (c : Code) (m : Moment) (st : List Frame) → m.turns ≤ n → ends k c ≡ true → Stalls u fits (mean u fits n c m) (going u c st m)
mean-stalls u fits all zero k c m st le e =
    code-stalls u fits 0 (λ c m. fail NoTurns m) (λ c m st h. absurd (omega arith)) (λ k c m e. fails-by k NoTurns m.turns m.own.printed m.heap) (λ k c m st h e. absurd (omega arith)) all k c m st le e
mean-stalls u fits all (suc n) k c m st le e =
    code-stalls u fits (suc n) (λ c m. mean u fits n c m) (λ c m st h. mean-follows u fits n c m st (omega arith)) (λ k c m e. mean-by u fits n k c m e) (λ k c m st h e. mean-stalls u fits all n k c m st (omega arith) e) all k c m st le e
