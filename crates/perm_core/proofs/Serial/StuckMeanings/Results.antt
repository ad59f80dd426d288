-- Code that ends rightly has a result of its kind: well at the end of a block, a value for a recover block, or one for a call.
use Rattle.std.proofs.Common.{◌≡◌, ℕ, zero, suc, Bool, true, false, Some, List}
use Rattle.std.specs.Prelude.{◌&&◌, ℤ}
use Rattle.std.proofs.lemmas.Bool.{and_parts}
use Rattle.perm_tree.specs.declared.ast.Span.{Span}
use Rattle.perm_tree.specs.Code.{Code, End, Give, Return, Do, If, While, Par, Recover, UnitCode}
use Rattle.perm_meaning.specs.Values.{Eval, Gives, Traps, Mistyped, Truth}
use Rattle.perm_meaning.specs.Expressions.{tagged, clear, look_up, eval, value_of}
use Rattle.perm_meaning.specs.Machine.{Failure, NoTurns}
use Rattle.perm_meaning.specs.NamedHeap.{Heap, Held, Own}
use Rattle.perm_meaning.specs.Meaning.{Moment, Result, Well, Gave, Handed, Fails, Full, Stuck, fail, set_vars, spend, then_do, close, on_test, on_value, does, mean}
use Rattle.perm_core.specs.Endings.{Ending, ByNothing, ByGive, ByReturn, ends}

-- a result of this kind, or a failure, or a full heap, or a stuck one
abbrev pub EndsBy : Ending → Result → Type 0
EndsBy ByNothing (Gave v m) = ⊥
EndsBy ByNothing (Handed x v m) = ⊥
EndsBy ByNothing _ = Unit {0}
EndsBy ByGive (Well m) = ⊥
EndsBy ByGive (Gave v m) = ⊥
EndsBy ByGive _ = Unit {0}
EndsBy ByReturn (Well m) = ⊥
EndsBy ByReturn (Handed x v m) = ⊥
EndsBy ByReturn _ = Unit {0}

pub fails-by : (k : Ending) (e : Failure) (t : ℕ) (p : List ℤ) (h : Heap) → EndsBy k (Fails e t p h)
fails-by ByNothing e t p h = tt
fails-by ByGive e t p h = tt
fails-by ByReturn e t p h = tt

stuck-by : (k : Ending) → EndsBy k Stuck
stuck-by ByNothing = tt
stuck-by ByGive = tt
stuck-by ByReturn = tt

full-by : (k : Ending) → EndsBy k Full
full-by ByNothing = tt
full-by ByGive = tt
full-by ByReturn = tt

pub spend-by : (k : Ending) (t : ℕ) (l : Own) (h : Heap) (go : Moment → Result) → ((m : Moment) → EndsBy k (go m)) → EndsBy k (spend (record { turns = t; own = l; heap = h }) go)
spend-by k zero l h go f = fails-by k NoTurns 0 l.printed h
spend-by k (suc t) l h go f = f (record { turns = t; own = l; heap = h })

then-by : (k : Ending) (r : Result) (go : Moment → Result) → ((m : Moment) → EndsBy k (go m)) → EndsBy k (then_do r go)
then-by k (Well m) go f = f m
then-by k (Gave v m) go f = stuck-by k
then-by k (Handed x v m) go f = stuck-by k
then-by k (Fails e t p h) go f = fails-by k e t p h
then-by k Full go f = full-by k
then-by k Stuck go f = stuck-by k

pub test-by : (k : Ending) (e : Eval Held) (at : Span) (m : Moment) (f g : Moment → Result) → EndsBy k (f m) → EndsBy k (g m) → EndsBy k (on_test e at m f g)
test-by k (Gives (Some (Truth true))) at m f g x y = x
test-by k (Gives (Some (Truth false))) at m f g x y = y
test-by k (Gives _) at m f g x y = stuck-by k
test-by k (Traps t) at m f g x y = fails-by k _ m.turns m.own.printed m.heap
test-by k Mistyped at m f g x y = stuck-by k

value-by : (k : Ending) (e : Eval Held) (at : Span) (m : Moment) (go : Held → Result) → ((v : Held) → EndsBy k (go v)) → EndsBy k (on_value e at m go)
value-by k (Gives v) at m go f = f v
value-by k (Traps t) at m go f = fails-by k _ m.turns m.own.printed m.heap
value-by k Mistyped at m go f = stuck-by k

module _ (u : UnitCode) (fits : ℕ → Bool) (again : Code → Moment → Result) (later : (k : Ending) (c : Code) (m : Moment) → ends k c ≡ true → EndsBy k (again c m)) where
  pub does-by : (k : Ending) (c : Code) (m : Moment) → ends k c ≡ true → EndsBy k (does u fits again c m)
  does-by ByNothing End m e = tt
  does-by ByGive End m e = absurd (let z : ⊥ = cc e in z)
  does-by ByReturn End m e = absurd (let z : ⊥ = cc e in z)
  does-by ByNothing (Give at w x) m e = absurd (let z : ⊥ = cc e in z)
  does-by ByGive (Give at w x) m e = spend-by ByGive m.turns m.own m.heap _ (λ m. value-by ByGive (look_up tagged m.own.vars w) at m (λ v. Handed x v (set_vars m (clear tagged m.own.vars w))) (λ v. tt))
  does-by ByReturn (Give at w x) m e = absurd (let z : ⊥ = cc e in z)
  does-by ByNothing (Return at a) m e = absurd (let z : ⊥ = cc e in z)
  does-by ByGive (Return at a) m e = absurd (let z : ⊥ = cc e in z)
  does-by ByReturn (Return at a) m e = spend-by ByReturn m.turns m.own m.heap _ (λ m. value-by ByReturn (value_of tagged a m.own.vars) at m (λ v. Gave v m) (λ v. tt))
  does-by k (Do at i rest) m e = then-by k _ (does u fits again rest) (λ m. does-by k rest m e)
  does-by k (If at t own1 a own2 b rest) m e = then-by k _ (does u fits again rest) (λ m. does-by k rest m (and_parts (ends ByNothing b) (ends k rest) (and_parts (ends ByNothing a) (ends ByNothing b && ends k rest) e).1).1)
  does-by k (While at t own body rest) m e =
      spend-by k m.turns m.own m.heap _ (λ m. test-by k (eval tagged t m.own.vars) at m (λ m. then_do (close own (does u fits again body m)) (again (While at t own body rest))) (does u fits again rest)
      (then-by k (close own (does u fits again body m)) (again (While at t own body rest)) (λ m. later k (While at t own body rest) m e)) (does-by k rest m (and_parts (ends ByNothing body) (ends k rest) e).1))
  does-by k (Par at own1 a own2 b rest) m e = then-by k _ (does u fits again rest) (λ m. does-by k rest m (and_parts (ends ByNothing b) (ends k rest) (and_parts (ends ByNothing a) (ends ByNothing b && ends k rest) e).1).1)
  does-by k (Recover at x own hides body rest) m e = then-by k _ (does u fits again rest) (λ m. does-by k rest m (and_parts (ends ByGive body) (ends k rest) e).1)

-- the same of the meaning
pub mean-by : (u : UnitCode) (fits : ℕ → Bool) (n : ℕ) (k : Ending) (c : Code) (m : Moment) → ends k c ≡ true → EndsBy k (mean u fits n c m)
mean-by u fits zero k c m e = does-by u fits (λ c m. fail NoTurns m) (λ k c m e. fails-by k NoTurns m.turns m.own.printed m.heap) k c m e
mean-by u fits (suc n) k c m e = does-by u fits (λ c m. mean u fits n c m) (λ k c m e. mean-by u fits n k c m e) k c m e
