-- A par whose meaning is stuck stops, in its left side or in its right one.
use Rattle.std.proofs.Common.{◌≡◌, ℕ, ◌-◌, ◌/◌, Bool, true, false, Some, None, List, [], refl, subst}
use Rattle.std.specs.Prelude.{ℤ, cond}
use Rattle.perm_tree.specs.declared.ast.Span.{Span}
use Rattle.perm_tree.specs.declared.errors.TrapKind.TheVariants.{StackOverflow}
use Rattle.perm_tree.specs.Code.{Code, End, UnitCode}
use Rattle.perm_meaning.specs.Expressions.{tagged}
use Rattle.perm_meaning.specs.Names.{Mark, after_par}
use Rattle.perm_meaning.specs.Machine.{Blocks, Leaf, Fork, Fine, GaveBack, Failed, Splits, Turn, final, join_final}
use Rattle.perm_meaning.specs.Custody.{Copies, merged, writes_l, writes_r}
use Rattle.perm_meaning.specs.Effects.{choose}
use Rattle.perm_meaning.specs.Turns as turns
use Rattle.perm_meaning.specs.NamedHeap.{Heap, Held, Op, Branch, Task, Final, State, named, memory}
use Rattle.perm_meaning.specs.Meaning as meaning
use Rattle.perm_meaning.specs.Meaning.{Moment, Result, Well, Gave, Handed, Fails, Full, Stuck, left_of, right_of, on_final, after_join, par_of}
use Rattle.perm_meaning.proofs.Leads.{in_left, in_right, lead-left, lead-right}
use Rattle.perm_meaning.proofs.LeftFirst.Reached.{Frame, at_code, going, Follows}
use Rattle.perm_meaning.proofs.LeftFirst.OneTurn.{plain, at-empty}
use Rattle.perm_core.specs.Endings.{ByNothing}
use Rattle.perm_core.proofs.Serial.StuckMeanings.Results.{EndsBy}
use Rattle.perm_core.proofs.Serial.StuckMeanings.Stops.{Stalls, TurnStalls, stops-along, left-stops, right-stops}

-- a side gives back no value
abbrev pub GivesNothing : Final → Type 0
GivesNothing (GaveBack v t p) = ⊥
GivesNothing _ = Unit {0}

-- so its parent isn't stuck
join-goes : (merge : List Held → List Held → List Held → List Held) (vs : List Held) (out : List ℤ) (m : Moment) (h : Heap) (x y : Final) → GivesNothing x → GivesNothing y → after_join m (join_final merge vs out x y) h ≡ Stuck → ⊥
join-goes merge vs out m h (Fine ls t p) (Fine rs w q) a b e = let z : ⊥ = cc e in z
join-goes merge vs out m h (Failed f t p) (Failed g w q) a b e = let z : ⊥ = cc e in z
join-goes merge vs out m h (Failed f t p) (Fine rs w q) a b e = let z : ⊥ = cc e in z
join-goes merge vs out m h (Fine ls t p) (Failed g w q) a b e = let z : ⊥ = cc e in z
join-goes merge vs out m h (GaveBack v t p) y a b e = a
join-goes merge vs out m h (Fine ls t p) (GaveBack v w q) a b e = b
join-goes merge vs out m h (Failed f t p) (GaveBack v w q) a b e = b

-- what a par ends with
final-by : (r : Result) (go : Final → Heap → Result) → ((x : Final) (h : Heap) → EndsBy ByNothing (go x h)) → EndsBy ByNothing (on_final r go)
final-by (Well m) go f = f _ m.heap
final-by (Gave v m) go f = tt
final-by (Handed x v m) go f = tt
final-by (Fails e t p h) go f = f _ h
final-by Full go f = tt
final-by Stuck go f = tt

joined-by : (m : Moment) (x : Final) (h : Heap) → EndsBy ByNothing (after_join m x h)
joined-by m (Fine vs t p) h = tt
joined-by m (GaveBack v t p) h = tt
joined-by m (Failed e t p) h = tt

pub par-by : (p : Blocks) (m : Moment) (left : Result) (right : Heap → Result) → EndsBy ByNothing (par_of p m left right)
par-by p m left right = final-by left _ (λ x h. final-by (right h) _ (λ y h1. joined-by m (join_final (merged (writes_l p) (writes_r p)) m.own.vars m.own.printed x y) h1))

module _ (u : UnitCode) (fits : ℕ → Bool) where
  -- the left side runs first
  left-stalls : (b : Branch) (p : Blocks) (n : ℕ) (rt : Task) (s : State) (r : Result) (go : Final → Heap → Result) → Follows u fits End [] n s r → EndsBy ByNothing r → Stalls u fits r s
      → ((x : Final) (l : Task) (h : Heap) → GivesNothing x → final l ≡ Some x → Stalls u fits (go x h) (record { task = Fork b p l rt; heap = h })) → Stalls u fits (on_final r go) (in_left b p rt s)
  left-stalls b p n rt s (Well m) go f is x g = λ e. stops-along u fits (in_left b p rt s) (in_left b p rt (going u End [] m)) (lead-left (named Copies u) (memory u) fits b p rt s (going u End [] m) f.1) (g _ (Leaf (at_code u End [] m)) m.heap tt refl e)
  left-stalls b p n rt s (Gave v m) go f is x g = absurd is
  left-stalls b p n rt s (Handed y v m) go f is x g = absurd is
  left-stalls b p n rt s (Fails e t out h) go f is x g =
      λ q. stops-along u fits (in_left b p rt s) (in_left b p rt (record { task = Leaf f.2; heap = h })) (lead-left (named Copies u) (memory u) fits b p rt s (record { task = Leaf f.2; heap = h }) f.4) (g (Failed e t out) (Leaf f.2) h tt f.3 q)
  left-stalls b p n rt s Full go f is x g = λ e. absurd (let z : ⊥ = cc e in z)
  left-stalls b p n rt s Stuck go f is x g = λ e. left-stops u fits b p rt s (x refl)

  -- the right side runs where the left one has ended
  right-stalls : (b : Branch) (p : Blocks) (n : ℕ) (lt : Task) (lf : Final) → final lt ≡ Some lf → (s : State) (r : Result) (go : Final → Heap → Result) → Follows u fits End [] n s r → EndsBy ByNothing r → Stalls u fits r s
      → ((x : Final) (l : Task) (h : Heap) → GivesNothing x → final l ≡ Some x → Stalls u fits (go x h) (record { task = Fork b p lt l; heap = h })) → Stalls u fits (on_final r go) (in_right b p lt s)
  right-stalls b p n lt lf d s (Well m) go f is x g =
      λ e. stops-along u fits (in_right b p lt s) (in_right b p lt (going u End [] m)) (lead-right (named Copies u) (memory u) fits b p lt lf d s (going u End [] m) f.1) (g _ (Leaf (at_code u End [] m)) m.heap tt refl e)
  right-stalls b p n lt lf d s (Gave v m) go f is x g = absurd is
  right-stalls b p n lt lf d s (Handed y v m) go f is x g = absurd is
  right-stalls b p n lt lf d s (Fails e t out h) go f is x g =
      λ q. stops-along u fits (in_right b p lt s) (in_right b p lt (record { task = Leaf f.2; heap = h })) (lead-right (named Copies u) (memory u) fits b p lt lf d s (record { task = Leaf f.2; heap = h }) f.4) (g (Failed e t out) (Leaf f.2) h tt f.3 q)
  right-stalls b p n lt lf d s Full go f is x g = λ e. absurd (let z : ⊥ = cc e in z)
  right-stalls b p n lt lf d s Stuck go f is x g = λ e. right-stops u fits b p lt lf d s (x refl)

  -- the turn of a par, given what its sides do
  pub par-stalls : (c d : Code) (st : List Frame) (m : Moment) (p : Blocks) (left : Result) (right : Heap → Result)
      → Follows u fits End [] (m.turns - m.turns / 2) (going u p.left [] (left_of m)) left → EndsBy ByNothing left → Stalls u fits left (going u p.left [] (left_of m))
      → ((h : Heap) → Follows u fits End [] (m.turns / 2) (going u p.right [] (right_of m h)) (right h)) → ((h : Heap) → EndsBy ByNothing (right h)) → ((h : Heap) → Stalls u fits (right h) (going u p.right [] (right_of m h)))
      → TurnStalls u fits c st m (turns.tick tagged Copies (Splits p d)) (par_of p m left right)
  par-stalls c d st m p left right f a x g b y =
      left-stalls w p (m.turns - m.turns / 2) (Leaf (plain p.right [] (right_of m m.heap))) (record { task = Leaf (plain p.left [] (left_of m)); heap = m.heap }) left _
      (subst (λ (z : Branch). Follows u fits End [] (m.turns - m.turns / 2) (record { task = Leaf z; heap = m.heap }) left) (at-empty u p.left (left_of m)) f)
      a
      (subst (λ (z : Branch). Stalls u fits left (record { task = Leaf z; heap = m.heap })) (at-empty u p.left (left_of m)) x)
      (λ i l h plain_left e.
      right-stalls w p (m.turns / 2) l i e (record { task = Leaf (plain p.right [] (right_of m h)); heap = h }) (right h) _
      (subst (λ (z : Branch). Follows u fits End [] (m.turns / 2) (record { task = Leaf z; heap = h }) (right h)) (at-empty u p.right (right_of m h)) (g h))
      (b h)
      (subst (λ (z : Branch). Stalls u fits (right h) (record { task = Leaf z; heap = h })) (at-empty u p.right (right_of m h)) (y h))
      (λ j r h1 plain_right e1 q. absurd (join-goes (merged (writes_l p) (writes_r p)) m.own.vars m.own.printed m h1 i j plain_left plain_right q)))
    where
      w : Branch
      w = record { own = record m.own { mark = after_par m.own.mark }; turns = 0; code = d; stack = st; close = None }

  -- one branch more, if the depth allows it
  pub depth-stalls : (c : Code) (st : List Frame) (m : Moment) (t : Bool) (at : Span) (a : Turn Held Mark Op) (f : Moment → Result) → TurnStalls u fits c st m a (f m)
      → TurnStalls u fits c st m (cond t a (turns.trap tagged Copies at StackOverflow)) (choose t f (meaning.trap at StackOverflow) m)
  depth-stalls c st m true at a f x = x
  depth-stalls c st m false at a f x = λ e. absurd (let z : ⊥ = cc e in z)
