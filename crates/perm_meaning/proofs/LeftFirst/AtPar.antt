-- A par: the left side, the right side on the heap that the left leaves, and the join.
use Rattle.std.proofs.Common.{◌≡◌, ◌≢◌, ℕ, ◌+◌, ◌-◌, ◌/◌, ◌≤◌, Bool, Some, None, List, [], refl, sym, ap, ◌∙◌, subst, arith}
use Rattle.std.specs.Prelude.{ℤ}
use Rattle.perm_tree.specs.Code.{Code, End, UnitCode}
use Rattle.perm_meaning.specs.Expressions.{tagged}
use Rattle.perm_meaning.specs.Names.{after_par}
use Rattle.perm_meaning.specs.Machine.{Blocks, Failure, Trapped, NoTurns, NoRoom, Failing, Leaf, Fork, Fine, GaveBack, Failed, Here, Splits, final, look, resumed, worse, turns_of, join_final, join_of, if_both_over}
use Rattle.perm_meaning.specs.Custody.{Copies, merged, writes_l, writes_r}
use Rattle.perm_meaning.specs.Turns as turns
use Rattle.perm_meaning.specs.Effects.{Tick}
use Rattle.perm_meaning.specs.NamedHeap.{Heap, Held, Branch, Task, Final, State, named, memory}
use Rattle.perm_meaning.specs.Steps.{leftmost, leftmost_of, careful, asked_with_care}
use Rattle.perm_meaning.specs.Meaning.{Moment, Result, Well, Gave, Handed, Fails, Full, Stuck, left_of, right_of, on_final, after_join, par_of}
use Rattle.perm_meaning.proofs.Leads.{in_left, in_right, stay, one, lead-left, lead-right, unended}
use Rattle.perm_meaning.proofs.LeftFirst.Reached.{Frame, at_code, going, settles, Reach, Follows, along}
use Rattle.perm_meaning.proofs.LeftFirst.OneTurn.{plain, at-empty, TurnTo}

-- ---------- the rules of the join ----------
-- the end of a side that wasn't for want of room
abbrev pub HasRoom : Final → Type 0
HasRoom (Fine vs t p) = Unit {0}
HasRoom (GaveBack v t p) = Unit {0}
HasRoom (Failed e t p) = e ≢ NoRoom

-- the turns of both sides come back
join-turns : (merge : List Held → List Held → List Held → List Held) (vs : List Held) (out : List ℤ) (x y : Final) → turns_of (join_final merge vs out x y) ≡ turns_of x + turns_of y
join-turns merge vs out (Fine ls t p) (Fine rs w q) = refl
join-turns merge vs out (Failed e t p) (Failed f w q) = refl
join-turns merge vs out (Failed e t p) (Fine rs w q) = refl
join-turns merge vs out (Failed e t p) (GaveBack v w q) = refl
join-turns merge vs out (Fine ls t p) (Failed f w q) = refl
join-turns merge vs out (GaveBack v t p) (Failed f w q) = refl
join-turns merge vs out (Fine ls t p) (GaveBack v w q) = refl
join-turns merge vs out (GaveBack v t p) (Fine rs w q) = refl
join-turns merge vs out (GaveBack v t p) (GaveBack w x q) = refl

-- of two failures, neither for want of room, the worse isn't either
worse-room : (e f : Failure) → e ≢ NoRoom → f ≢ NoRoom → worse e f ≢ NoRoom
worse-room e NoRoom h k = λ q. k refl
worse-room e (Trapped z at) h k = h
worse-room e NoTurns h k = h

-- no side fails for want of room, so neither does the parent
join-room : (merge : List Held → List Held → List Held → List Held) (vs : List Held) (out : List ℤ) (x y : Final) → HasRoom x → HasRoom y → HasRoom (join_final merge vs out x y)
join-room merge vs out (Fine ls t p) (Fine rs w q) h k = tt
join-room merge vs out (Failed e t p) (Failed f w q) h k = worse-room e f h k
join-room merge vs out (Failed e t p) (Fine rs w q) h k = h
join-room merge vs out (Failed e t p) (GaveBack v w q) h k = h
join-room merge vs out (Fine ls t p) (Failed f w q) h k = k
join-room merge vs out (GaveBack v t p) (Failed f w q) h k = k
join-room merge vs out (Fine ls t p) (GaveBack v w q) h k = tt
join-room merge vs out (GaveBack v t p) (Fine rs w q) h k = tt
join-room merge vs out (GaveBack v t p) (GaveBack w x q) h k = tt

module _ (u : UnitCode) (fits : ℕ → Bool) where
  -- the join of two sides that are over is the leftmost event
  joins : (b : Branch) (p : Blocks) (l r : Task) (h : Heap) (x y : Final) → final l ≡ Some x → final r ≡ Some y
      → careful (named Copies u) (memory u) fits (record { task = Fork b p l r; heap = h }) (leftmost (Fork b p l r)) ≡ Some (record { task = resumed (named Copies u) b (join_of (named Copies u) b p x y); heap = h })
  joins b p l r h x y e f =
      ap (λ z. careful (named Copies u) (memory u) fits s (leftmost_of z (final r) (leftmost l) (leftmost r))) e
      ∙ ap (λ z. careful (named Copies u) (memory u) fits s (leftmost_of (Some x) z (leftmost l) (leftmost r))) f
      ∙ ap (λ z. asked_with_care (named Copies u) (memory u) fits s Here (if_both_over z (final r) None (λ x y. Some Tick))) e
      ∙ ap (λ z. asked_with_care (named Copies u) (memory u) fits s Here (if_both_over (Some x) z None (λ x y. Some Tick))) f
      ∙ ap (λ z. Some (record { task = if_both_over z (final r) (Fork b p l r) (λ x y. resumed (named Copies u) b (join_of (named Copies u) b p x y)); heap = h })) e
      ∙ ap (λ z. Some (record { task = if_both_over (Some x) z (Fork b p l r) (λ x y. resumed (named Copies u) b (join_of (named Copies u) b p x y)); heap = h })) f
    where
      s : State
      s = record { task = Fork b p l r; heap = h }

  -- the left side runs first
  left-side : (b : Branch) (p : Blocks) (c : Code) (st : List Frame) (big n : ℕ) (rt : Task) (s : State) (r : Result) (go : Final → Heap → Result) → Follows u fits End [] n s r
      → ((x : Final) (l : Task) (h : Heap) → turns_of x ≤ n → HasRoom x → final l ≡ Some x → Follows u fits c st big (record { task = Fork b p l rt; heap = h }) (go x h))
      → Follows u fits c st big (in_left b p rt s) (on_final r go)
  left-side b p c st big n rt s (Well m) go f g =
      along u fits c st big (in_left b p rt s) (in_left b p rt (going u End [] m)) _ (lead-left (named Copies u) (memory u) fits b p rt s (going u End [] m) f.1) (g _ (Leaf (at_code u End [] m)) m.heap f.0 tt refl)
  left-side b p c st big n rt s (Gave v m) go f g = tt
  left-side b p c st big n rt s (Handed x v m) go f g = tt
  left-side b p c st big n rt s (Fails e t out h) go f g =
      along u fits c st big (in_left b p rt s) (in_left b p rt y) (go (Failed e t out) h) (lead-left (named Copies u) (memory u) fits b p rt s y f.4) (g (Failed e t out) (Leaf f.2) h f.0 f.1 f.3)
    where
      y : State
      y = record { task = Leaf f.2; heap = h }
  left-side b p c st big n rt s Full go f g = (
    in_left b p rt f.0,
    lead-left (named Copies u) (memory u) fits b p rt s f.0 f.1,
    (f.2.0, ap (λ z. look (named Copies u) (leftmost_of z (final rt) (leftmost f.0.task) (leftmost rt)) (Fork b p f.0.task rt)) (unended (named Copies u) (leftmost f.0.task) f.0.task f.2.0 f.2.1) ∙ f.2.1, f.2.2),
  )
  left-side b p c st big n rt s Stuck go f g = tt

  -- the right side runs where the left one has ended
  right-side : (b : Branch) (p : Blocks) (c : Code) (st : List Frame) (big n : ℕ) (lt : Task) (lf : Final) → final lt ≡ Some lf → (s : State) (r : Result) (go : Final → Heap → Result) → Follows u fits End [] n s r
      → ((x : Final) (l : Task) (h : Heap) → turns_of x ≤ n → HasRoom x → final l ≡ Some x → Follows u fits c st big (record { task = Fork b p lt l; heap = h }) (go x h))
      → Follows u fits c st big (in_right b p lt s) (on_final r go)
  right-side b p c st big n lt lf q s (Well m) go f g =
      along u fits c st big (in_right b p lt s) (in_right b p lt (going u End [] m)) _ (lead-right (named Copies u) (memory u) fits b p lt lf q s (going u End [] m) f.1) (g _ (Leaf (at_code u End [] m)) m.heap f.0 tt refl)
  right-side b p c st big n lt lf q s (Gave v m) go f g = tt
  right-side b p c st big n lt lf q s (Handed x v m) go f g = tt
  right-side b p c st big n lt lf q s (Fails e t out h) go f g =
      along u fits c st big (in_right b p lt s) (in_right b p lt y) (go (Failed e t out) h) (lead-right (named Copies u) (memory u) fits b p lt lf q s y f.4) (g (Failed e t out) (Leaf f.2) h f.0 f.1 f.3)
    where
      y : State
      y = record { task = Leaf f.2; heap = h }
  right-side b p c st big n lt lf q s Full go f g = (
    in_right b p lt f.0,
    lead-right (named Copies u) (memory u) fits b p lt lf q s f.0 f.1,
    (
      f.2.0,
      ap (λ z. look (named Copies u) (leftmost_of z (final f.0.task) (leftmost lt) (leftmost f.0.task)) (Fork b p lt f.0.task)) q
          ∙ ap (λ z. look (named Copies u) (leftmost_of (Some lf) z (leftmost lt) (leftmost f.0.task)) (Fork b p lt f.0.task)) (unended (named Copies u) (leftmost f.0.task) f.0.task f.2.0 f.2.1) ∙ f.2.1,
      f.2.2,
    ),
  )
  right-side b p c st big n lt lf q s Stuck go f g = tt

  -- the parent that waits
  abbrev waiting : Code → List Frame → Moment → Branch
  waiting c st m = record { own = record m.own { mark = after_par m.own.mark }; turns = 0; code = c; stack = st; close = None }

  -- the parent goes on
  resume-follows : (c : Code) (st : List Frame) (m : Moment) (h : Heap) (f : Final) → turns_of f ≤ m.turns → HasRoom f
      → Follows u fits c st m.turns (record { task = resumed (named Copies u) (waiting c st m) f; heap = h }) (after_join m f h)
  resume-follows c st m h (Fine vs t p) le ne = (
    le,
    subst (λ (z : Branch). Reach u fits (record { task = Leaf z; heap = h }) (going u c st (record { turns = t; own = record m.own { vars = vs; printed = p; mark = after_par m.own.mark }; heap = h })))
        (sym (settles u (record m.own { printed = p; mark = after_par m.own.mark }) t c st vs c st)) (stay (named Copies u) (memory u) fits _),
  )
  resume-follows c st m h (GaveBack v t p) le ne = tt
  resume-follows c st m h (Failed e t p) le ne =
      (le, ne, record { own = record m.own { vars = []; printed = p; mark = after_par m.own.mark }; turns = t; code = End; stack = []; close = Some (Failing e) }, refl, stay (named Copies u) (memory u) fits _)

  -- the turn of a par, given what its sides do
  pub par-to : (c d : Code) (st : List Frame) (m : Moment) (p : Blocks) (left : Result) (right : Heap → Result)
      → Follows u fits End [] (m.turns - m.turns / 2) (going u p.left [] (left_of m)) left
      → ((h : Heap) → Follows u fits End [] (m.turns / 2) (going u p.right [] (right_of m h)) (right h))
      → TurnTo u fits c d st m (turns.tick tagged Copies (Splits p d)) (par_of p m left right)
  par-to c d st m p left right f g =
      left-side b p d st m.turns (m.turns - m.turns / 2) (Leaf (plain p.right [] (right_of m m.heap))) (record { task = Leaf (plain p.left [] (left_of m)); heap = m.heap }) left _
      (subst (λ (z : Branch). Follows u fits End [] (m.turns - m.turns / 2) (record { task = Leaf z; heap = m.heap }) left) (at-empty u p.left (left_of m)) f)
      (λ x l h le ne e.
      right-side b p d st m.turns (m.turns / 2) l x e (record { task = Leaf (plain p.right [] (right_of m h)); heap = h }) (right h) _
      (subst (λ (z : Branch). Follows u fits End [] (m.turns / 2) (record { task = Leaf z; heap = h }) (right h)) (at-empty u p.right (right_of m h)) (g h))
      (λ y r h1 le1 ne1 e1.
      along u fits d st m.turns (record { task = Fork b p l r; heap = h1 }) (record { task = resumed (named Copies u) b (join_of (named Copies u) b p x y); heap = h1 }) (after_join m (join_of (named Copies u) b p x y) h1)
      (one (named Copies u) (memory u) fits _ _ (joins b p l r h1 x y e e1))
      (resume-follows d st m h1 (join_of (named Copies u) b p x y) (omega (arith, join-turns (merged (writes_l p) (writes_r p)) m.own.vars m.own.printed x y, le, le1)) (join-room (merged (writes_l p) (writes_r p)) m.own.vars m.own.printed x y ne ne1))))
    where
      b : Branch
      b = waiting d st m
