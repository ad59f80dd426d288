-- Each event on names keeps numbers of 64 bits and new names to come.
use Rattle.std.proofs.Common.{◌≡◌, ℕ, Bool, true, false, cond, Option, Some, None, List, [], ◌∷◌, ◌⊎◌, inl, inr, refl, sym, ap, ◌∙◌, subst, arith}
use Rattle.std.specs.Prelude.{ℤ}
use Rattle.perm_tree.specs.declared.ast.Shape.{Shape}
use Rattle.perm_tree.specs.Code.{Code, End, UnitCode}
use Rattle.perm_meaning.specs.Values.{Value, Null, Reference}
use Rattle.perm_meaning.specs.Expressions.{tagged, clear_all}
use Rattle.perm_meaning.specs.Names.{Side, OnLeft, OnRight, Path, Name, Mark, next_name, side_mark, after_par, after_object, same_name}
use Rattle.perm_meaning.specs.Objects.{Object, Objects, size, new_object, with_field_if, this_or, field_of, length_of}
use Rattle.perm_meaning.specs.Machine.{OpenBlock, Close, Returning, Failing, Leaf, Fork, Blocks, Way, Here, GoL, GoR, Fine, GaveBack, Failed, Stage, Over, Due, Did, On, Splits, Ends, Dies, Turn, Takes, NoTurn, stage, final, if_both_over, settled, ended, done, told_to, resumed, join_of, turn_op, leaf_op, leaf_on, look, fill, NoRoom}
use Rattle.perm_meaning.specs.Effects.{Tick, Load, Store, Take, Make}
use Rattle.perm_meaning.specs.Custody.{Custody}
use Rattle.perm_meaning.specs.Turns.{turn}
use Rattle.perm_meaning.specs.NamedHeap.{Heap, Held, Op, Branch, Task, Final, State, named, marks, memory, find, after, has_room, allocated, found, found_nothing}
use Rattle.perm_meaning.specs.Steps.{Answer, Found, Refused, Missing, answered, asked, step, granted, asked_with_care, careful}
use Rattle.perm_meaning.specs.Literals.{CodeFits, UnitFits}
use Rattle.perm_meaning.proofs.Leads.{some-inj, none-some}
use Rattle.perm_meaning.proofs.SameName.{name-true}
use Rattle.perm_meaning.proofs.OnWords.NewObjects.{IsSound}
use Rattle.perm_meaning.proofs.OnWords.Moved.{StackFits, DidMoved, TurnMoved, turn-moved}
use Rattle.perm_meaning.proofs.OnWords.Kept.{Frame, Extends, within-parent, not-itself, left-right, right-left, IsBefore, AreBefore, BranchKept, TaskKept, Adds, apart-kept, parent-kept}

-- ---------- the heap ----------
-- an operation that makes nothing
abbrev IsPlain : Op → Type 0
IsPlain (Make by shape n) = ⊥
IsPlain o = Unit {0}

set-from-back : (t : Bool) (f : ℕ) (v : Value Name) (x : Option (Object Name)) (o : Object Name) → with_field_if t f v x ≡ Some o → (p : Object Name) × (x ≡ Some p)
set-from-back true f v None o e = none-some e
set-from-back true f v (Some p) o e = (p, refl)
set-from-back false f v x o e = (o, e)

module _ (u : UnitCode) (fits : ℕ → Bool) where
  -- makes none
  plain-back : (o : Op) (h : Heap) → IsPlain o → (n : Name) (x : Object Name) → (after u fits o h).objects n ≡ Some x → (p : Object Name) × (h.objects n ≡ Some p)
  plain-back Tick h i n x e = (x, e)
  plain-back (Load r f) h i n x e = (x, e)
  plain-back (Store r f None) h i n x e = (x, e)
  plain-back (Store r f (Some v)) h i n x e = set-from-back (same_name n r) f v (h.objects n) x e
  plain-back (Take r f) h i n x e = set-from-back (same_name n r) f Null (h.objects n) x e
  plain-back (Make by shape k) h i n x e = absurd i

-- ---------- branches ----------
module _ (c : Custody) (u : UnitCode) (uf : UnitFits u) (fits : ℕ → Bool) where
  settled-kept : (q : Path) (h : Objects Name) (b : Branch) (vs : List Held) (code : Code) (st : List Frame) → b.own.mark.path ≡ q → AreBefore b.own.mark h → CodeFits code → StackFits st → BranchKept q h (settled (named c u) b vs code st)
  settled-kept q h b vs End (OpenBlock own rest ∷ st) p a f k = settled-kept q h b (clear_all tagged vs own) rest st p a k.0 k.1
  settled-kept q h b vs code st p a f k = record { path = p; before = a; code = f; stack = k }

  ended-kept : (q : Path) (h : Objects Name) (b : Branch) (t : ℕ) (out : List ℤ) (e : Close Held) → b.own.mark.path ≡ q → AreBefore b.own.mark h → TaskKept q h (ended (named c u) b t out e)
  ended-kept q h b t out e p a = record { path = p; before = a; code = tt; stack = tt }

  resumed-kept : (q : Path) (h : Objects Name) (b : Branch) (f : Final) → BranchKept q h b → TaskKept q h (resumed (named c u) b f)
  resumed-kept q h b (Fine vs t out) k = settled-kept q h (record b { own = record b.own { printed = out }; turns = t }) vs b.code b.stack k.path k.before k.code k.stack
  resumed-kept q h b (GaveBack v t out) k = ended-kept q h b t out (Returning v) k.path k.before
  resumed-kept q h b (Failed e t out) k = ended-kept q h b t out (Failing e) k.path k.before

  -- the marks of a par
  side-before : (s : Side) (g : Mark) (h : Objects Name) → AreBefore g h → AreBefore (side_mark s g) h
  side-before s g h a n o e =
      let b = a n o e in
      record {
        own = λ z. absurd (let x = b.sides g.pars s ([], z) in omega arith);
        sides = λ k t z. absurd (let x = b.sides g.pars s (within-parent (k, t) ((g.pars, s) ∷ g.path) n.by z) in omega arith);
      }

  par-before : (g : Mark) (h : Objects Name) → AreBefore g h → AreBefore (after_par g) h
  par-before g h a n o e = let b = a n o e in record { own = b.own; sides = λ k s z. (let x = b.sides k s z in omega arith) }

  split-kept : (q : Path) (h : Objects Name) (b : Branch) (t : ℕ) (p : Blocks) (rest : Code) → BranchKept q h b → CodeFits p.left → CodeFits p.right → CodeFits rest → TaskKept q h (done (named c u) b t (Splits p rest))
  split-kept q h b t p rest k f g r = (
    record { path = k.path; before = par-before b.own.mark h k.before; code = r; stack = k.stack },
    (
      b.own.mark.pars,
      omega arith,
      record { path = ap (λ (z : Path). (b.own.mark.pars, OnLeft) ∷ z) k.path; before = side-before OnLeft b.own.mark h k.before; code = f; stack = tt },
      record { path = ap (λ (z : Path). (b.own.mark.pars, OnRight) ∷ z) k.path; before = side-before OnRight b.own.mark h k.before; code = g; stack = tt },
    ),
  )

  -- a turn that makes nothing
  plain-kept : (q : Path) (h : Objects Name) (b : Branch) (t : ℕ) (o : Op) (d : Did Held Mark) → IsPlain o → BranchKept q h b → DidMoved u uf b.own.mark o d → TaskKept q h (done (named c u) b t d)
  plain-kept q h b t (Make by shape n) d i k m = absurd i
  plain-kept q h b t Tick (On l code st) i k m = settled-kept q h (record b { own = l; turns = t }) l.vars code st (ap (λ (z : Mark). z.path) m.0 ∙ k.path) (subst (λ z. AreBefore z h) (sym m.0) k.before) m.1 m.2
  plain-kept q h b t (Load r f) (On l code st) i k m = settled-kept q h (record b { own = l; turns = t }) l.vars code st (ap (λ (z : Mark). z.path) m.0 ∙ k.path) (subst (λ z. AreBefore z h) (sym m.0) k.before) m.1 m.2
  plain-kept q h b t (Store r f v) (On l code st) i k m = settled-kept q h (record b { own = l; turns = t }) l.vars code st (ap (λ (z : Mark). z.path) m.0 ∙ k.path) (subst (λ z. AreBefore z h) (sym m.0) k.before) m.1 m.2
  plain-kept q h b t (Take r f) (On l code st) i k m = settled-kept q h (record b { own = l; turns = t }) l.vars code st (ap (λ (z : Mark). z.path) m.0 ∙ k.path) (subst (λ z. AreBefore z h) (sym m.0) k.before) m.1 m.2
  plain-kept q h b t Tick (Splits p rest) i k m = split-kept q h b t p rest k m.0 m.1 m.2
  plain-kept q h b t (Load r f) (Splits p rest) i k m = split-kept q h b t p rest k m.0 m.1 m.2
  plain-kept q h b t (Store r f v) (Splits p rest) i k m = split-kept q h b t p rest k m.0 m.1 m.2
  plain-kept q h b t (Take r f) (Splits p rest) i k m = split-kept q h b t p rest k m.0 m.1 m.2
  plain-kept q h b t o (Ends v) i k m = ended-kept q h b t b.own.printed (Returning v) k.path k.before
  plain-kept q h b t o (Dies e) i k m = ended-kept q h b t b.own.printed (Failing e) k.path k.before

  -- what is kept of a tree, and what the heap gets, by an operation
  abbrev Kept : Path → Op → Heap → Task → Type 0
  Kept q o h t = TaskKept q (after u fits o h).objects t × Adds q h.objects (after u fits o h).objects

  before-plain : (q : Path) (o : Op) (h : Heap) (b : Branch) → IsPlain o → BranchKept q h.objects b → BranchKept q (after u fits o h).objects b
  before-plain q o h b i k = record { path = k.path; before = λ n x e. (let y = plain-back u fits o h i n x e in k.before n y.0 y.1); code = k.code; stack = k.stack }

  done-plain : (q : Path) (o : Op) (h : Heap) (b : Branch) (t : ℕ) (d : Did Held Mark) → IsPlain o → BranchKept q h.objects b → DidMoved u uf b.own.mark o d → Kept q o h (done (named c u) b t d)
  done-plain q o h b t d i k m = (plain-kept q (after u fits o h).objects b t o d i (before-plain q o h b i k) m, λ n x e. inl (plain-back u fits o h i n x e))

  -- a turn that makes an object
  made-before : (g : Mark) (n : Name) → IsBefore g n → IsBefore (after_object g) n
  made-before g n b = record { own = λ z. (let x = b.own z in omega arith); sides = b.sides }

  new-before : (g : Mark) → IsBefore (after_object g) (next_name g)
  new-before g = record { own = λ z. omega arith; sides = λ k s z. absurd (not-itself (k, s) g.path z) }

  made-names : (by : Mark) (shape : Shape) (n : ℕ) (h : Heap) (t z : Bool) (m : Name) (x : Object Name) → (allocated t z u by shape n h).objects m ≡ Some x → ((p : Object Name) × (h.objects m ≡ Some p)) ⊎ (m ≡ next_name by)
  made-names by shape n h true z m x e = go (same_name m (next_name by)) refl e
    where
      go : (s : Bool) → same_name m (next_name by) ≡ s → this_or s (new_object u shape n) (h.objects m) ≡ Some x → ((p : Object Name) × (h.objects m ≡ Some p)) ⊎ (m ≡ next_name by)
      go true d e = inr (name-true m (next_name by) d)
      go false d e = inl (x, e)
  made-names by shape n h false true m x e = inl (x, e)
  made-names by shape n h false false m x e = inl (x, e)

  done-kept : (q : Path) (o : Op) (h : Heap) (b : Branch) (t : ℕ) (d : Did Held Mark) → BranchKept q h.objects b → DidMoved u uf b.own.mark o d → Kept q o h (done (named c u) b t d)
  done-kept q Tick h b t d k m = done-plain q Tick h b t d tt k m
  done-kept q (Load r f) h b t d k m = done-plain q (Load r f) h b t d tt k m
  done-kept q (Store r f v) h b t d k m = done-plain q (Store r f v) h b t d tt k m
  done-kept q (Take r f) h b t d k m = done-plain q (Take r f) h b t d tt k m
  done-kept q (Make by shape n) h b t (Splits p rest) k m = absurd m
  done-kept q (Make by shape n) h b t (Ends v) k m = absurd m
  done-kept q (Make by shape n) h b t (Dies e) k m = absurd m
  done-kept q (Make by shape n) h b t (On l code st) k m = (
    settled-kept q (after u fits (Make by shape n) h).objects (record b { own = l; turns = t }) l.vars code st (ap (λ (z : Mark). z.path) m.1 ∙ k.path) (subst (λ z. AreBefore z (after u fits (Make by shape n) h).objects) (sym m.1) before) m.2 m.3,
    adds,
  )
    where
      names : (i : Name) (x : Object Name) → (after u fits (Make by shape n) h).objects i ≡ Some x → ((p : Object Name) × (h.objects i ≡ Some p)) ⊎ (i ≡ next_name by)
      names i x e = made-names by shape n h (has_room fits n h) (fits (size n)) i x e

      before : AreBefore (after_object b.own.mark) (after u fits (Make by shape n) h).objects
      before i x e = go (names i x e)
        where
          go : ((p : Object Name) × (h.objects i ≡ Some p)) ⊎ (i ≡ next_name by) → IsBefore (after_object b.own.mark) i
          go (inl z) = made-before b.own.mark i (k.before i z.0 z.1)
          go (inr z) = subst (λ y. IsBefore (after_object b.own.mark) y) (sym (z ∙ ap next_name m.0)) (new-before b.own.mark)

      adds : Adds q h.objects (after u fits (Make by shape n) h).objects
      adds i x e = go (names i x e)
        where
          go : ((p : Object Name) × (h.objects i ≡ Some p)) ⊎ (i ≡ next_name by) → ((p : Object Name) × (h.objects i ≡ Some p)) ⊎ Extends q i.by
          go (inl z) = inl z
          go (inr z) = inr ([], ap (λ (y : Name). y.by) z ∙ ap (λ (y : Mark). y.path) m.0 ∙ k.path)

  -- ---------- trees ----------
  told-kept : (q : Path) (h : Heap) (b : Branch) (t : ℕ) (f : Turn Held Mark Op) (o : Op) (v : Held) → BranchKept q h.objects b → TurnMoved u uf b.own.mark f → turn_op (named c u) f ≡ Some o → Kept q o h (told_to (named c u) b t f (Some v))
  told-kept q h b t NoTurn o v k m e = none-some e
  told-kept q h b t (Takes p told) o v k m e = subst (λ z. Kept q z h (done (named c u) b t (told v))) (some-inj e) (done-kept q p h b t (told v) k (m v))

  moved : (b : Branch) → CodeFits b.code → StackFits b.stack → TurnMoved u uf b.own.mark (turn tagged c u marks b.code b.stack b.own)
  moved b f k = turn-moved u uf b.own.mark c b.code b.stack b.own refl f k

  leaf-kept : (q : Path) (h : Heap) (b : Branch) (z : Stage Held) (o : Op) (v : Held) → BranchKept q h.objects b → leaf_op (named c u) b z ≡ Some o → Kept q o h (leaf_on (named c u) b z (Some v))
  leaf-kept q h b (Over f) o v k e = none-some e
  leaf-kept q h b (Due t) o v k e = told-kept q h b t (turn tagged c u marks b.code b.stack b.own) o v k (moved b k.code k.stack) e

  join-event-kept : (q : Path) (h : Heap) (b : Branch) (p : Blocks) (l r : Task) (f g : Option Final) (o : Op) → TaskKept q h.objects (Fork b p l r) → if_both_over f g None (λ x y. Some Tick) ≡ Some o
      → Kept q o h (if_both_over f g (Fork b p l r) (λ x y. resumed (named c u) b (join_of (named c u) b p x y)))
  join-event-kept q h b p l r (Some f) (Some g) o k e =
      subst (λ z. Kept q z h (resumed (named c u) b (join_of (named c u) b p f g))) (some-inj e) (resumed-kept q h.objects b (join_of (named c u) b p f g) k.0, λ n x e. inl (x, e))
  join-event-kept q h b p l r None g o k e = none-some e
  join-event-kept q h b p l r (Some f) None o k e = none-some e

  -- an event keeps what is kept
  pub fill-kept : (w : Way) (q : Path) (h : Heap) (t : Task) (o : Op) (v : Held) → TaskKept q h.objects t → look (named c u) w t ≡ Some o → Kept q o h (fill (named c u) w t (Some v))
  fill-kept Here q h (Leaf b) o v k e = leaf-kept q h b (stage b) o v k e
  fill-kept Here q h (Fork b p l r) o v k e = join-event-kept q h b p l r (final l) (final r) o k e
  fill-kept (GoL w) q h (Leaf b) o v k e = none-some e
  fill-kept (GoR w) q h (Leaf b) o v k e = none-some e
  fill-kept (GoL w) q h (Fork b p l r) o v k e =
      let x = fill-kept w ((k.1.0, OnLeft) ∷ q) h l o v k.1.2 e in (
        (
          parent-kept q k.1.0 OnLeft h.objects (after u fits o h).objects b k.1.1 x.1 k.0,
          (k.1.0, k.1.1, x.0, apart-kept ((k.1.0, OnRight) ∷ q) ((k.1.0, OnLeft) ∷ q) h.objects (after u fits o h).objects r x.1 (λ n f g. left-right k.1.0 q n.by f g) k.1.3),
        ),
        λ n y e. up n (x.1 n y e),
      )
    where
      up : (n : Name) → ((z : Object Name) × (h.objects n ≡ Some z)) ⊎ Extends ((k.1.0, OnLeft) ∷ q) n.by → ((z : Object Name) × (h.objects n ≡ Some z)) ⊎ Extends q n.by
      up n (inl z) = inl z
      up n (inr z) = inr (within-parent (k.1.0, OnLeft) q n.by z)
  fill-kept (GoR w) q h (Fork b p l r) o v k e =
      let x = fill-kept w ((k.1.0, OnRight) ∷ q) h r o v k.1.3 e in (
        (
          parent-kept q k.1.0 OnRight h.objects (after u fits o h).objects b k.1.1 x.1 k.0,
          (k.1.0, k.1.1, apart-kept ((k.1.0, OnLeft) ∷ q) ((k.1.0, OnRight) ∷ q) h.objects (after u fits o h).objects l x.1 (λ n f g. right-left k.1.0 q n.by f g) k.1.2, x.0),
        ),
        λ n y e. up n (x.1 n y e),
      )
    where
      up : (n : Name) → ((z : Object Name) × (h.objects n ≡ Some z)) ⊎ Extends ((k.1.0, OnRight) ∷ q) n.by → ((z : Object Name) × (h.objects n ≡ Some z)) ⊎ Extends q n.by
      up n (inl z) = inl z
      up n (inr z) = inr (within-parent (k.1.0, OnRight) q n.by z)

  -- ---------- a new object's name is new ----------
  new-name : (b : Branch) (h : Heap) → AreBefore b.own.mark h.objects → (by : Mark) → by ≡ b.own.mark → h.objects (next_name by) ≡ None
  new-name b h a by e = subst (λ z. h.objects (next_name z) ≡ None) (sym e) (go (h.objects (next_name b.own.mark)) refl)
    where
      go : (x : Option (Object Name)) → h.objects (next_name b.own.mark) ≡ x → x ≡ None
      go None q = refl
      go (Some o) q = let y = (a (next_name b.own.mark) o q).own refl in absurd (omega arith)

  did-by : (g : Mark) (by : Mark) (shape : Shape) (n : ℕ) (d : Did Held Mark) → DidMoved u uf g (Make by shape n) d → by ≡ g
  did-by g by shape n (On l code st) m = m.0
  did-by g by shape n (Splits p rest) m = absurd m
  did-by g by shape n (Ends v) m = absurd m
  did-by g by shape n (Dies e) m = absurd m

  turn-sound : (h : Heap) (b : Branch) (f : Turn Held Mark Op) (o : Op) → AreBefore b.own.mark h.objects → TurnMoved u uf b.own.mark f → turn_op (named c u) f ≡ Some o → IsSound o h
  turn-sound h b NoTurn o a m e = none-some e
  turn-sound h b (Takes p told) o a m e = subst (λ z. IsSound z h) (some-inj e) (go p told m)
    where
      go : (p : Op) (told : Held → Did Held Mark) → ((v : Held) → DidMoved u uf b.own.mark p (told v)) → IsSound p h
      go (Make by shape n) told m = new-name b h a by (did-by b.own.mark by shape n (told None) (m None))
      go Tick told m = tt
      go (Load r f) told m = tt
      go (Store r f v) told m = tt
      go (Take r f) told m = tt

  leaf-sound : (q : Path) (h : Heap) (b : Branch) (z : Stage Held) (o : Op) → BranchKept q h.objects b → leaf_op (named c u) b z ≡ Some o → IsSound o h
  leaf-sound q h b (Over f) o k e = none-some e
  leaf-sound q h b (Due t) o k e = turn-sound h b (turn tagged c u marks b.code b.stack b.own) o k.before (moved b k.code k.stack) e

  join-sound : (h : Heap) (f g : Option Final) (o : Op) → if_both_over f g None (λ x y. Some Tick) ≡ Some o → IsSound o h
  join-sound h (Some f) (Some g) o e = subst (λ z. IsSound z h) (some-inj e) tt
  join-sound h None g o e = none-some e
  join-sound h (Some f) None o e = none-some e

  -- what is asked next is sound
  pub asks-sound : (w : Way) (q : Path) (h : Heap) (t : Task) (o : Op) → TaskKept q h.objects t → look (named c u) w t ≡ Some o → IsSound o h
  asks-sound Here q h (Leaf b) o k e = leaf-sound q h b (stage b) o k e
  asks-sound Here q h (Fork b p l r) o k e = join-sound h (final l) (final r) o e
  asks-sound (GoL w) q h (Leaf b) o k e = none-some e
  asks-sound (GoR w) q h (Leaf b) o k e = none-some e
  asks-sound (GoL w) q h (Fork b p l r) o k e = asks-sound w ((k.1.0, OnLeft) ∷ q) h l o k.1.2 e
  asks-sound (GoR w) q h (Fork b p l r) o k e = asks-sound w ((k.1.0, OnRight) ∷ q) h r o k.1.3 e

  -- ---------- states ----------
  -- a state on names whose code has numbers of 64 bits, and whose names to come are new
  abbrev pub IsKept : State → Type 0
  IsKept s = TaskKept [] s.heap.objects s.task

  -- an event leads from one to one
  pub keeps : (s s' : State) (w : Way) → IsKept s → careful (named c u) (memory u) fits s w ≡ Some s' → IsKept s'
  keeps s s' w k e = looked (look (named c u) w s.task) refl e
    where
      answered : (o : Op) (x : Answer Held) → look (named c u) w s.task ≡ Some o → granted (named c u) (memory u) fits s w o x ≡ Some s' → IsKept s'
      answered o (Found v) q e = subst (λ (z : State). TaskKept [] z.heap.objects z.task) (some-inj e) (fill-kept w [] s.heap s.task o v k q).0
      answered o Refused q e = none-some e
      answered o Missing q e = none-some e

      looked : (x : Option Op) → look (named c u) w s.task ≡ x → asked_with_care (named c u) (memory u) fits s w x ≡ Some s' → IsKept s'
      looked None q e = none-some e
      looked (Some o) q e = answered o (find fits o s.heap) q e

  -- ---------- refused allocations ----------
  -- one changes no object
  refused-same : (o : Op) (h : Heap) → find fits o h ≡ Refused → (after u fits o h).objects ≡ h.objects
  refused-same Tick h e = absurd (cc)
  refused-same (Load r f) h e = go (field_of h.objects r f) e
    where
      go : (x : Option (Value Name)) → found x ≡ Refused → h.objects ≡ h.objects
      go None e = absurd (cc)
      go (Some v) e = absurd (cc)
  refused-same (Store r f v) h e = go (field_of h.objects r f) e
    where
      go : (x : Option (Value Name)) → found_nothing x ≡ Refused → (after u fits (Store r f v) h).objects ≡ h.objects
      go None e = absurd (cc)
      go (Some w) e = absurd (cc)
  refused-same (Take r f) h e = go (field_of h.objects r f) e
    where
      go : (x : Option (Value Name)) → found x ≡ Refused → (after u fits (Take r f) h).objects ≡ h.objects
      go None e = absurd (cc)
      go (Some v) e = absurd (cc)
  refused-same (Make by shape n) h e = go (has_room fits n h) (fits (size n)) e
    where
      go : (t z : Bool) → cond t (Found (Some (Reference (next_name by) (length_of shape n)))) Refused ≡ Refused → (allocated t z u by shape n h).objects ≡ h.objects
      go true z e = absurd (cc)
      go false true e = refl
      go false false e = refl

  told-refused : (q : Path) (h : Objects Name) (b : Branch) (t : ℕ) (f : Turn Held Mark Op) → BranchKept q h b → TaskKept q h (told_to (named c u) b t f None)
  told-refused q h b t NoTurn k = k
  told-refused q h b t (Takes o told) k = ended-kept q h b t b.own.printed (Failing NoRoom) k.path k.before

  leaf-refused : (q : Path) (h : Objects Name) (b : Branch) (z : Stage Held) → BranchKept q h b → TaskKept q h (leaf_on (named c u) b z None)
  leaf-refused q h b (Over f) k = k
  leaf-refused q h b (Due t) k = told-refused q h b t (turn tagged c u marks b.code b.stack b.own) k

  join-refused : (q : Path) (h : Objects Name) (b : Branch) (p : Blocks) (l r : Task) (f g : Option Final) → TaskKept q h (Fork b p l r) → TaskKept q h (if_both_over f g (Fork b p l r) (λ x y. resumed (named c u) b (join_of (named c u) b p x y)))
  join-refused q h b p l r (Some f) (Some g) k = resumed-kept q h b (join_of (named c u) b p f g) k.0
  join-refused q h b p l r None g k = k
  join-refused q h b p l r (Some f) None k = k

  -- a branch that is refused keeps what is kept
  pub fill-refused : (w : Way) (q : Path) (h : Objects Name) (t : Task) → TaskKept q h t → TaskKept q h (fill (named c u) w t None)
  fill-refused Here q h (Leaf b) k = leaf-refused q h b (stage b) k
  fill-refused Here q h (Fork b p l r) k = join-refused q h b p l r (final l) (final r) k
  fill-refused (GoL w) q h (Leaf b) k = k
  fill-refused (GoR w) q h (Leaf b) k = k
  fill-refused (GoL w) q h (Fork b p l r) k = (k.0, (k.1.0, k.1.1, fill-refused w ((k.1.0, OnLeft) ∷ q) h l k.1.2, k.1.3))
  fill-refused (GoR w) q h (Fork b p l r) k = (k.0, (k.1.0, k.1.1, k.1.2, fill-refused w ((k.1.0, OnRight) ∷ q) h r k.1.3))

  -- an event that may be a refused allocation leads from one to one
  pub keeps-step : (s s' : State) (w : Way) → IsKept s → step (named c u) (memory u) fits s w ≡ Some s' → IsKept s'
  keeps-step s s' w k e = looked (look (named c u) w s.task) refl e
    where
      reply : (o : Op) (x : Answer Held) → look (named c u) w s.task ≡ Some o → find fits o s.heap ≡ x → answered (named c u) (memory u) fits s w o x ≡ Some s' → IsKept s'
      reply o (Found v) q z e = subst (λ (z : State). TaskKept [] z.heap.objects z.task) (some-inj e) (fill-kept w [] s.heap s.task o v k q).0
      reply o Refused q z e =
          subst (λ (z : State). TaskKept [] z.heap.objects z.task) (some-inj e) (subst (λ h. TaskKept [] h (fill (named c u) w s.task None)) (sym (refused-same o s.heap z)) (fill-refused w [] s.heap.objects s.task k))
      reply o Missing q z e = none-some e

      looked : (x : Option Op) → look (named c u) w s.task ≡ x → asked (named c u) (memory u) fits s w x ≡ Some s' → IsKept s'
      looked None q e = none-some e
      looked (Some o) q e = reply o (find fits o s.heap) q refl e
