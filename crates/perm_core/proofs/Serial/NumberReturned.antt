-- A root that has returned has returned a number: so nothing is told of an ended root but a report, or that the heap is full.
use Rattle.std.proofs.Common.{◌≡◌, ℕ, Bool, true, Option, Some, None, List, [], refl, sym, ap, subst, ◌∙◌}
use Rattle.std.specs.Prelude.{ℤ, ◌||◌, not, nat_eq}
use Rattle.perm_tree.specs.declared.ast.Span.{Span}
use Rattle.perm_tree.specs.declared.ast.Perm.{Perm}
use Rattle.perm_tree.specs.declared.ast.Ty.{Ty}
use Rattle.perm_tree.specs.declared.ast.Ty.TheVariants.{Long}
use Rattle.perm_tree.specs.declared.errors.TypeKind.TheVariants.{WrongKind, Gone, NeedsConsume, PermissionTooWeak}
use Rattle.perm_tree.specs.Code.{Argument, Code, Return, UnitCode}
use Rattle.perm_tree.specs.Vars.{Vars}
use Rattle.perm_rules.specs.Parts.{Context, Returned}
use Rattle.perm_rules.specs.Refusals.{IsAllowed}
use Rattle.perm_rules.proofs.PartLaws.{applies-none}
use Rattle.perm_meaning.specs.Values.{Value, Number, Truth, Null, Reference, Gives}
use Rattle.perm_meaning.specs.Names.{Name, Mark}
use Rattle.perm_meaning.specs.Objects.{Objects}
use Rattle.perm_meaning.specs.Expressions.{tagged, value_of}
use Rattle.perm_meaning.specs.Machine.{Frame, Close, Returning, Failing, Leaf, Fork, Way, Here, Fine, GaveBack, Failed, Due, stage, join_final, Did, On, Splits, Ends, Dies, done, resumed, join_of}
use Rattle.perm_meaning.specs.NamedHeap.{Heap, Held, Op, Own, Branch, Final, Task}
use Rattle.perm_meaning.proofs.SameName.{eq-true}
use Rattle.perm_core.specs.Core.{core}
use Rattle.perm_core.specs.Endings.{ByReturn, is_open}
use Rattle.perm_core.specs.Regions.{Zone, Base, OwnOf, Labels, calls, top_zone}
use Rattle.perm_core.specs.Picture.{context_if, context_of, value_fits, valued, context_above, RestGoes, lowest, stands_in}
use Rattle.perm_core.specs.Claims.{IsChecked}
use Rattle.perm_core.proofs.KeepsPicture.Turns.Arguments.{Comes, argument-comes}
use Rattle.perm_core.proofs.KeepsPicture.Labels.CarriedValues.{AllFit, to-all}
use Rattle.perm_core.proofs.KeepsPicture.Turns.LeafTurns.{TurnTo, dying, ending, acting, making, beginning, left_block, right_block, into_loop, out_of_loop, parting, recovering, giving, returning}
use Rattle.perm_core.proofs.KeepsPicture.Trees.NodePremises.{NodeFits, LeafFits, leaf-fits}
use Rattle.perm_core.proofs.KeepsPicture.Calls.ReturnTurns.{gives-one}
use Rattle.perm_core.proofs.KeepsPicture.Trees.TreeEvents.{EventAt, refused_leaf, told_leaf, joining, on_left, on_right}
use Rattle.perm_core.proofs.Serial.RoomKept.{settled-close}

-- the value with which a turn ends a run, if it does
abbrev ended_with : Did Held Mark → Held
ended_with (Ends v) = v
ended_with d = None

-- a number
abbrev pub IsNumber : Held → Type 0
IsNumber v = (n : ℤ) × (v ≡ Some (Number n))

-- what has returned has returned a number
abbrev pub ReturnsNumber : Option (Close Held) → Type 0
ReturnsNumber None = Unit {0}
ReturnsNumber (Some (Failing e)) = Unit {0}
ReturnsNumber (Some (Returning v)) = IsNumber v

-- so it is of the root of a tree
abbrev pub RootReturnsNumber : Task → Type 0
RootReturnsNumber (Leaf b) = ReturnsNumber b.close
RootReturnsNumber (Fork b p l r) = ReturnsNumber b.close

long-number : (h : Objects Name) (test : Perm → Name → Bool) (t : Ty) (v : Value Name) → t ≡ Long → value_fits h test t v ≡ true → IsNumber (Some v)
long-number h test t v is e = go v (sym (ap (λ t. value_fits h test t v) is) ∙ e)
  where
    go : (v : Value Name) → value_fits h test Long v ≡ true → IsNumber (Some v)
    go (Number n) e = (n, refl)
    go (Truth b) e = absurd (cc)
    go Null e = absurd (cc)
    go (Reference r n) e = absurd (cc)

-- no join gives back a value
join-goes-on : (merge : List Held → List Held → List Held → List Held) (vs : List Held) (out : List ℤ) (x y : Final) (v : Held) (t : ℕ) (p : List ℤ) → join_final merge vs out x y ≡ GaveBack v t p → ⊥
join-goes-on merge vs out (Fine ls t1 p1) (Fine rs t2 p2) v t p e = cc e
join-goes-on merge vs out (Fine ls t1 p1) (GaveBack w t2 p2) v t p e = cc e
join-goes-on merge vs out (Fine ls t1 p1) (Failed f t2 p2) v t p e = cc e
join-goes-on merge vs out (GaveBack a t1 p1) (Fine rs t2 p2) v t p e = cc e
join-goes-on merge vs out (GaveBack a t1 p1) (GaveBack w t2 p2) v t p e = cc e
join-goes-on merge vs out (GaveBack a t1 p1) (Failed f t2 p2) v t p e = cc e
join-goes-on merge vs out (Failed f t1 p1) (Fine rs t2 p2) v t p e = cc e
join-goes-on merge vs out (Failed f t1 p1) (GaveBack w t2 p2) v t p e = cc e
join-goes-on merge vs out (Failed f t1 p1) (Failed g t2 p2) v t p e = cc e

module _ (u : UnitCode) where
  -- ---------- the turn that ends a run ----------
  -- the branch returns this value, and nothing stands below its code
  record ByReturning (l : Own) (c : Code) (st : List (Frame Held)) (v : Held) : Type 0 where
    span : Span
    argument : Argument
    code : c ≡ Return span argument
    stack : st ≡ []
    gives : value_of tagged argument l.vars ≡ Gives v

  by-returning : (l : Own) (w : Held) (c : Code) (st : List (Frame Held)) (o : Op) (d : Did Held Mark) (v : Held) → d ≡ Ends v → TurnTo u l w c st o d → ByReturning l c st v
  by-returning l w _ _ _ _ v e (dying c st f) = absurd (let no : ⊥ = cc e in no)
  by-returning l w _ _ _ _ v e (ending at a x q) = record { span = at; argument = a; code = refl; stack = refl; gives = q ∙ ap (λ z. Gives z) (ap ended_with e) }
  by-returning l w _ _ _ _ v e (acting at i rest st o vs l' acts stays) = absurd (let no : ⊥ = cc e in no)
  by-returning l w _ _ _ _ v e (making at i rest st shape n x l' is q) = absurd (let no : ⊥ = cc e in no)
  by-returning l w _ _ _ _ v e (beginning at rest st into tie consumed y n args r this found vs saved lent l' c caller is code q1 q2 q3 goes) = absurd (let no : ⊥ = cc e in no)
  by-returning l w _ _ _ _ v e (left_block at x own1 a own2 a2 rest st) = absurd (let no : ⊥ = cc e in no)
  by-returning l w _ _ _ _ v e (right_block at x own1 a own2 a2 rest st) = absurd (let no : ⊥ = cc e in no)
  by-returning l w _ _ _ _ v e (into_loop at x own body rest st) = absurd (let no : ⊥ = cc e in no)
  by-returning l w _ _ _ _ v e (out_of_loop at x own body rest st) = absurd (let no : ⊥ = cc e in no)
  by-returning l w _ _ _ _ v e (parting at own1 a own2 a2 rest st p same) = absurd (let no : ⊥ = cc e in no)
  by-returning l w _ _ _ _ v e (recovering at x own hides body rest st l' saved goes q) = absurd (let no : ⊥ = cc e in no)
  by-returning l w _ _ _ _ v e (giving at y x own hides saved rest st a l' had q goes) = absurd (let no : ⊥ = cc e in no)
  by-returning l w _ _ _ _ v e (returning at a tie into y saved lent caller rest st x l' q goes) = absurd (let no : ⊥ = cc e in no)

  module _ (checked : IsChecked u) where
    run-result : (context_of u u.run).result ≡ Long
    run-result = ap (λ o. (context_if u o).result) checked.whole.there ∙ checked.whole.run.result

    -- what `Run` returns is a number
    run-returns : (labels : Labels) (heap : Heap) (H : Vars) (b : Branch) (t : ℕ) (w : Held) (o : Op) (v : Held) → NodeFits u labels heap ByReturn [] (λ z. z) (Base Here 0) (Leaf b) H → b.close ≡ None → stage b ≡ Due t
        → lowest b.own.routine b.stack ≡ u.run → ByReturning b.own b.code b.stack v → IsNumber v
    run-returns labels heap H b t w o v node open_ due low by = subst (λ z. IsNumber z) (sym comes.1.0) (long-number heap.objects _ c.result comes.0 long comes.1.1)
      where
        leaf : LeafFits u labels heap ByReturn [] (λ z. z) (Base Here 0) b H
        leaf = leaf-fits u labels heap ByReturn [] (λ z. z) (Base Here 0) b H t node open_ due

        c : Context
        c = context_of u b.own.routine

        z : Zone
        z = top_zone Here (Base Here 0) b.stack

        fit : AllFit u labels heap.objects z Here (calls b.stack) c.vars b.own.vars
        fit = to-all u labels heap.objects z Here (calls b.stack) c.vars b.own.vars leaf.vars

        routine : b.own.routine ≡ u.run
        routine = sym (ap (λ st. lowest b.own.routine st) by.stack) ∙ low

        long : c.result ≡ Long
        long = ap (λ m. (context_of u m).result) routine ∙ run-result

        goes : RestGoes u [] b.own.routine (Return by.span by.argument) [] (valued b.own.vars) H
        goes = subst (λ st. RestGoes u [] b.own.routine (Return by.span by.argument) st (valued b.own.vars) H) by.stack (subst (λ a. RestGoes u [] b.own.routine a b.stack (valued b.own.vars) H) by.code leaf.goes)

        allowed : IsAllowed (context_above u [] b.own.routine []) (Returned by.argument) (valued b.own.vars)
        allowed = goes.0

        comes : (d : Value Name) × ((v ≡ Some d) × Comes u labels heap.objects c Here (calls b.stack) z b.own.vars fit c.result (OwnOf z) z by.argument d)
        comes =
            argument-comes u labels heap.objects c Here (calls b.stack) z b.own.vars fit c.result (OwnOf z) z by.argument v (gives-one by.argument b.own.vars v by.gives).0 (gives-one by.argument b.own.vars v by.gives).1
            (applies-none (context_above u [] b.own.routine []) (Returned by.argument) (valued b.own.vars) allowed Gone)
            (applies-none (context_above u [] b.own.routine []) (Returned by.argument) (valued b.own.vars) allowed WrongKind)
            (applies-none (context_above u [] b.own.routine []) (Returned by.argument) (valued b.own.vars) allowed PermissionTooWeak)
            (applies-none (context_above u [] b.own.routine []) (Returned by.argument) (valued b.own.vars) allowed NeedsConsume)
            (λ n p s m q. (λ e. refl, λ e. refl))

    -- ---------- events ----------
    done-number : (b : Branch) (t : ℕ) (d : Did Held Mark) → b.close ≡ None → ((v : Held) → d ≡ Ends v → IsNumber v) → RootReturnsNumber (done (core u) b t d)
    done-number b t (On l c st) open_ ends = subst (λ z. ReturnsNumber z) (sym (settled-close u (record b { own = l; turns = t }) l.vars c st ∙ open_)) tt
    done-number b t (Splits p rest) open_ ends = subst (λ z. ReturnsNumber z) (sym open_) tt
    done-number b t (Ends v) open_ ends = ends v refl
    done-number b t (Dies e) open_ ends = tt

    resumed-number : (b : Branch) (f : Final) → ReturnsNumber b.close → ((v : Held) (t : ℕ) (p : List ℤ) → f ≡ GaveBack v t p → ⊥) → RootReturnsNumber (resumed (core u) b f)
    resumed-number b (Fine vs t p) has goes_on = subst (λ z. ReturnsNumber z) (sym (settled-close u (record b { own = record b.own { printed = p }; turns = t }) vs b.code b.stack)) has
    resumed-number b (GaveBack v t p) has goes_on = absurd (goes_on v t p refl)
    resumed-number b (Failed e t p) has goes_on = tt

    -- so it is after an event
    pub keeps-number : (labels : Labels) (heap : Heap) (H : Vars) (o : Op) (v : Option Held) (w : Way) (t after : Task) → NodeFits u labels heap ByReturn [] (λ z. z) (Base Here 0) t H → stands_in u.run t ≡ true → RootReturnsNumber t → EventAt u o v w t after
        → RootReturnsNumber after
    keeps-number labels heap H o v _ _ after node stands has (refused_leaf b t _ q open_ same) = subst (λ z. RootReturnsNumber z) (sym same) tt
    keeps-number labels heap H o v _ _ after node stands has (told_leaf b t w d _ q open_ due turn same) =
        let low = eq-true (lowest b.own.routine b.stack) u.run (sym (ap (λ x. not (is_open x) || nat_eq (lowest b.own.routine b.stack) u.run) open_) ∙ stands) in
        subst (λ z. RootReturnsNumber z) (sym same) (done-number b t d open_ (λ x e. run-returns labels heap H b t w o x node open_ due low (by-returning b.own w b.code b.stack o d x e turn)))
    keeps-number labels heap H o v _ _ after node stands has (joining b p l r x y _ q left right same) =
        subst (λ z. RootReturnsNumber z) (sym same) (resumed-number b (join_of (core u) b p x y) has (join-goes-on ((core u).parting.joined b.own.routine p) b.own.vars b.own.printed x y))
    keeps-number labels heap H o v _ _ _ node stands has (on_left w b p l r after is) = has
    keeps-number labels heap H o v _ _ _ node stands has (on_right w b p l r after is) = has
