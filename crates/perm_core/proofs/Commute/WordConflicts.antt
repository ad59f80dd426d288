-- On words no two nodes are about to touch one word of the heap, one of them writing, in each state that is reached.
use Rattle.std.proofs.Common.{◌≡◌, ℕ, ◌+◌, ap, Option, Some, None, refl, sym, subst, ◌∙◌, arith}
use Rattle.std.specs.Prelude.{ℤ, List}
use Rattle.std.proofs.lemmas.Option.{slice_get_within}
use Rattle.perm_tree.specs.Code.{UnitCode}
use Rattle.perm_meaning.specs.Effects.{Tick, Load, Store, Take, Make}
use Rattle.perm_meaning.specs.Names.{Name}
use Rattle.perm_meaning.specs.NamedHeap.{Heap, Op, found, found_nothing, find}
use Rattle.perm_meaning.specs.Objects.{Object, field_of, value_in}
use Rattle.perm_meaning.specs.Shows.{Bases, IsAskOf, IsWithin, HeapShown}
use Rattle.perm_meaning.specs.Steps.{Missing, within}
use Rattle.perm_meaning.specs.Values.{Value}
use Rattle.perm_meaning.specs.WordHeap.{Ask, Cells}
use Rattle.perm_meaning.proofs.Leads.{none-some, some-inj}
use Rattle.perm_core.specs.Core.{Touches, Writes}
use Rattle.perm_core.specs.Reached.{HasNoConflictOnWords}
use Rattle.perm_core.specs.WordCore as word_core
use Rattle.perm_core.proofs.Commute.Conflicts.{has-no-conflict}
use Rattle.perm_core.proofs.KeepsPicture.PictureEvents.{keeps-picture}
use Rattle.perm_core.proofs.WordsShown.{asks-on-names}
use Rattle.perm_core.proofs.Serial.LeftThenRight.{reaches-picture, reaches-next}
use Rattle.perm_core.proofs.Serial.ReachedStates.{reached-shown}

field-there : (x : Option (Value Name)) → (x ≡ None → ⊥) → (v : Value Name) × (x ≡ Some v)
field-there None not = absurd (not refl)
field-there (Some v) not = (v, refl)

-- a field that is there lies within its object
field-within : (x : Option (Object Name)) (k f : ℕ) (v : Value Name) → value_in x f ≡ Some v → (o : Object Name) × (x ≡ Some o) × IsWithin (k + f) k o
field-within None k f v e = none-some e
field-within (Some o) k f v e = let h = slice_get_within o.values f v e in (o, refl, (omega arith, omega arith))

-- the word at a place is that of a field that is there, which the operation touches
record TouchesField (b : Bases) (h : Heap) (o : Op) (p : Ask) (at : ℕ) : Type 0 where
  object : Name
  field : ℕ
  base : ℕ
  value : Value Name
  based : b object ≡ Some base
  there : field_of h.objects object field ≡ Some value
  place : base + field ≡ at
  touches : Touches o object field
  writes : word_core.Writes p at → Writes o object field

module _ (limit : ℕ) where
  -- an operation that touches a word touches its field
  touched : (b : Bases) (h : Heap) (o : Op) (p : Ask) (at : ℕ) → IsAskOf b o p → (find (within limit) o h ≡ Missing → ⊥) → word_core.Touches p at → TouchesField b h o p at
  touched b h o Tick at is there e = absurd e
  touched b h o (Make by shape n) at is there e = absurd e
  touched b h Tick (Load k g) at is there e = absurd is
  touched b h (Load r f) (Load k g) at is there e =
      let x = field-there (field_of h.objects r f) (λ q. there (ap found q)) in
      record { object = r; field = f; base = k; value = x.0; based = is.0; there = x.1; place = ap (λ z. k + z) is.1 ∙ e; touches = (refl, refl); writes = λ w. absurd w }
  touched b h (Store r f v) (Load k g) at is there e = absurd is
  touched b h (Take r f) (Load k g) at is there e = absurd is
  touched b h (Make by shape n) (Load k g) at is there e = absurd is
  touched b h Tick (Store k g w) at is there e = absurd is
  touched b h (Load r f) (Store k g w) at is there e = absurd is
  touched b h (Store r f v) (Store k g w) at is there e =
      let x = field-there (field_of h.objects r f) (λ q. there (ap found_nothing q)) in
      record { object = r; field = f; base = k; value = x.0; based = is.0; there = x.1; place = ap (λ z. k + z) is.1 ∙ e; touches = (refl, refl); writes = λ w. (refl, refl) }
  touched b h (Take r f) (Store k g w) at is there e = absurd is
  touched b h (Make by shape n) (Store k g w) at is there e = absurd is
  touched b h Tick (Take k g) at is there e = absurd is
  touched b h (Load r f) (Take k g) at is there e = absurd is
  touched b h (Store r f v) (Take k g) at is there e = absurd is
  touched b h (Take r f) (Take k g) at is there e =
      let x = field-there (field_of h.objects r f) (λ q. there (ap found q)) in
      record { object = r; field = f; base = k; value = x.0; based = is.0; there = x.1; place = ap (λ z. k + z) is.1 ∙ e; touches = (refl, refl); writes = λ w. (refl, refl) }
  touched b h (Make by shape n) (Take k g) at is there e = absurd is

-- what writes a word touches it
write-touches : (p : Ask) (at : ℕ) → word_core.Writes p at → word_core.Touches p at
write-touches Tick at e = absurd e
write-touches (Load k g) at e = absurd e
write-touches (Store k g w) at e = e
write-touches (Take k g) at e = e
write-touches (Make by shape n) at e = absurd e

-- one word is that of one field
one-field : (b : Bases) (h : Heap) (c : Cells) (n m : Name) (k l f g at : ℕ) (v w : Value Name) → HeapShown b h c → b n ≡ Some k → b m ≡ Some l → field_of h.objects n f ≡ Some v → field_of h.objects m g ≡ Some w → k + f ≡ at → l + g ≡ at → (n ≡ m) × (f ≡ g)
one-field b h c n m k l f g at v w shown bn bm hn hm en em =
    let x = field-within (h.objects n) k f v hn in
    let y = field-within (h.objects m) l g w hm in
    let same = shown.apart n m k l at x.0 y.0 bn bm x.1 y.1 (subst (λ z. IsWithin z k x.0) en x.2) (subst (λ z. IsWithin z l y.0) em y.2) in
    let base = some-inj (sym bn ∙ ap b same ∙ bm) in
    (same, omega arith)

module _ (u : UnitCode) (limit : ℕ) (input : List ℤ) (turns : ℕ) where
  pub no-conflict-on-words : HasNoConflictOnWords u limit input turns
  no-conflict-on-words t is c =
      let x = reached-shown u limit input turns t is in
      let picture = reaches-picture u limit input turns (λ n. keeps-picture u n) is.first x.events x.state is.checked is.opens.opens x.run in
      let all = reaches-next u limit input turns (λ n. keeps-picture u n) is.first x.events x.state is.checked is.opens.opens x.run in
      let one = asks-on-names u limit input turns is.first is.checked.whole is.opens x.events x.state x.bases t c.one c.writing x.run x.shown all c.writes_next in
      let other = asks-on-names u limit input turns is.first is.checked.whole is.opens x.events x.state x.bases t c.other c.touching x.run x.shown all c.touches_next in
      let write = touched limit x.bases x.state.heap one.op c.writing c.place one.is one.there (write-touches c.writing c.place c.writes) in
      let touch = touched limit x.bases x.state.heap other.op c.touching c.place other.is other.there c.touches in
      let same = one-field x.bases x.state.heap t.heap touch.object write.object touch.base write.base touch.field write.field c.place touch.value write.value x.shown.heap touch.based write.based touch.there write.there touch.place write.place in
      has-no-conflict u limit picture.0 x.state picture.1
      (record {
        one = c.one;
        other = c.other;
        differ = c.differ;
        writing = one.op;
        touching = other.op;
        writes_next = one.looks;
        touches_next = other.looks;
        object = write.object;
        field = write.field;
        writes = write.writes c.writes;
        touches = subst (λ z. Touches other.op z write.field) same.0 (subst (λ z. Touches other.op touch.object z) same.1 touch.touches);
      })
