-- A whole run, left first, ends as the meaning says, or comes to the allocation that is refused.
use Rattle.std.proofs.Common.{◌≡◌, ◌≢◌, ℕ, ◌≤◌, true, Some, None, List, [], refl, sym, ap, ◌∙◌, subst, arith, le_refl}
use Rattle.std.specs.Prelude.{ℤ, nat_le, slice_get, if◌then◌else◌}
use Rattle.std.proofs.lemmas.Bool.Decides.{nat_tests}
use Rattle.perm_tree.specs.Code.{End, Routine, UnitCode}
use Rattle.perm_meaning.specs.Values.{Number}
use Rattle.perm_meaning.specs.Machine.{Trapped, NoTurns, NoRoom, Leaf, GaveBack, Failed, final, look}
use Rattle.perm_meaning.specs.Custody.{Copies}
use Rattle.perm_meaning.specs.NamedHeap.{Heap, Held, Op, Branch, Final, State, named, memory, find}
use Rattle.perm_meaning.specs.Steps.{Refused, within, alone, leftmost}
use Rattle.perm_meaning.specs.Meaning.{Result, Well, Gave, Handed, Fails, Full, Stuck, mean}
use Rattle.perm_meaning.specs.Outcome.{RanFull, RanStuck, outcome, outcome_from, reported, reported_result, opening, opening_heap, opening_need, opening_state}
use Rattle.perm_meaning.specs.Claims.{EndsAsMeaning, FillsAsMeaning}
use Rattle.perm_meaning.proofs.LeftFirst.Reached.{Follows}
use Rattle.perm_meaning.proofs.LeftFirst.OneTurn.{at-empty}
use Rattle.perm_meaning.proofs.LeftFirst.Serial.{mean-follows}

-- what is within the limit passes its test
passes : (a b : ℕ) → a ≤ b → nat_le a b ≡ true
passes a b h = grind (arith, nat_tests)

-- a value that is given back doesn't fill the heap
pub given-not-full : (turns : ℕ) (v : Held) (t : ℕ) (p : List ℤ) (h : Heap) → reported turns (GaveBack v t p) h ≢ RanFull
given-not-full turns None t p h e = absurd (cc)
given-not-full turns (Some (Number n)) t p h e = absurd (cc)
given-not-full turns (Some _) t p h e = absurd (cc)

module _ (u : UnitCode) (limit : ℕ) (input : List ℤ) (turns : ℕ) where
  -- what the body of `Run` does
  abbrev pub body_result : Routine → Result
  body_result r = mean u (within limit) turns r.code (opening u input turns r)

  -- the opening follows the meaning of the body of `Run`
  pub opening-follows : (r : Routine) → Follows u (within limit) End [] turns (opening_state u input turns r) (body_result r)
  opening-follows r =
      subst (λ (z : Branch). Follows u (within limit) End [] turns (record { task = Leaf z; heap = opening_heap u input }) (body_result r))
      (at-empty u r.code (opening u input turns r)) (mean-follows u (within limit) turns r.code (opening u input turns r) [] (le_refl turns))

  -- what a run comes to, whose opening the heap holds
  pub outcome-is : (r : Routine) → slice_get u.routines u.run ≡ Some r → opening_need u input ≤ limit → outcome u input turns limit ≡ reported_result turns (body_result r)
  outcome-is r e le =
      ap (λ b. if b then outcome_from u input turns limit (slice_get u.routines u.run) else RanFull) (passes (opening_need u input) limit le)
      ∙ ap (λ o. outcome_from u input turns limit o) e

  -- an end that is told, found among the states of a run
  ends-from : (s : State) (r : Result) → Follows u (within limit) End [] turns s r → reported_result turns r ≢ RanStuck → reported_result turns r ≢ RanFull
      → (n : ℕ) × (t : State) × (f : Final) × (alone (named Copies u) (memory u) (within limit) n s ≡ Some t) × (final t.task ≡ Some f) × (reported turns f t.heap ≡ reported_result turns r)
  ends-from s (Well m) f h k = absurd (h refl)
  ends-from s (Gave v m) f h k = (f.1.2.0, record { task = Leaf f.1.0; heap = m.heap }, GaveBack v m.turns m.own.printed, f.1.2.1, f.1.1, refl)
  ends-from s (Handed x v m) f h k = absurd (h refl)
  ends-from s (Fails e t p heap) f h k = (f.4.0, record { task = Leaf f.2; heap = heap }, Failed e t p, f.4.1, f.3, refl)
  ends-from s Full f h k = absurd (k refl)
  ends-from s Stuck f h k = absurd (h refl)

  -- the allocation that is refused, found among the states of a run
  fills-from : (s : State) (r : Result) → Follows u (within limit) End [] turns s r → reported_result turns r ≡ RanFull
      → (n : ℕ) × (t : State) × (o : Op) × (alone (named Copies u) (memory u) (within limit) n s ≡ Some t) × (look (named Copies u) (leftmost t.task) t.task ≡ Some o) × (find (within limit) o t.heap ≡ Refused)
  fills-from s (Well m) f e = absurd (cc)
  fills-from s (Gave v m) f e = absurd (given-not-full turns v m.turns m.own.printed m.heap e)
  fills-from s (Handed x v m) f e = absurd (cc)
  fills-from s (Fails (Trapped k at) t p h) f e = absurd (cc)
  fills-from s (Fails NoTurns t p h) f e = absurd (cc)
  fills-from s (Fails NoRoom t p h) f e = absurd (f.1 refl)
  fills-from s Full f e = (f.1.0, f.0, f.2.0, f.1.1, f.2.1, f.2.2)
  fills-from s Stuck f e = absurd (cc)

  -- a run ends as the meaning says
  pub ends-as-meaning : EndsAsMeaning u limit input turns
  ends-as-meaning r e le h k =
      let q = outcome-is r e le in
      let x = ends-from (opening_state u input turns r) (body_result r) (opening-follows r) (λ z. h (q ∙ z)) (λ z. k (q ∙ z)) in
      (x.0, x.1, x.2, x.3, x.4, x.5 ∙ sym q)

  -- a run that the heap doesn't hold comes to the allocation that is refused
  pub fills-as-meaning : FillsAsMeaning u limit input turns
  fills-as-meaning r e le h = fills-from (opening_state u input turns r) (body_result r) (opening-follows r) (sym (outcome-is r e le) ∙ h)
