-- A branch that enters a method stays sound.
use Rattle.std.proofs.Common.{◌≡◌, ℕ, zero, suc, ◌+◌, ◌-◌, List, [], ◌∷◌, ◌++◌, length, replicate, Some, refl, sym, ap, subst, arith, drop, length-append}
use Rattle.std.specs.Prelude.{reverse, slice_get}
use Rattle.std.proofs.lemmas.List.{length-replicate, reverse-append}
use Rattle.std.proofs.Math.Seq.{take-append_seam}
use Rattle.perm_tree.specs.declared.ast.Ty.{Ty}
use Rattle.perm_tree.specs.declared.bodies.Bodies.{Bodies}
use Rattle.perm_tree.specs.Code.{Routine, UnitCode}
use Rattle.perm_tree.specs.Links.{Spot}
use Rattle.perm_core.specs.Whole.{IsWhole}
use Rattle.perm_step.specs.declared.control.Called.{Called}
use Rattle.perm_step.specs.Events.{AreLong, HasVariables, bottom_from}
use Rattle.perm_step.specs.Standing.{AreOpenCalls, IsOpenCall, opens_of}

-- ---------- open calls ----------
-- one open call more
pub one-more-call : (b : Bodies) (calls : List Called) (c : Called) → AreOpenCalls b calls → IsOpenCall b c → AreOpenCalls b (calls ++ c ∷ [])
one-more-call b [] c are is zero o there = subst (IsOpenCall b) (let e : c ≡ o = cc in e) is
one-more-call b [] c are is (suc i) o there = absurd (let no : ⊥ = cc in no)
one-more-call b (x ∷ calls) c are is zero o there = are zero o there
one-more-call b (x ∷ calls) c are is (suc i) o there = one-more-call b calls c (λ i o there. are (suc i) o there) is i o there

-- those without the last
pub calls-before : (b : Bodies) (front : List Called) (last : Called) → AreOpenCalls b (front ++ last ∷ []) → AreOpenCalls b front
calls-before b [] last are i o there = absurd (let no : ⊥ = cc in no)
calls-before b (x ∷ front) last are zero o there = are zero o there
calls-before b (x ∷ front) last are (suc i) o there = calls-before b front last (λ i o there. are (suc i) o there) i o there

module _ (u : UnitCode) (spot : ℕ → Spot) where
  -- the method below all calls stays with one call more
  pub bottom-more : (at to base : ℕ) (calls : List Called) → bottom_from u spot to (calls ++ record { place = at; base = base } ∷ []) ≡ bottom_from u spot at calls
  bottom-more at to base [] = refl
  bottom-more at to base (x ∷ calls) = refl

  -- and with one call fewer, where that one's place stands in the same method
  pub bottom-fewer : (at to : ℕ) (front : List Called) (last : Called) → (spot to).routine ≡ (spot last.place).routine → bottom_from u spot to front ≡ bottom_from u spot at (front ++ last ∷ [])
  bottom-fewer at to [] last same = same
  bottom-fewer at to (x ∷ front) last same = refl

  -- ---------- variables ----------
  -- the callers of a method that is entered have their variables
  pub callers-more : (at base : ℕ) (calls : List Called) (vars added : List ℕ) → HasVariables u spot at (length (drop base vars)) → AreLong u spot (opens_of base vars (reverse calls))
      → AreLong u spot (opens_of (length vars) (vars ++ added) (reverse (calls ++ record { place = at; base = base } ∷ [])))
  callers-more at base calls vars added here below =
      let c : Called = record { place = at; base = base } in
      subst (λ (cs : List Called). AreLong u spot (opens_of (length vars) (vars ++ added) cs)) (sym (reverse-append calls (c ∷ [])))
      (subst (λ (vs : List ℕ). HasVariables u spot at (length (drop base vs)) × AreLong u spot (opens_of base vs (reverse calls))) (sym (take-append_seam vars added)) (here, below))

-- a method has as many variables as the receiver, its parameters and the others
pub filled-length : (u : UnitCode) (whole : IsWhole u) (m : ℕ) (r : Routine) → slice_get u.routines m ≡ Some r → (this : ℕ) (found : List ℕ) → length found ≡ length r.params → (count : ℕ) → count ≡ length r.vars
    → length (this ∷ (found ++ replicate (count - (1 + length found)) 0)) ≡ length r.vars
filled-length u whole m r there this found params count is =
    let of = whole.routines m r there in
    let all = ap (λ (l : List Ty). length l) of.vars in
    omega (arith, all, params, is, length-append r.params of.locals, length-append found (replicate (count - (1 + length found)) 0), length-replicate {A = ℕ} (count - (1 + length found)) 0)
