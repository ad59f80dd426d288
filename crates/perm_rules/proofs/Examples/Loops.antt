-- Derivations of units with loops, and the greatest sets from which the loops go round.
use Rattle.std.proofs.Common.{◌≡◌, ℕ, zero, suc, Bool, true, false, [], ◌∷◌, refl, sym, ◌∙◌, ap, arith}
use Rattle.std.specs.Prelude.{pos}
use Rattle.std.proofs.lemmas.Bool.{ne_eqb}
use Rattle.perm_tree.specs.declared.ast.BinaryOp.TheVariants.{Plus as Add, Less}
use Rattle.perm_tree.specs.declared.ast.Perm.TheVariants.{Immutable}
use Rattle.perm_tree.specs.Code.{LongLit, Local, Binary, Expression, Consumed, Assign, NewObject}
use Rattle.perm_tree.specs.CodeOf.{code_of}
use Rattle.perm_tree.specs.Vars.{Vars, just, below, those, minus, IsWithin}
use Rattle.perm_tree.proofs.Builder.{Source, ref, num, var, binary, init, assign, expr, consumed, new, beside}
use Rattle.perm_tree.proofs.Programs.{unit, p5_new, p5_with}
use Rattle.perm_rules.specs.Liveness.{after}
use Rattle.perm_rules.specs.Goes.{IsAccepted}

-- ---------- sets that both loops speak of ----------
-- `this`, the input, the object b and the counter i are live where the loops begin
abbrev begun : Vars
begun = after (Assign 3 (Expression (LongLit (pos 0)))) (after (NewObject 2 0) (below 2))

-- `i = i + 1`
abbrev counted : Vars → Vars
counted G = after (Assign 3 (Expression (Binary Add (Local 3) (LongLit (pos 1))))) G

-- at the end of their bodies the variable f, which these declare, is live no longer
abbrev closing : Vars → Vars
closing G = minus G (those (4 ∷ []))

four-within : IsWithin (below 4) begun
four-within zero h = refl
four-within (suc zero) h = refl
four-within (suc (suc zero)) h = refl
four-within (suc (suc (suc zero))) h = refl
four-within (suc (suc (suc (suc x)))) h = cc

-- nothing past the four is live
past-four : (x : ℕ) → begun (suc (suc (suc (suc x)))) ≡ true → false ≡ true
past-four x h = rw (ne_eqb (suc (suc (suc (suc x)))) 2 (λ e. omega arith), ne_eqb (suc (suc (suc (suc x)))) 3 (λ e. omega arith)) at h

within-four : IsWithin begun (below 4)
within-four zero h = refl
within-four (suc zero) h = refl
within-four (suc (suc zero)) h = refl
within-four (suc (suc (suc zero))) h = refl
within-four (suc (suc (suc (suc x)))) h = past-four x h

-- ---------- a loop that loses nothing ----------
-- `immutable Box f = consume b; b = new Box(); i = i + 1;`
abbrev renewed : Vars → Vars
renewed G = counted (after (NewObject 2 0) (after (Assign 4 (Consumed 2)) G))

four-again : IsWithin (below 4) (closing (renewed (below 4)))
four-again zero h = refl
four-again (suc zero) h = refl
four-again (suc (suc zero)) h = refl
four-again (suc (suc (suc zero))) h = refl
four-again (suc (suc (suc (suc x)))) h = cc

-- the greatest set is all that is live where the loop begins
renewing-derived : IsAccepted (code_of (unit p5_new))
renewing-derived = (
  (
    _,
    (
      refl,
      (
        refl,
        (
          below 4,
          record {
            holds = record { part = four-within; tested = refl; ends = renewed (below 4); body = (refl, (refl, (refl, refl))); again = four-again };
            greatest = λ L r x h. within-four x (r.part x h);
          },
          (refl, refl),
        ),
      ),
    ),
  ),
  tt,
)

-- ---------- a loop that loses a variable ----------
-- `b = new Box(); immutable Box f = consume b; i = i + 1;`
abbrev losing : Source
losing =
    p5_with (binary (var "i") Less (num 2))
    (beside (assign "b" (new "Box")) (init (ref Immutable "Box") "f" (consumed "b")))
    (assign "i" (expr (binary (var "i") Add (num 1))))

abbrev lost : Vars → Vars
lost G = counted (after (Assign 4 (Consumed 2)) (after (NewObject 2 0) G))

abbrev without_b : Vars
without_b = minus (below 4) (just 2)

without_b-within : IsWithin without_b begun
without_b-within zero h = refl
without_b-within (suc zero) h = refl
without_b-within (suc (suc zero)) h = refl
without_b-within (suc (suc (suc zero))) h = refl
without_b-within (suc (suc (suc (suc x)))) h = cc

without_b-again : IsWithin without_b (closing (lost without_b))
without_b-again zero h = refl
without_b-again (suc zero) h = refl
without_b-again (suc (suc zero)) h = cc
without_b-again (suc (suc (suc zero))) h = refl
without_b-again (suc (suc (suc (suc x)))) h = cc

-- the body ends without b, whatever it begins with
b-is-out : (L : Vars) (live : Bool) → L 2 ≡ live → closing (lost L) 2 ≡ false
b-is-out L true e = rw e refl
b-is-out L false e = rw e refl

no-b : (L ends : Vars) → ends ≡ lost L → closing ends 2 ≡ true → false ≡ true
no-b L ends e h = sym (b-is-out L (L 2) refl) ∙ (sym (ap (λ G. closing G 2) e) ∙ h)

-- a set with b would come back without it
without_b-greatest : (L ends : Vars) → IsWithin L begun → ends ≡ lost L → IsWithin L (closing ends) → IsWithin L without_b
without_b-greatest L ends part e again zero h = refl
without_b-greatest L ends part e again (suc zero) h = refl
without_b-greatest L ends part e again (suc (suc zero)) h = no-b L ends e (again 2 h)
without_b-greatest L ends part e again (suc (suc (suc zero))) h = refl
without_b-greatest L ends part e again (suc (suc (suc (suc x)))) h = cc (past-four x (part (suc (suc (suc (suc x)))) h))

-- the greatest set is what is live where the loop begins, without b
losing-derived : IsAccepted (code_of (unit losing))
losing-derived = (
  (
    _,
    (
      refl,
      (
        refl,
        (
          without_b,
          record {
            holds = record { part = without_b-within; tested = refl; ends = lost without_b; body = (refl, (refl, (refl, refl))); again = without_b-again };
            greatest = λ L r. without_b-greatest L r.ends r.part r.body.1.1.1 r.again;
          },
          (refl, refl),
        ),
      ),
    ),
  ),
  tt,
)
