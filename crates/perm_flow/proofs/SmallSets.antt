-- Sets hold no number past 255.
use Rattle.std.proofs.Common.{◌≡◌, ◌∙◌, ℕ, ◌≤◌, Bool, true, false, refl, ap, sym, eqb}
use Rattle.std.specs.Prelude.{◌&&◌, not}
use Rattle.std.proofs.Math.Path.{fun_ext}
use Rattle.std.proofs.lemmas.Bool.{eqb-true}
use Rattle.perm_tree.specs.declared.var_set.VarSet.{VarSet}
use Rattle.perm_tree.specs.Vars.{just, minus}
use Rattle.perm_tree.specs.VarSets.{member}
use Rattle.perm_tree.proofs.SetWords.{member_small}

-- such a number is taken out of a set by doing nothing
pub minus-past : (s : VarSet) (y : ℕ) → 256 ≤ y → member s ≡ minus (member s) (just y)
minus-past s y past = fun_ext (λ x. go x (eqb x y) refl)
  where
    and_true : (b : Bool) → b ≡ (b && not false)
    and_true true = refl
    and_true false = refl

    go : (x : ℕ) (b : Bool) → eqb x y ≡ b → member s x ≡ (member s x && not (eqb x y))
    go x true same =
        let none : member s x ≡ false = ap (member s) (eqb-true x y same) ∙ member_small s y past in
        none ∙ ap (λ b. b && not (eqb x y)) (sym none)
    go x false other = and_true (member s x) ∙ ap (λ b. member s x && not b) (sym other)
