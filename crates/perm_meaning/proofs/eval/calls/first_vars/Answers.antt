use Rattle.std.proofs.Common.{◌≡◌, ◌∙◌, ℕ, suc, ◌+◌, ◌-◌, ◌<◌, List, [], ◌∷◌, ◌++◌, Option, None, ap, arith, append_assoc}
use Rattle.std.specs.Prelude.{replicate}
use Rattle.perm_meaning.specs.declared.eval.values.Value.{Value}
use Rattle.perm_meaning.proofs.eval.calls.first_vars.Goals as goal

-- one more of those that are missing is there
one-more : (vs ws all : List (Option Value)) (n k : ℕ) → k < n → ws ≡ vs ++ None ∷ [] → vs ++ replicate (n - k) None ≡ all → ws ++ replicate (n - (k + 1)) None ≡ all
one-more vs ws all n k lt e h =
    let z = n - (k + 1) in
    let next : suc z ≡ n - k = omega (arith, lt) in
    ap (λ (xs : List (Option Value)). xs ++ replicate z None) e ∙ append_assoc vs (None ∷ []) (replicate z None) ∙ ap (λ i. vs ++ replicate i None) next ∙ h

pub loop-preserved : goal.loop-preserved
loop-preserved c = one-more c.loop.vars.items c.push.new.self.items _ c.saturating_sub-missing.result c.loop.counter c.loop-test.true c.in_ok-push.ensures.items c.loop.invariant
