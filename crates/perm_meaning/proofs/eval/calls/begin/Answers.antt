use Rattle.std.proofs.Common.{◌≡◌, ◌∙◌, ℕ, suc, ◌+◌, ◌-◌, ◌++◌, ◌∷◌, ◌≤◌, ◌<◌, true, false, List, length, Option, Some, None, sym, ap, subst, arith}
use Rattle.std.specs.Prelude.{nat_eq, nat_lt, option_copied, replicate}
use Rattle.std.proofs.lemmas.Bool.Decides.{nat_tests}
use Rattle.perm_tree.specs.InBody.{vars_at}
use Rattle.perm_tree.specs.declared.unit.VarInfo.{VarInfo}
use Rattle.perm_tree.specs.CodeOf.{code_of}
use Rattle.perm_meaning.specs.declared.eval.values.Value.{Value}
use Rattle.perm_meaning.specs.Evaluator.BegunCalls.{begun, BeginsCall}
use Rattle.perm_meaning.specs.Effects.{depth_limit}
use Rattle.perm_meaning.specs.Evaluator.NumberedValues.{all_by, value_by}
use Rattle.perm_meaning.proofs.Evaluator.BegunCalls.{call-gone, call-miscounts, call-overflows, call-begins}
use Rattle.perm_meaning.proofs.eval.calls.begin.Goals as goal

miscount : (a b x y : ℕ) → a ≡ x → b ≡ y → (a ≡ b → ⊥) → nat_eq x y ≡ false
miscount a b x y e f n = grind (arith, nat_tests)

matching : (a b x y : ℕ) → a ≡ x → b ≡ y → a ≡ b → nat_eq x y ≡ true
matching a b x y e f n = grind (arith, nat_tests)

deep : (d e n : ℕ) → e ≡ d → n ≤ d → nat_lt e n ≡ false
deep d e n q h = grind (arith, nat_tests)

shallow : (d e n : ℕ) → e ≡ d → d < n → nat_lt e n ≡ true
shallow d e n q h = grind (arith, nat_tests)

next : (d e : ℕ) → e ≡ d → d + 1 ≡ suc e
next d e q = omega (arith, q)

pub returns-in_default : goal.returns-in_default
returns-in_default c names l tie y e =
    call-gone c.args.unit.now names l tie y c.args.number c.args.into c.args.this c.args.found c.resolved.ensures.resolved (sym c.method.ensures ∙ ap option_copied c.in_default.is)

pub returns-then-len : goal.returns-then-len
returns-then-len c names l tie y e =
    call-miscounts c.args.unit.now names l tie y c.args.number c.args.into c.args.this c.args.found c.resolved.ensures.resolved c.in-Some.called.now (sym c.method.ensures ∙ ap option_copied c.in-Some.is)
    (miscount c.len.result c.len-2.result (length c.args.found) (length c.in-Some.called.now.params) c.len.ensures.value c.len-2.ensures.value c.if-len.true)

pub returns-then-depth-ge-MOST_DEPTH : goal.returns-then-depth-ge-MOST_DEPTH
returns-then-depth-ge-MOST_DEPTH c names l tie y e =
    call-overflows c.args.unit.now names l tie y c.args.number c.args.into c.args.this c.args.found c.resolved.ensures.resolved c.in-Some.called.now (sym c.method.ensures ∙ ap option_copied c.in-Some.is)
    (matching c.len.result c.len-2.result (length c.args.found) (length c.in-Some.called.now.params) c.len.ensures.value c.len-2.ensures.value c.if-len.false)
    (deep c.args.depth l.depth depth_limit e c.if-depth-ge-MOST_DEPTH.true)

pub returns : goal.returns
returns c names l tie y e =
    let u = c.args.unit.now in
    let vars : c.in_ok-vars.vars ≡ Some c.args.this ∷ (c.args.found ++ replicate (length (vars_at u c.args.number) - (1 + length c.args.found)) None) =
    c.in_ok-vars.ensures ∙ ap (λ (vs : List VarInfo). Some c.args.this ∷ (c.args.found ++ replicate (length vs - (1 + length c.args.found)) None)) c.infos.ensures in
    subst (λ (vs : List (Option Value)). BeginsCall names (code_of u) l (begun (code_of u) tie y c.args.number c.args.into (Some (value_by names c.args.this)) (all_by names c.args.found) l) c.args.number vs (c.args.depth + 1) c.args.into) (sym vars)
    (call-begins u names l tie y c.args.number c.args.into c.args.this c.args.found c.resolved.ensures.resolved c.in-Some.called.now (sym c.method.ensures ∙ ap option_copied c.in-Some.is)
    (c.args.depth + 1) (next c.args.depth l.depth e)
    (matching c.len.result c.len-2.result (length c.args.found) (length c.in-Some.called.now.params) c.len.ensures.value c.len-2.ensures.value c.if-len.false)
    (shallow c.args.depth l.depth depth_limit e c.if-depth-ge-MOST_DEPTH.false))
