use Rattle.std.proofs.Common.{◌≡◌, ◌+◌, List, ℕ, true, false, drop, sym, subst}
use Rattle.perm_tree.specs.Vars.{those}
use Rattle.perm_flow.proofs.HiddenSets.{listed-here, listed-later, listed-end}
use Rattle.perm_flow.proofs.walk.hidden.is_in.Goals as goal

pub stmts-preserved : goal.stmts-preserved
stmts-preserved c =
    let i = c.stmts.stmt-index in
    let at = c.args.at in
    let same = c.as_slice-stmt-items.ensures in
    subst (λ (l : List ℕ). those (drop (i + 1) l) at ≡ those l at) same
    (listed-later c.as_slice-stmt-items.result.now i at c.stmts-test.true c.if-stmt-at.false (subst (λ (l : List ℕ). those (drop i l) at ≡ those l at) (sym same) c.stmts.invariant))

pub returns-then-stmt-at : goal.returns-then-stmt-at
returns-then-stmt-at c =
    let i = c.stmts.stmt-index in
    let at = c.args.at in
    let same = c.as_slice-stmt-items.ensures in
    sym (subst (λ (l : List ℕ). those l at ≡ true) same
    (listed-here c.as_slice-stmt-items.result.now i at c.stmts-test.true c.if-stmt-at.true (subst (λ (l : List ℕ). those (drop i l) at ≡ those l at) (sym same) c.stmts.invariant)))

pub returns : goal.returns
returns c =
    let i = c.stmts.stmt-index in
    let at = c.args.at in
    let same = c.as_slice-stmt-items.ensures in
    sym (subst (λ (l : List ℕ). those l at ≡ false) same
    (listed-end c.as_slice-stmt-items.result.now i at c.stmts-test.false (subst (λ (l : List ℕ). those (drop i l) at ≡ those l at) (sym same) c.stmts.invariant)))
