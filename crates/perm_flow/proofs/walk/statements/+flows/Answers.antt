use Rattle.std.proofs.Common.{◌≡◌, ◌∙◌, ◌<◌, ℕ, length, None, Ok, refl, sym, ap, subst, arith, List, ◌++◌, get_or}
use Rattle.std.specs.Prelude.{Option}
use Rattle.std.specs.Option.{IfSome}
use Rattle.std.proofs.lemmas.Result.{err_from_is_err_and}
use Rattle.perm_tree.specs.declared.ast.Block.{Block}
use Rattle.perm_tree.specs.declared.ast.StmtKind.{StmtKind}
use Rattle.perm_tree.specs.declared.unit.VarInfo.{VarInfo}
use Rattle.perm_tree.specs.Code.{Code, Term, End, Give}
use Rattle.perm_tree.specs.CodeNames.{own_vars, term_at, tied_before}
use Rattle.perm_tree.specs.CodeOf.{block_code, stmt_code}
use Rattle.perm_tree.specs.InBody.{IsBlockOf}
use Rattle.perm_tree.specs.Scopes.{else_stmts}
use Rattle.perm_tree.specs.StatementSteps.{Says, SaysTerm}
use Rattle.perm_tree.specs.VarSets.{member}
use Rattle.perm_tree.specs.Vars.{Vars, minus, those}
use Rattle.perm_rules.specs.Effects.{block_effect, changed, effect}
use Rattle.perm_rules.specs.FirstRefused.{first_refused}
use Rattle.perm_rules.specs.Goes.{hiding}
use Rattle.perm_rules.specs.MethodBodies.{context_of, setting_of}
use Rattle.perm_rules.specs.Parts.{Context, Condition, Given}
use Rattle.perm_rules.specs.Refusals.{refusal}
use Rattle.perm_flow.specs.Parts.{HoldsHidden}
use Rattle.perm_flow.specs.Walk.{AreOfBody, BlockGives, CodeGives}
use Rattle.perm_flow.proofs.CodeForms.{condition-as, recover-head, recover-body, recover-gives, if-head, if-first, if-second, if-gives, while-head, while-body, while-gives, par-head, par-first, par-second, par-gives}
use Rattle.perm_flow.proofs.Statements.{below-bound, block-begins, block-ends, block-inside, block-more, block-stops, body-statement, bound, element-listed, few-vars, more-known, stmt-code}
use Rattle.perm_flow.proofs.StatementForms.{braced-gives, if-yes, if-no, while-block, par-left, par-right, recover-block, if-bounds, while-bounds, par-bounds, recover-bounds, if-code, while-code, par-code, recover-code, given-passes, hidden-more, refused-as, kept-is, kept-known, assignment-simple, kind-simple}
use Rattle.perm_flow.proofs.walk.statements.+flows.Goals as goal

-- ---------- blocks ----------
pub flow_block-flow_stmt-requires : goal.flow_block-flow_stmt-requires
flow_block-flow_stmt-requires t c =
    let is = c.args.stmts.now in
    let listed = element-listed is c.stmts.at-index 0 c.stmts-test.true in
    let less : get_or is c.stmts.at-index 0 < bound is = below-bound is _ listed in
    (omega (arith, c.decreases, less), (c.requires.inside _ listed, c.stmts.invariant.known))

pub flow_block-stmts-init : goal.flow_block-stmts-init
flow_block-stmts-init t c = record {
  known = c.requires.known;
  left = λ hides holds. block-begins (hiding hides (context_of c.args.body.now)) (setting_of c.args.body.now) c.args.stmts.now (member c.args.live);
}

pub flow_block-stmts-preserved : goal.flow_block-stmts-preserved
flow_block-stmts-preserved t c =
    let b = c.args.body.now in
    let is = c.args.stmts.now in
    let listed = element-listed is c.stmts.at-index 0 c.stmts-test.true in
    record {
      known = more-known b c.args.hidden c.stmts.now c.in_ok-now.now (stmt_code (setting_of b) (get_or is c.stmts.at-index 0) End) c.stmts.invariant.known c.in_ok-now.ensures;
      left = λ hides holds.
          block-more (hiding hides (context_of b)) (setting_of b) is (member c.args.live) c.stmts.at-index (member c.stmts.now) c.in_ok-now.now c.stmts-test.true (body-statement b c.kept.ensures _ (c.requires.inside _ listed))
          (c.stmts.invariant.left hides holds) (c.in_ok-now.ensures hides holds);
    }

pub flow_block-returns-in_err-now : goal.flow_block-returns-in_err-now
flow_block-returns-in_err-now t c hides holds =
    let b = c.args.body.now in
    let is = c.args.stmts.now in
    let listed = element-listed is c.stmts.at-index 0 c.stmts-test.true in
    let p = err_from_is_err_and c.from_residual.result c.from_residual.ensures.1 in
    rw (p.1, p.2) (block-stops (hiding hides (context_of b)) (setting_of b) is (member c.args.live) c.stmts.at-index (member c.stmts.now) _ c.stmts-test.true (body-statement b c.kept.ensures _ (c.requires.inside _ listed))
    (c.stmts.invariant.left hides holds) (c.in_err-now.ensures hides holds))

pub flow_block-returns : goal.flow_block-returns
flow_block-returns t c hides holds =
    let b = c.args.body.now in
    block-ends (hiding hides (context_of b)) (setting_of b) c.args.stmts.now (member c.args.live) c.stmts.at-index c.stmts.now c.stmts-test.false (c.stmts.invariant.left hides holds)

pub flow_braced-flow_block-requires : goal.flow_braced-flow_block-requires
flow_braced-flow_block-requires t c =
    let same : bound c.as_slice.result.now ≡ bound c.args.block.now.stmts = ap bound c.as_slice.ensures in
    (omega (arith, c.decreases, same), (subst (AreOfBody c.args.body.now) (sym c.as_slice.ensures) (block-inside c.args.body.now c.kept.ensures c.args.block.now c.requires.inside), c.requires.known))

pub flow_braced-returns-in_err-end : goal.flow_braced-returns-in_err-end
flow_braced-returns-in_err-end t c hides holds =
    let b = c.args.body.now in
    let p = err_from_is_err_and c.from_residual.result c.from_residual.ensures.1 in
    rw (p.1, p.2) (ap (λ (is : List ℕ). first_refused (hiding hides (context_of b)) (block_code (setting_of b) is End) (member c.args.live)) (sym c.as_slice.ensures) ∙ c.in_err-end.ensures hides holds End)

pub flow_braced-returns : goal.flow_braced-returns
flow_braced-returns t c hides holds =
    let b = c.args.body.now in
    let k = setting_of b in
    let d : Context = hiding hides (context_of b) in
    let stmts = c.args.block.now.stmts in
    let gives : BlockGives d k stmts (member c.args.live) (Ok c.in_ok-end.end) = subst (λ (is : List ℕ). BlockGives d k is (member c.args.live) (Ok c.in_ok-end.end)) c.as_slice.ensures (c.in_ok-end.ensures hides holds) in
    braced-gives d k stmts (own_vars k stmts) (member c.args.live) c.in_ok-end.end c.difference.result gives (c.difference.ensures ∙ ap (λ (M : Vars). minus (member c.in_ok-end.end) M) c.own_in.ensures) (block_code k stmts End) (gives End)

pub flow_else-flow_braced-requires : goal.flow_else-flow_braced-requires
flow_else-flow_braced-requires t c =
    let b = c.args.body.now in
    let less : bound (else_stmts c.args.block.now) ≡ bound c.in-Some.block.stmts = ap (λ (o : Option Block). bound (else_stmts o)) c.in-Some.is in
    (omega (arith, c.decreases, less), (subst (λ (o : Option Block). IfSome o (IsBlockOf b.unit b.number)) c.in-Some.is c.requires.inside, c.requires.known))

-- ---------- ifs ----------
pub flow_if-pass-requires : goal.flow_if-pass-requires
flow_if-pass-requires t c =
    let b = c.args.body.now in
    let is = c.requires.is in
    (c.tested-test.ensures (setting_of b) b.bodies is.condition (subst (λ (kind : StmtKind). Says (setting_of b) b.bodies c.args.stmt.now kind c.action.result) is.is (c.action.ensures c.args.stmt.now c.requires.stands.here))).inside

pub flow_if-flow_braced-requires : goal.flow_if-flow_braced-requires
flow_if-flow_braced-requires t c =
    let b = c.args.body.now in
    let s = c.args.stmt.now in
    let stands = c.requires.stands in
    let most = if-bounds (length b.unit.program.exprs) c.args.at s.kind (c.kept.ensures.resolved.formed.placed.stmts c.args.at s stands.here) c.args.yes.now c.args.no.now c.requires.is in
    (omega (arith, c.decreases, most.0), (if-yes b.unit b.number c.args.at s stands c.args.yes.now c.args.no.now c.requires.is, c.requires.known))

pub flow_if-flow_else-requires : goal.flow_if-flow_else-requires
flow_if-flow_else-requires t c =
    let b = c.args.body.now in
    let s = c.args.stmt.now in
    let stands = c.requires.stands in
    let most = if-bounds (length b.unit.program.exprs) c.args.at s.kind (c.kept.ensures.resolved.formed.placed.stmts c.args.at s stands.here) c.args.yes.now c.args.no.now c.requires.is in
    (omega (arith, c.decreases, most.1), (if-no b.unit b.number c.args.at s stands c.args.yes.now c.args.no.now c.requires.is, c.requires.known))

pub flow_if-returns-in_err-pass : goal.flow_if-returns-in_err-pass
flow_if-returns-in_err-pass t c hides holds =
    let b = c.args.body.now in
    let k = setting_of b in
    let d : Context = hiding hides (context_of b) in
    let G = member c.args.live in
    let s = c.args.stmt.now in
    let is = c.requires.is in
    let yes_own = own_vars k c.args.yes.now.stmts in
    let no_own = own_vars k (else_stmts c.args.no.now) in
    let yes_code = block_code k c.args.yes.now.stmts End in
    let no_code = block_code k (else_stmts c.args.no.now) End in
    let e = term_at k is.condition in
    let code = if-code b s c.args.yes.now c.args.no.now is in
    let says : SaysTerm k b.bodies is.condition c.tested-test.result = c.tested-test.ensures k b.bodies is.condition (subst (λ (kind : StmtKind). Says k b.bodies s kind c.action.result) is.is (c.action.ensures s c.requires.stands.here)) in
    let p = err_from_is_err_and c.from_residual.result c.from_residual.ensures.1 in
    rw (p.1, p.2) (ap (λ (a : Code). first_refused d a G) code ∙ if-head d s.head yes_own yes_code no_own no_code G e _ (condition-as d s.head G _ _ _ says.term (c.in_err-pass.ensures hides holds)))

pub flow_if-returns-in_err-yes : goal.flow_if-returns-in_err-yes
flow_if-returns-in_err-yes t c hides holds =
    let b = c.args.body.now in
    let k = setting_of b in
    let d : Context = hiding hides (context_of b) in
    let G = member c.args.live in
    let s = c.args.stmt.now in
    let is = c.requires.is in
    let yes_own = own_vars k c.args.yes.now.stmts in
    let no_own = own_vars k (else_stmts c.args.no.now) in
    let yes_code = block_code k c.args.yes.now.stmts End in
    let no_code = block_code k (else_stmts c.args.no.now) End in
    let e = term_at k is.condition in
    let code = if-code b s c.args.yes.now c.args.no.now is in
    let says : SaysTerm k b.bodies is.condition c.tested-test.result = c.tested-test.ensures k b.bodies is.condition (subst (λ (kind : StmtKind). Says k b.bodies s kind c.action.result) is.is (c.action.ensures s c.requires.stands.here)) in
    let fine : refusal d (Condition e) G ≡ None = subst (λ (q : Term). refusal d (Condition q) G ≡ None) says.term (c.in_ok-pass.ensures hides holds) in
    let p = err_from_is_err_and c.from_residual-in_err-yes.result c.from_residual-in_err-yes.ensures.1 in
    rw (p.1, p.2) (ap (λ (a : Code). first_refused d a G) code ∙ if-first d s.head yes_own yes_code no_own no_code G e _ fine (c.in_err-yes.ensures hides holds))

pub flow_if-returns-in_err-no : goal.flow_if-returns-in_err-no
flow_if-returns-in_err-no t c hides holds =
    let b = c.args.body.now in
    let k = setting_of b in
    let d : Context = hiding hides (context_of b) in
    let G = member c.args.live in
    let s = c.args.stmt.now in
    let is = c.requires.is in
    let yes_own = own_vars k c.args.yes.now.stmts in
    let no_own = own_vars k (else_stmts c.args.no.now) in
    let yes_code = block_code k c.args.yes.now.stmts End in
    let no_code = block_code k (else_stmts c.args.no.now) End in
    let e = term_at k is.condition in
    let code = if-code b s c.args.yes.now c.args.no.now is in
    let says : SaysTerm k b.bodies is.condition c.tested-test.result = c.tested-test.ensures k b.bodies is.condition (subst (λ (kind : StmtKind). Says k b.bodies s kind c.action.result) is.is (c.action.ensures s c.requires.stands.here)) in
    let fine : refusal d (Condition e) G ≡ None = subst (λ (q : Term). refusal d (Condition q) G ≡ None) says.term (c.in_ok-pass.ensures hides holds) in
    let p = err_from_is_err_and c.from_residual-in_err-no.result c.from_residual-in_err-no.ensures.1 in
    rw (p.1, p.2) (ap (λ (a : Code). first_refused d a G) code ∙ if-second d s.head yes_own yes_code no_own no_code G e _ fine (c.in_ok-yes.ensures hides holds).0 (c.in_err-no.ensures hides holds))

pub flow_if-returns : goal.flow_if-returns
flow_if-returns t c hides holds =
    let b = c.args.body.now in
    let k = setting_of b in
    let d : Context = hiding hides (context_of b) in
    let G = member c.args.live in
    let s = c.args.stmt.now in
    let is = c.requires.is in
    let yes_own = own_vars k c.args.yes.now.stmts in
    let no_own = own_vars k (else_stmts c.args.no.now) in
    let yes_code = block_code k c.args.yes.now.stmts End in
    let no_code = block_code k (else_stmts c.args.no.now) End in
    let e = term_at k is.condition in
    let code = if-code b s c.args.yes.now c.args.no.now is in
    let says : SaysTerm k b.bodies is.condition c.tested-test.result = c.tested-test.ensures k b.bodies is.condition (subst (λ (kind : StmtKind). Says k b.bodies s kind c.action.result) is.is (c.action.ensures s c.requires.stands.here)) in
    let fine : refusal d (Condition e) G ≡ None = subst (λ (q : Term). refusal d (Condition q) G ≡ None) says.term (c.in_ok-pass.ensures hides holds) in
    subst (λ (a : Code). CodeGives d a (effect a) G (Ok c.intersection.result)) (sym code)
    (if-gives d s.head yes_own yes_code no_own no_code G e c.in_ok-yes.yes c.in_ok-no.no c.intersection.result fine (c.in_ok-yes.ensures hides holds) (c.in_ok-no.ensures hides holds) c.intersection.ensures)

-- ---------- loops ----------
pub flow_while-effect_in-requires : goal.flow_while-effect_in-requires
flow_while-effect_in-requires t c = while-block c.args.body.now.unit c.args.body.now.number c.args.at c.args.stmt.now c.requires.stands c.args.block.now c.requires.is

pub flow_while-pass-requires : goal.flow_while-pass-requires
flow_while-pass-requires t c =
    let b = c.args.body.now in
    let is = c.requires.is in
    (c.tested-test.ensures (setting_of b) b.bodies is.condition (subst (λ (kind : StmtKind). Says (setting_of b) b.bodies c.args.stmt.now kind c.action.result) is.is (c.action.ensures c.args.stmt.now c.requires.stands.here))).inside

pub flow_while-flow_braced-requires : goal.flow_while-flow_braced-requires
flow_while-flow_braced-requires t c =
    let b = c.args.body.now in
    let s = c.args.stmt.now in
    let stands = c.requires.stands in
    let most = while-bounds (length b.unit.program.exprs) c.args.at s.kind (c.kept.ensures.resolved.formed.placed.stmts c.args.at s stands.here) c.args.block.now c.requires.is in (
      omega (arith, c.decreases, most),
      (while-block b.unit b.number c.args.at s stands c.args.block.now c.requires.is, kept-known b c.args.live c.difference-kept.result (member c.effect_in.result.lost) c.requires.known c.difference-kept.ensures),
    )

pub flow_while-returns-in_err-pass : goal.flow_while-returns-in_err-pass
flow_while-returns-in_err-pass t c hides holds =
    let b = c.args.body.now in
    let k = setting_of b in
    let d : Context = hiding hides (context_of b) in
    let G = member c.args.live in
    let s = c.args.stmt.now in
    let is = c.requires.is in
    let own = own_vars k c.args.block.now.stmts in
    let inside = block_code k c.args.block.now.stmts End in
    let e = term_at k is.condition in
    let code = while-code b s c.args.block.now is in
    let K = member c.difference-kept.result in
    let kept : K ≡ minus G (block_effect own inside).lost = kept-is b c.kept.ensures c.args.block.now c.args.live c.difference-kept.result c.effect_in.result.lost c.requires.known c.difference-kept.ensures c.effect_in.ensures.lost in
    let says : SaysTerm k b.bodies is.condition c.tested-test.result = c.tested-test.ensures k b.bodies is.condition (subst (λ (kind : StmtKind). Says k b.bodies s kind c.action.result) is.is (c.action.ensures s c.requires.stands.here)) in
    let p = err_from_is_err_and c.from_residual.result c.from_residual.ensures.1 in
    rw (p.1, p.2) (ap (λ (a : Code). first_refused d a G) code ∙ while-head d s.head e own inside G K kept _ (condition-as d s.head K _ _ _ says.term (c.in_err-pass.ensures hides holds)))

pub flow_while-returns-in_err-flow_braced : goal.flow_while-returns-in_err-flow_braced
flow_while-returns-in_err-flow_braced t c hides holds =
    let b = c.args.body.now in
    let k = setting_of b in
    let d : Context = hiding hides (context_of b) in
    let G = member c.args.live in
    let s = c.args.stmt.now in
    let is = c.requires.is in
    let own = own_vars k c.args.block.now.stmts in
    let inside = block_code k c.args.block.now.stmts End in
    let e = term_at k is.condition in
    let code = while-code b s c.args.block.now is in
    let K = member c.difference-kept.result in
    let kept : K ≡ minus G (block_effect own inside).lost = kept-is b c.kept.ensures c.args.block.now c.args.live c.difference-kept.result c.effect_in.result.lost c.requires.known c.difference-kept.ensures c.effect_in.ensures.lost in
    let says : SaysTerm k b.bodies is.condition c.tested-test.result = c.tested-test.ensures k b.bodies is.condition (subst (λ (kind : StmtKind). Says k b.bodies s kind c.action.result) is.is (c.action.ensures s c.requires.stands.here)) in
    let fine : refusal d (Condition e) K ≡ None = subst (λ (q : Term). refusal d (Condition q) K ≡ None) says.term (c.in_ok-pass.ensures hides holds) in
    let p = err_from_is_err_and c.from_residual-in_err-flow_braced.result c.from_residual-in_err-flow_braced.ensures.1 in
    rw (p.1, p.2) (ap (λ (a : Code). first_refused d a G) code ∙ while-body d s.head e own inside G K kept _ fine (c.in_err-flow_braced.ensures hides holds))

pub flow_while-returns : goal.flow_while-returns
flow_while-returns t c hides holds =
    let b = c.args.body.now in
    let k = setting_of b in
    let d : Context = hiding hides (context_of b) in
    let G = member c.args.live in
    let s = c.args.stmt.now in
    let is = c.requires.is in
    let own = own_vars k c.args.block.now.stmts in
    let inside = block_code k c.args.block.now.stmts End in
    let e = term_at k is.condition in
    let code = while-code b s c.args.block.now is in
    let K = member c.difference-kept.result in
    let kept : K ≡ minus G (block_effect own inside).lost = kept-is b c.kept.ensures c.args.block.now c.args.live c.difference-kept.result c.effect_in.result.lost c.requires.known c.difference-kept.ensures c.effect_in.ensures.lost in
    let says : SaysTerm k b.bodies is.condition c.tested-test.result = c.tested-test.ensures k b.bodies is.condition (subst (λ (kind : StmtKind). Says k b.bodies s kind c.action.result) is.is (c.action.ensures s c.requires.stands.here)) in
    let fine : refusal d (Condition e) K ≡ None = subst (λ (q : Term). refusal d (Condition q) K ≡ None) says.term (c.in_ok-pass.ensures hides holds) in
    subst (λ (a : Code). CodeGives d a (effect a) G (Ok c.difference-kept.result)) (sym code) (while-gives d s.head e own inside G K kept c.difference-kept.result fine (c.in_ok-flow_braced.ensures hides holds).0 refl)

-- ---------- pars ----------
pub flow_par-flow_braced-requires : goal.flow_par-flow_braced-requires
flow_par-flow_braced-requires t c =
    let b = c.args.body.now in
    let s = c.args.stmt.now in
    let stands = c.requires.stands in
    let most = par-bounds (length b.unit.program.exprs) c.args.at s.kind (c.kept.ensures.resolved.formed.placed.stmts c.args.at s stands.here) c.args.left.now c.args.right.now c.requires.is in
    (omega (arith, c.decreases, most.0), (par-left b.unit b.number c.args.at s stands c.args.left.now c.args.right.now c.requires.is, c.requires.known))

pub flow_par-flow_braced-requires-2 : goal.flow_par-flow_braced-requires-2
flow_par-flow_braced-requires-2 t c =
    let b = c.args.body.now in
    let s = c.args.stmt.now in
    let stands = c.requires.stands in
    let most = par-bounds (length b.unit.program.exprs) c.args.at s.kind (c.kept.ensures.resolved.formed.placed.stmts c.args.at s stands.here) c.args.left.now c.args.right.now c.requires.is in
    (omega (arith, c.decreases, most.1), (par-right b.unit b.number c.args.at s stands c.args.left.now c.args.right.now c.requires.is, c.requires.known))

pub flow_par-returns-in_err-pass_par : goal.flow_par-returns-in_err-pass_par
flow_par-returns-in_err-pass_par t c hides holds =
    let b = c.args.body.now in
    let k = setting_of b in
    let d : Context = hiding hides (context_of b) in
    let G = member c.args.live in
    let s = c.args.stmt.now in
    let is = c.requires.is in
    let own1 = own_vars k c.args.left.now.stmts in
    let own2 = own_vars k c.args.right.now.stmts in
    let first = block_code k c.args.left.now.stmts End in
    let second = block_code k c.args.right.now.stmts End in
    let code = par-code b s c.args.left.now c.args.right.now is in
    let p = err_from_is_err_and c.from_residual.result c.from_residual.ensures.1 in
    rw (p.1, p.2) (ap (λ (a : Code). first_refused d a G) code ∙ par-head d s.head own1 first own2 second G _ (c.in_err-pass_par.ensures hides G))

pub flow_par-returns-in_err-left : goal.flow_par-returns-in_err-left
flow_par-returns-in_err-left t c hides holds =
    let b = c.args.body.now in
    let k = setting_of b in
    let d : Context = hiding hides (context_of b) in
    let G = member c.args.live in
    let s = c.args.stmt.now in
    let is = c.requires.is in
    let own1 = own_vars k c.args.left.now.stmts in
    let own2 = own_vars k c.args.right.now.stmts in
    let first = block_code k c.args.left.now.stmts End in
    let second = block_code k c.args.right.now.stmts End in
    let code = par-code b s c.args.left.now c.args.right.now is in
    let p = err_from_is_err_and c.from_residual-in_err-left.result c.from_residual-in_err-left.ensures.1 in
    rw (p.1, p.2) (ap (λ (a : Code). first_refused d a G) code ∙ par-first d s.head own1 first own2 second G _ (c.in_ok-pass_par.ensures hides G) (c.in_err-left.ensures hides holds))

pub flow_par-returns-in_err-right : goal.flow_par-returns-in_err-right
flow_par-returns-in_err-right t c hides holds =
    let b = c.args.body.now in
    let k = setting_of b in
    let d : Context = hiding hides (context_of b) in
    let G = member c.args.live in
    let s = c.args.stmt.now in
    let is = c.requires.is in
    let own1 = own_vars k c.args.left.now.stmts in
    let own2 = own_vars k c.args.right.now.stmts in
    let first = block_code k c.args.left.now.stmts End in
    let second = block_code k c.args.right.now.stmts End in
    let code = par-code b s c.args.left.now c.args.right.now is in
    let p = err_from_is_err_and c.from_residual-in_err-right.result c.from_residual-in_err-right.ensures.1 in
    rw (p.1, p.2) (ap (λ (a : Code). first_refused d a G) code ∙ par-second d s.head own1 first own2 second G _ (c.in_ok-pass_par.ensures hides G) (c.in_ok-left.ensures hides holds).0 (c.in_err-right.ensures hides holds))

pub flow_par-returns : goal.flow_par-returns
flow_par-returns t c hides holds =
    let b = c.args.body.now in
    let k = setting_of b in
    let d : Context = hiding hides (context_of b) in
    let G = member c.args.live in
    let s = c.args.stmt.now in
    let is = c.requires.is in
    let own1 = own_vars k c.args.left.now.stmts in
    let own2 = own_vars k c.args.right.now.stmts in
    let first = block_code k c.args.left.now.stmts End in
    let second = block_code k c.args.right.now.stmts End in
    let code = par-code b s c.args.left.now c.args.right.now is in
    subst (λ (a : Code). CodeGives d a (effect a) G (Ok c.joined.result)) (sym code)
    (par-gives d s.head own1 first own2 second G c.in_ok-left.left c.in_ok-right.right c.joined.result (c.in_ok-pass_par.ensures hides G) (c.in_ok-left.ensures hides holds) (c.in_ok-right.ensures hides holds) c.joined.ensures)

-- ---------- recover blocks ----------
pub flow_recover-flow_block-requires : goal.flow_recover-flow_block-requires
flow_recover-flow_block-requires t c =
    let b = c.args.body.now in
    let s = c.args.stmt.now in
    let stands = c.requires.stands in
    let most = recover-bounds (length b.unit.program.exprs) c.args.at s.kind (c.kept.ensures.resolved.formed.placed.stmts c.args.at s stands.here) c.args.block.now c.args.give c.requires.is in
    let same : bound c.as_slice.result.now ≡ bound c.args.block.now.stmts = ap bound c.as_slice.ensures in (
      omega (arith, c.decreases, most, same),
      (subst (AreOfBody b) (sym c.as_slice.ensures) (block-inside b c.kept.ensures c.args.block.now (recover-block b.unit b.number c.args.at s stands c.args.block.now c.args.give c.requires.is)), c.requires.known),
    )

pub flow_recover-own_in-requires : goal.flow_recover-own_in-requires
flow_recover-own_in-requires t c = recover-block c.args.body.now.unit c.args.body.now.number c.args.at c.args.stmt.now c.requires.stands c.args.block.now c.args.give c.requires.is

pub flow_recover-returns-in_err-pass : goal.flow_recover-returns-in_err-pass
flow_recover-returns-in_err-pass t c hides holds =
    let b = c.args.body.now in
    let k = setting_of b in
    let d : Context = hiding hides (context_of b) in
    let G = member c.args.live in
    let s = c.args.stmt.now in
    let is = c.requires.is in
    let gift = c.given_by-given.ensures k is.w is.x (subst (λ (kind : StmtKind). Says k b.bodies s kind c.action.result) is.is (c.action.ensures s c.requires.stands.here)) in
    let w = c.given_by-given.result.0 in
    let x = c.given_by-given.result.1 in
    let own = own_vars k c.args.block.now.stmts in
    let tied = tied_before s.head.end 0 k.vars in
    let code = recover-code b s c.args.block.now c.args.give is w x gift.0 gift.1 in
    let p = err_from_is_err_and c.from_residual.result c.from_residual.ensures.1 in
    rw (p.1, p.2) (ap (λ (a : Code). first_refused d a G) code ∙ recover-head d s.head c.args.give x w own tied (block_code k c.args.block.now.stmts) G _ (c.in_err-pass.ensures hides holds))

pub flow_recover-returns-in_err-end : goal.flow_recover-returns-in_err-end
flow_recover-returns-in_err-end t c hides holds =
    let b = c.args.body.now in
    let k = setting_of b in
    let d : Context = hiding hides (context_of b) in
    let G = member c.args.live in
    let s = c.args.stmt.now in
    let is = c.requires.is in
    let gift = c.given_by-given.ensures k is.w is.x (subst (λ (kind : StmtKind). Says k b.bodies s kind c.action.result) is.is (c.action.ensures s c.requires.stands.here)) in
    let w = c.given_by-given.result.0 in
    let x = c.given_by-given.result.1 in
    let own = own_vars k c.args.block.now.stmts in
    let tied = tied_before s.head.end 0 k.vars in
    let code = recover-code b s c.args.block.now c.args.give is w x gift.0 gift.1 in
    let around : HoldsHidden b c.union-hidden.result (tied ++ hides) =
    hidden-more b c.args.hidden c.tied_before.result c.union-hidden.result tied hides (few-vars b c.kept.ensures) holds
    (subst (λ (vs : List VarInfo). (y : ℕ) → y < 256 → member c.tied_before.result y ≡ those (tied_before s.head.end 0 vs) y) c.vars.ensures c.tied_before.ensures) (λ y. ap (λ (M : Vars). M y) c.union-hidden.ensures) in
    let e : Context = hiding tied d in
    let p = err_from_is_err_and c.from_residual-in_err-end.result c.from_residual-in_err-end.ensures.1 in
    rw (p.1, p.2) (ap (λ (a : Code). first_refused d a G) code
    ∙ recover-body d s.head c.args.give x w own tied (block_code k c.args.block.now.stmts) G _ (c.in_ok-pass.ensures hides holds)
    (refused-as (context_of b) k tied hides c.as_slice.result.now c.args.block.now.stmts (Give c.args.give w x) G c.as_slice.ensures ∙ c.in_err-end.ensures (tied ++ hides) around (Give c.args.give w x)))

pub flow_recover-returns-in_err-pass-2 : goal.flow_recover-returns-in_err-pass-2
flow_recover-returns-in_err-pass-2 t c hides holds =
    let b = c.args.body.now in
    let k = setting_of b in
    let d : Context = hiding hides (context_of b) in
    let G = member c.args.live in
    let s = c.args.stmt.now in
    let is = c.requires.is in
    let gift = c.given_by-given.ensures k is.w is.x (subst (λ (kind : StmtKind). Says k b.bodies s kind c.action.result) is.is (c.action.ensures s c.requires.stands.here)) in
    let w = c.given_by-given.result.0 in
    let x = c.given_by-given.result.1 in
    let own = own_vars k c.args.block.now.stmts in
    let tied = tied_before s.head.end 0 k.vars in
    let code = recover-code b s c.args.block.now c.args.give is w x gift.0 gift.1 in
    let around : HoldsHidden b c.union-hidden.result (tied ++ hides) =
    hidden-more b c.args.hidden c.tied_before.result c.union-hidden.result tied hides (few-vars b c.kept.ensures) holds
    (subst (λ (vs : List VarInfo). (y : ℕ) → y < 256 → member c.tied_before.result y ≡ those (tied_before s.head.end 0 vs) y) c.vars.ensures c.tied_before.ensures) (λ y. ap (λ (M : Vars). M y) c.union-hidden.ensures) in
    let e : Context = hiding tied d in
    let p = err_from_is_err_and c.from_residual-in_err-pass-2.result c.from_residual-in_err-pass-2.ensures.1 in
    rw (p.1, p.2) (ap (λ (a : Code). first_refused d a G) code
    ∙ recover-body d s.head c.args.give x w own tied (block_code k c.args.block.now.stmts) G _ (c.in_ok-pass.ensures hides holds)
    (refused-as (context_of b) k tied hides c.as_slice.result.now c.args.block.now.stmts (Give c.args.give w x) G c.as_slice.ensures
    ∙ ((c.in_ok-end.ensures (tied ++ hides) around (Give c.args.give w x)).0 ∙ c.in_err-pass-2.ensures (tied ++ hides) around)))

pub flow_recover-returns : goal.flow_recover-returns
flow_recover-returns t c hides holds =
    let b = c.args.body.now in
    let k = setting_of b in
    let d : Context = hiding hides (context_of b) in
    let G = member c.args.live in
    let s = c.args.stmt.now in
    let is = c.requires.is in
    let gift = c.given_by-given.ensures k is.w is.x (subst (λ (kind : StmtKind). Says k b.bodies s kind c.action.result) is.is (c.action.ensures s c.requires.stands.here)) in
    let w = c.given_by-given.result.0 in
    let x = c.given_by-given.result.1 in
    let own = own_vars k c.args.block.now.stmts in
    let tied = tied_before s.head.end 0 k.vars in
    let code = recover-code b s c.args.block.now c.args.give is w x gift.0 gift.1 in
    let around : HoldsHidden b c.union-hidden.result (tied ++ hides) =
    hidden-more b c.args.hidden c.tied_before.result c.union-hidden.result tied hides (few-vars b c.kept.ensures) holds
    (subst (λ (vs : List VarInfo). (y : ℕ) → y < 256 → member c.tied_before.result y ≡ those (tied_before s.head.end 0 vs) y) c.vars.ensures c.tied_before.ensures) (λ y. ap (λ (M : Vars). M y) c.union-hidden.ensures) in
    let e : Context = hiding tied d in
    let gives = c.in_ok-end.ensures (tied ++ hides) around (Give c.args.give w x) in
    let fine : refusal (hiding (tied ++ hides) (context_of b)) (Given w x) (member c.in_ok-end.end) ≡ None = c.in_ok-pass-2.ensures (tied ++ hides) around in
    subst (λ (a : Code). CodeGives d a (effect a) G (Ok c.difference.result)) (sym code)
    (recover-gives d s.head c.args.give x w own tied (block_code k c.args.block.now.stmts) G c.in_ok-end.end c.without.result c.with.result c.difference.result (few-vars b c.kept.ensures) c.requires.known (c.in_ok-pass.ensures hides holds)
    (refused-as (context_of b) k tied hides c.as_slice.result.now c.args.block.now.stmts (Give c.args.give w x) G c.as_slice.ensures ∙ (gives.0 ∙ given-passes (hiding (tied ++ hides) (context_of b)) c.args.give w x (member c.in_ok-end.end) fine))
    (ap (λ (is : List ℕ). changed (effect (block_code k is (Give c.args.give w x))) G) (sym c.as_slice.ensures) ∙ gives.1)
    (λ y within. ap (λ (M : Vars). M y) c.without.ensures) c.with.ensures (c.difference.ensures ∙ ap (λ (M : Vars). minus (member c.with.result) M) c.own_in.ensures))

-- ---------- assignments and all statements ----------
pub flow_assignment-flow_simple-requires : goal.flow_assignment-flow_simple-requires
flow_assignment-flow_simple-requires t c =
    let b = c.args.body.now in
    let s = c.args.stmt.now in
    record { says = assignment-simple (setting_of b) b.bodies s c.args.rhs.now c.action.result c.requires.is c.in_default.not-Recover (c.action.ensures s c.requires.stands.here); known = c.requires.known }

pub flow_stmt-flow_simple-requires : goal.flow_stmt-flow_simple-requires
flow_stmt-flow_simple-requires t c =
    let b = c.args.body.now in
    let s = c.stmt-stmt.result.now in
    record {
      says = kind-simple (setting_of b) b.bodies s s.kind c.action.result c.in_default.not-Assign c.in_default.not-If c.in_default.not-While c.in_default.not-Par (c.action.ensures s c.stmt-stmt.ensures);
      known = c.requires.known;
    }

pub flow_stmt-returns-in-If : goal.flow_stmt-returns-in-If
flow_stmt-returns-in-If t c hides holds =
    let b = c.args.body.now in
    subst (λ (a : Code). CodeGives (hiding hides (context_of b)) a (effect a) (member c.args.live) c.flow_if.result) (sym (stmt-code b c.kept.ensures c.args.at c.stmt-stmt.result.now c.stmt-stmt.ensures)) (c.flow_if.ensures hides holds)

pub flow_stmt-returns-in-While : goal.flow_stmt-returns-in-While
flow_stmt-returns-in-While t c hides holds =
    let b = c.args.body.now in
    subst (λ (a : Code). CodeGives (hiding hides (context_of b)) a (effect a) (member c.args.live) c.flow_while.result) (sym (stmt-code b c.kept.ensures c.args.at c.stmt-stmt.result.now c.stmt-stmt.ensures)) (c.flow_while.ensures hides holds)

pub flow_stmt-returns-in-Par : goal.flow_stmt-returns-in-Par
flow_stmt-returns-in-Par t c hides holds =
    let b = c.args.body.now in
    subst (λ (a : Code). CodeGives (hiding hides (context_of b)) a (effect a) (member c.args.live) c.flow_par.result) (sym (stmt-code b c.kept.ensures c.args.at c.stmt-stmt.result.now c.stmt-stmt.ensures)) (c.flow_par.ensures hides holds)

pub flow_stmt-returns-in-Assign : goal.flow_stmt-returns-in-Assign
flow_stmt-returns-in-Assign t c hides holds =
    let b = c.args.body.now in
    subst (λ (a : Code). CodeGives (hiding hides (context_of b)) a (effect a) (member c.args.live) c.flow_assignment.result) (sym (stmt-code b c.kept.ensures c.args.at c.stmt-stmt.result.now c.stmt-stmt.ensures)) (c.flow_assignment.ensures hides holds)

pub flow_stmt-returns-in_default : goal.flow_stmt-returns-in_default
flow_stmt-returns-in_default t c hides holds =
    let b = c.args.body.now in
    subst (λ (a : Code). CodeGives (hiding hides (context_of b)) a (effect a) (member c.args.live) c.flow_simple.result) (sym (stmt-code b c.kept.ensures c.args.at c.stmt-stmt.result.now c.stmt-stmt.ensures)) (c.flow_simple.ensures hides holds)
