use Rattle.std.proofs.lemmas.Result.{err_from_is_err_and}
use Rattle.perm_tree.specs.Code.{End}
use Rattle.perm_tree.specs.VarSets.{member}
use Rattle.perm_rules.specs.Goes.{hiding}
use Rattle.perm_rules.specs.MethodBodies.{context_of}
use Rattle.perm_flow.specs.Walk.{kind_end}
use Rattle.perm_flow.proofs.StatementForms.{simple-stops, simple-gives}
use Rattle.perm_flow.proofs.Statements.{few-vars}
use Rattle.perm_flow.proofs.walk.statements.flow_simple.Goals as goal

pub returns-in_err-pass : goal.returns-in_err-pass
returns-in_err-pass c hides holds =
    let b = c.args.body.now in
    let p = err_from_is_err_and c.from_residual.result c.from_residual.ensures.1 in
    rw (p.1, p.2) (simple-stops (hiding hides (context_of b)) (kind_end b c.args.stmt.now) c.args.stmt.now.span _ (member c.args.live) _ (c.requires.says.code End) (c.in_err-pass.ensures hides holds))

pub returns : goal.returns
returns c hides holds =
    let b = c.args.body.now in
    simple-gives (hiding hides (context_of b)) (kind_end b c.args.stmt.now) c.args.stmt.now.span _ (member c.args.live) c.after_action.result (c.requires.says.code End) (few-vars b c.kept.ensures) c.requires.known
    (c.in_ok-pass.ensures hides holds) (c.after_action.ensures _)
