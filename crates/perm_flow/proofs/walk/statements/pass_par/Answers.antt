use Rattle.perm_rules.specs.AtPlace.{block_code_at, own_at, plain_context}
use Rattle.perm_rules.specs.Pars.{mode_of, touches, uses}
use Rattle.perm_flow.proofs.StatementForms.{head-refused, head-passes}
use Rattle.perm_flow.proofs.walk.statements.pass_par.Goals as goal

pub returns-in-Err : goal.returns-in-Err
returns-in-Err c hides G =
    let u = c.args.body.now.unit in
    let m = c.args.body.now.number in
    let k = plain_context u m in
    let own1 = own_at u m c.args.left.now in
    let own2 = own_at u m c.args.right.now in
    let left = block_code_at u m c.args.left.now in
    let right = block_code_at u m c.args.right.now in
    head-refused k hides c.args.at (uses k own1 left) (uses k own2 right) (touches k own1 left) (touches k own2 right) G (mode_of k (uses k own1 left) (uses k own2 right)) c.in-Err.kind c.in-Err.ensures

pub returns-in-Ok : goal.returns-in-Ok
returns-in-Ok c hides G =
    let u = c.args.body.now.unit in
    let m = c.args.body.now.number in
    let k = plain_context u m in
    let own1 = own_at u m c.args.left.now in
    let own2 = own_at u m c.args.right.now in
    let left = block_code_at u m c.args.left.now in
    let right = block_code_at u m c.args.right.now in
    head-passes k hides c.args.at (uses k own1 left) (uses k own2 right) (touches k own1 left) (touches k own2 right) G (mode_of k (uses k own1 left) (uses k own2 right)) c.in-Ok.field-0 c.in-Ok.ensures
