use Rattle.std.proofs.Common.{false}
use Rattle.perm_tree.specs.CodeOf.{code_of}
use Rattle.perm_step.specs.Stems.{Stack}
use Rattle.perm_step.proofs.ControlStacks.Starts.{begins-so}
use Rattle.perm_step.proofs.WholeRuns.OpeningRuns.{bodies-of, run-there}
use Rattle.perm_step.proofs.ctl.start.Goals as goal

pub enter-requires : goal.enter-requires
enter-requires c = record { there = run-there (code_of c.args.checked.now) c.bodies-bodies.result.now (bodies-of c.unit.ensures c.bodies-bodies.ensures) c.checked.ensures }

pub returns : goal.returns
returns c =
    let b = c.bodies-bodies.result.now in
    let k : Stack = record { bodies = b; leaf = c.running.result; parents = c.new.result.items; on_right = false } in
    begins-so (code_of c.args.checked.now) b (bodies-of c.unit.ensures c.bodies-bodies.ensures) c.checked.ensures c.args.turns c.in_ok-control.control c.args.input c.args.root c.in_ok-control.ensures k
    (λ j. record { bodies = b; leaf = c.running.ensures j; parents = c.new.ensures.items j; on_right = false })
