use Rattle.std.proofs.Common.{◌≡◌, ◌∙◌, ℕ, ◌+◌, ◌-◌, List, take, drop, ap, subst, sym, arith}
use Rattle.std.specs.Prelude.{All}
use Rattle.perm_tree.specs.declared.bodies.Argument.{Argument}
use Rattle.perm_tree.specs.BodyTerms.{stretch, IsArgumentIn}
use Rattle.perm_flow.proofs.CallArguments.{each-in}
use Rattle.perm_flow.proofs.arguments.given.Goals as goal

pub returns-clause-there : goal.returns-clause-there
returns-clause-there c =
    let first : ℕ = c.args.call.now.first in
    let count : ℕ = c.args.call.now.count in
    let same : first + count - first ≡ count = omega arith in
    let run : take (first + count - first) (drop first c.arguments.result.now) ≡ stretch c.args.body.now.bodies.arguments first count =
    ap (λ n. take n (drop first c.arguments.result.now)) same ∙ ap (λ (all : List Argument). take count (drop first all)) c.arguments.ensures
    in
    subst (All (IsArgumentIn c.args.body.now.bodies.operations)) (sym run) (each-in c.args.body.now.bodies.operations (stretch c.args.body.now.bodies.arguments first count) c.requires.1)
