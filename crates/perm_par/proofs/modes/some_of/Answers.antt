use Rattle.std.proofs.Common.{◌≡◌, ◌∙◌, ap, arith, length}
use Rattle.perm_tree.specs.Vars.{meet, some_below}
use Rattle.perm_tree.specs.VarSets.{member}
use Rattle.perm_rules.specs.MethodBodies.{context_of}
use Rattle.perm_par.specs.Kinds.{of_kind}
use Rattle.perm_par.proofs.KnownVariables.{context-count, some-more}
use Rattle.perm_par.proofs.modes.some_of.Goals as goal

pub vars-preserved : goal.vars-preserved
vars-preserved c = some-more c.vars.x (meet (of_kind c.args.body.now c.args.kind) (member c.args.set)) c.vars.found c.is_among-found.result c.vars.invariant c.is_among-found.ensures

pub returns : goal.returns
returns c =
    let b = c.args.body.now in
    let last : c.vars.x ≡ length (context_of b).vars = omega (arith, c.vars-test.false, c.vars.auto.x-end, c.count-count.ensures, context-count b c.kept.ensures) in
    c.vars.invariant ∙ ap (λ n. some_below n (meet (of_kind b c.args.kind) (member c.args.set))) last
