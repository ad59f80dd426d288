use Rattle.std.proofs.Common.{◌≡◌, ◌∙◌, ap, arith, length}
use Rattle.perm_tree.specs.Vars.{some_below}
use Rattle.perm_tree.specs.VarSets.{member}
use Rattle.perm_rules.specs.MethodBodies.{context_of}
use Rattle.perm_par.proofs.KnownVariables.{context-count, some-more}
use Rattle.perm_par.proofs.modes.some_in.Goals as goal

pub vars-preserved : goal.vars-preserved
vars-preserved c = some-more c.vars.x (member c.args.set) c.vars.found c.holds-found.result c.vars.invariant c.holds-found.ensures

pub returns : goal.returns
returns c =
    let b = c.args.body.now in
    let last : c.vars.x ≡ length (context_of b).vars = omega (arith, c.vars-test.false, c.vars.auto.x-end, c.count-count.ensures, context-count b c.kept.ensures) in
    c.vars.invariant ∙ ap (λ n. some_below n (member c.args.set)) last
