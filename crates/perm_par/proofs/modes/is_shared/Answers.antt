use Rattle.std.proofs.Common.{◌∙◌, ap}
use Rattle.std.specs.Prelude.{◌||◌}
use Rattle.perm_tree.specs.Vars.{Vars, meet}
use Rattle.perm_rules.specs.MethodBodies.{context_of}
use Rattle.perm_rules.specs.Pars.{isolated_vars, some_var}
use Rattle.perm_par.proofs.modes.is_shared.Goals as goal

pub returns : goal.returns
returns c =
    let k = context_of c.args.body.now in
    let to_right = c.some_in-to_right.ensures ∙ ap (λ (G : Vars). some_var k G) c.intersection.ensures in
    let to_left = c.some_in-to_left.ensures ∙ ap (λ (G : Vars). some_var k G) c.intersection-2.ensures in
    let both = c.some_of.ensures ∙ ap (λ (G : Vars). some_var k (meet (isolated_vars k) G)) c.intersection-both.ensures in
    λ i. to_right i || (to_left i || both i)
