use Rattle.std.proofs.Common.{◌∙◌, All, List, ℕ, ap, sym, subst}
use Rattle.perm_tree.specs.CodeNames.{own_vars}
use Rattle.perm_tree.specs.InBody.{IsStmtOf}
use Rattle.perm_tree.specs.Mentions.{known}
use Rattle.perm_tree.specs.Vars.{those}
use Rattle.perm_rules.specs.MethodBodies.{setting_of}
use Rattle.perm_par.specs.Known.{count_of}
use Rattle.perm_par.proofs.BlockStatements.{block-stmts}
use Rattle.perm_par.proofs.OwnVariables.{own-known}
use Rattle.perm_par.proofs.effects.own_in.Goals as goal

pub own_of_all-requires : goal.own_of_all-requires
own_of_all-requires c =
    let u = c.args.body.now.unit in
    let m = c.args.body.now.number in
    subst (λ (is : List ℕ). All (IsStmtOf u m) is) (sym c.as_slice.ensures) (block-stmts u m c.args.block.now c.kept.ensures.resolved c.requires)

pub returns : goal.returns
returns c =
    let b = c.args.body.now in
    c.own_of_all.ensures ∙ ap (λ (is : List ℕ). known (count_of b) (those (own_vars (setting_of b) is))) c.as_slice.ensures ∙ own-known b c.args.block.now c.kept.ensures c.requires
