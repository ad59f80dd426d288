use Rattle.std.proofs.Common.{◌∙◌, List, ℕ, ◌+◌, ap, drop, map}
use Rattle.std.specs.Prelude.{slice_index}
use Rattle.std.proofs.lemmas.List.{drop_all, drop_more}
use Rattle.perm_tree.specs.CodeNames.{own_vars, var_at}
use Rattle.perm_tree.specs.Mentions.{known}
use Rattle.perm_tree.specs.Scopes.{declared_at}
use Rattle.perm_tree.specs.Vars.{those}
use Rattle.perm_rules.specs.MethodBodies.{setting_of}
use Rattle.perm_par.specs.Known.{count_of}
use Rattle.perm_par.proofs.KnownVariables.{gathers-all, gathers-more, gathers-none, those-append}
use Rattle.perm_par.proofs.effects.own_of_all.Goals as goal

pub stmts-init : goal.stmts-init
stmts-init c = gathers-none c.args.body.now c.new-own.result (those (own_vars (setting_of c.args.body.now) c.args.stmts.now)) c.new-own.ensures

pub stmts-preserved : goal.stmts-preserved
stmts-preserved c =
    let b = c.args.body.now in
    let k = setting_of b in
    let is = c.args.stmts.now in
    let i = c.stmts.at-index in
    let one = map (λ d. var_at k d.name) (declared_at b.unit.program.stmts (slice_index is i)) in
    let rest = own_vars k (drop (i + 1) is) in
    gathers-more b c.stmts.own c.union-own.result c.own_of.result (those one) (those (own_vars k (drop i is))) (those rest) (known (count_of b) (those (own_vars k is))) c.union-own.ensures c.own_of.ensures
    (ap (λ (l : List ℕ). those (own_vars k l)) (drop_more is i 0 c.stmts-test.true) ∙ those-append one rest) c.stmts.invariant

pub returns : goal.returns
returns c =
    let k = setting_of c.args.body.now in
    let is = c.args.stmts.now in
    gathers-all c.args.body.now c.stmts.own (those (own_vars k (drop c.stmts.at-index is))) (known (count_of c.args.body.now) (those (own_vars k is)))
    (ap (λ (l : List ℕ). those (own_vars k l)) (drop_all c.stmts.at-index is c.stmts-test.false)) c.stmts.invariant
