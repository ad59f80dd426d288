use Rattle.std.proofs.Common.{◌≡◌, ◌∷◌, map, take}
use Rattle.perm_tree.specs.Scopes.{param_var, this_var}
use Rattle.perm_table.proofs.tables.outer_vars.Given as goal

abbrev pub invariant-params : goal.invariant-params
invariant-params l = l.vars ≡ this_var l.class l.method ∷ map (param_var l.method) (take l.param-index l.method.params)
