-- Sets that hold known variables. A name that isn't known stands in the code as a number past the last variable, which no such set holds.
use Rattle.std.specs.Prelude.{◌≡◌, ℕ, length}
use Rattle.perm_tree.specs.declared.var_set.VarSet.{VarSet}
use Rattle.perm_tree.specs.InBody.{vars_at}
use Rattle.perm_tree.specs.Mentions.{known}
use Rattle.perm_tree.specs.VarSets.{member}
use Rattle.perm_tree.specs.Vars.{Vars}
use Rattle.perm_rules.specs.MethodBodies.{Body}

-- how many variables the method has
abbrev pub count_of : Body → ℕ
count_of b = length (vars_at b.unit b.number)

-- of the variables of the method, the set holds just these
abbrev pub HoldsKnown : Body → VarSet → Vars → Type 0
HoldsKnown b set G = member set ≡ known (count_of b) G
