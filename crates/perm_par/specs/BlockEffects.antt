-- Effects that are held in sets of known variables.
use Rattle.std.specs.Prelude.{◌≡◌, ℕ, List, Option}
use Rattle.perm_tree.specs.declared.ast.Block.{Block}
use Rattle.perm_tree.specs.Code.{Code, End}
use Rattle.perm_tree.specs.CodeNames.{Setting, own_vars}
use Rattle.perm_tree.specs.CodeOf.{block_code}
use Rattle.perm_tree.specs.Scopes.{else_stmts}
use Rattle.perm_tree.specs.VarSets.{member}
use Rattle.perm_tree.specs.Vars.{Vars, plus, minus}
use Rattle.perm_rules.specs.declared.Effect as held
use Rattle.perm_rules.specs.Effects.{Effect, effect, block_effect, known_effect, then}
use Rattle.perm_rules.specs.MethodBodies.{Body}
use Rattle.perm_par.specs.Known.{count_of}

-- what two sets tell
abbrev pub seen : held.Effect → Effect
seen r = record { lost = member r.lost; made = member r.made }

-- at the end of a block that declares these they are lost
abbrev pub without : Vars → Effect → Effect
without own e = record { lost = plus e.lost own; made = minus e.made own }

-- of the variables of the method, just these are lost and made
abbrev pub HasEffect : Body → held.Effect → Effect → Type 0
HasEffect b r e = seen r ≡ known_effect (count_of b) e

-- before any rest, a code has an effect of which the known part is this
pub record IsEffect (b : Body) (r : held.Effect) (code : Code → Code) : Type 0 where
  pub whole : Effect
  pub holds : HasEffect b r whole
  pub before : (rest : Code) → effect (code rest) ≡ then whole (effect rest)

-- the effect of a block of these statements
abbrev pub stmts_effect : Setting → List ℕ → Effect
stmts_effect k is = block_effect (own_vars k is) (block_code k is End)

-- the same of the block behind `else`, of which there may be none
abbrev pub else_effect : Setting → Option Block → Effect
else_effect k b = stmts_effect k (else_stmts b)
