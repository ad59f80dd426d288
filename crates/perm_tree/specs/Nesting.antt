-- The order of variables, and how their scopes nest.
use Rattle.std.specs.Prelude.{All, AllPairs, ◌<◌, ◌≤◌, ◌⊎◌, List}
use Rattle.perm_tree.specs.declared.ast.Span.{Span}
use Rattle.perm_tree.specs.declared.unit.MethodTable.{MethodTable}
use Rattle.perm_tree.specs.declared.unit.VarInfo.{VarInfo}

-- the second stretch begins in the first one and ends in it, or begins behind it
abbrev pub IsInOrBehind : Span → Span → Type 0
IsInOrBehind a b = (a.start ≤ b.start) × ((b.end ≤ a.end) ⊎ (a.end ≤ b.start))

-- a variable is declared in its scope
abbrev pub IsInScope : VarInfo → Type 0
IsInScope v = (v.scope.start ≤ v.declared.start) × (v.declared.start < v.scope.end)

-- variables stand in the order of their declarations, each in its scope, and of two scopes the later one lies in the earlier one or behind it
pub record AreNested (vars : List VarInfo) : Type 0 where
  pub within : All IsInScope vars
  pub ascending : AllPairs (λ v w. v.declared.start < w.declared.start) vars
  pub nested : AllPairs (λ v w. IsInOrBehind v.scope w.scope) vars

-- so it is in each method
abbrev pub AllNested : List MethodTable → Type 0
AllNested tables = All (λ t. AreNested t.vars) tables
