-- The innermost of what waits, taken out.
use Rattle.std.specs.Prelude.{◌≡◌, List, [], ◌∷◌, Option, Some, None}

-- the first of a list is taken out, if there is one
abbrev pub IsPopped : {A : Type 0} → Option A → List A → List A → Type 0
IsPopped None old new = (old ≡ []) × (new ≡ [])
IsPopped (Some x) old new = old ≡ x ∷ new
