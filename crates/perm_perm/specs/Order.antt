-- The order of permissions.
use Rattle.std.specs.Prelude.{Bool, true, false, ◌&&◌, ◌||◌, List, [], ◌∷◌}
use Rattle.perm_tree.specs.declared.ast.Perm.{Perm}
use Rattle.perm_tree.specs.declared.ast.Perm.TheVariants.{Isolated, Immutable, Readable, Writable}

-- the nine pairs of the order, the lesser permission first
abbrev pub order : List (Perm × Perm)
order =
    (Isolated, Isolated) ∷ (Immutable, Immutable) ∷ (Readable, Readable) ∷ (Writable, Writable)
    ∷ (Isolated, Writable) ∷ (Isolated, Immutable) ∷ (Isolated, Readable)
    ∷ (Writable, Readable) ∷ (Immutable, Readable) ∷ []

-- the two are one permission
abbrev pub same_perm : Perm → Perm → Bool
same_perm Isolated Isolated = true
same_perm Immutable Immutable = true
same_perm Readable Readable = true
same_perm Writable Writable = true
same_perm _ _ = false

-- the pair is one of the list
abbrev pub has_pair : List (Perm × Perm) → Perm → Perm → Bool
has_pair [] p q = false
has_pair (pair ∷ rest) p q = (same_perm pair.0 p && same_perm pair.1 q) || has_pair rest p q

-- a reference of the one permission may be used as one of the other
abbrev pub is_at_most : Perm → Perm → Bool
is_at_most p q = has_pair order p q
