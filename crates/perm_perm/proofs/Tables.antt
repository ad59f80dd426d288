-- Each cell of the tables, by computation. Rows and columns are in the order isolated, immutable, readable, writable.
use Rattle.std.specs.Prelude.{◌≡◌, true, false, List, [], ◌∷◌, Some, None, refl}
use Rattle.perm_tree.specs.declared.ast.Perm.{Perm}
use Rattle.perm_tree.specs.declared.ast.Perm.TheVariants.{Isolated, Immutable, Readable, Writable}
use Rattle.perm_tree.specs.declared.ast.Shape.TheVariants.{Class, Array}
use Rattle.perm_tree.specs.declared.ast.Ty.TheVariants.{Long, Bool as Boolean, Ref}
use Rattle.perm_perm.specs.Order.{is_at_most}
use Rattle.perm_perm.specs.Adaptation.{adapted, raised}
use Rattle.perm_perm.specs.Types.{fits, fits_null, raised_type}

abbrev row : {A : Type 0} → (Perm → A) → List A
row f = f Isolated ∷ f Immutable ∷ f Readable ∷ f Writable ∷ []

order_table : row (λ p. row (is_at_most p)) ≡
    (true ∷ true ∷ true ∷ true ∷ [])
    ∷ (false ∷ true ∷ true ∷ false ∷ [])
    ∷ (false ∷ false ∷ true ∷ false ∷ [])
    ∷ (false ∷ false ∷ true ∷ true ∷ []) ∷ []
order_table = refl

adaptation_table : row (λ p. row (adapted p)) ≡
    (None ∷ Some Immutable ∷ Some Immutable ∷ Some Isolated ∷ [])
    ∷ (Some Immutable ∷ Some Immutable ∷ Some Immutable ∷ Some Immutable ∷ [])
    ∷ (None ∷ Some Immutable ∷ Some Readable ∷ Some Readable ∷ [])
    ∷ (None ∷ Some Immutable ∷ Some Readable ∷ Some Writable ∷ []) ∷ []
adaptation_table = refl

raised_row : row raised ≡ Isolated ∷ Immutable ∷ Immutable ∷ Isolated ∷ []
raised_row = refl

-- one shape and a permission that is at most the other
fits_subclass : fits (Ref Isolated (Class 3)) (Ref Writable (Class 3)) ≡ true
fits_subclass = refl

-- permissions fit, and shapes don't
fits_no_shape : fits (Ref Isolated (Class 3)) (Ref Writable (Class 4)) ≡ false
fits_no_shape = refl

fits_no_array : fits (Ref Isolated (Class 3)) (Ref Writable Array) ≡ false
fits_no_array = refl

-- shapes fit, and permissions don't
fits_no_perm : fits (Ref Immutable Array) (Ref Writable Array) ≡ false
fits_no_perm = refl

fits_plain : (fits Long Long ∷ fits Boolean Boolean ∷ fits Long Boolean ∷ fits Long (Ref Readable Array) ∷ []) ≡ true ∷ true ∷ false ∷ false ∷ []
fits_plain = refl

null_fits : (fits_null (Ref Isolated Array) ∷ fits_null (Ref Readable (Class 0)) ∷ fits_null Long ∷ fits_null Boolean ∷ []) ≡ true ∷ true ∷ false ∷ false ∷ []
null_fits = refl

raised_reference : raised_type (Ref Readable (Class 2)) ≡ Ref Immutable (Class 2)
raised_reference = refl
