-- Bodies to which numbered expressions and arguments are added.
use Rattle.std.specs.Prelude.{◌≡◌, List, ◌++◌}
use Rattle.perm_tree.specs.declared.bodies.Bodies.{Bodies}

-- the list has perhaps more behind what the old one has
abbrev pub HasMore : {A : Type 0} → List A → List A → Type 0
HasMore {A} old new = (more : List A) × (new ≡ old ++ more)

-- the lists that steps refer to have perhaps more behind what they had
pub record Extends (old new : Bodies) : Type 0 where
  pub operations : HasMore old.operations new.operations
  pub arguments : HasMore old.arguments new.arguments
  pub sides : HasMore old.sides new.sides

-- there are perhaps more operations and arguments behind those that were there, and all else is as before
pub record Grows (old new : Bodies) : Type 0 where
  pub operations : HasMore old.operations new.operations
  pub arguments : HasMore old.arguments new.arguments
  pub sides : new.sides ≡ old.sides
  pub steps : new.steps ≡ old.steps
  pub places : new.places ≡ old.places
  pub entries : new.entries ≡ old.entries
  pub run : new.run ≡ old.run
  pub fields : new.fields ≡ old.fields
