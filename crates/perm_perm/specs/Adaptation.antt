-- Viewpoint adaptation, and raising.
use Rattle.std.specs.Prelude.{Option, Some, None}
use Rattle.perm_tree.specs.declared.ast.Perm.{Perm}
use Rattle.perm_tree.specs.declared.ast.Perm.TheVariants.{Isolated, Immutable, Readable, Writable}

-- what a field is seen as through a receiver, the receiver first: sixteen cells, of which three have no value
abbrev pub adapted : Perm → Perm → Option Perm
adapted Isolated Isolated = None
adapted Isolated Immutable = Some Immutable
adapted Isolated Readable = Some Immutable
adapted Isolated Writable = Some Isolated
adapted Immutable Isolated = Some Immutable
adapted Immutable Immutable = Some Immutable
adapted Immutable Readable = Some Immutable
adapted Immutable Writable = Some Immutable
adapted Readable Isolated = None
adapted Readable Immutable = Some Immutable
adapted Readable Readable = Some Readable
adapted Readable Writable = Some Readable
adapted Writable Isolated = None
adapted Writable Immutable = Some Immutable
adapted Writable Readable = Some Readable
adapted Writable Writable = Some Writable

-- what a result is where no other reference to what it reaches is left
abbrev pub raised : Perm → Perm
raised Writable = Isolated
raised Readable = Immutable
raised Isolated = Isolated
raised Immutable = Immutable
