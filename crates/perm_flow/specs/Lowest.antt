-- The lowest kind that applies to a part that is no head of a par, by a set of hidden variables in place of what a context hides.
use Rattle.std.specs.Prelude.{Bool, Option, Some, None, cond}
use Rattle.perm_tree.specs.declared.errors.TypeKind.{TypeKind}
use Rattle.perm_tree.specs.declared.errors.TypeKind.TheVariants.{UnknownName, WrongKind, Gone, NeedsConsume, NotAllowedThrough, PermissionTooWeak, Hidden, BadGive}
use Rattle.perm_tree.specs.Vars.{Vars}
use Rattle.perm_rules.specs.Liveness.{gone}
use Rattle.perm_rules.specs.Parts.{Context, Part, Given, any_in_part}
use Rattle.perm_rules.specs.Permissions.{needs_consume, not_allowed_through, permission_too_weak}
use Rattle.perm_rules.specs.Shapes.{bad_give, unknown_name, wrong_kind}

-- a hidden variable is mentioned or assigned, as `is_hidden` of a context says it
abbrev pub any_hidden : Vars → Part → Bool
any_hidden hidden (Given w x) = hidden w
any_hidden hidden p = any_in_part hidden p

-- the lowest of eight kinds, by whether each applies
abbrev pub first_of : Bool → Bool → Bool → Bool → Bool → Bool → Bool → Bool → Option TypeKind → Option TypeKind
first_of unknown wrong is_gone needs barred weak hides bad later =
    cond unknown (Some UnknownName)
    (cond wrong (Some WrongKind)
    (cond is_gone (Some Gone)
    (cond needs (Some NeedsConsume)
    (cond barred (Some NotAllowedThrough)
    (cond weak (Some PermissionTooWeak)
    (cond hides (Some Hidden)
    (cond bad (Some BadGive) later)))))))

-- the lowest kind that applies to a part which is entered with the live set G
abbrev pub lowest : Context → Vars → Part → Vars → Option TypeKind
lowest c hidden p G =
    first_of (unknown_name c p) (wrong_kind c p) (gone p G) (needs_consume c p) (not_allowed_through c p) (permission_too_weak c p) (any_hidden hidden p) (bad_give c p) None
