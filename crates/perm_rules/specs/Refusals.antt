-- What is refused of a part, and that it is allowed.
use Rattle.std.specs.Prelude.{◌≡◌, Bool, List, [], ◌∷◌, Option, None, find}
use Rattle.perm_tree.specs.declared.errors.TypeKind.{TypeKind}
use Rattle.perm_tree.specs.declared.errors.TypeKind.TheVariants.{UnknownName, WrongKind, Gone, NeedsConsume, NotAllowedThrough, PermissionTooWeak, Hidden, BadGive, ParShared, ParPermission}
use Rattle.perm_tree.specs.Vars.{Vars}
use Rattle.perm_rules.specs.Parts.{Context, Part}
use Rattle.perm_rules.specs.Shapes.{unknown_name, wrong_kind, bad_give}
use Rattle.perm_rules.specs.Liveness.{gone}
use Rattle.perm_rules.specs.Permissions.{needs_consume, not_allowed_through, permission_too_weak, is_hidden}
use Rattle.perm_rules.specs.Pars.{par_shared, par_permission}

-- the kind applies to the part, which is entered with the live set G; a test says nothing where a type that it asks for isn't known, since UnknownName applies then
abbrev pub applies : Context → Part → Vars → TypeKind → Bool
applies c p G UnknownName = unknown_name c p
applies c p G WrongKind = wrong_kind c p
applies c p G Gone = gone p G
applies c p G NeedsConsume = needs_consume c p
applies c p G NotAllowedThrough = not_allowed_through c p
applies c p G PermissionTooWeak = permission_too_weak c p
applies c p G Hidden = is_hidden c p
applies c p G BadGive = bad_give c p
applies c p G ParShared = par_shared c p
applies c p G ParPermission = par_permission c p

-- the kinds, the lowest first
abbrev pub kinds : List TypeKind
kinds = UnknownName ∷ WrongKind ∷ Gone ∷ NeedsConsume ∷ NotAllowedThrough ∷ PermissionTooWeak ∷ Hidden ∷ BadGive ∷ ParShared ∷ ParPermission ∷ []

-- the lowest kind that applies
abbrev pub refusal : Context → Part → Vars → Option TypeKind
refusal c p G = find (applies c p G) kinds

-- no kind applies
abbrev pub IsAllowed : Context → Part → Vars → Type 0
IsAllowed c p G = refusal c p G ≡ None
