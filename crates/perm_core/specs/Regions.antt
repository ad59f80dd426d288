-- Zones and regions. A region picture gives each object a label, which is its region.
use Rattle.std.specs.Prelude.{ℕ, suc, Bool, true, false, ◌&&◌, ◌||◌, nat_eq, List, [], ◌∷◌, cond}
use Rattle.perm_tree.specs.declared.ast.Perm.{Perm}
use Rattle.perm_tree.specs.declared.ast.Perm.TheVariants.{Isolated, Immutable, Readable, Writable}
use Rattle.perm_tree.specs.Code.{Tie, Shares, Raises, Lends}
use Rattle.perm_rules.specs.declared.ParMode.{ParMode}
use Rattle.perm_rules.specs.declared.ParMode.TheVariants.{Symmetric, LeftAlone, RightAlone}
use Rattle.perm_meaning.specs.Names.{Name, same_name}
use Rattle.perm_meaning.specs.Machine.{Frame, OpenBlock, OpenRecover, OpenCall, Way, Here, GoL, GoR}
use Rattle.perm_meaning.specs.NamedHeap.{Held}

-- a zone is a stretch of one branch's stack, named by its node and by how many zones begin below it in that stack. One of a side of a symmetric par names the zone round it as well, which it may read, with all that one may read
pub data Zone : Type 0 where
  Base : (w : Way) (k : ℕ) → Zone
  Under : (w : Way) (z : Zone) → Zone

-- the label of an object: it isn't made yet; it is frozen; it is in the own region of a zone; it is in the free region whose one entry is variable x, in the frame with k open calls below it; in that whose one entry is field f of an object; or nothing leads to it
pub data Region : Type 0 where
  Absent : Region
  Frozen : Region
  OwnOf : (z : Zone) → Region
  OfVariable : (w : Way) (k x : ℕ) → Region
  OfField : (n : Name) (f : ℕ) → Region
  Loose : Region

-- the label of each object
abbrev pub Labels : Type 0
Labels = Name → Region

-- ---------- equality ----------
-- two nodes are one
abbrev pub same_way : Way → Way → Bool
same_way Here Here = true
same_way (GoL v) (GoL w) = same_way v w
same_way (GoR v) (GoR w) = same_way v w
same_way _ _ = false

-- two zones are one
abbrev pub same_zone : Zone → Zone → Bool
same_zone (Base v j) (Base w k) = same_way v w && nat_eq j k
same_zone (Under v y) (Under w z) = same_way v w && same_zone y z
same_zone _ _ = false

-- two regions are one
abbrev pub same_region : Region → Region → Bool
same_region Absent Absent = true
same_region Frozen Frozen = true
same_region (OwnOf y) (OwnOf z) = same_zone y z
same_region (OfVariable v j x) (OfVariable w k y) = same_way v w && (nat_eq j k && nat_eq x y)
same_region (OfField m f) (OfField n g) = nat_eq f g && same_name m n
same_region Loose Loose = true
same_region _ _ = false

-- the label of a frozen object
abbrev pub is_frozen : Region → Bool
is_frozen Frozen = true
is_frozen _ = false

-- the label of what isn't made
abbrev pub is_absent : Region → Bool
is_absent Absent = true
is_absent _ = false

-- ---------- where references may lead ----------
-- the one zone may read the other's own region: the zones round it, through sides of symmetric pars alone
abbrev pub may_read : Zone → Zone → Bool
may_read (Base w k) y = false
may_read (Under w z) y = same_zone y z || may_read z y

-- the region is that of a zone which may read the other one
abbrev pub reads_across : Region → Region → Bool
reads_across (OwnOf y) (OwnOf z) = may_read y z
reads_across _ _ = false

-- a readable reference from the one region may lead into the other
abbrev pub is_visible : Region → Region → Bool
is_visible from to = is_frozen to || (same_region to from || reads_across from to)

-- a variable of this permission in a zone may lead into a region; entry is the free region of which it would be the one entry
abbrev pub var_may_lead : Perm → Region → Zone → Region → Bool
var_may_lead Isolated entry z r = same_region r entry
var_may_lead Writable entry z r = same_region r (OwnOf z)
var_may_lead Readable entry z r = is_visible (OwnOf z) r
var_may_lead Immutable entry z r = is_frozen r

-- the same of a field of an object in the region home. What an isolated field of a frozen object leads to may be frozen too: it is frozen when it is read
abbrev pub field_may_lead : Perm → Region → Region → Region → Bool
field_may_lead Isolated entry home r = same_region r entry || (is_frozen home && is_frozen r)
field_may_lead Writable entry home r = same_region r home
field_may_lead Readable entry home r = is_visible home r
field_may_lead Immutable entry home r = is_frozen r

-- ---------- where frames stand ----------
-- the call begins a zone
abbrev pub begins_zone : Tie → Bool
begins_zone Shares = false
begins_zone Raises = true
begins_zone Lends = true

-- the open calls of a stack
abbrev pub calls : List (Frame Held) → ℕ
calls [] = 0
calls (OpenCall tie into y saved lent caller rest ∷ st) = suc (calls st)
calls (_ ∷ st) = calls st

-- the zones that begin in it
abbrev pub zones : List (Frame Held) → ℕ
zones [] = 0
zones (OpenBlock own rest ∷ st) = zones st
zones (OpenRecover own hides saved rest ∷ st) = suc (zones st)
zones (OpenCall tie into y saved lent caller rest ∷ st) = cond (begins_zone tie) (suc (zones st)) (zones st)

-- the zone in which the code above a stack stands, at node w, where the branch began in zone z
abbrev pub top_zone : Way → Zone → List (Frame Held) → Zone
top_zone w z [] = z
top_zone w z (OpenBlock own rest ∷ st) = top_zone w z st
top_zone w z (OpenRecover own hides saved rest ∷ st) = Base w (suc (zones st))
top_zone w z (OpenCall tie into y saved lent caller rest ∷ st) = cond (begins_zone tie) (Base w (suc (zones st))) (top_zone w z st)

-- the zones in which the sides of a par begin, by their nodes and the zone of the par
abbrev pub left_zone : ParMode → Way → Zone → Zone
left_zone Symmetric w z = Under w z
left_zone LeftAlone w z = Base w 0
left_zone RightAlone w z = z

-- the same of the right side
abbrev pub right_zone : ParMode → Way → Zone → Zone
right_zone Symmetric w z = Under w z
right_zone LeftAlone w z = z
right_zone RightAlone w z = Base w 0
