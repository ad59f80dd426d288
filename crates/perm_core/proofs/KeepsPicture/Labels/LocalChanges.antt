-- What an event may do to labels: it moves regions of its own node and of that node's sides, and leaves alone what stands elsewhere.
use Rattle.std.proofs.Common.{◌≡◌, ℕ, Bool, true, false, Option, Some, None, [], ◌∷◌, ◌++◌, refl, sym, ap, ◌∙◌}
use Rattle.std.specs.Prelude.{◌&&◌, nat_eq, cond}
use Rattle.perm_tree.specs.Code.{UnitCode}
use Rattle.perm_meaning.specs.Names.{Name, Mark, same_name, next_name}
use Rattle.perm_meaning.specs.Objects.{Objects}
use Rattle.perm_meaning.specs.Effects.{Make}
use Rattle.perm_meaning.specs.Machine.{Way}
use Rattle.perm_meaning.specs.NamedHeap as named
use Rattle.perm_meaning.specs.NamedHeap.{Heap, Op}
use Rattle.perm_meaning.proofs.SameName.{name-true}
use Rattle.perm_tree.specs.declared.ast.Shape.{Shape}
use Rattle.perm_core.specs.Regions.{Zone, Base, Under, Region, OwnOf, OfVariable, OfField, Loose, Labels, same_zone, same_region, is_absent}
use Rattle.perm_core.specs.Picture.{has_shape}
use Rattle.perm_core.specs.NextPicture.{Renaming, Moves, Ends, Joins, Renamings, Change, renamed, moved, zone_joined, label_new, relabelled, no_change}
use Rattle.perm_core.proofs.Commute.LeadsTo.{zone-true}
use Rattle.perm_core.proofs.Commute.ZonesApart.{IsOutside, base}
use Rattle.perm_core.proofs.KeepsPicture.Trees.NodePremises.{differ-way, under-outside, outside-rooted}
use Rattle.perm_core.proofs.KeepsPicture.Labels.OtherHeaps.{KeepsShapes, after-keeps}
use Rattle.perm_core.proofs.KeepsPicture.Labels.Relabellings.{Good, Sees, frozen, within, across, sees, visible, good-none, good-then, good-moves, good-ends, good-joins, of_variable, of_field, MayJoin}

-- ---------- renamings ----------
-- a renaming of regions of nodes that `at` names, or of a field
pub data IsLocal (at : Way → Way) : Renaming → Type 0 where
  of_own : (w : Way) (k x : ℕ) (to : Region) → is_absent to ≡ false → IsLocal at (Moves (OfVariable (at w) k x) to)
  of_object : (n : Name) (f : ℕ) (to : Region) → is_absent to ≡ false → IsLocal at (Moves (OfField n f) to)
  of_none : (to : Region) → is_absent to ≡ false → IsLocal at (Moves Loose to)
  ending_at : (w : Way) (k : ℕ) (to : Region) → is_absent to ≡ false → IsLocal at (Ends (at w) k to)
  joining_at : (w : Way) (y z : Zone) → base y ≡ at w → MayJoin y z → IsLocal at (Joins y z)

-- what nothing leads to may take any label
good-loose : (to : Region) → is_absent to ≡ false → Good (renamed (Moves Loose to))
good-loose to there = record { absent = refl; fixed = refl; stay = λ r e. stays r e (same_region r Loose); see = λ a b e. visible (renamed (Moves Loose to) a) (renamed (Moves Loose to) b) (go a b (sees a b e)) }
  where
    stays : (r : Region) → is_absent r ≡ false → (t : Bool) → is_absent (cond t to r) ≡ false
    stays r e true = there
    stays r e false = e

    go : (a b : Region) → Sees a b → Sees (renamed (Moves Loose to) a) (renamed (Moves Loose to) b)
    go a b (frozen e) = frozen (ap (renamed (Moves Loose to)) e)
    go a b (within e) = within (ap (renamed (Moves Loose to)) e)
    go a b (across y z e f q) = across y z (ap (renamed (Moves Loose to)) e) (ap (renamed (Moves Loose to)) f) q

pub local-good : (at : Way → Way) (m : Renaming) → IsLocal at m → Good (renamed m)
local-good at _ (of_own w k x to there) = good-moves (OfVariable (at w) k x) to (of_variable (at w) k x) there
local-good at _ (of_object n f to there) = good-moves (OfField n f) to (of_field n f) there
local-good at _ (of_none to there) = good-loose to there
local-good at _ (ending_at w k to there) = good-ends (at w) k to there
local-good at _ (joining_at w y z here may) = good-joins y z may

-- a variable of another node keeps its region
pub local-variable : (at : Way → Way) (m : Renaming) → IsLocal at m → (v : Way) (i x : ℕ) → ((w : Way) → v ≡ at w → ⊥) → renamed m (OfVariable v i x) ≡ OfVariable v i x
local-variable at _ (of_own w k y to there) v i x off = ap (λ t. cond (t && (nat_eq i k && nat_eq x y)) to (OfVariable v i x)) (differ-way v (at w) (off w))
local-variable at _ (of_object n f to there) v i x off = refl
local-variable at _ (of_none to there) v i x off = refl
local-variable at _ (ending_at w k to there) v i x off = refl
local-variable at _ (joining_at w y z here may) v i x off = refl

-- so does a zone outside of the nodes
zone-joins : (at : Way → Way) (w : Way) (y z x : Zone) → base y ≡ at w → IsOutside at x → zone_joined y z x ≡ x
zone-joins at w y z (Base v j) here out = go (same_zone (Base v j) y) refl
  where
    go : (t : Bool) → same_zone (Base v j) y ≡ t → cond t z (Base v j) ≡ Base v j
    go true q = absurd (out.own w (ap (λ r. base r) (zone-true (Base v j) y q) ∙ here))
    go false q = refl
zone-joins at w y z (Under v x) here out = go (zone-joins at w y z x here (under-outside at v x out)) (same_zone (Under v x) y) refl
  where
    go : zone_joined y z x ≡ x → (t : Bool) → same_zone (Under v x) y ≡ t → cond t z (Under v (zone_joined y z x)) ≡ Under v x
    go inner true q = absurd (out.own w (ap (λ r. base r) (zone-true (Under v x) y q) ∙ here))
    go inner false q = ap (λ r. Under v r) inner

pub local-zone : (at : Way → Way) (m : Renaming) → IsLocal at m → (y : Zone) → IsOutside at y → renamed m (OwnOf y) ≡ OwnOf y
local-zone at _ (of_own w k x to there) y out = refl
local-zone at _ (of_object n f to there) y out = refl
local-zone at _ (of_none to there) y out = refl
local-zone at _ (ending_at w k to there) y out = ap (λ t. cond t to (OwnOf y)) (outside-rooted at y out w k)
local-zone at _ (joining_at w q z here may) y out = ap (λ r. OwnOf r) (zone-joins at w q z y here out)

-- ---------- lists of renamings ----------
pub data AllLocal (at : Way → Way) : Renamings → Type 0 where
  nothing : AllLocal at []
  also : (m : Renaming) (ms : Renamings) → IsLocal at m → AllLocal at ms → AllLocal at (m ∷ ms)

pub one-local : (at : Way → Way) (m : Renaming) → IsLocal at m → AllLocal at (m ∷ [])
one-local at m is = also m [] is nothing

pub both-local : (at : Way → Way) (ms ns : Renamings) → AllLocal at ms → AllLocal at ns → AllLocal at (ms ++ ns)
both-local at _ ns nothing all = all
both-local at _ ns (also m ms is more) all = also m (ms ++ ns) is (both-local at ms ns more all)

pub all-good : (at : Way → Way) (ms : Renamings) → AllLocal at ms → Good (λ r. moved ms r)
all-good at _ nothing = good-none
all-good at _ (also m ms is more) = good-then (renamed m) (λ r. moved ms r) (local-good at m is) (all-good at ms more)

pub all-variable : (at : Way → Way) (ms : Renamings) → AllLocal at ms → (v : Way) (i x : ℕ) → ((w : Way) → v ≡ at w → ⊥) → moved ms (OfVariable v i x) ≡ OfVariable v i x
all-variable at _ nothing v i x off = refl
all-variable at _ (also m ms is more) v i x off = ap (λ r. moved ms r) (local-variable at m is v i x off) ∙ all-variable at ms more v i x off

pub all-zone : (at : Way → Way) (ms : Renamings) → AllLocal at ms → (y : Zone) → IsOutside at y → moved ms (OwnOf y) ≡ OwnOf y
all-zone at _ nothing y out = refl
all-zone at _ (also m ms is more) y out = ap (λ r. moved ms r) (local-zone at m is y out) ∙ all-zone at ms more y out

-- ---------- changes ----------
-- what is new isn't there yet
abbrev pub IsNew : Objects Name → Option (Name × Region) → Type 0
IsNew h None = Unit {0}
IsNew h (Some x) = h x.0 ≡ None

-- a change that an event of these nodes may make
pub record IsLocalChange (at : Way → Way) (h : Objects Name) (c : Change) : Type 0 where
  pub moves : AllLocal at c.moves
  pub new : IsNew h c.new

pub no-local : (at : Way → Way) (h : Objects Name) → IsLocalChange at h no_change
no-local at h = record { moves = nothing; new = tt }

-- what is left alone where the labels and the heap change so: variables and zones of other nodes, and the shapes and labels of what is there
pub record IsAround (at : Way → Way) (labels labels' : Labels) (h h' : Objects Name) : Type 0 where
  pub ρ : Region → Region
  pub good : Good ρ
  pub vars : (v : Way) (i x : ℕ) → ((w : Way) → v ≡ at w → ⊥) → ρ (OfVariable v i x) ≡ OfVariable v i x
  pub own : (y : Zone) → IsOutside at y → ρ (OwnOf y) ≡ OwnOf y
  pub kept : KeepsShapes (λ n. ρ (labels n)) labels' h h'

-- so it is of a local change, in the heap that the operation leaves
pub local-around : (u : UnitCode) (fits : ℕ → Bool) (at : Way → Way) (labels : Labels) (heap : Heap) (o : Op) (c : Change) → IsLocalChange at heap.objects c → ((by : Mark) (shape : Shape) (n : ℕ) → o ≡ Make by shape n → heap.objects (next_name by) ≡ None)
    → IsAround at labels (relabelled c labels) heap.objects (named.after u fits o heap).objects
local-around u fits at labels heap o c is makes = record {
  ρ = λ r. moved c.moves r;
  good = all-good at c.moves is.moves;
  vars = all-variable at c.moves is.moves;
  own = all-zone at c.moves is.moves;
  kept = λ n k len e. ((after-keeps u fits o (λ n. moved c.moves (labels n)) heap makes n k len e).0, stays n k len c.new is.new e);
}
  where
    stays : (n : Name) (k : Shape) (len : ℕ) (new : Option (Name × Region)) → IsNew heap.objects new → has_shape (heap.objects n) k len ≡ true → label_new new n (moved c.moves (labels n)) ≡ moved c.moves (labels n)
    stays n k len None is e = refl
    stays n k len (Some m) is e = go (same_name n m.0) refl
      where
        go : (t : Bool) → same_name n m.0 ≡ t → cond t m.1 (moved c.moves (labels n)) ≡ moved c.moves (labels n)
        go true q = absurd (let none : has_shape (heap.objects n) k len ≡ false = ap (λ (x : Name). has_shape (heap.objects x) k len) (name-true n m.0 q) ∙ ap (λ o. has_shape o k len) is in let no : true ≡ false = sym e ∙ none in let z : ⊥ = cc no in z)
        go false q = refl
