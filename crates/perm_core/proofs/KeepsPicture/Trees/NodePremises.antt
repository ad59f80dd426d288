-- What holds at each node of a tree with a picture: where the node stands, and all that the picture says of what stands there.
use Rattle.std.proofs.Common.{◌≡◌, ℕ, suc, Bool, true, false, None, List, [], refl, sym, ap, ◌∙◌, arith, le_refl, inl, inr}
use Rattle.std.specs.Prelude.{◌&&◌, ◌||◌, nat_eq}
use Rattle.std.proofs.lemmas.Bool.Decides.{nat_tests}
use Rattle.std.proofs.Math.Bool.{and-false}
use Rattle.std.proofs.lemmas.Bool.{and_parts}
use Rattle.perm_tree.specs.Code.{UnitCode}
use Rattle.perm_tree.specs.Vars.{Vars}
use Rattle.perm_rules.specs.declared.ParMode.{ParMode}
use Rattle.perm_rules.specs.declared.ParMode.TheVariants.{Symmetric, LeftAlone, RightAlone}
use Rattle.perm_meaning.specs.Names.{Name, Side, OnLeft, OnRight, next_name}
use Rattle.perm_meaning.specs.Machine.{Blocks, Leaf, Fork, Way, Here, GoL, GoR, Due, stage}
use Rattle.perm_meaning.specs.NamedHeap.{Heap, Branch, Task, State}
use Rattle.perm_core.specs.Endings.{Ending, ByReturn, ByNothing, is_settled, stack_ends, branch_ends}
use Rattle.perm_core.specs.Regions.{Zone, Base, Under, Labels, same_way, calls, top_zone, left_zone, right_zone}
use Rattle.perm_core.specs.Picture.{context_of, mode_in, variables_fit, stack_fits, has_end, object_fits, valued, hidden_above, RestGoes, TreeGoes, stack_right, none_valued, stack_hidden, MayBeGiven, next, PathsFit, IsPicture}
use Rattle.perm_core.specs.NextPicture.{is_rooted}
use Rattle.perm_core.proofs.Commute.Conflicts.{unfailed}
use Rattle.perm_core.proofs.Commute.LeadsTo.{way-true}
use Rattle.perm_core.proofs.Commute.ZonesApart.{IsInjective, IsOutside, IsAbove, side_at, side_zone, side-injective, sides-differ, above-differs, above-top, above-side}
use Rattle.perm_core.proofs.KeepsPicture.Calls.CallEnds.{StartsLow}
use Rattle.perm_core.proofs.KeepsPicture.Pars.Joins.{Avoids}
use Rattle.perm_core.proofs.KeepsPicture.Order.LiveTrees.{Premises, left-premises, right-premises}

-- ---------- where a node stands ----------
pub differ-way : (v w : Way) → (v ≡ w → ⊥) → same_way v w ≡ false
differ-way v w differ = go (same_way v w) refl
  where
    go : (t : Bool) → same_way v w ≡ t → t ≡ false
    go true q = absurd (differ (way-true v w q))
    go false q = refl

pub under-outside : (at : Way → Way) (v : Way) (z : Zone) → IsOutside at (Under v z) → IsOutside at z
under-outside at v z out = record { own = λ w q. out.read z (inl refl) w q; read = λ y r w q. out.read y (inr r) w q }

-- a zone outside of some nodes avoids each, and none of its zones begins there
pub outside-avoids : (at : Way → Way) (z : Zone) → IsOutside at z → (w : Way) → Avoids (at w) z
outside-avoids at (Base v k) out w = differ-way v (at w) (out.own w)
outside-avoids at (Under v z) out w = (differ-way v (at w) (out.own w), outside-avoids at z (under-outside at v z out) w)

pub outside-rooted : (at : Way → Way) (z : Zone) → IsOutside at z → (w : Way) (k : ℕ) → is_rooted (at w) k z ≡ false
outside-rooted at (Base v j) out w k = ap (λ t. t && nat_eq j k) (differ-way v (at w) (out.own w))
outside-rooted at (Under v z) out w k = outside-rooted at z (under-outside at v z out) w k

first-apart : (i : ℕ) → nat_eq 0 (suc i) ≡ false
first-apart i = grind (arith, nat_tests)

base-low : (w : Way) → StartsLow w (Base w 0)
base-low w i = ap (λ t. same_way w w && t) (first-apart i) ∙ and-false (same_way w w)

-- a side begins in a zone that begins at none of its frames
pub side-low : (s : Side) (m : ParMode) (at : Way → Way) (z : Zone) → IsAbove at z → StartsLow (side_at s at Here) (side_zone s m (side_at s at Here) z)
side-low OnLeft Symmetric at z above i = outside-rooted (side_at OnLeft at) z (above OnLeft) Here (suc i)
side-low OnLeft LeftAlone at z above i = base-low (side_at OnLeft at Here) i
side-low OnLeft RightAlone at z above i = outside-rooted (side_at OnLeft at) z (above OnLeft) Here (suc i)
side-low OnRight Symmetric at z above i = outside-rooted (side_at OnRight at) z (above OnRight) Here (suc i)
side-low OnRight LeftAlone at z above i = outside-rooted (side_at OnRight at) z (above OnRight) Here (suc i)
side-low OnRight RightAlone at z above i = base-low (side_at OnRight at Here) i

-- the node and its sides are three
pub record AreThree (at : Way → Way) : Type 0 where
  pub here_left : same_way (at Here) (at (GoL Here)) ≡ false
  pub here_right : same_way (at Here) (at (GoR Here)) ≡ false
  pub left_here : same_way (at (GoL Here)) (at Here) ≡ false
  pub right_here : same_way (at (GoR Here)) (at Here) ≡ false
  pub left_right : same_way (at (GoL Here)) (at (GoR Here)) ≡ false
  pub right_left : same_way (at (GoR Here)) (at (GoL Here)) ≡ false

pub are-three : (at : Way → Way) → IsInjective at → AreThree at
are-three at i = record {
  here_left = differ-way (at Here) (at (GoL Here)) (above-differs OnLeft at i Here);
  here_right = differ-way (at Here) (at (GoR Here)) (above-differs OnRight at i Here);
  left_here = differ-way (at (GoL Here)) (at Here) (λ q. above-differs OnLeft at i Here (sym q));
  right_here = differ-way (at (GoR Here)) (at Here) (λ q. above-differs OnRight at i Here (sym q));
  left_right = differ-way (at (GoL Here)) (at (GoR Here)) (sides-differ OnLeft at i Here Here);
  right_left = differ-way (at (GoR Here)) (at (GoL Here)) (sides-differ OnRight at i Here Here);
}

-- the zone in which a waiting parent stands, and that in which it began, avoid its sides
pub record ForkAvoids (at : Way → Way) (z : Zone) (b : Branch) : Type 0 where
  pub top_left : Avoids (at (GoL Here)) (top_zone (at Here) z b.stack)
  pub top_right : Avoids (at (GoR Here)) (top_zone (at Here) z b.stack)
  pub start_left : Avoids (at (GoL Here)) z
  pub start_right : Avoids (at (GoR Here)) z

module _ (u : UnitCode) (labels : Labels) (heap : Heap) where
  -- ---------- what holds at a node ----------
  -- all that holds of a tree at a node: where it stands, what a picture says of it, and that the objects fit
  pub record NodeFits (k : Ending) (below : List ℕ) (at : Way → Way) (z : Zone) (t : Task) (H : Vars) : Type 0 where
    pub nodes : IsInjective at
    pub above : IsAbove at z
    pub low : StartsLow (at Here) z
    pub is : Premises u labels heap.objects k below at z t
    pub goes : TreeGoes u below t H
    pub paths : PathsFit t
    pub new : (n : Name) → MayBeGiven t n → heap.objects n ≡ None
    pub objects : (n : Name) → object_fits u labels heap.objects n (heap.objects n) ≡ true

  -- it holds of the sides of a parent
  pub left-node : (k : Ending) (below : List ℕ) (at : Way → Way) (z : Zone) (b : Branch) (p : Blocks) (l r : Task) (H : Vars) → NodeFits k below at z (Fork b p l r) H
      → (A : Vars) × NodeFits ByNothing (hidden_above below b.stack) (λ w. at (GoL w)) (left_zone (mode_in u b.own.routine p) (at (GoL Here)) (top_zone (at Here) z b.stack)) l A
  left-node k below at z b p l r H node = (
    node.goes.0,
    record {
      nodes = side-injective OnLeft at node.nodes;
      above = above-side OnLeft (mode_in u b.own.routine p) at (top_zone (at Here) z b.stack) node.nodes (above-top at z b.stack node.nodes node.above);
      low = side-low OnLeft (mode_in u b.own.routine p) at (top_zone (at Here) z b.stack) (above-top at z b.stack node.nodes node.above);
      is = left-premises u labels heap.objects k below at z b p l r node.is;
      goes = node.goes.2;
      paths = node.paths.4;
      new = λ n may. node.new n (inr (inl may));
      objects = node.objects;
    },
  )

  pub right-node : (k : Ending) (below : List ℕ) (at : Way → Way) (z : Zone) (b : Branch) (p : Blocks) (l r : Task) (H : Vars) → NodeFits k below at z (Fork b p l r) H
      → (A : Vars) × NodeFits ByNothing (hidden_above below b.stack) (λ w. at (GoR w)) (right_zone (mode_in u b.own.routine p) (at (GoR Here)) (top_zone (at Here) z b.stack)) r A
  right-node k below at z b p l r H node = (
    node.goes.1,
    record {
      nodes = side-injective OnRight at node.nodes;
      above = above-side OnRight (mode_in u b.own.routine p) at (top_zone (at Here) z b.stack) node.nodes (above-top at z b.stack node.nodes node.above);
      low = side-low OnRight (mode_in u b.own.routine p) at (top_zone (at Here) z b.stack) (above-top at z b.stack node.nodes node.above);
      is = right-premises u labels heap.objects k below at z b p l r node.is;
      goes = node.goes.3;
      paths = node.paths.5;
      new = λ n may. node.new n (inr (inr may));
      objects = node.objects;
    },
  )

  -- ---------- leaves ----------
  -- what holds of a leaf that takes a turn
  pub record LeafFits (k : Ending) (below : List ℕ) (at : Way → Way) (z : Zone) (b : Branch) (H : Vars) : Type 0 where
    pub low : StartsLow (at Here) z
    pub three : AreThree at
    pub vars : variables_fit u labels heap.objects (top_zone (at Here) z b.stack) (at Here) (calls b.stack) 0 (context_of u b.own.routine).vars b.own.vars ≡ true
    pub stack : stack_fits u labels heap.objects (at Here) z b.own.routine b.stack ≡ true
    pub goes : RestGoes u below b.own.routine b.code b.stack (valued b.own.vars) H
    pub ends : stack_ends k b.code b.stack ≡ true
    pub right : stack_right u b.own.routine b.code b.stack (valued b.own.vars) ≡ true
    pub shown : none_valued (hidden_above below b.stack) b.own.vars ≡ true
    pub hid : stack_hidden below b.code b.stack ≡ true
    pub new : heap.objects (next_name b.own.mark) ≡ None
    pub objects : (n : Name) → object_fits u labels heap.objects n (heap.objects n) ≡ true

  pub leaf-fits : (k : Ending) (below : List ℕ) (at : Way → Way) (z : Zone) (b : Branch) (H : Vars) (t : ℕ) → NodeFits k below at z (Leaf b) H → b.close ≡ None → stage b ≡ Due t → LeafFits k below at z b H
  leaf-fits k below at z b H t node open_ due =
      let held : Bool = variables_fit u labels heap.objects (top_zone (at Here) z b.stack) (at Here) (calls b.stack) 0 (context_of u b.own.routine).vars b.own.vars in
      let stack : Bool = stack_fits u labels heap.objects (at Here) z b.own.routine b.stack in
      let f = and_parts held stack (sym (ap (λ c. has_end u labels heap.objects c || (held && stack)) open_) ∙ node.is.variables) in
      let hid = and_parts (none_valued (hidden_above below b.stack) b.own.vars) (stack_hidden below b.code b.stack) node.is.hidden in
      record {
        low = node.low;
        three = are-three at node.nodes;
        vars = f.0;
        stack = f.1;
        goes = unfailed u below b H t due node.goes;
        ends = (and_parts (is_settled b.code b.stack) (stack_ends k b.code b.stack) (sym (ap (λ c. branch_ends k c b.code b.stack) open_) ∙ node.is.ends)).1;
        right = node.is.right;
        shown = hid.0;
        hid = hid.1;
        new = node.new (next_name b.own.mark) (next b.own.mark.made (le_refl b.own.mark.made));
        objects = node.objects;
      }

  -- ---------- parents ----------
  pub fork-avoids : (k : Ending) (below : List ℕ) (at : Way → Way) (z : Zone) (b : Branch) (p : Blocks) (l r : Task) (H : Vars) → NodeFits k below at z (Fork b p l r) H → ForkAvoids at z b
  fork-avoids k below at z b p l r H node =
      let top = above-top at z b.stack node.nodes node.above in
      record {
        top_left = outside-avoids (side_at OnLeft at) (top_zone (at Here) z b.stack) (top OnLeft) Here;
        top_right = outside-avoids (side_at OnRight at) (top_zone (at Here) z b.stack) (top OnRight) Here;
        start_left = outside-avoids (side_at OnLeft at) z (node.above OnLeft) Here;
        start_right = outside-avoids (side_at OnRight at) z (node.above OnRight) Here;
      }

-- ---------- the root ----------
-- it holds of the whole tree of a state with a picture
pub root-node : (u : UnitCode) (labels : Labels) (s : State) → (picture : IsPicture u labels s) → NodeFits u labels s.heap ByReturn [] (λ w. w) (Base Here 0) s.task picture.orderly.goes.0
root-node u labels s picture = record {
  nodes = λ v w e. e;
  above = above;
  low = base-low Here;
  is = record { variables = picture.variables; stand = picture.orderly.stand; ends = picture.orderly.ends; right = picture.orderly.right; hidden = picture.orderly.hidden };
  goes = picture.orderly.goes.1;
  paths = picture.orderly.paths;
  new = picture.orderly.new;
  objects = picture.objects;
}
  where
    above : IsAbove (λ w. w) (Base Here 0)
    above OnLeft = record { own = λ w e. absurd (cc); read = λ y r. absurd r }
    above OnRight = record { own = λ w e. absurd (cc); read = λ y r. absurd r }
