-- What holds at the node of an event, of the labels and the heap after it, holds of the whole tree.
use Rattle.std.proofs.Common.{◌≡◌, ℕ, true, Option, Some, List, [], sym, ap, subst, ◌∙◌, inl, inr}
use Rattle.std.specs.Prelude.{◌⊎◌, ◌&&◌}
use Rattle.std.proofs.lemmas.Bool.{and_parts}
use Rattle.perm_tree.specs.Code.{UnitCode}
use Rattle.perm_tree.specs.Vars.{Vars}
use Rattle.perm_meaning.specs.Names.{Name, Side, OnLeft, OnRight}
use Rattle.perm_meaning.specs.Objects.{Objects}
use Rattle.perm_meaning.specs.Machine.{Blocks, Leaf, Fork, Way, Here, GoL, GoR, fill}
use Rattle.perm_meaning.specs.NamedHeap as named
use Rattle.perm_meaning.specs.NamedHeap.{Held, Heap, Op, Branch, Task, State}
use Rattle.perm_meaning.specs.Steps.{within}
use Rattle.perm_meaning.proofs.Leads.{none-some}
use Rattle.perm_meaning.proofs.SameName.{together}
use Rattle.perm_core.specs.Core.{core, look}
use Rattle.perm_core.specs.Endings.{Ending, ByReturn, ByNothing}
use Rattle.perm_core.specs.Regions.{Zone, Base, Under, Labels, top_zone, left_zone, right_zone}
use Rattle.perm_core.specs.Picture.{mode_in, branch_fits, tree_fits, object_fits, hidden_above, IsPicture}
use Rattle.perm_core.specs.NextPicture.{relabelled, change, unless_refused, next_picture}
use Rattle.perm_core.proofs.Commute.ZonesApart.{IsInjective, IsOutside, IsAbove, Reads, base, on_side, side_at, side_zone, other_side, sides-differ, above-differs, above-top, split-sides}
use Rattle.perm_core.proofs.KeepsPicture.Labels.Beside.{IsAside, branch-carry, tree-carry}
use Rattle.perm_core.proofs.KeepsPicture.Labels.LocalChanges.{IsAround}
use Rattle.perm_core.proofs.KeepsPicture.Trees.NodePremises.{NodeFits, left-node, right-node, root-node}
use Rattle.perm_core.proofs.KeepsPicture.Labels.OtherHeaps.{branch-more, tree-more}
use Rattle.perm_core.proofs.KeepsPicture.Trees.TreeEvents.{IsStep}

module _ (u : UnitCode) (labels labels' : Labels) (h h' : Objects Name) where
  -- what is left alone by an event of a side is left alone by one of the whole
  pub around-wider : (s : Side) (at : Way → Way) → IsAround (side_at s at) labels labels' h h' → IsAround at labels labels' h h'
  around-wider s at is = record {
    ρ = is.ρ;
    good = is.good;
    vars = λ v i x off. is.vars v i x (λ w. off (on_side s w));
    own = λ y out. is.own y (record { own = λ w. out.own (on_side s w); read = λ x r w. out.read x r (on_side s w) });
    kept = is.kept;
  }

  -- the parent fits after an event of a side
  pub branch-stays : (s : Side) (at : Way → Way) (z : Zone) (b : Branch) → IsInjective at → IsAbove at z → IsAround (side_at s at) labels labels' h h' → branch_fits u labels h (at Here) z b ≡ true → branch_fits u labels' h' (at Here) z b ≡ true
  branch-stays s at z b i above is e =
      branch-more u (λ n. is.ρ (labels n)) labels' h h' is.kept (at Here) z b
      (branch-carry u labels h is.ρ is.good (IsOutside (side_at s at)) is.own (at Here) z b (λ k x. is.vars (at Here) k x (above-differs s at i)) (above s)
      (λ k. record { own = above-differs s at i; read = λ y r. absurd r }) e)

  -- and so does the other side
  pub side-stays : (s : Side) (at : Way → Way) (z : Zone) (b : Branch) (p : Blocks) (t : Task) → IsInjective at → IsAbove at z → IsAround (side_at s at) labels labels' h h'
      → tree_fits u labels h (side_at (other_side s) at) (side_zone (other_side s) (mode_in u b.own.routine p) (side_at (other_side s) at Here) (top_zone (at Here) z b.stack)) t ≡ true
      → tree_fits u labels' h' (side_at (other_side s) at) (side_zone (other_side s) (mode_in u b.own.routine p) (side_at (other_side s) at Here) (top_zone (at Here) z b.stack)) t ≡ true
  side-stays s at z b p t i above is e =
      tree-more u (λ n. is.ρ (labels n)) labels' h h' is.kept there start t
      (tree-carry u labels h is.ρ is.good (IsOutside (side_at s at)) is.own t there start aside (split-sides s (mode_in u b.own.routine p) at (top_zone (at Here) z b.stack) i (above-top at z b.stack i above)).other e)
    where
      there : Way → Way
      there = side_at (other_side s) at

      start : Zone
      start = side_zone (other_side s) (mode_in u b.own.routine p) (side_at (other_side s) at Here) (top_zone (at Here) z b.stack)

      differ : (w v : Way) → there w ≡ side_at s at v → ⊥
      differ w v q = sides-differ s at i v w (sym q)

      under : (w : Way) (y : Zone) → IsOutside (side_at s at) y → IsOutside (side_at s at) (Under (there w) y)
      under w y out = record { own = differ w; read = λ x r v q. reads x r v q }
        where
          reads : (x : Zone) → (x ≡ y) ⊎ Reads y x → (v : Way) → base x ≡ side_at s at v → ⊥
          reads x (inl e) v q = out.own v (sym (ap (λ r. base r) e) ∙ q)
          reads x (inr r) v q = out.read x r v q

      aside : IsAside u labels h is.ρ is.good (IsOutside (side_at s at)) is.own there
      aside = record { vars = λ w k x. is.vars (there w) k x (differ w); base = λ w k. record { own = differ w; read = λ y r. absurd r }; under = under }

module _ (u : UnitCode) (limit : ℕ) (labels : Labels) (heap : Heap) where
  -- the labels after the event of a node
  abbrev pub next_at : (Way → Way) → Zone → Way → Task → Labels
  next_at at z w t = relabelled (unless_refused limit heap (look u w t) (change u labels at z w t)) labels

  -- the objects after its operation
  abbrev pub left_by : Op → Objects Name
  left_by o = (named.after u (within limit) o heap).objects

  -- the event of a node, which asks o and is told v, leaves a tree and objects that fit the next labels, and leaves alone what stands elsewhere
  pub record IsNext (o : Op) (v : Option Held) (at : Way → Way) (z : Zone) (w : Way) (t : Task) : Type 0 where
    pub fits : tree_fits u (next_at at z w t) (left_by o) at z (fill (core u) w t v) ≡ true
    pub objects : (n : Name) → object_fits u (next_at at z w t) (left_by o) n (left_by o n) ≡ true
    pub around : IsAround at labels (next_at at z w t) heap.objects (left_by o)

  -- so does each event, where those of leaves and parents do at their own nodes
  pub lifted : (o : Op) (v : Option Held) → ((k : Ending) (below : List ℕ) (at : Way → Way) (z : Zone) (t : Task) (H : Vars) → NodeFits u labels heap k below at z t H → look u Here t ≡ Some o → IsNext o v at z Here t)
      → (w : Way) (t : Task) (k : Ending) (below : List ℕ) (at : Way → Way) (z : Zone) (H : Vars) → NodeFits u labels heap k below at z t H → look u w t ≡ Some o → IsNext o v at z w t
  lifted o v turn Here t k below at z H node e = turn k below at z t H node e
  lifted o v turn (GoL w) (Leaf b) k below at z H node e = none-some e
  lifted o v turn (GoR w) (Leaf b) k below at z H node e = none-some e
  lifted o v turn (GoL w) (Fork b p l r) k below at z H node e =
      let start = left_zone (mode_in u b.own.routine p) (at (GoL Here)) (top_zone (at Here) z b.stack) in
      let beside = right_zone (mode_in u b.own.routine p) (at (GoR Here)) (top_zone (at Here) z b.stack) in
      let side = left-node u labels heap k below at z b p l r H node in
      let is = lifted o v turn w l ByNothing (hidden_above below b.stack) (λ w. at (GoL w)) start side.0 side.1 e in
      let new = next_at (λ w. at (GoL w)) start w l in
      let x = and_parts (branch_fits u labels heap.objects (at Here) z b) (tree_fits u labels heap.objects (λ w. at (GoL w)) start l && tree_fits u labels heap.objects (λ w. at (GoR w)) beside r) node.is.variables in
      let y = and_parts (tree_fits u labels heap.objects (λ w. at (GoL w)) start l) (tree_fits u labels heap.objects (λ w. at (GoR w)) beside r) x.1 in
      record {
        fits = together (branch_fits u new (left_by o) (at Here) z b) (tree_fits u new (left_by o) (λ w. at (GoL w)) start (fill (core u) w l v) && tree_fits u new (left_by o) (λ w. at (GoR w)) beside r)
            (branch-stays u labels new heap.objects (left_by o) OnLeft at z b node.nodes node.above is.around x.0)
            (together (tree_fits u new (left_by o) (λ w. at (GoL w)) start (fill (core u) w l v)) (tree_fits u new (left_by o) (λ w. at (GoR w)) beside r) is.fits
            (side-stays u labels new heap.objects (left_by o) OnLeft at z b p r node.nodes node.above is.around y.1));
        objects = is.objects;
        around = around-wider u labels new heap.objects (left_by o) OnLeft at is.around;
      }
  lifted o v turn (GoR w) (Fork b p l r) k below at z H node e =
      let beside = left_zone (mode_in u b.own.routine p) (at (GoL Here)) (top_zone (at Here) z b.stack) in
      let start = right_zone (mode_in u b.own.routine p) (at (GoR Here)) (top_zone (at Here) z b.stack) in
      let side = right-node u labels heap k below at z b p l r H node in
      let is = lifted o v turn w r ByNothing (hidden_above below b.stack) (λ w. at (GoR w)) start side.0 side.1 e in
      let new = next_at (λ w. at (GoR w)) start w r in
      let x = and_parts (branch_fits u labels heap.objects (at Here) z b) (tree_fits u labels heap.objects (λ w. at (GoL w)) beside l && tree_fits u labels heap.objects (λ w. at (GoR w)) start r) node.is.variables in
      let y = and_parts (tree_fits u labels heap.objects (λ w. at (GoL w)) beside l) (tree_fits u labels heap.objects (λ w. at (GoR w)) start r) x.1 in
      record {
        fits = together (branch_fits u new (left_by o) (at Here) z b) (tree_fits u new (left_by o) (λ w. at (GoL w)) beside l && tree_fits u new (left_by o) (λ w. at (GoR w)) start (fill (core u) w r v))
            (branch-stays u labels new heap.objects (left_by o) OnRight at z b node.nodes node.above is.around x.0)
            (together (tree_fits u new (left_by o) (λ w. at (GoL w)) beside l) (tree_fits u new (left_by o) (λ w. at (GoR w)) start (fill (core u) w r v))
            (side-stays u labels new heap.objects (left_by o) OnRight at z b p l node.nodes node.above is.around y.0) is.fits);
        objects = is.objects;
        around = around-wider u labels new heap.objects (left_by o) OnRight at is.around;
      }

-- ---------- states ----------
-- variables and objects of the state after an event fit the next picture, where they do at the node of each event
pub whole-next : (u : UnitCode) (limit : ℕ) (labels : Labels) (s t : State) (w : Way) → (picture : IsPicture u labels s) → (is : IsStep u limit s t w)
    → ((k : Ending) (below : List ℕ) (at : Way → Way) (z : Zone) (x : Task) (H : Vars) → NodeFits u labels s.heap k below at z x H → look u Here x ≡ Some is.op → IsNext u limit labels s.heap is.op is.told at z Here x)
    → (tree_fits u (next_picture u limit labels s w) t.heap.objects (λ w. w) (Base Here 0) t.task ≡ true) × ((n : Name) → object_fits u (next_picture u limit labels s w) t.heap.objects n (t.heap.objects n) ≡ true)
whole-next u limit labels s t w picture is turn =
    let all = lifted u limit labels s.heap is.op is.told turn w s.task ByReturn [] (λ w. w) (Base Here 0) picture.orderly.goes.0 (root-node u labels s picture) is.looks in
    let new = next_picture u limit labels s w in (
      subst (λ (h : Heap). tree_fits u new h.objects (λ w. w) (Base Here 0) t.task ≡ true) (sym is.heap) (subst (λ (x : Task). tree_fits u new (left_by u limit labels s.heap is.op) (λ w. w) (Base Here 0) x ≡ true) (sym is.task) all.fits),
      λ n. subst (λ (h : Heap). object_fits u new h.objects n (h.objects n) ≡ true) (sym is.heap) (all.objects n),
    )
