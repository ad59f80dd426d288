-- A change of labels at one node leaves all other nodes of the tree as good as they were.
use Rattle.std.proofs.Common.{◌≡◌, ℕ, suc, true, Option, Some, None, List, [], ◌∷◌, refl}
use Rattle.std.specs.Prelude.{◌&&◌, ◌||◌}
use Rattle.std.proofs.lemmas.Bool.{and_parts}
use Rattle.perm_tree.specs.Code.{UnitCode, Shares, Raises, Lends}
use Rattle.perm_rules.specs.declared.ParMode.{ParMode}
use Rattle.perm_rules.specs.declared.ParMode.TheVariants.{Symmetric, LeftAlone, RightAlone}
use Rattle.perm_meaning.specs.Objects.{Objects}
use Rattle.perm_meaning.specs.Names.{Name}
use Rattle.perm_meaning.specs.Machine.{Frame, OpenBlock, OpenRecover, OpenCall, Close, Leaf, Fork, Way, Here, GoL, GoR}
use Rattle.perm_meaning.specs.NamedHeap.{Held, Branch, Task}
use Rattle.perm_meaning.proofs.SameName.{together}
use Rattle.perm_core.specs.Regions.{Zone, Base, Under, Region, OwnOf, OfVariable, Labels, calls, zones, top_zone, left_zone, right_zone}
use Rattle.perm_core.specs.Picture.{context_of, mode_in, variables_fit, stack_fits, has_end, branch_fits, tree_fits}
use Rattle.perm_core.proofs.KeepsPicture.Labels.Relabellings.{Good}
use Rattle.perm_core.proofs.KeepsPicture.Labels.CarriedValues.{variables-carry, stack-carry}
use Rattle.perm_core.proofs.KeepsPicture.Pars.Joins.{stack-alone}

module _ (u : UnitCode) (labels : Labels) (h : Objects Name) (ρ : Region → Region) (good : Good ρ) (P : Zone → Type 0) (fixed : (y : Zone) → P y → ρ (OwnOf y) ≡ OwnOf y) where
  abbrev after : Labels
  after n = ρ (labels n)

  -- the nodes that `at` names are left alone: their variables, and the zones that begin there
  pub record IsAside (at : Way → Way) : Type 0 where
    pub vars : (w : Way) (i x : ℕ) → ρ (OfVariable (at w) i x) ≡ OfVariable (at w) i x
    pub base : (w : Way) (i : ℕ) → P (Base (at w) i)
    pub under : (w : Way) (y : Zone) → P y → P (Under (at w) y)

  top-keeps : (w : Way) (z : Zone) (st : List (Frame Held)) → P z → ((i : ℕ) → P (Base w i)) → P (top_zone w z st)
  top-keeps w z [] start base = start
  top-keeps w z (OpenBlock o rest ∷ st) start base = top-keeps w z st start base
  top-keeps w z (OpenRecover o hides saved rest ∷ st) start base = base (suc (zones st))
  top-keeps w z (OpenCall Shares into y saved lent caller rest ∷ st) start base = top-keeps w z st start base
  top-keeps w z (OpenCall Raises into y saved lent caller rest ∷ st) start base = base (suc (zones st))
  top-keeps w z (OpenCall Lends into y saved lent caller rest ∷ st) start base = base (suc (zones st))

  left-keeps : (m : ParMode) (w : Way) (z : Zone) → P z → ((i : ℕ) → P (Base w i)) → ((y : Zone) → P y → P (Under w y)) → P (left_zone m w z)
  left-keeps Symmetric w z start base under = under z start
  left-keeps LeftAlone w z start base under = base 0
  left-keeps RightAlone w z start base under = start

  right-keeps : (m : ParMode) (w : Way) (z : Zone) → P z → ((i : ℕ) → P (Base w i)) → ((y : Zone) → P y → P (Under w y)) → P (right_zone m w z)
  right-keeps Symmetric w z start base under = under z start
  right-keeps LeftAlone w z start base under = start
  right-keeps RightAlone w z start base under = base 0

  -- a branch that stands elsewhere
  pub branch-carry : (w : Way) (z : Zone) (b : Branch) → ((i x : ℕ) → ρ (OfVariable w i x) ≡ OfVariable w i x) → P z → ((i : ℕ) → P (Base w i)) → branch_fits u labels h w z b ≡ true → branch_fits u after h w z b ≡ true
  branch-carry w z b vars start base e = go b.close e
    where
      inner : variables_fit u labels h (top_zone w z b.stack) w (calls b.stack) 0 (context_of u b.own.routine).vars b.own.vars && stack_fits u labels h w z b.own.routine b.stack ≡ true
          → variables_fit u after h (top_zone w z b.stack) w (calls b.stack) 0 (context_of u b.own.routine).vars b.own.vars && stack_fits u after h w z b.own.routine b.stack ≡ true
      inner q =
          let d = and_parts (variables_fit u labels h (top_zone w z b.stack) w (calls b.stack) 0 (context_of u b.own.routine).vars b.own.vars) (stack_fits u labels h w z b.own.routine b.stack) q in
          together (variables_fit u after h (top_zone w z b.stack) w (calls b.stack) 0 (context_of u b.own.routine).vars b.own.vars) (stack_fits u after h w z b.own.routine b.stack)
          (variables-carry u labels h ρ good w (calls b.stack) (top_zone w z b.stack) (context_of u b.own.routine).vars b.own.vars (λ x v has. vars (calls b.stack) x) (fixed (top_zone w z b.stack) (top-keeps w z b.stack start base)) d.0)
          (stack-carry u labels h ρ good w z b.own.routine b.stack (stack-alone u labels h ρ good w z b.stack vars (fixed z start) (λ i. fixed (Base w i) (base i))) d.1)

      go : (x : Option (Close Held)) → has_end u labels h x || (variables_fit u labels h (top_zone w z b.stack) w (calls b.stack) 0 (context_of u b.own.routine).vars b.own.vars && stack_fits u labels h w z b.own.routine b.stack) ≡ true
          → has_end u after h x || (variables_fit u after h (top_zone w z b.stack) w (calls b.stack) 0 (context_of u b.own.routine).vars b.own.vars && stack_fits u after h w z b.own.routine b.stack) ≡ true
      go (Some x) q = refl
      go None q = inner q

  -- a tree that stands elsewhere
  pub tree-carry : (t : Task) (at : Way → Way) (z : Zone) → IsAside at → P z → tree_fits u labels h at z t ≡ true → tree_fits u after h at z t ≡ true
  tree-carry (Leaf b) at z alone start e = branch-carry (at Here) z b (alone.vars Here) start (alone.base Here) e
  tree-carry (Fork b p l r) at z alone start e =
      let top = top_zone (at Here) z b.stack in
      let m = mode_in u b.own.routine p in
      let keeps : P top = top-keeps (at Here) z b.stack start (alone.base Here) in
      let left = tree_fits u labels h (λ w. at (GoL w)) (left_zone m (at (GoL Here)) top) l in
      let right = tree_fits u labels h (λ w. at (GoR w)) (right_zone m (at (GoR Here)) top) r in
      let left' = tree_fits u after h (λ w. at (GoL w)) (left_zone m (at (GoL Here)) top) l in
      let right' = tree_fits u after h (λ w. at (GoR w)) (right_zone m (at (GoR Here)) top) r in
      let x = and_parts (branch_fits u labels h (at Here) z b) (left && right) e in
      let y = and_parts left right x.1 in
      together (branch_fits u after h (at Here) z b) (left' && right') (branch-carry (at Here) z b (alone.vars Here) start (alone.base Here) x.0)
      (together left' right'
      (tree-carry l (λ w. at (GoL w)) (left_zone m (at (GoL Here)) top) (record { vars = λ w. alone.vars (GoL w); base = λ w. alone.base (GoL w); under = λ w. alone.under (GoL w) }) (left-keeps m (at (GoL Here)) top keeps (alone.base (GoL Here)) (alone.under (GoL Here))) y.0)
      (tree-carry r (λ w. at (GoR w)) (right_zone m (at (GoR Here)) top) (record { vars = λ w. alone.vars (GoR w); base = λ w. alone.base (GoR w); under = λ w. alone.under (GoR w) }) (right-keeps m (at (GoR Here)) top keeps (alone.base (GoR Here)) (alone.under (GoR Here))) y.1))
