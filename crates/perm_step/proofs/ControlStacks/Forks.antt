-- A control stack that stands at a par means the left side once the par is started, and another stack the right side.
use Rattle.std.proofs.Common.{◌≡◌, ℕ, ◌<◌, [], ◌∷◌, ◌++◌, true, Some, None, refl, sym, ap, ◌∙◌, subst}
use Rattle.std.specs.Prelude.{reverse, slice_get}
use Rattle.std.proofs.lemmas.List.{reverse-append}
use Rattle.perm_tree.specs.declared.bodies.Action.TheVariants as actions
use Rattle.perm_tree.specs.declared.bodies.Bodies.{Bodies}
use Rattle.perm_tree.specs.declared.bodies.Step.{Step}
use Rattle.perm_tree.specs.Code.{UnitCode}
use Rattle.perm_tree.specs.Links.{Spot}
use Rattle.perm_core.specs.Claims.{IsChecked}
use Rattle.perm_core.specs.Pieces.{OnRightSide, stem, without_number}
use Rattle.perm_meaning.specs.Custody.{Copies}
use Rattle.perm_meaning.specs.Effects.{Tick, depth_limit}
use Rattle.perm_meaning.specs.Machine.{Fork, Leaf, Stage, Over, Due, leaf_op, over, stage}
use Rattle.perm_meaning.specs.WordHeap.{Ask, Branch, Task, worded}
use Rattle.perm_step.specs.Events.{NextMakes}
use Rattle.perm_step.specs.ParMoves.{Parts}
use Rattle.perm_step.specs.Standing.{blocks_of, branch_of, parent_branch}
use Rattle.perm_step.specs.StemMoves.{Forks}
use Rattle.perm_step.specs.Stems.{parent_of, parents_of, AreParents, HasStep, IsReady, Means, Parent, Stack, StartsPar, Stem}
use Rattle.perm_step.specs.Working.{Working}
use Rattle.perm_step.proofs.ControlStacks.ParCodes.{par-here}
use Rattle.perm_step.proofs.ControlStacks.StemSteps.{branch-is, has-turn, is-due, runs}
use Rattle.perm_step.proofs.StepClaims.{IsForked}
use Rattle.perm_step.proofs.StepEvents.{step-claims}

-- a branch whose next event asks has not ended
pub asking-due : (u : UnitCode) (x : Branch) (at : Stage ℕ) (o : Ask) → leaf_op (worded Copies u) x at ≡ Some o → over at ≡ None
asking-due u x (Over f) o h = absurd (let none : ⊥ = cc h in none)
asking-due u x (Due t) o h = refl

module _ (u : UnitCode) (k : Stack) (s : Stem) (r : IsReady u k s) (p : StartsPar u s) (checked : IsChecked u) where
  abbrev b : Bodies
  b = k.bodies

  abbrev m : Means u k s
  m = r.means

  abbrev spot : ℕ → Spot
  spot = m.bodies.spot

  abbrev c : Working
  c = k.leaf.control

  -- a step is due
  due : HasStep s
  due = asking-due u s.leaf (stage s.leaf) Tick p.asks

  -- so a turn is left
  pub fork-turn : 0 < c.turns
  fork-turn = has-turn u k s m checked due r.unstuck

  -- and the branch runs
  pub fork-runs : k.leaf.ending ≡ None
  fork-runs = runs u k s m checked due r.unstuck

  -- what its event makes of it
  forked : NextMakes u (branch_of spot c) (Some 0) (Fork p.parent p.blocks (Leaf p.left) (Leaf p.right))
  forked = subst (λ (x : Branch). NextMakes u x (Some 0) (Fork p.parent p.blocks (Leaf p.left) (Leaf p.right))) (branch-is u k s m checked due r.unstuck) p.makes

  module _ (st : Step) (there : slice_get b.steps c.at ≡ Some st) where
    -- its step is a par, and not too deep
    pub fork-par : (first : ℕ) × (second : ℕ) × (place : ℕ) × (st.action ≡ actions.Par first second place) × (c.depth < depth_limit)
    fork-par = par-here u b m.bodies c st there p.parent p.blocks (Leaf p.left) (Leaf p.right) forked

    module _ (first second place : ℕ) (is : st.action ≡ actions.Par first second place) (parent left right : Working) (parts : Parts first second c parent left right) where
      -- the parts are those of the event
      made : IsForked u b m.bodies m.bottom c parent left right
      made = (step-claims u b m.bodies checked).forks m.bottom c st first second place parent left right (is-due u k s m checked due r.unstuck st there) is fork-par.4 parts

      same : ◌≡◌ {A = Task} (Fork p.parent p.blocks (Leaf p.left) (Leaf p.right)) (Fork (parent_branch spot parent) (blocks_of (spot c.at).code) (Leaf (branch_of spot left)) (Leaf (branch_of spot right)))
      same = sym forked ∙ made.makes

      left-is : p.left ≡ branch_of spot left
      left-is = cc same

      right-is : p.right ≡ branch_of spot right
      right-is = cc same

      -- the parent waits at the par
      place-is : parent.at ≡ c.at
      place-is = ap (λ (d : Working). d.at) parts.waits

      parent-is : ◌≡◌ {A = Parent} (without_number p.parent p.blocks) (parent_of spot parent)
      parent-is =
          let branch : p.parent ≡ parent_branch spot parent = cc same in
          let blocks : p.blocks ≡ blocks_of (spot parent.at).code = (let e : p.blocks ≡ blocks_of (spot c.at).code = cc same in e) ∙ ap (λ at. blocks_of (spot at).code) (sym place-is) in
          λ j. without_number (branch j) (blocks j)

      -- the parents, the innermost first
      outwards : reverse (k.parents ++ parent ∷ []) ≡ parent ∷ reverse k.parents
      outwards = reverse-append k.parents (parent ∷ [])

      -- the stack that goes on
      abbrev on-left : Stack
      on-left = record { bodies = b; leaf = record { control = left; ending = None }; parents = k.parents ++ parent ∷ []; on_right = k.on_right }

      -- the stack of the right side
      abbrev on-right : Stack
      on-right = record { bodies = b; leaf = record { control = right; ending = None }; parents = []; on_right = true }

      left-means : Means u on-left (record s { leaf = p.left; parents = without_number p.parent p.blocks ∷ s.parents })
      left-means = record {
        bodies = m.bodies;
        bottom = (spot c.at).routine;
        leaf = record { here = made.left_sound.here; sound = λ e. made.left_sound };
        parents = subst (AreParents u spot b (spot c.at).routine) (sym outwards)
            (m.bottom, record { waits = made.waits; same = ap (λ at. (spot at).routine) (sym place-is); sound = made.parent_sound }, m.parents);
        stem =
            let outer : s.parents ≡ parents_of spot (reverse k.parents) = ap (λ (x : Stem). x.parents) m.stem in
            let all : (without_number p.parent p.blocks ∷ s.parents) ≡ parents_of spot (reverse (k.parents ++ parent ∷ [])) = (λ j. parent-is j ∷ outer j) ∙ ap (parents_of spot) (sym outwards) in
            let foot = ap (λ (x : Stem). x.foot) m.stem in
            λ j. stem (left-is j) (all j) (foot j);
      }

      right-means : Means u on-right (stem p.right [] (OnRightSide None))
      right-means = record {
        bodies = m.bodies;
        bottom = (spot c.at).routine;
        leaf = record { here = made.right_sound.here; sound = λ e. made.right_sound };
        parents = tt;
        stem = λ j. stem (right-is j) [] (OnRightSide None);
      }

      -- so the stacks mean the two sides
      pub forks-so : (new other : Stack) → new ≡ on-left → other ≡ on-right → Forks u s p new other
      forks-so new other is_left is_right = record {
        on_left = subst (λ (k : Stack). Means u k (record s { leaf = p.left; parents = without_number p.parent p.blocks ∷ s.parents })) (sym is_left) left-means;
        on_right = subst (λ (k : Stack). Means u k (stem p.right [] (OnRightSide None))) (sym is_right) right-means;
      }
