-- The parent of two ended sides that control stacks mean, and what their join makes of it.
use Rattle.std.proofs.Common.{◌≡◌, ◌≢◌, ℕ, ◌+◌, ◌<◌, ◌≤◌, ◌^◌, List, [], ◌∷◌, ◌++◌, length, Option, Some, None, ◌⊎◌, inl, inr, refl, sym, ap, ◌∙◌, subst, arith}
use Rattle.std.specs.Prelude.{reverse, slice_get}
use Rattle.std.proofs.lemmas.List.{reverse-append}
use Rattle.perm_tree.specs.declared.bodies.Bodies.{Bodies}
use Rattle.perm_tree.specs.Code.{Routine, UnitCode}
use Rattle.perm_tree.specs.CodeOf.{code_of}
use Rattle.perm_tree.specs.Links.{Spot}
use Rattle.perm_tree.specs.Resolves.{IsResolved}
use Rattle.perm_tree.specs.UnitTables.{Tables}
use Rattle.perm_tree.proofs.RoutineLaws.{IsResolved-vars}
use Rattle.perm_meaning.specs.Custody.{Copies}
use Rattle.perm_meaning.specs.Machine as machines
use Rattle.perm_meaning.specs.Machine.{Leaf, join_of, over, resumed, stage}
use Rattle.perm_meaning.specs.WordHeap.{Branch, worded}
use Rattle.perm_core.specs.Claims.{IsChecked}
use Rattle.perm_step.specs.declared.control.Ending.{Ending}
use Rattle.perm_step.specs.declared.control.Ending.TheVariants as endings
use Rattle.perm_step.specs.declared.control.Leaf as leaves
use Rattle.perm_step.specs.declared.pars.Final.{Final}
use Rattle.perm_step.specs.declared.pars.Final.TheVariants as finals
use Rattle.perm_step.specs.Events.{HasVariables, IsSound, JoinMakes}
use Rattle.perm_step.specs.ParMoves.{final_of, EndsAs, IsWaiting, Joins}
use Rattle.perm_step.specs.Runs.{HasFewVariables, IsParent}
use Rattle.perm_step.specs.Standing.{blocks_of, leaf_branch, parent_branch}
use Rattle.perm_step.specs.StemMoves.{AreSides, Rejoins}
use Rattle.perm_step.specs.Stems.{parent_of, parents_of, stem_of, AreParents, Means, Parent, Stack, Stem}
use Rattle.perm_step.specs.Working.{Working, locals}
use Rattle.perm_step.proofs.ControlStacks.Finals.{end-is, turns-are}
use Rattle.perm_step.proofs.ControlStacks.StemSteps.{leaf-is}
use Rattle.perm_step.proofs.StepEvents.{step-claims}
use Rattle.perm_step.proofs.StepClaims.{StepClaims}
use Rattle.perm_step.proofs.TwoSides.JoinVariables.{ended-variables}
use Rattle.perm_step.proofs.WholeRuns.Weights.{joined-at}

-- ---------- variables ----------
-- places that stand in one method have equally many variables, whatever their spots
equally-many : (u : UnitCode) (spot other : ℕ → Spot) (p q m n : ℕ) → HasVariables u spot p m → HasVariables u other q n → (spot p).routine ≡ (other q).routine → m ≡ n
equally-many u spot other p q m n at_p at_q same =
    let both : Some at_p.routine ≡ Some at_q.routine = sym at_p.there ∙ ap (λ k. slice_get u.routines k) same ∙ at_q.there in
    let routine : at_p.routine ≡ at_q.routine = cc in
    at_p.many ∙ ap (λ (r : Routine). length r.vars) routine ∙ sym at_q.many

-- a branch that went well has no other ending
fine-open : (b : Bodies) (c : Working) (e : Option Ending) → EndsAs b c e (Some finals.Fine) → e ≡ None
fine-open b c None h = refl
fine-open b c (Some (endings.Returned w)) h = absurd (let no : ⊥ = cc h in no)
fine-open b c (Some (endings.Failed x)) h = absurd (let no : ⊥ = cc h in no)

-- the method of a leaf is that of its branch
leaf-method : (spot : ℕ → Spot) (l : leaves.Leaf) → l.ending ≡ None → (leaf_branch spot l).own.routine ≡ (spot l.control.at).routine
leaf-method spot l runs = ap (λ (e : Option Ending). (leaf_branch spot (record l { ending = e })).own.routine) runs

-- no method of a resolved unit has too many variables
pub few-variables : {t s : Tables} → s ≡ t → IsResolved s → HasFewVariables (code_of t)
few-variables {t = t} {s = s} same is = subst (λ (t : Tables). HasFewVariables (code_of t)) same (let slim : HasFewVariables (code_of s) = λ m r here. (IsResolved-vars s m r is here).2 in slim)

-- ---------- parents ----------
module _ (u : UnitCode) (k : Stack) (s : Stem) (m : Means u k s) where
  -- parents wait for it where they wait for the stem
  pub some-parent : (p : Parent) (outer : List Parent) → s.parents ≡ p ∷ outer → k.parents ≢ []
  some-parent p outer waits none =
      let clash : [] ≡ p ∷ outer = sym (ap (λ (x : Stem). x.parents) m.stem ∙ ap (λ ps. parents_of m.bodies.spot (reverse ps)) none) ∙ waits in
      let no : ⊥ = cc clash in no

-- ---------- two sides ----------
module _ (u : UnitCode) (k right : Stack) (s t : Stem) (a : AreSides u k right s t) (front : List Working) (p : Working) (popped : k.parents ≡ front ++ p ∷ []) (slim : HasFewVariables u) where
  abbrev b : Bodies
  b = k.bodies

  abbrev spot : ℕ → Spot
  spot = a.on_left.bodies.spot

  order : reverse k.parents ≡ p ∷ reverse front
  order = ap (λ (l : List Working). reverse l) popped ∙ reverse-append front (p ∷ [])

  kept : AreParents u spot b a.on_left.bottom (p ∷ reverse front)
  kept = subst (AreParents u spot b a.on_left.bottom) order a.on_left.parents

  -- the parent that waits
  pub waits-so : IsWaiting b p
  waits-so = kept.1.waits

  stands-so : parent_of spot p ∷ parents_of spot (reverse front) ≡ a.parent ∷ a.outer
  stands-so = sym (ap (λ (x : Stem). x.parents) a.on_left.stem ∙ ap (λ ps. parents_of spot ps) order) ∙ a.waits

  parent-is : parent_of spot p ≡ a.parent
  parent-is = let e = stands-so in cc e

  outer-are : parents_of spot (reverse front) ≡ a.outer
  outer-are = let e = stands-so in cc e

  -- its turns are few
  pub turns-fit : k.leaf.control.turns + right.leaf.control.turns < 2 ^ 64
  turns-fit = omega (arith, a.turns, turns-are u k s a.on_left, turns-are u right t a.on_right)

  -- so are its variables
  pub few-here : length (locals p) ≤ 256
  few-here = let v = kept.1.sound.variables in let most = slim (spot p.at).routine v.routine v.there in omega (arith, v.many, most)

  module _ (x y : Final) (left_ends : EndsAs b k.leaf.control k.leaf.ending (Some x)) (right_ends : EndsAs right.bodies right.leaf.control right.leaf.ending (Some y)) where
    -- a left side that went well has as many as the parent
    pub lefts-fit : x ≡ finals.Fine → length (locals k.leaf.control) ≡ length (locals p)
    lefts-fit fine = ended-variables u spot b a.on_left.bottom kept.0 k.leaf.control p k.leaf.ending x a.on_left.leaf.sound kept.1.sound kept.1.same left_ends fine

    -- so has a right one
    pub rights-fit : y ≡ finals.Fine → length (locals right.leaf.control) ≡ length (locals p)
    rights-fit fine =
        let other = a.on_right.bodies.spot in
        let d = right.leaf.control in
        let runs : right.leaf.ending ≡ None = fine-open right.bodies d right.leaf.ending (subst (λ (y : Final). EndsAs right.bodies d right.leaf.ending (Some y)) fine right_ends) in
        let ended : a.right_end ≡ machines.Fine (locals d) d.turns d.printed = sym (end-is u right t a.on_right a.right_end y a.right_over right_ends) ∙ ap (final_of d) fine in
        let at_right : t.leaf.own.routine ≡ (other d.at).routine = ap (λ (z : Branch). z.own.routine) (leaf-is u right t a.on_right) ∙ leaf-method other right.leaf runs in
        let at_parent : a.parent.branch.own.routine ≡ (spot p.at).routine = ap (λ (z : Parent). z.branch.own.routine) (sym parent-is) in
        equally-many u other spot d.at p.at (length (locals d)) (length (locals p)) (a.on_right.leaf.sound runs).variables kept.1.sound.variables (sym at_right ∙ a.method (locals d) d.turns d.printed ended ∙ at_parent)

    -- the stack of the parent that goes on, or has ended
    module _ (checked : IsChecked u) (joined : Working) (ending : Option Ending) (joins : Joins b k.leaf.control x right.leaf.control y p joined ending) where
      abbrev made_leaf : leaves.Leaf
      made_leaf = record { control = joined; ending = ending }

      abbrev claims : StepClaims u b a.on_left.bodies
      claims = step-claims u b a.on_left.bodies checked

      made : JoinMakes u spot p k.leaf.control x right.leaf.control y (Leaf (leaf_branch spot made_leaf)) × (ending ≡ None → IsSound u spot b kept.0 joined)
      made = claims.joins kept.0 p k.leaf.control right.leaf.control joined x y ending kept.1.waits kept.1.sound lefts-fit rights-fit few-here (joins kept.1.waits)

      stands : (ending ≡ None) ⊎ (joined.at ≡ p.at) → joined.at < length b.steps
      stands (inl none) = (made.1 none).here
      stands (inr at) = subst (λ n. n < length b.steps) (sym at) kept.1.sound.here

      pub rejoins : Rejoins u (record k { leaf = made_leaf; parents = front }) s a.parent a.outer a.left_end a.right_end
      rejoins = record {
        after = leaf_branch spot made_leaf;
        makes =
            subst (λ (q : Parent). resumed (worded Copies u) q.branch (join_of (worded Copies u) q.branch q.blocks a.left_end a.right_end) ≡ Leaf (leaf_branch spot made_leaf)) parent-is
            (subst (λ (f : machines.Final ℕ). resumed (worded Copies u) (parent_branch spot p) (join_of (worded Copies u) (parent_branch spot p) (blocks_of (spot p.at).code) f a.right_end) ≡ Leaf (leaf_branch spot made_leaf)) (end-is u k s a.on_left a.left_end x a.left_over left_ends)
            (subst (λ (f : machines.Final ℕ). resumed (worded Copies u) (parent_branch spot p) (join_of (worded Copies u) (parent_branch spot p) (blocks_of (spot p.at).code) (final_of k.leaf.control x) f) ≡ Leaf (leaf_branch spot made_leaf)) (end-is u right t a.on_right a.right_end y a.right_over right_ends) made.0));
        means = record {
          bodies = a.on_left.bodies;
          bottom = kept.0;
          leaf = record { here = stands (joined-at kept.1.waits.step.next kept.1.waits.sides k.leaf.control right.leaf.control p joined x y ending (joins kept.1.waits)); sound = made.1 };
          parents = kept.2;
          stem = λ i. record { leaf = leaf_branch spot made_leaf; parents = sym outer-are i; foot = (ap (λ (x : Stem). x.foot) a.on_left.stem) i };
        };
      }

-- ---------- a join that got no room ----------
-- the parent with other room
room-parents : (spot : ℕ → Spot) (u : UnitCode) (b : Bodies) (bottom : ℕ) (p q : Working) (ps : List Working) → q ≡ record p { room = q.room } → AreParents u spot b bottom (p ∷ ps) → AreParents u spot b bottom (q ∷ ps)
room-parents spot u b bottom p q ps same (outer, x, rest) = (
  outer,
  subst (λ (q : Working). IsParent u spot b bottom outer q) (sym same) (let z = x.waits in let y = x.sound in record {
    waits = record { step = z.step; there = z.there; first = z.first; second = z.second; place = z.place; par = z.par; sides = z.sides; written = z.written };
    same = x.same;
    sound = record { here = y.here; calls = y.calls; variables = y.variables; callers = y.callers; below = y.below; deep = y.deep };
  }),
  rest,
)

-- means what it meant
pub kept-means : (u : UnitCode) (k : Stack) (s : Stem) (front : List Working) (p q : Working) → k.parents ≡ front ++ p ∷ [] → q ≡ record p { room = q.room } → Means u k s → Means u (record k { parents = front ++ q ∷ [] }) s
kept-means u k s front p q popped same m =
    let spot = m.bodies.spot in
    let order : reverse k.parents ≡ p ∷ reverse front = ap (λ (l : List Working). reverse l) popped ∙ reverse-append front (p ∷ []) in
    let back : reverse (front ++ q ∷ []) ≡ q ∷ reverse front = reverse-append front (q ∷ []) in
    let stays : parents_of spot (reverse k.parents) ≡ parents_of spot (reverse (front ++ q ∷ [])) =
    ap (parents_of spot) order ∙ ap (λ (z : Working). parent_of spot z ∷ parents_of spot (reverse front)) (sym same) ∙ ap (parents_of spot) (sym back) in
    record {
      bodies = m.bodies;
      bottom = m.bottom;
      leaf = m.leaf;
      parents = subst (AreParents u spot k.bodies m.bottom) (sym back) (room-parents spot u k.bodies m.bottom p q (reverse front) same (subst (AreParents u spot k.bodies m.bottom) order m.parents));
      stem = m.stem ∙ (λ i. record { leaf = leaf_branch spot k.leaf; parents = stays i; foot = (stem_of spot k).foot });
    }
