-- What is next of the stem that a control stack means.
use Rattle.std.proofs.Common.{◌≡◌, ℕ, zero, suc, ◌<◌, List, [], ◌∷◌, Bool, true, false, Option, Some, None, refl, sym, ap, ◌∙◌, subst, arith}
use Rattle.std.specs.Prelude.{◌-◌, ◌/◌, reverse, slice_get}
use Rattle.std.proofs.lemmas.List.{reverse-reverse}
use Rattle.perm_tree.specs.declared.bodies.Bodies.{Bodies}
use Rattle.perm_tree.specs.declared.bodies.Step.{Step}
use Rattle.perm_tree.specs.declared.errors.TrapKind.{TrapKind}
use Rattle.perm_tree.specs.Code.{Code, End, Give, Return, Do, If, While, Par, Recover, UnitCode}
use Rattle.perm_tree.specs.Links.{Spot}
use Rattle.perm_core.specs.Claims.{IsChecked}
use Rattle.perm_core.specs.Pieces.{AtRoot}
use Rattle.perm_meaning.specs.Effects.{Tick, Load, Store, Take, Make}
use Rattle.perm_meaning.specs.Machine.{Close, Returning, Failing, Frame, Leaf, Fork, over, stage, stage_by_code, stage_from}
use Rattle.perm_meaning.specs.WordHeap.{Ask, Branch, Own}
use Rattle.perm_step.specs.declared.ask.Ask as interpreter
use Rattle.perm_step.specs.declared.ask.Ask.TheVariants as asks
use Rattle.perm_step.specs.declared.control.Ending.{Ending}
use Rattle.perm_step.specs.declared.control.Failure.TheVariants as failures
use Rattle.perm_step.specs.declared.control.Leaf as leaves
use Rattle.perm_step.specs.declared.ctl.Op.TheVariants as ops
use Rattle.perm_step.specs.declared.pars.Final.{Final}
use Rattle.perm_step.specs.Events.{IsLively, NextAsks, NextMakes}
use Rattle.perm_step.specs.HeapAsks.{Asks, IsAskFor, TrapsFirst}
use Rattle.perm_step.specs.ParMoves.{final_of, EndsAs, Parts}
use Rattle.perm_step.specs.Standing.{blocks_of, branch_of, ended_as, leaf_branch, parent_branch}
use Rattle.perm_step.specs.Stems.{foot_of, op_for, parents_of, HasStep, IsNext, IsOver, IsRoot, IsRootStack, IsUnstuck, Means, Stack, StartsPar, Stem}
use Rattle.perm_step.specs.Working.{Working, locals}
use Rattle.perm_step.proofs.WholeRuns.Comings.{asks-par}
use Rattle.perm_step.proofs.ControlStacks.ParCodes.{step-leaf, StartsNone}
use Rattle.perm_step.proofs.StepClaims.{failed, IsDue, StepClaims}
use Rattle.perm_step.proofs.StepEvents.{step-claims}
use Rattle.perm_step.proofs.TwoSides.ParClaims.{ends-next}

-- ---------- branches with a step ----------
-- a branch of which a step is due has no end, and a turn left
due-open : (e : Option (Close ℕ)) (code : Code) (st : List (Frame ℕ)) (t : ℕ) (l : Own) → over (stage_from e (stage_by_code code st t l) t l) ≡ None → (e ≡ None) × (0 < t)
due-open None End [] t l h = absurd (let none : ⊥ = cc h in none)
due-open None End (f ∷ st) zero l h = absurd (let none : ⊥ = cc h in none)
due-open None (Give at w x) st zero l h = absurd (let none : ⊥ = cc h in none)
due-open None (Return at a) st zero l h = absurd (let none : ⊥ = cc h in none)
due-open None (Do at i rest) st zero l h = absurd (let none : ⊥ = cc h in none)
due-open None (If at e own1 a own2 b rest) st zero l h = absurd (let none : ⊥ = cc h in none)
due-open None (While at e own body rest) st zero l h = absurd (let none : ⊥ = cc h in none)
due-open None (Par at own1 a own2 b rest) st zero l h = absurd (let none : ⊥ = cc h in none)
due-open None (Recover at x own hides body rest) st zero l h = absurd (let none : ⊥ = cc h in none)
due-open None c st (suc t) l h = (refl, omega arith)
due-open (Some (Returning v)) c st t l h = absurd (let none : ⊥ = cc h in none)
due-open (Some (Failing e)) c st t l h = absurd (let none : ⊥ = cc h in none)

-- so the leaf has no ending
leaf-open : (spot : ℕ → Spot) (l : leaves.Leaf) → over (stage (leaf_branch spot l)) ≡ None → (l.ending ≡ None) × (0 < l.control.turns)
leaf-open spot l h = by l.ending h
  where
    by : (e : Option Ending) → over (stage (ended_as e (branch_of spot l.control))) ≡ None → (e ≡ None) × (0 < l.control.turns)
    by None h = let x = branch_of spot l.control in (refl, (due-open x.close x.code x.stack x.turns x.own h).1)
    by (Some e) h = let x = ended_as (Some e) (branch_of spot l.control) in absurd (let none : ⊥ = cc (due-open x.close x.code x.stack x.turns x.own h).0 in none)

-- where no parent waits for the stack, the stem is a root's
no-parents : (spot : ℕ → Spot) (ps : List Working) → parents_of spot ps ≡ [] → ps ≡ []
no-parents spot [] h = refl
no-parents spot (p ∷ ps) h = absurd (let none : ⊥ = cc h in none)

at-root : (right : Bool) → foot_of right ≡ AtRoot → right ≡ false
at-root true h = absurd (let none : ⊥ = cc h in none)
at-root false h = refl

module _ (u : UnitCode) (k : Stack) (s : Stem) (m : Means u k s) where
  abbrev b : Bodies
  b = k.bodies

  abbrev spot : ℕ → Spot
  spot = m.bodies.spot

  abbrev c : Working
  c = k.leaf.control

  -- its branch
  pub leaf-is : s.leaf ≡ leaf_branch spot k.leaf
  leaf-is = ap (λ (x : Stem). x.leaf) m.stem

  -- the same parts mean the same
  pub same-room : (d : Working) → d ≡ record c { room = d.room } → Means u (record k { leaf = record { control = d; ending = k.leaf.ending } }) s
  same-room d same = subst (λ (d : Working). Means u (record k { leaf = record { control = d; ending = k.leaf.ending } }) s) (sym same) (record {
    bodies = m.bodies;
    bottom = m.bottom;
    leaf = record {
      here = m.leaf.here;
      sound = λ e. let x = m.leaf.sound e in record { here = x.here; calls = x.calls; variables = x.variables; callers = x.callers; below = x.below; deep = x.deep };
    };
    parents = m.parents;
    stem = m.stem;
  })

  -- ---------- ends ----------
  -- the branch has ended as the leaf has
  pub over-as : (f : Final) → EndsAs b c k.leaf.ending (Some f) → IsOver s (final_of c f)
  over-as f ends = ap (λ (x : Branch). over (stage x)) leaf-is ∙ ends-next u b m.bodies m.bottom c k.leaf.ending (Some f) m.leaf.sound ends

  -- a step of it is due
  pub step-due : EndsAs b c k.leaf.ending None → HasStep s
  step-due ends = ap (λ (x : Branch). over (stage x)) leaf-is ∙ ends-next u b m.bodies m.bottom c k.leaf.ending None m.leaf.sound ends

  -- a root has ended
  pub root-next : (f : Final) → EndsAs b c k.leaf.ending (Some f) → IsRootStack k → IsNext u s ops.Ended
  root-next f ends root = (
    (final_of c f, over-as f ends),
    record {
      parents = ap (λ (x : Stem). x.parents) m.stem ∙ ap (λ ps. parents_of spot (reverse ps)) root.parents;
      foot = ap (λ (x : Stem). x.foot) m.stem ∙ ap foot_of root.left;
    },
  )

  root-stack : IsRoot s → IsRootStack k
  root-stack root = record {
    parents = sym (reverse-reverse k.parents) ∙ ap reverse (no-parents spot (reverse k.parents) (sym (ap (λ (x : Stem). x.parents) m.stem) ∙ root.parents));
    left = at-root k.on_right (sym (ap (λ (x : Stem). x.foot) m.stem) ∙ root.foot);
  }

  -- a side has ended
  pub side-next : (f : Final) → EndsAs b c k.leaf.ending (Some f) → (IsRootStack k → ⊥) → IsNext u s ops.BranchEnd
  side-next f ends side = ((final_of c f, over-as f ends), λ root. side (root-stack root))

  -- ---------- steps ----------
  module _ (checked : IsChecked u) (due : HasStep s) (unstuck : IsUnstuck u s) where
    abbrev claims : StepClaims u b m.bodies
    claims = step-claims u b m.bodies checked

    open-leaf : (k.leaf.ending ≡ None) × (0 < c.turns)
    open-leaf = leaf-open spot k.leaf (sym (ap (λ (x : Branch). over (stage x)) leaf-is) ∙ due)

    -- it runs
    pub runs : k.leaf.ending ≡ None
    runs = open-leaf.0

    -- and has a turn left
    pub has-turn : 0 < c.turns
    has-turn = open-leaf.1

    -- its branch is the one that runs
    pub branch-is : s.leaf ≡ branch_of spot c
    branch-is = leaf-is ∙ ap (λ (e : Option Ending). ended_as e (branch_of spot c)) runs

    -- so is what is said of that one
    pub at-leaf : (P : Branch → Type 0) → P (branch_of spot c) → P s.leaf
    at-leaf P p = subst P (sym branch-is) p

    module _ (st : Step) (there : slice_get b.steps c.at ≡ Some st) where
      pub is-due : IsDue u b m.bodies m.bottom c st
      is-due = record { sound = m.leaf.sound runs; here = there; due = has-turn; lively = subst (IsLively u) branch-is (unstuck due) }

      -- a step that traps before it asks the heap
      pub trap-next : (kind : TrapKind) → TrapsFirst b (locals c) c.depth st.action kind → IsNext u s ops.Tick
      trap-next kind traps =
          let t = claims.traps m.bottom c st kind is-due traps in
          let after : Branch = leaf_branch spot (failed u b m.bodies c (failures.Trap kind st.span)) in
          record { after = after; asks = at-leaf (λ x. NextAsks u x Tick) t.0; makes = at-leaf (λ x. NextMakes u x (Some 0) (Leaf after)) t.1 }

      -- a step that asks nothing
      nothing-next : Asks b (locals c) c.depth st.action asks.Nothing → NextAsks u s.leaf Tick → IsNext u s ops.Tick
      nothing-next asked next =
          let plain : StartsNone st.action = λ first second place is. let e = (subst (λ a. Asks b (locals c) c.depth a asks.Nothing) is asked).0 in let none : ⊥ = cc e in none in
          let leaf = step-leaf u b m.bodies c st there plain in
          record { after = leaf.0; asks = next; makes = at-leaf (λ x. NextMakes u x (Some 0) (Leaf leaf.0)) leaf.1 }

      -- a step that starts a par
      pub fork-next : Asks b (locals c) c.depth st.action asks.Fork → NextAsks u s.leaf Tick → StartsPar u s
      fork-next asked next =
          let par = asks-par b (locals c) c.depth st.action asks.Fork asked refl in
          let side : ℕ → ℕ → Working = λ at turns. record { at = at; base = 0; calls = []; vars = locals c; printed = []; depth = suc c.depth; turns = turns; room = c.room } in
          let left = side par.1 (c.turns - 1 - (c.turns - 1) / 2) in
          let right = side par.2 ((c.turns - 1) / 2) in
          let parent : Working = record c { turns = 0 } in
          let parts : Parts par.1 par.2 c parent left right = record { waits = refl; on_left = record { room = c.room; is = refl }; on_right = record { room = c.room; is = refl } } in
          let f = claims.forks m.bottom c st par.1 par.2 par.3 parent left right is-due par.4 par.0 parts in
          record {
            parent = parent_branch spot parent;
            blocks = blocks_of (spot c.at).code;
            left = branch_of spot left;
            right = branch_of spot right;
            asks = next;
            makes = at-leaf (λ x. NextMakes u x (Some 0) (Fork (parent_branch spot parent) (blocks_of (spot c.at).code) (Leaf (branch_of spot left)) (Leaf (branch_of spot right)))) f.makes;
          }

      -- what a step asks is what is next
      pub ask-next : (q : interpreter.Ask) → Asks b (locals c) c.depth st.action q → IsNext u s (op_for q)
      ask-next q asked = by q asked (claims.asks m.bottom c st q is-due asked)
        where
          asks-this : (o p : Ask) → NextAsks u (branch_of spot c) o → o ≡ p → NextAsks u s.leaf p
          asks-this o p next is = at-leaf (λ x. NextAsks u x p) (subst (λ (p : Ask). NextAsks u (branch_of spot c) p) is next)

          by : (q : interpreter.Ask) → Asks b (locals c) c.depth st.action q → (o : Ask) × NextAsks u (branch_of spot c) o × IsAskFor q o → IsNext u s (op_for q)
          by asks.Nothing asked (o, next, is) = nothing-next asked (asks-this o Tick next is)
          by asks.Fork asked (o, next, is) = fork-next asked (asks-this o Tick next is)
          by (asks.Load at) asked (o, next, (base, f, is, place)) = (base, f, asks-this o (Load base f) next is, place)
          by (asks.Store at v) asked (o, next, (base, f, is, place)) = (base, f, asks-this o (Store base f v) next is, place)
          by (asks.Take at) asked (o, next, (base, f, is, place)) = (base, f, asks-this o (Take base f) next is, place)
          by (asks.Make count len) asked (o, next, (shape, is, long)) = (shape, count, asks-this o (Make tt shape count) next is, refl)
