-- The step of a par: what it asks, how it traps, and the two sides that it starts.
use Rattle.std.proofs.Common.{◌≡◌, ℕ, suc, ◌/◌, ◌<◌, [], length, Some, refl, sym, ap, subst, ◌∙◌, arith, le-ltb, lt-ltb}
use Rattle.std.specs.Prelude.{◌-◌, nat_lt, slice_get}
use Rattle.perm_tree.specs.declared.bodies.Action.TheVariants as actions
use Rattle.perm_tree.specs.declared.bodies.Bodies.{Bodies}
use Rattle.perm_tree.specs.declared.bodies.Step.{Step}
use Rattle.perm_tree.specs.declared.errors.TrapKind.{TrapKind}
use Rattle.perm_tree.specs.declared.errors.TrapKind.TheVariants.{StackOverflow}
use Rattle.perm_tree.specs.Code.{Code, Par, UnitCode}
use Rattle.perm_tree.specs.Links.{AreBodiesOf, Spot, spot_of}
use Rattle.perm_meaning.specs.Effects.{Tick, depth_limit}
use Rattle.perm_meaning.specs.Custody.{Copies}
use Rattle.perm_meaning.specs.Machine.{Dies, Fork, Leaf as MachineLeaf, Splits, Trapped, next_turn}
use Rattle.perm_meaning.specs.Turns.{blocks}
use Rattle.perm_meaning.specs.WordHeap.{Ask as HeapAsk, Task, worded}
use Rattle.perm_step.specs.declared.ask.Ask.{Ask}
use Rattle.perm_step.specs.declared.control.Ending.TheVariants.{Failed}
use Rattle.perm_step.specs.declared.control.Failure.TheVariants.{Trap}
use Rattle.perm_step.specs.declared.control.Leaf.{Leaf}
use Rattle.perm_step.specs.Events.{IsSound, NextAsks, NextMakes}
use Rattle.perm_step.specs.HeapAsks.{Asks, IsAskFor, TrapsFirst}
use Rattle.perm_step.specs.LeafMoves.{spent}
use Rattle.perm_step.specs.ParMoves.{IsSide, IsWaiting, Parts}
use Rattle.perm_step.specs.Standing.{after_par, below_of, blocks_of, branch_at, branch_of, leaf_branch, parent_branch}
use Rattle.perm_step.specs.Working.{Working, locals}
use Rattle.perm_step.proofs.WordMachine.Moves.{deep_traps, parts, waiting}
use Rattle.perm_step.proofs.Tests.TestSound.{sound-moves, variables-there}
use Rattle.perm_step.proofs.Tests.TestSteps.{LinkOf, link-of}
use Rattle.perm_step.proofs.Tests.TestTurns.{IsDeaf, asks-there, at_code, below-calls, deaf-choice, fails, makes-there, own_of}

-- ---------- sides ----------
module _ (u : UnitCode) (b : Bodies) (spot : ℕ → Spot) (c : Working) where
  -- a side is the machine's branch at the begin of its block
  pub side-is : (t turns at : ℕ) (code : Code) (side : Working) → spot at ≡ spot_of (spot c.at).routine code [] → IsSide at turns c side → t ≡ turns → MachineLeaf (branch_at (spot_of (spot c.at).routine code []) [] (locals c) (suc c.depth) [] t) ≡ MachineLeaf (branch_of spot side)
  side-is t turns at code side place is same = (λ i. MachineLeaf (branch_at (sym place i) [] (locals c) (suc c.depth) [] (same i))) ∙ ap (λ (x : Working). let l : Task = MachineLeaf (branch_of spot x) in l) (sym is.is)

  -- it is sound, and stands in the method of the par
  pub side-sound : (m at turns : ℕ) (code : Code) (side : Working) → IsSound u spot b m c → c.depth < depth_limit → at < length b.steps → spot at ≡ spot_of (spot c.at).routine code [] → IsSide at turns c side → IsSound u spot b (spot c.at).routine side
  side-sound m at turns code side sound deep here place is =
      let method : (spot at).routine ≡ (spot c.at).routine = ap (λ (x : Spot). x.routine) place in
      subst (IsSound u spot b (spot c.at).routine) (sym is.is) (record {
        here = here;
        calls = λ i o some. let no : ⊥ = cc in absurd no;
        variables = variables-there u spot c.at at (length (locals c)) (length (locals c)) sound.variables method refl;
        callers = tt;
        below = method;
        deep = omega arith;
      })

module _ (u : UnitCode) (b : Bodies) (w : AreBodiesOf u b) (c : Working) (s : Step) (there : slice_get b.steps c.at ≡ Some s) (t : ℕ) (due : c.turns ≡ suc t) (first second place : ℕ) (is : s.action ≡ actions.Par first second place) where
  abbrev link : LinkOf u b w c s there (actions.Par first second place)
  link = link-of u b w c s there (actions.Par first second place) is

  abbrev par_code : Code
  par_code = Par s.span link.own1 link.left link.own2 link.right link.rest

  -- ---------- what it asks ----------
  par-asks : c.depth < depth_limit → NextAsks u (branch_of w.spot c) Tick
  par-asks deep =
      asks-there u w.spot c t par_code Tick due link.code
      (parts u (own_of u w.spot c) t (w.spot c.at).within (below_of w.spot c) (below-calls u w.spot c) s.span link.own1 link.left link.own2 link.right link.rest (lt-ltb c.depth depth_limit deep)).0

  -- a par asks the machine nothing
  pub par-asks-next : (q : Ask) → Asks b (locals c) c.depth s.action q → (o : HeapAsk) × NextAsks u (branch_of w.spot c) o × IsAskFor q o
  par-asks-next q asks =
      let mine = subst (λ a. Asks b (locals c) c.depth a q) is asks in
      (Tick, par-asks mine.1, subst (λ (q : Ask). IsAskFor q Tick) (sym mine.0) refl)

  -- its turn makes the same of each word that it is told
  par-deaf : IsDeaf (next_turn (worded Copies u) (at_code u w.spot c t par_code))
  par-deaf = deaf-choice (nat_lt c.depth depth_limit) (Splits (blocks link.own1 link.left link.own2 link.right) link.rest) (Dies (Trapped StackOverflow s.span))

  -- at the greatest depth it traps
  pub par-traps-next : (k : TrapKind) → TrapsFirst b (locals c) c.depth s.action k
      → NextAsks u (branch_of w.spot c) Tick × NextMakes u (branch_of w.spot c) (Some 0) (MachineLeaf (leaf_branch w.spot (record { control = spent c; ending = Some (Failed (Trap k s.span)) })))
  par-traps-next k traps =
      let mine = subst (λ a. TrapsFirst b (locals c) c.depth a k) is traps in
      let turn = deep_traps u (own_of u w.spot c) t (w.spot c.at).within (below_of w.spot c) (below-calls u w.spot c) s.span link.own1 link.left link.own2 link.right link.rest (le-ltb c.depth depth_limit mine.0) in
      let ended : ℕ → TrapKind → Leaf = λ n k. record { control = spent c; ending = Some (Failed (Trap k s.span)) } in
      let made = makes-there u w.spot c t par_code _ (MachineLeaf (leaf_branch w.spot (ended 0 StackOverflow))) due link.code par-deaf turn (fails u w.spot c t par_code StackOverflow s.span (ended 0 StackOverflow) due refl) 0 in
      (asks-there u w.spot c t par_code Tick due link.code turn.0, subst (λ (k : TrapKind). NextMakes u (branch_of w.spot c) (Some 0) (MachineLeaf (leaf_branch w.spot (ended 0 k)))) (sym mine.1) made)

  -- ---------- what it starts ----------
  module _ (parent left right : Working) (deep : c.depth < depth_limit) (starts : Parts first second c parent left right) where
    -- the parent waits at the par
    pub par-waits : IsWaiting b parent
    par-waits = record {
      step = s;
      there = ap (λ (x : Working). slice_get b.steps x.at) starts.waits ∙ there;
      first = first;
      second = second;
      place = place;
      par = is;
      sides = link.sides;
      written = link.there;
    }

    -- the machine's parent is the one that waits
    parent-is : waiting u (own_of u w.spot c) t (w.spot c.at).within (below_of w.spot c) (below-calls u w.spot c) link.rest ≡ parent_branch w.spot parent
    parent-is = (λ i. record (parent_branch w.spot (record c { turns = 0 })) { code = after_par (sym link.code i) }) ∙ ap (parent_branch w.spot) (sym starts.waits)

    -- the par makes a parent that waits and its two sides
    pub par-forks-next : NextAsks u (branch_of w.spot c) Tick
        × NextMakes u (branch_of w.spot c) (Some 0) (Fork (parent_branch w.spot parent) (blocks_of (w.spot c.at).code) (MachineLeaf (branch_of w.spot left)) (MachineLeaf (branch_of w.spot right)))
    par-forks-next =
        let turn = parts u (own_of u w.spot c) t (w.spot c.at).within (below_of w.spot c) (below-calls u w.spot c) s.span link.own1 link.left link.own2 link.right link.rest (lt-ltb c.depth depth_limit deep) in
        let turns : t ≡ c.turns - 1 = omega arith in
        let on_left = side-is u b w.spot c (t - t / 2) _ first link.left left link.begin_left.1 starts.on_left (ap (λ n. n - n / 2) turns) in
        let on_right = side-is u b w.spot c (t / 2) _ second link.right right link.begin_right.1 starts.on_right (ap (λ n. n / 2) turns) in
        (par-asks deep, makes-there u w.spot c t par_code _ _ due link.code par-deaf turn (λ i. Fork (parent-is i) (blocks_of (sym link.code i)) (on_left i) (on_right i)) 0)

    -- the left side is sound
    pub left-sound : (m : ℕ) → IsSound u w.spot b m c → IsSound u w.spot b (w.spot c.at).routine left
    left-sound m sound = side-sound u b w.spot c m first _ link.left left sound deep link.begin_left.0 link.begin_left.1 starts.on_left

    -- the right side is sound
    pub right-sound : (m : ℕ) → IsSound u w.spot b m c → IsSound u w.spot b (w.spot c.at).routine right
    right-sound m sound = side-sound u b w.spot c m second _ link.right right sound deep link.begin_right.0 link.begin_right.1 starts.on_right

    -- the parent is sound
    pub parent-sound : (m : ℕ) → IsSound u w.spot b m c → IsSound u w.spot b m parent
    parent-sound m sound = subst (IsSound u w.spot b m) (sym starts.waits) (sound-moves u w.spot b m c (record c { turns = 0 }) sound sound.here refl refl refl refl refl refl)

    -- and stands where it stood
    pub parent-there : (w.spot c.at).routine ≡ (w.spot parent.at).routine
    parent-there = ap (λ (x : Working). (w.spot x.at).routine) (sym starts.waits)
