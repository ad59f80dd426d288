-- Each turn of a run on one thread, and each going on of a par, leads to what the word machine comes to.
use Rattle.std.proofs.Common.{◌≡◌, ℕ, ◌<◌, List, [], ◌∷◌, ◌++◌, length, Option, Some, None, ◌⊎◌, inl, inr, refl, sym, ap, ◌∙◌, subst, arith}
use Rattle.std.specs.Prelude.{reverse, slice_get}
use Rattle.std.proofs.lemmas.List.{reverse-append}
use Rattle.perm_tree.specs.declared.bodies.Action.{Action}
use Rattle.perm_tree.specs.declared.bodies.Action.TheVariants as actions
use Rattle.perm_tree.specs.declared.bodies.Bodies.{Bodies}
use Rattle.perm_tree.specs.declared.bodies.Step.{Step}
use Rattle.perm_tree.specs.declared.errors.TrapKind.{TrapKind}
use Rattle.perm_tree.specs.Code.{Code, UnitCode}
use Rattle.perm_tree.specs.Links.{Spot, AreBodiesOf, IsEnd, IsLinkedBy, StandsAt}
use Rattle.perm_meaning.specs.Custody.{Copies}
use Rattle.perm_meaning.specs.Effects.{Tick, depth_limit}
use Rattle.perm_meaning.specs.Machine.{Leaf, next_turn, stage, turn_op, over}
use Rattle.perm_meaning.specs.WordHeap.{Ask, Branch, Cells, NoMark, worded}
use Rattle.perm_meaning.proofs.Leads.{some-inj}
use Rattle.perm_step.specs.declared.alone.Run.{Run}
use Rattle.perm_step.specs.declared.alone.Waiting.{Waiting}
use Rattle.perm_step.specs.declared.alone.Waiting.TheVariants.{ForLeft, ForRight}
use Rattle.perm_step.specs.declared.ask.Ask as interpreter
use Rattle.perm_step.specs.declared.ask.Ask.TheVariants as asks
use Rattle.perm_step.specs.declared.control.Ending.{Ending}
use Rattle.perm_step.specs.declared.control.Ending.TheVariants as endings
use Rattle.perm_step.specs.declared.control.Failure.TheVariants as failures
use Rattle.perm_step.specs.declared.control.Leaf as leaves
use Rattle.perm_step.specs.declared.heap.Shortage.TheVariants as shortages
use Rattle.perm_step.specs.declared.pars.Final.{Final}
use Rattle.perm_step.specs.Events.{IsSound, JoinMakes, NextAsks}
use Rattle.perm_step.specs.HeapAsks.{Asks, IsAskFor, TrapsFirst}
use Rattle.perm_step.specs.Heaps.{Answers, Heaped, Refuses}
use Rattle.perm_step.specs.Holding.{Aside, RightAside}
use Rattle.perm_step.specs.LeafMoves.{Proceeds}
use Rattle.perm_step.specs.ParMoves.{final_of, EndsAs, IsWaiting, JoinsBy, Parts, RunsOut}
use Rattle.perm_step.specs.Running.{IsRunning}
use Rattle.perm_step.specs.Runs.{asides_of, AreKept, CanGoOn, CanJoin, Fills, GoesOn, IsComing, IsSoundLeaf, Opening, Starts}
use Rattle.perm_step.specs.Standing.{blocks_of, branch_of, leaf_branch, parent_branch, ended_as}
use Rattle.perm_step.specs.StepMoves.{Leads}
use Rattle.perm_step.specs.Working.{Working, cells_of, locals}
use Rattle.perm_step.proofs.TwoSides.JoinVariables.{ended-variables}
use Rattle.perm_step.proofs.WordMachine.HeapAnswers.{answers-found, refuses-found, Finds}
use Rattle.perm_step.proofs.WholeRuns.RunRounds.{run-asks-in-heap, run-goes-on, run-has-both, run-is-joined, run-is-lively, run-starts-par, run-turns-right}
use Rattle.perm_step.proofs.WholeRuns.Weights.{joined-at}
use Rattle.perm_step.proofs.StepClaims.{failed, running as runs_on, IsDue, IsForked, IsMade, StepClaims}

-- ---------- endings ----------
-- a leaf of which a step is due has no ending
pub no-ending : (b : Bodies) (c : Working) (e : Option Ending) → EndsAs b c e None → e ≡ None
no-ending b c None h = refl
no-ending b c (Some (endings.Returned w)) h = absurd (let no : ⊥ = cc h in no)
no-ending b c (Some (endings.Failed x)) h = absurd (let no : ⊥ = cc h in no)

-- and a turn left
pub runs-on : (b : Bodies) (c : Working) (e : Option Ending) → EndsAs b c e None → 0 < c.turns
runs-on b c None h = h.1
runs-on b c (Some (endings.Returned w)) h = absurd (let no : ⊥ = cc h in no)
runs-on b c (Some (endings.Failed x)) h = absurd (let no : ⊥ = cc h in no)

-- the turns of a leaf are those of its branch
pub leaf-turns : (spot : ℕ → Spot) (l : leaves.Leaf) → (leaf_branch spot l).turns ≡ l.control.turns
leaf-turns spot l = by l.ending
  where
    by : (e : Option Ending) → (ended_as e (branch_of spot l.control)).turns ≡ l.control.turns
    by None = refl
    by (Some e) = refl

-- the leaf that a step leads to stands at a step
pub stays-sound : (u : UnitCode) (b : Bodies) (w : AreBodiesOf u b) (bottom : ℕ) (c : Working) (s : Step) (word : ℕ) (new : leaves.Leaf) → c.at < length b.steps → Proceeds b s word (runs_on u b w c) new → (new.ending ≡ None → IsSound u w.spot b bottom new.control) → IsSoundLeaf u w.spot b bottom new
stays-sound u b w bottom c s word new here (inl (goes, moves)) sound = record { here = (sound goes).here; sound = sound }
stays-sound u b w bottom c s word new here (inr (e, stops, is)) sound = record { here = subst (λ (x : leaves.Leaf). x.control.at < length b.steps) (sym is) here; sound = sound }

-- ---------- runs ----------
module _ (o : Opening) (b : Bodies) (r : Run) (k : IsComing o b r) where
  -- a run that stands for what is reached
  pub comes : (r' : Run) (l : leaves.Leaf) (ws : List Waiting) (h : Heaped) → r'.leaf ≡ l → r'.waiting.items ≡ ws → r'.heap ≡ h
      → IsRunning o.unit o.limit o.input o.turns o.first (asides_of k.bodies.spot (reverse ws)) (leaf_branch k.bodies.spot l) (cells_of h.words) → (m : ℕ) → IsSoundLeaf o.unit k.bodies.spot b m l → AreKept o.unit k.bodies.spot b m (reverse ws) → h.limit ≡ o.limit → IsComing o b r'
  comes r' l ws h leaf waiting heap running m sound kept limit = record {
    bodies = k.bodies;
    running =
        subst (λ (x : leaves.Leaf). IsRunning o.unit o.limit o.input o.turns o.first (asides_of k.bodies.spot (reverse r'.waiting.items)) (leaf_branch k.bodies.spot x) (cells_of r'.heap.words)) (sym leaf)
        (subst (λ (xs : List Waiting). IsRunning o.unit o.limit o.input o.turns o.first (asides_of k.bodies.spot (reverse xs)) (leaf_branch k.bodies.spot l) (cells_of r'.heap.words)) (sym waiting)
        (subst (λ (x : Heaped). IsRunning o.unit o.limit o.input o.turns o.first (asides_of k.bodies.spot (reverse ws)) (leaf_branch k.bodies.spot l) (cells_of x.words)) (sym heap) running));
    bottom = m;
    leaf = subst (IsSoundLeaf o.unit k.bodies.spot b m) (sym leaf) sound;
    kept = subst (λ (xs : List Waiting). AreKept o.unit k.bodies.spot b m (reverse xs)) (sym waiting) kept;
    same = ap (λ (x : Heaped). x.limit) heap ∙ limit;
  }

  -- a run of the same parts
  pub same-run : (r' : Run) → r'.leaf ≡ r.leaf → r'.waiting.items ≡ r.waiting.items → r'.heap ≡ r.heap → IsComing o b r'
  same-run r' leaf waiting heap = comes r' r.leaf r.waiting.items r.heap leaf waiting heap k.running k.bottom k.leaf k.kept k.same

module _ (o : Opening) (b : Bodies) (r : Run) (k : IsComing o b r) (claims : StepClaims o.unit b k.bodies) where
  abbrev u : UnitCode
  u = o.unit

  abbrev spot : ℕ → Spot
  spot = k.bodies.spot

  abbrev c : Working
  c = r.leaf.control

  abbrev ks : List (Aside ℕ NoMark)
  ks = asides_of spot (reverse r.waiting.items)

  -- what a state of the run has reached
  abbrev Runs : List (Aside ℕ NoMark) → Branch → Cells → Type 0
  Runs ks x h = IsRunning u o.limit o.input o.turns o.first ks x h

  -- ---------- turns ----------
  module _ (due : EndsAs b c r.leaf.ending None) where
    runs : r.leaf.ending ≡ None
    runs = no-ending b c r.leaf.ending due

    sound : IsSound u spot b k.bottom c
    sound = k.leaf.sound runs

    runs-out : RunsOut b c None
    runs-out = subst (λ (e : Option Ending). EndsAs b c e None) runs due

    reached : Runs ks (branch_of spot c) (cells_of r.heap.words)
    reached = subst (λ (x : Branch). Runs ks x (cells_of r.heap.words)) (ap (λ (e : Option Ending). ended_as e (branch_of spot c)) runs) k.running

    not-over : over (stage (branch_of spot c)) ≡ None
    not-over = claims.ends k.bottom c None None (λ e. sound) runs-out

    module _ (s : Step) (here : slice_get b.steps c.at ≡ Some s) (c1 : Working) (same : c1 ≡ record c { room = c1.room }) where
      abbrev in_room : Working
      in_room = record c { room = c1.room }

      -- the branch stands for the same with more room
      pub is-due : IsDue u b k.bodies k.bottom c1 s
      is-due =
          subst (λ (x : Working). IsDue u b k.bodies k.bottom x s) (sym same)
          (let it : IsDue u b k.bodies k.bottom in_room s = record {
            sound = record { here = sound.here; calls = sound.calls; variables = sound.variables; callers = sound.callers; below = sound.below; deep = sound.deep };
            here = here;
            due = runs-out.1;
            lively = run-is-lively u o.limit o.input o.turns o.first o.checked o.opens ks (branch_of spot c) (cells_of r.heap.words) reached not-over;
          } in it)

      reached-in : Runs ks (branch_of spot c1) (cells_of r.heap.words)
      reached-in = subst (λ (x : Working). Runs ks (branch_of spot x) (cells_of r.heap.words)) (sym same) reached

      stands : c1.at < length b.steps
      stands = is-due.sound.here

      -- a trap
      pub trap-comes : (kind : TrapKind) (r' : Run) → TrapsFirst b (locals c1) c1.depth s.action kind → r'.leaf ≡ failed u b k.bodies c1 (failures.Trap kind s.span) → r'.waiting.items ≡ r.waiting.items → r'.heap ≡ r.heap → IsComing o b r'
      trap-comes kind r' traps leaf waiting heap =
          let e = claims.traps k.bottom c1 s kind is-due traps in
          comes o b r k r' (failed u b k.bodies c1 (failures.Trap kind s.span)) r.waiting.items r.heap leaf waiting heap
          (run-goes-on u o.limit o.input o.turns o.first ks (branch_of spot c1) (leaf_branch spot (failed u b k.bodies c1 (failures.Trap kind s.span))) (cells_of r.heap.words) Tick 0 reached-in e.0 refl e.1)
          k.bottom (record { here = stands; sound = λ no. absurd (let none : ⊥ = cc no in none) }) k.kept k.same

      -- a step that is told what the heap answers
      pub proceed-comes : (q : interpreter.Ask) (word : ℕ) (h : Heaped) (new : leaves.Leaf) (r' : Run) → Asks b (locals c1) c1.depth s.action q → Leads s.action → Answers q r.heap word h → Proceeds b s word (runs_on u b k.bodies c1) new
          → r'.leaf ≡ new → r'.waiting.items ≡ r.waiting.items → r'.heap ≡ h → IsComing o b r'
      proceed-comes q word h new r' asks leads answers proceeds leaf waiting heap = by (claims.asks k.bottom c1 s q is-due asks) (claims.makes k.bottom c1 s q word new is-due leads asks proceeds)
        where
          by : (a : Ask) × NextAsks u (branch_of spot c1) a × IsAskFor q a → IsMade u b k.bodies k.bottom c1 word new → IsComing o b r'
          by (a, next, ask) made =
              let inside = run-asks-in-heap u o.limit o.input o.turns o.first o.checked o.opens ks (branch_of spot c1) (cells_of r.heap.words) a reached-in next in
              let f : Finds o.limit a r.heap word h = answers-found o.limit r.heap k.same q a word h ask inside answers in
              comes o b r k r' new r.waiting.items h leaf waiting heap
              (subst (Runs ks (leaf_branch spot new)) f.left
              (run-goes-on u o.limit o.input o.turns o.first ks (branch_of spot c1) (leaf_branch spot new) (cells_of r.heap.words) a word reached-in next f.found made.makes))
              k.bottom (stays-sound u b k.bodies k.bottom c1 s word new stands proceeds made.sound) k.kept (f.same ∙ k.same)

      -- an object that the heap refuses
      pub refused-fills : (q : interpreter.Ask) (h : Heaped) → Asks b (locals c1) c1.depth s.action q → Refuses q r.heap h shortages.HeapFull → Fills o
      refused-fills q h asks refuses = by (claims.asks k.bottom c1 s q is-due asks)
        where
          by : (a : Ask) × NextAsks u (branch_of spot c1) a × IsAskFor q a → Fills o
          by (a, next, ask) = record {
            kept = ks;
            branch = branch_of spot c1;
            cells = cells_of r.heap.words;
            running = reached-in;
            ask = a;
            next = next;
            refused = refuses-found o.limit r.heap k.same q a h ask refuses;
          }

      -- the start of a par
      pub start-comes : (old r' : Run) → old.leaf.control ≡ c1 → old.waiting.items ≡ r.waiting.items → old.heap ≡ r.heap → c1.depth < depth_limit → Starts b old r' → IsComing o b r'
      start-comes old r' control waiting heap deep st = go
        where
          at_par : slice_get b.steps c1.at ≡ Some st.at.step
          at_par = subst (λ (x : Working). slice_get b.steps x.at ≡ Some st.at.step) control st.at.here

          same_step : st.at.step ≡ s
          same_step = some-inj (sym at_par ∙ is-due.here)

          fork : IsForked u b k.bodies k.bottom c1 st.parent r'.leaf.control st.right
          fork =
              claims.forks k.bottom c1 s st.at.first st.at.second st.at.place st.parent r'.leaf.control st.right is-due (ap (λ (x : Step). x.action) (sym same_step) ∙ st.at.par) deep
              (subst (λ (x : Working). Parts st.at.first st.at.second x st.parent r'.leaf.control st.right) control st.parts)

          at_parent : st.parent.at ≡ c1.at
          at_parent = ap (λ (x : Working). x.at) st.parts.waits ∙ ap (λ (x : Working). x.at) control

          order : reverse (r.waiting.items ++ ForLeft st.parent st.right ∷ []) ≡ ForLeft st.parent st.right ∷ reverse r.waiting.items
          order = reverse-append r.waiting.items (ForLeft st.parent st.right ∷ [])

          left : leaves.Leaf
          left = runs_on u b k.bodies r'.leaf.control

          go : IsComing o b r'
          go =
              comes o b r k r' left (r.waiting.items ++ ForLeft st.parent st.right ∷ []) r.heap
              (λ i. record { control = r'.leaf.control; ending = st.runs i })
              (st.waits ∙ ap (λ (xs : List Waiting). xs ++ ForLeft st.parent st.right ∷ []) waiting)
              (st.heap ∙ heap)
              (subst (λ (xs : List Waiting). Runs (asides_of spot xs) (leaf_branch spot left) (cells_of r.heap.words)) (sym order)
              (subst (λ n. Runs (RightAside (parent_branch spot st.parent) (blocks_of (spot n).code) (branch_of spot st.right) ∷ ks) (branch_of spot r'.leaf.control) (cells_of r.heap.words)) (sym at_parent)
              (run-starts-par u o.limit o.input o.turns o.first ks (branch_of spot c1) (parent_branch spot st.parent) (blocks_of (spot c1.at).code) (branch_of spot r'.leaf.control) (branch_of spot st.right) (cells_of r.heap.words) Tick 0 reached-in fork.asks refl fork.makes)))
              (spot c1.at).routine
              (record { here = fork.left_sound.here; sound = λ e. fork.left_sound })
              (subst (AreKept u spot b (spot c1.at).routine) (sym order)
              (k.bottom, record { waits = fork.waits; same = ap (λ n. (spot n).routine) (sym at_parent); sound = fork.parent_sound }, fork.right_sound, k.kept))
              k.same

  -- ---------- pars that go on ----------
  module _ (f : Final) (ends : EndsAs b c r.leaf.ending (Some f)) (front : List Waiting) (x : Waiting) (popped : r.waiting.items ≡ front ++ x ∷ []) where
    order-here : reverse r.waiting.items ≡ x ∷ reverse front
    order-here = ap reverse popped ∙ reverse-append front (x ∷ [])

    kept-here : AreKept u spot b k.bottom (x ∷ reverse front)
    kept-here = subst (AreKept u spot b k.bottom) order-here k.kept

    reached-here : Runs (asides_of spot (x ∷ reverse front)) (leaf_branch spot r.leaf) (cells_of r.heap.words)
    reached-here = subst (λ (xs : List Waiting). Runs (asides_of spot xs) (leaf_branch spot r.leaf) (cells_of r.heap.words)) order-here k.running

    over-here : over (stage (leaf_branch spot r.leaf)) ≡ Some (final_of c f)
    over-here = claims.ends k.bottom c r.leaf.ending (Some f) k.leaf.sound ends

    -- two sides may be joined
    joins-well : (parent : Working) (left : leaves.Leaf) → Runs (asides_of spot (ForRight parent left ∷ reverse front)) (leaf_branch spot r.leaf) (cells_of r.heap.words) → AreKept u spot b k.bottom (ForRight parent left ∷ reverse front) → CanJoin b parent left r.leaf f
    joins-well parent left running (outer, p, ls, (g, over_left), rest) = record {
      here = ls.here;
      waits = p.waits;
      left_end = g;
      over = over_left;
      turns =
          let both = run-has-both u o.limit o.input o.turns o.first (asides_of spot (reverse front)) (parent_branch spot parent) (blocks_of (spot parent.at).code) (leaf_branch spot left) (leaf_branch spot r.leaf) (cells_of r.heap.words) running in
          omega (arith, both, leaf-turns spot left, leaf-turns spot r.leaf, o.few);
      few = let v = p.sound.variables in let most = o.slim (spot parent.at).routine v.routine v.there in omega (arith, v.many, most);
      lefts = λ fine. ended-variables u spot b k.bottom outer left.control parent left.ending g ls.sound p.sound p.same over_left fine;
      rights = λ fine. ended-variables u spot b k.bottom outer c parent r.leaf.ending f k.leaf.sound p.sound p.same ends fine;
    }

    pub can-go-on : CanGoOn b r.leaf f x
    can-go-on = by x kept-here reached-here
      where
        by : (x : Waiting) → AreKept u spot b k.bottom (x ∷ reverse front) → Runs (asides_of spot (x ∷ reverse front)) (leaf_branch spot r.leaf) (cells_of r.heap.words) → CanGoOn b r.leaf f x
        by (ForLeft parent right) kept running = tt
        by (ForRight parent left) kept running = joins-well parent left running kept

    -- its parent waits
    pub waits-here : (parent : Working) (left : leaves.Leaf) → x ≡ ForRight parent left → IsWaiting b parent
    waits-here parent left is = by (subst (λ (y : Waiting). AreKept u spot b k.bottom (y ∷ reverse front)) is kept-here)
      where
        by : AreKept u spot b k.bottom (ForRight parent left ∷ reverse front) → IsWaiting b parent
        by (outer, p, ls, over_left, rest) = p.waits

    pub goes-comes : (old r' : Run) → old.leaf ≡ r.leaf → old.waiting.items ≡ front → old.heap ≡ r.heap → GoesOn b f x old r' → IsComing o b r'
    goes-comes old r' leaf waiting heap goes = by x kept-here reached-here goes
      where
        by : (x : Waiting) → AreKept u spot b k.bottom (x ∷ reverse front) → Runs (asides_of spot (x ∷ reverse front)) (leaf_branch spot r.leaf) (cells_of r.heap.words) → GoesOn b f x old r' → IsComing o b r'
        by (ForLeft parent right) (outer, p, sound, rest) running (now, waits, same) =
            let back : reverse (front ++ ForRight parent r.leaf ∷ []) ≡ ForRight parent r.leaf ∷ reverse front = reverse-append front (ForRight parent r.leaf ∷ []) in
            comes o b r k r' (runs_on u b k.bodies right) (front ++ ForRight parent r.leaf ∷ []) r.heap now
            (waits ∙ ap (λ (xs : List Waiting). xs ++ ForRight parent old.leaf ∷ []) waiting ∙ ap (λ (l : leaves.Leaf). front ++ ForRight parent l ∷ []) leaf)
            (same ∙ heap)
            (subst (λ (xs : List Waiting). Runs (asides_of spot xs) (branch_of spot right) (cells_of r.heap.words)) (sym back)
            (run-turns-right u o.limit o.input o.turns o.first (asides_of spot (reverse front)) (parent_branch spot parent) (blocks_of (spot parent.at).code) (leaf_branch spot r.leaf) (branch_of spot right) (cells_of r.heap.words) (final_of c f) running over-here))
            k.bottom
            (record { here = sound.here; sound = λ e. sound })
            (subst (AreKept u spot b k.bottom) (sym back) (outer, p, k.leaf, (f, ends), rest))
            k.same
        by (ForRight parent left) kept running (y, over_left, joined, ending, joins, now, waits, same) = on kept
          where
            can : CanJoin b parent left r.leaf f
            can = joins-well parent left running kept

            on : AreKept u spot b k.bottom (ForRight parent left ∷ reverse front) → IsComing o b r'
            on (outer, p, ls, some_end, rest) =
                comes o b r k r' (record { control = joined; ending = ending }) front r.heap now (waits ∙ waiting) (same ∙ heap)
                (run-is-joined u o.limit o.input o.turns o.first (asides_of spot (reverse front)) (parent_branch spot parent) (leaf_branch spot (record { control = joined; ending = ending })) (blocks_of (spot parent.at).code) (leaf_branch spot left) (leaf_branch spot r.leaf) (cells_of r.heap.words) (final_of left.control y) (final_of c f) running
                (claims.ends k.bottom left.control left.ending (Some y) ls.sound over_left) over-here made.0)
                outer
                (record { here = stands (joined-at p.waits.step.next p.waits.sides left.control c parent joined y f ending by_join); sound = made.1 })
                rest k.same
              where
                by_join : JoinsBy p.waits.step.next p.waits.sides left.control c parent joined y f ending
                by_join = subst (λ (l : leaves.Leaf). JoinsBy p.waits.step.next p.waits.sides left.control l.control parent joined y f ending) leaf (joins p.waits)

                made : JoinMakes u spot parent left.control y c f (Leaf (leaf_branch spot (record { control = joined; ending = ending }))) × (ending ≡ None → IsSound u spot b outer joined)
                made =
                    claims.joins outer parent left.control c joined y f ending p.waits p.sound
                    (λ fine. ended-variables u spot b k.bottom outer left.control parent left.ending y ls.sound p.sound p.same over_left fine)
                    can.rights can.few by_join

                stands : (ending ≡ None) ⊎ (joined.at ≡ parent.at) → joined.at < length b.steps
                stands (inl none) = (made.1 none).here
                stands (inr at) = subst (λ n. n < length b.steps) (sym at) p.sound.here

-- ---------- steps that lead on ----------
-- where a step is due, it isn't the end of a side
pub no-end : (u : UnitCode) (b : Bodies) (w : AreBodiesOf u b) (m : ℕ) (c : Working) (s : Step) → IsDue u b w m c s → s.action ≡ actions.End → ⊥
no-end u b w m c s d is = d.lively stuck
  where
    linked : IsEnd (λ q spot. StandsAt w.spot b.steps q spot) b u (w.spot c.at) s.span s.next
    linked = subst (IsLinkedBy (λ q spot. StandsAt w.spot b.steps q spot) b u (w.spot c.at) s.span s.next) is (w.linked c.at s d.here).0

    stuck : turn_op (worded Copies u) (next_turn (worded Copies u) (branch_of w.spot c)) ≡ None
    stuck = ap (λ (x : Code). turn_op (worded Copies u) ((worded Copies u).turn x (branch_of w.spot c).stack (branch_of w.spot c).own)) linked.code

-- one that asks no par to start leads on
pub leads-on : (b : Bodies) (vs : List ℕ) (depth : ℕ) (a : Action) (q : interpreter.Ask) → Asks b vs depth a q → (q ≡ asks.Fork → ⊥) → (a ≡ actions.End → ⊥) → Leads a
leads-on b vs depth (actions.Par first second sides) q (is, deep) no_fork no_end = no_fork is
leads-on b vs depth actions.End q asks no_fork no_end = no_end refl
leads-on b vs depth (actions.Declare x) q asks no_fork no_end = tt
leads-on b vs depth (actions.Assign x a) q asks no_fork no_end = tt
leads-on b vs depth (actions.LoadField x y f) q asks no_fork no_end = tt
leads-on b vs depth (actions.LoadLength x y) q asks no_fork no_end = tt
leads-on b vs depth (actions.LoadItem x y e) q asks no_fork no_end = tt
leads-on b vs depth (actions.TakeField x y f) q asks no_fork no_end = tt
leads-on b vs depth (actions.NewObject x k n) q asks no_fork no_end = tt
leads-on b vs depth (actions.NewArray x e) q asks no_fork no_end = tt
leads-on b vs depth (actions.StoreField y f a) q asks no_fork no_end = tt
leads-on b vs depth (actions.StoreItem y i e) q asks no_fork no_end = tt
leads-on b vs depth (actions.Invoke v) q asks no_fork no_end = tt
leads-on b vs depth (actions.Print e) q asks no_fork no_end = tt
leads-on b vs depth (actions.If e other) q asks no_fork no_end = tt
leads-on b vs depth (actions.While e first) q asks no_fork no_end = tt
leads-on b vs depth actions.Recover q asks no_fork no_end = tt
leads-on b vs depth (actions.Give y x) q asks no_fork no_end = tt
leads-on b vs depth (actions.Return a) q asks no_fork no_end = tt

-- a step that asks to start a par is one, and not too deep
pub asks-par : (b : Bodies) (vs : List ℕ) (depth : ℕ) (a : Action) (q : interpreter.Ask) → Asks b vs depth a q → q ≡ asks.Fork → (depth < depth_limit) × (first : ℕ) × (second : ℕ) × (place : ℕ) × (a ≡ actions.Par first second place)
asks-par b vs depth (actions.Par first second place) q (is, deep) fork = (deep, first, second, place, refl)
asks-par b vs depth actions.End q asked fork = absurd (let e = sym asked ∙ fork in let no : ⊥ = cc e in no)
asks-par b vs depth (actions.Declare x) q asked fork = absurd (let e = sym asked ∙ fork in let no : ⊥ = cc e in no)
asks-par b vs depth (actions.Assign x a) q asked fork = absurd (let e = sym asked ∙ fork in let no : ⊥ = cc e in no)
asks-par b vs depth (actions.LoadField x y f) q (at, is, rest) fork = absurd (let e = sym is ∙ fork in let no : ⊥ = cc e in no)
asks-par b vs depth (actions.LoadLength x y) q asked fork = absurd (let e = sym asked ∙ fork in let no : ⊥ = cc e in no)
asks-par b vs depth (actions.LoadItem x y e) q (at, i, is, given, element) fork = absurd (let e = sym is ∙ fork in let no : ⊥ = cc e in no)
asks-par b vs depth (actions.TakeField x y f) q (at, is, rest) fork = absurd (let e = sym is ∙ fork in let no : ⊥ = cc e in no)
asks-par b vs depth (actions.NewObject x k n) q is fork = absurd (let e = sym is ∙ fork in let no : ⊥ = cc e in no)
asks-par b vs depth (actions.NewArray x e) q (n, count, is, given, long) fork = absurd (let e = sym is ∙ fork in let no : ⊥ = cc e in no)
asks-par b vs depth (actions.StoreField y f a) q (at, w, is, given, field) fork = absurd (let e = sym is ∙ fork in let no : ⊥ = cc e in no)
asks-par b vs depth (actions.StoreItem y i e) q (at, k, w, is, index, given, element) fork = absurd (let e = sym is ∙ fork in let no : ⊥ = cc e in no)
asks-par b vs depth (actions.Invoke v) q asked fork = absurd (let e = sym asked ∙ fork in let no : ⊥ = cc e in no)
asks-par b vs depth (actions.Print e) q asked fork = absurd (let e = sym asked ∙ fork in let no : ⊥ = cc e in no)
asks-par b vs depth (actions.If e other) q asked fork = absurd (let e = sym asked ∙ fork in let no : ⊥ = cc e in no)
asks-par b vs depth (actions.While e first) q asked fork = absurd (let e = sym asked ∙ fork in let no : ⊥ = cc e in no)
asks-par b vs depth actions.Recover q asked fork = absurd (let e = sym asked ∙ fork in let no : ⊥ = cc e in no)
asks-par b vs depth (actions.Give y x) q asked fork = absurd (let e = sym asked ∙ fork in let no : ⊥ = cc e in no)
asks-par b vs depth (actions.Return a) q asked fork = absurd (let e = sym asked ∙ fork in let no : ⊥ = cc e in no)

-- more room twice is more room
pub in-room : (c more same : Working) → more ≡ record c { room = more.room } → same ≡ more → same ≡ record c { room = same.room }
in-room c more same is again = again ∙ is ∙ ap (λ (x : Working). record c { room = x.room }) (sym again)
