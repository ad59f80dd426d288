-- A control stack whose branch is told an answer means the stem with the leaf that the event leaves.
use Rattle.std.proofs.Common.{◌≡◌, ℕ, suc, ◌+◌, ◌-◌, ◌<◌, ◌≤◌, Some, None, refl, sym, ap, ◌∙◌, subst, arith}
use Rattle.std.specs.Prelude.{slice_get}
use Rattle.perm_tree.specs.declared.ast.Shape.{Shape}
use Rattle.perm_tree.specs.declared.ast.Shape.TheVariants.{Array, Class}
use Rattle.perm_tree.specs.declared.bodies.Bodies.{Bodies}
use Rattle.perm_tree.specs.declared.bodies.Step.{Step}
use Rattle.perm_tree.specs.declared.errors.TrapKind.{TrapKind}
use Rattle.perm_tree.specs.Code.{UnitCode}
use Rattle.perm_tree.specs.Links.{Spot}
use Rattle.perm_core.specs.Claims.{IsChecked}
use Rattle.perm_meaning.specs.Effects.{Tick, Load, Store, Take, Make}
use Rattle.perm_meaning.specs.Machine.{Leaf, stage}
use Rattle.perm_meaning.specs.Objects.{size, length_of}
use Rattle.perm_meaning.specs.WordHeap.{Ask, Branch}
use Rattle.perm_meaning.proofs.Leads.{some-inj}
use Rattle.perm_step.specs.declared.ask.Ask as interpreter
use Rattle.perm_step.specs.declared.ask.Ask.TheVariants as asks
use Rattle.perm_step.specs.declared.control.Failure.TheVariants as failures
use Rattle.perm_step.specs.declared.control.Leaf as leaves
use Rattle.perm_step.specs.declared.ctl.Answered.{Answered}
use Rattle.perm_step.specs.declared.ctl.Answered.TheVariants.{Word, Full}
use Rattle.perm_step.specs.declared.ctl.Op.{Op}
use Rattle.perm_step.specs.declared.ctl.Op.TheVariants as ops
use Rattle.perm_step.specs.Events.{NextAsks, NextMakes}
use Rattle.perm_step.specs.HeapAsks.{Asks, IsAskFor, TrapsFirst}
use Rattle.perm_step.specs.LeafMoves.{Proceeds}
use Rattle.perm_step.specs.Runs.{IsSoundLeaf}
use Rattle.perm_step.specs.Standing.{branch_of, leaf_branch}
use Rattle.perm_step.specs.StemMoves.{told_by, word_by, IsAnswered, IsAnswerFor, IsAnswerTo, Resumes}
use Rattle.perm_step.specs.Stems.{HasStep, IsNext, Means, Stack, StartsPar, Stem}
use Rattle.perm_step.specs.StepMoves.{IsCallable, Leads}
use Rattle.perm_step.specs.Working.{Working, locals}
use Rattle.perm_step.proofs.ControlStacks.Forks.{asking-due}
use Rattle.perm_step.proofs.ControlStacks.StemSteps.{branch-is, fork-next, has-turn, is-due, runs}
use Rattle.perm_step.proofs.SimpleStatements.Refused.{refused-next}
use Rattle.perm_step.proofs.StepClaims.{failed, running, IsDue, StepClaims}
use Rattle.perm_step.proofs.StepEvents.{step-claims}
use Rattle.perm_step.proofs.WholeRuns.Comings.{leads-on, no-end, stays-sound}

-- ---------- answers ----------
-- the machine's event may be told this
abbrev FitsTo : Ask → Answered → Type 0
FitsTo (Make by shape n) (Word base) = base + size n ≤ 4194304
FitsTo (Make by shape n) Full = Unit {0}
FitsTo Tick (Word w) = Unit {0}
FitsTo (Load base f) (Word w) = Unit {0}
FitsTo (Store base f v) (Word w) = Unit {0}
FitsTo (Take base f) (Word w) = Unit {0}
FitsTo o Full = ⊥

-- what the interpreter is told is what the machine is told
word-as-told : (q : interpreter.Ask) (o : Ask) (answer : Answered) → IsAskFor q o → word_by q answer ≡ told_by o answer
word-as-told asks.Nothing o answer is = subst (λ (x : Ask). word_by asks.Nothing answer ≡ told_by x answer) (sym is) (by answer)
  where
    by : (answer : Answered) → word_by asks.Nothing answer ≡ told_by Tick answer
    by (Word w) = refl
    by Full = refl
word-as-told asks.Fork o answer is = subst (λ (x : Ask). word_by asks.Fork answer ≡ told_by x answer) (sym is) (by answer)
  where
    by : (answer : Answered) → word_by asks.Fork answer ≡ told_by Tick answer
    by (Word w) = refl
    by Full = refl
word-as-told (asks.Load at) o answer (base, f, is, place) = subst (λ (x : Ask). word_by (asks.Load at) answer ≡ told_by x answer) (sym is) (by answer)
  where
    by : (answer : Answered) → word_by (asks.Load at) answer ≡ told_by (Load base f) answer
    by (Word w) = refl
    by Full = refl
word-as-told (asks.Store at v) o answer (base, f, is, place) = subst (λ (x : Ask). word_by (asks.Store at v) answer ≡ told_by x answer) (sym is) (by answer)
  where
    by : (answer : Answered) → word_by (asks.Store at v) answer ≡ told_by (Store base f v) answer
    by (Word w) = refl
    by Full = refl
word-as-told (asks.Take at) o answer (base, f, is, place) = subst (λ (x : Ask). word_by (asks.Take at) answer ≡ told_by x answer) (sym is) (by answer)
  where
    by : (answer : Answered) → word_by (asks.Take at) answer ≡ told_by (Take base f) answer
    by (Word w) = refl
    by Full = refl
word-as-told (asks.Make count len) o answer (shape, is, long) = subst (λ (x : Ask). word_by (asks.Make count len) answer ≡ told_by x answer) (sym is) (by answer long)
  where
    by : (answer : Answered) → len ≡ length_of shape count → word_by (asks.Make count len) answer ≡ told_by (Make tt shape count) answer
    by (Word base) long = ap (λ n. told_by (Make tt Array n) (Word base)) long
    by Full long = refl

-- a reference holds no greater length than its object has values
short : (shape : Shape) (count len : ℕ) → len ≡ length_of shape count → len ≤ count
short Array count len long = omega (arith, long)
short (Class k) count len long = omega (arith, long)

-- what fits the machine's event fits what the interpreter asks
fits-for : (q : interpreter.Ask) (o : Ask) (answer : Answered) → IsAskFor q o → FitsTo o answer → IsAnswerFor q answer
fits-for (asks.Make count len) o (Word base) (shape, is, long) fits = (subst (λ (x : Ask). FitsTo x (Word base)) is fits, short shape count len long)
fits-for (asks.Make count len) o Full is fits = tt
fits-for asks.Nothing o answer is fits = tt
fits-for asks.Fork o answer is fits = tt
fits-for (asks.Load at) o answer is fits = tt
fits-for (asks.Store at v) o answer is fits = tt
fits-for (asks.Take at) o answer is fits = tt

-- an event that asks nothing is told 0
tick-told : (answer : Answered) → FitsTo Tick answer → Some 0 ≡ told_by Tick answer
tick-told (Word w) fits = refl
tick-told Full fits = absurd fits

-- ---------- what is next ----------
module _ (u : UnitCode) (s : Stem) (answer : Answered) where
  -- what the next event of a stem asks, which starts no par, and which may be told the answer
  record IsGiven : Type 0 where
    pub ask : Ask
    pub asks : NextAsks u s.leaf ask
    pub fits : FitsTo ask answer
    pub alone : StartsPar u s → ⊥

  -- an event that asks something of the heap starts no par
  asking : (o : Ask) → NextAsks u s.leaf o → (Some o ≡ Some Tick → ⊥) → FitsTo o answer → IsGiven
  asking o asks other fits = record { ask = o; asks = asks; fits = fits; alone = λ p. other (sym asks ∙ p.asks) }

-- so it is where the answer fits what is next
given : (u : UnitCode) (s : Stem) (op : Op) (answer : Answered) → IsNext u s op → IsAnswerTo op answer → IsGiven u s answer
given u s ops.Tick (Word w) next fits = record { ask = Tick; asks = next.asks; fits = tt; alone = λ p. let e = sym p.makes ∙ next.makes in let no : ⊥ = cc e in no }
given u s ops.Tick Full next fits = absurd fits
given u s (ops.Load at) (Word w) (base, f, asks, place) fits = asking u s (Word w) (Load base f) asks (λ e. let no : ⊥ = cc e in no) tt
given u s (ops.Load at) Full next fits = absurd fits
given u s (ops.Store at v) (Word w) (base, f, asks, place) fits = asking u s (Word w) (Store base f v) asks (λ e. let no : ⊥ = cc e in no) tt
given u s (ops.Store at v) Full next fits = absurd fits
given u s (ops.Take at) (Word w) (base, f, asks, place) fits = asking u s (Word w) (Take base f) asks (λ e. let no : ⊥ = cc e in no) tt
given u s (ops.Take at) Full next fits = absurd fits
given u s (ops.Alloc words) (Word base) (shape, count, asks, is) fits = asking u s (Word base) (Make tt shape count) asks (λ e. let no : ⊥ = cc e in no) (subst (λ n. base + n ≤ 4194304) is fits)
given u s (ops.Alloc words) Full (shape, count, asks, is) fits = asking u s Full (Make tt shape count) asks (λ e. let no : ⊥ = cc e in no) tt
given u s ops.Par (Word w) next fits = absurd fits
given u s ops.Par Full next fits = absurd fits
given u s ops.BranchEnd (Word w) next fits = absurd fits
given u s ops.BranchEnd Full next fits = absurd fits
given u s ops.Ended (Word w) next fits = absurd fits
given u s ops.Ended Full next fits = absurd fits

-- ---------- stacks ----------
module _ (u : UnitCode) (k : Stack) (s : Stem) (answer : Answered) (a : IsAnswered u k answer s) (checked : IsChecked u) where
  abbrev m : Means u k s
  m = a.ready.means

  abbrev b : Bodies
  b = k.bodies

  abbrev spot : ℕ → Spot
  spot = m.bodies.spot

  abbrev c : Working
  c = k.leaf.control

  g : IsGiven u s answer
  g = given u s a.op answer a.next a.fits

  due : HasStep s
  due = asking-due u s.leaf (stage s.leaf) g.ask g.asks

  -- a turn is left
  pub answered-turn : 0 < c.turns
  answered-turn = has-turn u k s m checked due a.ready.unstuck

  -- the branch runs
  pub answered-runs : k.leaf.ending ≡ None
  answered-runs = runs u k s m checked due a.ready.unstuck

  branch : s.leaf ≡ branch_of spot c
  branch = branch-is u k s m checked due a.ready.unstuck

  -- it asks one thing
  same-ask : (o p : Ask) → NextAsks u (branch_of spot c) o → NextAsks u s.leaf p → o ≡ p
  same-ask o p asks next = some-inj (sym asks ∙ subst (λ (x : Branch). NextAsks u x p) branch next)

  -- what fits what it asks
  fits-here : (o : Ask) → NextAsks u (branch_of spot c) o → FitsTo o answer
  fits-here o asks = subst (λ (x : Ask). FitsTo x answer) (sym (same-ask o g.ask asks g.asks)) g.fits

  -- the stack with the leaf that the event makes
  resumes : (new : leaves.Leaf) → IsSoundLeaf u spot b m.bottom new → (o : Ask) → NextAsks u (branch_of spot c) o → NextMakes u (branch_of spot c) (told_by o answer) (Leaf (leaf_branch spot new)) → (after : Stack) → after ≡ record k { leaf = new } → Resumes u after answer s
  resumes new sound o asks makes after is = record {
    after = leaf_branch spot new;
    makes = λ p next.
        subst (λ (x : Branch). NextMakes u x (told_by p answer) (Leaf (leaf_branch spot new))) (sym branch)
        (subst (λ (x : Ask). NextMakes u (branch_of spot c) (told_by x answer) (Leaf (leaf_branch spot new))) (same-ask o p asks next) makes);
    means = subst (λ (k : Stack). Means u k (record s { leaf = leaf_branch spot new })) (sym is) (record {
      bodies = m.bodies;
      bottom = m.bottom;
      leaf = sound;
      parents = m.parents;
      stem = λ j. record { leaf = leaf_branch spot new; parents = (ap (λ (x : Stem). x.parents) m.stem) j; foot = (ap (λ (x : Stem). x.foot) m.stem) j };
    });
  }

  abbrev claims : StepClaims u b m.bodies
  claims = step-claims u b m.bodies checked

  module _ (st : Step) (there : slice_get b.steps c.at ≡ Some st) where
    here-due : IsDue u b m.bodies m.bottom c st
    here-due = is-due u k s m checked due a.ready.unstuck st there

    -- a call's method is there
    pub answered-callable : IsCallable b st.action c
    answered-callable = claims.callable m.bottom c st here-due

    -- a step that traps before it asks the heap
    pub trap-resumes : (kind : TrapKind) → TrapsFirst b (locals c) c.depth st.action kind → (after : Stack) → after ≡ record k { leaf = failed u b m.bodies c (failures.Trap kind st.span) } → Resumes u after answer s
    trap-resumes kind traps after is =
        let t = claims.traps m.bottom c st kind here-due traps in
        let new : leaves.Leaf = failed u b m.bodies c (failures.Trap kind st.span) in
        resumes new (record { here = m.leaf.here; sound = λ no. absurd (let none : ⊥ = cc no in none) }) Tick t.0
        (subst (λ v. NextMakes u (branch_of spot c) v (Leaf (leaf_branch spot new))) (tick-told answer (fits-here Tick t.0)) t.1) after is

    module _ (q : interpreter.Ask) (asked : Asks b (locals c) c.depth st.action q) where
      next : (o : Ask) × NextAsks u (branch_of spot c) o × IsAskFor q o
      next = claims.asks m.bottom c st q here-due asked

      -- the answer fits what the step asks
      pub answer-fits : IsAnswerFor q answer
      answer-fits = fits-for q next.0 answer next.2 (fits-here next.0 next.1)

      no-fork : q ≡ asks.Fork → ⊥
      no-fork is =
          let tick : next.0 ≡ Tick = subst (λ (x : interpreter.Ask). IsAskFor x next.0) is next.2 in
          g.alone (fork-next u k s m checked due a.ready.unstuck st there (subst (λ (x : interpreter.Ask). Asks b (locals c) c.depth st.action x) is asked)
          (subst (λ (x : Branch). NextAsks u x Tick) (sym branch) (subst (λ (o : Ask). NextAsks u (branch_of spot c) o) tick next.1)))

      -- the step leads on
      pub answered-leads : Leads st.action
      answered-leads = leads-on b (locals c) c.depth st.action q asked no-fork (no-end u b m.bodies m.bottom c st here-due)

      -- new words are refused
      pub refuse-resumes : word_by q answer ≡ None → (after : Stack) → after ≡ record k { leaf = failed u b m.bodies c failures.NoRoom } → Resumes u after answer s
      refuse-resumes none after is =
          let new : leaves.Leaf = failed u b m.bodies c failures.NoRoom in
          let last : c.turns ≡ suc (c.turns - 1) = let turn = answered-turn in omega (arith, turn) in
          resumes new (record { here = m.leaf.here; sound = λ no. absurd (let none : ⊥ = cc no in none) }) next.0 next.1
          (subst (λ v. NextMakes u (branch_of spot c) v (Leaf (leaf_branch spot new))) (sym none ∙ word-as-told q next.0 answer next.2) (refused-next u spot c (c.turns - 1) next.0 last next.1)) after is

      -- the step is told a word
      pub proceed-resumes : (word : ℕ) → word_by q answer ≡ Some word → (new : leaves.Leaf) → Proceeds b st word (running u b m.bodies c) new → (after : Stack) → after ≡ record k { leaf = new } → Resumes u after answer s
      proceed-resumes word found new proceeds after is =
          let made = claims.makes m.bottom c st q word new here-due answered-leads asked proceeds in
          resumes new (stays-sound u b m.bodies m.bottom c st word new m.leaf.here proceeds made.sound) next.0 next.1
          (subst (λ v. NextMakes u (branch_of spot c) v (Leaf (leaf_branch spot new))) (sym found ∙ word-as-told q next.0 answer next.2) made.makes) after is
