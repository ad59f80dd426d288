-- The turn of a simple statement that is no call, from one state to the next.
use Rattle.std.proofs.Common.{◌≡◌, ◌∙◌, ℕ, suc, ◌<◌, [], Option, Some, None, length, refl, sym, ap, subst, arith}
use Rattle.perm_tree.specs.declared.ast.Span.{Span}
use Rattle.perm_tree.specs.declared.ast.Stmt.{Stmt}
use Rattle.perm_tree.specs.declared.errors.TrapKind.{TrapKind}
use Rattle.perm_tree.specs.Code.{Code, Do, Instruction}
use Rattle.perm_tree.specs.CodeOf.{code_of}
use Rattle.perm_tree.specs.InBody.{setting_at}
use Rattle.perm_tree.specs.Resolves.{IsResolved}
use Rattle.perm_tree.specs.UnitTables.{Tables}
use Rattle.perm_meaning.specs.declared.eval.frames.Failure.TheVariants as failures
use Rattle.perm_meaning.specs.declared.eval.own.Own.{Own}
use Rattle.perm_meaning.specs.declared.eval.state.Fate.{Fate}
use Rattle.perm_meaning.specs.declared.eval.state.Fate.TheVariants as fates
use Rattle.perm_meaning.specs.declared.eval.state.State.{State}
use Rattle.perm_meaning.specs.declared.eval.step.Step.{Step}
use Rattle.perm_meaning.specs.declared.eval.step.Step.TheVariants as steps
use Rattle.perm_meaning.specs.Evaluator.Control.{behind}
use Rattle.perm_meaning.specs.Evaluator.Fates.{step_fate, step_state}
use Rattle.perm_meaning.specs.Evaluator.Frames.{code_at, AllStand, AmountsTo}
use Rattle.perm_meaning.specs.Machine.{Trapped}
use Rattle.perm_meaning.specs.Meaning.{Result, Fails, Full, Stuck, Well, then_do}
use Rattle.perm_meaning.specs.Evaluator.Measure.{left_of_run}
use Rattle.perm_meaning.specs.NamedHeap.{Heap}
use Rattle.perm_meaning.specs.Names.{Mark}
use Rattle.perm_meaning.specs.Evaluator.NumberedValues.{Names}
use Rattle.perm_meaning.specs.Evaluator.Runs.{unspent, ComesNext, IsNext, IsSmall, MayTurn, Means, Stands}
use Rattle.perm_meaning.specs.Evaluator.SimpleStatements.{simple_of}
use Rattle.perm_meaning.specs.Evaluator.SimpleSteps.{meant, At, HasGone, HasTrapped, IsStep, MayStep}
use Rattle.perm_meaning.specs.Evaluator.SimpleSteps as stepping
use Rattle.perm_meaning.specs.Steps.{within}
use Rattle.perm_meaning.specs.Evaluator.NumberedHeap.{Stored}
use Rattle.perm_meaning.specs.Evaluator.Ties.{moment_by, AllBelow, Grows, IsTied}
use Rattle.perm_meaning.specs.Evaluator.Waits.{resumed}
use Rattle.perm_meaning.specs.Evaluator.WholeCode.{whole}
use Rattle.perm_meaning.proofs.Leads.{none-some, some-inj}
use Rattle.perm_meaning.proofs.Evaluator.NewNames.{running-new}
use Rattle.perm_meaning.proofs.Evaluator.Parts.{code-next, code-simple}
use Rattle.perm_meaning.proofs.Evaluator.Runs.LaterNames.{all-stand-later, frames-more, grown-new, step-new}
use Rattle.perm_meaning.proofs.Evaluator.Ties.Running.{resumed-by}
use Rattle.perm_meaning.proofs.Evaluator.Waits.{resumed-full, resumed-stuck}

-- no variables refer to no object
pub none-below : (n : ℕ) → AllBelow n []
none-below n x v e = none-some e

-- ---------- what it means ----------
module _ (u : Tables) (at : Span) (s : State) (i : Instruction) (o : Own) (t : Stored) (code : code_at u s.own.«method» s.control.spot ≡ Do at i (code_at u s.own.«method» (behind s.control.spot))) (limit : t.limit ≡ s.heap.limit) (same : o.«method» ≡ s.own.«method») where
  -- what is behind it
  abbrev rest : Code
  rest = code_at u s.own.«method» (behind s.control.spot)

  -- the state after it, whose control isn't moved yet
  abbrev pub done : State
  done = record s { own = o; heap = t }

  module _ (r : Result) (st : Stands u (unspent s) fates.Goes r) where
    -- the moment of the statement
    abbrev here : At
    here = record { again = whole (code_of u) (within s.heap.limit); at = at; turns = s.turns; names = st.names; mark = st.mark; heap = st.heap }

    -- the branch and the objects are at it
    is-tied : IsTied st.names st.mark s.own s.heap st.heap
    is-tied = record { objects = st.objects; vars = st.vars; unborn = running-new st.heap.objects st.mark st.waits st.new }

    -- what is meant of it comes to the result
    means-so : (x : Result) → meant (code_of u) i here s.own s.heap.limit ≡ x → resumed (code_of u) (within s.heap.limit) st.waits (then_do x (whole (code_of u) (within s.heap.limit) rest)) ≡ r
    means-so x e =
        sym (resumed-by (code_of u) s.heap.limit st.waits at i rest st.names st.mark s.turns s.own st.heap x e)
        ∙ sym (ap (λ (c : Code). resumed (code_of u) (within s.heap.limit) st.waits (whole (code_of u) (within s.heap.limit) c (moment_by st.names st.mark st.heap (suc s.turns) s.own))) code)
        ∙ st.comes.is

    -- the frames stand for what they did
    still-stand : (later : Names) (k : Heap) → Grows st.names st.mark s.heap st.heap later t k → AllStand u later s.own.«method» s.control.frames st.waits
    still-stand later k g = all-stand-later u (length s.heap.objects) st.names later g.same s.own.«method» s.control.frames st.waits st.frames st.comes.stand

    -- it goes on
    goes : (later : Names) (next : Mark) (k : Heap) → HasGone (code_of u) i here s.own s.heap o t later next k → Stands u (step_state steps.Goes done) fates.Goes r
    goes later next k g = record {
      names = later;
      mark = next;
      heap = k;
      waits = st.waits;
      objects = g.tied.objects;
      vars = g.tied.vars;
      frames = frames-more (length s.heap.objects) (length t.objects) g.grows.more s.control.frames st.frames;
      value = tt;
      new = step-new st.heap.objects k.objects st.mark next st.waits g.grows.gives g.path g.tied.unborn st.new;
      comes =
          subst (λ (l : ℕ). AmountsTo u (within l) later o.«method» s.control.frames st.waits (whole (code_of u) (within l) (code_at u o.«method» (behind s.control.spot)) (moment_by later next k s.turns o)) r) (sym limit)
          (subst (λ (m : ℕ). AmountsTo u (within s.heap.limit) later m s.control.frames st.waits (whole (code_of u) (within s.heap.limit) (code_at u m (behind s.control.spot)) (moment_by later next k s.turns o)) r) (sym same)
          (record { stand = still-stand later k g.grows; is = means-so (Well (moment_by later next k s.turns o)) g.means }));
    }

    -- it traps
    traps : (kind : TrapKind) (later : Names) (k : Heap) → HasTrapped (code_of u) i here kind s.own s.heap o t later k → Stands u (step_state (steps.Traps kind) done) (fates.Fails (failures.Trapped kind at)) r
    traps kind later k g =
        let grown = grown-new st.heap.objects k.objects st.mark st.waits g.grows.gives st.new in
        record {
          names = later;
          mark = grown.0;
          heap = k;
          waits = st.waits;
          objects = g.grows.tied;
          vars = none-below (length t.objects);
          frames = frames-more (length s.heap.objects) (length t.objects) g.grows.more s.control.frames st.frames;
          value = tt;
          new = grown.2;
          comes =
              subst (λ (l : ℕ). AmountsTo u (within l) later o.«method» s.control.frames st.waits (Fails (Trapped kind at) s.turns o.printed k) r) (sym limit)
              (subst (λ (m : ℕ). AmountsTo u (within s.heap.limit) later m s.control.frames st.waits (Fails (Trapped kind at) s.turns o.printed k) r) (sym same)
              (record { stand = still-stand later k g.grows; is = means-so (Fails (Trapped kind at) s.turns o.printed k) g.means }));
        }

    -- whatever comes of it
    stepped : (q : Step) → stepping.Comes (code_of u) i here s.own s.heap o t q → Means u (step_state q done) (step_fate at q) r
    stepped steps.Goes g = goes g.0 g.1 g.2 g.3
    stepped (steps.Traps kind) g = traps kind g.0 g.1 g.2
    stepped steps.Full e = sym (resumed-full (code_of u) (within s.heap.limit) st.waits) ∙ means-so Full e
    stepped steps.Sticks e = sym (resumed-stuck (code_of u) (within s.heap.limit) st.waits) ∙ means-so Stuck e

  -- ---------- sizes ----------
  -- the state stays within the limits
  step-small : (q : Step) → IsSmall (unspent s) → IsSmall (step_state q done)
  step-small steps.Goes is = record { turns = omega (arith, is.turns); limit = omega (arith, limit, is.limit); parents = is.parents }
  step-small (steps.Traps k) is = record { turns = omega (arith, is.turns); limit = omega (arith, limit, is.limit); parents = is.parents }
  step-small steps.Full is = record { turns = omega (arith, is.turns); limit = omega (arith, limit, is.limit); parents = is.parents }
  step-small steps.Sticks is = record { turns = omega (arith, is.turns); limit = omega (arith, limit, is.limit); parents = is.parents }

  -- less is left of the run
  step-less : (q : Step) → left_of_run (step_state q done) (step_fate at q) < left_of_run (unspent s) fates.Goes
  step-less steps.Goes = omega arith
  step-less (steps.Traps k) = omega arith
  step-less steps.Full = omega arith
  step-less steps.Sticks = omega arith

  -- ---------- the next state ----------
  -- the turn is taken
  pub step-next : (q : Step) → IsStep (code_of u) i s.own s.heap o t q → IsNext u (unspent s) fates.Goes (step_state q done) (step_fate at q)
  step-next q step = record { means = λ r st. stepped r st q (step (here r st) (is-tied r st)); small = step-small q; less = step-less q }

-- the same of a statement that may be a simple one
pub may-turn : (u : Tables) (at : ℕ) (d : Stmt) (s new : State) (o : Own) (t : Stored) (q : Step) (f : Fate) (p : Option Instruction) → IsResolved u → ComesNext u s at d → p ≡ simple_of (setting_at u s.own.«method») d.kind
    → MayStep (code_of u) p s.own s.heap o t (Some q) → t.limit ≡ s.heap.limit → o.«method» ≡ s.own.«method» → new ≡ step_state q (record s { own = o; heap = t }) → f ≡ step_fate d.span q → MayTurn u p s new (Some f)
may-turn u at d s new o t q f None is next e step limit same state fate = none-some (sym step.0)
may-turn u at d s new o t q f (Some i) is next e (a, b, step) limit same state fate =
    let rest = code_at u s.own.«method» (behind s.control.spot) in
    let code = code-next u s.own.«method» s.control.spot.part s.control.spot.at at next.next ∙ code-simple u s.own.«method» at d rest is.formed.placed next.here i (sym e) in
    let turn = step-next u d.span s i o t code limit same q (subst (IsStep (code_of u) i s.own s.heap o t) (sym (some-inj b)) step) in (
      f,
      refl,
      subst (λ (f : Fate). IsNext u (unspent s) fates.Goes new f) (sym fate) (subst (λ (n : State). IsNext u (unspent s) fates.Goes n (step_fate d.span q)) (sym state) turn),
    )
