-- The turn of a call statement, from one state to the next.
use Rattle.std.proofs.Common.{◌≡◌, ◌∙◌, ℕ, suc, ◌<◌, List, ◌∷◌, Option, Some, None, length, refl, sym, ap, subst, arith}
use Rattle.perm_tree.specs.declared.ast.Span.{Span}
use Rattle.perm_tree.specs.declared.ast.Stmt.{Stmt}
use Rattle.perm_tree.specs.declared.errors.TrapKind.{TrapKind}
use Rattle.perm_tree.specs.Code.{Code, Do, Instruction}
use Rattle.perm_tree.specs.CodeOf.{code_of}
use Rattle.perm_tree.specs.InBody.{setting_at}
use Rattle.perm_tree.specs.Resolves.{IsResolved}
use Rattle.perm_tree.specs.UnitTables.{Tables}
use Rattle.perm_meaning.specs.declared.eval.calls.Call.{Call}
use Rattle.perm_meaning.specs.declared.eval.calls.Callee.{Callee}
use Rattle.perm_meaning.specs.declared.eval.calls.Callee.TheVariants as callees
use Rattle.perm_meaning.specs.declared.eval.frames.Failure.TheVariants as failures
use Rattle.perm_meaning.specs.declared.eval.own.Own.{Own}
use Rattle.perm_meaning.specs.declared.eval.state.Fate.{Fate}
use Rattle.perm_meaning.specs.declared.eval.state.Fate.TheVariants as fates
use Rattle.perm_meaning.specs.declared.eval.state.State.{State}
use Rattle.perm_meaning.specs.declared.eval.values.Value.{Value}
use Rattle.perm_meaning.specs.Evaluator.Control.{behind}
use Rattle.perm_meaning.specs.Effects.{effect, ticks, Calling, Calls}
use Rattle.perm_meaning.specs.Expressions.{tagged}
use Rattle.perm_meaning.specs.Evaluator.Fates.{callee_fate, callee_state}
use Rattle.perm_meaning.specs.Evaluator.Frames.{code_at, OneStands}
use Rattle.perm_meaning.specs.Evaluator.CallStatements.{call_in, Invokes, MayInvoke}
use Rattle.perm_meaning.specs.Meaning.{Result}
use Rattle.perm_meaning.specs.Evaluator.Measure.{left_of_run}
use Rattle.perm_meaning.specs.NamedHeap.{marks, Held}
use Rattle.perm_meaning.specs.Names.{Mark}
use Rattle.perm_meaning.specs.Evaluator.NumberedValues.{all_by, Names}
use Rattle.perm_meaning.specs.Evaluator.Runs.{unspent, ComesNext, IsNext, IsSmall, MayTurn, Means, Stands}
use Rattle.perm_meaning.specs.Evaluator.SimpleStatements.{own_by}
use Rattle.perm_meaning.specs.Steps.{within}
use Rattle.perm_meaning.specs.Evaluator.Ties.{moment_by}
use Rattle.perm_meaning.specs.Evaluator.Waits.{resumed, ForCall}
use Rattle.perm_meaning.specs.Evaluator.WholeCode.{whole}
use Rattle.perm_meaning.proofs.Evaluator.CallTurns.{call-goes, call-halts, call-stuck, code-invokes}
use Rattle.perm_meaning.proofs.Leads.{none-some, some-inj}
use Rattle.perm_meaning.proofs.Evaluator.Parts.{code-next}
use Rattle.perm_meaning.proofs.Evaluator.Runs.Simple.{none-below}
use Rattle.perm_meaning.proofs.Evaluator.Ties.Running.{callee-below, caller-below}

-- ---------- what it means ----------
module _ (u : Tables) (is : IsResolved u) (at : Span) (s : State) (i : Instruction) (vs : List (Option Value)) (code : code_at u s.own.«method» s.control.spot ≡ Do at i (code_at u s.own.«method» (behind s.control.spot))) where
  -- what is behind it
  abbrev rest : Code
  rest = code_at u s.own.«method» (behind s.control.spot)

  -- the caller after its arguments
  abbrev caller : Own
  caller = record s.own { vars = vs }

  -- the state after them
  abbrev pub passing : State
  passing = record s { own = record s.own { vars = vs } }

  module _ (r : Result) (st : Stands u (unspent s) fates.Goes r) where
    -- what is due where the call stands
    due : resumed (code_of u) (within s.heap.limit) st.waits (whole (code_of u) (within s.heap.limit) (Do at i rest) (moment_by st.names st.mark st.heap (suc s.turns) s.own)) ≡ r
    due = sym (ap (λ (c : Code). resumed (code_of u) (within s.heap.limit) st.waits (whole (code_of u) (within s.heap.limit) c (moment_by st.names st.mark st.heap (suc s.turns) s.own))) code) ∙ st.comes.is

    -- the method begins
    begins : (c : Call) → Invokes (code_of u) i s.own caller (callees.Begins c) → Stands u (callee_state (callees.Begins c) passing) fates.Goes r
    begins c invokes =
        let n = length s.heap.objects in
        let calls : (names : Names) (mark : Mark) → (c1 : Calling Held) × (effect tagged (code_of u) marks i (own_by names mark s.own) ≡ ticks tagged (Calls c1 (own_by names mark caller))) × (c1.first ≡ all_by names c.vars) =
        λ names mark. ((invokes names mark).calling, (invokes names mark).turn, (invokes names mark).first) in
        record {
          names = st.names;
          mark = st.mark;
          heap = st.heap;
          waits = ForCall (own_by st.names st.mark caller) c.into rest ∷ st.waits;
          objects = st.objects;
          vars = callee-below (code_of u) i s.own caller c.vars n st.vars calls;
          frames = (caller-below (code_of u) i s.own caller c.vars n st.vars calls, st.frames);
          value = tt;
          new = st.new;
          comes = record {
            stand = OneStands (record { own = own_by st.names st.mark caller; vars = refl; routine = refl; is = refl }) st.comes.stand;
            is = sym (call-goes u (within s.heap.limit) st.waits s.turns st.heap st.names st.mark s.own caller at i rest c is (invokes st.names st.mark)) ∙ due;
          };
        }

    -- the call traps
    halts : (k : TrapKind) → Invokes (code_of u) i s.own caller (callees.Halts k) → Stands u (callee_state (callees.Halts k) passing) (fates.Fails (failures.Trapped k at)) r
    halts k invokes = record {
      names = st.names;
      mark = st.mark;
      heap = st.heap;
      waits = st.waits;
      objects = st.objects;
      vars = none-below (length s.heap.objects);
      frames = st.frames;
      value = tt;
      new = st.new;
      comes = record {
        stand = st.comes.stand;
        is = sym (call-halts u (within s.heap.limit) st.waits s.turns st.heap st.names st.mark s.own caller at i rest k (invokes st.names st.mark)) ∙ due;
      };
    }

    -- whatever is found of it
    called : (c : Callee) → Invokes (code_of u) i s.own caller c → Means u (callee_state c passing) (callee_fate at c) r
    called (callees.Begins c) invokes = begins c invokes
    called (callees.Halts k) invokes = halts k invokes
    called callees.Sticks invokes = sym (call-stuck u (within s.heap.limit) st.waits s.turns st.heap st.names st.mark s.own caller at i rest (invokes st.names st.mark)) ∙ due

  -- ---------- sizes ----------
  -- the state stays within the limits
  call-small : (c : Callee) → IsSmall (unspent s) → IsSmall (callee_state c passing)
  call-small (callees.Begins c) is = record { turns = omega (arith, is.turns); limit = is.limit; parents = is.parents }
  call-small (callees.Halts k) is = record { turns = omega (arith, is.turns); limit = is.limit; parents = is.parents }
  call-small callees.Sticks is = record { turns = omega (arith, is.turns); limit = is.limit; parents = is.parents }

  -- less is left of the run
  call-less : (c : Callee) → left_of_run (callee_state c passing) (callee_fate at c) < left_of_run (unspent s) fates.Goes
  call-less (callees.Begins c) = omega arith
  call-less (callees.Halts k) = omega arith
  call-less callees.Sticks = omega arith

  -- ---------- the next state ----------
  -- the turn is taken
  pub call-next : (c : Callee) → Invokes (code_of u) i s.own (record s.own { vars = vs }) c → IsNext u (unspent s) fates.Goes (callee_state c passing) (callee_fate at c)
  call-next c invokes = record { means = λ r st. called r st c invokes; small = call-small c; less = call-less c }

-- the same of a statement that may be a call
pub may-call : (u : Tables) (at : ℕ) (d : Stmt) (s new : State) (o : Own) (c : Callee) (f : Fate) (p : Option Instruction) → IsResolved u → ComesNext u s at d → p ≡ call_in (setting_at u s.own.«method») d.kind → MayInvoke (code_of u) p s.own o (Some c)
    → o ≡ record s.own { vars = o.vars } → new ≡ callee_state c (record s { own = o }) → f ≡ callee_fate d.span c → MayTurn u p s new (Some f)
may-call u at d s new o c f None is next e invokes same state fate = none-some (sym invokes.0)
may-call u at d s new o c f (Some i) is next e (a, b, invokes) same state fate =
    let rest = code_at u s.own.«method» (behind s.control.spot) in
    let code = code-next u s.own.«method» s.control.spot.part s.control.spot.at at next.next ∙ code-invokes u s.own.«method» at d rest i is.formed.placed next.here (sym e) in
    let found : Invokes (code_of u) i s.own (record s.own { vars = o.vars }) c = subst (λ (o : Own). Invokes (code_of u) i s.own o c) same (subst (Invokes (code_of u) i s.own o) (sym (some-inj b)) invokes) in
    let turn = call-next u is d.span s i o.vars code c found in
    let after : new ≡ callee_state c (record s { own = record s.own { vars = o.vars } }) = state ∙ ap (λ (o : Own). callee_state c (record s { own = o })) same in (
      f,
      refl,
      subst (λ (f : Fate). IsNext u (unspent s) fates.Goes new f) (sym fate) (subst (λ (n : State). IsNext u (unspent s) fates.Goes n (callee_fate d.span c)) (sym after) turn),
    )
