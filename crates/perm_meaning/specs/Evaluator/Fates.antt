-- Where a run goes at a statement without blocks, by what has come of it.
use Rattle.std.specs.Prelude.{[]}
use Rattle.perm_tree.specs.declared.ast.Span.{Span}
use Rattle.perm_meaning.specs.declared.eval.calls.Call.{Call}
use Rattle.perm_meaning.specs.declared.eval.calls.Callee.{Callee}
use Rattle.perm_meaning.specs.declared.eval.calls.Callee.TheVariants as callees
use Rattle.perm_meaning.specs.declared.eval.frames.Caller.{Caller}
use Rattle.perm_meaning.specs.declared.eval.frames.Failure.TheVariants as failures
use Rattle.perm_meaning.specs.declared.eval.frames.Frame.TheVariants as frames
use Rattle.perm_meaning.specs.declared.eval.frames.Spot.{Spot}
use Rattle.perm_meaning.specs.declared.eval.own.Own.{Own}
use Rattle.perm_meaning.specs.declared.eval.parts.Part.TheVariants as parts
use Rattle.perm_meaning.specs.declared.eval.state.Fate.{Fate}
use Rattle.perm_meaning.specs.declared.eval.state.Fate.TheVariants as fates
use Rattle.perm_meaning.specs.declared.eval.state.State.{State}
use Rattle.perm_meaning.specs.declared.eval.step.Step.{Step}
use Rattle.perm_meaning.specs.declared.eval.step.Step.TheVariants as steps
use Rattle.perm_meaning.specs.Evaluator.Control.{behind, entered, passed}

-- ---------- traps ----------
-- a branch that has trapped has no variables any more
abbrev pub trapped_state : State → State
trapped_state s = record s { own = record s.own { vars = [] } }

-- ---------- simple statements ----------
-- the fate where this has come of the statement at a span
abbrev pub step_fate : Span → Step → Fate
step_fate at steps.Goes = fates.Goes
step_fate at (steps.Traps k) = fates.Fails (failures.Trapped k at)
step_fate at steps.Full = fates.Full
step_fate at steps.Sticks = fates.Sticks

-- and the state: the code goes on behind a statement that went well
abbrev pub step_state : Step → State → State
step_state steps.Goes s = record s { control = passed s.control }
step_state (steps.Traps k) s = trapped_state s
step_state steps.Full s = s
step_state steps.Sticks s = s

-- ---------- calls ----------
-- the fate where this is found of the call at a span
abbrev pub callee_fate : Span → Callee → Fate
callee_fate at (callees.Begins c) = fates.Goes
callee_fate at (callees.Halts k) = fates.Fails (failures.Trapped k at)
callee_fate at callees.Sticks = fates.Sticks

-- what a branch has in the method of a call
abbrev pub called_own : Call → Own → Own
called_own c o = record o { vars = c.vars; «method» = c.«method»; depth = c.depth }

-- what waits of a caller
abbrev pub caller_at : Call → Own → Spot → Caller
caller_at c o rest = record { vars = o.vars; «method» = o.«method»; into = c.into; rest = rest }

-- the state where this is found of a call: one that begins runs its method, and the caller waits
abbrev pub callee_state : Callee → State → State
callee_state (callees.Begins c) s = record s { own = called_own c s.own; control = entered parts.Body (frames.Call (caller_at c s.own (behind s.control.spot))) s.control }
callee_state (callees.Halts k) s = trapped_state s
callee_state callees.Sticks s = s
