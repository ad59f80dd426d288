-- The turn of a call statement, where other code waits.
use Rattle.std.proofs.Common.{◌≡◌, ◌∙◌, ℕ, suc, Bool, List, ◌∷◌, Option, Some, None, refl, sym, ap}
use Rattle.std.specs.Prelude.{slice_get}
use Rattle.perm_tree.specs.declared.ast.Method.{Method}
use Rattle.perm_tree.specs.declared.ast.Rhs.{Rhs}
use Rattle.perm_tree.specs.declared.ast.Rhs.TheVariants as rhs
use Rattle.perm_tree.specs.declared.ast.Span.{Span}
use Rattle.perm_tree.specs.declared.ast.Stmt.{Stmt}
use Rattle.perm_tree.specs.declared.ast.StmtKind.{StmtKind}
use Rattle.perm_tree.specs.declared.ast.StmtKind.TheVariants as kinds
use Rattle.perm_tree.specs.declared.errors.TrapKind.{TrapKind}
use Rattle.perm_tree.specs.Code.{Code, Do, Instruction, Routine}
use Rattle.perm_tree.specs.CodeNames.{Setting, var_at}
use Rattle.perm_tree.specs.CodeOf.{assignment, code_of, codes_of, kind_code, stmt_code}
use Rattle.perm_tree.specs.InBody.{method_at, setting_at}
use Rattle.perm_tree.specs.Places.{IsPlaced}
use Rattle.perm_tree.specs.Resolves.{IsResolved}
use Rattle.perm_tree.specs.UnitTables.{Tables}
use Rattle.perm_tree.proofs.CodeLaws.{stmt_code-is}
use Rattle.perm_meaning.specs.declared.eval.calls.Call.{Call}
use Rattle.perm_meaning.specs.declared.eval.calls.Callee.TheVariants as callees
use Rattle.perm_meaning.specs.declared.eval.own.Own as owned
use Rattle.perm_meaning.specs.declared.eval.parts.Part.TheVariants.{Body}
use Rattle.perm_meaning.specs.Evaluator.BegunCalls.{IsCallOf}
use Rattle.perm_meaning.specs.Effects.{Calls, Halts, Tick, effect}
use Rattle.perm_meaning.specs.Expressions.{tagged}
use Rattle.perm_meaning.specs.Evaluator.CallStatements.{call_in, call_into}
use Rattle.perm_meaning.specs.Machine.{Trapped}
use Rattle.perm_meaning.specs.Meaning.{Fails, Stuck}
use Rattle.perm_meaning.specs.NamedHeap.{Heap, marks}
use Rattle.perm_meaning.specs.Names.{Mark}
use Rattle.perm_meaning.specs.Evaluator.NumberedValues.{Names}
use Rattle.perm_meaning.specs.Evaluator.Parts.{code_from}
use Rattle.perm_meaning.specs.Evaluator.SimpleStatements.{own_by}
use Rattle.perm_meaning.specs.Evaluator.Waits.{Waiting, ForCall, resumed}
use Rattle.perm_meaning.specs.Evaluator.WholeCode.{whole}
use Rattle.perm_meaning.proofs.Leads.{some-inj, none-some}
use Rattle.perm_meaning.proofs.Evaluator.Routines.{routine-gone, routine-there}
use Rattle.perm_meaning.proofs.Evaluator.Waits.{simple-calls, simple-sticks, simple-traps}

-- ---------- the code of a call statement ----------
assignment-call : (k : Setting) (codes : List (Code → Code)) (s : Stmt) (x : ℕ) (r : Rhs) (i : Instruction) (rest : Code) → call_into k x r ≡ Some i → assignment k codes s x r rest ≡ Do s.span i rest
assignment-call k codes s x (rhs.Call c) i rest e = ap (λ j. Do s.span j rest) (some-inj e)
assignment-call k codes s x (rhs.Value a) i rest e = none-some e
assignment-call k codes s x (rhs.Field y f) i rest e = none-some e
assignment-call k codes s x (rhs.TakeField y f) i rest e = none-some e
assignment-call k codes s x (rhs.Item y n) i rest e = none-some e
assignment-call k codes s x (rhs.New c) i rest e = none-some e
assignment-call k codes s x (rhs.NewArray n) i rest e = none-some e
assignment-call k codes s x (rhs.Recover b w give) i rest e = none-some e

kind-call : (k : Setting) (codes : List (Code → Code)) (s : Stmt) (kind : StmtKind) (i : Instruction) (rest : Code) → call_in k kind ≡ Some i → kind_code k codes s kind rest ≡ Do s.span i rest
kind-call k codes s (kinds.Call c) i rest e = ap (λ j. Do s.span j rest) (some-inj e)
kind-call k codes s (kinds.Assign t x r) i rest e = assignment-call k codes s (var_at k x) r i rest e
kind-call k codes s (kinds.Declare t x) i rest e = none-some e
kind-call k codes s (kinds.SetField y f a) i rest e = none-some e
kind-call k codes s (kinds.SetItem y n a) i rest e = none-some e
kind-call k codes s (kinds.Print n) i rest e = none-some e
kind-call k codes s (kinds.If n a b) i rest e = none-some e
kind-call k codes s (kinds.While n a) i rest e = none-some e
kind-call k codes s (kinds.Par a b) i rest e = none-some e

-- a statement that is a call does it and goes on with the rest
pub code-invokes : (u : Tables) (m at : ℕ) (s : Stmt) (rest : Code) (i : Instruction) → IsPlaced u.program → slice_get u.program.stmts at ≡ Some s → call_in (setting_at u m) s.kind ≡ Some i
    → stmt_code (setting_at u m) at rest ≡ Do s.span i rest
code-invokes u m at s rest i placed here e =
    stmt_code-is (setting_at u m) at s rest placed here ∙ kind-call (setting_at u m) (codes_of (setting_at u m)) s s.kind i rest e

-- ---------- the code of a method ----------
-- a routine that is there has the code of its method's body
pub routine-code : (u : Tables) (m : ℕ) (r : Routine) → IsResolved u → slice_get (code_of u).routines m ≡ Some r → r.code ≡ code_from u m Body 0
routine-code u m r is there = go (method_at u m) refl
  where
    go : (o : Option Method) → method_at u m ≡ o → r.code ≡ code_from u m Body 0
    go None e = none-some (sym (routine-gone u m is e) ∙ there)
    go (Some d) e =
        let x = routine-there u m d is e in
        ap (λ (q : Routine). q.code) (some-inj (sym there ∙ x.1.there)) ∙ x.1.code

-- ---------- turns ----------
-- what a branch has in the method of a call
abbrev pub inside : owned.Own → Call → owned.Own
inside o c = record o { vars = c.vars; «method» = c.«method»; depth = c.depth }

module _ (u : Tables) (fits : ℕ → Bool) (ws : List Waiting) (t : ℕ) (h : Heap) (names : Names) (mark : Mark) (old new : owned.Own) (at : Span) (i : Instruction) (rest : Code) where
  -- a call that begins runs the body of its method, and the caller waits as it is after its arguments
  pub call-goes : (c : Call) → IsResolved u → IsCallOf names (code_of u) (own_by names mark new) (callees.Begins c) (effect tagged (code_of u) marks i (own_by names mark old))
      → resumed (code_of u) fits ws (whole (code_of u) fits (Do at i rest) (record { turns = suc t; own = own_by names mark old; heap = h }))
      ≡ resumed (code_of u) fits (ForCall (own_by names mark new) c.into rest ∷ ws) (whole (code_of u) fits (code_from u c.«method» Body 0) (record { turns = t; own = own_by names mark (inside new c); heap = h }))
  call-goes c is b =
      let l = own_by names mark new in
      let code : b.calling.code ≡ code_from u c.«method» Body 0 = b.code ∙ routine-code u c.«method» b.routine is b.there in
      simple-calls (code_of u) fits ws t (own_by names mark old) h at i rest Tick (λ w. Calls b.calling l) b.turn None refl b.calling l refl
      ∙ (λ j. resumed (code_of u) fits (ForCall l (b.into_is j) rest ∷ ws) (whole (code_of u) fits (code j) (record { turns = t; own = record l { vars = b.first j; routine = b.«method» j; depth = sym b.deeper j }; heap = h })))

  -- one that traps
  pub call-halts : (k : TrapKind) → IsCallOf names (code_of u) (own_by names mark new) (callees.Halts k) (effect tagged (code_of u) marks i (own_by names mark old))
      → resumed (code_of u) fits ws (whole (code_of u) fits (Do at i rest) (record { turns = suc t; own = own_by names mark old; heap = h }))
      ≡ resumed (code_of u) fits ws (Fails (Trapped k at) t old.printed h)
  call-halts k b = simple-traps (code_of u) fits ws t (own_by names mark old) h at i rest Tick (λ w. Halts k) b None refl k refl

  -- one of which nothing is meant
  pub call-stuck : IsCallOf names (code_of u) (own_by names mark new) callees.Sticks (effect tagged (code_of u) marks i (own_by names mark old))
      → resumed (code_of u) fits ws (whole (code_of u) fits (Do at i rest) (record { turns = suc t; own = own_by names mark old; heap = h })) ≡ Stuck
  call-stuck b = simple-sticks (code_of u) fits ws t (own_by names mark old) h at i rest b
