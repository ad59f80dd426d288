-- A method of a unit is there for the typing rules: what the unit keeps, in the words of `MethodBodies`.
use Rattle.std.proofs.Common.{◌≡◌, ◌∙◌, ◌<◌, ◌≤◌, ℕ, length, Some, None, refl, sym, ap, subst, arith}
use Rattle.std.specs.Prelude.{get_or, map, slice_get}
use Rattle.std.proofs.lemmas.Option.{get_or_from_slice_get, slice_get_past, slice_get_within}
use Rattle.perm_tree.specs.declared.ast.Method.{Method}
use Rattle.perm_tree.specs.declared.ast.Stmt.{Stmt}
use Rattle.perm_tree.specs.declared.bodies.Action.TheVariants.{Return}
use Rattle.perm_tree.specs.declared.bodies.Argument.{Argument}
use Rattle.perm_tree.specs.declared.bodies.Entry.{Entry}
use Rattle.perm_tree.specs.declared.bodies.Step.{Step}
use Rattle.perm_tree.specs.declared.bodies.Bodies.{Bodies}
use Rattle.perm_tree.specs.declared.unit.MethodTable.{MethodTable}
use Rattle.perm_tree.specs.BodyTerms.{argument_of, IsArgumentIn}
use Rattle.perm_tree.specs.CodeOf.{code_of, routine}
use Rattle.perm_tree.specs.InBody.{method_if, vars_at, IsStmtOf}
use Rattle.perm_tree.specs.Lookup.{method_of}
use Rattle.perm_tree.specs.Links.{AreBodies}
use Rattle.perm_tree.specs.Resolves.{IsResolved}
use Rattle.perm_tree.specs.StatementSteps.{HasReturnOf, HasStepOf, Says}
use Rattle.perm_tree.specs.UnitTables.{Tables}
use Rattle.perm_tree.proofs.TableLaws.{AllMethods, length-routines_of, tables_of-methods}
use Rattle.perm_rules.specs.MethodBodies.{Body, IsBody, IsMethodTable, IsRoutineOf, ReturnsBack, context_of, setting_of}
use Rattle.perm_tree.proofs.HeldStatements.{element-there}
use Rattle.perm_rules.proofs.MethodsAtPlace.{method-there, types-there}
use Rattle.perm_rules.proofs.MethodStatements.{stmt-there}

pub body-there : (u : Tables) (b : Bodies) (m : ℕ) → IsResolved u → AreBodies u b → m < length u.tables → IsBody (record { unit = u; bodies = b; number = m })
body-there u b m resolved bodies within = go (element-there u.tables m within)
  where
    go : (t : MethodTable) × (slice_get u.tables m ≡ Some t) → IsBody (record { unit = u; bodies = b; number = m })
    go (t, here) =
        let there = method-there u m t resolved here in
        let entry = element-there b.entries m (omega (arith, bodies.linked.entries, slice_get_within (code_of u).routines m (routine u t there.«method») there.found)) in
        record { resolved = resolved; steps = bodies.steps; table = t; tabled = here; «method» = there.«method»; there = ap (method_if u) here ∙ there.is; entry = entry.0; entered = entry.1 }

module _ (b : Body) (is : IsBody b) where
  -- the types of its variables
  pub body-types : (context_of b).vars ≡ map (λ v. v.ty) (vars_at b.unit b.number)
  body-types = types-there b.unit b.number is.table is.resolved is.tabled

  -- a statement of the body, with its step
  pub record HasStmtStep (at : ℕ) : Type 0 where
    pub stmt : Stmt
    pub here : slice_get b.unit.program.stmts at ≡ Some stmt
    pub step : HasStepOf (setting_of b) b.bodies at stmt

  pub stmt-step : (at : ℕ) → IsStmtOf b.unit b.number at → HasStmtStep at
  stmt-step at inside = let (s, here) = stmt-there b.unit is.resolved b.number at inside in record { stmt = s; here = here; step = is.steps.stmts b.number at s (record { inside = inside; here = here }) }

  -- what is read at the place of a statement's step is what the step says
  pub read-says : (at : ℕ) (s : Stmt) (none : Step) → IsStmtOf b.unit b.number at → slice_get b.unit.program.stmts at ≡ Some s → Says (setting_of b) b.bodies s s.kind (get_or b.bodies.steps (get_or b.bodies.places at 0) none).action
  read-says at s none inside here =
      let step = is.steps.stmts b.number at s (record { inside = inside; here = here }) in
      let place : get_or b.bodies.places at 0 ≡ step.place = get_or_from_slice_get b.bodies.places at step.place 0 step.placed in
      let same : get_or b.bodies.steps (get_or b.bodies.places at 0) none ≡ step.step = ap (λ p. get_or b.bodies.steps p none) place ∙ get_or_from_slice_get b.bodies.steps step.place step.step none step.there in
      subst (λ (r : Step). Says (setting_of b) b.bodies s s.kind r.action) (sym same) step.says

  -- the place of a statement's step is there
  pub place-within : (at : ℕ) → IsStmtOf b.unit b.number at → at < length b.bodies.places
  place-within at inside = let h = stmt-step at inside in slice_get_within b.bodies.places at h.step.place h.step.placed

  pub step-within : (at : ℕ) → IsStmtOf b.unit b.number at → get_or b.bodies.places at 0 < length b.bodies.steps
  step-within at inside =
      let h = stmt-step at inside in
      subst (λ p. p < length b.bodies.steps) (sym (get_or_from_slice_get b.bodies.places at h.step.place 0 h.step.placed)) (slice_get_within b.bodies.steps h.step.place h.step.step h.step.there)

  -- the last step of the method is its `return`
  pub last-step : HasReturnOf (setting_of b) b.bodies is.«method» is.entry
  last-step = is.steps.returns b.number is.«method» is.entry is.there is.entered

  pub last-within : (none : Entry) → (get_or b.bodies.entries b.number none).last < length b.bodies.steps
  last-within none =
      subst (λ (e : Entry). e.last < length b.bodies.steps) (sym (get_or_from_slice_get b.bodies.entries b.number is.entry none is.entered)) (slice_get_within b.bodies.steps is.entry.last last-step.step last-step.there)

  -- what is read there is what the method returns
  pub read-last : (entry : Entry) (none : Step) → (get_or b.bodies.steps (get_or b.bodies.entries b.number entry).last none).action ≡ Return last-step.handed
  read-last entry none =
      ap (λ (e : Entry). (get_or b.bodies.steps e.last none).action) (get_or_from_slice_get b.bodies.entries b.number is.entry entry is.entered)
      ∙ (ap (λ (s : Step). s.action) (get_or_from_slice_get b.bodies.steps is.entry.last last-step.step none last-step.there) ∙ last-step.returns)

  pub returns-back : (a : Argument) → a ≡ last-step.handed → ReturnsBack b a
  returns-back a same = record {
    «method» = is.«method»;
    there = is.there;
    value = ap (argument_of b.bodies.operations) same ∙ last-step.value;
    inside = subst (IsArgumentIn b.bodies.operations) (sym same) last-step.inside;
  }

-- the method of a table is there
pub table-there : (u : Tables) (n : ℕ) (t : MethodTable) → IsResolved u → slice_get u.tables n ≡ Some t → IsMethodTable u.program t
table-there u n t resolved here = let there = method-there u n t resolved here in record { «method» = there.«method»; there = there.is }

-- the routine with the number of a table is that of its method
pub routine-there : (u : Tables) (n : ℕ) (t : MethodTable) (d : Method) → IsResolved u → slice_get u.tables n ≡ Some t → method_of u.program t ≡ Some d → IsRoutineOf u n d
routine-there u n t d resolved here is =
    let there = method-there u n t resolved here in
    let same : there.«method» ≡ d = let both : Some there.«method» ≡ Some d = sym there.is ∙ is in cc both in
    record { routine = routine u t d; there = subst (λ (m : Method). slice_get (code_of u).routines n ≡ Some (routine u t m)) same there.found; receiver = refl; result = refl; params = refl }

-- past the last table there is no routine
pub routine-past : (u : Tables) (n : ℕ) → IsResolved u → length u.tables ≤ n → slice_get (code_of u).routines n ≡ None
routine-past u n resolved past =
    let all : AllMethods u.program u.tables = subst (AllMethods u.program) (sym resolved.tables) (tables_of-methods u.program) in
    slice_get_past (code_of u).routines n (omega (arith, past, length-routines_of u u.tables all))
