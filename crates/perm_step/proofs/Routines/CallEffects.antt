-- What a call asks and does on words: its receiver and its arguments give their words one after the other, and then its method begins.
use Rattle.std.proofs.Common.{◌≡◌, ◌∙◌, ℕ, ◌<◌, ◌≤◌, Bool, true, false, List, [], ◌∷◌, ◌++◌, length, map, Option, Some, None, refl, sym, ap, inl, inr, append_assoc, lt-ltb}
use Rattle.std.specs.Prelude.{nat_eq, nat_lt, cond, slice_get}
use Rattle.std.proofs.lemmas.Bool.{eqb-true, le-ltb}
use Rattle.std.proofs.lemmas.List.{append-nil}
use Rattle.perm_tree.specs.declared.ast.Span.{Span}
use Rattle.perm_tree.specs.declared.bodies.Argument.{Argument}
use Rattle.perm_tree.specs.declared.bodies.Operation.{Operation}
use Rattle.perm_tree.specs.declared.errors.TrapKind.{TrapKind}
use Rattle.perm_tree.specs.declared.errors.TrapKind.TheVariants.{StackOverflow}
use Rattle.perm_tree.specs.BodyTerms.{argument_of}
use Rattle.perm_tree.specs.Code as code
use Rattle.perm_tree.specs.Code.{Code, Tie, Routine, UnitCode}
use Rattle.perm_meaning.specs.Custody.{Copies}
use Rattle.perm_meaning.specs.Effects.{Tick, Calls, Resumption, Does, Sticks, depth_limit, choose, first_vars, ticks, halts, with_vars, on_value, on_referred, on_argument, on_arguments, on_call, on_routine, below_limit}
use Rattle.perm_meaning.specs.Expressions.{clear, held, look_up, value_of}
use Rattle.perm_meaning.specs.Machine.{Frame, turn_op}
use Rattle.perm_meaning.specs.Turns.{turn_of}
use Rattle.perm_meaning.specs.Values.{Eval, Gives, Traps, Mistyped, Referred, ToNull, ToObject, NoReference}
use Rattle.perm_meaning.specs.WordHeap.{NoMark, Own, worded}
use Rattle.perm_meaning.specs.Words.{words, reference_in}
use Rattle.perm_step.specs.Given.{IsGiven, IsTrap, ArgumentsGive, ArgumentsTrap, IsNullBy, IsObjectBy}
use Rattle.perm_step.proofs.WordMachine.Cells.{clear_same}

-- what a statement does in its turn, on words
abbrev pub Effect : Type 0
Effect = Resumption ℕ ℕ NoMark

-- the turn isn't stuck
abbrev pub Runs : Effect → Type 0
Runs f = f ≡ Sticks → ⊥

-- ---------- values ----------
-- a word that is given is gone on with
pub value-goes : (e : Eval ℕ) (w : ℕ) (go : ℕ → Effect) → IsGiven e w → Runs (on_value words e go) → on_value words e go ≡ go w
value-goes (Gives v) w go is runs = ap go (sym is)
value-goes (Traps k) w go is runs = absurd is
value-goes Mistyped w go is runs = absurd (runs refl)

-- what traps halts
pub value-halts : (e : Eval ℕ) (k : TrapKind) (go : ℕ → Effect) → IsTrap e k → Runs (on_value words e go) → on_value words e go ≡ halts words k
value-halts (Gives v) k go is runs = absurd is
value-halts (Traps j) k go is runs = ap (λ x. halts words x) (sym is)
value-halts Mistyped k go is runs = absurd (runs refl)

-- a variable whose turn isn't stuck gives a word
pub variable-gives : (o : Option ℕ) (go : ℕ → Effect) → Runs (on_value words (held words o) go) → (w : ℕ) × IsGiven (held words o) w
variable-gives None go runs = absurd (runs refl)
variable-gives (Some w) go runs = (w, refl)

-- ---------- arguments ----------
-- an argument leaves all words, whether it is consumed or not
argument-is : (a : code.Argument) (vs : List ℕ) (go : ℕ → List ℕ → Effect) → on_argument words a vs go ≡ on_value words (value_of words a vs) (λ v. go v vs)
argument-is (code.Expression e) vs go = refl
argument-is (code.Consumed y) vs go = ap (λ (ws : List ℕ). on_value words (look_up words vs y) (λ v. go v ws)) (clear_same vs y)

module _ (all : List Operation) (vs : List ℕ) where
  -- some arguments, behind those that are found already
  abbrev pub by_arguments : List Argument → List ℕ → (List ℕ → List ℕ → Effect) → Effect
  by_arguments args found go = on_arguments words (map (argument_of all) args) found vs go

  -- arguments that give these words are gone on with
  pub arguments-go : (args : List Argument) (ws found : List ℕ) (go : List ℕ → List ℕ → Effect) → ArgumentsGive all vs args ws → Runs (by_arguments args found go) → by_arguments args found go ≡ go (found ++ ws) vs
  arguments-go [] [] found go gives runs = ap (λ (l : List ℕ). go l vs) (sym (append-nil found))
  arguments-go [] (w ∷ ws) found go gives runs = absurd gives
  arguments-go (a ∷ args) [] found go gives runs = absurd gives
  arguments-go (a ∷ args) (w ∷ ws) found go gives runs =
      let next = λ (v : ℕ) (l : List ℕ). on_arguments words (map (argument_of all) args) (found ++ v ∷ []) l go in
      let is = argument-is (argument_of all a) vs next in
      let here = value-goes (value_of words (argument_of all a) vs) w (λ v. next v vs) gives.0 (λ none. runs (is ∙ none)) in
      let rest = arguments-go args ws (found ++ w ∷ []) go gives.1 (λ none. runs (is ∙ here ∙ none)) in
      is ∙ here ∙ rest ∙ ap (λ (l : List ℕ). go l vs) (append_assoc found (w ∷ []) ws)

  -- arguments of which the first that gives no word traps so
  pub arguments-halt : (args : List Argument) (k : TrapKind) (found : List ℕ) (go : List ℕ → List ℕ → Effect) → ArgumentsTrap all vs args k → Runs (by_arguments args found go) → by_arguments args found go ≡ halts words k
  arguments-halt [] k found go traps runs = absurd traps
  arguments-halt (a ∷ args) k found go (inl here) runs =
      let next = λ (v : ℕ) (l : List ℕ). on_arguments words (map (argument_of all) args) (found ++ v ∷ []) l go in
      let is = argument-is (argument_of all a) vs next in
      is ∙ value-halts (value_of words (argument_of all a) vs) k (λ v. next v vs) here (λ none. runs (is ∙ none))
  arguments-halt (a ∷ args) k found go (inr (w, gives, later)) runs =
      let next = λ (v : ℕ) (l : List ℕ). on_arguments words (map (argument_of all) args) (found ++ v ∷ []) l go in
      let is = argument-is (argument_of all a) vs next in
      let here = value-goes (value_of words (argument_of all a) vs) w (λ v. next v vs) gives (λ none. runs (is ∙ none)) in
      is ∙ here ∙ arguments-halt args k (found ++ w ∷ []) go later (λ none. runs (is ∙ here ∙ none))

  -- ---------- the receiver too ----------
  -- a receiver that is consumed comes first, and one that isn't comes last; it has the same word
  abbrev pub by_call : Bool → ℕ → List Argument → (ℕ → List ℕ → List ℕ → Effect) → Effect
  by_call consumed y args go = on_call words consumed y (map (argument_of all) args) vs go

  -- both are gone on with
  pub call-goes : (consumed : Bool) (y : ℕ) (args : List Argument) (this : ℕ) (found : List ℕ) (go : ℕ → List ℕ → List ℕ → Effect) → IsGiven (look_up words vs y) this → ArgumentsGive all vs args found → Runs (by_call consumed y args go)
      → by_call consumed y args go ≡ go this found vs
  call-goes true y args this found go receiver gives runs =
      let first = value-goes (look_up words vs y) this (λ v. on_arguments words (map (argument_of all) args) [] (clear words vs y) (λ found vs. go v found vs)) receiver runs in
      let same = ap (λ (ws : List ℕ). on_arguments words (map (argument_of all) args) [] ws (λ found vs. go this found vs)) (clear_same vs y) in
      first ∙ same ∙ arguments-go args found [] (λ found vs. go this found vs) gives (λ none. runs (first ∙ same ∙ none))
  call-goes false y args this found go receiver gives runs =
      let first = arguments-go args found [] (λ found vs. on_value words (look_up words vs y) (λ v. go v found vs)) gives runs in
      first ∙ value-goes (look_up words vs y) this (λ v. go v found vs) receiver (λ none. runs (first ∙ none))

  -- an argument that traps halts, whatever the receiver is
  pub call-halts : (consumed : Bool) (y : ℕ) (args : List Argument) (k : TrapKind) (go : ℕ → List ℕ → List ℕ → Effect) → ArgumentsTrap all vs args k → Runs (by_call consumed y args go) → by_call consumed y args go ≡ halts words k
  call-halts true y args k go traps runs =
      let rest = λ (v : ℕ). on_arguments words (map (argument_of all) args) [] (clear words vs y) (λ found vs. go v found vs) in
      let this = variable-gives (slice_get vs y) rest runs in
      let first = value-goes (look_up words vs y) this.0 rest this.1 runs in
      let same = ap (λ (ws : List ℕ). on_arguments words (map (argument_of all) args) [] ws (λ found vs. go this.0 found vs)) (clear_same vs y) in
      first ∙ same ∙ arguments-halt args k [] (λ found vs. go this.0 found vs) traps (λ none. runs (first ∙ same ∙ none))
  call-halts false y args k go traps runs = arguments-halt args k [] (λ found vs. on_value words (look_up words vs y) (λ v. go v found vs)) traps runs

-- ---------- the method ----------
-- a reference that isn't null is gone on with
object-goes : (x : Referred ℕ) (f : Effect) → IsObjectBy x → Runs (on_referred words x (λ p n. f)) → on_referred words x (λ p n. f) ≡ f
object-goes (ToObject p n) f is runs = refl
object-goes ToNull f is runs = absurd is
object-goes NoReference f is runs = absurd (runs refl)

-- one that is null halts
null-halts : (x : Referred ℕ) (k : TrapKind) (f : Effect) → IsNullBy x k → Runs (on_referred words x (λ p n. f)) → on_referred words x (λ p n. f) ≡ halts words k
null-halts (ToObject p n) k f is runs = absurd is
null-halts ToNull k f is runs = ap (λ x. halts words x) (sym is)
null-halts NoReference k f is runs = absurd (runs refl)

-- a method that is there and takes so many arguments
pub record Takes (u : UnitCode) (m : ℕ) (found : List ℕ) : Type 0 where
  pub routine : Routine
  pub there : slice_get u.routines m ≡ Some routine
  pub count : length found ≡ length routine.params

-- a method whose turn isn't stuck is there
routine-goes : (u : UnitCode) (m : ℕ) (found : List ℕ) (go : Routine → Effect) → Runs (on_routine words (slice_get u.routines m) found go) → (r : Takes u m found) × (on_routine words (slice_get u.routines m) found go ≡ go r.routine)
routine-goes u m found go runs = by (slice_get u.routines m) refl
  where
    counted : (r : Routine) (q : Bool) → slice_get u.routines m ≡ Some r → nat_eq (length found) (length r.params) ≡ q → (t : Takes u m found) × (on_routine words (slice_get u.routines m) found go ≡ go t.routine)
    counted r true some is = (record { routine = r; there = some; count = eqb-true (length found) (length r.params) is }, ap (λ o. on_routine words o found go) some ∙ ap (λ q. choose q go (λ r. Sticks) r) is)
    counted r false some is = absurd (runs (ap (λ o. on_routine words o found go) some ∙ ap (λ q. choose q go (λ r. Sticks) r) is))

    by : (o : Option Routine) → slice_get u.routines m ≡ o → (t : Takes u m found) × (on_routine words (slice_get u.routines m) found go ≡ go t.routine)
    by None none = absurd (runs (ap (λ o. on_routine words o found go) none))
    by (Some r) some = counted r (nat_eq (length found) (length r.params)) some refl

module _ (u : UnitCode) (l : Own) (into : Option ℕ) (tie : Tie) (y m : ℕ) where
  -- the call that begins
  abbrev pub calling : ℕ → List ℕ → List ℕ → Routine → Effect
  calling this found vs r = below_limit words l.depth (Calls (record { routine = m; code = r.code; first = first_vars words r this found; tie = tie; receiver = this; y = y; into = into }) (with_vars words l vs))

  -- what comes after the receiver and the arguments
  abbrev pub begins : ℕ → List ℕ → List ℕ → Effect
  begins this found vs = on_referred words (reference_in this) (λ p n. on_routine words (slice_get u.routines m) found (λ r. calling this found vs r))

  -- a method begins whose receiver isn't null
  begins-at : (this : ℕ) (found vs : List ℕ) → IsObjectBy (reference_in this) → Runs (begins this found vs) → (r : Takes u m found) × (begins this found vs ≡ calling this found vs r.routine)
  begins-at this found vs object runs =
      let first = object-goes (reference_in this) (on_routine words (slice_get u.routines m) found (λ r. calling this found vs r)) object runs in
      let method = routine-goes u m found (λ r. calling this found vs r) (λ none. runs (first ∙ none)) in
      (method.0, first ∙ method.1)

  -- so below the greatest depth
  pub begins-goes : (this : ℕ) (found vs : List ℕ) → IsObjectBy (reference_in this) → l.depth < depth_limit → Runs (begins this found vs)
      → (r : Takes u m found) × (begins this found vs ≡ ticks words (Calls (record { routine = m; code = r.routine.code; first = first_vars words r.routine this found; tie = tie; receiver = this; y = y; into = into }) (with_vars words l vs)))
  begins-goes this found vs object deep runs =
      let p = begins-at this found vs object runs in
      let a = Calls (record { routine = m; code = p.0.routine.code; first = first_vars words p.0.routine this found; tie = tie; receiver = this; y = y; into = into }) (with_vars words l vs) in
      (p.0, p.1 ∙ ap (λ q. cond q (ticks words a) (halts words StackOverflow)) (lt-ltb l.depth depth_limit deep))

  -- at the greatest depth it halts
  pub begins-deep : (this : ℕ) (found vs : List ℕ) → IsObjectBy (reference_in this) → depth_limit ≤ l.depth → Runs (begins this found vs) → begins this found vs ≡ halts words StackOverflow
  begins-deep this found vs object deep runs =
      let p = begins-at this found vs object runs in
      let a = Calls (record { routine = m; code = p.0.routine.code; first = first_vars words p.0.routine this found; tie = tie; receiver = this; y = y; into = into }) (with_vars words l vs) in
      p.1 ∙ ap (λ q. cond q (ticks words a) (halts words StackOverflow)) (le-ltb l.depth depth_limit deep)

  -- a call through null halts
  pub begins-null : (this : ℕ) (found vs : List ℕ) (k : TrapKind) → IsNullBy (reference_in this) k → Runs (begins this found vs) → begins this found vs ≡ halts words k
  begins-null this found vs k null runs = null-halts (reference_in this) k (on_routine words (slice_get u.routines m) found (λ r. calling this found vs r)) null runs

-- ---------- nothing is asked of the heap ----------
-- an effect that asks nothing of the heap
abbrev pub AsksNothing : Effect → Type 0
AsksNothing (Does o told) = o ≡ Tick
AsksNothing Sticks = Unit {0}

-- neither does one that goes on with a value
nothing-value : (e : Eval ℕ) (go : ℕ → Effect) → ((w : ℕ) → AsksNothing (go w)) → AsksNothing (on_value words e go)
nothing-value (Gives w) go each = each w
nothing-value (Traps k) go each = refl
nothing-value Mistyped go each = tt

-- nor with the value of an argument
nothing-argument : (a : code.Argument) (vs : List ℕ) (go : ℕ → List ℕ → Effect) → ((w : ℕ) (ws : List ℕ) → AsksNothing (go w ws)) → AsksNothing (on_argument words a vs go)
nothing-argument (code.Expression e) vs go each = nothing-value _ (λ v. go v vs) (λ w. each w vs)
nothing-argument (code.Consumed y) vs go each = nothing-value _ (λ v. go v (clear words vs y)) (λ w. each w (clear words vs y))

-- nor with those of some arguments
nothing-arguments : (args : List code.Argument) (found vs : List ℕ) (go : List ℕ → List ℕ → Effect) → ((ws vs : List ℕ) → AsksNothing (go ws vs)) → AsksNothing (on_arguments words args found vs go)
nothing-arguments [] found vs go each = each found vs
nothing-arguments (a ∷ args) found vs go each =
    nothing-argument a vs (λ v vs. on_arguments words args (found ++ v ∷ []) vs go) (λ w ws. nothing-arguments args (found ++ w ∷ []) ws go each)

-- nor with those of a receiver and some arguments
nothing-call : (consumed : Bool) (y : ℕ) (args : List code.Argument) (vs : List ℕ) (go : ℕ → List ℕ → List ℕ → Effect) → ((this : ℕ) (ws vs : List ℕ) → AsksNothing (go this ws vs)) → AsksNothing (on_call words consumed y args vs go)
nothing-call true y args vs go each =
    nothing-value (look_up words vs y) (λ this. on_arguments words args [] (clear words vs y) (λ found vs. go this found vs)) (λ this. nothing-arguments args [] (clear words vs y) (λ found vs. go this found vs) (each this))
nothing-call false y args vs go each =
    nothing-arguments args [] vs (λ found vs. on_value words (look_up words vs y) (λ this. go this found vs)) (λ found vs. nothing-value _ (λ this. go this found vs) (λ this. each this found vs))

module _ (u : UnitCode) (l : Own) (into : Option ℕ) (tie : Tie) (y m : ℕ) where
  -- nor one that halts at the greatest depth
  nothing-limit : (q : Bool) (a : Effect) → AsksNothing a → AsksNothing (cond q a (halts words StackOverflow))
  nothing-limit true a is = is
  nothing-limit false a is = refl

  -- nor one that sticks where the number of arguments is wrong
  nothing-chosen : (q : Bool) (r : Routine) (go : Routine → Effect) → AsksNothing (go r) → AsksNothing (choose q go (λ r. Sticks) r)
  nothing-chosen true r go is = is
  nothing-chosen false r go is = tt

  -- nor one that sticks where the method is none
  nothing-routine : (o : Option Routine) (found : List ℕ) (go : Routine → Effect) → ((r : Routine) → AsksNothing (go r)) → AsksNothing (on_routine words o found go)
  nothing-routine None found go each = tt
  nothing-routine (Some r) found go each = nothing-chosen (nat_eq (length found) (length r.params)) r go (each r)

  -- nor one that halts at null
  nothing-referred : (x : Referred ℕ) (f : Effect) → AsksNothing f → AsksNothing (on_referred words x (λ p n. f))
  nothing-referred (ToObject p n) f is = is
  nothing-referred ToNull f is = refl
  nothing-referred NoReference f is = tt

  -- a call asks nothing of the heap
  pub call-asks-nothing : (consumed : Bool) (args : List code.Argument) (vs : List ℕ) → AsksNothing (on_call words consumed y args vs (λ this found vs. begins u l into tie y m this found vs))
  call-asks-nothing consumed args vs = nothing-call consumed y args vs (λ this found vs. begins u l into tie y m this found vs) (λ this found vs.
      nothing-referred (reference_in this) (on_routine words (slice_get u.routines m) found (λ r. calling u l into tie y m this found vs r)) (nothing-routine (slice_get u.routines m) found (λ r. calling u l into tie y m this found vs r) (λ r.
      nothing-limit (nat_lt l.depth depth_limit) (ticks words (Calls (record { routine = m; code = r.code; first = first_vars words r this found; tie = tie; receiver = this; y = y; into = into }) (with_vars words l vs))) refl)))

-- a turn that isn't stuck asks nothing then
pub ticks-then : (u : UnitCode) (at : Span) (rest : Code) (st : List (Frame ℕ)) (f : Effect) → AsksNothing f → (turn_op (worded Copies u) (turn_of words Copies at rest st f) ≡ None → ⊥) → turn_op (worded Copies u) (turn_of words Copies at rest st f) ≡ Some Tick
ticks-then u at rest st (Does o told) is lively = ap Some is
ticks-then u at rest st Sticks is lively = absurd (lively refl)
