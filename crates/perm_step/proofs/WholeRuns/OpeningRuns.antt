-- A run that is opened stands for the opening of the word machine.
use Rattle.std.proofs.Common.{◌≡◌, ℕ, suc, ◌+◌, ◌-◌, ◌<◌, ◌≤◌, ◌^◌, List, [], ◌∷◌, ◌++◌, length, get_or, replicate, Some, None, refl, sym, ap, ◌∙◌, subst, arith}
use Rattle.std.specs.Prelude.{ℤ, reverse, slice_get, slice_set}
use Rattle.std.proofs.lemmas.List.{length-replicate}
use Rattle.std.proofs.lemmas.Option.{slice_get-get_or, slice_get_within}
use Rattle.perm_tree.specs.declared.ast.Shape.TheVariants.{Class}
use Rattle.perm_tree.specs.declared.ast.Ty.{Ty}
use Rattle.perm_tree.specs.declared.ast.Ty.TheVariants.{Ref}
use Rattle.perm_tree.specs.declared.bodies.Bodies.{Bodies}
use Rattle.perm_tree.specs.Code.{Routine, UnitCode}
use Rattle.perm_tree.specs.CodeOf.{code_of}
use Rattle.perm_tree.specs.Resolves.{IsResolved}
use Rattle.perm_tree.specs.UnitTables.{Tables}
use Rattle.perm_tree.specs.Links.{Spot, AreBodies, AreBodiesOf, StandsAt, spot_of}
use Rattle.perm_tree.proofs.RoutineLaws.{IsResolved-vars}
use Rattle.perm_meaning.specs.Effects.{first_vars}
use Rattle.perm_meaning.specs.Objects.{size, types_or_none, field_types}
use Rattle.perm_meaning.specs.Outcome.{opening_need}
use Rattle.perm_meaning.specs.WordHeap.{Branch, Cells, NoMark, input_word, opening_branch, opening_word, root_word}
use Rattle.perm_meaning.specs.Words.{words}
use Rattle.perm_core.specs.Claims.{IsChecked}
use Rattle.perm_step.specs.declared.alone.Run.{Run}
use Rattle.perm_step.specs.Events.{bottom_from, AreLong, IsSound}
use Rattle.perm_step.specs.Heaps.{Heaped}
use Rattle.perm_step.specs.Holding.{Aside}
use Rattle.perm_step.specs.Opens.{opening_size, IsEntered, IsOpened}
use Rattle.perm_step.specs.Running.{IsRunning}
use Rattle.perm_step.specs.Runs.{asides_of, AreKept, HasFewVariables, IsComing, IsSoundLeaf, Opening}
use Rattle.perm_step.specs.Standing.{below_of, branch_at, branch_of, leaf_branch, opens_of, AreOpenCalls}
use Rattle.perm_step.specs.Working.{Working, cells_of, locals}
use Rattle.perm_step.proofs.WholeRuns.RunRounds.{run-begins}
use Rattle.perm_step.proofs.WordMachine.Settling.{ended-alone}

-- the first two of some words that are 0 are set
first-words : (n k root input : ℕ) → n ≡ suc (suc k) → ◌≡◌ {A = List ℕ} (slice_set (slice_set (replicate n 0) 0 root) 1 input) (root ∷ (input ∷ replicate k 0))
first-words n k root input is = subst (λ m. ◌≡◌ {A = List ℕ} (slice_set (slice_set (replicate m 0) 0 root) 1 input) (root ∷ (input ∷ replicate k 0))) (sym is) refl

-- what the run has reached is told by what it holds
running-along : (u : UnitCode) (limit : ℕ) (input : List ℤ) (turns : ℕ) (r : Routine) (ks ls : List (Aside ℕ NoMark)) (b c : Branch) (h i : Cells) → ks ≡ ls → b ≡ c → h ≡ i → IsRunning u limit input turns r ks b h → IsRunning u limit input turns r ls c i
running-along u limit input turns r ks ls b c h i kept branch heap x =
    subst (λ (h : Cells). IsRunning u limit input turns r ls c h) heap
    (subst (λ (b : Branch). IsRunning u limit input turns r ls b h) branch
    (subst (λ (ks : List (Aside ℕ NoMark)). IsRunning u limit input turns r ks b h) kept x))

module _ (u : UnitCode) (b : Bodies) (w : AreBodiesOf u b) (checked : IsChecked u) (input : List ℤ) where
  -- the method `Run`
  abbrev first : Routine
  first = checked.whole.first

  -- it has `this` and the input
  two : 2 ≤ length first.vars
  two =
      let routine = checked.whole.routines u.run first checked.whole.there in
      let this : Ty = Ref first.receiver (Class first.class) in
      let is : length first.vars ≡ suc (suc (length routine.locals)) = ap length routine.vars ∙ ap (λ (ps : List Ty). length (this ∷ (ps ++ routine.locals))) checked.whole.run.params in
      omega arith

  -- Main has so many fields as the bodies say
  main-fields : length (field_types u u.main) ≡ b.fields
  main-fields =
      let here = slice_get-get_or u.classes u.main [] checked.whole.main in
      ap (λ ts. length (types_or_none ts)) here ∙ w.fields (get_or u.classes u.main []) here

  -- the opening has so many words
  pub same-need : opening_need u input ≡ opening_size b input
  same-need = ap (λ n. size (length input) + size n) main-fields

  module _ (turns : ℕ) (c : Working) (o : IsEntered b (root_word input) (input_word input) turns c) where
    -- it has the same number in the bodies
    here : slice_get u.routines b.run ≡ Some first
    here = ap (slice_get u.routines) w.run ∙ checked.whole.there

    -- there it stands at its first step
    stands : StandsAt w.spot b.steps o.entry.first (spot_of b.run first.code [])
    stands = w.first b.run o.entry first o.here here

    -- where the run begins
    place : c.at ≡ o.entry.first
    place = ap (λ (c : Working). c.at) o.control

    -- so it begins at the code of `Run`
    spot-is : w.spot c.at ≡ record { routine = u.run; code = first.code; within = [] }
    spot-is = ap w.spot place ∙ stands.1 ∙ (λ j. record { routine = w.run j; code = (ended-alone first.code j).code; within = (ended-alone first.code j).within })

    -- with as many variables as the method has
    variables : o.entry.variables ≡ length first.vars
    variables = w.variables b.run o.entry first o.here here

    -- which are its first variables
    first-locals : locals c ≡ first_vars words first (root_word input) (input_word input ∷ [])
    first-locals =
        let many : o.entry.variables ≡ suc (suc (length first.vars - 2)) = let at_least = two in omega (arith, variables, at_least) in
        ap locals o.control ∙ first-words o.entry.variables (length first.vars - 2) (root_word input) (input_word input) many

    -- these are as many
    length-first : length (first_vars words first (root_word input) (input_word input ∷ [])) ≡ length first.vars
    length-first = let at_least = two in let zeros = length-replicate {A = ℕ} (length first.vars - 2) 0 in omega arith

    -- so it is the branch of the opening
    pub opened-branch : opening_branch u input turns first ≡ branch_of w.spot c
    opened-branch =
        ap (λ (vs : List ℕ). let x : Branch = record (opening_branch u input turns first) { own = record (opening_branch u input turns first).own { vars = vs } } in x) (sym first-locals)
        ∙ ap (λ (s : Spot). branch_at s [] (locals c) 1 [] turns) (sym spot-is)
        ∙ sym (ap (λ (d : Working). branch_at (w.spot c.at) (below_of w.spot d) (locals c) d.depth d.printed d.turns) o.control)

    -- no call is open
    no-calls : c.calls ≡ []
    no-calls = ap (λ (c : Working). c.calls) o.control

    -- so the branch is sound
    pub opened-sound : IsSound u w.spot b u.run c
    opened-sound = record {
      here = subst (λ n. n < length b.steps) (sym place) stands.0;
      calls = subst (AreOpenCalls b) (sym no-calls) (λ i call is. absurd (let none = slice_get_within [] i call is in omega arith));
      variables = record {
        routine = first;
        there = ap (λ (s : Spot). slice_get u.routines s.routine) spot-is ∙ checked.whole.there;
        many = ap length first-locals ∙ length-first;
      };
      callers = subst (λ (d : Working). AreLong u w.spot (opens_of d.base d.vars (reverse d.calls))) (sym o.control) tt;
      below = subst (λ calls. bottom_from u w.spot c.at calls ≡ u.run) (sym no-calls) (ap (λ (s : Spot). s.routine) spot-is);
      deep = let deep = ap (λ (d : Working). d.depth) o.control in omega arith;
    }

  -- ---------- the run that begins ----------
  module _ (turns limit : ℕ) (c : Working) (h : Heaped) (o : IsOpened b input turns limit c h) where
    -- on the words of the opening
    opened-cells : ◌≡◌ {A = Cells} (record { word = opening_word input; given = opening_need u input }) (cells_of h.words)
    opened-cells =
        let given : opening_need u input ≡ length h.words = same-need ∙ sym o.given in
        λ j. record { word = λ i. sym (o.words i) j; given = given j }

    -- the unit with its input
    abbrev pub opening : HasFewVariables u → turns ≤ 2 ^ 40 → limit ≤ 4194304 → Opening
    opening slim few small = record {
      unit = u;
      limit = limit;
      input = input;
      turns = turns;
      first = first;
      checked = checked;
      opens = record { opens = record { run = checked.whole.there; fits = let fits = o.fits in omega (arith, same-need, fits) }; bases = omega arith; numbers = o.numbers };
      slim = slim;
      few = few;
      small = small;
    }

    -- what runs stands for the opening of the word machine
    pub opened-comes : (slim : HasFewVariables u) (few : turns ≤ 2 ^ 40) (small : limit ≤ 4194304) (r : Run) → r.leaf ≡ record { control = c; ending = None } → r.waiting.items ≡ [] → r.heap ≡ h → IsComing (opening slim few small) b r
    opened-comes slim few small r leaf waiting heap =
        let kept : [] ≡ asides_of w.spot (reverse r.waiting.items) = ap (λ ws. asides_of w.spot (reverse ws)) (sym waiting) in
        let branch : opening_branch u input turns first ≡ leaf_branch w.spot r.leaf = opened-branch turns c o.entered ∙ ap (leaf_branch w.spot) (sym leaf) in
        let cells : ◌≡◌ {A = Cells} (record { word = opening_word input; given = opening_need u input }) (cells_of r.heap.words) = opened-cells ∙ ap (λ (i : Heaped). cells_of i.words) (sym heap) in
        let sound : IsSoundLeaf u w.spot b u.run (record { control = c; ending = None }) = record { here = (opened-sound turns c o.entered).here; sound = λ none. opened-sound turns c o.entered } in
        record {
          bodies = w;
          running = running-along u limit input turns first [] (asides_of w.spot (reverse r.waiting.items)) (opening_branch u input turns first) (leaf_branch w.spot r.leaf) (record { word = opening_word input; given = opening_need u input }) (cells_of r.heap.words) kept branch cells
              (run-begins u limit input turns first);
          bottom = u.run;
          leaf = subst (IsSoundLeaf u w.spot b u.run) (sym leaf) sound;
          kept = subst (λ ws. AreKept u w.spot b u.run (reverse ws)) (sym waiting) tt;
          same = ap (λ (i : Heaped). i.limit) heap ∙ o.same;
        }

-- `Run` is a method of the bodies
pub run-there : (u : UnitCode) (b : Bodies) → AreBodiesOf u b → IsChecked u → b.run < length b.entries
run-there u b w checked =
    let within = slice_get_within u.routines u.run checked.whole.first checked.whole.there in
    let run = w.run in
    let entries = w.entries in
    omega arith

-- ---------- a run of a checked unit ----------
-- a run of a unit by its bodies has been opened
pub record HasBegun (t : Tables) (b : Bodies) (input : List ℤ) (turns limit : ℕ) (c : Working) (h : Heaped) : Type 0 where
  pub bodies : AreBodiesOf (code_of t) b
  pub checked : IsChecked (code_of t)
  pub slim : HasFewVariables (code_of t)
  pub few : turns ≤ 2 ^ 40
  pub small : limit ≤ 4194304
  pub opened : IsOpened b input turns limit c h

-- the bodies of a unit are those of its code
pub bodies-of : {t s : Tables} {b : Bodies} → s ≡ t → AreBodies s b → AreBodiesOf (code_of t) b
bodies-of {b = b} same are = subst (λ (t : Tables). AreBodiesOf (code_of t) b) same are.linked

-- so it is where the unit's methods are resolved, and the heap was empty
pub has-begun : {t s : Tables} {b : Bodies} {input : List ℤ} {turns limit : ℕ} {g : Heaped} {c : Working} {h : Heaped} → s ≡ t → AreBodies s b → IsResolved s → IsChecked (code_of t) → turns ≤ 2 ^ 40 → limit ≤ 4194304 → g ≡ record { words = []; limit = limit }
    → IsOpened b input turns g.limit c h → HasBegun t b input turns limit c h
has-begun {t = t} {s = s} {b = b} {input = input} {turns = turns} {c = c} {h = h} same are is checked few small fresh opened =
    let slim : HasFewVariables (code_of s) = λ m r here. (IsResolved-vars s m r is here).2 in
    record {
      bodies = bodies-of same are;
      checked = checked;
      slim = subst (λ (t : Tables). HasFewVariables (code_of t)) same slim;
      few = few;
      small = small;
      opened = subst (λ (g : Heaped). IsOpened b input turns g.limit c h) fresh opened;
    }

module _ {t : Tables} {b : Bodies} {input : List ℤ} {turns limit : ℕ} {c : Working} {h : Heaped} (x : HasBegun t b input turns limit c h) where
  -- its opening
  abbrev pub begun : Opening
  begun = opening (code_of t) b x.bodies x.checked input turns limit c h x.opened x.slim x.few x.small

  -- it stands for what the word machine begins with
  pub begun-comes : (r : Run) → r.leaf ≡ record { control = c; ending = None } → r.waiting.items ≡ [] → r.heap ≡ h → IsComing begun b r
  begun-comes r leaf waiting heap = opened-comes (code_of t) b x.bodies x.checked input turns limit c h x.opened x.slim x.few x.small r leaf waiting heap
