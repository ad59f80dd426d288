-- What is done where code has ended, by the frame that waits innermost.
use Rattle.std.proofs.Common.{◌≡◌, ◌∙◌, ℕ, ◌-◌, Bool, List, [], ◌∷◌, Option, refl, sym, ap}
use Rattle.std.specs.Prelude.{ℤ}
use Rattle.perm_tree.specs.CodeOf.{code_of}
use Rattle.perm_tree.specs.UnitTables.{Tables}
use Rattle.perm_meaning.specs.declared.eval.frames.Caller.{Caller}
use Rattle.perm_meaning.specs.declared.eval.frames.Final as ending
use Rattle.perm_meaning.specs.declared.eval.frames.Final.TheVariants as finals
use Rattle.perm_meaning.specs.declared.eval.frames.Failure as failing
use Rattle.perm_meaning.specs.declared.eval.frames.Frame.{Frame}
use Rattle.perm_meaning.specs.declared.eval.frames.Frame.TheVariants as frames
use Rattle.perm_meaning.specs.declared.eval.frames.Parent.{Parent}
use Rattle.perm_meaning.specs.declared.eval.frames.Spot.{Spot}
use Rattle.perm_meaning.specs.declared.eval.parts.Part.{Part}
use Rattle.perm_meaning.specs.declared.eval.parts.Part.TheVariants as parts
use Rattle.perm_meaning.specs.declared.eval.values.Value.{Value}
use Rattle.perm_meaning.specs.Evaluator.Control.{start}
use Rattle.perm_meaning.specs.Custody.{merged, writes_l, writes_r}
use Rattle.perm_meaning.specs.Expressions.{assign, assign_into, clear_all, tagged}
use Rattle.perm_meaning.specs.Evaluator.Frames.{code_at, failure_by, final_by, method_behind, AllStand, NoneStands, OneStands, AmountsTo, StandsFor, WaitsForCall, WaitsForLeft, WaitsForRight}
use Rattle.perm_meaning.specs.Machine.{Failure, join_final}
use Rattle.perm_meaning.specs.Meaning.{Moment, Result, Well, Gave, Handed, Fails, Stuck, after_join, on_final, right_of, set_vars, then_do}
use Rattle.perm_meaning.specs.Names.{after_par}
use Rattle.perm_meaning.specs.NamedHeap.{Final, Heap, Held}
use Rattle.perm_meaning.specs.Evaluator.NumberedValues.{all_by, Names}
use Rattle.perm_meaning.specs.Evaluator.Parts.{own_in}
use Rattle.perm_meaning.specs.Evaluator.Ties.{moment_by}
use Rattle.perm_meaning.specs.Evaluator.Waits.{Waiting, ForBlock, ForRecover, ForCall, ForLeft, ForRight, after_waiting, resumed}
use Rattle.perm_meaning.specs.Evaluator.WholeCode.{whole}
use Rattle.perm_meaning.specs.Evaluator.Writes.{par_at}
use Rattle.perm_meaning.proofs.Evaluator.Waits.{resumed-stuck}

module _ (u : Tables) (fits : ℕ → Bool) (names : Names) where
  -- ---------- what frames stand for ----------
  -- the innermost frame stands for what waits innermost
  pub innermost : {m : ℕ} {f : Frame} {fs : List Frame} {w : Waiting} {ws : List Waiting} → AllStand u names m (f ∷ fs) (w ∷ ws) → StandsFor u names m f w
  innermost (OneStands s rest) = s

  -- the others stand for what waits besides
  pub others : {m : ℕ} {f : Frame} {fs : List Frame} {w : Waiting} {ws : List Waiting} → AllStand u names m (f ∷ fs) (w ∷ ws) → AllStand u names (method_behind m f) fs ws
  others (OneStands s rest) = rest

  -- where a frame stands, something waits
  pub something : {m : ℕ} {f : Frame} {fs : List Frame} {all : List Waiting} → AllStand u names m (f ∷ fs) all → (w : Waiting) × (ws : List Waiting) × (all ≡ w ∷ ws)
  something {all = w ∷ ws} (OneStands s rest) = (w, ws, refl)
  something {all = []} stand = elim stand [ ]

  -- where no frame stands, nothing waits
  pub nothing : {m : ℕ} {all : List Waiting} → AllStand u names m [] all → all ≡ []
  nothing NoneStands = refl

  module _ (m : ℕ) (fs : List Frame) (w : Waiting) (ws : List Waiting) (r : Result) where
    -- an end comes to the result, where this frame waits innermost
    abbrev pub Ends : Frame → Result → Type 0
    Ends f x = AmountsTo u fits names m (f ∷ fs) (w ∷ ws) x r

    -- what the frame makes of an end comes to it
    by-frame : (f : Frame) (v : Waiting) (x y : Result) → w ≡ v → after_waiting (code_of u) fits v x ≡ y → Ends f x → AmountsTo u fits names (method_behind m f) fs ws y r
    by-frame f v x y e q ends = record { stand = others ends.stand; is = sym (ap (resumed (code_of u) fits ws) (ap (λ w. after_waiting (code_of u) fits w x) e ∙ q)) ∙ ends.is }

    module _ (p : Part) (rest : Spot) where
      -- behind a block its own variables have lost their values
      pub block-closes : (z : Moment) → Ends (frames.Block p rest) (Well z) → AmountsTo u fits names m fs ws (whole (code_of u) fits (code_at u m rest) (set_vars z (clear_all tagged z.own.vars (own_in u m p)))) r
      block-closes z ends = by-frame (frames.Block p rest) (ForBlock (own_in u m p) (code_at u m rest)) (Well z) _ (innermost ends.stand) refl ends

      -- a failure leaves a block
      pub block-fails : (e : Failure) (t : ℕ) (out : List ℤ) (h : Heap) → Ends (frames.Block p rest) (Fails e t out h) → AmountsTo u fits names m fs ws (Fails e t out h) r
      block-fails e t out h ends = by-frame (frames.Block p rest) (ForBlock (own_in u m p) (code_at u m rest)) (Fails e t out h) _ (innermost ends.stand) refl ends

      -- a recover block too
      pub recover-fails : (e : Failure) (t : ℕ) (out : List ℤ) (h : Heap) → Ends (frames.Recover p rest) (Fails e t out h) → AmountsTo u fits names m fs ws (Fails e t out h) r
      recover-fails e t out h ends = by-frame (frames.Recover p rest) (ForRecover (own_in u m p) (code_at u m rest)) (Fails e t out h) _ (innermost ends.stand) refl ends

      -- a recover block hands on its value, and its own variables have lost theirs
      pub recover-gives : (x : ℕ) (v : Held) (z : Moment) → Ends (frames.Recover p rest) (Handed x v z)
          → AmountsTo u fits names m fs ws (whole (code_of u) fits (code_at u m rest) (set_vars z (assign (clear_all tagged z.own.vars (own_in u m p)) x v))) r
      recover-gives x v z ends = by-frame (frames.Recover p rest) (ForRecover (own_in u m p) (code_at u m rest)) (Handed x v z) _ (innermost ends.stand) refl ends

    module _ (c : Caller) where
      -- the caller takes the value, and its variables and its method are back
      pub call-gives : (v : Held) (z : Moment) → Ends (frames.Call c) (Gave v z)
          → AmountsTo u fits names c.«method» fs ws (whole (code_of u) fits (code_at u c.«method» c.rest) (record z { own = record z.own { vars = assign_into (all_by names c.vars) c.into v; routine = c.«method»; depth = z.own.depth - 1 } })) r
      call-gives v z ends =
          let st : WaitsForCall u names c w = innermost ends.stand in
          by-frame (frames.Call c) (ForCall st.own c.into (code_at u c.«method» c.rest)) (Gave v z) _ st.is
          (λ j. whole (code_of u) fits (code_at u c.«method» c.rest) (record z { own = record z.own { vars = assign_into (st.vars j) c.into v; routine = st.routine j; depth = z.own.depth - 1 } }))
          ends

      -- a failure leaves a call
      pub call-fails : (e : Failure) (t : ℕ) (out : List ℤ) (h : Heap) → Ends (frames.Call c) (Fails e t out h) → AmountsTo u fits names c.«method» fs ws (Fails e t out h) r
      call-fails e t out h ends =
          let st : WaitsForCall u names c w = innermost ends.stand in
          by-frame (frames.Call c) (ForCall st.own c.into (code_at u c.«method» c.rest)) (Fails e t out h) _ st.is refl ends

    -- ---------- sides ----------
    -- an end of a side's code is this end of the side
    abbrev pub IsFinal : Result → Final → Heap → Type 0
    IsFinal x y h = (go : Final → Heap → Result) → on_final x go ≡ go y h

    -- the right side runs behind the left one, well or not
    pub left-ends : (p : Parent) (st : WaitsForLeft u names p w) (x : Result) (left : ending.Final) (h : Heap) → IsFinal x (final_by names left) h → Ends (frames.Left p) x
        → AmountsTo u fits names p.own.«method» (frames.Right p left ∷ fs) (ForRight (par_at u p.own.«method» p.stmt) (moment_by names st.mark st.heap p.turns p.own) (final_by names left) (code_at u p.own.«method» p.rest) ∷ ws)
        (whole (code_of u) fits (code_at u p.own.«method» (start (parts.Second p.stmt))) (right_of (moment_by names st.mark st.heap p.turns p.own) h)) r
    left-ends p st x left h fin ends =
        let b = par_at u p.own.«method» p.stmt in
        let z = moment_by names st.mark st.heap p.turns p.own in
        let rest = code_at u p.own.«method» p.rest in
        let go = λ (x : Final) (h : Heap). on_final (whole (code_of u) fits b.right (right_of z h)) (λ y h1. after_join z (join_final (merged (writes_l b) (writes_r b)) z.own.vars z.own.printed x y) h1) in
        let a = by-frame (frames.Left p) (ForLeft b z rest) x (then_do (go (final_by names left) h) (whole (code_of u) fits rest)) st.is (ap (λ y. then_do y (whole (code_of u) fits rest)) (fin go)) ends in
        record { stand = OneStands (record { mark = st.mark; heap = st.heap; is = refl }) a.stand; is = a.is }

    module _ (p : Parent) (left : ending.Final) (st : WaitsForRight u names p left w) (x : Result) (y : Final) (h : Heap) (fin : IsFinal x y h) (ends : Ends (frames.Right p left) x) where
      -- how the par ends
      abbrev pub joined_by : Final
      joined_by =
          let b = par_at u p.own.«method» p.stmt in
          let z = moment_by names st.mark st.heap p.turns p.own in
          join_final (merged (writes_l b) (writes_r b)) z.own.vars z.own.printed (final_by names left) y

      by-join : (f : Final) → joined_by ≡ f
          → AmountsTo u fits names p.own.«method» fs ws (then_do (after_join (moment_by names st.mark st.heap p.turns p.own) f h) (whole (code_of u) fits (code_at u p.own.«method» p.rest))) r
      by-join f e =
          let b = par_at u p.own.«method» p.stmt in
          let z = moment_by names st.mark st.heap p.turns p.own in
          let rest = code_at u p.own.«method» p.rest in
          let go = λ (y : Final) (h : Heap). after_join z (join_final (merged (writes_l b) (writes_r b)) z.own.vars z.own.printed (final_by names left) y) h in
          by-frame (frames.Right p left) (ForRight b z (final_by names left) rest) x (then_do (after_join z f h) (whole (code_of u) fits rest)) st.is
          (ap (λ y. then_do y (whole (code_of u) fits rest)) (fin go ∙ ap (λ f. after_join z f h) e))
          ends

      -- the branch goes on behind the par
      pub join-goes : (vs : List (Option Value)) (t : ℕ) (out : List ℤ) → joined_by ≡ final_by names (finals.Fine vs t out)
          → AmountsTo u fits names p.own.«method» fs ws (whole (code_of u) fits (code_at u p.own.«method» p.rest) (moment_by names (after_par st.mark) h t (record p.own { vars = vs; printed = out }))) r
      join-goes vs t out e = by-join (final_by names (finals.Fine vs t out)) e

      -- the par fails
      pub join-fails : (e : failing.Failure) (t : ℕ) (out : List ℤ) → joined_by ≡ final_by names (finals.Failed e t out) → AmountsTo u fits names p.own.«method» fs ws (Fails (failure_by e) t out h) r
      join-fails e t out q = by-join (final_by names (finals.Failed e t out)) q

    -- ---------- ends that nothing takes ----------
    -- an end of which the frame makes nothing is stuck
    stuck-by : (f : Frame) (v : Waiting) (x : Result) → w ≡ v → after_waiting (code_of u) fits v x ≡ Stuck → Ends f x → Stuck ≡ r
    stuck-by f v x e q ends = sym (resumed-stuck (code_of u) fits ws) ∙ sym (ap (resumed (code_of u) fits ws) (ap (λ w. after_waiting (code_of u) fits w x) e ∙ q)) ∙ ends.is

    -- a block gives nothing back
    pub block-gave : (p : Part) (rest : Spot) (v : Held) (z : Moment) → Ends (frames.Block p rest) (Gave v z) → Stuck ≡ r
    block-gave p rest v z ends = stuck-by (frames.Block p rest) (ForBlock (own_in u m p) (code_at u m rest)) (Gave v z) (innermost ends.stand) refl ends

    -- nor does it hand on a value
    pub block-handed : (p : Part) (rest : Spot) (x : ℕ) (v : Held) (z : Moment) → Ends (frames.Block p rest) (Handed x v z) → Stuck ≡ r
    block-handed p rest x v z ends = stuck-by (frames.Block p rest) (ForBlock (own_in u m p) (code_at u m rest)) (Handed x v z) (innermost ends.stand) refl ends

    -- a recover block doesn't end without a value
    pub recover-closes : (p : Part) (rest : Spot) (z : Moment) → Ends (frames.Recover p rest) (Well z) → Stuck ≡ r
    recover-closes p rest z ends = stuck-by (frames.Recover p rest) (ForRecover (own_in u m p) (code_at u m rest)) (Well z) (innermost ends.stand) refl ends

    -- it gives nothing back
    pub recover-gave : (p : Part) (rest : Spot) (v : Held) (z : Moment) → Ends (frames.Recover p rest) (Gave v z) → Stuck ≡ r
    recover-gave p rest v z ends = stuck-by (frames.Recover p rest) (ForRecover (own_in u m p) (code_at u m rest)) (Gave v z) (innermost ends.stand) refl ends

    -- a call doesn't end without a value
    pub call-closes : (c : Caller) (z : Moment) → Ends (frames.Call c) (Well z) → Stuck ≡ r
    call-closes c z ends =
        let st : WaitsForCall u names c w = innermost ends.stand in
        stuck-by (frames.Call c) (ForCall st.own c.into (code_at u c.«method» c.rest)) (Well z) st.is refl ends

    -- it hands on none
    pub call-handed : (c : Caller) (x : ℕ) (v : Held) (z : Moment) → Ends (frames.Call c) (Handed x v z) → Stuck ≡ r
    call-handed c x v z ends =
        let st : WaitsForCall u names c w = innermost ends.stand in
        stuck-by (frames.Call c) (ForCall st.own c.into (code_at u c.«method» c.rest)) (Handed x v z) st.is refl ends

    -- a side that is no end of its own is stuck
    pub left-stuck : (p : Parent) (x : Result) → ((go : Final → Heap → Result) → on_final x go ≡ Stuck) → Ends (frames.Left p) x → Stuck ≡ r
    left-stuck p x q ends =
        let st : WaitsForLeft u names p w = innermost ends.stand in
        stuck-by (frames.Left p) (ForLeft (par_at u p.own.«method» p.stmt) (moment_by names st.mark st.heap p.turns p.own) (code_at u p.own.«method» p.rest)) x st.is
        (ap (λ y. then_do y (whole (code_of u) fits (code_at u p.own.«method» p.rest))) (q _))
        ends

    -- so is a right one
    pub right-stuck : (p : Parent) (left : ending.Final) (x : Result) → ((go : Final → Heap → Result) → on_final x go ≡ Stuck) → Ends (frames.Right p left) x → Stuck ≡ r
    right-stuck p left x q ends =
        let st : WaitsForRight u names p left w = innermost ends.stand in
        stuck-by (frames.Right p left) (ForRight (par_at u p.own.«method» p.stmt) (moment_by names st.mark st.heap p.turns p.own) (final_by names left) (code_at u p.own.«method» p.rest)) x st.is
        (ap (λ y. then_do y (whole (code_of u) fits (code_at u p.own.«method» p.rest))) (q _))
        ends
    -- ---------- the end of a run ----------
