-- How a branch has ended, on the word machine.
use Rattle.std.proofs.Common.{◌≡◌, ◌≢◌, ℕ, zero, suc, ◌<◌, List, [], ◌∷◌, ◌++◌, length, take, drop, Option, Some, None, refl, sym, ap, subst, ◌∙◌, inl, inr, arith}
use Rattle.std.specs.Prelude.{◌⊎◌, reverse, slice_get}
use Rattle.std.proofs.lemmas.List.{reverse-append}
use Rattle.perm_tree.specs.declared.ast.Span.{Span}
use Rattle.perm_tree.specs.declared.bodies.Action.{Action}
use Rattle.perm_tree.specs.declared.bodies.Action.TheVariants as actions
use Rattle.perm_tree.specs.declared.bodies.Bodies.{Bodies}
use Rattle.perm_tree.specs.declared.bodies.Step.{Step}
use Rattle.perm_tree.specs.Code.{Code, End, Give, Return, Do, If, While, Par, Recover, UnitCode}
use Rattle.perm_tree.specs.Links.{AreBodiesOf, IsDo, IsLinkedBy, Spot, StandsAt}
use Rattle.perm_meaning.specs.Machine.{Fine, Frame, NoTurns as NoTurnsLeft, OpenCall, Over, over, stage, stage_by_code, stage_by_turns}
use Rattle.perm_meaning.specs.Machine as machines
use Rattle.perm_meaning.specs.WordHeap.{Own}
use Rattle.perm_step.specs.declared.control.Called.{Called}
use Rattle.perm_step.specs.declared.control.Ending.{Ending}
use Rattle.perm_step.specs.declared.control.Ending.TheVariants as endings
use Rattle.perm_step.specs.declared.control.Failure.TheVariants as failures
use Rattle.perm_step.specs.declared.pars.Final.{Final}
use Rattle.perm_step.specs.declared.pars.Final.TheVariants as finals
use Rattle.perm_step.specs.Events.{HasEnded, IsSound}
use Rattle.perm_step.specs.ParMoves.{EndsAs, IsAtEnd}
use Rattle.perm_step.specs.Standing.{AreOpenCalls, IsOpenCall, below_of, branch_of, calls_of, frame_over, frames_of, opens_of}
use Rattle.perm_step.specs.Working.{Working, locals}
use Rattle.perm_step.proofs.Tests.TestTurns.{own_of}

-- ---------- lists ----------
-- a place within a list has its entry
pub entry-there : {A : Type 0} (xs : List A) (i : ℕ) → i < length xs → (x : A) × (slice_get xs i ≡ Some x)
entry-there [] i inside = absurd (omega arith)
entry-there (x ∷ xs) zero inside = (x, refl)
entry-there (x ∷ xs) (suc i) inside = entry-there xs i (omega arith)

-- the last of some calls
pub record HasLast (cs : List Called) : Type 0 where
  pub front : List Called
  pub last : Called
  pub is : cs ≡ front ++ last ∷ []

-- calls are none, or one of them is the last
pub last-of : (cs : List Called) → (cs ≡ []) ⊎ HasLast cs
last-of [] = inl refl
last-of (c ∷ cs) = inr (by (last-of cs))
  where
    by : (cs ≡ []) ⊎ HasLast cs → HasLast (c ∷ cs)
    by (inl alone) = record { front = []; last = c; is = ap (λ l. c ∷ l) alone }
    by (inr more) = record { front = c ∷ more.front; last = more.last; is = ap (λ l. c ∷ l) more.is }

-- the last of some calls has its place
last-there : (front : List Called) (c : Called) → slice_get (front ++ c ∷ []) (length front) ≡ Some c
last-there [] c = refl
last-there (x ∷ front) c = last-there front c

-- ---------- codes ----------
module _ (stands : ℕ → Spot → Type 0) (b : Bodies) (u : UnitCode) (here : Spot) (at : Span) (next : ℕ) where
  -- a simple statement is no end
  do-busy : (a : Action) → IsDo stands b u here at next a → here.code ≢ End
  do-busy a link is = let clash = sym link.code ∙ is in let no : ⊥ = cc in no

  -- no code is at its end but that of an end
  pub linked-busy : (a : Action) → IsLinkedBy stands b u here at next a → a ≢ actions.End → here.code ≢ End
  linked-busy (actions.If e other) link other_form is = let clash = sym link.code ∙ is in let no : ⊥ = cc in no
  linked-busy (actions.While e first) link other_form is = let clash = sym link.code ∙ is in let no : ⊥ = cc in no
  linked-busy (actions.Par first second place) link other_form is = let clash = sym link.code ∙ is in let no : ⊥ = cc in no
  linked-busy actions.Recover link other_form is = let clash = sym link.code ∙ is in let no : ⊥ = cc in no
  linked-busy (actions.Give y x) link other_form is = let clash = sym link.code ∙ is in let no : ⊥ = cc in no
  linked-busy (actions.Return a) link other_form is = let clash = sym link.code ∙ is in let no : ⊥ = cc in no
  linked-busy actions.End link other_form is = other_form refl
  linked-busy (actions.Declare x) link other_form is = do-busy (actions.Declare x) link is
  linked-busy (actions.Assign x a) link other_form is = do-busy (actions.Assign x a) link is
  linked-busy (actions.LoadField x y f) link other_form is = do-busy (actions.LoadField x y f) link is
  linked-busy (actions.LoadLength x y) link other_form is = do-busy (actions.LoadLength x y) link is
  linked-busy (actions.LoadItem x y e) link other_form is = do-busy (actions.LoadItem x y e) link is
  linked-busy (actions.TakeField x y f) link other_form is = do-busy (actions.TakeField x y f) link is
  linked-busy (actions.NewObject x class fields) link other_form is = do-busy (actions.NewObject x class fields) link is
  linked-busy (actions.NewArray x e) link other_form is = do-busy (actions.NewArray x e) link is
  linked-busy (actions.StoreField y f a) link other_form is = do-busy (actions.StoreField y f a) link is
  linked-busy (actions.StoreItem y i e) link other_form is = do-busy (actions.StoreItem y i e) link is
  linked-busy (actions.Invoke v) link other_form is = do-busy (actions.Invoke v) link is
  linked-busy (actions.Print e) link other_form is = do-busy (actions.Print e) link is

-- a step is due where code is left
due-by-code : (c : Code) (st : List (Frame ℕ)) (t : ℕ) (l : Own) → c ≢ End → stage_by_code c st t l ≡ stage_by_turns t l
due-by-code End st t l busy = absurd (busy refl)
due-by-code (Give at y x) st t l busy = refl
due-by-code (Return at a) st t l busy = refl
due-by-code (Do at i rest) st t l busy = refl
due-by-code (If at e own1 first own2 other rest) st t l busy = refl
due-by-code (While at e own body rest) st t l busy = refl
due-by-code (Par at own1 left own2 right rest) st t l busy = refl
due-by-code (Recover at x own hides body rest) st t l busy = refl

-- or where something stands below it
due-by-stack : (c : Code) (f : Frame ℕ) (st : List (Frame ℕ)) (t : ℕ) (l : Own) → stage_by_code c (f ∷ st) t l ≡ stage_by_turns t l
due-by-stack End f st t l = refl
due-by-stack (Give at y x) f st t l = refl
due-by-stack (Return at a) f st t l = refl
due-by-stack (Do at i rest) f st t l = refl
due-by-stack (If at e own1 first own2 other rest) f st t l = refl
due-by-stack (While at e own body rest) f st t l = refl
due-by-stack (Par at own1 left own2 right rest) f st t l = refl
due-by-stack (Recover at x own hides body rest) f st t l = refl

-- with a turn left it is no end
due-goes-on : (t : ℕ) (l : Own) → 0 < t → over (stage_by_turns t l) ≡ None
due-goes-on zero l some = absurd (omega arith)
due-goes-on (suc t) l some = refl

-- ---------- branches ----------
module _ (u : UnitCode) (b : Bodies) (w : AreBodiesOf u b) (c : Working) where
  -- an open call stands below, where there is one
  pub call-below : AreOpenCalls b c.calls → HasLast c.calls → (f : Frame ℕ) × (st : List (Frame ℕ)) × (below_of w.spot c ≡ f ∷ st)
  call-below calls has = (frame, under, ap (λ (cs : List Called). calls_of w.spot (opens_of c.base c.vars cs)) reversed ∙ framed)
    where
      call : IsOpenCall b has.last
      call = calls (length has.front) has.last (ap (λ cs. slice_get cs (length has.front)) has.is ∙ last-there has.front has.last)

      here : Spot
      here = w.spot has.last.place

      saved : List ℕ
      saved = drop has.last.base (take c.base c.vars)

      lower : List (Frame ℕ)
      lower = calls_of w.spot (opens_of has.last.base (take c.base c.vars) (reverse has.front))

      reversed : reverse c.calls ≡ has.last ∷ reverse has.front
      reversed = ap (λ (l : List Called). reverse l) has.is ∙ reverse-append has.front (has.last ∷ [])

      link : IsDo (λ q x. StandsAt w.spot b.steps q x) b u here call.step.span call.step.next (actions.Invoke call.call)
      link = subst (λ a. IsLinkedBy (λ q x. StandsAt w.spot b.steps q x) b u here call.step.span call.step.next a) call.invokes (w.linked has.last.place call.step call.there).0

      frame : Frame ℕ
      frame = OpenCall link.tie call.call.into call.call.receiver saved None here.routine link.rest

      under : List (Frame ℕ)
      under = frames_of here.within ++ lower

      framed : frame_over here.routine here.within here.code saved lower ≡ frame ∷ under
      framed = ap (λ (x : Code). frame_over here.routine here.within x saved lower) link.code

  -- the stage of a branch that isn't at its end
  pub stage-due : (m : ℕ) → IsSound u w.spot b m c → (IsAtEnd b c → ⊥) → stage (branch_of w.spot c) ≡ stage_by_turns c.turns (own_of u w.spot c)
  stage-due m sound busy = by_action s.action refl
    where
      found : (s : Step) × (slice_get b.steps c.at ≡ Some s)
      found = entry-there b.steps c.at sound.here

      s : Step
      s = found.0

      frames : List (Frame ℕ)
      frames = frames_of (w.spot c.at).within

      Goal : Type 0
      Goal = stage (branch_of w.spot c) ≡ stage_by_turns c.turns (own_of u w.spot c)

      code_left : s.action ≢ actions.End → Goal
      code_left other =
          due-by-code (w.spot c.at).code (frames ++ below_of w.spot c) c.turns (own_of u w.spot c)
          (linked-busy (λ q here. StandsAt w.spot b.steps q here) b u (w.spot c.at) s.span s.next s.action (w.linked c.at s found.1).0 other)

      call_open : s.action ≡ actions.End → HasLast c.calls → Goal
      call_open ends has =
          let below = call-below sound.calls has in
          let link = subst (λ a. IsLinkedBy (λ q here. StandsAt w.spot b.steps q here) b u (w.spot c.at) s.span s.next a) ends (w.linked c.at s found.1).0 in
          (λ i. stage_by_code (w.spot c.at).code (frames_of (link.within i) ++ below.2 i) c.turns (own_of u w.spot c)) ∙ due-by-stack (w.spot c.at).code below.0 below.1 c.turns (own_of u w.spot c)

      ended : s.action ≡ actions.End → (c.calls ≡ []) ⊎ HasLast c.calls → Goal
      ended ends (inl alone) = absurd (busy (record { step = s; there = found.1; ends = ends; alone = alone }))
      ended ends (inr has) = call_open ends has

      by_action : (a : Action) → s.action ≡ a → Goal
      by_action actions.End is = ended is (last-of c.calls)
      by_action _ is = code_left (λ e. let no : ⊥ = cc in no)

  -- a branch at its end went well
  end-fine : IsAtEnd b c → stage (branch_of w.spot c) ≡ Over (Fine (locals c) c.turns c.printed)
  end-fine at_end =
      let link = subst (λ a. IsLinkedBy (λ q here. StandsAt w.spot b.steps q here) b u (w.spot c.at) at_end.step.span at_end.step.next a) at_end.ends (w.linked c.at at_end.step at_end.there).0 in
      λ i. stage_by_code (link.code i) (frames_of (link.within i) ++ calls_of w.spot (opens_of c.base c.vars (reverse (at_end.alone i)))) c.turns (own_of u w.spot c)

  -- a branch has ended on the machine as it has ended
  pub ended-as : (m : ℕ) (ending : Option Ending) (r : Option Final) → (ending ≡ None → IsSound u w.spot b m c) → EndsAs b c ending r → HasEnded u w.spot (record { control = c; ending = ending }) r
  ended-as m (Some (endings.Returned word)) r sound is = subst (λ r. HasEnded u w.spot (record { control = c; ending = Some (endings.Returned word) }) r) (sym is) refl
  ended-as m (Some (endings.Failed e)) r sound is = subst (λ r. HasEnded u w.spot (record { control = c; ending = Some (endings.Failed e) }) r) (sym is) refl
  ended-as m None None sound (busy, some) = ap over (stage-due m (sound refl) busy) ∙ due-goes-on c.turns (own_of u w.spot c) some
  ended-as m None (Some finals.Fine) sound at_end = ap over (end-fine at_end)
  ended-as m None (Some (finals.Returned word)) sound never = absurd never
  ended-as m None (Some (finals.Failed (failures.Trap k at))) sound never = absurd never
  ended-as m None (Some (finals.Failed failures.NoRoom)) sound never = absurd never
  ended-as m None (Some (finals.Failed failures.NoTurns)) sound (busy, none_left) =
      ap over (stage-due m (sound refl) busy)
      ∙ ap (λ t. over (stage_by_turns t (own_of u w.spot c))) none_left
      ∙ ap (λ t. Some (machines.Failed NoTurnsLeft t c.printed)) (sym none_left)
