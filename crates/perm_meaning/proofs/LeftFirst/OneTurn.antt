-- One turn of a branch on names, against what the meaning says of it.
use Rattle.std.proofs.Common.{◌≡◌, ◌≢◌, ℕ, zero, suc, ◌-◌, Bool, true, false, Option, Some, None, List, [], ◌∷◌, refl, sym, ap, ◌∙◌, subst, arith, le_refl}
use Rattle.std.specs.Prelude.{cond}
use Rattle.perm_tree.specs.declared.ast.Span.{Span}
use Rattle.perm_tree.specs.declared.errors.TrapKind.{TrapKind}
use Rattle.perm_tree.specs.declared.errors.TrapKind.TheVariants.{StackOverflow}
use Rattle.perm_tree.specs.Code.{Code, End, UnitCode}
use Rattle.perm_meaning.specs.Values.{Eval, Gives, Traps, Mistyped, Truth}
use Rattle.perm_meaning.specs.Expressions.{tagged, assign, assign_into, clear, clear_all, held}
use Rattle.perm_meaning.specs.Names.{Mark}
use Rattle.perm_meaning.specs.Machine.{OpenBlock, OpenRecover, OpenCall, Trapped, NoTurns, NoRoom, Returning, Failing, Leaf, Here, Did, On, Dies, Turn, Takes, NoTurn, over, stage_by_code, stage_by_turns, look, done, told_to, leaf_op, leaf_on, turn_op}
use Rattle.perm_meaning.specs.Custody.{Copies}
use Rattle.perm_meaning.specs.Effects.{choose}
use Rattle.perm_meaning.specs.Turns as turns
use Rattle.perm_meaning.specs.NamedHeap.{Heap, Held, Op, Own, Branch, Task, State, marks, named, memory, find, after}
use Rattle.perm_meaning.specs.Steps.{Answer, Found, Refused, Missing, granted, asked_with_care}
use Rattle.perm_meaning.specs.Meaning as meaning
use Rattle.perm_meaning.specs.Meaning.{Moment, Result, Well, Gave, Handed, Fails, Full, Stuck, set_vars, spend}
use Rattle.perm_meaning.proofs.Leads.{stay, one}
use Rattle.perm_meaning.proofs.LeftFirst.Reached.{Frame, at_code, going, settles, Reach, Follows, along, more}

-- a branch before its turn
abbrev pub plain : Code → List Frame → Moment → Branch
plain c st m = record { own = m.own; turns = m.turns; code = c; stack = st; close = None }

-- where nothing stands below, no block is at its end
pub at-empty : (u : UnitCode) (c : Code) (m : Moment) → at_code u c [] m ≡ plain c [] m
at-empty u End m = refl
at-empty u c m = refl

-- code that isn't at its end
abbrev pub IsDue : Code → List Frame → Type 0
IsDue c st = (t : ℕ) (l : Own) → stage_by_code c st t l ≡ stage_by_turns t l

-- want of turns isn't want of room
no-turns-room : NoTurns ≢ NoRoom
no-turns-room e = absurd (cc)

-- nor is a trap
trapped-room : (k : TrapKind) (at : Span) → Trapped k at ≢ NoRoom
trapped-room k at e = absurd (cc)

module _ (u : UnitCode) (fits : ℕ → Bool) where
  -- m is the moment after the turn is spent
  abbrev pub before : Code → List Frame → Moment → State
  before c st m = record { task = Leaf (plain c st (record m { turns = suc m.turns })); heap = m.heap }

  -- what a turn makes of the branch
  abbrev pub then_task : Code → List Frame → Moment → Did Held Mark → Task
  then_task c st m d = done (named Copies u) (plain c st (record m { turns = suc m.turns })) m.turns d

  -- the branch follows its meaning after what the heap answers; d is the code that is next where it ends well
  abbrev pub Answered : Code → Code → List Frame → Moment → Op → (Held → Did Held Mark) → Answer Held → Result → Type 0
  Answered c d st m o told (Found v) r = Follows u fits d st m.turns (record { task = then_task c st m (told v); heap = after u fits o m.heap }) r
  Answered c d st m o told Refused r = r ≡ Full
  Answered c d st m o told Missing r = r ≡ Stuck

  -- the same of a turn
  abbrev pub TurnTo : Code → Code → List Frame → Moment → Turn Held Mark Op → Result → Type 0
  TurnTo c d st m NoTurn r = Follows u fits d st (suc m.turns) (before c st m) r
  TurnTo c d st m (Takes o told) r = Answered c d st m o told (find fits o m.heap) r

  -- a branch that takes its turn
  by-turn : (c d : Code) (st : List Frame) → IsDue c st → (m : Moment) (t : Turn Held Mark Op) (r : Result) → turns.turn tagged Copies u marks c st m.own ≡ t → TurnTo c d st m t r
      → Follows u fits d st (suc m.turns) (before c st m) r
  by-turn c d st due m NoTurn r e q = q
  by-turn c d st due m (Takes o told) r e q = go (find fits o m.heap) refl q
    where
      x : State
      x = before c st m

      b : Branch
      b = plain c st (record m { turns = suc m.turns })

      asks : look (named Copies u) Here x.task ≡ Some o
      asks = ap (λ z. leaf_op (named Copies u) b z) (due (suc m.turns) m.own) ∙ ap (λ t. turn_op (named Copies u) t) e

      go : (a : Answer Held) → find fits o m.heap ≡ a → Answered c d st m o told a r → Follows u fits d st (suc m.turns) x r
      go Refused e2 q = subst (λ z. Follows u fits d st (suc m.turns) x z) (sym q) (x, stay (named Copies u) (memory u) fits x, (o, asks, e2))
      go Missing e2 q = subst (λ z. Follows u fits d st (suc m.turns) x z) (sym q) tt
      go (Found v) e2 q =
          let y : State = record { task = then_task c st m (told v); heap = after u fits o m.heap } in
          more u fits d st m.turns (suc m.turns) x r (omega arith) (along u fits d st m.turns x y r (one (named Copies u) (memory u) fits x y
          (ap (λ t. asked_with_care (named Copies u) (memory u) fits x Here t) asks
          ∙ ap (λ a. granted (named Copies u) (memory u) fits x Here o a) e2
          ∙ ap (λ z. Some (record { task = leaf_on (named Copies u) b z (Some v); heap = after u fits o m.heap })) (due (suc m.turns) m.own)
          ∙ ap (λ t. Some (record { task = told_to (named Copies u) b m.turns t (Some v); heap = after u fits o m.heap })) e)) q)

  -- a step that is due spends a turn, if one is left
  pub spending : (c d : Code) (st : List Frame) → IsDue c st → (t : ℕ) (l : Own) (h : Heap) (go : Moment → Result)
      → ((k : ℕ) → suc k ≡ t → TurnTo c d st (record { turns = k; own = l; heap = h }) (turns.turn tagged Copies u marks c st l) (go (record { turns = k; own = l; heap = h })))
      → Follows u fits d st t (record { task = Leaf (plain c st (record { turns = t; own = l; heap = h })); heap = h }) (spend (record { turns = t; own = l; heap = h }) go)
  spending c d st due zero l h go f =
      (le_refl 0, no-turns-room, plain c st (record { turns = 0; own = l; heap = h }), ap (λ z. over z) (due 0 l), stay (named Copies u) (memory u) fits _)
  spending c d st due (suc k) l h go f = by-turn c d st due (record { turns = k; own = l; heap = h }) (turns.turn tagged Copies u marks c st l) (go (record { turns = k; own = l; heap = h })) refl (f k refl)

  -- a branch that traps
  pub dies-follows : (c d : Code) (st : List Frame) (m : Moment) (h : Heap) (at : Span) (k : TrapKind)
      → Follows u fits d st m.turns (record { task = then_task c st m (Dies (Trapped k at)); heap = h }) (Fails (Trapped k at) m.turns m.own.printed h)
  dies-follows c d st m h at k =
      (le_refl m.turns, trapped-room k at, record { own = record m.own { vars = [] }; turns = m.turns; code = End; stack = []; close = Some (Failing (Trapped k at)) }, refl, stay (named Copies u) (memory u) fits _)

  -- a branch that goes on with other code
  pub on-follows : (c d c1 : Code) (st st1 : List Frame) (m : Moment) (l : Own) (h : Heap) (r : Result)
      → Follows u fits d st m.turns (going u c1 st1 (record { turns = m.turns; own = l; heap = h })) r
      → Follows u fits d st m.turns (record { task = then_task c st m (On l c1 st1); heap = h }) r
  on-follows c d c1 st st1 m l h r f = subst (λ (z : Branch). Follows u fits d st m.turns (record { task = Leaf z; heap = h }) r) (sym (settles u l m.turns c st l.vars c1 st1)) f

  -- the same, said of what it comes to
  on-reach : (c c1 : Code) (st st1 : List Frame) (m : Moment) (l : Own) (h : Heap)
      → Reach u fits (record { task = then_task c st m (On l c1 st1); heap = h }) (going u c1 st1 (record { turns = m.turns; own = l; heap = h }))
  on-reach c c1 st st1 m l h =
      subst (λ (z : Branch). Reach u fits (record { task = Leaf z; heap = h }) (going u c1 st1 (record { turns = m.turns; own = l; heap = h }))) (sym (settles u l m.turns c st l.vars c1 st1))
      (stay (named Copies u) (memory u) fits _)

  -- one way of two
  pub test-to : (c d : Code) (st : List Frame) (m : Moment) (e : Eval Held) (at : Span) (a b : Turn Held Mark Op) (f g : Moment → Result)
      → TurnTo c d st m a (f m) → TurnTo c d st m b (g m) → TurnTo c d st m (turns.on_test tagged Copies e at a b) (meaning.on_test e at m f g)
  test-to c d st m (Gives (Some (Truth true))) at a b f g x y = x
  test-to c d st m (Gives (Some (Truth false))) at a b f g x y = y
  test-to c d st m (Gives _) at a b f g x y = tt
  test-to c d st m (Traps k) at a b f g x y = dies-follows c d st m m.heap at k
  test-to c d st m Mistyped at a b f g x y = tt

  -- one branch more, if the depth allows it
  pub depth-to : (c d : Code) (st : List Frame) (m : Moment) (t : Bool) (at : Span) (a : Turn Held Mark Op) (f : Moment → Result) → TurnTo c d st m a (f m)
      → TurnTo c d st m (cond t a (turns.trap tagged Copies at StackOverflow)) (choose t f (meaning.trap at StackOverflow) m)
  depth-to c d st m true at a f x = x
  depth-to c d st m false at a f x = dies-follows c d st m m.heap at StackOverflow

  -- ---------- values that are given ----------
  -- a value for the recover block that stands below
  handed-to : (c : Code) (st : List Frame) (m : Moment) (w x : ℕ) (v : Held) → TurnTo c End st m (turns.given_back tagged Copies (Gives v) w x st m.own) (Handed x v (set_vars m (clear tagged m.own.vars w)))
  handed-to c [] m w x v = (omega arith, tt)
  handed-to c (OpenBlock own rest ∷ st) m w x v = (omega arith, tt)
  handed-to c (OpenCall tie into y saved lent caller rest ∷ st) m w x v = (omega arith, tt)
  handed-to c (OpenRecover own hides saved rest ∷ st) m w x v =
      (le_refl m.turns, on-reach c rest (OpenRecover own hides saved rest ∷ st) st m (record m.own { vars = assign (clear_all tagged (clear tagged m.own.vars w) own) x v }) m.heap)

  -- the same of what a variable holds
  pub give-to : (c : Code) (st : List Frame) (m : Moment) (w x : ℕ) (at : Span) (s : Option Held)
      → TurnTo c End st m (turns.given_back tagged Copies (held tagged s) w x st m.own) (meaning.on_value (held tagged s) at m (λ v. Handed x v (set_vars m (clear tagged m.own.vars w))))
  give-to c st m w x at None = tt
  give-to c st m w x at (Some None) = tt
  give-to c st m w x at (Some (Some v)) = handed-to c st m w x (Some v)

  -- a value for the call that stands below, or for the whole run
  gave-to : (c : Code) (st : List Frame) (m : Moment) (v : Held) → TurnTo c End st m (turns.returned tagged Copies v st m.own) (Gave v m)
  gave-to c [] m v =
      (le_refl m.turns, (record { own = record m.own { vars = [] }; turns = m.turns; code = End; stack = []; close = Some (Returning v) }, refl, stay (named Copies u) (memory u) fits _))
  gave-to c (OpenBlock own rest ∷ st) m v = (omega arith, tt)
  gave-to c (OpenRecover own hides saved rest ∷ st) m v = (omega arith, tt)
  gave-to c (OpenCall tie into y saved lent caller rest ∷ st) m v =
      (le_refl m.turns, on-reach c rest (OpenCall tie into y saved lent caller rest ∷ st) st m (record m.own { vars = assign_into (turns.lent_back lent y saved) into v; routine = caller; depth = m.own.depth - 1 }) m.heap)

  -- the same of what an expression gives
  pub return-to : (c : Code) (st : List Frame) (m : Moment) (e : Eval Held) (at : Span)
      → TurnTo c End st m (turns.on_value tagged Copies e at (λ v. turns.returned tagged Copies v st m.own)) (meaning.on_value e at m (λ v. Gave v m))
  return-to c st m (Gives v) at = gave-to c st m v
  return-to c st m (Traps k) at = dies-follows c End st m m.heap at k
  return-to c st m Mistyped at = tt
