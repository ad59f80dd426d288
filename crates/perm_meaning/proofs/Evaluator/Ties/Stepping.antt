-- One simple statement keeps the tie, and what comes of it is what the meaning says.
use Rattle.std.proofs.Common.{◌≡◌, ◌∙◌, ℕ, ℤ, List, [], Option, Some, None, refl, sym, ap, subst, length}
use Rattle.perm_tree.specs.declared.errors.TrapKind.{TrapKind}
use Rattle.perm_tree.specs.declared.errors.TrapKind.TheVariants.{Overflow}
use Rattle.perm_tree.specs.declared.ast.Shape.{Shape}
use Rattle.perm_tree.specs.Code.{Instruction, UnitCode}
use Rattle.perm_meaning.specs.declared.eval.answers.Answer as answer
use Rattle.perm_meaning.specs.declared.eval.answers.Answer.TheVariants as answers
use Rattle.perm_meaning.specs.declared.eval.asks.Ask.{Ask}
use Rattle.perm_meaning.specs.declared.eval.asks.Ask.TheVariants as asks
use Rattle.perm_meaning.specs.declared.eval.asks.Asked.TheVariants as asked
use Rattle.perm_meaning.specs.declared.eval.asks.Told.{Told}
use Rattle.perm_meaning.specs.declared.eval.asks.Told.TheVariants as told
use Rattle.perm_meaning.specs.declared.eval.own.Own as owned
use Rattle.perm_meaning.specs.declared.eval.step.Step.TheVariants as steps
use Rattle.perm_meaning.specs.declared.eval.values.Value.{Value}
use Rattle.perm_meaning.specs.Evaluator.Asks.{asked_by, op_by, told_by, Way}
use Rattle.perm_meaning.specs.Effects.{Act, Does, GoesOn, Halts, Load, Make, Sticks, Store, Take, Tick, effect}
use Rattle.perm_meaning.specs.Expressions.{tagged}
use Rattle.perm_meaning.specs.Machine.{Trapped}
use Rattle.perm_meaning.specs.Meaning.{answered, doing, perform, Fails, Full, Stuck}
use Rattle.perm_meaning.specs.NamedHeap.{after, find, marks, Held, Op, Own}
use Rattle.perm_meaning.specs.Names.{Mark, Name, after_object}
use Rattle.perm_meaning.specs.Evaluator.NumberedValues.{held_by, Names}
use Rattle.perm_meaning.specs.Objects.{Objects}
use Rattle.perm_meaning.specs.Evaluator.SimpleStatements.{own_by, Asks}
use Rattle.perm_meaning.specs.Evaluator.SimpleSteps.{meant, At, Comes, HasGone, HasTrapped}
use Rattle.perm_meaning.specs.Steps.{within, Answer, Found, Missing, Refused}
use Rattle.perm_meaning.specs.Evaluator.NumberedHeap.{Answers, Stored}
use Rattle.perm_meaning.specs.Evaluator.ToldAnswers.{act_by, mark_after}
use Rattle.perm_meaning.specs.Evaluator.Ties.{moment_by, next_mark, AllBelow, AreSame, AskBelow, Heard, IsAnswered, IsTied}
use Rattle.perm_meaning.specs.Evaluator.UnbornNames.{AreUnborn}
use Rattle.perm_meaning.proofs.Leads.{some-inj}
use Rattle.perm_meaning.proofs.Evaluator.Ties.Answering.{heard}
use Rattle.perm_meaning.proofs.Evaluator.Ties.Below.{all-below, all-same, number-below, same-fewer, slot-same, value-below}
use Rattle.perm_meaning.proofs.Evaluator.Ties.Marks.{effect-marks, own_of, MarksMade}
use Rattle.perm_meaning.proofs.Evaluator.UnbornNames.{ahead-before}

-- ---------- parts of turns ----------
-- the operation
abbrev op_of : Way → Op
op_of (Does o t) = o
op_of Sticks = Tick

-- what is done by what is found
abbrev told_of : Way → Held → Act Held Mark
told_of (Does o t) = t
told_of Sticks = λ w. Halts Overflow

-- the object of an operation
abbrev object_of : Op → Name
object_of (Load r f) = r
object_of (Store r f v) = r
object_of (Take r f) = r
object_of o = record { by = []; count = 0 }

-- what is stored
abbrev stored_of : Op → Held
stored_of (Store r f v) = v
stored_of o = None

-- ---------- what doesn't depend on the names of later objects ----------
-- what is asked doesn't refer past the first n, if they decide it
ask-below : (u : UnitCode) (n : ℕ) (mark : Mark) (q : Ask) → ((a b : Names) → AreSame n a b → op_by u a mark q ≡ op_by u b mark q) → AskBelow n q
ask-below u n mark asks.Tick k = tt
ask-below u n mark (asks.Load r f) k = number-below n r (λ a b same. ap object_of (k a b same))
ask-below u n mark (asks.Store r f v) k = (number-below n r (λ a b same. ap object_of (k a b same)), value-below n v (λ a b same. some-inj (ap stored_of (k a b same))))
ask-below u n mark (asks.Take r f) k = number-below n r (λ a b same. ap object_of (k a b same))
ask-below u n mark (asks.Object c) k = tt
ask-below u n mark (asks.Array m) k = tt

-- what a branch has is the same by both names
pub own-same : (n : ℕ) (a b : Names) → AreSame n a b → (o : owned.Own) → AllBelow n o.vars → (mark : Mark) → own_by a mark o ≡ own_by b mark o
own-same n a b same o below mark = ap (λ (vs : List Held). record { vars = vs; routine = o.«method»; depth = o.depth; printed = o.printed; mark = mark }) (all-same n a b same o.vars below)

-- ---------- marks ----------
-- a branch is where it was, and has begun no par
told-path : (t : Told) (mark : Mark) → (mark_after t mark).path ≡ mark.path
told-path told.Goes mark = refl
told-path (told.Into x) mark = refl
told-path (told.Sets x v) mark = refl
told-path (told.Made x) mark = refl
told-path (told.Prints n) mark = refl
told-path (told.Halts k) mark = refl

told-pars : (t : Told) (mark : Mark) → (mark_after t mark).pars ≡ mark.pars
told-pars told.Goes mark = refl
told-pars (told.Into x) mark = refl
told-pars (told.Sets x v) mark = refl
told-pars (told.Made x) mark = refl
told-pars (told.Prints n) mark = refl
told-pars (told.Halts k) mark = refl

-- names that are new stay so where a branch counts one object more
told-unborn : (t : Told) (objects : Objects Name) (mark : Mark) → AreUnborn objects mark → AreUnborn objects (mark_after t mark)
told-unborn told.Goes objects mark new = new
told-unborn (told.Into x) objects mark new = new
told-unborn (told.Sets x v) objects mark new = new
told-unborn (told.Made x) objects mark new = λ name ahead. new name (ahead-before mark name ahead)
told-unborn (told.Prints n) objects mark new = new
told-unborn (told.Halts k) objects mark new = new

-- a branch goes on in its method, at its depth
abbrev pub IsPlace : owned.Own → owned.Own → Type 0
IsPlace old new = (new.«method» ≡ old.«method») × (new.depth ≡ old.depth)

-- that is so of what a branch goes on with
goes-place : (names : Names) (m n : Mark) (old new : owned.Own) (l : Own) → l.routine ≡ old.«method» → l.depth ≡ old.depth → GoesOn l ≡ GoesOn (own_by names n new) → IsPlace old new
goes-place names m n old new l r d e =
    let same = ap (own_of l) (sym e) in (ap (λ (k : Own). k.routine) same ∙ r, ap (λ (k : Own). k.depth) same ∙ d)

-- and so of all that is told
told-place : (names : Names) (m n : Mark) (old new : owned.Own) (t : Told) (w : Held) → told_by names (own_by names m old) t w ≡ GoesOn (own_by names n new) → IsPlace old new
told-place names m n old new told.Goes w e = goes-place names m n old new (own_by names m old) refl refl e
told-place names m n old new (told.Into x) w e = goes-place names m n old new _ refl refl e
told-place names m n old new (told.Sets x v) w e = goes-place names m n old new _ refl refl e
told-place names m n old new (told.Made x) w e = goes-place names m n old new _ refl refl e
told-place names m n old new (told.Prints k) w e = goes-place names m n old new _ refl refl e
told-place names m n old new (told.Halts k) w e = absurd (cc)

module _ (u : UnitCode) (i : Instruction) (old mid : owned.Own) (q : Ask) (t : Told) (asks : Asks u i old mid (asked.Does q t)) where
  -- the turn is the same by both names
  turn-same : (n : ℕ) (a b : Names) → AreSame n a b → AllBelow n old.vars → (mark : Mark) → asked_by u a (own_by a mark mid) (asked.Does q t) ≡ asked_by u b (own_by b mark mid) (asked.Does q t)
  turn-same n a b same below mark = sym (asks a mark) ∙ ap (effect tagged u marks i) (own-same n a b same old below mark) ∙ asks b mark

  -- so is the operation
  op-same : (n : ℕ) (a b : Names) → AreSame n a b → AllBelow n old.vars → (mark : Mark) → op_by u a mark q ≡ op_by u b mark q
  op-same n a b same below mark = ap op_of (turn-same n a b same below mark)

  -- and what is done by what is found
  told-same : (n : ℕ) (a b : Names) → AreSame n a b → AllBelow n old.vars → (mark : Mark) (w : Held) → told_by a (own_by a mark mid) t w ≡ told_by b (own_by b mark mid) t w
  told-same n a b same below mark w = ap (λ (x : Way). told_of x w) (turn-same n a b same below mark)

  -- a branch that has made an object counts it
  counts : (names : Names) (mark : Mark) (shape : Shape) (n : ℕ) (w : Held) (k : Own) → op_by u names mark q ≡ Make mark shape n → told_by names (own_by names mark mid) t w ≡ GoesOn k → k.mark ≡ after_object mark
  counts names mark shape n w k o e =
      let whole : MarksMade mark (Does (op_by u names mark q) (told_by names (own_by names mark mid) t)) = subst (MarksMade mark) (asks names mark) (effect-marks u i (own_by names mark old)) in
      subst (λ (x : Op). MarksMade mark (Does x (told_by names (own_by names mark mid) t))) o whole w k e

-- the names that a branch has still to give are new, also after it is told
next-unborn-by : (u : UnitCode) (names : Names) (mark : Mark) (q : Ask) (t : Told) (objects : Objects Name) → ((shape : Shape) (n : ℕ) → op_by u names mark q ≡ Make mark shape n → mark_after t mark ≡ after_object mark)
    → AreUnborn objects (next_mark q mark) → AreUnborn objects (mark_after t mark)
next-unborn-by u names mark asks.Tick t objects k new = told-unborn t objects mark new
next-unborn-by u names mark (asks.Load r f) t objects k new = told-unborn t objects mark new
next-unborn-by u names mark (asks.Store r f v) t objects k new = told-unborn t objects mark new
next-unborn-by u names mark (asks.Take r f) t objects k new = told-unborn t objects mark new
next-unborn-by u names mark (asks.Object c) t objects k new = subst (AreUnborn objects) (sym (k _ _ refl)) new
next-unborn-by u names mark (asks.Array n) t objects k new = subst (AreUnborn objects) (sym (k _ _ refl)) new

-- ---------- what comes of it ----------
-- nothing is meant of it
pub sticks : (u : UnitCode) (i : Instruction) (old mid : owned.Own) → Asks u i old mid asked.Sticks → (s : Stored) (z : At) → meant u i z old s.limit ≡ Stuck
sticks u i old mid asks s z = ap (λ (y : Way). doing u (within s.limit) z.again z.at y (moment_by z.names z.mark z.heap z.turns old)) (asks z.names z.mark)

module _ (u : UnitCode) (i : Instruction) (old mid : owned.Own) (q : Ask) (t : Told) (asks : Asks u i old mid (asked.Does q t)) (s r : Stored) (z : At) (tied : IsTied z.names z.mark old s z.heap) where
  -- what is asked
  abbrev pub op : Op
  op = op_by u z.names z.mark q

  -- what is done by what is found
  abbrev pub tells : Held → Act Held Mark
  tells = told_by z.names (own_by z.names z.mark mid) t

  -- the heap of names answers as the numbered one does
  heard-at : (a : answer.Answer) → Answers u q s a r → Heard u op z.names z.mark (next_mark q z.mark) s z.heap r a
  heard-at a e =
      heard u z.names z.mark s z.heap tied.objects tied.unborn q (ask-below u (length s.objects) z.mark q (λ a b same. op-same u i old mid q t asks (length s.objects) a b same tied.vars z.mark)) a r e

  -- what is meant, by what is found
  meant-is : (x : Answer Held) → find (within s.limit) op z.heap ≡ x → meant u i z old s.limit ≡ answered u (within s.limit) z.again x op z.at tells (moment_by z.names z.mark z.heap z.turns old)
  meant-is x e =
      ap (λ (y : Way). doing u (within s.limit) z.again z.at y (moment_by z.names z.mark z.heap z.turns old)) (asks z.names z.mark)
      ∙ ap (λ (y : Answer Held). answered u (within s.limit) z.again y op z.at tells (moment_by z.names z.mark z.heap z.turns old)) e

  -- where the heap is full the run ends
  pub fills : Answers u q s answers.Refused r → meant u i z old s.limit ≡ Full
  fills e = meant-is Refused (heard-at answers.Refused e)

  -- where a field isn't there the run is stuck
  pub misses : Answers u q s answers.Missing r → meant u i z old s.limit ≡ Stuck
  misses e = meant-is Missing (heard-at answers.Missing e)

  module _ (v : Option Value) (new : owned.Own) (k : Option TrapKind) (acts : (names : Names) (mark : Mark) → told_by names (own_by names mark mid) t (held_by names v) ≡ act_by names (mark_after t mark) new k) where
    module _ (later : Names) (is : IsAnswered u op z.names z.mark (next_mark q z.mark) s z.heap r later v) where
      -- what is done, by the later names
      acts-later : tells (held_by later v) ≡ act_by later (mark_after t z.mark) new k
      acts-later = told-same u i old mid q t asks (length s.objects) z.names later is.grows.same tied.vars z.mark (held_by later v) ∙ acts later z.mark

      -- so that is meant
      meant-acts : meant u i z old s.limit
          ≡ perform u (within s.limit) z.again z.at (record { turns = z.turns; own = own_by z.names z.mark old; heap = after u (within s.limit) op z.heap }) (act_by later (mark_after t z.mark) new k)
      meant-acts =
          meant-is (Found (held_by later v)) is.found
          ∙ ap (perform u (within s.limit) z.again z.at (record { turns = z.turns; own = own_by z.names z.mark old; heap = after u (within s.limit) op z.heap })) acts-later

      -- no two names make a difference to what is done that agree on the objects that are there
      acts-same : (a b : Names) → AreSame (length r.objects) a b → act_by a (mark_after t z.mark) new k ≡ act_by b (mark_after t z.mark) new k
      acts-same a b same =
          sym (acts a z.mark)
          ∙ told-same u i old mid q t asks (length s.objects) a b (same-fewer (length s.objects) (length r.objects) a b is.grows.more same) tied.vars z.mark (held_by a v)
          ∙ ap (told_by b (own_by b z.mark mid) t) (slot-same (length r.objects) a b same v is.below)
          ∙ acts b z.mark

      -- the branch goes on
      has-gone : k ≡ None → HasGone u i z old s new r later (mark_after t z.mark) (after u (within s.limit) op z.heap)
      has-gone none =
          let goes : tells (held_by later v) ≡ GoesOn (own_by later (mark_after t z.mark) new) = acts-later ∙ ap (act_by later (mark_after t z.mark) new) none in record {
            grows = is.grows;
            tied = record {
              objects = is.grows.tied;
              vars = all-below (length r.objects) new.vars (λ a b same. ap (λ (x : Act Held Mark). (own_of (own_by z.names z.mark old) x).vars)
                  (ap (act_by a (mark_after t z.mark) new) (sym none) ∙ acts-same a b same ∙ ap (act_by b (mark_after t z.mark) new) none));
              unborn = next-unborn-by u z.names z.mark q t (after u (within s.limit) op z.heap).objects
                  (λ shape n o. counts u i old mid q t asks z.names z.mark shape n (held_by later v) (own_by later (mark_after t z.mark) new) o goes) is.unborn;
            };
            path = told-path t z.mark;
            pars = told-pars t z.mark;
            means = meant-acts
                ∙ ap (λ (x : Option TrapKind). perform u (within s.limit) z.again z.at (record { turns = z.turns; own = own_by z.names z.mark old; heap = after u (within s.limit) op z.heap }) (act_by later (mark_after t z.mark) new x)) none;
          }

      -- or traps
      has-trapped : (kind : TrapKind) → k ≡ Some kind → new.printed ≡ old.printed → HasTrapped u i z kind old s new r later (after u (within s.limit) op z.heap)
      has-trapped kind some printed = record {
        grows = is.grows;
        means = meant-acts
            ∙ ap (λ (x : Option TrapKind). perform u (within s.limit) z.again z.at (record { turns = z.turns; own = own_by z.names z.mark old; heap = after u (within s.limit) op z.heap }) (act_by later (mark_after t z.mark) new x)) some
            ∙ ap (λ (p : List ℤ). Fails (Trapped kind z.at) z.turns p (after u (within s.limit) op z.heap)) (sym printed);
      }

    -- where nothing traps the branch goes on
    pub goes : Answers u q s (answers.Found v) r → k ≡ None → Comes u i z old s new r steps.Goes
    goes e none =
        let h = heard-at (answers.Found v) e in
        (h.0, mark_after t z.mark, after u (within s.limit) op z.heap, has-gone h.0 h.1 none)

    -- a trap ends it
    pub traps : Answers u q s (answers.Found v) r → (kind : TrapKind) → k ≡ Some kind → new.printed ≡ old.printed → Comes u i z old s new r (steps.Traps kind)
    traps e kind some printed =
        let h = heard-at (answers.Found v) e in
        (h.0, after u (within s.limit) op z.heap, has-trapped h.0 h.1 kind some printed)

-- a branch that goes on is in its method, at its depth
pub stays-in-place : (old new : owned.Own) (t : Told) (v : Option Value) → ((names : Names) (mark : Mark) → told_by names (own_by names mark old) t (held_by names v) ≡ act_by names (mark_after t mark) new None) → IsPlace old new
stays-in-place old new t v acts =
    let names : Names = λ r. record { by = []; count = 0 } in
    let mark : Mark = record { path = []; made = 0; pars = 0 } in told-place names mark (mark_after t mark) old new t (held_by names v) (acts names mark)
