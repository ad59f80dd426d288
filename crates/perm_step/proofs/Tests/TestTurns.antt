-- A running branch before and after a turn that asks nothing of the heap.
use Rattle.std.proofs.Common.{◌≡◌, ◌≢◌, ℕ, suc, ◌-◌, Bool, true, false, List, [], ◌∷◌, Option, Some, None, refl, sym, ap, ◌∙◌, arith}
use Rattle.std.specs.Prelude.{reverse, cond, not, nat_eq}
use Rattle.perm_tree.specs.declared.ast.Span.{Span}
use Rattle.perm_tree.specs.declared.errors.TrapKind.{TrapKind}
use Rattle.perm_tree.specs.Code.{Code, UnitCode}
use Rattle.perm_tree.specs.Links.{Spot}
use Rattle.perm_meaning.specs.Custody.{Copies}
use Rattle.perm_meaning.specs.Machine.{Frame, OpenBlock, OpenRecover, OpenCall, Stage, Over, Due, Leaf as MachineLeaf, Did, Turn, Takes, NoTurn, leaf_on, leaf_op, next_turn, stage, told_to, turn_op, done}
use Rattle.perm_meaning.specs.Turns.{by_truth, given_back, on_test, tick}
use Rattle.perm_meaning.specs.Values.{Eval, Gives, Traps, Mistyped}
use Rattle.perm_meaning.specs.WordHeap.{Ask, Branch, NoMark, Own, Task, worded}
use Rattle.perm_meaning.specs.Words.{words}
use Rattle.perm_step.specs.declared.control.Leaf.{Leaf}
use Rattle.perm_step.specs.declared.control.Stop.TheVariants as stops
use Rattle.perm_step.specs.Events.{IsLively, NextAsks, NextMakes}
use Rattle.perm_step.specs.Given.{IsGiven, IsTrap}
use Rattle.perm_step.specs.LeafMoves.{ending_of, spent}
use Rattle.perm_step.specs.Standing.{below_of, branch_at, branch_of, ended_as, leaf_branch, opens_of}
use Rattle.perm_step.specs.Working.{Working, locals}
use Rattle.perm_step.proofs.WordMachine.Moves.{before, failed_by}
use Rattle.perm_step.proofs.WordMachine.Settling.{AreCalls, Ticks, are-calls}

-- ---------- what an expression gives ----------
-- a word that is given is the value, where that isn't mistyped
pub given-is : (e : Eval ℕ) (w : ℕ) → IsGiven e w → (e ≡ Mistyped → ⊥) → e ≡ Gives w
given-is (Gives v) w is typed = ap Gives (sym is)
given-is (Traps k) w is typed = absurd is
given-is Mistyped w is typed = absurd (typed refl)

-- so is a trap
pub trap-is : (e : Eval ℕ) (k : TrapKind) → IsTrap e k → (e ≡ Mistyped → ⊥) → e ≡ Traps k
trap-is (Gives v) k is typed = absurd is
trap-is (Traps j) k is typed = ap Traps (sym is)
trap-is Mistyped k is typed = absurd (typed refl)

-- ---------- turns that hear nothing ----------
-- a turn makes the same of each word that it is told
abbrev pub IsDeaf : Turn ℕ NoMark Ask → Type 0
IsDeaf (Takes o told) = (v : ℕ) → told v ≡ told 0
IsDeaf NoTurn = Unit {0}

-- the turn of a truth value
deaf-truth : (o : Option Bool) (first second : Did ℕ NoMark) → IsDeaf (by_truth words Copies o (tick words Copies first) (tick words Copies second))
deaf-truth None first second = tt
deaf-truth (Some true) first second = λ v. refl
deaf-truth (Some false) first second = λ v. refl

-- one of two turns that ask nothing
pub deaf-choice : (d : Bool) (first second : Did ℕ NoMark) → IsDeaf (cond d (tick words Copies first) (tick words Copies second))
deaf-choice true first second = λ v. refl
deaf-choice false first second = λ v. refl

-- the turn of a condition
pub deaf-test : (e : Eval ℕ) (at : Span) (first second : Did ℕ NoMark) → IsDeaf (on_test words Copies e at (tick words Copies first) (tick words Copies second))
deaf-test (Gives w) at first second = deaf-truth (Some (not (nat_eq w 0))) first second
deaf-test (Traps k) at first second = λ v. refl
deaf-test Mistyped at first second = tt

-- the turn of the end of a recover block
pub deaf-given : (e : Eval ℕ) (w x : ℕ) (st : List (Frame ℕ)) (l : Own) → IsDeaf (given_back words Copies e w x st l)
deaf-given (Gives v) w x [] l = tt
deaf-given (Gives v) w x (OpenBlock own rest ∷ st) l = tt
deaf-given (Gives v) w x (OpenRecover own hides saved rest ∷ st) l = λ u. refl
deaf-given (Gives v) w x (OpenCall tie into y saved lent caller rest ∷ st) l = tt
deaf-given (Traps k) w x st l = tt
deaf-given Mistyped w x st l = tt

module _ (u : UnitCode) where
  -- what it makes of a branch is the same too
  told-same : (b : Branch) (t : ℕ) (x : Turn ℕ NoMark Ask) → IsDeaf x → (v : ℕ) → told_to (worded Copies u) b t x (Some v) ≡ told_to (worded Copies u) b t x (Some 0)
  told-same b t (Takes o told) deaf v = ap (done (worded Copies u) b t) (deaf v)
  told-same b t NoTurn deaf v = refl

  -- so it is at any stage
  heard-same : (b : Branch) (x : Stage ℕ) → IsDeaf (next_turn (worded Copies u) b) → (v : ℕ) → leaf_on (worded Copies u) b x (Some v) ≡ leaf_on (worded Copies u) b x (Some 0)
  heard-same b (Over f) deaf v = refl
  heard-same b (Due t) deaf v = told-same b t (next_turn (worded Copies u) b) deaf v

  -- ---------- the branch at a spot ----------
  module _ (spot : ℕ → Spot) (c : Working) where
    -- what its turn may change
    abbrev pub own_of : Own
    own_of = record { vars = locals c; routine = (spot c.at).routine; depth = c.depth; printed = c.printed; mark = tt }

    -- nothing stands below its method but calls
    pub below-calls : AreCalls (below_of spot c)
    below-calls = are-calls spot (opens_of c.base c.vars (reverse c.calls))

    -- the branch at this code, with so many turns after the next one
    abbrev pub at_code : ℕ → Code → Branch
    at_code t code = before u own_of t (spot c.at).within (below_of spot c) below-calls code

    -- it is the running branch, where that is the code of its spot
    pub stands : (t : ℕ) (code : Code) → c.turns ≡ suc t → (spot c.at).code ≡ code → at_code t code ≡ branch_of spot c
    stands t code due is = λ i. record (branch_of spot c) { turns = sym due i; code = sym is i }

    -- what is asked there is asked by the running branch
    pub asks-there : (t : ℕ) (code : Code) (o : Ask) → c.turns ≡ suc t → (spot c.at).code ≡ code → leaf_op (worded Copies u) (at_code t code) (stage (at_code t code)) ≡ Some o → NextAsks u (branch_of spot c) o
    asks-there t code o due is asks = sym (ap (λ (b : Branch). leaf_op (worded Copies u) b (stage b)) (stands t code due is)) ∙ asks

    -- what is made there of any word is made of the running branch
    pub makes-there : (t : ℕ) (code : Code) (task made : Task) → c.turns ≡ suc t → (spot c.at).code ≡ code → IsDeaf (next_turn (worded Copies u) (at_code t code)) → Ticks u (at_code t code) task → task ≡ made → (v : ℕ) → NextMakes u (branch_of spot c) (Some v) made
    makes-there t code task made due is deaf ticks same v =
        sym (ap (λ (b : Branch). leaf_on (worded Copies u) b (stage b) (Some v)) (stands t code due is))
        ∙ heard-same (at_code t code) (stage (at_code t code)) deaf v ∙ ticks.1 ∙ same

    -- a lively branch isn't stuck there
    pub lively-there : (t : ℕ) (code : Code) → c.turns ≡ suc t → (spot c.at).code ≡ code → IsLively u (branch_of spot c) → turn_op (worded Copies u) (next_turn (worded Copies u) (at_code t code)) ≢ None
    lively-there t code due is lively stuck = lively (sym (ap (λ (b : Branch). turn_op (worded Copies u) (next_turn (worded Copies u) b)) (stands t code due is)) ∙ stuck)

    -- ---------- where it comes ----------
    -- a leaf that goes on
    pub runs-as : (n : Working) (new : Leaf) → new.ending ≡ None → new.control ≡ n → branch_of spot n ≡ leaf_branch spot new
    runs-as n new on is = λ i. ended_as (sym on i) (branch_of spot (sym is i))

    -- it comes to a spot with these variables
    pub lands : (t : ℕ) (s : Spot) (vs : List ℕ) (n : Working) (new : Leaf) → spot n.at ≡ s → below_of spot n ≡ below_of spot c → locals n ≡ vs → n.depth ≡ c.depth → n.printed ≡ c.printed → n.turns ≡ t → new.ending ≡ None → new.control ≡ n
        → MachineLeaf (branch_at s (below_of spot c) vs c.depth c.printed t) ≡ MachineLeaf (leaf_branch spot new)
    lands t s vs n new place below vars depth printed turns on is =
        (λ i. MachineLeaf (branch_at (sym place i) (sym below i) (sym vars i) (sym depth i) (sym printed i) (sym turns i)))
        ∙ ap (λ (b : Branch). let x : Task = MachineLeaf b in x) (runs-as n new on is)

    -- a trap ends it
    pub fails : (t : ℕ) (code : Code) (k : TrapKind) (at : Span) (new : Leaf) → c.turns ≡ suc t → new ≡ record { control = spent c; ending = Some (ending_of (stops.Trap k) at) }
        → failed_by u own_of t (spot c.at).within (below_of spot c) below-calls code k at ≡ MachineLeaf (leaf_branch spot new)
    fails t code k at new due is =
        let left : t ≡ c.turns - 1 = omega arith in
        (λ i. MachineLeaf (record (leaf_branch spot (record { control = spent c; ending = Some (ending_of (stops.Trap k) at) })) { turns = left i }))
        ∙ ap (λ (l : Leaf). let x : Task = MachineLeaf (leaf_branch spot l) in x) (sym is)
