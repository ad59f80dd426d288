-- What a branch makes of what it has refers to no object that isn't there, and what comes of a statement where other code waits.
use Rattle.std.proofs.Common.{◌≡◌, ◌∙◌, ℕ, suc, List, [], Option, Some, None, sym, ap}
use Rattle.perm_tree.specs.declared.ast.Span.{Span}
use Rattle.perm_tree.specs.Code.{Code, Do, Instruction, UnitCode}
use Rattle.perm_meaning.specs.declared.eval.own.Own as owned
use Rattle.perm_meaning.specs.declared.eval.values.Given.TheVariants as given
use Rattle.perm_meaning.specs.declared.eval.values.Value.{Value}
use Rattle.perm_meaning.specs.Evaluator.Asks.{Way}
use Rattle.perm_meaning.specs.Effects.{effect, ticks, Act, Calling, Calls, Does, GoesOn, Halts, Sticks}
use Rattle.perm_meaning.specs.Expressions.{tagged}
use Rattle.perm_meaning.specs.Meaning.{then_do, Result}
use Rattle.perm_meaning.specs.NamedHeap.{marks, Heap, Held}
use Rattle.perm_meaning.specs.Names.{Mark}
use Rattle.perm_meaning.specs.Evaluator.NumberedValues.{all_by, given_by, held_by, Names}
use Rattle.perm_meaning.specs.Evaluator.SimpleStatements.{own_by}
use Rattle.perm_meaning.specs.Evaluator.SimpleSteps.{meant}
use Rattle.perm_meaning.specs.Steps.{within}
use Rattle.perm_meaning.specs.Evaluator.Ties.{moment_by, AllBelow, AreSame, SlotBelow}
use Rattle.perm_meaning.specs.Values.{Eval, Gives, Mistyped, Traps}
use Rattle.perm_meaning.specs.Evaluator.Waits.{resumed, Waiting}
use Rattle.perm_meaning.specs.Evaluator.WholeCode.{whole}
use Rattle.perm_meaning.proofs.Evaluator.Ties.Below.{all-below, all-same, slot-below}
use Rattle.perm_meaning.proofs.Evaluator.Ties.Stepping.{own-same}
use Rattle.perm_meaning.proofs.Evaluator.Waits.{simple-is}

-- ---------- what is made of what is there ----------
module _ {A : Type 0} (n : ℕ) (g : Names → A) (same : (a b : Names) → AreSame n a b → g a ≡ g b) where
  -- variables that hold, by all names, what is made of what refers to no later object refer to none
  pub vars-below : (f : A → List Held) (vs : List (Option Value)) → ((names : Names) → all_by names vs ≡ f (g names)) → AllBelow n vs
  vars-below f vs e = all-below n vs (λ a b k. e a ∙ ap f (same a b k) ∙ sym (e b))

  -- so does one variable
  pub slot-by : (f : A → Held) (v : Option Value) → ((names : Names) → held_by names v ≡ f (g names)) → SlotBelow n v
  slot-by f v e = slot-below n v (λ a b k. e a ∙ ap f (same a b k) ∙ sym (e b))

-- what is given, if it is a value
abbrev pub given_of : Eval Held → Held
given_of (Gives v) = v
given_of (Traps k) = None
given_of Mistyped = None

-- so does the value of an expression over such variables
pub given-below : (n : ℕ) (vs : List (Option Value)) → AllBelow n vs → (f : List Held → Eval Held) (v : Value) → ((names : Names) → given_by names (given.Value v) ≡ f (all_by names vs)) → SlotBelow n (Some v)
given-below n vs below f v e = slot-by n (λ names. all_by names vs) (λ a b same. all-same n a b same vs below) (λ ws. given_of (f ws)) (Some v) (λ names. ap given_of (e names))

-- ---------- calls ----------
-- what is called, and what the caller has then
abbrev first_of : Way → List Held → List Held
first_of (Does o t) vs = called (t None)
  where
    called : Act Held Mark → List Held
    called (GoesOn k) = vs
    called (Calls c k) = c.first
    called (Halts k) = vs
first_of Sticks vs = vs

abbrev caller_of : Way → List Held → List Held
caller_of (Does o t) vs = left (t None)
  where
    left : Act Held Mark → List Held
    left (GoesOn k) = vs
    left (Calls c k) = k.vars
    left (Halts k) = vs
caller_of Sticks vs = vs

module _ (u : UnitCode) (i : Instruction) (old new : owned.Own) (vars : List (Option Value)) (n : ℕ) (below : AllBelow n old.vars)
    (calls : (names : Names) (mark : Mark) → (c : Calling Held) × (effect tagged u marks i (own_by names mark old) ≡ ticks tagged (Calls c (own_by names mark new))) × (c.first ≡ all_by names vars)) where
  mark : Mark
  mark = record { path = []; made = 0; pars = 0 }

  -- the variables of a caller refer to no later object after a call begins
  pub caller-below : AllBelow n new.vars
  caller-below = vars-below n (λ names. own_by names mark old) (λ a b same. own-same n a b same old below mark) (λ l. caller_of (effect tagged u marks i l) l.vars) new.vars
      (λ names. ap (λ (w : Way). caller_of w (all_by names old.vars)) (sym (calls names mark).1))

  -- nor do those that the method begins with
  pub callee-below : AllBelow n vars
  callee-below = vars-below n (λ names. own_by names mark old) (λ a b same. own-same n a b same old below mark) (λ l. first_of (effect tagged u marks i l) l.vars) vars
      (λ names. sym (calls names mark).2 ∙ ap (λ (w : Way). first_of w (all_by names old.vars)) (sym (calls names mark).1))

-- ---------- where other code waits ----------
-- what a run comes to where a simple statement stands, by what is meant of it with one turn less
pub resumed-by : (u : UnitCode) (limit : ℕ) (ws : List Waiting) (at : Span) (i : Instruction) (rest : Code) (names : Names) (mark : Mark) (t : ℕ) (o : owned.Own) (h : Heap) (x : Result)
    → meant u i (record { again = whole u (within limit); at = at; turns = t; names = names; mark = mark; heap = h }) o limit ≡ x
    → resumed u (within limit) ws (whole u (within limit) (Do at i rest) (moment_by names mark h (suc t) o)) ≡ resumed u (within limit) ws (then_do x (whole u (within limit) rest))
resumed-by u limit ws at i rest names mark t o h x e =
    simple-is u (within limit) ws t (own_by names mark o) h at i rest ∙ ap (λ (y : Result). resumed u (within limit) ws (then_do y (whole u (within limit) rest))) e
