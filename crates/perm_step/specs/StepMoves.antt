-- What a step makes of a running branch, given the word that the heap answers.
use Rattle.std.specs.Prelude.{◌≡◌, ℕ, suc, ◌+◌, ◌-◌, ◌<◌, ◌≤◌, ◌⊎◌, List, [], ◌∷◌, ◌++◌, length, replicate, take, nat_eq, cond, slice_get, slice_set, Option, Some, None}
use Rattle.perm_tree.specs.declared.bodies.Action.{Action}
use Rattle.perm_tree.specs.declared.bodies.Action.TheVariants as actions
use Rattle.perm_tree.specs.declared.bodies.Argument.{Argument}
use Rattle.perm_tree.specs.declared.bodies.Bodies.{Bodies}
use Rattle.perm_tree.specs.declared.bodies.Entry.{Entry}
use Rattle.perm_tree.specs.declared.bodies.Invocation.{Invocation}
use Rattle.perm_tree.specs.declared.bodies.Step.{Step}
use Rattle.perm_tree.specs.declared.errors.TrapKind.{TrapKind}
use Rattle.perm_tree.specs.declared.errors.TrapKind.TheVariants.{StackOverflow}
use Rattle.perm_tree.specs.BodyTerms.{stretch}
use Rattle.perm_meaning.specs.Effects.{depth_limit}
use Rattle.perm_meaning.specs.Words.{number_in, reference_in}
use Rattle.perm_step.specs.declared.control.Called.{Called}
use Rattle.perm_step.specs.declared.control.Stop.{Stop}
use Rattle.perm_step.specs.declared.control.Stop.TheVariants as stops
use Rattle.perm_step.specs.Given.{ExpressionGives, ExpressionTraps, ArgumentGives, ArgumentTraps, ArgumentsGive, ArgumentsTrap, VariableGives, IsLengthBy, IsObjectBy}
use Rattle.perm_step.specs.HeapAsks.{IsNull}
use Rattle.perm_step.specs.Working.{Working, locals}

-- ---------- variables ----------
-- a variable of the running method takes a word
abbrev pub with_variable : Working → ℕ → ℕ → Working
with_variable c x w = record c { vars = slice_set c.vars (c.base + x) w }

-- a variable takes a word, if one is named
abbrev pub with_into : Working → Option ℕ → ℕ → Working
with_into c None w = c
with_into c (Some x) w = with_variable c x w

-- where a test leads
abbrev pub way : ℕ → ℕ → ℕ → ℕ
way word holds other = cond (nat_eq word 0) other holds

-- ---------- calls ----------
-- a method is entered: its variables are the receiver, the arguments, and as many more as it has
pub record Enters (b : Bodies) (v : Invocation) (old new : Working) : Type 0 where
  pub this : ℕ
  pub receiver : VariableGives (locals old) v.receiver this
  pub object : IsObjectBy (reference_in this)
  pub found : List ℕ
  pub arguments : ArgumentsGive b.operations (locals old) (stretch b.arguments v.first v.count) found
  pub deep : old.depth < depth_limit
  pub entry : Entry
  pub there : slice_get b.entries v.routine ≡ Some entry
  pub after : new ≡ record old {
    at = entry.first;
    base = length old.vars;
    calls = old.calls ++ record { place = old.at; base = old.base } ∷ [];
    vars = old.vars ++ (this ∷ (found ++ replicate (entry.variables - (1 + length found)) 0));
    depth = suc old.depth;
  }

-- where nothing traps before, the method of a call is there
abbrev pub HasMethod : Bodies → Invocation → Working → Type 0
HasMethod b v c = (this : ℕ) (found : List ℕ) → VariableGives (locals c) v.receiver this → ArgumentsGive b.operations (locals c) (stretch b.arguments v.first v.count) found → IsObjectBy (reference_in this) → c.depth < depth_limit
    → (e : Entry) × (slice_get b.entries v.routine ≡ Some e)

-- why a call traps: by an argument, then at null, then at the greatest depth
abbrev pub CallTraps : Bodies → Invocation → Working → TrapKind → Type 0
CallTraps b v c k =
    ArgumentsTrap b.operations (locals c) (stretch b.arguments v.first v.count) k
    ⊎ ((found : List ℕ) × ArgumentsGive b.operations (locals c) (stretch b.arguments v.first v.count) found
    × (IsNull (locals c) v.receiver k ⊎ ((this : ℕ) × VariableGives (locals c) v.receiver this × IsObjectBy (reference_in this) × (depth_limit ≤ c.depth) × (k ≡ StackOverflow))))

-- a method is left: the caller's variables are back, and take the word that it gives
pub record Leaves (b : Bodies) (word : ℕ) (old new : Working) : Type 0 where
  pub last : Called
  pub front : List Called
  pub popped : old.calls ≡ front ++ last ∷ []
  pub step : Step
  pub there : slice_get b.steps last.place ≡ Some step
  pub call : Invocation
  pub invokes : step.action ≡ actions.Invoke call
  pub after : new ≡ record (with_into (record old { base = last.base; vars = take old.base old.vars }) call.into word) { at = step.next; calls = front; depth = old.depth - 1 }

-- the word of an argument is returned to the last open call
abbrev pub Returns : Bodies → Argument → Working → Working → Type 0
Returns b a old new = (w : ℕ) × ArgumentGives b.operations (locals old) a w × Leaves b w old new

-- the argument traps, or no call is open
abbrev pub ReturnStops : Bodies → Argument → Working → Stop → Type 0
ReturnStops b a old (stops.Trap k) = ArgumentTraps b.operations (locals old) a k
ReturnStops b a old (stops.Returned w) = ArgumentGives b.operations (locals old) a w × (old.calls ≡ [])

-- ---------- steps ----------
-- the step is no par, and no end of a side
abbrev pub Leads : Action → Type 0
Leads (actions.Par first second sides) = ⊥
Leads actions.End = ⊥
Leads action = Unit {0}

-- if the step is a call, its method is there where nothing traps before
abbrev pub IsCallable : Bodies → Action → Working → Type 0
IsCallable b (actions.Invoke v) c = HasMethod b v c
IsCallable b action c = Unit {0}

module _ (b : Bodies) (next : ℕ) (old : Working) where
  -- the branch goes on at a place with these variables
  abbrev pub GoesTo : ℕ → Working → Working → Type 0
  GoesTo at c new = new ≡ record c { at = at }

  -- what a step leads to that is told a word
  abbrev pub Moves : Action → ℕ → Working → Type 0
  Moves (actions.Declare x) word new = GoesTo next old new
  Moves (actions.Assign x a) word new = (w : ℕ) × ArgumentGives b.operations (locals old) a w × GoesTo next (with_variable old x w) new
  Moves (actions.LoadField x y f) word new = GoesTo next (with_variable old x word) new
  Moves (actions.LoadLength x y) word new = (r : ℕ) × (n : ℕ) × VariableGives (locals old) y r × IsLengthBy (reference_in r) n × GoesTo next (with_variable old x n) new
  Moves (actions.LoadItem x y e) word new = GoesTo next (with_variable old x word) new
  Moves (actions.TakeField x y f) word new = GoesTo next (with_variable old x word) new
  Moves (actions.NewObject x class fields) word new = GoesTo next (with_variable old x word) new
  Moves (actions.NewArray x e) word new = GoesTo next (with_variable old x word) new
  Moves (actions.StoreField y f a) word new = GoesTo next old new
  Moves (actions.StoreItem y i e) word new = GoesTo next old new
  Moves (actions.Invoke v) word new = Enters b v old new
  Moves (actions.Print e) word new = (w : ℕ) × ExpressionGives b.operations (locals old) e w × GoesTo next (record old { printed = old.printed ++ number_in w ∷ [] }) new
  Moves (actions.If e other) word new = (w : ℕ) × ExpressionGives b.operations (locals old) e w × GoesTo (way w next other) old new
  Moves (actions.While e first) word new = (w : ℕ) × ExpressionGives b.operations (locals old) e w × GoesTo (way w first next) old new
  Moves (actions.Par first second sides) word new = ⊥
  Moves actions.Recover word new = GoesTo next old new
  Moves (actions.Give y x) word new = (w : ℕ) × VariableGives (locals old) y w × GoesTo next (with_variable old x w) new
  Moves (actions.Return a) word new = Returns b a old new
  Moves actions.End word new = ⊥

  -- why a step doesn't lead on that has asked nothing of the heap: it traps, or returns a word and no call is open
  abbrev pub Stops : Action → Stop → Type 0
  Stops (actions.Return a) e = ReturnStops b a old e
  Stops action (stops.Returned w) = ⊥
  Stops (actions.Assign x a) (stops.Trap k) = ArgumentTraps b.operations (locals old) a k
  Stops (actions.LoadLength x y) (stops.Trap k) = IsNull (locals old) y k
  Stops (actions.Invoke v) (stops.Trap k) = CallTraps b v old k
  Stops (actions.Print e) (stops.Trap k) = ExpressionTraps b.operations (locals old) e k
  Stops (actions.If e other) (stops.Trap k) = ExpressionTraps b.operations (locals old) e k
  Stops (actions.While e first) (stops.Trap k) = ExpressionTraps b.operations (locals old) e k
  Stops action (stops.Trap k) = ⊥
