-- What a step asks of the heap.
use Rattle.std.specs.Prelude.{◌≡◌, ℕ, ◌+◌, ◌<◌, ◌≤◌, ◌⊎◌, List, length}
use Rattle.perm_tree.specs.declared.ast.Shape.{Shape}
use Rattle.perm_tree.specs.declared.bodies.Action.{Action}
use Rattle.perm_tree.specs.declared.bodies.Action.TheVariants as actions
use Rattle.perm_tree.specs.declared.bodies.Bodies.{Bodies}
use Rattle.perm_tree.specs.declared.errors.TrapKind.{TrapKind}
use Rattle.perm_tree.specs.declared.errors.TrapKind.TheVariants.{StackOverflow}
use Rattle.perm_meaning.specs.Effects.{Tick, Load, Store, Take, Make, depth_limit}
use Rattle.perm_meaning.specs.Objects.{length_of}
use Rattle.perm_meaning.specs.WordHeap as machines
use Rattle.perm_meaning.specs.Words.{number_in, reference_in}
use Rattle.perm_step.specs.declared.ask.Ask.{Ask}
use Rattle.perm_step.specs.declared.ask.Ask.TheVariants as asks
use Rattle.perm_step.specs.Given.{ExpressionGives, ExpressionTraps, ArgumentGives, ArgumentTraps, VariableGives, IsPlaceBy, IsNullBy, IsElementBy, IsNoElementBy, IsNewLength, IsNoLength}

-- ---------- the machine's operations ----------
-- the interpreter asks what the machine asks: a field's place is the base and its number
abbrev pub IsAskFor : Ask → machines.Ask → Type 0
IsAskFor asks.Nothing o = o ≡ Tick
IsAskFor asks.Fork o = o ≡ Tick
IsAskFor (asks.Load at) o = (base : ℕ) × (f : ℕ) × (o ≡ Load base f) × (at ≡ base + f)
IsAskFor (asks.Store at w) o = (base : ℕ) × (f : ℕ) × (o ≡ Store base f w) × (at ≡ base + f)
IsAskFor (asks.Take at) o = (base : ℕ) × (f : ℕ) × (o ≡ Take base f) × (at ≡ base + f)
IsAskFor (asks.Make count length) o = (shape : Shape) × (o ≡ Make tt shape count) × (length ≡ length_of shape count)

-- ---------- objects ----------
module _ (vs : List ℕ) where
  -- the place is that of a field of what a variable refers to
  abbrev pub IsField : ℕ → ℕ → ℕ → Type 0
  IsField y f at = (r : ℕ) × VariableGives vs y r × IsPlaceBy (reference_in r) f at

  -- the variable is null
  abbrev pub IsNull : ℕ → TrapKind → Type 0
  IsNull y k = (r : ℕ) × VariableGives vs y r × IsNullBy (reference_in r) k

  -- the place is that of an element of what a variable refers to, by the word of its index
  abbrev pub IsElement : ℕ → ℕ → ℕ → Type 0
  IsElement y i at = (r : ℕ) × VariableGives vs y r × IsElementBy (reference_in r) (number_in i) at

  -- there is no such element
  abbrev pub IsNoElement : ℕ → ℕ → TrapKind → Type 0
  IsNoElement y i k = (r : ℕ) × VariableGives vs y r × IsNoElementBy (reference_in r) (number_in i) k

-- ---------- steps ----------
module _ (b : Bodies) (vs : List ℕ) where
  -- what a step asks where the variables hold these, at this depth; what doesn't lead on by the heap asks nothing
  abbrev pub Asks : ℕ → Action → Ask → Type 0
  Asks depth (actions.LoadField x y f) q = (at : ℕ) × (q ≡ asks.Load at) × IsField vs y f at
  Asks depth (actions.LoadItem x y e) q = (at : ℕ) × (i : ℕ) × (q ≡ asks.Load at) × ExpressionGives b.operations vs e i × IsElement vs y i at
  Asks depth (actions.TakeField x y f) q = (at : ℕ) × (q ≡ asks.Take at) × IsField vs y f at
  Asks depth (actions.NewObject x class fields) q = q ≡ asks.Make fields 0
  Asks depth (actions.NewArray x e) q = (n : ℕ) × (count : ℕ) × (q ≡ asks.Make count count) × ExpressionGives b.operations vs e n × IsNewLength (number_in n) count
  Asks depth (actions.StoreField y f a) q = (at : ℕ) × (w : ℕ) × (q ≡ asks.Store at w) × ArgumentGives b.operations vs a w × IsField vs y f at
  Asks depth (actions.StoreItem y i e) q = (at : ℕ) × (k : ℕ) × (w : ℕ) × (q ≡ asks.Store at w) × ExpressionGives b.operations vs i k × ExpressionGives b.operations vs e w × IsElement vs y k at
  Asks depth (actions.Par first second sides) q = (q ≡ asks.Fork) × (depth < depth_limit)
  Asks depth action q = q ≡ asks.Nothing

  -- why a step traps before it asks the heap; one that asks nothing traps later
  abbrev pub TrapsFirst : ℕ → Action → TrapKind → Type 0
  TrapsFirst depth (actions.LoadField x y f) k = IsNull vs y k
  TrapsFirst depth (actions.LoadItem x y e) k = ExpressionTraps b.operations vs e k ⊎ ((i : ℕ) × ExpressionGives b.operations vs e i × IsNoElement vs y i k)
  TrapsFirst depth (actions.TakeField x y f) k = IsNull vs y k
  TrapsFirst depth (actions.NewArray x e) k = ExpressionTraps b.operations vs e k ⊎ ((n : ℕ) × ExpressionGives b.operations vs e n × IsNoLength (number_in n) k)
  TrapsFirst depth (actions.StoreField y f a) k = ArgumentTraps b.operations vs a k ⊎ ((w : ℕ) × ArgumentGives b.operations vs a w × IsNull vs y k)
  TrapsFirst depth (actions.StoreItem y i e) k =
      ExpressionTraps b.operations vs i k ⊎ ((j : ℕ) × ExpressionGives b.operations vs i j × (ExpressionTraps b.operations vs e k ⊎ ((w : ℕ) × ExpressionGives b.operations vs e w × IsNoElement vs y j k)))
  TrapsFirst depth (actions.Par first second sides) k = (depth_limit ≤ depth) × (k ≡ StackOverflow)
  TrapsFirst depth action k = ⊥
