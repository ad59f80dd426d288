-- For which steps a running branch has room.
use Rattle.std.specs.Prelude.{ℕ, ◌+◌, ◌≡◌, ◌<◌, ◌≤◌, ◌^◌, List, length, slice_get, Some}
use Rattle.perm_tree.specs.declared.bodies.Action.{Action}
use Rattle.perm_tree.specs.declared.bodies.Action.TheVariants as actions
use Rattle.perm_tree.specs.declared.bodies.Argument.{Argument}
use Rattle.perm_tree.specs.declared.bodies.Argument.TheVariants as handed
use Rattle.perm_tree.specs.declared.bodies.Bodies.{Bodies}
use Rattle.perm_tree.specs.declared.bodies.Entry.{Entry}
use Rattle.perm_tree.specs.declared.bodies.Invocation.{Invocation}
use Rattle.perm_tree.specs.BodyTerms.{stretch}
use Rattle.perm_step.specs.Evaluation.{HasRoomFor}
use Rattle.perm_step.specs.Working.{Working}

-- so many values are enough for an argument
abbrev pub HasRoomForArgument : ℕ → Argument → Type 0
HasRoomForArgument values (handed.Expression e) = HasRoomFor values e
HasRoomForArgument values (handed.Consume y) = Unit {0}

-- for each of some arguments
abbrev pub HasRoomForArguments : ℕ → List Argument → Type 0
HasRoomForArguments values args = (i : ℕ) (a : Argument) → slice_get args i ≡ Some a → HasRoomForArgument values a

-- for a call: for its arguments, for one call more, and for the variables of its method
pub record HasRoomForCall (b : Bodies) (v : Invocation) (c : Working) : Type 0 where
  pub arguments : HasRoomForArguments c.room.values (stretch b.arguments v.first v.count)
  pub calls : length c.calls < c.room.calls
  pub vars : (e : Entry) → slice_get b.entries v.routine ≡ Some e → length c.vars + (1 + v.count + e.variables) ≤ c.room.vars
  pub values : length c.vars + (1 + v.count) ≤ c.room.vars
  pub bases : length c.vars < 2 ^ 32

-- for a step
abbrev pub HasRoomForStep : Bodies → Action → Working → Type 0
HasRoomForStep b (actions.Assign x a) c = HasRoomForArgument c.room.values a
HasRoomForStep b (actions.LoadItem x y e) c = HasRoomFor c.room.values e
HasRoomForStep b (actions.NewArray x e) c = HasRoomFor c.room.values e
HasRoomForStep b (actions.StoreField y f a) c = HasRoomForArgument c.room.values a
HasRoomForStep b (actions.StoreItem y i e) c = HasRoomFor c.room.values i × HasRoomFor c.room.values e
HasRoomForStep b (actions.Invoke v) c = HasRoomForCall b v c
HasRoomForStep b (actions.Print e) c = HasRoomFor c.room.values e × (length c.printed < c.room.printed)
HasRoomForStep b (actions.If e other) c = HasRoomFor c.room.values e
HasRoomForStep b (actions.While e body) c = HasRoomFor c.room.values e
HasRoomForStep b (actions.Return a) c = HasRoomForArgument c.room.values a
HasRoomForStep b action c = Unit {0}
