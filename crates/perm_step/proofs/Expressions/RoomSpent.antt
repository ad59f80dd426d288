-- A turn that is spent takes no room.
use Rattle.std.proofs.Common.{ℕ}
use Rattle.perm_tree.specs.declared.bodies.Action.{Action}
use Rattle.perm_tree.specs.declared.bodies.Action.TheVariants.{Declare, Assign, LoadField, LoadLength, LoadItem, TakeField, NewObject, NewArray, StoreField, StoreItem, Invoke, Print, If, While, Par, Recover, Give, Return, End}
use Rattle.perm_tree.specs.declared.bodies.Bodies.{Bodies}
use Rattle.perm_step.specs.Rooms.{HasRoomForStep}
use Rattle.perm_step.specs.Working.{Working}

-- room for a step is room for it with any number of turns left
pub room-spent : (b : Bodies) (a : Action) (c : Working) (turns : ℕ) → HasRoomForStep b a c → HasRoomForStep b a (record c { turns = turns })
room-spent b (Declare x) c turns room = room
room-spent b (Assign x a) c turns room = room
room-spent b (LoadField x y f) c turns room = room
room-spent b (LoadLength x y) c turns room = room
room-spent b (LoadItem x y e) c turns room = room
room-spent b (TakeField x y f) c turns room = room
room-spent b (NewObject x class fields) c turns room = room
room-spent b (NewArray x e) c turns room = room
room-spent b (StoreField y f a) c turns room = room
room-spent b (StoreItem y i e) c turns room = room
room-spent b (Invoke v) c turns room = record { arguments = room.arguments; calls = room.calls; vars = room.vars; values = room.values; bases = room.bases }
room-spent b (Print e) c turns room = room
room-spent b (If e other) c turns room = room
room-spent b (While e body) c turns room = room
room-spent b (Par first second sides) c turns room = room
room-spent b Recover c turns room = room
room-spent b (Give y x) c turns room = room
room-spent b (Return a) c turns room = room
room-spent b End c turns room = room
