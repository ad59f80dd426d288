use Rattle.std.proofs.Common.{◌≡◌}
use Rattle.perm_step.specs.CallParts.{HasRoomBefore}
use Rattle.perm_step.proofs.control.Control.make_room_for_each.Given as goal

abbrev pub invariant-loop-a : goal.invariant-loop-a
invariant-loop-a l = record {
  room : HasRoomBefore l.a-index l.self.room.values l.arguments;
  same : l.self ≡ record l.initial.self { room = record l.initial.self.room { values = l.self.room.values } };
}
