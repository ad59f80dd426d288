use Rattle.std.proofs.Common.{◌-◌, subst, sym}
use Rattle.perm_step.specs.declared.control.Leaf.{Leaf}
use Rattle.perm_step.specs.LeafMoves.{spent}
use Rattle.perm_step.specs.Rooms.{HasRoomForStep}
use Rattle.perm_step.proofs.Expressions.RoomSpent.{room-spent}
use Rattle.perm_step.proofs.control.Leaf.proceed.Goals as goal

pub tell-requires-clause-room : goal.tell-requires-clause-room
tell-requires-clause-room c =
    let b = c.args.bodies.now in
    let a = c.args.step.now.action in
    subst (λ (l : Leaf). HasRoomForStep b a (spent l.control)) (sym c.self.view_is) (room-spent b a c.args.self.now.control (c.args.self.now.control.turns - 1) c.requires.room)
