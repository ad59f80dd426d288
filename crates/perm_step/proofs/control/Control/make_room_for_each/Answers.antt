use Rattle.std.proofs.Common.{◌∙◌, ap}
use Rattle.perm_step.specs.Working.{Working}
use Rattle.perm_step.proofs.Routines.CallArguments.{room-all, room-more}
use Rattle.perm_step.proofs.control.Control.make_room_for_each.Goals as goal

pub loop-a-preserved : goal.loop-a-preserved
loop-a-preserved c =
    let new = c.make_room_for.new.self in
    let told = c.in_ok-make_room_for.ensures in
    record {
      room = room-more c.loop-a.self.room.values new.room.values c.args.arguments.now c.loop-a.a-index _ told.more c.loop-a.invariant.room told.room;
      same = told.same ∙ ap (λ (s : Working). record s { room = record s.room { values = new.room.values } }) c.loop-a.invariant.same;
    }

pub returns-clause-room : goal.returns-clause-room
returns-clause-room c = room-all c.loop-a.self.room.values c.loop-a.a-index c.args.arguments.now c.loop-a-test.false c.loop-a.invariant.room
