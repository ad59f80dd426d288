use Rattle.std.proofs.Common.{◌+◌, ◌≤◌, length, take}
use Rattle.perm_answer.specs.Answers.{printed_text}
use Rattle.perm_answer.proofs.room.run_room.Given as goal

abbrev pub invariant-loop-number : goal.invariant-loop-number
invariant-loop-number l = length (printed_text (take l.number-index l.printed)) + l.end ≤ l.room
