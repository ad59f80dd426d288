use Rattle.perm_core.proofs.Serial.ByCopies.{copies-follow}
use Rattle.perm_core.proofs.Serial.EveryRun.{every-list-ends, refused-where-room-lacks, never-stuck}
use Rattle.perm_core.proofs.Serial.WordsEnd.{every-list-on-words}
use Rattle.perm_core.proofs.laws.serial.Goals as goal

pub returns : goal.returns
returns c = record { ends = every-list-ends; refused = refused-where-room-lacks; copies = copies-follow; unstuck = never-stuck; words = every-list-on-words }
