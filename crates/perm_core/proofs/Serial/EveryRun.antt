-- Every complete list of events of a checked unit ends as running left then right does, and its meaning is never stuck.
use Rattle.std.proofs.Common.{ℕ, List}
use Rattle.std.specs.Prelude.{ℤ}
use Rattle.perm_tree.specs.Code.{UnitCode}
use Rattle.perm_core.specs.Serial.{EndsLeftThenRight, RefusedWhereFull, NeverStuck}
use Rattle.perm_core.proofs.KeepsPicture.PictureEvents.{keeps-picture}
use Rattle.perm_core.proofs.Serial.LivelyRuns.{picture-unstuck, picture-comes, picture-fills}
use Rattle.perm_core.proofs.Serial.FreeRuns.{KeepsPictures}
use Rattle.perm_core.proofs.Serial.LeftFirst.{GoesLeftFirst, all-end-left-then-right, all-refused-where-full}

module _ (u : UnitCode) (limit : ℕ) (input : List ℤ) (turns : ℕ) where
  keeps-pictures : KeepsPictures u
  keeps-pictures limit = keeps-picture u limit

  goes-left-first : GoesLeftFirst u limit input turns
  goes-left-first = record {
    ends = λ r checked opens not. (let x = picture-comes u limit keeps-pictures checked input turns r opens not in record { events = x.0; state = x.1; run = x.2; told = x.3 });
    fills = λ r checked opens full. (let x = picture-fills u limit keeps-pictures checked input turns r opens full in record { events = x.0; state = x.1; op = x.2; run = x.3; looked = x.4; refused = x.5 });
  }

  pub every-list-ends : EndsLeftThenRight u limit input turns
  every-list-ends = all-end-left-then-right u limit input turns keeps-pictures goes-left-first

  pub refused-where-room-lacks : RefusedWhereFull u limit input turns
  refused-where-room-lacks = all-refused-where-full u limit input turns keeps-pictures goes-left-first

  -- the meaning of a checked unit isn't stuck
  pub never-stuck : NeverStuck u limit input turns
  never-stuck r checked opens = picture-unstuck u limit keeps-pictures checked input turns r opens
