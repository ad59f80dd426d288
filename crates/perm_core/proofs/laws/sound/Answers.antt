use Rattle.perm_core.proofs.KeepsPicture.PictureEvents.{keeps-picture}
use Rattle.perm_core.proofs.Serial.LeftThenRight.{reaches-picture}
use Rattle.perm_core.proofs.laws.sound.Goals as goal

pub returns : goal.returns
returns c = record { kept = keeps-picture; reached = λ u limit input turns. reaches-picture u limit input turns (λ n. keeps-picture u n) }
