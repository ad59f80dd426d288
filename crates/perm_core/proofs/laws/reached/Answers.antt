use Rattle.perm_core.proofs.Serial.ReachedStates.{opening-reached, next-reached, picture-shown, meaning-told}
use Rattle.perm_core.proofs.laws.reached.Goals as goal

pub returns : goal.returns
returns c = record { opening = opening-reached; next = next-reached; shown = picture-shown; told = meaning-told }
