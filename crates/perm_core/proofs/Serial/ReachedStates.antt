-- What holds of the states of the core on words that a list of events reaches.
use Rattle.std.proofs.Common.{ℕ, Some, List, [], ◌∷◌, ◌++◌, refl, ◌∙◌}
use Rattle.std.specs.Prelude.{ℤ}
use Rattle.perm_tree.specs.Code.{UnitCode}
use Rattle.perm_meaning.specs.WordHeap as worded
use Rattle.perm_meaning.proofs.Leads.{then-at}
use Rattle.perm_core.specs.WordCore as word_core
use Rattle.perm_core.specs.Claims.{WordsDoNoMore}
use Rattle.perm_core.specs.Reached.{IsReached, ReachesOpening, ReachesNext, ShowsPicture, TellsMeaning}
use Rattle.perm_core.proofs.KeepsPicture.PictureEvents.{keeps-picture}
use Rattle.perm_core.proofs.WordsShown.{words-do-no-more}
use Rattle.perm_core.proofs.Serial.LeftThenRight.{reaches-picture, reaches-next}
use Rattle.perm_core.proofs.Serial.Needs.{runs-append}
use Rattle.perm_core.proofs.Serial.WordsEnd.{Shows, shows-runs, shows-start, words-end}

module _ (u : UnitCode) (limit : ℕ) (input : List ℤ) (turns : ℕ) where
  -- the core on words does nothing that the core on names doesn't do
  pub no-more-on-words : WordsDoNoMore u limit input turns
  no-more-on-words r checked opens ws s b t t' w run shown event =
      words-do-no-more u limit input turns r checked.whole opens ws s b t t' w run shown (reaches-next u limit input turns (λ n. keeps-picture u n) r ws s checked opens.opens run) event

  pub opening-reached : ReachesOpening u limit input turns
  opening-reached r checked opens = record { first = r; checked = checked; opens = opens; events = []; run = refl }

  pub next-reached : ReachesNext u limit input turns
  next-reached t t' w is e = record {
    first = is.first;
    checked = is.checked;
    opens = is.opens;
    events = is.events ++ (w ∷ []);
    run = runs-append (word_core.step u limit) is.events (w ∷ []) (worded.opening_state u input turns is.first) t is.run ∙ then-at (word_core.step u limit t w) (λ z. Some z) t' e;
  }

  -- what such a state shows is reached on names
  pub reached-shown : (t : worded.State) → (is : IsReached u limit input turns t) → Shows u limit input turns is.first is.checked is.opens t
  reached-shown t is = shows-runs u limit input turns is.first is.checked is.opens is.events (worded.opening_state u input turns is.first) t (shows-start u limit input turns is.first is.checked is.opens) is.run

  pub picture-shown : ShowsPicture u limit input turns
  picture-shown t is =
      let x = reached-shown t is in
      let p = reaches-picture u limit input turns (λ n. keeps-picture u n) is.first x.events x.state is.checked is.opens.opens x.run in
      (p.0, x.state, p.1, (x.bases, x.shown))

  pub meaning-told : TellsMeaning u limit input turns
  meaning-told t g is over = words-end u limit input turns is.first is.checked is.opens is.events t g is.run over
