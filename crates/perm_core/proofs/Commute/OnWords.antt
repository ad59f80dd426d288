-- On words two events of different nodes may come in either order too, from each state that is reached.
use Rattle.std.proofs.Common.{◌≡◌, ℕ, ◌+◌, ap, Option, Some, None, List, [], ◌∷◌, ◌++◌, refl, sym, subst, ◌∙◌}
use Rattle.std.specs.Prelude.{ℤ}
use Rattle.perm_tree.specs.Code.{Routine, UnitCode}
use Rattle.perm_meaning.specs.Machine.{Way}
use Rattle.perm_meaning.specs.Effects.{Tick, Load, Store, Take, Make}
use Rattle.perm_meaning.specs.NamedHeap.{Op, State}
use Rattle.perm_meaning.specs.Objects.{size}
use Rattle.perm_meaning.specs.Outcome.{opening_state}
use Rattle.perm_meaning.specs.Shows.{Bases, IsAskOf, IsShownBy}
use Rattle.perm_meaning.specs.Steps.{within}
use Rattle.perm_meaning.specs.WordHeap as worded
use Rattle.perm_meaning.specs.WordHeap.{Ask}
use Rattle.perm_meaning.specs.Claims.{OpensOnWords}
use Rattle.perm_meaning.proofs.Leads.{then-at}
use Rattle.perm_core.specs.Core.{look, step, runs}
use Rattle.perm_core.specs.Whole.{IsWhole}
use Rattle.perm_core.specs.Claims.{Refuses, refused}
use Rattle.perm_core.specs.Reached.{EitherOrderOnWords, RefusesOnWords, refused_on_words}
use Rattle.perm_core.proofs.Commute.Conflicts.{events-commute}
use Rattle.perm_core.proofs.KeepsPicture.PictureEvents.{keeps-picture}
use Rattle.perm_core.proofs.WordsShown.{asks-alike, words-follow}
use Rattle.perm_core.proofs.Serial.LeftThenRight.{reaches-picture}
use Rattle.perm_core.proofs.Serial.Needs.{runs-append}
use Rattle.perm_core.proofs.Serial.ReachedStates.{no-more-on-words, reached-shown}

module _ (u : UnitCode) (limit : ℕ) where
  -- an operation that is refused on names is refused on words
  ask-refused : (b : Bases) (s : State) (t : worded.State) (o : Op) (p : Ask) → s.heap.given ≡ t.heap.given → IsAskOf b o p → refused u limit (Some o) s → refused_on_words u limit (Some p) t
  ask-refused b s t (Make by shape n) (Make by' shape' n') e is full = sym (ap (λ z. within limit (z + size n)) e ∙ ap (λ z. within limit (t.heap.given + size z)) is.1) ∙ full
  ask-refused b s t (Make by shape n) Tick e is full = absurd is
  ask-refused b s t (Make by shape n) (Load k g) e is full = absurd is
  ask-refused b s t (Make by shape n) (Store k g w) e is full = absurd is
  ask-refused b s t (Make by shape n) (Take k g) e is full = absurd is
  ask-refused b s t Tick p e is full = absurd full
  ask-refused b s t (Load r f) p e is full = absurd full
  ask-refused b s t (Store r f v) p e is full = absurd full
  ask-refused b s t (Take r f) p e is full = absurd full

  module _ (input : List ℤ) (turns : ℕ) where
    -- so is the event of a node
    refused-shown : (r : Routine) → IsWhole u → OpensOnWords u limit input r → (ws : List Way) (s : State) (b : Bases) (t : worded.State) (w : Way)
        → runs u limit ws (opening_state u input turns r) ≡ Some s → IsShownBy b s t → Refuses u limit s w → RefusesOnWords u limit t w
    refused-shown r whole opens ws s b t w run shown full = go (look u w s.task) refl full
      where
        go : (o : Option Op) → look u w s.task ≡ o → refused u limit o s → RefusesOnWords u limit t w
        go None q full = absurd full
        go (Some o) q full = let x = asks-alike u limit input turns r whole opens ws s b t w o run shown q in subst (λ z. refused_on_words u limit z t) (sym x.1) (ask-refused b s t o x.0 shown.heap.given x.2 full)

    -- one event more on names
    one-more : (r : Routine) (ws : List Way) (s a : State) (w : Way) → runs u limit ws (opening_state u input turns r) ≡ Some s → step u limit s w ≡ Some a → runs u limit (ws ++ (w ∷ [])) (opening_state u input turns r) ≡ Some a
    one-more r ws s a w run e = runs-append (step u limit) ws (w ∷ []) (opening_state u input turns r) s run ∙ then-at (step u limit s w) (λ z. Some z) a e

    pub events-commute-on-words : EitherOrderOnWords u limit input turns
    events-commute-on-words t a b p q is differ to_a to_b q_not p_not =
        let x = reached-shown u limit input turns t is in
        let picture = reaches-picture u limit input turns (λ n. keeps-picture u n) is.first x.events x.state is.checked is.opens.opens x.run in
        let one = no-more-on-words u limit input turns is.first is.checked is.opens x.events x.state x.bases t a p x.run x.shown to_a in
        let other = no-more-on-words u limit input turns is.first is.checked is.opens x.events x.state x.bases t b q x.run x.shown to_b in
        let one_run = one-more is.first x.events x.state one.0 p x.run one.1 in
        let other_run = one-more is.first x.events x.state other.0 q x.run other.1 in
        let end = events-commute u limit picture.0 x.state one.0 other.0 p q picture.1 differ one.1 other.1
        (λ full. q_not (refused-shown is.first is.checked.whole is.opens (x.events ++ (p ∷ [])) one.0 one.2 a q one_run one.4 full))
        (λ full. p_not (refused-shown is.first is.checked.whole is.opens (x.events ++ (q ∷ [])) other.0 other.2 b p other_run other.4 full)) in
        let after_one = words-follow u limit input turns is.first is.checked.whole is.opens (x.events ++ (p ∷ [])) one.0 end.0 one.2 a q one_run one.4 end.1 in
        let after_other = words-follow u limit input turns is.first is.checked.whole is.opens (x.events ++ (q ∷ [])) other.0 end.0 other.2 b p other_run other.4 end.2 in
        record {
          one = after_one.after;
          other = after_other.after;
          one_event = after_one.event;
          other_event = after_other.event;
          state = end.0;
          one_shows = (after_one.bases, after_one.shown);
          other_shows = (after_other.bases, after_other.shown);
        }
