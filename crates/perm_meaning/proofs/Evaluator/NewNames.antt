-- What waits for a branch has new names, also where the branch gives one.
use Rattle.std.proofs.Common.{◌≡◌, ◌∙◌, suc, List, [], ◌∷◌, ◌++◌, refl, sym, ap, le_refl, append_assoc}
use Rattle.perm_meaning.specs.Meaning.{Moment}
use Rattle.perm_meaning.specs.Names.{Mark, Name, Path, OnLeft, OnRight, after_par, next_name, same_name, side_mark}
use Rattle.perm_meaning.specs.Evaluator.NewNames.{AreNew}
use Rattle.perm_meaning.specs.Objects.{Object, Objects, add}
use Rattle.perm_meaning.specs.Evaluator.UnbornNames.{AreUnborn}
use Rattle.perm_meaning.specs.Evaluator.Waits.{Waiting, ForBlock, ForRecover, ForCall, ForLeft, ForRight}
use Rattle.perm_meaning.proofs.Evaluator.UnbornNames.{parent-unborn, right-unborn, side-unborn, waiting-unborn}

module _ (objects : Objects Name) where
  -- the branch that runs has new names
  pub running-new : (mark : Mark) (ws : List Waiting) → AreNew objects mark ws → AreUnborn objects mark
  running-new mark [] new = new
  running-new mark (ForBlock own rest ∷ ws) new = running-new mark ws new
  running-new mark (ForRecover own rest ∷ ws) new = running-new mark ws new
  running-new mark (ForCall l into rest ∷ ws) new = running-new mark ws new
  running-new mark (ForLeft p m rest ∷ ws) new = new.0
  running-new mark (ForRight p m x rest ∷ ws) new = new.0

  -- another mark of the same branch does as well
  pub new-mark : (mark next : Mark) (ws : List Waiting) → next.path ≡ mark.path → AreUnborn objects next → AreNew objects mark ws → AreNew objects next ws
  new-mark mark next [] e unborn new = unborn
  new-mark mark next (ForBlock own rest ∷ ws) e unborn new = new-mark mark next ws e unborn new
  new-mark mark next (ForRecover own rest ∷ ws) e unborn new = new-mark mark next ws e unborn new
  new-mark mark next (ForCall l into rest ∷ ws) e unborn new = new-mark mark next ws e unborn new
  new-mark mark next (ForLeft p m rest ∷ ws) e unborn new = (unborn, e ∙ new.1, new.2, new.3)
  new-mark mark next (ForRight p m x rest ∷ ws) e unborn new = (unborn, e ∙ new.1, new.2)

  -- where a par begins
  pub split-new : (m : Moment) (ws : List Waiting) → AreNew objects m.own.mark ws
      → AreUnborn objects (side_mark OnLeft m.own.mark) × AreUnborn objects (side_mark OnRight m.own.mark) × AreNew objects (after_par m.own.mark) ws
  split-new m ws new =
      let unborn = running-new m.own.mark ws new in
      (side-unborn objects m.own.mark OnLeft unborn, side-unborn objects m.own.mark OnRight unborn, new-mark m.own.mark (after_par m.own.mark) ws refl (waiting-unborn objects m.own.mark unborn) new)

  -- where a branch gives a name, what waits for it has new names still
  pub given-new : (giver mark : Mark) (o : Object Name) (before : Path) (ws : List Waiting) → giver.path ≡ before ++ mark.path → AreUnborn (add same_name objects (next_name giver) o) mark → AreNew objects mark ws
      → AreNew (add same_name objects (next_name giver) o) mark ws
  given-new giver mark o before [] e unborn new = unborn
  given-new giver mark o before (ForBlock own rest ∷ ws) e unborn new = given-new giver mark o before ws e unborn new
  given-new giver mark o before (ForRecover own rest ∷ ws) e unborn new = given-new giver mark o before ws e unborn new
  given-new giver mark o before (ForCall l into rest ∷ ws) e unborn new = given-new giver mark o before ws e unborn new
  given-new giver mark o before (ForLeft p m rest ∷ ws) e unborn new =
      let through = e ∙ ap (λ (q : Path). before ++ q) new.1 in
      let parent = parent-unborn objects giver (after_par m.own.mark) o m.own.mark.pars OnLeft (before, through) (le_refl (suc m.own.mark.pars)) (running-new (after_par m.own.mark) ws new.3) in
      (unborn, new.1, right-unborn objects giver m.own.mark o (before, through) new.2, given-new giver (after_par m.own.mark) o (before ++ (m.own.mark.pars, OnLeft) ∷ []) ws (through ∙ sym (append_assoc before ((m.own.mark.pars, OnLeft) ∷ []) m.own.mark.path)) parent new.3)
  given-new giver mark o before (ForRight p m x rest ∷ ws) e unborn new =
      let through = e ∙ ap (λ (q : Path). before ++ q) new.1 in
      let parent = parent-unborn objects giver (after_par m.own.mark) o m.own.mark.pars OnRight (before, through) (le_refl (suc m.own.mark.pars)) (running-new (after_par m.own.mark) ws new.2) in
      (unborn, new.1, given-new giver (after_par m.own.mark) o (before ++ (m.own.mark.pars, OnRight) ∷ []) ws (through ∙ sym (append_assoc before ((m.own.mark.pars, OnRight) ∷ []) m.own.mark.path)) parent new.2)
