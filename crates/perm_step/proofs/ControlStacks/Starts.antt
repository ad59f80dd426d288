-- A control stack that has entered `Run` means the root that is about to run.
use Rattle.std.proofs.Common.{◌≡◌, ℕ, [], false, Option, Some, None, sym, ◌∙◌, subst}
use Rattle.std.specs.Prelude.{ℤ, List}
use Rattle.perm_tree.specs.declared.bodies.Bodies.{Bodies}
use Rattle.perm_tree.specs.Code.{Routine, UnitCode}
use Rattle.perm_tree.specs.Links.{AreBodiesOf}
use Rattle.perm_core.specs.Claims.{IsChecked}
use Rattle.perm_core.specs.Pieces.{AtRoot, stem}
use Rattle.perm_meaning.specs.WordHeap.{input_word, opening_branch, root_word}
use Rattle.perm_step.specs.Events.{IsSound}
use Rattle.perm_step.specs.Opens.{IsEntered}
use Rattle.perm_step.specs.Standing.{branch_of}
use Rattle.perm_step.specs.StemMoves.{Begins}
use Rattle.perm_step.specs.Stems.{Means, Stack}
use Rattle.perm_step.specs.Working.{Working}
use Rattle.perm_step.proofs.WholeRuns.OpeningRuns.{opened-branch, opened-sound}

module _ (u : UnitCode) (b : Bodies) (w : AreBodiesOf u b) (checked : IsChecked u) (turns : ℕ) (c : Working) where
  -- the stack of a root
  abbrev root-of : Stack
  root-of = record { bodies = b; leaf = record { control = c; ending = None }; parents = []; on_right = false }

  -- with the words of an input it means the root of the opening
  entered-means : (ns : List ℤ) → IsEntered b (root_word ns) (input_word ns) turns c → Means u root-of (stem (opening_branch u ns turns checked.whole.first) [] AtRoot)
  entered-means ns e =
      let sound : IsSound u w.spot b u.run c = opened-sound u b w checked ns turns c e in
      let branch : opening_branch u ns turns checked.whole.first ≡ branch_of w.spot c = opened-branch u b w checked ns turns c e in
      record {
        bodies = w;
        bottom = u.run;
        leaf = record { here = sound.here; sound = λ none. sound };
        parents = tt;
        stem = λ j. stem (branch j) [] AtRoot;
      }

  -- so the root begins
  pub begins-so : (input root : ℕ) → IsEntered b root input turns c → (k : Stack) → k ≡ root-of → Begins u input root turns k
  begins-so input root e k is ns r of_input of_root there =
      let words : IsEntered b (root_word ns) (input_word ns) turns c = subst (λ w. IsEntered b (root_word ns) w turns c) of_input (subst (λ w. IsEntered b w input turns c) of_root e) in
      let same : checked.whole.first ≡ r = (let both : ◌≡◌ {A = Option Routine} (Some checked.whole.first) (Some r) = sym checked.whole.there ∙ there in cc both) in
      subst (λ (k : Stack). Means u k (stem (opening_branch u ns turns r) [] AtRoot)) (sym is)
      (subst (λ (r : Routine). Means u root-of (stem (opening_branch u ns turns r) [] AtRoot)) same (entered-means ns words))
