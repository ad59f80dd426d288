-- Each event leads from a state with a picture to one with the next picture.
use Rattle.std.proofs.Common.{◌≡◌, ℕ, false, refl, Option, Some, List, sym, subst, inl, inr}
use Rattle.perm_tree.specs.declared.ast.Span.{Span}
use Rattle.perm_tree.specs.Code.{Instruction, Declare, Print, Code, Do, If, While, Recover, UnitCode}
use Rattle.perm_tree.specs.Vars.{Vars}
use Rattle.perm_meaning.specs.Names.{Mark}
use Rattle.perm_meaning.specs.Machine.{Frame, Close, Leaf, Fork, Way, Here, Did, On}
use Rattle.perm_meaning.specs.NamedHeap.{Held, Heap, Op, Own, Task, find}
use Rattle.perm_meaning.specs.Steps.{Found, within}
use Rattle.perm_core.specs.Core.{look}
use Rattle.perm_core.specs.Claims.{KeepsPicture}
use Rattle.perm_core.specs.Endings.{Ending}
use Rattle.perm_core.specs.Whole.{IsWhole}
use Rattle.perm_core.specs.Regions.{Zone, Labels}
use Rattle.perm_core.specs.NextPicture.{is_failing}
use Rattle.perm_core.proofs.KeepsPicture.Pars.JoinCases.{join-case}
use Rattle.perm_core.proofs.KeepsPicture.Calls.CallCases.{begin-turn}
use Rattle.perm_core.proofs.KeepsPicture.Turns.LeafCases.{branch, LeafWith, TurnOf, assign-turn, read-turn, write-turn, create-turn, part-turn, give-turn, return-turn}
use Rattle.perm_core.proofs.KeepsPicture.Turns.LeafTurns.{Acts, declares, assigns, loads, measures, reads, takes, stores, writes, prints, Stays, TurnTo, dying, ending, acting, making, beginning, left_block, right_block, into_loop, out_of_loop, parting, recovering, giving, returning}
use Rattle.perm_core.proofs.KeepsPicture.Labels.NextLabels.{leaf-next, refused-next, join-next}
use Rattle.perm_core.proofs.KeepsPicture.Trees.NodePremises.{NodeFits}
use Rattle.perm_core.proofs.KeepsPicture.Order.{next-orderly}
use Rattle.perm_core.proofs.KeepsPicture.Turns.PlainTurns.{plain-fits}
use Rattle.perm_core.proofs.KeepsPicture.Trees.TreeEvents.{IsTold, is-step}
use Rattle.perm_core.proofs.KeepsPicture.Trees.WholeTrees.{IsNext, whole-next}

module _ (u : UnitCode) (limit : ℕ) where
  module _ (whole : IsWhole u) (labels : Labels) (heap : Heap) where
    -- ---------- leaves ----------
    module _ (k : Ending) (below : List ℕ) (at : Way → Way) (z : Zone) (H : Vars) (l : Own) (n : ℕ) (close : Option (Close Held)) (w : Held) where
      abbrev LeafHas : Code → List (Frame Held) → Type 0
      LeafHas c st = LeafWith u limit labels heap k below at z H l n close c st

      abbrev Turns : Code → List (Frame Held) → Op → ℕ → Did Held Mark → Type 0
      Turns c st o t d = TurnOf u limit labels heap k below at z H l n close c st o t d

      -- a simple statement
      act-turn : (span : Span) (i : Instruction) (rest : Code) (st : List (Frame Held)) (o : Op) (vs : List Held) (l' : Own) (t : ℕ) → LeafHas (Do span i rest) st → find (within limit) o heap ≡ Found w → Acts u l w i o vs → Stays u l l' vs → Turns (Do span i rest) st o t (On l' rest st)
      act-turn span _ rest st _ _ l' t leaf answered (declares x) stays = record {
        fits = plain-fits u labels heap.objects at z (branch l n (Do span (Declare x) rest) st close) t w _ _ _ _ tt leaf.vars leaf.stack leaf.right (acting span (Declare x) rest st _ _ l' (declares x) stays);
        objects = leaf.objects;
      }
      act-turn span _ rest st _ _ l' t leaf answered (prints e) stays = record {
        fits = plain-fits u labels heap.objects at z (branch l n (Do span (Print e) rest) st close) t w _ _ _ _ tt leaf.vars leaf.stack leaf.right (acting span (Print e) rest st _ _ l' (prints e) stays);
        objects = leaf.objects;
      }
      act-turn span _ rest st _ _ l' t leaf answered (assigns x a v ws one) stays = assign-turn u limit labels heap k below at z H l n close span x a rest st v ws l' t leaf one stays
      act-turn span i rest st o vs l' t leaf answered (stores y f a v ws r len one here) stays = write-turn u limit labels heap k below at z H l n close span i rest st o w vs l' t tt leaf (stores y f a v ws r len one here) stays
      act-turn span i rest st o vs l' t leaf answered (writes y j e v m r len f gives number here) stays = write-turn u limit labels heap k below at z H l n close span i rest st o w vs l' t tt leaf (writes y j e v m r len f gives number here) stays
      act-turn span i rest st o vs l' t leaf answered (loads x y f r len here) stays = read-turn u limit labels heap k below at z H l n close span i rest st o w vs l' t tt leaf answered (loads x y f r len here) stays
      act-turn span i rest st o vs l' t leaf answered (measures x y r len here) stays = read-turn u limit labels heap k below at z H l n close span i rest st o w vs l' t tt leaf answered (measures x y r len here) stays
      act-turn span i rest st o vs l' t leaf answered (reads x y j r len f here) stays = read-turn u limit labels heap k below at z H l n close span i rest st o w vs l' t tt leaf answered (reads x y j r len f here) stays
      act-turn span i rest st o vs l' t leaf answered (takes x y f r len here) stays = read-turn u limit labels heap k below at z H l n close span i rest st o w vs l' t tt leaf answered (takes x y f r len here) stays

      -- a turn that doesn't trap
      any-turn : (c : Code) (st : List (Frame Held)) (o : Op) (t : ℕ) (d : Did Held Mark) → LeafHas c st → find (within limit) o heap ≡ Found w → TurnTo u l w c st o d → is_failing u labels d ≡ false → Turns c st o t d
      any-turn _ _ _ t _ leaf answered (dying c st f) goes = absurd (let no : ⊥ = cc goes in no)
      any-turn _ _ _ t _ leaf answered (ending span a v q) goes = record { fits = refl; objects = leaf.objects }
      any-turn _ _ _ t _ leaf answered (acting span i rest st o vs l' acts stays) goes = act-turn span i rest st o vs l' t leaf answered acts stays
      any-turn _ _ _ t _ leaf answered (making span i rest st shape m x l' is same) goes = create-turn u limit labels heap k below at z H l n close span i rest st shape m x w l' t leaf is answered same
      any-turn _ _ _ t _ leaf answered (beginning span rest st into tie consumed y m args r this found vs saved lent l' c caller is code q1 q2 q3 on) goes =
          begin-turn u limit whole labels heap k below at z H l n close span rest st into tie consumed y m args r this found vs saved lent l' c caller t leaf is code q1 q2 q3 on
      any-turn _ _ _ t _ leaf answered (left_block span e own1 a own2 a2 rest st) goes = record {
        fits = plain-fits u labels heap.objects at z (branch l n (If span e own1 a own2 a2 rest) st close) t w _ _ _ _ tt leaf.vars leaf.stack leaf.right (left_block span e own1 a own2 a2 rest st);
        objects = leaf.objects;
      }
      any-turn _ _ _ t _ leaf answered (right_block span e own1 a own2 a2 rest st) goes = record {
        fits = plain-fits u labels heap.objects at z (branch l n (If span e own1 a own2 a2 rest) st close) t w _ _ _ _ tt leaf.vars leaf.stack leaf.right (right_block span e own1 a own2 a2 rest st);
        objects = leaf.objects;
      }
      any-turn _ _ _ t _ leaf answered (into_loop span e own body rest st) goes = record {
        fits = plain-fits u labels heap.objects at z (branch l n (While span e own body rest) st close) t w _ _ _ _ tt leaf.vars leaf.stack leaf.right (into_loop span e own body rest st);
        objects = leaf.objects;
      }
      any-turn _ _ _ t _ leaf answered (out_of_loop span e own body rest st) goes = record {
        fits = plain-fits u labels heap.objects at z (branch l n (While span e own body rest) st close) t w _ _ _ _ tt leaf.vars leaf.stack leaf.right (out_of_loop span e own body rest st);
        objects = leaf.objects;
      }
      any-turn _ _ _ t _ leaf answered (parting span own1 a own2 a2 rest st p same) goes = part-turn u limit labels heap k below at z H l n close span own1 a own2 a2 rest st p t leaf same
      any-turn _ _ _ t _ leaf answered (recovering span x own hides body rest st l' saved on same) goes = record {
        fits = plain-fits u labels heap.objects at z (branch l n (Recover span x own hides body rest) st close) t w _ _ _ _ tt leaf.vars leaf.stack leaf.right (recovering span x own hides body rest st l' saved on same);
        objects = leaf.objects;
      }
      any-turn _ _ _ t _ leaf answered (giving span y x own hides saved rest st v l' had gives on) goes = give-turn u limit labels heap k below at z H l n close span y x own hides saved rest st v l' t leaf had gives on
      any-turn _ _ _ t _ leaf answered (returning span a tie into y saved lent caller rest st v l' gives on) goes = return-turn u limit labels heap k below at z H l n close span a tie into y saved lent caller rest st v l' t leaf gives on

    -- ---------- events ----------
    -- the event of a node leaves what fits the next labels
    node-next : (o : Op) (v : Option Held) → IsTold limit o v heap → (k : Ending) (below : List ℕ) (at : Way → Way) (z : Zone) (t : Task) (H : Vars) → NodeFits u labels heap k below at z t H → look u Here t ≡ Some o → IsNext u limit labels heap o v at z Here t
    node-next o v answer k below at z (Fork b p l r) H node asks = join-next u limit labels heap k below at z b p l r H o v node asks (λ x y left right. join-case u limit labels heap k below at z b p l r H node x y left right)
    node-next o v (inl (x, (same, answered))) k below at z (Leaf b) H node asks =
        subst (λ (q : Option Held). IsNext u limit labels heap o q at z Here (Leaf b)) (sym same)
        (leaf-next u limit labels heap k below at z b H o x node asks answered (λ t d leaf turn goes. any-turn k below at z H b.own b.turns b.close x b.code b.stack o t d leaf answered turn goes))
    node-next o v (inr (same, refused)) k below at z (Leaf b) H node asks =
        subst (λ (q : Option Held). IsNext u limit labels heap o q at z Here (Leaf b)) (sym same) (refused-next u limit labels heap k below at z b H o node asks refused)

  -- each event leads from a state with a picture to one with the next picture
  pub keeps-picture : KeepsPicture u limit
  keeps-picture labels s t w checked picture e =
      let is = is-step u limit s t w e in
      let all = whole-next u limit labels s t w picture is (node-next checked.whole labels s.heap is.op is.told is.answer) in
      record { variables = all.0; objects = all.1; orderly = next-orderly u limit labels s t w checked picture is }
