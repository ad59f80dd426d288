-- Each turn of a leaf leaves a branch and objects that fit the labels that its code tells: turn by turn, from what holds of the leaf.
use Rattle.std.proofs.Common.{◌≡◌, ℕ, Option, Some, List, ◌∷◌, sym, ap, subst, ◌∙◌}
use Rattle.std.specs.Prelude.{slice_get}
use Rattle.perm_tree.specs.declared.ast.Shape.{Shape}
use Rattle.perm_tree.specs.declared.ast.Span.{Span}
use Rattle.perm_tree.specs.Code.{Tie, Argument, Instruction, Assign, Code, Give, Return, Do, Par, UnitCode}
use Rattle.perm_tree.specs.Vars.{Vars, those}
use Rattle.perm_rules.specs.Pars.{par_head}
use Rattle.perm_rules.specs.Refusals.{IsAllowed}
use Rattle.perm_meaning.specs.Values.{Gives}
use Rattle.perm_meaning.specs.Names.{Mark, after_object}
use Rattle.perm_meaning.specs.Expressions.{tagged, assign, assign_into, look_up, clear, clear_all, value_of}
use Rattle.perm_meaning.specs.Custody.{from_either}
use Rattle.perm_meaning.specs.Effects.{Tick, Make}
use Rattle.perm_meaning.specs.Machine.{Frame, OpenRecover, OpenCall, Blocks, Close, Way, Did, On, Splits}
use Rattle.perm_meaning.specs.NamedHeap.{Held, Heap, Op, Own, Branch, find}
use Rattle.perm_meaning.specs.Steps.{Found, within}
use Rattle.perm_meaning.specs.Turns.{blocks, lent_back}
use Rattle.perm_core.specs.Endings.{Ending}
use Rattle.perm_core.specs.Regions.{Zone, Labels}
use Rattle.perm_core.specs.Picture.{context_of, valued}
use Rattle.perm_core.proofs.KeepsPicture.Turns.AssignTurns.{assign-fits, assign-objects}
use Rattle.perm_core.proofs.KeepsPicture.Calls.GiveTurns.{give-fits, give-objects}
use Rattle.perm_core.proofs.KeepsPicture.Order.HiddenVariables.{top-goes}
use Rattle.perm_core.proofs.KeepsPicture.Turns.LeafTurns.{Gives_one, Acts, Creates, Stays, Goes_in}
use Rattle.perm_core.proofs.KeepsPicture.Order.LiveLists.{held-has}
use Rattle.perm_core.proofs.KeepsPicture.Labels.NextLabels.{TurnFits}
use Rattle.perm_core.proofs.KeepsPicture.Trees.NodePremises.{LeafFits}
use Rattle.perm_core.proofs.KeepsPicture.Objects.ObjectTurns.{IsWrite, write-fits, write-objects, create-fits, create-objects}
use Rattle.perm_core.proofs.KeepsPicture.Pars.ParBlocks.{blocks-aside}
use Rattle.perm_core.proofs.KeepsPicture.Pars.ParTurns.{split-fits, split-objects}
use Rattle.perm_core.proofs.KeepsPicture.Objects.ReadTurns.{IsRead, read-fits, read-objects}
use Rattle.perm_core.proofs.KeepsPicture.Calls.ReturnTurns.{return-fits, return-objects}

-- a branch with this code above this stack
abbrev pub branch : Own → ℕ → Code → List (Frame Held) → Option (Close Held) → Branch
branch l n c st close = record { own = l; turns = n; code = c; stack = st; close = close }

module _ (u : UnitCode) (limit : ℕ) (labels : Labels) (heap : Heap) (k : Ending) (below : List ℕ) (at : Way → Way) (z : Zone) (H : Vars) (l : Own) (n : ℕ) (close : Option (Close Held)) where
  -- what holds of the leaf with this code above this stack
  abbrev pub LeafWith : Code → List (Frame Held) → Type 0
  LeafWith c st = LeafFits u labels heap k below at z (branch l n c st close) H

  -- its turn fits
  abbrev pub TurnOf : Code → List (Frame Held) → Op → ℕ → Did Held Mark → Type 0
  TurnOf c st o t d = TurnFits u limit labels heap o at z (branch l n c st close) t d

  -- an assignment
  pub assign-turn : (span : Span) (x : ℕ) (a : Argument) (rest : Code) (st : List (Frame Held)) (v : Held) (ws : List Held) (l' : Own) (t : ℕ) → LeafWith (Do span (Assign x a) rest) st → Gives_one l.vars a v ws → Stays u l l' (assign ws x v)
      → TurnOf (Do span (Assign x a) rest) st Tick t (On l' rest st)
  assign-turn span x a rest st v ws l' t leaf one stays = record {
    fits = assign-fits u labels heap.objects at z leaf.low below b span x a rest st H v ws leaf.goes leaf.vars leaf.stack leaf.hid one l' t stays.vars stays.routine;
    objects = assign-objects u labels heap.objects at z leaf.low below b span x a rest st H v ws leaf.goes leaf.vars leaf.stack leaf.hid one leaf.objects;
  }
    where
      b : Branch
      b = branch l n (Do span (Assign x a) rest) st close

  -- a read of an object, or a field's value that is taken
  pub read-turn : (span : Span) (i : Instruction) (rest : Code) (st : List (Frame Held)) (o : Op) (w : Held) (vs : List Held) (l' : Own) (t : ℕ) → IsRead i → LeafWith (Do span i rest) st → find (within limit) o heap ≡ Found w → Acts u l w i o vs → Stays u l l' vs
      → TurnOf (Do span i rest) st o t (On l' rest st)
  read-turn span i rest st o w vs l' t is leaf answered acts stays = record {
    fits = read-fits u (within limit) labels heap at z below b span rest H w leaf.vars leaf.stack leaf.objects i o vs l' t is leaf.goes answered acts stays;
    objects = read-objects u (within limit) labels heap at z below b span rest H w leaf.vars leaf.stack leaf.objects i o vs is leaf.goes answered acts;
  }
    where
      b : Branch
      b = branch l n (Do span i rest) st close

  -- a store to a field or an element
  pub write-turn : (span : Span) (i : Instruction) (rest : Code) (st : List (Frame Held)) (o : Op) (w : Held) (vs : List Held) (l' : Own) (t : ℕ) → IsWrite i → LeafWith (Do span i rest) st → Acts u l w i o vs → Stays u l l' vs
      → TurnOf (Do span i rest) st o t (On l' rest st)
  write-turn span i rest st o w vs l' t is leaf acts stays = record {
    fits = write-fits u (within limit) labels heap at z leaf.low below b span rest H w leaf.vars leaf.stack i o vs l' t is (leaf.goes, leaf.hid) acts stays;
    objects = write-objects u (within limit) labels heap at z leaf.low below b span rest H w leaf.vars leaf.stack i o vs is (leaf.goes, leaf.hid) acts leaf.objects;
  }
    where
      b : Branch
      b = branch l n (Do span i rest) st close

  -- a new object
  pub create-turn : (span : Span) (i : Instruction) (rest : Code) (st : List (Frame Held)) (shape : Shape) (m x : ℕ) (w : Held) (l' : Own) (t : ℕ) → LeafWith (Do span i rest) st → Creates u l i shape m x → find (within limit) (Make l.mark shape m) heap ≡ Found w
      → l' ≡ record l { vars = assign l.vars x w; mark = after_object l.mark } → TurnOf (Do span i rest) st (Make l.mark shape m) t (On l' rest st)
  create-turn span i rest st shape m x w l' t leaf is answered same = record {
    fits = create-fits u (within limit) labels heap at z leaf.low below b span rest H w leaf.vars leaf.stack i shape m x l' t (leaf.goes, leaf.hid) is leaf.new answered same;
    objects = create-objects u (within limit) labels heap at z leaf.low below b span rest H w leaf.vars leaf.stack i shape m x (leaf.goes, leaf.hid) is leaf.new answered leaf.objects;
  }
    where
      b : Branch
      b = branch l n (Do span i rest) st close

  -- the start of a par
  pub part-turn : (span : Span) (own1 : List ℕ) (a : Code) (own2 : List ℕ) (d rest : Code) (st : List (Frame Held)) (p : Blocks) (t : ℕ) → LeafWith (Par span own1 a own2 d rest) st → p ≡ blocks own1 a own2 d → TurnOf (Par span own1 a own2 d rest) st Tick t (Splits p rest)
  part-turn span own1 a own2 d rest st p t leaf same =
      subst (λ (q : Blocks). TurnOf (Par span own1 a own2 d rest) st Tick t (Splits q rest)) (sym same)
      (record {
        fits = split-fits u labels heap.objects at z b t own1 a own2 d rest c below (valued l.vars) leaf.three.left_here leaf.three.right_here leaf.low allowed (blocks-aside u k below l.routine span own1 a own2 d rest st (valued l.vars) H (valued l.vars) leaf.goes leaf.ends leaf.right) leaf.vars leaf.stack leaf.hid;
        objects = split-objects u labels heap.objects at st (context_of u l.routine) own1 a own2 d (valued l.vars) leaf.three.left_here leaf.three.right_here allowed z leaf.objects;
      })
    where
      c : Code
      c = Par span own1 a own2 d rest

      b : Branch
      b = branch l n (Par span own1 a own2 d rest) st close

      allowed : IsAllowed (context_of u l.routine) (par_head (context_of u l.routine) own1 a own2 d) (valued l.vars)
      allowed = (top-goes u below l.routine (Par span own1 a own2 d rest) st (valued l.vars) H leaf.goes).1.0

  -- the value of a recover block
  pub give-turn : (span : Span) (y x : ℕ) (own hides : List ℕ) (saved : List Held) (rest : Code) (st : List (Frame Held)) (v : Held) (l' : Own) (t : ℕ) → LeafWith (Give span y x) (OpenRecover own hides saved rest ∷ st) → slice_get l.vars y ≡ Some v → look_up tagged l.vars y ≡ Gives v
      → Goes_in u l l' l.routine (assign (from_either (those hides) saved (clear_all tagged (clear tagged l.vars y) own)) x v) → TurnOf (Give span y x) (OpenRecover own hides saved rest ∷ st) Tick t (On l' rest st)
  give-turn span y x own hides saved rest st v l' t leaf had gives on =
      let val = held-has (slice_get l.vars y) v gives in
      let has : slice_get l.vars y ≡ Some (Some val.0) = had ∙ ap (λ (w : Held). Some w) val.1 in
      let allowed = (top-goes u below l.routine (Give span y x) (OpenRecover own hides saved rest ∷ st) (valued l.vars) H leaf.goes).1.0 in
      record {
        fits = give-fits u labels heap.objects at z leaf.low below b y x own hides saved rest st (valued l.vars) allowed span val.0 leaf.vars leaf.stack leaf.right leaf.hid has l' t
            (on.vars ∙ ap (λ (w : Held). assign (from_either (those hides) saved (clear_all tagged (clear tagged l.vars y) own)) x w) val.1) on.routine;
        objects = give-objects u labels heap.objects at z leaf.low below b y x own hides saved rest st (valued l.vars) allowed span val.0 leaf.vars leaf.stack leaf.right leaf.hid has leaf.objects;
      }
    where
      b : Branch
      b = branch l n (Give span y x) (OpenRecover own hides saved rest ∷ st) close

  -- the result of a call
  pub return-turn : (span : Span) (a : Argument) (tie : Tie) (into : Option ℕ) (y : ℕ) (saved : List Held) (lent : Option Held) (caller : ℕ) (rest : Code) (st : List (Frame Held)) (v : Held) (l' : Own) (t : ℕ) → LeafWith (Return span a) (OpenCall tie into y saved lent caller rest ∷ st)
      → value_of tagged a l.vars ≡ Gives v → Goes_in u l l' caller (assign_into (lent_back lent y saved) into v) → TurnOf (Return span a) (OpenCall tie into y saved lent caller rest ∷ st) Tick t (On l' rest st)
  return-turn span a tie into y saved lent caller rest st v l' t leaf gives on = record {
    fits = return-fits u labels heap.objects at z leaf.low below b span a tie into y saved lent caller rest st H v leaf.goes leaf.vars leaf.stack leaf.hid gives l' t on.vars on.routine;
    objects = return-objects u labels heap.objects at z leaf.low below b span a tie into y saved lent caller rest st H v leaf.goes leaf.vars leaf.stack leaf.hid gives leaf.objects;
  }
    where
      b : Branch
      b = branch l n (Return span a) (OpenCall tie into y saved lent caller rest ∷ st) close
