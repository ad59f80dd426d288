-- What holds of a waiting parent and its sides in a tree with a picture, and that the variables of a side that went well fit.
use Rattle.std.proofs.Common.{◌≡◌, ℕ, Bool, true, Option, Some, None, List, refl, sym, ap, subst, ◌∙◌}
use Rattle.std.specs.Prelude.{ℤ, ◌&&◌, ◌||◌, not, nat_eq}
use Rattle.std.proofs.lemmas.Bool.{and_parts}
use Rattle.perm_tree.specs.Code.{UnitCode}
use Rattle.perm_tree.specs.Vars.{Vars}
use Rattle.perm_meaning.specs.Names.{Name}
use Rattle.perm_meaning.specs.Machine.{Frame, Blocks, Close, Leaf, Fork, Way, Here, GoL, GoR, Fine, final}
use Rattle.perm_meaning.specs.NamedHeap.{Held, Heap, Branch, Task}
use Rattle.perm_meaning.proofs.Leads.{none-some}
use Rattle.perm_meaning.proofs.SameName.{eq-true}
use Rattle.perm_core.specs.Endings.{Ending, ByNothing, is_open, stack_ends, tree_ends}
use Rattle.perm_core.specs.Regions.{Zone, Labels, calls, top_zone, left_zone, right_zone}
use Rattle.perm_core.specs.Picture.{context_of, mode_in, variables_fit, stack_fits, has_end, branch_fits, tree_fits, object_fits, hidden_above, lowest, stands_in, sides_stand, none_valued, stack_hidden, branch_hidden, tree_hidden}
use Rattle.perm_core.proofs.KeepsPicture.Calls.CallEnds.{StartsLow}
use Rattle.perm_core.proofs.KeepsPicture.Order.LiveTrees.{FineLeaf, fine-leaf}
use Rattle.perm_core.proofs.KeepsPicture.Trees.NodePremises.{AreThree, are-three, ForkAvoids, NodeFits, fork-avoids}

module _ (u : UnitCode) (labels : Labels) (heap : Heap) where
  -- what holds of a waiting parent and its sides
  pub record ForkFits (k : Ending) (below : List ℕ) (at : Way → Way) (z : Zone) (b : Branch) (p : Blocks) (l r : Task) : Type 0 where
    pub low : StartsLow (at Here) z
    pub three : AreThree at
    pub avoids : ForkAvoids at z b
    pub open_ : b.close ≡ None
    pub vars : variables_fit u labels heap.objects (top_zone (at Here) z b.stack) (at Here) (calls b.stack) 0 (context_of u b.own.routine).vars b.own.vars ≡ true
    pub stack : stack_fits u labels heap.objects (at Here) z b.own.routine b.stack ≡ true
    pub shown : none_valued (hidden_above below b.stack) b.own.vars ≡ true
    pub hid : stack_hidden below b.code b.stack ≡ true
    pub left : tree_fits u labels heap.objects (λ w. at (GoL w)) (left_zone (mode_in u b.own.routine p) (at (GoL Here)) (top_zone (at Here) z b.stack)) l ≡ true
    pub right : tree_fits u labels heap.objects (λ w. at (GoR w)) (right_zone (mode_in u b.own.routine p) (at (GoR Here)) (top_zone (at Here) z b.stack)) r ≡ true
    pub left_stands : stands_in b.own.routine l ≡ true
    pub right_stands : stands_in b.own.routine r ≡ true
    pub left_ends : tree_ends ByNothing l ≡ true
    pub right_ends : tree_ends ByNothing r ≡ true
    pub objects : (n : Name) → object_fits u labels heap.objects n (heap.objects n) ≡ true

  pub fork-fits : (k : Ending) (below : List ℕ) (at : Way → Way) (z : Zone) (b : Branch) (p : Blocks) (l r : Task) (H : Vars) → NodeFits u labels heap k below at z (Fork b p l r) H → ForkFits k below at z b p l r
  fork-fits k below at z b p l r H node =
      let top = top_zone (at Here) z b.stack in
      let m = mode_in u b.own.routine p in
      let held : Bool = variables_fit u labels heap.objects top (at Here) (calls b.stack) 0 (context_of u b.own.routine).vars b.own.vars in
      let stack : Bool = stack_fits u labels heap.objects (at Here) z b.own.routine b.stack in
      let left : Bool = tree_fits u labels heap.objects (λ w. at (GoL w)) (left_zone m (at (GoL Here)) top) l in
      let right : Bool = tree_fits u labels heap.objects (λ w. at (GoR w)) (right_zone m (at (GoR Here)) top) r in
      let e = and_parts (is_open b.close && stack_ends k b.code b.stack) (tree_ends ByNothing l && tree_ends ByNothing r) node.is.ends in
      let sides_end = and_parts (tree_ends ByNothing l) (tree_ends ByNothing r) e.1 in
      let none = closed b.close (and_parts (is_open b.close) (stack_ends k b.code b.stack) e.0).0 in
      let f = and_parts (branch_fits u labels heap.objects (at Here) z b) (left && right) node.is.variables in
      let sides = and_parts left right f.1 in
      let mine = and_parts held stack (sym (ap (λ c. has_end u labels heap.objects c || (held && stack)) none) ∙ f.0) in
      let hid = and_parts (none_valued (hidden_above below b.stack) b.own.vars) (stack_hidden below b.code b.stack)
      (and_parts (branch_hidden below b) (tree_hidden (hidden_above below b.stack) l && tree_hidden (hidden_above below b.stack) r) node.is.hidden).0 in
      let stand = and_parts (stands_in b.own.routine l) (stands_in b.own.routine r) (and_parts (stands_in b.own.routine l && stands_in b.own.routine r) (sides_stand l && sides_stand r) node.is.stand).0 in
      record {
        low = node.low;
        three = are-three at node.nodes;
        avoids = fork-avoids u labels heap k below at z b p l r H node;
        open_ = none;
        vars = mine.0;
        stack = mine.1;
        shown = hid.0;
        hid = hid.1;
        left = sides.0;
        right = sides.1;
        left_stands = stand.0;
        right_stands = stand.1;
        left_ends = sides_end.0;
        right_ends = sides_end.1;
        objects = node.objects;
      }
    where
      closed : (x : Option (Close Held)) → is_open x ≡ true → x ≡ None
      closed None q = refl
      closed (Some f) q = absurd (let no : ⊥ = cc q in no)

  -- the variables of a side that went well fit, as those of the method that it stands in
  pub fine-vars : (at : Way → Way) (z : Zone) (m : ℕ) (t : Task) (vs : List Held) (n : ℕ) (p : List ℤ) → final t ≡ Some (Fine vs n p) → tree_fits u labels heap.objects at z t ≡ true → stands_in m t ≡ true
      → variables_fit u labels heap.objects z (at Here) 0 0 (context_of u m).vars vs ≡ true
  fine-vars at z m (Fork b q l r) vs n p e fit stand = none-some e
  fine-vars at z m (Leaf b) vs n p e fit stand =
      let held : Bool = variables_fit u labels heap.objects (top_zone (at Here) z b.stack) (at Here) (calls b.stack) 0 (context_of u b.own.routine).vars b.own.vars in
      let stack : Bool = stack_fits u labels heap.objects (at Here) z b.own.routine b.stack in
      let vars = (and_parts held stack (sym (ap (λ c. has_end u labels heap.objects c || (held && stack)) is.close) ∙ fit)).0 in
      subst (λ (ws : List Held). variables_fit u labels heap.objects z (at Here) 0 0 (context_of u m).vars ws ≡ true) is.vars
      (subst (λ (r : ℕ). variables_fit u labels heap.objects z (at Here) 0 0 (context_of u r).vars b.own.vars ≡ true) routine
      (subst (λ (st : List (Frame Held)). variables_fit u labels heap.objects (top_zone (at Here) z st) (at Here) (calls st) 0 (context_of u b.own.routine).vars b.own.vars ≡ true) is.stack vars))
    where
      is : FineLeaf u labels heap.objects b vs
      is = fine-leaf u labels heap.objects b vs n p e

      routine : b.own.routine ≡ m
      routine = eq-true b.own.routine m (ap (λ (st : List (Frame Held)). nat_eq (lowest b.own.routine st) m) (sym is.stack) ∙ (sym (ap (λ c. not (is_open c) || nat_eq (lowest b.own.routine b.stack) m) is.close) ∙ stand))
