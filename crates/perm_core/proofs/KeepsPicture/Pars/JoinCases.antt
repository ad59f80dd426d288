-- A parent whose sides have ended goes on or ends: it and the objects fit the labels that its join tells.
use Rattle.std.proofs.Common.{◌≡◌, ℕ, true, Some, List, ◌++◌, ◌+◌, refl, sym, subst, ◌∙◌}
use Rattle.perm_tree.specs.Code.{UnitCode}
use Rattle.perm_tree.specs.Vars.{Vars}
use Rattle.perm_rules.specs.Parts.{Context}
use Rattle.perm_rules.specs.declared.ParMode.{ParMode}
use Rattle.perm_meaning.specs.Names.{Name}
use Rattle.perm_meaning.specs.Custody.{merged, back_l, back_r}
use Rattle.perm_meaning.specs.Machine.{Blocks, Fork, Way, Here, GoL, GoR, Final, Fine, GaveBack, Failed, final, resumed, join_of}
use Rattle.perm_meaning.specs.NamedHeap.{Held, Heap, Branch, Task}
use Rattle.perm_core.specs.Core.{core}
use Rattle.perm_core.specs.Endings.{Ending}
use Rattle.perm_core.specs.Regions.{Zone, Labels, calls, top_zone, left_zone, right_zone}
use Rattle.perm_core.specs.Picture.{context_of, mode_in, variables_fit, stack_fits, tree_fits, object_fits}
use Rattle.perm_core.specs.NextPicture.{Renamings, moved, isolated_among, handed, zone_moves}
use Rattle.perm_core.proofs.KeepsPicture.Trees.ForkPremises.{ForkFits, fork-fits, fine-vars}
use Rattle.perm_core.proofs.KeepsPicture.Pars.Joins as joins
use Rattle.perm_core.proofs.KeepsPicture.Pars.Joins.{moved-append}
use Rattle.perm_core.proofs.KeepsPicture.Order.LiveTrees.{gave-none}
use Rattle.perm_core.proofs.KeepsPicture.Labels.NextLabels.{JoinFits, joined_at}
use Rattle.perm_core.proofs.KeepsPicture.Trees.NodePremises.{NodeFits}
use Rattle.perm_core.proofs.KeepsPicture.Turns.PlainTurns.{settled-fits}

module _ (u : UnitCode) (limit : ℕ) (labels : Labels) (heap : Heap) (k : Ending) (below : List ℕ) (at : Way → Way) (z : Zone) (b : Branch) (p : Blocks) (l r : Task) (H : Vars) (node : NodeFits u labels heap k below at z (Fork b p l r) H) where
  is : ForkFits u labels heap k below at z b p l r
  is = fork-fits u labels heap k below at z b p l r H node

  abbrev m : ℕ
  m = b.own.routine

  abbrev c : Context
  c = context_of u b.own.routine

  abbrev mode : ParMode
  mode = mode_in u b.own.routine p

  abbrev top : Zone
  top = top_zone (at Here) z b.stack

  abbrev A : Vars
  A = back_l u b.own.routine p

  abbrev B : Vars
  B = back_r u b.own.routine p

  -- one change after the other is that of the join
  abbrev after : Labels
  after n =
      moved (zone_moves u labels mode (at (GoL Here)) (at (GoR Here)) top)
      (moved (handed u labels (at (GoR Here)) 0 (at Here) (calls b.stack) (isolated_among u labels c B)) (moved (handed u labels (at (GoL Here)) 0 (at Here) (calls b.stack) (isolated_among u labels c A)) (labels n)))

  joined-so : joined_at u limit labels heap at z b p ≡ after
  joined-so i n = same i
    where
      from_l : Renamings
      from_l = handed u labels (at (GoL Here)) 0 (at Here) (calls b.stack) (isolated_among u labels c A)

      from_r : Renamings
      from_r = handed u labels (at (GoR Here)) 0 (at Here) (calls b.stack) (isolated_among u labels c B)

      zones : Renamings
      zones = zone_moves u labels mode (at (GoL Here)) (at (GoR Here)) top

      same : joined_at u limit labels heap at z b p n ≡ after n
      same = moved-append from_l (from_r ++ zones) (labels n) ∙ moved-append from_r zones (moved from_l (labels n))

  -- the parent's variables and stack, where both sides went well
  merged-vars : (ls rs : List Held) → variables_fit u labels heap.objects (left_zone mode (at (GoL Here)) top) (at (GoL Here)) 0 0 c.vars ls ≡ true → variables_fit u labels heap.objects (right_zone mode (at (GoR Here)) top) (at (GoR Here)) 0 0 c.vars rs ≡ true
      → variables_fit u (joined_at u limit labels heap at z b p) heap.objects top (at Here) (calls b.stack) 0 c.vars (merged A B b.own.vars ls rs) ≡ true
  merged-vars ls rs left right =
      subst (λ (ns : Labels). variables_fit u ns heap.objects top (at Here) (calls b.stack) 0 c.vars (merged A B b.own.vars ls rs) ≡ true) (sym joined-so)
      (joins.joined-fits u labels heap.objects (at Here) (at (GoL Here)) (at (GoR Here)) top (calls b.stack) c mode A B is.three.here_left is.three.here_right is.three.left_right is.three.right_left is.avoids.top_left is.avoids.top_right b.own.vars ls rs is.vars left right)

  merged-stack : stack_fits u (joined_at u limit labels heap at z b p) heap.objects (at Here) z m b.stack ≡ true
  merged-stack =
      subst (λ (ns : Labels). stack_fits u ns heap.objects (at Here) z m b.stack ≡ true) (sym joined-so)
      (joins.below-fits u labels heap.objects (at Here) (at (GoL Here)) (at (GoR Here)) top (calls b.stack) c mode A B is.three.here_left is.three.here_right is.three.left_right is.three.right_left is.avoids.top_left is.avoids.top_right z m b.stack is.avoids.start_left is.avoids.start_right is.stack)

  merged-objects : (n : Name) → object_fits u (joined_at u limit labels heap at z b p) heap.objects n (heap.objects n) ≡ true
  merged-objects n =
      subst (λ (ns : Labels). object_fits u ns heap.objects n (heap.objects n) ≡ true) (sym joined-so)
      (joins.objects-fit u labels heap.objects (at Here) (at (GoL Here)) (at (GoR Here)) top (calls b.stack) c mode A B is.three.here_left is.three.here_right is.three.left_right is.three.right_left is.avoids.top_left is.avoids.top_right is.objects n)

  -- however the sides ended
  pub join-case : (x y : Final Held) → final l ≡ Some x → final r ≡ Some y → JoinFits u limit labels heap at z b p x y
  join-case x y left right = record { fits = go x y left right; objects = merged-objects }
    where
      go : (x y : Final Held) → final l ≡ Some x → final r ≡ Some y → tree_fits u (joined_at u limit labels heap at z b p) heap.objects at z (resumed (core u) b (join_of (core u) b p x y)) ≡ true
      go (Fine ls t q) (Fine rs n s) i j =
          settled-fits u (joined_at u limit labels heap at z b p) heap.objects (at Here) z (record b { own = record b.own { printed = b.own.printed ++ (q ++ s) }; turns = t + n }) (merged A B b.own.vars ls rs) b.code b.stack
          (merged-vars ls rs (fine-vars u labels heap (λ w. at (GoL w)) (left_zone mode (at (GoL Here)) top) m l ls t q i is.left is.left_stands) (fine-vars u labels heap (λ w. at (GoR w)) (right_zone mode (at (GoR Here)) top) m r rs n s j is.right is.right_stands))
          merged-stack
      go (Fine ls t q) (GaveBack v n s) i j = absurd (gave-none u labels heap.objects r v n s j is.right_ends)
      go (Fine ls t q) (Failed f n s) i j = refl
      go (GaveBack v t q) y i j = absurd (gave-none u labels heap.objects l v t q i is.left_ends)
      go (Failed f t q) (Fine rs n s) i j = refl
      go (Failed f t q) (GaveBack v n s) i j = refl
      go (Failed f t q) (Failed g n s) i j = refl
