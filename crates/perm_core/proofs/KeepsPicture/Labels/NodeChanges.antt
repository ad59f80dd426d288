-- What the event of a node does to the labels is a change of that node's own: of its variables and its sides', of fields, of zones that begin there, and of the name that it gives.
use Rattle.std.proofs.Common.{◌≡◌, ℕ, suc, ◌<◌, Bool, true, false, Option, Some, None, List, [], ◌∷◌, ◌++◌, refl, sym, subst}
use Rattle.std.specs.Prelude.{not, cond, slice_get}
use Rattle.std.proofs.lemmas.Bool.{and_parts}
use Rattle.perm_tree.specs.declared.ast.Perm.{Perm}
use Rattle.perm_tree.specs.declared.ast.Perm.TheVariants.{Isolated, Immutable, Readable, Writable}
use Rattle.perm_tree.specs.declared.ast.Shape.{Shape}
use Rattle.perm_tree.specs.declared.ast.Ty.{Ty}
use Rattle.perm_tree.specs.declared.ast.Ty.TheVariants.{Long, Bool as Boolean, Ref}
use Rattle.perm_tree.specs.Code.{Tie, Shares, Raises, Lends, Argument, Expression, Consumed, Instruction, Declare, Assign, LoadField, LoadLength, LoadItem, TakeField, NewObject, NewArray, StoreField, StoreItem, Invoke, Print, Code, End, Give, Return, Do, If, While, Par, Recover, Routine, UnitCode}
use Rattle.perm_tree.specs.Vars.{Vars}
use Rattle.perm_rules.specs.declared.ParMode.{ParMode}
use Rattle.perm_rules.specs.declared.ParMode.TheVariants.{Symmetric, LeftAlone, RightAlone}
use Rattle.perm_rules.specs.Parts.{Context, type_of, type_of_field, has_isolated}
use Rattle.perm_meaning.specs.Values.{Number, Truth, Null, Reference}
use Rattle.perm_meaning.specs.Names.{Name}
use Rattle.perm_meaning.specs.Objects.{Object}
use Rattle.perm_meaning.specs.Custody.{mentions_l, mentions_r, back_l, back_r}
use Rattle.perm_meaning.specs.Machine.{Frame, OpenBlock, OpenRecover, OpenCall, Blocks, Way, Here, GoL, GoR}
use Rattle.perm_meaning.specs.NamedHeap.{Held, Heap, Branch}
use Rattle.perm_meaning.specs.Turns.{blocks}
use Rattle.perm_core.specs.Endings.{Ending}
use Rattle.perm_core.specs.Regions.{Zone, Base, Under, Region, Frozen, OwnOf, OfVariable, OfField, Loose, Labels, is_absent, var_may_lead, calls, zones, top_zone}
use Rattle.perm_core.specs.Picture.{context_of, mode_in, has_shape, value_fits, values_fit, object_fits}
use Rattle.perm_core.specs.NextPicture.{Moves, Ends, moving, no_change, goal_of, goal_at, goal_into, consumed_moves, arguments_moves, zone_of_call, receiver_moves, call_moves, perm_of, ended_to, tie_moves, region_of, field_region, is_immutable, instruction_change, give_moves, return_moves, isolated_among, handed, par_moves, zone_moves, join_moves, code_change}
use Rattle.perm_core.proofs.KeepsPicture.Turns.Arguments.{get-some}
use Rattle.perm_core.proofs.KeepsPicture.Calls.CallEnds.{goal-there, into-there, get-less}
use Rattle.perm_core.proofs.KeepsPicture.Labels.CarriedValues.{to-all}
use Rattle.perm_core.proofs.KeepsPicture.Pars.Joins.{Avoids, under-joins, base-joins}
use Rattle.perm_core.proofs.KeepsPicture.Labels.LocalChanges.{of_own, of_object, of_none, ending_at, joining_at, AllLocal, nothing, one-local, also, both-local, IsLocalChange, no-local}
use Rattle.perm_core.proofs.KeepsPicture.Trees.NodePremises.{LeafFits, ForkAvoids}

-- ---------- where values go ----------
ended-is : (p : Option Perm) (to : Region) → is_absent to ≡ false → is_absent (ended_to p to) ≡ false
ended-is None to e = refl
ended-is (Some Readable) to e = refl
ended-is (Some Writable) to e = e
ended-is (Some Isolated) to e = refl
ended-is (Some Immutable) to e = refl

module _ (at : Way → Way) where
  -- ---------- arguments and calls ----------
  consumed-local : (c : Context) (k : ℕ) (a : Argument) (to : Region) → is_absent to ≡ false → AllLocal at (consumed_moves c (at Here) k a to)
  consumed-local c k (Expression e) to there = nothing
  consumed-local c k (Consumed y) to there = go (has_isolated (type_of c y))
    where
      go : (t : Bool) → AllLocal at (cond t (Moves (OfVariable (at Here) k y) to ∷ []) [])
      go true = one-local at (Moves (OfVariable (at Here) k y) to) (of_own Here k y to there)
      go false = nothing

  arguments-local : (c : Context) (k x : ℕ) (args : List Argument) (ts : List Ty) (z : Zone) → AllLocal at (arguments_moves c (at Here) k x args ts z)
  arguments-local c k x [] ts z = nothing
  arguments-local c k x (a ∷ rest) [] z = nothing
  arguments-local c k x (a ∷ rest) (t ∷ ts) z =
      let to = goal_of (Some t) (OfVariable (at Here) (suc k) x) (OwnOf z) in
      both-local at (consumed_moves c (at Here) k a to) (arguments_moves c (at Here) k (suc x) rest ts z) (consumed-local c k a to (goal-there (Some t) (OfVariable (at Here) (suc k) x) (OwnOf z) refl refl))
      (arguments-local c k (suc x) rest ts z)

  receiver-local : (c : Context) (k : ℕ) (tie : Tie) (consumed : Bool) (y : ℕ) (r : Perm) (z : Zone) → AllLocal at (receiver_moves c (at Here) k tie consumed y r z)
  receiver-local c k Lends consumed y r z = one-local at (Moves (OfVariable (at Here) k y) (OwnOf z)) (of_own Here k y (OwnOf z) refl)
  receiver-local c k Shares true y Isolated z = consumed-local c k (Consumed y) (OfVariable (at Here) (suc k) 0) refl
  receiver-local c k Shares true y Writable z = consumed-local c k (Consumed y) (OwnOf z) refl
  receiver-local c k Shares true y Readable z = consumed-local c k (Consumed y) (OwnOf z) refl
  receiver-local c k Shares true y Immutable z = consumed-local c k (Consumed y) Frozen refl
  receiver-local c k Shares false y r z = nothing
  receiver-local c k Raises true y Isolated z = consumed-local c k (Consumed y) (OfVariable (at Here) (suc k) 0) refl
  receiver-local c k Raises true y Writable z = consumed-local c k (Consumed y) (OwnOf z) refl
  receiver-local c k Raises true y Readable z = consumed-local c k (Consumed y) (OwnOf z) refl
  receiver-local c k Raises true y Immutable z = consumed-local c k (Consumed y) Frozen refl
  receiver-local c k Raises false y r z = nothing

  call-local : (c : Context) (z : Zone) (st : List (Frame Held)) (tie : Tie) (consumed : Bool) (y : ℕ) (args : List Argument) (r : Option Routine) → AllLocal at (call_moves c (at Here) z st tie consumed y args r)
  call-local c z st tie consumed y args None = nothing
  call-local c z st tie consumed y args (Some r) =
      let inner = zone_of_call tie (at Here) z st in
      both-local at (receiver_moves c (at Here) (calls st) tie consumed y r.receiver inner) (arguments_moves c (at Here) (calls st) 1 args r.params inner) (receiver-local c (calls st) tie consumed y r.receiver inner)
      (arguments-local c (calls st) 1 args r.params inner)

  module _ (u : UnitCode) (labels : Labels) where
    -- ---------- ends of recover blocks and calls ----------
    give-local : (c : Context) (z : Zone) (v x : ℕ) (st : List (Frame Held)) → AllLocal at (give_moves u labels c (at Here) z v x st)
    give-local c z v x [] = nothing
    give-local c z v x (f ∷ st) =
        let to = goal_at c (at Here) z st x in
        let there = goal-there (type_of c x) (OfVariable (at Here) (calls st) x) (OwnOf (top_zone (at Here) z st)) refl refl in
        let ends = Ends (at Here) (suc (zones st)) (ended_to (perm_of (type_of c v)) to) in
        both-local at (consumed_moves c (at Here) (calls st) (Consumed v) to) (ends ∷ []) (consumed-local c (calls st) (Consumed v) to there)
        (one-local at ends (ending_at Here (suc (zones st)) (ended_to (perm_of (type_of c v)) to) (ended-is (perm_of (type_of c v)) to there)))

    tie-local : (tie : Tie) (j k y : ℕ) (t : Ty) (to : Region) → is_absent to ≡ false → AllLocal at (tie_moves tie j (at Here) k y t to)
    tie-local Shares j k y t to there = nothing
    tie-local Raises j k y t to there =
        let home = ended_to (perm_of (Some t)) to in
        one-local at (Ends (at Here) (suc j) home) (ending_at Here (suc j) home (ended-is (perm_of (Some t)) to there))
    tie-local Lends j k y t to there = one-local at (Ends (at Here) (suc j) (OfVariable (at Here) k y)) (ending_at Here (suc j) (OfVariable (at Here) k y) refl)

    return-local : (c : Context) (z : Zone) (a : Argument) (st : List (Frame Held)) → AllLocal at (return_moves u labels c (at Here) z a st)
    return-local c z a [] = nothing
    return-local c z a (OpenBlock own rest ∷ st) = nothing
    return-local c z a (OpenRecover own hides saved rest ∷ st) = nothing
    return-local c z a (OpenCall tie into y saved lent caller rest ∷ st) =
        let from = top_zone (at Here) z (OpenCall tie into y saved lent caller rest ∷ st) in
        let to = goal_into (context_of u caller) (at Here) z st into in
        let there = into-there (context_of u caller) (at Here) z st into in
        both-local at (consumed_moves c (at Here) (suc (calls st)) a (goal_of (Some c.result) to (OwnOf from))) (tie_moves tie (zones st) (at Here) (calls st) y c.result to)
        (consumed-local c (suc (calls st)) a (goal_of (Some c.result) to (OwnOf from)) (goal-there (Some c.result) to (OwnOf from) there refl)) (tie-local tie (zones st) (calls st) y c.result to there)

    -- ---------- pars ----------
    handed-local : (w : Way) (k : ℕ) (v : Way) (j : ℕ) (xs : List ℕ) → AllLocal at (handed u labels (at w) k v j xs)
    handed-local w k v j [] = nothing
    handed-local w k v j (x ∷ xs) = also (Moves (OfVariable (at w) k x) (OfVariable v j x)) (handed u labels (at w) k v j xs) (of_own w k x (OfVariable v j x) refl) (handed-local w k v j xs)

    par-local : (c : Context) (st : List (Frame Held)) (p : Blocks) → AllLocal at (par_moves u labels c at st p)
    par-local c st p =
        let xs = isolated_among u labels c (mentions_l p) in
        let ys = isolated_among u labels c (mentions_r p) in
        both-local at (handed u labels (at Here) (calls st) (at (GoL Here)) 0 xs) (handed u labels (at Here) (calls st) (at (GoR Here)) 0 ys) (handed-local Here (calls st) (at (GoL Here)) 0 xs)
        (handed-local Here (calls st) (at (GoR Here)) 0 ys)

    zones-local : (mode : ParMode) (z : Zone) → Avoids (at (GoL Here)) z → Avoids (at (GoR Here)) z → AllLocal at (zone_moves u labels mode (at (GoL Here)) (at (GoR Here)) z)
    zones-local Symmetric z l r =
        also _ _ (joining_at (GoL Here) (Under (at (GoL Here)) z) z refl (under-joins (at (GoL Here)) z l)) (one-local at _ (joining_at (GoR Here) (Under (at (GoR Here)) z) z refl (under-joins (at (GoR Here)) z r)))
    zones-local LeftAlone z l r = one-local at _ (joining_at (GoL Here) (Base (at (GoL Here)) 0) z refl (base-joins (at (GoL Here)) 0 z l))
    zones-local RightAlone z l r = one-local at _ (joining_at (GoR Here) (Base (at (GoR Here)) 0) z refl (base-joins (at (GoR Here)) 0 z r))

    -- a join
    pub join-local : (c : Context) (z : Zone) (b : Branch) (p : Blocks) → ForkAvoids at z b → AllLocal at (join_moves u labels c at z b p)
    join-local c z b p avoids =
        let xs = isolated_among u labels c (back_l u b.own.routine p) in
        let ys = isolated_among u labels c (back_r u b.own.routine p) in
        let joins = zone_moves u labels (mode_in u b.own.routine p) (at (GoL Here)) (at (GoR Here)) (top_zone (at Here) z b.stack) in
        both-local at (handed u labels (at (GoL Here)) 0 (at Here) (calls b.stack) xs) (handed u labels (at (GoR Here)) 0 (at Here) (calls b.stack) ys ++ joins) (handed-local (GoL Here) 0 (at Here) (calls b.stack) xs)
        (both-local at (handed u labels (at (GoR Here)) 0 (at Here) (calls b.stack) ys) joins (handed-local (GoR Here) 0 (at Here) (calls b.stack) ys) (zones-local (mode_in u b.own.routine p) (top_zone (at Here) z b.stack) avoids.top_left avoids.top_right))

    -- ---------- leaves ----------
    module _ (heap : Heap) (k : Ending) (below : List ℕ) (z : Zone) (b : Branch) (H : Vars) (leaf : LeafFits u labels heap k below at z b H) where
      abbrev c : Context
      c = context_of u b.own.routine

      -- what a variable refers to has a region
      region-is : (y : ℕ) → is_absent (region_of u labels (slice_get b.own.vars y)) ≡ false
      region-is y = go (slice_get b.own.vars y) refl
        where
          labelled : (r : Name) (s : Shape) (n : ℕ) (o : Option (Object Name)) → has_shape o s n ≡ true → object_fits u labels heap.objects r o ≡ true → is_absent (labels r) ≡ false
          labelled r s n None e f = absurd (let no : ⊥ = cc e in no)
          labelled r s n (Some o) e f = was-not (is_absent (labels r)) (and_parts (not (is_absent (labels r))) (values_fit u labels heap.objects r o.shape o.values) f).0
            where
              was-not : (t : Bool) → not t ≡ true → t ≡ false
              was-not true e = absurd (let no : ⊥ = cc e in no)
              was-not false e = refl

          typed : (t : Ty) (r : Name) (n : ℕ) → value_fits heap.objects (λ p m. var_may_lead p (OfVariable (at Here) (calls b.stack) y) (top_zone (at Here) z b.stack) (labels m)) t (Reference r n) ≡ true → is_absent (labels r) ≡ false
          typed Long r n e = absurd (let no : ⊥ = cc e in no)
          typed Boolean r n e = absurd (let no : ⊥ = cc e in no)
          typed (Ref p s) r n e = labelled r s n (heap.objects r) (and_parts (has_shape (heap.objects r) s n) (var_may_lead p (OfVariable (at Here) (calls b.stack) y) (top_zone (at Here) z b.stack) (labels r)) e).0 (leaf.objects r)

          go : (o : Option Held) → slice_get b.own.vars y ≡ o → is_absent (region_of u labels o) ≡ false
          go None q = refl
          go (Some None) q = refl
          go (Some (Some (Number n))) q = refl
          go (Some (Some (Truth t))) q = refl
          go (Some (Some Null)) q = refl
          go (Some (Some (Reference r n))) q =
              let fit = to-all u labels heap.objects (top_zone (at Here) z b.stack) (at Here) (calls b.stack) c.vars b.own.vars leaf.vars in
              let type = get-some c.vars y (subst (λ (n : ℕ). y < n) (sym fit.lengths) (get-less b.own.vars y (Some (Reference r n)) q)) in
              typed type.0 r n (fit.each y type.0 (Reference r n) type.1 q)

      field-is : (y f : ℕ) → is_absent (field_region u labels (slice_get b.own.vars y) f) ≡ false
      field-is y f = go (slice_get b.own.vars y)
        where
          go : (o : Option Held) → is_absent (field_region u labels o f) ≡ false
          go None = refl
          go (Some None) = refl
          go (Some (Some (Number n))) = refl
          go (Some (Some (Truth t))) = refl
          go (Some (Some Null)) = refl
          go (Some (Some (Reference r n))) = refl

      field-local : (y f : ℕ) (to : Region) → is_absent to ≡ false → AllLocal at (Moves (field_region u labels (slice_get b.own.vars y) f) to ∷ [])
      field-local y f to there = go (slice_get b.own.vars y)
        where
          go : (o : Option Held) → AllLocal at (Moves (field_region u labels o f) to ∷ [])
          go None = one-local at (Moves Loose to) (of_none to there)
          go (Some None) = one-local at (Moves Loose to) (of_none to there)
          go (Some (Some (Number n))) = one-local at (Moves Loose to) (of_none to there)
          go (Some (Some (Truth t))) = one-local at (Moves Loose to) (of_none to there)
          go (Some (Some Null)) = one-local at (Moves Loose to) (of_none to there)
          go (Some (Some (Reference r n))) = one-local at (Moves (OfField r f) to) (of_object r f to there)

      into-local : (x : ℕ) → is_absent (goal_at c (at Here) z b.stack x) ≡ false
      into-local x = goal-there (type_of c x) (OfVariable (at Here) (calls b.stack) x) (OwnOf (top_zone (at Here) z b.stack)) refl refl

      instruction-local : (i : Instruction) → IsLocalChange at heap.objects (instruction_change u labels c (at Here) z b i)
      instruction-local (Declare x) = no-local at heap.objects
      instruction-local (Assign x a) = record { moves = consumed-local c (calls b.stack) a (goal_at c (at Here) z b.stack x) (into-local x); new = tt }
      instruction-local (LoadField x y f) = go (is_immutable u labels (type_of c y)) (has_isolated (type_of_field c.classes (type_of c y) f))
        where
          go : (s t : Bool) → IsLocalChange at heap.objects (cond s (cond t (moving (Moves (field_region u labels (slice_get b.own.vars y) f) Frozen ∷ [])) no_change) no_change)
          go true true = record { moves = field-local y f Frozen refl; new = tt }
          go true false = no-local at heap.objects
          go false t = no-local at heap.objects
      instruction-local (LoadLength x y) = no-local at heap.objects
      instruction-local (LoadItem x y i) = no-local at heap.objects
      instruction-local (TakeField x y f) = record { moves = field-local y f (goal_at c (at Here) z b.stack x) (into-local x); new = tt }
      instruction-local (NewObject x k) = record { moves = nothing; new = leaf.new }
      instruction-local (NewArray x n) = record { moves = nothing; new = leaf.new }
      instruction-local (StoreField y f a) =
          let to = goal_of (type_of_field c.classes (type_of c y) f) (field_region u labels (slice_get b.own.vars y) f) (region_of u labels (slice_get b.own.vars y)) in
          record { moves = consumed-local c (calls b.stack) a to (goal-there (type_of_field c.classes (type_of c y) f) (field_region u labels (slice_get b.own.vars y) f) (region_of u labels (slice_get b.own.vars y)) (field-is y f) (region-is y)); new = tt }
      instruction-local (StoreItem y i e) = no-local at heap.objects
      instruction-local (Invoke into tie consumed y m args) = record { moves = call-local c z b.stack tie consumed y args (slice_get u.routines m); new = tt }
      instruction-local (Print e) = no-local at heap.objects

      -- the turn of any code
      pub code-local : (d : Code) → IsLocalChange at heap.objects (code_change u labels c at z b d)
      code-local End = no-local at heap.objects
      code-local (Give p v x) = record { moves = give-local c z v x b.stack; new = tt }
      code-local (Return p a) = record { moves = return-local c z a b.stack; new = tt }
      code-local (Do p i rest) = instruction-local i
      code-local (If p e own1 c1 own2 c2 rest) = no-local at heap.objects
      code-local (While p e own body rest) = no-local at heap.objects
      code-local (Par p own1 c1 own2 c2 rest) = record { moves = par-local c b.stack (blocks own1 c1 own2 c2); new = tt }
      code-local (Recover p x own hides body rest) = no-local at heap.objects
