-- After an event of a tree the code to come goes on, to no fewer variables; but where a root gives back the value of a run it ends.
use Rattle.std.proofs.Common.{◌≡◌, ℕ, zero, suc, ◌<◌, Bool, true, false, Option, Some, None, List, [], ◌∷◌, length, refl, sym, ap, subst, ◌∙◌, arith, inl, inr}
use Rattle.std.specs.Prelude.{◌⊎◌, ◌&&◌, ◌||◌, not, nat_eq, ℤ, slice_get}
use Rattle.std.proofs.lemmas.Bool.{and_parts}
use Rattle.perm_tree.specs.declared.ast.Shape.{Shape}
use Rattle.perm_tree.specs.declared.ast.Ty.{Ty}
use Rattle.perm_tree.specs.Code.{Tie, Shares, Raises, Lends, Instruction, Code, End, Give, Return, Do, If, While, Par, Recover, UnitCode}
use Rattle.perm_tree.specs.CodeNames.{is_tied}
use Rattle.perm_tree.specs.Mentions.{assigns, block_mentions}
use Rattle.perm_tree.specs.Vars.{Vars, none, just, those, plus, minus, IsWithin}
use Rattle.perm_tree.proofs.MentionLaws.{same-within}
use Rattle.perm_perm.specs.Types.{fits}
use Rattle.perm_rules.specs.Parts.{Context, type_of, if_both_known}
use Rattle.perm_rules.specs.Permissions.{call_type}
use Rattle.perm_rules.specs.Liveness.{after}
use Rattle.perm_rules.specs.Goes.{IsAccepted}
use Rattle.perm_rules.specs.Scoping.{has_none, is_scoped}
use Rattle.perm_meaning.specs.Values.{Value}
use Rattle.perm_meaning.specs.Names.{Name, Mark}
use Rattle.perm_meaning.specs.Objects.{Objects}
use Rattle.perm_meaning.specs.Expressions.{tagged, assign}
use Rattle.perm_meaning.specs.Custody.{Moves, only, while_called, lent_by, mentions_l, mentions_r}
use Rattle.perm_meaning.specs.Effects.{first_vars}
use Rattle.perm_meaning.specs.Machine.{Frame, OpenBlock, OpenRecover, OpenCall, Close, Returning, Failing, Blocks, Leaf, Fork, Way, Here, GoL, GoR, Final, Fine, GaveBack, Failed, Stage, Over, Due, over, stage_by_turns, stage_by_code, stage_from, stage, final, Did, Splits, done, resumed, join_of}
use Rattle.perm_meaning.specs.NamedHeap.{Held, Op, Own, Branch, Task}
use Rattle.perm_meaning.proofs.Leads.{none-some}
use Rattle.perm_meaning.proofs.SameName.{eq-itself, eq-true}
use Rattle.perm_core.specs.Core.{core}
use Rattle.perm_core.specs.Endings.{Ending, ByNothing, is_by_return, is_open, stack_ends, is_settled, branch_ends, tree_ends}
use Rattle.perm_core.specs.Marked.{calls_right}
use Rattle.perm_core.specs.Regions.{Zone, Base, Labels, calls, zones, top_zone, left_zone, right_zone}
use Rattle.perm_core.specs.Picture.{context_of, mode_in, variables_fit, stack_fits, lent_right, lent_fits, result_fits, branch_fits, tree_fits, has_end, valued, hidden_above, lowest, stands_in, sides_stand, RestGoes, live_joined, HasFailed, TreeGoes, stack_right, tree_right, none_valued, only_valued, stack_hidden, branch_hidden, tree_hidden}
use Rattle.perm_core.proofs.Commute.Conflicts.{unfailed}
use Rattle.perm_core.proofs.KeepsPicture.Calls.CallEnds.{get-less}
use Rattle.perm_core.proofs.KeepsPicture.Labels.CarriedValues.{to-all}
use Rattle.perm_core.proofs.KeepsPicture.Order.GoesOfTrees.{Further, rest-more, goes-left, goes-right}
use Rattle.perm_core.proofs.KeepsPicture.Turns.LeafTurns.{Creates, object, array, TurnTo, dying, ending, acting, making, beginning, left_block, right_block, into_loop, out_of_loop, parting, recovering, giving, returning}
use Rattle.perm_core.proofs.KeepsPicture.Order.LiveCode.{top, further-more, settled-goes, assigned-there, on-goes, do-goes, if-goes, while-goes}
use Rattle.perm_core.proofs.KeepsPicture.Order.LiveLists.{IsAnswer, assign-has, acts-has, held-has, argument-has}
use Rattle.perm_core.proofs.KeepsPicture.Order.LiveTurns.{call-goes, return-goes, recover-goes, give-goes, split-goes, merged-has}
use Rattle.perm_core.proofs.KeepsPicture.Order.RightCode.{top-right}
use Rattle.perm_core.proofs.KeepsPicture.Trees.TreeEvents.{EventAt, refused_leaf, told_leaf, joining, on_left, on_right}

module _ (u : UnitCode) (labels : Labels) (h : Objects Name) where
  -- ---------- lengths ----------
  -- a frame's variables are as many as its types
  lengths : (z : Zone) (w : Way) (k : ℕ) (ts : List Ty) (vs : List Held) → variables_fit u labels h z w k 0 ts vs ≡ true → length ts ≡ length vs
  lengths z w k ts vs e = (to-all u labels h z w k ts vs e).lengths

  -- a variable that has a type is there
  typed-there : (c : Context) (vs : List Held) (x : ℕ) (t : Ty) → length c.vars ≡ length vs → type_of c x ≡ Some t → x < length vs
  typed-there c vs x t even e = let less : x < length c.vars = get-less c.vars x t e in omega (arith, less, even)

  -- the variable that takes a result has a type
  taker-typed : (tie : Tie) (t : Ty) (x caller : ℕ) → result_fits u labels h tie t (Some x) caller ≡ true → (s : Ty) × (type_of (context_of u caller) x ≡ Some s)
  taker-typed Shares t x caller e = known (type_of (context_of u caller) x) refl e
    where
      known : (o : Option Ty) → type_of (context_of u caller) x ≡ o → if_both_known (Some (call_type Shares t)) o fits ≡ true → (s : Ty) × (type_of (context_of u caller) x ≡ Some s)
      known None q e = absurd (let no : ⊥ = cc e in no)
      known (Some s) q e = (s, q)
  taker-typed Raises t x caller e = known (type_of (context_of u caller) x) refl e
    where
      known : (o : Option Ty) → type_of (context_of u caller) x ≡ o → if_both_known (Some (call_type Raises t)) o fits ≡ true → (s : Ty) × (type_of (context_of u caller) x ≡ Some s)
      known None q e = absurd (let no : ⊥ = cc e in no)
      known (Some s) q e = (s, q)
  taker-typed Lends t x caller e = known (type_of (context_of u caller) x) refl (and_parts (not (is_tied t)) (if_both_known (Some t) (type_of (context_of u caller) x) fits) e).1
    where
      known : (o : Option Ty) → type_of (context_of u caller) x ≡ o → if_both_known (Some t) o fits ≡ true → (s : Ty) × (type_of (context_of u caller) x ≡ Some s)
      known None q e = absurd (let no : ⊥ = cc e in no)
      known (Some s) q e = (s, q)

  -- what is lent is a value, and the lent variable has a type
  lent-typed : (z : Zone) (tie : Tie) (o : Option Ty) (w : Held) → lent_right u labels h tie o (Some w) && lent_fits u labels h z o (Some w) ≡ true → ((s : Ty) × (o ≡ Some s)) × ((a : Value Name) × (w ≡ Some a))
  lent-typed z tie (Some s) (Some a) e = ((s, refl), (a, refl))
  lent-typed z tie (Some s) None e = absurd (let q = (and_parts (lent_right u labels h tie (Some s) (Some None)) false e).1 in let no : ⊥ = cc q in no)
  lent-typed z Shares None w e = absurd (let no : ⊥ = cc e in no)
  lent-typed z Raises None w e = absurd (let no : ⊥ = cc e in no)
  lent-typed z Lends None w e = absurd (let no : ⊥ = cc e in no)

  -- ---------- turns ----------
  -- it goes on to no fewer, or a whole run has ended
  abbrev GoesOn : Ending → (Vars → Type 0) → Vars → Type 0
  GoesOn k P H = Further P H ⊎ ((is_by_return k ≡ true) × ((L : Vars) × P L))

  turn-goes : (accepted : IsAccepted u) (z : Zone) (w : Way) (below : List ℕ) (k : Ending) (b : Branch) (t : ℕ) (x : Held) (c : Code) (st : List (Frame Held)) (o : Op) (d : Did Held Mark) (H : Vars) → st ≡ b.stack → IsAnswer o x
      → variables_fit u labels h (top_zone w z st) w (calls st) 0 (context_of u b.own.routine).vars b.own.vars ≡ true → stack_fits u labels h w z b.own.routine st ≡ true → stack_ends k c st ≡ true
      → none_valued (hidden_above below st) b.own.vars ≡ true → stack_hidden below c st ≡ true → stack_right u b.own.routine c st (valued b.own.vars) ≡ true
      → RestGoes u below b.own.routine c st (valued b.own.vars) H → TurnTo u b.own x c st o d → GoesOn k (λ L. TreeGoes u below (done (core u) b t d) L) H
  turn-goes accepted z w below k b t x _ _ _ _ H here answer vars stack ending_k hid hidden right goes (dying c st f) = inl (record { ends = H; goes = inl tt; more = same-within H })
  turn-goes accepted z w below k b t x _ _ _ _ H here answer vars stack ending_k hid hidden right goes (ending at a v q) = inr (ending_k, (valued [], inr refl))
  turn-goes accepted z w below k b t x _ _ _ _ H here answer vars stack ending_k hid hidden right goes (acting at i rest st o vs l acts stays) =
      let m = b.own.routine in
      let even = lengths (top_zone w z st) w (calls st) (context_of u m).vars b.own.vars vars in
      let has = acts-has u b.own x i o vs acts answer (assigned-there u below m at i rest st (valued b.own.vars) H b.own.vars even (top u below m (Do at i rest) st (valued b.own.vars) H goes)) in
      inl (on-goes u below b l t m vs rest st H stays.vars stays.routine (do-goes u below m at i rest st (valued b.own.vars) H (valued vs) goes has))
  turn-goes accepted z w below k b t x _ _ _ _ H here answer vars stack ending_k hid hidden right goes (making at i rest st shape n y l is q) =
      let m = b.own.routine in
      inl (on-goes u below b l t m (assign b.own.vars y x) rest st H (ap (λ (z : Own). z.vars) q) (ap (λ (z : Own). z.routine) q) (do-goes u below m at i rest st (valued b.own.vars) H (valued (assign b.own.vars y x)) goes (made i shape n y is there)))
    where
      there : (y : ℕ) → assigns i y ≡ true → y < length b.own.vars
      there = assigned-there u below b.own.routine at i rest st (valued b.own.vars) H b.own.vars (lengths (top_zone w z st) w (calls st) (context_of u b.own.routine).vars b.own.vars vars) (top u below b.own.routine (Do at i rest) st (valued b.own.vars) H goes)

      drop : (U A : Vars) → IsWithin (plus (minus U none) A) (plus U A)
      drop U A y e = go (U y) (A y) e
        where
          go : (a b : Bool) → ((a && true) || b) ≡ true → (a || b) ≡ true
          go true b e = refl
          go false b e = e

      made : (i : Instruction) (shape : Shape) (n y : ℕ) → Creates u b.own i shape n y → ((y : ℕ) → assigns i y ≡ true → y < length b.own.vars) → IsWithin (after i (valued b.own.vars)) (valued (assign b.own.vars y x))
      made _ _ _ _ (object y c ts q) there z e = assign-has b.own.vars y x answer.0 (there y (eq-itself y)) answer.1 z (drop (valued b.own.vars) (just y) z e)
      made _ _ _ _ (array y t n) there z e = assign-has b.own.vars y x answer.0 (there y (eq-itself y)) answer.1 z (drop (valued b.own.vars) (just y) z e)
  turn-goes accepted z w below k b t x _ _ _ _ H here answer vars stack ending_k hid hidden right goes (beginning at rest st into tie consumed y m args r this found vs saved lent l c caller is code q1 q2 q3 on) =
      let f = call-goes u accepted below b.own.routine at into tie consumed y m args rest st b.own r this found vs H is goes in
      let frame : Frame Held = OpenCall tie into y (while_called tagged Moves tie y vs) (lent_by Moves tie this) b.own.routine rest in
      inl (on-goes u below b l t m (first_vars tagged r this found) c (OpenCall tie into y saved lent caller rest ∷ st) H on.vars on.routine
      (subst (λ (e : Code). Further (λ M. RestGoes u below m e (OpenCall tie into y saved lent caller rest ∷ st) (valued (first_vars tagged r this found)) M) H) (sym code)
      (subst (λ (g : List Held). Further (λ M. RestGoes u below m r.code (OpenCall tie into y g lent caller rest ∷ st) (valued (first_vars tagged r this found)) M) H) (sym q1)
      (subst (λ (g : Option Held). Further (λ M. RestGoes u below m r.code (OpenCall tie into y (while_called tagged Moves tie y vs) g caller rest ∷ st) (valued (first_vars tagged r this found)) M) H) (sym q2)
      (subst (λ (g : ℕ). Further (λ M. RestGoes u below m r.code (OpenCall tie into y (while_called tagged Moves tie y vs) (lent_by Moves tie this) g rest ∷ st) (valued (first_vars tagged r this found)) M) H) (sym q3) f)))))
  turn-goes accepted z w below k b t x _ _ _ _ H here answer vars stack ending_k hid hidden right goes (left_block at e own1 a own2 a2 rest st) =
      inl (on-goes u below b b.own t b.own.routine b.own.vars a (OpenBlock own1 rest ∷ st) H refl refl (if-goes u below b.own.routine at e own1 a own2 a2 rest st (valued b.own.vars) H goes).0)
  turn-goes accepted z w below k b t x _ _ _ _ H here answer vars stack ending_k hid hidden right goes (right_block at e own1 a own2 a2 rest st) =
      inl (on-goes u below b b.own t b.own.routine b.own.vars a2 (OpenBlock own2 rest ∷ st) H refl refl (if-goes u below b.own.routine at e own1 a own2 a2 rest st (valued b.own.vars) H goes).1)
  turn-goes accepted z w below k b t x _ _ _ _ H here answer vars stack ending_k hid hidden right goes (into_loop at e own body rest st) =
      inl (on-goes u below b b.own t b.own.routine b.own.vars body (OpenBlock own (While at e own body rest) ∷ st) H refl refl (while-goes u below b.own.routine at e own body rest st (valued b.own.vars) H goes).0)
  turn-goes accepted z w below k b t x _ _ _ _ H here answer vars stack ending_k hid hidden right goes (out_of_loop at e own body rest st) =
      inl (on-goes u below b b.own t b.own.routine b.own.vars rest st H refl refl (while-goes u below b.own.routine at e own body rest st (valued b.own.vars) H goes).1)
  turn-goes accepted z w below k b t x _ _ _ _ H here answer vars stack ending_k hid hidden right goes (parting at own1 a own2 a2 rest st p q) =
      inl (subst (λ (e : Blocks). Further (λ L. TreeGoes u below (done (core u) b t (Splits e rest)) L) H) (sym q)
      (split-goes u below b t at own1 a own2 a2 rest H c none.0 none.1 sides.0 (and_parts (is_scoped c a2 U) (is_scoped c rest M) sides.1).0 (subst (λ (s : List (Frame Held)). RestGoes u below b.own.routine (Par at own1 a own2 a2 rest) s (valued b.own.vars) H) here goes)))
    where
      c : Context
      c = context_of u b.own.routine

      U : Vars
      U = valued b.own.vars

      scoped : is_scoped c (Par at own1 a own2 a2 rest) U ≡ true
      scoped = (and_parts (calls_right c (Par at own1 a own2 a2 rest)) (is_scoped c (Par at own1 a own2 a2 rest) U) (top-right u b.own.routine (Par at own1 a own2 a2 rest) st U right)).1

      M : Vars
      M = plus U (plus (block_mentions own1 a) (block_mentions own2 a2))

      halves : (has_none U own1 && has_none U own2 ≡ true) × (is_scoped c a U && (is_scoped c a2 U && is_scoped c rest M) ≡ true)
      halves = and_parts (has_none U own1 && has_none U own2) (is_scoped c a U && (is_scoped c a2 U && is_scoped c rest M)) scoped

      none : (has_none U own1 ≡ true) × (has_none U own2 ≡ true)
      none = and_parts (has_none U own1) (has_none U own2) halves.0

      sides : (is_scoped c a U ≡ true) × (is_scoped c a2 U && is_scoped c rest M ≡ true)
      sides = and_parts (is_scoped c a U) (is_scoped c a2 U && is_scoped c rest M) halves.1
  turn-goes accepted z w below k b t x _ _ _ _ H here answer vars stack ending_k hid hidden right goes (recovering at y own hides body rest st l saved on q) =
      inl (on-goes u below b l t b.own.routine (only tagged (λ y. not (those hides y)) b.own.vars) body (OpenRecover own hides saved rest ∷ st) H on.vars on.routine
      (subst (λ (g : List Held). Further (λ M. RestGoes u below b.own.routine body (OpenRecover own hides g rest ∷ st) (valued (only tagged (λ y. not (those hides y)) b.own.vars)) M) H) (sym q)
      (recover-goes u below b.own.routine at y own hides body rest st b.own.vars H goes)))
  turn-goes accepted z w below k b t x _ _ _ _ H here answer vars stack ending_k hid hidden right goes (giving at y e own hides saved rest st v l had q on) =
      let m = b.own.routine in
      let ts = (context_of u m).vars in
      let has = held-has (slice_get b.own.vars y) v q in
      let even = lengths (top_zone w z (OpenRecover own hides saved rest ∷ st)) w (calls st) ts b.own.vars vars in
      let even_saved = lengths (top_zone w z st) w (calls st) ts saved (and_parts (variables_fit u labels h (top_zone w z st) w (calls st) 0 ts saved) (stack_fits u labels h w z m st) stack).0 in
      let only_hid = (and_parts (only_valued hides saved) (none_valued (hidden_above below st) saved) (and_parts (only_valued hides saved && none_valued (hidden_above below st) saved) _ hidden).0).0 in
      inl (on-goes u below b l t m _ rest st H on.vars on.routine (give-goes u below m at y e own hides saved rest st b.own.vars v has.0 H has.1 even even_saved hid only_hid goes))
  turn-goes accepted z w below k b t x _ _ _ _ H here answer vars stack ending_k hid hidden right goes (returning at a tie into y saved lent caller rest st v l q on) =
      let has = argument-has a b.own.vars v q in
      inl (on-goes u below b l t caller _ rest st H on.vars on.routine (return-goes u below b.own.routine (Return at a) tie into y saved lent caller rest st v has.0 (valued b.own.vars) H has.1 there back goes))
    where
      c : Context
      c = context_of u caller

      first : Bool
      first = variables_fit u labels h (top_zone w z st) w (calls st) 0 c.vars saved

      lends : Bool
      lends = lent_right u labels h tie (type_of c y) lent && lent_fits u labels h (Base w (suc (zones st))) (type_of c y) lent

      result : Bool
      result = result_fits u labels h tie (context_of u b.own.routine).result into caller

      parts : (first ≡ true) × ((lends ≡ true) × (result ≡ true))
      parts =
          let p = and_parts first (lends && (result && stack_fits u labels h w z caller st)) stack in
          let r = and_parts lends (result && stack_fits u labels h w z caller st) p.1 in
          (p.0, (r.0, (and_parts result (stack_fits u labels h w z caller st) r.1).0))

      even : length c.vars ≡ length saved
      even = lengths (top_zone w z st) w (calls st) c.vars saved parts.0

      there : (n : ℕ) → into ≡ Some n → n < length saved
      there n e = let s = taker-typed tie (context_of u b.own.routine).result n caller (subst (λ (o : Option ℕ). result_fits u labels h tie (context_of u b.own.routine).result o caller ≡ true) e parts.1.1) in typed-there c saved n s.0 even s.1

      back : (g : Held) → lent ≡ Some g → (y < length saved) × ((a : Value Name) × (g ≡ Some a))
      back g e =
          let s = lent-typed (Base w (suc (zones st))) tie (type_of c y) g (subst (λ (o : Option Held). lent_right u labels h tie (type_of c y) o && lent_fits u labels h (Base w (suc (zones st))) (type_of c y) o ≡ true) e parts.1.0) in
          (typed-there c saved y s.0.0 even s.0.1, s.1)

  -- ---------- joins ----------
  -- a side that went well
  pub record FineLeaf (b : Branch) (vs : List Held) : Type 0 where
    pub close : b.close ≡ None
    pub code : b.code ≡ End
    pub stack : b.stack ≡ []
    pub vars : b.own.vars ≡ vs

  pub fine-leaf : (b : Branch) (vs : List Held) (n : ℕ) (p : List ℤ) → over (stage b) ≡ Some (Fine vs n p) → FineLeaf b vs
  fine-leaf b vs n p e = by_close b.close refl e
    where
      unturned : {A : Type 0} (t : ℕ) → over (stage_by_turns t b.own) ≡ Some (Fine vs n p) → A
      unturned zero e = absurd (let no : ⊥ = cc e in no)
      unturned (suc t) e = none-some e

      by_code : b.close ≡ None → (c : Code) (st : List (Frame Held)) → b.code ≡ c → b.stack ≡ st → over (stage_by_code c st b.turns b.own) ≡ Some (Fine vs n p) → FineLeaf b vs
      by_code k End [] q r e = record { close = k; code = q; stack = r; vars = let z : b.own.vars ≡ vs = cc e in z }
      by_code k End (g ∷ st) q r e = unturned b.turns e
      by_code k (Give at w x) st q r e = unturned b.turns e
      by_code k (Return at a) st q r e = unturned b.turns e
      by_code k (Do at i rest) st q r e = unturned b.turns e
      by_code k (If at x own1 a own2 d rest) st q r e = unturned b.turns e
      by_code k (While at x own a rest) st q r e = unturned b.turns e
      by_code k (Par at own1 a own2 d rest) st q r e = unturned b.turns e
      by_code k (Recover at x own hides a rest) st q r e = unturned b.turns e

      by_close : (k : Option (Close Held)) → b.close ≡ k → over (stage_from k (stage_by_code b.code b.stack b.turns b.own) b.turns b.own) ≡ Some (Fine vs n p) → FineLeaf b vs
      by_close None q e = by_code q b.code b.stack refl refl e
      by_close (Some (Returning v)) q e = absurd (let no : ⊥ = cc e in no)
      by_close (Some (Failing x)) q e = absurd (let no : ⊥ = cc e in no)

  fine-goes : (hid : List ℕ) (t : Task) (vs : List Held) (n : ℕ) (p : List ℤ) (L : Vars) → final t ≡ Some (Fine vs n p) → TreeGoes u hid t L → L ≡ valued vs
  fine-goes hid (Fork b q l r) vs n p L e goes = none-some e
  fine-goes hid (Leaf b) vs n p L e (inl failed) = absurd (unfine (stage b) e failed)
    where
      unfine : (s : Stage Held) → over s ≡ Some (Fine vs n p) → HasFailed u s → ⊥
      unfine (Over (Failed f t q)) e failed = let no : ⊥ = cc e in no
      unfine (Over (Fine ws t q)) e failed = failed
      unfine (Over (GaveBack v t q)) e failed = failed
      unfine (Due t) e failed = failed
  fine-goes hid (Leaf b) vs n p L e (inr goes) =
      let is = fine-leaf b vs n p e in
      subst (λ (c : Code). RestGoes u hid b.own.routine c [] (valued b.own.vars) L) is.code (subst (λ (st : List (Frame Held)). RestGoes u hid b.own.routine b.code st (valued b.own.vars) L) is.stack goes) ∙ ap valued is.vars

  fine-length : (at : Way → Way) (z : Zone) (m : ℕ) (t : Task) (vs : List Held) (n : ℕ) (p : List ℤ) → final t ≡ Some (Fine vs n p) → tree_fits u labels h at z t ≡ true → stands_in m t ≡ true → length (context_of u m).vars ≡ length vs
  fine-length at z m (Fork b q l r) vs n p e fit stand = none-some e
  fine-length at z m (Leaf b) vs n p e fit stand =
      let is = fine-leaf b vs n p e in
      let held : Bool = variables_fit u labels h (top_zone (at Here) z b.stack) (at Here) (calls b.stack) 0 (context_of u b.own.routine).vars b.own.vars in
      let vars = and_parts held (stack_fits u labels h (at Here) z b.own.routine b.stack) (sym (ap (λ c. has_end u labels h c || (held && stack_fits u labels h (at Here) z b.own.routine b.stack)) is.close) ∙ fit) in
      let routine : b.own.routine ≡ m = eq-true b.own.routine m (ap (λ (st : List (Frame Held)). nat_eq (lowest b.own.routine st) m) (sym is.stack) ∙ (sym (ap (λ c. not (is_open c) || nat_eq (lowest b.own.routine b.stack) m) is.close) ∙ stand)) in
      ap (λ n. length (context_of u n).vars) (sym routine) ∙ lengths (top_zone (at Here) z b.stack) (at Here) (calls b.stack) (context_of u b.own.routine).vars b.own.vars vars.0 ∙ ap length is.vars

  -- no side gives back a value
  pub gave-none : (t : Task) (v : Held) (n : ℕ) (p : List ℤ) → final t ≡ Some (GaveBack v n p) → tree_ends ByNothing t ≡ true → ⊥
  gave-none (Fork b q l r) v n p e ends = none-some e
  gave-none (Leaf b) v n p e ends = by_close b.close e ends
    where
      unturned : (t : ℕ) → over (stage_by_turns t b.own) ≡ Some (GaveBack v n p) → ⊥
      unturned zero e = let no : ⊥ = cc e in no
      unturned (suc t) e = none-some e

      by_code : (c : Code) (st : List (Frame Held)) → over (stage_by_code c st b.turns b.own) ≡ Some (GaveBack v n p) → ⊥
      by_code End [] e = let no : ⊥ = cc e in no
      by_code End (g ∷ st) e = unturned b.turns e
      by_code (Give at w x) st e = unturned b.turns e
      by_code (Return at a) st e = unturned b.turns e
      by_code (Do at i rest) st e = unturned b.turns e
      by_code (If at x own1 a own2 d rest) st e = unturned b.turns e
      by_code (While at x own a rest) st e = unturned b.turns e
      by_code (Par at own1 a own2 d rest) st e = unturned b.turns e
      by_code (Recover at x own hides a rest) st e = unturned b.turns e

      by_close : (k : Option (Close Held)) → over (stage_from k (stage_by_code b.code b.stack b.turns b.own) b.turns b.own) ≡ Some (GaveBack v n p) → branch_ends ByNothing k b.code b.stack ≡ true → ⊥
      by_close None e ends = by_code b.code b.stack e
      by_close (Some (Returning w)) e ends = let no : ⊥ = cc ends in no
      by_close (Some (Failing x)) e ends = let no : ⊥ = cc e in no

  -- what a tree must have so that its code goes on after a join or a turn
  pub record Premises (k : Ending) (below : List ℕ) (at : Way → Way) (z : Zone) (t : Task) : Type 0 where
    pub variables : tree_fits u labels h at z t ≡ true
    pub stand : sides_stand t ≡ true
    pub ends : tree_ends k t ≡ true
    pub right : tree_right u t ≡ true
    pub hidden : tree_hidden below t ≡ true

  -- the sides of a tree have it too
  pub left-premises : (k : Ending) (below : List ℕ) (at : Way → Way) (z : Zone) (b : Branch) (p : Blocks) (l r : Task) → Premises k below at z (Fork b p l r)
      → Premises ByNothing (hidden_above below b.stack) (λ w. at (GoL w)) (left_zone (mode_in u b.own.routine p) (at (GoL Here)) (top_zone (at Here) z b.stack)) l
  left-premises k below at z b p l r is =
      let hid = hidden_above below b.stack in
      let f = and_parts (branch_fits u labels h (at Here) z b) (tree_fits u labels h (λ w. at (GoL w)) (left_zone (mode_in u b.own.routine p) (at (GoL Here)) (top_zone (at Here) z b.stack)) l && tree_fits u labels h (λ w. at (GoR w)) (right_zone (mode_in u b.own.routine p) (at (GoR Here)) (top_zone (at Here) z b.stack)) r) is.variables in
      record {
        variables = (and_parts (tree_fits u labels h (λ w. at (GoL w)) (left_zone (mode_in u b.own.routine p) (at (GoL Here)) (top_zone (at Here) z b.stack)) l) (tree_fits u labels h (λ w. at (GoR w)) (right_zone (mode_in u b.own.routine p) (at (GoR Here)) (top_zone (at Here) z b.stack)) r) f.1).0;
        stand = (and_parts (sides_stand l) (sides_stand r) (and_parts (stands_in b.own.routine l && stands_in b.own.routine r) (sides_stand l && sides_stand r) is.stand).1).0;
        ends = (and_parts (tree_ends ByNothing l) (tree_ends ByNothing r) (and_parts (is_open b.close && stack_ends k b.code b.stack) (tree_ends ByNothing l && tree_ends ByNothing r) is.ends).1).0;
        right = (and_parts (tree_right u l) (tree_right u r) (and_parts (stack_right u b.own.routine b.code b.stack (plus (valued b.own.vars) (plus (mentions_l p) (mentions_r p)))) (tree_right u l && tree_right u r) is.right).1).0;
        hidden = (and_parts (tree_hidden hid l) (tree_hidden hid r) (and_parts (branch_hidden below b) (tree_hidden hid l && tree_hidden hid r) is.hidden).1).0;
      }

  pub right-premises : (k : Ending) (below : List ℕ) (at : Way → Way) (z : Zone) (b : Branch) (p : Blocks) (l r : Task) → Premises k below at z (Fork b p l r)
      → Premises ByNothing (hidden_above below b.stack) (λ w. at (GoR w)) (right_zone (mode_in u b.own.routine p) (at (GoR Here)) (top_zone (at Here) z b.stack)) r
  right-premises k below at z b p l r is =
      let hid = hidden_above below b.stack in
      let f = and_parts (branch_fits u labels h (at Here) z b) (tree_fits u labels h (λ w. at (GoL w)) (left_zone (mode_in u b.own.routine p) (at (GoL Here)) (top_zone (at Here) z b.stack)) l && tree_fits u labels h (λ w. at (GoR w)) (right_zone (mode_in u b.own.routine p) (at (GoR Here)) (top_zone (at Here) z b.stack)) r) is.variables in
      record {
        variables = (and_parts (tree_fits u labels h (λ w. at (GoL w)) (left_zone (mode_in u b.own.routine p) (at (GoL Here)) (top_zone (at Here) z b.stack)) l) (tree_fits u labels h (λ w. at (GoR w)) (right_zone (mode_in u b.own.routine p) (at (GoR Here)) (top_zone (at Here) z b.stack)) r) f.1).1;
        stand = (and_parts (sides_stand l) (sides_stand r) (and_parts (stands_in b.own.routine l && stands_in b.own.routine r) (sides_stand l && sides_stand r) is.stand).1).1;
        ends = (and_parts (tree_ends ByNothing l) (tree_ends ByNothing r) (and_parts (is_open b.close && stack_ends k b.code b.stack) (tree_ends ByNothing l && tree_ends ByNothing r) is.ends).1).1;
        right = (and_parts (tree_right u l) (tree_right u r) (and_parts (stack_right u b.own.routine b.code b.stack (plus (valued b.own.vars) (plus (mentions_l p) (mentions_r p)))) (tree_right u l && tree_right u r) is.right).1).1;
        hidden = (and_parts (tree_hidden hid l) (tree_hidden hid r) (and_parts (branch_hidden below b) (tree_hidden hid l && tree_hidden hid r) is.hidden).1).1;
      }

  failed-goes : {P : Vars → Type 0} (H : Vars) → P H → Further P H
  failed-goes H goes = record { ends = H; goes = goes; more = same-within H }

  resumed-goes : (k : Ending) (below : List ℕ) (at : Way → Way) (z : Zone) (b : Branch) (p : Blocks) (l r : Task) (x y : Final Held) (H : Vars) → Premises k below at z (Fork b p l r) → final l ≡ Some x → final r ≡ Some y → TreeGoes u below (Fork b p l r) H
      → Further (λ L. TreeGoes u below (resumed (core u) b (join_of (core u) b p x y)) L) H
  resumed-goes k below at z b p l r x y H is left right goes = go x y left right
    where
      m : ℕ
      m = b.own.routine

      lp : Premises ByNothing (hidden_above below b.stack) (λ w. at (GoL w)) (left_zone (mode_in u b.own.routine p) (at (GoL Here)) (top_zone (at Here) z b.stack)) l
      lp = left-premises k below at z b p l r is

      rp : Premises ByNothing (hidden_above below b.stack) (λ w. at (GoR w)) (right_zone (mode_in u b.own.routine p) (at (GoR Here)) (top_zone (at Here) z b.stack)) r
      rp = right-premises k below at z b p l r is

      stands : (stands_in m l ≡ true) × (stands_in m r ≡ true)
      stands = and_parts (stands_in m l) (stands_in m r) (and_parts (stands_in m l && stands_in m r) (sides_stand l && sides_stand r) is.stand).0

      none : b.close ≡ None
      none = closed b.close (and_parts (is_open b.close) (stack_ends k b.code b.stack) (and_parts (is_open b.close && stack_ends k b.code b.stack) (tree_ends ByNothing l && tree_ends ByNothing r) is.ends).0).0
        where
          closed : (x : Option (Close Held)) → is_open x ≡ true → x ≡ None
          closed None q = refl
          closed (Some f) q = absurd (let no : ⊥ = cc q in no)

      even : length (context_of u m).vars ≡ length b.own.vars
      even =
          let held : Bool = variables_fit u labels h (top_zone (at Here) z b.stack) (at Here) (calls b.stack) 0 (context_of u m).vars b.own.vars in
          let stack : Bool = stack_fits u labels h (at Here) z m b.stack in
          let fit : (has_end u labels h b.close || (held && stack)) ≡ true = (and_parts (branch_fits u labels h (at Here) z b) (tree_fits u labels h (λ w. at (GoL w)) (left_zone (mode_in u b.own.routine p) (at (GoL Here)) (top_zone (at Here) z b.stack)) l && tree_fits u labels h (λ w. at (GoR w)) (right_zone (mode_in u b.own.routine p) (at (GoR Here)) (top_zone (at Here) z b.stack)) r) is.variables).0 in
          lengths (top_zone (at Here) z b.stack) (at Here) (calls b.stack) (context_of u m).vars b.own.vars (and_parts held stack (sym (ap (λ c. has_end u labels h c || (held && stack)) none) ∙ fit)).0

      go : (x y : Final Held) → final l ≡ Some x → final r ≡ Some y → Further (λ L. TreeGoes u below (resumed (core u) b (join_of (core u) b p x y)) L) H
      go (Fine ls t q) (Fine rs n s) i j =
          let even_l = sym (fine-length (λ w. at (GoL w)) _ m l ls t q i lp.variables stands.0) ∙ even in
          let even_r = sym (fine-length (λ w. at (GoR w)) _ m r rs n s j rp.variables stands.1) ∙ even in
          let live_l = fine-goes (hidden_above below b.stack) l ls t q goes.0 i goes.2 in
          let live_r = fine-goes (hidden_above below b.stack) r rs n s goes.1 j goes.3 in
          let vs = (core u).parting.joined m p b.own.vars ls rs in
          let less : IsWithin (live_joined u m p (valued b.own.vars) goes.0 goes.1) (valued vs) = λ e f. merged-has u m p b.own.vars ls rs even_l even_r e (subst (λ (G : Vars). live_joined u m p (valued b.own.vars) (valued ls) G e ≡ true) live_r (subst (λ (G : Vars). live_joined u m p (valued b.own.vars) G goes.1 e ≡ true) live_l f)) in
          let r = rest-more u below m b.code b.stack (live_joined u m p (valued b.own.vars) goes.0 goes.1) H (valued vs) less goes.4 in
          further-more u r.more (settled-goes u below (record b { own = record b.own { printed = _ }; turns = _ }) vs b.code b.stack r.ends r.goes)
      go (Fine ls t q) (GaveBack v n s) i j = absurd (gave-none r v n s j rp.ends)
      go (Fine ls t q) (Failed f n s) i j = failed-goes H (inl tt)
      go (GaveBack v t q) y i j = absurd (gave-none l v t q i lp.ends)
      go (Failed f t q) (Fine rs n s) i j = failed-goes H (inl tt)
      go (Failed f t q) (GaveBack v n s) i j = failed-goes H (inl tt)
      go (Failed f t q) (Failed g n s) i j = failed-goes H (inl tt)

  -- ---------- events ----------
  pub keeps-goes : (accepted : IsAccepted u) (o : Op) (v : Option Held) (answers : (x : Held) → v ≡ Some x → IsAnswer o x) (k : Ending) (below : List ℕ) (at : Way → Way) (z : Zone) (H : Vars) (w : Way) (t after : Task)
      → Premises k below at z t → TreeGoes u below t H → EventAt u o v w t after → GoesOn k (λ L. TreeGoes u below after L) H
  keeps-goes accepted o v answers k below at z H _ _ after is goes (refused_leaf b t _ q open_ same_as) = inl (failed-goes H (subst (λ (e : Task). TreeGoes u below e H) (sym same_as) (inl tt)))
  keeps-goes accepted o v answers k below at z H _ _ after is goes (told_leaf b t x d _ q open_ due turn same_as) =
      let m = b.own.routine in
      let held : Bool = variables_fit u labels h (top_zone (at Here) z b.stack) (at Here) (calls b.stack) 0 (context_of u m).vars b.own.vars in
      let stack : Bool = stack_fits u labels h (at Here) z m b.stack in
      let f = and_parts held stack (sym (ap (λ c. has_end u labels h c || (held && stack)) open_) ∙ is.variables) in
      let hid = and_parts (none_valued (hidden_above below b.stack) b.own.vars) (stack_hidden below b.code b.stack) is.hidden in
      let ending_k = (and_parts (is_settled b.code b.stack) (stack_ends k b.code b.stack) (sym (ap (λ c. branch_ends k c b.code b.stack) open_) ∙ is.ends)).1 in
      subst (λ (e : Task). GoesOn k (λ L. TreeGoes u below e L) H) (sym same_as)
      (turn-goes accepted z (at Here) below k b t x b.code b.stack o d H refl (answers x q) f.0 f.1 ending_k hid.0 hid.1 is.right (unfailed u below b H t due goes) turn)
  keeps-goes accepted o v answers k below at z H _ _ after is goes (joining b p l r x y _ q left right same_as) =
      inl (subst (λ (e : Task). Further (λ L. TreeGoes u below e L) H) (sym same_as) (resumed-goes k below at z b p l r x y H is left right goes))
  keeps-goes accepted o v answers k below at z H _ _ _ is goes (on_left w b p l r after event) =
      inl (goes-left u below b p l after r H (λ A g. on_side (keeps-goes accepted o v answers ByNothing (hidden_above below b.stack) (λ w. at (GoL w)) _ A w l after (left-premises k below at z b p l r is) g event)) goes)
    where
      on_side : {P : Vars → Type 0} {A : Vars} → GoesOn ByNothing P A → Further P A
      on_side (inl f) = f
      on_side (inr f) = absurd (let q = f.0 in let no : ⊥ = cc q in no)
  keeps-goes accepted o v answers k below at z H _ _ _ is goes (on_right w b p l r after event) =
      inl (goes-right u below b p l r after H (λ A g. on_side (keeps-goes accepted o v answers ByNothing (hidden_above below b.stack) (λ w. at (GoR w)) _ A w r after (right-premises k below at z b p l r is) g event)) goes)
    where
      on_side : {P : Vars → Type 0} {A : Vars} → GoesOn ByNothing P A → Further P A
      on_side (inl f) = f
      on_side (inr f) = absurd (let q = f.0 in let no : ⊥ = cc q in no)
