-- After an event the code to come is tied and scoped rightly, by what has a value then.
use Rattle.std.proofs.Common.{◌≡◌, ℕ, suc, ◌+◌, arith, Bool, true, Option, Some, None, List, ◌∷◌, length, refl, sym, ap, subst, ◌∙◌, inl, inr}
use Rattle.std.specs.Prelude.{◌⊎◌, ◌&&◌, ◌||◌, not, nat_eq, ℤ, slice_get}
use Rattle.std.specs.List.{list_any}
use Rattle.std.proofs.lemmas.Bool.{or_cases, or_left, or_right, and_parts}
use Rattle.perm_tree.specs.declared.ast.Shape.{Shape}
use Rattle.perm_tree.specs.Code.{Instruction, Invoke, Code, Give, Return, While, Par, Routine, UnitCode}
use Rattle.perm_tree.specs.Mentions.{any_in_option, any_in_argument, mentions}
use Rattle.perm_tree.specs.Vars.{Vars, just, below, those, plus, minus, meet, IsWithin}
use Rattle.perm_tree.proofs.MentionLaws.{same-within, within-left, within-right, within-both, within-plus, within-minus, block_writes-within}
use Rattle.perm_rules.specs.Goes.{context, first_live}
use Rattle.perm_rules.specs.Scoping.{is_scoped}
use Rattle.perm_meaning.specs.Names.{Mark}
use Rattle.perm_meaning.specs.Expressions.{tagged, assign, assign_into, clear, clear_all}
use Rattle.perm_meaning.specs.Custody.{from_either, merged, only, isolated_in, mentions_l, mentions_r, writes_l, writes_r, back_l, back_r}
use Rattle.perm_meaning.specs.Effects.{first_vars}
use Rattle.perm_meaning.specs.Machine.{Frame, OpenBlock, OpenRecover, OpenCall, Blocks, Way, Final, Fine, GaveBack, Failed, Did, Splits, done, resumed, join_of}
use Rattle.perm_meaning.specs.NamedHeap.{Held, Op, Own, Branch, Task}
use Rattle.perm_meaning.specs.Turns.{lent_back}
use Rattle.perm_meaning.proofs.SameName.{together, eq-true}
use Rattle.perm_core.specs.Core.{core}
use Rattle.perm_core.specs.Marked.{calls_right}
use Rattle.perm_core.specs.Picture.{context_if, context_of, valued, just_lent, just_taken, grown, code_right, stack_right, tree_right}
use Rattle.perm_core.specs.Whole.{IsWhole}
use Rattle.perm_core.proofs.KeepsPicture.Order.ValueSets.{scoped-fewer, stack-fewer}
use Rattle.perm_core.proofs.KeepsPicture.Order.ValuedLists.{assign-within, clear-within, clear_all-within, either-within, into-within, back-within, kept-within, receives-within, acts-within, first-within}
use Rattle.perm_core.proofs.KeepsPicture.Turns.LeafTurns.{Creates, object, array, TurnTo, dying, ending, acting, making, beginning, left_block, right_block, into_loop, out_of_loop, parting, recovering, giving, returning}
use Rattle.perm_core.proofs.KeepsPicture.Trees.TreeEvents.{EventAt, refused_leaf, told_leaf, joining, on_left, on_right}
use Rattle.perm_core.proofs.KeepsPicture.Order.RightCode.{within-then, settled-right, on-right, below-right, do-right, if-right, while-right, opened-right, split-right}

module _ (u : UnitCode) where
  -- ---------- calls ----------
  -- a called method is entered with `this` and its parameters
  method-right : (whole : IsWhole u) (m : ℕ) (r : Routine) (V : Vars) → slice_get u.routines m ≡ Some r → IsWithin V (first_live r) → code_right (context_of u m) r.code V ≡ true
  method-right whole m r V here less =
      let w = whole.routines m r here in
      subst (λ (o : Option Routine). code_right (context_if u o) r.code V ≡ true) (sym here) (together (calls_right (context u r) r.code) (is_scoped (context u r) r.code V) w.calls (scoped-fewer (context u r) r.code V (first_live r) less w.scoped))

  -- ---------- turns ----------
  module _ (whole : IsWhole u) where
    turn-right : (b : Branch) (t : ℕ) (w : Held) (c : Code) (st : List (Frame Held)) (o : Op) (d : Did Held Mark) → st ≡ b.stack → stack_right u b.own.routine c st (valued b.own.vars) ≡ true → TurnTo u b.own w c st o d
        → tree_right u (done (core u) b t d) ≡ true
    turn-right b t w _ _ _ _ here e (dying c st f) = refl
    turn-right b t w _ _ _ _ here e (ending at a v q) = refl
    turn-right b t w _ _ _ _ here e (acting at i rest st o vs l acts stays) =
        on-right u b l t b.own.routine vs rest st stays.vars stays.routine (do-right u b.own.routine at i rest st (valued b.own.vars) (valued vs) (acts-within u b.own w i o vs acts) e)
    turn-right b t w _ _ _ _ here e (making at i rest st shape n x l is q) =
        on-right u b l t b.own.routine (assign b.own.vars x w) rest st (ap (λ (z : Own). z.vars) q) (ap (λ (z : Own). z.routine) q)
        (do-right u b.own.routine at i rest st (valued b.own.vars) (valued (assign b.own.vars x w)) (within-then (assign-within b.own.vars x w) (within-plus (valued b.own.vars) (valued b.own.vars) (just x) (mentions i) (same-within (valued b.own.vars)) (stands i shape n x is))) e)
      where
        stands : (i : Instruction) (shape : Shape) (n x : ℕ) → Creates u b.own i shape n x → IsWithin (just x) (mentions i)
        stands _ _ _ _ (object x c ts q) y e = e
        stands _ _ _ _ (array x t n) y e = or_left (nat_eq y x) _ e
    turn-right b t w _ _ _ _ here e (beginning at rest st into tie consumed y m args r this found vs saved lent l c caller is code q1 q2 q3 goes) =
        on-right u b l t m (first_vars tagged r this found) c (OpenCall tie into y saved lent caller rest ∷ st) goes.vars goes.routine
        (together (code_right (context_of u m) c V) (true && stack_right u caller rest st G)
        (subst (λ (z : Code). code_right (context_of u m) z V ≡ true) (sym code) (method-right whole m r V is.here entered))
        (subst (λ (n : ℕ). stack_right u n rest st G ≡ true) (sym q3) (do-right u b.own.routine at (Invoke into tie consumed y m args) rest st (valued b.own.vars) G kept e)))
      where
        V : Vars
        V = valued (first_vars tagged r this found)

        G : Vars
        G = plus (valued saved) (plus (just_lent lent y) (just_taken into))

        even : length found ≡ length r.params
        even = eq-true (length found) (length r.params) is.even

        entered : IsWithin V (first_live r)
        entered x e =
            let next : suc (length found) ≡ 1 + length r.params = omega (arith, even) in
            subst (λ n. below n x ≡ true) next (first-within this found _ x e)

        lent-y : IsWithin (just_lent lent y) (just y)
        lent-y x e = go lent e
          where
            go : (o : Option Held) → just_lent o y x ≡ true → just y x ≡ true
            go None e = absurd (let no : ⊥ = cc e in no)
            go (Some v) e = e

        taken : IsWithin (just_taken into) (λ x. any_in_option (nat_eq x) into)
        taken x e = go into e
          where
            go : (o : Option ℕ) → just_taken o x ≡ true → any_in_option (nat_eq x) o ≡ true
            go None e = e
            go (Some z) e = e

        kept : IsWithin G (plus (valued b.own.vars) (mentions (Invoke into tie consumed y m args)))
        kept =
            let M : Vars = mentions (Invoke into tie consumed y m args) in
            within-both _ _ _ (within-left _ (valued b.own.vars) M (subst (λ (ws : List Held). IsWithin (valued ws) (valued b.own.vars)) (sym q1) (within-then (kept-within tie y vs) (receives-within u b.own consumed y args this found vs is.receives))))
            (within-right _ (valued b.own.vars) M (within-both _ _ _ (λ x e. or_right (any_in_option (nat_eq x) into) (nat_eq x y || list_any (any_in_argument (nat_eq x)) args) (or_left (nat_eq x y) (list_any (any_in_argument (nat_eq x)) args) (lent-y x e)))
            (λ x e. or_left (any_in_option (nat_eq x) into) (nat_eq x y || list_any (any_in_argument (nat_eq x)) args) (taken x e))))
    turn-right b t w _ _ _ _ here e (left_block at x own1 a own2 a2 rest st) = on-right u b b.own t b.own.routine b.own.vars a (OpenBlock own1 rest ∷ st) refl refl (if-right u b.own.routine at x own1 a own2 a2 rest st (valued b.own.vars) e).0
    turn-right b t w _ _ _ _ here e (right_block at x own1 a own2 a2 rest st) = on-right u b b.own t b.own.routine b.own.vars a2 (OpenBlock own2 rest ∷ st) refl refl (if-right u b.own.routine at x own1 a own2 a2 rest st (valued b.own.vars) e).1
    turn-right b t w _ _ _ _ here e (into_loop at x own body rest st) =
        on-right u b b.own t b.own.routine b.own.vars body (OpenBlock own (While at x own body rest) ∷ st) refl refl (while-right u b.own.routine at x own body rest st (valued b.own.vars) e).0
    turn-right b t w _ _ _ _ here e (out_of_loop at x own body rest st) = on-right u b b.own t b.own.routine b.own.vars rest st refl refl (while-right u b.own.routine at x own body rest st (valued b.own.vars) e).1
    turn-right b t w _ _ _ _ here e (parting at own1 a own2 a2 rest st p q) =
        ap (λ (x : Blocks). tree_right u (done (core u) b t (Splits x rest))) q ∙ split-right u b t at own1 a own2 a2 rest (subst (λ (z : List (Frame Held)). stack_right u b.own.routine (Par at own1 a own2 a2 rest) z (valued b.own.vars) ≡ true) here e)
    turn-right b t w _ _ _ _ here e (recovering at x own hides body rest st l saved goes q) =
        on-right u b l t b.own.routine (only tagged (λ y. not (those hides y)) b.own.vars) body (OpenRecover own hides saved rest ∷ st) goes.vars goes.routine
        (subst (λ (ws : List Held). stack_right u b.own.routine body (OpenRecover own hides ws rest ∷ st) (valued (only tagged (λ y. not (those hides y)) b.own.vars)) ≡ true) (sym q)
        (opened-right u b.own.routine at x own hides body rest st b.own.vars e))
    turn-right b t w _ _ _ _ here e (giving at y x own hides saved rest st v l had q goes) =
        on-right u b l t b.own.routine (assign (from_either (those hides) saved (clear_all tagged (clear tagged b.own.vars y) own)) x v) rest st goes.vars goes.routine
        (stack-fewer u b.own.routine rest st (valued (assign (from_either (those hides) saved (clear_all tagged (clear tagged b.own.vars y) own)) x v)) (grown (OpenRecover own hides saved rest) (Give at y x) (valued b.own.vars)) less
        (below-right u b.own.routine (Give at y x) (OpenRecover own hides saved rest) st (valued b.own.vars) e))
      where
        U : Vars
        U = valued b.own.vars

        ws : List Held
        ws = clear_all tagged (clear tagged b.own.vars y) own

        stay : IsWithin (valued ws) (minus (plus U (plus (just y) (just x))) (those own))
        stay = within-then (clear_all-within (clear tagged b.own.vars y) own) (within-minus (valued (clear tagged b.own.vars y)) (plus U (plus (just y) (just x))) (those own) (within-left _ U (plus (just y) (just x)) (clear-within b.own.vars y)))

        less : IsWithin (valued (assign (from_either (those hides) saved ws) x v)) (plus (minus (plus U (plus (just y) (just x))) (those own)) (plus (valued saved) (just x)))
        less =
            let inner : Vars = minus (plus U (plus (just y) (just x))) (those own) in
            within-then (assign-within (from_either (those hides) saved ws) x v)
            (within-both _ _ _ (within-then (either-within (those hides) saved ws)
            (within-both _ _ _ (λ z m. or_right (inner z) (plus (valued saved) (just x) z) (or_left (valued saved z) (just x z) (and_parts (those hides z) (valued saved z) m).1))
            (λ z m. or_left (inner z) (plus (valued saved) (just x) z) (stay z (and_parts (valued ws z) (not (those hides z)) m).0))))
            (within-right _ inner (plus (valued saved) (just x)) (within-right (just x) (valued saved) (just x) (same-within (just x)))))
    turn-right b t w _ _ _ _ here e (returning at a tie into y saved lent caller rest st v l q goes) =
        on-right u b l t caller (assign_into (lent_back lent y saved) into v) rest st goes.vars goes.routine
        (stack-fewer u caller rest st (valued (assign_into (lent_back lent y saved) into v)) (plus (valued saved) (plus (just_lent lent y) (just_taken into))) less
        (below-right u b.own.routine (Return at a) (OpenCall tie into y saved lent caller rest) st (valued b.own.vars) e))
      where
        less : IsWithin (valued (assign_into (lent_back lent y saved) into v)) (plus (valued saved) (plus (just_lent lent y) (just_taken into)))
        less =
            within-then (into-within (lent_back lent y saved) into v)
            (within-both _ _ _ (within-then (back-within lent y saved) (within-plus (valued saved) (valued saved) (just_lent lent y) (plus (just_lent lent y) (just_taken into)) (same-within (valued saved)) (within-left (just_lent lent y) (just_lent lent y) (just_taken into) (same-within (just_lent lent y)))))
            (within-right _ (valued saved) (plus (just_lent lent y) (just_taken into)) (within-right (just_taken into) (just_lent lent y) (just_taken into) (same-within (just_taken into)))))

    -- ---------- joins ----------
    -- what has a value after a join had one or stands in a side
    merged-within : (m : ℕ) (p : Blocks) (vs ls rs : List Held) → IsWithin (valued (merged (back_l u m p) (back_r u m p) vs ls rs)) (plus (valued vs) (plus (mentions_l p) (mentions_r p)))
    merged-within m p vs ls rs =
        let N : Vars = plus (mentions_l p) (mentions_r p) in
        within-then (either-within (back_r u m p) rs (from_either (back_l u m p) ls vs))
        (within-both _ _ _ (λ y q. or_right (valued vs y) (N y) (or_right (mentions_l p y) (mentions_r p y) (back (writes_r p) (mentions_r p) (block_writes-within p.own_r p.right) y (and_parts (back_r u m p y) (valued rs y) q).0)))
        (λ y q. inner y (either-within (back_l u m p) ls vs y (and_parts (valued (from_either (back_l u m p) ls vs) y) (not (back_r u m p y)) q).0)))
      where
        back : (W N : Vars) → IsWithin W N → (y : ℕ) → plus W (meet (isolated_in u m) N) y ≡ true → N y ≡ true
        back W N less y e = pick (or_cases (W y) (isolated_in u m y && N y) e)
          where
            pick : (W y ≡ true) ⊎ (isolated_in u m y && N y ≡ true) → N y ≡ true
            pick (inl q) = less y q
            pick (inr q) = (and_parts (isolated_in u m y) (N y) q).1

        inner : (y : ℕ) → plus (meet (back_l u m p) (valued ls)) (minus (valued vs) (back_l u m p)) y ≡ true → plus (valued vs) (plus (mentions_l p) (mentions_r p)) y ≡ true
        inner y e = pick (or_cases (back_l u m p y && valued ls y) (valued vs y && not (back_l u m p y)) e)
          where
            N : Vars
            N = plus (mentions_l p) (mentions_r p)

            pick : (back_l u m p y && valued ls y ≡ true) ⊎ (valued vs y && not (back_l u m p y) ≡ true) → plus (valued vs) N y ≡ true
            pick (inl q) = or_right (valued vs y) (N y) (or_left (mentions_l p y) (mentions_r p y) (back (writes_l p) (mentions_l p) (block_writes-within p.own_l p.left) y (and_parts (back_l u m p y) (valued ls y) q).0))
            pick (inr q) = or_left (valued vs y) (N y) (and_parts (valued vs y) (not (back_l u m p y)) q).0

    resumed-right : (b : Branch) (p : Blocks) (x y : Final Held) → stack_right u b.own.routine b.code b.stack (plus (valued b.own.vars) (plus (mentions_l p) (mentions_r p))) ≡ true → tree_right u (resumed (core u) b (join_of (core u) b p x y)) ≡ true
    resumed-right b p x y e = go x y
      where
        N : Vars
        N = plus (mentions_l p) (mentions_r p)

        on : (vs : List Held) (t : ℕ) (q : List ℤ) → IsWithin (valued vs) (plus (valued b.own.vars) N) → tree_right u (resumed (core u) b (Fine vs t q)) ≡ true
        on vs t q less =
            settled-right u (record b { own = record b.own { printed = q }; turns = t }) vs b.code b.stack (stack-fewer u b.own.routine b.code b.stack (valued vs) (plus (valued b.own.vars) N) less e)

        go : (x y : Final Held) → tree_right u (resumed (core u) b (join_of (core u) b p x y)) ≡ true
        go (Fine ls t q) (Fine rs n s) = on _ _ _ (merged-within b.own.routine p b.own.vars ls rs)
        go (Fine ls t q) (GaveBack v n s) = on _ _ _ (within-left (valued b.own.vars) (valued b.own.vars) N (same-within (valued b.own.vars)))
        go (Fine ls t q) (Failed f n s) = refl
        go (GaveBack v t q) (Fine rs n s) = on _ _ _ (within-left (valued b.own.vars) (valued b.own.vars) N (same-within (valued b.own.vars)))
        go (GaveBack v t q) (GaveBack v2 n s) = on _ _ _ (within-left (valued b.own.vars) (valued b.own.vars) N (same-within (valued b.own.vars)))
        go (GaveBack v t q) (Failed f n s) = refl
        go (Failed f t q) (Fine rs n s) = refl
        go (Failed f t q) (GaveBack v n s) = refl
        go (Failed f t q) (Failed g n s) = refl

    -- ---------- events ----------
    pub keeps-right : (o : Op) (v : Option Held) (w : Way) (t after : Task) → tree_right u t ≡ true → EventAt u o v w t after → tree_right u after ≡ true
    keeps-right o v _ _ after e (refused_leaf b t _ q open_ is) = ap (tree_right u) is
    keeps-right o v _ _ after e (told_leaf b t w d _ q open_ due turn is) = ap (tree_right u) is ∙ turn-right b t w b.code b.stack o d refl e turn
    keeps-right o v _ _ after e (joining b p l r x y _ q ended_l ended_r is) =
        ap (tree_right u) is ∙ resumed-right b p x y (and_parts (stack_right u b.own.routine b.code b.stack (plus (valued b.own.vars) (plus (mentions_l p) (mentions_r p)))) (tree_right u l && tree_right u r) e).0
    keeps-right o v _ _ _ e (on_left w b p l r after is) =
        let top : Bool = stack_right u b.own.routine b.code b.stack (plus (valued b.own.vars) (plus (mentions_l p) (mentions_r p))) in
        let q = and_parts top (tree_right u l && tree_right u r) e in
        let s = and_parts (tree_right u l) (tree_right u r) q.1 in
        together top (tree_right u after && tree_right u r) q.0 (together (tree_right u after) (tree_right u r) (keeps-right o v w l after s.0 is) s.1)
    keeps-right o v _ _ _ e (on_right w b p l r after is) =
        let top : Bool = stack_right u b.own.routine b.code b.stack (plus (valued b.own.vars) (plus (mentions_l p) (mentions_r p))) in
        let q = and_parts top (tree_right u l && tree_right u r) e in
        let s = and_parts (tree_right u l) (tree_right u r) q.1 in
        together top (tree_right u l && tree_right u after) q.0 (together (tree_right u l) (tree_right u after) s.0 (keeps-right o v w r after s.1 is))
