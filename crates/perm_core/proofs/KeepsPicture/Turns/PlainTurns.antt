-- Turns that change no label: a branch that fails or ends, that enters or leaves a block or a loop, that enters a recover block, that declares, or that prints. Its variables fit after it.
use Rattle.std.proofs.Common.{◌≡◌, ℕ, suc, Bool, true, false, Some, List, [], ◌∷◌, length, refl, sym, ap, subst, ◌∙◌}
use Rattle.std.specs.Prelude.{◌&&◌, ◌||◌, not, slice_get}
use Rattle.std.proofs.lemmas.Bool.{and_parts}
use Rattle.perm_tree.specs.declared.ast.Perm.{Perm}
use Rattle.perm_tree.specs.declared.ast.Perm.TheVariants.{Isolated, Immutable, Readable, Writable}
use Rattle.perm_tree.specs.declared.ast.Shape.{Shape}
use Rattle.perm_tree.specs.declared.ast.Span.{Span}
use Rattle.perm_tree.specs.declared.ast.Ty.{Ty}
use Rattle.perm_tree.specs.declared.ast.Ty.TheVariants.{Ref}
use Rattle.perm_tree.specs.CodeNames.{is_tied}
use Rattle.perm_tree.specs.Code.{Instruction, Declare, Print, Code, End, Give, Return, Do, If, While, Par, Recover, UnitCode}
use Rattle.perm_tree.specs.Mentions.{block_mentions}
use Rattle.perm_tree.specs.Vars.{Vars, just, those, plus, minus, meet}
use Rattle.perm_rules.specs.Parts.{Context, type_of, if_known}
use Rattle.perm_rules.specs.Pars.{tied_vars, some_var}
use Rattle.perm_rules.specs.Scoping.{given, has_none, hides_tied, is_scoped}
use Rattle.perm_meaning.specs.Values.{Value}
use Rattle.perm_meaning.specs.Names.{Name, Mark}
use Rattle.perm_meaning.specs.Objects.{Objects}
use Rattle.perm_meaning.specs.Expressions.{tagged, clear, clear_all}
use Rattle.perm_meaning.specs.Custody.{only}
use Rattle.perm_meaning.specs.Machine.{Frame, OpenBlock, OpenRecover, OpenCall, Way, Here, Did, On, settled, done}
use Rattle.perm_meaning.specs.NamedHeap.{Held, Op, Own, Branch}
use Rattle.perm_meaning.proofs.SameName.{together}
use Rattle.perm_core.specs.Core.{core}
use Rattle.perm_core.specs.Marked.{calls_right}
use Rattle.perm_core.specs.Regions.{Zone, Base, Region, OfVariable, Labels, var_may_lead, calls, zones, top_zone}
use Rattle.perm_core.specs.Picture.{context_of, value_fits, variables_fit, stack_fits, has_end, branch_fits, tree_fits, has_value, valued, stack_right}
use Rattle.perm_core.proofs.KeepsPicture.Calls.CallEnds.{set-length, nothing-below, get-less}
use Rattle.perm_core.proofs.KeepsPicture.Labels.CarriedValues.{AllFit, to-all, from-all}
use Rattle.perm_core.proofs.KeepsPicture.Calls.Gives.{clear-cases, clear_all-cases, clear_all-length}
use Rattle.perm_core.proofs.KeepsPicture.Turns.LeafTurns.{Acts, declares, assigns, loads, measures, reads, takes, stores, writes, prints, Creates, object, array, TurnTo, dying, ending, acting, making, beginning, left_block, right_block, into_loop, out_of_loop, parting, recovering, giving, returning}
use Rattle.perm_core.proofs.KeepsPicture.Pars.ParStarts.{only-cases, only-length}
use Rattle.perm_core.proofs.KeepsPicture.Labels.Relabellings.{value-carry}
use Rattle.perm_core.proofs.KeepsPicture.Order.RightCode.{top-right}

module _ (u : UnitCode) (labels : Labels) (h : Objects Name) where
  -- ---------- fewer values ----------
  -- where there are no other values than before, and as many variables, they fit
  pub fewer-fit : (z : Zone) (w : Way) (k : ℕ) (ts : List Ty) (vs ws : List Held) → length ws ≡ length vs → ((x : ℕ) (a : Value Name) → slice_get ws x ≡ Some (Some a) → slice_get vs x ≡ Some (Some a))
      → variables_fit u labels h z w k 0 ts vs ≡ true → variables_fit u labels h z w k 0 ts ws ≡ true
  fewer-fit z w k ts vs ws even old e =
      let d = to-all u labels h z w k ts vs e in
      from-all u labels h z w k ts ws (record { lengths = d.lengths ∙ sym even; each = λ x t a is has. d.each x t a is (old x a has) })

  -- what isn't tied fits in any zone
  untied-zone : (z y : Zone) (w : Way) (k x : ℕ) (t : Ty) (a : Value Name) → is_tied t ≡ false → value_fits h (λ p n. var_may_lead p (OfVariable w k x) z (labels n)) t a ≡ true → value_fits h (λ p n. var_may_lead p (OfVariable w k x) y (labels n)) t a ≡ true
  untied-zone z y w k x t a free e =
      value-carry h (λ p n. var_may_lead p (OfVariable w k x) z (labels n)) (λ p n. var_may_lead p (OfVariable w k x) y (labels n)) t a (λ p s n is q. leads p s (labels n) (ap is_tied (sym is) ∙ free) q) e
    where
      leads : (p : Perm) (s : Shape) (r : Region) → is_tied (Ref p s) ≡ false → var_may_lead p (OfVariable w k x) z r ≡ true → var_may_lead p (OfVariable w k x) y r ≡ true
      leads Isolated s r e q = q
      leads Immutable s r e q = q
      leads Readable s r e q = absurd (let no : ⊥ = cc e in no)
      leads Writable s r e q = absurd (let no : ⊥ = cc e in no)

  -- ---------- a branch that goes on ----------
  or-right : (a b : Bool) → b ≡ true → (a || b) ≡ true
  or-right true b e = refl
  or-right false b e = e

  pub whole : (w : Way) (z : Zone) (b : Branch) → variables_fit u labels h (top_zone w z b.stack) w (calls b.stack) 0 (context_of u b.own.routine).vars b.own.vars ≡ true → stack_fits u labels h w z b.own.routine b.stack ≡ true → branch_fits u labels h w z b ≡ true
  whole w z b vars stack = or-right (has_end u labels h b.close) _ (together (variables_fit u labels h (top_zone w z b.stack) w (calls b.stack) 0 (context_of u b.own.routine).vars b.own.vars) (stack_fits u labels h w z b.own.routine b.stack) vars stack)

  pub settled-fits : (w : Way) (z : Zone) (b : Branch) (vs : List Held) (c : Code) (st : List (Frame Held)) → variables_fit u labels h (top_zone w z st) w (calls st) 0 (context_of u b.own.routine).vars vs ≡ true → stack_fits u labels h w z b.own.routine st ≡ true
      → branch_fits u labels h w z (settled (core u) b vs c st) ≡ true
  settled-fits w z b vs End (OpenBlock own rest ∷ st) vars stack =
      settled-fits w z b (clear_all tagged vs own) rest st
      (fewer-fit (top_zone w z st) w (calls st) (context_of u b.own.routine).vars vs (clear_all tagged vs own) (clear_all-length own vs) (λ x a e. (clear_all-cases own vs x a e).1) vars) stack
  settled-fits w z b vs End [] vars stack = whole w z (settled (core u) b vs End []) vars stack
  settled-fits w z b vs End (OpenRecover own hides saved rest ∷ st) vars stack = whole w z (settled (core u) b vs End (OpenRecover own hides saved rest ∷ st)) vars stack
  settled-fits w z b vs End (OpenCall tie into y saved lent caller rest ∷ st) vars stack = whole w z (settled (core u) b vs End (OpenCall tie into y saved lent caller rest ∷ st)) vars stack
  settled-fits w z b vs (Give at y x) st vars stack = whole w z (settled (core u) b vs (Give at y x) st) vars stack
  settled-fits w z b vs (Return at a) st vars stack = whole w z (settled (core u) b vs (Return at a) st) vars stack
  settled-fits w z b vs (Do at i rest) st vars stack = whole w z (settled (core u) b vs (Do at i rest) st) vars stack
  settled-fits w z b vs (If at x own1 a own2 d rest) st vars stack = whole w z (settled (core u) b vs (If at x own1 a own2 d rest) st) vars stack
  settled-fits w z b vs (While at x own a rest) st vars stack = whole w z (settled (core u) b vs (While at x own a rest) st) vars stack
  settled-fits w z b vs (Par at own1 a own2 d rest) st vars stack = whole w z (settled (core u) b vs (Par at own1 a own2 d rest) st) vars stack
  settled-fits w z b vs (Recover at x own hides a rest) st vars stack = whole w z (settled (core u) b vs (Recover at x own hides a rest) st) vars stack

  -- a branch that goes on with these variables in this method
  pub on-fits : (w : Way) (z : Zone) (b : Branch) (l : Own) (t m : ℕ) (vs : List Held) (c : Code) (st : List (Frame Held)) → l.vars ≡ vs → l.routine ≡ m
      → variables_fit u labels h (top_zone w z st) w (calls st) 0 (context_of u m).vars vs ≡ true → stack_fits u labels h w z m st ≡ true → (at : Way → Way) → at Here ≡ w → tree_fits u labels h at z (done (core u) b t (On l c st)) ≡ true
  on-fits w z b l t m vs c st same_vars routine vars stack at here =
      subst (λ (v : Way). branch_fits u labels h v z (settled (core u) (record b { own = l; turns = t }) l.vars c st) ≡ true) (sym here)
      (settled-fits w z (record b { own = l; turns = t }) l.vars c st
      (subst (λ (n : ℕ). variables_fit u labels h (top_zone w z st) w (calls st) 0 (context_of u n).vars l.vars ≡ true) (sym routine) (subst (λ (ws : List Held). variables_fit u labels h (top_zone w z st) w (calls st) 0 (context_of u m).vars ws ≡ true) (sym same_vars) vars))
      (subst (λ (n : ℕ). stack_fits u labels h w z n st ≡ true) (sym routine) stack))

  -- ---------- recover blocks ----------
  -- a variable with a value that isn't hidden isn't tied
  shown-free : (c : Context) (U N : Vars) (hides : List ℕ) (x : ℕ) (t : Ty) → hides_tied c (plus U N) hides ≡ true → type_of c x ≡ Some t → U x ≡ true → those hides x ≡ false → is_tied t ≡ false
  shown-free c U N hides x t right is live shown =
      go (is_tied t) (U x) (N x) (those hides x) live shown
      (sym (ap (λ o. (if_known o is_tied && (U x || N x)) && not (those hides x)) is) ∙ nothing-below (length c.vars) (minus (meet (tied_vars c) (plus U N)) (those hides)) x (get-less c.vars x t is) (not-true (some_var c (minus (meet (tied_vars c) (plus U N)) (those hides))) right))
    where
      not-true : (b : Bool) → not b ≡ true → b ≡ false
      not-true true e = absurd (let no : ⊥ = cc e in no)
      not-true false e = refl

      go : (a g n d : Bool) → g ≡ true → d ≡ false → (a && (g || n)) && not d ≡ false → a ≡ false
      go false g n d p q r = refl
      go true true n false p q r = absurd (let no : ⊥ = cc r in no)
      go true true n true p q r = absurd (let no : ⊥ = cc q in no)
      go true false n d p q r = absurd (let no : ⊥ = cc p in no)

  pub opened-fits : (w : Way) (z : Zone) (m : ℕ) (at : Span) (x : ℕ) (own hides : List ℕ) (body rest : Code) (st : List (Frame Held)) (vs : List Held)
      → variables_fit u labels h (top_zone w z st) w (calls st) 0 (context_of u m).vars vs ≡ true → stack_fits u labels h w z m st ≡ true → stack_right u m (Recover at x own hides body rest) st (valued vs) ≡ true
      → (variables_fit u labels h (Base w (suc (zones st))) w (calls st) 0 (context_of u m).vars (only tagged (λ y. not (those hides y)) vs) ≡ true) × (stack_fits u labels h w z m (OpenRecover own hides (only tagged (those hides) vs) rest ∷ st) ≡ true)
  opened-fits w z m at x own hides body rest st vs vars stack right = (inner, together (variables_fit u labels h (top_zone w z st) w (calls st) 0 c.vars (only tagged (those hides) vs)) (stack_fits u labels h w z m st) laid stack)
    where
      c : Context
      c = context_of u m

      U : Vars
      U = valued vs

      N : Vars
      N = block_mentions own body

      tied : hides_tied c (plus U N) hides ≡ true
      tied =
          let p = and_parts (calls_right c (Recover at x own hides body rest)) (is_scoped c (Recover at x own hides body rest) U) (top-right u m (Recover at x own hides body rest) st U right) in
          let q = and_parts (given body x && (has_none (plus U (those hides)) own && hides_tied c (plus U N) hides)) (is_scoped c body (plus U (those hides)) && is_scoped c rest (plus (just x) (plus U N))) p.1 in
          let r = and_parts (given body x) (has_none (plus U (those hides)) own && hides_tied c (plus U N) hides) q.0 in
          (and_parts (has_none (plus U (those hides)) own) (hides_tied c (plus U N) hides) r.1).1

      before : AllFit u labels h (top_zone w z st) w (calls st) c.vars vs
      before = to-all u labels h (top_zone w z st) w (calls st) c.vars vs vars

      laid : variables_fit u labels h (top_zone w z st) w (calls st) 0 c.vars (only tagged (those hides) vs) ≡ true
      laid = fewer-fit (top_zone w z st) w (calls st) c.vars vs (only tagged (those hides) vs) (only-length (those hides) 0 vs) (λ y a e. (only-cases (those hides) vs y a e).1) vars

      shown : (b : Bool) → not b ≡ true → b ≡ false
      shown true e = absurd (let no : ⊥ = cc e in no)
      shown false e = refl

      inner : variables_fit u labels h (Base w (suc (zones st))) w (calls st) 0 c.vars (only tagged (λ y. not (those hides y)) vs) ≡ true
      inner = from-all u labels h (Base w (suc (zones st))) w (calls st) c.vars (only tagged (λ y. not (those hides y)) vs) (record {
        lengths = before.lengths ∙ sym (only-length (λ y. not (those hides y)) 0 vs);
        each = λ y t a is has.
            let o = only-cases (λ y. not (those hides y)) vs y a has in
            untied-zone (top_zone w z st) (Base w (suc (zones st))) w (calls st) y t a (shown-free c U N hides y t tied is (ap has_value o.1) (shown (those hides y) o.0)) (before.each y t a is o.1);
      })

  -- ---------- turns ----------
  -- a simple statement that changes no label: it declares or prints
  abbrev pub IsPlainAct : Instruction → Type 0
  IsPlainAct (Declare x) = Unit {0}
  IsPlainAct (Print e) = Unit {0}
  IsPlainAct i = ⊥

  -- the code's turn changes no label
  abbrev pub IsPlain : Code → Type 0
  IsPlain (Do at i rest) = IsPlainAct i
  IsPlain (If at x own1 a own2 d rest) = Unit {0}
  IsPlain (While at x own body rest) = Unit {0}
  IsPlain (Recover at x own hides body rest) = Unit {0}
  IsPlain c = ⊥

  -- what a plain turn leaves of a branch fits as before
  pub plain-fits : (at : Way → Way) (z : Zone) (b : Branch) (t : ℕ) (x : Held) (c : Code) (st : List (Frame Held)) (o : Op) (d : Did Held Mark) → IsPlain c
      → variables_fit u labels h (top_zone (at Here) z st) (at Here) (calls st) 0 (context_of u b.own.routine).vars b.own.vars ≡ true → stack_fits u labels h (at Here) z b.own.routine st ≡ true
      → stack_right u b.own.routine c st (valued b.own.vars) ≡ true → TurnTo u b.own x c st o d → tree_fits u labels h at z (done (core u) b t d) ≡ true
  plain-fits at z b t x _ _ _ _ is vars stack right (dying c st f) = refl
  plain-fits at z b t x _ _ _ _ is vars stack right (ending p a v q) = absurd is
  plain-fits at z b t x _ _ _ _ is vars stack right (acting p i rest st o vs l acts stays) =
      on-fits (at Here) z b l t b.own.routine vs rest st stays.vars stays.routine (acted i o vs acts is vars) stack at refl
    where
      acted : (i : Instruction) (o : Op) (vs : List Held) → Acts u b.own x i o vs → IsPlainAct i → variables_fit u labels h (top_zone (at Here) z st) (at Here) (calls st) 0 (context_of u b.own.routine).vars b.own.vars ≡ true
          → variables_fit u labels h (top_zone (at Here) z st) (at Here) (calls st) 0 (context_of u b.own.routine).vars vs ≡ true
      acted _ _ _ (declares y) is e = fewer-fit (top_zone (at Here) z st) (at Here) (calls st) (context_of u b.own.routine).vars b.own.vars (clear tagged b.own.vars y) (set-length b.own.vars y _) (λ n a q. (clear-cases b.own.vars y n a q).1) e
      acted _ _ _ (prints t) is e = e
      acted _ _ _ (assigns y a v vs one) is e = absurd is
      acted _ _ _ (loads y f g r n here) is e = absurd is
      acted _ _ _ (measures y f r n here) is e = absurd is
      acted _ _ _ (reads y f i r n g here) is e = absurd is
      acted _ _ _ (takes y f g r n here) is e = absurd is
      acted _ _ _ (stores y f a v vs r n one here) is e = absurd is
      acted _ _ _ (writes y i t v k r n f p q here) is e = absurd is
  plain-fits at z b t x _ _ _ _ is vars stack right (making p i rest st shape n y l made q) = absurd (none i shape n y made is)
    where
      none : (i : Instruction) (shape : Shape) (n y : ℕ) → Creates u b.own i shape n y → IsPlainAct i → ⊥
      none _ _ _ _ (object y c ts q) is = is
      none _ _ _ _ (array y t n) is = is
  plain-fits at z b t x _ _ _ _ is vars stack right (beginning p rest st into tie consumed y m args r this found vs saved lent l c caller begins q0 q1 q2 q3 goes) = absurd is
  plain-fits at z b t x _ _ _ _ is vars stack right (left_block p e own1 a own2 a2 rest st) = on-fits (at Here) z b b.own t b.own.routine b.own.vars a (OpenBlock own1 rest ∷ st) refl refl vars stack at refl
  plain-fits at z b t x _ _ _ _ is vars stack right (right_block p e own1 a own2 a2 rest st) = on-fits (at Here) z b b.own t b.own.routine b.own.vars a2 (OpenBlock own2 rest ∷ st) refl refl vars stack at refl
  plain-fits at z b t x _ _ _ _ is vars stack right (into_loop p e own body rest st) = on-fits (at Here) z b b.own t b.own.routine b.own.vars body (OpenBlock own (While p e own body rest) ∷ st) refl refl vars stack at refl
  plain-fits at z b t x _ _ _ _ is vars stack right (out_of_loop p e own body rest st) = on-fits (at Here) z b b.own t b.own.routine b.own.vars rest st refl refl vars stack at refl
  plain-fits at z b t x _ _ _ _ is vars stack right (parting p own1 a own2 a2 rest st ps q) = absurd is
  plain-fits at z b t x _ _ _ _ is vars stack right (recovering p y own hides body rest st l saved goes q) =
      let f = opened-fits (at Here) z b.own.routine p y own hides body rest st b.own.vars vars stack right in
      on-fits (at Here) z b l t b.own.routine (only tagged (λ y. not (those hides y)) b.own.vars) body (OpenRecover own hides saved rest ∷ st) goes.vars goes.routine f.0
      (subst (λ (ws : List Held). stack_fits u labels h (at Here) z b.own.routine (OpenRecover own hides ws rest ∷ st) ≡ true) (sym q) f.1) at refl
  plain-fits at z b t x _ _ _ _ is vars stack right (giving p y e own hides saved rest st v l had q goes) = absurd is
  plain-fits at z b t x _ _ _ _ is vars stack right (returning p a tie into y saved lent caller rest st v l q goes) = absurd is
