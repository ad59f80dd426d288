-- After an event no hidden variable has a value, nor gets one where the code above a frame ends.
use Rattle.std.proofs.Common.{◌≡◌, ℕ, zero, suc, Bool, true, false, Option, Some, None, List, [], ◌∷◌, ◌++◌, length, refl, sym, ap, subst, ◌∙◌, inl, inr}
use Rattle.std.specs.Prelude.{◌⊎◌, ◌&&◌, ◌||◌, not, nat_eq, ℤ}
use Rattle.std.specs.List.{list_any}
use Rattle.std.proofs.lemmas.Bool.{or_cases, or_left, or_right, and_parts}
use Rattle.perm_tree.specs.declared.ast.Span.{Span}
use Rattle.perm_tree.specs.declared.ast.Shape.{Shape}
use Rattle.perm_tree.specs.declared.errors.TypeKind.TheVariants.{Hidden}
use Rattle.perm_tree.specs.Code.{Instruction, Invoke, Code, End, Give, Return, Do, If, While, Par, Recover, UnitCode}
use Rattle.perm_tree.specs.Mentions.{any_in_option, any_in_argument, mentions}
use Rattle.perm_tree.specs.Vars.{Vars, just, those, plus, minus, meet, some_below, IsWithin}
use Rattle.perm_rules.specs.Parts.{RecoverHead}
use Rattle.perm_rules.specs.Goes.{Goes}
use Rattle.perm_rules.specs.Scoping.{given, has_none, is_scoped}
use Rattle.perm_rules.proofs.PartLaws.{applies-none}
use Rattle.perm_meaning.specs.Names.{Mark}
use Rattle.perm_meaning.specs.Expressions.{tagged, assign, assign_into, clear, clear_all}
use Rattle.perm_meaning.specs.Custody.{Moves, from_either, only, while_called, in_neither, back_l, back_r, mentions_l, mentions_r}
use Rattle.perm_meaning.specs.Machine.{Frame, OpenBlock, OpenRecover, OpenCall, Close, Returning, Failing, Blocks, Leaf, Fork, Way, Final, Fine, GaveBack, Failed, over, stage_by_turns, stage_by_code, stage_from, final, Did, On, Splits, settled, done, resumed, join_of}
use Rattle.perm_meaning.specs.NamedHeap.{Held, Op, Own, Branch, Task}
use Rattle.perm_meaning.specs.Turns.{blocks, lent_back}
use Rattle.perm_meaning.proofs.Leads.{none-some}
use Rattle.perm_meaning.proofs.SameName.{together, eq-itself, eq-true}
use Rattle.perm_core.specs.Core.{core}
use Rattle.perm_core.specs.Picture.{context_of, valued, hidden_above, just_lent, just_taken, context_above, RestGoes, TreeGoes, stack_right, tree_right, none_valued, only_valued, stack_hidden, branch_hidden, tree_hidden}
use Rattle.perm_core.proofs.Commute.Conflicts.{unfailed}
use Rattle.perm_core.proofs.KeepsPicture.Calls.CallEnds.{any-left, any-right}
use Rattle.perm_core.proofs.KeepsPicture.Order.ValueSets.{none-fewer}
use Rattle.perm_core.proofs.KeepsPicture.Order.HiddenFree.{hidden-free}
use Rattle.perm_core.proofs.KeepsPicture.Order.ValuedLists.{assign-within, clear-within, clear_all-within, only-within, either-within, into-within, back-within, kept-within, receives-within, acts-within}
use Rattle.perm_core.proofs.KeepsPicture.Turns.LeafTurns.{Creates, object, array, TurnTo, dying, ending, acting, making, beginning, left_block, right_block, into_loop, out_of_loop, parting, recovering, giving, returning}
use Rattle.perm_core.proofs.KeepsPicture.Trees.TreeEvents.{EventAt, refused_leaf, told_leaf, joining, on_left, on_right}
use Rattle.perm_core.proofs.KeepsPicture.Order.RightCode.{given-one, top-right}

-- ---------- lists that no variable of a set is in ----------
pub none-all : (U : Vars) (xs : List ℕ) → ((x : ℕ) → those xs x ≡ true → U x ≡ false) → has_none U xs ≡ true
none-all U [] all = refl
none-all U (x ∷ xs) all = by_test (U x) refl (none-all U xs (λ y e. all y (or_right (nat_eq y x) (those xs y) e)))
  where
    here : U x ≡ false
    here = all x (or_left (nat_eq x x) (those xs x) (eq-itself x))

    by_test : (b : Bool) → U x ≡ b → has_none U xs ≡ true → not (U x || list_any U xs) ≡ true
    by_test true q later = absurd (let no : true ≡ false = sym q ∙ here in let z : ⊥ = cc no in z)
    by_test false q later = ap (λ t. not (t || list_any U xs)) q ∙ later

pub all-none : (U : Vars) (xs : List ℕ) (x : ℕ) → has_none U xs ≡ true → those xs x ≡ true → U x ≡ false
all-none U [] x e i = absurd (let no : ⊥ = cc i in no)
all-none U (y ∷ xs) x e i = pick (or_cases (nat_eq x y) (those xs x) i) (split (U y) (list_any U xs) e) (λ q r. all-none U xs x q r)
  where
    split : (a b : Bool) → not (a || b) ≡ true → (a ≡ false) × (not b ≡ true)
    split true b e = absurd (let no : ⊥ = cc e in no)
    split false b e = (refl, e)

    pick : (nat_eq x y ≡ true) ⊎ (those xs x ≡ true) → (U y ≡ false) × (has_none U xs ≡ true) → (has_none U xs ≡ true → those xs x ≡ true → U x ≡ false) → U x ≡ false
    pick (inl q) (u, later) rec = ap U (eq-true x y q) ∙ u
    pick (inr q) (u, later) rec = rec later q

-- what is within a set that holds nothing of a list holds nothing of it
none-within : (U V : Vars) (xs : List ℕ) → IsWithin V U → ((x : ℕ) → those xs x ≡ true → U x ≡ false) → has_none V xs ≡ true
none-within U V xs less all = none-all V xs (λ x i. not-in (V x) (less x) (all x i))
  where
    not-in : (b : Bool) {c : Bool} → (b ≡ true → c ≡ true) → c ≡ false → b ≡ false
    not-in true f e = absurd (let no : true ≡ false = sym (f refl) ∙ e in let z : ⊥ = cc no in z)
    not-in false f e = refl

pub neither : (a b : Bool) → a ≡ false → b ≡ false → (a || b) ≡ false
neither a b e f = ap (λ t. t || b) e ∙ f

nothing-below : (n : ℕ) (S : Vars) → ((x : ℕ) → S x ≡ false) → some_below n S ≡ false
nothing-below zero S all = refl
nothing-below (suc n) S all = neither (S n) (some_below n S) (all n) (nothing-below n S all)

-- what is laid by is hidden
only-hidden : (hides : List ℕ) (vs : List Held) → only_valued hides (only tagged (those hides) vs) ≡ true
only-hidden hides vs = ap (λ b. not b) (nothing-below (length laid) (minus (valued laid) (those hides)) (λ x. go (valued laid x) (those hides x) (λ e. (and_parts (those hides x) (valued vs x) (only-within (those hides) vs x e)).0)))
  where
    laid : List Held
    laid = only tagged (those hides) vs

    go : (a b : Bool) → (a ≡ true → b ≡ true) → (a && not b) ≡ false
    go true b f = ap (λ t. not t) (f refl)
    go false b f = refl

module _ (u : UnitCode) where
  -- ---------- what is hidden in a code that goes ----------
  pub top-goes : (below : List ℕ) (m : ℕ) (c : Code) (st : List (Frame Held)) (G H : Vars) → RestGoes u below m c st G H → (K : Vars) × Goes (context_above u below m st) c G K
  top-goes below m c [] G H goes = (H, goes)
  top-goes below m c (f ∷ st) G H goes = (goes.0, goes.1)

  pub covered : (below : List ℕ) (m : ℕ) (st : List (Frame Held)) (x : ℕ) → those (hidden_above below st) x ≡ true → those (context_above u below m st).hidden x ≡ true
  covered below m st x e = any-left x (hidden_above below st) (context_of u m).hidden e

  pub uncovered : (below : List ℕ) (m : ℕ) (st : List (Frame Held)) (x : ℕ) → those (context_above u below m st).hidden x ≡ false → those (hidden_above below st) x ≡ false
  uncovered below m st x e = go (those (hidden_above below st) x) refl
    where
      go : (b : Bool) → those (hidden_above below st) x ≡ b → b ≡ false
      go true q = absurd (let no : true ≡ false = sym (covered below m st x q) ∙ e in let z : ⊥ = cc no in z)
      go false q = refl

  -- what a simple statement mentions isn't hidden
  pub statement-shown : (below : List ℕ) (m : ℕ) (at : Span) (i : Instruction) (rest : Code) (st : List (Frame Held)) (G H : Vars) → RestGoes u below m (Do at i rest) st G H → (x : ℕ) → those (hidden_above below st) x ≡ true → mentions i x ≡ false
  statement-shown below m at i rest st G H goes x hid = go (mentions i x) refl
    where
      free : (x : ℕ) → mentions i x ≡ true → those (hidden_above below st) x ≡ false
      free = (hidden-free (those (hidden_above below st)) (context_above u below m st) (Do at i rest) G (top-goes below m (Do at i rest) st G H goes).0 (λ y e. covered below m st y e) (top-goes below m (Do at i rest) st G H goes).1).0

      go : (b : Bool) → mentions i x ≡ b → b ≡ false
      go true q = absurd (let no : true ≡ false = sym hid ∙ free x q in let z : ⊥ = cc no in z)
      go false q = refl

  -- nor is the variable that takes what a recover block gives
  target-shown : (below : List ℕ) (m : ℕ) (at : Span) (x : ℕ) (own hides : List ℕ) (body rest : Code) (st : List (Frame Held)) (G H : Vars) → RestGoes u below m (Recover at x own hides body rest) st G H → those (hidden_above below st) x ≡ false
  target-shown below m at x own hides body rest st G H goes =
      let g = top-goes below m (Recover at x own hides body rest) st G H goes in
      uncovered below m st x (applies-none (context_above u below m st) (RecoverHead x) G g.1.0 Hidden)

  -- ---------- stacks ----------
  -- other code in its place that gives to the same variable
  hidden-instead : (below : List ℕ) (c a : Code) (st : List (Frame Held)) → IsWithin (given a) (given c) → stack_hidden below c st ≡ true → stack_hidden below a st ≡ true
  hidden-instead below c a [] gives e = refl
  hidden-instead below c a (OpenBlock own rest ∷ st) gives e = e
  hidden-instead below c a (OpenRecover own hides saved rest ∷ st) gives e =
      let first : Bool = only_valued hides saved && none_valued (hidden_above below st) saved in
      let h : List ℕ = hidden_above below st in
      let p = and_parts first (has_none (given c) h && stack_hidden below rest st) e in
      let q = and_parts (has_none (given c) h) (stack_hidden below rest st) p.1 in
      together first (has_none (given a) h && stack_hidden below rest st) p.0 (together (has_none (given a) h) (stack_hidden below rest st) (none-fewer (given a) (given c) h gives q.0) q.1)
  hidden-instead below c a (OpenCall tie into y saved lent caller rest ∷ st) gives e = e

  -- a branch that goes on hides so, once its ended blocks are left
  settled-hidden : (below : List ℕ) (b : Branch) (vs : List Held) (c : Code) (st : List (Frame Held)) → none_valued (hidden_above below st) vs ≡ true → stack_hidden below c st ≡ true → branch_hidden below (settled (core u) b vs c st) ≡ true
  settled-hidden below b vs End (OpenBlock own rest ∷ st) e f =
      settled-hidden below b (clear_all tagged vs own) rest st
      (none-fewer (valued (clear_all tagged vs own)) (valued vs) (hidden_above below st) (λ x q. (and_parts (valued vs x) (not (those own x)) (clear_all-within vs own x q)).0) e) f
  settled-hidden below b vs End [] e f = together (none_valued below vs) true e refl
  settled-hidden below b vs End (OpenRecover own hides saved rest ∷ st) e f = together (none_valued (hides ++ hidden_above below st) vs) (stack_hidden below End (OpenRecover own hides saved rest ∷ st)) e f
  settled-hidden below b vs End (OpenCall tie into y saved lent caller rest ∷ st) e f = together true (stack_hidden below End (OpenCall tie into y saved lent caller rest ∷ st)) refl f
  settled-hidden below b vs (Give at w x) st e f = together (none_valued (hidden_above below st) vs) (stack_hidden below (Give at w x) st) e f
  settled-hidden below b vs (Return at a) st e f = together (none_valued (hidden_above below st) vs) (stack_hidden below (Return at a) st) e f
  settled-hidden below b vs (Do at i rest) st e f = together (none_valued (hidden_above below st) vs) (stack_hidden below (Do at i rest) st) e f
  settled-hidden below b vs (If at x own1 a own2 d rest) st e f = together (none_valued (hidden_above below st) vs) (stack_hidden below (If at x own1 a own2 d rest) st) e f
  settled-hidden below b vs (While at x own a rest) st e f = together (none_valued (hidden_above below st) vs) (stack_hidden below (While at x own a rest) st) e f
  settled-hidden below b vs (Par at own1 a own2 d rest) st e f = together (none_valued (hidden_above below st) vs) (stack_hidden below (Par at own1 a own2 d rest) st) e f
  settled-hidden below b vs (Recover at x own hides a rest) st e f = together (none_valued (hidden_above below st) vs) (stack_hidden below (Recover at x own hides a rest) st) e f

  on-hidden : (below : List ℕ) (b : Branch) (l : Own) (t : ℕ) (vs : List Held) (c : Code) (st : List (Frame Held)) → l.vars ≡ vs → none_valued (hidden_above below st) vs ≡ true → stack_hidden below c st ≡ true → tree_hidden below (done (core u) b t (On l c st)) ≡ true
  on-hidden below b l t vs c st vars e f = settled-hidden below (record b { own = l; turns = t }) l.vars c st (ap (none_valued (hidden_above below st)) vars ∙ e) f

  -- an ended branch has no values
  ended-hidden : (below : List ℕ) → none_valued below [] && true ≡ true
  ended-hidden below = together (none_valued below []) true (none-all (valued []) below (λ x e. refl)) refl

  -- ---------- turns ----------
  turn-hidden : (below : List ℕ) (b : Branch) (t : ℕ) (w : Held) (c : Code) (st : List (Frame Held)) (o : Op) (d : Did Held Mark) (H : Vars) → st ≡ b.stack → none_valued (hidden_above below st) b.own.vars ≡ true → stack_hidden below c st ≡ true
      → stack_right u b.own.routine c st (valued b.own.vars) ≡ true → RestGoes u below b.own.routine c st (valued b.own.vars) H → TurnTo u b.own w c st o d → tree_hidden below (done (core u) b t d) ≡ true
  turn-hidden below b t w _ _ _ _ H here e f r g (dying c st x) = ended-hidden below
  turn-hidden below b t w _ _ _ _ H here e f r g (ending at a v q) = ended-hidden below
  turn-hidden below b t w _ _ _ _ H here e f r g (acting at i rest st o vs l acts stays) =
      let h : List ℕ = hidden_above below st in
      on-hidden below b l t vs rest st stays.vars
      (none-within (plus (valued b.own.vars) (mentions i)) (valued vs) h (acts-within u b.own w i o vs acts)
      (λ x m. neither (valued b.own.vars x) (mentions i x) (all-none (valued b.own.vars) h x e m) (statement-shown below b.own.routine at i rest st (valued b.own.vars) H g x m)))
      (hidden-instead below (Do at i rest) rest st (λ x m. m) f)
  turn-hidden below b t w _ _ _ _ H here e f r g (making at i rest st shape n x l is q) =
      let h : List ℕ = hidden_above below st in
      on-hidden below b l t (assign b.own.vars x w) rest st (ap (λ (z : Own). z.vars) q)
      (none-within (plus (valued b.own.vars) (just x)) (valued (assign b.own.vars x w)) h (assign-within b.own.vars x w)
      (λ y m. neither (valued b.own.vars y) (just x y) (all-none (valued b.own.vars) h y e m) (untaken y (just x y) refl (statement-shown below b.own.routine at i rest st (valued b.own.vars) H g y m))))
      (hidden-instead below (Do at i rest) rest st (λ x m. m) f)
    where
      stands : (i : Instruction) (shape : Shape) (n x : ℕ) → Creates u b.own i shape n x → IsWithin (just x) (mentions i)
      stands _ _ _ _ (object x c ts q) y e = e
      stands _ _ _ _ (array x t n) y e = or_left (nat_eq y x) _ e

      untaken : (y : ℕ) (b : Bool) → just x y ≡ b → mentions i y ≡ false → b ≡ false
      untaken y true q e = absurd (let no : true ≡ false = sym (stands i shape n x is y q) ∙ e in let z : ⊥ = cc no in z)
      untaken y false q e = refl
  turn-hidden below b t w _ _ _ _ H here e f r g (beginning at rest st into tie consumed y m args r1 this found vs saved lent l c caller is code q1 q2 q3 goes) =
      on-hidden below b l t _ c (OpenCall tie into y saved lent caller rest ∷ st) goes.vars refl
      (together (none_valued h saved && has_none (plus (just_lent lent y) (just_taken into)) h) (stack_hidden below rest st)
      (together (none_valued h saved) (has_none (plus (just_lent lent y) (just_taken into)) h)
      (none-fewer (valued saved) (valued b.own.vars) h (subst (λ (ws : List Held). IsWithin (valued ws) (valued b.own.vars)) (sym q1) kept) e)
      (none-within (mentions i) (plus (just_lent lent y) (just_taken into)) h taken (statement-shown below b.own.routine at i rest st (valued b.own.vars) H g)))
      (hidden-instead below (Do at i rest) rest st (λ x m. m) f))
    where
      h : List ℕ
      h = hidden_above below st

      i : Instruction
      i = Invoke into tie consumed y m args

      kept : IsWithin (valued (while_called tagged Moves tie y vs)) (valued b.own.vars)
      kept x e = receives-within u b.own consumed y args this found vs is.receives x (kept-within tie y vs x e)

      lent-y : (o : Option Held) (x : ℕ) → just_lent o y x ≡ true → nat_eq x y ≡ true
      lent-y None x e = absurd (let no : ⊥ = cc e in no)
      lent-y (Some v) x e = e

      taken-into : (o : Option ℕ) (x : ℕ) → just_taken o x ≡ true → any_in_option (nat_eq x) o ≡ true
      taken-into None x e = e
      taken-into (Some z) x e = e

      taken : IsWithin (plus (just_lent lent y) (just_taken into)) (mentions i)
      taken x e = pick (or_cases (just_lent lent y x) (just_taken into x) e)
        where
          pick : (just_lent lent y x ≡ true) ⊎ (just_taken into x ≡ true) → mentions i x ≡ true
          pick (inl p) = or_right (any_in_option (nat_eq x) into) (nat_eq x y || list_any (any_in_argument (nat_eq x)) args) (or_left (nat_eq x y) (list_any (any_in_argument (nat_eq x)) args) (lent-y lent x p))
          pick (inr p) = or_left (any_in_option (nat_eq x) into) (nat_eq x y || list_any (any_in_argument (nat_eq x)) args) (taken-into into x p)
  turn-hidden below b t w _ _ _ _ H here e f r g (left_block at x own1 a own2 a2 rest st) = on-hidden below b b.own t b.own.vars a (OpenBlock own1 rest ∷ st) refl e (hidden-instead below (If at x own1 a own2 a2 rest) rest st (λ y m. m) f)
  turn-hidden below b t w _ _ _ _ H here e f r g (right_block at x own1 a own2 a2 rest st) = on-hidden below b b.own t b.own.vars a2 (OpenBlock own2 rest ∷ st) refl e (hidden-instead below (If at x own1 a own2 a2 rest) rest st (λ y m. m) f)
  turn-hidden below b t w _ _ _ _ H here e f r g (into_loop at x own body rest st) = on-hidden below b b.own t b.own.vars body (OpenBlock own (While at x own body rest) ∷ st) refl e f
  turn-hidden below b t w _ _ _ _ H here e f r g (out_of_loop at x own body rest st) = on-hidden below b b.own t b.own.vars rest st refl e (hidden-instead below (While at x own body rest) rest st (λ y m. m) f)
  turn-hidden below b t w _ _ _ _ H here e f r g (parting at own1 a own2 a2 rest st p q) =
      ap (λ (z : Blocks). tree_hidden below (done (core u) b t (Splits z rest))) q
      ∙ together (none_valued h (only tagged (in_neither (back_l u b.own.routine ps) (back_r u b.own.routine ps)) b.own.vars) && stack_hidden below rest b.stack) _
      (together (none_valued h (only tagged (in_neither (back_l u b.own.routine ps) (back_r u b.own.routine ps)) b.own.vars)) (stack_hidden below rest b.stack) (few (in_neither (back_l u b.own.routine ps) (back_r u b.own.routine ps)))
      (subst (λ (z : List (Frame Held)). stack_hidden below rest z ≡ true) here (hidden-instead below (Par at own1 a own2 a2 rest) rest st (λ y m. m) f)))
      (together (none_valued h (only tagged (mentions_l ps) b.own.vars) && true) (none_valued h (only tagged (mentions_r ps) b.own.vars) && true)
      (together (none_valued h (only tagged (mentions_l ps) b.own.vars)) true (few (mentions_l ps)) refl) (together (none_valued h (only tagged (mentions_r ps) b.own.vars)) true (few (mentions_r ps)) refl))
    where
      ps : Blocks
      ps = blocks own1 a own2 a2

      h : List ℕ
      h = hidden_above below b.stack

      few : (G : Vars) → none_valued h (only tagged G b.own.vars) ≡ true
      few G = none-fewer (valued (only tagged G b.own.vars)) (valued b.own.vars) h (λ x m. (and_parts (G x) (valued b.own.vars x) (only-within G b.own.vars x m)).1) (subst (λ (z : List (Frame Held)). none_valued (hidden_above below z) b.own.vars ≡ true) here e)
  turn-hidden below b t w _ _ _ _ H here e f r g (recovering at x own hides body rest st l saved goes q) =
      on-hidden below b l t inner body (OpenRecover own hides saved rest ∷ st) goes.vars
      (none-all (valued inner) (hides ++ h) (λ y m. unhidden y (split-any y hides m)))
      (ap (λ (ws : List Held). (only_valued hides ws && none_valued h ws) && (has_none (given body) h && stack_hidden below rest st)) q
      ∙ together (only_valued hides laid && none_valued h laid) (has_none (given body) h && stack_hidden below rest st)
      (together (only_valued hides laid) (none_valued h laid) (only-hidden hides b.own.vars) (none-fewer (valued laid) (valued b.own.vars) h (λ y m. (and_parts (those hides y) (valued b.own.vars y) (only-within (those hides) b.own.vars y m)).1) e))
      (together (has_none (given body) h) (stack_hidden below rest st) (none-within (just x) (given body) h (λ y m. given-one body x y gift m) target) (hidden-instead below c rest st (λ y m. m) f)))
    where
      c : Code
      c = Recover at x own hides body rest

      h : List ℕ
      h = hidden_above below st

      inner : List Held
      inner = only tagged (λ y. not (those hides y)) b.own.vars

      laid : List Held
      laid = only tagged (those hides) b.own.vars

      split-any : (y : ℕ) (xs : List ℕ) → those (xs ++ h) y ≡ true → (those xs y ≡ true) ⊎ (those h y ≡ true)
      split-any y [] m = inr m
      split-any y (z ∷ xs) m = pick (or_cases (nat_eq y z) (those (xs ++ h) y) m) (λ q. split-any y xs q)
        where
          pick : (nat_eq y z ≡ true) ⊎ (those (xs ++ h) y ≡ true) → (those (xs ++ h) y ≡ true → (those xs y ≡ true) ⊎ (those h y ≡ true)) → (those (z ∷ xs) y ≡ true) ⊎ (those h y ≡ true)
          pick (inl q) rec = inl (or_left (nat_eq y z) (those xs y) q)
          pick (inr q) rec = on (rec q)
            where
              on : (those xs y ≡ true) ⊎ (those h y ≡ true) → (those (z ∷ xs) y ≡ true) ⊎ (those h y ≡ true)
              on (inl p) = inl (or_right (nat_eq y z) (those xs y) p)
              on (inr p) = inr p

      unhidden : (y : ℕ) → (those hides y ≡ true) ⊎ (those h y ≡ true) → valued inner y ≡ false
      unhidden y m = go (valued inner y) refl m
        where
          go : (b : Bool) → valued inner y ≡ b → (those hides y ≡ true) ⊎ (those h y ≡ true) → b ≡ false
          go false p m = refl
          go true p (inl m) = clash (those hides y) m (and_parts (not (those hides y)) _ (only-within (λ y. not (those hides y)) b.own.vars y p)).0
            where
              clash : (t : Bool) → t ≡ true → not t ≡ true → true ≡ false
              clash true i j = j_absurd j
                where
                  j_absurd : false ≡ true → true ≡ false
                  j_absurd j = sym j
              clash false i j = sym i
          go true p (inr m) = sym (and_parts (not (those hides y)) (valued b.own.vars y) (only-within (λ y. not (those hides y)) b.own.vars y p)).1 ∙ all-none (valued b.own.vars) h y e m

      gift : given body x ≡ true
      gift =
          let k = context_of u b.own.routine in
          let U : Vars = valued b.own.vars in
          let right = (and_parts _ (is_scoped k c U) (top-right u b.own.routine c st U r)).1 in
          (and_parts (given body x) _ (and_parts (given body x && _) _ right).0).0

      target : (y : ℕ) → those h y ≡ true → just x y ≡ false
      target y m = go (nat_eq y x) refl
        where
          go : (b : Bool) → nat_eq y x ≡ b → b ≡ false
          go true q = absurd (let no : true ≡ false = sym m ∙ ap (those h) (eq-true y x q) ∙ target-shown below b.own.routine at x own hides body rest st (valued b.own.vars) H g in let z : ⊥ = cc no in z)
          go false q = refl
  turn-hidden below b t w _ _ _ _ H here e f r g (giving at y x own hides saved rest st v l had q goes) =
      on-hidden below b l t new rest st goes.vars (none-within (plus (plus (valued saved) (valued b.own.vars)) (just x)) (valued new) h less nothing) parts.1.1
    where
      h : List ℕ
      h = hidden_above below st

      ws : List Held
      ws = clear_all tagged (clear tagged b.own.vars y) own

      new : List Held
      new = assign (from_either (those hides) saved ws) x v

      parts : (only_valued hides saved && none_valued h saved ≡ true) × ((has_none (just x) h ≡ true) × (stack_hidden below rest st ≡ true))
      parts = let p = and_parts (only_valued hides saved && none_valued h saved) (has_none (just x) h && stack_hidden below rest st) f in (p.0, and_parts (has_none (just x) h) (stack_hidden below rest st) p.1)

      less : IsWithin (valued new) (plus (plus (valued saved) (valued b.own.vars)) (just x))
      less z m = pick (or_cases (valued (from_either (those hides) saved ws) z) (just x z) (assign-within (from_either (those hides) saved ws) x v z m))
        where
          S : Vars
          S = plus (valued saved) (valued b.own.vars)

          old : (those hides z && valued saved z ≡ true) ⊎ (valued ws z && not (those hides z) ≡ true) → plus S (just x) z ≡ true
          old (inl p) = or_left (S z) (just x z) (or_left (valued saved z) (valued b.own.vars z) (and_parts (those hides z) (valued saved z) p).1)
          old (inr p) =
              or_left (S z) (just x z) (or_right (valued saved z) (valued b.own.vars z)
              (clear-within b.own.vars y z (and_parts (valued (clear tagged b.own.vars y) z) (not (those own z)) (clear_all-within (clear tagged b.own.vars y) own z (and_parts (valued ws z) (not (those hides z)) p).0)).0))

          pick : (valued (from_either (those hides) saved ws) z ≡ true) ⊎ (just x z ≡ true) → plus S (just x) z ≡ true
          pick (inl p) = old (or_cases (those hides z && valued saved z) (valued ws z && not (those hides z)) (either-within (those hides) saved ws z p))
          pick (inr p) = or_right (S z) (just x z) p

      nothing : (z : ℕ) → those h z ≡ true → plus (plus (valued saved) (valued b.own.vars)) (just x) z ≡ false
      nothing z m =
          neither (plus (valued saved) (valued b.own.vars) z) (just x z)
          (neither (valued saved z) (valued b.own.vars z) (all-none (valued saved) h z (and_parts (only_valued hides saved) (none_valued h saved) parts.0).1 m) (all-none (valued b.own.vars) (hides ++ h) z e (any-right z hides h m)))
          (all-none (just x) h z parts.1.0 m)
  turn-hidden below b t w _ _ _ _ H here e f r g (returning at a tie into y saved lent caller rest st v l q goes) =
      on-hidden below b l t new rest st goes.vars (none-within (plus (valued saved) (plus (just_lent lent y) (just_taken into))) (valued new) h less nothing) parts.1
    where
      h : List ℕ
      h = hidden_above below st

      new : List Held
      new = assign_into (lent_back lent y saved) into v

      L : Vars
      L = plus (just_lent lent y) (just_taken into)

      parts : (none_valued h saved && has_none L h ≡ true) × (stack_hidden below rest st ≡ true)
      parts = and_parts (none_valued h saved && has_none L h) (stack_hidden below rest st) f

      less : IsWithin (valued new) (plus (valued saved) L)
      less z m = pick (or_cases (valued (lent_back lent y saved) z) (just_taken into z) (into-within (lent_back lent y saved) into v z m))
        where
          old : (valued saved z ≡ true) ⊎ (just_lent lent y z ≡ true) → plus (valued saved) L z ≡ true
          old (inl p) = or_left (valued saved z) (L z) p
          old (inr p) = or_right (valued saved z) (L z) (or_left (just_lent lent y z) (just_taken into z) p)

          pick : (valued (lent_back lent y saved) z ≡ true) ⊎ (just_taken into z ≡ true) → plus (valued saved) L z ≡ true
          pick (inl p) = old (or_cases (valued saved z) (just_lent lent y z) (back-within lent y saved z p))
          pick (inr p) = or_right (valued saved z) (L z) (or_right (just_lent lent y z) (just_taken into z) p)

      nothing : (z : ℕ) → those h z ≡ true → plus (valued saved) L z ≡ false
      nothing z m = let p = and_parts (none_valued h saved) (has_none L h) parts.0 in neither (valued saved z) (L z) (all-none (valued saved) h z p.0 m) (all-none L h z p.1 m)

  -- ---------- joins ----------
  -- a side that went well has its variables, and nothing below it
  fine-leaf : (h : List ℕ) (t : Task) (vs : List Held) (n : ℕ) (p : List ℤ) → final t ≡ Some (Fine vs n p) → tree_hidden h t ≡ true → none_valued h vs ≡ true
  fine-leaf h (Fork b q l r) vs n p e f = none-some e
  fine-leaf h (Leaf b) vs n p e f = by_close b.close refl
    where
      top : none_valued (hidden_above h b.stack) b.own.vars ≡ true
      top = (and_parts (none_valued (hidden_above h b.stack) b.own.vars) (stack_hidden h b.code b.stack) f).0

      unturned : (t : ℕ) → over (stage_by_turns t b.own) ≡ Some (Fine vs n p) → none_valued h vs ≡ true
      unturned zero e = absurd (let no : ⊥ = cc e in no)
      unturned (suc t) e = none-some e

      by_code : (c : Code) (st : List (Frame Held)) → b.stack ≡ st → over (stage_by_code c st b.turns b.own) ≡ Some (Fine vs n p) → none_valued h vs ≡ true
      by_code End [] q e = let same : b.own.vars ≡ vs = cc e in subst (λ (ws : List Held). none_valued h ws ≡ true) same (subst (λ (st : List (Frame Held)). none_valued (hidden_above h st) b.own.vars ≡ true) q top)
      by_code End (g ∷ st) q e = unturned b.turns e
      by_code (Give at w x) st q e = unturned b.turns e
      by_code (Return at a) st q e = unturned b.turns e
      by_code (Do at i rest) st q e = unturned b.turns e
      by_code (If at x own1 a own2 d rest) st q e = unturned b.turns e
      by_code (While at x own a rest) st q e = unturned b.turns e
      by_code (Par at own1 a own2 d rest) st q e = unturned b.turns e
      by_code (Recover at x own hides a rest) st q e = unturned b.turns e

      by_close : (k : Option (Close Held)) → b.close ≡ k → none_valued h vs ≡ true
      by_close None q = by_code b.code b.stack refl (sym (ap (λ x. over (stage_from x (stage_by_code b.code b.stack b.turns b.own) b.turns b.own)) q) ∙ e)
      by_close (Some (Returning v)) q = absurd (let z = sym (ap (λ x. over (stage_from x (stage_by_code b.code b.stack b.turns b.own) b.turns b.own)) q) ∙ e in let no : ⊥ = cc z in no)
      by_close (Some (Failing x)) q = absurd (let z = sym (ap (λ x. over (stage_from x (stage_by_code b.code b.stack b.turns b.own) b.turns b.own)) q) ∙ e in let no : ⊥ = cc z in no)

  resumed-hidden : (below : List ℕ) (b : Branch) (p : Blocks) (l r : Task) (x y : Final Held) → final l ≡ Some x → final r ≡ Some y → branch_hidden below b ≡ true → tree_hidden (hidden_above below b.stack) l ≡ true → tree_hidden (hidden_above below b.stack) r ≡ true
      → tree_hidden below (resumed (core u) b (join_of (core u) b p x y)) ≡ true
  resumed-hidden below b p l r x y left right top hid_l hid_r = go x y left right
    where
      h : List ℕ
      h = hidden_above below b.stack

      parts : (none_valued h b.own.vars ≡ true) × (stack_hidden below b.code b.stack ≡ true)
      parts = and_parts (none_valued h b.own.vars) (stack_hidden below b.code b.stack) top

      on : (vs : List Held) (t : ℕ) (q : List ℤ) → none_valued h vs ≡ true → tree_hidden below (resumed (core u) b (Fine vs t q)) ≡ true
      on vs t q e = settled-hidden below (record b { own = record b.own { printed = q }; turns = t }) vs b.code b.stack e parts.1

      one : (G : Vars) (vs ws : List Held) → none_valued h vs ≡ true → none_valued h ws ≡ true → none_valued h (from_either G vs ws) ≡ true
      one G vs ws e f =
          none-within (plus (meet G (valued vs)) (minus (valued ws) G)) (valued (from_either G vs ws)) h (either-within G vs ws)
          (λ z m. neither (G z && valued vs z) (valued ws z && not (G z)) (and-none (G z) (valued vs z) (all-none (valued vs) h z e m)) (ap (λ t. t && not (G z)) (all-none (valued ws) h z f m)))
        where
          and-none : (a b : Bool) → b ≡ false → (a && b) ≡ false
          and-none true b e = e
          and-none false b e = refl

      go : (x y : Final Held) → final l ≡ Some x → final r ≡ Some y → tree_hidden below (resumed (core u) b (join_of (core u) b p x y)) ≡ true
      go (Fine ls t q) (Fine rs n s) i j =
          on _ _ _ (one (back_r u b.own.routine p) rs (from_either (back_l u b.own.routine p) ls b.own.vars) (fine-leaf h r rs n s j hid_r) (one (back_l u b.own.routine p) ls b.own.vars (fine-leaf h l ls t q i hid_l) parts.0))
      go (Fine ls t q) (GaveBack v n s) i j = on _ _ _ parts.0
      go (Fine ls t q) (Failed f n s) i j = ended-hidden below
      go (GaveBack v t q) (Fine rs n s) i j = on _ _ _ parts.0
      go (GaveBack v t q) (GaveBack v2 n s) i j = on _ _ _ parts.0
      go (GaveBack v t q) (Failed f n s) i j = ended-hidden below
      go (Failed f t q) (Fine rs n s) i j = ended-hidden below
      go (Failed f t q) (GaveBack v n s) i j = ended-hidden below
      go (Failed f t q) (Failed g n s) i j = ended-hidden below

  -- ---------- events ----------
  pub keeps-hidden : (o : Op) (v : Option Held) (below : List ℕ) (H : Vars) (w : Way) (t after : Task) → tree_hidden below t ≡ true → tree_right u t ≡ true → TreeGoes u below t H → EventAt u o v w t after → tree_hidden below after ≡ true
  keeps-hidden o v below H _ _ after e r g (refused_leaf b t _ q open_ is) = ap (tree_hidden below) is ∙ ended-hidden below
  keeps-hidden o v below H _ _ after e r g (told_leaf b t w d _ q open_ due turn is) =
      let p = and_parts (none_valued (hidden_above below b.stack) b.own.vars) (stack_hidden below b.code b.stack) e in
      ap (tree_hidden below) is ∙ turn-hidden below b t w b.code b.stack o d H refl p.0 p.1 r (unfailed u below b H t due g) turn
  keeps-hidden o v below H _ _ after e r g (joining b p l r1 x y _ q ended_l ended_r is) =
      let h : List ℕ = hidden_above below b.stack in
      let s = and_parts (branch_hidden below b) (tree_hidden h l && tree_hidden h r1) e in
      let k = and_parts (tree_hidden h l) (tree_hidden h r1) s.1 in
      ap (tree_hidden below) is ∙ resumed-hidden below b p l r1 x y ended_l ended_r s.0 k.0 k.1
  keeps-hidden o v below H _ _ _ e r g (on_left w b p l r1 after is) =
      let h : List ℕ = hidden_above below b.stack in
      let s = and_parts (branch_hidden below b) (tree_hidden h l && tree_hidden h r1) e in
      let k = and_parts (tree_hidden h l) (tree_hidden h r1) s.1 in
      let q = and_parts (tree_right u l) (tree_right u r1) (and_parts _ (tree_right u l && tree_right u r1) r).1 in
      together (branch_hidden below b) (tree_hidden h after && tree_hidden h r1) s.0 (together (tree_hidden h after) (tree_hidden h r1) (keeps-hidden o v h g.0 w l after k.0 q.0 g.2 is) k.1)
  keeps-hidden o v below H _ _ _ e r g (on_right w b p l r1 after is) =
      let h : List ℕ = hidden_above below b.stack in
      let s = and_parts (branch_hidden below b) (tree_hidden h l && tree_hidden h r1) e in
      let k = and_parts (tree_hidden h l) (tree_hidden h r1) s.1 in
      let q = and_parts (tree_right u l) (tree_right u r1) (and_parts _ (tree_right u l && tree_right u r1) r).1 in
      together (branch_hidden below b) (tree_hidden h l && tree_hidden h after) s.0 (together (tree_hidden h l) (tree_hidden h after) k.0 (keeps-hidden o v h g.1 w r1 after k.1 q.1 g.3 is))
