-- What the event of a leaf does that the heap answers: a turn, and the change of labels that its code tells, unless the turn traps, which changes none.
use Rattle.std.proofs.Common.{◌≡◌, ℕ, Bool, true, false, Some, None, List, refl, sym, ap, subst, ◌∙◌}
use Rattle.std.specs.Prelude.{cond}
use Rattle.perm_tree.specs.Code.{Code, UnitCode}
use Rattle.perm_meaning.specs.Names.{Mark}
use Rattle.perm_meaning.specs.Effects.{Tick, Load, Store, Take, Make}
use Rattle.perm_meaning.specs.Machine.{Frame, Failure, Leaf, Here, Stage, Over, Due, stage_by_code, stage, Did, Dies, Turn, Takes, NoTurn, turn_op, next_turn, leaf_op, leaf_on, told_to, done, fill}
use Rattle.perm_meaning.specs.NamedHeap.{Held, Heap, Op, Own, Branch, find}
use Rattle.perm_meaning.specs.Steps.{Answer, Found, Refused, Missing}
use Rattle.perm_meaning.proofs.Leads.{none-some, some-inj}
use Rattle.perm_core.specs.Core.{core, look}
use Rattle.perm_core.specs.Regions.{Labels}
use Rattle.perm_core.specs.NextPicture.{Change, no_change, is_failing, unless_trap}
use Rattle.perm_core.proofs.KeepsPicture.Turns.LeafTurns.{TurnTo, TurnTells, turn-tells, dying, ending, acting, making, beginning, left_block, right_block, into_loop, out_of_loop, parting, recovering, giving, returning}
use Rattle.perm_core.proofs.KeepsPicture.Trees.TreeEvents.{due-none}

module _ (u : UnitCode) (labels : Labels) where
  -- the operation asks nothing of the heap
  abbrev IsTick : Op → Type 0
  IsTick Tick = Unit {0}
  IsTick o = ⊥

  -- a turn that traps asks nothing, and the branch dies
  pub record Died (o : Op) (d : Did Held Mark) : Type 0 where
    pub failure : Failure
    pub idle : o ≡ Tick
    pub dies : d ≡ Dies failure

  pub has-died : (l : Own) (w : Held) (c : Code) (st : List (Frame Held)) (o : Op) (d : Did Held Mark) → TurnTo u l w c st o d → is_failing u labels d ≡ true → Died o d
  has-died _ _ _ _ _ _ (dying c st f) e = record { failure = f; idle = refl; dies = refl }
  has-died _ _ _ _ _ _ (ending at a v q) e = absurd (let no : ⊥ = cc e in no)
  has-died _ _ _ _ _ _ (acting at i rest st o vs l' acts stays) e = absurd (let no : ⊥ = cc e in no)
  has-died _ _ _ _ _ _ (making at i rest st shape k x l' is q) e = absurd (let no : ⊥ = cc e in no)
  has-died _ _ _ _ _ _ (beginning at rest st into tie consumed y m args r this found vs saved lent l' c caller is code q1 q2 q3 goes) e = absurd (let no : ⊥ = cc e in no)
  has-died _ _ _ _ _ _ (left_block at x own1 a own2 a2 rest st) e = absurd (let no : ⊥ = cc e in no)
  has-died _ _ _ _ _ _ (right_block at x own1 a own2 a2 rest st) e = absurd (let no : ⊥ = cc e in no)
  has-died _ _ _ _ _ _ (into_loop at x own body rest st) e = absurd (let no : ⊥ = cc e in no)
  has-died _ _ _ _ _ _ (out_of_loop at x own body rest st) e = absurd (let no : ⊥ = cc e in no)
  has-died _ _ _ _ _ _ (parting at own1 a own2 a2 rest st p same) e = absurd (let no : ⊥ = cc e in no)
  has-died _ _ _ _ _ _ (recovering at x own hides body rest st l' saved goes q) e = absurd (let no : ⊥ = cc e in no)
  has-died _ _ _ _ _ _ (giving at y x own hides saved rest st v l' had q goes) e = absurd (let no : ⊥ = cc e in no)
  has-died _ _ _ _ _ _ (returning at a tie into y saved lent caller rest st v l' q goes) e = absurd (let no : ⊥ = cc e in no)

  -- so one that asks something doesn't trap
  fails-idle : (l : Own) (w : Held) (c : Code) (st : List (Frame Held)) (o : Op) (d : Did Held Mark) → TurnTo u l w c st o d → (IsTick o → ⊥) → is_failing u labels d ≡ false
  fails-idle l w c st o d turn asks = go (is_failing u labels d) refl
    where
      go : (t : Bool) → is_failing u labels d ≡ t → t ≡ false
      go true q = absurd (asks (subst IsTick (sym (has-died l w c st o d turn q).idle) tt))
      go false q = refl

  -- what the heap finds
  abbrev what_found : Answer Held → Held
  what_found (Found v) = v
  what_found Refused = None
  what_found Missing = None

  -- so it traps whatever it is told, if it does where it is told what the heap finds
  fails-alike : (l : Own) (c : Code) (st : List (Frame Held)) (fits : ℕ → Bool) (o : Op) (told : Held → Did Held Mark) (h : Heap) (w : Held) → TurnTells u l c st (Takes o told) → find fits o h ≡ Found w → is_failing u labels (told None) ≡ is_failing u labels (told w)
  fails-alike l c st fits Tick told h w tells e = ap (λ x. is_failing u labels (told (what_found x))) e
  fails-alike l c st fits (Load r f) told h w tells e = fails-idle l None c st (Load r f) (told None) (tells None) (λ q. q) ∙ sym (fails-idle l w c st (Load r f) (told w) (tells w) (λ q. q))
  fails-alike l c st fits (Store r f v) told h w tells e = fails-idle l None c st (Store r f v) (told None) (tells None) (λ q. q) ∙ sym (fails-idle l w c st (Store r f v) (told w) (tells w) (λ q. q))
  fails-alike l c st fits (Take r f) told h w tells e = fails-idle l None c st (Take r f) (told None) (tells None) (λ q. q) ∙ sym (fails-idle l w c st (Take r f) (told w) (tells w) (λ q. q))
  fails-alike l c st fits (Make by shape n) told h w tells e = fails-idle l None c st (Make by shape n) (told None) (tells None) (λ q. q) ∙ sym (fails-idle l w c st (Make by shape n) (told w) (tells w) (λ q. q))

  -- the event of a leaf that asks o and is told w
  pub record LeafTold (b : Branch) (o : Op) (w : Held) : Type 0 where
    pub t : ℕ
    pub d : Did Held Mark
    pub open_ : b.close ≡ None
    pub due : stage b ≡ Due t
    pub turn : TurnTo u b.own w b.code b.stack o d
    pub same : fill (core u) Here (Leaf b) (Some w) ≡ done (core u) b t d
    pub changes : (c : Change) → unless_trap u labels (next_turn (core u) b) c ≡ cond (is_failing u labels d) no_change c

  pub leaf-told : (fits : ℕ → Bool) (b : Branch) (o : Op) (h : Heap) (w : Held) → look u Here (Leaf b) ≡ Some o → find fits o h ≡ Found w → LeafTold b o w
  leaf-told fits b o h w asks answered = by_stage (stage b) refl asks
    where
      by_turn : (t : ℕ) → stage b ≡ Due t → (x : Turn Held Mark Op) → next_turn (core u) b ≡ x → TurnTells u b.own b.code b.stack x → turn_op (core u) x ≡ Some o → LeafTold b o w
      by_turn t is NoTurn here tells e = none-some e
      by_turn t is (Takes q told) here tells e =
          let same_op : q ≡ o = some-inj e in
          record {
            t = t;
            d = told w;
            open_ = due-none b.close (stage_by_code b.code b.stack b.turns b.own) b.turns t b.own is;
            due = is;
            turn = subst (λ (p : Op). TurnTo u b.own w b.code b.stack p (told w)) same_op (tells w);
            same = ap (λ s. leaf_on (core u) b s (Some w)) is ∙ ap (λ x. told_to (core u) b t x (Some w)) here;
            changes = λ c.
                ap (λ x. unless_trap u labels x c) here
                ∙ ap (λ f. cond f no_change c) (fails-alike b.own b.code b.stack fits q told h w tells (ap (λ (p : Op). find fits p h) same_op ∙ answered));
          }

      by_stage : (s : Stage Held) → stage b ≡ s → leaf_op (core u) b s ≡ Some o → LeafTold b o w
      by_stage (Over f) is e = none-some e
      by_stage (Due t) is e = by_turn t is (next_turn (core u) b) refl (turn-tells u b.own b.code b.stack) e
