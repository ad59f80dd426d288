-- The turns of any code on words are those on names, whichever way variables are handed on.
use Rattle.std.proofs.Common.{◌≡◌, ℕ, suc, ◌-◌, Bool, true, false, cond, Option, Some, None, List, [], ◌∷◌, refl, sym, ap, subst}
use Rattle.std.specs.Prelude.{nat_lt, not}
use Rattle.perm_tree.specs.declared.ast.Span.{Span}
use Rattle.perm_tree.specs.declared.errors.TrapKind.{TrapKind}
use Rattle.perm_tree.specs.declared.errors.TrapKind.TheVariants.{StackOverflow}
use Rattle.perm_tree.specs.Code.{Tie, Shares, Raises, Lends, Code, End, Give, Return, Do, If, While, Par, Recover, UnitCode}
use Rattle.perm_tree.specs.Vars.{Vars as VarSet, those}
use Rattle.perm_meaning.specs.Values.{Value, Number, Truth, Null, Reference, Eval, Gives, Traps, Mistyped}
use Rattle.perm_meaning.specs.Words.{words}
use Rattle.perm_meaning.specs.Expressions.{tagged, assign, assign_into, look_up, clear, clear_all, eval, value_of}
use Rattle.perm_meaning.specs.Names.{Name, Mark}
use Rattle.perm_meaning.specs.Machine.{Frame, OpenBlock, OpenRecover, OpenCall, Blocks, Trapped, On, Splits, Turn}
use Rattle.perm_meaning.specs.Effects.{Calling, Act, GoesOn, Calls, Halts, Resumption, Does, Sticks, depth_limit, effect}
use Rattle.perm_meaning.specs.Custody.{Custody, Copies, Moves, parting, only_at, only, within_recover, laid_by, back_from_recover, while_called, lent_by, mentions_l, mentions_r, writes_l, writes_r, back_l, back_r, in_neither}
use Rattle.perm_meaning.specs.Turns.{blocks, lent_back, tick, trap, called, returned, acted, turn_of, on_value, by_truth, on_test, given_back, turn}
use Rattle.perm_meaning.specs.NamedHeap as on_names
use Rattle.perm_meaning.specs.NamedHeap.{Held, marks, named}
use Rattle.perm_meaning.specs.WordHeap as on_words
use Rattle.perm_meaning.specs.WordHeap.{NoMark, no_marks, worded}
use Rattle.perm_meaning.specs.Relate.{OptionR, StackR, DidR, TurnR}
use Rattle.perm_meaning.specs.Shows.{Bases, Grows, IsWordOf, AnyMark}
use Rattle.perm_meaning.specs.Literals.{CodeFits}
use Rattle.perm_meaning.proofs.OnWords.Related.{vars-set, vars-either, vars-merged, stack-up}
use Rattle.perm_meaning.proofs.OnWords.Heaps.{word-grows}
use Rattle.perm_meaning.proofs.OnWords.NewObjects.{Asks}
use Rattle.perm_meaning.proofs.OnWords.Simulate.{Alike}
use Rattle.perm_meaning.proofs.OnWords.ExpressionsAlike.{EvalR, look_up-alike, eval-alike, value-alike}
use Rattle.perm_meaning.proofs.OnWords.EffectsAlike.{Vars, Owns, clear-alike, clear_all-alike, owns-grow, with-alike, CallingR, ActR, EffectR, effect-alike}

-- ---------- variables that are handed on ----------
module _ (b : Bases) where
  only_at-alike : (i : ℕ) (G : VarSet) (vs : List Held) (ws : List ℕ) → Vars b vs ws → Vars b (only_at tagged i G vs) (only_at words i G ws)
  only_at-alike i G [] [] h = tt
  only_at-alike i G [] (w ∷ ws) h = absurd h
  only_at-alike i G (v ∷ vs) [] h = absurd h
  only_at-alike i G (v ∷ vs) (w ∷ ws) h = (chosen (G i), only_at-alike (suc i) G vs ws h.1)
    where
      chosen : (t : Bool) → IsWordOf b (cond t v None) (cond t w w)
      chosen true = h.0
      chosen false = tt

  -- those of a set
  only-alike : (G : VarSet) (vs : List Held) (ws : List ℕ) → Vars b vs ws → Vars b (only tagged G vs) (only words G ws)
  only-alike G vs ws h = only_at-alike 0 G vs ws h

  within-alike : (c : Custody) (hides : List ℕ) (vs : List Held) (ws : List ℕ) → Vars b vs ws → Vars b (within_recover tagged c hides vs) (within_recover words c hides ws)
  within-alike Copies hides vs ws h = h
  within-alike Moves hides vs ws h = only-alike (λ x. not (those hides x)) vs ws h

  laid-alike : (c : Custody) (hides : List ℕ) (vs : List Held) (ws : List ℕ) → Vars b vs ws → Vars b (laid_by tagged c hides vs) (laid_by words c hides ws)
  laid-alike Copies hides vs ws h = tt
  laid-alike Moves hides vs ws h = only-alike (those hides) vs ws h

  back-alike : (c : Custody) (hides : List ℕ) (saved : List Held) (saved' : List ℕ) (vs : List Held) (ws : List ℕ) → Vars b saved saved' → Vars b vs ws → Vars b (back_from_recover tagged c hides saved vs) (back_from_recover words c hides saved' ws)
  back-alike Copies hides saved saved' vs ws h k = k
  back-alike Moves hides saved saved' vs ws h k = vars-either (IsWordOf b) 0 (those hides) saved saved' vs ws h k

  called-vars-alike : (c : Custody) (tie : Tie) (y : ℕ) (vs : List Held) (ws : List ℕ) → Vars b vs ws → Vars b (while_called tagged c tie y vs) (while_called words c tie y ws)
  called-vars-alike Copies tie y vs ws h = h
  called-vars-alike Moves Lends y vs ws h = clear-alike b vs ws y h
  called-vars-alike Moves Shares y vs ws h = h
  called-vars-alike Moves Raises y vs ws h = h

  lent-alike : (c : Custody) (tie : Tie) (v : Held) (w : ℕ) → IsWordOf b v w → OptionR (IsWordOf b) (lent_by c tie v) (lent_by c tie w)
  lent-alike Copies tie v w h = tt
  lent-alike Moves Lends v w h = h
  lent-alike Moves Shares v w h = tt
  lent-alike Moves Raises v w h = tt

  lent_back-alike : (v : Option Held) (w : Option ℕ) (y : ℕ) (vs : List Held) (ws : List ℕ) → OptionR (IsWordOf b) v w → Vars b vs ws → Vars b (lent_back v y vs) (lent_back w y ws)
  lent_back-alike None None y vs ws h k = k
  lent_back-alike (Some v) (Some w) y vs ws h k = vars-set (IsWordOf b) vs ws y v w k h
  lent_back-alike None (Some w) y vs ws h k = absurd h
  lent_back-alike (Some v) None y vs ws h k = absurd h

  into-alike : (vs : List Held) (ws : List ℕ) (into : Option ℕ) (v : Held) (w : ℕ) → Vars b vs ws → IsWordOf b v w → Vars b (assign_into vs into v) (assign_into ws into w)
  into-alike vs ws None v w h r = h
  into-alike vs ws (Some x) v w h r = vars-set (IsWordOf b) vs ws x v w h r

module _ (c : Custody) (u : UnitCode) where
  abbrev Stacks : Bases → List (Frame Held) → List (Frame ℕ) → Type 0
  Stacks b st st' = StackR (IsWordOf b) st st'

  abbrev TurnsR : Bases → Turn Held Mark on_names.Op → Turn ℕ NoMark on_words.Ask → Type 0
  TurnsR b t s = TurnR IsWordOf (λ b. AnyMark) (Asks u) Grows b t s

  stacks-grow : (b d : Bases) → Grows b d → (st : List (Frame Held)) (st' : List (Frame ℕ)) → Stacks b st st' → Stacks d st st'
  stacks-grow b d g st st' h = stack-up (IsWordOf b) (IsWordOf d) (word-grows b d g) st st' h

  -- ---------- ways out ----------
  trap-alike : (b : Bases) (at : Span) (k j : TrapKind) → k ≡ j → TurnsR b (trap tagged c at k) (trap words c at j)
  trap-alike b at k j e = ((tt, tt), λ d g v w r. ap (λ z. Trapped z at) e)

  -- the branch goes on
  on-alike : (b : Bases) (l : on_names.Own) (m : on_words.Own) (code : Code) (st : List (Frame Held)) (st' : List (Frame ℕ)) → Owns b l m → Stacks b st st' → TurnsR b (tick tagged c (On l code st)) (tick words c (On m code st'))
  on-alike b l m code st st' o k = ((tt, tt), λ d g v w r. (owns-grow b d g l m o, refl, stacks-grow b d g st st' k))

  value-to : (b : Bases) (e : Eval Held) (f : Eval ℕ) (at : Span) (go : Held → Turn Held Mark on_names.Op) (go' : ℕ → Turn ℕ NoMark on_words.Ask) → EvalR b e f → ((v : Value Name) (w : ℕ) → IsWordOf b (Some v) w → TurnsR b (go (Some v)) (go' w))
      → TurnsR b (on_value tagged c e at go) (on_value words c f at go')
  value-to b (Gives (Some v)) (Gives w) at go go' h k = k v w h
  value-to b (Gives (Some v)) (Traps j) at go go' h k = absurd h
  value-to b (Gives (Some v)) Mistyped at go go' h k = absurd h
  value-to b (Gives None) f at go go' h k = absurd h
  value-to b (Traps t) (Traps j) at go go' h k = trap-alike b at t j h
  value-to b (Traps t) (Gives w) at go go' h k = absurd h
  value-to b (Traps t) Mistyped at go go' h k = absurd h
  value-to b Mistyped f at go go' h k = tt

  truth-to : (b : Bases) (v : Value Name) (w : ℕ) (first second : Turn Held Mark on_names.Op) (first' second' : Turn ℕ NoMark on_words.Ask) → IsWordOf b (Some v) w → TurnsR b first first' → TurnsR b second second'
      → TurnsR b (by_truth tagged c (tagged.as_truth (Some v)) first second) (by_truth words c (words.as_truth w) first' second')
  truth-to b (Truth true) w first second first' second' h p q = subst (λ z. TurnsR b first (by_truth words c (words.as_truth z) first' second')) (sym h) p
  truth-to b (Truth false) w first second first' second' h p q = subst (λ z. TurnsR b second (by_truth words c (words.as_truth z) first' second')) (sym h) q
  truth-to b (Number n) w first second first' second' h p q = tt
  truth-to b Null w first second first' second' h p q = tt
  truth-to b (Reference r n) w first second first' second' h p q = tt

  test-to : (b : Bases) (e : Eval Held) (f : Eval ℕ) (at : Span) (first second : Turn Held Mark on_names.Op) (first' second' : Turn ℕ NoMark on_words.Ask) → EvalR b e f → TurnsR b first first' → TurnsR b second second'
      → TurnsR b (on_test tagged c e at first second) (on_test words c f at first' second')
  test-to b (Gives (Some v)) (Gives w) at first second first' second' h p q = truth-to b v w first second first' second' h p q
  test-to b (Gives (Some v)) (Traps j) at first second first' second' h p q = absurd h
  test-to b (Gives (Some v)) Mistyped at first second first' second' h p q = absurd h
  test-to b (Gives None) f at first second first' second' h p q = absurd h
  test-to b (Traps t) (Traps j) at first second first' second' h p q = trap-alike b at t j h
  test-to b (Traps t) (Gives w) at first second first' second' h p q = absurd h
  test-to b (Traps t) Mistyped at first second first' second' h p q = absurd h
  test-to b Mistyped f at first second first' second' h p q = tt

  -- ---------- simple statements ----------
  called-alike : (b : Bases) (x : Calling Held) (y : Calling ℕ) (l : on_names.Own) (m : on_words.Own) (rest : Code) (st : List (Frame Held)) (st' : List (Frame ℕ)) → CallingR u b x y → Owns b l m → Stacks b st st'
      → DidR (IsWordOf b) AnyMark (called tagged c x l rest st) (called words c y m rest st')
  called-alike b x y l m rest st st' h o k = (
    record { vars = h.first; routine = h.routine; depth = ap (λ n. suc n) o.depth; printed = o.printed; mark = tt },
    h.code,
    (
      (
        h.tie,
        h.into,
        h.y,
        subst (λ z. Vars b (while_called tagged c x.tie x.y l.vars) (while_called words c z y.y m.vars)) h.tie
            (subst (λ z. Vars b (while_called tagged c x.tie x.y l.vars) (while_called words c x.tie z m.vars)) h.y (called-vars-alike b c x.tie x.y l.vars m.vars o.vars)),
        subst (λ z. OptionR (IsWordOf b) (lent_by c x.tie x.receiver) (lent_by c z y.receiver)) h.tie (lent-alike b c x.tie x.receiver y.receiver h.receiver),
        o.routine,
        refl,
      ),
      k,
    ),
  )

  acted-alike : (b : Bases) (at : Span) (rest : Code) (st : List (Frame Held)) (st' : List (Frame ℕ)) (a : Act Held Mark) (a' : Act ℕ NoMark) → Stacks b st st' → ActR u b a a' → DidR (IsWordOf b) AnyMark (acted tagged c at rest st a) (acted words c at rest st' a')
  acted-alike b at rest st st' (GoesOn l) (GoesOn m) k h = (h, refl, k)
  acted-alike b at rest st st' (Calls x l) (Calls y m) k h = called-alike b x y l m rest st st' h.0 h.1 k
  acted-alike b at rest st st' (Halts t) (Halts j) k h = ap (λ z. Trapped z at) h
  acted-alike b at rest st st' (GoesOn l) (Calls y m) k h = absurd h
  acted-alike b at rest st st' (GoesOn l) (Halts j) k h = absurd h
  acted-alike b at rest st st' (Calls x l) (GoesOn m) k h = absurd h
  acted-alike b at rest st st' (Calls x l) (Halts j) k h = absurd h
  acted-alike b at rest st st' (Halts t) (GoesOn m) k h = absurd h
  acted-alike b at rest st st' (Halts t) (Calls y m) k h = absurd h

  statement-alike : (b : Bases) (at : Span) (rest : Code) (st : List (Frame Held)) (st' : List (Frame ℕ)) (e : Resumption Held Name Mark) (e' : Resumption ℕ ℕ NoMark) → Stacks b st st' → EffectR u b e e' → TurnsR b (turn_of tagged c at rest st e) (turn_of words c at rest st' e')
  statement-alike b at rest st st' Sticks e' k h = tt
  statement-alike b at rest st st' (Does o told) Sticks k h = absurd h
  statement-alike b at rest st st' (Does o told) (Does p said) k h = (h.0, λ d g v w r. acted-alike d at rest st st' (told v) (said w) (stacks-grow b d g st st' k) (h.1 d g v w r))

  -- ---------- values that are given ----------
  returned-alike : (b : Bases) (v : Held) (w : ℕ) (st : List (Frame Held)) (st' : List (Frame ℕ)) (l : on_names.Own) (m : on_words.Own) → IsWordOf b v w → Stacks b st st' → Owns b l m → TurnsR b (returned tagged c v st l) (returned words c w st' m)
  returned-alike b v w [] [] l m r k o = ((tt, tt), λ d g v' w' r'. word-grows b d g v w r)
  returned-alike b v w [] (f ∷ st') l m r k o = absurd k
  returned-alike b v w (OpenBlock own rest ∷ st) st' l m r k o = tt
  returned-alike b v w (OpenRecover own hides saved rest ∷ st) st' l m r k o = tt
  returned-alike b v w (OpenCall tie into y saved lent caller rest ∷ st) [] l m r k o = absurd k
  returned-alike b v w (OpenCall tie into y saved lent caller rest ∷ st) (OpenBlock own' rest' ∷ st') l m r k o = absurd k.0
  returned-alike b v w (OpenCall tie into y saved lent caller rest ∷ st) (OpenRecover own' hides' saved' rest' ∷ st') l m r k o = absurd k.0
  returned-alike b v w (OpenCall tie into y saved lent caller rest ∷ st) (OpenCall tie' into' y' saved' lent' caller' rest' ∷ st') l m r k o =
      ((tt, tt), λ d g v' w' r'. (owns-grow b d g _ _ (record { vars = variables; routine = k.0.5; depth = ap (λ n. n - 1) o.depth; printed = o.printed; mark = tt }), k.0.6, stacks-grow b d g st st' k.1))
    where
      variables : Vars b (assign_into (lent_back lent y saved) into v) (assign_into (lent_back lent' y' saved') into' w)
      variables =
          subst (λ z. Vars b (assign_into (lent_back lent y saved) into v) (assign_into (lent_back lent' z saved') into' w)) k.0.2
          (subst (λ z. Vars b (assign_into (lent_back lent y saved) into v) (assign_into (lent_back lent' y saved') z w)) k.0.1
          (into-alike b (lent_back lent y saved) (lent_back lent' y saved') into v w (lent_back-alike b lent lent' y saved saved' k.0.4 k.0.3) r))

  given-alike : (b : Bases) (e : Eval Held) (f : Eval ℕ) (w x : ℕ) (st : List (Frame Held)) (st' : List (Frame ℕ)) (l : on_names.Own) (m : on_words.Own) → EvalR b e f → Stacks b st st' → Owns b l m → TurnsR b (given_back tagged c e w x st l) (given_back words c f w x st' m)
  given-alike b (Gives (Some v)) (Gives y) w x (OpenRecover own hides saved rest ∷ st) (OpenRecover own' hides' saved' rest' ∷ st') l m h k o =
      ((tt, tt), λ d g v' w' r'. (owns-grow b d g _ _ (with-alike b l m _ _ o variables), k.0.3, stacks-grow b d g st st' k.1))
    where
      variables : Vars b (assign (back_from_recover tagged c hides saved (clear_all tagged (clear tagged l.vars w) own)) x (Some v)) (assign (back_from_recover words c hides' saved' (clear_all words (clear words m.vars w) own')) x y)
      variables =
          subst (λ z. Vars b (assign (back_from_recover tagged c hides saved (clear_all tagged (clear tagged l.vars w) own)) x (Some v)) (assign (back_from_recover words c hides' saved' (clear_all words (clear words m.vars w) z)) x y)) k.0.0
          (subst (λ z. Vars b (assign (back_from_recover tagged c hides saved (clear_all tagged (clear tagged l.vars w) own)) x (Some v)) (assign (back_from_recover words c z saved' (clear_all words (clear words m.vars w) own)) x y)) k.0.1
          (vars-set (IsWordOf b) _ _ x (Some v) y
          (back-alike b c hides saved saved' _ _ k.0.2 (clear_all-alike b (clear tagged l.vars w) (clear words m.vars w) own (clear-alike b l.vars m.vars w o.vars))) h))
  given-alike b (Gives (Some v)) (Traps j) w x st st' l m h k o = absurd h
  given-alike b (Gives (Some v)) Mistyped w x st st' l m h k o = absurd h
  given-alike b (Gives None) f w x st st' l m h k o = absurd h
  given-alike b (Gives (Some v)) (Gives y) w x [] st' l m h k o = tt
  given-alike b (Gives (Some v)) (Gives y) w x (OpenBlock own rest ∷ st) st' l m h k o = tt
  given-alike b (Gives (Some v)) (Gives y) w x (OpenCall tie into z saved lent caller rest ∷ st) st' l m h k o = tt
  given-alike b (Gives (Some v)) (Gives y) w x (OpenRecover own hides saved rest ∷ st) [] l m h k o = absurd k
  given-alike b (Gives (Some v)) (Gives y) w x (OpenRecover own hides saved rest ∷ st) (OpenBlock own' rest' ∷ st') l m h k o = absurd k.0
  given-alike b (Gives (Some v)) (Gives y) w x (OpenRecover own hides saved rest ∷ st) (OpenCall tie' into' y' saved' lent' caller' rest' ∷ st') l m h k o = absurd k.0
  given-alike b (Traps t) f w x st st' l m h k o = tt
  given-alike b Mistyped f w x st st' l m h k o = tt

  -- ---------- every turn ----------
  pub turn-alike : (b : Bases) (code : Code) (st : List (Frame Held)) (st' : List (Frame ℕ)) (l : on_names.Own) (m : on_words.Own) → CodeFits code → Stacks b st st' → Owns b l m → TurnsR b (turn tagged c u marks code st l) (turn words c u no_marks code st' m)
  turn-alike b End st st' l m f k o = tt
  turn-alike b (Give at w x) st st' l m f k o = given-alike b (look_up tagged l.vars w) (look_up words m.vars w) w x st st' l m (look_up-alike b l.vars m.vars w o.vars) k o
  turn-alike b (Return at a) st st' l m f k o =
      value-to b (value_of tagged a l.vars) (value_of words a m.vars) at (λ v. returned tagged c v st l) (λ w. returned words c w st' m) (value-alike b a l.vars m.vars f o.vars) (λ v w r. returned-alike b (Some v) w st st' l m r k o)
  turn-alike b (Do at i rest) st st' l m f k o = statement-alike b at rest st st' (effect tagged u marks i l) (effect words u no_marks i m) k (effect-alike u b i l m f.0 o)
  turn-alike b (If at e own1 a own2 d rest) st st' l m f k o =
      test-to b (eval tagged e l.vars) (eval words e m.vars) at _ _ _ _ (eval-alike b e l.vars m.vars f.0 o.vars) (on-alike b l m a (OpenBlock own1 rest ∷ st) (OpenBlock own1 rest ∷ st') o ((refl, refl), k)) (on-alike b l m d (OpenBlock own2 rest ∷ st) (OpenBlock own2 rest ∷ st') o ((refl, refl), k))
  turn-alike b (While at e own body rest) st st' l m f k o =
      test-to b (eval tagged e l.vars) (eval words e m.vars) at _ _ _ _ (eval-alike b e l.vars m.vars f.0 o.vars) (on-alike b l m body (OpenBlock own (While at e own body rest) ∷ st) (OpenBlock own (While at e own body rest) ∷ st') o ((refl, refl), k)) (on-alike b l m rest st st' o k)
  turn-alike b (Par at own1 a own2 d rest) st st' l m f k o =
      subst (λ n. TurnsR b (cond (nat_lt l.depth depth_limit) (tick tagged c (Splits (blocks own1 a own2 d) rest)) (trap tagged c at StackOverflow)) (cond (nat_lt n depth_limit) (tick words c (Splits (blocks own1 a own2 d) rest)) (trap words c at StackOverflow))) o.depth
      (which (nat_lt l.depth depth_limit))
    where
      which : (t : Bool) → TurnsR b (cond t (tick tagged c (Splits (blocks own1 a own2 d) rest)) (trap tagged c at StackOverflow)) (cond t (tick words c (Splits (blocks own1 a own2 d) rest)) (trap words c at StackOverflow))
      which true = ((tt, tt), λ d' g v w r. (refl, refl))
      which false = trap-alike b at StackOverflow StackOverflow refl
  turn-alike b (Recover at x own hides body rest) st st' l m f k o =
      on-alike b _ _ body (OpenRecover own hides (laid_by tagged c hides l.vars) rest ∷ st) (OpenRecover own hides (laid_by words c hides m.vars) rest ∷ st') (with-alike b l m _ _ o (within-alike b c hides l.vars m.vars o.vars)) ((refl, refl, laid-alike b c hides l.vars m.vars o.vars, refl), k)

-- ---------- the two machines ----------
-- the code of a branch has numbers of 64 bits
abbrev pub IsShort : on_names.Branch → Type 0
IsShort x = CodeFits x.code

-- the machine on words and that on names are alike
abbrev pub AreAlike : Custody → UnitCode → Type 0
AreAlike c u = Alike (named c u) (worded c u) IsWordOf (λ b. AnyMark) (Asks u) Grows IsShort

pub alike : (c : Custody) (u : UnitCode) → AreAlike c u
alike c u =
    record {
      same = λ b n k e. e;
      longer = λ b d e g h n k q. h n k (g n k q);
      grow = word-grows;
      rise = λ b d g k j q. tt;
      idle = λ b. (tt, tt);
      mark_left = λ b g k q. tt;
      mark_right = λ b g k q. tt;
      mark_after = λ b g k q. tt;
      to_left = λ b n p vs ws h. to_left c b n p vs ws h;
      to_right = λ b n p vs ws h. to_right c b n p vs ws h;
      kept = λ b n p vs ws h. kept c b n p vs ws h;
      joined = λ b n p vs ws ls ls' rs rs' h k q. joined c b n p vs ws ls ls' rs rs' h k q;
      clear_own = λ b vs ws own h. clear_all-alike b vs ws own h;
      turns = λ b x y f h.
          subst (λ z. TurnR IsWordOf (λ b. AnyMark) (Asks u) Grows b (turn tagged c u marks x.code x.stack x.own) (turn words c u no_marks z y.stack y.own)) h.code (turn-alike c u b x.code x.stack y.stack x.own y.own f h.stack h.own);
    }
  where
    to_left : (c : Custody) (b : Bases) (n : ℕ) (p : Blocks) (vs : List Held) (ws : List ℕ) → Vars b vs ws → Vars b ((parting c tagged u).to_left n p vs) ((parting c words u).to_left n p ws)
    to_left Copies b n p vs ws h = h
    to_left Moves b n p vs ws h = only-alike b (mentions_l p) vs ws h

    to_right : (c : Custody) (b : Bases) (n : ℕ) (p : Blocks) (vs : List Held) (ws : List ℕ) → Vars b vs ws → Vars b ((parting c tagged u).to_right n p vs) ((parting c words u).to_right n p ws)
    to_right Copies b n p vs ws h = h
    to_right Moves b n p vs ws h = only-alike b (mentions_r p) vs ws h

    kept : (c : Custody) (b : Bases) (n : ℕ) (p : Blocks) (vs : List Held) (ws : List ℕ) → Vars b vs ws → Vars b ((parting c tagged u).kept n p vs) ((parting c words u).kept n p ws)
    kept Copies b n p vs ws h = h
    kept Moves b n p vs ws h = only-alike b (in_neither (back_l u n p) (back_r u n p)) vs ws h

    joined : (c : Custody) (b : Bases) (n : ℕ) (p : Blocks) (vs : List Held) (ws : List ℕ) (ls : List Held) (ls' : List ℕ) (rs : List Held) (rs' : List ℕ) → Vars b vs ws → Vars b ls ls' → Vars b rs rs'
        → Vars b ((parting c tagged u).joined n p vs ls rs) ((parting c words u).joined n p ws ls' rs')
    joined Copies b n p vs ws ls ls' rs rs' h k q = vars-merged (IsWordOf b) (writes_l p) (writes_r p) vs ws ls ls' rs rs' h k q
    joined Moves b n p vs ws ls ls' rs rs' h k q = vars-merged (IsWordOf b) (back_l u n p) (back_r u n p) vs ws ls ls' rs rs' h k q
