-- Each turn under moves is a turn under copies.
use Rattle.std.proofs.Common.{◌≡◌, ℕ, true, ◌∷◌, Option, Some, None, refl, List, sym, ◌∙◌, Bool, false, length, ◌⊎◌, inl, inr, subst, arith, cond}
use Rattle.std.specs.Prelude.{not, slice_get, nat_lt}
use Rattle.std.proofs.lemmas.Bool.{or_parts, or_left, or_cases}
use Rattle.perm_tree.specs.declared.ast.Span.{Span}
use Rattle.perm_tree.specs.Code.{Code, End, Return, Give, Do, If, Par, Recover, UnitCode, While}
use Rattle.perm_tree.specs.Vars.{Vars, just, those, plus, minus}
use Rattle.perm_tree.specs.Mentions.{consumes, assigns, written, block_writes}
use Rattle.perm_tree.specs.declared.errors.TrapKind.{TrapKind}
use Rattle.perm_tree.specs.declared.errors.TrapKind.TheVariants.{StackOverflow}
use Rattle.perm_meaning.specs.Custody.{Copies, Moves, only, from_either}
use Rattle.perm_meaning.specs.Turns.{blocks, on_value, lent_back, turn, tick, trap, returned, acted, turn_of, by_truth, on_test, given_back}
use Rattle.perm_meaning.specs.Expressions.{tagged, clear, clear_all, assign_into, cleared_slot, look_up, eval, value_of}
use Rattle.perm_meaning.specs.NamedHeap.{Held, Own, marks, Op}
use Rattle.perm_meaning.specs.Values.{Eval, Gives, Traps, Mistyped}
use Rattle.perm_meaning.specs.Names.{Name, Mark}
use Rattle.perm_meaning.specs.Effects.{Act, Resumption, Does, Sticks, depth_limit, effect}
use Rattle.perm_meaning.specs.Machine.{Turn, Takes, NoTurn, OpenRecover, Splits}
use Rattle.perm_meaning.specs.Steady.{AreApart, given_var, GivesOnlyTo, alters, changed, IsSteadyCode, IsSteady}
use Rattle.perm_meaning.specs.HoldsFewer.{Frame, IsPart, AreParts, IsPartAt, ArePartsOn, AreKept, AreLaidBy, hidden, FitsStacks, at_base, at_block, left_of, LeavesAlone, in_block, in_recover, in_call, DidHoldsFewer, on, splits, ends, dies, at_recover, at_call}
use Rattle.perm_meaning.proofs.OnWords.Related.{vars-length, vars-set}
use Rattle.perm_meaning.proofs.MovesAndCopies.Parts.{part-same, parts-same, only-parts, parts-at, parts-from-places, only-length, either-length, either-at}
use Rattle.perm_meaning.proofs.MovesAndCopies.KeptVariables.{kept-same, kept-set, kept-into, kept-cleared, apart-left, apart-right, apart-plus, kept-right, on-cleared-one, on-set, on-into, on-then, on-block-end, on-fewer, apart-without}
use Rattle.perm_meaning.proofs.MovesAndCopies.Stacks.{stacks-other-variables, stacks-other-code, changes-none-hidden, side-other-variables, side-other-code, side-variables, side-writes-none}
use Rattle.perm_meaning.proofs.MovesAndCopies.Ends.{parts-clear, parts-clear-all}
use Rattle.perm_meaning.proofs.MovesAndCopies.Evaluations.{EvalHoldsFewer, look-fewer, eval-fewer, value-of-fewer}
use Rattle.perm_meaning.proofs.MovesAndCopies.Statements.{ActHoldsFewer, goes, traps, EffectHoldsFewer, effect-fewer, calls}

module _ (K : Vars) (vp : List Held) (l : Own) (ws : List Held) (st st' : List Frame) where
  -- the same is asked, and what is done by one answer is related; where the first has no turn, nothing is said
  abbrev pub TurnHoldsFewer : Turn Held Mark Op → Turn Held Mark Op → Type 0
  TurnHoldsFewer NoTurn t = Unit {0}
  TurnHoldsFewer (Takes o told) NoTurn = ⊥
  TurnHoldsFewer (Takes o told) (Takes p said) = (o ≡ p) × ((v : Held) → DidHoldsFewer K vp l ws st st' (told v) (said v))

  trap-fewer : (at : Span) (t : TrapKind) → TurnHoldsFewer (trap tagged Moves at t) (trap tagged Copies at t)
  trap-fewer at t = (refl, λ v. dies)

  value-fewer : (e f : Eval Held) (at : Span) (go go' : Held → Turn Held Mark Op) → EvalHoldsFewer e f → ((v : Held) → TurnHoldsFewer (go v) (go' v)) → TurnHoldsFewer (on_value tagged Moves e at go) (on_value tagged Copies f at go')
  value-fewer (Gives v) f at go go' h k = subst (λ z. TurnHoldsFewer (go v) (on_value tagged Copies z at go')) (sym h) (k v)
  value-fewer (Traps t) f at go go' h k = subst (λ z. TurnHoldsFewer (trap tagged Moves at t) (on_value tagged Copies z at go')) (sym h) (trap-fewer at t)
  value-fewer Mistyped f at go go' h k = tt

  test-fewer : (e f : Eval Held) (at : Span) (x y x' y' : Turn Held Mark Op) → EvalHoldsFewer e f → TurnHoldsFewer x x' → TurnHoldsFewer y y' → TurnHoldsFewer (on_test tagged Moves e at x y) (on_test tagged Copies f at x' y')
  test-fewer (Gives v) f at x y x' y' h p q = subst (λ z. TurnHoldsFewer (by_truth tagged Moves (tagged.as_truth v) x y) (on_test tagged Copies z at x' y')) (sym h) (which (tagged.as_truth v))
    where
      which : (t : Option Bool) → TurnHoldsFewer (by_truth tagged Moves t x y) (by_truth tagged Copies t x' y')
      which None = tt
      which (Some true) = p
      which (Some false) = q
  test-fewer (Traps t) f at x y x' y' h p q = subst (λ z. TurnHoldsFewer (trap tagged Moves at t) (on_test tagged Copies z at x' y')) (sym h) (trap-fewer at t)
  test-fewer Mistyped f at x y x' y' h p q = tt

-- a variable takes a result
result-into-parts : (into : Option ℕ) (vs us : List Held) (v : Held) → AreParts vs us → AreParts (assign_into vs into v) (assign_into us into v)
result-into-parts None vs us v q = q
result-into-parts (Some x) vs us v q = vars-set IsPart vs us x v v q (part-same v)

-- the hidden variables are back
recovered-parts : (hides : List ℕ) (saved vs us : List Held) → AreLaidBy (those hides) saved us → AreParts vs us → AreParts (from_either (those hides) saved vs) us
recovered-parts hides saved vs us q r = parts-from-places _ us (either-length 0 (those hides) saved vs same ∙ vars-length IsPart vs us r) each
  where
    same : length saved ≡ length vs
    same = q.long ∙ sym (vars-length IsPart vs us r)

    each : (x : ℕ) → IsPartAt (slice_get (from_either (those hides) saved vs) x) (slice_get us x)
    each x = subst (λ z. IsPartAt z (slice_get us x)) (sym (either-at 0 (those hides) saved vs x x (omega arith) same)) (which (those hides x) refl)
      where
        which : (t : Bool) → those hides x ≡ t → IsPartAt (cond t (slice_get saved x) (slice_get vs x)) (slice_get us x)
        which true e = q.part x e
        which false e = parts-at vs us r x

-- both lists hold no more than a third
either-on : (G H : Vars) (saved vs us : List Held) → length saved ≡ length vs → ArePartsOn H saved us → ArePartsOn H vs us → ArePartsOn H (from_either G saved vs) us
either-on G H saved vs us e q r x h = subst (λ z. IsPartAt z (slice_get us x)) (sym (either-at 0 G saved vs x x (omega arith) e)) (which (G x))
  where
    which : (t : Bool) → IsPartAt (cond t (slice_get saved x) (slice_get vs x)) (slice_get us x)
    which true = q x h
    which false = r x h

-- what a set of variables keeps is no more than it was
only-on : (G H : Vars) (vs : List Held) → ArePartsOn H (only tagged G vs) vs
only-on G H vs x h = parts-at (only tagged G vs) vs (only-parts 0 G vs vs (parts-same vs)) x

-- what the code gives doesn't stand in a set in which its variable doesn't
gives-apart : (H : Vars) (x : ℕ) (c : Code) → GivesOnlyTo x c → AreApart H (just x) → AreApart H (given_var c)
gives-apart H x c g a y h = which (given_var c y) refl
  where
    which : (t : Bool) → given_var c y ≡ t → given_var c y ≡ false
    which true e = absurd (let no : true ≡ false = sym (g y e) ∙ a y h in let z : ⊥ = cc no in z)
    which false e = e

module _ (u : UnitCode) (steady : IsSteady u) {K : Vars} {vp : List Held} (l : Own) (ws : List Held) (h : AreParts l.vars ws) where
  -- ---------- simple statements ----------
  acted-fewer : (at : Span) (rest : Code) {st st' : List Frame} (a a' : Act Held Mark) → IsSteadyCode rest → FitsStacks (length vp) rest ws st st' → LeavesAlone K vp rest l.vars st → ActHoldsFewer (hidden st') (left_of K st) l.vars ws a a'
      → DidHoldsFewer K vp l ws st st' (acted tagged Moves at rest st a) (acted tagged Copies at rest st' a')
  acted-fewer at rest {st = st} a a' s b i (goes {n = n} q k j) = on q s (stacks-other-variables b k) (side-other-variables i (on-then (left_of K st) n.vars l.vars vp j (side-variables i)))
  acted-fewer at rest {st = st} a a' s b i (calls {x = x} {n = n} {us = us} q k j d d' e c) =
      on (parts-same x.first) c (at_call d (subst (λ z. AreParts z us) (sym e) q) s (stacks-other-variables b k))
      (in_call d' (side-other-variables i (subst (λ z. ArePartsOn (left_of K st) z vp) (sym e) (on-then (left_of K st) n.vars l.vars vp j (side-variables i)))))
  acted-fewer at rest a a' s b i traps = dies

  statement-fewer : (at : Span) (rest : Code) {st st' : List Frame} (e e' : Resumption Held Name Mark) → IsSteadyCode rest → FitsStacks (length vp) rest ws st st' → LeavesAlone K vp rest l.vars st → EffectHoldsFewer u steady (hidden st') (left_of K st) l.vars ws e e'
      → TurnHoldsFewer K vp l ws st st' (turn_of tagged Moves at rest st e) (turn_of tagged Copies at rest st' e')
  statement-fewer at rest Sticks e' s b i q = tt
  statement-fewer at rest (Does o told) Sticks s b i q = absurd q
  statement-fewer at rest (Does o told) (Does p said) s b i q = (q.0, λ v. acted-fewer at rest (told v) (said v) s b i (q.1 v))

  -- ---------- returns ----------
  returned-fewer : (v : Held) {c : Code} {st st' : List Frame} → FitsStacks (length vp) c ws st st' → LeavesAlone K vp c l.vars st → TurnHoldsFewer K vp l ws st st' (returned tagged Moves v st l) (returned tagged Copies v st' (record l { vars = ws }))
  returned-fewer v (at_base q) i = (refl, λ w. ends)
  returned-fewer v (at_block a s b) i = tt
  returned-fewer v (at_recover a g q s b) i = tt
  returned-fewer v (at_call {saved = saved} {saved' = saved'} {into = into} {y = y} {lent = lent} {st = sv} a q s b) (in_call d i) = (
    refl,
    λ w. on (result-into-parts into (lent_back lent y saved) saved' v q) s (stacks-other-variables b (kept-into into v a (kept-same _ saved')))
        (side-other-variables i (on-into (left_of K sv) (lent_back lent y saved) vp into v d (side-variables i))),
  )

  -- ---------- recover blocks ----------
  given-fewer : (e f : Eval Held) (at : Span) (w x : ℕ) {st st' : List Frame} → EvalHoldsFewer e f → FitsStacks (length vp) (Give at w x) ws st st' → LeavesAlone K vp (Give at w x) l.vars st → TurnHoldsFewer K vp l ws st st' (given_back tagged Moves e w x st l) (given_back tagged Copies f w x st' (record l { vars = ws }))
  given-fewer (Gives v) f at w x k (at_base q) i = tt
  given-fewer (Gives v) f at w x k (at_block a s b) i = tt
  given-fewer (Gives v) f at w x k (at_call a q s b) i = tt
  given-fewer (Gives v) f at w x {st = st} {st' = st'} k (at_recover {rest = rest} {saved = saved} {saved' = saved'} {own = own} {hides = hides} {st = sv} {st' = sv'} a g q s b) (in_recover d g' p i) =
      subst (λ z. TurnHoldsFewer K vp l ws (OpenRecover own hides saved rest ∷ sv) (OpenRecover own hides saved' rest ∷ sv') (given_back tagged Moves (Gives v) w x (OpenRecover own hides saved rest ∷ sv) l) (given_back tagged Copies z w x (OpenRecover own hides saved' rest ∷ sv') (record l { vars = ws }))) (sym k) (
        refl,
        λ j. on
            (vars-set IsPart (from_either (those hides) saved vs) us x v v (recovered-parts hides saved vs us there parts) (part-same v))
            s (stacks-other-variables b (kept-set x v g (kept-right (those hides) (hidden sv') kept)))
            (side-other-variables i (on-set (left_of K sv) (from_either (those hides) saved vs) vp x v g' (either-on (those hides) (left_of K sv) saved vs vp (there.long ∙ sym (vars-length IsPart vs us parts)) (side-variables i) (on-block-end (left_of K sv) own (clear tagged l.vars w) vp (on-cleared-one (minus (left_of K sv) (those own)) l.vars vp w p))))),
      )
    where
      vs : List Held
      vs = clear_all tagged (clear tagged l.vars w) own

      us : List Held
      us = clear_all tagged (clear tagged ws w) own

      parts : AreParts (clear_all tagged (clear tagged l.vars w) own) (clear_all tagged (clear tagged ws w) own)
      parts = parts-clear-all own (clear tagged l.vars w) (clear tagged ws w) (parts-clear l.vars ws w h)

      kept : AreKept (plus (those hides) (hidden sv')) ws (clear_all tagged (clear tagged ws w) own)
      kept = kept-cleared own (apart-right (just w) (those own) a) (kept-set w (cleared_slot tagged (slice_get ws w)) (apart-left (just w) (those own) a) (kept-same _ ws))

      there : AreLaidBy (those hides) saved (clear_all tagged (clear tagged ws w) own)
      there = record { long = q.long ∙ sym kept.long; part = λ x h. subst (λ z. IsPartAt (slice_get saved x) z) (sym (kept.same x (or_left (those hides x) (hidden sv' x) h))) (q.part x h) }
  given-fewer (Traps t) f at w x k b i = tt
  given-fewer Mistyped f at w x k b i = tt

  -- ---------- every turn ----------
  pub turn-fewer : (c : Code) {st st' : List Frame} → IsSteadyCode c → FitsStacks (length vp) c ws st st' → LeavesAlone K vp c l.vars st → TurnHoldsFewer K vp l ws st st' (turn tagged Moves u marks c st l) (turn tagged Copies u marks c st' (record l { vars = ws }))
  turn-fewer End s b i = tt
  turn-fewer (Give at w x) s b i = given-fewer (look_up tagged l.vars w) (look_up tagged ws w) at w x (look-fewer l.vars ws w h) b i
  turn-fewer (Return at a) {st = st} {st' = st'} s b i =
      value-fewer K vp l ws st st' (value_of tagged a l.vars) (value_of tagged a ws) at (λ v. returned tagged Moves v st l) (λ v. returned tagged Copies v st' (record l { vars = ws })) (value-of-fewer a l.vars ws h) (λ v. returned-fewer v b i)
  turn-fewer (Do at i rest) {st = st} {st' = st'} s b j =
      statement-fewer at rest (effect tagged u marks i l) (effect tagged u marks i (record l { vars = ws })) s.1 (stacks-other-code b (λ x e. (or_parts (alters i x) (changed rest x) e).1) (λ x e. e))
      (side-other-code j (λ x e. (or_parts (plus (consumes i) (assigns i) x) (written rest x) e).1) (λ x e. e))
      (effect-fewer u steady (hidden st') (left_of K st) l ws h i s.0 (apart-left (alters i) (changed rest) (changes-none-hidden b)) (apart-left (plus (consumes i) (assigns i)) (written rest) (side-writes-none j)))
  turn-fewer (If at e own1 a own2 d rest) {st = st} {st' = st'} s b i =
      test-fewer K vp l ws st st' (eval tagged e l.vars) (eval tagged e ws) at _ _ _ _ (eval-fewer e l.vars ws h) (
        refl,
        λ v. on h s.0 (at_block (apart-left (plus (changed a) (those own1)) (plus (plus (changed d) (those own2)) (changed rest)) (changes-none-hidden b)) s.2 after)
            (in_block (apart-without (left_of K st) (written a) own1 (apart-left (minus (written a) (those own1)) (plus (minus (written d) (those own2)) (written rest)) (side-writes-none i))) (on-fewer (left_of K st) own1 l.vars vp (side-variables i)) after'),
      ) (
        refl,
        λ v. on h s.1 (at_block (apart-left (plus (changed d) (those own2)) (changed rest) (apart-right (plus (changed a) (those own1)) (plus (plus (changed d) (those own2)) (changed rest)) (changes-none-hidden b))) s.2 after)
            (in_block (apart-without (left_of K st) (written d) own2 (apart-left (minus (written d) (those own2)) (written rest) (apart-right (minus (written a) (those own1)) (plus (minus (written d) (those own2)) (written rest)) (side-writes-none i)))) (on-fewer (left_of K st) own2 l.vars vp (side-variables i)) after'),
      )
    where
      after : FitsStacks (length vp) rest ws st st'
      after = stacks-other-code b (λ x e. (or_parts (plus (changed d) (those own2) x) (changed rest x) (or_parts (plus (changed a) (those own1) x) (plus (plus (changed d) (those own2)) (changed rest) x) e).1).1) (λ x e. e)

      after' : LeavesAlone K vp rest l.vars st
      after' = side-other-code i (λ x e. (or_parts (minus (written d) (those own2) x) (written rest x) (or_parts (minus (written a) (those own1) x) (plus (minus (written d) (those own2)) (written rest) x) e).1).1) (λ x e. e)
  turn-fewer (While at e own body rest) {st = st} {st' = st'} s b i =
      test-fewer K vp l ws st st' (eval tagged e l.vars) (eval tagged e ws) at _ _ _ _ (eval-fewer e l.vars ws h) (
        refl,
        λ v. on h s.0 (at_block (apart-left (plus (changed body) (those own)) (changed rest) (changes-none-hidden b)) s b)
            (in_block (apart-without (left_of K st) (written body) own (apart-left (minus (written body) (those own)) (written rest) (side-writes-none i))) (on-fewer (left_of K st) own l.vars vp (side-variables i)) i),
      ) (
        refl,
        λ v. on h s.1 (stacks-other-code b (λ x e. (or_parts (plus (changed body) (those own) x) (changed rest x) e).1) (λ x e. e))
            (side-other-code i (λ x e. (or_parts (minus (written body) (those own) x) (written rest x) e).1) (λ x e. e)),
      )
  turn-fewer (Par at own1 a own2 d rest) {st = st} {st' = st'} s b i = which (nat_lt l.depth depth_limit)
    where
      both : AreApart (left_of K st) (plus (block_writes own1 a) (block_writes own2 d))
      both = apart-plus (block_writes own1 a) (block_writes own2 d) (apart-left (block_writes own1 a) (plus (block_writes own2 d) (written rest)) (side-writes-none i))
          (apart-left (block_writes own2 d) (written rest) (apart-right (block_writes own1 a) (plus (block_writes own2 d) (written rest)) (side-writes-none i)))

      which : (t : Bool) → TurnHoldsFewer K vp l ws st st' (cond t (tick tagged Moves (Splits (blocks own1 a own2 d) rest)) (trap tagged Moves at StackOverflow)) (cond t (tick tagged Copies (Splits (blocks own1 a own2 d) rest)) (trap tagged Copies at StackOverflow))
      which true = (
        refl,
        λ v. splits s.1.0 s.1.1 s.0 (apart-left (plus (block_writes own1 a) (block_writes own2 d)) (changed rest) (changes-none-hidden b)) both s.2
            (stacks-other-code b (λ x e. (or_parts (plus (block_writes own1 a) (block_writes own2 d) x) (changed rest x) e).1) (λ x e. e))
            (side-other-code i (λ x e. (or_parts (block_writes own2 d x) (written rest x) (or_parts (block_writes own1 a x) (plus (block_writes own2 d) (written rest) x) e).1).1) (λ x e. e)),
      )
      which false = (refl, λ v. dies)
  turn-fewer (Recover at x own hides body rest) {st = st} {st' = st'} s b i = (
    refl,
    λ v. on (only-parts 0 (λ x. not (those hides x)) l.vars ws h) s.1
        (at_recover both (apart-left (given_var body) (plus (plus (changed body) (those own)) (changed rest)) (changes-none-hidden b))
        (record { long = only-length 0 (those hides) l.vars ∙ vars-length IsPart l.vars ws h; part = λ x e. parts-at (only tagged (those hides) l.vars) ws (only-parts 0 (those hides) l.vars ws h) x }) s.2
        (stacks-other-code b (λ x e. (or_parts (plus (changed body) (those own) x) (changed rest x) (or_parts (given_var body x) (plus (plus (changed body) (those own)) (changed rest) x) e).1).1) (λ x e. e)))
        (in_recover (apart-without (left_of K st) (written body) own (apart-left (minus (written body) (those own)) (written rest) (apart-right (just x) (plus (minus (written body) (those own)) (written rest)) (side-writes-none i))))
        (gives-apart (left_of K st) x body s.0.gives (apart-left (just x) (plus (minus (written body) (those own)) (written rest)) (side-writes-none i)))
        (on-then (minus (left_of K st) (those own)) (only tagged (λ x. not (those hides x)) l.vars) l.vars vp (only-on (λ x. not (those hides x)) (minus (left_of K st) (those own)) l.vars) (on-fewer (left_of K st) own l.vars vp (side-variables i)))
        (side-other-variables (side-other-code i (λ y e. (or_parts (minus (written body) (those own) y) (written rest y) (or_parts (just x y) (plus (minus (written body) (those own)) (written rest) y) e).1).1) (λ x e. e))
        (on-then (left_of K st) (only tagged (those hides) l.vars) l.vars vp (only-on (those hides) (left_of K st) l.vars) (side-variables i)))),
  )
    where
      both : AreApart (plus (those hides) (hidden st')) (plus (changed body) (those own))
      both x e = which (or_cases (those hides x) (hidden st' x) e)
        where
          which : (those hides x ≡ true) ⊎ (hidden st' x ≡ true) → plus (changed body) (those own) x ≡ false
          which (inl q) = s.0.keeps x q
          which (inr q) = apart-left (plus (changed body) (those own)) (changed rest) (apart-right (given_var body) (plus (plus (changed body) (those own)) (changed rest)) (changes-none-hidden b)) x q
