-- Each event takes a turn or joins a par, and a par takes a turn: so a list has at most twice as many events as there are turns.
use Rattle.std.proofs.Common.{◌≡◌, ℕ, Bool, zero, suc, ◌+◌, ◌*◌, ◌≤◌, List, [], ◌∷◌, length, Option, Some, None, refl, sym, ap, subst, arith}
use Rattle.std.specs.Prelude.{ℤ, option_and_then}
use Rattle.perm_tree.specs.Code.{UnitCode, Code, End, Give, Return, Do, If, While, Par, Recover}
use Rattle.perm_meaning.specs.Machine.{Own, Frame, OpenBlock, OpenRecover, OpenCall, Close, Returning, Failing, Branch, Task, Leaf, Fork, Blocks, Way, Here, GoL, GoR, Final, Fine, GaveBack, Failed, Stage, Over, Due, over, stage_by_turns, stage_by_code, stage_from, stage, final, turns_of, join_final, if_both_over, Did, On, Splits, Ends, Dies, Turn, Takes, NoTurn, Machine, settled, done, told_to, turn_op, next_turn, leaf_op, leaf_on, resumed, join_of, look, fill}
use Rattle.perm_meaning.specs.NamedHeap.{memory}
use Rattle.perm_meaning.specs.Steps.{Memory, Answer, Found, Refused, Missing, State, within, answered, asked, step, runs}
use Rattle.perm_meaning.proofs.Leads.{some-inj, none-some}
use Rattle.perm_meaning.specs.Outcome.{opening_state}
use Rattle.perm_core.specs.Core.{core}
use Rattle.perm_core.specs.Claims.{FewEvents}

-- ---------- turns ----------
-- the turns of both sides come back
pub join-turns : {V : Type 0} (merge : List V → List V → List V → List V) (vs : List V) (out : List ℤ) (x y : Final V) → turns_of (join_final merge vs out x y) ≡ turns_of x + turns_of y
join-turns merge vs out (Fine ls t p) (Fine rs u q) = refl
join-turns merge vs out (Fine ls t p) (GaveBack v u q) = refl
join-turns merge vs out (Fine ls t p) (Failed e u q) = refl
join-turns merge vs out (GaveBack v t p) (Fine rs u q) = refl
join-turns merge vs out (GaveBack v t p) (GaveBack w u q) = refl
join-turns merge vs out (GaveBack v t p) (Failed e u q) = refl
join-turns merge vs out (Failed e t p) (Fine rs u q) = refl
join-turns merge vs out (Failed e t p) (GaveBack w u q) = refl
join-turns merge vs out (Failed e t p) (Failed f u q) = refl

module _ {V G : Type 0} where
  -- a step is due where a turn is left
  pub due-turns : (close : Option (Close V)) (c : Code) (st : List (Frame V)) (t n : ℕ) (l : Own V G) → stage_from close (stage_by_code c st t l) t l ≡ Due n → t ≡ suc n
  due-turns (Some (Returning v)) c st t n l e = absurd (let no : ⊥ = cc e in no)
  due-turns (Some (Failing f)) c st t n l e = absurd (let no : ⊥ = cc e in no)
  due-turns None c st zero n l e = absurd (none-due c st e)
    where
      none-due : (c : Code) (st : List (Frame V)) → stage_by_code c st zero l ≡ Due n → ⊥
      none-due End [] e = cc e
      none-due End (f ∷ st) e = cc e
      none-due (Give at w x) st e = cc e
      none-due (Return at a) st e = cc e
      none-due (Do at i rest) st e = cc e
      none-due (If at x own1 a own2 b rest) st e = cc e
      none-due (While at x own a rest) st e = cc e
      none-due (Par at own1 a own2 b rest) st e = cc e
      none-due (Recover at x own hides a rest) st e = cc e
  due-turns None c st (suc t) n l e = ap suc (same c st e)
    where
      same : (c : Code) (st : List (Frame V)) → stage_by_code c st (suc t) l ≡ Due n → t ≡ n
      same End [] e = absurd (let no : ⊥ = cc e in no)
      same End (f ∷ st) e = cc e
      same (Give at w x) st e = cc e
      same (Return at a) st e = cc e
      same (Do at i rest) st e = cc e
      same (If at x own1 a own2 b rest) st e = cc e
      same (While at x own a rest) st e = cc e
      same (Par at own1 a own2 b rest) st e = cc e
      same (Recover at x own hides a rest) st e = cc e

  -- a leaf that is over has the turns that are left
  pub over-turns : (close : Option (Close V)) (c : Code) (st : List (Frame V)) (t : ℕ) (l : Own V G) (f : Final V) → over (stage_from close (stage_by_code c st t l) t l) ≡ Some f → turns_of f ≡ t
  over-turns (Some (Returning v)) c st t l f e = ap turns_of (some-inj (sym e))
  over-turns (Some (Failing x)) c st t l f e = ap turns_of (some-inj (sym e))
  over-turns None c st t l f e = by_code c st e
    where
      by_turns : (n : ℕ) → over (stage_by_turns n l) ≡ Some f → turns_of f ≡ n
      by_turns zero e = ap turns_of (some-inj (sym e))
      by_turns (suc n) e = none-some e

      by_code : (c : Code) (st : List (Frame V)) → over (stage_by_code c st t l) ≡ Some f → turns_of f ≡ t
      by_code End [] e = ap turns_of (some-inj (sym e))
      by_code End (g ∷ st) e = by_turns t e
      by_code (Give at w x) st e = by_turns t e
      by_code (Return at a) st e = by_turns t e
      by_code (Do at i rest) st e = by_turns t e
      by_code (If at x own1 a own2 b rest) st e = by_turns t e
      by_code (While at x own a rest) st e = by_turns t e
      by_code (Par at own1 a own2 b rest) st e = by_turns t e
      by_code (Recover at x own hides a rest) st e = by_turns t e

  -- twice the turns that are left in a tree, and one for each par that waits
  abbrev pub weight : Task V G → ℕ
  weight (Leaf b) = 2 * b.turns
  weight (Fork b p l r) = suc (weight l + weight r)

  final-weight : (t : Task V G) (f : Final V) → final t ≡ Some f → weight t ≡ 2 * turns_of f
  final-weight (Leaf b) f e = ap (λ n. 2 * n) (sym (over-turns b.close b.code b.stack b.turns b.own f e))
  final-weight (Fork b p l r) f e = none-some e

-- ---------- one event ----------
module _ {V G O : Type 0} (m : Machine V G O) where
  pub settled-turns : (b : Branch V G) (vs : List V) (c : Code) (st : List (Frame V)) → (settled m b vs c st).turns ≡ b.turns
  settled-turns b vs End [] = refl
  settled-turns b vs End (OpenBlock own rest ∷ st) = settled-turns b (m.clear_own vs own) rest st
  settled-turns b vs End (OpenRecover own hides saved rest ∷ st) = refl
  settled-turns b vs End (OpenCall tie into y saved lent caller rest ∷ st) = refl
  settled-turns b vs (Give at w x) st = refl
  settled-turns b vs (Return at a) st = refl
  settled-turns b vs (Do at i rest) st = refl
  settled-turns b vs (If at x own1 a own2 d rest) st = refl
  settled-turns b vs (While at x own a rest) st = refl
  settled-turns b vs (Par at own1 a own2 d rest) st = refl
  settled-turns b vs (Recover at x own hides a rest) st = refl

  -- a turn leaves less
  done-less : (b : Branch V G) (t : ℕ) (d : Did V G) → suc (weight (done m b t d)) ≤ 2 * suc t
  done-less b t (On l c st) = let same : (settled m (record b { own = l; turns = t }) l.vars c st).turns ≡ t = settled-turns (record b { own = l; turns = t }) l.vars c st in omega arith
  done-less b t (Splits p rest) = omega arith
  done-less b t (Ends v) = omega arith
  done-less b t (Dies e) = omega arith

  told-less : (b : Branch V G) (t : ℕ) (turn : Turn V G O) (o : O) (v : Option V) → turn_op m turn ≡ Some o → suc (weight (told_to m b t turn v)) ≤ 2 * suc t
  told-less b t NoTurn o v e = none-some e
  told-less b t (Takes q told) o None e = omega arith
  told-less b t (Takes q told) o (Some v) e = done-less b t (told v)

  leaf-less : (b : Branch V G) (st : Stage V) (o : O) (v : Option V) → stage b ≡ st → leaf_op m b st ≡ Some o → suc (weight (leaf_on m b st v)) ≤ 2 * b.turns
  leaf-less b (Over f) o v is e = none-some e
  leaf-less b (Due t) o v is e =
      let turns : b.turns ≡ suc t = due-turns b.close b.code b.stack b.turns t b.own is in
      let less : suc (weight (told_to m b t (next_turn m b) v)) ≤ 2 * suc t = told-less b t (next_turn m b) o v e in
      omega arith

  resumed-weight : (b : Branch V G) (f : Final V) → weight (resumed m b f) ≡ 2 * turns_of f
  resumed-weight b (Fine vs t p) = ap (λ n. 2 * n) (settled-turns (record b { own = record b.own { printed = p }; turns = t }) vs b.code b.stack)
  resumed-weight b (GaveBack v t p) = refl
  resumed-weight b (Failed e t p) = refl

  join-less : (b : Branch V G) (p : Blocks) (l r : Task V G) (f g : Option (Final V)) (o : O) → final l ≡ f → final r ≡ g → if_both_over f g None (λ x y. Some m.idle) ≡ Some o
      → suc (weight (if_both_over f g (Fork b p l r) (λ x y. resumed m b (join_of m b p x y)))) ≤ suc (weight l + weight r)
  join-less b p l r None g o left right e = none-some e
  join-less b p l r (Some x) None o left right e = none-some e
  join-less b p l r (Some x) (Some y) o left right e =
      let whole : weight (resumed m b (join_of m b p x y)) ≡ 2 * turns_of (join_of m b p x y) = resumed-weight b (join_of m b p x y) in
      let both : turns_of (join_of m b p x y) ≡ turns_of x + turns_of y = join-turns (m.parting.joined b.own.routine p) b.own.vars b.own.printed x y in
      let first : weight l ≡ 2 * turns_of x = final-weight l x left in
      let second : weight r ≡ 2 * turns_of y = final-weight r y right in
      omega arith

  -- so does each event of a tree
  fill-less : (w : Way) (t : Task V G) (o : O) (v : Option V) → look m w t ≡ Some o → suc (weight (fill m w t v)) ≤ weight t
  fill-less Here (Leaf b) o v e = leaf-less b (stage b) o v refl e
  fill-less Here (Fork b p l r) o v e = join-less b p l r (final l) (final r) o refl refl e
  fill-less (GoL w) (Leaf b) o v e = none-some e
  fill-less (GoR w) (Leaf b) o v e = none-some e
  fill-less (GoL w) (Fork b p l r) o v e = let less : suc (weight (fill m w l v)) ≤ weight l = fill-less w l o v e in omega arith
  fill-less (GoR w) (Fork b p l r) o v e = let less : suc (weight (fill m w r v)) ≤ weight r = fill-less w r o v e in omega arith

  module _ {H : Type 0} (memory : Memory V O H) (fits : ℕ → Bool) where
    pub step-less : (s t : State V G H) (w : Way) → step m memory fits s w ≡ Some t → suc (weight t.task) ≤ weight s.task
    step-less s t w e = looked (look m w s.task) refl e
      where
        reply : (o : O) (x : Answer V) → look m w s.task ≡ Some o → answered m memory fits s w o x ≡ Some t → suc (weight t.task) ≤ weight s.task
        reply o (Found v) q e = subst (λ (z : State V G H). suc (weight z.task) ≤ weight s.task) (some-inj e) (fill-less w s.task o (Some v) q)
        reply o Refused q e = subst (λ (z : State V G H). suc (weight z.task) ≤ weight s.task) (some-inj e) (fill-less w s.task o None q)
        reply o Missing q e = none-some e

        looked : (x : Option O) → look m w s.task ≡ x → asked m memory fits s w x ≡ Some t → suc (weight t.task) ≤ weight s.task
        looked None q e = none-some e
        looked (Some o) q e = reply o (memory.find fits o s.heap) q e

    -- ---------- lists of events ----------
    runs-less : (ws : List Way) (s t : State V G H) → runs (step m memory fits) ws s ≡ Some t → length ws + weight t.task ≤ weight s.task
    runs-less [] s t e = let same : weight s.task ≡ weight t.task = ap (λ (z : State V G H). weight z.task) (some-inj e) in omega arith
    runs-less (w ∷ ws) s t e = on (step m memory fits s w) refl e (λ next. runs-less ws next t)
      where
        on : (o : Option (State V G H)) → step m memory fits s w ≡ o → option_and_then (runs (step m memory fits) ws) o ≡ Some t
            → ((next : State V G H) → runs (step m memory fits) ws next ≡ Some t → length ws + weight t.task ≤ weight next.task) → length (w ∷ ws) + weight t.task ≤ weight s.task
        on None q e go = none-some e
        on (Some next) q e go =
            let rest : length ws + weight t.task ≤ weight next.task = go next e in
            let less : suc (weight next.task) ≤ weight s.task = step-less s next w q in
            omega arith

pub few-events : (u : UnitCode) (limit : ℕ) (input : List ℤ) (turns : ℕ) → FewEvents u limit input turns
few-events u limit input turns r ws (t, run) =
    let less : length ws + weight t.task ≤ 2 * turns = runs-less (core u) (memory u) (within limit) ws (opening_state u input turns r) t run in
    omega arith
