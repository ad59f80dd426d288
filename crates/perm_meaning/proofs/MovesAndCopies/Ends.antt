-- Ends of blocks, of branches and of pars, where variables move and where they are copied.
use Rattle.std.proofs.Common.{◌≡◌, ℕ, [], ◌∷◌, Some, None, refl, List, sym, ◌∙◌, zero, suc, false, ◌++◌, length, subst, ◌+◌}
use Rattle.std.specs.Prelude.{ℤ, slice_get}
use Rattle.std.proofs.lemmas.Bool.{or_parts}
use Rattle.perm_tree.specs.Code.{Code, End, UnitCode}
use Rattle.perm_tree.specs.Vars.{Vars, those, plus}
use Rattle.perm_meaning.specs.NamedHeap.{Final, Held, Own, Branch, Task, named}
use Rattle.perm_meaning.specs.Machine.{final, Returning, Failing, Stage, Over, Due, stage, resumed, OpenBlock, Blocks, Close, Fine, GaveBack, Failed, over, stage_by_code, stage_by_turns, stage_from, worse, join_final, settled}
use Rattle.perm_meaning.specs.Custody.{Copies, Moves, back_l, back_r, merged, writes_l, writes_r}
use Rattle.perm_meaning.specs.Expressions.{tagged, clear, clear_all, cleared_slot}
use Rattle.perm_meaning.specs.Steady.{AreApart, stays_l, stays_r, IsSteadyPar, IsSteadyCode}
use Rattle.perm_meaning.specs.HoldsFewer.{Frame, IsPart, AreParts, hidden, FitsStacks, at_base, at_block, left_of, LeavesAlone, in_base, in_block, BranchHoldsFewer, going, gone, TaskHoldsFewer, leaf, fork, FinalHoldsFewer, JoinHoldsFewer, at_recover, at_call}
use Rattle.perm_meaning.proofs.Leads.{some-inj, none-some}
use Rattle.perm_meaning.proofs.OnWords.Related.{vars-length, vars-set}
use Rattle.perm_meaning.proofs.MovesAndCopies.Parts.{parts-at, parts-then}
use Rattle.perm_meaning.proofs.MovesAndCopies.KeptVariables.{kept-same, kept-cleared, cleared-is, on-then, on-block-end}
use Rattle.perm_meaning.proofs.MovesAndCopies.Stacks.{stacks-other-variables, side-other-variables, side-variables}
use Rattle.perm_meaning.proofs.MovesAndCopies.Merges.{join-kept, join-parts, join-side}

pub parts-clear : (vs ws : List Held) (y : ℕ) → AreParts vs ws → AreParts (clear tagged vs y) (clear tagged ws y)
parts-clear vs ws y h = vars-set IsPart vs ws y (cleared_slot tagged (slice_get vs y)) (cleared_slot tagged (slice_get ws y)) h (subst (λ z. IsPart z (cleared_slot tagged (slice_get ws y))) (sym (cleared-is (slice_get vs y))) tt)

pub parts-clear-all : (own : List ℕ) (vs ws : List Held) → AreParts vs ws → AreParts (clear_all tagged vs own) (clear_all tagged ws own)
parts-clear-all [] vs ws h = h
parts-clear-all (y ∷ own) vs ws h = parts-clear-all own (clear tagged vs y) (clear tagged ws y) (parts-clear vs ws y h)

module _ (u : UnitCode) {K : Vars} {vp : List Held} where
  -- ---------- ends of blocks ----------
  pub settled-fewer : (l : Own) (t : ℕ) (c0 : Code) (st0 st0' : List Frame) (ws0 : List Held) (st : List Frame) {st' : List Frame} (vs ws : List Held) (c : Code) → AreParts vs ws → IsSteadyCode c → FitsStacks (length vp) c ws st st' → LeavesAlone K vp c vs st
      → BranchHoldsFewer K vp (settled (named Moves u) (record { own = l; turns = t; code = c0; stack = st0; close = None }) vs c st) (settled (named Copies u) (record { own = record l { vars = ws0 }; turns = t; code = c0; stack = st0'; close = None }) ws c st')
  settled-fewer l t c0 st0 st0' ws0 (OpenBlock own rest ∷ st) vs ws End h s (at_block a s' b) (in_block i j k) =
      settled-fewer l t c0 st0 st0' ws0 st (clear_all tagged vs own) (clear_all tagged ws own) rest (parts-clear-all own vs ws h) s' (stacks-other-variables b (kept-cleared own (λ x q. (or_parts false (those own x) (a x q)).1) (kept-same _ ws)))
      (side-other-variables k (on-block-end (left_of K st) own vs vp j))
  settled-fewer l t c0 st0 st0' ws0 _ vs ws End h s (at_base q) i = going h s (at_base q) i
  settled-fewer l t c0 st0 st0' ws0 _ vs ws End h s (at_recover a g v s' b) i = going h s (at_recover a g v s' b) i
  settled-fewer l t c0 st0 st0' ws0 _ vs ws End h s (at_call a q s' b) i = going h s (at_call a q s' b) i
  settled-fewer l t c0 st0 st0' ws0 st vs ws c h s b i = going h s b i

-- ---------- where branches stand ----------
module _ (K : Vars) (vp : List Held) where
  -- both are over alike, or a step is due with as many turns left
  abbrev pub StageHoldsFewer : Stage Held → Stage Held → Type 0
  StageHoldsFewer (Over f) (Over g) = FinalHoldsFewer K vp f g
  StageHoldsFewer (Due t) (Due n) = t ≡ n
  StageHoldsFewer _ _ = ⊥

  by-turns-fewer : (t : ℕ) (l : Own) (ws : List Held) → StageHoldsFewer (stage_by_turns t l) (stage_by_turns t (record l { vars = ws }))
  by-turns-fewer zero l ws = (refl, refl, refl)
  by-turns-fewer (suc t) l ws = refl

  by-code-fewer : (l : Own) (t : ℕ) (c : Code) {ws : List Held} {st st' : List Frame} → AreParts l.vars ws → FitsStacks (length vp) c ws st st' → LeavesAlone K vp c l.vars st → StageHoldsFewer (stage_by_code c st t l) (stage_by_code c st' t (record l { vars = ws }))
  by-code-fewer l t End h (at_base q) (in_base a i) = (record { part = h; less = i; long = q }, refl, refl)
  by-code-fewer l t End {ws = ws} h (at_block a s b) i = by-turns-fewer t l ws
  by-code-fewer l t End {ws = ws} h (at_recover a g v s b) i = by-turns-fewer t l ws
  by-code-fewer l t End {ws = ws} h (at_call a q s b) i = by-turns-fewer t l ws
  by-code-fewer l t c {ws = ws} h b i = by-turns-fewer t l ws

  by-close-fewer : (l : Own) (t : ℕ) (c : Code) (st : List Frame) (e : Close Held) → StageHoldsFewer (stage_from (Some e) (stage_by_code c st t l) t l) (stage_from (Some e) (stage_by_code c st t l) t l)
  by-close-fewer l t c st (Returning v) = (refl, refl, refl)
  by-close-fewer l t c st (Failing e) = (refl, refl, refl)

  pub stage-fewer : {b c : Branch} → BranchHoldsFewer K vp b c → StageHoldsFewer (stage b) (stage c)
  stage-fewer (going {l = l} {t = t} {c = c} h s b i) = by-code-fewer l t c h b i
  stage-fewer (gone {l = l} {t = t} {c = c} {st = st} {e = e}) = by-close-fewer l t c st e

  over-fewer : (x y : Stage Held) → StageHoldsFewer x y → (f : Final) → over x ≡ Some f → (g : Final) × (over y ≡ Some g) × FinalHoldsFewer K vp f g
  over-fewer (Over z) (Over g) h f e = (g, refl, subst (λ i. FinalHoldsFewer K vp i g) (some-inj e) h)
  over-fewer (Over z) (Due n) h f e = absurd h
  over-fewer (Due t) y h f e = none-some e

  -- trees end alike
  pub final-fewer : {t s : Task} → TaskHoldsFewer K vp t s → (f : Final) → final t ≡ Some f → (g : Final) × (final s ≡ Some g) × FinalHoldsFewer K vp f g
  final-fewer (leaf {b = b} {c = c} h) f e = over-fewer (stage b) (stage c) (stage-fewer h) f e
  final-fewer (fork h o s b i a j p x y) f e = none-some e

-- ---------- ends of pars ----------
module _ (u : UnitCode) (l : Own) (n : ℕ) (p : Blocks) (s : IsSteadyPar p) (os ws : List Held) (k : AreParts l.vars os) (o : AreParts os ws) (H J : Vars) (a : AreApart H (plus (writes_l p) (writes_r p))) (j : AreApart J (plus (writes_l p) (writes_r p))) (out : List ℤ) where
  h : AreParts l.vars ws
  h = parts-then l.vars os ws k o

  pub join-fewer : (x x' y y' : Final) → FinalHoldsFewer (stays_l p) os x x' → FinalHoldsFewer (stays_r p) os y y'
      → JoinHoldsFewer H J os ws (join_final (merged (back_l u n p) (back_r u n p)) l.vars out x y) (join_final (merged (writes_l p) (writes_r p)) ws out x' y')
  join-fewer (Fine v1 t1 p1) (Fine v2 t2 p2) (Fine v3 t3 p3) (Fine v4 t4 p4) f g = (
    record {
      part = join-parts u n p s l.vars os ws v1 v2 v3 v4 k o f.0.part g.0.part f.0.less g.0.less f.0.long g.0.long;
      kept = join-kept (writes_l p) (writes_r p) H ws v2 v4 (f.0.long ∙ vars-length IsPart os ws o) (g.0.long ∙ vars-length IsPart os ws o) a;
      less = join-side u n p s l.vars os ws v1 v2 v3 v4 k o f.0.part g.0.part f.0.less g.0.less f.0.long g.0.long J j;
    },
    (λ i. f.1 i + g.1 i),
    (λ i. out ++ (f.2 i ++ g.2 i)),
  )
  join-fewer (Fine v1 t1 p1) (Fine v2 t2 p2) (GaveBack v3 t3 p3) (GaveBack v4 t4 p4) f g = (record { part = h; kept = kept-same H ws; less = λ x q. parts-at l.vars os k x }, (λ i. f.1 i + g.1 i), (λ i. out ++ (f.2 i ++ g.2 i)))
  join-fewer (Fine v1 t1 p1) (Fine v2 t2 p2) (Failed e3 t3 p3) (Failed e4 t4 p4) f g = (g.0, (λ i. f.1 i + g.1 i), (λ i. out ++ (f.2 i ++ g.2 i)))
  join-fewer (GaveBack v1 t1 p1) (GaveBack v2 t2 p2) (Fine v3 t3 p3) (Fine v4 t4 p4) f g = (record { part = h; kept = kept-same H ws; less = λ x q. parts-at l.vars os k x }, (λ i. f.1 i + g.1 i), (λ i. out ++ (f.2 i ++ g.2 i)))
  join-fewer (GaveBack v1 t1 p1) (GaveBack v2 t2 p2) (GaveBack v3 t3 p3) (GaveBack v4 t4 p4) f g = (record { part = h; kept = kept-same H ws; less = λ x q. parts-at l.vars os k x }, (λ i. f.1 i + g.1 i), (λ i. out ++ (f.2 i ++ g.2 i)))
  join-fewer (GaveBack v1 t1 p1) (GaveBack v2 t2 p2) (Failed e3 t3 p3) (Failed e4 t4 p4) f g = (g.0, (λ i. f.1 i + g.1 i), (λ i. out ++ (f.2 i ++ g.2 i)))
  join-fewer (Failed e1 t1 p1) (Failed e2 t2 p2) (Fine v3 t3 p3) (Fine v4 t4 p4) f g = (f.0, (λ i. f.1 i + g.1 i), (λ i. out ++ f.2 i))
  join-fewer (Failed e1 t1 p1) (Failed e2 t2 p2) (GaveBack v3 t3 p3) (GaveBack v4 t4 p4) f g = (f.0, (λ i. f.1 i + g.1 i), (λ i. out ++ f.2 i))
  join-fewer (Failed e1 t1 p1) (Failed e2 t2 p2) (Failed e3 t3 p3) (Failed e4 t4 p4) f g = ((λ i. worse (f.0 i) (g.0 i)), (λ i. f.1 i + g.1 i), (λ i. out ++ f.2 i))
  join-fewer (Fine v1 t1 p1) (GaveBack v2 t2 p2) y y' f g = absurd f
  join-fewer (Fine v1 t1 p1) (Failed e2 t2 p2) y y' f g = absurd f
  join-fewer (GaveBack v1 t1 p1) (Fine v2 t2 p2) y y' f g = absurd f
  join-fewer (GaveBack v1 t1 p1) (Failed e2 t2 p2) y y' f g = absurd f
  join-fewer (Failed e1 t1 p1) (Fine v2 t2 p2) y y' f g = absurd f
  join-fewer (Failed e1 t1 p1) (GaveBack v2 t2 p2) y y' f g = absurd f
  join-fewer x x' (Fine v1 t1 p1) (GaveBack v2 t2 p2) f g = absurd g
  join-fewer x x' (Fine v1 t1 p1) (Failed e2 t2 p2) f g = absurd g
  join-fewer x x' (GaveBack v1 t1 p1) (Fine v2 t2 p2) f g = absurd g
  join-fewer x x' (GaveBack v1 t1 p1) (Failed e2 t2 p2) f g = absurd g
  join-fewer x x' (Failed e1 t1 p1) (Fine v2 t2 p2) f g = absurd g
  join-fewer x x' (Failed e1 t1 p1) (GaveBack v2 t2 p2) f g = absurd g

-- a parent goes on alike
pub resumed-fewer : (u : UnitCode) {K : Vars} {vp : List Held} (l : Own) (t : ℕ) (c : Code) {st st' : List Frame} (os ws : List Held) → IsSteadyCode c → FitsStacks (length vp) c ws st st' → LeavesAlone K vp c os st → (x x' : Final) → JoinHoldsFewer (hidden st') (left_of K st) os ws x x'
    → TaskHoldsFewer K vp (resumed (named Moves u) (record { own = l; turns = t; code = c; stack = st; close = None }) x) (resumed (named Copies u) (record { own = record l { vars = ws }; turns = t; code = c; stack = st'; close = None }) x')
resumed-fewer u {K = K} {vp = vp} l t c {st = st} {st' = st'} os ws s b i (Fine vs n p) (Fine us m q) f =
    subst (λ z. TaskHoldsFewer K vp (resumed (named Moves u) x (Fine vs n p)) (resumed (named Copies u) y (Fine us z q))) f.1
    (subst (λ z. TaskHoldsFewer K vp (resumed (named Moves u) x (Fine vs n p)) (resumed (named Copies u) y (Fine us n z))) f.2
    (leaf (settled-fewer u (record l { printed = p }) n c st st' ws st vs us c f.0.part s (stacks-other-variables b f.0.kept) (side-other-variables i (on-then (left_of K st) vs os vp f.0.less (side-variables i))))))
  where
    x : Branch
    x = record { own = l; turns = t; code = c; stack = st; close = None }

    y : Branch
    y = record { own = record l { vars = ws }; turns = t; code = c; stack = st'; close = None }
resumed-fewer u {K = K} {vp = vp} l t c {st = st} {st' = st'} os ws s b i (GaveBack v n p) (GaveBack w m q) f =
    subst (λ z. TaskHoldsFewer K vp (resumed (named Moves u) x (GaveBack v n p)) (resumed (named Copies u) y (GaveBack z m q))) f.0
    (subst (λ z. TaskHoldsFewer K vp (resumed (named Moves u) x (GaveBack v n p)) (resumed (named Copies u) y (GaveBack v z q))) f.1
    (subst (λ z. TaskHoldsFewer K vp (resumed (named Moves u) x (GaveBack v n p)) (resumed (named Copies u) y (GaveBack v n z))) f.2 (leaf gone)))
  where
    x : Branch
    x = record { own = l; turns = t; code = c; stack = st; close = None }

    y : Branch
    y = record { own = record l { vars = ws }; turns = t; code = c; stack = st'; close = None }
resumed-fewer u {K = K} {vp = vp} l t c {st = st} {st' = st'} os ws s b i (Failed e n p) (Failed g m q) f =
    subst (λ z. TaskHoldsFewer K vp (resumed (named Moves u) x (Failed e n p)) (resumed (named Copies u) y (Failed z m q))) f.0
    (subst (λ z. TaskHoldsFewer K vp (resumed (named Moves u) x (Failed e n p)) (resumed (named Copies u) y (Failed e z q))) f.1
    (subst (λ z. TaskHoldsFewer K vp (resumed (named Moves u) x (Failed e n p)) (resumed (named Copies u) y (Failed e n z))) f.2 (leaf gone)))
  where
    x : Branch
    x = record { own = l; turns = t; code = c; stack = st; close = None }

    y : Branch
    y = record { own = record l { vars = ws }; turns = t; code = c; stack = st'; close = None }
resumed-fewer u l t c os ws s b i (Fine vs n p) (GaveBack w m q) f = absurd f
resumed-fewer u l t c os ws s b i (Fine vs n p) (Failed g m q) f = absurd f
resumed-fewer u l t c os ws s b i (GaveBack v n p) (Fine us m q) f = absurd f
resumed-fewer u l t c os ws s b i (GaveBack v n p) (Failed g m q) f = absurd f
resumed-fewer u l t c os ws s b i (Failed e n p) (Fine us m q) f = absurd f
resumed-fewer u l t c os ws s b i (Failed e n p) (GaveBack w m q) f = absurd f
