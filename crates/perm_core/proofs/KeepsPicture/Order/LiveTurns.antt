-- After a call begins or ends, a recover block is entered or left, and a par begins or ends, the code to come goes on from what has a value then.
use Rattle.std.proofs.Common.{◌≡◌, ℕ, zero, suc, ◌+◌, ◌<◌, Bool, true, false, Option, Some, None, List, [], ◌∷◌, ◌++◌, length, refl, sym, ap, subst, ◌∙◌, arith, inl, inr}
use Rattle.std.specs.Prelude.{◌⊎◌, ◌&&◌, ◌||◌, not, nat_eq, cond}
use Rattle.std.proofs.lemmas.Bool.{or_cases, or_parts, or_left, or_right, and_parts}
use Rattle.std.proofs.lemmas.List.{append_assoc}
use Rattle.perm_tree.specs.declared.ast.Span.{Span}
use Rattle.perm_tree.specs.declared.errors.TypeKind.TheVariants.{ParShared}
use Rattle.perm_tree.specs.Code.{Argument, Tie, Shares, Raises, Lends, Invoke, Code, Give, Do, Par, Recover, Routine, UnitCode}
use Rattle.perm_tree.specs.Mentions.{just_if, just_option, arguments_consume, mentioned, written, block_mentions, block_writes}
use Rattle.perm_tree.specs.Vars.{Vars, none, just, below, those, plus, minus, meet, IsWithin}
use Rattle.perm_tree.proofs.MentionLaws.{block_writes-within}
use Rattle.perm_rules.specs.Parts.{Context, Given}
use Rattle.perm_rules.specs.Pars.{uses, touches, touched, some_var, par_head}
use Rattle.perm_rules.specs.Liveness.{after}
use Rattle.perm_rules.specs.Refusals.{IsAllowed}
use Rattle.perm_rules.specs.Effects.{Effect, changed, effect}
use Rattle.perm_rules.specs.Goes.{Goes, hiding, joined, context, first_live, IsAccepted}
use Rattle.perm_rules.specs.Scoping.{has_none, is_scoped}
use Rattle.perm_rules.proofs.Agree.{agree}
use Rattle.perm_rules.proofs.Written.{block-touched, written-touched}
use Rattle.perm_rules.proofs.Fine.{mentioned-known}
use Rattle.perm_rules.proofs.PartLaws.{applies-none, part-known}
use Rattle.perm_rules.proofs.Effects.{goes-from-more}
use Rattle.perm_meaning.specs.Values.{Value, Reference}
use Rattle.perm_meaning.specs.Names.{Name}
use Rattle.perm_meaning.specs.Expressions.{tagged, assign, assign_into, clear, clear_all}
use Rattle.perm_meaning.specs.Custody.{Moves, from_either, merged, only, while_called, lent_by, in_neither, isolated_in, mentions_l, mentions_r, back_l, back_r}
use Rattle.perm_meaning.specs.Effects.{first_vars}
use Rattle.perm_meaning.specs.Machine.{Frame, OpenRecover, OpenCall, Blocks, Splits, done}
use Rattle.perm_meaning.specs.NamedHeap.{Held, Own, Branch}
use Rattle.perm_meaning.specs.Turns.{blocks, lent_back}
use Rattle.perm_meaning.proofs.SameName.{together, eq-itself, eq-true}
use Rattle.perm_core.specs.Core.{core}
use Rattle.perm_core.specs.Picture.{context_if, context_of, valued, hidden_above, just_lent, just_taken, live_after, context_above, none_valued, only_valued, RestGoes, live_joined, TreeGoes}
use Rattle.perm_core.proofs.OpeningPicture.{derived}
use Rattle.perm_core.proofs.KeepsPicture.Calls.CallEnds.{any-left, only-hidden, nothing-below}
use Rattle.perm_core.proofs.KeepsPicture.Order.FewerLive.{goes-fewer, Onward}
use Rattle.perm_core.proofs.KeepsPicture.Calls.Gives.{clear_all-length, either-length}
use Rattle.perm_core.proofs.KeepsPicture.Order.GoesOfTrees.{Further, rest-more}
use Rattle.perm_core.proofs.KeepsPicture.Order.HiddenFree.{hidden-free}
use Rattle.perm_core.proofs.KeepsPicture.Order.HiddenVariables.{all-none}
use Rattle.perm_core.proofs.KeepsPicture.Order.SideFree.{side-free}
use Rattle.perm_core.proofs.KeepsPicture.Turns.LeafTurns.{Receives, first, last, Begins}
use Rattle.perm_core.proofs.KeepsPicture.Order.LiveCode.{made-written, Top, top, do-goes}
use Rattle.perm_core.proofs.KeepsPicture.Order.LiveLists.{set-length, assign-has, clear-has, clear_all-has, only-has, either-first, either-second, evaluates-has, minus-both, AllValues, first-has}
use Rattle.perm_core.proofs.KeepsPicture.Order.ValuedLists.{has-of}

-- a code's end by its effect: what was live and isn't lost, or is made
from-changed : (s : Effect) (G : Vars) (x : ℕ) → changed s G x ≡ true → ((G x ≡ true) × (not (s.lost x) ≡ true)) ⊎ (s.made x ≡ true)
from-changed s G x e = pick (or_cases (G x && not (s.lost x)) (s.made x) e)
  where
    pick : (G x && not (s.lost x) ≡ true) ⊎ (s.made x ≡ true) → ((G x ≡ true) × (not (s.lost x) ≡ true)) ⊎ (s.made x ≡ true)
    pick (inl q) = inl (and_parts (G x) (not (s.lost x)) q)
    pick (inr q) = inr q

to-changed : (s : Effect) (G : Vars) (x : ℕ) → ((G x ≡ true) × (not (s.lost x) ≡ true)) ⊎ (s.made x ≡ true) → changed s G x ≡ true
to-changed s G x (inl (g, l)) = or_left (G x && not (s.lost x)) (s.made x) (together (G x) (not (s.lost x)) g l)
to-changed s G x (inr m) = or_right (G x && not (s.lost x)) (s.made x) m

-- a code that goes from G ends by its effect
ends-by : (c : Context) (a : Code) (G H : Vars) → Goes c a G H → H ≡ changed (effect a) G
ends-by c a G H goes = (agree c a G).same H goes

-- what is live at the start of a method are `this` and its parameters
live-first : (r : Routine) (n x : ℕ) → n ≡ length r.params → first_live r x ≡ true → below (suc n) x ≡ true
live-first r n x same e = let next : 1 + length r.params ≡ suc n = omega (arith, same) in subst (λ k. below k x ≡ true) next e

test : (b : Bool) → (b ≡ true) ⊎ (b ≡ false)
test true = inl refl
test false = inr refl

module _ (u : UnitCode) where
  -- ---------- calls ----------
  receives-has : (l : Own) (consumed : Bool) (y : ℕ) (args : List Argument) (this : Held) (found vs : List Held) → Receives u l consumed y args this found vs
      → AllValues found × IsWithin (minus (valued l.vars) (plus (just_if consumed y) (arguments_consume args))) (valued vs)
  receives-has l _ _ _ _ _ _ (first y args this found vs here q is) =
      let r = evaluates-has args (clear tagged l.vars y) found vs is in
      (r.0, λ x m. let p = minus-both (valued l.vars) (just y) (arguments_consume args) x m in r.1 x (together (valued (clear tagged l.vars y) x) (not (arguments_consume args x)) (clear-has l.vars y x p.0) p.1))
  receives-has l _ _ _ _ _ _ (last y args this found vs is here) =
      let r = evaluates-has args l.vars found vs is in
      (r.0, λ x m. let p = minus-both (valued l.vars) none (arguments_consume args) x m in r.1 x (together (valued l.vars x) (not (arguments_consume args x)) (and_parts (valued l.vars x) (not (none x)) p.0).0 p.1))

  -- what the caller has, and what comes back, holds what is live after the call
  kept-has : (tie : Tie) (y : ℕ) (vs : List Held) (this : Held) (x : ℕ) → valued vs x ≡ true → plus (valued (while_called tagged Moves tie y vs)) (just_lent (lent_by Moves tie this) y) x ≡ true
  kept-has Shares y vs this x e = or_left (valued vs x) (none x) e
  kept-has Raises y vs this x e = or_left (valued vs x) (none x) e
  kept-has Lends y vs this x e = go (test (nat_eq x y))
    where
      go : (nat_eq x y ≡ true) ⊎ (nat_eq x y ≡ false) → plus (valued (clear tagged vs y)) (just y) x ≡ true
      go (inl q) = or_right (valued (clear tagged vs y) x) (nat_eq x y) q
      go (inr q) = or_left (valued (clear tagged vs y) x) (nat_eq x y) (clear-has vs y x (together (valued vs x) (not (nat_eq x y)) e (ap (λ b. not b) q)))

  taken-same : (into : Option ℕ) (x : ℕ) → just_option into x ≡ true → just_taken into x ≡ true
  taken-same None x e = e
  taken-same (Some z) x e = e

  pub call-goes : (accepted : IsAccepted u) (below : List ℕ) (m : ℕ) (at : Span) (into : Option ℕ) (tie : Tie) (consumed : Bool) (y n : ℕ) (args : List Argument) (rest : Code) (st : List (Frame Held)) (l : Own) (r : Routine) (this : Held) (found vs : List Held) (H : Vars)
      → Begins u l tie consumed y n args r this found vs → RestGoes u below m (Do at (Invoke into tie consumed y n args) rest) st (valued l.vars) H
      → Further (λ M. RestGoes u below n r.code (OpenCall tie into y (while_called tagged Moves tie y vs) (lent_by Moves tie this) m rest ∷ st) (valued (first_vars tagged r this found)) M) H
  call-goes accepted below m at into tie consumed y n args rest st l r this found vs H is goes =
      let rest_on = do-goes u below m at (Invoke into tie consumed y n args) rest st (valued l.vars) H V goes live in
      record { ends = rest_on.ends; goes = (callee.0, callee.1, rest_on.goes); more = rest_on.more }
    where
      V : Vars
      V = plus (valued (while_called tagged Moves tie y vs)) (plus (just_lent (lent_by Moves tie this) y) (just_taken into))

      has : AllValues found × IsWithin (minus (valued l.vars) (plus (just_if consumed y) (arguments_consume args))) (valued vs)
      has = receives-has l consumed y args this found vs is.receives

      live : IsWithin (after (Invoke into tie consumed y n args) (valued l.vars)) V
      live x e = pick (or_cases (minus (valued l.vars) (plus (just_if consumed y) (arguments_consume args)) x) (just_option into x) e)
        where
          S : Vars
          S = valued (while_called tagged Moves tie y vs)

          L : Vars
          L = just_lent (lent_by Moves tie this) y

          T : Vars
          T = just_taken into

          kept : (S x ≡ true) ⊎ (L x ≡ true) → V x ≡ true
          kept (inl p) = or_left (S x) (plus L T x) p
          kept (inr p) = or_right (S x) (plus L T x) (or_left (L x) (T x) p)

          pick : (minus (valued l.vars) (plus (just_if consumed y) (arguments_consume args)) x ≡ true) ⊎ (just_option into x ≡ true) → V x ≡ true
          pick (inl q) = kept (or_cases (S x) (L x) (kept-has tie y vs this x (has.1 x q)))
          pick (inr q) = or_right (S x) (plus L T x) (or_right (L x) (T x) (taken-same into x q))

      even : length found ≡ length r.params
      even = eq-true (length found) (length r.params) is.even

      entered : IsWithin (first_live r) (valued (first_vars tagged r this found))
      entered x e = first-has this (Reference is.p is.n) found _ is.receiver has.0 x (live-first r (length found) x even e)

      callee : (K : Vars) × Goes (hiding [] (context_of u n)) r.code (valued (first_vars tagged r this found)) K
      callee =
          let d = derived u u.routines n r accepted is.here in
          let o = goes-from-more (context u r) r.code (first_live r) d.0 (valued (first_vars tagged r this found)) entered d.1 in
          (o.0, subst (λ (q : Option Routine). Goes (hiding [] (context_if u q)) r.code (valued (first_vars tagged r this found)) o.0) (sym is.here) o.1)

  -- the result comes back
  pub return-goes : (below : List ℕ) (m : ℕ) (c : Code) (tie : Tie) (into : Option ℕ) (y : ℕ) (saved : List Held) (lent : Option Held) (caller : ℕ) (rest : Code) (st : List (Frame Held)) (v : Held) (a : Value Name) (G H : Vars) → v ≡ Some a
      → ((x : ℕ) → into ≡ Some x → x < length saved) → ((w : Held) → lent ≡ Some w → (y < length saved) × ((b : Value Name) × (w ≡ Some b)))
      → RestGoes u below m c (OpenCall tie into y saved lent caller rest ∷ st) G H → Further (λ M. RestGoes u below caller rest st (valued (assign_into (lent_back lent y saved) into v)) M) H
  return-goes below m c tie into y saved lent caller rest st v a G H value there back goes = rest-more u below caller rest st (plus (valued saved) (plus (just_lent lent y) (just_taken into))) H (valued (assign_into (lent_back lent y saved) into v)) less goes.2
    where
      back-has : (o : Option Held) → lent ≡ o → IsWithin (plus (valued saved) (just_lent o y)) (valued (lent_back o y saved))
      back-has None q x e = drop (valued saved x) e
        where
          drop : (b : Bool) → (b || false) ≡ true → b ≡ true
          drop true e = refl
          drop false e = e
      back-has (Some w) q x e = let k = back w q in assign-has saved y w k.1.0 k.0 k.1.1 x e

      back-length : (o : Option Held) → length (lent_back o y saved) ≡ length saved
      back-length None = refl
      back-length (Some w) = set-length saved y w

      into-has : (o : Option ℕ) → into ≡ o → IsWithin (plus (valued (lent_back lent y saved)) (just_taken o)) (valued (assign_into (lent_back lent y saved) o v))
      into-has None q x e = drop (valued (lent_back lent y saved) x) e
        where
          drop : (b : Bool) → (b || false) ≡ true → b ≡ true
          drop true e = refl
          drop false e = e
      into-has (Some z) q x e = let less : z < length saved = there z q in let even = back-length lent in assign-has (lent_back lent y saved) z v a (omega (arith, less, even)) value x e

      less : IsWithin (plus (valued saved) (plus (just_lent lent y) (just_taken into))) (valued (assign_into (lent_back lent y saved) into v))
      less x e = into-has into refl x (pick (or_cases (valued saved x) (plus (just_lent lent y) (just_taken into) x) e))
        where
          B : Vars
          B = valued (lent_back lent y saved)

          inner : (just_lent lent y x ≡ true) ⊎ (just_taken into x ≡ true) → plus B (just_taken into) x ≡ true
          inner (inl q) = or_left (B x) (just_taken into x) (back-has lent refl x (or_right (valued saved x) (just_lent lent y x) q))
          inner (inr q) = or_right (B x) (just_taken into x) q

          pick : (valued saved x ≡ true) ⊎ (plus (just_lent lent y) (just_taken into) x ≡ true) → plus B (just_taken into) x ≡ true
          pick (inl q) = or_left (B x) (just_taken into x) (back-has lent refl x (or_left (valued saved x) (just_lent lent y x) q))
          pick (inr q) = inner (or_cases (just_lent lent y x) (just_taken into x) q)

  -- ---------- recover blocks ----------
  -- what is hidden within a recover block is hidden above its frame
  hiding-twice : (below : List ℕ) (m : ℕ) (own hides : List ℕ) (saved : List Held) (rest : Code) (st : List (Frame Held)) → hiding hides (context_above u below m st) ≡ context_above u below m (OpenRecover own hides saved rest ∷ st)
  hiding-twice below m own hides saved rest st = ap (λ (hs : List ℕ). record (context_of u m) { hidden = hs }) (sym (append_assoc hides (hidden_above below st) (context_of u m).hidden))

  pub recover-goes : (below : List ℕ) (m : ℕ) (at : Span) (x : ℕ) (own hides : List ℕ) (body rest : Code) (st : List (Frame Held)) (vs : List Held) (H : Vars) → RestGoes u below m (Recover at x own hides body rest) st (valued vs) H
      → Further (λ M. RestGoes u below m body (OpenRecover own hides (only tagged (those hides) vs) rest ∷ st) (valued (only tagged (λ y. not (those hides y)) vs)) M) H
  recover-goes below m at x own hides body rest st vs H goes =
      let r = t.instead rest (live_after (OpenRecover own hides saved rest) inside.0) behind.0 behind.1 behind.2 in
      record { ends = r.ends; goes = (inside.0, subst (λ (c : Context). Goes c body V inside.0) (hiding-twice below m own hides saved rest st) inside.1, r.goes); more = r.more }
    where
      U : Vars
      U = valued vs

      k : Context
      k = context_above u below m st

      t : Top u below m (Recover at x own hides body rest) st U H
      t = top u below m (Recover at x own hides body rest) st U H goes

      K : Vars
      K = t.goes.1.ends

      V : Vars
      V = valued (only tagged (λ y. not (those hides y)) vs)

      saved : List Held
      saved = only tagged (those hides) vs

      fewer : Onward (hiding hides k) body U K (those hides)
      fewer = goes-fewer (hiding hides k) body U K (those hides) (hidden-free (those hides) (hiding hides k) body U K (λ y e. any-left y hides k.hidden e) t.goes.1.body) t.goes.1.body

      rest_has : IsWithin (minus U (those hides)) V
      rest_has y e = let p = and_parts (U y) (not (those hides y)) e in only-has (λ y. not (those hides y)) vs y (together (not (those hides y)) (U y) p.1 p.0)

      inside : (L : Vars) × Goes (hiding hides k) body V L
      inside = let o = goes-from-more (hiding hides k) body (minus U (those hides)) fewer.ends V rest_has fewer.goes in (o.0, o.1)

      -- what is live at the block's end is live without the hidden ones, or is laid by
      enough : IsWithin (minus K (those own)) (plus (minus inside.0 (those own)) (valued saved))
      enough y e =
          let p = and_parts (K y) (not (those own y)) e in
          pick (from-changed (effect body) U y (subst (λ (G : Vars). G y ≡ true) (ends-by (hiding hides k) body U K t.goes.1.body) p.0)) p.1
        where
          stays : ((V y ≡ true) × (not ((effect body).lost y) ≡ true)) ⊎ ((effect body).made y ≡ true) → not (those own y) ≡ true → plus (minus inside.0 (those own)) (valued saved) y ≡ true
          stays q off =
              let on : inside.0 y ≡ true = subst (λ (G : Vars). G y ≡ true) (sym (ends-by (hiding hides k) body V inside.0 inside.1)) (to-changed (effect body) V y q) in
              or_left (minus inside.0 (those own) y) (valued saved y) (together (inside.0 y) (not (those own y)) on off)

          by_hides : (U y ≡ true) → not ((effect body).lost y) ≡ true → not (those own y) ≡ true → (those hides y ≡ true) ⊎ (those hides y ≡ false) → plus (minus inside.0 (those own)) (valued saved) y ≡ true
          by_hides live kept off (inl hid) = or_right (minus inside.0 (those own) y) (valued saved y) (only-has (those hides) vs y (together (those hides y) (U y) hid live))
          by_hides live kept off (inr shown) = stays (inl (only-has (λ y. not (those hides y)) vs y (together (not (those hides y)) (U y) (ap (λ b. not b) shown) live), kept)) off

          pick : ((U y ≡ true) × (not ((effect body).lost y) ≡ true)) ⊎ ((effect body).made y ≡ true) → not (those own y) ≡ true → plus (minus inside.0 (those own)) (valued saved) y ≡ true
          pick (inl (live, kept)) off = by_hides live kept off (test (those hides y))
          pick (inr made) off = stays (inr made) off

      behind : (L : Vars) × Goes k rest (plus (minus inside.0 (those own)) (valued saved)) L × IsWithin t.ends L
      behind = goes-from-more k rest (minus K (those own)) t.ends (plus (minus inside.0 (those own)) (valued saved)) enough t.goes.1.rest

  pub give-goes : (below : List ℕ) (m : ℕ) (at : Span) (y x : ℕ) (own hides : List ℕ) (saved : List Held) (rest : Code) (st : List (Frame Held)) (vs : List Held) (v : Held) (a : Value Name) (H : Vars) → v ≡ Some a
      → length (context_of u m).vars ≡ length vs → length (context_of u m).vars ≡ length saved → none_valued (hides ++ hidden_above below st) vs ≡ true → only_valued hides saved ≡ true
      → RestGoes u below m (Give at y x) (OpenRecover own hides saved rest ∷ st) (valued vs) H
      → Further (λ M. RestGoes u below m rest st (valued (assign (from_either (those hides) saved (clear_all tagged (clear tagged vs y) own)) x v)) M) H
  give-goes below m at y x own hides saved rest st vs v a H value even even_saved hid only_hid goes =
      rest-more u below m rest st (plus (minus goes.0 (those own)) (valued saved)) H (valued (assign either x v)) less goes.2
    where
      U : Vars
      U = valued vs

      ws : List Held
      ws = clear_all tagged (clear tagged vs y) own

      either : List Held
      either = from_either (those hides) saved ws

      lengths : length saved ≡ length ws
      lengths = let p = clear_all-length own (clear tagged vs y) in let q = set-length vs y _ in sym even_saved ∙ even ∙ sym (p ∙ q)

      there : x < length either
      there =
          let known : x < length (context_of u m).vars = part-known (context_above u below m (OpenRecover own hides saved rest ∷ st)) (Given y x) U goes.1.0 x (or_right (nat_eq x y) (nat_eq x x) (eq-itself x)) in
          let l = either-length (those hides) saved ws lengths in
          omega (arith, known, l, even_saved)

      old : (z : ℕ) → valued either z ≡ true → valued (assign either x v) z ≡ true
      old z e = assign-has either x v a there value z (or_left (valued either z) (just x z) e)

      less : IsWithin (plus (minus goes.0 (those own)) (valued saved)) (valued (assign either x v))
      less z e = pick (or_cases (minus goes.0 (those own) z) (valued saved z) e)
        where
          by_hides : U z ≡ true → not (nat_eq z y) ≡ true → not (those own z) ≡ true → (those hides z ≡ true) ⊎ (those hides z ≡ false) → valued (assign either x v) z ≡ true
          by_hides live other off (inl h) = absurd (let no : true ≡ false = sym live ∙ all-none U (hides ++ hidden_above below st) z hid (any-left z hides (hidden_above below st) h) in let w : ⊥ = cc no in w)
          by_hides live other off (inr h) =
              old z (either-second (those hides) saved ws z lengths h
              (clear_all-has own (clear tagged vs y) z (together (valued (clear tagged vs y) z) (not (those own z)) (clear-has vs y z (together (U z) (not (nat_eq z y)) live other)) off)))

          by_part : not (those own z) ≡ true → (minus U (just y) z ≡ true) ⊎ (just x z ≡ true) → valued (assign either x v) z ≡ true
          by_part off (inl q) = let p = and_parts (U z) (not (nat_eq z y)) q in by_hides p.0 p.1 off (test (those hides z))
          by_part off (inr q) = assign-has either x v a there value z (or_right (valued either z) (just x z) q)

          pick : (minus goes.0 (those own) z ≡ true) ⊎ (valued saved z ≡ true) → valued (assign either x v) z ≡ true
          pick (inl q) = let p = and_parts (goes.0 z) (not (those own z)) q in by_part p.1 (or_cases (minus U (just y) z) (just x z) (subst (λ (G : Vars). G z ≡ true) goes.1.1 p.0))
          pick (inr q) = let h = has-of saved z q in old z (either-first (those hides) saved ws z lengths (only-hidden hides saved z h.0 only_hid h.1) q)

  -- ---------- pars ----------
  -- a side goes from what it is given
  side-goes : (k : Context) (own : List ℕ) (a : Code) (vs : List Held) (A : Vars) → Goes k a (valued vs) A → has_none (valued vs) own ≡ true → (c : Context) → is_scoped c a (valued vs) ≡ true → (L : Vars) × Goes k a (valued (only tagged (block_mentions own a) vs)) L
  side-goes k own a vs A goes none_own c scoped =
      let D : Vars = minus (valued vs) (mentioned a) in
      let o = goes-fewer k a (valued vs) A D (side-free c a (valued vs) scoped) goes in
      let r = goes-from-more k a (minus (valued vs) D) o.ends (valued (only tagged (block_mentions own a) vs)) given o.goes in
      (r.0, r.1)
    where
      given : IsWithin (minus (valued vs) (minus (valued vs) (mentioned a))) (valued (only tagged (block_mentions own a) vs))
      given x e =
          let p = and_parts (valued vs x) (not (minus (valued vs) (mentioned a) x)) e in
          only-has (block_mentions own a) vs x (together (block_mentions own a x) (valued vs x) (together (mentioned a x) (not (those own x)) (stands (mentioned a x) p.0 p.1) (not_own (those own x) refl p.0)) p.0)
        where
          stands : (m : Bool) → valued vs x ≡ true → not (valued vs x && not m) ≡ true → m ≡ true
          stands true live e = refl
          stands false live e = absurd (let no : false ≡ true = sym (ap (λ t. not (t && true)) live) ∙ e in let z : ⊥ = cc no in z)

          not_own : (o : Bool) → those own x ≡ o → valued vs x ≡ true → not o ≡ true
          not_own true q live = absurd (let no : true ≡ false = sym live ∙ all-none (valued vs) own x none_own q in let z : ⊥ = cc no in z)
          not_own false q live = refl

  pub below-less : (n x : ℕ) → x < n → below n x ≡ true
  below-less zero x less = absurd (omega (arith, less))
  below-less (suc n) zero less = refl
  below-less (suc n) (suc x) less = below-less n x (omega (arith, less))

  -- what one block writes doesn't stand in the other
  pub blocks-share-none : (k : Context) (own1 : List ℕ) (a : Code) (own2 : List ℕ) (d : Code) (G B : Vars) → IsAllowed k (par_head k own1 a own2 d) G → Goes k d G B → (x : ℕ) → block_writes own1 a x ≡ true → block_mentions own2 d x ≡ true → ⊥
  blocks-share-none k own1 a own2 d G B allowed goes x w m =
      let known : x < length k.vars = mentioned-known k d G ((agree k d G).fine B goes) x (and_parts (mentioned d x) (not (those own2 x)) m).0 in
      let apart = or_parts (some_var k (meet (touches k own1 a) (uses k own2 d))) _ (applies-none k (par_head k own1 a own2 d) G allowed ParShared) in
      let none : meet (touches k own1 a) (uses k own2 d) x ≡ false = nothing-below (length k.vars) (meet (touches k own1 a) (uses k own2 d)) x known apart.0 in
      let inside : below (length k.vars) x ≡ true = below-less (length k.vars) x known in
      let touch : plus (touched a) (those own1) x ≡ true = block-touched own1 a (written-touched a) x w in
      let hit : meet (touches k own1 a) (uses k own2 d) x ≡ true = together (touches k own1 a x) (uses k own2 d x) (together (below (length k.vars) x) (plus (touched a) (those own1) x) inside touch) (together (below (length k.vars) x) (block_mentions own2 d x) inside m) in
      let no : true ≡ false = sym hit ∙ none in
      absurd (let z : ⊥ = cc no in z)

  pub split-goes : (below : List ℕ) (b : Branch) (t : ℕ) (at : Span) (own1 : List ℕ) (a : Code) (own2 : List ℕ) (d rest : Code) (H : Vars) (c : Context)
      → has_none (valued b.own.vars) own1 ≡ true → has_none (valued b.own.vars) own2 ≡ true → is_scoped c a (valued b.own.vars) ≡ true → is_scoped c d (valued b.own.vars) ≡ true
      → RestGoes u below b.own.routine (Par at own1 a own2 d rest) b.stack (valued b.own.vars) H
      → Further (λ M. TreeGoes u below (done (core u) b t (Splits (blocks own1 a own2 d) rest)) M) H
  split-goes below b t at own1 a own2 d rest H c none1 none2 scoped1 scoped2 goes =
      let r = top_on.instead rest live behind.0 behind.1 behind.2 in
      record { ends = r.ends; goes = (left_side.0, right_side.0, inr left_side.1, inr right_side.1, r.goes); more = r.more }
    where
      m : ℕ
      m = b.own.routine

      U : Vars
      U = valued b.own.vars

      k : Context
      k = context_above u below m b.stack

      p : Blocks
      p = blocks own1 a own2 d

      top_on : Top u below m (Par at own1 a own2 d rest) b.stack U H
      top_on = top u below m (Par at own1 a own2 d rest) b.stack U H goes

      A : Vars
      A = top_on.goes.1.left_ends

      B : Vars
      B = top_on.goes.1.right_ends

      goes_a : Goes k a U A
      goes_a = top_on.goes.1.left

      goes_d : Goes k d U B
      goes_d = top_on.goes.1.right

      first_vs : List Held
      first_vs = only tagged (mentions_l p) b.own.vars

      second_vs : List Held
      second_vs = only tagged (mentions_r p) b.own.vars

      left_side : (L : Vars) × Goes k a (valued first_vs) L
      left_side = side-goes k own1 a b.own.vars A goes_a none1 c scoped1

      right_side : (L : Vars) × Goes k d (valued second_vs) L
      right_side = side-goes k own2 d b.own.vars B goes_d none2 c scoped2

      kept : Vars
      kept = valued (only tagged (in_neither (back_l u m p) (back_r u m p)) b.own.vars)

      live : Vars
      live = live_joined u m p kept left_side.0 right_side.0

      -- what a block ends with, and stands in it, its side ends with
      through : (own : List ℕ) (e : Code) (E L : Vars) → Goes k e U E → Goes k e (valued (only tagged (block_mentions own e) b.own.vars)) L → (x : ℕ) → block_mentions own e x ≡ true → E x ≡ true → L x ≡ true
      through own e E L from on x stands end = subst (λ (G : Vars). G x ≡ true) (sym (ends-by k e (valued (only tagged (block_mentions own e) b.own.vars)) L on)) (to-changed (effect e) (valued (only tagged (block_mentions own e) b.own.vars)) x (pick (from-changed (effect e) U x (subst (λ (G : Vars). G x ≡ true) (ends-by k e U E from) end))))
        where
          pick : ((U x ≡ true) × (not ((effect e).lost x) ≡ true)) ⊎ ((effect e).made x ≡ true) → ((valued (only tagged (block_mentions own e) b.own.vars) x ≡ true) × (not ((effect e).lost x) ≡ true)) ⊎ ((effect e).made x ≡ true)
          pick (inl (g, l)) = inl (only-has (block_mentions own e) b.own.vars x (together (block_mentions own e x) (U x) stands g), l)
          pick (inr made) = inr made

      -- what a block makes live it writes
      makes : (own : List ℕ) (e : Code) (E : Vars) → Goes k e U E → (x : ℕ) → minus (minus E (those own)) U x ≡ true → (block_writes own e x ≡ true) × ((effect e).made x ≡ true)
      makes own e E from x q =
          let s = and_parts (minus E (those own) x) (not (U x)) q in
          let r = and_parts (E x) (not (those own x)) s.0 in
          pick (from-changed (effect e) U x (subst (λ (G : Vars). G x ≡ true) (ends-by k e U E from) r.0)) s.1 r.1
        where
          pick : ((U x ≡ true) × (not ((effect e).lost x) ≡ true)) ⊎ ((effect e).made x ≡ true) → not (U x) ≡ true → not (those own x) ≡ true → (block_writes own e x ≡ true) × ((effect e).made x ≡ true)
          pick (inl (g, l)) dead off = absurd (let no : false ≡ true = sym (ap (λ t. not t) g) ∙ dead in let z : ⊥ = cc no in z)
          pick (inr made) dead off = (together (written e x) (not (those own x)) (made-written e x made) off, made)

      made-in : (own : List ℕ) (e : Code) (L : Vars) (V : Vars) → Goes k e V L → (x : ℕ) → (effect e).made x ≡ true → L x ≡ true
      made-in own e L V on x made = subst (λ (G : Vars). G x ≡ true) (sym (ends-by k e V L on)) (to-changed (effect e) V x (inr made))

      -- what comes back stands in its block
      back-stands : (W N : Vars) → IsWithin W N → (x : ℕ) → plus W (meet (isolated_in u m) N) x ≡ true → N x ≡ true
      back-stands W N less x e = pick (or_cases (W x) (isolated_in u m x && N x) e)
        where
          pick : (W x ≡ true) ⊎ (isolated_in u m x && N x ≡ true) → N x ≡ true
          pick (inl q) = less x q
          pick (inr q) = (and_parts (isolated_in u m x) (N x) q).1

      A' : Vars
      A' = minus A (those own1)

      B' : Vars
      B' = minus B (those own2)

      Where : ℕ → Type 0
      Where x = ((U x ≡ true) × ((A' x ≡ true) × (B' x ≡ true))) ⊎ ((minus A' U x ≡ true) ⊎ (minus B' U x ≡ true))

      where-is : (x : ℕ) → joined U A' B' x ≡ true → Where x
      where-is x e = pick (or_cases (minus U (plus (minus U A') (minus U B')) x) (plus (minus A' U) (minus B' U) x) e)
        where
          three : (g f h : Bool) → (g && not ((g && not f) || (g && not h))) ≡ true → (g ≡ true) × ((f ≡ true) × (h ≡ true))
          three true true true e = (refl, (refl, refl))
          three true true false e = absurd (let no : ⊥ = cc e in no)
          three true false h e = absurd (let no : ⊥ = cc e in no)
          three false f h e = absurd (let no : ⊥ = cc e in no)

          pick : (minus U (plus (minus U A') (minus U B')) x ≡ true) ⊎ (plus (minus A' U) (minus B' U) x ≡ true) → Where x
          pick (inl q) = inl (three (U x) (A' x) (B' x) q)
          pick (inr q) = inr (or_cases (minus A' U x) (minus B' U x) q)

      left-back : (x : ℕ) → block_writes own1 a x ≡ true → back_l u m p x ≡ true
      left-back x w = or_left (block_writes own1 a x) (isolated_in u m x && block_mentions own1 a x) w

      right-back : (x : ℕ) → block_writes own2 d x ≡ true → back_r u m p x ≡ true
      right-back x w = or_left (block_writes own2 d x) (isolated_in u m x && block_mentions own2 d x) w

      clash : {b : Bool} → b ≡ true → b ≡ false → ⊥
      clash e f = let no : true ≡ false = sym e ∙ f in let z : ⊥ = cc no in z

      enough : IsWithin (joined U A' B') live
      enough x e = by_right (test (back_r u m p x)) (where-is x e)
        where
          value : (r l : Bool) → back_r u m p x ≡ r → back_l u m p x ≡ l → cond r (right_side.0 x) (cond l (left_side.0 x) (kept x)) ≡ true → live x ≡ true
          value r l q s e = ap (λ t. cond t (right_side.0 x) (cond (back_l u m p x) (left_side.0 x) (kept x))) q ∙ ap (λ t. cond r (right_side.0 x) (cond t (left_side.0 x) (kept x))) s ∙ e

          on_right : back_r u m p x ≡ true → Where x → right_side.0 x ≡ true
          on_right r (inl (g, (f, h))) = through own2 d B right_side.0 goes_d right_side.1 x (back-stands (block_writes own2 d) (block_mentions own2 d) (block_writes-within own2 d) x r) (and_parts (B x) (not (those own2 x)) h).0
          on_right r (inr (inl q)) = absurd (blocks-share-none k own1 a own2 d U B top_on.goes.0 goes_d x (makes own1 a A goes_a x q).0 (back-stands (block_writes own2 d) (block_mentions own2 d) (block_writes-within own2 d) x r))
          on_right r (inr (inr q)) = made-in own2 d right_side.0 _ right_side.1 x (makes own2 d B goes_d x q).1

          on_left : back_r u m p x ≡ false → back_l u m p x ≡ true → Where x → left_side.0 x ≡ true
          on_left r l (inl (g, (f, h))) = through own1 a A left_side.0 goes_a left_side.1 x (back-stands (block_writes own1 a) (block_mentions own1 a) (block_writes-within own1 a) x l) (and_parts (A x) (not (those own1 x)) f).0
          on_left r l (inr (inl q)) = made-in own1 a left_side.0 _ left_side.1 x (makes own1 a A goes_a x q).1
          on_left r l (inr (inr q)) = absurd (clash (right-back x (makes own2 d B goes_d x q).0) r)

          stays : back_r u m p x ≡ false → back_l u m p x ≡ false → Where x → kept x ≡ true
          stays r l (inl (g, more)) = only-has (in_neither (back_l u m p) (back_r u m p)) b.own.vars x (together (not (back_l u m p x || back_r u m p x)) (U x) (ap (λ t. not (t || back_r u m p x)) l ∙ ap (λ t. not t) r) g)
          stays r l (inr (inl q)) = absurd (clash (left-back x (makes own1 a A goes_a x q).0) l)
          stays r l (inr (inr q)) = absurd (clash (right-back x (makes own2 d B goes_d x q).0) r)

          by_left : back_r u m p x ≡ false → (back_l u m p x ≡ true) ⊎ (back_l u m p x ≡ false) → Where x → live x ≡ true
          by_left r (inl l) is = value false true r l (on_left r l is)
          by_left r (inr l) is = value false false r l (stays r l is)

          by_right : (back_r u m p x ≡ true) ⊎ (back_r u m p x ≡ false) → Where x → live x ≡ true
          by_right (inl r) is = ap (λ t. cond t (right_side.0 x) (cond (back_l u m p x) (left_side.0 x) (kept x))) r ∙ on_right r is
          by_right (inr r) is = by_left r (test (back_l u m p x)) is

      behind : (L : Vars) × Goes k rest live L × IsWithin top_on.ends L
      behind = goes-from-more k rest (joined U A' B') top_on.ends live enough top_on.goes.1.rest

  -- both sides have gone well: what comes back has what is live after the join
  pub merged-has : (m : ℕ) (p : Blocks) (vs ls rs : List Held) → length ls ≡ length vs → length rs ≡ length vs → IsWithin (live_joined u m p (valued vs) (valued ls) (valued rs)) (valued (merged (back_l u m p) (back_r u m p) vs ls rs))
  merged-has m p vs ls rs even_l even_r x e = by_right (test (back_r u m p x)) e
    where
      inner : List Held
      inner = from_either (back_l u m p) ls vs

      lengths : length rs ≡ length inner
      lengths = even_r ∙ sym even_l ∙ sym (either-length (back_l u m p) ls vs even_l)

      by_left : back_r u m p x ≡ false → (back_l u m p x ≡ true) ⊎ (back_l u m p x ≡ false) → cond (back_l u m p x) (valued ls x) (valued vs x) ≡ true → valued (from_either (back_r u m p) rs inner) x ≡ true
      by_left r (inl l) e = either-second (back_r u m p) rs inner x lengths r (either-first (back_l u m p) ls vs x even_l l (sym (ap (λ t. cond t (valued ls x) (valued vs x)) l) ∙ e))
      by_left r (inr l) e = either-second (back_r u m p) rs inner x lengths r (either-second (back_l u m p) ls vs x even_l l (sym (ap (λ t. cond t (valued ls x) (valued vs x)) l) ∙ e))

      by_right : (back_r u m p x ≡ true) ⊎ (back_r u m p x ≡ false) → cond (back_r u m p x) (valued rs x) (cond (back_l u m p x) (valued ls x) (valued vs x)) ≡ true → valued (from_either (back_r u m p) rs inner) x ≡ true
      by_right (inl r) e = either-first (back_r u m p) rs inner x lengths r (sym (ap (λ t. cond t (valued rs x) (cond (back_l u m p x) (valued ls x) (valued vs x))) r) ∙ e)
      by_right (inr r) e = by_left r (test (back_l u m p x)) (sym (ap (λ t. cond t (valued rs x) (cond (back_l u m p x) (valued ls x) (valued vs x))) r) ∙ e)
