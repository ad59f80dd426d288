-- A code goes exactly where it is fine, and then to what its effect gives.
use Rattle.std.proofs.Common.{◌≡◌, ℕ, List, refl, sym, ap, ◌∙◌, subst}
use Rattle.perm_tree.specs.Code.{Term, Code, End, Give, Return, Do, If, While, Par, Recover}
use Rattle.perm_tree.specs.Mentions.{argument_consumes}
use Rattle.perm_tree.specs.Vars.{Vars, just, those, minus, meet, IsWithin, IsGreatest}
use Rattle.perm_rules.specs.Parts.{Context, Condition}
use Rattle.perm_rules.specs.Refusals.{IsAllowed}
use Rattle.perm_rules.specs.Effects.{Effect, changed, then, instruction_effect, effect, block_effect, either, both, repeated}
use Rattle.perm_rules.specs.Goes.{hiding, joined, GoesRound, Goes}
use Rattle.perm_rules.proofs.SetLaws.{IsClear, IsApart, same-set, minus-less, then-changed, if-changed, par-changed, closed-changed, lost-changed, empty-changed, keeps-within, lost-nothing}
use Rattle.perm_rules.proofs.PartLaws.{allowed-monotone, after-changed, taken-changed}
use Rattle.perm_rules.proofs.Fine.{IsFine, sides-apart, block-clear, fine-monotone}

-- the code goes from G exactly where it is fine, and then to exactly what its effect gives
pub record Agrees (c : Context) (a : Code) (G : Vars) : Type 0 where
  pub to : IsFine c a G → Goes c a G (changed (effect a) G)
  pub fine : (H : Vars) → Goes c a G H → IsFine c a G
  pub same : (H : Vars) → Goes c a G H → H ≡ changed (effect a) G

goes-between-same : (c : Context) (a : Code) (G K H L : Vars) → G ≡ K → H ≡ L → Goes c a G H → Goes c a K L
goes-between-same c a G K H L e f g = subst (λ (M : Vars). Goes c a K M) f (subst (λ (M : Vars). Goes c a M H) e g)

-- ---------- a rest behind a statement ----------
module _ (c : Context) (rest : Code) (e : Effect) (G K : Vars) (is : K ≡ changed e G) (agrees : Agrees c rest (changed e G)) where
  rest-goes : IsFine c rest (changed e G) → Goes c rest K (changed (then e (effect rest)) G)
  rest-goes h = goes-between-same c rest (changed e G) K (changed (effect rest) (changed e G)) (changed (then e (effect rest)) G) (sym is) (then-changed e (effect rest) G) (agrees.to h)

  rest-fine : (H : Vars) → Goes c rest K H → IsFine c rest (changed e G)
  rest-fine H g = agrees.fine H (goes-between-same c rest K (changed e G) H H is refl g)

  rest-same : (H : Vars) → Goes c rest K H → H ≡ changed (then e (effect rest)) G
  rest-same H g = agrees.same H (goes-between-same c rest K (changed e G) H H is refl g) ∙ then-changed e (effect rest) G

-- ---------- ends of blocks ----------
block-ends : (own : List ℕ) (a : Code) (G A : Vars) → A ≡ changed (effect a) G → minus A (those own) ≡ changed (block_effect own a) G
block-ends own a G A e = ap (λ (M : Vars). minus M (those own)) e ∙ closed-changed (effect a) (those own) G

if-ends : (own1 : List ℕ) (a : Code) (own2 : List ℕ) (b : Code) (G A B : Vars) → A ≡ changed (effect a) G → B ≡ changed (effect b) G
    → IsClear (block_effect own1 a) → IsClear (block_effect own2 b)
    → meet (minus A (those own1)) (minus B (those own2)) ≡ changed (either (block_effect own1 a) (block_effect own2 b)) G
if-ends own1 a own2 b G A B e f p q =
    ap (λ (M : Vars). meet M (minus B (those own2))) (block-ends own1 a G A e)
    ∙ (ap (λ (M : Vars). meet (changed (block_effect own1 a) G) M) (block-ends own2 b G B f)
    ∙ if-changed (block_effect own1 a) (block_effect own2 b) G p q)

par-ends : (own1 : List ℕ) (a : Code) (own2 : List ℕ) (b : Code) (G A B : Vars) → A ≡ changed (effect a) G → B ≡ changed (effect b) G
    → IsClear (block_effect own1 a) → IsClear (block_effect own2 b)
    → IsApart (block_effect own1 a).lost (block_effect own2 b).made × IsApart (block_effect own2 b).lost (block_effect own1 a).made
    → joined G (minus A (those own1)) (minus B (those own2)) ≡ changed (both (block_effect own1 a) (block_effect own2 b)) G
par-ends own1 a own2 b G A B e f p q apart =
    ap (λ (M : Vars). joined G M (minus B (those own2))) (block-ends own1 a G A e)
    ∙ (ap (λ (M : Vars). joined G (changed (block_effect own1 a) G) M) (block-ends own2 b G B f)
    ∙ par-changed (block_effect own1 a) (block_effect own2 b) G p q apart.0 apart.1)

-- ---------- loops ----------
module _ (c : Context) (e : Term) (own : List ℕ) (body : Code) (G : Vars) (agrees : (K : Vars) → Agrees c body K) where
  abbrev Rounds : Vars → Type 0
  Rounds K = GoesRound c e own (λ A B. Goes c body A B) G K

  -- what the loop goes round with, without what its body loses
  abbrev kept : Vars
  kept = minus G (block_effect own body).lost

  round-within : (K : Vars) → Rounds K → IsWithin K kept
  round-within K r =
      lost-nothing (block_effect own body) K (minus r.ends (those own)) G
      (block-clear c own body K ((agrees K).fine r.ends r.body)) (block-ends own body K r.ends ((agrees K).same r.ends r.body)) r.again r.part

  -- where the condition and the body are allowed without what the body loses, that set is the greatest
  loop-goes : IsAllowed c (Condition e) kept → IsFine c body kept → IsGreatest Rounds kept
  loop-goes h f = record {
    holds = record {
      part = minus-less G (block_effect own body).lost;
      tested = h;
      ends = changed (effect body) kept;
      body = (agrees kept).to f;
      again = subst (λ (M : Vars). IsWithin kept M) (sym (closed-changed (effect body) (those own) kept)) (keeps-within (block_effect own body) G);
    };
    greatest = λ K r. round-within K r;
  }

  loop-fine : (K : Vars) → IsGreatest Rounds K → IsAllowed c (Condition e) kept × IsFine c body kept
  loop-fine K g =
      let inside : IsWithin K kept = round-within K g.holds in
      (allowed-monotone c (Condition e) K kept inside g.holds.tested, fine-monotone c body K kept inside ((agrees K).fine g.holds.ends g.holds.body))

  loop-same : (K : Vars) → IsGreatest Rounds K → K ≡ kept
  loop-same K g =
      let fine = loop-fine K g in
      same-set K kept (round-within K g.holds) (g.greatest kept (loop-goes fine.0 fine.1).holds)

-- ---------- all codes ----------
pub agree : (c : Context) (a : Code) (G : Vars) → Agrees c a G
agree c End G = record { to = λ h. sym (empty-changed G); fine = λ H g. tt; same = λ H g. g ∙ empty-changed G }
agree c (Give at w x) G = record {
  to = λ h. (h, sym (taken-changed (just w) (just x) G));
  fine = λ H g. g.0;
  same = λ H g. g.1 ∙ taken-changed (just w) (just x) G;
}
agree c (Return at a) G = record {
  to = λ h. (h, sym (lost-changed (argument_consumes a) G));
  fine = λ H g. g.0;
  same = λ H g. g.1 ∙ lost-changed (argument_consumes a) G;
}
agree c (Do at i rest) G =
    let later = agree c rest (changed (instruction_effect i) G) in
    record {
      to = λ h. (h.0, rest-goes c rest (instruction_effect i) G _ (after-changed i G) later h.1);
      fine = λ H g. (g.0, rest-fine c rest (instruction_effect i) G _ (after-changed i G) later H g.1);
      same = λ H g. rest-same c rest (instruction_effect i) G _ (after-changed i G) later H g.1;
    }
agree c (If at e own1 a own2 b rest) G =
    let one = agree c a G in
    let two = agree c b G in
    let later = agree c rest (changed (either (block_effect own1 a) (block_effect own2 b)) G) in
    record {
      to = λ h. (
        h.0,
        record {
          left_ends = changed (effect a) G;
          right_ends = changed (effect b) G;
          left = one.to h.1;
          right = two.to h.2;
          rest = rest-goes c rest (either (block_effect own1 a) (block_effect own2 b)) G _
              (if-ends own1 a own2 b G _ _ refl refl (block-clear c own1 a G h.1) (block-clear c own2 b G h.2)) later h.3;
        },
      );
      fine = λ H g.
          let f1 = one.fine g.1.left_ends g.1.left in
          let f2 = two.fine g.1.right_ends g.1.right in (
            g.0,
            f1,
            f2,
            rest-fine c rest (either (block_effect own1 a) (block_effect own2 b)) G _
                (if-ends own1 a own2 b G g.1.left_ends g.1.right_ends (one.same g.1.left_ends g.1.left) (two.same g.1.right_ends g.1.right) (block-clear c own1 a G f1) (block-clear c own2 b G f2)) later H g.1.rest,
          );
      same = λ H g.
          let f1 = one.fine g.1.left_ends g.1.left in
          let f2 = two.fine g.1.right_ends g.1.right in
          rest-same c rest (either (block_effect own1 a) (block_effect own2 b)) G _
          (if-ends own1 a own2 b G g.1.left_ends g.1.right_ends (one.same g.1.left_ends g.1.left) (two.same g.1.right_ends g.1.right) (block-clear c own1 a G f1) (block-clear c own2 b G f2)) later H g.1.rest;
    }
agree c (While at e own body rest) G =
    let inner : (K : Vars) → Agrees c body K = λ K. agree c body K in
    let later = agree c rest (changed (repeated (block_effect own body)) G) in
    record {
      to = λ h. (
        minus G (block_effect own body).lost,
        loop-goes c e own body G inner h.0 h.1,
        rest-goes c rest (repeated (block_effect own body)) G _ (lost-changed (block_effect own body).lost G) later h.2,
      );
      fine = λ H g.
          let f = loop-fine c e own body G inner g.0 g.1 in (
            f.0,
            f.1,
            rest-fine c rest (repeated (block_effect own body)) G g.0
                (loop-same c e own body G inner g.0 g.1 ∙ lost-changed (block_effect own body).lost G) later H g.2,
          );
      same = λ H g.
          rest-same c rest (repeated (block_effect own body)) G g.0
          (loop-same c e own body G inner g.0 g.1 ∙ lost-changed (block_effect own body).lost G) later H g.2;
    }
agree c (Par at own1 a own2 b rest) G =
    let one = agree c a G in
    let two = agree c b G in
    let later = agree c rest (changed (both (block_effect own1 a) (block_effect own2 b)) G) in
    record {
      to = λ h. (
        h.0,
        record {
          left_ends = changed (effect a) G;
          right_ends = changed (effect b) G;
          left = one.to h.1;
          right = two.to h.2;
          rest = rest-goes c rest (both (block_effect own1 a) (block_effect own2 b)) G _
              (par-ends own1 a own2 b G _ _ refl refl (block-clear c own1 a G h.1) (block-clear c own2 b G h.2) (sides-apart c own1 a own2 b G h.0 h.1 h.2)) later h.3;
        },
      );
      fine = λ H g.
          let f1 = one.fine g.1.left_ends g.1.left in
          let f2 = two.fine g.1.right_ends g.1.right in (
            g.0,
            f1,
            f2,
            rest-fine c rest (both (block_effect own1 a) (block_effect own2 b)) G _
                (par-ends own1 a own2 b G g.1.left_ends g.1.right_ends (one.same g.1.left_ends g.1.left) (two.same g.1.right_ends g.1.right) (block-clear c own1 a G f1) (block-clear c own2 b G f2) (sides-apart c own1 a own2 b G g.0 f1 f2)) later H g.1.rest,
          );
      same = λ H g.
          let f1 = one.fine g.1.left_ends g.1.left in
          let f2 = two.fine g.1.right_ends g.1.right in
          rest-same c rest (both (block_effect own1 a) (block_effect own2 b)) G _
          (par-ends own1 a own2 b G g.1.left_ends g.1.right_ends (one.same g.1.left_ends g.1.left) (two.same g.1.right_ends g.1.right) (block-clear c own1 a G f1) (block-clear c own2 b G f2) (sides-apart c own1 a own2 b G g.0 f1 f2)) later H g.1.rest;
    }
agree c (Recover at x own hides body rest) G =
    let inner = agree (hiding hides c) body G in
    let later = agree c rest (changed (block_effect own body) G) in
    record {
      to = λ h. (h.0, record { ends = changed (effect body) G; body = inner.to h.1; rest = rest-goes c rest (block_effect own body) G _ (block-ends own body G _ refl) later h.2 });
      fine = λ H g. (g.0, inner.fine g.1.ends g.1.body, rest-fine c rest (block_effect own body) G _ (block-ends own body G g.1.ends (inner.same g.1.ends g.1.body)) later H g.1.rest);
      same = λ H g. rest-same c rest (block_effect own body) G _ (block-ends own body G g.1.ends (inner.same g.1.ends g.1.body)) later H g.1.rest;
    }
