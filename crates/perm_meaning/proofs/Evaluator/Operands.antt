-- The expressions from a low on, one after the other.
use Rattle.std.proofs.Common.{◌≡◌, ◌∙◌, ℕ, ◌+◌, ◌-◌, ◌<◌, ◌≤◌, List, [], ◌∷◌, ◌++◌, inl, inr, length, Some, get_or, sym, ap, subst, arith, length-append, le_refl}
use Rattle.std.specs.Prelude.{slice_get}
use Rattle.std.proofs.Math.ListN.{get_or-append}
use Rattle.std.proofs.Math.Seq.{get_or-append_seam}
use Rattle.std.proofs.lemmas.Bool.{cases_lt}
use Rattle.std.proofs.lemmas.List.{get_or_past}
use Rattle.perm_tree.specs.declared.ast.Expr.{Expr}
use Rattle.perm_tree.specs.declared.ast.Expr.TheVariants.{Number, Bool as Truth, Null, Var, Unary, Binary}
use Rattle.perm_tree.specs.declared.unit.VarInfo.{VarInfo}
use Rattle.perm_tree.specs.Code.{Term, NullLit}
use Rattle.perm_tree.specs.CodeNames.{term_of, terms_of}
use Rattle.perm_tree.specs.Lows.{lows_of}
use Rattle.perm_tree.specs.Places.{Listing, IsPlaced}
use Rattle.perm_tree.proofs.CodeLaws.{term_at-is}
use Rattle.perm_tree.proofs.Entries.{length-entries_of}
use Rattle.perm_tree.proofs.LowLaws.{operands-from, low-le}
use Rattle.perm_meaning.specs.declared.eval.values.Given.{Given}
use Rattle.perm_meaning.specs.declared.eval.values.Given.TheVariants.{Nothing}
use Rattle.perm_meaning.specs.Evaluator.Operands.{IsFound, OperandsAre}
use Rattle.perm_meaning.specs.Expressions.{eval, tagged}
use Rattle.perm_meaning.specs.NamedHeap.{Held}
use Rattle.perm_meaning.specs.Evaluator.NumberedValues.{given_by, Names}

-- so much is found of the expressions from a low to a place: of each that is made of none below the low, what it gives
pub record AreFound (p : Listing) (infos : List VarInfo) (vs : List Held) (names : Names) (low at : ℕ) (found : List Given) : Type 0 where
  pub count : length found ≡ at - low
  pub behind : low ≤ at
  pub each : (k : ℕ) → low ≤ k → k < at → low ≤ get_or (lows_of p.exprs) k 0 → IsFound vs names (terms_of infos p.exprs) low found k

-- at first nothing is found
pub none-found : (p : Listing) (infos : List VarInfo) (vs : List Held) (names : Names) (low : ℕ) (found : List Given) → found ≡ [] → AreFound p infos vs names low low found
none-found p infos vs names low found e = record {
  count = subst (λ (g : List Given). length g ≡ low - low) (sym e) (omega arith);
  behind = le_refl low;
  each = λ k h i. absurd (omega (arith, h, i));
}

-- a place past the last has no term
pub no-term : (p : Listing) (infos : List VarInfo) (at : ℕ) → length p.exprs ≤ at → get_or (terms_of infos p.exprs) at NullLit ≡ NullLit
no-term p infos at h = get_or_past (terms_of infos p.exprs) at NullLit (omega (arith, h, length-entries_of (term_of infos) p.exprs))

module _ (p : Listing) (placed : IsPlaced p) (infos : List VarInfo) (vs : List Held) (names : Names) (low : ℕ) where
  -- the operands of an expression are found
  pub operands-found : (at : ℕ) (e : Expr) (found : List Given) → slice_get p.exprs at ≡ Some e → AreFound p infos vs names low at found → low ≤ get_or (lows_of p.exprs) at 0
      → OperandsAre vs names (terms_of infos p.exprs) low found e
  operands-found at (Number n) found here f h = tt
  operands-found at (Truth b) found here f h = tt
  operands-found at Null found here f h = tt
  operands-found at (Var x) found here f h = tt
  operands-found at (Unary op a) found here f h =
      let below : a < at = placed.exprs at (Unary op a) here in
      let from : get_or (lows_of p.exprs) at 0 ≤ get_or (lows_of p.exprs) a 0 = operands-from p.exprs at (Unary op a) here below in
      let lo = low-le p.exprs a in
      (omega (arith, h, from, lo), f.each a (omega (arith, h, from, lo)) below (omega (arith, h, from)))
  operands-found at (Binary op a b) found here f h =
      let below : (a < at) × (b < at) = placed.exprs at (Binary op a b) here in
      let from : (get_or (lows_of p.exprs) at 0 ≤ get_or (lows_of p.exprs) a 0) × (get_or (lows_of p.exprs) at 0 ≤ get_or (lows_of p.exprs) b 0) = operands-from p.exprs at (Binary op a b) here below in
      let la = low-le p.exprs a in
      let lb = low-le p.exprs b in (
        (omega (arith, h, from.0, la), f.each a (omega (arith, h, from.0, la)) below.0 (omega (arith, h, from.0))),
        (omega (arith, h, from.1, lb), f.each b (omega (arith, h, from.1, lb)) below.1 (omega (arith, h, from.1))),
      )

  -- what is made of its operands is what it gives
  pub made-of : (at : ℕ) (e : Expr) (found : List Given) (g : Given) → slice_get p.exprs at ≡ Some e → AreFound p infos vs names low at found → low ≤ get_or (lows_of p.exprs) at 0
      → ((terms : List Term) → OperandsAre vs names terms low found e → given_by names g ≡ eval tagged (term_of infos terms e) vs)
      → given_by names g ≡ eval tagged (get_or (terms_of infos p.exprs) at NullLit) vs
  made-of at e found g here f h gives =
      gives (terms_of infos p.exprs) (operands-found at e found here f h)
      ∙ ap (λ (t : Term). eval tagged t vs) (sym (term_at-is (record { program = p; tables = [] }) infos at e placed here))

  -- one more is found
  pub one-more : (at : ℕ) (e : Expr) (found more : List Given) (g : Given) → slice_get p.exprs at ≡ Some e → AreFound p infos vs names low at found → more ≡ found ++ g ∷ []
      → ((terms : List Term) → OperandsAre vs names terms low found e → given_by names g ≡ eval tagged (term_of infos terms e) vs)
      → AreFound p infos vs names low (at + 1) more
  one-more at e found more g here f q gives = subst (λ (z : List Given). AreFound p infos vs names low (at + 1) z) (sym q) (record {
    count = omega (arith, f.count, f.behind, length-append found (g ∷ []));
    behind = omega (arith, f.behind);
    each = each;
  })
    where
      each : (k : ℕ) → low ≤ k → k < at + 1 → low ≤ get_or (lows_of p.exprs) k 0 → IsFound vs names (terms_of infos p.exprs) low (found ++ g ∷ []) k
      each k h i lo = elim (cases_lt k at) [
        | inl before ↦ subst (λ (z : Given). given_by names z ≡ eval tagged (get_or (terms_of infos p.exprs) k NullLit) vs)
            (sym (get_or-append found (g ∷ []) Nothing (k - low) (omega (arith, f.count, f.behind, before, h)))) (f.each k h before lo)
        | inr past ↦
            let same : k ≡ at = omega (arith, past, i) in
            let place : length found ≡ k - low = f.count ∙ ap (λ n. n - low) (sym same) in
            let last : get_or (found ++ g ∷ []) (k - low) Nothing ≡ g = ap (λ n. get_or (found ++ g ∷ []) n Nothing) (sym place) ∙ get_or-append_seam found g [] Nothing in
            subst (λ (z : Given). given_by names z ≡ eval tagged (get_or (terms_of infos p.exprs) k NullLit) vs) (sym last)
            (subst (λ n. given_by names g ≡ eval tagged (get_or (terms_of infos p.exprs) n NullLit) vs) (sym same)
            (made-of at e found g here f (subst (λ n. low ≤ get_or (lows_of p.exprs) n 0) same lo) gives))
      ]
