-- No hidden variable stands in a block of the par that comes next.
use Rattle.std.proofs.Common.{◌≡◌, ℕ, true, false, List, [], ◌∷◌, refl, sym, ◌∙◌, inl, inr}
use Rattle.std.specs.Prelude.{◌⊎◌, ◌&&◌, not, Bool}
use Rattle.std.proofs.lemmas.Bool.{or_cases, and_parts}
use Rattle.perm_tree.specs.declared.ast.Span.{Span}
use Rattle.perm_tree.specs.declared.errors.TypeKind.TheVariants.{Hidden}
use Rattle.perm_tree.specs.Code.{Code, End, Give, Return, Do, If, While, Par, Recover, UnitCode}
use Rattle.perm_tree.specs.Mentions.{term_mentions, mentions, mentioned, block_mentions}
use Rattle.perm_tree.specs.Vars.{Vars, just, those, plus}
use Rattle.perm_rules.specs.Parts.{Context, RecoverHead}
use Rattle.perm_rules.specs.Goes.{Goes, hiding}
use Rattle.perm_rules.specs.Scoping.{given, is_scoped, has_none, hides_tied}
use Rattle.perm_rules.proofs.PartLaws.{applies-none}
use Rattle.perm_meaning.specs.Machine.{Frame, OpenBlock, OpenRecover, OpenCall}
use Rattle.perm_meaning.specs.NamedHeap.{Held}
use Rattle.perm_core.specs.Endings.{Ending, ByNothing, ByGive, ByReturn, is_by_give, ends, stack_ends}
use Rattle.perm_core.specs.Marked.{calls_right}
use Rattle.perm_core.specs.Picture.{context_of, hidden_above, context_above, RestGoes, stack_right}
use Rattle.perm_core.proofs.KeepsPicture.Calls.CallEnds.{any-right}
use Rattle.perm_core.proofs.KeepsPicture.Order.HiddenFree.{AllHidden, out, just-none, hidden-free}
use Rattle.perm_core.proofs.KeepsPicture.Order.HiddenVariables.{top-goes, covered}
use Rattle.perm_core.proofs.KeepsPicture.Order.RightCode.{given-one, top-right}

-- what stands in a block's outer part stands in the block
unblocked : (own : List ℕ) (a : Code) (y : ℕ) → block_mentions own a y ≡ true → mentioned a y ≡ true
unblocked own a y m = (and_parts (mentioned a y) (not (those own y)) m).0

-- code that ends with nothing gives to no variable
pub none-given : {A : Type 0} → is_by_give ByNothing ≡ true → A
none-given e = absurd (let no : ⊥ = cc e in no)

module _ (D : Vars) where
  -- what stands in code that goes where the set is hidden isn't of the set, where what the code gives to isn't
  pub code-shown : (k : Ending) (c s : Context) (a : Code) (G H U : Vars) → AllHidden D c → Goes c a G H → ends k a ≡ true → is_scoped s a U ≡ true → ((y : ℕ) → is_by_give k ≡ true → given a y ≡ true → D y ≡ false) → (y : ℕ) → mentioned a y ≡ true → D y ≡ false
  code-shown k c s End G H U all goes e scoped gives y m = absurd (let no : ⊥ = cc m in no)
  code-shown k c s (Give at w x) G H U all goes e scoped gives y m = pick (or_cases (just w y) (just x y) m)
    where
      pick : (just w y ≡ true) ⊎ (just x y ≡ true) → D y ≡ false
      pick (inl q) = just-none D y w (hidden-free D c (Give at w x) G H all goes) q
      pick (inr q) = gives y e q
  code-shown k c s (Return at r) G H U all goes e scoped gives y m = hidden-free D c (Return at r) G H all goes y m
  code-shown k c s (Do at i rest) G H U all goes e scoped gives y m = pick (code-shown k c s rest _ H (plus U (mentions i)) all goes.1 e scoped gives y) (or_cases (mentions i y) (mentioned rest y) m)
    where
      pick : (mentioned rest y ≡ true → D y ≡ false) → (mentions i y ≡ true) ⊎ (mentioned rest y ≡ true) → D y ≡ false
      pick later (inl q) = (hidden-free D c (Do at i rest) G H all goes).0 y q
      pick later (inr q) = later q
  code-shown k c s (If at t own1 a own2 b rest) G H U all goes e scoped gives y m =
      let A = block_mentions own1 a in
      let B = block_mentions own2 b in
      let V = plus U (plus A B) in
      let f = and_parts (ends ByNothing a) (ends ByNothing b && ends k rest) e in
      let g = and_parts (ends ByNothing b) (ends k rest) f.1 in
      let p = and_parts (has_none U own1 && has_none U own2) (is_scoped s a U && (is_scoped s b U && is_scoped s rest V)) scoped in
      let q = and_parts (is_scoped s a U) (is_scoped s b U && is_scoped s rest V) p.1 in
      let r = and_parts (is_scoped s b U) (is_scoped s rest V) q.1 in
      pick (code-shown ByNothing c s a G goes.1.left_ends U all goes.1.left f.0 q.0 (λ z n. none-given n) y) (code-shown ByNothing c s b G goes.1.right_ends U all goes.1.right g.0 r.0 (λ z n. none-given n) y)
      (code-shown k c s rest _ H V all goes.1.rest g.1 r.1 gives y) (or_cases (term_mentions t y) (plus A (plus B (mentioned rest)) y) m)
    where
      pick : (mentioned a y ≡ true → D y ≡ false) → (mentioned b y ≡ true → D y ≡ false) → (mentioned rest y ≡ true → D y ≡ false) → (term_mentions t y ≡ true) ⊎ (plus (block_mentions own1 a) (plus (block_mentions own2 b) (mentioned rest)) y ≡ true) → D y ≡ false
      pick first second third (inl q) = (hidden-free D c (If at t own1 a own2 b rest) G H all goes).0 y q
      pick first second third (inr q) = three (or_cases (block_mentions own1 a y) (plus (block_mentions own2 b) (mentioned rest) y) q)
        where
          two : (block_mentions own2 b y ≡ true) ⊎ (mentioned rest y ≡ true) → D y ≡ false
          two (inl q) = second (unblocked own2 b y q)
          two (inr q) = third q

          three : (block_mentions own1 a y ≡ true) ⊎ (plus (block_mentions own2 b) (mentioned rest) y ≡ true) → D y ≡ false
          three (inl q) = first (unblocked own1 a y q)
          three (inr q) = two (or_cases (block_mentions own2 b y) (mentioned rest y) q)
  code-shown k c s (While at t own body rest) G H U all goes e scoped gives y m =
      let B = block_mentions own body in
      let f = and_parts (ends ByNothing body) (ends k rest) e in
      let p = and_parts (has_none U own) (is_scoped s body (plus U B) && is_scoped s rest (plus U B)) scoped in
      let q = and_parts (is_scoped s body (plus U B)) (is_scoped s rest (plus U B)) p.1 in
      pick (code-shown ByNothing c s body goes.0 goes.1.holds.ends (plus U B) all goes.1.holds.body f.0 q.0 (λ z n. none-given n) y) (code-shown k c s rest goes.0 H (plus U B) all goes.2 f.1 q.1 gives y)
      (or_cases (term_mentions t y) (plus B (mentioned rest) y) m)
    where
      pick : (mentioned body y ≡ true → D y ≡ false) → (mentioned rest y ≡ true → D y ≡ false) → (term_mentions t y ≡ true) ⊎ (plus (block_mentions own body) (mentioned rest) y ≡ true) → D y ≡ false
      pick first second (inl q) = (hidden-free D c (While at t own body rest) G H all goes).0 y q
      pick first second (inr q) = two (or_cases (block_mentions own body y) (mentioned rest y) q)
        where
          two : (block_mentions own body y ≡ true) ⊎ (mentioned rest y ≡ true) → D y ≡ false
          two (inl q) = first (unblocked own body y q)
          two (inr q) = second q
  code-shown k c s (Par at own1 a own2 b rest) G H U all goes e scoped gives y m =
      let A = block_mentions own1 a in
      let B = block_mentions own2 b in
      let V = plus U (plus A B) in
      let f = and_parts (ends ByNothing a) (ends ByNothing b && ends k rest) e in
      let g = and_parts (ends ByNothing b) (ends k rest) f.1 in
      let p = and_parts (has_none U own1 && has_none U own2) (is_scoped s a U && (is_scoped s b U && is_scoped s rest V)) scoped in
      let q = and_parts (is_scoped s a U) (is_scoped s b U && is_scoped s rest V) p.1 in
      let r = and_parts (is_scoped s b U) (is_scoped s rest V) q.1 in
      pick (code-shown ByNothing c s a G goes.1.left_ends U all goes.1.left f.0 q.0 (λ z n. none-given n) y) (code-shown ByNothing c s b G goes.1.right_ends U all goes.1.right g.0 r.0 (λ z n. none-given n) y)
      (code-shown k c s rest _ H V all goes.1.rest g.1 r.1 gives y) (or_cases (A y) (plus B (mentioned rest) y) m)
    where
      pick : (mentioned a y ≡ true → D y ≡ false) → (mentioned b y ≡ true → D y ≡ false) → (mentioned rest y ≡ true → D y ≡ false) → (block_mentions own1 a y ≡ true) ⊎ (plus (block_mentions own2 b) (mentioned rest) y ≡ true) → D y ≡ false
      pick first second third (inl q) = first (unblocked own1 a y q)
      pick first second third (inr q) = two (or_cases (block_mentions own2 b y) (mentioned rest y) q)
        where
          two : (block_mentions own2 b y ≡ true) ⊎ (mentioned rest y ≡ true) → D y ≡ false
          two (inl q) = second (unblocked own2 b y q)
          two (inr q) = third q
  code-shown k c s (Recover at x own hides body rest) G H U all goes e scoped gives y m =
      let B = block_mentions own body in
      let W = plus U (those hides) in
      let V = plus (just x) (plus U B) in
      let f = and_parts (ends ByGive body) (ends k rest) e in
      let p = and_parts (given body x && (has_none W own && hides_tied s (plus U B) hides)) (is_scoped s body W && is_scoped s rest V) scoped in
      let q = and_parts (is_scoped s body W) (is_scoped s rest V) p.1 in
      let gift = (and_parts (given body x) (has_none W own && hides_tied s (plus U B) hides) p.0).0 in
      let target = out D c x all (applies-none c (RecoverHead x) G goes.0 Hidden) in
      pick target (code-shown ByGive (hiding hides c) s body G goes.1.ends W (λ z n. any-right z hides c.hidden (all z n)) goes.1.body f.0 q.0 (λ z n g. just-none D z x target (given-one body x z gift g)) y) (code-shown k c s rest _ H V all goes.1.rest f.1 q.1 gives y)
      (or_cases (just x y) (plus B (mentioned rest) y) m)
    where
      pick : D x ≡ false → (mentioned body y ≡ true → D y ≡ false) → (mentioned rest y ≡ true → D y ≡ false) → (just x y ≡ true) ⊎ (plus (block_mentions own body) (mentioned rest) y ≡ true) → D y ≡ false
      pick target first second (inl q) = just-none D y x target q
      pick target first second (inr q) = two (or_cases (block_mentions own body y) (mentioned rest y) q)
        where
          two : (block_mentions own body y ≡ true) ⊎ (mentioned rest y ≡ true) → D y ≡ false
          two (inl q) = first (unblocked own body y q)
          two (inr q) = second q

-- the blocks of the par that comes next end with nothing
blocks-end : (k : Ending) (p : Span) (own1 : List ℕ) (a : Code) (own2 : List ℕ) (d rest : Code) (st : List (Frame Held)) → stack_ends k (Par p own1 a own2 d rest) st ≡ true → (ends ByNothing a ≡ true) × (ends ByNothing d ≡ true)
blocks-end k p own1 a own2 d rest st e = go k (top st e).0 (top st e).1
  where
    top : (st : List (Frame Held)) → stack_ends k (Par p own1 a own2 d rest) st ≡ true → (j : Ending) × (ends j (Par p own1 a own2 d rest) ≡ true)
    top [] e = (k, e)
    top (OpenBlock own low ∷ st) e = (ByNothing, (and_parts (ends ByNothing (Par p own1 a own2 d rest)) (stack_ends k low st) e).0)
    top (OpenRecover own hides saved low ∷ st) e = (ByGive, (and_parts (ends ByGive (Par p own1 a own2 d rest)) (stack_ends k low st) e).0)
    top (OpenCall tie into y saved lent caller low ∷ st) e = (ByReturn, (and_parts (ends ByReturn (Par p own1 a own2 d rest)) (stack_ends k low st) e).0)

    go : (k j : Ending) → ends j (Par p own1 a own2 d rest) ≡ true → (ends ByNothing a ≡ true) × (ends ByNothing d ≡ true)
    go k j e =
        let f = and_parts (ends ByNothing a) (ends ByNothing d && ends j rest) e in
        (f.0, (and_parts (ends ByNothing d) (ends j rest) f.1).0)

-- so no hidden variable stands in one
pub blocks-aside : (u : UnitCode) (k : Ending) (below : List ℕ) (m : ℕ) (p : Span) (own1 : List ℕ) (a : Code) (own2 : List ℕ) (d rest : Code) (st : List (Frame Held)) (G H U : Vars) → RestGoes u below m (Par p own1 a own2 d rest) st G H → stack_ends k (Par p own1 a own2 d rest) st ≡ true
    → stack_right u m (Par p own1 a own2 d rest) st U ≡ true → (y : ℕ) → those (hidden_above below st) y ≡ true → (block_mentions own1 a y ≡ false) × (block_mentions own2 d y ≡ false)
blocks-aside u k below m p own1 a own2 d rest st G H U goes e right y hidden =
    let g = top-goes u below m (Par p own1 a own2 d rest) st G H goes in
    let f = blocks-end k p own1 a own2 d rest st e in
    let c = context_of u m in
    let V = plus U (plus (block_mentions own1 a) (block_mentions own2 d)) in
    let s = (and_parts (calls_right c (Par p own1 a own2 d rest)) (is_scoped c (Par p own1 a own2 d rest) U) (top-right u m (Par p own1 a own2 d rest) st U right)).1 in
    let q = and_parts (has_none U own1 && has_none U own2) (is_scoped c a U && (is_scoped c d U && is_scoped c rest V)) s in
    let r = and_parts (is_scoped c a U) (is_scoped c d U && is_scoped c rest V) q.1 in
    let t = and_parts (is_scoped c d U) (is_scoped c rest V) r.1 in (
      absent own1 a (code-shown D ByNothing (context_above u below m st) c a G g.1.1.left_ends U (covered u below m st) g.1.1.left f.0 r.0 (λ z n. none-given n) y),
      absent own2 d (code-shown D ByNothing (context_above u below m st) c d G g.1.1.right_ends U (covered u below m st) g.1.1.right f.1 t.0 (λ z n. none-given n) y),
    )
  where
    D : Vars
    D = those (hidden_above below st)

    absent : (own : List ℕ) (e : Code) → (mentioned e y ≡ true → D y ≡ false) → block_mentions own e y ≡ false
    absent own e shown = go (block_mentions own e y) refl
      where
        go : (b : Bool) → block_mentions own e y ≡ b → b ≡ false
        go false q = refl
        go true q = absurd (let f : true ≡ false = sym hidden ∙ shown (unblocked own e y q) in let no : ⊥ = cc f in no)
