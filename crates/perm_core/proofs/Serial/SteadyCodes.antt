-- Code that goes, whose calls are right and that is rightly scoped is steady, and so is every checked unit.
use Rattle.std.proofs.Common.{◌≡◌, ℕ, Bool, true, false, List, Option, Some, None, refl, sym, ap, ◌∙◌}
use Rattle.std.specs.Prelude.{◌&&◌, ◌||◌, not, slice_get}
use Rattle.std.specs.List.{list_all}
use Rattle.std.proofs.lemmas.Bool.{or_left, or_right, or_parts, or_from, and_parts}
use Rattle.perm_tree.specs.declared.ast.Span.{Span}
use Rattle.perm_tree.specs.declared.ast.Ty.{Ty}
use Rattle.perm_tree.specs.declared.ast.Ty.TheVariants.{Long, Bool as Boolean, Ref}
use Rattle.perm_tree.specs.declared.errors.TypeKind.TheVariants.{Hidden}
use Rattle.perm_tree.specs.Code.{Shares, Raises, Lends, Instruction, Declare, Assign, LoadField, LoadLength, LoadItem, TakeField, NewObject, NewArray, StoreField, StoreItem, Invoke, Print, Code, End, Give, Return, Do, If, While, Par, Recover, UnitCode}
use Rattle.perm_tree.specs.Mentions.{mentions, consumes, assigns, written, block_mentions, block_writes}
use Rattle.perm_tree.specs.Ties.{tie_of, is_harmless}
use Rattle.perm_tree.specs.Vars.{Vars, just, those, plus}
use Rattle.perm_tree.proofs.MentionLaws.{written-within, minus-within}
use Rattle.perm_rules.specs.Parts.{Context, RecoverHead, type_of}
use Rattle.perm_rules.specs.Pars.{par_head}
use Rattle.perm_rules.specs.Refusals.{IsAllowed}
use Rattle.perm_rules.specs.Goes.{Goes, hiding, context, first_live}
use Rattle.perm_rules.specs.Scoping.{given, has_none, hides_tied, is_scoped}
use Rattle.perm_rules.proofs.PartLaws.{applies-none}
use Rattle.perm_meaning.specs.Turns.{blocks}
use Rattle.perm_meaning.specs.Steady.{given_var, declares, alters, changed, IsSteadyPar, KeepsLent, IsSteadyCode, IsSteady}
use Rattle.perm_core.specs.Endings.{Ending, ByNothing, ByGive, ByReturn, ends}
use Rattle.perm_core.specs.Marked.{same_tie, is_called_on, call_right, calls_right}
use Rattle.perm_core.specs.Whole.{IsWholeRoutine}
use Rattle.perm_core.specs.Claims.{IsChecked}
use Rattle.perm_core.proofs.OpeningPicture.{derived}
use Rattle.perm_core.proofs.KeepsPicture.Calls.CallEnds.{any-left, any-right}
use Rattle.perm_core.proofs.KeepsPicture.Order.HiddenFree.{AllHidden, out, just-none, hidden-free}
use Rattle.perm_core.proofs.KeepsPicture.Order.HiddenVariables.{all-none}
use Rattle.perm_core.proofs.KeepsPicture.Order.LiveTurns.{blocks-share-none}
use Rattle.perm_core.proofs.KeepsPicture.Pars.ParBlocks.{none-given, code-shown}
use Rattle.perm_core.proofs.KeepsPicture.Calls.RightCalls.{lent-isolated}
use Rattle.perm_core.proofs.KeepsPicture.Order.RightCode.{given-one}

-- a test that would not pass does not
false-where : {T : Bool} (t : Bool) → T ≡ true → (t ≡ true → T ≡ false) → t ≡ false
false-where true held h = absurd (let no : true ≡ false = sym held ∙ h refl in let z : ⊥ = cc no in z)
false-where false held h = refl

-- what the code gives comes into the same variable here and there
given-same : (a : Code) (x : ℕ) → given_var a x ≡ given a x
given-same End x = refl
given-same (Give at w y) x = refl
given-same (Return at a) x = refl
given-same (Do at i rest) x = given-same rest x
given-same (If at e own1 a own2 b rest) x = given-same rest x
given-same (While at e own body rest) x = given-same rest x
given-same (Par at own1 a own2 b rest) x = given-same rest x
given-same (Recover at y own hides body rest) x = given-same rest x

-- ---------- recover blocks ----------
-- what is altered stands in a simple statement
altered-mentioned : (i : Instruction) (y : ℕ) → mentions i y ≡ false → alters i y ≡ false
altered-mentioned i y h = or_from (declares i y) (plus (consumes i) (assigns i) y) (declared i h) (or_parts (plus (consumes i) (assigns i) y) false (false-where (plus (consumes i) (assigns i) y || false) (ap not (or_from (mentions i y) false h refl)) alone)).0
  where
    here : Span
    here = record { start = 0; end = 0 }

    alone : (plus (consumes i) (assigns i) y || false) ≡ true → not (mentions i y || false) ≡ false
    alone q = ap not (written-within (Do here i End) y q)

    declared : (i : Instruction) → mentions i y ≡ false → declares i y ≡ false
    declared (Declare x) h = h
    declared (Assign x a) h = refl
    declared (LoadField x z f) h = refl
    declared (LoadLength x z) h = refl
    declared (LoadItem x z t) h = refl
    declared (TakeField x z f) h = refl
    declared (NewObject x k) h = refl
    declared (NewArray x t) h = refl
    declared (StoreField z f a) h = refl
    declared (StoreItem z t s) h = refl
    declared (Invoke into tie consumed z m args) h = refl
    declared (Print t) h = refl

-- a block declares nothing of a set that it declares none of
undeclared : (U : Vars) (own : List ℕ) (y : ℕ) → U y ≡ true → has_none U own ≡ true → those own y ≡ false
undeclared U own y held none = false-where (those own y) held (λ q. all-none U own y none q)

-- code changes nothing that is hidden where it stands, and that it is entered with
module _ (D : Vars) where
  -- nothing hidden is written by a block of a par
  unwritten : (c s : Context) (own : List ℕ) (a : Code) (G H U : Vars) → AllHidden D c → Goes c a G H → ends ByNothing a ≡ true → is_scoped s a U ≡ true → (y : ℕ) → D y ≡ true → block_writes own a y ≡ false
  unwritten c s own a G H U all goes e scoped y held =
      false-where (block_writes own a y) held (λ q. code-shown D ByNothing c s a G H U all goes e scoped (λ z n. none-given n) y (written-within a y (minus-within (written a) (those own) y q)))

  pub unchanged : (k : Ending) (c s : Context) (a : Code) (G H U : Vars) → AllHidden D c → Goes c a G H → ends k a ≡ true → is_scoped s a U ≡ true → (y : ℕ) → D y ≡ true → U y ≡ true → changed a y ≡ false
  unchanged k c s End G H U all goes e scoped y held here = refl
  unchanged k c s (Give at w x) G H U all goes e scoped y held here = false-where (just w y) held (λ q. just-none D y w (hidden-free D c (Give at w x) G H all goes) q)
  unchanged k c s (Return at r) G H U all goes e scoped y held here = refl
  unchanged k c s (Do at i rest) G H U all goes e scoped y held here =
      or_from (alters i y) (changed rest y) (altered-mentioned i y (false-where (mentions i y) held (λ q. (hidden-free D c (Do at i rest) G H all goes).0 y q)))
      (unchanged k c s rest _ H (plus U (mentions i)) all goes.1 e scoped y held (or_left (U y) (mentions i y) here))
  unchanged k c s (If at t own1 a own2 b rest) G H U all goes e scoped y held here =
      let M = plus (block_mentions own1 a) (block_mentions own2 b) in
      let f = and_parts (ends ByNothing a) (ends ByNothing b && ends k rest) e in
      let g = and_parts (ends ByNothing b) (ends k rest) f.1 in
      let p = and_parts (has_none U own1 && has_none U own2) (is_scoped s a U && (is_scoped s b U && is_scoped s rest (plus U M))) scoped in
      let o = and_parts (has_none U own1) (has_none U own2) p.0 in
      let q = and_parts (is_scoped s a U) (is_scoped s b U && is_scoped s rest (plus U M)) p.1 in
      let r = and_parts (is_scoped s b U) (is_scoped s rest (plus U M)) q.1 in
      or_from (plus (changed a) (those own1) y) _
      (or_from (changed a y) (those own1 y) (unchanged ByNothing c s a G goes.1.left_ends U all goes.1.left f.0 q.0 y held here) (undeclared U own1 y here o.0))
      (or_from (plus (changed b) (those own2) y) (changed rest y)
      (or_from (changed b y) (those own2 y) (unchanged ByNothing c s b G goes.1.right_ends U all goes.1.right g.0 r.0 y held here) (undeclared U own2 y here o.1))
      (unchanged k c s rest _ H (plus U M) all goes.1.rest g.1 r.1 y held (or_left (U y) (M y) here)))
  unchanged k c s (While at t own body rest) G H U all goes e scoped y held here =
      let M = block_mentions own body in
      let f = and_parts (ends ByNothing body) (ends k rest) e in
      let p = and_parts (has_none U own) (is_scoped s body (plus U M) && is_scoped s rest (plus U M)) scoped in
      let q = and_parts (is_scoped s body (plus U M)) (is_scoped s rest (plus U M)) p.1 in
      or_from (plus (changed body) (those own) y) (changed rest y)
      (or_from (changed body y) (those own y) (unchanged ByNothing c s body goes.0 goes.1.holds.ends (plus U M) all goes.1.holds.body f.0 q.0 y held (or_left (U y) (M y) here)) (undeclared U own y here p.0))
      (unchanged k c s rest goes.0 H (plus U M) all goes.2 f.1 q.1 y held (or_left (U y) (M y) here))
  unchanged k c s (Par at own1 a own2 b rest) G H U all goes e scoped y held here =
      let M = plus (block_mentions own1 a) (block_mentions own2 b) in
      let f = and_parts (ends ByNothing a) (ends ByNothing b && ends k rest) e in
      let g = and_parts (ends ByNothing b) (ends k rest) f.1 in
      let p = and_parts (has_none U own1 && has_none U own2) (is_scoped s a U && (is_scoped s b U && is_scoped s rest (plus U M))) scoped in
      let q = and_parts (is_scoped s a U) (is_scoped s b U && is_scoped s rest (plus U M)) p.1 in
      let r = and_parts (is_scoped s b U) (is_scoped s rest (plus U M)) q.1 in
      or_from (plus (block_writes own1 a) (block_writes own2 b) y) (changed rest y)
      (or_from (block_writes own1 a y) (block_writes own2 b y)
      (unwritten c s own1 a G goes.1.left_ends U all goes.1.left f.0 q.0 y held)
      (unwritten c s own2 b G goes.1.right_ends U all goes.1.right g.0 r.0 y held))
      (unchanged k c s rest _ H (plus U M) all goes.1.rest g.1 r.1 y held (or_left (U y) (M y) here))
  unchanged k c s (Recover at x own hides body rest) G H U all goes e scoped y held here =
      let M = block_mentions own body in
      let W = plus U (those hides) in
      let V = plus (just x) (plus U M) in
      let f = and_parts (ends ByGive body) (ends k rest) e in
      let p = and_parts (given body x && (has_none W own && hides_tied s (plus U M) hides)) (is_scoped s body W && is_scoped s rest V) scoped in
      let q = and_parts (is_scoped s body W) (is_scoped s rest V) p.1 in
      let o = and_parts (given body x) (has_none W own && hides_tied s (plus U M) hides) p.0 in
      let n = and_parts (has_none W own) (hides_tied s (plus U M) hides) o.1 in
      let target = out D c x all (applies-none c (RecoverHead x) G goes.0 Hidden) in
      let within : W y ≡ true = or_left (U y) (those hides y) here in
      or_from (given_var body y) _
      (given-same body y ∙ false-where (given body y) held (λ g. just-none D y x target (given-one body x y o.0 g)))
      (or_from (plus (changed body) (those own) y) (changed rest y)
      (or_from (changed body y) (those own y)
      (unchanged ByGive (hiding hides c) s body G goes.1.ends W (λ z n. any-right z hides c.hidden (all z n)) goes.1.body f.0 q.0 y held within)
      (undeclared W own y within n.0))
      (unchanged k c s rest _ H V all goes.1.rest f.1 q.1 y held (or_right (just x y) (plus U M y) (or_left (U y) (M y) here))))

-- ---------- pars ----------
-- the left block writes nothing that the right one only reads
par-steady : (u : UnitCode) (c : Context) (own1 : List ℕ) (a : Code) (own2 : List ℕ) (b : Code) (G H : Vars) → IsAllowed c (par_head c own1 a own2 b) G → Goes c b G H → IsSteadyPar (blocks own1 a own2 b)
par-steady u c own1 a own2 b G H allowed goes x stays =
    false-where (block_writes own1 a x) (and_parts (block_mentions own2 b x) (not (block_writes own2 b x)) stays).0
    (λ q. absurd (blocks-share-none u c own1 a own2 b G H allowed goes x q (and_parts (block_mentions own2 b x) (not (block_writes own2 b x)) stays).0))

-- ---------- calls ----------
-- what is consumed isn't lent
call-steady : (c : Context) (i : Instruction) → call_right c i ≡ true → KeepsLent i
call-steady c (Invoke into Lends true y m args) e =
    never (type_of c y) (and_parts (same_tie Lends (tie_of (type_of c y) true (list_all (is_harmless (type_of c)) args))) (is_called_on (type_of c y) (slice_get c.routines m)) e).0
  where
    never : (t : Option Ty) → same_tie Lends (tie_of t true (list_all (is_harmless (type_of c)) args)) ≡ true → ⊥
    never None e = let z : ⊥ = cc e in z
    never (Some Long) e = let z : ⊥ = cc e in z
    never (Some Boolean) e = let z : ⊥ = cc e in z
    never (Some (Ref p s)) e = let no : true ≡ false = (lent-isolated p s true (list_all (is_harmless (type_of c)) args) e).1 in let z : ⊥ = cc no in z
call-steady c (Invoke into Lends false y m args) e = tt
call-steady c (Invoke into Shares consumed y m args) e = tt
call-steady c (Invoke into Raises consumed y m args) e = tt
call-steady c (Declare x) e = tt
call-steady c (Assign x a) e = tt
call-steady c (LoadField x y f) e = tt
call-steady c (LoadLength x y) e = tt
call-steady c (LoadItem x y t) e = tt
call-steady c (TakeField x y f) e = tt
call-steady c (NewObject x k) e = tt
call-steady c (NewArray x t) e = tt
call-steady c (StoreField y f a) e = tt
call-steady c (StoreItem y t s) e = tt
call-steady c (Print t) e = tt

-- ---------- all code ----------
-- code that goes, whose calls are right and that is rightly scoped is steady
pub code-steady : (u : UnitCode) (k : Ending) (c s : Context) (a : Code) (G H U : Vars) → Goes c a G H → ends k a ≡ true → calls_right s a ≡ true → is_scoped s a U ≡ true → IsSteadyCode a
code-steady u k c s End G H U goes e calls scoped = tt
code-steady u k c s (Give at w x) G H U goes e calls scoped = tt
code-steady u k c s (Return at a) G H U goes e calls scoped = tt
code-steady u k c s (Do at i rest) G H U goes e calls scoped =
    let m = and_parts (call_right s i) (calls_right s rest) calls in
    (call-steady s i m.0, code-steady u k c s rest _ H (plus U (mentions i)) goes.1 e m.1 scoped)
code-steady u k c s (If at t own1 a own2 b rest) G H U goes e calls scoped =
    let V = plus U (plus (block_mentions own1 a) (block_mentions own2 b)) in
    let f = and_parts (ends ByNothing a) (ends ByNothing b && ends k rest) e in
    let g = and_parts (ends ByNothing b) (ends k rest) f.1 in
    let m = and_parts (calls_right s a) (calls_right s b && calls_right s rest) calls in
    let n = and_parts (calls_right s b) (calls_right s rest) m.1 in
    let p = and_parts (has_none U own1 && has_none U own2) (is_scoped s a U && (is_scoped s b U && is_scoped s rest V)) scoped in
    let q = and_parts (is_scoped s a U) (is_scoped s b U && is_scoped s rest V) p.1 in
    let o = and_parts (is_scoped s b U) (is_scoped s rest V) q.1 in (
      code-steady u ByNothing c s a G goes.1.left_ends U goes.1.left f.0 m.0 q.0,
      code-steady u ByNothing c s b G goes.1.right_ends U goes.1.right g.0 n.0 o.0,
      code-steady u k c s rest _ H V goes.1.rest g.1 n.1 o.1,
    )
code-steady u k c s (While at t own body rest) G H U goes e calls scoped =
    let V = plus U (block_mentions own body) in
    let f = and_parts (ends ByNothing body) (ends k rest) e in
    let m = and_parts (calls_right s body) (calls_right s rest) calls in
    let p = and_parts (has_none U own) (is_scoped s body V && is_scoped s rest V) scoped in
    let q = and_parts (is_scoped s body V) (is_scoped s rest V) p.1 in
    (code-steady u ByNothing c s body goes.0 goes.1.holds.ends V goes.1.holds.body f.0 m.0 q.0, code-steady u k c s rest goes.0 H V goes.2 f.1 m.1 q.1)
code-steady u k c s (Par at own1 a own2 b rest) G H U goes e calls scoped =
    let V = plus U (plus (block_mentions own1 a) (block_mentions own2 b)) in
    let f = and_parts (ends ByNothing a) (ends ByNothing b && ends k rest) e in
    let g = and_parts (ends ByNothing b) (ends k rest) f.1 in
    let m = and_parts (calls_right s a) (calls_right s b && calls_right s rest) calls in
    let n = and_parts (calls_right s b) (calls_right s rest) m.1 in
    let p = and_parts (has_none U own1 && has_none U own2) (is_scoped s a U && (is_scoped s b U && is_scoped s rest V)) scoped in
    let q = and_parts (is_scoped s a U) (is_scoped s b U && is_scoped s rest V) p.1 in
    let o = and_parts (is_scoped s b U) (is_scoped s rest V) q.1 in (
      par-steady u c own1 a own2 b G goes.1.right_ends goes.0 goes.1.right,
      (code-steady u ByNothing c s a G goes.1.left_ends U goes.1.left f.0 m.0 q.0, code-steady u ByNothing c s b G goes.1.right_ends U goes.1.right g.0 n.0 o.0),
      code-steady u k c s rest _ H V goes.1.rest g.1 n.1 o.1,
    )
code-steady u k c s (Recover at x own hides body rest) G H U goes e calls scoped =
    let W = plus U (those hides) in
    let M = plus U (block_mentions own body) in
    let V = plus (just x) M in
    let f = and_parts (ends ByGive body) (ends k rest) e in
    let m = and_parts (calls_right s body) (calls_right s rest) calls in
    let p = and_parts (given body x && (has_none W own && hides_tied s M hides)) (is_scoped s body W && is_scoped s rest V) scoped in
    let q = and_parts (is_scoped s body W) (is_scoped s rest V) p.1 in
    let o = and_parts (given body x) (has_none W own && hides_tied s M hides) p.0 in
    let n = and_parts (has_none W own) (hides_tied s M hides) o.1 in (
      record {
        keeps = λ y h. let within : W y ≡ true = or_right (U y) (those hides y) h in
            or_from (changed body y) (those own y)
            (unchanged (those hides) ByGive (hiding hides c) s body G goes.1.ends W (λ z g. any-left z hides c.hidden g) goes.1.body f.0 q.0 y h within)
            (undeclared W own y within n.0);
        gives = λ y g. given-one body x y o.0 (sym (given-same body y) ∙ g);
      },
      code-steady u ByGive (hiding hides c) s body G goes.1.ends W goes.1.body f.0 m.0 q.0,
      code-steady u k c s rest _ H V goes.1.rest f.1 m.1 q.1,
    )

-- a checked unit is steady
pub checked-steady : (u : UnitCode) → IsChecked u → IsSteady u
checked-steady u is m r here = code-steady u ByReturn (context u r) (context u r) r.code (first_live r) goes.0 (first_live r) goes.1 whole.returns whole.calls whole.scoped
  where
    whole : IsWholeRoutine u r
    whole = is.whole.routines m r here

    goes : (H : Vars) × Goes (context u r) r.code (first_live r) H
    goes = derived u u.routines m r is.accepted here
