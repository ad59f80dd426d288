-- What the marks of a right side tell of the code of an assignment: it walks to its end, and what stands in it begins before it.
use Rattle.std.proofs.Common.{◌≡◌, ℕ, suc, ◌<◌, ◌≤◌, Bool, true, false, List, [], ◌∷◌, Option, Some, None, refl, sym, subst, ◌∙◌, arith, le_refl, inl, inr}
use Rattle.std.specs.Prelude.{◌⊎◌, ◌&&◌, nat_eq, nat_lt, nat_le, cond, map, slice_get}
use Rattle.std.proofs.lemmas.Bool.{and_parts, eq-eqb, eqb-true, leb-true, ltb-true, or_cases, or_left}
use Rattle.perm_tree.specs.declared.ast.Ident.{Ident}
use Rattle.perm_tree.specs.declared.ast.Rhs.{Rhs}
use Rattle.perm_tree.specs.declared.ast.Rhs.TheVariants.{Value, Field, TakeField as TakeRhs, Item, New, NewArray as NewArrayRhs, Call as CallRhs, Recover as RecoverRhs}
use Rattle.perm_tree.specs.declared.ast.Stmt.{Stmt}
use Rattle.perm_tree.specs.declared.unit.VarInfo.{VarInfo}
use Rattle.perm_tree.specs.Code.{Instruction, Assign as SetVar, LoadField, LoadLength, LoadItem, TakeField, NewObject, NewArray, Code, Give, Do}
use Rattle.perm_tree.specs.CodeNames.{term_at, var_at, ty_at, field_at, argument, call, own_vars, tied_before}
use Rattle.perm_tree.specs.CodeOf.{sequence, assignment}
use Rattle.perm_tree.specs.Lookup.{class_place, is_array}
use Rattle.perm_tree.specs.Mentions.{term_mentions, argument_mentions, mentions, consumes, assigns, mentioned, block_mentions}
use Rattle.perm_tree.specs.Places.{RhsPlaced}
use Rattle.perm_tree.specs.Scopes.{block_end, block_vars, rhs_vars}
use Rattle.perm_tree.specs.Spelling.{length_word, is_word}
use Rattle.perm_tree.specs.TextOrder.{Mark, names, ends, IsRising, marks_at, rhs_marks}
use Rattle.perm_tree.specs.Vars.{Vars, none, just, those, plus, IsWithin}
use Rattle.perm_tree.proofs.Passing.{past-name}
use Rattle.perm_rules.specs.Pars.{touched_by}
use Rattle.perm_rules.proofs.Pars.Scoped.{Meets, meets-more, lies-more, named-meets, known-found}
use Rattle.perm_rules.proofs.Pars.Beginnings.{IsAmong, among-none, Rows, rows-none, rows-more, AreAll, begin-within, Begins, AllBegin, begun-more, hides-begin, tied-hidden, BeginIn}
use Rattle.perm_rules.proofs.Pars.StandingTerms.{Stands, stands-none, stands-name, stands-less, stands-also, stands-past, stands-then, expr-at, arg-stands, args_mention, call-stands}
use Rattle.perm_rules.proofs.Pars.CodeWalks.{Walks, Recovers, walks-more, recover-walks, encloses-give}
use Rattle.perm_rules.proofs.Pars.Tellings.{Earlier, Opens, walks-open, opens-none, Tells, outer-begins, Ends, simple-ends}
use Rattle.perm_rules.proofs.Pars.Blocks.{BlockTold, block-told}

module _ (earlier : Earlier) where
  open earlier use {facts, marks as ms, codes as fs, inner, count as n}
  open facts use {setting as k, context as c, exprs, base}
  open k use {vars}
  open k.tables.program use {stmts}

  -- an assignment to a variable that stands before its right side
  abbrev RhsTold : ℕ → ℕ → List Mark → Stmt → List VarInfo → (Code → Code) → Type 0
  RhsTold lo from rest s ws f = Ends facts from s.span.end rest ws (λ end. BeginIn vars from s.span.end ws → Walks vars c lo s.span.end end f × Opens facts from f)

  plain-told : (lo from : ℕ) (s : Stmt) (x : ℕ) (i : Instruction) (G : Vars) (rest : List Mark) → lo ≤ from → Meets vars lo from x → Stands vars from (ends s.span.end ∷ rest) G → IsWithin (mentions i) (plus (just x) G)
      → IsWithin (touched_by i) (plus (consumes i) (assigns i)) → RhsTold lo from rest s [] (Do s.span i)
  plain-told lo from s x i G rest low meets stands within writes = both (stands-less vars lo (ends s.span.end ∷ rest) (plus (just x) G) (mentions i) within (stands-also vars lo from x (ends s.span.end ∷ rest) G low meets stands)) (room stands)
    where
      room : Stands vars from (ends s.span.end ∷ rest) G → from ≤ s.span.end
      room (hi, more, rise, standing) = let last : hi ≤ s.span.end = rise.0 in omega arith

      both : Stands vars lo (ends s.span.end ∷ rest) (mentions i) → from ≤ s.span.end → RhsTold lo from rest s [] (Do s.span i)
      both all more =
          let told = simple-ends facts lo s i rest all writes in
          record {
            room = more;
            rise = told.rise;
            rows = rows-none from s.span.end s.span.end;
            walk = λ end last whole. (
              told.walk end last,
              opens-none facts from s.span.end s.span.end [] (Do s.span i) (le_refl s.span.end) (λ v at. absurd (among-none v at)) whole.all (walks-open facts lo s.span.end end (Do s.span i) (told.walk end last)),
            );
          }

  read-told : (lo from : ℕ) (s : Stmt) (x : ℕ) (y f : Ident) (rest : List Mark) → lo ≤ from → Meets vars lo from x → IsRising from (names y ∷ names f ∷ ends s.span.end ∷ rest) → (b : Bool)
      → RhsTold lo from rest s [] (Do s.span (cond b (LoadLength x (var_at k y)) (LoadField x (var_at k y) (field_at k y f))))
  read-told lo from s x y f rest low meets rise b = by-test b
    where
      stands : Stands vars from (ends s.span.end ∷ rest) (just (var_at k y))
      stands = stands-past vars from f (ends s.span.end ∷ rest) (just (var_at k y)) (stands-name vars from y (names f ∷ ends s.span.end ∷ rest) rise)

      by-test : (b : Bool) → RhsTold lo from rest s [] (Do s.span (cond b (LoadLength x (var_at k y)) (LoadField x (var_at k y) (field_at k y f))))
      by-test true = plain-told lo from s x (LoadLength x (var_at k y)) (just (var_at k y)) rest low meets stands (λ z e. e) (λ z e. e)
      by-test false = plain-told lo from s x (LoadField x (var_at k y) (field_at k y f)) (just (var_at k y)) rest low meets stands (λ z e. e) (λ z e. e)

  pub rhs-told : (count lo from : ℕ) (s : Stmt) (x : ℕ) (r : Rhs) (rest : List Mark) → base ≤ lo → lo ≤ from → Meets vars lo from x → RhsPlaced count n r → IsRising from (rhs_marks exprs ms s.head.end r (ends s.span.end ∷ rest))
      → RhsTold lo from rest s (rhs_vars stmts inner r) (assignment k fs s x r)
  rhs-told count lo from s x (Value a) rest up low meets placed rise =
      plain-told lo from s x (SetVar x (argument k a)) (argument_mentions (argument k a)) rest low meets (arg-stands k exprs facts.terms a from (ends s.span.end ∷ rest) rise) (λ z e. e) (λ z e. e)
  rhs-told count lo from s x (Field y f) rest up low meets placed rise =
      read-told lo from s x y f rest low meets rise (is_array (ty_at k y) && is_word k.tables.program.names length_word f.name)
  rhs-told count lo from s x (TakeRhs y f) rest up low meets placed rise =
      plain-told lo from s x (TakeField x (var_at k y) (field_at k y f)) (just (var_at k y)) rest low meets
      (stands-past vars from f (ends s.span.end ∷ rest) (just (var_at k y)) (stands-name vars from y (names f ∷ ends s.span.end ∷ rest) rise))
      (λ z e. e)
      (λ z e. e)
  rhs-told count lo from s x (Item y e) rest up low meets placed rise =
      let on = marks_at exprs e (ends s.span.end ∷ rest) in
      plain-told lo from s x (LoadItem x (var_at k y) (term_at k e)) (plus (just (var_at k y)) (term_mentions (term_at k e))) rest low meets
      (stands-then vars from on (ends s.span.end ∷ rest) (just (var_at k y)) (term_mentions (term_at k e)) (stands-name vars from y on rise) (λ mid room r. expr-at k exprs facts.terms e mid (ends s.span.end ∷ rest) r))
      (λ z q. q)
      (λ z q. q)
  rhs-told count lo from s x (New name) rest up low meets placed rise =
      plain-told lo from s x (NewObject x (class_place k.tables.program name.name)) none rest low meets (stands-none vars from (ends s.span.end ∷ rest) (past-name name from (ends s.span.end ∷ rest) rise))
      (λ z e. or_left (just x z) false e)
      (λ z e. e)
  rhs-told count lo from s x (NewArrayRhs e) rest up low meets placed rise =
      plain-told lo from s x (NewArray x (term_at k e)) (term_mentions (term_at k e)) rest low meets (expr-at k exprs facts.terms e from (ends s.span.end ∷ rest) rise) (λ z q. q) (λ z q. q)
  rhs-told count lo from s x (CallRhs m) rest up low meets placed rise =
      plain-told lo from s x (call k (Some x) m) (plus (just (var_at k m.on)) (args_mention k exprs facts.terms (map (argument k) m.args))) rest low meets (call-stands k exprs facts.terms m from (ends s.span.end ∷ rest) rise) (λ z e. e) (λ z e. e)
  rhs-told count lo from s x (RecoverRhs b w give) rest up low meets placed rise = let head : from ≤ s.head.end = rise.0 in go head (block-told earlier s.head.end b.stmts (names w ∷ ends give.end ∷ ends s.span.end ∷ rest) placed (omega arith) rise.1)
    where
      at : ℕ
      at = s.head.end

      last : ℕ
      last = block_end stmts s.head.end b.stmts

      own : List ℕ
      own = own_vars k b.stmts

      ws : List VarInfo
      ws = block_vars stmts inner give.end b.stmts

      f : Code → Code
      f = assignment k fs s x (RecoverRhs b w give)

      body : Code
      body = sequence fs b.stmts (Give give (var_at k w) x)

      go : from ≤ at → BlockTold earlier at (names w ∷ ends give.end ∷ ends s.span.end ∷ rest) b.stmts → RhsTold lo from rest s ws f
      go head told =
          let room : at ≤ last = told.room in
          let at_w : last ≤ w.span.start = told.rise.0 in
          let at_give : suc w.span.start ≤ give.end = told.rise.1.0 in
          let at_end : give.end ≤ s.span.end = told.rise.1.1.0 in
          let closed : last ≤ give.end = omega arith in
          record {
            room = omega arith;
            rise = told.rise.1.1.1;
            rows = rows-more from at last s.span.end give.end s.span.end ws head (omega arith) at_end (told.rows give.end closed);
            walk = λ end more whole. walk end more head room at_w at_give at_end whole.all (told.tells give.end closed (begin-within vars from at last s.span.end ws head (omega arith) whole)) (told.rows give.end closed) (told.known give.end closed);
          }
        where
          walk : (end : ℕ) → s.span.end ≤ end → from ≤ at → at ≤ last → last ≤ w.span.start → suc w.span.start ≤ give.end → give.end ≤ s.span.end → AreAll vars from s.span.end ws → Tells facts at last give.end own (sequence fs b.stmts)
              → Rows at last give.end ws → ((y : ℕ) (v : VarInfo) → slice_get vars y ≡ Some v → IsAmong v ws → last < v.scope.end → those own y ≡ true) → Walks vars c lo s.span.end end f × Opens facts from f
          walk end more head room at_w at_give at_end whole t rows known = (walked, opens-none facts from at s.span.end ws f (omega arith) (λ v i. (rows.starts v i).behind) whole opened)
            where
              assigned : (z : ℕ) → just x z ≡ true → Meets vars lo give.end z
              assigned z e = subst (Meets vars lo give.end) (sym (eqb-true z x e)) (meets-more vars lo from lo give.end x (omega arith) (omega arith) meets)

              given-or : (z : ℕ) → (just (var_at k w) z ≡ true) ⊎ (just x z ≡ true) → Meets vars lo give.end z
              given-or z (inl e) = subst (Meets vars lo give.end) (sym (eqb-true z (var_at k w) e)) (named-meets vars lo give.end w (omega arith) (omega arith))
              given-or z (inr e) = assigned z e

              -- the variable that takes the value begins before the head's end
              target : (z : ℕ) → just x z ≡ true → Begins vars at z
              target z e v here = let begins : v.scope.start < from = (subst (Meets vars lo from) (sym (eqb-true z x e)) meets v here).0 in omega arith

              -- so does the one that is given, or it is the block's own
              gift : Begins vars at (var_at k w) ⊎ (those own (var_at k w) ≡ true)
              gift = by-option (slice_get vars (var_at k w)) refl
                where
                  by-place : (v : VarInfo) → slice_get vars (var_at k w) ≡ Some v → (v.scope.start < suc w.span.start) × (w.span.start < v.scope.end) → (v.scope.start < from) ⊎ ((s.span.end ≤ v.scope.start) ⊎ IsAmong v ws)
                      → (v.scope.start < at) ⊎ (those own (var_at k w) ≡ true)
                  by-place v here scope (inl before) = inl (omega arith)
                  by-place v here scope (inr (inl past)) = let begins : v.scope.start < suc w.span.start = scope.0 in absurd (omega arith)
                  by-place v here scope (inr (inr i)) = let ends : w.span.start < v.scope.end = scope.1 in inr (known (var_at k w) v here i (omega arith))

                  by-option : (o : Option VarInfo) → slice_get vars (var_at k w) ≡ o → Begins vars at (var_at k w) ⊎ (those own (var_at k w) ≡ true)
                  by-option None q = inl (λ v here. absurd (let no : ⊥ = cc (q, here) in no))
                  by-option (Some v) q = same (by-place v q (scope v q) (whole (var_at k w) v q))
                    where
                      scope : (v : VarInfo) → slice_get vars (var_at k w) ≡ Some v → (v.scope.start < suc w.span.start) × (w.span.start < v.scope.end)
                      scope v here =
                          let test = (and_parts (nat_eq v.name w.name) (nat_le v.scope.start w.span.start && nat_lt w.span.start v.scope.end) (known-found w vars v here)).1 in
                          let parts = and_parts (nat_le v.scope.start w.span.start) (nat_lt w.span.start v.scope.end) test in
                          let begins : v.scope.start ≤ w.span.start = leb-true v.scope.start w.span.start parts.0 in
                          (omega arith, ltb-true w.span.start v.scope.end parts.1)

                      same : (v.scope.start < at) ⊎ (those own (var_at k w) ≡ true) → Begins vars at (var_at k w) ⊎ (those own (var_at k w) ≡ true)
                      same (inl less) = inl (λ z here. let one : v ≡ z = cc (q, here) in subst (λ (y : VarInfo). y.scope.start < at) one less)
                      same (inr o) = inr o

              ends-with : (z : ℕ) → (just (var_at k w) z ≡ true) ⊎ (just x z ≡ true) → Begins vars at z ⊎ (those own z ≡ true)
              ends-with z (inl e) = subst (λ y. Begins vars at y ⊎ (those own y ≡ true)) (sym (eqb-true z (var_at k w) e)) gift
              ends-with z (inr e) = inl (target z e)

              outer : AllBegin vars at (block_mentions own body)
              outer = outer-begins facts at own (sequence fs b.stmts) (Give give (var_at k w) x) (λ z e. ends-with z (or_cases (just (var_at k w) z) (just x z) e)) t.opens

              recovers : Recovers vars c at x own (tied_before s.head.end 0 k.vars) body
              recovers = record {
                gift = t.walks.gives (Give give (var_at k w) x) x ∙ eq-eqb x x refl;
                hidden = hides-begin vars base at facts.early;
                tied = λ U all. tied-hidden vars base at facts.early c U facts.types (omega arith) all;
                outer = outer;
                fresh = t.fresh;
                scoped = λ U all. t.walks.scoped (Give give (var_at k w) x) U all (λ V behind. refl);
              }

              walked : Walks vars c lo s.span.end end f
              walked =
                  let block = encloses-give vars c lo give.end own (sequence fs b.stmts) give (var_at k w) x
                  (walks-more vars c lo at last give.end give.end (sequence fs b.stmts) (omega arith) (omega arith) t.walks)
                  (λ z e. given-or z (or_cases (just (var_at k w) z) (just x z) e))
                  (λ z e. lies-more vars at give.end lo give.end z (omega arith) (omega arith) (t.lies z e))
                  (begun-more vars lo at own (omega arith) t.fresh) in
                  walks-more vars c lo lo give.end s.span.end end f (omega arith) at_end
                  (recover-walks vars c lo at give.end end s.head x own (tied_before s.head.end 0 k.vars) body (omega arith) (omega arith) (omega arith)
                  (λ z e. assigned z e)
                  block
                  recovers)

              opened : Opens facts at f
              opened code z e = pick (or_cases (just x z) (plus (block_mentions own body) (mentioned code) z) e)
                where
                  behind : (block_mentions own body z ≡ true) ⊎ (mentioned code z ≡ true) → (mentioned code z ≡ true) ⊎ Begins vars at z
                  behind (inl m) = inr (outer z m)
                  behind (inr m) = inl m

                  pick : (just x z ≡ true) ⊎ (plus (block_mentions own body) (mentioned code) z ≡ true) → (mentioned code z ≡ true) ⊎ Begins vars at z
                  pick (inl m) = inr (target z m)
                  pick (inr m) = behind (or_cases (block_mentions own body z) (mentioned code z) m)
