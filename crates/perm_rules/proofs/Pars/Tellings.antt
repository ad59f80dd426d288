-- What the marks of a statement tell of its code: it walks between two places, and what stands in it begins before it or is declared by it.
use Rattle.std.proofs.Common.{◌≡◌, ℕ, ◌<◌, ◌≤◌, Bool, true, false, List, [], ◌∷◌, ◌++◌, Option, Some, None, refl, subst, ◌∙◌, arith, le_refl, inl, inr}
use Rattle.std.specs.Prelude.{◌⊎◌, not, nat_eq, map, get_or, slice_get}
use Rattle.std.proofs.lemmas.Bool.{and_parts, or_left, or_right}
use Rattle.std.proofs.lemmas.List.Folds.{list_any-append}
use Rattle.perm_tree.specs.declared.ast.FieldDecl.{FieldDecl}
use Rattle.perm_tree.specs.declared.ast.Stmt.{Stmt}
use Rattle.perm_tree.specs.declared.unit.VarInfo.{VarInfo}
use Rattle.perm_tree.specs.Code.{Instruction, Code, Do}
use Rattle.perm_tree.specs.CodeNames.{var_at}
use Rattle.perm_tree.specs.Mentions.{mentions, consumes, assigns, mentioned, block_mentions}
use Rattle.perm_tree.specs.Scopes.{declared_by, known_until}
use Rattle.perm_tree.specs.TextOrder.{Mark, ends, IsRising, Marks}
use Rattle.perm_tree.specs.Vars.{those, plus, IsWithin}
use Rattle.perm_rules.specs.Pars.{touched_by}
use Rattle.perm_rules.proofs.Pars.Scoped.{Meets, AllLie, meets-more}
use Rattle.perm_rules.proofs.Pars.Beginnings.{IsAmong, among-append, AllStartIn, Rows, rows-none, AllNamed, AreAll, Begins, AllBegin, AreBegun, declared-listed, BeginIn}
use Rattle.perm_rules.proofs.Pars.StandingTerms.{Stands}
use Rattle.perm_rules.proofs.Pars.CodeWalks.{Walks, walks-then, do-walks}
use Rattle.perm_rules.proofs.Pars.OwnVariables.{MethodFacts, own-none, own-both, begun-both}

module _ (facts : MethodFacts) where
  open facts use {setting as k, context as c, base}
  open k use {vars}
  open k.tables.program use {stmts}

  -- ---------- where what stands in a code begins ----------
  -- what stands in a code stands behind it, or begins before a place
  abbrev pub Opens : ℕ → (Code → Code) → Type 0
  Opens lo f = (rest : Code) (x : ℕ) → mentioned (f rest) x ≡ true → (mentioned rest x ≡ true) ⊎ Begins vars lo x

  -- the same of a code that declares variables in the block in which it stands
  abbrev pub OpensOwn : ℕ → List ℕ → (Code → Code) → Type 0
  OpensOwn lo own f = (rest : Code) (x : ℕ) → mentioned (f rest) x ≡ true → (mentioned rest x ≡ true) ⊎ (Begins vars lo x ⊎ (those own x ≡ true))

  pub walks-open : (lo hi end : ℕ) (f : Code → Code) → Walks vars c lo hi end f → Opens hi f
  walks-open lo hi end f walks rest x e = pick (walks.stands rest x e)
    where
      pick : (mentioned rest x ≡ true) ⊎ Meets vars lo hi x → (mentioned rest x ≡ true) ⊎ Begins vars hi x
      pick (inl m) = inl m
      pick (inr meets) = inr (λ v here. (meets v here).0)

  -- by the variables that begin in a stretch: those that the code declares, and others that begin behind what stands in it
  pub opens-own : (lo low hi end : ℕ) (ds : List FieldDecl) (ws : List VarInfo) (f : Code → Code) → low ≤ hi → hi ≤ end → AllNamed lo hi ds → ((v : VarInfo) → IsAmong v ws → low ≤ v.scope.start)
      → AreAll vars lo hi (map (known_until end) ds ++ ws) → Opens low f → OpensOwn lo (map (λ d. var_at k d.name) ds) f
  opens-own lo low hi end ds ws f more last named behind all opens rest x e = pick (opens rest x e)
    where
      own : List ℕ
      own = map (λ d. var_at k d.name) ds

      found : (v : VarInfo) → slice_get vars x ≡ Some v → v.scope.start < low → (v.scope.start < lo) ⊎ ((hi ≤ v.scope.start) ⊎ IsAmong v (map (known_until end) ds ++ ws)) → (v.scope.start < lo) ⊎ (those own x ≡ true)
      found v here less (inl before) = inl before
      found v here less (inr (inl past)) = absurd (omega arith)
      found v here less (inr (inr i)) = listed (among-append v (map (known_until end) ds) ws i)
        where
          late : low ≤ v.scope.start → ⊥
          late l = omega arith

          listed : IsAmong v (map (known_until end) ds) ⊎ IsAmong v ws → (v.scope.start < lo) ⊎ (those own x ≡ true)
          listed (inl d) = inr (declared-listed vars lo hi end ds last named facts.apart x v here d)
          listed (inr w) = absurd (late (behind v w))

      by-option : (o : Option VarInfo) → slice_get vars x ≡ o → Begins vars low x → Begins vars lo x ⊎ (those own x ≡ true)
      by-option None q begins = inl (λ v here. absurd (let no : ⊥ = cc (q, here) in no))
      by-option (Some v) q begins = same (found v q (begins v q) (all x v q))
        where
          same : (v.scope.start < lo) ⊎ (those own x ≡ true) → Begins vars lo x ⊎ (those own x ≡ true)
          same (inl less) = inl (λ w here. let one : v ≡ w = cc (q, here) in subst (λ (z : VarInfo). z.scope.start < lo) one less)
          same (inr o) = inr o

      pick : (mentioned rest x ≡ true) ⊎ Begins vars low x → (mentioned rest x ≡ true) ⊎ (Begins vars lo x ⊎ (those own x ≡ true))
      pick (inl m) = inl m
      pick (inr begins) = inr (by-option (slice_get vars x) refl begins)

  -- the same of a code that declares nothing
  pub opens-none : (lo low hi : ℕ) (ws : List VarInfo) (f : Code → Code) → low ≤ hi → ((v : VarInfo) → IsAmong v ws → low ≤ v.scope.start) → AreAll vars lo hi ws → Opens low f → Opens lo f
  opens-none lo low hi ws f more behind all opens rest x e = pick (opens-own lo low hi hi [] ws f more (le_refl hi) tt behind all opens rest x e)
    where
      pick : (mentioned rest x ≡ true) ⊎ (Begins vars lo x ⊎ (those [] x ≡ true)) → (mentioned rest x ≡ true) ⊎ Begins vars lo x
      pick (inl m) = inl m
      pick (inr (inl b)) = inr b
      pick (inr (inr o)) = absurd (let no : ⊥ = cc o in no)

  -- a code between two places, in a block that ends at a third one, in which it declares variables
  pub record Tells (lo hi end : ℕ) (own : List ℕ) (f : Code → Code) : Type 0 where
    pub walks : Walks vars c lo hi end f
    pub lies : AllLie vars lo end own
    pub fresh : AreBegun vars lo own
    pub opens : OpensOwn lo own f

  -- a code that declares nothing
  pub tells-none : (lo hi end : ℕ) (f : Code → Code) → Walks vars c lo hi end f → Opens lo f → Tells lo hi end [] f
  tells-none lo hi end f walks opens = record {
    walks = walks;
    lies = λ x e. own-none facts lo end x e;
    fresh = λ x e. absurd (let no : ⊥ = cc e in no);
    opens = λ rest x e. widen rest x (opens rest x e);
  }
    where
      widen : (rest : Code) (x : ℕ) → (mentioned rest x ≡ true) ⊎ Begins vars lo x → (mentioned rest x ≡ true) ⊎ (Begins vars lo x ⊎ (those [] x ≡ true))
      widen rest x (inl m) = inl m
      widen rest x (inr b) = inr (inl b)

  -- one code before another
  pub tells-then : (lo mid hi end : ℕ) (ds : List FieldDecl) (ws vs : List VarInfo) (xs : List ℕ) (f g : Code → Code) → lo ≤ mid → mid ≤ hi → mid ≤ end → AllNamed lo mid ds → Rows lo mid mid ws → AllStartIn mid hi vs
      → AreAll vars lo hi (map (known_until end) ds ++ (ws ++ vs)) → Tells lo mid end (map (λ d. var_at k d.name) ds) f → Tells mid hi end xs g
      → Tells lo hi end (map (λ d. var_at k d.name) ds ++ xs) (λ code. f (g code))
  tells-then lo mid hi end ds ws vs xs f g low more last named rows later all first second = record {
    walks = walks-then vars c lo mid hi end f g low more first.walks second.walks;
    lies = own-both facts lo mid end own xs low first.lies second.lies;
    fresh = begun-both facts lo mid own xs low first.fresh second.fresh;
    opens = opening;
  }
    where
      own : List ℕ
      own = map (λ d. var_at k d.name) ds

      widen : (x : ℕ) → Begins vars lo x ⊎ (those own x ≡ true) → Begins vars lo x ⊎ (those (own ++ xs) x ≡ true)
      widen x (inl b) = inl b
      widen x (inr o) = inr (list_any-append (nat_eq x) own xs ∙ or_left (those own x) (those xs x) o)

      -- what stands behind the first code and begins before its end
      found : (x : ℕ) (v : VarInfo) → slice_get vars x ≡ Some v → (v.scope.start < mid) × (mid < v.scope.end)
          → (v.scope.start < lo) ⊎ ((hi ≤ v.scope.start) ⊎ IsAmong v (map (known_until end) ds ++ (ws ++ vs))) → (v.scope.start < lo) ⊎ (those own x ≡ true)
      found x v here both (inl before) = inl before
      found x v here both (inr (inl past)) = let less : v.scope.start < mid = both.0 in absurd (omega arith)
      found x v here both (inr (inr i)) = listed (among-append v (map (known_until end) ds) (ws ++ vs) i)
        where
          less : v.scope.start < mid
          less = both.0

          past : mid < v.scope.end
          past = both.1

          ended : v.scope.end ≤ mid → ⊥
          ended l = omega arith

          late : mid ≤ v.scope.start → ⊥
          late l = omega arith

          others : IsAmong v ws ⊎ IsAmong v vs → (v.scope.start < lo) ⊎ (those own x ≡ true)
          others (inl w) = absurd (ended (rows.ends v w))
          others (inr w) = absurd (late (later v w).behind)

          listed : IsAmong v (map (known_until end) ds) ⊎ IsAmong v (ws ++ vs) → (v.scope.start < lo) ⊎ (those own x ≡ true)
          listed (inl d) = inr (declared-listed vars lo mid end ds last named facts.apart x v here d)
          listed (inr w) = others (among-append v ws vs w)

      by-option : (x : ℕ) (o : Option VarInfo) → slice_get vars x ≡ o → Begins vars mid x → Meets vars mid hi x → Begins vars lo x ⊎ (those own x ≡ true)
      by-option x None q begins meets = inl (λ v here. absurd (let no : ⊥ = cc (q, here) in no))
      by-option x (Some v) q begins meets = same (found x v q (begins v q, (meets v q).1) (all x v q))
        where
          same : (v.scope.start < lo) ⊎ (those own x ≡ true) → Begins vars lo x ⊎ (those own x ≡ true)
          same (inl less) = inl (λ w here. let one : v ≡ w = cc (q, here) in subst (λ (z : VarInfo). z.scope.start < lo) one less)
          same (inr o) = inr o

      both-ways : (rest : Code) (x : ℕ) → (mentioned rest x ≡ true) ⊎ Meets vars mid hi x → (mentioned rest x ≡ true) ⊎ (Begins vars mid x ⊎ (those xs x ≡ true))
          → (mentioned rest x ≡ true) ⊎ (Begins vars lo x ⊎ (those (own ++ xs) x ≡ true))
      both-ways rest x (inl m) other = inl m
      both-ways rest x (inr meets) (inl m) = inl m
      both-ways rest x (inr meets) (inr (inl begins)) = inr (widen x (by-option x (slice_get vars x) refl begins meets))
      both-ways rest x (inr meets) (inr (inr o)) = inr (inr (list_any-append (nat_eq x) own xs ∙ or_right (those own x) (those xs x) o))

      opening : OpensOwn lo (own ++ xs) (λ code. f (g code))
      opening rest x e = pick (first.opens (g rest) x e)
        where
          pick : (mentioned (g rest) x ≡ true) ⊎ (Begins vars lo x ⊎ (those own x ≡ true)) → (mentioned rest x ≡ true) ⊎ (Begins vars lo x ⊎ (those (own ++ xs) x ≡ true))
          pick (inl m) = both-ways rest x (second.walks.stands rest x m) (second.opens rest x m)
          pick (inr is) = inr (widen x is)

  -- what stands in a whole block begins before it, where it isn't the block's own
  pub outer-begins : (lo : ℕ) (own : List ℕ) (f : Code → Code) (last : Code) → ((x : ℕ) → mentioned last x ≡ true → Begins vars lo x ⊎ (those own x ≡ true)) → OpensOwn lo own f → AllBegin vars lo (block_mentions own (f last))
  outer-begins lo own f last closing opens x e = pick (opens last x parts.0)
    where
      parts : (mentioned (f last) x ≡ true) × (not (those own x) ≡ true)
      parts = and_parts (mentioned (f last) x) (not (those own x)) e

      clash : (t : Bool) → t ≡ true → not t ≡ true → ⊥
      clash true p q = absurd (let no : ⊥ = cc q in no)
      clash false p q = absurd (let no : ⊥ = cc p in no)

      outer : Begins vars lo x ⊎ (those own x ≡ true) → Begins vars lo x
      outer (inl b) = b
      outer (inr o) = absurd (clash (those own x) o parts.1)

      pick : (mentioned last x ≡ true) ⊎ (Begins vars lo x ⊎ (those own x ≡ true)) → Begins vars lo x
      pick (inl m) = outer (closing x m)
      pick (inr is) = outer is

  -- what begins before the end of a stretch and is known behind it begins before the stretch, where the variables that begin in the stretch end in it
  pub begins-sooner : (lo mid hi x : ℕ) (ws : List VarInfo) → Rows lo mid mid ws → AreAll vars lo mid ws → Meets vars mid hi x → Begins vars mid x → Begins vars lo x
  begins-sooner lo mid hi x ws rows all meets begins v here = pick (all x v here)
    where
      less : v.scope.start < mid
      less = begins v here

      past : mid < v.scope.end
      past = (meets v here).1

      ended : v.scope.end ≤ mid → ⊥
      ended l = omega arith

      pick : (v.scope.start < lo) ⊎ ((mid ≤ v.scope.start) ⊎ IsAmong v ws) → v.scope.start < lo
      pick (inl before) = before
      pick (inr (inl behind)) = absurd (omega arith)
      pick (inr (inr i)) = absurd (ended (rows.ends v i))

  -- ---------- statements ----------
  -- a code ends at a place, from which the other marks rise; the variables of the blocks within it begin in it and end in it; and it tells what it tells, in each block that ends behind it
  pub record Ends (lo hi : ℕ) (rest : List Mark) (ws : List VarInfo) (Walk : ℕ → Type 0) : Type 0 where
    pub room : lo ≤ hi
    pub rise : IsRising hi rest
    pub rows : Rows lo hi hi ws
    pub walk : (end : ℕ) → hi ≤ end → Walk end

  -- a simple statement that declares nothing
  pub simple-ends : (lo : ℕ) (s : Stmt) (i : Instruction) (rest : List Mark) → Stands vars lo (ends s.span.end ∷ rest) (mentions i) → IsWithin (touched_by i) (plus (consumes i) (assigns i))
      → Ends lo s.span.end rest [] (λ end. Walks vars c lo s.span.end end (Do s.span i))
  simple-ends lo s i rest (mid, room, rise, standing) writes =
      let last : mid ≤ s.span.end = rise.0 in
      record {
        room = omega arith;
        rise = rise.1;
        rows = rows-none lo s.span.end s.span.end;
        walk = λ end more. do-walks vars c lo s.span.end end s.span i (omega arith) (λ x e. meets-more vars lo mid lo s.span.end x (omega arith) last (standing x e)) (λ x e. inl (writes x e));
      }

  -- what a code tells, where the variables that it and the blocks within it declare are those of the method that begin in its stretch
  abbrev pub TellsIn : ℕ → ℕ → List FieldDecl → List VarInfo → (Code → Code) → ℕ → Type 0
  TellsIn lo hi ds ws f end = BeginIn vars lo hi (map (known_until end) ds ++ ws) → Tells lo hi end (map (λ d. var_at k d.name) ds) f

  -- the marks of a statement tell so of its code
  abbrev pub TellsOf : Stmt → Marks → (Code → Code) → List VarInfo → Type 0
  TellsOf s m f ws = (lo : ℕ) (rest : List Mark) → base ≤ lo → IsRising lo (m rest) → AllNamed lo s.span.end (declared_by s.kind) × Ends lo s.span.end rest ws (TellsIn lo s.span.end (declared_by s.kind) ws f)

  -- so do the marks at a place
  abbrev pub IsTold : List Marks → List (Code → Code) → List (List VarInfo) → ℕ → Type 0
  IsTold ms fs inner at = (s : Stmt) × (slice_get stmts at ≡ Some s) × TellsOf s (get_or ms at (λ ms. ms)) (get_or fs at (λ c. c)) (get_or inner at [])

-- the marks, the codes and the inner variables of some statements of a method, of which the first tell what they tell
pub record Earlier : Type 0 where
  pub facts : MethodFacts
  pub marks : List Marks
  pub codes : List (Code → Code)
  pub inner : List (List VarInfo)
  pub count : ℕ
  pub told : (at : ℕ) → at < count → IsTold facts marks codes inner at
