-- Codes between two places of the text: what stands in them has a scope there, and what they only declare has its scope within.
use Rattle.std.proofs.Common.{◌≡◌, ℕ, zero, suc, ◌<◌, ◌≤◌, Bool, true, false, List, [], ◌∷◌, length, Some, refl, subst, ◌∙◌, arith, inl, inr}
use Rattle.std.specs.Prelude.{◌⊎◌, ◌||◌, ◌&&◌, map, slice_get}
use Rattle.std.proofs.lemmas.Bool.{or_cases, or_left, or_right}
use Rattle.perm_tree.specs.declared.ast.Span.{Span}
use Rattle.perm_tree.specs.declared.unit.VarInfo.{VarInfo}
use Rattle.perm_tree.specs.Code.{Term, Instruction, Code, End, Give, Do, If, While, Par, Recover}
use Rattle.perm_tree.specs.Mentions.{term_mentions, mentions, consumes, assigns, mentioned, written, block_mentions, block_writes}
use Rattle.perm_tree.specs.Vars.{Vars, none, just, below, those, plus, minus, meet}
use Rattle.perm_tree.proofs.MentionLaws.{minus-within}
use Rattle.perm_rules.specs.Parts.{Context}
use Rattle.perm_rules.specs.Pars.{uses, sets, touched_by, touched, touches, some_var, isolated_vars}
use Rattle.perm_rules.specs.Sharing.{SharesPlainly, AllSharePlainly}
use Rattle.perm_rules.specs.Scoping.{given, has_none, hides_tied, is_scoped}
use Rattle.perm_rules.proofs.Pars.Scoped.{Meets, LiesIn, AllLie, meets-more, lies-more}
use Rattle.perm_rules.proofs.Pars.Beginnings.{Begins, AllBegin, begins-more, begins-plus, AreBegun, begun-more, begun-none}
use Rattle.perm_rules.proofs.Written.{block-touched, written-touched}

-- ---------- words ----------
-- a variable is in a set, or its scope lies in a stretch
abbrev pub InOrIn : List VarInfo → ℕ → ℕ → Vars → ℕ → Type 0
InOrIn vars lo hi G x = (G x ≡ true) ⊎ LiesIn vars lo hi x

-- a code in front of any other, between two places and in a block that ends at a third one
pub record Walks (vars : List VarInfo) (c : Context) (lo hi end : ℕ) (f : Code → Code) : Type 0 where
  pub stands : (rest : Code) (x : ℕ) → mentioned (f rest) x ≡ true → (mentioned rest x ≡ true) ⊎ Meets vars lo hi x
  pub splits : (rest : Code) (x : ℕ) → touched (f rest) x ≡ true → (touched rest x ≡ true) ⊎ InOrIn vars lo end (written (f rest)) x
  pub keeps : (rest : Code) (x : ℕ) → written rest x ≡ true → written (f rest) x ≡ true
  pub pars : (rest : Code) → AllSharePlainly c rest → AllSharePlainly c (f rest)
  pub gives : (rest : Code) (x : ℕ) → given (f rest) x ≡ given rest x
  pub scoped : (rest : Code) (U : Vars) → AllBegin vars lo U → ((V : Vars) → AllBegin vars hi V → is_scoped c rest V ≡ true) → is_scoped c (f rest) U ≡ true

-- the code of a whole block between two places, which declares own
pub record Encloses (vars : List VarInfo) (c : Context) (lo hi : ℕ) (own : List ℕ) (a : Code) : Type 0 where
  pub stands : (x : ℕ) → mentioned a x ≡ true → Meets vars lo hi x
  pub splits : (x : ℕ) → plus (touched a) (those own) x ≡ true → InOrIn vars lo hi (block_writes own a) x
  pub pars : AllSharePlainly c a
  pub fresh : AreBegun vars lo own
  pub scoped : (U : Vars) → AllBegin vars lo U → is_scoped c a U ≡ true

-- the body of a recover block, behind its head that ends at a place
pub record Recovers (vars : List VarInfo) (c : Context) (from y : ℕ) (own hides : List ℕ) (body : Code) : Type 0 where
  pub gift : given body y ≡ true
  pub hidden : AllBegin vars from (those hides)
  pub tied : (U : Vars) → AllBegin vars from U → hides_tied c U hides ≡ true
  pub outer : AllBegin vars from (block_mentions own body)
  pub fresh : AreBegun vars from own
  pub scoped : (U : Vars) → AllBegin vars from U → is_scoped c body U ≡ true

module _ (vars : List VarInfo) (c : Context) where
  -- ---------- one code behind another ----------
  pub walks-same : (lo end : ℕ) → Walks vars c lo lo end (λ code. code)
  walks-same lo end = record {
    stands = λ rest x e. inl e;
    splits = λ rest x e. inl e;
    keeps = λ rest x e. e;
    pars = λ rest all. all;
    gives = λ rest x. refl;
    scoped = λ rest U all later. later U all;
  }

  -- in a longer stretch
  pub walks-more : (lo from hi to end : ℕ) (f : Code → Code) → lo ≤ from → hi ≤ to → Walks vars c from hi end f → Walks vars c lo to end f
  walks-more lo from hi to end f low more is = record {
    stands = λ rest x e. standing rest x (is.stands rest x e);
    splits = λ rest x e. splitting rest x (is.splits rest x e);
    keeps = is.keeps;
    pars = is.pars;
    gives = is.gives;
    scoped = λ rest U all later. is.scoped rest U (begins-more vars lo from U low all) (λ V up. later V (begins-more vars hi to V more up));
  }
    where
      standing : (rest : Code) (x : ℕ) → (mentioned rest x ≡ true) ⊎ Meets vars from hi x → (mentioned rest x ≡ true) ⊎ Meets vars lo to x
      standing rest x (inl m) = inl m
      standing rest x (inr meets) = inr (meets-more vars from hi lo to x low more meets)

      splitting : (rest : Code) (x : ℕ) → (touched rest x ≡ true) ⊎ InOrIn vars from end (written (f rest)) x → (touched rest x ≡ true) ⊎ InOrIn vars lo end (written (f rest)) x
      splitting rest x (inl t) = inl t
      splitting rest x (inr (inl w)) = inr (inl w)
      splitting rest x (inr (inr lies)) = inr (inr (lies-more vars from end lo end x low (omega arith) lies))

  pub walks-then : (lo mid hi end : ℕ) (f g : Code → Code) → lo ≤ mid → mid ≤ hi → Walks vars c lo mid end f → Walks vars c mid hi end g → Walks vars c lo hi end (λ code. f (g code))
  walks-then lo mid hi end f g low more first second = record {
    stands = λ rest x e. standing rest x (first.stands (g rest) x e);
    splits = λ rest x e. splitting rest x (first.splits (g rest) x e);
    keeps = λ rest x e. first.keeps (g rest) x (second.keeps rest x e);
    pars = λ rest all. first.pars (g rest) (second.pars rest all);
    gives = λ rest x. first.gives (g rest) x ∙ second.gives rest x;
    scoped = λ rest U all later. first.scoped (g rest) U all (λ V up. second.scoped rest V up later);
  }
    where
      later : (rest : Code) (x : ℕ) → (mentioned rest x ≡ true) ⊎ Meets vars mid hi x → (mentioned rest x ≡ true) ⊎ Meets vars lo hi x
      later rest x (inl e) = inl e
      later rest x (inr meets) = inr (meets-more vars mid hi lo hi x low (omega arith) meets)

      standing : (rest : Code) (x : ℕ) → (mentioned (g rest) x ≡ true) ⊎ Meets vars lo mid x → (mentioned rest x ≡ true) ⊎ Meets vars lo hi x
      standing rest x (inl e) = later rest x (second.stands rest x e)
      standing rest x (inr meets) = inr (meets-more vars lo mid lo hi x (omega arith) more meets)

      behind : (rest : Code) (x : ℕ) → (touched rest x ≡ true) ⊎ InOrIn vars mid end (written (g rest)) x → (touched rest x ≡ true) ⊎ InOrIn vars lo end (written (f (g rest))) x
      behind rest x (inl t) = inl t
      behind rest x (inr (inl w)) = inr (inl (first.keeps (g rest) x w))
      behind rest x (inr (inr lies)) = inr (inr (lies-more vars mid end lo end x low (omega arith) lies))

      splitting : (rest : Code) (x : ℕ) → (touched (g rest) x ≡ true) ⊎ InOrIn vars lo end (written (f (g rest))) x → (touched rest x ≡ true) ⊎ InOrIn vars lo end (written (f (g rest))) x
      splitting rest x (inl t) = behind rest x (second.splits rest x t)
      splitting rest x (inr is) = inr is

  -- a variable whose scope meets a stretch begins before its end
  meets-begin : (hi : ℕ) {lo : ℕ} (x : ℕ) → Meets vars lo hi x → Begins vars hi x
  meets-begin hi x meets v here = (meets v here).0

  -- ---------- simple statements ----------
  pub do-walks : (lo hi end : ℕ) (at : Span) (i : Instruction) → lo ≤ hi → ((x : ℕ) → mentions i x ≡ true → Meets vars lo hi x) → ((x : ℕ) → touched_by i x ≡ true → InOrIn vars lo end (plus (consumes i) (assigns i)) x)
      → Walks vars c lo hi end (Do at i)
  do-walks lo hi end at i low meets parts = record {
    stands = λ rest x e. standing rest x (or_cases (mentions i x) (mentioned rest x) e);
    splits = λ rest x e. splitting rest x (or_cases (touched_by i x) (touched rest x) e);
    keeps = λ rest x e. or_right (plus (consumes i) (assigns i) x) (written rest x) e;
    pars = λ rest all. all;
    gives = λ rest x. refl;
    scoped = λ rest U all later. later (plus U (mentions i)) (begins-plus vars hi U (mentions i) (begins-more vars lo hi U low all) (λ x e. meets-begin hi x (meets x e)));
  }
    where
      standing : (rest : Code) (x : ℕ) → (mentions i x ≡ true) ⊎ (mentioned rest x ≡ true) → (mentioned rest x ≡ true) ⊎ Meets vars lo hi x
      standing rest x (inl e) = inr (meets x e)
      standing rest x (inr e) = inl e

      own : (rest : Code) (x : ℕ) → InOrIn vars lo end (plus (consumes i) (assigns i)) x → InOrIn vars lo end (plus (plus (consumes i) (assigns i)) (written rest)) x
      own rest x (inl w) = inl (or_left (plus (consumes i) (assigns i) x) (written rest x) w)
      own rest x (inr lies) = inr lies

      splitting : (rest : Code) (x : ℕ) → (touched_by i x ≡ true) ⊎ (touched rest x ≡ true) → (touched rest x ≡ true) ⊎ InOrIn vars lo end (plus (plus (consumes i) (assigns i)) (written rest)) x
      splitting rest x (inl e) = inr (own rest x (parts x e))
      splitting rest x (inr e) = inl e

  -- ---------- blocks ----------
  -- a block from an earlier place
  pub encloses-sooner : (lo from hi : ℕ) (own : List ℕ) (a : Code) → lo ≤ from → Encloses vars c from hi own a → Encloses vars c lo hi own a
  encloses-sooner lo from hi own a low is = record {
    stands = λ x e. meets-more vars from hi lo hi x low (omega arith) (is.stands x e);
    splits = λ x e. splitting x (is.splits x e);
    pars = is.pars;
    fresh = begun-more vars lo from own low is.fresh;
    scoped = λ U all. is.scoped U (begins-more vars lo from U low all);
  }
    where
      splitting : (x : ℕ) → InOrIn vars from hi (block_writes own a) x → InOrIn vars lo hi (block_writes own a) x
      splitting x (inl w) = inl w
      splitting x (inr lies) = inr (lies-more vars from hi lo hi x low (omega arith) lies)

  -- what stands in a block or in what is behind it
  block-stands : (lo hi : ℕ) (own : List ℕ) (a : Code) (M : Vars) → Encloses vars c lo hi own a → (x : ℕ) → plus (minus (mentioned a) (those own)) M x ≡ true → (M x ≡ true) ⊎ Meets vars lo hi x
  block-stands lo hi own a M is x e = pick (or_cases (minus (mentioned a) (those own) x) (M x) e)
    where
      pick : (minus (mentioned a) (those own) x ≡ true) ⊎ (M x ≡ true) → (M x ≡ true) ⊎ Meets vars lo hi x
      pick (inl m) = inr (is.stands x (minus-within (mentioned a) (those own) x m))
      pick (inr m) = inl m

  block-splits : (lo hi end : ℕ) (own : List ℕ) (a : Code) (T W : Vars) → hi ≤ end → Encloses vars c lo hi own a → (x : ℕ) → plus (plus (touched a) (those own)) T x ≡ true
      → (T x ≡ true) ⊎ InOrIn vars lo end (plus (minus (written a) (those own)) W) x
  block-splits lo hi end own a T W more is x e = pick (or_cases (plus (touched a) (those own) x) (T x) e)
    where
      within : InOrIn vars lo hi (block_writes own a) x → InOrIn vars lo end (plus (minus (written a) (those own)) W) x
      within (inl w) = inl (or_left (block_writes own a x) (W x) w)
      within (inr lies) = inr (lies-more vars lo hi lo end x (omega arith) more lies)

      pick : (plus (touched a) (those own) x ≡ true) ⊎ (T x ≡ true) → (T x ≡ true) ⊎ InOrIn vars lo end (plus (minus (written a) (those own)) W) x
      pick (inl t) = inr (within (is.splits x t))
      pick (inr t) = inl t

  -- what stands in a block begins before its end
  block-begins : (lo hi to : ℕ) (own : List ℕ) (a : Code) → hi ≤ to → Encloses vars c lo hi own a → AllBegin vars to (block_mentions own a)
  block-begins lo hi to own a more is = begins-more vars hi to (block_mentions own a) more (λ x e. meets-begin hi x (is.stands x (minus-within (mentioned a) (those own) x e)))

  module _ (lo mid hi end : ℕ) (own1 : List ℕ) (a : Code) (own2 : List ℕ) (b : Code) (low : lo ≤ mid) (more : mid ≤ hi) (last : hi ≤ end) (left : Encloses vars c lo mid own1 a) (right : Encloses vars c mid hi own2 b) where
    -- two blocks
    two-stand : (M : Vars) (x : ℕ) → plus (minus (mentioned a) (those own1)) (plus (minus (mentioned b) (those own2)) M) x ≡ true → (M x ≡ true) ⊎ Meets vars lo hi x
    two-stand M x e = first (block-stands lo mid own1 a (plus (minus (mentioned b) (those own2)) M) left x e)
      where
        second : (M x ≡ true) ⊎ Meets vars mid hi x → (M x ≡ true) ⊎ Meets vars lo hi x
        second (inl m) = inl m
        second (inr meets) = inr (meets-more vars mid hi lo hi x low (omega arith) meets)

        first : (plus (minus (mentioned b) (those own2)) M x ≡ true) ⊎ Meets vars lo mid x → (M x ≡ true) ⊎ Meets vars lo hi x
        first (inl m) = second (block-stands mid hi own2 b M right x m)
        first (inr meets) = inr (meets-more vars lo mid lo hi x (omega arith) more meets)

    two-split : (T W : Vars) (x : ℕ) → plus (plus (touched a) (those own1)) (plus (plus (touched b) (those own2)) T) x ≡ true
        → (T x ≡ true) ⊎ InOrIn vars lo end (plus (minus (written a) (those own1)) (plus (minus (written b) (those own2)) W)) x
    two-split T W x e = first (block-splits lo mid end own1 a (plus (plus (touched b) (those own2)) T) (plus (minus (written b) (those own2)) W) (omega arith) left x e)
      where
        both : Vars
        both = plus (minus (written a) (those own1)) (plus (minus (written b) (those own2)) W)

        second : (T x ≡ true) ⊎ InOrIn vars mid end (plus (minus (written b) (those own2)) W) x → (T x ≡ true) ⊎ InOrIn vars lo end both x
        second (inl t) = inl t
        second (inr (inl w)) = inr (inl (or_right (minus (written a) (those own1) x) (plus (minus (written b) (those own2)) W x) w))
        second (inr (inr lies)) = inr (inr (lies-more vars mid end lo end x low (omega arith) lies))

        first : (plus (plus (touched b) (those own2)) T x ≡ true) ⊎ InOrIn vars lo end both x → (T x ≡ true) ⊎ InOrIn vars lo end both x
        first (inl t) = second (block-splits mid hi end own2 b T W last right x t)
        first (inr is) = inr is

    two-keep : (W : Vars) (x : ℕ) → W x ≡ true → plus (minus (written a) (those own1)) (plus (minus (written b) (those own2)) W) x ≡ true
    two-keep W x w = or_right (minus (written a) (those own1) x) (plus (minus (written b) (those own2)) W x) (or_right (minus (written b) (those own2) x) (W x) w)

    two-scoped : (rest : Code) (U : Vars) → AllBegin vars lo U → ((V : Vars) → AllBegin vars hi V → is_scoped c rest V ≡ true)
        → (has_none U own1 && has_none U own2) && (is_scoped c a U && (is_scoped c b U && is_scoped c rest (plus U (plus (block_mentions own1 a) (block_mentions own2 b))))) ≡ true
    two-scoped rest U all later =
        let M : Vars = plus (block_mentions own1 a) (block_mentions own2 b) in
        let up : AllBegin vars mid U = begins-more vars lo mid U low all in
        let grown : AllBegin vars hi (plus U M) =
        begins-plus vars hi U M (begins-more vars mid hi U more up) (begins-plus vars hi (block_mentions own1 a) (block_mentions own2 b) (block-begins lo mid hi own1 a more left) (block-begins mid hi hi own2 b (omega arith) right)) in
        rw (begun-none vars lo U own1 all left.fresh, begun-none vars mid U own2 up right.fresh, left.scoped U all, right.scoped U up, later (plus U M) grown) refl

    pub if-walks : (at : Span) (e : Term) → ((x : ℕ) → term_mentions e x ≡ true → Meets vars lo hi x) → Walks vars c lo hi end (If at e own1 a own2 b)
    if-walks at e meets = record {
      stands = λ rest x q. standing rest x (or_cases (term_mentions e x) (plus (minus (mentioned a) (those own1)) (plus (minus (mentioned b) (those own2)) (mentioned rest)) x) q);
      splits = λ rest x q. two-split (touched rest) (written rest) x q;
      keeps = λ rest x q. two-keep (written rest) x q;
      pars = λ rest all. (left.pars, right.pars, all);
      gives = λ rest x. refl;
      scoped = two-scoped;
    }
      where
        standing : (rest : Code) (x : ℕ) → (term_mentions e x ≡ true) ⊎ (plus (minus (mentioned a) (those own1)) (plus (minus (mentioned b) (those own2)) (mentioned rest)) x ≡ true) → (mentioned rest x ≡ true) ⊎ Meets vars lo hi x
        standing rest x (inl q) = inr (meets x q)
        standing rest x (inr q) = two-stand (mentioned rest) x q

    pub par-walks : (at : Span) → SharesPlainly c own1 a own2 b → Walks vars c lo hi end (Par at own1 a own2 b)
    par-walks at plain = record {
      stands = λ rest x q. two-stand (mentioned rest) x q;
      splits = λ rest x q. two-split (touched rest) (written rest) x q;
      keeps = λ rest x q. two-keep (written rest) x q;
      pars = λ rest all. record { head = plain; left = left.pars; right = right.pars; rest = all };
      gives = λ rest x. refl;
      scoped = two-scoped;
    }

  pub while-walks : (lo from hi end : ℕ) (at : Span) (e : Term) (own : List ℕ) (body : Code) → lo ≤ from → from ≤ hi → hi ≤ end → ((x : ℕ) → term_mentions e x ≡ true → Meets vars lo hi x)
      → Encloses vars c from hi own body → AllBegin vars from (block_mentions own body) → Walks vars c lo hi end (While at e own body)
  while-walks lo from hi end at e own body low last more meets inner outer = record {
    stands = λ rest x q. standing rest x (or_cases (term_mentions e x) (plus (minus (mentioned body) (those own)) (mentioned rest) x) q);
    splits = λ rest x q. block-splits lo hi end own body (touched rest) (written rest) more block x q;
    keeps = λ rest x q. or_right (minus (written body) (those own) x) (written rest x) q;
    pars = λ rest all. (block.pars, all);
    gives = λ rest x. refl;
    scoped = scoping;
  }
    where
      block : Encloses vars c lo hi own body
      block = encloses-sooner lo from hi own body low inner

      standing : (rest : Code) (x : ℕ) → (term_mentions e x ≡ true) ⊎ (plus (minus (mentioned body) (those own)) (mentioned rest) x ≡ true) → (mentioned rest x ≡ true) ⊎ Meets vars lo hi x
      standing rest x (inl q) = inr (meets x q)
      standing rest x (inr q) = block-stands lo hi own body (mentioned rest) block x q

      scoping : (rest : Code) (U : Vars) → AllBegin vars lo U → ((V : Vars) → AllBegin vars hi V → is_scoped c rest V ≡ true) → is_scoped c (While at e own body rest) U ≡ true
      scoping rest U all later =
          let N : Vars = block_mentions own body in
          let up : AllBegin vars from (plus U N) = begins-plus vars from U N (begins-more vars lo from U low all) outer in
          rw (begun-none vars lo U own all block.fresh, inner.scoped (plus U N) up, later (plus U N) (begins-more vars from hi (plus U N) last up)) refl

  pub recover-walks : (lo from hi end : ℕ) (at : Span) (y : ℕ) (own hides : List ℕ) (body : Code) → lo ≤ from → from ≤ hi → hi ≤ end → ((x : ℕ) → just y x ≡ true → Meets vars lo hi x) → Encloses vars c lo hi own body
      → Recovers vars c from y own hides body → Walks vars c lo hi end (Recover at y own hides body)
  recover-walks lo from hi end at y own hides body low last more meets block is = record {
    stands = λ rest x q. standing rest x (or_cases (just y x) (plus (minus (mentioned body) (those own)) (mentioned rest) x) q);
    splits = λ rest x q. splitting rest x (or_cases (just y x) (plus (plus (touched body) (those own)) (touched rest) x) q);
    keeps = λ rest x q. or_right (just y x) (plus (minus (written body) (those own)) (written rest) x) (or_right (minus (written body) (those own) x) (written rest x) q);
    pars = λ rest all. (block.pars, all);
    gives = λ rest x. refl;
    scoped = scoping;
  }
    where
      scoping : (rest : Code) (U : Vars) → AllBegin vars lo U → ((V : Vars) → AllBegin vars hi V → is_scoped c rest V ≡ true) → is_scoped c (Recover at y own hides body rest) U ≡ true
      scoping rest U all later =
          let N : Vars = block_mentions own body in
          let up : AllBegin vars from U = begins-more vars lo from U low all in
          let hidden : AllBegin vars from (plus U (those hides)) = begins-plus vars from U (those hides) up is.hidden in
          let grown : AllBegin vars from (plus U N) = begins-plus vars from U N up is.outer in
          let behind : AllBegin vars hi (plus (just y) (plus U N)) = begins-plus vars hi (just y) (plus U N) (λ x e. meets-begin hi x (meets x e)) (begins-more vars from hi (plus U N) last grown) in
          rw (is.gift, begun-none vars from (plus U (those hides)) own hidden is.fresh, is.tied (plus U N) grown, is.scoped (plus U (those hides)) hidden, later (plus (just y) (plus U N)) behind) refl

      standing : (rest : Code) (x : ℕ) → (just y x ≡ true) ⊎ (plus (minus (mentioned body) (those own)) (mentioned rest) x ≡ true) → (mentioned rest x ≡ true) ⊎ Meets vars lo hi x
      standing rest x (inl q) = inr (meets x q)
      standing rest x (inr q) = block-stands lo hi own body (mentioned rest) block x q

      behind : (rest : Code) (x : ℕ) → (touched rest x ≡ true) ⊎ InOrIn vars lo end (plus (minus (written body) (those own)) (written rest)) x
          → (touched rest x ≡ true) ⊎ InOrIn vars lo end (plus (just y) (plus (minus (written body) (those own)) (written rest))) x
      behind rest x (inl t) = inl t
      behind rest x (inr (inl w)) = inr (inl (or_right (just y x) (plus (minus (written body) (those own)) (written rest) x) w))
      behind rest x (inr (inr lies)) = inr (inr lies)

      splitting : (rest : Code) (x : ℕ) → (just y x ≡ true) ⊎ (plus (plus (touched body) (those own)) (touched rest) x ≡ true)
          → (touched rest x ≡ true) ⊎ InOrIn vars lo end (plus (just y) (plus (minus (written body) (those own)) (written rest))) x
      splitting rest x (inl q) = inr (inl (or_left (just y x) (plus (minus (written body) (those own)) (written rest) x) q))
      splitting rest x (inr q) = behind rest x (block-splits lo hi end own body (touched rest) (written rest) more block x q)

  -- ---------- whole blocks ----------
  -- what is written in a block and isn't its own is written outside it
  own-splits : (lo hi : ℕ) (own : List ℕ) (a : Code) → ((x : ℕ) → touched a x ≡ true → InOrIn vars lo hi (written a) x) → AllLie vars lo hi own
      → (x : ℕ) → plus (touched a) (those own) x ≡ true → InOrIn vars lo hi (block_writes own a) x
  own-splits lo hi own a split lies x e = by-own (those own x) refl (or_cases (touched a x) (those own x) e)
    where
      outside : those own x ≡ false → InOrIn vars lo hi (written a) x → InOrIn vars lo hi (block_writes own a) x
      outside q (inl w) = inl (rw (w, q) refl)
      outside q (inr is) = inr is

      by-own : (o : Bool) → those own x ≡ o → (touched a x ≡ true) ⊎ (those own x ≡ true) → InOrIn vars lo hi (block_writes own a) x
      by-own true q either = inr (lies x q)
      by-own false q (inl t) = outside q (split x t)
      by-own false q (inr o) = inr (lies x o)

  -- a block in braces
  pub encloses-end : (lo hi : ℕ) (own : List ℕ) (f : Code → Code) → Walks vars c lo hi hi f → AllLie vars lo hi own → AreBegun vars lo own → Encloses vars c lo hi own (f End)
  encloses-end lo hi own f is lies fresh = record {
    stands = λ x e. standing x (is.stands End x e);
    splits = own-splits lo hi own (f End) (λ x e. splitting x (is.splits End x e)) lies;
    pars = is.pars End tt;
    fresh = fresh;
    scoped = λ U all. is.scoped End U all (λ V up. refl);
  }
    where
      standing : (x : ℕ) → (none x ≡ true) ⊎ Meets vars lo hi x → Meets vars lo hi x
      standing x (inl e) = absurd (let no : ⊥ = cc e in no)
      standing x (inr meets) = meets

      splitting : (x : ℕ) → (none x ≡ true) ⊎ InOrIn vars lo hi (written (f End)) x → InOrIn vars lo hi (written (f End)) x
      splitting x (inl e) = absurd (let no : ⊥ = cc e in no)
      splitting x (inr is) = is

  -- a recover block, whose `give` hands w to y
  pub encloses-give : (lo hi : ℕ) (own : List ℕ) (f : Code → Code) (at : Span) (w y : ℕ) → Walks vars c lo hi hi f → ((x : ℕ) → plus (just w) (just y) x ≡ true → Meets vars lo hi x) → AllLie vars lo hi own
      → AreBegun vars lo own → Encloses vars c lo hi own (f (Give at w y))
  encloses-give lo hi own f at w y is meets lies fresh = record {
    stands = λ x e. standing x (is.stands (Give at w y) x e);
    splits = own-splits lo hi own (f (Give at w y)) (λ x e. splitting x (is.splits (Give at w y) x e)) lies;
    pars = is.pars (Give at w y) tt;
    fresh = fresh;
    scoped = λ U all. is.scoped (Give at w y) U all (λ V up. refl);
  }
    where
      standing : (x : ℕ) → (plus (just w) (just y) x ≡ true) ⊎ Meets vars lo hi x → Meets vars lo hi x
      standing x (inl e) = meets x e
      standing x (inr m) = m

      splitting : (x : ℕ) → (plus (just w) (just y) x ≡ true) ⊎ InOrIn vars lo hi (written (f (Give at w y))) x → InOrIn vars lo hi (written (f (Give at w y))) x
      splitting x (inl e) = inl (is.keeps (Give at w y) x e)
      splitting x (inr both) = both

  -- ---------- the two tests of a par ----------
  -- a known variable is there
  there : (vs : List VarInfo) (x : ℕ) → below (length (map (λ v. v.ty) vs)) x ≡ true → (v : VarInfo) × (slice_get vs x ≡ Some v)
  there [] x e = absurd (let no : ⊥ = cc e in no)
  there (v ∷ vs) zero e = (v, refl)
  there (v ∷ vs) (suc x) e = there vs x e

  same-meet : (n t w m : Bool) → (w ≡ true → t ≡ true) → (n ≡ true → t ≡ true → m ≡ true → w ≡ true) → (n && t) && (n && m) ≡ (n && w) && (n && m)
  same-meet false t w m more less = refl
  same-meet true true true m more less = refl
  same-meet true false false m more less = refl
  same-meet true true false true more less = absurd (let no : false ≡ true = less refl refl refl in let clash : ⊥ = cc no in clash)
  same-meet true true false false more less = refl
  same-meet true false true m more less = absurd (let no : false ≡ true = more refl in let clash : ⊥ = cc no in clash)

  -- what a block only declares doesn't stand in another one, whose stretch doesn't meet its own
  declares-nothing : c.vars ≡ map (λ v. v.ty) vars → (lo hi from end : ℕ) (own1 : List ℕ) (a : Code) (own2 : List ℕ) (b : Code) → Encloses vars c lo hi own1 a → Encloses vars c from end own2 b → (hi ≤ from) ⊎ (end ≤ lo)
      → meet (touches c own1 a) (uses c own2 b) ≡ meet (sets c own1 a) (uses c own2 b)
  declares-nothing types lo hi from end own1 a own2 b left right apart =
      λ j x. same-meet (below (length c.vars) x) (plus (touched a) (those own1) x) (block_writes own1 a x) (block_mentions own2 b x) (block-touched own1 a (written-touched a) x) (less x) j
    where
      less : (x : ℕ) → below (length c.vars) x ≡ true → plus (touched a) (those own1) x ≡ true → block_mentions own2 b x ≡ true → block_writes own1 a x ≡ true
      less x known t m = pick (left.splits x t) (there vars x (subst (λ ts. below (length ts) x ≡ true) types known)) apart
        where
          pick : InOrIn vars lo hi (block_writes own1 a) x → (v : VarInfo) × (slice_get vars x ≡ Some v) → (hi ≤ from) ⊎ (end ≤ lo) → block_writes own1 a x ≡ true
          pick (inl w) found side = w
          pick (inr lies) (v, here) (inl before) =
              let ends : v.scope.end ≤ hi = (lies v here).1 in
              let meets : from < v.scope.end = (right.stands x (minus-within (mentioned b) (those own2) x m) v here).1 in
              absurd (omega arith)
          pick (inr lies) (v, here) (inr behind) =
              let begins : lo ≤ v.scope.start = (lies v here).0 in
              let meets : v.scope.start < end = (right.stands x (minus-within (mentioned b) (those own2) x m) v here).0 in
              absurd (omega arith)

  pub shares-plainly : c.vars ≡ map (λ v. v.ty) vars → (lo mid hi : ℕ) (own1 : List ℕ) (a : Code) (own2 : List ℕ) (b : Code) → Encloses vars c lo mid own1 a → Encloses vars c mid hi own2 b → SharesPlainly c own1 a own2 b
  shares-plainly types lo mid hi own1 a own2 b left right =
      let first = declares-nothing types lo mid mid hi own1 a own2 b left right (inl (omega arith)) in
      let second = declares-nothing types mid hi lo mid own2 b own1 a right left (inr (omega arith)) in
      λ j. some_var c (first j) || (some_var c (second j) || some_var c (meet (isolated_vars c) (meet (uses c own1 a) (uses c own2 b))))
