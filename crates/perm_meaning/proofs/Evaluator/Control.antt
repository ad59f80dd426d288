-- Where control goes, as the meaning says.
use Rattle.std.proofs.Common.{◌≡◌, ◌∙◌, ℕ, suc, Bool, true, false, List, ◌∷◌, Option, Some, inl, inr, refl, sym, ap}
use Rattle.std.specs.Prelude.{nat_lt, slice_get}
use Rattle.perm_tree.specs.declared.ast.Block.{Block}
use Rattle.perm_tree.specs.declared.ast.Ident.{Ident}
use Rattle.perm_tree.specs.declared.ast.Rhs.TheVariants as rhs
use Rattle.perm_tree.specs.declared.ast.Span.{Span}
use Rattle.perm_tree.specs.declared.ast.Stmt.{Stmt}
use Rattle.perm_tree.specs.declared.ast.StmtKind.TheVariants as kinds
use Rattle.perm_tree.specs.declared.ast.Ty.{Ty}
use Rattle.perm_tree.specs.declared.errors.TrapKind.{TrapKind}
use Rattle.perm_tree.specs.declared.errors.TrapKind.TheVariants.{StackOverflow}
use Rattle.perm_tree.specs.Code.{Code, If, While, Par, Recover}
use Rattle.perm_tree.specs.CodeNames.{own_vars, term_at, tied_before, var_at}
use Rattle.perm_tree.specs.CodeOf.{code_of}
use Rattle.perm_tree.specs.InBody.{setting_at}
use Rattle.perm_tree.specs.Places.{IsPlaced}
use Rattle.perm_tree.specs.UnitTables.{Tables}
use Rattle.perm_meaning.specs.declared.eval.control.Control.{Control}
use Rattle.perm_meaning.specs.declared.eval.control.Tested.TheVariants as tests
use Rattle.perm_meaning.specs.declared.eval.parts.Part.TheVariants as parts
use Rattle.perm_meaning.specs.Evaluator.Control.{behind, if_control, recover_control, start, while_control, TestsAs}
use Rattle.perm_meaning.specs.Effects.{depth_limit}
use Rattle.perm_meaning.specs.Expressions.{eval, tagged}
use Rattle.perm_meaning.specs.Evaluator.Frames.{code_at, OneStands, AmountsTo}
use Rattle.perm_meaning.specs.Machine.{Trapped}
use Rattle.perm_meaning.specs.Meaning.{Result, Fails, Stuck}
use Rattle.perm_meaning.specs.NamedHeap.{Heap, Own}
use Rattle.perm_meaning.specs.Evaluator.NumberedValues.{Names}
use Rattle.perm_meaning.specs.Evaluator.Parts.{first_if, second_if, stmts_in, own_in}
use Rattle.perm_meaning.specs.Evaluator.Waits.{Waiting, ForBlock, ForRecover, resumed}
use Rattle.perm_meaning.specs.Evaluator.WholeCode.{whole}
use Rattle.perm_meaning.proofs.Evaluator.Parts.{code-if, code-next, code-par, code-recover, code-while}
use Rattle.perm_meaning.proofs.Evaluator.Waits as waiting
use Rattle.perm_meaning.proofs.Evaluator.Waits.{IsDue}

-- ---------- the code at a statement with blocks ----------
module _ (u : Tables) (m : ℕ) (c : Control) (i : ℕ) (s : Stmt) (placed : IsPlaced u.program) (next : slice_get (stmts_in u m c.spot.part) c.spot.at ≡ Some i) (here : slice_get u.program.stmts i ≡ Some s) where
  -- what comes behind it
  abbrev pub rest_at : Code
  rest_at = code_at u m (behind c.spot)

  first-own : own_vars (setting_at u m) (first_if (Some s)) ≡ own_in u m (parts.First i)
  first-own = ap (λ o. own_vars (setting_at u m) (first_if o)) (sym here)

  second-own : own_vars (setting_at u m) (second_if (Some s)) ≡ own_in u m (parts.Second i)
  second-own = ap (λ o. own_vars (setting_at u m) (second_if o)) (sym here)

  -- the code of an `if`
  pub if-code : (n : ℕ) (a : Block) (b : Option Block) → s.kind ≡ kinds.If n a b → code_at u m c.spot
      ≡ If s.head (term_at (setting_at u m) n) (own_in u m (parts.First i)) (code_at u m (start (parts.First i))) (own_in u m (parts.Second i)) (code_at u m (start (parts.Second i))) rest_at
  if-code n a b e =
      code-next u m c.spot.part c.spot.at i next
      ∙ code-if u m i s rest_at placed here n a b e
      ∙ (λ j. If s.head (term_at (setting_at u m) n) (first-own j) (code_at u m (start (parts.First i))) (second-own j) (code_at u m (start (parts.Second i))) rest_at)

  -- the code of a `while`
  pub while-code : (n : ℕ) (a : Block) → s.kind ≡ kinds.While n a → code_at u m c.spot
      ≡ While s.head (term_at (setting_at u m) n) (own_in u m (parts.First i)) (code_at u m (start (parts.First i))) rest_at
  while-code n a e =
      code-next u m c.spot.part c.spot.at i next
      ∙ code-while u m i s rest_at placed here n a e
      ∙ ap (λ own. While s.head (term_at (setting_at u m) n) own (code_at u m (start (parts.First i))) rest_at) first-own

  -- the code of a `par`
  pub par-code : (a b : Block) → s.kind ≡ kinds.Par a b → code_at u m c.spot
      ≡ Par s.head (own_in u m (parts.First i)) (code_at u m (start (parts.First i))) (own_in u m (parts.Second i)) (code_at u m (start (parts.Second i))) rest_at
  par-code a b e =
      code-next u m c.spot.part c.spot.at i next
      ∙ code-par u m i s rest_at placed here a b e
      ∙ (λ j. Par s.head (first-own j) (code_at u m (start (parts.First i))) (second-own j) (code_at u m (start (parts.Second i))) rest_at)

  -- the code of a recover block
  pub recover-code : (t : Option Ty) (x : Ident) (b : Block) (w : Ident) (give : Span) → s.kind ≡ kinds.Assign t x (rhs.Recover b w give) → code_at u m c.spot
      ≡ Recover s.head (var_at (setting_at u m) x) (own_in u m (parts.First i)) (tied_before s.head.end 0 (setting_at u m).vars) (code_at u m (start (parts.First i))) rest_at
  recover-code t x b w give e =
      code-next u m c.spot.part c.spot.at i next
      ∙ code-recover u m i s rest_at placed here t x b w give e
      ∙ ap (λ own. Recover s.head (var_at (setting_at u m) x) own (tied_before s.head.end 0 (setting_at u m).vars) (code_at u m (start (parts.First i))) rest_at) first-own

-- ---------- steps ----------
module _ (u : Tables) (fits : ℕ → Bool) (names : Names) (m : ℕ) (c : Control) (ws : List Waiting) (t : ℕ) (l : Own) (h : Heap) (r : Result) where
  -- what waits comes to the result when the code at the place is done at a moment with a turn
  abbrev pub Due : Type 0
  Due = AmountsTo u fits names m c.frames ws (whole (code_of u) fits (code_at u m c.spot) (record { turns = suc t; own = l; heap = h })) r

  moved : (code : Code) (y : Result) → code_at u m c.spot ≡ code → resumed (code_of u) fits ws (whole (code_of u) fits code (record { turns = suc t; own = l; heap = h })) ≡ y → Due → y ≡ r
  moved code y e q due = sym q ∙ sym (ap (λ x. resumed (code_of u) fits ws (whole (code_of u) fits x (record { turns = suc t; own = l; heap = h }))) e) ∙ due.is

  module _ (i : ℕ) (s : Stmt) (placed : IsPlaced u.program) (next : slice_get (stmts_in u m c.spot.part) c.spot.at ≡ Some i) (here : slice_get u.program.stmts i ≡ Some s) (due : Due) where
    -- where the code goes on behind it, with a turn less
    abbrev pub Goes : Control → List Waiting → Type 0
    Goes c ws = AmountsTo u fits names m c.frames ws (whole (code_of u) fits (code_at u m c.spot) (record { turns = t; own = l; heap = h })) r

    -- it traps
    abbrev pub Trapping : TrapKind → Type 0
    Trapping k = AmountsTo u fits names m c.frames ws (Fails (Trapped k s.head) t l.printed h) r

    -- its blocks with the variables that they declare, and what comes behind it
    abbrev own1 : List ℕ
    own1 = own_in u m (parts.First i)

    abbrev first : Code
    first = code_at u m (start (parts.First i))

    abbrev own2 : List ℕ
    own2 = own_in u m (parts.Second i)

    abbrev second : Code
    second = code_at u m (start (parts.Second i))

    abbrev rest : Code
    rest = code_at u m (behind c.spot)

    module _ (n : ℕ) (a : Block) (b : Option Block) (e : s.kind ≡ kinds.If n a b) where
      -- the first block of an `if`
      pub if-yes : TestsAs (eval tagged (term_at (setting_at u m) n) l.vars) (tests.Decides true) → Goes (if_control i (tests.Decides true) c) (ForBlock (own_in u m (parts.First i)) (code_at u m (behind c.spot)) ∷ ws)
      if-yes q = record {
        stand = OneStands refl due.stand;
        is = moved _ _ (if-code u m c i s placed next here n a b e) (waiting.if-true (code_of u) fits ws t l h s.head (term_at (setting_at u m) n) own1 first own2 second rest q) due;
      }

      -- its second block
      pub if-no : TestsAs (eval tagged (term_at (setting_at u m) n) l.vars) (tests.Decides false) → Goes (if_control i (tests.Decides false) c) (ForBlock (own_in u m (parts.Second i)) (code_at u m (behind c.spot)) ∷ ws)
      if-no q = record {
        stand = OneStands refl due.stand;
        is = moved _ _ (if-code u m c i s placed next here n a b e) (waiting.if-false (code_of u) fits ws t l h s.head (term_at (setting_at u m) n) own1 first own2 second rest q) due;
      }

      -- its condition traps
      pub if-halts : (k : TrapKind) → TestsAs (eval tagged (term_at (setting_at u m) n) l.vars) (tests.Halts k) → Trapping k
      if-halts k q = record {
        stand = due.stand;
        is = moved _ _ (if-code u m c i s placed next here n a b e) (waiting.if-traps (code_of u) fits ws t l h s.head (term_at (setting_at u m) n) own1 first own2 second rest k q) due;
      }

      -- its condition gives no truth value
      pub if-stuck : TestsAs (eval tagged (term_at (setting_at u m) n) l.vars) tests.Sticks → Stuck ≡ r
      if-stuck (inl q) = moved _ _ (if-code u m c i s placed next here n a b e) (waiting.if-mistyped (code_of u) fits ws t l h s.head (term_at (setting_at u m) n) own1 first own2 second rest q) due
      if-stuck (inr q) = moved _ _ (if-code u m c i s placed next here n a b e) (waiting.if-sticks (code_of u) fits ws t l h s.head (term_at (setting_at u m) n) own1 first own2 second rest q.0 q.1 q.2) due

    module _ (n : ℕ) (a : Block) (e : s.kind ≡ kinds.While n a) where
      -- one round more
      pub while-yes : TestsAs (eval tagged (term_at (setting_at u m) n) l.vars) (tests.Decides true) → Goes (while_control i (tests.Decides true) c) (ForBlock (own_in u m (parts.First i)) (code_at u m c.spot) ∷ ws)
      while-yes q = record {
        stand = OneStands refl due.stand;
        is =
            ap (λ x. resumed (code_of u) fits (ForBlock (own_in u m (parts.First i)) x ∷ ws) (whole (code_of u) fits (code_at u m (start (parts.First i))) (record { turns = t; own = l; heap = h }))) (while-code u m c i s placed next here n a e)
            ∙ moved _ _ (while-code u m c i s placed next here n a e) (waiting.while-true (code_of u) fits ws t l h s.head (term_at (setting_at u m) n) own1 first rest q) due;
      }

      -- the loop is over
      pub while-no : TestsAs (eval tagged (term_at (setting_at u m) n) l.vars) (tests.Decides false) → Goes (while_control i (tests.Decides false) c) ws
      while-no q = record {
        stand = due.stand;
        is = moved _ _ (while-code u m c i s placed next here n a e) (waiting.while-false (code_of u) fits ws t l h s.head (term_at (setting_at u m) n) own1 first rest q) due;
      }

      -- its condition traps
      pub while-halts : (k : TrapKind) → TestsAs (eval tagged (term_at (setting_at u m) n) l.vars) (tests.Halts k) → Trapping k
      while-halts k q = record {
        stand = due.stand;
        is = moved _ _ (while-code u m c i s placed next here n a e) (waiting.while-traps (code_of u) fits ws t l h s.head (term_at (setting_at u m) n) own1 first rest k q) due;
      }

      -- its condition gives no truth value
      pub while-stuck : TestsAs (eval tagged (term_at (setting_at u m) n) l.vars) tests.Sticks → Stuck ≡ r
      while-stuck (inl q) = moved _ _ (while-code u m c i s placed next here n a e) (waiting.while-mistyped (code_of u) fits ws t l h s.head (term_at (setting_at u m) n) own1 first rest q) due
      while-stuck (inr q) = moved _ _ (while-code u m c i s placed next here n a e) (waiting.while-sticks (code_of u) fits ws t l h s.head (term_at (setting_at u m) n) own1 first rest q.0 q.1 q.2) due

    -- a recover block runs
    pub recover-runs : (ty : Option Ty) (x : Ident) (b : Block) (w : Ident) (give : Span) → s.kind ≡ kinds.Assign ty x (rhs.Recover b w give) → Goes (recover_control i c) (ForRecover (own_in u m (parts.First i)) (code_at u m (behind c.spot)) ∷ ws)
    recover-runs ty x b w give e = record {
      stand = OneStands refl due.stand;
      is = moved _ _ (recover-code u m c i s placed next here ty x b w give e) (waiting.recover-is (code_of u) fits ws t l h s.head (var_at (setting_at u m) x) own1 (tied_before s.head.end 0 (setting_at u m).vars) first rest) due;
    }

    -- a par at the depth limit traps
    pub par-halts : (a b : Block) → s.kind ≡ kinds.Par a b → nat_lt l.depth depth_limit ≡ false → Trapping StackOverflow
    par-halts a b e q = record {
      stand = due.stand;
      is = moved _ _ (par-code u m c i s placed next here a b e) (waiting.par-traps (code_of u) fits ws t l h s.head own1 first own2 second rest q) due;
    }
