-- The turns of statements with blocks, and the ends of parts, from one state to the next.
use Rattle.std.proofs.Common.{◌≡◌, ◌∙◌, ℕ, suc, Bool, true, false, List, ◌∷◌, Option, Some, None, refl, sym, ap}
use Rattle.std.specs.Prelude.{nat_lt, slice_get}
use Rattle.perm_tree.specs.declared.ast.Block.{Block}
use Rattle.perm_tree.specs.declared.ast.Ident.{Ident}
use Rattle.perm_tree.specs.declared.ast.Rhs.{Rhs}
use Rattle.perm_tree.specs.declared.ast.Rhs.TheVariants as rhs
use Rattle.perm_tree.specs.declared.ast.Span.{Span}
use Rattle.perm_tree.specs.declared.ast.Stmt.{Stmt}
use Rattle.perm_tree.specs.declared.ast.StmtKind.{StmtKind}
use Rattle.perm_tree.specs.declared.ast.StmtKind.TheVariants as kinds
use Rattle.perm_tree.specs.declared.ast.Ty.{Ty}
use Rattle.perm_tree.specs.declared.errors.TrapKind.TheVariants.{StackOverflow}
use Rattle.perm_tree.specs.Code.{Code, End}
use Rattle.perm_tree.specs.CodeNames.{Setting, term_at}
use Rattle.perm_tree.specs.CodeOf.{block_code, code_of, codes_of, kind_code}
use Rattle.perm_tree.specs.InBody.{setting_at}
use Rattle.perm_tree.specs.Places.{IsPlaced}
use Rattle.perm_tree.specs.UnitTables.{Tables}
use Rattle.perm_tree.proofs.CodeLaws.{stmt_code-is}
use Rattle.perm_meaning.specs.declared.eval.control.Tested.{Tested}
use Rattle.perm_meaning.specs.declared.eval.control.Tested.TheVariants as tests
use Rattle.perm_meaning.specs.declared.eval.frames.Failure.TheVariants as failures
use Rattle.perm_meaning.specs.declared.eval.parts.Part.TheVariants as parts
use Rattle.perm_meaning.specs.declared.eval.state.Fate.TheVariants as fates
use Rattle.perm_meaning.specs.declared.eval.state.State.{State}
use Rattle.perm_meaning.specs.Evaluator.Control.{behind, if_control, recover_control, start, while_control, TestsAs}
use Rattle.perm_meaning.specs.Effects.{depth_limit}
use Rattle.perm_meaning.specs.Expressions.{eval, tagged}
use Rattle.perm_meaning.specs.Evaluator.Frames.{code_at, AmountsTo, OneStands}
use Rattle.perm_meaning.specs.Meaning.{Result, left_of}
use Rattle.perm_meaning.specs.Names.{Mark, OnLeft, side_mark}
use Rattle.perm_meaning.specs.NamedHeap.{Heap}
use Rattle.perm_meaning.specs.Evaluator.NumberedValues.{all_by, Names}
use Rattle.perm_meaning.specs.Evaluator.Parts.{end_in, first_end, first_end_if, own_in, stmts_in}
use Rattle.perm_meaning.specs.Evaluator.SimpleStatements.{own_by}
use Rattle.perm_meaning.specs.Evaluator.States.{comes_to, split_at, test_fate, Moves}
use Rattle.perm_meaning.specs.Evaluator.Waits.{Waiting, ForLeft, resumed}
use Rattle.perm_meaning.specs.Evaluator.Ties.{moment_by}
use Rattle.perm_meaning.specs.Turns.{blocks}
use Rattle.perm_meaning.specs.Evaluator.WholeCode.{whole}
use Rattle.perm_meaning.specs.Evaluator.Writes.{par_at}
use Rattle.perm_meaning.proofs.Evaluator.Control as control
use Rattle.perm_meaning.proofs.Evaluator.NewNames.{split-new}
use Rattle.perm_meaning.proofs.Evaluator.Parts.{code-end, code-next}
use Rattle.perm_meaning.proofs.Evaluator.Waits as waiting
use Rattle.perm_meaning.proofs.Evaluator.Waits.{IsDue}

-- ---------- pars ----------
-- the left block of a par has no end of its own
left-open : (u : Tables) (m i : ℕ) (d : Stmt) (a b : Block) → slice_get u.program.stmts i ≡ Some d → d.kind ≡ kinds.Par a b → end_in u m (parts.First i) ≡ End
left-open u m i d a b here e = ap (first_end_if (setting_at u m)) here ∙ ap (first_end (setting_at u m)) e

-- ---------- no turns, and ends ----------
-- the code of a statement is due
due-assigned : (u : Tables) (fits : ℕ → Bool) (k : Setting) (codes : List (Code → Code)) (s : Stmt) (t : Option Ty) (x : Ident) (r : Rhs) (rest : Code) → IsDue (code_of u) fits (kind_code k codes s (kinds.Assign t x r) rest)
due-assigned u fits k codes s t x (rhs.Value a) rest = tt
due-assigned u fits k codes s t x (rhs.Field y f) rest = tt
due-assigned u fits k codes s t x (rhs.TakeField y f) rest = tt
due-assigned u fits k codes s t x (rhs.Item y n) rest = tt
due-assigned u fits k codes s t x (rhs.New c) rest = tt
due-assigned u fits k codes s t x (rhs.NewArray n) rest = tt
due-assigned u fits k codes s t x (rhs.Call c) rest = tt
due-assigned u fits k codes s t x (rhs.Recover b w give) rest = tt

due-kind : (u : Tables) (fits : ℕ → Bool) (k : Setting) (codes : List (Code → Code)) (s : Stmt) (kind : StmtKind) (rest : Code) → IsDue (code_of u) fits (kind_code k codes s kind rest)
due-kind u fits k codes s (kinds.Declare t x) rest = tt
due-kind u fits k codes s (kinds.Assign t x r) rest = due-assigned u fits k codes s t x r rest
due-kind u fits k codes s (kinds.SetField y f a) rest = tt
due-kind u fits k codes s (kinds.SetItem y n a) rest = tt
due-kind u fits k codes s (kinds.Call c) rest = tt
due-kind u fits k codes s (kinds.Print n) rest = tt
due-kind u fits k codes s (kinds.If n a b) rest = tt
due-kind u fits k codes s (kinds.While n a) rest = tt
due-kind u fits k codes s (kinds.Par a b) rest = tt

module _ (u : Tables) (s : State) where
  -- a part that has no statement left comes to its end
  pub part-ends : (fits : ℕ → Bool) (names : Names) (mark : Mark) (h : Heap) (ws : List Waiting) (r y : Result) → slice_get (stmts_in u s.own.«method» s.control.spot.part) s.control.spot.at ≡ None
      → whole (code_of u) fits (end_in u s.own.«method» s.control.spot.part) (moment_by names mark h s.turns s.own) ≡ y
      → AmountsTo u fits names s.own.«method» s.control.frames ws (comes_to u fits names mark h s fates.Goes) r → AmountsTo u fits names s.own.«method» s.control.frames ws y r
  part-ends fits names mark h ws r y none e due = record {
    stand = due.stand;
    is =
        ap (resumed (code_of u) fits ws) (sym e)
        ∙ ap (λ c. resumed (code_of u) fits ws (whole (code_of u) fits c (moment_by names mark h s.turns s.own))) (sym (code-end u s.own.«method» s.control.spot.part s.control.spot.at none))
        ∙ due.is;
  }

  module _ (i : ℕ) (d : Stmt) (placed : IsPlaced u.program) (next : slice_get (stmts_in u s.own.«method» s.control.spot.part) s.control.spot.at ≡ Some i) (here : slice_get u.program.stmts i ≡ Some d) where
    -- a statement with no turn left fails
    pub turns-out : Moves u (record s { turns = 0 }) (record s { turns = 0 }) (fates.Fails failures.NoTurns)
    turns-out fits names mark h ws r new due =
        let k = setting_at u s.own.«method» in
        let code = kind_code k (codes_of k) d d.kind (code_at u s.own.«method» (behind s.control.spot)) in
        let e : code_at u s.own.«method» s.control.spot ≡ code =
        code-next u s.own.«method» s.control.spot.part s.control.spot.at i next ∙ stmt_code-is k i d (code_at u s.own.«method» (behind s.control.spot)) placed here in (
          mark,
          ws,
          new,
          record {
            stand = due.stand;
            is =
                sym (waiting.no-turns (code_of u) fits ws code (own_by names mark s.own) h (due-kind u fits k (codes_of k) d d.kind (code_at u s.own.«method» (behind s.control.spot))))
                ∙ ap (λ c. resumed (code_of u) fits ws (whole (code_of u) fits c (moment_by names mark h 0 s.own))) (sym e)
                ∙ due.is;
          },
        )

    module _ (t : ℕ) where
      -- the turn of an `if`
      pub if-moves : (n : ℕ) (a : Block) (b : Option Block) → d.kind ≡ kinds.If n a b → (q : Tested) → ((names : Names) → TestsAs (eval tagged (term_at (setting_at u s.own.«method») n) (all_by names s.own.vars)) q)
          → Moves u (record s { turns = suc t }) (record s { turns = t; control = if_control i q s.control }) (test_fate d.head q)
      if-moves n a b e (tests.Decides true) q fits names mark h ws r new due =
          (mark, _, new, control.if-yes u fits names s.own.«method» s.control ws t (own_by names mark s.own) h r i d placed next here due n a b e (q names))
      if-moves n a b e (tests.Decides false) q fits names mark h ws r new due =
          (mark, _, new, control.if-no u fits names s.own.«method» s.control ws t (own_by names mark s.own) h r i d placed next here due n a b e (q names))
      if-moves n a b e (tests.Halts k) q fits names mark h ws r new due =
          (mark, ws, new, control.if-halts u fits names s.own.«method» s.control ws t (own_by names mark s.own) h r i d placed next here due n a b e k (q names))
      if-moves n a b e tests.Sticks q fits names mark h ws r new due =
          (mark, ws, new, control.if-stuck u fits names s.own.«method» s.control ws t (own_by names mark s.own) h r i d placed next here due n a b e (q names))

      -- the turn of a `while`
      pub while-moves : (n : ℕ) (a : Block) → d.kind ≡ kinds.While n a → (q : Tested) → ((names : Names) → TestsAs (eval tagged (term_at (setting_at u s.own.«method») n) (all_by names s.own.vars)) q)
          → Moves u (record s { turns = suc t }) (record s { turns = t; control = while_control i q s.control }) (test_fate d.head q)
      while-moves n a e (tests.Decides true) q fits names mark h ws r new due =
          (mark, _, new, control.while-yes u fits names s.own.«method» s.control ws t (own_by names mark s.own) h r i d placed next here due n a e (q names))
      while-moves n a e (tests.Decides false) q fits names mark h ws r new due =
          (mark, ws, new, control.while-no u fits names s.own.«method» s.control ws t (own_by names mark s.own) h r i d placed next here due n a e (q names))
      while-moves n a e (tests.Halts k) q fits names mark h ws r new due =
          (mark, ws, new, control.while-halts u fits names s.own.«method» s.control ws t (own_by names mark s.own) h r i d placed next here due n a e k (q names))
      while-moves n a e tests.Sticks q fits names mark h ws r new due =
          (mark, ws, new, control.while-stuck u fits names s.own.«method» s.control ws t (own_by names mark s.own) h r i d placed next here due n a e (q names))

      -- the turn of a recover block
      pub recover-moves : (ty : Option Ty) (x : Ident) (b : Block) (w : Ident) (give : Span) → d.kind ≡ kinds.Assign ty x (rhs.Recover b w give)
          → Moves u (record s { turns = suc t }) (record s { turns = t; control = recover_control i s.control }) fates.Goes
      recover-moves ty x b w give e fits names mark h ws r new due =
          (mark, _, new, control.recover-runs u fits names s.own.«method» s.control ws t (own_by names mark s.own) h r i d placed next here due ty x b w give e)

      module _ (a b : Block) (e : d.kind ≡ kinds.Par a b) where
        -- the turn of a par
        pub par-moves : nat_lt s.own.depth depth_limit ≡ true → Moves u (record s { turns = suc t }) (split_at i (record s { turns = t })) fates.Goes
        par-moves q fits names mark h ws r new due =
            let m = s.own.«method» in
            let z = moment_by names mark h t s.own in
            let news = split-new h.objects z ws new in (
              side_mark OnLeft mark,
              ForLeft (par_at u m i) z (code_at u m (behind s.control.spot)) ∷ ws,
              (news.0, refl, news.1, news.2),
              record {
                stand = OneStands (record { mark = mark; heap = h; is = refl }) due.stand;
                is =
                    ap (λ c. resumed (code_of u) fits (ForLeft (blocks (own_in u m (parts.First i)) (block_code (setting_at u m) (stmts_in u m (parts.First i)) c) (own_in u m (parts.Second i)) (code_at u m (start (parts.Second i)))) z (code_at u m (behind s.control.spot)) ∷ ws) (whole (code_of u) fits (code_at u m (start (parts.First i))) (left_of z))) (sym (left-open u m i d a b here e))
                    ∙ sym (waiting.par-left (code_of u) fits ws t (own_by names mark s.own) h d.head (own_in u m (parts.First i)) (code_at u m (start (parts.First i))) (own_in u m (parts.Second i)) (code_at u m (start (parts.Second i))) (code_at u m (behind s.control.spot)) q)
                    ∙ ap (λ c. resumed (code_of u) fits ws (whole (code_of u) fits c (moment_by names mark h (suc t) s.own))) (sym (control.par-code u m s.control i d placed next here a b e))
                    ∙ due.is;
              },
            )

        -- a par at the depth limit traps
        pub par-traps : nat_lt s.own.depth depth_limit ≡ false → Moves u (record s { turns = suc t }) (record s { turns = t }) (fates.Fails (failures.Trapped StackOverflow d.head))
        par-traps q fits names mark h ws r new due =
            (mark, ws, new, control.par-halts u fits names s.own.«method» s.control ws t (own_by names mark s.own) h r i d placed next here due a b e q)
