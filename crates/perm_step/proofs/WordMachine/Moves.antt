-- One turn of each form of statement leads along its link.
use Rattle.std.proofs.Common.{◌≡◌, ℕ, ℤ, suc, ◌-◌, ◌/◌, true, false, Bool, List, [], ◌∷◌, ◌++◌, Option, Some, None, refl, sym, ap, ◌∙◌}
use Rattle.std.specs.Prelude.{nat_lt, nat_eq, not, cond}
use Rattle.perm_tree.specs.declared.ast.Span.{Span}
use Rattle.perm_tree.specs.declared.errors.TrapKind.{TrapKind}
use Rattle.perm_tree.specs.declared.errors.TrapKind.TheVariants.{StackOverflow}
use Rattle.perm_tree.specs.Code.{Term, Argument, Code, Give, Return, Do, If, While, Par, Recover, Instruction, Tie, UnitCode}
use Rattle.perm_tree.specs.Links.{Enclosing, InBlock, InRecover, Standing, left_ended, spot_of}
use Rattle.perm_meaning.specs.Custody.{Copies, while_called, lent_by}
use Rattle.perm_meaning.specs.Effects.{Tick, Resumption, depth_limit, GoesOn, Calls, Calling, effect, Does, Act, Halts}
use Rattle.perm_meaning.specs.Expressions.{assign, assign_into, eval, look_up, value_of, clear, clear_all}
use Rattle.perm_meaning.specs.Machine.{Frame, OpenBlock, OpenRecover, OpenCall, Leaf, Fork, leaf_op, leaf_on, stage, turn_op, told_to, Turn, Splits, On, done, Did, side_of, resumed, Fine, ended, Failing, Trapped, Here}
use Rattle.perm_meaning.specs.Steps.{careful, asked_with_care, within}
use Rattle.perm_meaning.specs.Turns as turns
use Rattle.perm_meaning.specs.Turns.{turn_of, on_test, by_truth, tick, trap, blocks, given_back, returned, acted}
use Rattle.perm_meaning.specs.Values.{Eval, Gives, Traps}
use Rattle.perm_meaning.specs.WordHeap.{Branch, Cells, Own, State, Task, NoMark, Ask, memory, no_marks, worded}
use Rattle.perm_meaning.specs.Words.{words}
use Rattle.perm_step.proofs.WordMachine.Cells.{clear_same}
use Rattle.perm_step.specs.Standing.{branch_at, frames_of}
use Rattle.perm_step.proofs.WordMachine.Settling.{AreCalls, Ticks, clear_all_same, ended-alone, settles}

module _ (u : UnitCode) (l : Own) (t : ℕ) (st : List Enclosing) (below : List (Frame ℕ)) (calls : AreCalls below) where
  -- the branch before the turn
  abbrev pub before : Code → Branch
  before c = record { own = l; turns = suc t; code = c; stack = frames_of st ++ below; close = None }

  -- the branch after it, with this code over these blocks
  abbrev pub then_at : List ℕ → List ℤ → Code → List Enclosing → Task
  then_at vs printed c blocks = Leaf (branch_at (spot_of l.routine c blocks) below vs l.depth printed t)

  -- it goes on with these variables
  goes : (c : Code) (vs : List ℕ) (printed : List ℤ) (to : Code) (blocks : List Enclosing) → done (worded Copies u) (before c) t (On (record l { vars = vs; printed = printed }) to (frames_of blocks ++ below)) ≡ then_at vs printed to blocks
  goes c vs printed to blocks = ap (λ (b : Branch). let x : Task = Leaf b in x) (settles u (record (before c) { own = record l { vars = vs; printed = printed }; turns = t }) vs to blocks below calls)

  -- a condition
  abbrev test : Span → Did ℕ NoMark → Did ℕ NoMark → Eval ℕ → Turn ℕ NoMark Ask
  test at first other v = on_test words Copies v at (tick words Copies first) (tick words Copies other)

  tests_yes : (c : Code) (at : Span) (first other : Did ℕ NoMark) (v : Eval ℕ) (w : ℕ) → v ≡ Gives w → nat_eq w 0 ≡ false → (turn_op (worded Copies u) (test at first other v) ≡ Some Tick) × (told_to (worded Copies u) (before c) t (test at first other v) (Some 0) ≡ done (worded Copies u) (before c) t first)
  tests_yes c at first other v w is holds =
      let is_first : test at first other v ≡ tick words Copies first = ap (test at first other) is ∙ ap (λ b. by_truth words Copies (Some (not b)) (tick words Copies first) (tick words Copies other)) holds in (
        ap (turn_op (worded Copies u)) is_first,
        ap (λ x. told_to (worded Copies u) (before c) t x (Some 0)) is_first,
      )

  tests_not : (c : Code) (at : Span) (first other : Did ℕ NoMark) (v : Eval ℕ) (w : ℕ) → v ≡ Gives w → nat_eq w 0 ≡ true → (turn_op (worded Copies u) (test at first other v) ≡ Some Tick) × (told_to (worded Copies u) (before c) t (test at first other v) (Some 0) ≡ done (worded Copies u) (before c) t other)
  tests_not c at first other v w is holds =
      let is_not : test at first other v ≡ tick words Copies other = ap (test at first other) is ∙ ap (λ b. by_truth words Copies (Some (not b)) (tick words Copies first) (tick words Copies other)) holds in (
        ap (turn_op (worded Copies u)) is_not,
        ap (λ x. told_to (worded Copies u) (before c) t x (Some 0)) is_not,
      )

  -- a loop is entered
  pub loops : (at : Span) (e : Term) (own : List ℕ) (a rest : Code) (w : ℕ) → eval words e l.vars ≡ Gives w → nat_eq w 0 ≡ false
      → Ticks u (before (While at e own a rest)) (then_at l.vars l.printed a (InBlock own (While at e own a rest) ∷ st))
  loops at e own a rest w is holds =
      let c = While at e own a rest in
      let p = tests_yes c at (On l a (OpenBlock own c ∷ (frames_of st ++ below))) (On l rest (frames_of st ++ below)) (eval words e l.vars) w is holds in
      (p.0, p.1 ∙ goes c l.vars l.printed a (InBlock own c ∷ st))

  -- it is left
  pub leaves : (at : Span) (e : Term) (own : List ℕ) (a rest : Code) (w : ℕ) → eval words e l.vars ≡ Gives w → nat_eq w 0 ≡ true → Ticks u (before (While at e own a rest)) (then_at l.vars l.printed rest st)
  leaves at e own a rest w is holds =
      let c = While at e own a rest in
      let p = tests_not c at (On l a (OpenBlock own c ∷ (frames_of st ++ below))) (On l rest (frames_of st ++ below)) (eval words e l.vars) w is holds in
      (p.0, p.1 ∙ goes c l.vars l.printed rest st)

  -- the first block of an if
  pub chooses : (at : Span) (e : Term) (own1 : List ℕ) (a : Code) (own2 : List ℕ) (b rest : Code) (w : ℕ) → eval words e l.vars ≡ Gives w → nat_eq w 0 ≡ false
      → Ticks u (before (If at e own1 a own2 b rest)) (then_at l.vars l.printed a (InBlock own1 rest ∷ st))
  chooses at e own1 a own2 b rest w is holds =
      let c = If at e own1 a own2 b rest in
      let p = tests_yes c at (On l a (OpenBlock own1 rest ∷ (frames_of st ++ below))) (On l b (OpenBlock own2 rest ∷ (frames_of st ++ below))) (eval words e l.vars) w is holds in
      (p.0, p.1 ∙ goes c l.vars l.printed a (InBlock own1 rest ∷ st))

  -- the second one
  pub falls : (at : Span) (e : Term) (own1 : List ℕ) (a : Code) (own2 : List ℕ) (b rest : Code) (w : ℕ) → eval words e l.vars ≡ Gives w → nat_eq w 0 ≡ true
      → Ticks u (before (If at e own1 a own2 b rest)) (then_at l.vars l.printed b (InBlock own2 rest ∷ st))
  falls at e own1 a own2 b rest w is holds =
      let c = If at e own1 a own2 b rest in
      let p = tests_not c at (On l a (OpenBlock own1 rest ∷ (frames_of st ++ below))) (On l b (OpenBlock own2 rest ∷ (frames_of st ++ below))) (eval words e l.vars) w is holds in
      (p.0, p.1 ∙ goes c l.vars l.printed b (InBlock own2 rest ∷ st))

  -- a recover block begins: nothing is laid by
  pub begins : (at : Span) (x : ℕ) (own hides : List ℕ) (body rest : Code) → Ticks u (before (Recover at x own hides body rest)) (then_at l.vars l.printed body (InRecover own hides rest ∷ st))
  begins at x own hides body rest = (refl, goes (Recover at x own hides body rest) l.vars l.printed body (InRecover own hides rest ∷ st))

  -- ---------- traps ----------
  -- a branch that fails so
  abbrev pub failed_by : Code → TrapKind → Span → Task
  failed_by c k at = ended (worded Copies u) (before c) t l.printed (Failing (Trapped k at))

  test_traps : (c : Code) (at : Span) (first other : Did ℕ NoMark) (v : Eval ℕ) (k : TrapKind) → v ≡ Traps k → (turn_op (worded Copies u) (test at first other v) ≡ Some Tick) × (told_to (worded Copies u) (before c) t (test at first other v) (Some 0) ≡ failed_by c k at)
  test_traps c at first other v k is = (
    ap (λ v. turn_op (worded Copies u) (test at first other v)) is,
    ap (λ v. told_to (worded Copies u) (before c) t (test at first other v) (Some 0)) is,
  )

  -- the condition of a loop traps
  pub loop_traps : (at : Span) (e : Term) (own : List ℕ) (a rest : Code) (k : TrapKind) → eval words e l.vars ≡ Traps k → Ticks u (before (While at e own a rest)) (failed_by (While at e own a rest) k at)
  loop_traps at e own a rest k is =
      let c = While at e own a rest in
      test_traps c at (On l a (OpenBlock own c ∷ (frames_of st ++ below))) (On l rest (frames_of st ++ below)) (eval words e l.vars) k is

  -- that of an if
  pub choice_traps : (at : Span) (e : Term) (own1 : List ℕ) (a : Code) (own2 : List ℕ) (b rest : Code) (k : TrapKind) → eval words e l.vars ≡ Traps k → Ticks u (before (If at e own1 a own2 b rest)) (failed_by (If at e own1 a own2 b rest) k at)
  choice_traps at e own1 a own2 b rest k is =
      let c = If at e own1 a own2 b rest in
      test_traps c at (On l a (OpenBlock own1 rest ∷ (frames_of st ++ below))) (On l b (OpenBlock own2 rest ∷ (frames_of st ++ below))) (eval words e l.vars) k is

  -- a par at the greatest depth
  pub deep_traps : (at : Span) (own1 : List ℕ) (a : Code) (own2 : List ℕ) (b rest : Code) → nat_lt l.depth depth_limit ≡ false
      → Ticks u (before (Par at own1 a own2 b rest)) (failed_by (Par at own1 a own2 b rest) StackOverflow at)
  deep_traps at own1 a own2 b rest deep =
      let c = Par at own1 a own2 b rest in
      let by : Bool → Turn ℕ NoMark Ask = λ d. cond d (tick words Copies (Splits (blocks own1 a own2 b) rest)) (trap words Copies at StackOverflow) in (
        ap (λ d. turn_op (worded Copies u) (by d)) deep,
        ap (λ d. told_to (worded Copies u) (before c) t (by d) (Some 0)) deep,
      )

  -- what is returned traps
  pub return_traps : (at : Span) (a : Argument) (k : TrapKind) → value_of words a l.vars ≡ Traps k → Ticks u (before (Return at a)) (failed_by (Return at a) k at)
  return_traps at a k is =
      let by : Eval ℕ → Turn ℕ NoMark Ask = λ v. turns.on_value words Copies v at (λ v. returned words Copies v (frames_of st ++ below) l) in (
        ap (λ v. turn_op (worded Copies u) (by v)) is,
        ap (λ v. told_to (worded Copies u) (before (Return at a)) t (by v) (Some 0)) is,
      )

-- ---------- recover blocks ----------
module _ (u : UnitCode) (l : Own) (t : ℕ) (st : List Enclosing) (below : List (Frame ℕ)) (calls : AreCalls below) where
  -- what is given comes into x
  pub gives : (at : Span) (w x : ℕ) (own hides : List ℕ) (rest : Code) (v : ℕ) → look_up words l.vars w ≡ Gives v
      → Ticks u (before u l t (InRecover own hides rest ∷ st) below calls (Give at w x)) (then_at u l t st below calls (assign l.vars x v) l.printed rest st)
  gives at w x own hides rest v is =
      let b = before u l t (InRecover own hides rest ∷ st) below calls (Give at w x) in
      let by : Eval ℕ → Turn ℕ NoMark Ask = λ v. given_back words Copies v w x (OpenRecover own hides [] rest ∷ (frames_of st ++ below)) l in
      let same : clear_all words (clear words l.vars w) own ≡ l.vars = clear_all_same (clear words l.vars w) own ∙ clear_same l.vars w in (
        ap (λ v. turn_op (worded Copies u) (by v)) is,
        ap (λ v. told_to (worded Copies u) b t (by v) (Some 0)) is
            ∙ goes u l t (InRecover own hides rest ∷ st) below calls (Give at w x) (assign (clear_all words (clear words l.vars w) own) x v) l.printed rest st
            ∙ ap (λ vs. then_at u l t st below calls (assign vs x v) l.printed rest st) same,
      )

  -- ---------- pars ----------
  -- the parent of a par at a spot waits with what comes after it
  abbrev pub waiting : Code → Branch
  waiting rest = record { own = l; turns = 0; code = rest; stack = frames_of st ++ below; close = None }

  -- a side begins with nothing below it
  abbrev pub side_at : Code → ℕ → Task
  side_at c turns = Leaf (branch_at (spot_of l.routine c []) [] l.vars (suc l.depth) [] turns)

  side-is : (rest c : Code) (turns : ℕ) → Leaf (side_of (worded Copies u) (waiting rest) tt l.vars turns c) ≡ side_at c turns
  side-is rest c turns = ap (λ (s : Standing). let x : Task = Leaf (record { own = record l { depth = suc l.depth; printed = []; mark = tt }; turns = turns; code = s.code; stack = frames_of s.within ++ []; close = None }) in x) (sym (ended-alone c))

  pub parts : (at : Span) (own1 : List ℕ) (a : Code) (own2 : List ℕ) (b rest : Code) → nat_lt l.depth depth_limit ≡ true
      → Ticks u (before u l t st below calls (Par at own1 a own2 b rest)) (Fork (waiting rest) (blocks own1 a own2 b) (side_at a (t - t / 2)) (side_at b (t / 2)))
  parts at own1 a own2 b rest deep =
      let c = Par at own1 a own2 b rest in
      let by : Bool → Turn ℕ NoMark Ask = λ d. cond d (tick words Copies (Splits (blocks own1 a own2 b) rest)) (trap words Copies at StackOverflow) in (
        ap (λ d. turn_op (worded Copies u) (by d)) deep,
        ap (λ d. told_to (worded Copies u) (before u l t st below calls c) t (by d) (Some 0)) deep
            ∙ (λ i. Fork (waiting rest) (blocks own1 a own2 b) (side-is rest a (t - t / 2) i) (side-is rest b (t / 2) i)),
      )

  -- after both sides the parent goes on along the link of the par
  pub joins : (rest : Code) (vs : List ℕ) (turns : ℕ) (printed : List ℤ) → resumed (worded Copies u) (waiting rest) (Fine vs turns printed) ≡ Leaf (branch_at (spot_of l.routine rest st) below vs l.depth printed turns)
  joins rest vs turns printed = ap (λ (b : Branch). let x : Task = Leaf b in x) (settles u (record (waiting rest) { own = record l { printed = printed }; turns = turns }) vs rest st below calls)

  -- ---------- returns ----------
  abbrev back_by : Span → Option ℕ → Tie → ℕ → ℕ → List ℕ → Code → Eval ℕ → Turn ℕ NoMark Ask
  back_by at into tie y caller saved rest v = turns.on_value words Copies v at (λ v. returned words Copies v (OpenCall tie into y saved None caller rest ∷ (frames_of st ++ below)) l)

  -- a return leads along the link of the call
  pub returns_to : (at : Span) (a : Argument) (tie : Tie) (into : Option ℕ) (y caller : ℕ) (saved : List ℕ) (rest : Code) (w : ℕ) → value_of words a l.vars ≡ Gives w
      → Ticks u (before u l t [] (OpenCall tie into y saved None caller rest ∷ (frames_of st ++ below)) tt (Return at a)) (Leaf (branch_at (spot_of caller rest st) below (assign_into saved into w) (l.depth - 1) l.printed t))
  returns_to at a tie into y caller saved rest w is =
      let b = before u l t [] (OpenCall tie into y saved None caller rest ∷ (frames_of st ++ below)) tt (Return at a) in (
        ap (λ v. turn_op (worded Copies u) (back_by at into tie y caller saved rest v)) is,
        ap (λ v. told_to (worded Copies u) b t (back_by at into tie y caller saved rest v) (Some 0)) is
            ∙ ap (λ (b : Branch). let x : Task = Leaf b in x) (settles u (record b { own = record l { vars = assign_into saved into w; routine = caller; depth = l.depth - 1 }; turns = t }) (assign_into saved into w) rest st below calls),
      )

-- ---------- all simple statements ----------
-- any simple statement that is no call: what its effect says is what the branch does, and it comes along the link
module _ (u : UnitCode) (l : Own) (t : ℕ) (st : List Enclosing) (below : List (Frame ℕ)) (calls : AreCalls below) where
  pub acts : (at : Span) (i : Instruction) (rest : Code) (o : Ask) (told : ℕ → Act ℕ NoMark) (v : ℕ) (then_own : Own) → effect words u no_marks i l ≡ Does o told → told v ≡ GoesOn then_own
      → (leaf_op (worded Copies u) (before u l t st below calls (Do at i rest)) (stage (before u l t st below calls (Do at i rest))) ≡ Some o)
      × (leaf_on (worded Copies u) (before u l t st below calls (Do at i rest)) (stage (before u l t st below calls (Do at i rest))) (Some v)
      ≡ Leaf (record { own = then_own; turns = t; code = (left_ended rest st).code; stack = frames_of (left_ended rest st).within ++ below; close = None }))
  acts at i rest o told v then_own does goes_on =
      let c = Do at i rest in
      let b = before u l t st below calls c in
      let by : Resumption ℕ ℕ NoMark → Turn ℕ NoMark Ask = λ f. turn_of words Copies at rest (frames_of st ++ below) f in (
        ap (λ f. turn_op (worded Copies u) (by f)) does,
        ap (λ f. told_to (worded Copies u) b t (by f) (Some v)) does
            ∙ ap (λ a. done (worded Copies u) b t (acted words Copies at rest (frames_of st ++ below) a)) goes_on
            ∙ ap (λ (x : Branch). let y : Task = Leaf x in y) (settles u (record b { own = then_own; turns = t }) then_own.vars rest st below calls),
      )

  -- a call: its method begins over what comes after it
  pub calls_on : (at : Span) (i : Instruction) (rest : Code) (o : Ask) (told : ℕ → Act ℕ NoMark) (v : ℕ) (x : Calling ℕ) (then_own : Own) → effect words u no_marks i l ≡ Does o told → told v ≡ Calls x then_own
      → (leaf_op (worded Copies u) (before u l t st below calls (Do at i rest)) (stage (before u l t st below calls (Do at i rest))) ≡ Some o)
      × (leaf_on (worded Copies u) (before u l t st below calls (Do at i rest)) (stage (before u l t st below calls (Do at i rest))) (Some v)
      ≡ Leaf (record (branch_at (spot_of x.routine x.code []) (OpenCall x.tie x.into x.y (while_called words Copies x.tie x.y then_own.vars) (lent_by Copies x.tie x.receiver) then_own.routine rest ∷ (frames_of st ++ below)) x.first (suc then_own.depth) then_own.printed t) { close = None }))
  calls_on at i rest o told v x then_own does called_on =
      let c = Do at i rest in
      let b = before u l t st below calls c in
      let by : Resumption ℕ ℕ NoMark → Turn ℕ NoMark Ask = λ f. turn_of words Copies at rest (frames_of st ++ below) f in
      let frame : Frame ℕ = OpenCall x.tie x.into x.y (while_called words Copies x.tie x.y then_own.vars) (lent_by Copies x.tie x.receiver) then_own.routine rest in (
        ap (λ f. turn_op (worded Copies u) (by f)) does,
        ap (λ f. told_to (worded Copies u) b t (by f) (Some v)) does
            ∙ ap (λ a. done (worded Copies u) b t (acted words Copies at rest (frames_of st ++ below) a)) called_on
            ∙ ap (λ (x : Branch). let y : Task = Leaf x in y) (settles u (record b { own = record then_own { vars = x.first; routine = x.routine; depth = suc then_own.depth }; turns = t }) x.first x.code [] (frame ∷ (frames_of st ++ below)) tt),
      )

  -- one that traps ends the branch
  pub acts_trap : (at : Span) (i : Instruction) (rest : Code) (o : Ask) (told : ℕ → Act ℕ NoMark) (v : ℕ) (k : TrapKind) → effect words u no_marks i l ≡ Does o told → told v ≡ Halts k
      → (leaf_op (worded Copies u) (before u l t st below calls (Do at i rest)) (stage (before u l t st below calls (Do at i rest))) ≡ Some o)
      × (leaf_on (worded Copies u) (before u l t st below calls (Do at i rest)) (stage (before u l t st below calls (Do at i rest))) (Some v)
      ≡ ended (worded Copies u) (before u l t st below calls (Do at i rest)) t l.printed (Failing (Trapped k at)))
  acts_trap at i rest o told v k does halts =
      let c = Do at i rest in
      let b = before u l t st below calls c in
      let by : Resumption ℕ ℕ NoMark → Turn ℕ NoMark Ask = λ f. turn_of words Copies at rest (frames_of st ++ below) f in (
        ap (λ f. turn_op (worded Copies u) (by f)) does,
        ap (λ f. told_to (worded Copies u) b t (by f) (Some v)) does ∙ ap (λ a. done (worded Copies u) b t (acted words Copies at rest (frames_of st ++ below) a)) halts,
      )

-- a turn that asks nothing of the heap is an event of the machine
pub ticks_event : (u : UnitCode) (limit : ℕ) (b : Branch) (t : Task) (heap : Cells) → Ticks u b t → careful (worded Copies u) memory (within limit) (record { task = Leaf b; heap = heap }) Here ≡ Some (record { task = t; heap = heap })
ticks_event u limit b t heap h =
    ap (λ o. asked_with_care (worded Copies u) memory (within limit) (record { task = Leaf b; heap = heap }) Here o) h.0
    ∙ ap (λ (x : Task). let s : State = record { task = x; heap = heap } in Some s) h.1
