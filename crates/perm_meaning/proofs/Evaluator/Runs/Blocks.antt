-- The turns of statements with blocks keep what a state means.
use Rattle.std.proofs.Common.{◌≡◌, ℕ, suc, ◌<◌, ◌≤◌, ◌+◌, ◌*◌, ◌/◌, ◌-◌, true, false, List, length, Option, refl, sym, subst, arith}
use Rattle.std.specs.Prelude.{nat_lt}
use Rattle.std.proofs.lemmas.Bool.Decides.{nat_tests}
use Rattle.perm_tree.specs.declared.ast.Block.{Block}
use Rattle.perm_tree.specs.declared.ast.Ident.{Ident}
use Rattle.perm_tree.specs.declared.ast.Rhs.TheVariants as rhs
use Rattle.perm_tree.specs.declared.ast.Span.{Span}
use Rattle.perm_tree.specs.declared.ast.Stmt.{Stmt}
use Rattle.perm_tree.specs.declared.ast.StmtKind.TheVariants as kinds
use Rattle.perm_tree.specs.declared.ast.Ty.{Ty}
use Rattle.perm_tree.specs.declared.errors.TrapKind.TheVariants.{StackOverflow}
use Rattle.perm_tree.specs.CodeNames.{term_at}
use Rattle.perm_tree.specs.InBody.{setting_at}
use Rattle.perm_tree.specs.Places.{IsPlaced}
use Rattle.perm_tree.specs.UnitTables.{Tables}
use Rattle.perm_meaning.specs.declared.eval.control.Control.{Control}
use Rattle.perm_meaning.specs.declared.eval.control.Tested.{Tested}
use Rattle.perm_meaning.specs.declared.eval.control.Tested.TheVariants as tests
use Rattle.perm_meaning.specs.declared.eval.frames.Failure.TheVariants as failures
use Rattle.perm_meaning.specs.declared.eval.frames.Frame.{Frame}
use Rattle.perm_meaning.specs.declared.eval.state.Fate.{Fate}
use Rattle.perm_meaning.specs.declared.eval.state.Fate.TheVariants as fates
use Rattle.perm_meaning.specs.declared.eval.state.State.{State}
use Rattle.perm_meaning.specs.Evaluator.Control.{if_control, recover_control, while_control, TestsAs}
use Rattle.perm_meaning.specs.Effects.{depth_limit}
use Rattle.perm_meaning.specs.Expressions.{eval, tagged}
use Rattle.perm_meaning.specs.Meaning.{Result}
use Rattle.perm_meaning.specs.Evaluator.Measure.{waiting_ends, waiting_turns}
use Rattle.perm_meaning.specs.Names.{Mark}
use Rattle.perm_meaning.specs.Evaluator.NewNames.{AreNew}
use Rattle.perm_meaning.specs.Evaluator.NumberedValues.{all_by, Names}
use Rattle.perm_meaning.specs.Evaluator.Runs.{unspent, AreShallow, ComesNext, FateBelow, FramesBelow, IsNext, IsSmall, Means, Stands}
use Rattle.perm_meaning.specs.Evaluator.States.{split_at, test_fate, Comes, Moves}
use Rattle.perm_meaning.specs.Steps.{within}
use Rattle.perm_meaning.specs.Evaluator.NumberedHeap.{Stored}
use Rattle.perm_meaning.specs.Evaluator.Ties.{AllBelow, AreTied}
use Rattle.perm_meaning.specs.Evaluator.Waits.{Waiting}
use Rattle.perm_meaning.proofs.Evaluator.Measure.{if-less, par-less, recover-less, while-less}
use Rattle.perm_meaning.proofs.Evaluator.ControlTurns.{if-moves, par-moves, par-traps, recover-moves, while-moves}

-- what refers to one of the first n objects in a state does so in another one, with its fate
pub record KeepsBelow (old new : State) (y : Fate) (n : ℕ) : Type 0 where
  pub vars : AllBelow n old.own.vars → AllBelow n new.own.vars
  pub frames : AllBelow n old.own.vars → FramesBelow n old.control.frames → FramesBelow n new.control.frames
  pub value : AllBelow n old.own.vars → FateBelow n y

module _ (u : Tables) (old new : State) where
  -- a state stands where another one on the same heap comes to the result
  stands-by : (y : Fate) (r : Result) (st : Stands u old fates.Goes r) → new.heap ≡ old.heap → KeepsBelow old new y (length old.heap.objects)
      → (next : Mark) × (waits : List Waiting) × AreNew st.heap.objects next waits × Comes u (within old.heap.limit) st.names next st.heap new y waits r → Stands u new y r
  stands-by y r st same keeps moved = record {
    names = st.names;
    mark = moved.0;
    heap = st.heap;
    waits = moved.1;
    objects = subst (λ (s : Stored). AreTied st.names s st.heap) (sym same) st.objects;
    vars = subst (λ (s : Stored). AllBelow (length s.objects) new.own.vars) (sym same) (keeps.vars st.vars);
    frames = subst (λ (s : Stored). FramesBelow (length s.objects) new.control.frames) (sym same) (keeps.frames st.vars st.frames);
    value = subst (λ (s : Stored). FateBelow (length s.objects) y) (sym same) (keeps.value st.vars);
    new = moved.2;
    comes = subst (λ (s : Stored). Comes u (within s.limit) st.names moved.0 st.heap new y moved.1 r) (sym same) moved.3;
  }

  -- what a state with its fate comes to, another one on the same heap means
  pub moves-means : (y : Fate) → Moves u old new y → new.heap ≡ old.heap → ((n : ℕ) → KeepsBelow old new y n) → (r : Result) → Means u old fates.Goes r → Means u new y r
  moves-means fates.Goes moves same keeps r st = stands-by fates.Goes r st same (keeps (length old.heap.objects)) (moves (within old.heap.limit) st.names st.mark st.heap st.waits r st.new st.comes)
  moves-means fates.Closes moves same keeps r st = stands-by fates.Closes r st same (keeps (length old.heap.objects)) (moves (within old.heap.limit) st.names st.mark st.heap st.waits r st.new st.comes)
  moves-means (fates.Gives v x) moves same keeps r st = stands-by (fates.Gives v x) r st same (keeps (length old.heap.objects)) (moves (within old.heap.limit) st.names st.mark st.heap st.waits r st.new st.comes)
  moves-means (fates.Returns v) moves same keeps r st = stands-by (fates.Returns v) r st same (keeps (length old.heap.objects)) (moves (within old.heap.limit) st.names st.mark st.heap st.waits r st.new st.comes)
  moves-means (fates.Fails e) moves same keeps r st = stands-by (fates.Fails e) r st same (keeps (length old.heap.objects)) (moves (within old.heap.limit) st.names st.mark st.heap st.waits r st.new st.comes)
  moves-means fates.Full moves same keeps r st = (moves (within old.heap.limit) st.names st.mark st.heap st.waits r st.new st.comes).3
  moves-means fates.Sticks moves same keeps r st = (moves (within old.heap.limit) st.names st.mark st.heap st.waits r st.new st.comes).3

-- ---------- where control goes ----------
-- the frames that wait after a turn of control: those that waited, and maybe one for a block
pub record AddsBlocks (old new : List Frame) : Type 0 where
  pub turns : waiting_turns new ≡ waiting_turns old
  pub parents : AreShallow old → AreShallow new
  pub below : (n : ℕ) → FramesBelow n old → FramesBelow n new

adds-none : (fs : List Frame) → AddsBlocks fs fs
adds-none fs = record { turns = refl; parents = λ p. p; below = λ n b. b }

-- an `if` adds its block
if-adds : (i : ℕ) (q : Tested) (c : Control) → AddsBlocks c.frames (if_control i q c).frames
if-adds i (tests.Decides true) c = record { turns = omega arith; parents = λ p. p; below = λ n b. (tt, b) }
if-adds i (tests.Decides false) c = record { turns = omega arith; parents = λ p. p; below = λ n b. (tt, b) }
if-adds i (tests.Halts k) c = adds-none c.frames
if-adds i tests.Sticks c = adds-none c.frames

-- a `while` adds its block for one more round
while-adds : (i : ℕ) (q : Tested) (c : Control) → AddsBlocks c.frames (while_control i q c).frames
while-adds i (tests.Decides true) c = record { turns = omega arith; parents = λ p. p; below = λ n b. (tt, b) }
while-adds i (tests.Decides false) c = adds-none c.frames
while-adds i (tests.Halts k) c = adds-none c.frames
while-adds i tests.Sticks c = adds-none c.frames

-- a recover block is added
recover-adds : (i : ℕ) (c : Control) → AddsBlocks c.frames (recover_control i c).frames
recover-adds i c = record { turns = omega arith; parents = λ p. p; below = λ n b. (tt, b) }

-- where a turn is spent and as many wait, no more are left
fewer : (t w v b : ℕ) → v ≡ w → suc t + w ≤ b → t + v ≤ b
fewer t w v b e le = omega (arith, e, le)

-- a test's fate refers to no object
fate-below : (n : ℕ) (at : Span) (q : Tested) → FateBelow n (test_fate at q)
fate-below n at (tests.Decides b) = tt
fate-below n at (tests.Halts k) = tt
fate-below n at tests.Sticks = tt

module _ (s : State) (c : Control) (adds : AddsBlocks s.control.frames c.frames) where
  -- such a turn keeps a state small
  control-small : IsSmall (unspent s) → IsSmall (record s { control = c })
  control-small small = record {
    turns = fewer s.turns (waiting_turns s.control.frames) (waiting_turns c.frames) _ adds.turns small.turns;
    limit = small.limit;
    parents = adds.parents small.parents;
  }

  -- and what refers to objects that are there
  control-keeps : (y : Fate) → ((n : ℕ) → FateBelow n y) → (n : ℕ) → KeepsBelow (unspent s) (record s { control = c }) y n
  control-keeps y value n = record { vars = λ vars. vars; frames = λ vars frames. adds.below n frames; value = λ vars. value n }

-- ---------- turns ----------
module _ (u : Tables) (s : State) (i : ℕ) (d : Stmt) (placed : IsPlaced u.program) (next : ComesNext u s i d) where
  -- a condition of the statement comes to this
  abbrev pub Tests : ℕ → Tested → Type 0
  Tests n q = (names : Names) → TestsAs (eval tagged (term_at (setting_at u s.own.«method») n) (all_by names s.own.vars)) q

  -- an `if`
  pub if-next : (n : ℕ) (a : Block) (b : Option Block) → d.kind ≡ kinds.If n a b → (q : Tested) → Tests n q → IsNext u (unspent s) fates.Goes (record s { control = if_control i q s.control }) (test_fate d.head q)
  if-next n a b e q tested = record {
    means =
        moves-means u (unspent s) (record s { control = if_control i q s.control }) (test_fate d.head q) (if-moves u s i d placed next.next next.here s.turns n a b e q tested) refl
        (control-keeps s (if_control i q s.control) (if-adds i q s.control) (test_fate d.head q) (λ n. fate-below n d.head q));
    small = control-small s (if_control i q s.control) (if-adds i q s.control);
    less = if-less s s.turns i q d.head;
  }

  -- a `while`
  pub while-next : (n : ℕ) (a : Block) → d.kind ≡ kinds.While n a → (q : Tested) → Tests n q → IsNext u (unspent s) fates.Goes (record s { control = while_control i q s.control }) (test_fate d.head q)
  while-next n a e q tested = record {
    means =
        moves-means u (unspent s) (record s { control = while_control i q s.control }) (test_fate d.head q) (while-moves u s i d placed next.next next.here s.turns n a e q tested) refl
        (control-keeps s (while_control i q s.control) (while-adds i q s.control) (test_fate d.head q) (λ n. fate-below n d.head q));
    small = control-small s (while_control i q s.control) (while-adds i q s.control);
    less = while-less s s.turns i q d.head;
  }

  -- a recover block
  pub recover-next : (ty : Option Ty) (x : Ident) (b : Block) (w : Ident) (give : Span) → d.kind ≡ kinds.Assign ty x (rhs.Recover b w give) → IsNext u (unspent s) fates.Goes (record s { control = recover_control i s.control }) fates.Goes
  recover-next ty x b w give e = record {
    means =
        moves-means u (unspent s) (record s { control = recover_control i s.control }) fates.Goes (recover-moves u s i d placed next.next next.here s.turns ty x b w give e) refl
        (control-keeps s (recover_control i s.control) (recover-adds i s.control) fates.Goes (λ n. tt));
    small = control-small s (recover_control i s.control) (recover-adds i s.control);
    less = recover-less s s.turns i;
  }

  -- a par
  pub par-next : (a b : Block) → d.kind ≡ kinds.Par a b → s.own.depth < 100000 → IsNext u (unspent s) fates.Goes (split_at i s) fates.Goes
  par-next a b e shallow = record {
    means =
        moves-means u (unspent s) (split_at i s) fates.Goes (par-moves u s i d placed next.next next.here s.turns a b e (below-limit s.own.depth shallow)) refl
        (λ n. record { vars = λ vars. vars; frames = λ vars frames. (vars, frames); value = λ vars. tt });
    small = λ small. record {
      turns = both-sides s.turns (s.turns / 2) (waiting_turns s.control.frames) _ (half s.turns) small.turns;
      limit = small.limit;
      parents = (shallow, small.parents);
    };
    less = par-less s s.turns i;
  }
    where
      below-limit : (n : ℕ) → n < 100000 → nat_lt n depth_limit ≡ true
      below-limit n lt = grind (arith, nat_tests, lt)

      half : (t : ℕ) → t / 2 ≤ t
      half t = omega arith

      both-sides : (t h w b : ℕ) → h ≤ t → suc t + w ≤ b → (t - h) + (h + w) ≤ b
      both-sides t h w b le small = omega (arith, le, small)

  -- a par at the depth limit
  pub par-stops : (a b : Block) → d.kind ≡ kinds.Par a b → 100000 ≤ s.own.depth → IsNext u (unspent s) fates.Goes s (fates.Fails (failures.Trapped StackOverflow d.head))
  par-stops a b e deep = record {
    means =
        moves-means u (unspent s) s (fates.Fails (failures.Trapped StackOverflow d.head)) (par-traps u s i d placed next.next next.here s.turns a b e (at-limit s.own.depth deep)) refl
        (control-keeps s s.control (adds-none s.control.frames) (fates.Fails (failures.Trapped StackOverflow d.head)) (λ n. tt));
    small = control-small s s.control (adds-none s.control.frames);
    less = spent s.turns (waiting_turns s.control.frames) (waiting_ends s.control.frames);
  }
    where
      at-limit : (n : ℕ) → 100000 ≤ n → nat_lt n depth_limit ≡ false
      at-limit n le = grind (arith, nat_tests, le)

      spent : (t w e : ℕ) → 8 * (t + w) + (e + 0) < 8 * (suc t + w) + (e + 1)
      spent t w e = omega arith
