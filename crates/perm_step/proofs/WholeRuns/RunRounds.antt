-- The rounds of a run on one thread: each leads from what is reached to what is reached, and what is told of the end is what the unit means.
use Rattle.std.proofs.Common.{◌≡◌, ◌≢◌, ℕ, ◌+◌, ◌≤◌, Some, None, List, [], ◌∷◌, refl}
use Rattle.std.specs.Prelude.{ℤ}
use Rattle.perm_tree.specs.Code.{Routine, UnitCode}
use Rattle.perm_meaning.specs.declared.Outcome.{Outcome}
use Rattle.perm_meaning.specs.Claims.{OpensOnWords}
use Rattle.perm_meaning.specs.Custody.{Copies}
use Rattle.perm_meaning.specs.Machine.{Leaf, Fork, Blocks, Final, leaf_op, leaf_on, next_turn, over, stage, turn_op, resumed, join_of}
use Rattle.perm_meaning.specs.Outcome.{opening_need, outcome}
use Rattle.perm_meaning.specs.Steps.{Found, Refused, within}
use Rattle.perm_meaning.specs.WordHeap.{Ask, Branch, Cells, NoMark, State, worded, memory, find, after, opening_branch, opening_state, opening_word, root_word}
use Rattle.perm_meaning.proofs.Leads.{stay}
use Rattle.perm_core.specs.Claims.{IsChecked}
use Rattle.perm_step.specs.Holding.{Aside, RightAside, LeftAside, tree_around}
use Rattle.perm_step.specs.Reports.{IsReport}
use Rattle.perm_step.specs.Running.{IsInHeap, IsRunning}
use Rattle.perm_step.specs.Tells.{IsFull, Tells}
use Rattle.perm_step.specs.Working.{cells_of}
use Rattle.perm_step.proofs.WholeRuns.RunGoes.{run-takes, run-joins}
use Rattle.perm_step.proofs.WholeRuns.RunLively.{held-lively}
use Rattle.perm_step.proofs.WholeRuns.RunStores.{held-stores}
use Rattle.perm_step.proofs.WholeRuns.RunTells.{ended-tells, held-full-tells}
use Rattle.perm_step.proofs.WholeRuns.RunTurns.{held-turns}

module _ (u : UnitCode) (limit : ℕ) (input : List ℤ) (turns : ℕ) (r : Routine) where
  -- what the run has reached
  abbrev pub Runs : List (Aside ℕ NoMark) → Branch → Cells → Type 0
  Runs ks b h = IsRunning u limit input turns r ks b h

  -- the tree of a branch within these sides, with the heap
  abbrev pub state : List (Aside ℕ NoMark) → Branch → Cells → State
  state ks b h = record { task = tree_around (Leaf b) ks; heap = h }

  -- ---------- rounds ----------
  -- the run begins with the body of `Run`
  pub run-begins : Runs [] (opening_branch u input turns r) (record { word = opening_word input; given = opening_need u input })
  run-begins = record { ended = tt; reached = stay (worded Copies u) memory (within limit) (opening_state u input turns r) }

  -- a turn leaves a branch that runs, or has ended
  pub run-goes-on : (ks : List (Aside ℕ NoMark)) (b c : Branch) (h : Cells) (o : Ask) (v : ℕ) → Runs ks b h → leaf_op (worded Copies u) b (stage b) ≡ Some o → find (within limit) o h ≡ Found v
      → leaf_on (worded Copies u) b (stage b) (Some v) ≡ Leaf c → Runs ks c (after (within limit) o h)
  run-goes-on ks b c h o v x asks found makes =
      record { ended = x.ended; reached = run-takes Copies u (within limit) (opening_state u input turns r) ks b h o v (Leaf c) x.ended x.reached asks found makes }

  -- it starts a par: the left side runs, and the right one is kept aside
  pub run-starts-par : (ks : List (Aside ℕ NoMark)) (b c : Branch) (p : Blocks) (x y : Branch) (h : Cells) (o : Ask) (v : ℕ) → Runs ks b h → leaf_op (worded Copies u) b (stage b) ≡ Some o → find (within limit) o h ≡ Found v
      → leaf_on (worded Copies u) b (stage b) (Some v) ≡ Fork c p (Leaf x) (Leaf y) → Runs (RightAside c p y ∷ ks) x (after (within limit) o h)
  run-starts-par ks b c p x y h o v z asks found makes =
      record { ended = z.ended; reached = run-takes Copies u (within limit) (opening_state u input turns r) ks b h o v (Fork c p (Leaf x) (Leaf y)) z.ended z.reached asks found makes }

  -- the left side has ended: the right one runs
  pub run-turns-right : (ks : List (Aside ℕ NoMark)) (c : Branch) (p : Blocks) (x y : Branch) (h : Cells) (f : Final ℕ) → Runs (RightAside c p y ∷ ks) x h → over (stage x) ≡ Some f → Runs (LeftAside c p x ∷ ks) y h
  run-turns-right ks c p x y h f z ended = record { ended = ((f, ended), z.ended); reached = z.reached }

  -- both sides have ended: the parent goes on, or has ended
  pub run-is-joined : (ks : List (Aside ℕ NoMark)) (c d : Branch) (p : Blocks) (x y : Branch) (h : Cells) (f g : Final ℕ) → Runs (LeftAside c p x ∷ ks) y h → over (stage x) ≡ Some f → over (stage y) ≡ Some g
      → resumed (worded Copies u) c (join_of (worded Copies u) c p f g) ≡ Leaf d → Runs ks d h
  run-is-joined ks c d p x y h f g z left right makes =
      record { ended = z.ended.1; reached = run-joins Copies u (within limit) (opening_state u input turns r) ks c p x y h f g (Leaf d) z.ended.1 z.reached left right makes }

  -- ---------- turns ----------
  -- the branch that runs has no more turns than the run began with
  pub run-has-turns : (ks : List (Aside ℕ NoMark)) (b : Branch) (h : Cells) → Runs ks b h → b.turns ≤ turns
  run-has-turns ks b h x = held-turns Copies u (within limit) input turns r ks (Leaf b) (state ks b h) refl x.reached

  -- nor have both sides of a par
  pub run-has-both : (ks : List (Aside ℕ NoMark)) (c : Branch) (p : Blocks) (x y : Branch) (h : Cells) → Runs (LeftAside c p x ∷ ks) y h → x.turns + y.turns ≤ turns
  run-has-both ks c p x y h z = held-turns Copies u (within limit) input turns r ks (Fork c p (Leaf x) (Leaf y)) (state (LeftAside c p x ∷ ks) y h) refl z.reached

  module _ (checked : IsChecked u) (opens : OpensOnWords u limit input r) where
    -- the branch that runs isn't stuck
    pub run-is-lively : (ks : List (Aside ℕ NoMark)) (b : Branch) (h : Cells) → Runs ks b h → over (stage b) ≡ None → turn_op (worded Copies u) (next_turn (worded Copies u) b) ≢ None
    run-is-lively ks b h x due = held-lively u limit checked input turns r opens ks b (state ks b h) x.ended refl x.reached due

    -- and what it asks lies in the heap
    pub run-asks-in-heap : (ks : List (Aside ℕ NoMark)) (b : Branch) (h : Cells) (o : Ask) → Runs ks b h → leaf_op (worded Copies u) b (stage b) ≡ Some o → IsInHeap o h
    run-asks-in-heap ks b h o x asks = held-stores u limit checked input turns r opens ks b (state ks b h) o x.ended refl x.reached asks

    -- ---------- the end ----------
    -- what is reported of the root that has ended is told
    pub run-tells-end : (b : Branch) (h : Cells) (f : Final ℕ) (ws : List ℕ) (o : Outcome) → Runs [] b h → over (stage b) ≡ Some f → h ≡ cells_of ws → IsReport turns f ws (root_word input) o → Tells (outcome u input turns limit) o
    run-tells-end b h f ws o x ended heap report = ended-tells u limit checked input turns r opens (state [] b h) f ws o x.reached ended heap report

    -- and a full heap, where an object is refused to the branch that runs
    pub run-tells-full : (ks : List (Aside ℕ NoMark)) (b : Branch) (h : Cells) (a : Ask) (o : Outcome) → Runs ks b h → leaf_op (worded Copies u) b (stage b) ≡ Some a → find (within limit) a h ≡ Refused → IsFull o → Tells (outcome u input turns limit) o
    run-tells-full ks b h a o x asks refused full = held-full-tells u limit checked input turns r opens ks b (state ks b h) a o x.ended refl x.reached asks refused full
