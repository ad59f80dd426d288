-- Each event of a run on one thread is one more of the left-first run on words, whatever is kept aside round the branch that runs.
use Rattle.std.proofs.Common.{◌≡◌, ℕ, Bool, Option, Some, None, List, ◌∷◌, refl, sym, ap, ◌∙◌, subst}
use Rattle.perm_tree.specs.Code.{UnitCode}
use Rattle.perm_meaning.specs.Custody.{Custody}
use Rattle.perm_meaning.specs.Effects.{Tick}
use Rattle.perm_meaning.specs.Machine.{Machine, Leaf, Fork, Blocks, Way, Here, Final, final, stage, look, fill, leaf_op, leaf_on, resumed, join_of, if_both_over}
use Rattle.perm_meaning.specs.Steps.{Lone, Run, KeptRight, KeptLeft, AreOver, Found, Leads, lone_task, lone_way, lone_on, turned, turned_if, leftmost, leftmost_of, careful, asked_with_care, granted}
use Rattle.perm_meaning.specs.WordHeap.{Ask, Branch, Cells, NoMark, State, Task, worded, memory, find, after}
use Rattle.perm_meaning.proofs.Holder.{holder-goes-left-first}
use Rattle.perm_meaning.proofs.Leads.{lead, one}
use Rattle.perm_core.proofs.Pieces.HeldEvents.{lone-event, lone-over}
use Rattle.perm_core.proofs.Pieces.WithoutEvents.{turned-task}
use Rattle.perm_step.specs.Holding.{Aside, LeftAside, tree_around, AreEnded}
use Rattle.perm_step.proofs.WholeRuns.RunHeld.{lead-around}

-- a holder that turns keeps aside ended left sides alone
turned-over : {V G : Type 0} (x : Lone V G) → AreOver x → AreOver (turned x)
turned-over (Run b) h = tt
turned-over {V} {G} (KeptRight b p l r) h = go (final (lone_task l)) (turned l) (turned-over l h) (ap final (turned-task l))
  where
    go : (f : Option (Final V)) (z : Lone V G) → AreOver z → final (lone_task z) ≡ f → AreOver (turned_if f b p z r)
    go None z h e = h
    go (Some f) (Run c) h e = ((f, e), tt)
    go (Some f) (KeptRight c q x y) h e = h
    go (Some f) (KeptLeft c q x y) h e = h
turned-over (KeptLeft b p l r) h = (h.0, turned-over r h.1)

-- so does one after its event
pub goes-over : {V G O : Type 0} (m : Machine V G O) (x : Lone V G) (v : Option V) → AreOver x → AreOver (turned (lone_on m x v))
goes-over m x v h = turned-over (lone_on m x v) (lone-over m x v h)

module _ (c : Custody) (u : UnitCode) (fits : ℕ → Bool) where
  -- a tree with its heap
  abbrev pub state_of : Task → Cells → State
  state_of t h = record { task = t; heap = h }

  -- a tree leads on by an event at its leftmost node
  event-leads : (t : Task) (h : Cells) (w : Way) (o : Ask) (v : ℕ) → leftmost t ≡ w → look (worded c u) w t ≡ Some o → find fits o h ≡ Found v
      → Leads (worded c u) memory fits (state_of t h) (state_of (fill (worded c u) w t (Some v)) (after fits o h))
  event-leads t h w o v first asks found =
      one (worded c u) memory fits (state_of t h) (state_of (fill (worded c u) w t (Some v)) (after fits o h))
      (ap (careful (worded c u) memory fits (state_of t h)) first
      ∙ ap (asked_with_care (worded c u) memory fits (state_of t h) w) asks
      ∙ ap (granted (worded c u) memory fits (state_of t h) w o) found)

  module _ (first : State) where
    -- ---------- a branch within what is kept aside ----------
    -- the turn of the branch that runs: what it makes of the branch stands in its place
    pub run-takes : (ks : List (Aside ℕ NoMark)) (b : Branch) (h : Cells) (o : Ask) (v : ℕ) (t : Task) → AreEnded ks → Leads (worded c u) memory fits first (state_of (tree_around (Leaf b) ks) h)
        → leaf_op (worded c u) b (stage b) ≡ Some o → find fits o h ≡ Found v → leaf_on (worded c u) b (stage b) (Some v) ≡ t → Leads (worded c u) memory fits first (state_of (tree_around t ks) (after fits o h))
    run-takes ks b h o v t ended so_far asks found makes =
        lead (worded c u) memory fits first (state_of (tree_around (Leaf b) ks) h) (state_of (tree_around t ks) (after fits o h)) so_far
        (lead-around (worded c u) memory fits ks (state_of (Leaf b) h) (state_of t (after fits o h)) ended
        (subst (λ z. Leads (worded c u) memory fits (state_of (Leaf b) h) (state_of z (after fits o h))) makes
        (event-leads (Leaf b) h Here o v refl asks found)))

    -- the join of two ended sides
    join-leads : (b : Branch) (p : Blocks) (l r : Task) (h : Cells) (x y : Final ℕ) → final l ≡ Some x → final r ≡ Some y
        → Leads (worded c u) memory fits (state_of (Fork b p l r) h) (state_of (resumed (worded c u) b (join_of (worded c u) b p x y)) h)
    join-leads b p l r h x y left right =
        subst (λ z. Leads (worded c u) memory fits (state_of (Fork b p l r) h) (state_of z h))
        (ap (λ z. if_both_over z (final r) (Fork b p l r) (λ x y. resumed (worded c u) b (join_of (worded c u) b p x y))) left
        ∙ ap (λ z. if_both_over (Some x) z (Fork b p l r) (λ x y. resumed (worded c u) b (join_of (worded c u) b p x y))) right)
        (event-leads (Fork b p l r) h Here Tick 0
        (ap (λ z. leftmost_of z (final r) (leftmost l) (leftmost r)) left ∙ ap (λ z. leftmost_of (Some x) z (leftmost l) (leftmost r)) right)
        (ap (λ z. if_both_over z (final r) None (λ x y. Some Tick)) left ∙ ap (λ z. if_both_over (Some x) z None (λ x y. Some Tick)) right)
        refl)

    -- both sides have ended, the left one of which is kept aside: what the join makes of the parent stands in its place
    pub run-joins : (ks : List (Aside ℕ NoMark)) (b : Branch) (p : Blocks) (l r : Branch) (h : Cells) (x y : Final ℕ) (t : Task) → AreEnded ks → Leads (worded c u) memory fits first (state_of (tree_around (Leaf r) (LeftAside b p l ∷ ks)) h)
        → final {G = NoMark} (Leaf l) ≡ Some x → final {G = NoMark} (Leaf r) ≡ Some y → resumed (worded c u) b (join_of (worded c u) b p x y) ≡ t → Leads (worded c u) memory fits first (state_of (tree_around t ks) h)
    run-joins ks b p l r h x y t ended so_far left right makes =
        lead (worded c u) memory fits first (state_of (tree_around (Leaf r) (LeftAside b p l ∷ ks)) h) (state_of (tree_around t ks) h) so_far
        (lead-around (worded c u) memory fits ks (state_of (Fork b p (Leaf l) (Leaf r)) h) (state_of t h) ended
        (subst (λ z. Leads (worded c u) memory fits (state_of (Fork b p (Leaf l) (Leaf r)) h) (state_of z h)) makes
        (join-leads b p (Leaf l) (Leaf r) h x y left right)))

    -- ---------- any holder ----------
    -- the event of a holder, and its turn to the right side after it
    pub run-goes : (x : Lone ℕ NoMark) (h : Cells) (o : Ask) (v : ℕ) → AreOver x → Leads (worded c u) memory fits first (state_of (lone_task x) h) → look (worded c u) (lone_way x) (lone_task x) ≡ Some o → find fits o h ≡ Found v
        → Leads (worded c u) memory fits first (state_of (lone_task (turned (lone_on (worded c u) x (Some v)))) (after fits o h))
    run-goes x h o v over so_far asks found =
        lead (worded c u) memory fits first (state_of (lone_task x) h) (state_of (lone_task (turned (lone_on (worded c u) x (Some v)))) (after fits o h)) so_far
        (subst (λ z. Leads (worded c u) memory fits (state_of (lone_task x) h) (state_of z (after fits o h)))
        (sym (turned-task (lone_on (worded c u) x (Some v)) ∙ lone-event (worded c u) x (Some v) o asks))
        (event-leads (lone_task x) h (lone_way x) o v (holder-goes-left-first (worded c u) x o over asks) asks found))
