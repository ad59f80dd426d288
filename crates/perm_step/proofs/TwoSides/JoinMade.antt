-- What the join of two sides makes of the parent that waits, on the word machine.
use Rattle.std.proofs.Common.{◌≡◌, ℕ, zero, suc, ℤ, ◌+◌, ◌≤◌, List, [], ◌∷◌, ◌++◌, length, take, drop, Option, Some, None, refl, sym, ap, subst, ◌∙◌, arith}
use Rattle.perm_tree.specs.declared.bodies.Bodies.{Bodies}
use Rattle.perm_tree.specs.declared.bodies.Sides.{Sides}
use Rattle.perm_tree.specs.Code.{Code, UnitCode}
use Rattle.perm_tree.specs.Links.{AreBodiesOf, IsLinkedBy, IsPar, Spot, StandsAt}
use Rattle.perm_tree.specs.VarSets.{member}
use Rattle.perm_meaning.specs.Custody.{Copies, merged, writes_l, writes_r}
use Rattle.perm_meaning.specs.Machine as machines
use Rattle.perm_meaning.specs.Machine.{Fine, Leaf as MachineLeaf, resumed, worse}
use Rattle.perm_meaning.specs.WordHeap.{Branch, Task, worded}
use Rattle.perm_step.specs.declared.control.Ending.{Ending}
use Rattle.perm_step.specs.declared.control.Ending.TheVariants as endings
use Rattle.perm_step.specs.declared.control.Failure.{Failure}
use Rattle.perm_step.specs.declared.control.Failure.TheVariants as failures
use Rattle.perm_step.specs.declared.control.Leaf.{Leaf}
use Rattle.perm_step.specs.declared.pars.Final.{Final}
use Rattle.perm_step.specs.declared.pars.Final.TheVariants as finals
use Rattle.perm_step.specs.Events.{IsSound, JoinMakes}
use Rattle.perm_step.specs.ParMoves.{IsWaiting, JoinsBy, with_turns, worse_of}
use Rattle.perm_step.specs.Standing.{after_par, below_of, blocks_of, branch_at, calls_of, failure_of, leaf_branch, parent_branch}
use Rattle.perm_step.specs.Working.{Working, locals}
use Rattle.perm_step.proofs.TwoSides.JoinMerging.{length-merged, merged-same}
use Rattle.perm_step.proofs.WordMachine.Moves.{joins}
use Rattle.perm_step.proofs.Tests.TestSound.{opens-kept, sound-moves}
use Rattle.perm_step.proofs.Tests.TestTurns.{below-calls, own_of, runs-as}

-- ---------- lists ----------
-- what stands from a base on, where it is another list of the same length
pub drop-joined : (base : ℕ) (vs ws : List ℕ) → length ws ≡ length (drop base vs) → drop base (take base vs ++ ws) ≡ ws
drop-joined zero vs ws same = refl
drop-joined (suc base) [] [] same = refl
drop-joined (suc base) [] (x ∷ ws) same = absurd (omega arith)
drop-joined (suc base) (v ∷ vs) ws same = drop-joined base vs ws same

-- what stands below it stays
pub take-joined : (base : ℕ) (vs ws : List ℕ) → length ws ≡ length (drop base vs) → take base (take base vs ++ ws) ≡ take base vs
take-joined zero vs ws same = refl
take-joined (suc base) [] [] same = refl
take-joined (suc base) [] (x ∷ ws) same = absurd (omega arith)
take-joined (suc base) (v ∷ vs) ws same = ap (λ l. v ∷ l) (take-joined base vs ws same)

-- which of two failures the par has
worse-same : (e f : Failure) → worse (failure_of e) (failure_of f) ≡ failure_of (worse_of e f)
worse-same e (failures.Trap k at) = refl
worse-same e failures.NoTurns = refl
worse-same e failures.NoRoom = refl

module _ (u : UnitCode) (b : Bodies) (w : AreBodiesOf u b) (m : ℕ) (old new : Working) (ending : Option Ending) (sound : IsSound u w.spot b m old) (p : IsWaiting b old) where
  -- the parent after the join
  abbrev made : Leaf
  made = record { control = new; ending = ending }

  -- the link of the par
  abbrev link : IsPar (λ q here. StandsAt w.spot b.steps q here) b u (w.spot old.at) p.step.span p.step.next p.first p.second p.place
  link = subst (λ a. IsLinkedBy (λ q here. StandsAt w.spot b.steps q here) b u (w.spot old.at) p.step.span p.step.next a) p.par (w.linked old.at p.step p.there).0

  -- its method
  method : (w.spot p.step.next).routine ≡ (w.spot old.at).routine
  method = ap (λ (x : Spot). x.routine) link.after.1

  -- ---------- a par that fails ----------
  fails-as : (t : ℕ) (printed : List ℤ) (f : machines.Failure) (e : Failure) → f ≡ failure_of e → ending ≡ Some (endings.Failed e) → new ≡ record old { turns = t; printed = printed; room = new.room }
      → resumed (worded Copies u) (parent_branch w.spot old) (machines.Failed f t printed) ≡ MachineLeaf (leaf_branch w.spot made)
  fails-as t printed f e same ends is =
      ap (λ f. resumed (worded Copies u) (parent_branch w.spot old) (machines.Failed f t printed)) same
      ∙ (λ i. MachineLeaf (leaf_branch w.spot (record { control = sym is i; ending = sym ends i })))

  -- ---------- a par that goes on ----------
  module _ (t : ℕ) (printed : List ℤ) (vars words : List ℕ) (on : ending ≡ None) (is : new ≡ record old { at = p.step.next; vars = vars; turns = t; printed = printed; room = new.room }) (held : drop old.base vars ≡ words)
      (below : take old.base vars ≡ take old.base old.vars) where
    abbrev next : Working
    next = record old { at = p.step.next; vars = vars; turns = t; printed = printed; room = new.room }

    -- the machine's parent goes on as this one
    goes-on : resumed (worded Copies u) (parent_branch w.spot old) (Fine words t printed) ≡ MachineLeaf (leaf_branch w.spot made)
    goes-on =
        (λ i. resumed (worded Copies u) (record (parent_branch w.spot old) { code = after_par (link.code i) }) (Fine words t printed))
        ∙ joins u (own_of u w.spot old) t (w.spot old.at).within (below_of w.spot old) (below-calls u w.spot old) link.rest words t printed
        ∙ (λ i. MachineLeaf (branch_at (sym link.after.1 i) (calls_of w.spot (sym (opens-kept old next refl refl below) i)) (sym held i) old.depth printed t))
        ∙ ap (λ (x : Branch). let l : Task = MachineLeaf x in l) (runs-as u w.spot old next made on is)

    -- with as many variables as before it is sound
    goes-sound : length words ≡ length (locals old) → IsSound u w.spot b m new
    goes-sound count = subst (IsSound u w.spot b m) (sym is) (sound-moves u w.spot b m old next sound link.after.0 method refl refl (ap (λ (l : List ℕ). length l) held ∙ count) below refl)

module _ (u : UnitCode) (b : Bodies) (w : AreBodiesOf u b) (m : ℕ) (old left right new : Working) (ending : Option Ending) (sound : IsSound u w.spot b m old) (p : IsWaiting b old) where
  -- what the join makes of the parent is what it makes of it on the machine
  abbrev IsMade : Final → Final → Type 0
  IsMade x y = JoinMakes u w.spot old left x right y (MachineLeaf (leaf_branch w.spot (record { control = new; ending = ending })))

  -- a par of which one side has failed
  abbrev Failing : List ℤ → Failure → Type 0
  Failing more e = (ending ≡ Some (endings.Failed e)) × (new ≡ with_turns p.step.next p.sides left right old new more)

  -- a par whose variables stay
  abbrev Staying : Type 0
  Staying = (ending ≡ None) × (new ≡ record (with_turns p.step.next p.sides left right old new (left.printed ++ right.printed)) { at = p.step.next })

  -- a par of which one side has failed fails on the machine
  fails-so : (more : List ℤ) (e : Failure) (f : machines.Failure) → f ≡ failure_of e → Failing more e
      → resumed (worded Copies u) (parent_branch w.spot old) (machines.Failed f (left.turns + right.turns) (old.printed ++ more)) ≡ MachineLeaf (leaf_branch w.spot (record { control = new; ending = ending }))
  fails-so more e f same (ends, is) = fails-as u b w m old new ending sound p (left.turns + right.turns) (old.printed ++ more) f e same ends is

  -- a par of which no side has failed, and one returns a word, goes on with its variables
  stays : Staying → resumed (worded Copies u) (parent_branch w.spot old) (Fine (locals old) (left.turns + right.turns) (old.printed ++ (left.printed ++ right.printed))) ≡ MachineLeaf (leaf_branch w.spot (record { control = new; ending = ending }))
  stays (on, is) = goes-on u b w m old new ending sound p (left.turns + right.turns) (old.printed ++ (left.printed ++ right.printed)) old.vars (locals old) on is refl refl

  -- it is sound
  stays-sound : Staying → IsSound u w.spot b m new
  stays-sound (on, is) = goes-sound u b w m old new ending sound p (left.turns + right.turns) (old.printed ++ (left.printed ++ right.printed)) old.vars (locals old) on is refl refl refl

  -- ---------- both sides went well ----------
  module _ (lefts : length (locals left) ≡ length (locals old)) (rights : length (locals right) ≡ length (locals old)) where
    -- the variables that are merged
    abbrev words : List ℕ
    words = merged (member p.sides.left) (member p.sides.right) (locals old) (locals left) (locals right)

    -- they are as many as before
    count : length words ≡ length (locals old)
    count = length-merged (member p.sides.left) (member p.sides.right) (locals old) (locals left) (locals right) lefts rights

    -- the machine merges what the blocks write
    same-words : length (locals old) ≤ 256 → (let blocks = blocks_of (w.spot old.at).code in merged (writes_l blocks) (writes_r blocks) (locals old) (locals left) (locals right)) ≡ words
    same-words few =
        let l = link u b w m old new ending sound p in
        let sides : l.sides ≡ p.sides = cc (l.there, p.written) in
        ap (λ (x : Code). let blocks = blocks_of x in merged (writes_l blocks) (writes_r blocks) (locals old) (locals left) (locals right)) l.code
        ∙ sym (merged-same 256 (member l.sides.left) (member l.sides.right) _ _ (locals old) (locals left) (locals right) few lefts l.writes.left_writes l.writes.right_writes)
        ∙ ap (λ (x : Sides). merged (member x.left) (member x.right) (locals old) (locals left) (locals right)) sides

    -- with them the parent goes on
    both-made : length (locals old) ≤ 256 → JoinsBy p.step.next p.sides left right old new finals.Fine finals.Fine ending → IsMade finals.Fine finals.Fine
    both-made few (on, is) =
        ap (λ (vs : List ℕ). resumed (worded Copies u) (parent_branch w.spot old) (Fine vs (left.turns + right.turns) (old.printed ++ (left.printed ++ right.printed)))) (same-words few)
        ∙ goes-on u b w m old new ending sound p (left.turns + right.turns) (old.printed ++ (left.printed ++ right.printed)) (take old.base old.vars ++ words) words on is (drop-joined old.base old.vars words count) (take-joined old.base old.vars words count)

    -- it is sound
    both-sound : JoinsBy p.step.next p.sides left right old new finals.Fine finals.Fine ending → IsSound u w.spot b m new
    both-sound (on, is) =
        goes-sound u b w m old new ending sound p (left.turns + right.turns) (old.printed ++ (left.printed ++ right.printed)) (take old.base old.vars ++ words) words on is (drop-joined old.base old.vars words count) (take-joined old.base old.vars words count) count

  -- ---------- however they ended ----------
  -- the join makes of the parent what it makes of it on the machine
  pub join-makes : (x y : Final) → (x ≡ finals.Fine → length (locals left) ≡ length (locals old)) → (y ≡ finals.Fine → length (locals right) ≡ length (locals old)) → length (locals old) ≤ 256 → JoinsBy p.step.next p.sides left right old new x y ending → IsMade x y
  join-makes (finals.Failed e) (finals.Failed f) lefts rights few by = fails-so left.printed (worse_of e f) (worse (failure_of e) (failure_of f)) (worse-same e f) by
  join-makes (finals.Failed e) finals.Fine lefts rights few by = fails-so left.printed e (failure_of e) refl by
  join-makes (finals.Failed e) (finals.Returned v) lefts rights few by = fails-so left.printed e (failure_of e) refl by
  join-makes finals.Fine (finals.Failed f) lefts rights few by = fails-so (left.printed ++ right.printed) f (failure_of f) refl by
  join-makes (finals.Returned v) (finals.Failed f) lefts rights few by = fails-so (left.printed ++ right.printed) f (failure_of f) refl by
  join-makes finals.Fine finals.Fine lefts rights few by = both-made (lefts refl) (rights refl) few by
  join-makes finals.Fine (finals.Returned v) lefts rights few by = stays by
  join-makes (finals.Returned v) finals.Fine lefts rights few by = stays by
  join-makes (finals.Returned v) (finals.Returned x) lefts rights few by = stays by

  -- a par that has failed doesn't go on
  failed-not : (more : List ℤ) (e : Failure) → Failing more e → ending ≡ None → ⊥
  failed-not more e by on = let clash : Some (endings.Failed e) ≡ None = sym by.0 ∙ on in let no : ⊥ = cc in no

  -- where the parent goes on, it is sound
  pub join-sound : (x y : Final) → (x ≡ finals.Fine → length (locals left) ≡ length (locals old)) → (y ≡ finals.Fine → length (locals right) ≡ length (locals old)) → JoinsBy p.step.next p.sides left right old new x y ending → ending ≡ None → IsSound u w.spot b m new
  join-sound (finals.Failed e) (finals.Failed f) lefts rights by on = absurd (failed-not left.printed (worse_of e f) by on)
  join-sound (finals.Failed e) finals.Fine lefts rights by on = absurd (failed-not left.printed e by on)
  join-sound (finals.Failed e) (finals.Returned v) lefts rights by on = absurd (failed-not left.printed e by on)
  join-sound finals.Fine (finals.Failed f) lefts rights by on = absurd (failed-not (left.printed ++ right.printed) f by on)
  join-sound (finals.Returned v) (finals.Failed f) lefts rights by on = absurd (failed-not (left.printed ++ right.printed) f by on)
  join-sound finals.Fine finals.Fine lefts rights by on = both-sound (lefts refl) (rights refl) by
  join-sound finals.Fine (finals.Returned v) lefts rights by on = stays-sound by
  join-sound (finals.Returned v) finals.Fine lefts rights by on = stays-sound by
  join-sound (finals.Returned v) (finals.Returned x) lefts rights by on = stays-sound by
