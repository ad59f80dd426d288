-- Each turn and each going on of a par leaves less to do.
use Rattle.std.proofs.Common.{◌≡◌, ℕ, ◌+◌, ◌-◌, ◌/◌, ◌<◌, List, [], ◌∷◌, ◌++◌, Option, Some, None, ◌⊎◌, inl, inr, refl, ap, ◌∙◌, arith}
use Rattle.perm_tree.specs.declared.bodies.Action.{Action}
use Rattle.perm_tree.specs.declared.bodies.Action.TheVariants as actions
use Rattle.perm_tree.specs.declared.bodies.Bodies.{Bodies}
use Rattle.perm_tree.specs.declared.bodies.Step.{Step}
use Rattle.perm_tree.specs.declared.bodies.Sides.{Sides}
use Rattle.perm_step.specs.declared.alone.Run.{Run}
use Rattle.perm_step.specs.declared.alone.Waiting.{Waiting}
use Rattle.perm_step.specs.declared.alone.Waiting.TheVariants.{ForLeft, ForRight}
use Rattle.perm_step.specs.declared.control.Ending.{Ending}
use Rattle.perm_step.specs.declared.control.Leaf as leaves
use Rattle.perm_step.specs.declared.pars.Final.{Final}
use Rattle.perm_step.specs.declared.pars.Final.TheVariants as finals
use Rattle.perm_step.specs.LeafMoves.{Proceeds}
use Rattle.perm_step.specs.ParMoves.{IsWaiting, JoinsBy, Parts}
use Rattle.perm_step.specs.Runs.{turns_kept, turnings, weight, GoesOn}
use Rattle.perm_step.specs.StepMoves.{Leaves, Moves, with_into}
use Rattle.perm_step.specs.Working.{Working}

-- ---------- turns ----------
into-turns : (c : Working) (x : Option ℕ) (w : ℕ) → (with_into c x w).turns ≡ c.turns
into-turns c None w = refl
into-turns c (Some x) w = refl

-- what a step leads to has the turns that are left
pub moves-turns : (b : Bodies) (next : ℕ) (old : Working) (a : Action) (word : ℕ) (new : Working) → Moves b next old a word new → new.turns ≡ old.turns
moves-turns b next old (actions.Declare x) word new is = ap (λ (c : Working). c.turns) is
moves-turns b next old (actions.Assign x a) word new (w, given, is) = ap (λ (c : Working). c.turns) is
moves-turns b next old (actions.LoadField x y f) word new is = ap (λ (c : Working). c.turns) is
moves-turns b next old (actions.LoadLength x y) word new (r, n, given, long, is) = ap (λ (c : Working). c.turns) is
moves-turns b next old (actions.LoadItem x y e) word new is = ap (λ (c : Working). c.turns) is
moves-turns b next old (actions.TakeField x y f) word new is = ap (λ (c : Working). c.turns) is
moves-turns b next old (actions.NewObject x k n) word new is = ap (λ (c : Working). c.turns) is
moves-turns b next old (actions.NewArray x e) word new is = ap (λ (c : Working). c.turns) is
moves-turns b next old (actions.StoreField y f a) word new is = ap (λ (c : Working). c.turns) is
moves-turns b next old (actions.StoreItem y i e) word new is = ap (λ (c : Working). c.turns) is
moves-turns b next old (actions.Invoke v) word new is = ap (λ (c : Working). c.turns) is.after
moves-turns b next old (actions.Print e) word new (w, given, is) = ap (λ (c : Working). c.turns) is
moves-turns b next old (actions.If e other) word new (w, given, is) = ap (λ (c : Working). c.turns) is
moves-turns b next old (actions.While e first) word new (w, given, is) = ap (λ (c : Working). c.turns) is
moves-turns b next old (actions.Par first second sides) word new is = absurd is
moves-turns b next old actions.Recover word new is = ap (λ (c : Working). c.turns) is
moves-turns b next old (actions.Give y x) word new (w, given, is) = ap (λ (c : Working). c.turns) is
moves-turns b next old (actions.Return a) word new (w, given, left) = go left
  where
    go : Leaves b w old new → new.turns ≡ old.turns
    go l = ap (λ (c : Working). c.turns) l.after ∙ into-turns (record old { base = l.last.base; vars = _ }) l.call.into w
moves-turns b next old actions.End word new is = absurd is

-- a turn is spent
pub proceeds-turns : (b : Bodies) (s : Step) (word : ℕ) (old new : leaves.Leaf) → Proceeds b s word old new → new.control.turns ≡ old.control.turns - 1
proceeds-turns b s word old new (inl (ending, moves)) = moves-turns b s.next (record old.control { turns = old.control.turns - 1 }) s.action word new.control moves
proceeds-turns b s word old new (inr (e, stops, is)) = ap (λ (l : leaves.Leaf). l.control.turns) is

-- ---------- pars that wait ----------
pub turns-kept-more : (ws : List Waiting) (x : Waiting) → turns_kept (ws ++ x ∷ []) ≡ turns_kept ws + turns_kept (x ∷ [])
turns-kept-more [] (ForLeft p r) = omega arith
turns-kept-more [] (ForRight p l) = omega arith
turns-kept-more (ForLeft p r ∷ ws) x = let more = turns-kept-more ws x in omega (arith, more)
turns-kept-more (ForRight p l ∷ ws) x = let more = turns-kept-more ws x in omega (arith, more)

pub turnings-more : (ws : List Waiting) (x : Waiting) → turnings (ws ++ x ∷ []) ≡ turnings ws + turnings (x ∷ [])
turnings-more [] (ForLeft p r) = omega arith
turnings-more [] (ForRight p l) = omega arith
turnings-more (ForLeft p r ∷ ws) x = let more = turnings-more ws x in omega (arith, more)
turnings-more (ForRight p l ∷ ws) x = let more = turnings-more ws x in omega (arith, more)

-- ---------- joins ----------
-- the parent has both sides' turns
pub joined-turns : (next : ℕ) (sides : Sides) (left right old new : Working) (x y : Final) (ending : Option Ending) → JoinsBy next sides left right old new x y ending → new.turns ≡ left.turns + right.turns
joined-turns next sides left right old new (finals.Failed e) (finals.Failed f) ending j = ap (λ (c : Working). c.turns) j.1
joined-turns next sides left right old new (finals.Failed e) finals.Fine ending j = ap (λ (c : Working). c.turns) j.1
joined-turns next sides left right old new (finals.Failed e) (finals.Returned w) ending j = ap (λ (c : Working). c.turns) j.1
joined-turns next sides left right old new finals.Fine (finals.Failed f) ending j = ap (λ (c : Working). c.turns) j.1
joined-turns next sides left right old new (finals.Returned v) (finals.Failed f) ending j = ap (λ (c : Working). c.turns) j.1
joined-turns next sides left right old new finals.Fine finals.Fine ending j = ap (λ (c : Working). c.turns) j.1
joined-turns next sides left right old new finals.Fine (finals.Returned w) ending j = ap (λ (c : Working). c.turns) j.1
joined-turns next sides left right old new (finals.Returned v) finals.Fine ending j = ap (λ (c : Working). c.turns) j.1
joined-turns next sides left right old new (finals.Returned v) (finals.Returned w) ending j = ap (λ (c : Working). c.turns) j.1

-- it goes on, or stands where it stood
pub joined-at : (next : ℕ) (sides : Sides) (left right old new : Working) (x y : Final) (ending : Option Ending) → JoinsBy next sides left right old new x y ending → (ending ≡ None) ⊎ (new.at ≡ old.at)
joined-at next sides left right old new (finals.Failed e) (finals.Failed f) ending j = inr (ap (λ (c : Working). c.at) j.1)
joined-at next sides left right old new (finals.Failed e) finals.Fine ending j = inr (ap (λ (c : Working). c.at) j.1)
joined-at next sides left right old new (finals.Failed e) (finals.Returned w) ending j = inr (ap (λ (c : Working). c.at) j.1)
joined-at next sides left right old new finals.Fine (finals.Failed f) ending j = inr (ap (λ (c : Working). c.at) j.1)
joined-at next sides left right old new (finals.Returned v) (finals.Failed f) ending j = inr (ap (λ (c : Working). c.at) j.1)
joined-at next sides left right old new finals.Fine finals.Fine ending j = inl j.0
joined-at next sides left right old new finals.Fine (finals.Returned w) ending j = inl j.0
joined-at next sides left right old new (finals.Returned v) finals.Fine ending j = inl j.0
joined-at next sides left right old new (finals.Returned v) (finals.Returned w) ending j = inl j.0

-- ---------- weights ----------
-- a turn makes the run lighter
pub turn-lighter : (old new : Run) → new.waiting.items ≡ old.waiting.items → 0 < old.leaf.control.turns → new.leaf.control.turns ≡ old.leaf.control.turns - 1 → weight new < weight old
turn-lighter old new waiting due turns =
    let kept : turns_kept new.waiting.items ≡ turns_kept old.waiting.items = ap turns_kept waiting in
    let left : turnings new.waiting.items ≡ turnings old.waiting.items = ap turnings waiting in
    omega (arith, kept, left, due, turns)

halves : (t : ℕ) → t - t / 2 + t / 2 ≡ t
halves t = omega arith

-- so does the start of a par
pub start-lighter : (old new : Run) (parent right : Working) (first second : ℕ) → new.waiting.items ≡ old.waiting.items ++ ForLeft parent right ∷ [] → 0 < old.leaf.control.turns → Parts first second old.leaf.control parent new.leaf.control right → weight new < weight old
start-lighter old new parent right first second waiting due parts =
    let more = turns-kept-more old.waiting.items (ForLeft parent right) in
    let again = turnings-more old.waiting.items (ForLeft parent right) in
    let kept : turns_kept new.waiting.items ≡ turns_kept old.waiting.items + (right.turns + 0) = ap turns_kept waiting ∙ more in
    let left : turnings new.waiting.items ≡ turnings old.waiting.items + (2 + 0) = ap turnings waiting ∙ again in
    let t = old.leaf.control.turns in
    let l : new.leaf.control.turns ≡ t - 1 - (t - 1) / 2 = ap (λ (c : Working). c.turns) parts.on_left.is in
    let r : right.turns ≡ (t - 1) / 2 = ap (λ (c : Working). c.turns) parts.on_right.is in
    let both : t - 1 - (t - 1) / 2 + (t - 1) / 2 ≡ t - 1 = halves (t - 1) in
    omega (arith, kept, left, l, r, both, due)

-- and the going on of a par
pub go-lighter : (b : Bodies) (f : Final) (before old new : Run) (front : List Waiting) (x : Waiting) → before.waiting.items ≡ front ++ x ∷ [] → old.waiting.items ≡ front → old.leaf ≡ before.leaf → ((parent : Working) (left : leaves.Leaf) → x ≡ ForRight parent left → IsWaiting b parent)
    → GoesOn b f x old new → weight new < weight before
go-lighter b f before old new front x popped rest leaf waits goes = by x popped waits goes
  where
    turns : old.leaf.control.turns ≡ before.leaf.control.turns
    turns = ap (λ (l : leaves.Leaf). l.control.turns) leaf

    by : (x : Waiting) → before.waiting.items ≡ front ++ x ∷ [] → ((parent : Working) (left : leaves.Leaf) → x ≡ ForRight parent left → IsWaiting b parent) → GoesOn b f x old new → weight new < weight before
    by (ForLeft parent right) popped waits (now, waiting, heap) =
        let k1 = ap turns_kept popped ∙ turns-kept-more front (ForLeft parent right) in
        let n1 = ap turnings popped ∙ turnings-more front (ForLeft parent right) in
        let k2 = ap turns_kept (waiting ∙ ap (λ (xs : List Waiting). xs ++ ForRight parent old.leaf ∷ []) rest) ∙ turns-kept-more front (ForRight parent old.leaf) in
        let n2 = ap turnings (waiting ∙ ap (λ (xs : List Waiting). xs ++ ForRight parent old.leaf ∷ []) rest) ∙ turnings-more front (ForRight parent old.leaf) in
        let t : new.leaf.control.turns ≡ right.turns = ap (λ (l : leaves.Leaf). l.control.turns) now in
        omega (arith, k1, n1, k2, n2, t, turns)
    by (ForRight parent left) popped waits (y, ends, joined, ending, joins, now, waiting, heap) =
        let w = waits parent left refl in
        let k1 = ap turns_kept popped ∙ turns-kept-more front (ForRight parent left) in
        let n1 = ap turnings popped ∙ turnings-more front (ForRight parent left) in
        let k2 = ap turns_kept (waiting ∙ rest) in
        let n2 = ap turnings (waiting ∙ rest) in
        let t : new.leaf.control.turns ≡ joined.turns = ap (λ (l : leaves.Leaf). l.control.turns) now in
        let both = joined-turns w.step.next w.sides left.control old.leaf.control parent joined y f ending (joins w) in
        omega (arith, k1, n1, k2, n2, t, turns, both)
