-- What a simple statement that is no call leaves of its branch.
use Rattle.std.proofs.Common.{◌≡◌, ℕ, ◌+◌, ◌<◌, ◌++◌, ◌∷◌, List, [], drop, take, length, length-set, refl, sym, ap, ◌∙◌, subst, arith}
use Rattle.std.specs.Prelude.{ℤ, pos, slice_set}
use Rattle.std.proofs.lemmas.List.{drop-set-add, take-set-le}
use Rattle.perm_tree.specs.declared.bodies.Action.{Action}
use Rattle.perm_tree.specs.declared.bodies.Action.TheVariants as actions
use Rattle.perm_tree.specs.declared.bodies.Bodies.{Bodies}
use Rattle.perm_tree.specs.BodyTerms.{argument_of, IsActionIn}
use Rattle.perm_tree.specs.Code.{Tie, UnitCode}
use Rattle.perm_tree.specs.Links.{Spot}
use Rattle.perm_meaning.specs.Effects.{GoesOn, into_var, ticks, with_vars}
use Rattle.perm_meaning.specs.Words.{number_in, words as on_words}
use Rattle.perm_step.specs.declared.ask.Ask.{Ask}
use Rattle.perm_step.specs.declared.ask.Ask.TheVariants as asks
use Rattle.perm_step.specs.Events.{IsSound}
use Rattle.perm_step.specs.HeapAsks.{Asks}
use Rattle.perm_step.specs.LeafMoves.{spent}
use Rattle.perm_step.specs.StepMoves.{with_variable, Moves}
use Rattle.perm_step.specs.Working.{Working, locals}
use Rattle.perm_step.proofs.WordMachine.Cells.{clear_same}
use Rattle.perm_step.proofs.SimpleStatements.SimpleEffects.{Effect, IsDoing, IsTold, argument-goes, array-goes, doing-tells, value-goes}
use Rattle.perm_step.proofs.SimpleStatements.SimpleForms.{IsPlain, assigned, effect_at, own_in, worth, load-field, load-item, new-array, new-object, store-field, store-item, take-field}
use Rattle.perm_step.proofs.Tests.TestSound.{sound-moves}

-- ---------- what its effect leaves ----------
module _ (u : UnitCode) (b : Bodies) (tie : Tie) (m : ℕ) (c : Working) (next : ℕ) where
  -- the branch with a variable set is that of the interpreter
  set-is : (x w : ℕ) → assigned u b tie m c x w ≡ own_in m (with_variable c x w)
  set-is x w = ap (λ (vs : List ℕ). record (own_in m c) { vars = vs }) (sym (drop-set-add c.base c.vars x w))

  -- where the next step stands doesn't matter
  told-at : (new left : Working) (word : ℕ) (e : Effect) → new ≡ record left { at = next } → IsTold word (own_in m left) e → IsTold word (own_in m new) e
  told-at new left word e is told = subst (λ (n : Working). IsTold word (own_in m n) e) (sym is) told

  -- what comes into x
  told-into : (a : Action) (q : Ask) (x word : ℕ) (new : Working) → new ≡ record (with_variable c x word) { at = next } → IsDoing q (assigned u b tie m c x) (effect_at u b tie m c a) → IsTold word (own_in m new) (effect_at u b tie m c a)
  told-into a q x word new is doing =
      told-at new (with_variable c x word) word (effect_at u b tie m c a) is (doing-tells q (assigned u b tie m c x) (effect_at u b tie m c a) word (own_in m (with_variable c x word)) doing (set-is x word))

  -- nothing changes
  told-same : (a : Action) (q : Ask) (word : ℕ) (new : Working) → new ≡ record c { at = next } → IsDoing q (λ v. own_in m c) (effect_at u b tie m c a) → IsTold word (own_in m new) (effect_at u b tie m c a)
  told-same a q word new is doing = told-at new c word (effect_at u b tie m c a) is (doing-tells q (λ v. own_in m c) (effect_at u b tie m c a) word (own_in m c) doing refl)

  -- told a word, the effect of a step leaves what the step leaves
  pub moves-plain : (a : Action) (q : Ask) (word : ℕ) (new : Working) → IsPlain a → IsActionIn b u a → Asks b (locals c) c.depth a q → Moves b next c a word new → IsTold word (own_in m new) (effect_at u b tie m c a)
  moves-plain (actions.Declare x) q word new plain inside asked is =
      told-at new c word (effect_at u b tie m c (actions.Declare x)) is (ap (λ (vs : List ℕ). GoesOn (with_vars on_words (own_in m c) vs)) (clear_same (locals c) x))
  moves-plain (actions.Assign x a) q word new plain inside asked (w, given, is) =
      let P : Effect → Type 0 = IsTold word (own_in m (with_variable c x w)) in
      told-at new (with_variable c x w) word (effect_at u b tie m c (actions.Assign x a)) is
      (argument-goes (argument_of b.operations a) (locals c) w (λ v vs. ticks on_words (into_var on_words x vs (own_in m c) v)) P given tt (ap (λ l. GoesOn l) (set-is x w)))
  moves-plain (actions.LoadField x y f) q word new plain inside (at, asked, there) is = told-into (actions.LoadField x y f) (asks.Load at) x word new is (load-field u b tie m c x y f at there)
  moves-plain (actions.LoadLength x y) q word new plain inside asked (r, n, given, len, is) =
      let P : Effect → Type 0 = IsTold word (own_in m (with_variable c x n)) in
      told-at new (with_variable c x n) word (effect_at u b tie m c (actions.LoadLength x y)) is
      (array-goes (locals c) y r n (λ r n. ticks on_words (into_var on_words x (locals c) (own_in m c) (on_words.number (pos n)))) P given len tt (λ base. ap (λ l. GoesOn l) (set-is x n)))
  moves-plain (actions.LoadItem x y e) q word new plain inside (at, i, asked, index, there) is = told-into (actions.LoadItem x y e) (asks.Load at) x word new is (load-item u b tie m c x y e at i index there)
  moves-plain (actions.TakeField x y f) q word new plain inside (at, asked, there) is = told-into (actions.TakeField x y f) (asks.Take at) x word new is (take-field u b tie m c x y f at there)
  moves-plain (actions.NewObject x class fields) q word new plain inside asked is =
      told-into (actions.NewObject x class fields) (asks.Make fields 0) x word new is (new-object u b tie m c x class fields inside)
  moves-plain (actions.NewArray x e) q word new plain inside (n, count, asked, given, made) is =
      told-into (actions.NewArray x e) (asks.Make count count) x word new is (new-array u b tie m c x e n count given made)
  moves-plain (actions.StoreField y f a) q word new plain inside (at, w, asked, given, there) is = told-same (actions.StoreField y f a) (asks.Store at w) word new is (store-field u b tie m c y f a at w given there)
  moves-plain (actions.StoreItem y i e) q word new plain inside (at, k, w, asked, index, given, there) is =
      told-same (actions.StoreItem y i e) (asks.Store at w) word new is (store-item u b tie m c y i e at k w index given there)
  moves-plain (actions.Invoke v) q word new plain inside asked is = absurd plain
  moves-plain (actions.Print e) q word new plain inside asked (w, given, is) =
      let left : Working = record c { printed = c.printed ++ number_in w ∷ [] } in
      told-at new left word (effect_at u b tie m c (actions.Print e)) is
      (value-goes (worth u b tie m c e) w (λ v. ticks on_words (GoesOn (record (own_in m c) { printed = c.printed ++ number_in v ∷ [] }))) (IsTold word (own_in m left)) given tt refl)
  moves-plain (actions.If e other) q word new plain inside asked is = absurd plain
  moves-plain (actions.While e first) q word new plain inside asked is = absurd plain
  moves-plain (actions.Par first second sides) q word new plain inside asked is = absurd plain
  moves-plain actions.Recover q word new plain inside asked is = absurd plain
  moves-plain (actions.Give y x) q word new plain inside asked is = absurd plain
  moves-plain (actions.Return a) q word new plain inside asked is = absurd plain
  moves-plain actions.End q word new plain inside asked is = absurd plain

-- ---------- where it stands next ----------
-- a branch stands at a place of the same method: of the variables those of the callers are as they were, and it has as many of its own
pub record IsNext (c : Working) (next : ℕ) (new : Working) : Type 0 where
  pub vars : List ℕ
  pub printed : List ℤ
  pub after : new ≡ record c { at = next; vars = vars; printed = printed }
  pub callers : take c.base vars ≡ take c.base c.vars
  pub many : length (drop c.base vars) ≡ length (locals c)

module _ (b : Bodies) (c : Working) (next : ℕ) where
  -- after a turn that sets a variable
  pub set-next : (x w : ℕ) (new : Working) → new ≡ record (with_variable c x w) { at = next } → IsNext c next new
  set-next x w new is = record {
    vars = slice_set c.vars (c.base + x) w;
    printed = c.printed;
    after = is;
    callers = take-set-le c.base c.vars (c.base + x) w (omega arith);
    many = ap (λ (vs : List ℕ). length vs) (drop-set-add c.base c.vars x w) ∙ length-set (locals c) x w;
  }

  -- after a turn that sets none
  pub same-next : (printed : List ℤ) (new : Working) → new ≡ record c { at = next; printed = printed } → IsNext c next new
  same-next printed new is = record { vars = c.vars; printed = printed; after = is; callers = refl; many = refl }

  -- after a simple statement that is no call the branch stands next
  pub next-plain : (a : Action) (word : ℕ) (new : Working) → IsPlain a → Moves b next c a word new → IsNext c next new
  next-plain (actions.Declare x) word new plain is = same-next c.printed new is
  next-plain (actions.Assign x a) word new plain (w, given, is) = set-next x w new is
  next-plain (actions.LoadField x y f) word new plain is = set-next x word new is
  next-plain (actions.LoadLength x y) word new plain (r, n, given, len, is) = set-next x n new is
  next-plain (actions.LoadItem x y e) word new plain is = set-next x word new is
  next-plain (actions.TakeField x y f) word new plain is = set-next x word new is
  next-plain (actions.NewObject x class fields) word new plain is = set-next x word new is
  next-plain (actions.NewArray x e) word new plain is = set-next x word new is
  next-plain (actions.StoreField y f a) word new plain is = same-next c.printed new is
  next-plain (actions.StoreItem y i e) word new plain is = same-next c.printed new is
  next-plain (actions.Invoke v) word new plain is = absurd plain
  next-plain (actions.Print e) word new plain (w, given, is) = same-next (c.printed ++ number_in w ∷ []) new is
  next-plain (actions.If e other) word new plain is = absurd plain
  next-plain (actions.While e first) word new plain is = absurd plain
  next-plain (actions.Par first second sides) word new plain is = absurd plain
  next-plain actions.Recover word new plain is = absurd plain
  next-plain (actions.Give y x) word new plain is = absurd plain
  next-plain (actions.Return a) word new plain is = absurd plain
  next-plain actions.End word new plain is = absurd plain

-- ---------- what stays ----------
-- a branch that stands next in its method is sound as before
pub next-sound : (u : UnitCode) (spot : ℕ → Spot) (b : Bodies) (bottom : ℕ) (c : Working) (next : ℕ) (new : Working) → next < length b.steps → (spot next).routine ≡ (spot c.at).routine → IsNext (spent c) next new → IsSound u spot b bottom c
    → IsSound u spot b bottom new
next-sound u spot b bottom c next new there same n sound =
    subst (IsSound u spot b bottom) (sym n.after) (sound-moves u spot b bottom c (record (spent c) { at = next; vars = n.vars; printed = n.printed }) sound there same refl refl n.many n.callers refl)
