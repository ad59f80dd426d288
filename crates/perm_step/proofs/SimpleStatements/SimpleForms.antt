-- Each form of a simple statement that is no call: what it asks, where it traps and what it leaves is what its effect says.
use Rattle.std.proofs.Common.{◌≡◌, ℕ, ◌++◌, ◌∷◌, List, [], inl, inr, refl, sym, subst}
use Rattle.std.specs.Prelude.{pos, slice_get}
use Rattle.perm_tree.specs.declared.ast.Shape.TheVariants.{Class, Array}
use Rattle.perm_tree.specs.declared.bodies.Action.{Action}
use Rattle.perm_tree.specs.declared.bodies.Action.TheVariants as actions
use Rattle.perm_tree.specs.declared.bodies.Argument.{Argument}
use Rattle.perm_tree.specs.declared.bodies.Bodies.{Bodies}
use Rattle.perm_tree.specs.declared.bodies.Expression.{Expression}
use Rattle.perm_tree.specs.declared.errors.TrapKind.{TrapKind}
use Rattle.perm_tree.specs.BodyTerms.{argument_of, expression_term, instruction_of, HasFields, IsActionIn}
use Rattle.perm_tree.specs.Code.{Tie, UnitCode}
use Rattle.perm_meaning.specs.Effects.{GoesOn, Does, Load, Store, Take, effect, into_var, makes, on_length, on_object, on_value, ticks, with_vars}
use Rattle.perm_meaning.specs.Expressions.{assign, eval}
use Rattle.perm_meaning.specs.Values.{Eval}
use Rattle.perm_meaning.specs.WordHeap.{Own, no_marks}
use Rattle.perm_meaning.specs.Words.{number_in, words as on_words}
use Rattle.perm_step.specs.declared.ask.Ask.{Ask}
use Rattle.perm_step.specs.declared.ask.Ask.TheVariants as asks
use Rattle.perm_step.specs.declared.control.Stop.TheVariants as stops
use Rattle.perm_step.specs.Given.{ArgumentGives, ExpressionGives, IsNewLength}
use Rattle.perm_step.specs.HeapAsks.{Asks, IsElement, IsField, TrapsFirst}
use Rattle.perm_step.specs.StepMoves.{Stops}
use Rattle.perm_step.specs.Working.{Working, locals}
use Rattle.perm_step.proofs.SimpleStatements.SimpleEffects.{Effect, IsAsked, IsDoing, IsHalting, at_index, doing-asks, value-goes, value-traps, value-asks, argument-goes, argument-traps, argument-asks, class-goes, element-goes, element-traps, field-goes, new-goes, new-traps, object-asks, object-traps}

-- the action is a simple statement that is no call
abbrev pub IsPlain : Action → Type 0
IsPlain (actions.Invoke v) = ⊥
IsPlain (actions.If e other) = ⊥
IsPlain (actions.While e first) = ⊥
IsPlain (actions.Par first second sides) = ⊥
IsPlain actions.Recover = ⊥
IsPlain (actions.Give y x) = ⊥
IsPlain (actions.Return a) = ⊥
IsPlain actions.End = ⊥
IsPlain action = Unit {0}

-- what a turn may change of a branch in a method
abbrev pub own_in : ℕ → Working → Own
own_in m c = record { vars = locals c; routine = m; depth = c.depth; printed = c.printed; mark = tt }

module _ (u : UnitCode) (b : Bodies) (tie : Tie) (m : ℕ) (c : Working) where
  -- the effect of a step
  abbrev pub effect_at : Action → Effect
  effect_at a = effect on_words u no_marks (instruction_of b tie a) (own_in m c)

  -- what an expression gives
  abbrev pub worth : Expression → Eval ℕ
  worth e = eval on_words (expression_term b.operations e) (locals c)

  -- the branch with a variable set
  abbrev pub assigned : ℕ → ℕ → Own
  assigned x w = record (own_in m c) { vars = assign (locals c) x w }

  -- ---------- the forms that ask the heap ----------
  -- a load that comes into x
  abbrev pub loads : ℕ → ℕ → ℕ → Effect
  loads x r f = Does (Load r f) (into_var on_words x (locals c) (own_in m c))

  -- the same that leaves null
  abbrev takes : ℕ → ℕ → ℕ → Effect
  takes x r f = Does (Take r f) (into_var on_words x (locals c) (own_in m c))

  -- a store that leaves these variables
  abbrev stores : ℕ → List ℕ → ℕ → ℕ → Effect
  stores v vs r f = Does (Store r f v) (λ w. GoesOn (with_vars on_words (own_in m c) vs))

  -- `x = y.f;`
  pub load-field : (x y f at : ℕ) → IsField (locals c) y f at → IsDoing (asks.Load at) (assigned x) (effect_at (actions.LoadField x y f))
  load-field x y f at there = field-goes (locals c) y f at (λ r n. loads x r f) (IsDoing (asks.Load at) (assigned x)) there tt (λ base len here. ((base, f, refl, here), λ v. refl))

  -- `x = consume y.f;`
  pub take-field : (x y f at : ℕ) → IsField (locals c) y f at → IsDoing (asks.Take at) (assigned x) (effect_at (actions.TakeField x y f))
  take-field x y f at there = field-goes (locals c) y f at (λ r n. takes x r f) (IsDoing (asks.Take at) (assigned x)) there tt (λ base len here. ((base, f, refl, here), λ v. refl))

  -- `x = y[e];`
  pub load-item : (x y : ℕ) (e : Expression) (at i : ℕ) → ExpressionGives b.operations (locals c) e i → IsElement (locals c) y i at → IsDoing (asks.Load at) (assigned x) (effect_at (actions.LoadItem x y e))
  load-item x y e at i index there =
      let P : Effect → Type 0 = IsDoing (asks.Load at) (assigned x) in
      value-goes (worth e) i (λ v. on_object on_words (locals c) y (at_index (number_in v) (loads x))) P index tt (element-goes (locals c) y i at (loads x) P there tt (λ base f here. ((base, f, refl, here), λ v. refl)))

  -- a new object comes into x
  pub new-object : (x class fields : ℕ) → HasFields u class fields → IsDoing (asks.Make fields 0) (assigned x) (effect_at (actions.NewObject x class fields))
  new-object x class fields counted =
      class-goes (slice_get u.classes class) fields (λ n. makes on_words no_marks x (Class class) n (own_in m c)) (IsDoing (asks.Make fields 0) (assigned x)) counted tt ((Class class, refl, refl), λ v. refl)

  -- a new array comes into x
  pub new-array : (x : ℕ) (e : Expression) (n count : ℕ) → ExpressionGives b.operations (locals c) e n → IsNewLength (number_in n) count → IsDoing (asks.Make count count) (assigned x) (effect_at (actions.NewArray x e))
  new-array x e n count given new =
      let P : Effect → Type 0 = IsDoing (asks.Make count count) (assigned x) in
      let go : ℕ → Effect = λ n. makes on_words no_marks x Array n (own_in m c) in
      value-goes (worth e) n (λ v. on_length on_words (number_in v) go) P given tt (new-goes (number_in n) count go P new ((Array, refl, refl), λ v. refl))

  -- `y.f = a;`
  pub store-field : (y f : ℕ) (a : Argument) (at w : ℕ) → ArgumentGives b.operations (locals c) a w → IsField (locals c) y f at → IsDoing (asks.Store at w) (λ v. own_in m c) (effect_at (actions.StoreField y f a))
  store-field y f a at w given there =
      let P : Effect → Type 0 = IsDoing (asks.Store at w) (λ v. own_in m c) in
      argument-goes (argument_of b.operations a) (locals c) w (λ v vs. on_object on_words vs y (λ r n. stores v vs r f)) P given tt
      (field-goes (locals c) y f at (λ r n. stores w (locals c) r f) P there tt (λ base len here. ((base, f, refl, here), λ v. refl)))

  -- `y[i] = e;`
  pub store-item : (y : ℕ) (i e : Expression) (at k w : ℕ) → ExpressionGives b.operations (locals c) i k → ExpressionGives b.operations (locals c) e w → IsElement (locals c) y k at
      → IsDoing (asks.Store at w) (λ v. own_in m c) (effect_at (actions.StoreItem y i e))
  store-item y i e at k w index given there =
      let P : Effect → Type 0 = IsDoing (asks.Store at w) (λ v. own_in m c) in
      let go : ℕ → ℕ → Effect = λ j v. on_object on_words (locals c) y (at_index (number_in j) (stores v (locals c))) in
      value-goes (worth i) k (λ j. on_value on_words (worth e) (go j)) P index tt
      (value-goes (worth e) w (go k) P given tt (element-goes (locals c) y k at (stores w (locals c)) P there tt (λ base f here. ((base, f, refl, here), λ v. refl))))

  -- ---------- what it asks ----------
  -- the same of what is equal
  asked-as : (q r : Ask) (e : Effect) → q ≡ r → IsAsked r e → IsAsked q e
  asked-as q r e is asked = subst (λ x. IsAsked x e) (sym is) asked

  -- so by what it does
  asked-by : (a : Action) (q r : Ask) (after : ℕ → Own) → q ≡ r → IsDoing r after (effect_at a) → IsAsked q (effect_at a)
  asked-by a q r after is doing = asked-as q r (effect_at a) is (doing-asks r after (effect_at a) doing)

  -- the effect of a step asks what the step asks
  pub asks-plain : (a : Action) (q : Ask) → IsPlain a → IsActionIn b u a → Asks b (locals c) c.depth a q → IsAsked q (effect_at a)
  asks-plain (actions.Declare x) q plain inside is = asked-as q asks.Nothing (effect_at (actions.Declare x)) is refl
  asks-plain (actions.Assign x a) q plain inside is =
      asked-as q asks.Nothing (effect_at (actions.Assign x a)) is (argument-asks (argument_of b.operations a) (locals c) (λ v vs. ticks on_words (into_var on_words x vs (own_in m c) v)) (λ v vs. refl))
  asks-plain (actions.LoadField x y f) q plain inside (at, is, there) = asked-by (actions.LoadField x y f) q (asks.Load at) (assigned x) is (load-field x y f at there)
  asks-plain (actions.LoadLength x y) q plain inside is =
      asked-as q asks.Nothing (effect_at (actions.LoadLength x y)) is (object-asks (locals c) y (λ r n. ticks on_words (into_var on_words x (locals c) (own_in m c) (on_words.number (pos n)))) (λ base len. refl))
  asks-plain (actions.LoadItem x y e) q plain inside (at, i, is, index, there) = asked-by (actions.LoadItem x y e) q (asks.Load at) (assigned x) is (load-item x y e at i index there)
  asks-plain (actions.TakeField x y f) q plain inside (at, is, there) = asked-by (actions.TakeField x y f) q (asks.Take at) (assigned x) is (take-field x y f at there)
  asks-plain (actions.NewObject x class fields) q plain inside is = asked-by (actions.NewObject x class fields) q (asks.Make fields 0) (assigned x) is (new-object x class fields inside)
  asks-plain (actions.NewArray x e) q plain inside (n, count, is, given, new) = asked-by (actions.NewArray x e) q (asks.Make count count) (assigned x) is (new-array x e n count given new)
  asks-plain (actions.StoreField y f a) q plain inside (at, w, is, given, there) = asked-by (actions.StoreField y f a) q (asks.Store at w) (λ v. own_in m c) is (store-field y f a at w given there)
  asks-plain (actions.StoreItem y i e) q plain inside (at, k, w, is, index, given, there) =
      asked-by (actions.StoreItem y i e) q (asks.Store at w) (λ v. own_in m c) is (store-item y i e at k w index given there)
  asks-plain (actions.Invoke v) q plain inside is = absurd plain
  asks-plain (actions.Print e) q plain inside is =
      asked-as q asks.Nothing (effect_at (actions.Print e)) is (value-asks (worth e) (λ v. ticks on_words (GoesOn (record (own_in m c) { printed = c.printed ++ number_in v ∷ [] }))) (λ v. refl))
  asks-plain (actions.If e other) q plain inside is = absurd plain
  asks-plain (actions.While e first) q plain inside is = absurd plain
  asks-plain (actions.Par first second sides) q plain inside is = absurd plain
  asks-plain actions.Recover q plain inside is = absurd plain
  asks-plain (actions.Give y x) q plain inside is = absurd plain
  asks-plain (actions.Return a) q plain inside is = absurd plain
  asks-plain actions.End q plain inside is = absurd plain

  -- ---------- where it traps ----------
  -- the effect of a step traps as the step does before it asks the heap
  pub traps-plain : (a : Action) (k : TrapKind) → IsPlain a → TrapsFirst b (locals c) c.depth a k → IsHalting k (effect_at a)
  traps-plain (actions.Declare x) k plain is = absurd is
  traps-plain (actions.Assign x a) k plain is = absurd is
  traps-plain (actions.LoadField x y f) k plain is = object-traps (locals c) y k (λ r n. loads x r f) is
  traps-plain (actions.LoadLength x y) k plain is = absurd is
  traps-plain (actions.LoadItem x y e) k plain (inl is) = value-traps (worth e) k (λ v. on_object on_words (locals c) y (at_index (number_in v) (loads x))) is
  traps-plain (actions.LoadItem x y e) k plain (inr (i, index, none)) =
      value-goes (worth e) i (λ v. on_object on_words (locals c) y (at_index (number_in v) (loads x))) (IsHalting k) index tt (element-traps (locals c) y i k (loads x) none)
  traps-plain (actions.TakeField x y f) k plain is = object-traps (locals c) y k (λ r n. takes x r f) is
  traps-plain (actions.NewObject x class fields) k plain is = absurd is
  traps-plain (actions.NewArray x e) k plain (inl is) = value-traps (worth e) k (λ v. on_length on_words (number_in v) (λ n. makes on_words no_marks x Array n (own_in m c))) is
  traps-plain (actions.NewArray x e) k plain (inr (n, given, none)) =
      let go : ℕ → Effect = λ n. makes on_words no_marks x Array n (own_in m c) in
      value-goes (worth e) n (λ v. on_length on_words (number_in v) go) (IsHalting k) given tt (new-traps (number_in n) k go none)
  traps-plain (actions.StoreField y f a) k plain (inl is) = argument-traps (argument_of b.operations a) (locals c) k (λ v vs. on_object on_words vs y (λ r n. stores v vs r f)) is
  traps-plain (actions.StoreField y f a) k plain (inr (w, given, null)) =
      argument-goes (argument_of b.operations a) (locals c) w (λ v vs. on_object on_words vs y (λ r n. stores v vs r f)) (IsHalting k) given tt (object-traps (locals c) y k (λ r n. stores w (locals c) r f) null)
  traps-plain (actions.StoreItem y i e) k plain (inl is) =
      value-traps (worth i) k (λ j. on_value on_words (worth e) (λ v. on_object on_words (locals c) y (at_index (number_in j) (stores v (locals c))))) is
  traps-plain (actions.StoreItem y i e) k plain (inr (j, index, inl is)) =
      let go : ℕ → ℕ → Effect = λ j v. on_object on_words (locals c) y (at_index (number_in j) (stores v (locals c))) in
      value-goes (worth i) j (λ j. on_value on_words (worth e) (go j)) (IsHalting k) index tt (value-traps (worth e) k (go j) is)
  traps-plain (actions.StoreItem y i e) k plain (inr (j, index, inr (w, given, none))) =
      let go : ℕ → ℕ → Effect = λ j v. on_object on_words (locals c) y (at_index (number_in j) (stores v (locals c))) in
      value-goes (worth i) j (λ j. on_value on_words (worth e) (go j)) (IsHalting k) index tt
      (value-goes (worth e) w (go j) (IsHalting k) given tt (element-traps (locals c) y j k (stores w (locals c)) none))
  traps-plain (actions.Invoke v) k plain is = absurd plain
  traps-plain (actions.Print e) k plain is = absurd is
  traps-plain (actions.If e other) k plain is = absurd plain
  traps-plain (actions.While e first) k plain is = absurd plain
  traps-plain (actions.Par first second sides) k plain is = absurd plain
  traps-plain actions.Recover k plain is = absurd plain
  traps-plain (actions.Give y x) k plain is = absurd plain
  traps-plain (actions.Return a) k plain is = absurd plain
  traps-plain actions.End k plain is = absurd plain

  -- it traps as the step does that asks nothing of the heap
  pub stops-plain : (next : ℕ) (a : Action) (k : TrapKind) → IsPlain a → Stops b next c a (stops.Trap k) → IsHalting k (effect_at a)
  stops-plain next (actions.Declare x) k plain is = absurd is
  stops-plain next (actions.Assign x a) k plain is = argument-traps (argument_of b.operations a) (locals c) k (λ v vs. ticks on_words (into_var on_words x vs (own_in m c) v)) is
  stops-plain next (actions.LoadField x y f) k plain is = absurd is
  stops-plain next (actions.LoadLength x y) k plain is = object-traps (locals c) y k (λ r n. ticks on_words (into_var on_words x (locals c) (own_in m c) (on_words.number (pos n)))) is
  stops-plain next (actions.LoadItem x y e) k plain is = absurd is
  stops-plain next (actions.TakeField x y f) k plain is = absurd is
  stops-plain next (actions.NewObject x class fields) k plain is = absurd is
  stops-plain next (actions.NewArray x e) k plain is = absurd is
  stops-plain next (actions.StoreField y f a) k plain is = absurd is
  stops-plain next (actions.StoreItem y i e) k plain is = absurd is
  stops-plain next (actions.Invoke v) k plain is = absurd plain
  stops-plain next (actions.Print e) k plain is = value-traps (worth e) k (λ v. ticks on_words (GoesOn (record (own_in m c) { printed = c.printed ++ number_in v ∷ [] }))) is
  stops-plain next (actions.If e other) k plain is = absurd plain
  stops-plain next (actions.While e first) k plain is = absurd plain
  stops-plain next (actions.Par first second sides) k plain is = absurd plain
  stops-plain next actions.Recover k plain is = absurd plain
  stops-plain next (actions.Give y x) k plain is = absurd plain
  stops-plain next (actions.Return a) k plain is = absurd plain
  stops-plain next actions.End k plain is = absurd plain

  -- it returns nothing
  pub returns-plain : (next : ℕ) (a : Action) (w : ℕ) → IsPlain a → Stops b next c a (stops.Returned w) → ⊥
  returns-plain next (actions.Declare x) w plain is = is
  returns-plain next (actions.Assign x a) w plain is = is
  returns-plain next (actions.LoadField x y f) w plain is = is
  returns-plain next (actions.LoadLength x y) w plain is = is
  returns-plain next (actions.LoadItem x y e) w plain is = is
  returns-plain next (actions.TakeField x y f) w plain is = is
  returns-plain next (actions.NewObject x class fields) w plain is = is
  returns-plain next (actions.NewArray x e) w plain is = is
  returns-plain next (actions.StoreField y f a) w plain is = is
  returns-plain next (actions.StoreItem y i e) w plain is = is
  returns-plain next (actions.Invoke v) w plain is = plain
  returns-plain next (actions.Print e) w plain is = is
  returns-plain next (actions.If e other) w plain is = plain
  returns-plain next (actions.While e first) w plain is = plain
  returns-plain next (actions.Par first second sides) w plain is = plain
  returns-plain next actions.Recover w plain is = plain
  returns-plain next (actions.Give y x) w plain is = plain
  returns-plain next (actions.Return a) w plain is = plain
  returns-plain next actions.End w plain is = plain
