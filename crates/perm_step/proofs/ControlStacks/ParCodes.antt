-- Only a par starts two sides: every other step leaves one branch.
use Rattle.std.proofs.Common.{◌≡◌, ℕ, ◌<◌, ◌≤◌, List, [], ◌∷◌, Bool, true, false, Option, Some, None, refl, sym, ◌∙◌, subst, le-ltb}
use Rattle.std.specs.Prelude.{cond, slice_get}
use Rattle.std.proofs.Math.Dec.{ltb}
use Rattle.std.proofs.lemmas.Bool.{ltb-false, ltb-true}
use Rattle.perm_tree.specs.declared.ast.Span.{Span}
use Rattle.perm_tree.specs.declared.bodies.Action.{Action}
use Rattle.perm_tree.specs.declared.bodies.Action.TheVariants as actions
use Rattle.perm_tree.specs.declared.bodies.Bodies.{Bodies}
use Rattle.perm_tree.specs.declared.bodies.Step.{Step}
use Rattle.perm_tree.specs.declared.errors.TrapKind.TheVariants.{StackOverflow}
use Rattle.perm_tree.specs.Code.{Code, End, Give, Return, Do, If, While, Par, Recover, UnitCode}
use Rattle.perm_tree.specs.Links.{AreBodiesOf}
use Rattle.perm_meaning.specs.Custody.{Copies}
use Rattle.perm_meaning.specs.Effects.{Act, GoesOn, Calls, Halts, Resumption, Does, Sticks, depth_limit}
use Rattle.perm_meaning.specs.Expressions.{eval, look_up, value_of}
use Rattle.perm_meaning.specs.Machine.{Frame, OpenBlock, OpenRecover, OpenCall, Did, On, Splits, Ends, Dies, Turn, Takes, NoTurn, Leaf, Fork, Blocks, Stage, Over, Due, done, told_to, next_turn, leaf_on, stage}
use Rattle.perm_meaning.specs.Turns as turns
use Rattle.perm_meaning.specs.Values.{Eval, Gives, Traps, Mistyped}
use Rattle.perm_meaning.specs.WordHeap.{Ask, Branch, NoMark, Own, Task, worded}
use Rattle.perm_meaning.specs.Words.{words}
use Rattle.perm_step.specs.Events.{NextMakes}
use Rattle.perm_step.specs.Standing.{branch_of}
use Rattle.perm_step.specs.Working.{Working}
use Rattle.perm_step.proofs.Tests.TestSteps.{link-of}

-- a turn leaves one branch
abbrev pub Stays : Did ℕ NoMark → Type 0
Stays (Splits p rest) = ⊥
Stays did = Unit {0}

-- so it does whatever it is told
abbrev pub TurnStays : Turn ℕ NoMark Ask → Type 0
TurnStays (Takes o told) = (v : ℕ) → Stays (told v)
TurnStays NoTurn = Unit {0}

-- the code is no par
abbrev pub IsNoPar : Code → Type 0
IsNoPar (Par at own1 a own2 b rest) = ⊥
IsNoPar c = Unit {0}

-- the action is no par
abbrev pub StartsNone : Action → Type 0
StartsNone a = (first second place : ℕ) → a ≡ actions.Par first second place → ⊥

-- ---------- turns ----------
returned-stays : (v : ℕ) (st : List (Frame ℕ)) (l : Own) → TurnStays (turns.returned words Copies v st l)
returned-stays v [] l = λ w. tt
returned-stays v (OpenCall tie into y saved lent caller rest ∷ st) l = λ w. tt
returned-stays v (OpenBlock own rest ∷ st) l = tt
returned-stays v (OpenRecover own hides saved rest ∷ st) l = tt

given-stays : (e : Eval ℕ) (w x : ℕ) (st : List (Frame ℕ)) (l : Own) → TurnStays (turns.given_back words Copies e w x st l)
given-stays (Gives v) w x (OpenRecover own hides saved rest ∷ st) l = λ w. tt
given-stays (Gives v) w x (OpenBlock own rest ∷ st) l = tt
given-stays (Gives v) w x (OpenCall tie into y saved lent caller rest ∷ st) l = tt
given-stays (Gives v) w x [] l = tt
given-stays (Traps t) w x st l = tt
given-stays Mistyped w x st l = tt

acted-stays : (at : Span) (rest : Code) (st : List (Frame ℕ)) (a : Act ℕ NoMark) → Stays (turns.acted words Copies at rest st a)
acted-stays at rest st (GoesOn l) = tt
acted-stays at rest st (Calls x l) = tt
acted-stays at rest st (Halts t) = tt

simple-stays : (at : Span) (rest : Code) (st : List (Frame ℕ)) (r : Resumption ℕ ℕ NoMark) → TurnStays (turns.turn_of words Copies at rest st r)
simple-stays at rest st (Does o told) = λ w. acted-stays at rest st (told w)
simple-stays at rest st Sticks = tt

truth-stays : (t : Option Bool) (first second : Turn ℕ NoMark Ask) → TurnStays first → TurnStays second → TurnStays (turns.by_truth words Copies t first second)
truth-stays None first second f s = tt
truth-stays (Some true) first second f s = f
truth-stays (Some false) first second f s = s

test-stays : (e : Eval ℕ) (at : Span) (first second : Turn ℕ NoMark Ask) → TurnStays first → TurnStays second → TurnStays (turns.on_test words Copies e at first second)
test-stays (Gives v) at first second f s = truth-stays (words.as_truth v) first second f s
test-stays (Traps t) at first second f s = λ w. tt
test-stays Mistyped at first second f s = tt

value-stays : (e : Eval ℕ) (at : Span) (go : ℕ → Turn ℕ NoMark Ask) → ((v : ℕ) → TurnStays (go v)) → TurnStays (turns.on_value words Copies e at go)
value-stays (Gives v) at go h = h v
value-stays (Traps t) at go h = λ w. tt
value-stays Mistyped at go h = tt

module _ (u : UnitCode) where
  -- the turn of a code that is no par leaves one branch
  pub turn-stays : (c : Code) (st : List (Frame ℕ)) (l : Own) → IsNoPar c → TurnStays ((worded Copies u).turn c st l)
  turn-stays End st l plain = tt
  turn-stays (Give at w x) st l plain = given-stays (look_up words l.vars w) w x st l
  turn-stays (Return at a) st l plain = value-stays (value_of words a l.vars) at (λ v. turns.returned words Copies v st l) (λ v. returned-stays v st l)
  turn-stays (Do at i rest) st l plain = simple-stays at rest st _
  turn-stays (If at e own1 a own2 b rest) st l plain =
      test-stays (eval words e l.vars) at (turns.tick words Copies (On l a (OpenBlock own1 rest ∷ st))) (turns.tick words Copies (On l b (OpenBlock own2 rest ∷ st))) (λ w. tt) (λ w. tt)
  turn-stays (While at e own body rest) st l plain =
      test-stays (eval words e l.vars) at (turns.tick words Copies (On l body (OpenBlock own (While at e own body rest) ∷ st))) (turns.tick words Copies (On l rest st)) (λ w. tt) (λ w. tt)
  turn-stays (Par at own1 a own2 b rest) st l plain = absurd plain
  turn-stays (Recover at x own hides body rest) st l plain = λ w. tt

  -- no more does that of a par at the greatest depth
  deep-stays : (at : Span) (own1 : List ℕ) (a : Code) (own2 : List ℕ) (b rest : Code) (st : List (Frame ℕ)) (l : Own) → depth_limit ≤ l.depth → TurnStays ((worded Copies u).turn (Par at own1 a own2 b rest) st l)
  deep-stays at own1 a own2 b rest st l deep =
      subst (λ d. TurnStays (cond d (turns.tick words Copies (Splits (turns.blocks own1 a own2 b) rest)) (turns.trap words Copies at StackOverflow))) (sym (le-ltb l.depth depth_limit deep)) (λ w. tt)

  did-leaf : (x : Branch) (t : ℕ) (d : Did ℕ NoMark) → Stays d → (y : Branch) × (done (worded Copies u) x t d ≡ Leaf y)
  did-leaf x t (On l c st) stays = (_, refl)
  did-leaf x t (Splits p rest) stays = absurd stays
  did-leaf x t (Ends v) stays = (_, refl)
  did-leaf x t (Dies e) stays = (_, refl)

  told-leaf : (x : Branch) (t : ℕ) (turn : Turn ℕ NoMark Ask) (v : ℕ) → TurnStays turn → (y : Branch) × (told_to (worded Copies u) x t turn (Some v) ≡ Leaf y)
  told-leaf x t (Takes o told) v stays = did-leaf x t (told v) (stays v)
  told-leaf x t NoTurn v stays = (x, refl)

  -- the event of such a branch leaves one branch
  event-leaf : (x : Branch) (at : Stage ℕ) (v : ℕ) → TurnStays (next_turn (worded Copies u) x) → (y : Branch) × (leaf_on (worded Copies u) x at (Some v) ≡ Leaf y)
  event-leaf x (Over f) v stays = (x, refl)
  event-leaf x (Due t) v stays = told-leaf x t (next_turn (worded Copies u) x) v stays

  -- ---------- steps ----------
  module _ (b : Bodies) (w : AreBodiesOf u b) (c : Working) (s : Step) (there : slice_get b.steps c.at ≡ Some s) where
    abbrev code : Code
    code = (w.spot c.at).code

    of : (d : Code) → code ≡ d → IsNoPar d → IsNoPar code
    of d is plain = subst IsNoPar (sym is) plain

    -- where the step is no par, the code is none
    code-no-par : (a : Action) → s.action ≡ a → StartsNone a → IsNoPar code
    code-no-par (actions.Declare x) is plain = let l = link-of u b w c s there (actions.Declare x) is in of _ l.code tt
    code-no-par (actions.Assign x a) is plain = let l = link-of u b w c s there (actions.Assign x a) is in of _ l.code tt
    code-no-par (actions.LoadField x y f) is plain = let l = link-of u b w c s there (actions.LoadField x y f) is in of _ l.code tt
    code-no-par (actions.LoadLength x y) is plain = let l = link-of u b w c s there (actions.LoadLength x y) is in of _ l.code tt
    code-no-par (actions.LoadItem x y e) is plain = let l = link-of u b w c s there (actions.LoadItem x y e) is in of _ l.code tt
    code-no-par (actions.TakeField x y f) is plain = let l = link-of u b w c s there (actions.TakeField x y f) is in of _ l.code tt
    code-no-par (actions.NewObject x k n) is plain = let l = link-of u b w c s there (actions.NewObject x k n) is in of _ l.code tt
    code-no-par (actions.NewArray x e) is plain = let l = link-of u b w c s there (actions.NewArray x e) is in of _ l.code tt
    code-no-par (actions.StoreField y f a) is plain = let l = link-of u b w c s there (actions.StoreField y f a) is in of _ l.code tt
    code-no-par (actions.StoreItem y i e) is plain = let l = link-of u b w c s there (actions.StoreItem y i e) is in of _ l.code tt
    code-no-par (actions.Print e) is plain = let l = link-of u b w c s there (actions.Print e) is in of _ l.code tt
    code-no-par (actions.Invoke v) is plain = let l = link-of u b w c s there (actions.Invoke v) is in of _ l.code tt
    code-no-par (actions.If e other) is plain = let l = link-of u b w c s there (actions.If e other) is in of _ l.code tt
    code-no-par (actions.While e first) is plain = let l = link-of u b w c s there (actions.While e first) is in of _ l.code tt
    code-no-par (actions.Par first second place) is plain = absurd (plain first second place refl)
    code-no-par actions.Recover is plain = let l = link-of u b w c s there actions.Recover is in of _ l.code tt
    code-no-par (actions.Give y x) is plain = let l = link-of u b w c s there (actions.Give y x) is in of _ l.code tt
    code-no-par (actions.Return a) is plain = let l = link-of u b w c s there (actions.Return a) is in of _ l.code tt
    code-no-par actions.End is plain = let l = link-of u b w c s there actions.End is in of _ l.code tt

    abbrev x : Branch
    x = branch_of w.spot c

    -- a step that is no par leaves one branch
    pub step-leaf : StartsNone s.action → (y : Branch) × NextMakes u x (Some 0) (Leaf y)
    step-leaf plain = event-leaf x (stage x) 0 (turn-stays code x.stack x.own (code-no-par s.action refl plain))

    deep-leaf : (first second place : ℕ) → s.action ≡ actions.Par first second place → depth_limit ≤ c.depth → (y : Branch) × NextMakes u x (Some 0) (Leaf y)
    deep-leaf first second place is deep =
        let l = link-of u b w c s there (actions.Par first second place) is in
        event-leaf x (stage x) 0 (subst (λ d. TurnStays ((worded Copies u).turn d x.stack x.own)) (sym l.code) (deep-stays s.span l.own1 l.left l.own2 l.right l.rest x.stack x.own deep))

    -- no leaf is a waiting parent
    no-fork : (p : Branch) (q : Blocks) (l r : Task) (y : Branch) → NextMakes u x (Some 0) (Fork p q l r) → NextMakes u x (Some 0) (Leaf y) → ⊥
    no-fork p q l r y forks stays = let e = sym forks ∙ stays in let no : ⊥ = cc e in no

    -- the step whose event starts a par is one, and not too deep
    pub par-here : (p : Branch) (q : Blocks) (l r : Task) → NextMakes u x (Some 0) (Fork p q l r) → (first : ℕ) × (second : ℕ) × (place : ℕ) × (s.action ≡ actions.Par first second place) × (c.depth < depth_limit)
    par-here p q l r forks = by s.action refl
      where
        never : StartsNone s.action → (first : ℕ) × (second : ℕ) × (place : ℕ) × (s.action ≡ actions.Par first second place) × (c.depth < depth_limit)
        never plain = let leaf = step-leaf plain in absurd (no-fork p q l r leaf.0 forks leaf.1)

        by_depth : (d : Bool) (first second place : ℕ) → ltb c.depth depth_limit ≡ d → s.action ≡ actions.Par first second place → (first : ℕ) × (second : ℕ) × (place : ℕ) × (s.action ≡ actions.Par first second place) × (c.depth < depth_limit)
        by_depth true first second place deep is = (first, second, place, is, ltb-true c.depth depth_limit deep)
        by_depth false first second place deep is = let leaf = deep-leaf first second place is (ltb-false c.depth depth_limit deep) in absurd (no-fork p q l r leaf.0 forks leaf.1)

        other : (a : Action) → s.action ≡ a → StartsNone a → (first : ℕ) × (second : ℕ) × (place : ℕ) × (s.action ≡ actions.Par first second place) × (c.depth < depth_limit)
        other a is plain = never (subst StartsNone (sym is) plain)

        by : (a : Action) → s.action ≡ a → (first : ℕ) × (second : ℕ) × (place : ℕ) × (s.action ≡ actions.Par first second place) × (c.depth < depth_limit)
        by (actions.Par first second place) is = by_depth (ltb c.depth depth_limit) first second place refl is
        by actions.Recover is = other actions.Recover is (λ f g p e. let none : ⊥ = cc e in none)
        by actions.End is = other actions.End is (λ f g p e. let none : ⊥ = cc e in none)
        by (actions.Declare x) is = other (actions.Declare x) is (λ f g p e. let none : ⊥ = cc e in none)
        by (actions.Assign x a) is = other (actions.Assign x a) is (λ f g p e. let none : ⊥ = cc e in none)
        by (actions.LoadField x y f) is = other (actions.LoadField x y f) is (λ f g p e. let none : ⊥ = cc e in none)
        by (actions.LoadLength x y) is = other (actions.LoadLength x y) is (λ f g p e. let none : ⊥ = cc e in none)
        by (actions.LoadItem x y e) is = other (actions.LoadItem x y e) is (λ f g p e. let none : ⊥ = cc e in none)
        by (actions.TakeField x y f) is = other (actions.TakeField x y f) is (λ f g p e. let none : ⊥ = cc e in none)
        by (actions.NewObject x k n) is = other (actions.NewObject x k n) is (λ f g p e. let none : ⊥ = cc e in none)
        by (actions.NewArray x e) is = other (actions.NewArray x e) is (λ f g p e. let none : ⊥ = cc e in none)
        by (actions.StoreField y f a) is = other (actions.StoreField y f a) is (λ f g p e. let none : ⊥ = cc e in none)
        by (actions.StoreItem y i e) is = other (actions.StoreItem y i e) is (λ f g p e. let none : ⊥ = cc e in none)
        by (actions.Print e) is = other (actions.Print e) is (λ f g p e. let none : ⊥ = cc e in none)
        by (actions.Invoke v) is = other (actions.Invoke v) is (λ f g p e. let none : ⊥ = cc e in none)
        by (actions.If e o) is = other (actions.If e o) is (λ f g p e. let none : ⊥ = cc e in none)
        by (actions.While e first) is = other (actions.While e first) is (λ f g p e. let none : ⊥ = cc e in none)
        by (actions.Give y x) is = other (actions.Give y x) is (λ f g p e. let none : ⊥ = cc e in none)
        by (actions.Return a) is = other (actions.Return a) is (λ f g p e. let none : ⊥ = cc e in none)
