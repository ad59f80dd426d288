-- The steps of statements and blocks are emitted as their codes go.
use Rattle.std.proofs.Common.{◌≡◌, ◌∙◌, ℕ, suc, ◌+◌, ◌<◌, List, [], ◌∷◌, ◌++◌, length, Some, refl, sym, ap, subst, arith, append_assoc, append-nil, length-append}
use Rattle.std.specs.Prelude.{slice_get, slice_set}
use Rattle.perm_tree.specs.declared.ast.Span.{Span}
use Rattle.perm_tree.specs.declared.bodies.Action.{Action}
use Rattle.perm_tree.specs.declared.bodies.Action.TheVariants as actions
use Rattle.perm_tree.specs.declared.bodies.Bodies.{Bodies}
use Rattle.perm_tree.specs.declared.bodies.Expression.{Expression}
use Rattle.perm_tree.specs.declared.bodies.Sides.{Sides}
use Rattle.perm_tree.specs.declared.bodies.Step.{Step}
use Rattle.perm_tree.specs.BodyTerms.{expression_term, instruction_of, IsActionIn, IsExpressionIn}
use Rattle.perm_tree.specs.Code.{Term, Code, End, Give, Do, If, While, Par, Recover, Tie, UnitCode}
use Rattle.perm_tree.specs.Links.{Enclosing, InBlock, InRecover, Spot, spot_of, IsDo, IsWhile, IsPar, IsRecover, IsGive, IsEnd, IsLinked, IsLinkedBy, IsSimple, StandsAt}
use Rattle.perm_table.specs.Emission.{AreAt, AreLinkedAt, IsLinkedAt, IsPath, Emits, Holds}
use Rattle.perm_tree.specs.Mentions.{block_writes}
use Rattle.perm_table.specs.Growth.{Extends, Grows}
use Rattle.perm_table.proofs.Growth.{HasMore-refl, HasMore-length, Extends-refl, Extends-trans, Grows-extends, expression-in-stays, expression-stays, action-in-stays, action-stays}
use Rattle.perm_table.proofs.Emission.Paths.{path-none, path-then, path-as, path-one, path-beside, path-on, path-last}

-- ---------- bodies with more steps ----------
-- only steps have been added, or put in the place of others
pub record HasSteps (old new : Bodies) (steps : List Step) : Type 0 where
  pub extends : Extends old new
  pub steps_are : new.steps ≡ steps
  pub places : new.places ≡ old.places
  pub entries : new.entries ≡ old.entries

-- bodies in which the steps alone are others
pub with-steps : (old new : Bodies) (steps : List Step) → new ≡ record old { steps = steps } → HasSteps old new steps
with-steps old new steps is = subst (λ (b : Bodies). HasSteps old b steps) (sym is) (record {
  extends = record { operations = HasMore-refl old.operations; arguments = HasMore-refl old.arguments; sides = HasMore-refl old.sides };
  steps_are = refl;
  places = refl;
  entries = refl;
})

-- bodies with one more pair of sides besides
pub with-sides : (old new : Bodies) (sides : Sides) (steps : List Step) → new ≡ record old { sides = old.sides ++ sides ∷ []; steps = steps } → HasSteps old new steps
with-sides old new sides steps is = subst (λ (b : Bodies). HasSteps old b steps) (sym is) (record {
  extends = record { operations = HasMore-refl old.operations; arguments = HasMore-refl old.arguments; sides = (sides ∷ [], refl) };
  steps_are = refl;
  places = refl;
  entries = refl;
})

-- how many steps there are
pub count-more : (old new : Bodies) (added : List Step) → new.steps ≡ old.steps ++ added → length new.steps ≡ length old.steps + length added
count-more old new added is = omega (arith, length-append old.steps added, ap (λ (l : List Step). length l) is)

-- ---------- links ----------
-- a simple statement stands at a spot
do-linked : (spot : ℕ → Spot) (all : List Step) (b : Bodies) (u : UnitCode) (here : Spot) (at : Span) (next : ℕ) (a : Action) → IsSimple a → IsDo (λ q there. StandsAt spot all q there) b u here at next a
    → IsLinkedBy (λ q there. StandsAt spot all q there) b u here at next a
do-linked spot all b u here at next (actions.Declare x) simple is = is
do-linked spot all b u here at next (actions.Assign x a) simple is = is
do-linked spot all b u here at next (actions.LoadField x y f) simple is = is
do-linked spot all b u here at next (actions.LoadLength x y) simple is = is
do-linked spot all b u here at next (actions.LoadItem x y e) simple is = is
do-linked spot all b u here at next (actions.TakeField x y f) simple is = is
do-linked spot all b u here at next (actions.NewObject x class fields) simple is = is
do-linked spot all b u here at next (actions.NewArray x e) simple is = is
do-linked spot all b u here at next (actions.StoreField y f a) simple is = is
do-linked spot all b u here at next (actions.StoreItem y i e) simple is = is
do-linked spot all b u here at next (actions.Invoke v) simple is = is
do-linked spot all b u here at next (actions.Print e) simple is = is
do-linked spot all b u here at next (actions.If e other) simple is = absurd simple
do-linked spot all b u here at next (actions.While e body) simple is = absurd simple
do-linked spot all b u here at next (actions.Par left right sides) simple is = absurd simple
do-linked spot all b u here at next actions.Recover simple is = absurd simple
do-linked spot all b u here at next (actions.Give w x) simple is = absurd simple
do-linked spot all b u here at next (actions.Return a) simple is = absurd simple
do-linked spot all b u here at next actions.End simple is = absurd simple

module _ (u : UnitCode) where
  -- ---------- one after the other ----------
  -- nothing is added
  pub emits-none : (old : Bodies) (next : ℕ) → next < length old.steps → Emits u old next old next (λ c. c)
  emits-none old next there = record {
    added = [];
    steps = sym (append-nil old.steps);
    extends = Extends-refl old;
    entries = refl;
    there = there;
    path = λ m rest st. path-none u old (length old.steps) (λ spot all. StandsAt spot all next (spot_of m rest st));
  }

  -- one code before another
  pub emits-then : (old mid new : Bodies) (next first start : ℕ) (f g : Code → Code) → Emits u old next mid first f → Emits u mid first new start g → Emits u old next new start (λ c. g (f c))
  emits-then old mid new next first start f g one two = record {
    added = one.added ++ two.added;
    steps = two.steps ∙ ap (λ (l : List Step). l ++ two.added) one.steps ∙ append_assoc old.steps one.added two.added;
    extends = Extends-trans old mid new one.extends two.extends;
    entries = two.entries ∙ one.entries;
    there = two.there;
    path = λ m rest st.
        let a = λ (spot : ℕ → Spot) (all : List Step). StandsAt spot all next (spot_of m rest st) in
        let b = λ (spot : ℕ → Spot) (all : List Step). StandsAt spot all first (spot_of m (f rest) st) in
        let c = λ (spot : ℕ → Spot) (all : List Step). StandsAt spot all start (spot_of m (g (f rest)) st) in
        path-as u new (length old.steps) (one.added ++ two.added) a (λ spot all. b spot all × c spot all) a c (λ spot all h. h) (λ spot all h. h.1)
        (path-then u mid new (length old.steps) (length mid.steps) one.added two.added a b c (count-more old mid one.added one.steps) two.extends (one.path m rest st)
        (path-as u new (length mid.steps) two.added b c (λ spot all. a spot all × b spot all) c (λ spot all h. h.1) (λ spot all h. h) (two.path m (f rest) st)));
  }

  -- the same code in other words
  pub emits-as : (old new : Bodies) (next first : ℕ) (f g : Code → Code) → ((rest : Code) → f rest ≡ g rest) → Emits u old next new first f → Emits u old next new first g
  emits-as old new next first f g same e = record {
    added = e.added;
    steps = e.steps;
    extends = e.extends;
    entries = e.entries;
    there = e.there;
    path = λ m rest st. subst (λ (c : Code). IsPath u new (length old.steps) e.added (λ spot all. StandsAt spot all next (spot_of m rest st)) (λ spot all. StandsAt spot all first (spot_of m c st))) (same rest) (e.path m rest st);
  }

  -- the places of statements are no part of it
  pub emits-places : (old new : Bodies) (next first : ℕ) (f : Code → Code) (places : List ℕ) → Emits u old next new first f → Emits u old next (record new { places = places }) first f
  emits-places old new next first f places e = record {
    added = e.added;
    steps = e.steps;
    extends = record { operations = e.extends.operations; arguments = e.extends.arguments; sides = e.extends.sides };
    entries = e.entries;
    there = e.there;
    path = λ m rest st. (let path = e.path m rest st in record {
      spots = path.spots;
      count = path.count;
      linked = λ spot later more are h. path.linked spot later (record { operations = more.operations; arguments = more.arguments; sides = more.sides }) are h;
    });
  }

  -- ---------- simple statements ----------
  -- one step that says what the statement says
  pub emits-one : (old mid new : Bodies) (at : Span) (next : ℕ) (a : Action) (tie : Tie) → next < length old.steps → Grows old mid → IsSimple a → IsActionIn mid u a
      → new ≡ record mid { steps = mid.steps ++ record { span = at; next = next; action = a } ∷ [] }
      → Emits u old next new (length mid.steps) (λ rest. Do at (instruction_of mid tie a) rest)
  emits-one old mid new at next a tie within grows simple there is = record {
    added = s ∷ [];
    steps = has.steps_are ∙ ap (λ (l : List Step). l ++ s ∷ []) grows.steps;
    extends = Extends-trans old mid new (Grows-extends old mid grows) has.extends;
    entries = has.entries ∙ grows.entries;
    there = omega (arith, length-append mid.steps (s ∷ []), ap (λ (l : List Step). length l) has.steps_are);
    path = λ m rest st.
        let given = λ (spot : ℕ → Spot) (all : List Step). StandsAt spot all next (spot_of m rest st) in
        let here = spot_of m (Do at (instruction_of mid tie a) rest) st in
        path-as u new (length old.steps) (s ∷ []) given (λ spot all. StandsAt spot all (length old.steps) here) given (λ spot all. StandsAt spot all (length mid.steps) here) (λ spot all h. h) (λ spot all h. subst (λ n. StandsAt spot all n here) (sym same) h)
        (path-one u new (length old.steps) s here given (linked m rest st) (λ is_simple. within));
  }
    where
      s : Step
      s = record { span = at; next = next; action = a }

      has : HasSteps mid new (mid.steps ++ record { span = at; next = next; action = a } ∷ [])
      has = with-steps mid new (mid.steps ++ record { span = at; next = next; action = a } ∷ []) is

      same : length mid.steps ≡ length old.steps
      same = ap (λ (l : List Step). length l) grows.steps

      linked : (m : ℕ) (rest : Code) (st : List Enclosing) (spot : ℕ → Spot) (later : Bodies) → Extends new later → StandsAt spot later.steps next (spot_of m rest st)
          → IsLinked (λ q there. StandsAt spot later.steps q there) later u (spot_of m (Do at (instruction_of mid tie a) rest) st) (record { span = at; next = next; action = a })
      linked m rest st spot later more h =
          let grown = Extends-trans mid new later has.extends more in
          let here = spot_of m (Do at (instruction_of mid tie a) rest) st in
          let is_do : IsDo (λ q there. StandsAt spot later.steps q there) later u here at next a = record {
            tie = tie;
            rest = rest;
            code = ap (λ i. Do at i rest) (sym (action-stays mid later u grown tie a there));
            after = h;
          } in
          (do-linked spot later.steps later u here at next a simple is_do, action-in-stays mid later u grown a there)

  -- ---------- statements with blocks ----------
  -- an if: both blocks lead on to what comes next
  pub emits-if : (old mid1 mid2 mid3 new : Bodies) (at : Span) (next first other : ℕ) (e : Expression) (term : Term) (own1 own2 : List ℕ) (f g : Code → Code)
      → Emits u old next mid1 other g → Emits u mid1 next mid2 first f → Grows mid2 mid3 → IsExpressionIn mid3.operations e → expression_term mid3.operations e ≡ term
      → new ≡ record mid3 { steps = mid3.steps ++ record { span = at; next = first; action = actions.If e other } ∷ [] }
      → Emits u old next new (length mid3.steps) (λ rest. If at term own1 (f End) own2 (g End) rest)
  emits-if old mid1 mid2 mid3 new at next first other e term own1 own2 f g second first_block grows inside same is = record {
    added = (second.added ++ first_block.added) ++ s ∷ [];
    steps =
        has.steps_are
        ∙ ap (λ (l : List Step). l ++ s ∷ []) (grows.steps ∙ first_block.steps ∙ ap (λ (l : List Step). l ++ first_block.added) second.steps ∙ append_assoc old.steps second.added first_block.added)
        ∙ append_assoc old.steps (second.added ++ first_block.added) (s ∷ []);
    extends = Extends-trans old mid1 new second.extends (Extends-trans mid1 mid2 new first_block.extends to_new);
    entries = has.entries ∙ grows.entries ∙ first_block.entries ∙ second.entries;
    there = omega (arith, length-append mid3.steps (s ∷ []), ap (λ (l : List Step). length l) has.steps_are);
    path = λ m rest st.
        let given = λ (spot : ℕ → Spot) (all : List Step). StandsAt spot all next (spot_of m rest st) in
        let at_no = λ (spot : ℕ → Spot) (all : List Step). StandsAt spot all other (spot_of m (g End) (InBlock own2 rest ∷ st)) in
        let at_yes = λ (spot : ℕ → Spot) (all : List Step). StandsAt spot all first (spot_of m (f End) (InBlock own1 rest ∷ st)) in
        let both = path-beside u mid1 mid2 (length old.steps) (length mid1.steps) second.added first_block.added given at_no at_yes (count-more old mid1 second.added second.steps) first_block.extends
        (second.path m End (InBlock own2 rest ∷ st)) (first_block.path m End (InBlock own1 rest ∷ st)) in
        path-last u mid2 new (length old.steps) (length mid3.steps) (second.added ++ first_block.added) s (spot_of m (If at term own1 (f End) own2 (g End) rest) st) given (λ spot all. at_no spot all × at_yes spot all)
        count to_new both
        (λ spot later more h.
        let grown = Extends-trans mid3 new later has.extends more in (
          record {
            own1 = own1;
            yes = f End;
            own2 = own2;
            no = g End;
            rest = rest;
            code = ap (λ t. If at t own1 (f End) own2 (g End) rest) (sym (expression-stays mid3.operations later.operations grown.operations e inside ∙ same));
            first = h.1.1;
            second = h.1.0;
          },
          expression-in-stays mid3.operations later.operations grown.operations e inside,
        ))
        (λ simple. absurd simple);
  }
    where
      s : Step
      s = record { span = at; next = first; action = actions.If e other }

      has : HasSteps mid3 new (mid3.steps ++ record { span = at; next = first; action = actions.If e other } ∷ [])
      has = with-steps mid3 new (mid3.steps ++ record { span = at; next = first; action = actions.If e other } ∷ []) is

      to_new : Extends mid2 new
      to_new = Extends-trans mid2 mid3 new (Grows-extends mid2 mid3 grows) has.extends

      count : length mid3.steps ≡ length old.steps + length (second.added ++ first_block.added)
      count = omega (arith, ap (λ (l : List Step). length l) grows.steps, count-more mid1 mid2 first_block.added first_block.steps, count-more old mid1 second.added second.steps, length-append second.added first_block.added)

  -- a while: its place is taken before its body, which leads back to it
  emits-loop : (old mid0 mid1 mid2 new : Bodies) (at : Span) (hold : Step) (next body : ℕ) (e : Expression) (term : Term) (own : List ℕ) (f : Code → Code)
      → Grows old mid0 → IsExpressionIn mid0.operations e → expression_term mid0.operations e ≡ term → mid1 ≡ record mid0 { steps = mid0.steps ++ hold ∷ [] } → (b : Emits u mid1 (length mid0.steps) mid2 body f)
      → new ≡ record mid2 { steps = slice_set mid2.steps (length mid0.steps) (record { span = at; next = next; action = actions.While e body }) }
      → Emits u old next new (length mid0.steps) (λ rest. While at term own (f End) rest)
  emits-loop old mid0 mid1 mid2 new at hold next body e term own f grows inside same held b is = record {
    added = s ∷ b.added;
    steps = new_steps ∙ ap (λ (l : List Step). l ++ s ∷ b.added) grows.steps;
    extends = Extends-trans old mid0 new (Grows-extends old mid0 grows) to_new;
    entries = has.entries ∙ b.entries ∙ has1.entries ∙ grows.entries;
    there = omega (arith, length-append mid0.steps (s ∷ b.added), ap (λ (l : List Step). length l) new_steps);
    path = λ m rest st.
        let loop = While at term own (f End) rest in
        let here = spot_of m loop st in
        let inner = b.path m End (InBlock own loop ∷ st) in
        record {
          spots = here ∷ inner.spots;
          count = ap suc inner.count;
          linked = λ spot later more are h.
              let is_here : StandsAt spot later.steps (length mid0.steps) here = subst (λ n. StandsAt spot later.steps n here) (sym same_place) are.0 in
              let behind : AreAt spot later.steps (length mid1.steps) inner.spots = subst (λ n. AreAt spot later.steps n inner.spots) (sym next_place) are.1 in
              let a = inner.linked spot later (Extends-trans mid2 new later has.extends more) behind is_here in
              let grown = Extends-trans mid0 new later to_new more in
              let is_while : IsWhile (λ q there. StandsAt spot later.steps q there) later u here at next e body = record {
                own = own;
                body = f End;
                rest = rest;
                code = ap (λ t. While at t own (f End) rest) (sym (expression-stays mid0.operations later.operations grown.operations e inside ∙ same));
                again = a.1;
                after = h;
              } in
              let linked : IsLinkedAt spot later u (length old.steps) s = record {
                linked = subst (λ (x : Spot). IsLinked (λ q there. StandsAt spot later.steps q there) later u x s) (sym are.0.1) (is_while, expression-in-stays mid0.operations later.operations grown.operations e inside);
                falls = λ simple. absurd simple;
              } in
              ((linked, subst (λ n. AreLinkedAt spot later u n b.added) next_place a.0), is_here);
        };
  }
    where
      s : Step
      s = record { span = at; next = next; action = actions.While e body }

      set-at : (xs added : List Step) (x y : Step) → slice_set ((xs ++ x ∷ []) ++ added) (length xs) y ≡ xs ++ y ∷ added
      set-at [] added x y = refl
      set-at (z ∷ xs) added x y = ap (λ (l : List Step). z ∷ l) (set-at xs added x y)

      has1 : HasSteps mid0 mid1 (mid0.steps ++ hold ∷ [])
      has1 = with-steps mid0 mid1 (mid0.steps ++ hold ∷ []) held

      has : HasSteps mid2 new (slice_set mid2.steps (length mid0.steps) (record { span = at; next = next; action = actions.While e body }))
      has = with-steps mid2 new (slice_set mid2.steps (length mid0.steps) (record { span = at; next = next; action = actions.While e body })) is

      to_new : Extends mid0 new
      to_new = Extends-trans mid0 mid1 new has1.extends (Extends-trans mid1 mid2 new b.extends has.extends)

      new_steps : new.steps ≡ mid0.steps ++ record { span = at; next = next; action = actions.While e body } ∷ b.added
      new_steps =
          has.steps_are
          ∙ ap (λ (l : List Step). slice_set l (length mid0.steps) (record { span = at; next = next; action = actions.While e body })) (b.steps ∙ ap (λ (l : List Step). l ++ b.added) has1.steps_are)
          ∙ set-at mid0.steps b.added hold (record { span = at; next = next; action = actions.While e body })

      same_place : length mid0.steps ≡ length old.steps
      same_place = ap (λ (l : List Step). length l) grows.steps

      next_place : length mid1.steps ≡ suc (length old.steps)
      next_place = omega (arith, same_place, length-append mid0.steps (hold ∷ []), ap (λ (l : List Step). length l) has1.steps_are)

  -- the same by the number of the place
  pub emits-while : (old mid0 mid1 mid2 new : Bodies) (at : Span) (hold : Step) (next place body : ℕ) (e : Expression) (term : Term) (own : List ℕ) (f : Code → Code)
      → Grows old mid0 → IsExpressionIn mid0.operations e → expression_term mid0.operations e ≡ term → place ≡ length mid0.steps → mid1 ≡ record mid0 { steps = mid0.steps ++ hold ∷ [] }
      → Emits u mid1 place mid2 body f → new ≡ record mid2 { steps = slice_set mid2.steps place (record { span = at; next = next; action = actions.While e body }) }
      → Emits u old next new place (λ rest. While at term own (f End) rest)
  emits-while old mid0 mid1 mid2 new at hold next place body e term own f grows inside same is_place held =
      subst
      (λ p. Emits u mid1 p mid2 body f → new ≡ record mid2 { steps = slice_set mid2.steps p (record { span = at; next = next; action = actions.While e body }) } → Emits u old next new p (λ rest. While at term own (f End) rest))
      (sym is_place)
      (emits-loop old mid0 mid1 mid2 new at hold next body e term own f grows inside same held)

  -- what stands in the middle of a list
  seam : {A : Type 0} (xs ys : List A) (y : A) → slice_get ((xs ++ y ∷ []) ++ ys) (length xs) ≡ Some y
  seam [] ys y = refl
  seam (x ∷ xs) ys y = seam xs ys y

  -- a par: both sides lead to one end
  emits-fork : (old mid0 mid1 mid2 new : Bodies) (at zone : Span) (next last left right : ℕ) (own1 own2 : List ℕ) (f g : Code → Code) (sides : Sides)
      → mid0 ≡ record old { steps = old.steps ++ record { span = zone; next = last; action = actions.End } ∷ [] }
      → Emits u mid0 (length old.steps) mid1 left f → Emits u mid1 (length old.steps) mid2 right g → Holds sides.left (block_writes own1 (f End)) → Holds sides.right (block_writes own2 (g End))
      → new ≡ record mid2 { sides = mid2.sides ++ sides ∷ []; steps = mid2.steps ++ record { span = at; next = next; action = actions.Par left right (length mid2.sides) } ∷ [] }
      → Emits u old next new (length mid2.steps) (λ rest. Par at own1 (f End) own2 (g End) rest)
  emits-fork old mid0 mid1 mid2 new at zone next last left right own1 own2 f g sides held a b left_writes right_writes is = record {
    added = ((e ∷ []) ++ (a.added ++ b.added)) ++ s ∷ [];
    steps =
        has.steps_are
        ∙ ap (λ (l : List Step). l ++ s ∷ []) (b.steps ∙ ap (λ (l : List Step). l ++ b.added) (a.steps ∙ ap (λ (l : List Step). l ++ a.added) has0.steps_are))
        ∙ assoc;
    extends = Extends-trans old mid0 new has0.extends (Extends-trans mid0 mid1 new a.extends (Extends-trans mid1 mid2 new b.extends has.extends));
    entries = has.entries ∙ b.entries ∙ a.entries ∙ has0.entries;
    there = omega (arith, length-append mid2.steps (s ∷ []), ap (λ (l : List Step). length l) has.steps_are);
    path = λ m rest st.
        let given = λ (spot : ℕ → Spot) (all : List Step). StandsAt spot all next (spot_of m rest st) in
        let stop = spot_of m End [] in
        let at_stop = λ (spot : ℕ → Spot) (all : List Step). StandsAt spot all (length old.steps) stop in
        let at_left = λ (spot : ℕ → Spot) (all : List Step). StandsAt spot all left (spot_of m (f End) []) in
        let at_right = λ (spot : ℕ → Spot) (all : List Step). StandsAt spot all right (spot_of m (g End) []) in
        let one = path-one u mid0 (length old.steps) e stop given (λ spot later more h. let is_end : IsEnd (λ q there. StandsAt spot later.steps q there) later u stop zone last = record { code = refl; within = refl } in (is_end, tt)) (λ simple. absurd simple) in
        let both = path-beside u mid1 mid2 (length mid0.steps) (length mid1.steps) a.added b.added at_stop at_left at_right (count-more mid0 mid1 a.added a.steps) b.extends (a.path m End []) (b.path m End []) in
        let whole = path-on u mid0 mid2 (length old.steps) (length mid0.steps) (e ∷ []) (a.added ++ b.added) given at_stop (λ spot all. at_left spot all × at_right spot all) (count-more old mid0 (e ∷ []) has0.steps_are) (Extends-trans mid0 mid1 mid2 a.extends b.extends) one both in
        path-last u mid2 new (length old.steps) (length mid2.steps) ((e ∷ []) ++ (a.added ++ b.added)) s (spot_of m (Par at own1 (f End) own2 (g End) rest) st) given (λ spot all. at_left spot all × at_right spot all)
        count has.extends whole
        (λ spot later more h.
        let is_par : IsPar (λ q there. StandsAt spot later.steps q there) later u (spot_of m (Par at own1 (f End) own2 (g End) rest) st) at next left right (length mid2.sides) = record {
          own1 = own1;
          left = f End;
          own2 = own2;
          right = g End;
          rest = rest;
          code = refl;
          begin_left = h.1.0;
          begin_right = h.1.1;
          after = h.0;
          sides = sides;
          there = ap (λ (l : List Sides). slice_get l (length mid2.sides)) (kept later more) ∙ seam mid2.sides (more.sides.0) sides;
          writes = record { left_writes = left_writes; right_writes = right_writes };
        } in
        (is_par, within later more))
        (λ simple. absurd simple);
  }
    where
      e : Step
      e = record { span = zone; next = last; action = actions.End }

      s : Step
      s = record { span = at; next = next; action = actions.Par left right (length mid2.sides) }

      has0 : HasSteps old mid0 (old.steps ++ record { span = zone; next = last; action = actions.End } ∷ [])
      has0 = with-steps old mid0 (old.steps ++ record { span = zone; next = last; action = actions.End } ∷ []) held

      has : HasSteps mid2 new (mid2.steps ++ record { span = at; next = next; action = actions.Par left right (length mid2.sides) } ∷ [])
      has = with-sides mid2 new sides (mid2.steps ++ record { span = at; next = next; action = actions.Par left right (length mid2.sides) } ∷ []) is

      new_sides : new.sides ≡ mid2.sides ++ sides ∷ []
      new_sides = ap (λ (n : Bodies). n.sides) is

      kept : (later : Bodies) (more : Extends new later) → later.sides ≡ (mid2.sides ++ sides ∷ []) ++ more.sides.0
      kept later more = more.sides.1 ∙ ap (λ (l : List Sides). l ++ more.sides.0) new_sides

      within : (later : Bodies) → Extends new later → length mid2.sides < length later.sides
      within later more = omega (arith, HasMore-length new.sides later.sides more.sides, length-append mid2.sides (sides ∷ []), ap (λ (l : List Sides). length l) new_sides)

      assoc : (((old.steps ++ record { span = zone; next = last; action = actions.End } ∷ []) ++ a.added) ++ b.added) ++ record { span = at; next = next; action = actions.Par left right (length mid2.sides) } ∷ []
          ≡ old.steps ++ (((record { span = zone; next = last; action = actions.End } ∷ []) ++ (a.added ++ b.added)) ++ record { span = at; next = next; action = actions.Par left right (length mid2.sides) } ∷ [])
      assoc = simp append_assoc

      count : length mid2.steps ≡ length old.steps + length ((record { span = zone; next = last; action = actions.End } ∷ []) ++ (a.added ++ b.added))
      count = omega (arith, count-more old mid0 (record { span = zone; next = last; action = actions.End } ∷ []) has0.steps_are, count-more mid0 mid1 a.added a.steps, count-more mid1 mid2 b.added b.steps, length-append a.added b.added)

  -- the same by the number of the end's place
  pub emits-par : (old mid0 mid1 mid2 new : Bodies) (at zone : Span) (next last end left right : ℕ) (own1 own2 : List ℕ) (f g : Code → Code) (sides : Sides)
      → end ≡ length old.steps → mid0 ≡ record old { steps = old.steps ++ record { span = zone; next = last; action = actions.End } ∷ [] }
      → Emits u mid0 end mid1 left f → Emits u mid1 end mid2 right g → Holds sides.left (block_writes own1 (f End)) → Holds sides.right (block_writes own2 (g End))
      → new ≡ record mid2 { sides = mid2.sides ++ sides ∷ []; steps = mid2.steps ++ record { span = at; next = next; action = actions.Par left right (length mid2.sides) } ∷ [] }
      → Emits u old next new (length mid2.steps) (λ rest. Par at own1 (f End) own2 (g End) rest)
  emits-par old mid0 mid1 mid2 new at zone next last end left right own1 own2 f g sides is_end held a b left_writes right_writes is =
      emits-fork old mid0 mid1 mid2 new at zone next last left right own1 own2 f g sides held (subst (λ p. Emits u mid0 p mid1 left f) is_end a) (subst (λ p. Emits u mid1 p mid2 right g) is_end b) left_writes right_writes is

  -- a recover: its body leads to the give, and that to what comes next
  emits-hidden : (old mid0 mid1 new : Bodies) (at give : Span) (next first w x : ℕ) (own hides : List ℕ) (f : Code → Code)
      → mid0 ≡ record old { steps = old.steps ++ record { span = give; next = next; action = actions.Give w x } ∷ [] } → Emits u mid0 (length old.steps) mid1 first f
      → new ≡ record mid1 { steps = mid1.steps ++ record { span = at; next = first; action = actions.Recover } ∷ [] }
      → Emits u old next new (length mid1.steps) (λ rest. Recover at x own hides (f (Give give w x)) rest)
  emits-hidden old mid0 mid1 new at give next first w x own hides f held a is = record {
    added = ((e ∷ []) ++ a.added) ++ s ∷ [];
    steps = has.steps_are ∙ ap (λ (l : List Step). l ++ s ∷ []) (a.steps ∙ ap (λ (l : List Step). l ++ a.added) has0.steps_are) ∙ assoc;
    extends = Extends-trans old mid0 new has0.extends (Extends-trans mid0 mid1 new a.extends has.extends);
    entries = has.entries ∙ a.entries ∙ has0.entries;
    there = omega (arith, length-append mid1.steps (s ∷ []), ap (λ (l : List Step). length l) has.steps_are);
    path = λ m rest st.
        let within = InRecover own hides rest ∷ st in
        let given = λ (spot : ℕ → Spot) (all : List Step). StandsAt spot all next (spot_of m rest st) in
        let stop = spot_of m (Give give w x) within in
        let at_stop = λ (spot : ℕ → Spot) (all : List Step). StandsAt spot all (length old.steps) stop in
        let at_first = λ (spot : ℕ → Spot) (all : List Step). StandsAt spot all first (spot_of m (f (Give give w x)) within) in
        let one = path-one u mid0 (length old.steps) e stop given
        (λ spot later more h. let is_give : IsGive (λ q there. StandsAt spot later.steps q there) later u stop give next w x = record { own = own; hides = hides; rest = rest; within = st; code = refl; inside = refl; after = h } in (is_give, tt))
        (λ simple. absurd simple) in
        let whole = path-on u mid0 mid1 (length old.steps) (length mid0.steps) (e ∷ []) a.added given at_stop at_first (count-more old mid0 (e ∷ []) has0.steps_are) a.extends one (a.path m (Give give w x) within) in
        path-last u mid1 new (length old.steps) (length mid1.steps) ((e ∷ []) ++ a.added) s (spot_of m (Recover at x own hides (f (Give give w x)) rest) st) given at_first
        count has.extends whole
        (λ spot later more h.
        let is_recover : IsRecover (λ q there. StandsAt spot later.steps q there) later u (spot_of m (Recover at x own hides (f (Give give w x)) rest) st) at first = record {
          x = x;
          own = own;
          hides = hides;
          body = f (Give give w x);
          rest = rest;
          code = refl;
          first = h.1;
        } in
        (is_recover, tt))
        (λ simple. absurd simple);
  }
    where
      e : Step
      e = record { span = give; next = next; action = actions.Give w x }

      s : Step
      s = record { span = at; next = first; action = actions.Recover }

      has0 : HasSteps old mid0 (old.steps ++ record { span = give; next = next; action = actions.Give w x } ∷ [])
      has0 = with-steps old mid0 (old.steps ++ record { span = give; next = next; action = actions.Give w x } ∷ []) held

      has : HasSteps mid1 new (mid1.steps ++ record { span = at; next = first; action = actions.Recover } ∷ [])
      has = with-steps mid1 new (mid1.steps ++ record { span = at; next = first; action = actions.Recover } ∷ []) is

      assoc : ((old.steps ++ record { span = give; next = next; action = actions.Give w x } ∷ []) ++ a.added) ++ record { span = at; next = first; action = actions.Recover } ∷ []
          ≡ old.steps ++ (((record { span = give; next = next; action = actions.Give w x } ∷ []) ++ a.added) ++ record { span = at; next = first; action = actions.Recover } ∷ [])
      assoc = simp append_assoc

      count : length mid1.steps ≡ length old.steps + length ((record { span = give; next = next; action = actions.Give w x } ∷ []) ++ a.added)
      count = omega (arith, count-more old mid0 (record { span = give; next = next; action = actions.Give w x } ∷ []) has0.steps_are, count-more mid0 mid1 a.added a.steps)

  -- the same by the number of the place of the `give`
  pub emits-recover : (old mid0 mid1 new : Bodies) (at give : Span) (next end first w x : ℕ) (own hides : List ℕ) (f : Code → Code)
      → end ≡ length old.steps → mid0 ≡ record old { steps = old.steps ++ record { span = give; next = next; action = actions.Give w x } ∷ [] } → Emits u mid0 end mid1 first f
      → new ≡ record mid1 { steps = mid1.steps ++ record { span = at; next = first; action = actions.Recover } ∷ [] }
      → Emits u old next new (length mid1.steps) (λ rest. Recover at x own hides (f (Give give w x)) rest)
  emits-recover old mid0 mid1 new at give next end first w x own hides f is_end held a is =
      emits-hidden old mid0 mid1 new at give next first w x own hides f held (subst (λ p. Emits u mid0 p mid1 first f) is_end a) is
