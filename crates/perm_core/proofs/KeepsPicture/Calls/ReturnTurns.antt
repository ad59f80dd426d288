-- A call returns: the caller and the objects fit after it, however the call was tied.
use Rattle.std.proofs.Common.{◌≡◌, ℕ, suc, ◌<◌, Bool, true, false, Option, Some, List, ◌∷◌, refl, sym, ap, subst, ◌∙◌, le_refl, inl, inr}
use Rattle.std.specs.Prelude.{◌⊎◌, ◌&&◌, slice_get}
use Rattle.std.proofs.lemmas.Bool.{and_parts}
use Rattle.perm_tree.specs.declared.ast.Span.{Span}
use Rattle.perm_tree.specs.declared.errors.TypeKind.TheVariants.{WrongKind, Gone, NeedsConsume, PermissionTooWeak}
use Rattle.perm_tree.specs.Code.{Tie, Shares, Raises, Lends, Argument, Expression, Consumed, Code, Return, UnitCode}
use Rattle.perm_tree.specs.Vars.{Vars, those, plus}
use Rattle.perm_rules.specs.Parts.{Context, Returned, type_of}
use Rattle.perm_rules.specs.Refusals.{IsAllowed}
use Rattle.perm_rules.specs.Scoping.{has_none}
use Rattle.perm_rules.proofs.PartLaws.{applies-none}
use Rattle.perm_meaning.specs.Values.{Value, Gives}
use Rattle.perm_meaning.specs.Names.{Name}
use Rattle.perm_meaning.specs.Objects.{Objects}
use Rattle.perm_meaning.specs.Expressions.{tagged, assign_into, value_of, clear}
use Rattle.perm_meaning.specs.Machine.{Frame, OpenCall, Way, Here, On, done}
use Rattle.perm_meaning.specs.NamedHeap.{Held, Own, Branch}
use Rattle.perm_meaning.specs.Turns.{lent_back}
use Rattle.perm_core.specs.Core.{core}
use Rattle.perm_core.specs.Regions.{Zone, Base, Region, OwnOf, OfVariable, Labels, is_absent, var_may_lead, calls, zones, top_zone}
use Rattle.perm_core.specs.Picture.{context_of, value_fits, variables_fit, lent_right, lent_fits, result_fits, stack_fits, tree_fits, object_fits, valued, hidden_above, context_above, RestGoes, none_valued, just_lent, just_taken, stack_hidden}
use Rattle.perm_core.specs.NextPicture.{moved, goal_of, goal_into, consumed_moves, tie_moves, return_moves}
use Rattle.perm_core.proofs.Commute.LeafOperations.{looked-up}
use Rattle.perm_core.proofs.KeepsPicture.Turns.Arguments.{Comes, argument-comes}
use Rattle.perm_core.proofs.KeepsPicture.Turns.AssignTurns.{moves, moves-good, moves-own, moves-lower, moves-fields}
use Rattle.perm_core.proofs.KeepsPicture.Calls.CallEnds.{StartsLow, stack-stays, goal-there, into-there}
use Rattle.perm_core.proofs.KeepsPicture.Labels.CarriedValues.{AllFit, to-all, stack-carry}
use Rattle.perm_core.proofs.KeepsPicture.Order.HiddenVariables.{top-goes}
use Rattle.perm_core.proofs.KeepsPicture.Pars.Joins.{moved-append}
use Rattle.perm_core.proofs.KeepsPicture.Turns.LeafTurns.{Gives_one, plain_one, consumes_one}
use Rattle.perm_core.proofs.KeepsPicture.Turns.PlainTurns.{on-fits}
use Rattle.perm_core.proofs.KeepsPicture.Labels.Relabellings.{object-carry}
use Rattle.perm_core.proofs.KeepsPicture.Calls.Returns as returns

-- the value of an argument that nothing comes after
pub gives-one : (a : Argument) (vs : List Held) (v : Held) → value_of tagged a vs ≡ Gives v → (ws : List Held) × Gives_one vs a v ws
gives-one (Expression e) vs v q = (vs, plain_one e v q)
gives-one (Consumed y) vs v q = (clear tagged vs y, consumes_one y v (looked-up (slice_get vs y) v q) q)

module _ (u : UnitCode) (labels : Labels) (h : Objects Name) (at : Way → Way) (z : Zone) (low : StartsLow (at Here) z) (below : List ℕ) (b : Branch) (span : Span) (a : Argument) (tie : Tie) (into : Option ℕ) (y : ℕ) (saved : List Held) (lent : Option Held) (caller : ℕ) (rest : Code) (st : List (Frame Held)) (H : Vars) (v : Held)
    (goes : RestGoes u below b.own.routine (Return span a) (OpenCall tie into y saved lent caller rest ∷ st) (valued b.own.vars) H)
    (vars : variables_fit u labels h (top_zone (at Here) z (OpenCall tie into y saved lent caller rest ∷ st)) (at Here) (suc (calls st)) 0 (context_of u b.own.routine).vars b.own.vars ≡ true)
    (stack : stack_fits u labels h (at Here) z b.own.routine (OpenCall tie into y saved lent caller rest ∷ st) ≡ true) (hid : stack_hidden below (Return span a) (OpenCall tie into y saved lent caller rest ∷ st) ≡ true)
    (gives : value_of tagged a b.own.vars ≡ Gives v) where
  abbrev c : Context
  c = context_of u b.own.routine

  abbrev f : Frame Held
  f = OpenCall tie into y saved lent caller rest

  abbrev from : Zone
  from = top_zone (at Here) z (f ∷ st)

  abbrev to : Region
  to = goal_into (context_of u caller) (at Here) z st into

  abbrev first_to : Region
  first_to = goal_of (Some c.result) to (OwnOf from)

  -- the labels after the return
  abbrev pub gave_back : Labels
  gave_back n = moved (return_moves u labels c (at Here) z a (f ∷ st)) (labels n)

  to-there : is_absent to ≡ false
  to-there = into-there (context_of u caller) (at Here) z st into

  first-there : is_absent first_to ≡ false
  first-there = goal-there (Some c.result) to (OwnOf from) to-there refl

  -- what is consumed goes first
  abbrev ρ : Region → Region
  ρ = moves u labels h c (at Here) (suc (calls st)) first_to first-there a

  abbrev consumed : Labels
  consumed n = moved (consumed_moves c (at Here) (suc (calls st)) a first_to) (labels n)

  fit : AllFit u labels h from (at Here) (suc (calls st)) c.vars b.own.vars
  fit = to-all u labels h from (at Here) (suc (calls st)) c.vars b.own.vars vars

  allowed : IsAllowed (context_above u below b.own.routine (f ∷ st)) (Returned a) (valued b.own.vars)
  allowed = (top-goes u below b.own.routine (Return span a) (f ∷ st) (valued b.own.vars) H goes).1.0

  comes : (d : Value Name) × ((v ≡ Some d) × Comes u labels h c (at Here) (suc (calls st)) from b.own.vars fit c.result to from a d)
  comes =
      argument-comes u labels h c (at Here) (suc (calls st)) from b.own.vars fit c.result to from a v (gives-one a b.own.vars v gives).0 (gives-one a b.own.vars v gives).1
      (applies-none (context_above u below b.own.routine (f ∷ st)) (Returned a) (valued b.own.vars) allowed Gone)
      (applies-none (context_above u below b.own.routine (f ∷ st)) (Returned a) (valued b.own.vars) allowed WrongKind)
      (applies-none (context_above u below b.own.routine (f ∷ st)) (Returned a) (valued b.own.vars) allowed PermissionTooWeak)
      (applies-none (context_above u below b.own.routine (f ∷ st)) (Returned a) (valued b.own.vars) allowed NeedsConsume)
      (λ n p s m q. (λ e. refl, λ e. refl))

  -- what stands below is left alone by that
  carried : stack_fits u consumed h (at Here) z b.own.routine (f ∷ st) ≡ true
  carried =
      stack-carry u labels h ρ (moves-good u labels h c (at Here) (suc (calls st)) first_to first-there a) (at Here) z b.own.routine (f ∷ st)
      (stack-stays u labels h ρ (moves-good u labels h c (at Here) (suc (calls st)) first_to first-there a) (at Here) z below (Return span a) (f ∷ st) (zones (f ∷ st)) stays
      (λ q e. moves-own u labels h c (at Here) (suc (calls st)) first_to first-there a q) low (le_refl (zones (f ∷ st))) hid) stack
    where
      stays : (i n : ℕ) → (i < suc (calls st)) ⊎ ((i ≡ suc (calls st)) × (those (hidden_above below (f ∷ st)) n ≡ true)) → ρ (OfVariable (at Here) i n) ≡ OfVariable (at Here) i n
      stays i n (inl less) = moves-lower u labels h c (at Here) (suc (calls st)) first_to first-there a i n less
      stays i n (inr q) = absurd (let e = q.1 in let no : ⊥ = cc e in no)

  abbrev kept : Bool
  kept = variables_fit u consumed h (top_zone (at Here) z st) (at Here) (calls st) 0 (context_of u caller).vars saved

  abbrev lends : Bool
  lends = lent_right u consumed h tie (type_of (context_of u caller) y) lent && lent_fits u consumed h (Base (at Here) (suc (zones st))) (type_of (context_of u caller) y) lent

  abbrev result : Bool
  result = result_fits u consumed h tie c.result into caller

  abbrev lower : Bool
  lower = stack_fits u consumed h (at Here) z caller st

  pub record Parts : Type 0 where
    pub kept_fit : kept ≡ true
    pub lends_fit : lends ≡ true
    pub result_fit : result ≡ true
    pub lower_fit : lower ≡ true

  parts : Parts
  parts =
      let p = and_parts kept (lends && (result && lower)) carried in
      let q = and_parts lends (result && lower) p.1 in
      let r = and_parts result lower q.1 in
      record { kept_fit = p.0; lends_fit = q.0; result_fit = r.0; lower_fit = r.1 }

  abbrev after : Labels
  after = returns.after u consumed h (at Here) z st low tie into y saved lent caller c.result comes.0

  gave-so : gave_back ≡ after
  gave-so i n = moved-append (consumed_moves c (at Here) (suc (calls st)) a first_to) (tie_moves tie (zones st) (at Here) (calls st) y c.result to) (labels n) i

  came : (t : Tie) → tie ≡ t → returns.ResultCame u consumed h (at Here) z st low tie into y saved lent caller c.result comes.0
  came t q = subst (λ (s : Zone). value_fits h (λ p n. var_may_lead p to s (consumed n)) c.result comes.0 ≡ true) (same t q) comes.1.1
    where
      same : (t : Tie) → tie ≡ t → from ≡ returns.zone_in u consumed h (at Here) z st low tie
      same Shares q = ap (λ (s : Tie). top_zone (at Here) z (OpenCall s into y saved lent caller rest ∷ st)) q ∙ sym (ap (λ (s : Tie). returns.zone_in u consumed h (at Here) z st low s) q)
      same Raises q = ap (λ (s : Tie). top_zone (at Here) z (OpenCall s into y saved lent caller rest ∷ st)) q ∙ sym (ap (λ (s : Tie). returns.zone_in u consumed h (at Here) z st low s) q)
      same Lends q = ap (λ (s : Tie). top_zone (at Here) z (OpenCall s into y saved lent caller rest ∷ st)) q ∙ sym (ap (λ (s : Tie). returns.zone_in u consumed h (at Here) z st low s) q)

  new-vars : variables_fit u gave_back h (top_zone (at Here) z st) (at Here) (calls st) 0 (context_of u caller).vars (assign_into (lent_back lent y saved) into v) ≡ true
  new-vars =
      subst (λ (w : Held). variables_fit u gave_back h (top_zone (at Here) z st) (at Here) (calls st) 0 (context_of u caller).vars (assign_into (lent_back lent y saved) into w) ≡ true) (sym comes.1.0)
      (subst (λ (ls : Labels). variables_fit u ls h (top_zone (at Here) z st) (at Here) (calls st) 0 (context_of u caller).vars (assign_into (lent_back lent y saved) into (Some comes.0)) ≡ true) (sym gave-so)
      (returns.caller-fits u consumed h (at Here) z st low tie into y saved lent caller c.result comes.0 parts.kept_fit parts.lends_fit parts.result_fit (came tie refl)))

  below-hid : stack_hidden below rest st ≡ true
  below-hid = (and_parts (none_valued (hidden_above below st) saved && has_none (plus (just_lent lent y) (just_taken into)) (hidden_above below st)) (stack_hidden below rest st) hid).1

  new-stack : stack_fits u gave_back h (at Here) z caller st ≡ true
  new-stack =
      subst (λ (ls : Labels). stack_fits u ls h (at Here) z caller st ≡ true) (sym gave-so)
      (returns.below-fits u consumed h (at Here) z st low tie into y saved lent caller c.result comes.0 below rest caller below-hid parts.lower_fit)

  -- the caller goes on, and fits
  pub return-fits : (l : Own) (t : ℕ) → l.vars ≡ assign_into (lent_back lent y saved) into v → l.routine ≡ caller → tree_fits u gave_back h at z (done (core u) b t (On l rest st)) ≡ true
  return-fits l t same routine = on-fits u gave_back h (at Here) z b l t caller (assign_into (lent_back lent y saved) into v) rest st same routine new-vars new-stack at refl

  -- and so do the objects
  pub return-objects : ((n : Name) → object_fits u labels h n (h n) ≡ true) → (n : Name) → object_fits u gave_back h n (h n) ≡ true
  return-objects all n =
      subst (λ (ls : Labels). object_fits u ls h n (h n) ≡ true) (sym gave-so)
      (returns.objects-fit u consumed h (at Here) z st low tie into y saved lent caller c.result comes.0
      (λ m. object-carry u labels h ρ (moves-good u labels h c (at Here) (suc (calls st)) first_to first-there a) (moves-fields u labels h c (at Here) (suc (calls st)) first_to first-there a) m (h m) (all m)) n)
