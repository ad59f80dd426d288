-- A recover block gives its value: what is allowed of the `give` lets the value go where it is taken, and then the branch and the objects fit.
use Rattle.std.proofs.Common.{◌≡◌, ℕ, suc, ◌<◌, Bool, true, false, Some, List, [], ◌∷◌, ◌++◌, length, refl, sym, ap, subst, ◌∙◌}
use Rattle.std.specs.Prelude.{◌&&◌, ◌||◌, not, nat_eq, cond, slice_get}
use Rattle.std.proofs.lemmas.Bool.{or_left, or_right, and_parts}
use Rattle.perm_tree.specs.declared.ast.Perm.{Perm}
use Rattle.perm_tree.specs.declared.ast.Shape.{Shape}
use Rattle.perm_tree.specs.declared.ast.Span.{Span}
use Rattle.perm_tree.specs.declared.ast.Ty.{Ty}
use Rattle.perm_tree.specs.declared.ast.Ty.TheVariants.{Long, Bool as Boolean, Ref}
use Rattle.perm_tree.specs.declared.errors.TypeKind.TheVariants.{PermissionTooWeak, Hidden, BadGive}
use Rattle.perm_tree.specs.Code.{Code, Give, Consumed, UnitCode}
use Rattle.perm_tree.specs.Mentions.{mentioned}
use Rattle.perm_tree.specs.Shapes.{same_shape}
use Rattle.perm_tree.specs.Vars.{Vars, just, those, plus, minus}
use Rattle.perm_perm.specs.Order.{is_at_most}
use Rattle.perm_perm.specs.Adaptation.{raised}
use Rattle.perm_rules.specs.Parts.{Context, Given, type_of, if_both_known, has_isolated, isnt_reference}
use Rattle.perm_rules.specs.Permissions.{raised_weak}
use Rattle.perm_rules.specs.Sorts.{differ}
use Rattle.perm_rules.specs.Refusals.{IsAllowed}
use Rattle.perm_rules.specs.Scoping.{has_none, hides_tied}
use Rattle.perm_rules.proofs.PartLaws.{applies-none, part-known}
use Rattle.perm_meaning.specs.Values.{Value}
use Rattle.perm_meaning.specs.Names.{Name}
use Rattle.perm_meaning.specs.Objects.{Objects}
use Rattle.perm_meaning.specs.Expressions.{tagged, assign, clear, clear_all}
use Rattle.perm_meaning.specs.Custody.{from_either}
use Rattle.perm_meaning.specs.Machine.{Frame, OpenRecover, Way, Here, On, done}
use Rattle.perm_meaning.specs.NamedHeap.{Held, Own, Branch}
use Rattle.perm_meaning.proofs.SameName.{eq-itself}
use Rattle.perm_core.specs.Core.{core}
use Rattle.perm_core.specs.Regions.{Zone, Base, Region, OwnOf, OfVariable, Labels, calls, zones, top_zone}
use Rattle.perm_core.specs.Picture.{context_of, variables_fit, stack_fits, tree_fits, object_fits, valued, hidden_above, context_above, grown, recover_right, code_right, stack_right, only_valued, none_valued, stack_hidden}
use Rattle.perm_core.specs.NextPicture.{Moves, Ends, moved, renamed, goal, goal_of, goal_at, consumed_moves, perm_of, ended_to, give_moves}
use Rattle.perm_core.proofs.KeepsPicture.Turns.Arguments.{get-some}
use Rattle.perm_core.proofs.KeepsPicture.Calls.CallEnds.{StartsLow}
use Rattle.perm_core.proofs.KeepsPicture.Calls.Gives as gives
use Rattle.perm_core.proofs.KeepsPicture.Order.HiddenVariables.{uncovered}
use Rattle.perm_core.proofs.KeepsPicture.Pars.Joins.{moved-append}
use Rattle.perm_core.proofs.KeepsPicture.Turns.PlainTurns.{on-fits}

-- the given variable and the one that takes its value are references of one shape, and the value is raised enough
pub record GiveTypes (c : Context) (v x : ℕ) : Type 0 where
  pub p : Perm
  pub q : Perm
  pub s : Shape
  pub t : Shape
  pub gives : type_of c v ≡ Some (Ref p s)
  pub takes : type_of c x ≡ Some (Ref q t)
  pub shapes : same_shape s t ≡ true
  pub order : is_at_most (raised p) q ≡ true

-- so it is of an allowed `give`
pub give-types : (c : Context) (v x : ℕ) (G : Vars) → IsAllowed c (Given v x) G → GiveTypes c v x
give-types c v x G allowed = go (get-some c.vars v there_v) (get-some c.vars x there_x)
  where
    there_v : v < length c.vars
    there_v = part-known c (Given v x) G allowed v (or_left (nat_eq v v) (nat_eq v x) (eq-itself v))

    there_x : x < length c.vars
    there_x = part-known c (Given v x) G allowed x (or_right (nat_eq x v) (nat_eq x x) (eq-itself x))

    order_of : (a b : Bool) → a ≡ true → (a && not b) ≡ false → b ≡ true
    order_of true true e f = refl
    order_of true false e f = absurd (let no : ⊥ = cc f in no)
    order_of false b e f = absurd (let no : ⊥ = cc e in no)

    not-false : (b : Bool) → not b ≡ false → b ≡ true
    not-false true e = refl
    not-false false e = absurd (let no : ⊥ = cc e in no)

    types : (a b : Ty) → type_of c v ≡ Some a → type_of c x ≡ Some b → (isnt_reference a || differ a b) ≡ false → raised_weak a b ≡ false → GiveTypes c v x
    types (Ref p s) (Ref q t) i j bad weak =
        let shapes = not-false (same_shape s t) bad in
        record { p = p; q = q; s = s; t = t; gives = i; takes = j; shapes = shapes; order = order_of (same_shape s t) (is_at_most (raised p) q) shapes weak }
    types (Ref p s) Long i j bad weak = absurd (let no : ⊥ = cc bad in no)
    types (Ref p s) Boolean i j bad weak = absurd (let no : ⊥ = cc bad in no)
    types Long b i j bad weak = absurd (let no : ⊥ = cc bad in no)
    types Boolean b i j bad weak = absurd (let no : ⊥ = cc bad in no)

    go : (a : Ty) × (type_of c v ≡ Some a) → (b : Ty) × (type_of c x ≡ Some b) → GiveTypes c v x
    go (a, i) (b, j) =
        let known : (test : Ty → Ty → Bool) → if_both_known (type_of c v) (type_of c x) test ≡ test a b = λ test. ap (λ o. if_both_known o (type_of c x) test) i ∙ ap (λ o. if_both_known (Some a) o test) j in
        types a b i j (sym (known (λ t u. isnt_reference t || differ t u)) ∙ applies-none c (Given v x) G allowed BadGive) (sym (known raised_weak) ∙ applies-none c (Given v x) G allowed PermissionTooWeak)

module _ (u : UnitCode) (labels : Labels) (h : Objects Name) (at : Way → Way) (z : Zone) (low : StartsLow (at Here) z) (below : List ℕ) (b : Branch) (y x : ℕ) (own hides : List ℕ) (saved : List Held) (rest : Code) (st : List (Frame Held)) (G : Vars)
    (allowed : IsAllowed (context_above u below b.own.routine (OpenRecover own hides saved rest ∷ st)) (Given y x) G) where
  abbrev c : Context
  c = context_of u b.own.routine

  abbrev f : Frame Held
  f = OpenRecover own hides saved rest

  -- the labels after the `give`
  abbrev pub gave : Labels
  gave n = moved (give_moves u labels c (at Here) z y x (f ∷ st)) (labels n)

  ts : GiveTypes c y x
  ts = let is = give-types (context_above u below b.own.routine (f ∷ st)) y x G allowed in record { p = is.p; q = is.q; s = is.s; t = is.t; gives = is.gives; takes = is.takes; shapes = is.shapes; order = is.order }

  abbrev by_types : Labels
  by_types = gives.after u labels h (at Here) z st low below rest b.own.routine y x ts.p ts.q ts.s ts.t own hides

  gave-so : gave ≡ by_types
  gave-so i n = same i
    where
      w : Way
      w = at Here

      to : Region
      to = goal ts.q (OfVariable w (calls st) x) (OwnOf (top_zone w z st))

      home : goal_at c w z st x ≡ to
      home = ap (λ o. goal_of o (OfVariable w (calls st) x) (OwnOf (top_zone w z st))) ts.takes

      same : gave n ≡ by_types n
      same =
          moved-append (consumed_moves c w (calls st) (Consumed y) (goal_at c w z st x)) (Ends w (suc (zones st)) (ended_to (perm_of (type_of c y)) (goal_at c w z st x)) ∷ []) (labels n)
          ∙ ap (λ g. renamed (Ends w (suc (zones st)) (ended_to (perm_of (type_of c y)) g)) (moved (cond (has_isolated (type_of c y)) (Moves (OfVariable w (calls st) y) g ∷ []) []) (labels n))) home
          ∙ ap (λ o. renamed (Ends w (suc (zones st)) (ended_to (perm_of o) to)) (moved (cond (has_isolated o) (Moves (OfVariable w (calls st) y) to ∷ []) []) (labels n))) ts.gives

  module _ (span : Span) (val : Value Name) (fits : variables_fit u labels h (Base (at Here) (suc (zones st))) (at Here) (calls st) 0 c.vars b.own.vars ≡ true) (stack : stack_fits u labels h (at Here) z b.own.routine (f ∷ st) ≡ true)
      (right : stack_right u b.own.routine (Give span y x) (f ∷ st) (valued b.own.vars) ≡ true) (hid : stack_hidden below (Give span y x) (f ∷ st) ≡ true) (has : slice_get b.own.vars y ≡ Some (Some val)) where
    abbrev U : Vars
    U = plus (valued b.own.vars) (mentioned (Give span y x))

    tied : hides_tied c (minus U (those own)) hides ≡ true
    tied =
        let next : Bool = stack_right u b.own.routine rest st (grown f (Give span y x) (valued b.own.vars)) in
        (and_parts (recover_right c f (Give span y x) (valued b.own.vars)) next (and_parts (code_right c (Give span y x) (valued b.own.vars)) (recover_right c f (Give span y x) (valued b.own.vars) && next) right).1).0

    laid : variables_fit u labels h (top_zone (at Here) z st) (at Here) (calls st) 0 c.vars saved ≡ true
    laid = (and_parts (variables_fit u labels h (top_zone (at Here) z st) (at Here) (calls st) 0 c.vars saved) (stack_fits u labels h (at Here) z b.own.routine st) stack).0

    lower : stack_fits u labels h (at Here) z b.own.routine st ≡ true
    lower = (and_parts (variables_fit u labels h (top_zone (at Here) z st) (at Here) (calls st) 0 c.vars saved) (stack_fits u labels h (at Here) z b.own.routine st) stack).1

    abbrev first_part : Bool
    first_part = only_valued hides saved && none_valued (hidden_above below st) saved

    parts : (first_part ≡ true) × (has_none (just x) (hidden_above below st) && stack_hidden below rest st ≡ true)
    parts = and_parts first_part (has_none (just x) (hidden_above below st) && stack_hidden below rest st) hid

    only : only_valued hides saved ≡ true
    only = (and_parts (only_valued hides saved) (none_valued (hidden_above below st) saved) parts.0).0

    shown : those (hides ++ hidden_above below st) y ≡ false
    shown = uncovered u below b.own.routine (f ∷ st) y (applies-none (context_above u below b.own.routine (f ∷ st)) (Given y x) G allowed Hidden)

    abbrev pub new : List Held
    new = assign (from_either (those hides) saved (clear_all tagged (clear tagged b.own.vars y) own)) x (Some val)

    vars-fit : variables_fit u gave h (top_zone (at Here) z st) (at Here) (calls st) 0 c.vars new ≡ true
    vars-fit =
        subst (λ (ls : Labels). variables_fit u ls h (top_zone (at Here) z st) (at Here) (calls st) 0 c.vars new ≡ true) (sym gave-so)
        (gives.given-fits u labels h (at Here) z st low below rest b.own.routine y x ts.p ts.q ts.s ts.t own hides b.own.vars saved val U fits laid (λ n e. or_left (valued b.own.vars n) (mentioned (Give span y x) n) e) tied ts.gives ts.takes ts.shapes ts.order shown only has)

    stack-fit : stack_fits u gave h (at Here) z b.own.routine st ≡ true
    stack-fit =
        subst (λ (ls : Labels). stack_fits u ls h (at Here) z b.own.routine st ≡ true) (sym gave-so)
        (gives.below-fits u labels h (at Here) z st low below rest b.own.routine y x ts.p ts.q ts.s ts.t own hides b.own.vars saved val U fits laid (λ n e. or_left (valued b.own.vars n) (mentioned (Give span y x) n) e) tied ts.gives ts.takes ts.shapes ts.order shown only has
        (and_parts (has_none (just x) (hidden_above below st)) (stack_hidden below rest st) parts.1).1 lower)

    -- the branch that goes on fits
    pub give-fits : (l : Own) (t : ℕ) → l.vars ≡ new → l.routine ≡ b.own.routine → tree_fits u gave h at z (done (core u) b t (On l rest st)) ≡ true
    give-fits l t vars routine = on-fits u gave h (at Here) z b l t b.own.routine new rest st vars routine vars-fit stack-fit at refl

    -- and so do the objects
    pub give-objects : ((n : Name) → object_fits u labels h n (h n) ≡ true) → (n : Name) → object_fits u gave h n (h n) ≡ true
    give-objects all n =
        subst (λ (ls : Labels). object_fits u ls h n (h n) ≡ true) (sym gave-so)
        (gives.objects-fit u labels h (at Here) z st low below rest b.own.routine y x ts.p ts.q ts.s ts.t own hides b.own.vars saved val U fits laid (λ n e. or_left (valued b.own.vars n) (mentioned (Give span y x) n) e) tied ts.gives ts.takes ts.shapes ts.order shown only has all n)
