-- Methods are emitted one after the other, and then they are the bodies of their unit.
use Rattle.std.proofs.Common.{◌≡◌, ◌∙◌, ℕ, zero, suc, ◌+◌, List, [], ◌∷◌, ◌++◌, length, Option, Some, None, refl, sym, ap, subst, arith, get_or, map, append_assoc, length-append, add-zero, ◌⊎◌, inl, inr}
use Rattle.std.specs.Prelude.{◌<◌, ◌≤◌, ◌≢◌, nat_eq, Bool, true, false, Contains, slice_get, option_map, IfOk, Result, Ok, Err}
use Rattle.std.proofs.Math.Seq.{get_or-append_seam}
use Rattle.std.proofs.lemmas.Bool.{eqb-true, eq-eqb}
use Rattle.std.proofs.lemmas.List.{length-map}
use Rattle.std.proofs.lemmas.Option.{slice_get-map, slice_get_within, get_or_from_slice_get}
use Rattle.perm_tree.specs.declared.ast.ClassDecl.{ClassDecl}
use Rattle.perm_tree.specs.declared.ast.Method.{Method}
use Rattle.perm_tree.specs.declared.ast.Span.{Span}
use Rattle.perm_tree.specs.declared.ast.Stmt.{Stmt}
use Rattle.perm_tree.specs.declared.ast.Ty.{Ty}
use Rattle.perm_tree.specs.declared.bodies.Action.TheVariants as actions
use Rattle.perm_tree.specs.declared.bodies.Argument.{Argument}
use Rattle.perm_tree.specs.declared.bodies.Bodies.{Bodies}
use Rattle.perm_tree.specs.declared.bodies.Entry.{Entry}
use Rattle.perm_tree.specs.declared.bodies.Step.{Step}
use Rattle.perm_tree.specs.declared.errors.NoMemory.{NoMemory}
use Rattle.perm_tree.specs.declared.unit.MethodTable.{MethodTable}
use Rattle.perm_tree.specs.Code as code
use Rattle.perm_tree.specs.Code.{Code, End, Return, Routine, UnitCode}
use Rattle.perm_tree.specs.CodeNames.{Setting, argument, setting}
use Rattle.perm_tree.specs.CodeOf.{block_code, code_of, routine}
use Rattle.perm_tree.specs.InBody.{all_within, body_if, method_at, method_if, places_with, setting_at, vars_if, HasStmt, IsStmtOf}
use Rattle.perm_tree.specs.Links.{AreBodies, AreBodiesOf, Spot, spot_of, IsReturn, StandsAt}
use Rattle.perm_tree.specs.Lookup.{main_place, method_in, method_of, run_place}
use Rattle.perm_tree.specs.Places.{IsPlaced, Listing, MethodPlaced}
use Rattle.perm_tree.specs.Resolves.{IsResolved}
use Rattle.perm_tree.specs.StatementSteps.{AreSteps, HasReturnOf, HasStepOf}
use Rattle.perm_tree.specs.UnitTables.{Tables}
use Rattle.perm_tree.proofs.BodiesApart.{bodies-apart}
use Rattle.perm_tree.proofs.TableLaws.{AllMethods, length-routines_of, routines_of-at, tables_of-methods}
use Rattle.perm_table.specs.declared.numbering.emit.Fragment.{Fragment}
use Rattle.perm_table.specs.Emission.{AllBegin, AreAt, AreEmitted, AreLinkedAt, BeginsAt, Emits, HasMethod, IsEmitted, IsLinkedAt, IsMethodEmitted, IsPath, MainHas}
use Rattle.perm_table.specs.Growth.{Extends}
use Rattle.perm_table.specs.Numbered.{TellsArgument}
use Rattle.perm_table.specs.StepPlaces.{block_holds, Held, IsNamedIf, Kept}
use Rattle.perm_table.proofs.Growth.{Extends-trans, Grows-extends, argument-in-stays, argument-stays, HasMore-refl}
use Rattle.perm_table.proofs.Emission.Forms.{count-more, with-steps, HasSteps}
use Rattle.perm_table.proofs.Emission.Names.{get-front, get-last, named-from, named-on, Keep}
use Rattle.perm_table.proofs.Emission.Paths.{path-as, path-beside, path-none, path-on, path-one}
use Rattle.perm_table.proofs.Emission.Says.{says-stays}

-- ---------- one method ----------
module _ (k : Setting) where
  -- the `return`, and the body that leads to it
  method-path : (old mid0 mid1 mid2 : Bodies) (at : Span) (next first m : ℕ) (a : Argument) (value : code.Argument) (f : Code → Code)
      → TellsArgument old mid0 value a → mid1 ≡ record mid0 { steps = mid0.steps ++ record { span = at; next = next; action = actions.Return a } ∷ [] } → (b : Emits (code_of k.tables) mid1 (length mid0.steps) mid2 first f)
      → IsPath (code_of k.tables) mid2 (length old.steps) ((record { span = at; next = next; action = actions.Return a } ∷ []) ++ b.added) (λ spot all. Unit {0}) (λ spot all. StandsAt spot all first (spot_of m (f (Return at value)) []))
  method-path old mid0 mid1 mid2 at next first m a value f is held b =
      let u = code_of k.tables in
      let s : Step = record { span = at; next = next; action = actions.Return a } in
      let has : HasSteps mid0 mid1 (mid0.steps ++ s ∷ []) = with-steps mid0 mid1 (mid0.steps ++ s ∷ []) held in
      let same : length mid0.steps ≡ length old.steps = ap (λ (l : List Step). length l) is.grows.steps in
      let here = spot_of m (Return at value) [] in
      let at_here = λ (spot : ℕ → Spot) (all : List Step). StandsAt spot all (length mid0.steps) here in
      let given = λ (spot : ℕ → Spot) (all : List Step). Unit {0} in
      let one : IsPath u mid1 (length old.steps) (s ∷ []) given at_here =
      path-as u mid1 (length old.steps) (s ∷ []) given (λ spot all. StandsAt spot all (length old.steps) here) given at_here (λ spot all h. h) (λ spot all h. subst (λ n. StandsAt spot all n here) (sym same) h)
      (path-one u mid1 (length old.steps) s here given
      (λ spot later more h.
      let grown = Extends-trans mid0 mid1 later has.extends more in
      let is_return : IsReturn (λ q there. StandsAt spot later.steps q there) later u here at next a = record {
        code = ap (Return at) (sym (argument-stays mid0.operations later.operations grown.operations a is.inside ∙ is.value));
        within = refl;
      } in
      (is_return, argument-in-stays mid0.operations later.operations grown.operations a is.inside))
      (λ simple. absurd simple)) in
      let count : length mid1.steps ≡ length old.steps + length (s ∷ []) = omega (arith, same, length-append mid0.steps (s ∷ []), ap (λ (l : List Step). length l) has.steps_are) in
      path-on u mid1 mid2 (length old.steps) (length mid1.steps) (s ∷ []) b.added given at_here (λ spot all. StandsAt spot all first (spot_of m (f (Return at value)) [])) count b.extends one (b.path m (Return at value) [])

  -- a method with its entry
  pub method-emitted : (old mid0 mid1 mid2 new : Bodies) (d : Method) (next end variables : ℕ) (a : Argument) (e : Fragment)
      → variables ≡ length k.vars → TellsArgument old mid0 (argument k d.back) a
      → end ≡ length mid0.steps → mid1 ≡ record mid0 { steps = mid0.steps ++ record { span = d.span; next = next; action = actions.Return a } ∷ [] }
      → IsEmitted k mid1 end mid2 (block_code k d.body.stmts) (block_holds k d.body.stmts) e → new ≡ record mid2 { entries = mid2.entries ++ record { first = e.first; last = end; variables = variables } ∷ [] }
      → IsMethodEmitted k old new d
  method-emitted old mid0 mid1 mid2 new d next end variables a e same is is_end held body added =
      let u = code_of k.tables in
      let s : Step = record { span = d.span; next = next; action = actions.Return a } in
      let b : Emits u mid1 (length mid0.steps) mid2 e.first (block_code k d.body.stmts) = subst (λ p. Emits u mid1 p mid2 e.first (block_code k d.body.stmts)) is_end body.emits in
      let has : HasSteps mid0 mid1 (mid0.steps ++ s ∷ []) = with-steps mid0 mid1 (mid0.steps ++ s ∷ []) held in
      let longer : length old.steps ≤ length mid1.steps = omega (arith, ap (λ (l : List Step). length l) is.grows.steps, length-append mid0.steps (s ∷ []), ap (λ (l : List Step). length l) has.steps_are) in
      subst (λ (n : Bodies). IsMethodEmitted k old n d) (sym added)
      (record {
        first = e.first;
        last = end;
        added = (s ∷ []) ++ b.added;
        steps = b.steps ∙ ap (λ (l : List Step). l ++ b.added) (has.steps_are ∙ ap (λ (l : List Step). l ++ s ∷ []) is.grows.steps) ∙ append_assoc old.steps (s ∷ []) b.added;
        extends = lists mid2 (mid2.entries ++ record { first = e.first; last = end; variables = variables } ∷ [])
            (Extends-trans old mid0 mid2 (Grows-extends old mid0 is.grows) (Extends-trans mid0 mid1 mid2 has.extends b.extends));
        entries =
            ap (λ (l : List Entry). l ++ record { first = e.first; last = end; variables = variables } ∷ []) (b.entries ∙ has.entries ∙ is.grows.entries)
            ∙ ap (λ n. old.entries ++ record { first = e.first; last = end; variables = n } ∷ []) same;
        path = λ m. later_path mid2 (mid2.entries ++ record { first = e.first; last = end; variables = variables } ∷ []) ((s ∷ []) ++ b.added) (λ spot all. StandsAt spot all e.first (spot_of m (block_code k d.body.stmts (Return d.span (argument k d.back))) []))
            (method-path old mid0 mid1 mid2 d.span next e.first m a (argument k d.back) (block_code k d.body.stmts) is held b);
        returns = record {
          step = s;
          there = subst (λ (l : List Step). slice_get l end ≡ Some s) (sym (b.steps ∙ ap (λ (l : List Step). l ++ b.added) has.steps_are)) (get-front (mid0.steps ++ s ∷ []) b.added end s (get-last mid0.steps s end is_end));
          handed = a;
          returns = refl;
          value = argument-stays mid0.operations mid2.operations (Extends-trans mid0 mid1 mid2 has.extends b.extends).operations a is.inside ∙ is.value;
          inside = argument-in-stays mid0.operations mid2.operations (Extends-trans mid0 mid1 mid2 has.extends b.extends).operations a is.inside;
        };
        names = named-on k old mid2 (record mid2 { entries = mid2.entries ++ record { first = e.first; last = end; variables = variables } ∷ [] }) (block_holds k d.body.stmts) (omega (arith, longer, count-more mid1 mid2 b.added b.steps)) (kept mid2 (mid2.entries ++ record { first = e.first; last = end; variables = variables } ∷ [])) refl
            (named-from k old mid1 mid2 (block_holds k d.body.stmts) longer (has.places ∙ is.grows.places) body.names);
      })
    where
      kept : (b : Bodies) (entries : List Entry) → Keep (length old.steps) b (record b { entries = entries })
      kept b entries = record {
        extends = record { operations = HasMore-refl b.operations; arguments = HasMore-refl b.arguments; sides = HasMore-refl b.sides };
        steps = λ p x behind there. there;
      }

      lists : (b : Bodies) (entries : List Entry) → Extends old b → Extends old (record b { entries = entries })
      lists b entries ext = record { operations = ext.operations; arguments = ext.arguments; sides = ext.sides }

      later_path : (b : Bodies) (entries : List Entry) (steps : List Step) (gained : (ℕ → Spot) → List Step → Type 0) → IsPath (code_of k.tables) b (length old.steps) steps (λ spot all. Unit {0}) gained
          → IsPath (code_of k.tables) (record b { entries = entries }) (length old.steps) steps (λ spot all. Unit {0}) gained
      later_path b entries steps gained path = record {
        spots = path.spots;
        count = path.count;
        linked = λ spot later more are h. path.linked spot later (record { operations = more.operations; arguments = more.arguments; sides = more.sides }) are h;
      }

-- ---------- all methods ----------
-- no method is emitted yet
pub none-emitted : (t : Tables) (b : Bodies) → b.steps ≡ [] → b.entries ≡ [] → length b.places ≡ length t.program.stmts → AreEmitted t 0 b
none-emitted t b steps entries places = record {
  count = ap (λ (l : List Entry). length l) entries;
  places = places;
  stmts = λ m at s less has. absurd (omega (arith, less));
  returns = λ m d e is there. absurd (let no_entry : ⊥ = cc (subst (λ (l : List Entry). slice_get l m ≡ Some e) entries there) in no_entry);
  path = subst (λ (l : List Step). IsPath u b 0 l (λ spot all. Unit {0}) (λ spot all. AllBegin spot all u b.entries)) (sym steps)
      (path-as u b 0 [] (λ spot all. Unit {0}) (λ spot all. Unit {0}) (λ spot all. Unit {0}) (λ spot all. AllBegin spot all u b.entries) (λ spot all h. h) (λ spot all h m e r at there. none spot all m e r (subst (λ (l : List Entry). slice_get l m ≡ Some e) entries at))
      (path-none u b 0 (λ spot all. Unit {0})));
}
  where
    u : UnitCode
    u = code_of t

    none : (spot : ℕ → Spot) (all : List Step) (m : ℕ) (e : Entry) (r : Routine) → slice_get {X = Entry} [] m ≡ Some e → BeginsAt spot all m e r
    none spot all m e r at = absurd (let no_entry : ⊥ = cc at in no_entry)

-- what stands in a list with one more
pushed-at : (xs : List Entry) (x y : Entry) (m : ℕ) → slice_get (xs ++ x ∷ []) m ≡ Some y → (slice_get xs m ≡ Some y) ⊎ ((m ≡ length xs) × (x ≡ y))
pushed-at [] x y zero at = let same : x ≡ y = cc at in inr (refl, same)
pushed-at [] x y (suc m) at = absurd (let no_entry : ⊥ = cc at in no_entry)
pushed-at (z ∷ xs) x y zero at = inl at
pushed-at (z ∷ xs) x y (suc m) at = more (pushed-at xs x y m at)
  where
    more : (slice_get xs m ≡ Some y) ⊎ ((m ≡ length xs) × (x ≡ y)) → (slice_get (z ∷ xs) (suc m) ≡ Some y) ⊎ ((suc m ≡ length (z ∷ xs)) × (x ≡ y))
    more (inl there) = inl there
    more (inr (place, same)) = inr (ap suc place, same)

-- what is named of the methods before stays so, and that of one more is named
more-named : (u : Tables) (n : ℕ) (old new : Bodies) (t : MethodTable) (d : Method) → IsResolved u → slice_get u.tables n ≡ Some t → method_of u.program t ≡ Some d → AreEmitted u n old → IsMethodEmitted (setting u t.vars) old new d
    → (m at : ℕ) (s : Stmt) (same : Bool) → nat_eq m n ≡ same → m < suc n → HasStmt u m at s → HasStepOf (setting_at u m) new at s
more-named u n old new t d resolved table found before one m at s true is less has =
    subst (λ i. HasStepOf (setting_at u i) new at s) (sym same) (subst (λ (o : Option MethodTable). HasStepOf (setting u (vars_if o)) new at s) (sym table) (pick (one.names.each at)))
  where
    same : m ≡ n
    same = eqb-true m n is

    inside : Contains (block_holds (setting u t.vars) d.body.stmts) at
    inside =
        subst (λ (o : Option Method). Contains (places_with (all_within u.program.stmts) (body_if o)) at) (ap (method_if u) table ∙ found)
        (subst (λ i. IsStmtOf u i at) same has.inside)

    pick : IsNamedIf (setting u t.vars) old new (block_holds (setting u t.vars) d.body.stmts) at → HasStepOf (setting u t.vars) new at s
    pick (Held held named) = record { place = named.place; placed = named.placed; step = named.has.step; there = named.has.there; says = named.has.said s has.here }
    pick (Kept out kept) = absurd (out inside)
more-named u n old new t d resolved table found before one m at s false is less has = pick (one.names.each at) (before.stmts m at s (omega (arith, less, differs)) has)
  where
    differs : m ≢ n
    differs e = let clash : true ≡ false = sym (eq-eqb m n e) ∙ is in absurd (cc clash)

    its : Contains (block_holds (setting u t.vars) d.body.stmts) at → IsStmtOf u n at
    its = subst (λ (o : Option Method). Contains (places_with (all_within u.program.stmts) (body_if o)) at) (sym (ap (method_if u) table ∙ found))

    pick : IsNamedIf (setting u t.vars) old new (block_holds (setting u t.vars) d.body.stmts) at → HasStepOf (setting_at u m) old at s → HasStepOf (setting_at u m) new at s
    pick (Held held named) step = absurd (differs (bodies-apart u m n at resolved has.inside (its held)))
    pick (Kept out kept) step = record {
      place = step.place;
      placed = kept ∙ step.placed;
      step = step.step;
      there = subst (λ (l : List Step). slice_get l step.place ≡ Some step.step) (sym one.steps) (get-front old.steps one.added step.place step.step step.there);
      says = says-stays (setting_at u m) old new one.extends s s.kind step.step.action step.says;
    }

-- so of what they return
more-returns : (u : Tables) (n : ℕ) (old new : Bodies) (t : MethodTable) (d : Method) → slice_get u.tables n ≡ Some t → method_of u.program t ≡ Some d → AreEmitted u n old → (one : IsMethodEmitted (setting u t.vars) old new d)
    → (m : ℕ) (b : Method) (e : Entry) → method_at u m ≡ Some b → (slice_get old.entries m ≡ Some e) ⊎ ((m ≡ length old.entries) × (record { first = one.first; last = one.last; variables = length t.vars } ≡ e)) → HasReturnOf (setting_at u m) new b e
more-returns u n old new t d table found before one m b e is (inl there) = stays (before.returns m b e is there)
  where
    stays : HasReturnOf (setting_at u m) old b e → HasReturnOf (setting_at u m) new b e
    stays h = record {
      step = h.step;
      there = subst (λ (l : List Step). slice_get l e.last ≡ Some h.step) (sym one.steps) (get-front old.steps one.added e.last h.step h.there);
      handed = h.handed;
      returns = h.returns;
      value = argument-stays old.operations new.operations one.extends.operations h.handed h.inside ∙ h.value;
      inside = argument-in-stays old.operations new.operations one.extends.operations h.handed h.inside;
    }
more-returns u n old new t d table found before one m b e is (inr (place, entry)) =
    subst (λ i. HasReturnOf (setting_at u i) new b e) (sym same)
    (subst (λ (o : Option MethodTable). HasReturnOf (setting u (vars_if o)) new b e) (sym table)
    (subst (λ (x : Entry). HasReturnOf (setting u t.vars) new b x) entry
    (subst (λ (x : Method). HasReturnOf (setting u t.vars) new x (record { first = one.first; last = one.last; variables = length t.vars })) body one.returns)))
  where
    same : m ≡ n
    same = place ∙ before.count

    body : d ≡ b
    body = let two : Some d ≡ Some b = sym (ap (method_if u) table ∙ found) ∙ ap (method_at u) (sym same) ∙ is in cc two

-- one more method
pub more-emitted : (u : Tables) (n : ℕ) (old new : Bodies) (t : MethodTable) (d : Method) → IsResolved u → slice_get u.tables n ≡ Some t → method_of u.program t ≡ Some d → slice_get (code_of u).routines n ≡ Some (routine u t d)
    → AreEmitted u n old → IsMethodEmitted (setting u t.vars) old new d → AreEmitted u (suc n) new
more-emitted u n old new t d resolved table found here before one = record {
  count = omega (arith, before.count, length-append old.entries (entry ∷ []), ap (λ (l : List Entry). length l) one.entries);
  places = one.names.count ∙ before.places;
  stmts = λ m at s less has. more-named u n old new t d resolved table found before one m at s (nat_eq m n) refl less has;
  returns = λ m b e is there. more-returns u n old new t d table found before one m b e is (pushed-at old.entries entry e m (subst (λ (l : List Entry). slice_get l m ≡ Some e) one.entries there));
  path = subst (λ (l : List Step). IsPath code new 0 l none_given (λ spot all. AllBegin spot all code new.entries)) (sym one.steps)
      (path-as code new 0 (old.steps ++ one.added) none_given (λ spot all. AllBegin spot all code old.entries × begins spot all) none_given (λ spot all. AllBegin spot all code new.entries) (λ spot all h. h) all_begin
      (path-beside code old new 0 (length old.steps) old.steps one.added none_given (λ spot all. AllBegin spot all code old.entries) begins (omega arith) one.extends before.path (one.path n)));
}
  where
    code : UnitCode
    code = code_of u

    none_given : (ℕ → Spot) → List Step → Type 0
    none_given spot all = Unit {0}

    entry : Entry
    entry = record { first = one.first; last = one.last; variables = length t.vars }

    begins : (ℕ → Spot) → List Step → Type 0
    begins spot all = StandsAt spot all one.first (spot_of n (routine u t d).code [])

    all_begin : (spot : ℕ → Spot) (all : List Step) → AllBegin spot all (code_of u) old.entries × StandsAt spot all one.first (spot_of n (routine u t d).code []) → AllBegin spot all (code_of u) new.entries
    all_begin spot all (before_all, begins_here) m e r at there = pick (pushed-at old.entries (record { first = one.first; last = one.last; variables = length t.vars }) e m (subst (λ (l : List Entry). slice_get l m ≡ Some e) one.entries at))
      where
        pick : (slice_get old.entries m ≡ Some e) ⊎ ((m ≡ length old.entries) × (record { first = one.first; last = one.last; variables = length t.vars } ≡ e)) → BeginsAt spot all m e r
        pick (inl old_at) = before_all m e r old_at there
        pick (inr (place, same)) =
            let is_n : m ≡ n = place ∙ before.count in
            let is_routine : routine u t d ≡ r = let two : Some (routine u t d) ≡ Some r = sym here ∙ ap (slice_get (code_of u).routines) (sym is_n) ∙ there in cc in
            subst (λ (x : Entry). BeginsAt spot all m x r) same
            (subst (λ (x : Routine). BeginsAt spot all m (record { first = one.first; last = one.last; variables = length t.vars }) x) is_routine
            (subst (λ i. BeginsAt spot all i (record { first = one.first; last = one.last; variables = length t.vars }) (routine u t d)) (sym is_n)
            (record { first = begins_here; variables = sym (length-map t.vars (λ v. v.ty)) })))

-- ---------- the tables of a resolved program ----------
-- each table is that of a method
all-at : (u : Tables) (ts : List MethodTable) (at : ℕ) (t : MethodTable) → AllMethods u.program ts → slice_get ts at ≡ Some t → HasMethod u.program t
all-at u [] at t all there = absurd (let no_table : ⊥ = cc there in no_table)
all-at u (s ∷ ts) zero t all there = let same : s ≡ t = cc there in subst (HasMethod u.program) same (record { «method» = all.0.0; is = all.0.1.0 })
all-at u (s ∷ ts) (suc at) t all there = all-at u ts at t all.1 there

-- so of the tables of a resolved unit
resolved-methods : (u : Tables) → IsResolved u → AllMethods u.program u.tables
resolved-methods u is = subst (AllMethods u.program) (sym is.tables) (tables_of-methods u.program)

-- so of the table at a place
pub has-method : (u : Tables) (at : ℕ) (t : MethodTable) → IsResolved u → slice_get u.tables at ≡ Some t → HasMethod u.program t
has-method u at t is there = all-at u u.tables at t (resolved-methods u is) there

-- the routine of the method of a table has the table's number
pub routine-there : (u : Tables) (at : ℕ) (t : MethodTable) (d : Method) → IsResolved u → slice_get u.tables at ≡ Some t → method_of u.program t ≡ Some d → slice_get (code_of u).routines at ≡ Some (routine u t d)
routine-there u at t d is there found = routines_of-at u u.tables at t d (resolved-methods u is) there found

-- ---------- the end ----------
-- where no step stands
abbrev no_spot : Spot
no_spot = record { routine = 0; code = End; within = [] }

-- the spot at a place of a list
abbrev spot_in : List Spot → ℕ → Spot
spot_in spots p = get_or spots p no_spot

-- bodies with another start of the run
abbrev with_start : Bodies → ℕ → ℕ → Bodies
with_start b run fields = record b { run = run; fields = fields }

-- the spots of a list stand at their places
spots-at : (all : List Step) (before spots : List Spot) (at : ℕ) → at ≡ length before → at + length spots ≡ length all → AreAt (spot_in (before ++ spots)) all at spots
spots-at all before [] at is count = tt
spots-at all before (s ∷ spots) at is count = (
  (omega arith, ap (λ n. get_or (before ++ s ∷ spots) n no_spot) is ∙ get_or-append_seam before s spots no_spot),
  subst (λ (l : List Spot). AreAt (spot_in l) all (suc at) spots) (append_assoc before (s ∷ []) spots) (spots-at all (before ++ s ∷ []) spots (suc at) (omega (arith, length-append before (s ∷ []))) (omega arith)),
)

-- the step at a place of linked steps
linked-at : (spot : ℕ → Spot) (b : Bodies) (u : UnitCode) (at p : ℕ) (s : Step) (steps : List Step) → AreLinkedAt spot b u at steps → slice_get steps p ≡ Some s → IsLinkedAt spot b u (at + p) s
linked-at spot b u at p s [] all there = absurd (let no_step : ⊥ = cc there in no_step)
linked-at spot b u at zero s (x ∷ steps) all there =
    let same : x ≡ s = cc there in
    subst (λ n. IsLinkedAt spot b u n s) (sym (add-zero at)) (subst (λ (y : Step). IsLinkedAt spot b u at y) same all.0)
linked-at spot b u at (suc p) s (x ∷ steps) all there =
    let place : suc at + p ≡ at + suc p = omega arith in
    subst (λ n. IsLinkedAt spot b u n s) place (linked-at spot b u (suc at) p s steps all.1 there)

-- a statement stands in a method that has a table
table-below : (u : Tables) (m at : ℕ) → IsStmtOf u m at → m < length u.tables
table-below u m at stands = pick (slice_get u.tables m) refl stands
  where
    pick : (o : Option MethodTable) → slice_get u.tables m ≡ o → Contains (places_with (all_within u.program.stmts) (body_if (method_if u (slice_get u.tables m)))) at → m < length u.tables
    pick None here inside = absurd (no_place (subst (λ (o : Option MethodTable). Contains (places_with (all_within u.program.stmts) (body_if (method_if u o))) at) here inside))
      where
        no_place : Contains {X = ℕ} [] at → ⊥
        no_place (i, within, is) = omega (arith, within)
    pick (Some t) here inside = slice_get_within u.tables m t here

-- all methods, and where a run starts
pub all-bodies : (u : Tables) (b new : Bodies) (run fields : ℕ) → IsResolved u → AreEmitted u (length u.tables) b → run ≡ run_place u → MainHas u.program fields → new ≡ record b { run = run; fields = fields } → AreBodies u new
all-bodies u b new run fields is emitted is_run main same = subst (AreBodies u) (sym same) (record { linked = linked; steps = steps })
  where
    more : Extends b (with_start b run fields)
    more = record { operations = HasMore-refl b.operations; arguments = HasMore-refl b.arguments; sides = HasMore-refl b.sides }

    start_named : (k : Setting) (at : ℕ) (s : Stmt) → HasStepOf k b at s → HasStepOf k (with_start b run fields) at s
    start_named k at s h = record { place = h.place; placed = h.placed; step = h.step; there = h.there; says = says-stays k b (with_start b run fields) more s s.kind h.step.action h.says }

    start_returns : (k : Setting) (d : Method) (e : Entry) → HasReturnOf k b d e → HasReturnOf k (with_start b run fields) d e
    start_returns k d e h = record { step = h.step; there = h.there; handed = h.handed; returns = h.returns; value = h.value; inside = h.inside }

    whole : AreLinkedAt (spot_in emitted.path.spots) (with_start b run fields) (code_of u) 0 b.steps × AllBegin (spot_in emitted.path.spots) b.steps (code_of u) b.entries
    whole =
        emitted.path.linked (spot_in emitted.path.spots) (with_start b run fields)
        (record { operations = HasMore-refl b.operations; arguments = HasMore-refl b.arguments; sides = HasMore-refl b.sides }) (spots-at b.steps [] emitted.path.spots 0 refl (omega (arith, emitted.path.count))) tt

    at : (p : ℕ) (s : Step) → slice_get b.steps p ≡ Some s → IsLinkedAt (spot_in emitted.path.spots) (with_start b run fields) (code_of u) p s
    at p s there =
        let n : 0 + p ≡ p = omega arith in
        subst (λ q. IsLinkedAt (spot_in emitted.path.spots) (with_start b run fields) (code_of u) q s) n (linked-at (spot_in emitted.path.spots) (with_start b run fields) (code_of u) 0 p s b.steps whole.0 there)

    types : ClassDecl → List Ty
    types c = map (λ f. f.ty) c.fields

    main_types : (o : Option ClassDecl) → slice_get u.program.classes (main_place u.program) ≡ o → (ts : List Ty) → slice_get (map (λ c. map (λ f. f.ty) c.fields) u.program.classes) (main_place u.program) ≡ Some ts → length ts ≡ fields
    main_types None here ts there = absurd (let no_class : ⊥ = cc (sym (ap (option_map types) here) ∙ sym (slice_get-map types u.program.classes (main_place u.program)) ∙ there) in no_class)
    main_types (Some c) here ts there =
        let two : Some (types c) ≡ Some ts = sym (ap (option_map types) here) ∙ sym (slice_get-map types u.program.classes (main_place u.program)) ∙ there in
        let same : types c ≡ ts = cc in
        ap (λ (l : List Ty). length l) (sym same) ∙ length-map c.fields (λ f. f.ty) ∙ main c here

    linked : AreBodiesOf (code_of u) (with_start b run fields)
    linked = record {
      spot = spot_in emitted.path.spots;
      linked = λ p s there. (at p s there).linked;
      entries = emitted.count ∙ sym (length-routines_of u u.tables (resolved-methods u is));
      first = λ m e r there found. (whole.1 m e r there found).first;
      variables = λ m e r there found. (whole.1 m e r there found).variables;
      falls = λ p s there. (at p s there).falls;
      run = is_run;
      fields = λ ts there. main_types (slice_get u.program.classes (main_place u.program)) refl ts there;
    }

    steps : AreSteps u (with_start b run fields)
    steps = record {
      stmts = λ m at s has. start_named (setting_at u m) at s (emitted.stmts m at s (table-below u m at has.inside) has);
      returns = λ m d e found there. start_returns (setting_at u m) d e (emitted.returns m d e found there);
    }

-- ---------- answers ----------
-- the class of a method's table is there
class-there : (p : Listing) (t : MethodTable) (d : Method) (o : Option ClassDecl) → slice_get p.classes t.class ≡ o → method_in o t.«method» ≡ Some d → (c : ClassDecl) × (slice_get p.classes t.class ≡ Some c) × (slice_get c.methods t.«method» ≡ Some d)
class-there p t d None here is = absurd (let no_method : ⊥ = cc is in no_method)
class-there p t d (Some c) here is = (c, here, is)

-- the method of a table, as it is read from the program
pub method-found : (p : Listing) (t : MethodTable) (classes : List ClassDecl) (class : ClassDecl) (methods : List Method) (d : Method) → HasMethod p t → IsPlaced p
    → classes ≡ p.classes → class ≡ get_or classes t.class class → methods ≡ class.methods → d ≡ get_or methods t.«method» d
    → (method_of p t ≡ Some d) × MethodPlaced (length p.exprs) (length p.stmts) d
method-found p t classes class methods d has placed classes_are class_is methods_are is =
    found (class-there p t has.«method» (slice_get p.classes t.class) refl has.is)
  where
    found : (c : ClassDecl) × (slice_get p.classes t.class ≡ Some c) × (slice_get c.methods t.«method» ≡ Some has.«method») → (method_of p t ≡ Some d) × MethodPlaced (length p.exprs) (length p.stmts) d
    found (c, here, there) =
        let same_class : class ≡ c = class_is ∙ ap (λ (l : List ClassDecl). get_or l t.class class) classes_are ∙ get_or_from_slice_get p.classes t.class c class here in
        let same : d ≡ has.«method» = is ∙ ap (λ (l : List Method). get_or l t.«method» d) (methods_are ∙ ap (λ (x : ClassDecl). x.methods) same_class) ∙ get_or_from_slice_get c.methods t.«method» has.«method» d there in
        (has.is ∙ ap (λ (x : Method). Some x) (sym same), subst (MethodPlaced (length p.exprs) (length p.stmts)) (sym same) (placed.bodies t.class c here t.«method» has.«method» there))

-- a method is emitted where its entry is added
pub method-answer : (k : Setting) (old mid0 mid1 mid2 new : Bodies) (d : Method) (next end variables : ℕ) (a : Argument) (e : Fragment) (r : Result (Unit {0}) NoMemory)
    → variables ≡ length k.vars → TellsArgument old mid0 (argument k d.back) a
    → end ≡ length mid0.steps → mid1 ≡ record mid0 { steps = mid0.steps ++ record { span = d.span; next = next; action = actions.Return a } ∷ [] }
    → IsEmitted k mid1 end mid2 (block_code k d.body.stmts) (block_holds k d.body.stmts) e → IfOk r (λ x. new ≡ record mid2 { entries = mid2.entries ++ record { first = e.first; last = end; variables = variables } ∷ [] })
    → IfOk r (λ x. IsMethodEmitted k old new d)
method-answer k old mid0 mid1 mid2 new d next end variables a e (Ok x) same is is_end held body added = method-emitted k old mid0 mid1 mid2 new d next end variables a e same is is_end held body added
method-answer k old mid0 mid1 mid2 new d next end variables a e (Err x) same is is_end held body added = tt
