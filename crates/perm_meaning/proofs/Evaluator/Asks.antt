-- What instructions ask, by what their operands give.
use Rattle.std.proofs.Common.{◌≡◌, ◌∙◌, ℕ, zero, suc, List, [], ◌∷◌, Option, Some, None, refl, sym, ap, ◌++◌, drop, get_or, ◌<◌, ◌+◌, arith, ◌≤◌}
use Rattle.std.specs.Prelude.{map, slice_get, slice_set, length, option_map}
use Rattle.std.proofs.lemmas.Option.{slice_get-map}
use Rattle.std.proofs.lemmas.List.{length-map}
use Rattle.perm_tree.specs.Code.{Argument, Expression, Consumed, UnitCode, Declare, Assign, NewObject, StoreField}
use Rattle.perm_tree.specs.CodeOf.{code_of}
use Rattle.perm_tree.specs.Places.{Listing}
use Rattle.perm_tree.specs.declared.ast.ClassDecl.{ClassDecl}
use Rattle.perm_tree.specs.declared.ast.FieldDecl.{FieldDecl}
use Rattle.perm_tree.specs.declared.ast.Shape.TheVariants.{Class}
use Rattle.perm_tree.specs.declared.ast.Ty.{Ty}
use Rattle.perm_tree.specs.declared.unit.MethodTable.{MethodTable}
use Rattle.perm_meaning.specs.declared.eval.asks.Ask.TheVariants as asks
use Rattle.perm_meaning.specs.declared.eval.asks.Told.TheVariants as told
use Rattle.perm_meaning.specs.declared.eval.asks.Asked.TheVariants as asked
use Rattle.perm_meaning.specs.declared.eval.own.Own as owned
use Rattle.perm_meaning.specs.declared.eval.values.Given.{Given}
use Rattle.perm_meaning.specs.declared.eval.asks.Asked.{Asked}
use Rattle.perm_meaning.specs.declared.eval.values.Value.{Value}
use Rattle.perm_meaning.specs.Evaluator.Asks.{asked_by, assigned, count_of, made_of, stored_by, referred}
use Rattle.perm_meaning.specs.Effects.{Does, GoesOn, Resumption, Sticks, Store, effect, halts, into_var, makes, on_argument, on_arguments, on_class, on_value, ticks, with_vars}
use Rattle.perm_meaning.specs.Expressions.{tagged, clear, cleared_slot, value_of, look_up}
use Rattle.perm_meaning.specs.NamedHeap.{Held, Own, marks}
use Rattle.perm_meaning.specs.Names.{Name, Mark}
use Rattle.perm_meaning.specs.Evaluator.NumberedValues.{all_by, given_by, held_by, Names}
use Rattle.perm_meaning.specs.Values.{Eval, Gives, Traps, Mistyped}
use Rattle.perm_tree.specs.declared.errors.TrapKind.{TrapKind}
use Rattle.perm_meaning.specs.Evaluator.SimpleStatements.{after_argument, own_by}

-- an argument's value, and then the variables after it
pub argument-first : (a : Argument) (vs : List Held) (go : Held → List Held → Resumption Held Name Mark) → on_argument tagged a vs go ≡ on_value tagged (value_of tagged a vs) (λ v. go v (after_argument a vs))
argument-first (Expression e) vs go = refl
argument-first (Consumed y) vs go = refl

-- a variable that loses its value is left unset
pub cleared-is : (s : Option Held) → cleared_slot tagged s ≡ None
cleared-is None = refl
cleared-is (Some v) = refl

-- what variables hold after one of them takes something else
pub set-by : (names : Names) (vs : List (Option Value)) (x : ℕ) (v : Option Value) → all_by names (slice_set vs x v) ≡ slice_set (all_by names vs) x (held_by names v)
set-by names [] x v = refl
set-by names (w ∷ vs) zero v = refl
set-by names (w ∷ vs) (suc x) v = ap (λ (ws : List Held). held_by names w ∷ ws) (set-by names vs x v)

-- the same of one that loses its value
pub clear-by : (names : Names) (vs : List (Option Value)) (x : ℕ) → all_by names (slice_set vs x None) ≡ clear tagged (all_by names vs) x
clear-by names vs x = set-by names vs x None ∙ ap (slice_set (all_by names vs) x) (sym (cleared-is (slice_get (all_by names vs) x)))

-- ---------- instructions ----------
module _ (u : UnitCode) (names : Names) (mark : Mark) where
  -- what a branch has after some of its variables have changed
  pub own-after : (old new : owned.Own) (vs : List Held) → new ≡ record old { vars = new.vars } → all_by names new.vars ≡ vs → record (own_by names mark old) { vars = vs } ≡ own_by names mark new
  own-after old new vs same e = ap (λ (ws : List Held). record (own_by names mark old) { vars = ws }) (sym e) ∙ ap (own_by names mark) (sym same)

  -- a declaration
  pub declares : (o : owned.Own) (x : ℕ) → effect tagged u marks (Declare x) (own_by names mark o) ≡ asked_by u names (own_by names mark o) (asked.Does asks.Tick (told.Sets x None))
  declares o x = ap (λ (v : Held). ticks tagged (GoesOn (with_vars tagged (own_by names mark o) (slice_set (all_by names o.vars) x v)))) (cleared-is (slice_get (all_by names o.vars) x))

  -- an assignment of an argument
  pub assigns : (old new : owned.Own) (a : Argument) (x : ℕ) (g : Given) (q : Asked) → new ≡ record old { vars = new.vars } → all_by names new.vars ≡ after_argument a (all_by names old.vars)
      → given_by names g ≡ value_of tagged a (all_by names old.vars) → ((l : Own) → assigned l x (given_by names g) ≡ asked_by u names l q)
      → effect tagged u marks (Assign x a) (own_by names mark old) ≡ asked_by u names (own_by names mark new) q
  assigns old new a x g q same vars value asks =
      argument-first a (all_by names old.vars) (λ v vs. ticks tagged (into_var tagged x vs (own_by names mark old) v))
      ∙ ap (assigned (record (own_by names mark old) { vars = after_argument a (all_by names old.vars) }) x) (sym value)
      ∙ ap (λ (l : Own). assigned l x (given_by names g)) (own-after old new (after_argument a (all_by names old.vars)) same vars)
      ∙ asks (own_by names mark new)

  -- a store of an argument
  pub stores : (old new : owned.Own) (a : Argument) (y f : ℕ) (g h : Given) (q : Asked) → new ≡ record old { vars = new.vars } → all_by names new.vars ≡ after_argument a (all_by names old.vars)
      → given_by names g ≡ value_of tagged a (all_by names old.vars) → given_by names h ≡ look_up tagged (all_by names new.vars) y → ((l : Own) → stored_by l f (given_by names g) (given_by names h) ≡ asked_by u names l q)
      → effect tagged u marks (StoreField y f a) (own_by names mark old) ≡ asked_by u names (own_by names mark new) q
  stores old new a y f g h q same vars value held asks =
      argument-first a (all_by names old.vars) (λ v vs. referred (look_up tagged vs y) (λ r n. Does (Store r f v) (λ w. GoesOn (with_vars tagged (own_by names mark old) vs))))
      ∙ ap (λ (e : Eval Held). stored_by (record (own_by names mark old) { vars = after_argument a (all_by names old.vars) }) f e (look_up tagged (after_argument a (all_by names old.vars)) y)) (sym value)
      ∙ ap (λ (l : Own). stored_by l f (given_by names g) (look_up tagged l.vars y)) (own-after old new (after_argument a (all_by names old.vars)) same vars)
      ∙ ap (stored_by (own_by names mark new) f (given_by names g)) (sym held)
      ∙ asks (own_by names mark new)

  -- a new object
  pub makes-object : (o : owned.Own) (x c : ℕ) → effect tagged u marks (NewObject x c) (own_by names mark o) ≡ made_of (own_by names mark o) x c (count_of (slice_get u.classes c))
  makes-object o x c = go (slice_get u.classes c)
    where
      go : (ts : Option (List Ty)) → on_class tagged ts (λ n. makes tagged marks x (Class c) n (own_by names mark o)) ≡ made_of (own_by names mark o) x c (count_of ts)
      go None = refl
      go (Some ts) = refl

-- the classes of a unit's code, by those of its program
pub class-there : (p : Listing) (tables : List MethodTable) (k : ℕ) (d : ClassDecl) → slice_get p.classes k ≡ Some d → count_of (slice_get (code_of (record { program = p; tables = tables })).classes k) ≡ Some (length d.fields)
class-there p tables k d e =
    ap count_of (slice_get-map (λ (c : ClassDecl). map (λ (f : FieldDecl). f.ty) c.fields) p.classes k ∙ ap (option_map (λ (c : ClassDecl). map (λ (f : FieldDecl). f.ty) c.fields)) e)
    ∙ ap Some (length-map d.fields (λ (f : FieldDecl). f.ty))

-- one that isn't there
pub class-gone : (p : Listing) (tables : List MethodTable) (k : ℕ) → slice_get p.classes k ≡ None → count_of (slice_get (code_of (record { program = p; tables = tables })).classes k) ≡ None
class-gone p tables k e =
    ap count_of (slice_get-map (λ (c : ClassDecl). map (λ (f : FieldDecl). f.ty) c.fields) p.classes k ∙ ap (option_map (λ (c : ClassDecl). map (λ (f : FieldDecl). f.ty) c.fields)) e)

-- ---------- arguments ----------
module _ (all : List Argument) (a : Argument) (rest : List Argument) (is : all ≡ a ∷ rest) (found vs : List Held) (go : List Held → List Held → Resumption Held Name Mark) where
  by-first : (e : Eval Held) → value_of tagged a vs ≡ e → on_arguments tagged all found vs go ≡ on_value tagged e (λ v. on_arguments tagged rest (found ++ v ∷ []) (after_argument a vs) go)
  by-first e q =
      ap (λ (bs : List Argument). on_arguments tagged bs found vs go) is
      ∙ argument-first a vs (λ v ws. on_arguments tagged rest (found ++ v ∷ []) ws go)
      ∙ ap (λ (x : Eval Held). on_value tagged x (λ v. on_arguments tagged rest (found ++ v ∷ []) (after_argument a vs) go)) q

  -- the first argument has a value
  pub next-value : (w : Held) (ws : List Held) → value_of tagged a vs ≡ Gives w → ws ≡ after_argument a vs → on_arguments tagged all found vs go ≡ on_arguments tagged rest (found ++ w ∷ []) ws go
  next-value w ws q same = by-first (Gives w) q ∙ ap (λ (xs : List Held). on_arguments tagged rest (found ++ w ∷ []) xs go) (sym same)

  -- it traps
  pub next-halts : (k : TrapKind) → value_of tagged a vs ≡ Traps k → on_arguments tagged all found vs go ≡ halts tagged k
  next-halts k q = by-first (Traps k) q

  -- it gives nothing
  pub next-sticks : value_of tagged a vs ≡ Mistyped → on_arguments tagged all found vs go ≡ Sticks
  next-sticks q = by-first Mistyped q

from-next : {A B : Type 0} (f : A → B) (xs : List A) (i : ℕ) (d : A) → i < length xs → map f (drop i xs) ≡ f (get_or xs i d) ∷ map f (drop (suc i) xs)
from-next f [] i d lt = absurd (omega (arith, lt))
from-next f (x ∷ xs) zero d lt = refl
from-next f (x ∷ xs) (suc i) d lt = from-next f xs i d (omega (arith, lt))

-- what is made of the elements from a place on begins with what is made of the one there
pub made-next : {A B : Type 0} (f : A → B) (xs : List A) (i : ℕ) (d : A) → i < length xs → map f (drop i xs) ≡ f (get_or xs i d) ∷ map f (drop (i + 1) xs)
made-next {A} f xs i d lt =
    let next : suc i ≡ i + 1 = omega arith in
    from-next f xs i d lt ∙ ap (λ n. f (get_or xs i d) ∷ map f (drop n xs)) next

-- past the last place nothing is made
pub made-none : {A B : Type 0} (f : A → B) (xs : List A) (i : ℕ) → length xs ≤ i → map f (drop i xs) ≡ []
made-none f [] zero le = refl
made-none f [] (suc i) le = refl
made-none f (x ∷ xs) zero le = absurd (omega (arith, le))
made-none f (x ∷ xs) (suc i) le = made-none f xs i (omega (arith, le))
