-- States and units that refuted an earlier picture, and others like them: the picture and the marks of code tell each of them.
use Rattle.std.proofs.Common.{◌≡◌, ℕ, zero, suc, Bool, true, false, Option, Some, None, List, [], ◌∷◌, refl, subst, inl, inr}
use Rattle.std.specs.Prelude.{pos, nat_eq, slice_get}
use Rattle.perm_tree.specs.declared.ast.Perm.TheVariants.{Isolated, Immutable, Readable, Writable}
use Rattle.perm_tree.specs.declared.ast.Shape.TheVariants.{Class, Array}
use Rattle.perm_tree.specs.declared.ast.Ty.{Ty}
use Rattle.perm_tree.specs.declared.ast.Ty.TheVariants.{Long, Ref}
use Rattle.perm_tree.specs.declared.ast.Span.{Span}
use Rattle.perm_tree.specs.Code.{Expression, Local, LongLit, BoolLit, NewObject, Assign, Print, Code, End, Give, Return, Do, If, Par, Recover, Shares, Raises, Routine, UnitCode}
use Rattle.perm_tree.specs.Vars.{Vars}
use Rattle.perm_rules.specs.FirstRefused.{unit_refusal}
use Rattle.perm_meaning.specs.Values.{Number, Null, Reference}
use Rattle.perm_meaning.specs.Names.{Name, Path, Mark, OnLeft, OnRight}
use Rattle.perm_meaning.specs.Objects.{Objects}
use Rattle.perm_meaning.specs.Machine.{Blocks, Close, Frame, OpenRecover, OpenCall, Leaf, Fork, Here, GoL, Returning}
use Rattle.perm_meaning.specs.NamedHeap.{Held, Branch, Task, State}
use Rattle.perm_meaning.proofs.Leads.{some-inj, none-some}
use Rattle.perm_core.specs.Core.{step}
use Rattle.perm_core.specs.Whole.{IsWholeRoutine}
use Rattle.perm_core.specs.Endings.{ByReturn, tree_ends}
use Rattle.perm_rules.specs.Scoping.{is_scoped}
use Rattle.perm_rules.specs.Goes.{context, first_live}
use Rattle.perm_core.specs.Regions.{Base, Under, Absent, OwnOf, Labels}
use Rattle.perm_core.specs.Picture.{IsPicture, TreeGoes, MayGive, next, later, object_fits, tree_fits, tree_right, tree_hidden, sides_stand, none_valued, context_above}
use Rattle.perm_core.specs.NextPicture.{next_picture}
use Rattle.perm_rules.specs.Parts.{Given}
use Rattle.perm_rules.specs.Refusals.{IsAllowed}

abbrev here : Span
here = record { start = 0; end = 0 }

abbrev back : Code
back = Return here (Expression (LongLit (pos 0)))

abbrev run : Routine
run = record {
  class = 0;
  receiver = Writable;
  result = Long;
  params = Ref Immutable Array ∷ [];
  vars = Ref Writable (Class 0) ∷ Ref Immutable Array ∷ Ref Isolated (Class 0) ∷ Ref Isolated (Class 0) ∷ Long ∷ [];
  code = back;
}

abbrev other : Routine
other = record {
  class = 0;
  receiver = Writable;
  result = Long;
  params = Ref Immutable Array ∷ [];
  vars = Ref Writable (Class 0) ∷ Ref Immutable Array ∷ Long ∷ Long ∷ Ref Immutable Array ∷ [];
  code = back;
}

abbrev u : UnitCode
u = record { classes = [] ∷ (Ref Readable (Class 0) ∷ []) ∷ []; routines = run ∷ other ∷ []; main = 0; run = 0 }

accepted : unit_refusal u ≡ None
accepted = refl

whole-routine : (m : ℕ) (r : Routine) → slice_get u.routines m ≡ Some r → IsWholeRoutine u r
whole-routine zero r e = subst (IsWholeRoutine u) (some-inj e) (record { locals = Ref Isolated (Class 0) ∷ Ref Isolated (Class 0) ∷ Long ∷ []; vars = refl; known = refl; returns = refl; calls = refl; scoped = refl })
whole-routine (suc zero) r e = subst (IsWholeRoutine u) (some-inj e) (record { locals = Long ∷ Long ∷ Ref Immutable Array ∷ []; vars = refl; known = refl; returns = refl; calls = refl; scoped = refl })
whole-routine (suc (suc m)) r e = none-some e

abbrev none : List Held
none = None ∷ None ∷ None ∷ None ∷ None ∷ []

abbrev mark : Mark
mark = record { path = (0, OnLeft) ∷ []; made = 0; pars = 1 }

abbrev leaf : ℕ → List Held → Code → List (Frame Held) → Branch
leaf m vs c st = record { own = record { vars = vs; routine = m; depth = 5; printed = []; mark = mark }; turns = 10; code = c; stack = st; close = None }

abbrev after : State → State
after s = get (step u 100 s Here)
  where
    get : Option State → State
    get (Some t) = t
    get None = s

abbrev absent : Labels
absent n = Absent

-- ---------- states that aren't pictures ----------
-- a hidden variable that has a value within its recover block
abbrev hidden : State
hidden = record { task = Leaf (leaf 0 (None ∷ None ∷ None ∷ Some Null ∷ Some (Number (pos 1)) ∷ []) (Give here 3 2) (OpenRecover [] (4 ∷ []) none (Do here (Print (Local 4)) back) ∷ [])); heap = record { objects = λ n. None; given = 0 } }

hidden-told : tree_hidden [] hidden.task ≡ false
hidden-told = refl

abbrev side : ℕ → List Held → Option (Close Held) → Branch
side m vs e = record { own = record { vars = vs; routine = m; depth = 6; printed = []; mark = record { path = (0, OnLeft) ∷ (0, OnLeft) ∷ []; made = 0; pars = 0 } }; turns = 5; code = End; stack = []; close = e }

abbrev right_side : List Held → Branch
right_side vs = record { own = record { vars = vs; routine = 0; depth = 6; printed = []; mark = record { path = (0, OnRight) ∷ (0, OnLeft) ∷ []; made = 0; pars = 0 } }; turns = 5; code = End; stack = []; close = None }

abbrev writes_four : Blocks
writes_four = record { own_l = []; left = Do here (Assign 4 (Expression (LongLit (pos 1)))) End; own_r = []; right = End }

-- a side of another method than its parent
abbrev mixed : State
mixed = record { task = Fork (leaf 0 none back []) writes_four (Leaf (side 1 (None ∷ None ∷ None ∷ None ∷ Some Null ∷ []) None)) (Leaf (right_side none)); heap = record { objects = λ n. None; given = 0 } }

mixed-told : sides_stand mixed.task ≡ false
mixed-told = refl

-- a side that has given back a value
abbrev gave : State
gave = record { task = Fork (leaf 0 none (Do here (Print (Local 4)) back) []) writes_four (Leaf (side 0 (None ∷ None ∷ None ∷ None ∷ Some (Number (pos 1)) ∷ []) (Some (Returning None)))) (Leaf (right_side none)); heap = record { objects = λ n. None; given = 0 } }

gave-told : tree_ends ByReturn gave.task ≡ false
gave-told = refl

-- a block's own variable that has a value before its par
abbrev early : State
early = record { task = Leaf (leaf 0 (None ∷ None ∷ None ∷ None ∷ Some (Number (pos 1)) ∷ []) (Par here (4 ∷ []) (Do here (Print (Local 4)) End) [] End back) []); heap = record { objects = λ n. None; given = 0 } }

early-told : tree_right u early.task ≡ false
early-told = refl

-- the same of a block within a block of the par: the side doesn't get the variable, which stands in no outer part of it
abbrev deep : State
deep = record { task = Leaf (leaf 0 (None ∷ None ∷ None ∷ None ∷ Some (Number (pos 1)) ∷ []) (Par here [] (If here (BoolLit true) (4 ∷ []) (Do here (Print (Local 4)) End) [] End End) [] End back) []); heap = record { objects = λ n. None; given = 0 } }

deep-told : tree_right u deep.task ≡ false
deep-told = refl

deep-goes : (H : Vars) × TreeGoes u [] deep.task H
deep-goes = (_, inr (refl, record { left_ends = _; right_ends = _; left = (refl, record { left_ends = _; right_ends = _; left = (refl, refl); right = refl; rest = refl }); right = refl; rest = (refl, refl) }))

deep-lost : (H : Vars) → TreeGoes u [] (after deep).task H → ⊥
deep-lost H (A, B, inl f, right, rest) = absurd f
deep-lost H (A, B, inr k, right, rest) = let e = k.1.left.0 in absurd (cc)

-- a waiting parent that has an end
abbrev shut : State
shut = record { task = Fork (record (leaf 0 none back []) { close = Some (Returning None) }) writes_four (Leaf (side 0 none None)) (Leaf (right_side none)); heap = record { objects = λ n. None; given = 0 } }

shut-told : tree_ends ByReturn shut.task ≡ false
shut-told = refl

-- on a side, its join leaves a leaf that gives back a value
abbrev shut_side : State
shut_side = record { task = Fork (leaf 0 none back []) writes_four shut.task (Leaf (right_side none)); heap = record { objects = λ n. None; given = 0 } }

abbrev joined_side : State
joined_side = get (step u 100 shut_side (GoL Here))
  where
    get : Option State → State
    get (Some t) = t
    get None = shut_side

shut-lost : tree_ends ByReturn joined_side.task ≡ false
shut-lost = refl

-- a recover block that gives to a variable which is hidden outside: allowed, and then the hidden variable has a value
abbrev nested : State
nested = record { task = Leaf (leaf 0 (None ∷ None ∷ None ∷ Some Null ∷ None ∷ []) (Give here 3 2) (OpenRecover [] [] none (Give here 3 3) ∷ OpenRecover [] (2 ∷ []) none back ∷ [])); heap = record { objects = λ n. None; given = 0 } }

nested-allowed : IsAllowed (context_above u [] 0 (OpenRecover [] [] none (Give here 3 3) ∷ OpenRecover [] (2 ∷ []) none back ∷ [])) (Given 3 2) (λ x. nat_eq x 3)
nested-allowed = refl

nested-told : tree_hidden [] nested.task ≡ false
nested-told = refl

vars_of : State → List Held
vars_of s = go s.task
  where
    go : Task → List Held
    go (Leaf b) = b.own.vars
    go (Fork b p l r) = b.own.vars

nested-before : none_valued (2 ∷ []) (vars_of nested) ≡ true
unfolding vars_of
nested-before = refl

nested-after : none_valued (2 ∷ []) (vars_of (after nested)) ≡ false
unfolding vars_of
nested-after = refl

-- ---------- two objects ----------
abbrev by_count : {A : Type 0} → A → A → A → ℕ → A
by_count x y z zero = x
by_count x y z (suc zero) = y
by_count x y z (suc (suc c)) = z

abbrev one_of : {A : Type 0} → A → A → A → Path → ℕ → A
one_of x y z [] c = by_count x y z c
one_of x y z (s ∷ p) c = z

abbrev first : Name
first = record { by = []; count = 0 }

abbrev objects : Objects Name
objects n = one_of (Some (record { shape = Class 0; values = [] })) (Some (record { shape = Class 1; values = Reference first 0 ∷ [] })) None n.by n.count

apart : (n : Name) → MayGive mark n → objects n ≡ None
apart _ (next c more) = refl
apart _ (later k c s [] more below) = absurd (cc)
apart _ (later k c s (x ∷ p) more below) = refl

-- ---------- something is lent to a call that doesn't lend ----------
abbrev lent : State
lent = record { task = Leaf (leaf 0 none back (OpenCall Shares None 2 none (Some (Some (Reference first 0))) 0 back ∷ [])); heap = record { objects = objects; given = 2 } }

abbrev lent_labels : Labels
lent_labels n = one_of (OwnOf (Base Here 1)) (OwnOf (Base Here 1)) Absent n.by n.count

lent-objects : (p : Path) (c : ℕ) → object_fits u lent_labels objects (record { by = p; count = c }) (objects (record { by = p; count = c })) ≡ true
lent-objects [] zero = refl
lent-objects [] (suc zero) = refl
lent-objects [] (suc (suc c)) = refl
lent-objects (s ∷ p) c = refl

lent-told : tree_fits u lent_labels lent.heap.objects (λ w. w) (Base Here 0) lent.task ≡ false
lent-told = refl

-- an outer writable variable that an open recover block doesn't hide leads into its zone
abbrev open_tied : State
open_tied = record { task = Leaf (leaf 0 (Some (Reference first 0) ∷ None ∷ None ∷ Some Null ∷ None ∷ []) (Give here 3 2) (OpenRecover [] [] none back ∷ [])); heap = record { objects = objects; given = 2 } }

open_tied-fits : tree_fits u lent_labels objects (λ w. w) (Base Here 0) open_tied.task ≡ true
open_tied-fits = refl

open_tied-told : tree_right u open_tied.task ≡ false
open_tied-told = refl

open_tied-lost : tree_fits u (next_picture u 100 lent_labels open_tied Here) objects (λ w. w) (Base Here 0) (after open_tied).task ≡ false
open_tied-lost = refl

-- ---------- what nothing leads to, in the region of a zone that is gone ----------
abbrev gone : State
gone = record { task = Leaf (leaf 0 none back (OpenCall Raises None 2 none None 0 back ∷ [])); heap = record { objects = objects; given = 2 } }

abbrev gone_labels : Labels
gone_labels n = one_of (OwnOf (Base Here 1)) (OwnOf (Under Here (Base Here 1))) Absent n.by n.count

gone-objects : (p : Path) (c : ℕ) → object_fits u gone_labels objects (record { by = p; count = c }) (objects (record { by = p; count = c })) ≡ true
gone-objects [] zero = refl
gone-objects [] (suc zero) = refl
gone-objects [] (suc (suc c)) = refl
gone-objects (s ∷ p) c = refl

gone-picture : IsPicture u gone_labels gone
gone-picture = record {
  variables = refl;
  objects = λ n. gone-objects n.by n.count;
  orderly = record {
    goes = (_, inr (_, (refl, refl), (refl, refl)));
    ends = refl;
    right = refl;
    hidden = refl;
    stand = refl;
    new = apart;
    paths = tt;
  };
}

-- all that stands in the zone that ends is loose after it
gone-next : (p : Path) (c : ℕ) → object_fits u (next_picture u 100 gone_labels gone Here) objects (record { by = p; count = c }) (objects (record { by = p; count = c })) ≡ true
gone-next [] zero = refl
gone-next [] (suc zero) = refl
gone-next [] (suc (suc c)) = refl
gone-next (s ∷ p) c = refl

gone-kept : IsPicture u (next_picture u 100 gone_labels gone Here) (after gone)
gone-kept = record {
  variables = refl;
  objects = λ n. gone-next n.by n.count;
  orderly = record {
    goes = (_, inr (refl, refl));
    ends = refl;
    right = refl;
    hidden = refl;
    stand = refl;
    new = apart;
    paths = tt;
  };
}

-- ---------- units whose code isn't whole ----------
abbrev with_code : List Ty → Code → Routine
with_code more c = record run { vars = Ref Writable (Class 0) ∷ Ref Immutable Array ∷ Ref Writable (Class 0) ∷ Ref Isolated (Class 0) ∷ more; code = c }

abbrev scoped : Routine → Bool
scoped r = is_scoped (context u r) r.code (first_live r)

-- a value stays in a variable that one branch of an `if` assigned
if-before-recover : scoped (with_code (Ref Isolated (Class 0) ∷ []) (If here (BoolLit true) [] (Do here (NewObject 2 0) End) [] End (Recover here 3 [] (0 ∷ []) (Do here (NewObject 4 0) (Give here 4 3)) back))) ≡ false
if-before-recover = refl

-- a recover block assigns an outer writable variable that it doesn't hide
assigned-within : scoped (with_code (Ref Isolated (Class 0) ∷ []) (Recover here 3 [] (0 ∷ []) (Do here (NewObject 2 0) (Do here (NewObject 4 0) (Give here 4 3))) back)) ≡ false
assigned-within = refl

-- so two lists of events ended differently
shared-between : scoped (with_code (Ref Writable (Class 0) ∷ Long ∷ []) (Recover here 3 (4 ∷ []) (0 ∷ []) (Do here (NewObject 4 0) (Do here (Assign 2 (Expression (Local 4))) (Give here 4 3))) back)) ≡ false
shared-between = refl

-- with all that is tied hidden and the assigned variable within, it is right
all-hidden : scoped (with_code (Ref Writable (Class 0) ∷ Long ∷ []) (Recover here 3 (4 ∷ []) (0 ∷ 2 ∷ []) (Do here (NewObject 4 0) (Give here 4 3)) back)) ≡ true
all-hidden = refl

-- a recover block gives to another variable than the one that takes its value, which may be hidden outside
given-elsewhere : scoped (with_code (Ref Writable (Class 0) ∷ Long ∷ []) (Recover here 3 (4 ∷ []) (0 ∷ 2 ∷ []) (Do here (NewObject 4 0) (Give here 4 2)) back)) ≡ false
given-elsewhere = refl

-- a recover block declares what it hides
hidden-own : scoped (with_code (Ref Writable (Class 0) ∷ Long ∷ []) (Recover here 3 (4 ∷ []) (0 ∷ 2 ∷ 4 ∷ []) (Do here (NewObject 4 0) (Give here 4 3)) back)) ≡ false
hidden-own = refl
