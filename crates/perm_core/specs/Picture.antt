-- The region picture of a state of the core: what holds of the labels of its objects, of its variables and of the code to come.
use Rattle.std.specs.Prelude.{◌≡◌, ℕ, suc, ◌≤◌, ◌⊎◌, Bool, true, false, not, ◌&&◌, ◌||◌, nat_eq, List, [], ◌∷◌, ◌++◌, length, slice_get, Option, Some, None, cond}
use Rattle.std.specs.List.{list_all}
use Rattle.perm_tree.specs.declared.ast.Perm.{Perm}
use Rattle.perm_tree.specs.declared.ast.Shape.{Shape}
use Rattle.perm_tree.specs.declared.ast.Shape.TheVariants.{Class, Array}
use Rattle.perm_tree.specs.declared.ast.Ty.{Ty}
use Rattle.perm_tree.specs.declared.ast.Ty.TheVariants.{Long, Bool as Boolean, Ref}
use Rattle.perm_tree.specs.Code.{Code, Routine, UnitCode, Tie, Shares, Raises, Lends}
use Rattle.perm_tree.specs.CodeNames.{is_tied}
use Rattle.perm_tree.specs.Mentions.{mentioned}
use Rattle.perm_tree.specs.Vars.{Vars, none, just, those, plus, minus, some_below}
use Rattle.perm_perm.specs.Types.{fits}
use Rattle.perm_tree.specs.Shapes.{same_shape}
use Rattle.perm_rules.specs.declared.ParMode.{ParMode}
use Rattle.perm_rules.specs.Parts.{Context, type_of, if_both_known, has_isolated}
use Rattle.perm_rules.specs.Shapes.{taker_type}
use Rattle.perm_rules.specs.Permissions.{call_type}
use Rattle.perm_rules.specs.Pars.{uses, mode_of}
use Rattle.perm_rules.specs.Goes.{Goes, hiding, context}
use Rattle.perm_meaning.specs.Values.{Value, Number, Truth, Null, Reference}
use Rattle.perm_meaning.specs.Names.{Name, Path, Side, OnLeft, OnRight, Mark}
use Rattle.perm_meaning.specs.Objects.{Object, Objects}
use Rattle.perm_meaning.specs.Machine.{Frame, OpenBlock, OpenRecover, OpenCall, Blocks, Close, Leaf, Fork, Way, Here, GoL, GoR, Stage, Over, Failed, stage}
use Rattle.perm_meaning.specs.Custody.{mentions_l, mentions_r, back_l, back_r}
use Rattle.perm_meaning.specs.NamedHeap.{Held, Branch, Task, State}
use Rattle.perm_core.specs.Endings.{ByReturn, is_open, tree_ends}
use Rattle.perm_rules.specs.Scoping.{given, is_scoped, hides_tied, has_none}
use Rattle.perm_core.specs.Marked.{calls_right}
use Rattle.perm_core.specs.Regions.{Zone, Base, OwnOf, OfVariable, OfField, Labels, same_region, is_absent, var_may_lead, field_may_lead, calls, zones, top_zone, left_zone, right_zone}

-- ---------- methods by number ----------
-- what the body of a method is checked by, if the method is there
abbrev pub context_if : UnitCode → Option Routine → Context
context_if u None = record { classes = u.classes; routines = u.routines; vars = []; result = Long; hidden = [] }
context_if u (Some r) = context u r

-- what the body of a method is checked by
abbrev pub context_of : UnitCode → ℕ → Context
context_of u m = context_if u (slice_get u.routines m)

-- which side of a par of a method stands alone
abbrev pub mode_in : UnitCode → ℕ → Blocks → ParMode
mode_in u m p = mode_of (context_of u m) (uses (context_of u m) p.own_l p.left) (uses (context_of u m) p.own_r p.right)

-- ---------- values by their types ----------
-- the length in a reference is that of an array, and 0 for an object of a class
abbrev pub length_fits : Shape → ℕ → ℕ → Bool
length_fits Array n len = nat_eq n len
length_fits (Class k) n len = nat_eq len 0

-- the object is there, with this shape and length
abbrev pub has_shape : Option (Object Name) → Shape → ℕ → Bool
has_shape None k len = false
has_shape (Some o) k len = same_shape o.shape k && length_fits k (length o.values) len

-- a value is one of a type: a reference is null, or its object has the shape and a test holds of the permission and of what it names
abbrev pub value_fits : Objects Name → (Perm → Name → Bool) → Ty → Value Name → Bool
value_fits h test Long (Number n) = true
value_fits h test Boolean (Truth b) = true
value_fits h test (Ref p k) Null = true
value_fits h test (Ref p k) (Reference n len) = has_shape (h n) k len && test p n
value_fits h test _ _ = false

module _ (u : UnitCode) (labels : Labels) (h : Objects Name) where
  -- ---------- variables ----------
  -- variable x of the frame with k open calls below it, at node w in zone z
  abbrev pub variable_fits : Zone → Way → ℕ → ℕ → Ty → Held → Bool
  variable_fits z w k x t None = true
  variable_fits z w k x t (Some v) = value_fits h (λ p n. var_may_lead p (OfVariable w k x) z (labels n)) t v

  -- the variables of a frame from number x on, one of each type
  abbrev pub variables_fit : Zone → Way → ℕ → ℕ → List Ty → List Held → Bool
  variables_fit z w k x (t ∷ ts) (v ∷ vs) = variable_fits z w k x t v && variables_fit z w k (suc x) ts vs
  variables_fit z w k x [] [] = true
  variables_fit z w k x _ _ = false

  -- what a call borrows is in the own region of the call's zone
  abbrev pub lent_fits : Zone → Option Ty → Option Held → Bool
  lent_fits z (Some t) (Some (Some v)) = value_fits h (λ p n. same_region (labels n) (OwnOf z)) t v
  lent_fits z t (Some None) = false
  lent_fits z t None = true
  lent_fits z None (Some (Some v)) = false

  -- something is lent only where the call lends, and then the lent variable is isolated
  abbrev pub lent_right : Tie → Option Ty → Option Held → Bool
  lent_right tie t None = true
  lent_right Lends t (Some v) = has_isolated t
  lent_right Shares t (Some v) = false
  lent_right Raises t (Some v) = false

  -- no variable takes the result
  abbrev pub is_dropped : Option ℕ → Bool
  is_dropped None = true
  is_dropped (Some x) = false

  -- the result of an open call fits the variable that takes it, and nothing tied comes through a lent receiver
  abbrev pub result_fits : Tie → Ty → Option ℕ → ℕ → Bool
  result_fits Lends t into caller = not (is_tied t) && (is_dropped into || if_both_known (Some t) (taker_type (context_of u caller) into) fits)
  result_fits tie t into caller = is_dropped into || if_both_known (Some (call_type tie t)) (taker_type (context_of u caller) into) fits

  -- the variables that are laid by in a stack, above which code of method m stands
  abbrev pub stack_fits : Way → Zone → ℕ → List (Frame Held) → Bool
  stack_fits w z m [] = true
  stack_fits w z m (OpenBlock own rest ∷ st) = stack_fits w z m st
  stack_fits w z m (OpenRecover own hides saved rest ∷ st) = variables_fit (top_zone w z st) w (calls st) 0 (context_of u m).vars saved && stack_fits w z m st
  stack_fits w z m (OpenCall tie into y saved lent caller rest ∷ st) =
      variables_fit (top_zone w z st) w (calls st) 0 (context_of u caller).vars saved
      && ((lent_right tie (type_of (context_of u caller) y) lent && lent_fits (Base w (suc (zones st))) (type_of (context_of u caller) y) lent)
      && (result_fits tie (context_of u m).result into caller && stack_fits w z caller st))

  -- the branch has an end
  abbrev pub has_end : Option (Close Held) → Bool
  has_end None = false
  has_end (Some e) = true

  -- a branch that has an end keeps no variables
  abbrev pub branch_fits : Way → Zone → Branch → Bool
  branch_fits w z b = has_end b.close || (variables_fit (top_zone w z b.stack) w (calls b.stack) 0 (context_of u b.own.routine).vars b.own.vars && stack_fits w z b.own.routine b.stack)

  -- all variables of a tree whose nodes are where `at` puts them, where the tree begins in zone z
  abbrev pub tree_fits : (Way → Way) → Zone → Task → Bool
  tree_fits at z (Leaf b) = branch_fits (at Here) z b
  tree_fits at z (Fork b p l r) =
      branch_fits (at Here) z b
      && (tree_fits (λ w. at (GoL w)) (left_zone (mode_in u b.own.routine p) (at (GoL Here)) (top_zone (at Here) z b.stack)) l
      && tree_fits (λ w. at (GoR w)) (right_zone (mode_in u b.own.routine p) (at (GoR Here)) (top_zone (at Here) z b.stack)) r)

  -- ---------- objects ----------
  -- the fields of an object from number f on
  abbrev pub fields_fit : Name → ℕ → List Ty → List (Value Name) → Bool
  fields_fit o f (t ∷ ts) (v ∷ vs) = value_fits h (λ p n. field_may_lead p (OfField o f) (labels o) (labels n)) t v && fields_fit o (suc f) ts vs
  fields_fit o f [] [] = true
  fields_fit o f _ _ = false

  -- the value of an element
  abbrev pub is_number : Value Name → Bool
  is_number (Number n) = true
  is_number _ = false

  -- the values are those of the fields of a class
  abbrev pub class_fits : Name → Option (List Ty) → List (Value Name) → Bool
  class_fits o None vs = false
  class_fits o (Some ts) vs = fields_fit o 0 ts vs

  -- the values of an object are of the types of its shape
  abbrev pub values_fit : Name → Shape → List (Value Name) → Bool
  values_fit o Array vs = list_all is_number vs
  values_fit o (Class k) vs = class_fits o (slice_get u.classes k) vs

  -- an object has a label and values of the types of its fields, and what isn't made has none
  abbrev pub object_fits : Name → Option (Object Name) → Bool
  object_fits o None = is_absent (labels o)
  object_fits o (Some x) = not (is_absent (labels o)) && values_fit o x.shape x.values

-- ---------- the code to come ----------
-- the variable is there and has a value
abbrev pub has_value : Option Held → Bool
has_value None = false
has_value (Some None) = false
has_value (Some (Some v)) = true

-- the variables that have a value; each live one has one, and a value may outlast its liveness
abbrev pub valued : List Held → Vars
valued vs x = has_value (slice_get vs x)

-- what is hidden where the code above a stack stands
abbrev pub hidden_above : List ℕ → List (Frame Held) → List ℕ
hidden_above below [] = below
hidden_above below (OpenBlock own rest ∷ st) = hidden_above below st
hidden_above below (OpenRecover own hides saved rest ∷ st) = hides ++ hidden_above below st
hidden_above below (OpenCall tie into y saved lent caller rest ∷ st) = []

-- the variable that takes a call's result
abbrev pub just_taken : Option ℕ → Vars
just_taken None = none
just_taken (Some x) = just x

-- the variable that is lent to a call
abbrev pub just_lent : Option Held → ℕ → Vars
just_lent None y = none
just_lent (Some v) y = just y

-- the live set with which the code below a frame goes on, where the code above it ends with K
abbrev pub live_after : Frame Held → Vars → Vars
live_after (OpenBlock own rest) K = minus K (those own)
live_after (OpenRecover own hides saved rest) K = plus (minus K (those own)) (valued saved)
live_after (OpenCall tie into y saved lent caller rest) K = plus (valued saved) (plus (just_lent lent y) (just_taken into))

-- the code below a frame
abbrev pub rest_of : Frame Held → Code
rest_of (OpenBlock own rest) = rest
rest_of (OpenRecover own hides saved rest) = rest
rest_of (OpenCall tie into y saved lent caller rest) = rest

-- the method of that code, where the code above stands in method m
abbrev pub routine_below : Frame Held → ℕ → ℕ
routine_below (OpenBlock own rest) m = m
routine_below (OpenRecover own hides saved rest) m = m
routine_below (OpenCall tie into y saved lent caller rest) m = caller

module _ (u : UnitCode) where
  -- what the code above a stack is checked by
  abbrev pub context_above : List ℕ → ℕ → List (Frame Held) → Context
  context_above below m st = hiding (hidden_above below st) (context_of u m)

  -- the code of method m goes from G, and so does all that stands below it, in the end to H
  abbrev pub RestGoes : List ℕ → ℕ → Code → List (Frame Held) → Vars → Vars → Type 0
  RestGoes below m c [] G H = Goes (context_above below m []) c G H
  RestGoes below m c (f ∷ st) G H =
      (K : Vars) × Goes (context_above below m (f ∷ st)) c G K × RestGoes below (routine_below f m) (rest_of f) st (live_after f K) H

  -- what is live after a join: what comes back from a side is live where it was there
  abbrev pub live_joined : ℕ → Blocks → Vars → Vars → Vars → Vars
  live_joined m p G H1 H2 x = cond (back_r u m p x) (H2 x) (cond (back_l u m p x) (H1 x) (G x))

  -- the branch has failed
  abbrev pub HasFailed : Stage Held → Type 0
  HasFailed (Over (Failed e t p)) = Unit {0}
  HasFailed _ = ⊥

  -- the code to come of a tree goes, in the end to H; a branch that has failed goes anywhere
  abbrev pub TreeGoes : List ℕ → Task → Vars → Type 0
  TreeGoes below (Leaf b) H = HasFailed (stage b) ⊎ RestGoes below b.own.routine b.code b.stack (valued b.own.vars) H
  TreeGoes below (Fork b p l r) H =
      (H1 : Vars) × (H2 : Vars) × TreeGoes (hidden_above below b.stack) l H1 × TreeGoes (hidden_above below b.stack) r H2
      × RestGoes below b.own.routine b.code b.stack (live_joined b.own.routine p (valued b.own.vars) H1 H2) H

-- ---------- what may have a value ----------
-- what may have a value where the code below a frame goes on, where the code above it is entered with at most U
abbrev pub grown : Frame Held → Code → Vars → Vars
grown (OpenBlock own rest) c U = minus (plus U (mentioned c)) (those own)
grown (OpenRecover own hides saved rest) c U = plus (minus (plus U (mentioned c)) (those own)) (plus (valued saved) (given c))
grown (OpenCall tie into y saved lent caller rest) c U = plus (valued saved) (plus (just_lent lent y) (just_taken into))

-- no readable or writable variable from outside of an open recover block gets a value in it
abbrev pub recover_right : Context → Frame Held → Code → Vars → Bool
recover_right c (OpenRecover own hides saved rest) a U = hides_tied c (minus (plus U (mentioned a)) (those own)) hides
recover_right c _ a U = true

-- what a code says of its calls is right, and it is rightly scoped
abbrev pub code_right : Context → Code → Vars → Bool
code_right c a U = calls_right c a && is_scoped c a U

module _ (u : UnitCode) where
  -- the same of the code of method m, entered with at most U, and of all that stands below it
  abbrev pub stack_right : ℕ → Code → List (Frame Held) → Vars → Bool
  stack_right m c [] U = code_right (context_of u m) c U
  stack_right m c (f ∷ st) U = code_right (context_of u m) c U && (recover_right (context_of u m) f c U && stack_right (routine_below f m) (rest_of f) st (grown f c U))

  -- the same of all branches of a tree; what stands in a side may have a value after the join
  abbrev pub tree_right : Task → Bool
  tree_right (Leaf b) = stack_right b.own.routine b.code b.stack (valued b.own.vars)
  tree_right (Fork b p l r) = stack_right b.own.routine b.code b.stack (plus (valued b.own.vars) (plus (mentions_l p) (mentions_r p))) && (tree_right l && tree_right r)

-- ---------- hidden variables ----------
-- no listed variable has a value
abbrev pub none_valued : List ℕ → List Held → Bool
none_valued hides vs = has_none (valued vs) hides

-- only listed variables have a value
abbrev pub only_valued : List ℕ → List Held → Bool
only_valued hides vs = not (some_below (length vs) (minus (valued vs) (those hides)))

-- what is laid by at a recover block is hidden in it. Where the code c ends, no variable that is hidden there gets a value: neither one that is given to, nor one that is lent or takes a result
abbrev pub stack_hidden : List ℕ → Code → List (Frame Held) → Bool
stack_hidden below c [] = true
stack_hidden below c (OpenBlock own rest ∷ st) = stack_hidden below rest st
stack_hidden below c (OpenRecover own hides saved rest ∷ st) =
    (only_valued hides saved && none_valued (hidden_above below st) saved) && (has_none (given c) (hidden_above below st) && stack_hidden below rest st)
stack_hidden below c (OpenCall tie into y saved lent caller rest ∷ st) =
    (none_valued (hidden_above below st) saved && has_none (plus (just_lent lent y) (just_taken into)) (hidden_above below st)) && stack_hidden below rest st

-- nor has one that is hidden now
abbrev pub branch_hidden : List ℕ → Branch → Bool
branch_hidden below b = none_valued (hidden_above below b.stack) b.own.vars && stack_hidden below b.code b.stack

-- so it is in all branches of a tree; what is hidden at a par is hidden in its sides
abbrev pub tree_hidden : List ℕ → Task → Bool
tree_hidden below (Leaf b) = branch_hidden below b
tree_hidden below (Fork b p l r) = branch_hidden below b && (tree_hidden (hidden_above below b.stack) l && tree_hidden (hidden_above below b.stack) r)

-- ---------- methods ----------
-- the method of the code that stands lowest, where that above the stack is of method m
abbrev pub lowest : ℕ → List (Frame Held) → ℕ
lowest m [] = m
lowest m (f ∷ st) = lowest (routine_below f m) st

-- the lowest method of a side that has no end is m
abbrev pub stands_in : ℕ → Task → Bool
stands_in m (Leaf b) = not (is_open b.close) || nat_eq (lowest b.own.routine b.stack) m
stands_in m (Fork b p l r) = nat_eq (lowest b.own.routine b.stack) m

-- the sides of a par stand in the method of their parent
abbrev pub sides_stand : Task → Bool
sides_stand (Leaf b) = true
sides_stand (Fork b p l r) = (stands_in b.own.routine l && stands_in b.own.routine r) && (sides_stand l && sides_stand r)

-- ---------- names to come ----------
-- the one branch is the other, or stands below it
abbrev pub IsBelow : Path → Path → Type 0
IsBelow above [] = above ≡ []
IsBelow above (s ∷ p) = (above ≡ s ∷ p) ⊎ IsBelow above p

-- a name that a branch may still give, or a branch of one of its pars to come
pub data MayGive (m : Mark) : Name → Type 0 where
  next : (c : ℕ) → m.made ≤ c → MayGive m (record { by = m.path; count = c })
  later : (k c : ℕ) (s : Side) (p : Path) → m.pars ≤ k → IsBelow ((k, s) ∷ m.path) p → MayGive m (record { by = p; count = c })

-- a name that some branch of the tree, or of its pars to come, may still give
abbrev pub MayBeGiven : Task → Name → Type 0
MayBeGiven (Leaf b) n = MayGive b.own.mark n
MayBeGiven (Fork b p l r) n = MayGive b.own.mark n ⊎ (MayBeGiven l n ⊎ MayBeGiven r n)

-- where the root of a tree stands
abbrev pub path_of : Task → Path
path_of (Leaf b) = b.own.mark.path
path_of (Fork b p l r) = b.own.mark.path

-- the sides of a waiting parent are those of the par that it began last
abbrev pub PathsFit : Task → Type 0
PathsFit (Leaf b) = Unit {0}
PathsFit (Fork b p l r) =
    (k : ℕ) × (b.own.mark.pars ≡ suc k) × (path_of l ≡ (k, OnLeft) ∷ b.own.mark.path) × (path_of r ≡ (k, OnRight) ∷ b.own.mark.path) × PathsFit l × PathsFit r

-- ---------- the picture ----------
-- what a picture asks besides of a state: its code goes on and ends, what that says of calls is right and it is rightly scoped, no hidden variable has a value, each side stands in the method of its parent, and no object has a name that is still to be given
pub record IsOrderly (u : UnitCode) (s : State) : Type 0 where
  pub goes : (H : Vars) × TreeGoes u [] s.task H
  pub ends : tree_ends ByReturn s.task ≡ true
  pub right : tree_right u s.task ≡ true
  pub hidden : tree_hidden [] s.task ≡ true
  pub stand : sides_stand s.task ≡ true
  pub new : (n : Name) → MayBeGiven s.task n → s.heap.objects n ≡ None
  pub paths : PathsFit s.task

-- the labels are a picture of the state: its variables and its objects lead only where their permissions allow, and it is orderly
pub record IsPicture (u : UnitCode) (labels : Labels) (s : State) : Type 0 where
  pub variables : tree_fits u labels s.heap.objects (λ w. w) (Base Here 0) s.task ≡ true
  pub objects : (n : Name) → object_fits u labels s.heap.objects n (s.heap.objects n) ≡ true
  pub orderly : IsOrderly u s
