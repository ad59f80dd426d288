-- What is refused depends on the live set only in the variables that are known.
use Rattle.std.proofs.Common.{◌≡◌, ℕ, Bool, true, false, cond, List, [], ◌∷◌, ◌++◌, Option, Some, None, refl, sym, ap, ◌∙◌}
use Rattle.std.specs.Prelude.{not, ◌&&◌, ◌||◌, is_none}
use Rattle.std.specs.List.{list_any}
use Rattle.std.proofs.lemmas.Bool.{or_parts}
use Rattle.perm_tree.specs.declared.ast.Span.{Span}
use Rattle.perm_tree.specs.declared.errors.TypeKind.{TypeKind}
use Rattle.perm_tree.specs.declared.errors.TypeKind.TheVariants.{UnknownName, WrongKind, Gone, NeedsConsume, NotAllowedThrough, PermissionTooWeak, Hidden, BadGive, ParShared, ParPermission}
use Rattle.perm_tree.specs.declared.errors.TypeError.{TypeError}
use Rattle.perm_tree.specs.Code.{Term, LongLit, BoolLit, NullLit, Local, Unary, Binary, Argument, Expression, Consumed, Declare, Assign, LoadField, LoadLength, LoadItem, TakeField, NewObject, NewArray, StoreField, StoreItem, Invoke, Print, End, Give, Return, Do, If, While, Par, Recover}
use Rattle.perm_tree.specs.Mentions.{any_in_term, any_in_argument, argument_consumes}
use Rattle.perm_tree.specs.Vars.{Vars, just, minus}
use Rattle.perm_rules.specs.Parts.{Context, Part, Simple, Condition, ParHead, RecoverHead, Given, Returned, any_in_part, type_of}
use Rattle.perm_rules.specs.Liveness.{dead, after_argument, after_arguments, arguments_gone, call_gone, gone}
use Rattle.perm_rules.specs.Shapes.{unknown_name, lacks_member, wrong_kind, bad_give}
use Rattle.perm_rules.specs.Permissions.{needs_consume, not_allowed_through, permission_too_weak, is_hidden}
use Rattle.perm_rules.specs.Pars.{par_head, par_shared, par_permission}
use Rattle.perm_rules.specs.Refusals.{refusal}
use Rattle.perm_rules.specs.Effects.{Effect, changed, instruction_effect, block_effect, either, both}
use Rattle.perm_rules.specs.Goes.{hiding}
use Rattle.perm_rules.specs.FirstRefused.{Entry, entries, error_or, first_error, or_later}
use Rattle.perm_rules.specs.Laws.{AgreeOnKnown, RefusedByKnown}
use Rattle.perm_rules.proofs.Refusals.ErrorLists.{first_error-append}

-- two sets agree where a test fails
abbrev pub Agree : Vars → Vars → Vars → Type 0
Agree U S T = (x : ℕ) → U x ≡ false → S x ≡ T x

pub or-same : (a b x y : Bool) → a ≡ x → b ≡ y → (a || b) ≡ (x || y)
or-same a b x y e f = ap (λ (c : Bool). c || b) e ∙ ap (λ (c : Bool). x || c) f

module _ (U : Vars) where
  dead-agree : (G H : Vars) → Agree U G H → Agree U (dead G) (dead H)
  dead-agree G H w x u = ap not (w x u)

  minus-agree : (G H C : Vars) → Agree U G H → Agree U (minus G C) (minus H C)
  minus-agree G H C w x u = ap (λ (b : Bool). b && not (C x)) (w x u)

  pub term-agree : (S T : Vars) → Agree U S T → (e : Term) → any_in_term U e ≡ false → any_in_term S e ≡ any_in_term T e
  term-agree S T w (LongLit n) h = refl
  term-agree S T w (BoolLit b) h = refl
  term-agree S T w NullLit h = refl
  term-agree S T w (Local x) h = w x h
  term-agree S T w (Unary op a) h = term-agree S T w a h
  term-agree S T w (Binary op a b) h =
      let u = or_parts (any_in_term U a) (any_in_term U b) h in
      or-same _ _ _ _ (term-agree S T w a u.0) (term-agree S T w b u.1)

  pub argument-agree : (S T : Vars) → Agree U S T → (a : Argument) → any_in_argument U a ≡ false → any_in_argument S a ≡ any_in_argument T a
  argument-agree S T w (Expression e) h = term-agree S T w e h
  argument-agree S T w (Consumed y) h = w y h

  arguments_gone-agree : (args : List Argument) (G H : Vars) → Agree U G H → list_any (any_in_argument U) args ≡ false → arguments_gone args G ≡ arguments_gone args H
  arguments_gone-agree [] G H w h = refl
  arguments_gone-agree (a ∷ rest) G H w h =
      let u = or_parts (any_in_argument U a) (list_any (any_in_argument U) rest) h in
      or-same _ _ _ _ (argument-agree (dead G) (dead H) (dead-agree G H w) a u.0)
      (arguments_gone-agree rest (after_argument a G) (after_argument a H) (minus-agree G H (argument_consumes a) w) u.1)

  after_arguments-agree : (args : List Argument) (G H : Vars) → Agree U G H → Agree U (after_arguments args G) (after_arguments args H)
  after_arguments-agree [] G H w = w
  after_arguments-agree (a ∷ rest) G H w = after_arguments-agree rest (after_argument a G) (after_argument a H) (minus-agree G H (argument_consumes a) w)

  call_gone-agree : (consumed : Bool) (y : ℕ) (args : List Argument) (G H : Vars) → Agree U G H → U y ≡ false → list_any (any_in_argument U) args ≡ false
      → call_gone consumed y args G ≡ call_gone consumed y args H
  call_gone-agree true y args G H w u h =
      or-same _ _ _ _ (dead-agree G H w y u) (arguments_gone-agree args (minus G (just y)) (minus H (just y)) (minus-agree G H (just y) w) h)
  call_gone-agree false y args G H w u h =
      or-same _ _ _ _ (arguments_gone-agree args G H w h) (dead-agree (after_arguments args G) (after_arguments args H) (after_arguments-agree args G H w) y u)

  part-agree : (p : Part) (G H : Vars) → Agree U G H → any_in_part U p ≡ false → gone p G ≡ gone p H
  part-agree (Simple (Declare x)) G H w h = refl
  part-agree (Simple (Assign x a)) G H w h = argument-agree (dead G) (dead H) (dead-agree G H w) a (or_parts (U x) (any_in_argument U a) h).1
  part-agree (Simple (LoadField x y f)) G H w h = dead-agree G H w y (or_parts (U x) (U y) h).1
  part-agree (Simple (LoadLength x y)) G H w h = dead-agree G H w y (or_parts (U x) (U y) h).1
  part-agree (Simple (LoadItem x y i)) G H w h =
      let u = or_parts (U y) (any_in_term U i) (or_parts (U x) (U y || any_in_term U i) h).1 in
      or-same _ _ _ _ (term-agree (dead G) (dead H) (dead-agree G H w) i u.1) (dead-agree G H w y u.0)
  part-agree (Simple (TakeField x y f)) G H w h = dead-agree G H w y (or_parts (U x) (U y) h).1
  part-agree (Simple (NewObject x class)) G H w h = refl
  part-agree (Simple (NewArray x n)) G H w h = term-agree (dead G) (dead H) (dead-agree G H w) n (or_parts (U x) (any_in_term U n) h).1
  part-agree (Simple (StoreField y f a)) G H w h =
      let u = or_parts (U y) (any_in_argument U a) h in
      or-same _ _ _ _ (argument-agree (dead G) (dead H) (dead-agree G H w) a u.1)
      (dead-agree (after_argument a G) (after_argument a H) (minus-agree G H (argument_consumes a) w) y u.0)
  part-agree (Simple (StoreItem y i e)) G H w h =
      let u = or_parts (U y) (any_in_term U i || any_in_term U e) h in
      let v = or_parts (any_in_term U i) (any_in_term U e) u.1 in
      or-same _ _ _ _ (term-agree (dead G) (dead H) (dead-agree G H w) i v.0)
      (or-same _ _ _ _ (term-agree (dead G) (dead H) (dead-agree G H w) e v.1) (dead-agree G H w y u.0))
  part-agree (Simple (Invoke into tie consumed y routine args)) G H w h =
      let u = or_parts (U y) (list_any (any_in_argument U) args) (or_parts _ (U y || list_any (any_in_argument U) args) h).1 in
      call_gone-agree consumed y args G H w u.0 u.1
  part-agree (Simple (Print e)) G H w h = term-agree (dead G) (dead H) (dead-agree G H w) e h
  part-agree (Condition e) G H w h = term-agree (dead G) (dead H) (dead-agree G H w) e h
  part-agree (ParHead u1 u2 a1 a2) G H w h = refl
  part-agree (RecoverHead x) G H w h = refl
  part-agree (Given v x) G H w h = dead-agree G H w v (or_parts (U v) (U x) h).0
  part-agree (Returned a) G H w h = argument-agree (dead G) (dead H) (dead-agree G H w) a h

-- what is refused, by whether a variable isn't known and whether one is gone
abbrev refusal_by : Context → Part → Bool → Bool → Option TypeKind
refusal_by c p unknown is_gone =
    cond unknown (Some UnknownName) (cond (wrong_kind c p) (Some WrongKind) (cond is_gone (Some Gone) (cond (needs_consume c p) (Some NeedsConsume)
    (cond (not_allowed_through c p) (Some NotAllowedThrough) (cond (permission_too_weak c p) (Some PermissionTooWeak) (cond (is_hidden c p) (Some Hidden)
    (cond (bad_give c p) (Some BadGive) (cond (par_shared c p) (Some ParShared) (cond (par_permission c p) (Some ParPermission) None)))))))))

refusal-cases : (c : Context) (p : Part) (a g h : Bool) → (a ≡ false → g ≡ h) → refusal_by c p a g ≡ refusal_by c p a h
refusal-cases c p true g h e = refl
refusal-cases c p false g h e = ap (λ (b : Bool). refusal_by c p false b) (e refl)

refusal-known : (c : Context) (p : Part) (G H : Vars) → AgreeOnKnown c G H → refusal c p G ≡ refusal c p H
refusal-known c p G H w =
    refusal-cases c p (unknown_name c p) (gone p G) (gone p H)
    (λ e. part-agree (λ x. is_none (type_of c x)) p G H w (or_parts (any_in_part (λ x. is_none (type_of c x)) p) (lacks_member c p) e).0)

-- ---------- codes ----------
changed-known : (c : Context) (e : Effect) (G H : Vars) → AgreeOnKnown c G H → AgreeOnKnown c (changed e G) (changed e H)
changed-known c e G H w x u = ap (λ (b : Bool). (b && not (e.lost x)) || e.made x) (w x u)

minus-known : (c : Context) (L G H : Vars) → AgreeOnKnown c G H → AgreeOnKnown c (minus G L) (minus H L)
minus-known c L G H w x u = ap (λ (b : Bool). b && not (L x)) (w x u)

error-known : (at : Span) (o q : Option TypeKind) (a b : Option TypeError) → o ≡ q → a ≡ b → error_or at o a ≡ error_or at q b
error-known at o q a b e f = ap (λ (r : Option TypeKind). error_or at r a) e ∙ ap (λ (r : Option TypeError). error_or at q r) f

append-known : (xs ys zs ws : List Entry) → first_error xs ≡ first_error zs → first_error ys ≡ first_error ws → first_error (xs ++ ys) ≡ first_error (zs ++ ws)
append-known xs ys zs ws e f =
    first_error-append xs ys
    ∙ (ap (λ (r : Option TypeError). or_later r (first_error ys)) e ∙ (ap (λ (r : Option TypeError). or_later (first_error zs) r) f ∙ sym (first_error-append zs ws)))

pub refused-by-known : RefusedByKnown
refused-by-known c End G H w = refl
refused-by-known c (Give at v x) G H w = error-known at _ _ None None (refusal-known c (Given v x) G H w) refl
refused-by-known c (Return at a) G H w = error-known at _ _ None None (refusal-known c (Returned a) G H w) refl
refused-by-known c (Do at i rest) G H w =
    error-known at _ _ _ _ (refusal-known c (Simple i) G H w) (refused-by-known c rest _ _ (changed-known c (instruction_effect i) G H w))
refused-by-known c (If at e own1 a own2 b rest) G H w =
    error-known at _ _ _ _ (refusal-known c (Condition e) G H w)
    (append-known (entries c a G) _ (entries c a H) _ (refused-by-known c a G H w)
    (append-known (entries c b G) _ (entries c b H) _ (refused-by-known c b G H w)
    (refused-by-known c rest _ _ (changed-known c (either (block_effect own1 a) (block_effect own2 b)) G H w))))
refused-by-known c (While at e own body rest) G H w =
    let less = minus-known c (block_effect own body).lost G H w in
    error-known at _ _ _ _ (refusal-known c (Condition e) _ _ less)
    (append-known (entries c body (minus G (block_effect own body).lost)) _ (entries c body (minus H (block_effect own body).lost)) _ (refused-by-known c body _ _ less)
    (refused-by-known c rest _ _ less))
refused-by-known c (Par at own1 a own2 b rest) G H w =
    error-known at _ _ _ _ (refusal-known c (par_head c own1 a own2 b) G H w)
    (append-known (entries c a G) _ (entries c a H) _ (refused-by-known c a G H w)
    (append-known (entries c b G) _ (entries c b H) _ (refused-by-known c b G H w)
    (refused-by-known c rest _ _ (changed-known c (both (block_effect own1 a) (block_effect own2 b)) G H w))))
refused-by-known c (Recover at x own hides body rest) G H w =
    error-known at _ _ _ _ (refusal-known c (RecoverHead x) G H w)
    (append-known (entries (hiding hides c) body G) _ (entries (hiding hides c) body H) _ (refused-by-known (hiding hides c) body G H w)
    (refused-by-known c rest _ _ (changed-known c (block_effect own body) G H w)))
