-- Laws of single parts: what is refused, how that depends on the live set, and effects.
use Rattle.std.proofs.Common.{◌≡◌, ℕ, ◌<◌, ◌≤◌, Bool, true, false, cond, List, [], ◌∷◌, length, Option, Some, None, refl, sym, ap, subst, ◌∙◌, inl, inr}
use Rattle.std.specs.Prelude.{not, ◌&&◌, ◌||◌, find, nat_eq, is_none, slice_get}
use Rattle.std.specs.List.{list_any}
use Rattle.std.proofs.lemmas.Bool.{eqb-true, or_left, cases_lt}
use Rattle.std.proofs.lemmas.Option.{slice_get_past}
use mathlib.Core.Bool.{beq}
use Rattle.perm_tree.specs.declared.errors.TypeKind.{TypeKind}
use Rattle.perm_tree.specs.declared.errors.TypeKind.TheVariants.{UnknownName, WrongKind, Gone, NeedsConsume, NotAllowedThrough, PermissionTooWeak, Hidden, BadGive, ParShared, ParPermission}
use Rattle.perm_tree.specs.Code.{Term, LongLit, BoolLit, NullLit, Local, Unary, Binary, Argument, Expression, Consumed, Instruction, Declare, Assign, LoadField, LoadLength, LoadItem, TakeField, NewObject, NewArray, StoreField, StoreItem, Invoke, Print}
use Rattle.perm_tree.specs.Mentions.{any_in_term, any_in_argument, any_in_option, any_in_instruction, argument_consumes, consumes, assigns}
use Rattle.perm_tree.specs.Vars.{Vars, none, just, plus, minus, IsWithin}
use Rattle.perm_tree.proofs.MentionLaws.{within-minus}
use Rattle.perm_rules.specs.Parts.{Context, Part, Simple, Condition, ParHead, RecoverHead, Given, Returned, any_in_part, type_of}
use Rattle.perm_rules.specs.Liveness.{dead, after, after_argument, after_arguments, arguments_gone, call_gone, instruction_gone, gone}
use Rattle.perm_rules.specs.Shapes.{lacks_member}
use Rattle.perm_rules.specs.Refusals.{applies, kinds, IsAllowed}
use Rattle.perm_rules.specs.Effects.{changed, instruction_effect}
use Rattle.perm_perm.proofs.OverAll.{implies, implies-at}
use Rattle.perm_rules.proofs.Truth.{implies-from, each-of-two, each-of-three}
use Rattle.perm_rules.proofs.SetLaws.{IsClear, same-by-test, lost-changed, clear-none, clear-minus}

-- ---------- kinds ----------
find-none-parts : (k : TypeKind) (a : Bool) (rest : Option TypeKind) → cond a (Some k) rest ≡ None → (a ≡ false) × (rest ≡ None)
find-none-parts k true rest h = absurd (cc)
find-none-parts k false rest h = (refl, h)

-- no kind applies to an allowed part
pub applies-none : (c : Context) (p : Part) (G : Vars) → IsAllowed c p G → (k : TypeKind) → applies c p G k ≡ false
applies-none c p G h k =
    let h1 = find-none-parts UnknownName _ _ h in
    let h2 = find-none-parts WrongKind _ _ h1.1 in
    let h3 = find-none-parts Gone _ _ h2.1 in
    let h4 = find-none-parts NeedsConsume _ _ h3.1 in
    let h5 = find-none-parts NotAllowedThrough _ _ h4.1 in
    let h6 = find-none-parts PermissionTooWeak _ _ h5.1 in
    let h7 = find-none-parts Hidden _ _ h6.1 in
    let h8 = find-none-parts BadGive _ _ h7.1 in
    let h9 = find-none-parts ParShared _ _ h8.1 in
    let h10 = find-none-parts ParPermission _ _ h9.1 in
    elim k as (λ k. applies c p G k ≡ false) [
      | UnknownName ↦ h1.0
      | WrongKind ↦ h2.0
      | Gone ↦ h3.0
      | NeedsConsume ↦ h4.0
      | NotAllowedThrough ↦ h5.0
      | PermissionTooWeak ↦ h6.0
      | Hidden ↦ h7.0
      | BadGive ↦ h8.0
      | ParShared ↦ h9.0
      | ParPermission ↦ h10.0
    ]

-- where no kind of the one test applies, none of a test applies that holds of fewer
find-none-fewer : (f g : TypeKind → Bool) (ks : List TypeKind) → ((k : TypeKind) → g k ≡ true → f k ≡ true) → find f ks ≡ None → find g ks ≡ None
find-none-fewer f g [] less h = refl
find-none-fewer f g (k ∷ ks) less h = go (find-none-fewer f g ks less) (f k) (g k) (less k) h
  where
    go : (find f ks ≡ None → find g ks ≡ None) → (a b : Bool) → (b ≡ true → a ≡ true) → cond a (Some k) (find f ks) ≡ None → cond b (Some k) (find g ks) ≡ None
    go r true b l e = absurd (cc)
    go r false true l e = let q : false ≡ true = l refl in cc
    go r false false l e = r e

-- ---------- tests of variables ----------
pub or-implies : (a b x y : Bool) → (a ≡ true → x ≡ true) → (b ≡ true → y ≡ true) → (a || b) ≡ true → (x || y) ≡ true
or-implies true b true y f g h = refl
or-implies true b false y f g h = let e : false ≡ true = f refl in cc
or-implies false b true y f g h = refl
or-implies false b false y f g h = g h

module _ (S T : Vars) (w : IsWithin S T) where
  -- a test that holds of more variables holds of some variable wherever the other does
  pub any_in_term-within : (e : Term) → any_in_term S e ≡ true → any_in_term T e ≡ true
  any_in_term-within (LongLit n) h = h
  any_in_term-within (BoolLit b) h = h
  any_in_term-within NullLit h = h
  any_in_term-within (Local x) h = w x h
  any_in_term-within (Unary op a) h = any_in_term-within a h
  any_in_term-within (Binary op a b) h = or-implies _ _ _ _ (any_in_term-within a) (any_in_term-within b) h

  pub any_in_argument-within : (a : Argument) → any_in_argument S a ≡ true → any_in_argument T a ≡ true
  any_in_argument-within (Expression e) h = any_in_term-within e h
  any_in_argument-within (Consumed y) h = w y h

  arguments-within : (args : List Argument) → list_any (any_in_argument S) args ≡ true → list_any (any_in_argument T) args ≡ true
  arguments-within [] h = h
  arguments-within (a ∷ rest) h = or-implies _ _ _ _ (any_in_argument-within a) (arguments-within rest) h

  any_in_option-within : (o : Option ℕ) → any_in_option S o ≡ true → any_in_option T o ≡ true
  any_in_option-within None h = h
  any_in_option-within (Some x) h = w x h

  any_in_instruction-within : (i : Instruction) → any_in_instruction S i ≡ true → any_in_instruction T i ≡ true
  any_in_instruction-within (Declare x) h = w x h
  any_in_instruction-within (Assign x a) h = or-implies _ _ _ _ (w x) (any_in_argument-within a) h
  any_in_instruction-within (LoadField x y f) h = or-implies _ _ _ _ (w x) (w y) h
  any_in_instruction-within (LoadLength x y) h = or-implies _ _ _ _ (w x) (w y) h
  any_in_instruction-within (LoadItem x y i) h = or-implies _ _ _ _ (w x) (or-implies _ _ _ _ (w y) (any_in_term-within i)) h
  any_in_instruction-within (TakeField x y f) h = or-implies _ _ _ _ (w x) (w y) h
  any_in_instruction-within (NewObject x class) h = w x h
  any_in_instruction-within (NewArray x n) h = or-implies _ _ _ _ (w x) (any_in_term-within n) h
  any_in_instruction-within (StoreField y f a) h = or-implies _ _ _ _ (w y) (any_in_argument-within a) h
  any_in_instruction-within (StoreItem y i e) h = or-implies _ _ _ _ (w y) (or-implies _ _ _ _ (any_in_term-within i) (any_in_term-within e)) h
  any_in_instruction-within (Invoke into tie consumed y routine args) h =
      or-implies _ _ _ _ (any_in_option-within into) (or-implies _ _ _ _ (w y) (arguments-within args)) h
  any_in_instruction-within (Print e) h = any_in_term-within e h

  pub any_in_part-within : (p : Part) → any_in_part S p ≡ true → any_in_part T p ≡ true
  any_in_part-within (Simple i) h = any_in_instruction-within i h
  any_in_part-within (Condition e) h = any_in_term-within e h
  any_in_part-within (ParHead u1 u2 a1 a2) h = h
  any_in_part-within (RecoverHead x) h = w x h
  any_in_part-within (Given v x) h = or-implies _ _ _ _ (w v) (w x) h
  any_in_part-within (Returned a) h = any_in_argument-within a h

-- a variable that stands in an allowed part is known
pub part-known : (c : Context) (p : Part) (G : Vars) → IsAllowed c p G → (x : ℕ) → any_in_part (nat_eq x) p ≡ true → x < length c.vars
part-known c p G h x m = elim (cases_lt x (length c.vars)) [ inl lt ↦ lt | inr past ↦ absurd (clash past) ]
  where
    unknown : Vars
    unknown y = is_none (type_of c y)

    clash : length c.vars ≤ x → ⊥
    clash past =
        let none_there : slice_get c.vars x ≡ None = slice_get_past c.vars x past in
        let here : is_none (slice_get c.vars x) ≡ true = ap is_none none_there in
        let within : IsWithin (nat_eq x) unknown = λ y e. subst (λ z. is_none (slice_get c.vars z) ≡ true) (eqb-true x y e) here in
        let some : any_in_part unknown p ≡ true = any_in_part-within (nat_eq x) unknown within p m in
        let both : true ≡ false = sym (or_left (any_in_part unknown p) (lacks_member c p) some) ∙ applies-none c p G h UnknownName in
        cc

-- ---------- live sets ----------
dead-within : (G H : Vars) → IsWithin G H → IsWithin (dead H) (dead G)
dead-within G H w x h =
    implies-at _ _ (implies-at _ _ (each-of-two (λ g k. implies (implies g k) (implies (not k) (not g))) refl (G x) (H x)) (implies-from (G x) (H x) (w x))) h

after_argument-within : (a : Argument) (G H : Vars) → IsWithin G H → IsWithin (after_argument a G) (after_argument a H)
after_argument-within a G H w = within-minus G H (argument_consumes a) w

after_arguments-within : (args : List Argument) (G H : Vars) → IsWithin G H → IsWithin (after_arguments args G) (after_arguments args H)
after_arguments-within [] G H w = w
after_arguments-within (a ∷ rest) G H w = after_arguments-within rest (after_argument a G) (after_argument a H) (after_argument-within a G H w)

arguments_gone-within : (args : List Argument) (G H : Vars) → IsWithin G H → arguments_gone args H ≡ true → arguments_gone args G ≡ true
arguments_gone-within [] G H w h = h
arguments_gone-within (a ∷ rest) G H w h =
    or-implies _ _ _ _ (any_in_argument-within (dead H) (dead G) (dead-within G H w) a)
    (arguments_gone-within rest (after_argument a G) (after_argument a H) (after_argument-within a G H w)) h

call_gone-within : (consumed : Bool) (y : ℕ) (args : List Argument) (G H : Vars) → IsWithin G H → call_gone consumed y args H ≡ true → call_gone consumed y args G ≡ true
call_gone-within true y args G H w h =
    or-implies _ _ _ _ (dead-within G H w y) (arguments_gone-within args (minus G (just y)) (minus H (just y)) (within-minus G H (just y) w)) h
call_gone-within false y args G H w h =
    or-implies _ _ _ _ (arguments_gone-within args G H w) (dead-within (after_arguments args G) (after_arguments args H) (after_arguments-within args G H w) y) h

instruction_gone-within : (i : Instruction) (G H : Vars) → IsWithin G H → instruction_gone i H ≡ true → instruction_gone i G ≡ true
instruction_gone-within (Declare x) G H w h = h
instruction_gone-within (Assign x a) G H w h = any_in_argument-within (dead H) (dead G) (dead-within G H w) a h
instruction_gone-within (LoadField x y f) G H w h = dead-within G H w y h
instruction_gone-within (LoadLength x y) G H w h = dead-within G H w y h
instruction_gone-within (LoadItem x y i) G H w h = or-implies _ _ _ _ (any_in_term-within (dead H) (dead G) (dead-within G H w) i) (dead-within G H w y) h
instruction_gone-within (TakeField x y f) G H w h = dead-within G H w y h
instruction_gone-within (NewObject x class) G H w h = h
instruction_gone-within (NewArray x n) G H w h = any_in_term-within (dead H) (dead G) (dead-within G H w) n h
instruction_gone-within (StoreField y f a) G H w h =
    or-implies _ _ _ _ (any_in_argument-within (dead H) (dead G) (dead-within G H w) a)
    (dead-within (after_argument a G) (after_argument a H) (after_argument-within a G H w) y) h
instruction_gone-within (StoreItem y i e) G H w h =
    or-implies _ _ _ _ (any_in_term-within (dead H) (dead G) (dead-within G H w) i)
    (or-implies _ _ _ _ (any_in_term-within (dead H) (dead G) (dead-within G H w) e) (dead-within G H w y)) h
instruction_gone-within (Invoke into tie consumed y routine args) G H w h = call_gone-within consumed y args G H w h
instruction_gone-within (Print e) G H w h = any_in_term-within (dead H) (dead G) (dead-within G H w) e h

gone-within : (p : Part) (G H : Vars) → IsWithin G H → gone p H ≡ true → gone p G ≡ true
gone-within (Simple i) G H w h = instruction_gone-within i G H w h
gone-within (Condition e) G H w h = any_in_term-within (dead H) (dead G) (dead-within G H w) e h
gone-within (ParHead u1 u2 a1 a2) G H w h = h
gone-within (RecoverHead x) G H w h = h
gone-within (Given v x) G H w h = dead-within G H w v h
gone-within (Returned a) G H w h = any_in_argument-within (dead H) (dead G) (dead-within G H w) a h

applies-within : (c : Context) (p : Part) (G H : Vars) → IsWithin G H → (k : TypeKind) → applies c p H k ≡ true → applies c p G k ≡ true
applies-within c p G H w UnknownName h = h
applies-within c p G H w WrongKind h = h
applies-within c p G H w Gone h = gone-within p G H w h
applies-within c p G H w NeedsConsume h = h
applies-within c p G H w NotAllowedThrough h = h
applies-within c p G H w PermissionTooWeak h = h
applies-within c p G H w Hidden h = h
applies-within c p G H w BadGive h = h
applies-within c p G H w ParShared h = h
applies-within c p G H w ParPermission h = h

-- a part that is allowed stays so with a larger live set
pub allowed-monotone : (c : Context) (p : Part) (G H : Vars) → IsWithin G H → IsAllowed c p G → IsAllowed c p H
allowed-monotone c p G H w h = find-none-fewer (applies c p G) (applies c p H) kinds (applies-within c p G H w) h

-- ---------- effects ----------
pub taken-changed : (C A G : Vars) → plus (minus G C) A ≡ changed (record { lost = minus C A; made = A }) G
taken-changed C A G = same-by-test _ _ (λ x. each-of-three (λ g c a. beq ((g && not c) || a) ((g && not (c && not a)) || a)) refl (G x) (C x) (A x))

-- a simple statement does what its effect says
pub after-changed : (i : Instruction) (G : Vars) → after i G ≡ changed (instruction_effect i) G
after-changed (Declare x) G = lost-changed (just x) G
after-changed (Assign x a) G = taken-changed _ _ G
after-changed (LoadField x y f) G = taken-changed none (just x) G
after-changed (LoadLength x y) G = taken-changed none (just x) G
after-changed (LoadItem x y i) G = taken-changed none (just x) G
after-changed (TakeField x y f) G = taken-changed none (just x) G
after-changed (NewObject x class) G = taken-changed none (just x) G
after-changed (NewArray x n) G = taken-changed none (just x) G
after-changed (StoreField y f a) G = taken-changed (argument_consumes a) none G
after-changed (StoreItem y i e) G = taken-changed none none G
after-changed (Invoke into tie consumed y routine args) G =
    taken-changed (consumes (Invoke into tie consumed y routine args)) (assigns (Invoke into tie consumed y routine args)) G
after-changed (Print e) G = taken-changed none none G

pub instruction-clear : (i : Instruction) → IsClear (instruction_effect i)
instruction-clear (Declare x) = clear-none (just x)
instruction-clear (Assign x a) = clear-minus (argument_consumes a) (just x)
instruction-clear (LoadField x y f) = clear-minus none (just x)
instruction-clear (LoadLength x y) = clear-minus none (just x)
instruction-clear (LoadItem x y i) = clear-minus none (just x)
instruction-clear (TakeField x y f) = clear-minus none (just x)
instruction-clear (NewObject x class) = clear-minus none (just x)
instruction-clear (NewArray x n) = clear-minus none (just x)
instruction-clear (StoreField y f a) = clear-minus (argument_consumes a) none
instruction-clear (StoreItem y i e) = clear-minus none none
instruction-clear (Invoke into tie consumed y routine args) =
    clear-minus (consumes (Invoke into tie consumed y routine args)) (assigns (Invoke into tie consumed y routine args))
instruction-clear (Print e) = clear-minus none none
