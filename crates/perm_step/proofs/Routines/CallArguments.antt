-- The words of arguments, one after the other.
use Rattle.std.proofs.Common.{◌≡◌, ◌∙◌, ℕ, zero, suc, ◌+◌, ◌-◌, ◌<◌, ◌≤◌, List, [], ◌∷◌, ◌++◌, length, take, drop, get_or, refl, ap, sym, subst, inl, inr, arith}
use Rattle.std.proofs.Math.Seq.{take-length}
use Rattle.std.proofs.lemmas.List.{take-append-le}
use Rattle.std.proofs.lemmas.Bool.{cases_lt}
use Rattle.std.proofs.lemmas.Option.{get_or_from_slice_get, slice_get-get_or, slice_get_within}
use Rattle.perm_tree.specs.declared.bodies.Argument.{Argument}
use Rattle.perm_tree.specs.declared.bodies.Argument.TheVariants as handed
use Rattle.perm_tree.specs.declared.bodies.Expression.TheVariants as expressions
use Rattle.perm_tree.specs.declared.bodies.Operation.{Operation}
use Rattle.perm_tree.specs.declared.errors.TrapKind.{TrapKind}
use Rattle.perm_tree.specs.BodyTerms.{stretch, AreArgumentsIn, IsArgumentIn}
use Rattle.perm_meaning.specs.Words.{referred_by}
use Rattle.perm_step.specs.CallParts.{locals_before, HasRoomBefore}
use Rattle.perm_step.specs.Rooms.{HasRoomForArgument, HasRoomForArguments}
use Rattle.perm_step.specs.Given.{ArgumentGives, ArgumentTraps, ArgumentsGive, ArgumentsTrap, IsObjectBy}
use Rattle.perm_step.specs.Working.{Room, Working, locals}

-- each of some arguments is there
pub argument-in : (all : List Operation) (args : List Argument) (i : ℕ) (d : Argument) → i < length args → AreArgumentsIn all args → IsArgumentIn all (get_or args i d)
argument-in all [] i d inside there = absurd (omega arith)
argument-in all (a ∷ args) zero d inside there = there.0
argument-in all (a ∷ args) (suc i) d inside there = argument-in all args i d (omega arith) there.1

module _ (all : List Operation) (vs : List ℕ) where
  -- one argument more gives its word
  pub gives-more : (args : List Argument) (i : ℕ) (d : Argument) (found here : List ℕ) (w : ℕ) → i < length args → ArgumentsGive all vs (take i args) found → here ≡ vs → ArgumentGives all here (get_or args i d) w
      → ArgumentsGive all vs (take (suc i) args) (found ++ w ∷ [])
  gives-more [] i d found here w inside gives same one = absurd (omega arith)
  gives-more (a ∷ args) zero d [] here w inside gives same one = (subst (λ x. ArgumentGives all x a w) same one, tt)
  gives-more (a ∷ args) zero d (v ∷ found) here w inside gives same one = absurd gives
  gives-more (a ∷ args) (suc i) d [] here w inside gives same one = absurd gives
  gives-more (a ∷ args) (suc i) d (v ∷ found) here w inside gives same one = (gives.0, gives-more args i d found here w (omega arith) gives.1 same one)

  -- the first argument that doesn't give a word traps
  pub traps-at : (args : List Argument) (i : ℕ) (d : Argument) (found here : List ℕ) (k : TrapKind) → i < length args → ArgumentsGive all vs (take i args) found → here ≡ vs → ArgumentTraps all here (get_or args i d) k
      → ArgumentsTrap all vs args k
  traps-at [] i d found here k inside gives same one = absurd (omega arith)
  traps-at (a ∷ args) zero d found here k inside gives same one = inl (subst (λ x. ArgumentTraps all x a k) same one)
  traps-at (a ∷ args) (suc i) d [] here k inside gives same one = absurd gives
  traps-at (a ∷ args) (suc i) d (v ∷ found) here k inside gives same one = inr (v, gives.0, traps-at args i d found here k (omega arith) gives.1 same one)

-- what stands before an end stays, whatever is put behind the variables
pub before-same : (end : ℕ) (old : Working) (added : List ℕ) → end ≤ length old.vars → locals_before end (record old { vars = old.vars ++ added }) ≡ locals_before end old
before-same end old added inside = ap (drop old.base) (take-append-le end old.vars added inside)

-- so where a branch has only more words behind its variables
pub before-stays : (end : ℕ) (old mid : Working) (added : List ℕ) → end ≤ length old.vars → mid ≡ record old { vars = old.vars ++ added } → locals_before end mid ≡ locals_before end old
before-stays end old mid added inside same = ap (locals_before end) same ∙ before-same end old added inside

-- there is room for each of some arguments
pub room-at : (old mid : Working) (args : List Argument) (i : ℕ) (d : Argument) → i < length args → mid.room ≡ old.room → HasRoomForArguments old.room.values args → HasRoomForArgument mid.room.values (get_or args i d)
room-at old mid args i d inside same room = subst (λ (r : Room). HasRoomForArgument r.values (get_or args i d)) (sym same) (room i (get_or args i d) (slice_get-get_or args i d inside))

-- each argument has given one word
pub found-length : (all : List Operation) (vs : List ℕ) (args : List Argument) (found : List ℕ) → ArgumentsGive all vs args found → length found ≡ length args
found-length all vs [] [] gives = refl
found-length all vs [] (w ∷ found) gives = absurd gives
found-length all vs (a ∷ args) [] gives = absurd gives
found-length all vs (a ∷ args) (w ∷ found) gives = ap suc (found-length all vs args found gives.1)

-- arguments that give these words where only the variables before an end are seen give them in a branch that has nothing behind that end
pub gives-behind : (all here : List Operation) (args seen : List Argument) (old mid : Working) (added found : List ℕ) (end : ℕ) → here ≡ all → seen ≡ args → end ≡ length old.vars → mid ≡ record old { vars = old.vars ++ added }
    → ArgumentsGive here (locals_before end mid) seen found → ArgumentsGive all (locals old) args found
gives-behind all here args seen old mid added found end same_all same_args is same gives =
    let before : locals_before end mid ≡ locals old = before-stays end old mid added (omega arith) same ∙ ap (λ n. drop old.base (take n old.vars)) is ∙ ap (drop old.base) (take-length old.vars) in
    subst (λ vs. ArgumentsGive all vs args found) before
    (subst (λ (l : List Argument). ArgumentsGive all (locals_before end mid) l found) same_args (subst (λ (l : List Operation). ArgumentsGive l (locals_before end mid) seen found) same_all gives))

-- the stretch of a list that a slice of it shows
pub stretch-seen : (args seen : List Argument) (first count : ℕ) → seen ≡ args → take (first + count - first) (drop first seen) ≡ stretch args first count
stretch-seen args seen first count same = let few : first + count - first ≡ count = omega arith in ap (λ (l : List Argument). take (first + count - first) (drop first l)) same ∙ ap (λ n. take n (drop first args)) few

-- a word whose low half isn't 0 refers to an object
pub object-if : (low len : ℕ) → (low ≡ 0 → ⊥) → IsObjectBy (referred_by low len)
object-if zero len some = absurd (some refl)
object-if (suc low) len some = tt

-- ---------- room ----------
-- what has room for an expression still has it when it has more
more-room : (values more : ℕ) (a : Argument) → values ≤ more → HasRoomForArgument values a → HasRoomForArgument more a
more-room values more (handed.Expression (expressions.Operand o)) le room = tt
more-room values more (handed.Expression (expressions.Operation o)) le room = tt
more-room values more (handed.Expression (expressions.Operations first count)) le room = omega (arith, room)
more-room values more (handed.Consume y) le room = tt

-- room for one argument more
pub room-more : (values more : ℕ) (args : List Argument) (i : ℕ) (d : Argument) → values ≤ more → HasRoomBefore i values args → HasRoomForArgument more (get_or args i d) → HasRoomBefore (i + 1) more args
room-more values more args i d le before here k a below there = elim (cases_lt k i) [
  | inl earlier ↦ more-room values more a le (before k a earlier there)
  | inr later ↦
      let place : k ≡ i = omega arith in
      subst (HasRoomForArgument more) (ap (λ n. get_or args n d) (sym place) ∙ get_or_from_slice_get args k a d there) here
]

-- room for all of them
pub room-all : (values count : ℕ) (args : List Argument) → length args ≤ count → HasRoomBefore count values args → HasRoomForArguments values args
room-all values count args all before i a there = before i a (omega (arith, slice_get_within args i a there)) there
