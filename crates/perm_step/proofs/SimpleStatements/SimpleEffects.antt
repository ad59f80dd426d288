-- How the effect of a simple statement goes on, by what its values and objects are found to be.
use Rattle.std.proofs.Common.{◌≡◌, ℕ, ◌+◌, List, length, Option, Some, None, refl, sym, ap, ◌∙◌, subst}
use Rattle.std.specs.Prelude.{ℤ, pos, negsuc, cond}
use Rattle.std.proofs.lemmas.Bool.{lt-ltb, le-ltb}
use Rattle.perm_tree.specs.declared.ast.Ty.{Ty}
use Rattle.perm_tree.specs.declared.errors.TrapKind.{TrapKind}
use Rattle.perm_tree.specs.declared.errors.TrapKind.TheVariants.{IndexOutOfRange}
use Rattle.perm_tree.specs.Code.{Argument, Expression, Consumed}
use Rattle.perm_meaning.specs.Effects.{Tick, GoesOn, Halts, Resumption, Does, Sticks, halts, on_argument, on_class, on_index, on_length, on_object, on_referred, on_value}
use Rattle.perm_meaning.specs.Expressions.{clear, eval, look_up, value_of}
use Rattle.perm_meaning.specs.Values.{Eval, Gives, Traps, Mistyped, Referred, ToNull, ToObject, NoReference}
use Rattle.perm_meaning.specs.WordHeap.{NoMark, Own}
use Rattle.perm_meaning.specs.Words.{number_in, reference_in, words as on_words}
use Rattle.perm_step.specs.declared.ask.Ask.{Ask}
use Rattle.perm_step.specs.declared.ask.Ask.TheVariants as asks
use Rattle.perm_step.specs.Given.{IsGiven, IsTrap, IsElementBy, IsNewLength, IsNoElementBy, IsNoLength, IsNullBy, IsPlaceBy, IsLengthBy, VariableGives}
use Rattle.perm_step.specs.HeapAsks.{IsAskFor, IsElement, IsField, IsNoElement, IsNull}
use Rattle.perm_step.proofs.WordMachine.Cells.{clear_same}

-- ---------- what is shown of an effect ----------
-- an effect on words
abbrev pub Effect : Type 0
Effect = Resumption ℕ ℕ NoMark

-- it asks this of the heap, if it isn't stuck
abbrev pub IsAsked : Ask → Effect → Type 0
IsAsked q (Does o told) = IsAskFor q o
IsAsked q Sticks = Unit {0}

-- it asks nothing and traps so
abbrev pub IsHalting : TrapKind → Effect → Type 0
IsHalting k (Does o told) = (o ≡ Tick) × ((v : ℕ) → told v ≡ Halts k)
IsHalting k Sticks = Unit {0}

-- told this word it goes on with this
abbrev pub IsTold : ℕ → Own → Effect → Type 0
IsTold v l (Does o told) = told v ≡ GoesOn l
IsTold v l Sticks = Unit {0}

-- it asks this, and told a word it goes on so, if it isn't stuck
abbrev pub IsDoing : Ask → (ℕ → Own) → Effect → Type 0
IsDoing q after (Does o told) = IsAskFor q o × ((v : ℕ) → told v ≡ GoesOn (after v))
IsDoing q after Sticks = Unit {0}

-- then it asks this
pub doing-asks : (q : Ask) (after : ℕ → Own) (e : Effect) → IsDoing q after e → IsAsked q e
doing-asks q after (Does o told) is = is.0
doing-asks q after Sticks is = tt

-- and goes on so
pub doing-tells : (q : Ask) (after : ℕ → Own) (e : Effect) (v : ℕ) (l : Own) → IsDoing q after e → after v ≡ l → IsTold v l e
doing-tells q after (Does o told) v l is same = is.1 v ∙ ap (λ x. GoesOn x) same
doing-tells q after Sticks v l is same = tt

-- a trap of this kind
halts-so : (k t : TrapKind) → k ≡ t → IsHalting k (halts on_words t)
halts-so k t is = (refl, λ v. ap (λ x. Halts x) (sym is))

-- ---------- values ----------
-- it goes on with the word that is given
pub value-goes : (e : Eval ℕ) (w : ℕ) (go : ℕ → Effect) (P : Effect → Type 0) → IsGiven e w → P Sticks → P (go w) → P (on_value on_words e go)
value-goes (Gives v) w go P is sticks next = subst (λ x. P (go x)) is next
value-goes (Traps k) w go P is sticks next = absurd is
value-goes Mistyped w go P is sticks next = sticks

-- it traps as the value does
pub value-traps : (e : Eval ℕ) (k : TrapKind) (go : ℕ → Effect) → IsTrap e k → IsHalting k (on_value on_words e go)
value-traps (Gives v) k go is = absurd is
value-traps (Traps t) k go is = halts-so k t is
value-traps Mistyped k go is = tt

-- whatever the value is, it asks nothing, if it asks nothing after it
pub value-asks : (e : Eval ℕ) (go : ℕ → Effect) → ((v : ℕ) → IsAsked asks.Nothing (go v)) → IsAsked asks.Nothing (on_value on_words e go)
value-asks (Gives v) go next = next v
value-asks (Traps k) go next = refl
value-asks Mistyped go next = tt

-- ---------- arguments ----------
-- it goes on with the word of an argument; a variable that is consumed keeps its word
pub argument-goes : (a : Argument) (vs : List ℕ) (w : ℕ) (go : ℕ → List ℕ → Effect) (P : Effect → Type 0) → IsGiven (value_of on_words a vs) w → P Sticks → P (go w vs) → P (on_argument on_words a vs go)
argument-goes (Expression t) vs w go P is sticks next = value-goes (eval on_words t vs) w (λ v. go v vs) P is sticks next
argument-goes (Consumed y) vs w go P is sticks next = value-goes (look_up on_words vs y) w (λ v. go v (clear on_words vs y)) P is sticks (subst (λ (l : List ℕ). P (go w l)) (sym (clear_same vs y)) next)

-- it traps as the argument does
pub argument-traps : (a : Argument) (vs : List ℕ) (k : TrapKind) (go : ℕ → List ℕ → Effect) → IsTrap (value_of on_words a vs) k → IsHalting k (on_argument on_words a vs go)
argument-traps (Expression t) vs k go is = value-traps (eval on_words t vs) k (λ v. go v vs) is
argument-traps (Consumed y) vs k go is = value-traps (look_up on_words vs y) k (λ v. go v (clear on_words vs y)) is

-- whatever the argument gives, it asks nothing, if it asks nothing after it
pub argument-asks : (a : Argument) (vs : List ℕ) (go : ℕ → List ℕ → Effect) → ((v : ℕ) (l : List ℕ) → IsAsked asks.Nothing (go v l)) → IsAsked asks.Nothing (on_argument on_words a vs go)
argument-asks (Expression t) vs go next = value-asks (eval on_words t vs) (λ v. go v vs) (λ v. next v vs)
argument-asks (Consumed y) vs go next = value-asks (look_up on_words vs y) (λ v. go v (clear on_words vs y)) (λ v. next v (clear on_words vs y))

-- ---------- objects ----------
-- it goes on at the place of a field
place-goes : (r : Referred ℕ) (f at : ℕ) (go : ℕ → ℕ → Effect) (P : Effect → Type 0) → IsPlaceBy r f at → P Sticks → ((base len : ℕ) → at ≡ base + f → P (go base len)) → P (on_referred on_words r go)
place-goes (ToObject base len) f at go P is sticks next = next base len is
place-goes ToNull f at go P is sticks next = absurd is
place-goes NoReference f at go P is sticks next = sticks

-- so with what a variable refers to
pub field-goes : (vs : List ℕ) (y f at : ℕ) (go : ℕ → ℕ → Effect) (P : Effect → Type 0) → IsField vs y f at → P Sticks → ((base len : ℕ) → at ≡ base + f → P (go base len)) → P (on_object on_words vs y go)
field-goes vs y f at go P (r, gives, place) sticks next =
    value-goes (look_up on_words vs y) r (λ v. on_referred on_words (reference_in v) go) P gives sticks (place-goes (reference_in r) f at go P place sticks next)

-- it goes on with the length of an array
length-goes : (r : Referred ℕ) (n : ℕ) (go : ℕ → ℕ → Effect) (P : Effect → Type 0) → IsLengthBy r n → P Sticks → ((base : ℕ) → P (go base n)) → P (on_referred on_words r go)
length-goes (ToObject base len) n go P is sticks next = subst (λ x. P (go base x)) is (next base)
length-goes ToNull n go P is sticks next = absurd is
length-goes NoReference n go P is sticks next = sticks

-- so with the length of the array of a variable
pub array-goes : (vs : List ℕ) (y r n : ℕ) (go : ℕ → ℕ → Effect) (P : Effect → Type 0) → VariableGives vs y r → IsLengthBy (reference_in r) n → P Sticks → ((base : ℕ) → P (go base n)) → P (on_object on_words vs y go)
array-goes vs y r n go P gives is sticks next =
    value-goes (look_up on_words vs y) r (λ v. on_referred on_words (reference_in v) go) P gives sticks (length-goes (reference_in r) n go P is sticks next)

-- it traps at null
null-traps : (r : Referred ℕ) (k : TrapKind) (go : ℕ → ℕ → Effect) → IsNullBy r k → IsHalting k (on_referred on_words r go)
null-traps (ToObject base len) k go is = absurd is
null-traps ToNull k go is = (refl, λ v. ap (λ x. Halts x) (sym is))
null-traps NoReference k go is = tt

-- so where the variable is null
pub object-traps : (vs : List ℕ) (y : ℕ) (k : TrapKind) (go : ℕ → ℕ → Effect) → IsNull vs y k → IsHalting k (on_object on_words vs y go)
object-traps vs y k go (r, gives, null) = value-goes (look_up on_words vs y) r (λ v. on_referred on_words (reference_in v) go) (IsHalting k) gives tt (null-traps (reference_in r) k go null)

-- whatever it refers to, it asks nothing, if it asks nothing after it
referred-asks : (r : Referred ℕ) (go : ℕ → ℕ → Effect) → ((base len : ℕ) → IsAsked asks.Nothing (go base len)) → IsAsked asks.Nothing (on_referred on_words r go)
referred-asks (ToObject base len) go next = next base len
referred-asks ToNull go next = refl
referred-asks NoReference go next = tt

-- so whatever the variable refers to
pub object-asks : (vs : List ℕ) (y : ℕ) (go : ℕ → ℕ → Effect) → ((base len : ℕ) → IsAsked asks.Nothing (go base len)) → IsAsked asks.Nothing (on_object on_words vs y go)
object-asks vs y go next = value-asks (look_up on_words vs y) (λ v. on_referred on_words (reference_in v) go) (λ v. referred-asks (reference_in v) go next)

-- ---------- elements ----------
-- an effect at the place of an index
abbrev pub at_index : ℤ → (ℕ → ℕ → Effect) → ℕ → ℕ → Effect
at_index i go base n = on_index on_words i n (go base)

-- it goes on at the place of an element
index-goes : (r : Referred ℕ) (i : ℤ) (at : ℕ) (go : ℕ → ℕ → Effect) (P : Effect → Type 0) → IsElementBy r i at → P Sticks → ((base f : ℕ) → at ≡ base + f → P (go base f)) → P (on_referred on_words r (at_index i go))
index-goes (ToObject base len) (pos i) at go P is sticks next = subst (λ b. P (cond b (go base i) (halts on_words IndexOutOfRange))) (sym (lt-ltb i len is.0)) (next base i is.1)
index-goes (ToObject base len) (negsuc i) at go P is sticks next = absurd is
index-goes ToNull i at go P is sticks next = absurd is
index-goes NoReference i at go P is sticks next = sticks

-- so with the array of a variable
pub element-goes : (vs : List ℕ) (y i at : ℕ) (go : ℕ → ℕ → Effect) (P : Effect → Type 0) → IsElement vs y i at → P Sticks → ((base f : ℕ) → at ≡ base + f → P (go base f)) → P (on_object on_words vs y (at_index (number_in i) go))
element-goes vs y i at go P (r, gives, place) sticks next =
    value-goes (look_up on_words vs y) r (λ v. on_referred on_words (reference_in v) (at_index (number_in i) go)) P gives sticks (index-goes (reference_in r) (number_in i) at go P place sticks next)

-- it traps where there is no such element
index-traps : (r : Referred ℕ) (i : ℤ) (k : TrapKind) (go : ℕ → ℕ → Effect) → IsNoElementBy r i k → IsHalting k (on_referred on_words r (at_index i go))
index-traps (ToObject base len) (pos i) k go is = subst (λ b. IsHalting k (cond b (go base i) (halts on_words IndexOutOfRange))) (sym (le-ltb i len is.0)) (halts-so k IndexOutOfRange is.1)
index-traps (ToObject base len) (negsuc i) k go is = halts-so k IndexOutOfRange is
index-traps ToNull i k go is = (refl, λ v. ap (λ x. Halts x) (sym is))
index-traps NoReference i k go is = tt

-- so where the array of a variable has none, or the variable is null
pub element-traps : (vs : List ℕ) (y i : ℕ) (k : TrapKind) (go : ℕ → ℕ → Effect) → IsNoElement vs y i k → IsHalting k (on_object on_words vs y (at_index (number_in i) go))
element-traps vs y i k go (r, gives, none) =
    value-goes (look_up on_words vs y) r (λ v. on_referred on_words (reference_in v) (at_index (number_in i) go)) (IsHalting k) gives tt (index-traps (reference_in r) (number_in i) k go none)

-- ---------- new objects ----------
-- it goes on with the length of a new array
pub new-goes : (n : ℤ) (count : ℕ) (go : ℕ → Effect) (P : Effect → Type 0) → IsNewLength n count → P (go count) → P (on_length on_words n go)
new-goes (pos n) count go P is next = subst (λ x. P (go x)) is next
new-goes (negsuc n) count go P is next = absurd is

-- it traps where the length is negative
pub new-traps : (n : ℤ) (k : TrapKind) (go : ℕ → Effect) → IsNoLength n k → IsHalting k (on_length on_words n go)
new-traps (pos n) k go is = absurd is
new-traps (negsuc n) k go is = (refl, λ v. ap (λ x. Halts x) (sym is))

-- it goes on with the number of fields of a class
pub class-goes : (o : Option (List Ty)) (fields : ℕ) (go : ℕ → Effect) (P : Effect → Type 0) → ((ts : List Ty) → o ≡ Some ts → length ts ≡ fields) → P Sticks → P (go fields) → P (on_class on_words o go)
class-goes None fields go P counted sticks next = sticks
class-goes (Some ts) fields go P counted sticks next = subst (λ n. P (go n)) (sym (counted ts refl)) next
