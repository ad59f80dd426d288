-- Results that are one and leave no more than so many turns, part by part.
use Rattle.std.proofs.Common.{◌≡◌, ℕ, zero, suc, ◌+◌, ◌-◌, ◌/◌, ◌≤◌, Bool, true, false, Some, List, refl, subst, arith, le_refl}
use Rattle.std.specs.Prelude.{ℤ}
use Rattle.perm_tree.specs.declared.ast.Span.{Span}
use Rattle.perm_meaning.specs.Values.{Eval, Gives, Traps, Mistyped, Truth}
use Rattle.perm_meaning.specs.Expressions.{tagged, clear_all}
use Rattle.perm_meaning.specs.Machine.{Blocks, Fine, GaveBack, Failed, turns_of, join_final}
use Rattle.perm_meaning.specs.Custody.{merged, writes_l, writes_r}
use Rattle.perm_meaning.specs.Effects.{choose}
use Rattle.perm_meaning.specs.NamedHeap.{Heap, Held, Own, Final}
use Rattle.perm_meaning.specs.Meaning as meaning
use Rattle.perm_meaning.specs.Meaning.{Moment, Result, Well, Gave, Handed, Fails, Full, Stuck, set_vars, spend, then_do, close, recovered, on_test, on_final, after_join, par_of}

-- no more than so many turns are left at an end
abbrev pub Leaves : ℕ → Result → Type 0
Leaves n (Well m) = m.turns ≤ n
Leaves n (Gave v m) = m.turns ≤ n
Leaves n (Handed x v m) = m.turns ≤ n
Leaves n (Fails e t p h) = t ≤ n
Leaves n Full = Unit {0}
Leaves n Stuck = Unit {0}

-- two ends are one, and it leaves no more than so many turns
abbrev pub Same : ℕ → Result → Result → Type 0
Same n r s = Leaves n r × (r ≡ s)

-- an end that leaves so few turns is one with itself
pub itself : (n : ℕ) (r : Result) → Leaves n r → Same n r r
itself n r b = (b, refl)

leaves-more : (n k : ℕ) (r : Result) → n ≤ k → Leaves n r → Leaves k r
leaves-more n k (Well m) le b = omega (arith, le, b)
leaves-more n k (Gave v m) le b = omega (arith, le, b)
leaves-more n k (Handed x v m) le b = omega (arith, le, b)
leaves-more n k (Fails e t p h) le b = omega (arith, le, b)
leaves-more n k Full le b = tt
leaves-more n k Stuck le b = tt

-- with a larger bound
pub more : (n k : ℕ) (r s : Result) → n ≤ k → Same n r s → Same k r s
more n k r s le x = (leaves-more n k r le x.0, x.1)

-- ---------- one after another ----------
then-itself : (n : ℕ) (r : Result) (go ho : Moment → Result) → Leaves n r → ((m : Moment) → m.turns ≤ n → Same n (go m) (ho m)) → Same n (then_do r go) (then_do r ho)
then-itself n (Well m) go ho b f = f m b
then-itself n (Gave v m) go ho b f = itself n Stuck tt
then-itself n (Handed x v m) go ho b f = itself n Stuck tt
then-itself n (Fails e t p h) go ho b f = itself n (Fails e t p h) b
then-itself n Full go ho b f = itself n Full tt
then-itself n Stuck go ho b f = itself n Stuck tt

-- what comes after code that is done
pub then-same : (n : ℕ) (r s : Result) (go ho : Moment → Result) → Same n r s → ((m : Moment) → m.turns ≤ n → Same m.turns (go m) (ho m)) → Same n (then_do r go) (then_do s ho)
then-same n r s go ho x f =
    subst (λ (z : Result). Same n (then_do r go) (then_do z ho)) x.1 (then-itself n r go ho x.0 (λ m le. more m.turns n (go m) (ho m) le (f m le)))

-- the end of a block
pub close-same : (n : ℕ) (own : List ℕ) (r s : Result) → Same n r s → Same n (close own r) (close own s)
close-same n own r s x = then-same n r s _ _ x (λ m le. itself m.turns (Well (set_vars m (clear_all tagged m.own.vars own))) (le_refl m.turns))

leaves-recovered : (n : ℕ) (own : List ℕ) (r : Result) → Leaves n r → Leaves n (recovered own r)
leaves-recovered n own (Well m) b = tt
leaves-recovered n own (Gave v m) b = tt
leaves-recovered n own (Handed x v m) b = b
leaves-recovered n own (Fails e t p h) b = b
leaves-recovered n own Full b = tt
leaves-recovered n own Stuck b = tt

-- the end of a recover block
pub recovered-same : (n : ℕ) (own : List ℕ) (r s : Result) → Same n r s → Same n (recovered own r) (recovered own s)
recovered-same n own r s x = subst (λ (z : Result). Same n (recovered own r) (recovered own z)) x.1 (itself n (recovered own r) (leaves-recovered n own r x.0))

-- ---------- turns and tests ----------
-- a step that spends a turn
pub spend-same : (t : ℕ) (l : Own) (h : Heap) (go ho : Moment → Result)
    → ((k : ℕ) → suc k ≡ t → Same k (go (record { turns = k; own = l; heap = h })) (ho (record { turns = k; own = l; heap = h })))
    → Same t (spend (record { turns = t; own = l; heap = h }) go) (spend (record { turns = t; own = l; heap = h }) ho)
spend-same zero l h go ho f = itself 0 (meaning.fail _ (record { turns = 0; own = l; heap = h })) (le_refl 0)
spend-same (suc k) l h go ho f = more k (suc k) (go (record { turns = k; own = l; heap = h })) (ho (record { turns = k; own = l; heap = h })) (omega arith) (f k refl)

-- one way of two
pub test-same : (m : Moment) (e : Eval Held) (at : Span) (a b c d : Moment → Result) → Same m.turns (a m) (b m) → Same m.turns (c m) (d m) → Same m.turns (on_test e at m a c) (on_test e at m b d)
test-same m (Gives (Some (Truth true))) at a b c d x y = x
test-same m (Gives (Some (Truth false))) at a b c d x y = y
test-same m (Gives _) at a b c d x y = itself m.turns Stuck tt
test-same m (Traps k) at a b c d x y = itself m.turns (meaning.trap at k m) (le_refl m.turns)
test-same m Mistyped at a b c d x y = itself m.turns Stuck tt

-- one branch more, if the depth allows it
pub depth-same : (m : Moment) (t : Bool) (a b c : Moment → Result) → Same m.turns (a m) (b m) → Leaves m.turns (c m) → Same m.turns (choose t a c m) (choose t b c m)
depth-same m true a b c x y = x
depth-same m false a b c x y = itself m.turns (c m) y

-- ---------- pars ----------
final-itself : (n N : ℕ) (r : Result) (go ho : Final → Heap → Result) → Leaves n r → n ≤ N → ((x : Final) (h : Heap) → turns_of x ≤ n → Same N (go x h) (ho x h)) → Same N (on_final r go) (on_final r ho)
final-itself n N (Well m) go ho b le f = f (Fine m.own.vars m.turns m.own.printed) m.heap b
final-itself n N (Gave v m) go ho b le f = itself N Stuck tt
final-itself n N (Handed x v m) go ho b le f = itself N Stuck tt
final-itself n N (Fails e t p h) go ho b le f = f (Failed e t p) h b
final-itself n N Full go ho b le f = itself N Full tt
final-itself n N Stuck go ho b le f = itself N Stuck tt

-- a side
final-same : (n N : ℕ) (r s : Result) (go ho : Final → Heap → Result) → Same n r s → n ≤ N → ((x : Final) (h : Heap) → turns_of x ≤ n → Same N (go x h) (ho x h)) → Same N (on_final r go) (on_final s ho)
final-same n N r s go ho x le f = subst (λ (z : Result). Same N (on_final r go) (on_final z ho)) x.1 (final-itself n N r go ho x.0 le f)

-- the turns of both sides come back
pub join-turns : (merge : List Held → List Held → List Held → List Held) (vs : List Held) (out : List ℤ) (x y : Final) → turns_of (join_final merge vs out x y) ≡ turns_of x + turns_of y
join-turns merge vs out (Fine ls t p) (Fine rs w q) = refl
join-turns merge vs out (Failed e t p) (Failed f w q) = refl
join-turns merge vs out (Failed e t p) (Fine rs w q) = refl
join-turns merge vs out (Failed e t p) (GaveBack v w q) = refl
join-turns merge vs out (Fine ls t p) (Failed f w q) = refl
join-turns merge vs out (GaveBack v t p) (Failed f w q) = refl
join-turns merge vs out (Fine ls t p) (GaveBack v w q) = refl
join-turns merge vs out (GaveBack v t p) (Fine rs w q) = refl
join-turns merge vs out (GaveBack v t p) (GaveBack w x q) = refl

leaves-join : (n : ℕ) (m : Moment) (f : Final) (h : Heap) → turns_of f ≤ n → Leaves n (after_join m f h)
leaves-join n m (Fine vs t p) h le = le
leaves-join n m (GaveBack v t p) h le = tt
leaves-join n m (Failed e t p) h le = le

-- a par, by what its sides do
pub par-same : (p : Blocks) (m : Moment) (left left1 : Result) (right right1 : Heap → Result) → Same (m.turns - m.turns / 2) left left1 → ((h : Heap) → Same (m.turns / 2) (right h) (right1 h))
    → Same m.turns (par_of p m left right) (par_of p m left1 right1)
par-same p m left left1 right right1 f g =
    final-same (m.turns - m.turns / 2) m.turns left left1 _ _ f (omega arith)
    (λ x h le.
    final-same (m.turns / 2) m.turns (right h) (right1 h) _ _ (g h) (omega arith)
    (λ y h1 le1.
    let f = join_final (merged (writes_l p) (writes_r p)) m.own.vars m.own.printed x y in
    itself m.turns (after_join m f h1) (leaves-join m.turns m f h1 (omega (arith, join-turns (merged (writes_l p) (writes_r p)) m.own.vars m.own.printed x y, le, le1)))))
