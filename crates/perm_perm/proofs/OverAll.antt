-- A test that holds of each of the four permissions holds of any.
use Rattle.std.specs.Prelude.{◌≡◌, Bool, true, false, ◌&&◌, ◌||◌, not}
use Rattle.std.proofs.lemmas.Bool.{and_parts}
use Rattle.perm_tree.specs.declared.ast.Perm.{Perm}
use Rattle.perm_tree.specs.declared.ast.Perm.TheVariants.{Isolated, Immutable, Readable, Writable}

-- the test holds of all four
abbrev pub each_perm : (Perm → Bool) → Bool
each_perm f = f Isolated && (f Immutable && (f Readable && f Writable))

pub each_perm-at : (f : Perm → Bool) → each_perm f ≡ true → (p : Perm) → f p ≡ true
each_perm-at f h Isolated = (and_parts (f Isolated) (f Immutable && (f Readable && f Writable)) h).0
each_perm-at f h Immutable = (and_parts (f Immutable) (f Readable && f Writable) (and_parts (f Isolated) (f Immutable && (f Readable && f Writable)) h).1).0
each_perm-at f h Readable = (and_parts (f Readable) (f Writable) (and_parts (f Immutable) (f Readable && f Writable) (and_parts (f Isolated) (f Immutable && (f Readable && f Writable)) h).1).1).0
each_perm-at f h Writable = (and_parts (f Readable) (f Writable) (and_parts (f Immutable) (f Readable && f Writable) (and_parts (f Isolated) (f Immutable && (f Readable && f Writable)) h).1).1).1

-- the same of tests of two, three and four permissions
pub each_two-at : (f : Perm → Perm → Bool) → each_perm (λ p. each_perm (f p)) ≡ true → (p q : Perm) → f p q ≡ true
each_two-at f h p q = each_perm-at (f p) (each_perm-at (λ p. each_perm (f p)) h p) q

pub each_three-at : (f : Perm → Perm → Perm → Bool) → each_perm (λ p. each_perm (λ q. each_perm (f p q))) ≡ true → (p q r : Perm) → f p q r ≡ true
each_three-at f h p q r = each_two-at (f p) (each_perm-at (λ p. each_perm (λ q. each_perm (f p q))) h p) q r

pub each_four-at : (f : Perm → Perm → Perm → Perm → Bool) → each_perm (λ p. each_perm (λ q. each_perm (λ r. each_perm (f p q r)))) ≡ true → (p q r s : Perm) → f p q r s ≡ true
each_four-at f h p q r s = each_three-at (f p) (each_perm-at (λ p. each_perm (λ q. each_perm (λ r. each_perm (f p q r)))) h p) q r s

-- the one test holds where the other does
abbrev pub implies : Bool → Bool → Bool
implies a b = not a || b

pub implies-at : (a b : Bool) → implies a b ≡ true → a ≡ true → b ≡ true
implies-at true b h e = h
implies-at false b h e = cc
