-- Parts of a text, one after the other.
use Rattle.std.proofs.Common.{◌≡◌, ℕ, List, [], ◌∷◌, ◌++◌, codes, append_assoc, append-nil}
use Rattle.perm_tree.specs.Printer.Expressions.{parts_text}
use Rattle.perm_tree.proofs.Printer.Texts.{parts_text-append}

pub one-part : (a r : List ℕ) → a ++ r ≡ parts_text (a ∷ []) ++ r
one-part a r = simp append-nil

pub two-parts : (a b r : List ℕ) → a ++ (b ++ r) ≡ parts_text (a ∷ b ∷ []) ++ r
two-parts a b r = simp (append_assoc, append-nil)

pub three-parts : (a b c r : List ℕ) → a ++ (b ++ (c ++ r)) ≡ parts_text (a ∷ b ∷ c ∷ []) ++ r
three-parts a b c r = simp (append_assoc, append-nil)

pub four-parts : (a b c d r : List ℕ) → a ++ (b ++ (c ++ (d ++ r))) ≡ parts_text (a ∷ b ∷ c ∷ d ∷ []) ++ r
four-parts a b c d r = simp (append_assoc, append-nil)

pub five-parts : (a b c d e r : List ℕ) → a ++ (b ++ (c ++ (d ++ (e ++ r)))) ≡ parts_text (a ∷ b ∷ c ∷ d ∷ e ∷ []) ++ r
five-parts a b c d e r = simp (append_assoc, append-nil)

pub seven-parts : (a b c d e f g r : List ℕ) → a ++ (b ++ (c ++ (d ++ (e ++ (f ++ (g ++ r)))))) ≡ parts_text (a ∷ b ∷ c ∷ d ∷ e ∷ f ∷ g ∷ []) ++ r
seven-parts a b c d e f g r = simp (append_assoc, append-nil)

-- one part more
pub and-part : (A : List (List ℕ)) (b r : List ℕ) → parts_text A ++ (b ++ r) ≡ parts_text (A ++ b ∷ []) ++ r
and-part A b r = rw parts_text-append (simp (append_assoc, append-nil))

-- one part more behind a comma
pub comma-part : (A : List (List ℕ)) (y r : List ℕ) → parts_text A ++ (44 ∷ 32 ∷ (y ++ r)) ≡ parts_text (A ++ codes ", " ∷ y ∷ []) ++ r
comma-part A y r = rw parts_text-append (simp (append_assoc, append-nil))

-- ---- lines of statements

pub before-join : (i t e : List ℕ) (A : List (List ℕ)) (r : List ℕ) → i ++ (t ++ (e ++ (parts_text A ++ r))) ≡ parts_text (i ∷ t ∷ e ∷ A) ++ r
before-join i t e A r = simp append_assoc

pub standing-join : (i : List ℕ) (A : List (List ℕ)) (e r : List ℕ) → i ++ (parts_text A ++ (e ++ r)) ≡ parts_text (i ∷ (A ++ e ∷ [])) ++ r
standing-join i A e r = rw parts_text-append (simp (append_assoc, append-nil))

pub recover-join : (h : List ℕ) (A : List (List ℕ)) (i g n e j l r : List ℕ) →
    h ++ (parts_text A ++ (i ++ (g ++ (n ++ (e ++ (j ++ (l ++ r))))))) ≡ parts_text (h ∷ (A ++ i ∷ g ∷ n ∷ e ∷ j ∷ l ∷ [])) ++ r
recover-join h A i g n e j l r = rw parts_text-append (simp (append_assoc, append-nil))

pub test-join : (i h e t : List ℕ) (A : List (List ℕ)) (j l r : List ℕ) → i ++ (h ++ (e ++ (t ++ (parts_text A ++ (j ++ (l ++ r)))))) ≡ parts_text (i ∷ h ∷ e ∷ t ∷ (A ++ j ∷ l ∷ [])) ++ r
test-join i h e t A j l r = rw parts_text-append (simp (append_assoc, append-nil))

pub else-join : (i h e t : List ℕ) (A : List (List ℕ)) (j m : List ℕ) (B : List (List ℕ)) (k l r : List ℕ) →
    i ++ (h ++ (e ++ (t ++ (parts_text A ++ (j ++ (m ++ (parts_text B ++ (k ++ (l ++ r))))))))) ≡ parts_text (i ∷ h ∷ e ∷ t ∷ (A ++ j ∷ m ∷ (B ++ k ∷ l ∷ []))) ++ r
else-join i h e t A j m B k l r = simp (parts_text-append, append_assoc, append-nil)

pub par-join : (i h : List ℕ) (A : List (List ℕ)) (j m : List ℕ) (B : List (List ℕ)) (k l r : List ℕ) →
    i ++ (h ++ (parts_text A ++ (j ++ (m ++ (parts_text B ++ (k ++ (l ++ r))))))) ≡ parts_text (i ∷ h ∷ (A ++ j ∷ m ∷ (B ++ k ∷ l ∷ []))) ++ r
par-join i h A j m B k l r = simp (parts_text-append, append_assoc, append-nil)

-- a call
pub call-join : (rc n : List ℕ) (A : List (List ℕ)) (r : List ℕ) → rc ++ (46 ∷ (n ++ (40 ∷ (parts_text A ++ (41 ∷ r))))) ≡ parts_text (rc ∷ codes "." ∷ n ∷ codes "(" ∷ (A ++ codes ")" ∷ [])) ++ r
call-join rc n A r = rw parts_text-append (simp (append_assoc, append-nil))

-- ---- members and classes

pub method-join : (i d o : List ℕ) (A : List (List ℕ)) (c q b : List ℕ) (B : List (List ℕ)) (j w a e k f r : List ℕ) →
    i ++ (d ++ (o ++ (parts_text A ++ (c ++ (q ++ (b ++ (parts_text B ++ (j ++ (w ++ (a ++ (e ++ (k ++ (f ++ r))))))))))))) ≡ parts_text (i ∷ d ∷ o ∷ (A ++ c ∷ q ∷ b ∷ (B ++ j ∷ w ∷ a ∷ e ∷ k ∷ f ∷ []))) ++ r
method-join i d o A c q b B j w a e k f r = simp (parts_text-append, append_assoc, append-nil)

pub class-join : (c n b : List ℕ) (A : List (List ℕ)) (e r : List ℕ) → c ++ (n ++ (b ++ (parts_text A ++ (e ++ r)))) ≡ parts_text (c ∷ n ∷ b ∷ (A ++ e ∷ [])) ++ r
class-join c n b A e r = rw parts_text-append (simp (append_assoc, append-nil))
