-- Two nodes with events stand apart in the tree: the event of the one leaves that of the other as it is, and what both make of the tree doesn't depend on their order.
use Rattle.std.proofs.Common.{◌≡◌, ◌≢◌, Option, Some, refl, sym, ap, ◌∙◌}
use Rattle.perm_meaning.specs.Machine.{Task, Leaf, Fork, Way, Here, GoL, GoR, Machine, look, fill}
use Rattle.perm_meaning.proofs.Leads.{none-some, ended-no-event}
use Rattle.perm_core.proofs.Pieces.HeldEvents.{join-sides}

-- neither of the nodes is above the other
abbrev pub AreApart : Way → Way → Type 0
AreApart (GoL a) (GoL b) = AreApart a b
AreApart (GoR a) (GoR b) = AreApart a b
AreApart (GoL a) (GoR b) = Unit {0}
AreApart (GoR a) (GoL b) = Unit {0}
AreApart _ _ = ⊥

pub apart-turned : (p q : Way) → AreApart p q → AreApart q p
apart-turned Here q h = absurd h
apart-turned (GoL p) Here h = absurd h
apart-turned (GoR p) Here h = absurd h
apart-turned (GoL p) (GoL q) h = apart-turned p q h
apart-turned (GoR p) (GoR q) h = apart-turned p q h
apart-turned (GoL p) (GoR q) h = tt
apart-turned (GoR p) (GoL q) h = tt

module _ {V G O : Type 0} (m : Machine V G O) where
  pub two-events-apart : (p q : Way) (t : Task V G) (o u : O) → p ≢ q → look m p t ≡ Some o → look m q t ≡ Some u → AreApart p q
  two-events-apart Here Here t o u d h k = d refl
  two-events-apart Here (GoL w) (Leaf b) o u d h k = none-some k
  two-events-apart Here (GoL w) (Fork b p l r) o u d h k = let j = join-sides m l r b p o h in none-some (sym (ended-no-event m w l j.0 j.2) ∙ k)
  two-events-apart Here (GoR w) (Leaf b) o u d h k = none-some k
  two-events-apart Here (GoR w) (Fork b p l r) o u d h k = let j = join-sides m l r b p o h in none-some (sym (ended-no-event m w r j.1 j.3) ∙ k)
  two-events-apart (GoL w) Here (Leaf b) o u d h k = none-some h
  two-events-apart (GoL w) Here (Fork b p l r) o u d h k = let j = join-sides m l r b p u k in none-some (sym (ended-no-event m w l j.0 j.2) ∙ h)
  two-events-apart (GoR w) Here (Leaf b) o u d h k = none-some h
  two-events-apart (GoR w) Here (Fork b p l r) o u d h k = let j = join-sides m l r b p u k in none-some (sym (ended-no-event m w r j.1 j.3) ∙ h)
  two-events-apart (GoL v) (GoL w) (Leaf b) o u d h k = none-some h
  two-events-apart (GoL v) (GoL w) (Fork b p l r) o u d h k = two-events-apart v w l o u (λ e. d (ap (λ z. GoL z) e)) h k
  two-events-apart (GoR v) (GoR w) (Leaf b) o u d h k = none-some h
  two-events-apart (GoR v) (GoR w) (Fork b p l r) o u d h k = two-events-apart v w r o u (λ e. d (ap (λ z. GoR z) e)) h k
  two-events-apart (GoL v) (GoR w) t o u d h k = tt
  two-events-apart (GoR v) (GoL w) t o u d h k = tt

  pub look-beside : (p q : Way) (t : Task V G) (v : Option V) → AreApart p q → look m p (fill m q t v) ≡ look m p t
  look-beside Here q t v h = absurd h
  look-beside (GoL p) Here t v h = absurd h
  look-beside (GoR p) Here t v h = absurd h
  look-beside (GoL p) (GoL q) (Leaf b) v h = refl
  look-beside (GoL p) (GoL q) (Fork b x l r) v h = look-beside p q l v h
  look-beside (GoR p) (GoR q) (Leaf b) v h = refl
  look-beside (GoR p) (GoR q) (Fork b x l r) v h = look-beside p q r v h
  look-beside (GoL p) (GoR q) (Leaf b) v h = refl
  look-beside (GoL p) (GoR q) (Fork b x l r) v h = refl
  look-beside (GoR p) (GoL q) (Leaf b) v h = refl
  look-beside (GoR p) (GoL q) (Fork b x l r) v h = refl

  pub fills-turned : (p q : Way) (t : Task V G) (v w : Option V) → AreApart p q → fill m p (fill m q t v) w ≡ fill m q (fill m p t w) v
  fills-turned Here q t v w h = absurd h
  fills-turned (GoL p) Here t v w h = absurd h
  fills-turned (GoR p) Here t v w h = absurd h
  fills-turned (GoL p) (GoL q) (Leaf b) v w h = refl
  fills-turned (GoL p) (GoL q) (Fork b x l r) v w h = ap (λ z. Fork b x z r) (fills-turned p q l v w h)
  fills-turned (GoR p) (GoR q) (Leaf b) v w h = refl
  fills-turned (GoR p) (GoR q) (Fork b x l r) v w h = ap (λ z. Fork b x l z) (fills-turned p q r v w h)
  fills-turned (GoL p) (GoR q) (Leaf b) v w h = refl
  fills-turned (GoL p) (GoR q) (Fork b x l r) v w h = refl
  fills-turned (GoR p) (GoL q) (Leaf b) v w h = refl
  fills-turned (GoR p) (GoL q) (Fork b x l r) v w h = refl
