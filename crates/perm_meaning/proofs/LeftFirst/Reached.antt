-- Where the machine of names comes to by a meaning.
use Rattle.std.proofs.Common.{◌≡◌, ◌≢◌, ℕ, ◌-◌, ◌≤◌, Bool, Some, None, List, [], ◌∷◌, refl, arith, le_refl}
use Rattle.perm_tree.specs.Code.{Code, End, UnitCode}
use Rattle.perm_meaning.specs.Expressions.{tagged, assign, assign_into, clear_all}
use Rattle.perm_meaning.specs.Machine.{OpenBlock, OpenRecover, OpenCall, Failure, NoRoom, Returning, Leaf, Final, GaveBack, Failed, final, look, settled}
use Rattle.perm_meaning.specs.Machine as machines
use Rattle.perm_meaning.specs.Custody.{Copies}
use Rattle.perm_meaning.specs.Turns.{lent_back}
use Rattle.perm_meaning.specs.NamedHeap.{Held, Op, Own, Branch, State, named, memory, find}
use Rattle.perm_meaning.specs.Steps.{Refused, Leads, leftmost}
use Rattle.perm_meaning.specs.Meaning.{Moment, Result, Well, Gave, Handed, Fails, Full, Stuck, set_vars, then_do, close, recovered}
use Rattle.perm_meaning.proofs.Leads.{lead, stay}

-- what stands below the code of a branch on names
abbrev pub Frame : Type 0
Frame = machines.Frame Held

-- a branch at a moment, with this code and stack, of which no block is at its end
abbrev pub at_code : UnitCode → Code → List Frame → Moment → Branch
at_code u c st m = settled (named Copies u) (record { own = record m.own { vars = [] }; turns = m.turns; code = End; stack = []; close = None }) m.own.vars c st

-- the same branch, alone on the heap
abbrev pub going : UnitCode → Code → List Frame → Moment → State
going u c st m = record { task = Leaf (at_code u c st m); heap = m.heap }

-- what a branch has besides its variables doesn't tell where its blocks end
pub settles : (u : UnitCode) (l : Own) (t : ℕ) (c1 : Code) (st1 : List Frame) (vs : List Held) (c : Code) (st : List Frame)
    → settled (named Copies u) (record { own = l; turns = t; code = c1; stack = st1; close = None }) vs c st
    ≡ settled (named Copies u) (record { own = record l { vars = [] }; turns = t; code = End; stack = []; close = None }) vs c st
settles u l t c1 st1 vs End (OpenBlock own rest ∷ st) = settles u l t c1 st1 (clear_all tagged vs own) rest st
settles u l t c1 st1 vs c st = refl

module _ (u : UnitCode) (fits : ℕ → Bool) where
  -- by events at the leftmost node, none of them a refused allocation
  abbrev pub Reach : State → State → Type 0
  Reach s t = Leads (named Copies u) (memory u) fits s t

  -- the leftmost event would be a refused allocation
  abbrev pub Refuses : State → Type 0
  Refuses s = (o : Op) × (look (named Copies u) (leftmost s.task) s.task ≡ Some o) × (find fits o s.heap ≡ Refused)

  -- a value is given back to the call that stands below, or from the whole run
  abbrev pub GivesBack : List Frame → State → Held → Moment → Type 0
  GivesBack [] s v m = (b : Branch) × (final (Leaf b) ≡ Some (GaveBack v m.turns m.own.printed)) × Reach s (record { task = Leaf b; heap = m.heap })
  GivesBack (OpenCall tie into y saved lent caller rest ∷ st) s v m =
      Reach s (going u rest st (record m { own = record m.own { vars = assign_into (lent_back lent y saved) into v; routine = caller; depth = m.own.depth - 1 } }))
  GivesBack (OpenBlock own rest ∷ st) s v m = Unit {0}
  GivesBack (OpenRecover own hides saved rest ∷ st) s v m = Unit {0}

  -- a value is given for a variable to the recover block that stands below
  abbrev pub HandsOn : List Frame → State → ℕ → Held → Moment → Type 0
  HandsOn [] s x v m = Unit {0}
  HandsOn (OpenRecover own hides saved rest ∷ st) s x v m = Reach s (going u rest st (set_vars m (assign (clear_all tagged m.own.vars own) x v)))
  HandsOn (OpenBlock own rest ∷ st) s x v m = Unit {0}
  HandsOn (OpenCall tie into y saved lent caller rest ∷ st) s x v m = Unit {0}

  -- the machine comes to where a meaning ends: where it ends well, this code is next
  abbrev pub Follows : Code → List Frame → ℕ → State → Result → Type 0
  Follows c st n s (Well m) = (m.turns ≤ n) × Reach s (going u c st m)
  Follows c st n s (Gave v m) = (m.turns ≤ n) × GivesBack st s v m
  Follows c st n s (Handed x v m) = (m.turns ≤ n) × HandsOn st s x v m
  Follows c st n s (Fails e t p h) = (t ≤ n) × (e ≢ NoRoom) × (b : Branch) × (final (Leaf b) ≡ Some (Failed e t p)) × Reach s (record { task = Leaf b; heap = h })
  Follows c st n s Full = (t : State) × Reach s t × Refuses t
  Follows c st n s Stuck = Unit {0}

  -- the same from an earlier state
  gives-along : (st : List Frame) (s t : State) (v : Held) (m : Moment) → Reach s t → GivesBack st t v m → GivesBack st s v m
  gives-along [] s t v m l f = (f.0, f.1, lead (named Copies u) (memory u) fits s t (record { task = Leaf f.0; heap = m.heap }) l f.2)
  gives-along (OpenCall tie into y saved lent caller rest ∷ st) s t v m l f = lead (named Copies u) (memory u) fits s t _ l f
  gives-along (OpenBlock own rest ∷ st) s t v m l f = tt
  gives-along (OpenRecover own hides saved rest ∷ st) s t v m l f = tt

  -- the same of a value for a recover block
  hands-along : (st : List Frame) (s t : State) (x : ℕ) (v : Held) (m : Moment) → Reach s t → HandsOn st t x v m → HandsOn st s x v m
  hands-along [] s t x v m l f = tt
  hands-along (OpenRecover own hides saved rest ∷ st) s t x v m l f = lead (named Copies u) (memory u) fits s t _ l f
  hands-along (OpenBlock own rest ∷ st) s t x v m l f = tt
  hands-along (OpenCall tie into y saved lent caller rest ∷ st) s t x v m l f = tt

  -- the same of any meaning
  pub along : (c : Code) (st : List Frame) (n : ℕ) (s t : State) (r : Result) → Reach s t → Follows c st n t r → Follows c st n s r
  along c st n s t (Well m) l f = (f.0, lead (named Copies u) (memory u) fits s t (going u c st m) l f.1)
  along c st n s t (Gave v m) l f = (f.0, gives-along st s t v m l f.1)
  along c st n s t (Handed x v m) l f = (f.0, hands-along st s t x v m l f.1)
  along c st n s t (Fails e w p h) l f = (f.0, f.1, f.2, f.3, lead (named Copies u) (memory u) fits s t (record { task = Leaf f.2; heap = h }) l f.4)
  along c st n s t Full l f = (f.0, lead (named Copies u) (memory u) fits s t f.0 l f.1, f.2)
  along c st n s t Stuck l f = tt

  -- with a larger bound on the turns left
  pub more : (c : Code) (st : List Frame) (n k : ℕ) (s : State) (r : Result) → n ≤ k → Follows c st n s r → Follows c st k s r
  more c st n k s (Well m) le f = (omega (arith, f.0), f.1)
  more c st n k s (Gave v m) le f = (omega (arith, f.0), f.1)
  more c st n k s (Handed x v m) le f = (omega (arith, f.0), f.1)
  more c st n k s (Fails e w p h) le f = (omega (arith, f.0), f.1, f.2, f.3, f.4)
  more c st n k s Full le f = f
  more c st n k s Stuck le f = tt

  -- one stretch after another
  pub then-follows : (c d : Code) (st st1 : List Frame) (n : ℕ) (s : State) (r : Result) (go : Moment → Result) → Follows c st n s r
      → ((m : Moment) → m.turns ≤ n → Follows d st1 m.turns (going u c st m) (go m)) → Follows d st1 n s (then_do r go)
  then-follows c d st st1 n s (Well m) go f g = along d st1 n s (going u c st m) (go m) f.1 (more d st1 m.turns n (going u c st m) (go m) f.0 (g m f.0))
  then-follows c d st st1 n s (Gave v m) go f g = tt
  then-follows c d st st1 n s (Handed x v m) go f g = tt
  then-follows c d st st1 n s (Fails e w p h) go f g = f
  then-follows c d st st1 n s Full go f g = f
  then-follows c d st st1 n s Stuck go f g = tt

  -- the end of a block costs no event
  pub close-follows : (own : List ℕ) (rest : Code) (st : List Frame) (n : ℕ) (s : State) (r : Result) → Follows End (OpenBlock own rest ∷ st) n s r → Follows rest st n s (close own r)
  close-follows own rest st n s r f = then-follows End rest (OpenBlock own rest ∷ st) st n s r _ f (λ m le. (le_refl m.turns, stay (named Copies u) (memory u) fits _))

  -- the end of a recover block
  pub recovered-follows : (own hides : List ℕ) (saved : List Held) (rest : Code) (st : List Frame) (n : ℕ) (s : State) (r : Result)
      → Follows End (OpenRecover own hides saved rest ∷ st) n s r → Follows rest st n s (recovered own r)
  recovered-follows own hides saved rest st n s (Well m) f = tt
  recovered-follows own hides saved rest st n s (Gave v m) f = tt
  recovered-follows own hides saved rest st n s (Handed x v m) f = f
  recovered-follows own hides saved rest st n s (Fails e w p h) f = f
  recovered-follows own hides saved rest st n s Full f = f
  recovered-follows own hides saved rest st n s Stuck f = tt
