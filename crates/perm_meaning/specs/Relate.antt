-- Two machines that go step by step alike, the one's variables holding V and the other's W: as words and what they show. R says which shows which, and S the same of what branches bear for names.
use Rattle.std.specs.Prelude.{◌≡◌, List, [], ◌∷◌, Option, Some, None}
use Rattle.perm_meaning.specs.Machine.{Own, Frame, OpenBlock, OpenRecover, OpenCall, Close, Returning, Failing, Branch, Task, Leaf, Fork, Final, Fine, GaveBack, Failed, Did, On, Splits, Ends, Dies, Turn, Takes, NoTurn}

module _ {V W : Type 0} (R : V → W → Type 0) where
  -- both are there and related, or neither is
  abbrev pub OptionR : Option V → Option W → Type 0
  OptionR None None = Unit {0}
  OptionR (Some v) (Some w) = R v w
  OptionR _ _ = ⊥

  -- lists of variables, one by one
  abbrev pub VarsR : List V → List W → Type 0
  VarsR [] [] = Unit {0}
  VarsR (v ∷ vs) (w ∷ ws) = R v w × VarsR vs ws
  VarsR _ _ = ⊥

  -- what stands below the code is the same, with related variables
  abbrev pub FrameR : Frame V → Frame W → Type 0
  FrameR (OpenBlock own rest) (OpenBlock own' rest') = (own ≡ own') × (rest ≡ rest')
  FrameR (OpenRecover own hides saved rest) (OpenRecover own' hides' saved' rest') = (own ≡ own') × (hides ≡ hides') × VarsR saved saved' × (rest ≡ rest')
  FrameR (OpenCall tie into y saved lent caller rest) (OpenCall tie' into' y' saved' lent' caller' rest') =
      (tie ≡ tie') × (into ≡ into') × (y ≡ y') × VarsR saved saved' × OptionR lent lent' × (caller ≡ caller') × (rest ≡ rest')
  FrameR _ _ = ⊥

  -- the same of whole stacks
  abbrev pub StackR : List (Frame V) → List (Frame W) → Type 0
  StackR [] [] = Unit {0}
  StackR (f ∷ fs) (g ∷ gs) = FrameR f g × StackR fs gs
  StackR _ _ = ⊥

  -- the same of ends
  abbrev pub CloseR : Option (Close V) → Option (Close W) → Type 0
  CloseR None None = Unit {0}
  CloseR (Some (Returning v)) (Some (Returning w)) = R v w
  CloseR (Some (Failing e)) (Some (Failing f)) = e ≡ f
  CloseR _ _ = ⊥

  -- the same of ended branches
  abbrev pub FinalR : Final V → Final W → Type 0
  FinalR (Fine vs t p) (Fine ws u q) = VarsR vs ws × (t ≡ u) × (p ≡ q)
  FinalR (GaveBack v t p) (GaveBack w u q) = R v w × (t ≡ u) × (p ≡ q)
  FinalR (Failed e t p) (Failed f u q) = (e ≡ f) × (t ≡ u) × (p ≡ q)
  FinalR _ _ = ⊥

  module _ {G K : Type 0} (S : G → K → Type 0) where
    -- the same of what turns may change
    pub record OwnR (l : Own V G) (m : Own W K) : Type 0 where
      pub vars : VarsR l.vars m.vars
      pub routine : l.routine ≡ m.routine
      pub depth : l.depth ≡ m.depth
      pub printed : l.printed ≡ m.printed
      pub mark : S l.mark m.mark

    -- the same of branches
    pub record BranchR (b : Branch V G) (c : Branch W K) : Type 0 where
      pub own : OwnR b.own c.own
      pub turns : b.turns ≡ c.turns
      pub code : b.code ≡ c.code
      pub stack : StackR b.stack c.stack
      pub close : CloseR b.close c.close

    -- the same of trees
    abbrev pub TaskR : Task V G → Task W K → Type 0
    TaskR (Leaf b) (Leaf c) = BranchR b c
    TaskR (Fork b p l r) (Fork c q x y) = BranchR b c × (p ≡ q) × TaskR l x × TaskR r y
    TaskR _ _ = ⊥

    -- the same of what turns do
    abbrev pub DidR : Did V G → Did W K → Type 0
    DidR (On l c st) (On m d st') = OwnR l m × (c ≡ d) × StackR st st'
    DidR (Splits p rest) (Splits q rest') = (p ≡ q) × (rest ≡ rest')
    DidR (Ends v) (Ends w) = R v w
    DidR (Dies e) (Dies f) = e ≡ f
    DidR _ _ = ⊥

-- a turn of the one and of the other, where B says what shows what, and grows: the same is asked, and what is done by related answers is related. Where the first has no turn, nothing is said
abbrev pub TurnR : {V G O W K P B : Type 0} → (B → V → W → Type 0) → (B → G → K → Type 0) → (B → O → P → Type 0) → (B → B → Type 0) → B → Turn V G O → Turn W K P → Type 0
TurnR R S Q Grows b NoTurn t = Unit {0}
TurnR R S Q Grows b (Takes o told) NoTurn = ⊥
TurnR {V} {G} {O} {W} {K} {P} {B} R S Q Grows b (Takes o told) (Takes q said) =
    Q b o q × ((c : B) → Grows b c → (v : V) (w : W) → R c v w → DidR (R c) (S c) (told v) (said w))
