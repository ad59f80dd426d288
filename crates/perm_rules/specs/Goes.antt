-- From which live set to which a method's code goes.
use Rattle.std.specs.Prelude.{◌≡◌, ℕ, ◌+◌, List, [], ◌∷◌, ◌++◌, length}
use Rattle.perm_tree.specs.Code.{Term, Code, End, Give, Return, Do, If, While, Par, Recover, Routine, UnitCode}
use Rattle.perm_tree.specs.Vars.{Vars, below, those, plus, minus, meet, IsWithin, IsGreatest}
use Rattle.perm_rules.specs.Parts.{Context, Simple, Condition, RecoverHead, Given, Returned}
use Rattle.perm_rules.specs.Liveness.{after, after_argument, after_give}
use Rattle.perm_rules.specs.Pars.{par_head}
use Rattle.perm_rules.specs.Refusals.{IsAllowed}

-- within a recover block more is hidden
abbrev pub hiding : List ℕ → Context → Context
hiding hides c = record c { hidden = hides ++ c.hidden }

-- what is live after a par that is entered with G, whose blocks end with A and B: G without what either loses, with what either makes live
abbrev pub joined : Vars → Vars → Vars → Vars
joined G A B = plus (minus G (plus (minus G A) (minus G B))) (plus (minus A G) (minus B G))

-- a part of G from which a `while` goes round: its condition is allowed, and its body goes to a set that holds that part
pub record GoesRound (c : Context) (e : Term) (own : List ℕ) (Body : Vars → Vars → Type 0) (G K : Vars) : Type 0 where
  pub part : IsWithin K G
  pub tested : IsAllowed c (Condition e) K
  pub ends : Vars
  pub body : Body K ends
  pub again : IsWithin K (minus ends (those own))

-- a block goes to a set, and what comes behind it goes on from that
pub record BlockGoes (Body Rest : Vars → Type 0) : Type 0 where
  pub ends : Vars
  pub body : Body ends
  pub rest : Rest ends

-- two blocks go to sets, and what comes behind them goes on from both
pub record BlocksGo (Left Right : Vars → Type 0) (Rest : Vars → Vars → Type 0) : Type 0 where
  pub left_ends : Vars
  pub right_ends : Vars
  pub left : Left left_ends
  pub right : Right right_ends
  pub rest : Rest left_ends right_ends

-- from the live set G the code goes to H. A block's own variables are live no longer at its end
abbrev pub Goes : Context → Code → Vars → Vars → Type 0
Goes c End G H = H ≡ G
Goes c (Give at w x) G H = IsAllowed c (Given w x) G × (H ≡ after_give w x G)
Goes c (Return at a) G H = IsAllowed c (Returned a) G × (H ≡ after_argument a G)
Goes c (Do at i rest) G H = IsAllowed c (Simple i) G × Goes c rest (after i G) H
Goes c (If at e own1 a own2 b rest) G H =
    IsAllowed c (Condition e) G × BlocksGo (λ A. Goes c a G A) (λ B. Goes c b G B) (λ A B. Goes c rest (meet (minus A (those own1)) (minus B (those own2))) H)
Goes c (While at e own body rest) G H =
    (K : Vars) × IsGreatest (GoesRound c e own (λ K L. Goes c body K L) G) K × Goes c rest K H
Goes c (Par at own1 a own2 b rest) G H =
    IsAllowed c (par_head c own1 a own2 b) G × BlocksGo (λ A. Goes c a G A) (λ B. Goes c b G B) (λ A B. Goes c rest (joined G (minus A (those own1)) (minus B (those own2))) H)
Goes c (Recover at x own hides body rest) G H =
    IsAllowed c (RecoverHead x) G × BlockGoes (λ K. Goes (hiding hides c) body G K) (λ K. Goes c rest (minus K (those own)) H)

-- ---------- methods and units ----------
-- what the body of a method is checked by
abbrev pub context : UnitCode → Routine → Context
context u r = record { classes = u.classes; routines = u.routines; vars = r.vars; result = r.result; hidden = [] }

-- `this` and the parameters are live at the start
abbrev pub first_live : Routine → Vars
first_live r = below (1 + length r.params)

-- the body goes from `this` and the parameters, through its `return`
abbrev pub HasDerivation : UnitCode → Routine → Type 0
HasDerivation u r = (H : Vars) × Goes (context u r) r.code (first_live r) H

-- some methods all have derivations
abbrev pub HaveDerivations : UnitCode → List Routine → Type 0
HaveDerivations u [] = Unit {0}
HaveDerivations u (r ∷ rs) = HasDerivation u r × HaveDerivations u rs

-- every method has a derivation
abbrev pub IsAccepted : UnitCode → Type 0
IsAccepted u = HaveDerivations u u.routines
