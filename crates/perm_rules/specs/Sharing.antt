-- The pars of a code, and what their blocks share by what they assign and consume alone.
use Rattle.std.specs.Prelude.{◌≡◌, ℕ, List}
use Rattle.perm_tree.specs.Code.{Code, End, Give, Return, Do, If, While, Par, Recover}
use Rattle.perm_rules.specs.Parts.{Context, Part, ParHead}
use Rattle.perm_rules.specs.Pars.{uses, sets, par_head, par_shared}

-- the head of the par of two blocks, by what they assign and consume alone
abbrev pub plain_head : Context → List ℕ → Code → List ℕ → Code → Part
plain_head c own1 a own2 b = ParHead (uses c own1 a) (uses c own2 b) (sets c own1 a) (sets c own2 b)

-- what two blocks declare is no reason to refuse their par
abbrev pub SharesPlainly : Context → List ℕ → Code → List ℕ → Code → Type 0
SharesPlainly c own1 a own2 b = par_shared c (par_head c own1 a own2 b) ≡ par_shared c (plain_head c own1 a own2 b)

-- it is so of a par, of what stands in its blocks, and of what comes behind it
pub record ParSharesPlainly (c : Context) (own1 : List ℕ) (a : Code) (own2 : List ℕ) (b : Code) (Left Right Rest : Type 0) : Type 0 where
  pub head : SharesPlainly c own1 a own2 b
  pub left : Left
  pub right : Right
  pub rest : Rest

-- so it is of each par anywhere in a code
abbrev pub AllSharePlainly : Context → Code → Type 0
AllSharePlainly c End = Unit {0}
AllSharePlainly c (Give at w x) = Unit {0}
AllSharePlainly c (Return at a) = Unit {0}
AllSharePlainly c (Do at i rest) = AllSharePlainly c rest
AllSharePlainly c (If at e own1 a own2 b rest) = AllSharePlainly c a × AllSharePlainly c b × AllSharePlainly c rest
AllSharePlainly c (While at e own body rest) = AllSharePlainly c body × AllSharePlainly c rest
AllSharePlainly c (Par at own1 a own2 b rest) = ParSharesPlainly c own1 a own2 b (AllSharePlainly c a) (AllSharePlainly c b) (AllSharePlainly c rest)
AllSharePlainly c (Recover at x own hides body rest) = AllSharePlainly c body × AllSharePlainly c rest
