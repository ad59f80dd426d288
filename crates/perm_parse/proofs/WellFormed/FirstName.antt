-- The first name of a program that is read is `this`.
use Rattle.std.proofs.Common.{ℕ, List, refl, sym, subst}
use Rattle.perm_tree.specs.WellFormed.{HasThisFirst}
use Rattle.perm_parse.specs.Grammar.{Classes}
use Rattle.perm_parse.specs.Meaning.{meaning, nothing_yet}
use Rattle.perm_parse.proofs.Walks.ListGrowth.{classes-grows}

-- the names begin with those of the program of no classes
pub meaning-first : (text : List ℕ) (tree : Classes) → HasThisFirst (meaning text tree).names
meaning-first text tree = subst HasThisFirst (sym (classes-grows text tree nothing_yet).names.is) refl
