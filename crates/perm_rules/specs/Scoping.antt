-- What the scopes of variables make true of code: what a block declares has no value before it, a recover block hides each readable and writable variable from outside, and gives to the variable that takes its value.
use Rattle.std.specs.Prelude.{ℕ, Bool, true, not, ◌&&◌, List}
use Rattle.std.specs.List.{list_any}
use Rattle.perm_tree.specs.Code.{Code, End, Give, Return, Do, If, While, Par, Recover}
use Rattle.perm_tree.specs.Mentions.{mentions, block_mentions}
use Rattle.perm_tree.specs.Vars.{Vars, none, just, those, plus, minus, meet}
use Rattle.perm_rules.specs.Parts.{Context}
use Rattle.perm_rules.specs.Pars.{tied_vars, some_var}

-- the variable to which the `give` at the end of a code gives
abbrev pub given : Code → Vars
given End = none
given (Give at w x) = just x
given (Return at a) = none
given (Do at i rest) = given rest
given (If at e own1 a own2 b rest) = given rest
given (While at e own body rest) = given rest
given (Par at own1 a own2 b rest) = given rest
given (Recover at x own hides body rest) = given rest

-- no listed variable is in the set
abbrev pub has_none : Vars → List ℕ → Bool
has_none U xs = not (list_any U xs)

-- the readable and writable variables of a set are all listed
abbrev pub hides_tied : Context → Vars → List ℕ → Bool
hides_tied c U hides = not (some_var c (minus (meet (tied_vars c) U) (those hides)))

-- a code is rightly scoped where it is entered with at most the variables of U: U grows by what stands in the code. No block declares one of U. A recover block gives to the variable in its head, hides the readable and writable variables of U and the outer ones that stand in it, and declares nothing that it hides
abbrev pub is_scoped : Context → Code → Vars → Bool
is_scoped c End U = true
is_scoped c (Give at w x) U = true
is_scoped c (Return at a) U = true
is_scoped c (Do at i rest) U = is_scoped c rest (plus U (mentions i))
is_scoped c (If at e own1 a own2 b rest) U =
    (has_none U own1 && has_none U own2)
    && (is_scoped c a U && (is_scoped c b U && is_scoped c rest (plus U (plus (block_mentions own1 a) (block_mentions own2 b)))))
is_scoped c (While at e own body rest) U =
    has_none U own && (is_scoped c body (plus U (block_mentions own body)) && is_scoped c rest (plus U (block_mentions own body)))
is_scoped c (Par at own1 a own2 b rest) U =
    (has_none U own1 && has_none U own2)
    && (is_scoped c a U && (is_scoped c b U && is_scoped c rest (plus U (plus (block_mentions own1 a) (block_mentions own2 b)))))
is_scoped c (Recover at x own hides body rest) U =
    (given body x && (has_none (plus U (those hides)) own && hides_tied c (plus U (block_mentions own body)) hides))
    && (is_scoped c body (plus U (those hides)) && is_scoped c rest (plus (just x) (plus U (block_mentions own body))))
