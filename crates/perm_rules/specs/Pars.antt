-- The two blocks of a par: what they may share, and which side stands alone.
use Rattle.std.specs.Prelude.{ℕ, Bool, true, false, not, ◌&&◌, ◌||◌, List, length}
use Rattle.perm_tree.specs.Code.{Instruction, Declare, Code, End, Give, Return, Do, If, While, Par, Recover}
use Rattle.perm_tree.specs.CodeNames.{is_tied}
use Rattle.perm_tree.specs.Mentions.{argument_consumes, consumes, assigns, block_mentions, block_writes, known}
use Rattle.perm_tree.specs.Names.{is_writable}
use Rattle.perm_tree.specs.Vars.{Vars, none, just, those, plus, meet, some_below}
use Rattle.perm_rules.specs.declared.ParMode.{ParMode}
use Rattle.perm_rules.specs.declared.ParMode.TheVariants.{Symmetric, LeftAlone, RightAlone}
use Rattle.perm_rules.specs.Parts.{Context, Part, ParHead, type_of, if_known, if_reference, has_isolated}

-- the known outer variables that stand anywhere in a block, which declares own itself; an assigned variable included
abbrev pub uses : Context → List ℕ → Code → Vars
uses c own a = known (length c.vars) (block_mentions own a)

-- those that it assigns or consumes anywhere
abbrev pub sets : Context → List ℕ → Code → Vars
sets c own a = known (length c.vars) (block_writes own a)

-- the variables that a simple statement assigns, consumes or declares
abbrev pub touched_by : Instruction → Vars
touched_by (Declare x) = just x
touched_by i = plus (consumes i) (assigns i)

-- the variables that a code assigns or consumes anywhere, and those that it or a block within it declares
abbrev pub touched : Code → Vars
touched End = none
touched (Give at w x) = plus (just w) (just x)
touched (Return at a) = argument_consumes a
touched (Do at i rest) = plus (touched_by i) (touched rest)
touched (If at e own1 a own2 b rest) = plus (plus (touched a) (those own1)) (plus (plus (touched b) (those own2)) (touched rest))
touched (While at e own body rest) = plus (plus (touched body) (those own)) (touched rest)
touched (Par at own1 a own2 b rest) = plus (plus (touched a) (those own1)) (plus (plus (touched b) (those own2)) (touched rest))
touched (Recover at x own hides body rest) = plus (just x) (plus (plus (touched body) (those own)) (touched rest))

-- the known variables that a block assigns, consumes or declares anywhere
abbrev pub touches : Context → List ℕ → Code → Vars
touches c own a = known (length c.vars) (plus (touched a) (those own))

-- the head of the par of two blocks
abbrev pub par_head : Context → List ℕ → Code → List ℕ → Code → Part
par_head c own1 a own2 b = ParHead (uses c own1 a) (uses c own2 b) (touches c own1 a) (touches c own2 b)

-- ---------- variables by their permission ----------
-- the isolated variables of the method
abbrev pub isolated_vars : Context → Vars
isolated_vars c x = has_isolated (type_of c x)

-- the writable variables of the method
abbrev pub writable_vars : Context → Vars
writable_vars c x = if_reference (type_of c x) is_writable

-- the readable and writable variables of the method
abbrev pub tied_vars : Context → Vars
tied_vars c x = if_known (type_of c x) is_tied

-- some variable of the method is in a set
abbrev pub some_var : Context → Vars → Bool
some_var c G = some_below (length c.vars) G

-- ---------- the two tests ----------
-- one block assigns, consumes or declares what stands in the other, or an isolated variable stands in both. In a unit what the one declares doesn't stand in the other, so there this asks no more than what they assign and consume (`laws::pars`); with it the laws hold of every code
abbrev pub par_shared : Context → Part → Bool
par_shared c (ParHead u1 u2 a1 a2) = some_var c (meet a1 u2) || (some_var c (meet a2 u1) || some_var c (meet (isolated_vars c) (meet u1 u2)))
par_shared c _ = false

-- a writable variable is in a set
abbrev pub has_writable : Context → Vars → Bool
has_writable c u = some_var c (meet (writable_vars c) u)

-- a block whose outer variables are all isolated, immutable, `long` or `bool` can stand alone
abbrev pub can_stand_alone : Context → Vars → Bool
can_stand_alone c u = not (some_var c (meet (tied_vars c) u))

-- a writable variable stands in a block, and neither block can stand alone
abbrev pub par_permission : Context → Part → Bool
par_permission c (ParHead u1 u2 a1 a2) = (has_writable c u1 || has_writable c u2) && not (can_stand_alone c u1 || can_stand_alone c u2)
par_permission c _ = false

-- ---------- the mode ----------
-- the mode, by whether a writable variable stands in the blocks and whether the left one can stand alone
abbrev pub mode_by : Bool → Bool → ParMode
mode_by false left_can = Symmetric
mode_by true true = LeftAlone
mode_by true false = RightAlone

-- symmetric where no writable variable stands in the blocks; else the left one alone stands alone if it can, and otherwise the right one
abbrev pub mode_of : Context → Vars → Vars → ParMode
mode_of c u1 u2 = mode_by (has_writable c u1 || has_writable c u2) (can_stand_alone c u1)
