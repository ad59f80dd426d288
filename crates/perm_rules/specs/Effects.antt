-- What code takes out of the live set, and what it puts in.
use Rattle.std.specs.Prelude.{ℕ, List}
use Rattle.perm_tree.specs.Code.{Instruction, Declare, Code, End, Give, Return, Do, If, While, Par, Recover}
use Rattle.perm_tree.specs.Mentions.{argument_consumes, consumes, assigns, known}
use Rattle.perm_tree.specs.Vars.{Vars, none, just, those, plus, minus, meet}

-- the variables that are lost, and those that are made live; from a set that code goes from it goes to that without the lost, with the made
pub record Effect : Type 0 where
  pub lost : Vars
  pub made : Vars

-- the live set after an effect
abbrev pub changed : Effect → Vars → Vars
changed e G = plus (minus G e.lost) e.made

-- nothing is lost and nothing made
abbrev pub no_effect : Effect
no_effect = record { lost = none; made = none }

-- a simple statement makes what it assigns, and loses what else it consumes
abbrev pub instruction_effect : Instruction → Effect
instruction_effect (Declare x) = record { lost = just x; made = none }
instruction_effect i = record { lost = minus (consumes i) (assigns i); made = assigns i }

-- the one and then the other
abbrev pub then : Effect → Effect → Effect
then s t = record { lost = plus (minus s.lost t.made) t.lost; made = plus (minus s.made t.lost) t.made }

-- at the end of a block its own variables are lost
abbrev pub closed : List ℕ → Effect → Effect
closed own e = record { lost = plus e.lost (those own); made = minus e.made (those own) }

-- one of the two, as in an `if`
abbrev pub either : Effect → Effect → Effect
either s t = record { lost = plus s.lost t.lost; made = meet s.made t.made }

-- both, as in a par
abbrev pub both : Effect → Effect → Effect
both s t = record { lost = plus s.lost t.lost; made = plus s.made t.made }

-- any number of times, as in a `while`
abbrev pub repeated : Effect → Effect
repeated e = record { lost = e.lost; made = none }

-- the effect of a code
abbrev pub effect : Code → Effect
effect End = no_effect
effect (Give at w x) = record { lost = minus (just w) (just x); made = just x }
effect (Return at a) = record { lost = argument_consumes a; made = none }
effect (Do at i rest) = then (instruction_effect i) (effect rest)
effect (If at e own1 a own2 b rest) = then (either (closed own1 (effect a)) (closed own2 (effect b))) (effect rest)
effect (While at e own body rest) = then (repeated (closed own (effect body))) (effect rest)
effect (Par at own1 a own2 b rest) = then (both (closed own1 (effect a)) (closed own2 (effect b))) (effect rest)
effect (Recover at x own hides body rest) = then (closed own (effect body)) (effect rest)

-- the effect of a block, which declares own itself
abbrev pub block_effect : List ℕ → Code → Effect
block_effect own a = closed own (effect a)

-- of a method with n variables an effect on the known ones
abbrev pub known_effect : ℕ → Effect → Effect
known_effect n e = record { lost = known n e.lost; made = known n e.made }
