use Rattle.perm_meaning.specs.NamedHeap.{named}
use Rattle.perm_meaning.specs.Turns.{machine}
use Rattle.perm_meaning.specs.Words.{words}
use Rattle.perm_meaning.proofs.Holder.{holder-goes-left-first}
use Rattle.perm_meaning.proofs.laws.holders.Goals as goal

pub returns : goal.returns
returns c = record { on_names = λ custody u. holder-goes-left-first (named custody u); on_words = λ custody g u. holder-goes-left-first (machine words custody g u) }
