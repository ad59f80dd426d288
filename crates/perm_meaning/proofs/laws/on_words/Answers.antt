use Rattle.perm_tree.specs.CodeOf.{code_of}
use Rattle.perm_meaning.proofs.OnWords.WordsRun.{words-show-names, words-end-as-meaning, words-fill-as-meaning}
use Rattle.perm_meaning.proofs.UnitLiterals.{IsResolved-fits}
use Rattle.perm_meaning.proofs.laws.on_words.Goals as goal

pub returns : goal.returns
returns c = record {
  shows = λ u limit c input turns is. words-show-names (code_of u) (IsResolved-fits u is) limit c input turns;
  ends = λ u limit input turns is. words-end-as-meaning (code_of u) (IsResolved-fits u is) limit input turns;
  fills = λ u limit input turns is. words-fill-as-meaning (code_of u) (IsResolved-fits u is) limit input turns;
}
