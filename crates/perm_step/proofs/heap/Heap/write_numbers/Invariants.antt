use Rattle.std.proofs.Common.{◌≡◌, ℕ, ◌<◌, ◌≤◌, length, get_or, take}
use Rattle.std.specs.Prelude.{pos}
use Rattle.perm_meaning.specs.Literals.{NumbersFit}
use Rattle.perm_meaning.specs.Words.{number_word}
use Rattle.perm_step.proofs.heap.Heap.write_numbers.Given as goal

abbrev pub invariant-loop-at : goal.invariant-loop-at
invariant-loop-at l = record {
  written : (k : ℕ) → k < l.at → get_or l.self-inside.words.items k 0 ≡ number_word (get_or l.numbers k (pos 0));
  fits : NumbersFit (take l.at l.numbers);
  others : (k : ℕ) → l.at ≤ k → get_or l.self-inside.words.items k 0 ≡ get_or l.initial.self-inside.words.items k 0;
  given : length l.self-inside.words.items ≡ length l.initial.self-inside.words.items;
  limit : l.self-inside.limit ≡ l.initial.self-inside.limit;
}
