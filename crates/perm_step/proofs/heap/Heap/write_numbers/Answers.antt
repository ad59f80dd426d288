use Rattle.std.proofs.Common.{◌<◌, length, get_or, arith, length-set, rules, ap, ◌∙◌}
use Rattle.std.specs.Prelude.{pos, FitsSigned}
use Rattle.std.proofs.lemmas.Int.{to_z-of_z}
use mir.Syntax.{w64}
use Rattle.perm_meaning.specs.Words.{number_word}
use Rattle.perm_step.specs.Heaps.{Heaped}
use Rattle.perm_step.proofs.WordMachine.Cells.{written_more, others_more, fits_more}
use Rattle.perm_step.proofs.heap.Heap.write_numbers.Goals as goal

pub loop-at-preserved : goal.loop-at-preserved
loop-at-preserved c =
    let words = c.loop-at.self-inside.words.items in
    let numbers = c.args.numbers.now in
    let at = c.loop-at.at in
    let fit : FitsSigned w64 (get_or numbers at (pos 0)) = search rules in
    let inside : at < length words = omega (arith, c.loop-at-test.true, c.requires, ap (λ (h : Heaped). length h.words) c.self.view_is, c.loop-at.invariant.given) in
    record {
      written = written_more words numbers at c.cast_unsigned.result inside (c.cast_unsigned.ensures ∙ ap number_word (to_z-of_z w64 (get_or numbers at (pos 0)) fit)) c.loop-at.invariant.written;
      fits = fits_more numbers at c.loop-at-test.true fit c.loop-at.invariant.fits;
      others = others_more words c.self.inside.words.items at c.cast_unsigned.result c.loop-at.invariant.others;
      given = length-set words at c.cast_unsigned.result ∙ c.loop-at.invariant.given;
      limit = c.loop-at.invariant.limit;
    }
