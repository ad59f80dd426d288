use Rattle.std.proofs.Common.{◌+◌, sym, subst, arith}
use Rattle.std.proofs.lemmas.List.{take_rest, length-drop}
use Rattle.std.specs.Option.{option_to_list}
use Rattle.perm_lex.specs.Reading.{ReadsPiece}
use Rattle.perm_lex.proofs.Walk.{IsReadTo, read_more, step_on}
use Rattle.perm_lex.proofs.reader.read.Goals as goal

pub loop-at-preserved : goal.loop-at-preserved
loop-at-preserved c =
    let text = c.args.text.now in
    let at = c.loop-at.at in
    let found = c.in_ok-found.found in
    let step = subst (λ rest. ReadsPiece at rest found.len (option_to_list found.token)) (take_rest text at) c.in_ok-found.ensures in
    let on = (step_on at found.len _ _ step).1 in
    let size = length-drop at text in
    record {
      read = subst (IsReadTo text (at + found.len)) (sym c.in_ok-append.ensures.ok) (read_more text at found.len _ _ c.loop-at.invariant.read step);
      within = omega arith;
    }
