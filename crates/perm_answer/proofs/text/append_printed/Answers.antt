use Rattle.std.proofs.Common.{length, ap, take, arith}
use Rattle.std.proofs.lemmas.List.{length-append}
use Rattle.perm_answer.specs.Answers.{printed_text}
use Rattle.perm_answer.proofs.Printed.{printed_front}
use Rattle.perm_answer.proofs.text.append_printed.Goals as goal

pub append_line-requires : goal.append_line-requires
append_line-requires c =
    let front = printed_front c.args.printed.now c.loop-number.number-index c.loop-number-test.true in
    let now = ap length c.loop-number.invariant.items in
    let joined = length-append c.args.text.now.items (printed_text (take c.loop-number.number-index c.args.printed.now)) in
    let room = c.requires.room in
    let capacity = c.loop-number.invariant.capacity in
    omega arith
