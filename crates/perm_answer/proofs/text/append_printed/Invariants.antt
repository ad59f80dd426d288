use Rattle.std.proofs.Common.{◌≡◌, ◌≤◌, ◌++◌, take, vec_capacity}
use Rattle.perm_answer.specs.Answers.{printed_text}
use Rattle.perm_answer.proofs.text.append_printed.Given as goal

abbrev pub invariant-loop-number : goal.invariant-loop-number
invariant-loop-number l = record {
  items : l.text.items ≡ l.fn.text.items ++ printed_text (take l.number-index l.printed);
  capacity : vec_capacity l.fn.text ≤ vec_capacity l.text;
}
