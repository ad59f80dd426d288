-- The text of the numbers before one is shorter than the whole by at least the line of that one.
use Rattle.std.proofs.Common.{ℕ, zero, suc, ◌+◌, ◌<◌, ◌≤◌, ℤ, pos, List, [], ◌∷◌, length, get_or, take, arith}
use Rattle.std.proofs.lemmas.List.{length-append}
use Rattle.perm_answer.specs.Answers.{number_line, printed_text}

pub printed_front : (numbers : List ℤ) (i : ℕ) → i < length numbers → length (printed_text (take i numbers)) + length (number_line [] (get_or numbers i (pos 0))) ≤ length (printed_text numbers)
printed_front [] i within = absurd (omega arith)
printed_front (n ∷ ns) zero within = let e = length-append (number_line [] n) (printed_text ns) in omega arith
printed_front (n ∷ ns) (suc i) within =
    let e = length-append (number_line [] n) (printed_text ns) in
    let f = length-append (number_line [] n) (printed_text (take i ns)) in
    let h = printed_front ns i (omega arith) in
    omega arith
