use Rattle.std.proofs.Common.{◌+◌, arith}
use Rattle.perm_lex.proofs.Digits.{front_value, value_more}
use Rattle.perm_lex.proofs.lexeme.value.Goals as goal

pub returns-then-value-digit : goal.returns-then-value-digit
returns-then-value-digit c =
    let more = value_more c.args.digits.now c.loop-byte.byte-index c.loop-byte-test.true c.requires in
    let le = front_value (c.loop-byte.byte-index + 1) c.args.digits.now in
    let told = c.loop-byte.invariant.told in
    omega arith

pub loop-byte-preserved : goal.loop-byte-preserved
loop-byte-preserved c =
    let more = value_more c.args.digits.now c.loop-byte.byte-index c.loop-byte-test.true c.requires in
    let told = c.loop-byte.invariant.told in
    record { told = omega arith; small = omega arith }
