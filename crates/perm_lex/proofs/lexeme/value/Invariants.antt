use Rattle.std.proofs.Common.{◌≡◌, ◌≤◌, take}
use Rattle.std.specs.Str.Parse.{digits_value}
use Rattle.perm_lex.specs.Tokens.{largest}
use Rattle.perm_lex.proofs.lexeme.value.Given as goal

abbrev pub invariant-loop-byte : goal.invariant-loop-byte
invariant-loop-byte l = record { told : l.value ≡ digits_value 10 (take l.byte-index l.digits); small : l.value ≤ largest }
