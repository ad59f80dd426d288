use Rattle.std.proofs.Common.{◌+◌, ◌<◌, length, ◌-◌, ◌*◌, Ok}
use Rattle.perm_parse.specs.ParserResults.{ReadsExpr, IsClosed, Onward}
use Rattle.perm_parse.specs.Parses.{deepest}
use Rattle.perm_parse.proofs.parser.Parser.+expressions.Given as goal

abbrev pub decreases-binary : goal.decreases-binary
decreases-binary l = (deepest + 1 - l.depth) * 16 + (l.loosest + 3)

abbrev pub decreases-unary : goal.decreases-unary
decreases-unary l = (deepest + 1 - l.depth) * 16 + 2

abbrev pub decreases-prefixed : goal.decreases-prefixed
decreases-prefixed l = (deepest + 1 - l.depth) * 16 + 1

abbrev pub decreases-parens : goal.decreases-parens
decreases-parens l = (deepest + 1 - l.depth) * 16 + 1

abbrev pub invariant-binary-operators : goal.invariant-binary-operators
invariant-binary-operators l = record {
  onward : Onward l.fn.self l.self;
  below : l.left < length l.self.program.exprs;
  closed : IsClosed (l.loosest - 1) l.self;
  reads : ReadsExpr l.loosest l.depth l.fn.self l.self (Ok l.left);
}

abbrev pub decreases-binary-operators : goal.decreases-binary-operators
decreases-binary-operators l = length l.self.tokens.now - l.self.at
