use Rattle.std.proofs.Common.{length, ◌-◌}
use Rattle.perm_parse.specs.ParserResults.{Onward}
use Rattle.perm_parse.specs.MemberResults.{ClassesRead}
use Rattle.perm_parse.proofs.parser.Parser.classes.Given as goal

abbrev pub invariant-classes : goal.invariant-classes
invariant-classes l = record {
  onward : Onward l.fn.self l.self;
  reads : ClassesRead l.fn.self l.self;
}

abbrev pub decreases-classes : goal.decreases-classes
decreases-classes l = length l.self.tokens.now - l.self.at
