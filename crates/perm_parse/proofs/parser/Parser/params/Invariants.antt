use Rattle.std.proofs.Common.{length, ◌-◌}
use Rattle.perm_parse.specs.ParserResults.{Onward}
use Rattle.perm_parse.specs.MemberResults.{ParamsPartRead}
use Rattle.perm_parse.proofs.parser.Parser.params.Given as goal

abbrev pub invariant-params : goal.invariant-params
invariant-params l = record {
  onward : Onward l.fn.self l.self;
  reads : ParamsPartRead l.fn.self l.self l.list;
}

abbrev pub decreases-params : goal.decreases-params
decreases-params l = length l.self.tokens.now - l.self.at
