use Rattle.std.proofs.Common.{length, ◌-◌}
use Rattle.perm_tree.specs.Places.{ArgsPlaced}
use Rattle.perm_parse.specs.ParserResults.{ArgsPartRead, Onward}
use Rattle.perm_parse.proofs.parser.Parser.args.Given as goal

abbrev pub invariant-arguments : goal.invariant-arguments
invariant-arguments l = record {
  onward : Onward l.fn.self l.self;
  placed : ArgsPlaced (length l.self.program.exprs) l.list;
  reads : ArgsPartRead l.depth l.fn.self l.self l.list;
}

abbrev pub decreases-arguments : goal.decreases-arguments
decreases-arguments l = length l.self.tokens.now - l.self.at
