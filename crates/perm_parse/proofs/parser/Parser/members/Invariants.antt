use Rattle.std.proofs.Common.{◌≡◌, length, ◌-◌}
use Rattle.perm_tree.specs.Places.{ClassPlaced}
use Rattle.perm_parse.specs.ParserResults.{Onward}
use Rattle.perm_parse.specs.MemberResults.{MembersPartRead}
use Rattle.perm_parse.proofs.parser.Parser.members.Given as goal

abbrev pub invariant-members : goal.invariant-members
invariant-members l = record {
  onward : Onward l.fn.self l.self;
  name : l.class.name ≡ l.fn.name;
  placed : ClassPlaced (length l.self.program.exprs) (length l.self.program.stmts) l.class;
  reads : MembersPartRead l.fn.self l.self l.class;
}

abbrev pub decreases-members : goal.decreases-members
decreases-members l = length l.self.tokens.now - l.self.at
