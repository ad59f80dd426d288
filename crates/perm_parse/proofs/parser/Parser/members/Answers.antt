use Rattle.std.proofs.Common.{◌∙◌}
use Rattle.perm_parse.proofs.Descent.ClassParts.{members-more, members-end}
use Rattle.perm_parse.proofs.Descent.TokenSteps.{onward-via}
use Rattle.perm_parse.proofs.parser.Parser.members.Goals as goal

pub members-preserved : goal.members-preserved
members-preserved c =
    let i = c.members.invariant in
    let r = c.in_ok-member.ensures in
    record {
      onward = onward-via c.args.self.now c.members.self c.member.new.self i.onward r.onward;
      name = r.reads.same ∙ i.name;
      placed = r.placed;
      reads = members-more c.args.self.now c.members.self c.member.new.self c.members.class c.member.new.class i.onward.text i.reads r.reads;
    }

pub returns-clause-reads : goal.returns-clause-reads
returns-clause-reads c = members-end c.args.self.now c.members.self c.expect.new.self c.members.class c.in_ok-_closing._closing c.members.invariant.reads c.in_ok-_closing.ensures.expected
