use Rattle.perm_parse.proofs.Descent.Targets.{this-alone}
use Rattle.perm_parse.proofs.parser.Parser.this_stmt.Goals as goal

pub returns-clause-reads : goal.returns-clause-reads
returns-clause-reads c = rw c.unexpected.ensures (this-alone c.args.self.now c.expect.new.self c.args.depth c.in_ok-_word._word c.requires.depth c.if-second_is.ensures.no c.if-second_is-2.ensures.no c.in_ok-_word.ensures.expected)
