use Rattle.std.proofs.Common.{subst, Ok}
use Rattle.perm_parse.specs.ParserResults.{TakesToken}
use Rattle.perm_parse.proofs.Descent.Types.{reference-is}
use Rattle.perm_parse.proofs.parser.Parser.reference.Goals as goal

pub returns-clause-reads : goal.returns-clause-reads
returns-clause-reads c =
    let expected = subst (λ x. TakesToken x c.args.self.now c.expect.new.self (Ok c.in_ok-_word._word)) c.perm_word.ensures c.in_ok-_word.ensures.expected in
    reference-is c.args.self.now c.expect.new.self c.shape.new.self c.args.depth c.args.perm c.in_ok-_word._word c.shape.result c.requires.depth expected c.shape.ensures.reads
