use Rattle.perm_parse.proofs.Descent.NameNumbers.{known-is}
use Rattle.perm_parse.proofs.parser.Parser.known.Goals as goal

pub returns : goal.returns
returns c = known-is c.args.name.now c.args.self.now.names.keys c.args.self.now.program.names c.get_index_of.result c.get_index_of.ensures.index c.args.self.now.indexed
