use Rattle.perm_tree.proofs.Pushes.{all_more}
use Rattle.perm_parse.proofs.Descent.Methods.{method-ok}
use Rattle.perm_parse.proofs.parser.Parser.method.Goals as goal

pub returns-clause-reads : goal.returns-clause-reads
returns-clause-reads c =
    method-ok c.args.self.now c.signature.new.self c.stmts.new.self c.returned.new.self c.args.head c.in_ok-signature.signature c.in_ok-stmts.stmts c.in_ok-returned.returned
    c.in_ok-signature.ensures.onward.text c.in_ok-stmts.ensures.onward.text c.in_ok-signature.ensures.reads c.in_ok-stmts.ensures.reads c.in_ok-returned.ensures.reads

pub returns-clause-placed : goal.returns-clause-placed
returns-clause-placed c = (all_more _ _ c.in_ok-stmts.stmts c.in_ok-returned.ensures.onward.stmts c.in_ok-stmts.ensures.below, c.in_ok-returned.ensures.placed)
