use Rattle.std.proofs.lemmas.Result.{err_from_is_err_and}
use Rattle.perm_parse.proofs.Descent.Types.{object-missing, object-ok}
use Rattle.perm_parse.proofs.parser.Parser.shape.Goals as goal

pub returns-in_err-token-clause-reads : goal.returns-in_err-token-clause-reads
returns-in_err-token-clause-reads c =
    let p = err_from_is_err_and c.from_residual.result c.from_residual.ensures.1 in
    rw (p.1, p.2) (object-missing c.args.self.now c.expect.new.self c.args.depth c.args.perm c.in_err-token.field-0.0 c.if-next_is.ensures.no c.in_err-token.ensures.expected)

pub returns-clause-reads : goal.returns-clause-reads
returns-clause-reads c =
    object-ok c.args.self.now c.expect.new.self c.ident.new.self c.mention.new.self c.args.depth c.args.perm c.in_ok-token.token c.in_ok-name.name c.requires c.in_ok-token.ensures.expected c.in_ok-name.ensures.named c.in_ok-mention.ensures.mentioned
