use Rattle.std.proofs.lemmas.Result.{err_from_is_err_and}
use Rattle.perm_parse.proofs.Descent.Parameters.{decl-no-name, decl-ok}
use Rattle.perm_parse.proofs.parser.Parser.decl.Goals as goal

pub returns-in_err-token-clause-reads : goal.returns-in_err-token-clause-reads
returns-in_err-token-clause-reads c =
    let r = c.from_residual-in_err-token in
    let p = err_from_is_err_and r.result r.ensures.1 in
    rw (p.1, p.2) (decl-no-name c.args.self.now c.ty.new.self c.expect.new.self c.args.depth c.in_ok-ty.ty c.in_err-token.field-0.0 c.in_ok-ty.ensures.reads c.in_err-token.ensures.expected)

pub returns-clause-reads : goal.returns-clause-reads
returns-clause-reads c =
    decl-ok c.args.self.now c.ty.new.self c.expect.new.self c.ident.new.self c.args.depth c.in_ok-ty.ty c.in_ok-token.token c.in_ok-name.name c.requires c.in_ok-ty.ensures.onward.text c.in_ok-ty.ensures.reads c.in_ok-token.ensures.expected c.in_ok-name.ensures.named
