use Rattle.std.proofs.lemmas.Result.{err_from_is_err_and}
use Rattle.perm_parse.proofs.Descent.Arguments.{consumed-missing, consumed-ok}
use Rattle.perm_parse.proofs.parser.Parser.consumed.Goals as goal

pub returns-in_err-token-clause-reads : goal.returns-in_err-token-clause-reads
returns-in_err-token-clause-reads c =
    let r = c.from_residual-in_err-token in
    let p = err_from_is_err_and r.result r.ensures.1 in
    rw (p.1, p.2) (consumed-missing c.args.self.now c.expect.new.self c.variable.new.self c.args.depth c.in_ok-_word._word c.in_err-token.field-0.0 c.requires.depth c.in_ok-_word.ensures.expected c.in_err-token.ensures.expected)

pub returns-clause-reads : goal.returns-clause-reads
returns-clause-reads c =
    consumed-ok c.args.self.now c.expect.new.self c.variable.new.self c.var.new.self c.args.depth c.in_ok-_word._word c.in_ok-token.token c.in_ok-name.name c.requires.depth c.in_ok-_word.ensures.expected c.in_ok-token.ensures.expected c.in_ok-name.ensures.named
