use Rattle.std.proofs.lemmas.Result.{err_from_is_err_and}
use Rattle.perm_parse.proofs.Descent.VariableValues.{consumed-no-name, consumed-no-end, consumed-ok, taken-no-member, taken-no-end, taken-ok}
use Rattle.perm_parse.proofs.parser.Parser.consumed_value.Goals as goal

pub returns-in_err-token-clause-reads : goal.returns-in_err-token-clause-reads
returns-in_err-token-clause-reads c =
    let r = c.from_residual-in_err-token in
    let p = err_from_is_err_and r.result r.ensures.1 in
    rw (p.1, p.2) (consumed-no-name c.args.self.now c.expect.new.self c.variable.new.self c.args.depth c.in_ok-_word._word c.in_err-token.field-0.0 c.requires.depth c.in_ok-_word.ensures.expected c.in_err-token.ensures.expected)

pub returns-in_err-member-clause-reads : goal.returns-in_err-member-clause-reads
returns-in_err-member-clause-reads c =
    let r = c.from_residual-in_err-member in
    let p = err_from_is_err_and r.result r.ensures.1 in
    rw (p.1, p.2) (taken-no-member c.args.self.now c.expect.new.self c.variable.new.self c.var.new.self c.expect-then-next_is.new.self c.expect-then-next_is-2.new.self c.args.depth c.in_ok-_word._word c.in_ok-token.token c.in_ok-_dot._dot c.in_ok-name.name c.in_err-member.field-0.0 c.requires.depth c.in_ok-_word.ensures.expected c.in_ok-token.ensures.expected c.in_ok-name.ensures.named c.in_ok-_dot.ensures.expected c.in_err-member.ensures.expected)

pub returns-in_err-end-clause-reads : goal.returns-in_err-end-clause-reads
returns-in_err-end-clause-reads c =
    let r = c.from_residual-in_err-end in
    let p = err_from_is_err_and r.result r.ensures.1 in
    rw (p.1, p.2) (taken-no-end c.args.self.now c.expect.new.self c.variable.new.self c.var.new.self c.expect-then-next_is.new.self c.expect-then-next_is-2.new.self c.ident.new.self c.expect-then-next_is-3.new.self c.args.depth c.in_ok-_word._word c.in_ok-token.token c.in_ok-_dot._dot c.in_ok-member.member c.in_ok-name.name c.in_ok-field.field c.in_err-end.field-0.0 c.requires.depth c.in_ok-_word.ensures.expected c.in_ok-token.ensures.expected c.in_ok-name.ensures.named c.in_ok-_dot.ensures.expected c.in_ok-member.ensures.expected c.in_ok-field.ensures.named c.in_err-end.ensures.expected)

pub returns-then-next_is-clause-reads : goal.returns-then-next_is-clause-reads
returns-then-next_is-clause-reads c = taken-ok c.args.self.now c.expect.new.self c.variable.new.self c.var.new.self c.expect-then-next_is.new.self c.expect-then-next_is-2.new.self c.ident.new.self c.expect-then-next_is-3.new.self c.args.depth c.in_ok-_word._word c.in_ok-token.token c.in_ok-_dot._dot c.in_ok-member.member c.in_ok-end.end c.in_ok-name.name c.in_ok-field.field c.requires.depth c.in_ok-_word.ensures.expected c.in_ok-token.ensures.expected c.in_ok-name.ensures.named c.in_ok-_dot.ensures.expected c.in_ok-member.ensures.expected c.in_ok-field.ensures.named c.in_ok-end.ensures.expected

pub returns-in_err-last-clause-reads : goal.returns-in_err-last-clause-reads
returns-in_err-last-clause-reads c =
    let r = c.from_residual-in_err-last in
    let p = err_from_is_err_and r.result r.ensures.1 in
    rw (p.1, p.2) (consumed-no-end c.args.self.now c.expect.new.self c.variable.new.self c.var.new.self c.expect-2.new.self c.args.depth c.in_ok-_word._word c.in_ok-token.token c.in_ok-name.name c.in_err-last.field-0.0 c.requires.depth c.in_ok-_word.ensures.expected c.in_ok-token.ensures.expected c.in_ok-name.ensures.named c.if-next_is.ensures.no c.in_err-last.ensures.expected)

pub returns-clause-reads : goal.returns-clause-reads
returns-clause-reads c = consumed-ok c.args.self.now c.expect.new.self c.variable.new.self c.var.new.self c.expect-2.new.self c.args.depth c.in_ok-_word._word c.in_ok-token.token c.in_ok-last.last c.in_ok-name.name c.requires.depth c.in_ok-_word.ensures.expected c.in_ok-token.ensures.expected c.in_ok-name.ensures.named c.in_ok-last.ensures.expected
