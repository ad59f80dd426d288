use Rattle.std.proofs.lemmas.Result.{err_from_is_err_and}
use Rattle.perm_parse.proofs.Descent.ConsumedReceivers.{GivenPath, given-no-name, given-not-closed, given-no-dot, given-no-member, given-not-opened, given-args, given-ok}
use Rattle.perm_parse.proofs.parser.Parser.given_call.Goals as goal

pub returns-in_err-token-clause-reads : goal.returns-in_err-token-clause-reads
returns-in_err-token-clause-reads c =
    let r = c.from_residual in
    let p = err_from_is_err_and r.result r.ensures.1 in
    rw (p.1, p.2) (given-no-name c.args.self.now c.variable.new.self c.args.depth c.in_err-token.field-0.0 c.in_err-token.ensures.expected)

pub returns-in_err-_closing-clause-reads : goal.returns-in_err-_closing-clause-reads
returns-in_err-_closing-clause-reads c =
    let r = c.from_residual-in_err-_closing in
    let p = err_from_is_err_and r.result r.ensures.1 in
    rw (p.1, p.2) (given-not-closed c.args.self.now c.variable.new.self c.var.new.self c.expect.new.self c.args.depth c.in_ok-token.token c.in_ok-on.on c.in_err-_closing.field-0.0 c.requires c.in_ok-token.ensures.expected c.in_ok-on.ensures.named c.in_err-_closing.ensures.expected)

pub returns-in_err-_dot-clause-reads : goal.returns-in_err-_dot-clause-reads
returns-in_err-_dot-clause-reads c =
    let r = c.from_residual-in_err-_dot in
    let p = err_from_is_err_and r.result r.ensures.1 in
    rw (p.1, p.2) (given-no-dot c.args.self.now c.variable.new.self c.var.new.self c.expect.new.self c.expect-2.new.self c.args.depth c.in_ok-token.token c.in_ok-_closing._closing c.in_ok-on.on c.in_err-_dot.field-0.0 c.requires c.in_ok-token.ensures.expected c.in_ok-on.ensures.named c.in_ok-_closing.ensures.expected c.in_err-_dot.ensures.expected)

pub returns-in_err-member-clause-reads : goal.returns-in_err-member-clause-reads
returns-in_err-member-clause-reads c =
    let r = c.from_residual-in_err-member in
    let p = err_from_is_err_and r.result r.ensures.1 in
    rw (p.1, p.2) (given-no-member c.args.self.now c.variable.new.self c.var.new.self c.expect.new.self c.expect-2.new.self c.expect-3.new.self c.args.depth c.in_ok-token.token c.in_ok-_closing._closing c.in_ok-_dot._dot c.in_ok-on.on c.in_err-member.field-0.0 c.requires c.in_ok-token.ensures.expected c.in_ok-on.ensures.named c.in_ok-_closing.ensures.expected c.in_ok-_dot.ensures.expected c.in_err-member.ensures.expected)

pub returns-in_err-_opening-clause-reads : goal.returns-in_err-_opening-clause-reads
returns-in_err-_opening-clause-reads c =
    let r = c.from_residual-in_err-_opening in
    let p = err_from_is_err_and r.result r.ensures.1 in
    let path : GivenPath c.args.self.now c.variable.new.self c.var.new.self c.expect.new.self c.expect-2.new.self c.expect-3.new.self c.ident.new.self c.in_ok-token.token c.in_ok-_closing._closing c.in_ok-_dot._dot c.in_ok-member.member c.in_ok-on.on c.in_ok-method.method = record { receiver = c.in_ok-token.ensures.expected; variable = c.in_ok-on.ensures.named; closed = c.in_ok-_closing.ensures.expected; dot_next = c.in_ok-_dot.ensures.expected; member_next = c.in_ok-member.ensures.expected; name = c.in_ok-method.ensures.named } in
    rw (p.1, p.2) (given-not-opened c.args.self.now c.variable.new.self c.var.new.self c.expect.new.self c.expect-2.new.self c.expect-3.new.self c.ident.new.self c.open.new.self c.args.depth c.in_ok-token.token c.in_ok-_closing._closing c.in_ok-_dot._dot c.in_ok-member.member c.in_ok-on.on c.in_ok-method.method c.in_err-_opening.field-0.0 c.requires path c.in_err-_opening.ensures.opened)

pub returns-in_err-list-clause-reads : goal.returns-in_err-list-clause-reads
returns-in_err-list-clause-reads c =
    let r = c.from_residual-in_err-list in
    let p = err_from_is_err_and r.result r.ensures.1 in
    let path : GivenPath c.args.self.now c.variable.new.self c.var.new.self c.expect.new.self c.expect-2.new.self c.expect-3.new.self c.ident.new.self c.in_ok-token.token c.in_ok-_closing._closing c.in_ok-_dot._dot c.in_ok-member.member c.in_ok-on.on c.in_ok-method.method = record { receiver = c.in_ok-token.ensures.expected; variable = c.in_ok-on.ensures.named; closed = c.in_ok-_closing.ensures.expected; dot_next = c.in_ok-_dot.ensures.expected; member_next = c.in_ok-member.ensures.expected; name = c.in_ok-method.ensures.named } in
    rw (p.1, p.2) (given-args c.args.self.now c.variable.new.self c.var.new.self c.expect.new.self c.expect-2.new.self c.expect-3.new.self c.ident.new.self c.open.new.self c.args-2.new.self c.args.depth c.in_ok-token.token c.in_ok-_closing._closing c.in_ok-_dot._dot c.in_ok-member.member c.in_ok-_opening._opening c.in_ok-on.on c.in_ok-method.method c.in_err-list.field-0.0 c.requires path c.in_ok-_opening.ensures.opened c.in_err-list.ensures.reads)

pub returns-clause-reads : goal.returns-clause-reads
returns-clause-reads c =
    let path : GivenPath c.args.self.now c.variable.new.self c.var.new.self c.expect.new.self c.expect-2.new.self c.expect-3.new.self c.ident.new.self c.in_ok-token.token c.in_ok-_closing._closing c.in_ok-_dot._dot c.in_ok-member.member c.in_ok-on.on c.in_ok-method.method = record { receiver = c.in_ok-token.ensures.expected; variable = c.in_ok-on.ensures.named; closed = c.in_ok-_closing.ensures.expected; dot_next = c.in_ok-_dot.ensures.expected; member_next = c.in_ok-member.ensures.expected; name = c.in_ok-method.ensures.named } in
    given-ok c.args.self.now c.variable.new.self c.var.new.self c.expect.new.self c.expect-2.new.self c.expect-3.new.self c.ident.new.self c.open.new.self c.args-2.new.self c.args.depth c.in_ok-token.token c.in_ok-_closing._closing c.in_ok-_dot._dot c.in_ok-member.member c.in_ok-_opening._opening c.in_ok-on.on c.in_ok-method.method c.in_ok-list.list c.requires path c.in_ok-_opening.ensures.opened c.in_ok-list.ensures.reads
