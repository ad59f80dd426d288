use Rattle.std.proofs.lemmas.Result.{err_from_is_err_and}
use Rattle.perm_parse.proofs.Descent.VariableValues.{var-missed}
use Rattle.perm_parse.proofs.Descent.MemberValues.{MemberPath, dot-missed, no-member, field-no-end, field-ok, call-not-opened, call-args, call-no-end, call-ok}
use Rattle.perm_parse.proofs.parser.Parser.member_value.Goals as goal

pub returns-in_err-token-clause-reads : goal.returns-in_err-token-clause-reads
returns-in_err-token-clause-reads c = absurd (var-missed c.args.self.now c.variable.new.self c.in_err-token.field-0.0 c.requires.next c.in_err-token.ensures.expected)

pub returns-in_err-_dot-clause-reads : goal.returns-in_err-_dot-clause-reads
returns-in_err-_dot-clause-reads c = absurd (dot-missed c.args.self.now c.variable.new.self c.var.new.self c.expect.new.self c.in_ok-token.token c.in_ok-on.on c.in_err-_dot.field-0.0 c.requires.dot c.in_ok-token.ensures.expected c.in_ok-on.ensures.named c.in_err-_dot.ensures.expected)

pub returns-in_err-member-clause-reads : goal.returns-in_err-member-clause-reads
returns-in_err-member-clause-reads c =
    let r = c.from_residual-in_err-member in
    let p = err_from_is_err_and r.result r.ensures.1 in
    rw (p.1, p.2) (no-member c.args.self.now c.variable.new.self c.var.new.self c.expect.new.self c.expect-2.new.self c.args.depth c.in_ok-token.token c.in_ok-_dot._dot c.in_ok-on.on c.in_err-member.field-0.0 c.requires.depth c.in_ok-token.ensures.expected c.in_ok-on.ensures.named c.in_ok-_dot.ensures.expected c.in_err-member.ensures.expected)

pub returns-in_err-_opening-clause-reads : goal.returns-in_err-_opening-clause-reads
returns-in_err-_opening-clause-reads c =
    let r = c.from_residual-in_err-_opening in
    let p = err_from_is_err_and r.result r.ensures.1 in
    let path : MemberPath c.args.self.now c.variable.new.self c.var.new.self c.expect.new.self c.expect-2.new.self c.ident.new.self c.in_ok-token.token c.in_ok-_dot._dot c.in_ok-member.member c.in_ok-on.on c.in_ok-name.name = record { receiver = c.in_ok-token.ensures.expected; variable = c.in_ok-on.ensures.named; dot_next = c.in_ok-_dot.ensures.expected; member_next = c.in_ok-member.ensures.expected; name = c.in_ok-name.ensures.named } in
    rw (p.1, p.2) (call-not-opened c.args.self.now c.variable.new.self c.var.new.self c.expect.new.self c.expect-2.new.self c.ident.new.self c.open.new.self c.args.depth c.in_ok-token.token c.in_ok-_dot._dot c.in_ok-member.member c.in_ok-on.on c.in_ok-name.name c.in_err-_opening.field-0.0 c.requires.depth path c.if-next_is.ensures.yes c.in_err-_opening.ensures.opened)

pub returns-in_err-args-clause-reads : goal.returns-in_err-args-clause-reads
returns-in_err-args-clause-reads c =
    let r = c.from_residual-in_err-args in
    let p = err_from_is_err_and r.result r.ensures.1 in
    let path : MemberPath c.args.self.now c.variable.new.self c.var.new.self c.expect.new.self c.expect-2.new.self c.ident.new.self c.in_ok-token.token c.in_ok-_dot._dot c.in_ok-member.member c.in_ok-on.on c.in_ok-name.name = record { receiver = c.in_ok-token.ensures.expected; variable = c.in_ok-on.ensures.named; dot_next = c.in_ok-_dot.ensures.expected; member_next = c.in_ok-member.ensures.expected; name = c.in_ok-name.ensures.named } in
    rw (p.1, p.2) (call-args c.args.self.now c.variable.new.self c.var.new.self c.expect.new.self c.expect-2.new.self c.ident.new.self c.open.new.self c.args-then-next_is.new.self c.args.depth c.in_ok-token.token c.in_ok-_dot._dot c.in_ok-member.member c.in_ok-_opening._opening c.in_ok-on.on c.in_ok-name.name c.in_err-args.field-0.0 c.requires.depth path c.in_ok-_opening.ensures.opened c.in_err-args.ensures.reads)

pub returns-in_err-end-clause-reads : goal.returns-in_err-end-clause-reads
returns-in_err-end-clause-reads c =
    let r = c.from_residual-in_err-end in
    let p = err_from_is_err_and r.result r.ensures.1 in
    let path : MemberPath c.args.self.now c.variable.new.self c.var.new.self c.expect.new.self c.expect-2.new.self c.ident.new.self c.in_ok-token.token c.in_ok-_dot._dot c.in_ok-member.member c.in_ok-on.on c.in_ok-name.name = record { receiver = c.in_ok-token.ensures.expected; variable = c.in_ok-on.ensures.named; dot_next = c.in_ok-_dot.ensures.expected; member_next = c.in_ok-member.ensures.expected; name = c.in_ok-name.ensures.named } in
    rw (p.1, p.2) (call-no-end c.args.self.now c.variable.new.self c.var.new.self c.expect.new.self c.expect-2.new.self c.ident.new.self c.open.new.self c.args-then-next_is.new.self c.expect-then-next_is.new.self c.args.depth c.in_ok-token.token c.in_ok-_dot._dot c.in_ok-member.member c.in_ok-_opening._opening c.in_ok-on.on c.in_ok-name.name c.in_ok-args.args c.in_err-end.field-0.0 c.requires.depth path c.in_ok-_opening.ensures.opened c.in_ok-args.ensures.reads c.in_err-end.ensures.expected)

pub returns-then-next_is-clause-reads : goal.returns-then-next_is-clause-reads
returns-then-next_is-clause-reads c =
    let path : MemberPath c.args.self.now c.variable.new.self c.var.new.self c.expect.new.self c.expect-2.new.self c.ident.new.self c.in_ok-token.token c.in_ok-_dot._dot c.in_ok-member.member c.in_ok-on.on c.in_ok-name.name = record { receiver = c.in_ok-token.ensures.expected; variable = c.in_ok-on.ensures.named; dot_next = c.in_ok-_dot.ensures.expected; member_next = c.in_ok-member.ensures.expected; name = c.in_ok-name.ensures.named } in
    call-ok c.args.self.now c.variable.new.self c.var.new.self c.expect.new.self c.expect-2.new.self c.ident.new.self c.open.new.self c.args-then-next_is.new.self c.expect-then-next_is.new.self c.args.depth c.in_ok-token.token c.in_ok-_dot._dot c.in_ok-member.member c.in_ok-_opening._opening c.in_ok-end.end c.in_ok-on.on c.in_ok-name.name c.in_ok-args.args c.requires.depth path c.in_ok-_opening.ensures.opened c.in_ok-args.ensures.reads c.in_ok-end.ensures.expected

pub returns-in_err-last-clause-reads : goal.returns-in_err-last-clause-reads
returns-in_err-last-clause-reads c =
    let r = c.from_residual-in_err-last in
    let p = err_from_is_err_and r.result r.ensures.1 in
    let path : MemberPath c.args.self.now c.variable.new.self c.var.new.self c.expect.new.self c.expect-2.new.self c.ident.new.self c.in_ok-token.token c.in_ok-_dot._dot c.in_ok-member.member c.in_ok-on.on c.in_ok-name.name = record { receiver = c.in_ok-token.ensures.expected; variable = c.in_ok-on.ensures.named; dot_next = c.in_ok-_dot.ensures.expected; member_next = c.in_ok-member.ensures.expected; name = c.in_ok-name.ensures.named } in
    rw (p.1, p.2) (field-no-end c.args.self.now c.variable.new.self c.var.new.self c.expect.new.self c.expect-2.new.self c.ident.new.self c.expect-3.new.self c.args.depth c.in_ok-token.token c.in_ok-_dot._dot c.in_ok-member.member c.in_ok-on.on c.in_ok-name.name c.in_err-last.field-0.0 c.requires.depth path c.if-next_is.ensures.no c.in_err-last.ensures.expected)

pub returns-clause-reads : goal.returns-clause-reads
returns-clause-reads c =
    let path : MemberPath c.args.self.now c.variable.new.self c.var.new.self c.expect.new.self c.expect-2.new.self c.ident.new.self c.in_ok-token.token c.in_ok-_dot._dot c.in_ok-member.member c.in_ok-on.on c.in_ok-name.name = record { receiver = c.in_ok-token.ensures.expected; variable = c.in_ok-on.ensures.named; dot_next = c.in_ok-_dot.ensures.expected; member_next = c.in_ok-member.ensures.expected; name = c.in_ok-name.ensures.named } in
    field-ok c.args.self.now c.variable.new.self c.var.new.self c.expect.new.self c.expect-2.new.self c.ident.new.self c.expect-3.new.self c.args.depth c.in_ok-token.token c.in_ok-_dot._dot c.in_ok-member.member c.in_ok-last.last c.in_ok-on.on c.in_ok-name.name c.requires.depth path c.in_ok-last.ensures.expected
