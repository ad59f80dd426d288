use Rattle.std.proofs.Common.{refl}
use Rattle.std.proofs.lemmas.Result.{err_from_is_err_and}
use Rattle.perm_parse.proofs.Descent.VariableValues.{var-missed}
use Rattle.perm_parse.proofs.Descent.MemberValues.{MemberPath, dot-missed}
use Rattle.perm_parse.proofs.Descent.HeapWrites.{no-member, field-no-equals, field-no-value, field-is}
use Rattle.perm_parse.proofs.Descent.CallStatements.{call-not-opened, call-args, call-is}
use Rattle.perm_parse.proofs.parser.Parser.member_stmt.Goals as goal

pub returns-in_err-token-clause-reads : goal.returns-in_err-token-clause-reads
returns-in_err-token-clause-reads c = absurd (var-missed c.args.self.now c.variable.new.self c.in_err-token.field-0.0 c.requires.next c.in_err-token.ensures.expected)

pub returns-in_err-_dot-clause-reads : goal.returns-in_err-_dot-clause-reads
returns-in_err-_dot-clause-reads c = absurd (dot-missed c.args.self.now c.variable.new.self c.var.new.self c.expect.new.self c.in_ok-token.token c.in_ok-on.on c.in_err-_dot.field-0.0 c.requires.dot c.in_ok-token.ensures.expected c.in_ok-on.ensures.named c.in_err-_dot.ensures.expected)

pub returns-in_err-member-clause-reads : goal.returns-in_err-member-clause-reads
returns-in_err-member-clause-reads c =
    let r = c.from_residual-in_err-member in
    let p = err_from_is_err_and r.result r.ensures.1 in
    rw (p.1, p.2) (no-member c.args.self.now c.variable.new.self c.var.new.self c.expect.new.self c.expect-2.new.self c.args.depth c.in_ok-token.token c.in_ok-_dot._dot c.in_ok-on.on c.in_err-member.field-0.0 c.requires.depth c.in_ok-token.ensures.expected c.in_ok-on.ensures.named c.in_ok-_dot.ensures.expected c.in_err-member.ensures.expected)

pub returns-in_err-_opening-clause-reads : goal.returns-in_err-_opening-clause-reads
returns-in_err-_opening-clause-reads c =
    let r = c.from_residual-in_err-_opening in
    let p = err_from_is_err_and r.result r.ensures.1 in
    let path : MemberPath c.args.self.now c.variable.new.self c.var.new.self c.expect.new.self c.expect-2.new.self c.ident.new.self c.in_ok-token.token c.in_ok-_dot._dot c.in_ok-member.member c.in_ok-on.on c.in_ok-name.name = record { receiver = c.in_ok-token.ensures.expected; variable = c.in_ok-on.ensures.named; dot_next = c.in_ok-_dot.ensures.expected; member_next = c.in_ok-member.ensures.expected; name = c.in_ok-name.ensures.named } in
    rw (p.1, p.2) (call-not-opened c.args.self.now c.variable.new.self c.var.new.self c.expect.new.self c.expect-2.new.self c.ident.new.self c.open.new.self c.args.depth c.in_ok-token.token c.in_ok-_dot._dot c.in_ok-member.member c.in_ok-on.on c.in_ok-name.name c.in_err-_opening.field-0.0 c.requires.depth path c.if-next_is.ensures.yes c.in_err-_opening.ensures.opened)

pub returns-in_err-args-clause-reads : goal.returns-in_err-args-clause-reads
returns-in_err-args-clause-reads c =
    let r = c.from_residual-in_err-args in
    let p = err_from_is_err_and r.result r.ensures.1 in
    let path : MemberPath c.args.self.now c.variable.new.self c.var.new.self c.expect.new.self c.expect-2.new.self c.ident.new.self c.in_ok-token.token c.in_ok-_dot._dot c.in_ok-member.member c.in_ok-on.on c.in_ok-name.name = record { receiver = c.in_ok-token.ensures.expected; variable = c.in_ok-on.ensures.named; dot_next = c.in_ok-_dot.ensures.expected; member_next = c.in_ok-member.ensures.expected; name = c.in_ok-name.ensures.named } in
    rw (p.1, p.2) (call-args c.args.self.now c.variable.new.self c.var.new.self c.expect.new.self c.expect-2.new.self c.ident.new.self c.open.new.self c.args-then-next_is.new.self c.args.depth c.in_ok-token.token c.in_ok-_dot._dot c.in_ok-member.member c.in_ok-_opening._opening c.in_ok-on.on c.in_ok-name.name c.in_err-args.field-0.0 c.requires.depth path c.in_ok-_opening.ensures.opened c.in_err-args.ensures.reads)

pub returns-then-next_is-clause-reads : goal.returns-then-next_is-clause-reads
returns-then-next_is-clause-reads c =
    let path : MemberPath c.args.self.now c.variable.new.self c.var.new.self c.expect.new.self c.expect-2.new.self c.ident.new.self c.in_ok-token.token c.in_ok-_dot._dot c.in_ok-member.member c.in_ok-on.on c.in_ok-name.name = record { receiver = c.in_ok-token.ensures.expected; variable = c.in_ok-on.ensures.named; dot_next = c.in_ok-_dot.ensures.expected; member_next = c.in_ok-member.ensures.expected; name = c.in_ok-name.ensures.named } in
    call-is c.args.self.now c.variable.new.self c.var.new.self c.expect.new.self c.expect-2.new.self c.ident.new.self c.open.new.self c.args-then-next_is.new.self c.end_stmt.new.self c.args.depth c.in_ok-token.token c.in_ok-_dot._dot c.in_ok-member.member c.in_ok-_opening._opening c.in_ok-on.on c.in_ok-name.name c.in_ok-args.args _ c.end_stmt.result c.requires.depth path c.in_ok-_opening.ensures.opened c.in_ok-args.ensures.reads refl c.end_stmt.ensures.ends

pub returns-in_err-_equals-clause-reads : goal.returns-in_err-_equals-clause-reads
returns-in_err-_equals-clause-reads c =
    let r = c.from_residual-in_err-_equals in
    let p = err_from_is_err_and r.result r.ensures.1 in
    let path : MemberPath c.args.self.now c.variable.new.self c.var.new.self c.expect.new.self c.expect-2.new.self c.ident.new.self c.in_ok-token.token c.in_ok-_dot._dot c.in_ok-member.member c.in_ok-on.on c.in_ok-name.name = record { receiver = c.in_ok-token.ensures.expected; variable = c.in_ok-on.ensures.named; dot_next = c.in_ok-_dot.ensures.expected; member_next = c.in_ok-member.ensures.expected; name = c.in_ok-name.ensures.named } in
    rw (p.1, p.2) (field-no-equals c.args.self.now c.variable.new.self c.var.new.self c.expect.new.self c.expect-2.new.self c.ident.new.self c.expect-3.new.self c.args.depth c.in_ok-token.token c.in_ok-_dot._dot c.in_ok-member.member c.in_ok-on.on c.in_ok-name.name c.in_err-_equals.field-0.0 c.requires.depth path c.if-next_is.ensures.no c.in_err-_equals.ensures.expected)

pub returns-in_err-value-clause-reads : goal.returns-in_err-value-clause-reads
returns-in_err-value-clause-reads c =
    let r = c.from_residual-in_err-value in
    let p = err_from_is_err_and r.result r.ensures.1 in
    let path : MemberPath c.args.self.now c.variable.new.self c.var.new.self c.expect.new.self c.expect-2.new.self c.ident.new.self c.in_ok-token.token c.in_ok-_dot._dot c.in_ok-member.member c.in_ok-on.on c.in_ok-name.name = record { receiver = c.in_ok-token.ensures.expected; variable = c.in_ok-on.ensures.named; dot_next = c.in_ok-_dot.ensures.expected; member_next = c.in_ok-member.ensures.expected; name = c.in_ok-name.ensures.named } in
    rw (p.1, p.2) (field-no-value c.args.self.now c.variable.new.self c.var.new.self c.expect.new.self c.expect-2.new.self c.ident.new.self c.expect-3.new.self c.arg.new.self c.args.depth c.in_ok-token.token c.in_ok-_dot._dot c.in_ok-member.member c.in_ok-_equals._equals c.in_ok-on.on c.in_ok-name.name c.in_err-value.field-0.0 c.requires.depth path c.in_ok-_equals.ensures.expected c.in_err-value.ensures.reads)

pub returns-clause-reads : goal.returns-clause-reads
returns-clause-reads c =
    let path : MemberPath c.args.self.now c.variable.new.self c.var.new.self c.expect.new.self c.expect-2.new.self c.ident.new.self c.in_ok-token.token c.in_ok-_dot._dot c.in_ok-member.member c.in_ok-on.on c.in_ok-name.name = record { receiver = c.in_ok-token.ensures.expected; variable = c.in_ok-on.ensures.named; dot_next = c.in_ok-_dot.ensures.expected; member_next = c.in_ok-member.ensures.expected; name = c.in_ok-name.ensures.named } in
    field-is c.args.self.now c.variable.new.self c.var.new.self c.expect.new.self c.expect-2.new.self c.ident.new.self c.expect-3.new.self c.arg.new.self c.end_stmt-2.new.self c.args.depth c.in_ok-token.token c.in_ok-_dot._dot c.in_ok-member.member c.in_ok-_equals._equals c.in_ok-on.on c.in_ok-name.name c.in_ok-value.value c.end_stmt-2.result c.requires.depth path c.in_ok-_equals.ensures.expected c.in_ok-value.ensures.reads c.end_stmt-2.ensures.ends
