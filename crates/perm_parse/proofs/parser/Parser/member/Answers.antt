use Rattle.std.proofs.lemmas.Result.{err_from_is_err_and}
use Rattle.perm_parse.proofs.Descent.ClassParts.{on-ok, member-no-decl, member-no-method, member-no-end, method-added, field-added, method-placed, field-placed}
use Rattle.perm_parse.proofs.Descent.TokenSteps.{onward-via}
use Rattle.perm_parse.proofs.parser.Parser.member.Goals as goal

pub returns-in_err-head-clause-reads : goal.returns-in_err-head-clause-reads
returns-in_err-head-clause-reads c =
    let r = c.from_residual in
    let p = err_from_is_err_and r.result r.ensures.1 in
    rw (p.1, p.2) (member-no-decl c.args.self.now c.decl.new.self c.args.class.now c.args.class.now c.in_err-head.field-0.0 c.requires.starts c.in_err-head.ensures.reads)

pub returns-in_err-method-clause-reads : goal.returns-in_err-method-clause-reads
returns-in_err-method-clause-reads c =
    let r = c.from_residual-in_err-method in
    let p = err_from_is_err_and r.result r.ensures.1 in
    rw (p.1, p.2) (member-no-method c.args.self.now c.decl.new.self c.method.new.self c.args.class.now c.args.class.now c.in_ok-head.head c.in_err-method.field-0.0 c.requires.starts c.in_ok-head.ensures.reads c.in_err-method.ensures.reads)

pub returns-in_err-_end-clause-reads : goal.returns-in_err-_end-clause-reads
returns-in_err-_end-clause-reads c =
    let r = c.from_residual-in_err-_end in
    let p = err_from_is_err_and r.result r.ensures.1 in
    rw (p.1, p.2) (member-no-end c.args.self.now c.decl.new.self c.expect.new.self c.args.class.now c.args.class.now c.in_ok-head.head c.in_err-_end.field-0.0 c.requires.starts c.in_ok-head.ensures.reads c.if-next_is.ensures.no c.in_err-_end.ensures.expected)

pub returns-in_ok-method-clause-reads : goal.returns-in_ok-method-clause-reads
returns-in_ok-method-clause-reads c =
    method-added c.args.self.now c.decl.new.self c.method.new.self c.args.class.now c.append.new.list c.in_ok-head.head c.in_ok-method.method c.append.result
    c.in_ok-head.ensures.onward.text c.requires.starts c.in_ok-head.ensures.reads c.in_ok-method.ensures.reads c.append.ensures.ok c.append.ensures.err

pub returns-in_ok-method-clause-placed : goal.returns-in_ok-method-clause-placed
returns-in_ok-method-clause-placed c =
    let on = onward-via c.args.self.now c.decl.new.self c.method.new.self c.in_ok-head.ensures.onward c.in_ok-method.ensures.onward in
    on-ok c.append.result c.append.ensures.ok (λ e. method-placed _ _ _ _ c.args.class.now c.append.new.list c.in_ok-method.method on.exprs on.stmts e c.requires.placed c.in_ok-method.ensures.placed)

pub returns-in_ok-_end-clause-reads : goal.returns-in_ok-_end-clause-reads
returns-in_ok-_end-clause-reads c =
    let r = c.append-else-next_is in
    field-added c.args.self.now c.decl.new.self c.expect.new.self c.args.class.now r.new.list c.in_ok-head.head c.in_ok-_end._end r.result
    c.requires.starts c.in_ok-head.ensures.reads c.in_ok-_end.ensures.expected r.ensures.ok r.ensures.err

pub returns-in_ok-_end-clause-placed : goal.returns-in_ok-_end-clause-placed
returns-in_ok-_end-clause-placed c =
    let r = c.append-else-next_is in
    let on = onward-via c.args.self.now c.decl.new.self c.expect.new.self c.in_ok-head.ensures.onward c.in_ok-_end.ensures.onward in
    on-ok r.result r.ensures.ok (λ e. field-placed _ _ _ _ c.args.class.now r.new.list on.exprs on.stmts c.requires.placed)
