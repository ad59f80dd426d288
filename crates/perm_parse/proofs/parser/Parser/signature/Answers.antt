use Rattle.std.proofs.lemmas.Result.{err_from_is_err_and}
use Rattle.perm_parse.proofs.Descent.Methods.{signature-not-opened, signature-params, signature-perm, signature-no-body, signature-ok}
use Rattle.perm_parse.proofs.parser.Parser.signature.Goals as goal

pub returns-in_err-_opening-clause-reads : goal.returns-in_err-_opening-clause-reads
returns-in_err-_opening-clause-reads c =
    let r = c.from_residual in
    let p = err_from_is_err_and r.result r.ensures.1 in
    rw (p.1, p.2) (signature-not-opened c.args.self.now c.open.new.self c.in_err-_opening.field-0.0 c.requires c.in_err-_opening.ensures.opened)

pub returns-in_err-params-clause-reads : goal.returns-in_err-params-clause-reads
returns-in_err-params-clause-reads c =
    let r = c.from_residual-in_err-params in
    let p = err_from_is_err_and r.result r.ensures.1 in
    rw (p.1, p.2) (signature-params c.args.self.now c.open.new.self c.params.new.self c.in_ok-_opening._opening c.in_err-params.field-0.0 c.in_ok-_opening.ensures.opened c.in_err-params.ensures.reads)

pub returns-in_err-receiver-clause-reads : goal.returns-in_err-receiver-clause-reads
returns-in_err-receiver-clause-reads c =
    let r = c.from_residual-in_err-receiver in
    let p = err_from_is_err_and r.result r.ensures.1 in
    rw (p.1, p.2) (signature-perm c.args.self.now c.open.new.self c.params.new.self c.perm.new.self c.in_ok-_opening._opening c.in_ok-params.params c.in_err-receiver.field-0.0 c.in_ok-_opening.ensures.opened c.in_ok-params.ensures.reads c.in_err-receiver.ensures.expected)

pub returns-in_err-_start-clause-reads : goal.returns-in_err-_start-clause-reads
returns-in_err-_start-clause-reads c =
    let r = c.from_residual-in_err-_start in
    let p = err_from_is_err_and r.result r.ensures.1 in
    rw (p.1, p.2) (signature-no-body c.args.self.now c.open.new.self c.params.new.self c.perm.new.self c.open-2.new.self c.in_ok-_opening._opening c.in_ok-params.params c.in_ok-receiver.receiver c.in_err-_start.field-0.0
    c.in_ok-_opening.ensures.opened c.in_ok-params.ensures.reads c.in_ok-receiver.ensures.expected c.in_err-_start.ensures.opened)

pub returns-clause-reads : goal.returns-clause-reads
returns-clause-reads c =
    signature-ok c.args.self.now c.open.new.self c.params.new.self c.perm.new.self c.open-2.new.self c.in_ok-_opening._opening c.in_ok-_start._start c.in_ok-params.params c.in_ok-receiver.receiver
    c.in_ok-_opening.ensures.opened c.in_ok-params.ensures.reads c.in_ok-receiver.ensures.expected c.in_ok-_start.ensures.opened
