use Rattle.std.proofs.lemmas.Result.{err_from_is_err_and}
use Rattle.perm_parse.proofs.Descent.ClassParts.{ClassPath, class-missing, class-no-name, class-not-opened, class-members, class-added}
use Rattle.perm_parse.proofs.parser.Parser.class.Goals as goal

pub returns-in_err-_word-clause-reads : goal.returns-in_err-_word-clause-reads
returns-in_err-_word-clause-reads c =
    let r = c.from_residual in
    let p = err_from_is_err_and r.result r.ensures.1 in
    rw (p.1, p.2) (class-missing c.args.self.now c.expect.new.self c.in_err-_word.field-0.0 c.requires c.in_err-_word.ensures.expected)

pub returns-in_err-token-clause-reads : goal.returns-in_err-token-clause-reads
returns-in_err-token-clause-reads c =
    let r = c.from_residual-in_err-token in
    let p = err_from_is_err_and r.result r.ensures.1 in
    rw (p.1, p.2) (class-no-name c.args.self.now c.expect.new.self c.expect-2.new.self c.in_ok-_word._word c.in_err-token.field-0.0 c.in_ok-_word.ensures.expected c.in_err-token.ensures.expected)

pub returns-in_err-_opening-clause-reads : goal.returns-in_err-_opening-clause-reads
returns-in_err-_opening-clause-reads c =
    let r = c.from_residual-in_err-_opening in
    let p = err_from_is_err_and r.result r.ensures.1 in
    let path : ClassPath c.args.self.now c.expect.new.self c.expect-2.new.self c.ident.new.self c.in_ok-_word._word c.in_ok-token.token c.in_ok-name.name = record { begins = c.in_ok-_word.ensures.expected; name_next = c.in_ok-token.ensures.expected; numbered = c.in_ok-name.ensures.named } in
    rw (p.1, p.2) (class-not-opened c.args.self.now c.expect.new.self c.expect-2.new.self c.ident.new.self c.open.new.self c.in_ok-_word._word c.in_ok-token.token c.in_ok-name.name c.in_err-_opening.field-0.0 path c.in_err-_opening.ensures.opened)

pub returns-in_err-class-clause-reads : goal.returns-in_err-class-clause-reads
returns-in_err-class-clause-reads c =
    let r = c.from_residual-in_err-class in
    let p = err_from_is_err_and r.result r.ensures.1 in
    let path : ClassPath c.args.self.now c.expect.new.self c.expect-2.new.self c.ident.new.self c.in_ok-_word._word c.in_ok-token.token c.in_ok-name.name = record { begins = c.in_ok-_word.ensures.expected; name_next = c.in_ok-token.ensures.expected; numbered = c.in_ok-name.ensures.named } in
    rw (p.1, p.2) (class-members c.args.self.now c.expect.new.self c.expect-2.new.self c.ident.new.self c.open.new.self c.members.new.self c.in_ok-_word._word c.in_ok-token.token c.in_ok-_opening._opening c.in_ok-name.name c.in_err-class.field-0.0 path c.in_ok-_opening.ensures.opened c.in_err-class.ensures.reads)

pub returns-clause-reads : goal.returns-clause-reads
returns-clause-reads c =
    let path : ClassPath c.args.self.now c.expect.new.self c.expect-2.new.self c.ident.new.self c.in_ok-_word._word c.in_ok-token.token c.in_ok-name.name = record { begins = c.in_ok-_word.ensures.expected; name_next = c.in_ok-token.ensures.expected; numbered = c.in_ok-name.ensures.named } in
    class-added c.args.self.now c.expect.new.self c.expect-2.new.self c.ident.new.self c.open.new.self c.members.new.self c.add_class.new.self c.in_ok-_word._word c.in_ok-token.token c.in_ok-_opening._opening c.in_ok-name.name c.in_ok-class.class c.add_class.result
    path c.in_ok-_opening.ensures.opened c.in_ok-class.ensures.reads c.in_ok-class.ensures.name c.add_class.ensures.pushed
