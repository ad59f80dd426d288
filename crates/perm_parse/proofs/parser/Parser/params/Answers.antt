use Rattle.std.proofs.Common.{◌≡◌, ◌++◌, ◌∷◌, [], List, ◌∙◌, ap}
use Rattle.std.proofs.lemmas.Result.{err_from_is_err_and}
use Rattle.perm_tree.specs.declared.ast.FieldDecl.{FieldDecl}
use Rattle.perm_parse.proofs.Descent.TokenSteps.{onward-via}
use Rattle.perm_parse.proofs.Descent.Parameters.{params-none, first-err, first-ok, more-err, more-ok, end-err, end-ok}
use Rattle.perm_parse.proofs.parser.Parser.params.Goals as goal

pub returns-then-next_is-clause-reads : goal.returns-then-next_is-clause-reads
returns-then-next_is-clause-reads c = params-none c.args.self.now c.expect.new.self c.in_ok-_closing._closing c.new.result c.in_ok-_closing.ensures.expected c.new.ensures

pub returns-in_err-first-clause-reads : goal.returns-in_err-first-clause-reads
returns-in_err-first-clause-reads c =
    let r = c.from_residual-in_err-first in
    let p = err_from_is_err_and r.result r.ensures.1 in
    rw (p.1, p.2) (first-err c.args.self.now c.decl.new.self c.in_err-first.field-0.0 c.if-next_is.ensures.no c.in_err-first.ensures.reads)

pub params-init : goal.params-init
params-init c =
    let list : c.append.new.list ≡ c.in_ok-first.first ∷ [] = c.in_ok-append.ensures.ok ∙ ap (λ (l : List FieldDecl). l ++ c.in_ok-first.first ∷ []) c.new-list.ensures in
    record {
      onward = c.in_ok-first.ensures.onward;
      reads = first-ok c.args.self.now c.decl.new.self c.in_ok-first.first c.append.new.list c.if-next_is.ensures.no c.in_ok-first.ensures.reads list;
    }

pub returns-in_err-more-clause-reads : goal.returns-in_err-more-clause-reads
returns-in_err-more-clause-reads c =
    let r = c.from_residual-in_err-more in
    let p = err_from_is_err_and r.result r.ensures.1 in
    rw (p.1, p.2) (more-err c.args.self.now c.params.self c.expect-in-params.new.self c.decl-in-params.new.self c.params.list c.in_ok-_comma._comma c.in_err-more.field-0.0
    c.params.invariant.reads c.in_ok-_comma.ensures.expected c.in_err-more.ensures.reads)

pub params-preserved : goal.params-preserved
params-preserved c =
    let i = c.params.invariant in
    let on = onward-via c.params.self c.expect-in-params.new.self c.decl-in-params.new.self c.in_ok-_comma.ensures.onward c.in_ok-more.ensures.onward in
    record {
      onward = onward-via c.args.self.now c.params.self c.decl-in-params.new.self i.onward on;
      reads = more-ok c.args.self.now c.params.self c.expect-in-params.new.self c.decl-in-params.new.self c.params.list c.append-in-params.new.list c.in_ok-more.more c.in_ok-_comma._comma
          i.onward.text i.reads c.in_ok-_comma.ensures.expected c.in_ok-more.ensures.reads c.in_ok-append-2.ensures.ok;
    }

pub returns-in_err-_end-clause-reads : goal.returns-in_err-_end-clause-reads
returns-in_err-_end-clause-reads c =
    let r = c.from_residual-in_err-_end in
    let p = err_from_is_err_and r.result r.ensures.1 in
    rw (p.1, p.2) (end-err c.args.self.now c.params.self c.expect-2.new.self c.params.list c.in_err-_end.field-0.0 c.params.invariant.reads c.params-test.ensures.no c.in_err-_end.ensures.expected)

pub returns-clause-reads : goal.returns-clause-reads
returns-clause-reads c = end-ok c.args.self.now c.params.self c.expect-2.new.self c.params.list c.in_ok-_end._end c.params.invariant.reads c.in_ok-_end.ensures.expected
