use Rattle.std.proofs.Common.{◌≡◌, ◌++◌, ◌∷◌, [], List, ◌∙◌, ap}
use Rattle.std.proofs.lemmas.Result.{err_from_is_err_and}
use Rattle.perm_tree.specs.declared.ast.Arg.{Arg}
use Rattle.perm_parse.proofs.Descent.TokenSteps.{onward-via}
use Rattle.perm_parse.proofs.Descent.Arguments.{args-none, first-err, first-ok, more-err, more-ok, end-err, end-ok, placed-more}
use Rattle.perm_parse.proofs.parser.Parser.args.Goals as goal

pub returns-then-next_is-clause-reads : goal.returns-then-next_is-clause-reads
returns-then-next_is-clause-reads c = args-none c.args.self.now c.expect.new.self c.args.depth c.in_ok-_closing._closing c.new.result c.requires c.in_ok-_closing.ensures.expected c.new.ensures

pub returns-in_err-first-clause-reads : goal.returns-in_err-first-clause-reads
returns-in_err-first-clause-reads c =
    let r = c.from_residual-in_err-first in
    let p = err_from_is_err_and r.result r.ensures.1 in
    rw (p.1, p.2) (first-err c.args.self.now c.arg.new.self c.args.depth c.in_err-first.field-0.0 c.if-next_is.ensures.no c.in_err-first.ensures.reads)

pub arguments-init : goal.arguments-init
arguments-init c =
    let list : c.append.new.list ≡ c.in_ok-first.first ∷ [] = c.in_ok-append.ensures.ok ∙ ap (λ (l : List Arg). l ++ c.in_ok-first.first ∷ []) c.new-list.ensures in
    record {
      onward = c.in_ok-first.ensures.onward;
      placed = rw list (c.in_ok-first.ensures.placed, tt);
      reads = first-ok c.args.self.now c.arg.new.self c.args.depth c.in_ok-first.first c.append.new.list c.if-next_is.ensures.no c.in_ok-first.ensures.reads list;
    }

pub returns-in_err-more-clause-reads : goal.returns-in_err-more-clause-reads
returns-in_err-more-clause-reads c =
    let r = c.from_residual-in_err-more in
    let p = err_from_is_err_and r.result r.ensures.1 in
    rw (p.1, p.2) (more-err c.args.self.now c.arguments.self c.expect-in-arguments.new.self c.arg-in-arguments.new.self c.args.depth c.arguments.list c.in_ok-_comma._comma c.in_err-more.field-0.0
    c.requires c.arguments.invariant.reads c.in_ok-_comma.ensures.expected c.in_err-more.ensures.reads)

pub arguments-preserved : goal.arguments-preserved
arguments-preserved c =
    let i = c.arguments.invariant in
    let on = onward-via c.arguments.self c.expect-in-arguments.new.self c.arg-in-arguments.new.self c.in_ok-_comma.ensures.onward c.in_ok-more.ensures.onward in
    record {
      onward = onward-via c.args.self.now c.arguments.self c.arg-in-arguments.new.self i.onward on;
      placed = rw c.in_ok-append-2.ensures.ok (placed-more _ _ c.arguments.list c.in_ok-more.more on.exprs i.placed c.in_ok-more.ensures.placed);
      reads = more-ok c.args.self.now c.arguments.self c.expect-in-arguments.new.self c.arg-in-arguments.new.self c.args.depth c.arguments.list c.append-in-arguments.new.list c.in_ok-more.more c.in_ok-_comma._comma
          c.requires i.onward.text i.reads c.in_ok-_comma.ensures.expected c.in_ok-more.ensures.reads c.in_ok-append-2.ensures.ok;
    }

pub returns-in_err-_end-clause-reads : goal.returns-in_err-_end-clause-reads
returns-in_err-_end-clause-reads c =
    let r = c.from_residual-in_err-_end in
    let p = err_from_is_err_and r.result r.ensures.1 in
    rw (p.1, p.2) (end-err c.args.self.now c.arguments.self c.expect-2.new.self c.args.depth c.arguments.list c.in_err-_end.field-0.0 c.arguments.invariant.reads c.arguments-test.ensures.no c.in_err-_end.ensures.expected)

pub returns-clause-reads : goal.returns-clause-reads
returns-clause-reads c = end-ok c.args.self.now c.arguments.self c.expect-2.new.self c.args.depth c.arguments.list c.in_ok-_end._end c.requires c.arguments.invariant.reads c.in_ok-_end.ensures.expected
