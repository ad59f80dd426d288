use Rattle.std.proofs.Common.{◌∙◌, List, length, ap, arith, refl, sym, Bor}
use Rattle.std.proofs.lemmas.Result.{err_from_is_err_and}
use Rattle.perm_tree.proofs.Pushes.{all_more}
use Rattle.perm_tree.specs.declared.tokens.Token.{Token}
use Rattle.perm_parse.specs.States.{State}
use Rattle.perm_parse.proofs.Descent.TokenSteps.{at-end, onward-same, onward-via}
use Rattle.perm_parse.proofs.Descent.FirstTokens.{plain-other}
use Rattle.perm_parse.proofs.Descent.Blocks.{below-more, stmts-none, stmts-err, stmts-more, block-not-opened, block-stmts, block-not-closed, block-ok}
use Rattle.perm_parse.proofs.Descent.RecoverBlocks.{RecoverPath, GivePath, recover-not-opened, recover-stmts, recover-no-give, recover-no-name, recover-no-end, recover-not-closed, recover-no-last, recover-ok}
use Rattle.perm_parse.proofs.Descent.Targets.{assign-no-sign, assign-value, assign-is, local-err, declare-is, local-no-sign, local-value, local-is}
use Rattle.perm_parse.proofs.Descent.Branches.{IfPath, while-test, while-body, while-is, par-left, par-right, par-is, if-test, if-first, if-is, else-block, else-is}
use Rattle.perm_parse.proofs.parser.Parser.+statements.Goals as goal

-- ---- stmts

pub stmts-statements-init : goal.stmts-statements-init
stmts-statements-init m c = record {
  onward = onward-same c.args.self.now;
  below = rw c.new-list.ensures tt;
  reads = stmts-none c.args.self.now c.args.depth c.new-list.result c.new-list.ensures;
}

pub stmts-returns-in_err-place-clause-reads : goal.stmts-returns-in_err-place-clause-reads
stmts-returns-in_err-place-clause-reads m c =
    let p = err_from_is_err_and c.from_residual.result c.from_residual.ensures.1 in
    rw (p.1, p.2) (stmts-err c.args.self.now c.statements.self c.stmt.new.self c.args.depth c.statements.list c.in_err-place.field-0.0 c.statements.invariant.reads c.in_err-place.ensures.reads)

pub stmts-statements-preserved : goal.stmts-statements-preserved
stmts-statements-preserved m c =
    let i = c.statements.invariant in
    let n = c.in_ok-place.ensures in
    record {
      onward = onward-via c.args.self.now c.statements.self c.stmt.new.self i.onward n.onward;
      below = rw c.in_ok-append.ensures.ok (below-more _ _ c.statements.list c.in_ok-place.place n.onward.stmts i.below n.below);
      reads = stmts-more c.args.self.now c.statements.self c.stmt.new.self c.args.depth c.in_ok-place.place c.statements.list c.append.new.list i.onward.text i.reads n.reads c.in_ok-append.ensures.ok;
    }

pub stmts-statements-smaller : goal.stmts-statements-smaller
stmts-statements-smaller m c =
    let same = ap (λ (r : Bor (List Token)). length r.now) c.in_ok-place.ensures.onward.tokens in
    omega (arith, c.in_ok-place.ensures.ahead, same, c.stmt.new.self.within)

-- ---- assign_stmt

pub assign_stmt-returns-in_err-_equals-clause-reads : goal.assign_stmt-returns-in_err-_equals-clause-reads
assign_stmt-returns-in_err-_equals-clause-reads m c =
    let r = c.from_residual-in_err-_equals in
    let p = err_from_is_err_and r.result r.ensures.1 in
    rw (p.1, p.2) (assign-no-sign c.args.self.now c.expect.new.self c.ident.new.self c.expect-2.new.self c.args.depth c.in_ok-token.token c.in_ok-name.name c.in_err-_equals.field-0.0 c.requires.depth c.requires.no_dot c.requires.no_bracket
    c.in_ok-token.ensures.expected c.in_ok-name.ensures.named c.in_err-_equals.ensures.expected)

pub assign_stmt-returns-in_err-value-clause-reads : goal.assign_stmt-returns-in_err-value-clause-reads
assign_stmt-returns-in_err-value-clause-reads m c =
    let r = c.from_residual-in_err-value in
    let p = err_from_is_err_and r.result r.ensures.1 in
    rw (p.1, p.2) (assign-value c.args.self.now c.expect.new.self c.ident.new.self c.expect-2.new.self c.value.new.self c.args.depth c.in_ok-token.token c.in_ok-_equals._equals c.in_ok-name.name c.in_err-value.field-0.0 c.requires.depth
    c.in_ok-token.ensures.expected c.in_ok-name.ensures.named c.in_ok-_equals.ensures.expected c.in_err-value.ensures.reads)

pub assign_stmt-returns-clause-reads : goal.assign_stmt-returns-clause-reads
assign_stmt-returns-clause-reads m c =
    assign-is c.args.self.now c.expect.new.self c.ident.new.self c.expect-2.new.self c.value.new.self c.add_stmt.new.self c.args.depth c.in_ok-token.token c.in_ok-_equals._equals c.in_ok-name.name c.in_ok-value.value _ c.add_stmt.result c.requires.depth
    c.in_ok-token.ensures.expected c.in_ok-name.ensures.named c.in_ok-_equals.ensures.expected c.in_ok-value.ensures.reads (rw (c.span_over.ensures, c.span_over-2.ensures) refl) c.add_stmt.ensures.pushed

-- ---- local_stmt

pub local_stmt-returns-in_err-local-clause-reads : goal.local_stmt-returns-in_err-local-clause-reads
local_stmt-returns-in_err-local-clause-reads m c =
    let p = err_from_is_err_and c.from_residual.result c.from_residual.ensures.1 in
    rw (p.1, p.2) (local-err c.args.self.now c.local_head.new.self c.args.depth c.in_err-local.field-0.0 c.in_err-local.ensures.reads)

pub local_stmt-returns-then-next_is-clause-reads : goal.local_stmt-returns-then-next_is-clause-reads
local_stmt-returns-then-next_is-clause-reads m c =
    declare-is c.args.self.now c.local_head.new.self c.expect.new.self c.add_stmt.new.self c.args.depth c.in_ok-local.local c.in_ok-end.end _ c.add_stmt.result c.requires.depth c.in_ok-local.ensures.reads c.in_ok-end.ensures.expected
    (rw (c.span_over.ensures, c.span_over-then-next_is.ensures) refl) c.add_stmt.ensures.pushed

pub local_stmt-returns-in_err-_equals-clause-reads : goal.local_stmt-returns-in_err-_equals-clause-reads
local_stmt-returns-in_err-_equals-clause-reads m c =
    let r = c.from_residual-in_err-_equals in
    let p = err_from_is_err_and r.result r.ensures.1 in
    rw (p.1, p.2) (local-no-sign c.args.self.now c.local_head.new.self c.expect-2.new.self c.args.depth c.in_ok-local.local c.in_err-_equals.field-0.0 c.in_ok-local.ensures.reads c.if-next_is.ensures.no c.in_err-_equals.ensures.expected)

pub local_stmt-returns-in_err-value-clause-reads : goal.local_stmt-returns-in_err-value-clause-reads
local_stmt-returns-in_err-value-clause-reads m c =
    let r = c.from_residual-in_err-value in
    let p = err_from_is_err_and r.result r.ensures.1 in
    rw (p.1, p.2) (local-value c.args.self.now c.local_head.new.self c.expect-2.new.self c.value.new.self c.args.depth c.in_ok-local.local c.in_ok-_equals._equals c.in_err-value.field-0.0 c.requires.depth c.in_ok-local.ensures.reads c.in_ok-_equals.ensures.expected c.in_err-value.ensures.reads)

pub local_stmt-returns-clause-reads : goal.local_stmt-returns-clause-reads
local_stmt-returns-clause-reads m c =
    local-is c.args.self.now c.local_head.new.self c.expect-2.new.self c.value.new.self c.add_stmt-2.new.self c.args.depth c.in_ok-local.local c.in_ok-_equals._equals c.in_ok-value.value _ c.add_stmt-2.result c.requires.depth c.in_ok-local.ensures.reads
    c.in_ok-local.ensures.onward.text c.in_ok-_equals.ensures.expected c.in_ok-value.ensures.reads (rw (c.span_over-2.ensures, c.span_over-3.ensures) refl) c.add_stmt-2.ensures.pushed

-- ---- value

pub value-returns-in_default-clause-reads : goal.value-returns-in_default-clause-reads
value-returns-in_default-clause-reads m c = rw c.unexpected.ensures (λ a lv. at-end c.args.self.now (State.value_due a) (sym c.in_default.ensures) refl)

pub value-plain_value-requires-clause-plain : goal.value-plain_value-requires-clause-plain
value-plain_value-requires-clause-plain m c =
    let n = c.in_default-kind in
    plain-other c.args.self.now c.in-Some.token (sym c.in-Some.ensures) n.not-Consume n.not-New n.not-Recover n.not-Name n.not-This n.not-OpenParen

-- ---- recover_value

pub recover_value-returns-in_err-_opening-clause-reads : goal.recover_value-returns-in_err-_opening-clause-reads
recover_value-returns-in_err-_opening-clause-reads m c =
    let r = c.from_residual-in_err-_opening in
    let p = err_from_is_err_and r.result r.ensures.1 in
    rw (p.1, p.2) (recover-not-opened c.args.self.now c.expect.new.self c.open.new.self c.args.depth c.in_ok-word.word c.in_err-_opening.field-0.0 c.requires.depth c.in_ok-word.ensures.expected c.in_err-_opening.ensures.opened)

pub recover_value-returns-in_err-stmts-clause-reads : goal.recover_value-returns-in_err-stmts-clause-reads
recover_value-returns-in_err-stmts-clause-reads m c =
    let r = c.from_residual-in_err-stmts in
    let p = err_from_is_err_and r.result r.ensures.1 in
    rw (p.1, p.2) (recover-stmts c.args.self.now c.expect.new.self c.open.new.self c.stmts.new.self c.args.depth c.in_ok-word.word c.in_ok-_opening._opening c.in_err-stmts.field-0.0 c.requires.depth c.in_ok-word.ensures.expected c.in_ok-_opening.ensures.opened c.in_err-stmts.ensures.reads)

pub recover_value-returns-in_err-give-clause-reads : goal.recover_value-returns-in_err-give-clause-reads
recover_value-returns-in_err-give-clause-reads m c =
    let r = c.from_residual-in_err-give in
    let p = err_from_is_err_and r.result r.ensures.1 in
    let path : RecoverPath c.args.depth c.args.self.now c.expect.new.self c.open.new.self c.stmts.new.self c.in_ok-word.word c.in_ok-_opening._opening c.in_ok-stmts.stmts = record { word_next = c.in_ok-word.ensures.expected; opened = c.in_ok-_opening.ensures.opened; stmts = c.in_ok-stmts.ensures.reads } in
    rw (p.1, p.2) (recover-no-give c.args.self.now c.expect.new.self c.open.new.self c.stmts.new.self c.expect-2.new.self c.args.depth c.in_ok-word.word c.in_ok-_opening._opening c.in_ok-stmts.stmts c.in_err-give.field-0.0 c.requires.depth path c.in_ok-stmts.ensures.ended c.in_err-give.ensures.expected)

pub recover_value-returns-in_err-token-clause-reads : goal.recover_value-returns-in_err-token-clause-reads
recover_value-returns-in_err-token-clause-reads m c =
    let r = c.from_residual-in_err-token in
    let p = err_from_is_err_and r.result r.ensures.1 in
    let path : RecoverPath c.args.depth c.args.self.now c.expect.new.self c.open.new.self c.stmts.new.self c.in_ok-word.word c.in_ok-_opening._opening c.in_ok-stmts.stmts = record { word_next = c.in_ok-word.ensures.expected; opened = c.in_ok-_opening.ensures.opened; stmts = c.in_ok-stmts.ensures.reads } in
    rw (p.1, p.2) (recover-no-name c.args.self.now c.expect.new.self c.open.new.self c.stmts.new.self c.expect-2.new.self c.expect-3.new.self c.args.depth c.in_ok-word.word c.in_ok-_opening._opening c.in_ok-give.give c.in_ok-stmts.stmts c.in_err-token.field-0.0 c.in_ok-_opening.ensures.opened.1 path
    c.in_ok-give.ensures.expected c.in_err-token.ensures.expected)

pub recover_value-returns-in_err-semicolon-clause-reads : goal.recover_value-returns-in_err-semicolon-clause-reads
recover_value-returns-in_err-semicolon-clause-reads m c =
    let r = c.from_residual-in_err-semicolon in
    let p = err_from_is_err_and r.result r.ensures.1 in
    let path : RecoverPath c.args.depth c.args.self.now c.expect.new.self c.open.new.self c.stmts.new.self c.in_ok-word.word c.in_ok-_opening._opening c.in_ok-stmts.stmts = record { word_next = c.in_ok-word.ensures.expected; opened = c.in_ok-_opening.ensures.opened; stmts = c.in_ok-stmts.ensures.reads } in
    rw (p.1, p.2) (recover-no-end c.args.self.now c.expect.new.self c.open.new.self c.stmts.new.self c.expect-2.new.self c.expect-3.new.self c.ident.new.self c.expect-4.new.self c.args.depth c.in_ok-word.word c.in_ok-_opening._opening c.in_ok-give.give c.in_ok-token.token c.in_ok-stmts.stmts
    c.in_ok-given.given c.in_err-semicolon.field-0.0 c.in_ok-_opening.ensures.opened.1 path c.in_ok-give.ensures.expected c.in_ok-token.ensures.expected c.in_ok-given.ensures.named c.in_err-semicolon.ensures.expected)

pub recover_value-returns-in_err-_closing-clause-reads : goal.recover_value-returns-in_err-_closing-clause-reads
recover_value-returns-in_err-_closing-clause-reads m c =
    let r = c.from_residual-in_err-_closing in
    let p = err_from_is_err_and r.result r.ensures.1 in
    let path : RecoverPath c.args.depth c.args.self.now c.expect.new.self c.open.new.self c.stmts.new.self c.in_ok-word.word c.in_ok-_opening._opening c.in_ok-stmts.stmts = record { word_next = c.in_ok-word.ensures.expected; opened = c.in_ok-_opening.ensures.opened; stmts = c.in_ok-stmts.ensures.reads } in
    rw (p.1, p.2) (recover-not-closed c.args.self.now c.expect.new.self c.open.new.self c.stmts.new.self c.expect-2.new.self c.expect-3.new.self c.ident.new.self c.expect-4.new.self c.expect-5.new.self c.args.depth c.in_ok-word.word c.in_ok-_opening._opening c.in_ok-give.give c.in_ok-token.token
    c.in_ok-semicolon.semicolon c.in_ok-stmts.stmts c.in_ok-given.given c.in_err-_closing.field-0.0 c.in_ok-_opening.ensures.opened.1 path c.in_ok-give.ensures.expected c.in_ok-token.ensures.expected c.in_ok-given.ensures.named c.in_ok-semicolon.ensures.expected c.in_err-_closing.ensures.expected)

pub recover_value-returns-in_err-end-clause-reads : goal.recover_value-returns-in_err-end-clause-reads
recover_value-returns-in_err-end-clause-reads m c =
    let r = c.from_residual-in_err-end in
    let p = err_from_is_err_and r.result r.ensures.1 in
    let path : RecoverPath c.args.depth c.args.self.now c.expect.new.self c.open.new.self c.stmts.new.self c.in_ok-word.word c.in_ok-_opening._opening c.in_ok-stmts.stmts = record { word_next = c.in_ok-word.ensures.expected; opened = c.in_ok-_opening.ensures.opened; stmts = c.in_ok-stmts.ensures.reads } in
    let give : GivePath c.stmts.new.self c.expect-2.new.self c.expect-3.new.self c.ident.new.self c.expect-4.new.self c.expect-5.new.self c.in_ok-give.give c.in_ok-token.token c.in_ok-semicolon.semicolon c.in_ok-_closing._closing c.in_ok-given.given = record { give_next = c.in_ok-give.ensures.expected; name_next = c.in_ok-token.ensures.expected; named = c.in_ok-given.ensures.named; ended = c.in_ok-semicolon.ensures.expected; closed = c.in_ok-_closing.ensures.expected } in
    rw (p.1, p.2) (recover-no-last c.args.self.now c.expect.new.self c.open.new.self c.stmts.new.self c.expect-2.new.self c.expect-3.new.self c.ident.new.self c.expect-4.new.self c.expect-5.new.self c.expect-6.new.self c.args.depth c.in_ok-word.word c.in_ok-_opening._opening c.in_ok-give.give c.in_ok-token.token
    c.in_ok-semicolon.semicolon c.in_ok-_closing._closing c.in_ok-stmts.stmts c.in_ok-given.given c.in_err-end.field-0.0 c.in_ok-_opening.ensures.opened.1 path give c.in_err-end.ensures.expected)

pub recover_value-returns-clause-reads : goal.recover_value-returns-clause-reads
recover_value-returns-clause-reads m c =
    let path : RecoverPath c.args.depth c.args.self.now c.expect.new.self c.open.new.self c.stmts.new.self c.in_ok-word.word c.in_ok-_opening._opening c.in_ok-stmts.stmts = record { word_next = c.in_ok-word.ensures.expected; opened = c.in_ok-_opening.ensures.opened; stmts = c.in_ok-stmts.ensures.reads } in
    let give : GivePath c.stmts.new.self c.expect-2.new.self c.expect-3.new.self c.ident.new.self c.expect-4.new.self c.expect-5.new.self c.in_ok-give.give c.in_ok-token.token c.in_ok-semicolon.semicolon c.in_ok-_closing._closing c.in_ok-given.given = record { give_next = c.in_ok-give.ensures.expected; name_next = c.in_ok-token.ensures.expected; named = c.in_ok-given.ensures.named; ended = c.in_ok-semicolon.ensures.expected; closed = c.in_ok-_closing.ensures.expected } in
    recover-ok c.args.self.now c.expect.new.self c.open.new.self c.stmts.new.self c.expect-2.new.self c.expect-3.new.self c.ident.new.self c.expect-4.new.self c.expect-5.new.self c.expect-6.new.self c.args.depth c.in_ok-word.word c.in_ok-_opening._opening c.in_ok-give.give c.in_ok-token.token
    c.in_ok-semicolon.semicolon c.in_ok-_closing._closing c.in_ok-end.end c.in_ok-stmts.stmts c.in_ok-given.given _ c.in_ok-_opening.ensures.opened.1 (c.in_ok-stmts.ensures.onward.text ∙ c.in_ok-_opening.ensures.onward.text ∙ c.in_ok-word.ensures.onward.text) path give c.in_ok-end.ensures.expected c.span_over.ensures

-- ---- block

pub block-returns-in_err-_opening-clause-reads : goal.block-returns-in_err-_opening-clause-reads
block-returns-in_err-_opening-clause-reads m c =
    let p = err_from_is_err_and c.from_residual.result c.from_residual.ensures.1 in
    rw (p.1, p.2) (block-not-opened c.args.self.now c.open.new.self c.args.depth c.in_err-_opening.field-0.0 c.in_err-_opening.ensures.opened)

pub block-returns-in_err-stmts-clause-reads : goal.block-returns-in_err-stmts-clause-reads
block-returns-in_err-stmts-clause-reads m c =
    let r = c.from_residual-in_err-stmts in
    let p = err_from_is_err_and r.result r.ensures.1 in
    rw (p.1, p.2) (block-stmts c.args.self.now c.open.new.self c.stmts.new.self c.args.depth c.in_ok-_opening._opening c.in_err-stmts.field-0.0 c.in_ok-_opening.ensures.opened c.in_err-stmts.ensures.reads)

pub block-returns-in_err-closing-clause-reads : goal.block-returns-in_err-closing-clause-reads
block-returns-in_err-closing-clause-reads m c =
    let r = c.from_residual-in_err-closing in
    let p = err_from_is_err_and r.result r.ensures.1 in
    rw (p.1, p.2) (block-not-closed c.args.self.now c.open.new.self c.stmts.new.self c.expect.new.self c.args.depth c.in_ok-_opening._opening c.in_ok-stmts.stmts c.in_err-closing.field-0.0 c.in_ok-_opening.ensures.opened c.in_ok-stmts.ensures.reads c.in_ok-stmts.ensures.ended c.in_err-closing.ensures.expected)

pub block-returns-clause-reads : goal.block-returns-clause-reads
block-returns-clause-reads m c = block-ok c.args.self.now c.open.new.self c.stmts.new.self c.expect.new.self c.args.depth c.in_ok-_opening._opening c.in_ok-closing.closing c.in_ok-stmts.stmts c.requires c.in_ok-_opening.ensures.opened c.in_ok-stmts.ensures.reads c.in_ok-closing.ensures.expected

-- ---- if_stmt

pub if_stmt-returns-in_err-test-clause-reads : goal.if_stmt-returns-in_err-test-clause-reads
if_stmt-returns-in_err-test-clause-reads m c =
    let r = c.from_residual-in_err-test in
    let p = err_from_is_err_and r.result r.ensures.1 in
    rw (p.1, p.2) (if-test c.args.self.now c.expect.new.self c.test.new.self c.args.depth c.in_ok-word.word c.in_err-test.field-0.0 c.requires.depth c.in_ok-word.ensures.expected c.in_err-test.ensures.reads)

pub if_stmt-returns-in_err-first-clause-reads : goal.if_stmt-returns-in_err-first-clause-reads
if_stmt-returns-in_err-first-clause-reads m c =
    let r = c.from_residual-in_err-first in
    let p = err_from_is_err_and r.result r.ensures.1 in
    rw (p.1, p.2) (if-first c.args.self.now c.expect.new.self c.test.new.self c.block.new.self c.args.depth c.in_ok-word.word c.in_ok-test.test c.in_err-first.field-0.0 c.requires.depth c.in_ok-word.ensures.expected c.in_ok-test.ensures.reads c.in_err-first.ensures.reads)

pub if_stmt-returns-in_err-second-clause-reads : goal.if_stmt-returns-in_err-second-clause-reads
if_stmt-returns-in_err-second-clause-reads m c =
    let r = c.from_residual-in_err-second in
    let p = err_from_is_err_and r.result r.ensures.1 in
    let path : IfPath c.args.depth c.args.self.now c.expect.new.self c.test.new.self c.block.new.self c.in_ok-word.word c.in_ok-test.test c.in_ok-first.first = record { word_next = c.in_ok-word.ensures.expected; test = c.in_ok-test.ensures.reads; text = c.in_ok-test.ensures.onward.text ∙ c.in_ok-word.ensures.onward.text; first = c.in_ok-first.ensures.reads } in
    rw (p.1, p.2) (else-block c.args.self.now c.expect.new.self c.test.new.self c.block.new.self c.expect-then-next_is.new.self c.block-then-next_is.new.self c.args.depth c.in_ok-word.word c.in_ok-_otherwise._otherwise c.in_ok-test.test c.in_ok-first.first c.in_err-second.field-0.0 c.requires.depth path
    c.in_ok-_otherwise.ensures.expected c.in_err-second.ensures.reads)

pub if_stmt-returns-then-next_is-clause-reads : goal.if_stmt-returns-then-next_is-clause-reads
if_stmt-returns-then-next_is-clause-reads m c =
    let path : IfPath c.args.depth c.args.self.now c.expect.new.self c.test.new.self c.block.new.self c.in_ok-word.word c.in_ok-test.test c.in_ok-first.first = record { word_next = c.in_ok-word.ensures.expected; test = c.in_ok-test.ensures.reads; text = c.in_ok-test.ensures.onward.text ∙ c.in_ok-word.ensures.onward.text; first = c.in_ok-first.ensures.reads } in
    else-is c.args.self.now c.expect.new.self c.test.new.self c.block.new.self c.expect-then-next_is.new.self c.block-then-next_is.new.self c.add_stmt.new.self c.args.depth c.in_ok-word.word c.in_ok-_otherwise._otherwise c.in_ok-test.test c.in_ok-first.first c.in_ok-second.second _ c.add_stmt.result c.requires.depth path
    c.in_ok-_otherwise.ensures.expected (c.in_ok-first.ensures.onward.text ∙ path.text) c.in_ok-second.ensures.reads (rw (c.span_over.ensures, c.span_over-then-next_is.ensures) refl) c.add_stmt.ensures.pushed

pub if_stmt-add_stmt-requires : goal.if_stmt-add_stmt-requires
if_stmt-add_stmt-requires m c =
    let a = c.in_ok-first.ensures in
    let b = c.in_ok-_otherwise.ensures in
    let d = c.in_ok-second.ensures in
    (omega (arith, c.in_ok-test.ensures.below, a.onward.exprs, b.onward.exprs, d.onward.exprs), all_more _ _ c.in_ok-first.first.block.stmts (omega (arith, b.onward.stmts, d.onward.stmts)) a.below, d.below)

pub if_stmt-returns-clause-reads : goal.if_stmt-returns-clause-reads
if_stmt-returns-clause-reads m c =
    let path : IfPath c.args.depth c.args.self.now c.expect.new.self c.test.new.self c.block.new.self c.in_ok-word.word c.in_ok-test.test c.in_ok-first.first = record { word_next = c.in_ok-word.ensures.expected; test = c.in_ok-test.ensures.reads; text = c.in_ok-test.ensures.onward.text ∙ c.in_ok-word.ensures.onward.text; first = c.in_ok-first.ensures.reads } in
    if-is c.args.self.now c.expect.new.self c.test.new.self c.block.new.self c.add_stmt-2.new.self c.args.depth c.in_ok-word.word c.in_ok-test.test c.in_ok-first.first _ c.add_stmt-2.result c.requires.depth path c.if-next_is.ensures.no
    (rw (c.span_over-2.ensures, c.span_over-3.ensures) refl) c.add_stmt-2.ensures.pushed

-- ---- while_stmt

pub while_stmt-returns-in_err-test-clause-reads : goal.while_stmt-returns-in_err-test-clause-reads
while_stmt-returns-in_err-test-clause-reads m c =
    let r = c.from_residual-in_err-test in
    let p = err_from_is_err_and r.result r.ensures.1 in
    rw (p.1, p.2) (while-test c.args.self.now c.expect.new.self c.test.new.self c.args.depth c.in_ok-word.word c.in_err-test.field-0.0 c.requires.depth c.in_ok-word.ensures.expected c.in_err-test.ensures.reads)

pub while_stmt-returns-in_err-body-clause-reads : goal.while_stmt-returns-in_err-body-clause-reads
while_stmt-returns-in_err-body-clause-reads m c =
    let r = c.from_residual-in_err-body in
    let p = err_from_is_err_and r.result r.ensures.1 in
    rw (p.1, p.2) (while-body c.args.self.now c.expect.new.self c.test.new.self c.block.new.self c.args.depth c.in_ok-word.word c.in_ok-test.test c.in_err-body.field-0.0 c.requires.depth c.in_ok-word.ensures.expected c.in_ok-test.ensures.reads c.in_err-body.ensures.reads)

pub while_stmt-returns-clause-reads : goal.while_stmt-returns-clause-reads
while_stmt-returns-clause-reads m c =
    while-is c.args.self.now c.expect.new.self c.test.new.self c.block.new.self c.add_stmt.new.self c.args.depth c.in_ok-word.word c.in_ok-test.test c.in_ok-body.body _ c.add_stmt.result c.requires.depth c.in_ok-word.ensures.expected c.in_ok-test.ensures.reads
    (c.in_ok-test.ensures.onward.text ∙ c.in_ok-word.ensures.onward.text) c.in_ok-body.ensures.reads (rw (c.span_over.ensures, c.span_over-2.ensures) refl) c.add_stmt.ensures.pushed

-- ---- par_stmt

pub par_stmt-returns-in_err-left-clause-reads : goal.par_stmt-returns-in_err-left-clause-reads
par_stmt-returns-in_err-left-clause-reads m c =
    let r = c.from_residual-in_err-left in
    let p = err_from_is_err_and r.result r.ensures.1 in
    rw (p.1, p.2) (par-left c.args.self.now c.expect.new.self c.block.new.self c.args.depth c.in_ok-word.word c.in_err-left.field-0.0 c.requires.depth c.in_ok-word.ensures.expected c.in_err-left.ensures.reads)

pub par_stmt-returns-in_err-right-clause-reads : goal.par_stmt-returns-in_err-right-clause-reads
par_stmt-returns-in_err-right-clause-reads m c =
    let r = c.from_residual-in_err-right in
    let p = err_from_is_err_and r.result r.ensures.1 in
    rw (p.1, p.2) (par-right c.args.self.now c.expect.new.self c.block.new.self c.block-2.new.self c.args.depth c.in_ok-word.word c.in_ok-left.left c.in_err-right.field-0.0 c.requires.depth c.in_ok-word.ensures.expected c.in_ok-left.ensures.reads c.in_err-right.ensures.reads)

pub par_stmt-returns-clause-reads : goal.par_stmt-returns-clause-reads
par_stmt-returns-clause-reads m c =
    par-is c.args.self.now c.expect.new.self c.block.new.self c.block-2.new.self c.add_stmt.new.self c.args.depth c.in_ok-word.word c.in_ok-left.left c.in_ok-right.right _ c.add_stmt.result c.requires.depth c.in_ok-word.ensures.expected c.in_ok-left.ensures.reads
    (c.in_ok-left.ensures.onward.text ∙ c.in_ok-word.ensures.onward.text) c.in_ok-right.ensures.reads (rw c.span_over.ensures refl) c.add_stmt.ensures.pushed

pub par_stmt-add_stmt-requires : goal.par_stmt-add_stmt-requires
par_stmt-add_stmt-requires m c = (all_more _ _ c.in_ok-left.left.block.stmts c.in_ok-right.ensures.onward.stmts c.in_ok-left.ensures.below, c.in_ok-right.ensures.below)
