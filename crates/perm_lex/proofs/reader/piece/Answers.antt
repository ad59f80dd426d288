use Rattle.std.proofs.Common.{sym, arith}
use Rattle.perm_lex.proofs.Walk.{blank_found, no_gap, token_found}
use Rattle.perm_lex.proofs.reader.piece.Goals as goal

pub returns-then-is_blank : goal.returns-then-is_blank
returns-then-is_blank c = blank_found c.args.rest.now c.args.at c.requires.some (sym c.if-is_blank.ensures)

pub returns : goal.returns
returns c =
    let gap = no_gap c.args.rest.now c.if-is_blank.ensures c.if-starts_with.ensures.value c.if-starts_with-2.ensures.value in
    token_found c.args.rest.now c.args.at c.in_ok-kind.field-0 c.span_at-span.result gap c.in_ok-kind.ensures.0 c.in_ok-kind.ensures.1 c.span_at-span.ensures.start (omega arith)
