use Rattle.std.proofs.Common.{subst, ◌≡◌, ◌-◌, refl, arith, Ok, Err, None, sym, ap, ◌∙◌}
use Rattle.std.proofs.lemmas.Result.{err_from_is_err_and}
use Rattle.std.proofs.lemmas.Int.{to_z_pos}
use Rattle.std.proofs.Common.{w64, pos}
use Rattle.std.specs.Int.{cast_signed, cast_unsigned}
use Rattle.perm_parse.specs.Meaning.{push_expr}
use Rattle.perm_parse.specs.ParserResults.{OpensLevel}
use Rattle.perm_tree.specs.declared.tokens.TokenKind.TheVariants as kind
use Rattle.perm_tree.specs.declared.ast.Expr.TheVariants as node
use Rattle.perm_parse.specs.Grammar.{ExprTree}
use Rattle.perm_parse.proofs.Descent.Operands.{leaf, variable, prefixed-refused, prefixed-err, prefixed-ok, parens-refused, parens-err, parens-missing, parens-ok, no-operand, no-start, some-token, turn-err, turn-ok, closed-here}
use Rattle.perm_parse.proofs.Descent.TokenSteps.{onward-via, onward-ahead, onward-same}
use Rattle.perm_parse.specs.Machine.{step_operand}
use Rattle.perm_parse.proofs.parser.Parser.+expressions.Goals as goal

-- ---- binary

pub binary-returns-in_err-right-clause-reads : goal.binary-returns-in_err-right-clause-reads
binary-returns-in_err-right-clause-reads m c =
    let r = c.from_residual-in_err-right in
    let p = err_from_is_err_and r.result r.ensures.1 in
    rw (p.1, p.2) (turn-err c.args.self.now c.operators.self c.advance.new.self c.binary-in-Some.new.self c.args.loosest c.args.depth c.operators.left c.in-Some.op c.in_err-right.field-0.0
    c.operators.invariant.reads (sym c.in-Some.ensures) c.advance.ensures c.requires.depth (omega arith) c.in_err-right.ensures.reads)

pub binary-operators-preserved : goal.binary-operators-preserved
binary-operators-preserved m c =
    let d = c.in_ok-left-2.ensures in
    let r = c.in_ok-right.ensures in
    record {
      onward = onward-via c.args.self.now c.operators.self c.add_expr.new.self c.operators.invariant.onward (onward-via c.operators.self c.advance.new.self c.add_expr.new.self (onward-ahead c.operators.self c.advance.new.self c.advance.ensures)
          (onward-via c.advance.new.self c.binary-in-Some.new.self c.add_expr.new.self r.onward d.onward));
      below = d.below;
      closed = closed-here c.binary-in-Some.new.self c.add_expr.new.self (c.args.loosest - 1) d.pushed.2 r.closed;
      reads = turn-ok c.args.self.now c.operators.self c.advance.new.self c.binary-in-Some.new.self c.add_expr.new.self c.args.loosest c.args.depth c.operators.left c.in_ok-right.right c.in_ok-left-2.left c.in-Some.op
          c.operators.invariant.reads (sym c.in-Some.ensures) c.advance.ensures c.operators.invariant.onward.text c.requires.depth (omega arith) r.reads r.closed d.pushed;
    }

-- ---- parens

pub parens-returns-in_err-open-clause-reads : goal.parens-returns-in_err-open-clause-reads
parens-returns-in_err-open-clause-reads m c =
    let p = err_from_is_err_and c.from_residual.result c.from_residual.ensures.1 in
    rw (p.1, p.2) (parens-refused c.args.self.now c.open.new.self c.args.depth c.in_err-open.field-0.0 c.requires.next c.in_err-open.ensures.opened)

pub parens-returns-in_err-inner-clause-reads : goal.parens-returns-in_err-inner-clause-reads
parens-returns-in_err-inner-clause-reads m c =
    let r = c.from_residual-in_err-inner in
    let p = err_from_is_err_and r.result r.ensures.1 in
    rw (p.1, p.2) (parens-err c.args.self.now c.open.new.self c.binary.new.self c.args.depth c.in_ok-open.field-0 c.in_err-inner.field-0.0 c.in_ok-open.ensures.opened c.in_err-inner.ensures.reads)

pub parens-returns-in_err-expect-clause-reads : goal.parens-returns-in_err-expect-clause-reads
parens-returns-in_err-expect-clause-reads m c =
    let r = c.from_residual-in_err-expect in
    let p = err_from_is_err_and r.result r.ensures.1 in
    rw (p.1, p.2) (parens-missing c.args.self.now c.open.new.self c.binary.new.self c.expect.new.self c.args.depth c.in_ok-open.field-0 c.in_ok-inner.inner c.in_err-expect.field-0.0
    c.in_ok-open.ensures.opened c.in_ok-inner.ensures.reads c.in_ok-inner.ensures.closed c.in_err-expect.ensures.expected)

pub parens-returns-clause-reads : goal.parens-returns-clause-reads
parens-returns-clause-reads m c =
    parens-ok c.args.self.now c.open.new.self c.binary.new.self c.expect.new.self c.args.depth c.in_ok-open.field-0 c.in_ok-expect.field-0 c.in_ok-inner.inner c.in_ok-open.ensures.opened c.in_ok-inner.ensures.reads c.in_ok-expect.ensures.expected

-- ---- prefixed

pub prefixed-returns-in_err-open-clause-reads : goal.prefixed-returns-in_err-open-clause-reads
prefixed-returns-in_err-open-clause-reads m c =
    let p = err_from_is_err_and c.from_residual.result c.from_residual.ensures.1 in
    let opened = subst (λ x. OpensLevel x c.args.depth c.args.self.now c.open.new.self (Err c.in_err-open.field-0.0)) c.unary_sign.ensures c.in_err-open.ensures.opened in
    rw (p.1, p.2) (prefixed-refused c.args.self.now c.open.new.self c.args.depth c.args.op c.in_err-open.field-0.0 c.requires.next opened)

pub prefixed-returns-in_err-operand-clause-reads : goal.prefixed-returns-in_err-operand-clause-reads
prefixed-returns-in_err-operand-clause-reads m c =
    let r = c.from_residual-in_err-operand in
    let p = err_from_is_err_and r.result r.ensures.1 in
    let opened = subst (λ x. OpensLevel x c.args.depth c.args.self.now c.open.new.self (Ok c.in_ok-open.field-0)) c.unary_sign.ensures c.in_ok-open.ensures.opened in
    rw (p.1, p.2) (prefixed-err c.args.self.now c.open.new.self c.unary.new.self c.args.depth c.args.op c.in_ok-open.field-0 c.in_err-operand.field-0.0 opened c.in_err-operand.ensures.reads)

pub prefixed-returns-clause-reads : goal.prefixed-returns-clause-reads
prefixed-returns-clause-reads m c =
    let opened = subst (λ x. OpensLevel x c.args.depth c.args.self.now c.open.new.self (Ok c.in_ok-open.field-0)) c.unary_sign.ensures c.in_ok-open.ensures.opened in
    prefixed-ok c.args.self.now c.open.new.self c.unary.new.self c.add_expr.new.self c.args.depth c.args.op c.in_ok-open.field-0 c.in_ok-operand.operand c.add_expr.result opened c.in_ok-operand.ensures.reads c.add_expr.ensures.pushed

-- ---- unary

pub unary-returns-in_default-clause-reads : goal.unary-returns-in_default-clause-reads
unary-returns-in_default-clause-reads m c = rw c.unexpected.ensures (no-operand c.args.self.now c.args.depth (λ t n. absurd (cc (c.in_default.ensures, n))))

pub unary-returns-in-Number-clause-reads : goal.unary-returns-in-Number-clause-reads
unary-returns-in-Number-clause-reads m c =
    let small = (c.args.self.now.over c.args.self.now.at c.in-Some.token (sym c.in-Some.ensures)).2 in
    let value : c.cast_signed.result ≡ pos c.in-Some.token.value = c.cast_signed.ensures ∙ to_z_pos w64 c.in-Some.token.value small in
    let passed : cast_signed w64 (cast_unsigned w64 c.cast_signed.result) ≡ pos c.in-Some.token.value = ap (λ z. cast_signed w64 (cast_unsigned w64 z)) value ∙ to_z_pos w64 c.in-Some.token.value small in
    leaf c.args.self.now c.advance.new.self c.add_expr.new.self c.args.depth c.in-Some.token kind.Number (ExprTree.number c.in-Some.token) _ c.add_expr.result (sym c.in-Some.ensures) c.in-Number.is c.advance.ensures c.add_expr.ensures.pushed c.requires
    (λ ps k. refl) (λ text s. ap (λ z. push_expr (node.Number z) s) (sym passed))

pub unary-returns-in-True-clause-reads : goal.unary-returns-in-True-clause-reads
unary-returns-in-True-clause-reads m c =
    leaf c.args.self.now c.advance-in-True.new.self c.add_expr-in-True.new.self c.args.depth c.in-Some.token kind.True (ExprTree.true_word c.in-Some.token) _ c.add_expr-in-True.result (sym c.in-Some.ensures) c.in-True.is c.advance-in-True.ensures c.add_expr-in-True.ensures.pushed c.requires
    (λ ps k. refl) (λ text s. refl)

pub unary-returns-in-False-clause-reads : goal.unary-returns-in-False-clause-reads
unary-returns-in-False-clause-reads m c =
    leaf c.args.self.now c.advance-in-False.new.self c.add_expr-in-False.new.self c.args.depth c.in-Some.token kind.False (ExprTree.false_word c.in-Some.token) _ c.add_expr-in-False.result (sym c.in-Some.ensures) c.in-False.is c.advance-in-False.ensures c.add_expr-in-False.ensures.pushed c.requires
    (λ ps k. refl) (λ text s. refl)

pub unary-returns-in-Null-clause-reads : goal.unary-returns-in-Null-clause-reads
unary-returns-in-Null-clause-reads m c =
    leaf c.args.self.now c.advance-in-Null.new.self c.add_expr-in-Null.new.self c.args.depth c.in-Some.token kind.Null (ExprTree.null_word c.in-Some.token) _ c.add_expr-in-Null.result (sym c.in-Some.ensures) c.in-Null.is c.advance-in-Null.ensures c.add_expr-in-Null.ensures.pushed c.requires
    (λ ps k. refl) (λ text s. refl)

pub unary-returns-in_ok-name-in-Name-clause-reads : goal.unary-returns-in_ok-name-in-Name-clause-reads
unary-returns-in_ok-name-in-Name-clause-reads m c =
    variable c.args.self.now c.advance-in-Name.new.self c.var.new.self c.add_expr-in-Name.new.self c.args.depth c.in-Some.token kind.Name c.in_ok-name-in-Name.name c.add_expr-in-Name.result (sym c.in-Some.ensures) c.in-Name.is c.advance-in-Name.ensures
    c.in_ok-name-in-Name.ensures.named c.add_expr-in-Name.ensures.pushed c.requires (λ ps k. refl)

pub unary-returns-in_ok-name-in-This-clause-reads : goal.unary-returns-in_ok-name-in-This-clause-reads
unary-returns-in_ok-name-in-This-clause-reads m c =
    variable c.args.self.now c.advance-in-This.new.self c.var-in-This.new.self c.add_expr-in-This.new.self c.args.depth c.in-Some.token kind.This c.in_ok-name-in-This.name c.add_expr-in-This.result (sym c.in-Some.ensures) c.in-This.is c.advance-in-This.ensures
    c.in_ok-name-in-This.ensures.named c.add_expr-in-This.ensures.pushed c.requires (λ ps k. refl)

pub unary-returns-in_default-kind : goal.unary-returns-in_default-kind
unary-returns-in_default-kind m c =
    let n = c.in_default-kind in
    record {
      reads = rw c.unexpected-in_default-kind.ensures (no-operand c.args.self.now c.args.depth (λ t next ps k.
          let same : c.in-Some.token ≡ t = some-token c.in-Some.token t (c.in-Some.ensures ∙ next) in
          subst (λ x. step_operand ps k x x.kind ≡ None) same (no-start c.in-Some.token.kind n.not-Number n.not-True n.not-False n.not-Null n.not-Name n.not-This n.not-Minus n.not-Bang n.not-OpenParen ps k c.in-Some.token)));
      onward = onward-same c.args.self.now;
      below = tt;
    }
