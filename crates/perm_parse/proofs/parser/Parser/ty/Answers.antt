use Rattle.std.proofs.Common.{sym, ◌∙◌, refl}
use Rattle.perm_tree.specs.declared.tokens.TokenKind.TheVariants as kind
use Rattle.perm_tree.specs.declared.ast.Ty.TheVariants.{Long, Bool}
use Rattle.perm_parse.specs.Grammar.{TypeTree}
use Rattle.perm_parse.proofs.Descent.TokenSteps.{onward-same}
use Rattle.perm_parse.proofs.Descent.Types.{word-ok, type-dead, type-ends}
use Rattle.perm_parse.proofs.parser.Parser.ty.Goals as goal

pub returns-in_default-clause-reads : goal.returns-in_default-clause-reads
returns-in_default-clause-reads c = rw c.unexpected.ensures (type-ends c.args.self.now c.args.depth (sym c.peek.ensures ∙ c.in_default.is))

pub returns-in_ok-_word-in-Long-clause-reads : goal.returns-in_ok-_word-in-Long-clause-reads
returns-in_ok-_word-in-Long-clause-reads c =
    word-ok c.args.self.now c.expect.new.self c.args.depth kind.Long c.in_ok-_word-in-Long._word (TypeTree.long_type c.in_ok-_word-in-Long._word) Long c.requires c.in_ok-_word-in-Long.ensures.expected refl (λ k. refl) (λ text s. refl)

pub returns-in_ok-_word-in-Bool-clause-reads : goal.returns-in_ok-_word-in-Bool-clause-reads
returns-in_ok-_word-in-Bool-clause-reads c =
    word-ok c.args.self.now c.expect-in-Bool.new.self c.args.depth kind.Bool c.in_ok-_word-in-Bool._word (TypeTree.bool_type c.in_ok-_word-in-Bool._word) Bool c.requires c.in_ok-_word-in-Bool.ensures.expected refl (λ k. refl) (λ text s. refl)

pub returns-in_default-kind : goal.returns-in_default-kind
returns-in_default-kind c =
    let n = c.in_default-kind in
    record {
      reads = rw c.unexpected-in_default-kind.ensures (type-dead c.args.self.now c.args.depth c.in-Some.token (sym c.in-Some.ensures) n.not-Long n.not-Bool n.not-Isolated n.not-Immutable n.not-Readable n.not-Writable);
      onward = onward-same c.args.self.now;
      ahead = tt;
    }
