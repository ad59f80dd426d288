use Rattle.std.proofs.Common.{subst}
use Rattle.perm_tree.specs.declared.bodies.Expression.{Expression}
use Rattle.perm_tree.specs.BodyTerms.{expression_term}
use Rattle.perm_tree.specs.Mentions.{term_mentions}
use Rattle.perm_par.specs.BlockSets.{term_uses, test_of}
use Rattle.perm_par.specs.Known.{HoldsKnown}
use Rattle.perm_par.proofs.KnownVariables.{holds-none}
use Rattle.perm_par.proofs.UsesWalks.{uses-held}
use Rattle.perm_par.proofs.mentions.uses_of_test.Goals as goal

pub returns : goal.returns
returns c =
    let b = c.args.body.now in
    let all = b.bodies.operations in
    uses-held b (record { mentioned = c.in_expression.result; written = c.new.result }) (term_uses (expression_term all (test_of c.args.action)))
    (subst (λ (e : Expression). HoldsKnown b c.in_expression.result (term_mentions (expression_term all e))) c.test.ensures c.in_expression.ensures)
    (holds-none b c.new.result c.new.ensures)
