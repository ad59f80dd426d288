use Rattle.std.proofs.Common.{◌≤◌, length, vec_len, arith}
use Rattle.std.specs.Prelude.{All, AllPairs}
use Rattle.perm_lex.specs.Tokens.{largest}
use Rattle.perm_lex.proofs.Answers.{only_tokens, only_refusal, of_tokens, IsWithin, StandsBefore, within, pairs, few, small}
use Rattle.perm_lex.proofs.lex.Goals as goal

pub returns-clause-only_tokens : goal.returns-clause-only_tokens
returns-clause-only_tokens c = only_tokens (λ v. v.items) c.args.text.now c.read.result c.read.ensures

pub returns-clause-only_refusal : goal.returns-clause-only_refusal
returns-clause-only_refusal c = only_refusal (λ v. v.items) c.args.text.now c.read.result c.read.ensures

pub returns-clause-within : goal.returns-clause-within
returns-clause-within c =
    of_tokens (λ v. v.items) (λ v. All (IsWithin (length c.args.text.now)) v.items) c.args.text.now c.read.result c.read.ensures (λ v l. within c.args.text.now v.items l)

pub returns-clause-order : goal.returns-clause-order
returns-clause-order c =
    of_tokens (λ v. v.items) (λ v. AllPairs StandsBefore v.items) c.args.text.now c.read.result c.read.ensures (λ v l. pairs c.args.text.now v.items l)

pub returns-clause-count : goal.returns-clause-count
returns-clause-count c =
    of_tokens (λ v. v.items) (λ v. vec_len v ≤ length c.args.text.now) c.args.text.now c.read.result c.read.ensures (λ v l. let h = few c.args.text.now v.items l in omega arith)

pub returns-clause-values : goal.returns-clause-values
returns-clause-values c =
    of_tokens (λ v. v.items) (λ v. All (λ t. t.value ≤ largest) v.items) c.args.text.now c.read.result c.read.ensures (λ v l. small c.args.text.now v.items l)
