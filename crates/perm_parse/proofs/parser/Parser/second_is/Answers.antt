use Rattle.std.proofs.Common.{◌≡◌, sym, ◌∙◌, Bool, true, false}
use Rattle.std.specs.Bool.{OnTrue}
use denote.Enum.Bare.{same_true}
use Rattle.perm_tree.specs.contracts.tokens.TokenKind.{the_type}
use Rattle.perm_parse.proofs.parser.Parser.second_is.Goals as goal

on-true : {P : Type 0} (b : Bool) → (b ≡ true → P) → OnTrue b P
on-true true h = h (λ i. true)
on-true false h = tt

pub returns-in-Some-clause-yes : goal.returns-in-Some-clause-yes
returns-in-Some-clause-yes c = on-true c.eq.result (λ e. (c.in-Some.token, (sym c.in-Some.ensures, same_true the_type tt c.in-Some.token.kind c.args.wanted (sym c.eq.ensures ∙ e))))
