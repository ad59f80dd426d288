use Rattle.std.proofs.Common.{◌≡◌, refl, sym, rules}
use Rattle.std.proofs.lemmas.Option.{slice_get_within}
use Rattle.perm_parse.proofs.parser.Parser.open.Goals as goal

pub returns-then-depth-eq-DEEPEST-clause-opened : goal.returns-then-depth-eq-DEEPEST-clause-opened
returns-then-depth-eq-DEEPEST-clause-opened c =
    let is : c.in-Some.token.kind ≡ c.args.wanted = search rules in
    rw c.too_deep.ensures (refl, (c.in-Some.token, (sym c.in-Some.ensures, is)), c.if-depth-eq-DEEPEST.true)

pub advance-requires : goal.advance-requires
advance-requires c = slice_get_within c.args.self.now.tokens.now c.args.self.now.at c.in-Some.token (sym c.in-Some.ensures)
