use Rattle.std.proofs.Common.{sym, ◌∙◌, rules}
use Rattle.perm_parse.proofs.Descent.NameNumbers.{ok-has, new-name}
use Rattle.perm_parse.proofs.parser.Parser.number.Goals as goal

pub invariant_of-self-2-clause-indexed : goal.invariant_of-self-2-clause-indexed
invariant_of-self-2-clause-indexed c =
    let self = c.args.self.now in
    let inserted = ok-has c.insert.result (c.insert.ensures.succeeds c.in_ok-reserve.ensures.ok) c.insert.ensures.keys in
    new-name _ self.names.keys c.reserve.new.self.keys c.insert.new.self.keys self.program.names self.indexed (sym c.known.ensures ∙ c.in_default.is) c.reserve.ensures.keys inserted.1
    ∙ search rules
