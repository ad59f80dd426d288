use Rattle.std.proofs.Common.{refl}
use Rattle.perm_lex.proofs.Lexemes.{word_found}
use Rattle.perm_lex.proofs.lexeme.word.Goals as goal

pub returns-clause-lexeme : goal.returns-clause-lexeme
returns-clause-lexeme c = word_found c.args.rest.now _ c.word_len-len.result c.keyword.result c.unwrap_or-kind.result c.requires c.word_len-len.ensures refl c.keyword.ensures c.unwrap_or-kind.ensures
