use Rattle.perm_lex.proofs.Comments.{line_found}
use Rattle.perm_lex.proofs.gaps.line_comment.Goals as goal

pub returns : goal.returns
returns c at = line_found c.args.rest.now c.line_len.result at c.requires c.line_len.ensures
