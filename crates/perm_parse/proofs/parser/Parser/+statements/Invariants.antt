use Rattle.std.proofs.Common.{◌+◌, length, ◌-◌, ◌*◌, Ok}
use Rattle.perm_tree.specs.Places.{AllBelow}
use Rattle.perm_parse.specs.ParserResults.{ReadsStmts, Onward}
use Rattle.perm_parse.specs.Parses.{deepest}
use Rattle.perm_parse.proofs.parser.Parser.+statements.Given as goal

abbrev pub decreases-block : goal.decreases-block
decreases-block l = (deepest + 1 - l.depth) * 8 + 1

abbrev pub decreases-recover_value : goal.decreases-recover_value
decreases-recover_value l = (deepest + 1 - l.depth) * 8 + 1

abbrev pub decreases-value : goal.decreases-value
decreases-value l = (deepest + 1 - l.depth) * 8 + 2

abbrev pub decreases-assign_stmt : goal.decreases-assign_stmt
decreases-assign_stmt l = (deepest + 1 - l.depth) * 8 + 3

abbrev pub decreases-named_stmt : goal.decreases-named_stmt
decreases-named_stmt l = (deepest + 1 - l.depth) * 8 + 4

abbrev pub decreases-local_stmt : goal.decreases-local_stmt
decreases-local_stmt l = (deepest + 1 - l.depth) * 8 + 4

abbrev pub decreases-if_stmt : goal.decreases-if_stmt
decreases-if_stmt l = (deepest + 1 - l.depth) * 8 + 4

abbrev pub decreases-while_stmt : goal.decreases-while_stmt
decreases-while_stmt l = (deepest + 1 - l.depth) * 8 + 4

abbrev pub decreases-par_stmt : goal.decreases-par_stmt
decreases-par_stmt l = (deepest + 1 - l.depth) * 8 + 4

abbrev pub decreases-stmt : goal.decreases-stmt
decreases-stmt l = (deepest + 1 - l.depth) * 8 + 5

abbrev pub decreases-stmts : goal.decreases-stmts
decreases-stmts l = (deepest + 1 - l.depth) * 8 + 6

abbrev pub invariant-stmts-statements : goal.invariant-stmts-statements
invariant-stmts-statements l = record {
  onward : Onward l.fn.self l.self;
  below : AllBelow (length l.self.program.stmts) l.list;
  reads : ReadsStmts l.depth l.fn.self l.self (Ok l.list);
}

abbrev pub decreases-stmts-statements : goal.decreases-stmts-statements
decreases-stmts-statements l = length l.self.tokens.now - l.self.at
