use Rattle.std.proofs.Common.{◌+◌, ◌≤◌, codes, length, subst, arith}
use Rattle.std.proofs.lemmas.Option.{IfSome_then}
use Rattle.perm_answer.specs.Answers.{printed_text}
use Rattle.perm_answer.proofs.Placed.{lex_room, syntax_room, table_room, trap_room, type_room}
use Rattle.perm_answer.proofs.room.room_of.Goals as goal

pub returns-in-Lex : goal.returns-in-Lex
returns-in-Lex c =
    lex_room c.args.answer.now c.in-Lex.place c.lex_word.result.now c.placed_room.result c.in-Lex.error c.in-Lex.is c.lex_word.ensures
    (c.placed_room.ensures (codes "lex ") (omega arith))

pub returns-in-Syntax : goal.returns-in-Syntax
returns-in-Syntax c =
    syntax_room c.args.answer.now c.in-Syntax.place c.syntax_word.result.now c.placed_room-in-Syntax.result c.in-Syntax.error c.in-Syntax.is c.syntax_word.ensures
    (c.placed_room-in-Syntax.ensures (codes "syntax ") (omega arith))

pub returns-in-Table : goal.returns-in-Table
returns-in-Table c =
    table_room c.args.answer.now c.in-Table.place c.table_word.result.now c.placed_room-in-Table.result c.in-Table.error c.in-Table.is c.table_word.ensures
    (c.placed_room-in-Table.ensures (codes "table ") (omega arith))

pub returns-in-Typing : goal.returns-in-Typing
returns-in-Typing c =
    type_room c.args.answer.now c.in-Typing.place c.type_word.result.now c.placed_room-in-Typing.result c.in-Typing.error c.in-Typing.is c.type_word.ensures
    (c.placed_room-in-Typing.ensures (codes "type ") (omega arith))

pub returns-in-Trap : goal.returns-in-Trap
returns-in-Trap c =
    IfSome_then c.run_room-in-Trap.result c.run_room-in-Trap.ensures
    (λ n fits. trap_room c.args.answer.now c.in-Trap.place c.trap_word.result.now n c.in-Trap.kind c.in-Trap.run' c.placed_room-in-Trap.result c.in-Trap.is c.trap_word.ensures
    (c.placed_room-in-Trap.ensures (codes "trap ") (omega arith)) (subst (λ ns. length (printed_text ns) + c.placed_room-in-Trap.result ≤ n) c.as_slice-in-Trap.ensures fits))
