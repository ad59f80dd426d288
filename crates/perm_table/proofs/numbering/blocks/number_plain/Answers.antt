use Rattle.std.proofs.Common.{length}
use Rattle.perm_table.specs.Numbering.{setting_of}
use Rattle.perm_table.proofs.Emission.Statements.{emitted-plain}
use Rattle.perm_table.proofs.numbering.blocks.number_plain.Goals as goal

pub returns : goal.returns
returns c =
    let names = c.args.names.now in
    emitted-plain (setting_of names) c.args.bodies.now c.number_simple.new.bodies c.emit.new.bodies c.args.stmt.now c.args.next c.in_ok-first.first (length names.tables.program.exprs) c.in_ok-action.action c.written_by-written.result
    c.requires.next c.requires.simple c.in_ok-action.ensures c.in_ok-first.ensures.place c.in_ok-first.ensures.bodies c.written_by-written.ensures
