use Rattle.std.proofs.Common.{subst, List, ℕ}
use Rattle.perm_tree.specs.CodeOf.{block_code}
use Rattle.perm_table.specs.Emission.{IsEmitted}
use Rattle.perm_table.specs.Numbering.{setting_of}
use Rattle.perm_table.specs.StepPlaces.{block_holds}
use Rattle.perm_table.proofs.Emission.Methods.{method-answer}
use Rattle.perm_table.proofs.numbering.methods.number_method.Goals as goal

pub returns : goal.returns
returns c =
    let names = c.args.names.now in
    let k = setting_of names in
    method-answer k c.args.bodies.now c.number_argument.new.bodies c.emit.new.bodies c.number_block.new.bodies c.add_entry.new.bodies c.args.method.now 0 c.in_ok-end.end c.args.variables c.in_ok-back.back c.in_ok-body.body c.add_entry.result
    c.requires.variables c.in_ok-back.ensures c.in_ok-end.ensures.place c.in_ok-end.ensures.bodies
    (subst (λ (is : List ℕ). IsEmitted k c.emit.new.bodies c.in_ok-end.end c.number_block.new.bodies (block_code k is) (block_holds k is) c.in_ok-body.body) c.as_slice.ensures c.in_ok-body.ensures)
    c.add_entry.ensures
