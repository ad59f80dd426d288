use Rattle.std.proofs.Common.{◌∙◌, sym}
use Rattle.perm_tree.specs.CodeOf.{code_of}
use Rattle.perm_meaning.proofs.Evaluator.NewObjects.{array-made}
use Rattle.perm_meaning.proofs.eval.heap.Heap.make_array.Goals as goal

pub returns : goal.returns
returns c =
    array-made (code_of c.args.unit.now) c.args.count c.in_ok-number.number c.in_ok-values.values c.args.self.now c.add.new.self
    (sym c.has_room.ensures ∙ c.if-not-has_room.false) c.in_ok-values.ensures c.in_ok-number.ensures.0 c.in_ok-number.ensures.1
