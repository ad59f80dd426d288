use Rattle.std.proofs.Common.{◌≡◌, ◌++◌, drop, map}
use Rattle.perm_tree.specs.declared.ast.FieldDecl.{FieldDecl}
use Rattle.perm_meaning.specs.Evaluator.NumberedHeap.{zero_value}
use Rattle.perm_meaning.proofs.eval.heap.first_values.Given as goal

abbrev pub invariant-fields : goal.invariant-fields
invariant-fields l = l.values ++ map (λ (f : FieldDecl). zero_value f.ty) (drop l.field-index l.fields) ≡ map (λ (f : FieldDecl). zero_value f.ty) l.fields
