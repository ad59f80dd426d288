use Rattle.std.proofs.Common.{◌≡◌, drop}
use Rattle.perm_tree.specs.CodeOf.{code_of}
use Rattle.perm_rules.specs.FirstRefused.{methods_refusal, unit_refusal}
use Rattle.perm_check.proofs.units.unit_refusal.Given as goal

abbrev pub invariant-methods : goal.invariant-methods
invariant-methods l = unit_refusal (code_of l.unit) ≡ methods_refusal (code_of l.unit) (drop l.method (code_of l.unit).routines)
