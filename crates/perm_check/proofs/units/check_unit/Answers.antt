use Rattle.std.proofs.Common.{sym}
use Rattle.perm_tree.specs.CodeOf.{code_of}
use Rattle.perm_rules.proofs.Refusals.{accepted-unrefused}
use Rattle.perm_check.proofs.units.check_unit.Goals as goal

pub of-requires : goal.of-requires
of-requires c = (accepted-unrefused (code_of c.args.unit)).1 (sym c.in-None.ensures)

pub returns-in-None-clause-accepted : goal.returns-in-None-clause-accepted
returns-in-None-clause-accepted c = (c.of.ensures, (accepted-unrefused (code_of c.args.unit)).1 (sym c.in-None.ensures))

pub returns-in-Some-clause-refused : goal.returns-in-Some-clause-refused
returns-in-Some-clause-refused c = sym c.in-Some.ensures
