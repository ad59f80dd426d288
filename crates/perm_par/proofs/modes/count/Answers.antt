use Rattle.std.proofs.Common.{ap, arith, length}
use Rattle.perm_par.proofs.KnownVariables.{few-variables}
use Rattle.perm_par.proofs.modes.count.Goals as goal

pub overflow_cast-result : goal.overflow_cast-result
overflow_cast-result c = omega (arith, few-variables c.args.body.now c.kept.ensures, ap length c.vars.ensures)

pub returns : goal.returns
returns c = ap length c.vars.ensures
