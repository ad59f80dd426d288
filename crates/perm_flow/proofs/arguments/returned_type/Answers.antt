use Rattle.std.proofs.Common.{sym}
use Rattle.perm_flow.proofs.CallArguments.{result-same}
use Rattle.perm_flow.proofs.arguments.returned_type.Goals as goal

pub returns : goal.returns
returns c = sym (result-same c.args.body.now c.kept.ensures c.method.result.now c.method.ensures)
