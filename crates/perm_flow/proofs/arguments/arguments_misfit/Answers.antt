use Rattle.std.proofs.Common.{sym}
use Rattle.perm_tree.specs.BodyTerms.{argument_of}
use Rattle.perm_rules.specs.MethodBodies.{context_of}
use Rattle.perm_flow.proofs.CallArguments.{misfit-count}
use Rattle.perm_flow.proofs.arguments.arguments_misfit.Goals as goal

pub returns-then-args-params : goal.returns-then-args-params
returns-then-args-params c = sym (misfit-count (context_of c.args.body.now) (argument_of c.args.body.now.bodies.operations) (λ f. f.ty) c.args.args.now c.args.params.now c.if-args-params.true)
