use Rattle.std.proofs.Common.{◌≡◌, List, subst, map}
use Rattle.perm_tree.specs.declared.bodies.Argument.{Argument}
use Rattle.perm_tree.specs.BodyTerms.{argument_of, stretch}
use Rattle.perm_tree.specs.Mentions.{arguments_consume, just_if, just_option}
use Rattle.perm_tree.specs.Vars.{minus}
use Rattle.perm_tree.specs.VarSets.{member}
use Rattle.perm_flow.proofs.LiveSets.{call-live}
use Rattle.perm_flow.proofs.walk.live.after_call.Goals as goal

pub returns : goal.returns
returns c x within =
    let v = c.args.call in
    let all = c.args.body.now.bodies.operations in
    let args = stretch c.args.body.now.bodies.arguments v.first v.count in
    call-live c.with_result.result c.without_arguments-set.result c.without_receiver-set.result (member c.args.live) (just_if v.consumed v.receiver) (arguments_consume (map (argument_of all) args)) (just_option v.into) x
    (c.with_result.ensures x within)
    (subst (λ (l : List Argument). member c.without_arguments-set.result x ≡ minus (member c.without_receiver-set.result) (arguments_consume (map (argument_of all) l)) x) c.given.ensures.values (c.without_arguments-set.ensures x within))
    (c.without_receiver-set.ensures x within)
