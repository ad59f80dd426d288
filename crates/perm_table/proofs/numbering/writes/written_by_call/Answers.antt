use Rattle.std.proofs.Common.{◌≡◌, ◌+◌, ◌-◌, subst, arith, map, take, drop}
use Rattle.perm_tree.specs.BodyTerms.{argument_of, stretch}
use Rattle.perm_tree.specs.Mentions.{arguments_consume, just_if, just_option}
use Rattle.perm_tree.specs.VarSets.{member}
use Rattle.perm_table.proofs.Emission.Sets.{call-writes}
use Rattle.perm_table.proofs.numbering.writes.written_by_call.Goals as goal

pub returns : goal.returns
returns c all x within =
    let v = c.args.call in
    let args = c.args.arguments.now in
    let count : v.first + v.count - v.first ≡ v.count = omega arith in
    call-writes c.with_result.result c.with_receiver.result c.consumed_in-set.result (just_if v.consumed v.receiver) (arguments_consume (map (argument_of all) (stretch args v.first v.count))) (just_option v.into) x
    (c.with_result.ensures x within) (c.with_receiver.ensures x within)
    (subst (λ n. member c.consumed_in-set.result x ≡ arguments_consume (map (argument_of all) (take n (drop v.first args))) x) count (c.consumed_in-set.ensures all x within))
