use Rattle.perm_tree.specs.CodeNames.{tied_before}
use Rattle.perm_tree.specs.Vars.{those}
use Rattle.perm_flow.proofs.HiddenSets.{nothing-more, tied-more, tied-all}
use Rattle.perm_flow.proofs.walk.hidden.tied_before.Goals as goal

pub vars-init : goal.vars-init
vars-init c x within = nothing-more c.new-set.result (those (tied_before c.args.end 0 c.args.vars.now)) x c.new-set.ensures

pub vars-preserved : goal.vars-preserved
vars-preserved c x within =
    tied-more c.args.end c.args.vars.now c.vars.at c.is_tied.result c.vars.set c.with_if-set.result x (those (tied_before c.args.end 0 c.args.vars.now) x)
    c.vars-test.true c.is_tied.ensures (c.with_if-set.ensures x within) (c.vars.invariant x within)

pub returns : goal.returns
returns c x within = tied-all c.args.end c.args.vars.now c.vars.at c.vars.set x (those (tied_before c.args.end 0 c.args.vars.now) x) c.vars-test.false (c.vars.invariant x within)
