use Rattle.std.proofs.Common.{◌∙◌, ap, arith, length}
use Rattle.perm_tree.specs.Vars.{just}
use Rattle.perm_par.proofs.KnownVariables.{few-variables, known-past, known-within}
use Rattle.perm_par.specs.Known.{count_of}
use Rattle.perm_par.proofs.actions.known.Goals as goal

pub returns-then-vars-x : goal.returns-then-vars-x
returns-then-vars-x c = c.new.ensures ∙ known-past (count_of c.args.body.now) c.args.x (omega (arith, c.if-vars-x.true, ap length c.vars.ensures))

pub returns-in-Ok : goal.returns-in-Ok
returns-in-Ok c =
    c.just.ensures ∙ ap just c.in-Ok.ensures.1 ∙ known-within (count_of c.args.body.now) c.args.x (omega (arith, c.if-vars-x.false, ap length c.vars.ensures))

pub returns-in-Err : goal.returns-in-Err
returns-in-Err c = absurd (c.in-Err.ensures (omega (arith, few-variables c.args.body.now c.kept.ensures, c.if-vars-x.false, ap length c.vars.ensures)))
