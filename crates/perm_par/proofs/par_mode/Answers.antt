use Rattle.std.proofs.Common.{◌∙◌, sym, subst}
use Rattle.perm_tree.specs.InBody.{AreParOf}
use Rattle.perm_tree.specs.UnitTables.{Tables}
use Rattle.perm_rules.specs.AtPlace.{par_mode_of}
use Rattle.perm_par.proofs.par_mode.Goals as goal

pub par_mode_in-requires : goal.par_mode_in-requires
par_mode_in-requires c =
    subst (λ (u : Tables). AreParOf u c.new.result.number c.args.left.now c.args.right.now) (sym c.new.ensures.unit) (subst (λ m. AreParOf c.args.unit.now m c.args.left.now c.args.right.now) (sym c.new.ensures.number) c.requires.par)

pub returns : goal.returns
returns c = c.par_mode_in.ensures ∙ (λ i. par_mode_of (c.new.ensures.unit i) (c.new.ensures.number i) c.args.left.now c.args.right.now)
