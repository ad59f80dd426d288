use Rattle.std.proofs.Common.{◌∙◌, sym, subst}
use Rattle.perm_tree.specs.InBody.{IsBlockOf}
use Rattle.perm_tree.specs.UnitTables.{Tables}
use Rattle.perm_rules.specs.AtPlace.{sets_of}
use Rattle.perm_par.proofs.sets.Goals as goal

pub sets_in-requires : goal.sets_in-requires
sets_in-requires c =
    subst (λ (u : Tables). IsBlockOf u c.new.result.number c.args.block.now) (sym c.new.ensures.unit) (subst (λ m. IsBlockOf c.args.unit.now m c.args.block.now) (sym c.new.ensures.number) c.requires.block)

pub returns : goal.returns
returns c = c.sets_in.ensures ∙ (λ i. sets_of (c.new.ensures.unit i) (c.new.ensures.number i) c.args.block.now)
