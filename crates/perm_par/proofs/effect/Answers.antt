use Rattle.std.proofs.Common.{◌∙◌, sym, subst}
use Rattle.perm_tree.specs.InBody.{IsBlockOf}
use Rattle.perm_tree.specs.UnitTables.{Tables}
use Rattle.perm_rules.specs.AtPlace.{effect_of}
use Rattle.perm_par.proofs.effect.Goals as goal

pub effect_in-requires : goal.effect_in-requires
effect_in-requires c =
    subst (λ (u : Tables). IsBlockOf u c.new.result.number c.args.block.now) (sym c.new.ensures.unit) (subst (λ m. IsBlockOf c.args.unit.now m c.args.block.now) (sym c.new.ensures.number) c.requires.block)

pub returns-clause-lost : goal.returns-clause-lost
returns-clause-lost c = c.effect_in.ensures.lost ∙ (λ i. (effect_of (c.new.ensures.unit i) (c.new.ensures.number i) c.args.block.now).lost)

pub returns-clause-made : goal.returns-clause-made
returns-clause-made c = c.effect_in.ensures.made ∙ (λ i. (effect_of (c.new.ensures.unit i) (c.new.ensures.number i) c.args.block.now).made)
