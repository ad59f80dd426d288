use Rattle.std.proofs.Common.{◌∙◌, sym, subst}
use Rattle.perm_tree.specs.InBody.{IsBlockOf}
use Rattle.perm_tree.specs.UnitTables.{Tables}
use Rattle.perm_rules.specs.AtPlace.{uses_of}
use Rattle.perm_par.proofs.uses.Goals as goal

pub uses_in-requires : goal.uses_in-requires
uses_in-requires c =
    subst (λ (u : Tables). IsBlockOf u c.new.result.number c.args.block.now) (sym c.new.ensures.unit) (subst (λ m. IsBlockOf c.args.unit.now m c.args.block.now) (sym c.new.ensures.number) c.requires.block)

pub returns : goal.returns
returns c = c.uses_in.ensures ∙ (λ i. uses_of (c.new.ensures.unit i) (c.new.ensures.number i) c.args.block.now)
