use Rattle.std.proofs.Common.{sym, subst}
use Rattle.perm_tree.specs.CodeOf.{code_of}
use Rattle.perm_meaning.specs.declared.eval.parts.Part.{Part}
use Rattle.perm_meaning.specs.Evaluator.PartEnds.{EndsAs}
use Rattle.perm_meaning.specs.Evaluator.Parts.{end_in}
use Rattle.perm_meaning.proofs.eval.own.Own.end.Goals as goal

pub returns-in-First-clause-ends : goal.returns-in-First-clause-ends
returns-in-First-clause-ends c =
    let u = c.args.unit.now in
    subst (λ (p : Part). EndsAs (code_of u) (end_in u c.args.self.now.«method» p) c.args.self.now c.end_first.new.self c.end_first.result) (sym c.in-First.is) c.end_first.ensures.ends
