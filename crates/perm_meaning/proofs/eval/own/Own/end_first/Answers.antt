use Rattle.std.proofs.Common.{◌∙◌, Option, refl, sym, ap, subst}
use Rattle.perm_tree.specs.declared.ast.Stmt.{Stmt}
use Rattle.perm_tree.specs.CodeOf.{code_of}
use Rattle.perm_tree.specs.InBody.{setting_at}
use Rattle.perm_tree.specs.Places.{Listing}
use Rattle.perm_meaning.specs.declared.eval.ends.Ended.TheVariants.{Closes}
use Rattle.perm_meaning.specs.Evaluator.PartEnds.{EndsAs}
use Rattle.perm_meaning.specs.Evaluator.Parts.{first_end_if}
use Rattle.perm_meaning.proofs.Evaluator.PartEnds.{stmt-there, stmt-gone}
use Rattle.perm_meaning.proofs.eval.own.Own.end_first.Goals as goal

pub returns-in-Some-clause-ends : goal.returns-in-Some-clause-ends
returns-in-Some-clause-ends c =
    let u = c.args.unit.now in
    let here = stmt-there c.stmts.result.now u.program.stmts c.args.at c.in-Some.stmt.now _ (c.stmts.ensures.value ∙ ap (λ (p : Listing). p.stmts) c.program.ensures) c.in-Some.ensures.lookup.3.0 c.in-Some.ensures.lookup.1 in
    subst (λ (o : Option Stmt). EndsAs (code_of u) (first_end_if (setting_at u c.args.self.now.«method») o) c.args.self.now c.end_of.new.self c.end_of.result) (sym here) c.end_of.ensures.ends

pub returns-in-None-clause-ends : goal.returns-in-None-clause-ends
returns-in-None-clause-ends c =
    let u = c.args.unit.now in
    let here = stmt-gone c.stmts.result.now u.program.stmts c.args.at (c.stmts.ensures.value ∙ ap (λ (p : Listing). p.stmts) c.program.ensures) c.in-None.ensures.lookup.0 in
    subst (λ (o : Option Stmt). EndsAs (code_of u) (first_end_if (setting_at u c.args.self.now.«method») o) c.args.self.now c.args.self.now Closes) (sym here) (λ names fits again m e. refl)
