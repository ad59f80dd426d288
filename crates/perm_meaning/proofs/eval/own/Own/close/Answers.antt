use Rattle.std.proofs.Common.{◌≡◌, ◌∙◌, ap, subst, get_or}
use Rattle.std.specs.Prelude.{map}
use Rattle.perm_tree.specs.declared.ast.FieldDecl.{FieldDecl}
use Rattle.perm_tree.specs.CodeNames.{var_at}
use Rattle.perm_tree.specs.InBody.{setting_at}
use Rattle.perm_tree.specs.Scopes.{declared_at}
use Rattle.perm_meaning.specs.declared.eval.own.Own.{Own}
use Rattle.perm_meaning.specs.Expressions.{clear_all, tagged}
use Rattle.perm_meaning.specs.Evaluator.NumberedValues.{all_by}
use Rattle.perm_meaning.proofs.Evaluator.PartEnds.{own-step, own-done}
use Rattle.perm_meaning.proofs.eval.own.Own.close.Goals as goal

pub stmts-preserved : goal.stmts-preserved
stmts-preserved c = (
  c.undeclare.ensures.same ∙ ap (λ (o : Own). record o { vars = c.undeclare.new.self.vars }) c.stmts.invariant.0,
  λ names.
      let u = c.args.unit.now in
      let is = c.stmts_of-stmts.result.now in
      let i = c.stmts.at-index in
      let vs = all_by names c.stmts.self.vars in
      let ws = all_by names c.undeclare.new.self.vars in
      let vars = subst (λ m. ws ≡ clear_all tagged vs (map (λ (d : FieldDecl). var_at (setting_at u m) d.name) (declared_at u.program.stmts (get_or is i 0)))) (ap (λ (o : Own). o.«method») c.stmts.invariant.0) (c.undeclare.ensures.vars names) in
      own-step (setting_at u c.args.self.now.«method») is i 0 vs ws _ c.stmts-test.true vars (c.stmts.invariant.1 names),
)

pub returns-clause-vars : goal.returns-clause-vars
returns-clause-vars c names = own-done (setting_at c.args.unit.now c.args.self.now.«method») c.stmts_of-stmts.result.now c.stmts.at-index (all_by names c.stmts.self.vars) _ c.stmts-test.false (c.stmts.invariant.1 names)
