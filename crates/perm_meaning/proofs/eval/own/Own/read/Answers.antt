use Rattle.std.proofs.Common.{◌∙◌, sym, subst}
use Rattle.std.specs.Prelude.{cond}
use Rattle.perm_tree.specs.Code.{LoadField, LoadLength}
use Rattle.perm_tree.specs.CodeNames.{field_at, var_at}
use Rattle.perm_tree.specs.CodeOf.{code_of}
use Rattle.perm_tree.specs.InBody.{setting_at}
use Rattle.perm_meaning.specs.Evaluator.SimpleStatements.{Asks}
use Rattle.perm_meaning.proofs.eval.own.Own.read.Goals as goal

pub returns-then-is_length : goal.returns-then-is_length
returns-then-is_length c =
    let k = setting_at c.args.unit.now c.args.self.now.«method» in
    subst (λ b. Asks (code_of c.args.unit.now) (cond b (LoadLength c.args.x (var_at k c.args.y)) (LoadField c.args.x (var_at k c.args.y) (field_at k c.args.y c.args.f))) c.args.self.now c.args.self.now c.load_length.result)
    (sym c.if-is_length.true ∙ c.is_length.ensures) c.load_length.ensures

pub returns-else-is_length : goal.returns-else-is_length
returns-else-is_length c =
    let k = setting_at c.args.unit.now c.args.self.now.«method» in
    subst (λ b. Asks (code_of c.args.unit.now) (cond b (LoadLength c.args.x (var_at k c.args.y)) (LoadField c.args.x (var_at k c.args.y) (field_at k c.args.y c.args.f))) c.args.self.now c.args.self.now c.load_field.result)
    (sym c.if-is_length.false ∙ c.is_length.ensures)
    (subst (λ f. Asks (code_of c.args.unit.now) (LoadField c.args.x (var_at k c.args.y) f) c.args.self.now c.args.self.now c.load_field.result) c.field-f.ensures c.load_field.ensures)
