use Rattle.std.proofs.Common.{◌∙◌, List, ap, sym}
use Rattle.std.specs.Prelude.{map, slice_get}
use Rattle.perm_tree.specs.declared.unit.VarInfo.{VarInfo}
use Rattle.perm_tree.specs.declared.ast.Ty.{Ty}
use Rattle.perm_rules.proofs.BodiesThere.{body-types}
use Rattle.perm_rules.proofs.body.MethodBody.ty.Goals as goal

pub returns : goal.returns
returns c =
    c.type_among.ensures ∙ ap (λ (vs : List VarInfo). slice_get (map (λ v. v.ty) vs) c.args.x) c.vars.ensures ∙ ap (λ (ts : List Ty). slice_get ts c.args.x) (sym (body-types c.args.self.now c.kept.ensures))
