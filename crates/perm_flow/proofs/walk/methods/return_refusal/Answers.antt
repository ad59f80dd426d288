use Rattle.std.proofs.Common.{◌≡◌, ◌∙◌, [], ap, subst, Some}
use Rattle.perm_tree.specs.declared.ast.Method.{Method}
use Rattle.perm_tree.specs.Code.{Return}
use Rattle.perm_tree.specs.CodeNames.{argument}
use Rattle.perm_tree.specs.VarSets.{member}
use Rattle.perm_rules.specs.FirstRefused.{first_refused}
use Rattle.perm_rules.specs.MethodBodies.{context_of, setting_of}
use Rattle.perm_flow.proofs.WholeMethods.{none-hidden, return-stops, return-passes}
use Rattle.perm_flow.proofs.walk.methods.return_refusal.Goals as goal

pub returns-in-Err : goal.returns-in-Err
returns-in-Err c d there =
    let b = c.args.body.now in
    let k = setting_of b in
    let same : c.method.result.now ≡ d = cc (c.method.ensures, there) in
    let back : c.back.ensures.«method» ≡ d = cc (c.back.ensures.there, there) in
    subst (λ (e : Method). Some c.in-Err.error ≡ first_refused (context_of b) (Return e.span (argument k d.back)) (member c.args.live)) same
    (return-stops (context_of b) c.method.result.now.span _ (argument k d.back) (member c.args.live) c.in-Err.error (c.back.ensures.value ∙ ap (λ (e : Method). argument k e.back) back) (c.in-Err.ensures [] (none-hidden b c.new.result c.new.ensures)))

pub returns-in-Ok : goal.returns-in-Ok
returns-in-Ok c d there =
    let b = c.args.body.now in
    let k = setting_of b in
    let back : c.back.ensures.«method» ≡ d = cc (c.back.ensures.there, there) in
    return-passes (context_of b) d.span _ (argument k d.back) (member c.args.live) (c.back.ensures.value ∙ ap (λ (e : Method). argument k e.back) back) (c.in-Ok.ensures [] (none-hidden b c.new.result c.new.ensures))
