use Rattle.std.proofs.Common.{◌≡◌, [], ◌++◌, ◌∷◌, List, sym, ap, ◌∙◌, subst, arith}
use Rattle.std.proofs.lemmas.List.{nil_from_length}
use Rattle.perm_tree.specs.CodeOf.{code_of}
use Rattle.perm_step.specs.declared.control.Leaf as leaves
use Rattle.perm_step.specs.StemMoves.{AreSides, Rejoins}
use Rattle.perm_step.specs.Stems.{Means, Stack}
use Rattle.perm_step.specs.Working.{Working}
use Rattle.perm_step.proofs.ControlStacks.Finals.{not-due}
use Rattle.perm_step.proofs.ControlStacks.Joins.{few-here, few-variables, kept-means, lefts-fit, rejoins, rights-fit, some-parent, turns-fit, waits-so}
use Rattle.perm_step.proofs.ctl.join.Goals as goal

pub unreachable-requires : goal.unreachable-requires
unreachable-requires c =
    let k : Stack = record { bodies = c.left.inside.bodies.now; leaf = c.left.inside.leaf; parents = c.left.inside.parents.items; on_right = c.left.inside.on_right } in
    let u = code_of c.args.checked.now in
    let s = c.requires.sides.0 in
    let a = c.requires.sides.2 in
    not-due u k s (subst (λ (k : Stack). Means u k s) (sym c.left.view_is) a.on_left) a.left_end a.left_over c.in_default.ensures

pub unreachable-requires-in_default-end : goal.unreachable-requires-in_default-end
unreachable-requires-in_default-end c =
    let k : Stack = record { bodies = c.right.inside.bodies.now; leaf = c.right.inside.leaf; parents = c.right.inside.parents.items; on_right = c.right.inside.on_right } in
    let u = code_of c.args.checked.now in
    let t = c.requires.sides.1 in
    let a = c.requires.sides.2 in
    not-due u k t (subst (λ (k : Stack). Means u k t) (sym c.right.view_is) a.on_right) a.right_end a.right_over c.in_default-end.ensures

pub unreachable-requires-in_default-pop : goal.unreachable-requires-in_default-pop
unreachable-requires-in_default-pop c =
    let k : Stack = record { bodies = c.left.inside.bodies.now; leaf = c.left.inside.leaf; parents = c.left.inside.parents.items; on_right = c.left.inside.on_right } in
    let u = code_of c.args.checked.now in
    let s = c.requires.sides.0 in
    let a = c.requires.sides.2 in
    let none : c.pop.new.self.items ≡ [] = nil_from_length c.pop.new.self.items (omega (arith, c.in_default-pop.ensures.cases)) in
    some-parent u k s (subst (λ (k : Stack). Means u k s) (sym c.left.view_is) a.on_left) a.parent a.outer a.waits (c.in_default-pop.ensures.items ∙ ap (λ (ps : List Working). ps ++ []) none)

pub join-joined-requires-clause-par : goal.join-joined-requires-clause-par
join-joined-requires-clause-par c =
    let k : Stack = record { bodies = c.left.inside.bodies.now; leaf = c.left.inside.leaf; parents = c.left.inside.parents.items; on_right = c.left.inside.on_right } in
    let r : Stack = record { bodies = c.right.inside.bodies.now; leaf = c.right.inside.leaf; parents = c.right.inside.parents.items; on_right = c.right.inside.on_right } in
    let u = code_of c.args.checked.now in
    let s = c.requires.sides.0 in
    let t = c.requires.sides.1 in
    let a = subst (λ (k : Stack). AreSides u k r s t) (sym c.left.view_is) (subst (λ (r : Stack). AreSides u c.args.left.now r s t) (sym c.right.view_is) c.requires.sides.2) in
    waits-so u k r s t a c.pop.new.self.items c.in-Some-pop.parent c.in-Some-pop.ensures.items (few-variables c.unit.ensures c.resolved.ensures.resolved)

pub join-joined-requires-clause-turns : goal.join-joined-requires-clause-turns
join-joined-requires-clause-turns c =
    let k : Stack = record { bodies = c.left.inside.bodies.now; leaf = c.left.inside.leaf; parents = c.left.inside.parents.items; on_right = c.left.inside.on_right } in
    let r : Stack = record { bodies = c.right.inside.bodies.now; leaf = c.right.inside.leaf; parents = c.right.inside.parents.items; on_right = c.right.inside.on_right } in
    let u = code_of c.args.checked.now in
    let s = c.requires.sides.0 in
    let t = c.requires.sides.1 in
    let a = subst (λ (k : Stack). AreSides u k r s t) (sym c.left.view_is) (subst (λ (r : Stack). AreSides u c.args.left.now r s t) (sym c.right.view_is) c.requires.sides.2) in
    turns-fit u k r s t a c.pop.new.self.items c.in-Some-pop.parent c.in-Some-pop.ensures.items (few-variables c.unit.ensures c.resolved.ensures.resolved)

pub join-joined-requires-clause-lefts : goal.join-joined-requires-clause-lefts
join-joined-requires-clause-lefts c =
    let k : Stack = record { bodies = c.left.inside.bodies.now; leaf = c.left.inside.leaf; parents = c.left.inside.parents.items; on_right = c.left.inside.on_right } in
    let r : Stack = record { bodies = c.right.inside.bodies.now; leaf = c.right.inside.leaf; parents = c.right.inside.parents.items; on_right = c.right.inside.on_right } in
    let u = code_of c.args.checked.now in
    let s = c.requires.sides.0 in
    let t = c.requires.sides.1 in
    let a = subst (λ (k : Stack). AreSides u k r s t) (sym c.left.view_is) (subst (λ (r : Stack). AreSides u c.args.left.now r s t) (sym c.right.view_is) c.requires.sides.2) in
    lefts-fit u k r s t a c.pop.new.self.items c.in-Some-pop.parent c.in-Some-pop.ensures.items (few-variables c.unit.ensures c.resolved.ensures.resolved) c.in-Some.left_end c.in-Some-end.right_end c.in-Some.ensures c.in-Some-end.ensures

pub join-joined-requires-clause-rights : goal.join-joined-requires-clause-rights
join-joined-requires-clause-rights c =
    let k : Stack = record { bodies = c.left.inside.bodies.now; leaf = c.left.inside.leaf; parents = c.left.inside.parents.items; on_right = c.left.inside.on_right } in
    let r : Stack = record { bodies = c.right.inside.bodies.now; leaf = c.right.inside.leaf; parents = c.right.inside.parents.items; on_right = c.right.inside.on_right } in
    let u = code_of c.args.checked.now in
    let s = c.requires.sides.0 in
    let t = c.requires.sides.1 in
    let a = subst (λ (k : Stack). AreSides u k r s t) (sym c.left.view_is) (subst (λ (r : Stack). AreSides u c.args.left.now r s t) (sym c.right.view_is) c.requires.sides.2) in
    rights-fit u k r s t a c.pop.new.self.items c.in-Some-pop.parent c.in-Some-pop.ensures.items (few-variables c.unit.ensures c.resolved.ensures.resolved) c.in-Some.left_end c.in-Some-end.right_end c.in-Some.ensures c.in-Some-end.ensures

pub join-joined-requires-clause-few : goal.join-joined-requires-clause-few
join-joined-requires-clause-few c =
    let k : Stack = record { bodies = c.left.inside.bodies.now; leaf = c.left.inside.leaf; parents = c.left.inside.parents.items; on_right = c.left.inside.on_right } in
    let r : Stack = record { bodies = c.right.inside.bodies.now; leaf = c.right.inside.leaf; parents = c.right.inside.parents.items; on_right = c.right.inside.on_right } in
    let u = code_of c.args.checked.now in
    let s = c.requires.sides.0 in
    let t = c.requires.sides.1 in
    let a = subst (λ (k : Stack). AreSides u k r s t) (sym c.left.view_is) (subst (λ (r : Stack). AreSides u c.args.left.now r s t) (sym c.right.view_is) c.requires.sides.2) in
    few-here u k r s t a c.pop.new.self.items c.in-Some-pop.parent c.in-Some-pop.ensures.items (few-variables c.unit.ensures c.resolved.ensures.resolved)

pub returns-in-Ok-clause-joined : goal.returns-in-Ok-clause-joined
returns-in-Ok-clause-joined c s t sides =
    let k : Stack = record { bodies = c.left.inside.bodies.now; leaf = c.left.inside.leaf; parents = c.left.inside.parents.items; on_right = c.left.inside.on_right } in
    let r : Stack = record { bodies = c.right.inside.bodies.now; leaf = c.right.inside.leaf; parents = c.right.inside.parents.items; on_right = c.right.inside.on_right } in
    let u = code_of c.args.checked.now in
    let made : leaves.Leaf = record { control = c.join-joined.new.self; ending = c.in-Ok.ending } in
    let new : Stack = record { bodies = k.bodies; leaf = made; parents = c.pop.new.self.items; on_right = k.on_right } in
    let joined = λ (a : AreSides u k r s t).
    rejoins u k r s t a c.pop.new.self.items c.in-Some-pop.parent c.in-Some-pop.ensures.items (few-variables c.unit.ensures c.resolved.ensures.resolved) c.in-Some.left_end c.in-Some-end.right_end c.in-Some.ensures c.in-Some-end.ensures c.checked.ensures c.join-joined.new.self c.in-Ok.ending c.in-Ok.ensures.joins in
    subst (λ (r : Stack). (a : AreSides u c.args.left.now r s t) → Rejoins u new s a.parent a.outer a.left_end a.right_end) c.right.view_is
    (subst (λ (k : Stack). (a : AreSides u k r s t) → Rejoins u new s a.parent a.outer a.left_end a.right_end) c.left.view_is joined)
    sides

pub returns-in-Err-clause-means : goal.returns-in-Err-clause-means
returns-in-Err-clause-means c s m =
    let k : Stack = record { bodies = c.left.inside.bodies.now; leaf = c.left.inside.leaf; parents = c.left.inside.parents.items; on_right = c.left.inside.on_right } in
    let u = code_of c.args.checked.now in
    let q = c.join-joined.new.self in
    let parents : c.push_reserved.new.self.items ≡ c.pop.new.self.items ++ q ∷ [] = c.push_reserved.ensures.items in
    subst (λ (ps : List Working). Means u (record k { parents = ps }) s) (sym parents)
    (kept-means u k s c.pop.new.self.items c.in-Some-pop.parent q c.in-Some-pop.ensures.items c.in-Err.ensures.same (subst (λ (k : Stack). Means u k s) (sym c.left.view_is) m))
