use Rattle.std.proofs.Common.{◌≡◌, ◌∙◌, ◌≤◌, ◌/◌, ◌%◌, ◌^◌, length, [], ◌∷◌, inr, ap, refl, arith}
use Rattle.perm_meaning.specs.Effects.{depth_limit}
use Rattle.perm_tree.specs.BodyTerms.{stretch}
use Rattle.perm_step.specs.Working.{Working}
use Rattle.perm_step.proofs.Routines.CallArguments.{gives-behind, object-if, stretch-seen}
use Rattle.perm_step.proofs.control.Control.open.Goals as goal

pub returns-then-self-ge-MOST_DEPTH-clause-traps : goal.returns-then-self-ge-MOST_DEPTH-clause-traps
returns-then-self-ge-MOST_DEPTH-clause-traps c =
    let b = c.args.bodies.now in
    let v = c.args.call.now in
    let this = c.args.this in
    let given = c.in_ok-push_arguments.ensures.given in
    let count = ap (λ (s : Working). length s.vars) c.self.view_is in
    let end : c.len-end.result ≡ length c.args.self.now.vars = omega arith in
    let seen = stretch-seen b.arguments c.as_slice.result.now v.first v.count c.as_slice.ensures in
    let gives = gives-behind b.operations c.as_slice-2.result.now (stretch b.arguments v.first v.count) _ c.args.self.now c.push_word.new.self (this ∷ []) given.0 c.len-end.result c.as_slice-2.ensures seen end c.push_word.ensures given.1 in
    let depth = ap (λ (s : Working). s.depth) (c.self-2.view_is ∙ given.2) in
    let before = ap (λ (s : Working). s.depth) c.push_word.ensures in
    let deep : depth_limit ≤ c.args.self.now.depth = omega arith in
    inr (given.0, gives, inr (this, c.requires.receiver, object-if (this % 2 ^ 32) (this / 2 ^ 32) c.if-this-eq0.false, deep, refl))
