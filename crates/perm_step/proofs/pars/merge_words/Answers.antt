use Rattle.std.proofs.Common.{refl, true, false, sym, ◌∙◌, arith}
use Rattle.perm_tree.specs.VarSets.{member}
use Rattle.perm_step.proofs.TwoSides.JoinMerging.{length-merged, merge-more, last-word}
use Rattle.perm_step.proofs.pars.merge_words.Goals.{then-contains, else-contains+then-contains-2, else-contains+else-contains-2}
use Rattle.perm_step.proofs.pars.merge_words.Goals as goal

pub loop-x-preserved : goal.loop-x-preserved
loop-x-preserved c =
    let more = merge-more (member c.args.sides.now.left) (member c.args.sides.now.right) c.args.words.now c.args.left.now c.args.right.now c.loop-x.words c.if-contains.words c.loop-x.x in
    elim c.if-contains.branch [
      | then-contains w ↦ more (member c.args.sides.now.left c.loop-x.x) true (omega arith) c.requires.lefts c.requires.rights c.loop-x.invariant refl (sym w.if-contains.ensures) w.words-is
      | else-contains+then-contains-2 w ↦ more true false (omega arith) c.requires.lefts c.requires.rights c.loop-x.invariant (sym w.if-contains-2.ensures) (sym w.if-contains.ensures) w.words-is
      | else-contains+else-contains-2 w ↦ more false false (omega arith) c.requires.lefts c.requires.rights c.loop-x.invariant (sym w.if-contains-2.ensures) (sym w.if-contains.ensures) w.words-is
    ]

pub returns : goal.returns
returns c =
    c.loop-x.invariant
    ∙ last-word _ c.args.words.now c.loop-x.x (omega arith) (length-merged (member c.args.sides.now.left) (member c.args.sides.now.right) c.args.words.now c.args.left.now c.args.right.now c.requires.lefts c.requires.rights)
