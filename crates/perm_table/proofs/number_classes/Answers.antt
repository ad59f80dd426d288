use Rattle.std.proofs.Common.{◌∙◌, sym, subst}
use Rattle.perm_tree.specs.Places.{IsPlaced}
use Rattle.perm_tree.specs.WellFormed.{IsOrderly}
use Rattle.perm_tree.proofs.ResolvedLaws.{resolved-placed}
use Rattle.perm_tree.proofs.ResolvedTypes.{resolved-orderly}
use Rattle.perm_table.specs.Numbers.{number_in}
use Rattle.perm_table.proofs.Renaming.{renamed-program}
use Rattle.perm_table.proofs.number_classes.Goals as goal

pub with-requires : goal.with-requires
with-requires c =
    let p = c.args.program in
    let split = c.into_parts-rest in
    let parts = c.in_ok-parts in
    let is = renamed-program p split.result.0 (number_in c.args.numbers.now) split.result.1 parts.parts split.ensures.rest split.ensures.classes split.ensures.stmts split.ensures.mentions
    parts.ensures.classes parts.ensures.stmts parts.ensures.mentions c.requires in
    subst IsPlaced (sym is) (resolved-placed p split.ensures.formed.placed)

pub finish-requires : goal.finish-requires
finish-requires c =
    let p = c.args.program in
    let split = c.into_parts-rest in
    let parts = c.in_ok-parts in
    let is = renamed-program p split.result.0 (number_in c.args.numbers.now) split.result.1 parts.parts split.ensures.rest split.ensures.classes split.ensures.stmts split.ensures.mentions
    parts.ensures.classes parts.ensures.stmts parts.ensures.mentions c.requires in
    subst IsOrderly (sym (c.with.ensures ∙ is)) (resolved-orderly p split.ensures.formed.orderly)

pub returns-clause-formed : goal.returns-clause-formed
returns-clause-formed c = c.into_parts-rest.ensures.formed

pub returns-clause-program : goal.returns-clause-program
returns-clause-program c =
    let split = c.into_parts-rest in
    let parts = c.in_ok-parts in
    c.finish.ensures ∙ c.with.ensures
    ∙ renamed-program c.args.program split.result.0 (number_in c.args.numbers.now) split.result.1 parts.parts split.ensures.rest split.ensures.classes split.ensures.stmts split.ensures.mentions
    parts.ensures.classes parts.ensures.stmts parts.ensures.mentions c.requires
