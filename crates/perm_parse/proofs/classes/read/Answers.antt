use Rattle.std.proofs.Common.{◌≡◌, Ok, List, [], drop, ap, arith, ◌∙◌}
use Rattle.std.proofs.lemmas.List.{drop_all}
use Rattle.perm_tree.specs.declared.tokens.Token.{Token}
use Rattle.perm_parse.specs.Answers.{read_from}
use Rattle.perm_parse.specs.Meaning.{classes_of}
use Rattle.perm_parse.specs.MemberResults.{Gives}
use Rattle.perm_parse.specs.States.{State}
use Rattle.perm_parse.proofs.WellFormed.{gives-orderly}
use Rattle.perm_parse.proofs.classes.read.Goals as goal

pub finish-requires : goal.finish-requires
finish-requires c =
    let new = c.classes.new.self in
    let reads = c.in_ok-classes.ensures.reads in
    let tree = reads.0.tree in
    let ended : drop new.at new.tokens.now ≡ [] = drop_all new.at new.tokens.now (omega (arith, reads.1)) in
    let gives : Gives c.args.text.now c.args.tokens.now (Ok new.program) =
    (tree, reads.0.leads.same ∙ ap (λ (ts : List Token). read_from ts (State.between_classes tree) new.at) ended, reads.0.program ∙ ap (classes_of c.args.text.now tree) c.in_ok-nothing_yet.ensures.ok) in
    gives-orderly c.args.text.now c.args.tokens.now new.program c.requires.some c.requires.order gives
