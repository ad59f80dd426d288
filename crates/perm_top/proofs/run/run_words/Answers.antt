use Rattle.std.proofs.Common.{◌∙◌, map}
use Rattle.perm_top.specs.Causes.{named_path}
use Rattle.perm_top.proofs.Complete.{complete_from}
use Rattle.perm_top.proofs.run.run_words.Goals as goal

pub returns-clause-complete : goal.returns-clause-complete
returns-clause-complete g c =
    complete_from (g.F.Shelf.told c.args.shelf.now) (g.F.Shelf.faults c.args.shelf.now) (g.F.Shelf.faults c.answer_to.new.shelf) (named_path (map (λ w. w.now) c.args.words.now))
    c.in_ok-answer.answer (g.K.Sink.told c.args.sink.now) (g.K.Sink.told c.write.new.sink) (g.K.Sink.faults c.args.sink.now) (g.K.Sink.faults c.write.new.sink)
    c.as_slice.result.now c.status_of.result c.write.result c.in_ok-answer.ensures.caused (c.as_slice.ensures.value ∙ c.fill.ensures) c.status_of.ensures c.write.ensures
