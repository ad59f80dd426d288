use Rattle.std.proofs.Common.{◌≡◌, ◌≤◌, Some, length, take, vec_len, arith, rules, subst, sym, ◌∙◌, length-take}
use Rattle.perm_base.specs.Reads.{ReadsUpTo, asked_count, no_read, one_more}
use Rattle.std.proofs.lemmas.Result.{err_from_is_err_and}
use Rattle.perm_base.proofs.ReadParts.{ended, more_read}
use Rattle.perm_base.proofs.reading.read_text.Goals as goal

pub loop-piece-init : goal.loop-piece-init
loop-piece-init g c = record {
  front = search rules;
  most = omega arith;
  told = search rules;
  counts = search rules;
  reads = omega arith;
  pieces = subst (λ n. ReadsUpTo g.F.Shelf.read_gives c.args.path.now c.args.limit c.args.shelf.now n c.args.shelf.now) (sym c.new-text.ensures.len) no_read;
}

pub returns-in_err-read_piece-clause-pieces : goal.returns-in_err-read_piece-clause-pieces
returns-in_err-read_piece-clause-pieces g c =
    let p = err_from_is_err_and c.from_residual.result c.from_residual.ensures.1 in
    let size = length (take c.min-size.result c.loop-piece.piece) in
    let asked : size ≡ asked_count c.args.limit (vec_len c.loop-piece.text) = omega (arith, length-take c.min-size.result c.loop-piece.piece) in
    let missing : vec_len c.loop-piece.text ≤ c.args.limit = omega arith in
    rw (p.1, p.2) (ended g.F.Shelf.read_gives c.args.path.now c.args.limit c.args.shelf.now (vec_len c.loop-piece.text) size c.loop-piece.shelf c.read_piece.new.shelf
    c.in_err-read_piece.field-0.0 c.loop-piece.invariant.pieces missing asked c.in_err-read_piece.ensures.given)

pub loop-piece-preserved : goal.loop-piece-preserved
loop-piece-preserved g c =
    let step = c.in_ok-read_piece.ensures in
    let within : c.in_ok-read_piece.field-0 ≤ c.min-size.result = omega (arith, step.within, length-take c.min-size.result c.loop-piece.piece) in
    let asked : length (take c.min-size.result c.loop-piece.piece) ≡ asked_count c.args.limit (vec_len c.loop-piece.text) = omega (arith, length-take c.min-size.result c.loop-piece.piece) in
    record {
      front = more_read (g.F.Shelf.told c.args.shelf.now) (g.F.Shelf.told c.loop-piece.shelf) c.args.path.now c.loop-piece.text.items c.read_piece.new.text.items
          c.read_piece.new.piece c.in_ok-read_piece.field-0 (vec_len c.loop-piece.text) c.loop-piece.invariant.told (omega arith) c.loop-piece.invariant.front
          step.copied step.appended;
      most = omega (arith, step.text_length, within);
      told = c.read_piece.ensures.unchanged ∙ c.loop-piece.invariant.told;
      counts = step.counts ∙ c.loop-piece.invariant.counts;
      reads = omega (arith, c.loop-piece.invariant.reads, step.text_length);
      pieces = one_more (vec_len c.loop-piece.text) c.in_ok-read_piece.field-0 (vec_len c.read_piece.new.text) c.loop-piece.shelf c.read_piece.new.shelf
          c.loop-piece.invariant.pieces (omega arith) (omega arith)
          (subst (λ k. g.F.Shelf.read_gives c.loop-piece.shelf c.args.path.now (vec_len c.loop-piece.text) k (Some c.in_ok-read_piece.field-0) c.read_piece.new.shelf)
          asked step.given) step.text_length;
    }
