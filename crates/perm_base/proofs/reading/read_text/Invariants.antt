use Rattle.std.proofs.Common.{◌≡◌, ◌≤◌, ◌+◌, ◌-◌, vec_len}
use Rattle.perm_base.specs.Reads.{ReadsUpTo}
use Rattle.perm_base.proofs.ReadParts.{IsFrontWhereTold}
use Rattle.perm_base.proofs.reading.read_text.Given as goal

abbrev pub invariant-loop-piece : goal.invariant-loop-piece
invariant-loop-piece g l = record {
  front : IsFrontWhereTold (g.F.Shelf.told l.fn.shelf) l.path l.text.items;
  most : vec_len l.text ≤ l.most;
  told : g.F.Shelf.told l.shelf ≡ g.F.Shelf.told l.fn.shelf;
  counts : g.F.Shelf.faults l.shelf ≡ g.F.Shelf.faults l.fn.shelf;
  reads : g.F.Shelf.reads l.shelf ≤ g.F.Shelf.reads l.fn.shelf + vec_len l.text;
  pieces : ReadsUpTo g.F.Shelf.read_gives l.path l.limit l.fn.shelf (vec_len l.text) l.shelf;
}

abbrev pub decreases-loop-piece : goal.decreases-loop-piece
decreases-loop-piece g l = l.most - vec_len l.text
