use Rattle.std.proofs.Common.{◌≡◌, ◌≤◌, ◌+◌, take}
use Rattle.perm_tree.specs.TextPlaces.{line_behind, column_behind}
use Rattle.perm_tree.proofs.place.place_of.Given as goal

abbrev pub invariant-loop-byte : goal.invariant-loop-byte
invariant-loop-byte l = record {
  line : l.place.line ≡ line_behind (take l.byte-index l.byte-items);
  column : l.place.column ≡ column_behind (take l.byte-index l.byte-items);
  line_small : l.place.line ≤ 1 + l.byte-index;
  column_small : l.place.column ≤ 1 + l.byte-index;
}
