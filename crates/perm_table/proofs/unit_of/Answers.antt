use Rattle.perm_tree.proofs.ClassMaps.{distinct-words}
use Rattle.perm_table.proofs.unit_of.Goals as goal

pub class_map-requires : goal.class_map-requires
class_map-requires c = distinct-words c.args.program c.requires.formed c.requires.accepted
