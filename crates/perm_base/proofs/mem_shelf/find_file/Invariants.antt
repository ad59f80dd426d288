use Rattle.std.proofs.Common.{◌≡◌, drop}
use Rattle.perm_base.specs.MemFiles.{files_of}
use Rattle.perm_base.proofs.mem_shelf.find_file.Given as goal

abbrev pub invariant-loop-file : goal.invariant-loop-file
invariant-loop-file l = files_of l.files l.path ≡ files_of (drop l.file-index l.files) l.path
