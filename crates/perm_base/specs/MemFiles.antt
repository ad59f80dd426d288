-- The files of a shelf in memory, and its calls that fail.
use Rattle.std.specs.Prelude.{ℕ, ◌-◌, List, [], ◌∷◌, ◌++◌, length, take, drop, min, if◌then◌else◌, Option, None, Some, bytes_eq, string_bytes}
use Rattle.perm_base.specs.Files.{Files}
use Rattle.perm_base.specs.declared.mem_shelf.MemFile.{MemFile}

-- what stands under a path: of files with equal paths the first counts
abbrev pub files_of : List MemFile → Files
files_of [] path = None
files_of (file ∷ files) path =
    if bytes_eq (string_bytes file.path) path then Some file.bytes.items else files_of files path

-- what is told of these files
abbrev pub told_of : List MemFile → Option Files
told_of files = Some (files_of files)

-- how many bytes a read from a place takes into a buffer
abbrev pub copied_count : List ℕ → ℕ → List ℕ → ℕ
copied_count bytes at buffer = min (length buffer) (length bytes - at)

-- the buffer after that read: what came, and then what it held
abbrev pub copied : List ℕ → ℕ → List ℕ → List ℕ
copied bytes at buffer =
    take (copied_count bytes at buffer) (drop at bytes) ++ drop (copied_count bytes at buffer) buffer
