use Rattle.std.proofs.Common.{◌≡◌, map, take}
use Rattle.file_names.specs.Names.{names_said}
use Rattle.clidoc_engine.specs.Files.{file_said, names_of}
use Rattle.clidoc_engine.proofs.files.names_of.Given as goal

abbrev pub invariant-loop-file : goal.invariant-loop-file
invariant-loop-file g l = names_said l.names.items ≡ names_of (map file_said (take l.file-index l.files))
