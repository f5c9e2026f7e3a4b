use Rattle.std.proofs.Common.{◌≡◌, ◌≤◌, length, map, take, string_bytes}
use Rattle.bpaf_help.proofs.pages.paths.copy_of.Given as goal

abbrev pub invariant-loop-name : goal.invariant-loop-name
invariant-loop-name g l = record {
  in_range : l.name-index ≤ length l.path;
  copied : map string_bytes l.copy.items ≡ map string_bytes (take l.name-index l.path);
}
