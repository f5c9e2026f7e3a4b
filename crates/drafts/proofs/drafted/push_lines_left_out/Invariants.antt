use Rattle.std.proofs.Common.{◌≡◌, ◌++◌, drop, flat_map, map, string_bytes}
use Rattle.toml_pieces.specs.Toml.{left_out}
use Rattle.drafts.proofs.drafted.push_lines_left_out.Given as goal

abbrev pub invariant-loop-line : goal.invariant-loop-line
invariant-loop-line g l = record {
  so_far : string_bytes l.out ++ flat_map left_out (map (λ line. line.now) (drop l.line-index l.lines)) ≡ string_bytes l.initial.out ++ flat_map left_out (map (λ line. line.now) l.lines);
}
