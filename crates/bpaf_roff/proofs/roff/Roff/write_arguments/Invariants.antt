use Rattle.std.proofs.Common.{◌≡◌, ◌≤◌, length, map, take}
use Rattle.std.specs.Prelude.{flat_map}
use Rattle.bpaf_roff.specs.Roff.{with_pieces, argument_pieces, text_at}
use Rattle.bpaf_roff.proofs.roff.Roff.write_arguments.Given as goal

abbrev pub invariant-loop-argument : goal.invariant-loop-argument
invariant-loop-argument g l = record {
  in_range : l.argument-index ≤ length l.args;
  pieces : l.self ≡ with_pieces l.fn.self (flat_map argument_pieces (map text_at (take l.argument-index l.args)));
}
