use Rattle.std.proofs.Common.{◌≡◌, [], drop, reverse}
use Rattle.std.specs.List.{fold}
use Rattle.drafts.specs.Options.{with_byte}
use Rattle.drafts.proofs.options.are_paired.Given as goal

abbrev pub invariant-loop-byte : goal.invariant-loop-byte
invariant-loop-byte g l = record {
  so_far : fold with_byte (reverse l.left.items) (drop l.byte-index l.text) ≡ fold with_byte [] l.text;
}
