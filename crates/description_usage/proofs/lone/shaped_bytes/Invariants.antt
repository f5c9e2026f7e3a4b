use Rattle.std.proofs.Common.{◌≡◌, ◌≤◌, [], drop, length, reverse}
use Rattle.description_usage.specs.Forms.{depths, shaped}
use Rattle.description_usage.proofs.Shaped.{lowest_of}
use Rattle.description_usage.proofs.lone.shaped_bytes.Given as goal

abbrev pub invariant-loop-at : goal.invariant-loop-at
invariant-loop-at g l = record {
  in_range : l.at ≤ length l.bytes;
  low : l.lowest ≡ lowest_of (drop l.at (depths [] l.bytes));
  put : reverse l.out.items ≡ drop l.at (shaped l.bytes);
}

abbrev pub decreases-loop-at : goal.decreases-loop-at
decreases-loop-at g l = l.at
