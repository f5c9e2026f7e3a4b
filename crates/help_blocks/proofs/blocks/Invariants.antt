use Rattle.std.proofs.Common.{◌≡◌, ◌+◌, ◌-◌, length, map}
use Rattle.help_blocks.specs.Shapes.{first_shape}
use Rattle.help_blocks.specs.Blocks.{pairs}
use Rattle.help_blocks.proofs.Read.{IsRead}
use Rattle.help_blocks.proofs.blocks.Given as goal

abbrev pub invariant-loop-number : goal.invariant-loop-number
invariant-loop-number g l = record {
  room : l.number + length l.rest ≡ length l.lines;
  here_is : l.here ≡ first_shape (map (λ line. line.now) l.rest);
  so_far : IsRead (pairs (map (λ line. line.now) l.lines)) (pairs (map (λ line. line.now) l.rest)) l.place l.found.items l.number;
}

abbrev pub decreases-loop-number : goal.decreases-loop-number
decreases-loop-number g l = length l.lines - l.number
