use Rattle.std.proofs.Common.{◌≡◌, drop, false, length}
use Rattle.console_page.specs.Usage.{outermost}
use Rattle.console_page.proofs.cuts.outermost.Given as goal

abbrev pub invariant-loop-byte : goal.invariant-loop-byte
invariant-loop-byte l = outermost l.least l.depth l.is_after_bar (drop l.byte-index l.bytes) ≡ outermost 18_446_744_073_709_551_615 (length l.item) false l.item
