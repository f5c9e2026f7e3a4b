use Rattle.std.proofs.Common.{◌≡◌, true, drop}
use Rattle.man_page.specs.Exact.{is_spaced_text}
use Rattle.man_page.proofs.page.is_spaced.Given as goal

abbrev pub invariant-loop-byte : goal.invariant-loop-byte
invariant-loop-byte l = is_spaced_text true l.title ≡ is_spaced_text l.is_after_blank (drop l.byte-index l.bytes)
