use Rattle.std.proofs.Common.{◌≡◌, drop}
use Rattle.man_page.specs.Exact.{ends_sentence}
use Rattle.man_page.proofs.lines.ends_sentence.Given as goal

abbrev pub invariant-loop-byte : goal.invariant-loop-byte
invariant-loop-byte l = ends_sentence l.has_ended l.text ≡ ends_sentence l.is_end (drop l.byte-index l.bytes)
