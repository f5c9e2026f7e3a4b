use Rattle.std.proofs.Common.{◌≡◌, drop}
use Rattle.markdown_page.specs.Bytes.{holds_definition}
use Rattle.markdown_page.proofs.Loops.{defines_after}
use Rattle.markdown_page.proofs.entry.holds_definition.Given as goal

abbrev pub invariant-loop-byte : goal.invariant-loop-byte
invariant-loop-byte l = holds_definition l.text ≡ defines_after l.is_after_bracket (drop l.byte-index l.text)
