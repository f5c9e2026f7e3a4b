use Rattle.std.proofs.Common.{◌≡◌, ◌++◌, drop, string_bytes}
use Rattle.html_page.specs.Ids.{id_text}
use Rattle.html_page.proofs.ids.push_text.Given as goal

abbrev pub invariant-loop-byte : goal.invariant-loop-byte
invariant-loop-byte g l = string_bytes l.id ++ id_text (drop l.byte-index l.bytes) ≡ string_bytes l.fn.id ++ id_text l.bytes
