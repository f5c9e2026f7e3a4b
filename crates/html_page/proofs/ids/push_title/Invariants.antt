use Rattle.std.proofs.Common.{◌≡◌, ◌++◌, drop, string_bytes}
use Rattle.html_page.specs.Ids.{chapter_id}
use Rattle.html_page.proofs.ids.push_title.Given as goal

abbrev pub invariant-loop-byte : goal.invariant-loop-byte
invariant-loop-byte g l = string_bytes l.id ++ chapter_id (drop l.byte-index l.bytes) ≡ string_bytes l.fn.id ++ chapter_id l.bytes
