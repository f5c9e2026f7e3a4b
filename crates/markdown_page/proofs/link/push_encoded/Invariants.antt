use Rattle.std.proofs.Common.{◌≡◌, ◌++◌, take, string_bytes}
use Rattle.std.specs.Prelude.{flat_map}
use Rattle.markdown_page.specs.Kept.{encoded_byte}
use Rattle.markdown_page.proofs.link.push_encoded.Given as goal

abbrev pub invariant-loop-byte : goal.invariant-loop-byte
invariant-loop-byte g l = string_bytes l.out ≡ string_bytes l.initial.out ++ flat_map encoded_byte (take l.byte-index l.bytes)
