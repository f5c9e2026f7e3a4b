use Rattle.std.proofs.Common.{◌≡◌, drop}
use Rattle.std.specs.List.{list_all}
use Rattle.std.specs.Char.{is_ascii_alphanumeric}
use Rattle.description_toml.proofs.decode.texts.are_alphanumeric.Given as goal

abbrev pub invariant-loop-byte : goal.invariant-loop-byte
invariant-loop-byte l = list_all is_ascii_alphanumeric (drop l.byte-index l.bytes) ≡ list_all is_ascii_alphanumeric l.bytes
