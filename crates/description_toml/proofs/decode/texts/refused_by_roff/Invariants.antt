use Rattle.std.proofs.Common.{◌≡◌, drop}
use Rattle.std.specs.List.{list_all}
use Rattle.description_toml.specs.Described.Texts.{is_read_once}
use Rattle.description_toml.proofs.decode.texts.refused_by_roff.Given as goal

abbrev pub invariant-loop-byte : goal.invariant-loop-byte
invariant-loop-byte l = list_all is_read_once (drop l.byte-index l.bytes) ≡ list_all is_read_once l.bytes
