use Rattle.std.proofs.Common.{◌≡◌, drop}
use Rattle.std.specs.List.{list_any}
use Rattle.std.specs.Prelude.{bytes_eq}
use Rattle.toml_parser.specs.Reading.{path_view}
use Rattle.keyed.proofs.names.is_among.Given as goal

abbrev pub invariant-loop-part : goal.invariant-loop-part
invariant-loop-part l = list_any (λ part. bytes_eq part l.name) (path_view (drop l.part-index l.parts)) ≡ list_any (λ part. bytes_eq part l.name) (path_view l.parts)
