use Rattle.std.proofs.Common.{◌≡◌, ◌≤◌, length, IfSome, Some}
use denote.Text.{Utf8}
use denote.Shadow.{shadow}
use Rattle.toml.specs.Data.{Members}
use Rattle.toml.specs.Parse.{parse_document}
use Rattle.keyed.specs.Steps.{EndsDocument}
use Rattle.keyed.proofs.entries.entry_of.Given as goal

abbrev pub invariant-lines : goal.invariant-lines
invariant-lines l =
    shadow (Utf8 l.rest) × IfSome l.section (λ n. n ≤ length l.fn.path)
    × ((ms : Members) → parse_document l.fn.text ≡ Some ms → EndsDocument l.rest)

abbrev pub decreases-lines : goal.decreases-lines
decreases-lines l = length l.rest
