use Rattle.std.proofs.Common.{◌≡◌, ◌++◌, ◌==◌, length, string_bytes}
use Rattle.std.specs.Prelude.{flat_map}
use Rattle.std.specs.List.{slice_split}
use denote.Text.{Utf8}
use denote.Shadow.{shadow}
use Rattle.console_page.specs.Usage.{items_text, part_pieces}
use Rattle.console_page.specs.Steps.{left_after}
use Rattle.console_page.proofs.usage.push_parts.Given as goal

-- what is written, and what is left, make up the whole
abbrev pub invariant-loop-part : goal.invariant-loop-part
invariant-loop-part g l = record {
  utf8 : shadow (Utf8 l.rest);
  written : string_bytes l.out ++ items_text l.hang.room l.hang.margin.now l.left (flat_map (part_pieces l.hang.room) (slice_split (λ b. b == 10) l.rest)) ≡ string_bytes l.fn.out ++ items_text l.hang.room l.hang.margin.now l.first_left (flat_map (part_pieces l.hang.room) (slice_split (λ b. b == 10) l.text));
  left : left_after l.hang.room l.left (flat_map (part_pieces l.hang.room) (slice_split (λ b. b == 10) l.rest)) ≡ left_after l.hang.room l.first_left (flat_map (part_pieces l.hang.room) (slice_split (λ b. b == 10) l.text));
}

abbrev pub decreases-loop-part : goal.decreases-loop-part
decreases-loop-part g l = length l.rest
