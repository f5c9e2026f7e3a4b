use Rattle.std.proofs.Common.{◌≡◌, ◌++◌, ◌==◌, length, string_bytes}
use Rattle.std.specs.Prelude.{flat_map}
use Rattle.std.specs.List.{slice_split}
use denote.Text.{Utf8}
use denote.Shadow.{shadow}
use Rattle.console_page.specs.Usage.{items_text, kept}
use Rattle.console_page.specs.Steps.{left_after}
use Rattle.console_page.proofs.usage.push_words.Given as goal

-- what is written, and what is left, make up the whole
abbrev pub invariant-loop-word : goal.invariant-loop-word
invariant-loop-word g l = record {
  utf8 : shadow (Utf8 l.rest);
  written : string_bytes l.out ++ items_text l.hang.room l.hang.margin.now l.left (flat_map kept (slice_split (λ b. b == 32) l.rest)) ≡ string_bytes l.fn.out ++ items_text l.hang.room l.hang.margin.now l.first_left (flat_map kept (slice_split (λ b. b == 32) l.part));
  left : left_after l.hang.room l.left (flat_map kept (slice_split (λ b. b == 32) l.rest)) ≡ left_after l.hang.room l.first_left (flat_map kept (slice_split (λ b. b == 32) l.part));
}

abbrev pub decreases-loop-word : goal.decreases-loop-word
decreases-loop-word g l = length l.rest
