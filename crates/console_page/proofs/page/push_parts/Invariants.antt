use Rattle.std.proofs.Common.{◌≡◌, ◌++◌, [], false, drop, map, string_bytes}
use denote.Text.{Utf8}
use denote.Shadow.{shadow}
use Rattle.page_model.specs.View.{part_of}
use Rattle.console_page.specs.Page.{parts_text}
use Rattle.console_page.proofs.page.push_parts.Given as goal

-- what is written, and what the remaining parts come to, make up the whole
abbrev pub invariant-loop-part : goal.invariant-loop-part
invariant-loop-part g l = record {
  utf8 : shadow (Utf8 l.margin);
  written : string_bytes l.out ++ parts_text l.sheet.width l.sheet.column l.sheet.word.now l.margin l.is_parted (map part_of (drop l.part-index l.parts)) ≡ string_bytes l.initial.out ++ parts_text l.sheet.width l.sheet.column l.sheet.word.now [] false (map part_of l.parts);
}
