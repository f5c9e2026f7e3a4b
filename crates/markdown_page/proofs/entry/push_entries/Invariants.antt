use Rattle.std.proofs.Common.{◌≡◌, ◌++◌, map, take, string_bytes}
use Rattle.std.specs.Prelude.{flat_map}
use Rattle.page_model.specs.View.{entry_of}
use Rattle.markdown_page.specs.Exact.{entry_text}
use Rattle.markdown_page.proofs.entry.push_entries.Given as goal

abbrev pub invariant-loop-entry : goal.invariant-loop-entry
invariant-loop-entry g l = string_bytes l.writer.page ≡ string_bytes l.initial.writer.page ++ flat_map entry_text (map entry_of (take l.entry-index l.entries))
