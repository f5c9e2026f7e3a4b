use Rattle.std.proofs.Common.{◌≡◌, ◌++◌, false, drop, map, string_bytes}
use Rattle.page_model.specs.View.{entry_of}
use Rattle.console_page.specs.Entries.{entries_text}
use Rattle.console_page.proofs.entries.push_all.Given as goal

-- what is written, and what the remaining entries come to, make up the whole
abbrev pub invariant-loop-entry : goal.invariant-loop-entry
invariant-loop-entry g l = string_bytes l.out ++ entries_text l.width l.column l.is_parted (map entry_of (drop l.entry-index l.entries)) ≡ string_bytes l.initial.out ++ entries_text l.width l.column false (map entry_of l.entries)
