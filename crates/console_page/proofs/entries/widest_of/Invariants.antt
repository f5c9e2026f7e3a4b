use Rattle.std.proofs.Common.{◌≡◌, ◌≤◌, drop, map}
use Rattle.page_model.specs.View.{entry_of}
use Rattle.console_page.specs.Entries.{widest_of}
use Rattle.console_page.proofs.entries.widest_of.Given as goal

-- the widest of what is left and of what was seen is the widest of all
abbrev pub invariant-loop-entry : goal.invariant-loop-entry
invariant-loop-entry g l = record {
  widest : widest_of l.widest (map entry_of (drop l.entry-index l.entries)) ≡ widest_of l.before (map entry_of l.entries);
  narrow : l.widest ≤ 24;
}
