use Rattle.std.proofs.Common.{◌≡◌, ◌≤◌, drop, map}
use Rattle.std.specs.Prelude.{fold}
use Rattle.page_model.specs.View.{part_of}
use Rattle.console_page.specs.Page.{widest_in}
use Rattle.console_page.proofs.page.help_column.Given as goal

abbrev pub invariant-loop-part : goal.invariant-loop-part
invariant-loop-part g l = record {
  widest : fold widest_in l.widest (map part_of (drop l.part-index l.parts)) ≡ fold widest_in 0 (map part_of l.parts);
  narrow : l.widest ≤ 24;
}
