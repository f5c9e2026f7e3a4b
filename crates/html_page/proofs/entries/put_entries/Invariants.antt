use Rattle.std.proofs.Common.{◌≡◌, ◌++◌, drop, flat_map, map}
use Rattle.page_model.specs.View.{entry_of}
use Rattle.html_page.specs.Page.{entries_events, entry_words}
use Rattle.html_page.specs.Steps.{said}
use Rattle.html_page.specs.Steps.View.{texts_of}
use Rattle.html_page.proofs.entries.put_entries.Given as goal

abbrev pub invariant-loop-entry : goal.invariant-loop-entry
invariant-loop-entry g l = record {
  put :
      said l.page (entries_events l.title (texts_of l.before) (map entry_of (drop l.entry-index l.entries)))
      ≡ said l.fn.page (entries_events l.title (texts_of l.fn.before) (map entry_of l.entries));
  counted : texts_of l.before ++ flat_map entry_words (map entry_of (drop l.entry-index l.entries)) ≡ texts_of l.fn.before ++ flat_map entry_words (map entry_of l.entries);
}
