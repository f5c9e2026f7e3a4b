-- What entries and their keys say.
use Rattle.page_model.specs.View.{entry_of}
use Rattle.page_model.specs.declared.parts.Entry.{Entry}
use Rattle.description_pages.specs.Keys.{key_said, RowSaid}
use Rattle.description_pages.specs.declared.keys.EntryKey.{EntryKey}
use Rattle.description_pages.specs.declared.once.Keyed.{Keyed}

abbrev pub row_said : {A : Type 0} → Keyed EntryKey (Entry A) → RowSaid
row_said row = record { key = key_said row.key; entry = entry_of row.item }
