-- What an entry that is written says.
use Rattle.std.specs.Prelude.{◌++◌}
use Rattle.completions.specs.Content.{EntrySaid}
use Rattle.completions.specs.declared.entries.Entry.{Entry}

abbrev pub entry_said : Entry → EntrySaid
entry_said e = record { what = e.what.now; text = e.front.now ++ e.text.now; hint = e.hint.now; help = e.help.now }
