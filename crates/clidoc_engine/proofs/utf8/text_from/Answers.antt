use Rattle.std.proofs.lemmas.Str.{IsUtf8-string_bytes}
use Rattle.clidoc_engine.proofs.utf8.text_from.Goals as goal

pub returns-in-Ok-text_of-clause-utf8 : goal.returns-in-Ok-text_of-clause-utf8
returns-in-Ok-text_of-clause-utf8 g c = IsUtf8-string_bytes c.in-Ok-text_of.text
