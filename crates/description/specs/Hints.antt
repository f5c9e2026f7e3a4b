-- What a shell offers for a value.
use Rattle.std.specs.Prelude.{ℕ, List, codes}
use Rattle.description.specs.declared.hints.ValueHint.{ValueHint}
use Rattle.description.specs.declared.hints.ValueHint.TheVariants as hint

-- what says it in a description
abbrev pub hint_word : ValueHint → List ℕ
hint_word hint.File = codes "file"
hint_word hint.Folder = codes "folder"
hint_word hint.Nothing = codes "none"
hint_word hint.User = codes "user"
hint_word hint.Host = codes "host"
