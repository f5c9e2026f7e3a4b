-- The words that choose what the program does.
use Rattle.std.specs.Prelude.{ℕ, List, [], ◌∷◌, codes}
use Rattle.helpdoc_engine.specs.declared.words.Form.{Form}
use Rattle.helpdoc_engine.specs.declared.words.Form.TheVariants.{Full, Brief, Html, Markdown, Man}
use Rattle.helpdoc_engine.specs.declared.words.Choice.{Choice}
use Rattle.helpdoc_engine.specs.declared.words.Choice.TheVariants.{Text, Sample}

-- the word for a form
abbrev pub form_word : Form → List ℕ
form_word Full = codes "full"
form_word Brief = codes "brief"
form_word Html = codes "html"
form_word Markdown = codes "markdown"
form_word Man = codes "man"

-- the words for a choice
abbrev pub spelling : Choice → List (List ℕ)
spelling (Text form) = codes "text" ∷ form_word form ∷ []
spelling (Sample form) = codes "sample" ∷ form_word form ∷ []
