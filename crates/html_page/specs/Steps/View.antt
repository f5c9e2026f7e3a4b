-- What the code has counted.
use Rattle.std.specs.Prelude.{ℕ, List, map}
use Rattle.html_page.specs.Page as page
use Rattle.html_page.specs.declared.counts.Counts.{Counts}
use Rattle.html_page.specs.declared.parts.Before.{Before}

abbrev pub texts_of : {B : Type 0} → Counts B → List (List ℕ)
texts_of counts = map (λ text. text.now) counts.texts.items

abbrev pub before_of : {B : Type 0} → Before B → page.Before
before_of before = record { words = texts_of before.words; headings = texts_of before.headings }
