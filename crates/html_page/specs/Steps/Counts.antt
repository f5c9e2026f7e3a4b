-- How often a text is among others.
use Rattle.std.specs.Prelude.{◌≡◌, ℕ, List}
use Rattle.std.specs.Borrow.{Bor}
use Rattle.std.specs.Option.{unwrap_or}
use Rattle.std.specs.BTreeMap.{BTreeMap, get_by}
use Rattle.std.specs.Cmp.Lexicographic.{slice_cmp}
use Rattle.std.specs.Ordering.{nat_cmp}
use Rattle.html_page.specs.Ids.{times}

abbrev pub count_of : BTreeMap (Bor (List ℕ)) ℕ → (text : List ℕ) → ℕ
count_of counts text = unwrap_or (get_by (λ key. slice_cmp nat_cmp text key.now) counts) 0

-- a map says it of each text
abbrev pub CountsAll : BTreeMap (Bor (List ℕ)) ℕ → List (List ℕ) → Type 0
CountsAll counts texts = (text : List ℕ) → count_of counts text ≡ times text texts
