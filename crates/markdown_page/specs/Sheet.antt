-- What a page in markdown says, as one sees it: headings, items, paragraphs and code, in order.
use Rattle.std.specs.Prelude.{ℕ, Bool, List, Option}

-- a byte that is shown, whether it is code, and the address of the link that it stands in
pub record Glyph : Type 0 where
  pub byte : ℕ
  pub is_code : Bool
  pub address : Option (List ℕ)

-- Items, paragraphs and code have the number of items that they stand in. A list is the items that follow one another
-- with nothing but their content between them. A paragraph has the lines between its line breaks, and code its lines as
-- they stand.
pub data Said : Type 0 where
  Heading : ℕ → List Glyph → Said
  Item : ℕ → Said
  Paragraph : ℕ → List (List Glyph) → Said
  Code : ℕ → List (List ℕ) → Said
