-- What a manual page says, as one sees it: headings, paragraphs, examples and synopses, in order.
use Rattle.std.specs.Prelude.{ℕ, List}
use Rattle.page_model.specs.declared.parts.Rank.{Rank}

pub data Font : Type 0 where
  Roman : Font
  Bold : Font
  Italic : Font

-- A byte that is shown, and its font, as its line asks for it: headings and names of synopses are also set bold.
pub record Glyph : Type 0 where
  pub byte : ℕ
  pub font : Font

-- what a paragraph has before it: nothing, its tag, a bullet, or only the indent of a tagged one
pub data Kind : Type 0 where
  Plain : Kind
  Tagged : List Glyph → Kind
  Bulleted : Kind
  Continued : Kind

-- An indent of that many columns, or a usual one, which says what nests in what, but not how wide it is.
pub data Indent : Type 0 where
  Usual : Indent
  Columns : ℕ → Indent

-- A paragraph and an example have the indents that they stand in, the innermost first; a paragraph the lines between
-- its line breaks, and an example its lines as they stand.
pub data Said : Type 0 where
  Heading : Rank → List Glyph → Said
  Paragraph : List Indent → Kind → List (List Glyph) → Said
  Example : List Indent → List (List Glyph) → Said
  Synopsis : List Glyph → List (List Glyph) → Said

-- a page: the words of its title line, and what it says
pub record Sheet : Type 0 where
  pub title : List (List Glyph)
  pub said : List Said
