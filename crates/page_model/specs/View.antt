-- What the parts of a page say.
use Rattle.std.specs.Prelude.{ℕ, List, [], ◌∷◌, map, Option, option_map}
use Rattle.std.specs.Borrow.{Bor}
use Rattle.page_model.specs.Content.{Piece, words, literal, value, link, page, Line, BlockSaid, paragraph, code, bullets, TargetSaid, to_page, to_heading, EntrySaid, FormSaid, PartSaid, heading, usage, block, entries, ChapterSaid, chapter, ChaptersSaid, no_chapters, chapters}
use Rattle.page_model.specs.declared.parts.Inline.{Inline}
use Rattle.page_model.specs.declared.parts.Inline.TheVariants as inline
use Rattle.page_model.specs.declared.parts.Block as blocks
use Rattle.page_model.specs.declared.parts.Block.TheVariants as shown
use Rattle.page_model.specs.declared.parts.Target.{Target}
use Rattle.page_model.specs.declared.parts.Target.TheVariants as target
use Rattle.page_model.specs.declared.parts.Entry.{Entry}
use Rattle.page_model.specs.declared.parts.Form.{Form}
use Rattle.page_model.specs.declared.parts.Part.{Part}
use Rattle.page_model.specs.declared.parts.Chapter.{Chapter, Chapter-F, fold-Chapter}
use Rattle.page_model.specs.declared.parts.Part.TheVariants as parts

abbrev pub piece_of : Inline → Piece
piece_of (inline.Words text) = words text.now
piece_of (inline.Literal text) = literal text.now
piece_of (inline.Value text) = value text.now
piece_of (inline.Link text) = link text.now
piece_of (inline.Page name) = page name.now

abbrev pub line_of : List Inline → Line
line_of pieces = map piece_of pieces

abbrev pub block_of : {A : Type 0} → blocks.Block A → BlockSaid
block_of (shown.Paragraph lines) = paragraph (map (λ line. line_of line.items) lines.items)
block_of (shown.Code lines) = code (map (λ line. line.now) lines.items)
block_of (shown.List items) = bullets (map (λ item. map (λ line. line_of line.items) item.items) items.items)

abbrev pub target_of : Target → TargetSaid
target_of (target.Page name) = to_page name.now
target_of (target.Heading title) = to_heading title.now

abbrev pub entry_of : {A : Type 0} → Entry A → EntrySaid
entry_of entry = record {
  word = entry.word.now;
  target = option_map target_of entry.target;
  terms = map (λ term. line_of term.items) entry.terms.items;
  body = map block_of entry.body.items;
}

abbrev pub form_of : {A : Type 0} → Form A → FormSaid
form_of form = record {
  name = form.name.now;
  items = map (λ item. line_of item.items) form.items.items;
}

abbrev pub part_of : {A : Type 0} → Part A → PartSaid
part_of (parts.Heading rank title) = heading rank title.now
part_of (parts.Usage forms) = usage (map form_of forms.items)
part_of (parts.Block shown) = block (block_of shown)
part_of (parts.Entries list) = entries (map entry_of list.items)

abbrev pub chapters_in : List ChapterSaid → ChaptersSaid
chapters_in [] = no_chapters
chapters_in (first ∷ others) = chapters first (chapters_in others)

-- one level, with those below it already seen
abbrev pub chapter_step : {A : Type 0} → Chapter-F A ChapterSaid → ChapterSaid
chapter_step level =
    chapter level.title.now level.name.now (map block_of level.about.items) (map part_of level.parts.items)
    (chapters_in level.below.items)

abbrev pub chapter_of : {A : Type 0} → Chapter A → ChapterSaid
chapter_of {A} = fold-Chapter A ChapterSaid chapter_step

-- a text that is there, or none
abbrev pub text_of : Option (Bor (List ℕ)) → Option (List ℕ)
text_of = option_map (λ text. text.now)
