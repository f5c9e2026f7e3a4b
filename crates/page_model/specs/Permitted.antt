-- Which texts a page may have: those that every reader of a medium gives back.
use Rattle.std.specs.Prelude.{ℕ, ◌%◌, Bool, true, not, ◌&&◌, ◌||◌, ◌==◌, nat_lt, nat_le, List, [], ◌∷◌, ◌++◌, Option, Some, None}
use Rattle.std.specs.List.{find, flat_map, list_all}
use Rattle.std.specs.Str.{chars}
use Rattle.page_model.specs.Content.{Piece, words, literal, value, link, page, Line, BlockSaid, paragraph, code, bullets, TargetSaid, to_page, to_heading, EntrySaid, FormSaid, PartSaid, heading, usage, block, entries, ChapterSaid, chapter, ChaptersSaid, no_chapters, chapters}

-- a noncharacter: U+FDD0 to U+FDEF, and the last two of each plane
abbrev pub is_noncharacter : ℕ → Bool
is_noncharacter c = (nat_le 0xFDD0 c && nat_le c 0xFDEF) || nat_le 0xFFFE (c % 0x1_0000)

-- a control character but newline and tab
abbrev pub is_control : ℕ → Bool
is_control c = (nat_lt c 32 && not (c == 9 || c == 10)) || (nat_le 127 c && nat_le c 159)

abbrev pub is_permitted : ℕ → Bool
is_permitted c = not (is_control c) && not (is_noncharacter c)

-- a byte that is no such control character by itself
abbrev pub is_permitted_byte : ℕ → Bool
is_permitted_byte b = not ((nat_lt b 32 && not (b == 9 || b == 10)) || b == 127)

abbrev pub are_permitted : List ℕ → Bool
are_permitted bytes = list_all is_permitted_byte bytes && list_all is_permitted (chars bytes)

abbrev pub is_permitted_piece : Piece → Bool
is_permitted_piece (words text) = are_permitted text
is_permitted_piece (literal text) = are_permitted text
is_permitted_piece (value text) = are_permitted text
is_permitted_piece (link text) = are_permitted text
is_permitted_piece (page name) = are_permitted name

abbrev pub is_permitted_line : Line → Bool
is_permitted_line line = list_all is_permitted_piece line

abbrev pub is_permitted_block : BlockSaid → Bool
is_permitted_block (paragraph lines) = list_all is_permitted_line lines
is_permitted_block (code lines) = list_all are_permitted lines
is_permitted_block (bullets items) = list_all (list_all is_permitted_line) items

abbrev pub is_permitted_target : TargetSaid → Bool
is_permitted_target (to_page name) = are_permitted name
is_permitted_target (to_heading title) = are_permitted title

abbrev pub leads_to_permitted : Option TargetSaid → Bool
leads_to_permitted None = true
leads_to_permitted (Some target) = is_permitted_target target

abbrev pub has_permitted_content : EntrySaid → Bool
has_permitted_content entry = list_all is_permitted_line entry.terms && list_all is_permitted_block entry.body

abbrev pub is_permitted_entry : EntrySaid → Bool
is_permitted_entry entry = leads_to_permitted entry.target && has_permitted_content entry

abbrev pub is_permitted_form : FormSaid → Bool
is_permitted_form form = are_permitted form.name && list_all is_permitted_line form.items

abbrev pub is_permitted_part : PartSaid → Bool
is_permitted_part (heading rank title) = are_permitted title
is_permitted_part (usage forms) = list_all is_permitted_form forms
is_permitted_part (block shown) = is_permitted_block shown
is_permitted_part (entries list) = list_all is_permitted_entry list

-- ---- the texts of a page, in order

abbrev pub piece_text : Piece → List ℕ
piece_text (words text) = text
piece_text (literal text) = text
piece_text (value text) = text
piece_text (link text) = text
piece_text (page name) = name

abbrev pub line_texts : Line → List (List ℕ)
line_texts line = flat_map (λ piece. piece_text piece ∷ []) line

abbrev pub block_texts : BlockSaid → List (List ℕ)
block_texts (paragraph lines) = flat_map line_texts lines
block_texts (code lines) = lines
block_texts (bullets items) = flat_map (flat_map line_texts) items

-- the name or the title to which an entry leads
abbrev pub target_texts : Option TargetSaid → List (List ℕ)
target_texts None = []
target_texts (Some (to_page name)) = name ∷ []
target_texts (Some (to_heading title)) = title ∷ []

abbrev pub entry_texts : EntrySaid → List (List ℕ)
entry_texts entry = target_texts entry.target ++ (flat_map line_texts entry.terms ++ flat_map block_texts entry.body)

abbrev pub form_texts : FormSaid → List (List ℕ)
form_texts form = form.name ∷ flat_map line_texts form.items

abbrev pub part_texts : PartSaid → List (List ℕ)
part_texts (heading rank title) = title ∷ []
part_texts (usage forms) = flat_map form_texts forms
part_texts (block shown) = block_texts shown
part_texts (entries list) = flat_map entry_texts list

-- of a level itself
abbrev pub level_texts : ChapterSaid → List (List ℕ)
level_texts (chapter title name about parts below) = (title ∷ (name ∷ [])) ++ (flat_map block_texts about ++ flat_map part_texts parts)

-- of a level and of those below it
abbrev mutual
  pub chapter_texts : ChapterSaid → List (List ℕ)
  chapter_texts (chapter title name about parts below) = level_texts (chapter title name about parts below) ++ chapters_texts below

  pub chapters_texts : ChaptersSaid → List (List ℕ)
  chapters_texts no_chapters = []
  chapters_texts (chapters one others) = chapter_texts one ++ chapters_texts others

-- the first text that is not permitted
abbrev pub refused_in : List (List ℕ) → Option (List ℕ)
refused_in texts = find (λ text. not (are_permitted text)) texts
