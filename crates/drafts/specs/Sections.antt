-- What a draft is made of: each line of a help text that is not blank is in one section.
use Rattle.std.specs.Prelude.{ℕ, ◌≡◌, All, Bool, true, Contains, List, [], ◌∷◌, ◌++◌, codes, count_by, filter, flat_map}
use Rattle.std.specs.Str.{trim}
use Rattle.help_blocks.specs.Laws.{is_usage_line}
use Rattle.toml_pieces.specs.Toml.{Piece, left_out, table, text_at, word_at}
use Rattle.drafts.specs.Entries.{entry_table}
use Rattle.drafts.specs.Free.{Has}
use Rattle.drafts.specs.Laws.{is_inked, letters, piece_letters}
use Rattle.drafts.specs.Passages.{PassageSaid, first_line}
use Rattle.drafts.specs.Places.{TakenSaid, is_given, keys_by}
use Rattle.drafts.specs.Seen.{title_text}
use Rattle.drafts.specs.Strays.{options_in, strays}
use Rattle.drafts.specs.Usages.{FormSaid, is_inked as has_letters, line_forms, usage_pieces}

-- a key, a table or some comments, and the lines of which they are written
pub record Section : Type 0 where
  pub lines : List (List ℕ)
  pub text : List ℕ

-- ---- how lines are written

abbrev pub title_at : (name line : List ℕ) → List ℕ
title_at name line = table name ++ word_at (codes "title") (title_text line)

-- pieces of a text that have all letters of the lines, in order
abbrev pub HaveLetters : (lines : List (List ℕ)) → List Piece → Type 0
HaveLetters lines pieces = flat_map piece_letters pieces ≡ flat_map letters lines

-- the keys of texts
abbrev pub text_keys : List (List ℕ)
text_keys = codes "about" ∷ codes "header" ∷ codes "footer" ∷ []

-- the forms of a usage that stands in these lines
abbrev pub forms_of : (lines : List (List ℕ)) → List FormSaid
forms_of lines = filter has_letters (line_forms lines)

-- lines that begin with the word
abbrev pub IsUsageOf : (lines : List (List ℕ)) → Type 0
IsUsageOf lines = is_usage_line (first_line lines) ≡ true

abbrev pub usage_text : (each : List (List (List ℕ))) → List ℕ
usage_text each = text_at (codes "usage") (usage_pieces (flat_map forms_of each))

pub data IsWrittenAs : (lines : List (List ℕ)) → (text : List ℕ) → Type 0 where
  nothing : {lines : List (List ℕ)} {text : List ℕ} → lines ≡ [] → text ≡ [] → IsWrittenAs lines text
  -- as comments, as they stand
  left_out_lines : {lines : List (List ℕ)} {text : List ℕ} → text ≡ flat_map left_out lines → IsWrittenAs lines text
  -- a title that pages have of themselves, as a comment
  usual_title : {lines : List (List ℕ)} {text : List ℕ} (line : List ℕ) → lines ≡ line ∷ []
      → text ≡ codes "\n# " ++ (trim line ++ codes "\n") → IsWrittenAs lines text
  -- texts, as the value of a key
  value_of : {lines : List (List ℕ)} {text : List ℕ} (key : List ℕ) (pieces : List Piece) → Contains text_keys key
      → text ≡ text_at key pieces → HaveLetters lines pieces → IsWrittenAs lines text
  -- a title and the texts below it
  topic : {lines : List (List ℕ)} {text : List ℕ} (line : List ℕ) (below : List (List ℕ)) (pieces : List Piece)
      → lines ≡ line ∷ below → text ≡ title_at (codes "topic") line ++ text_at (codes "text") pieces
      → HaveLetters below pieces → IsWrittenAs lines text
  -- the title of a group
  group : {lines : List (List ℕ)} {text : List ℕ} (line : List ℕ) → lines ≡ line ∷ [] → text ≡ title_at (codes "group") line
      → IsWrittenAs lines text
  -- usages: all their forms, without `usage:` and `or:`
  usages : {lines : List (List ℕ)} {text : List ℕ} (each : List (List (List ℕ))) → All IsUsageOf each
      → lines ≡ flat_map (λ own. own) each → text ≡ usage_text each → IsWrittenAs lines text
  -- an entry that a description takes with the names that are free: an option that has one, a command or a value
  entry : {lines : List (List ℕ)} {text : List ℕ} (t : TakenSaid) (in_group : Bool) (p : PassageSaid) → lines ≡ p.lines
      → is_given (keys_by t p) ≡ true → text ≡ entry_table t.options in_group p → IsWrittenAs lines text

-- ---- all lines

-- each line as often in one list as in the other
abbrev pub AreSame : (xs ys : List (List ℕ)) → Type 0
AreSame xs ys = (test : List ℕ → Bool) → count_by test xs ≡ count_by test ys

-- the name, sections one after another, of which each line that is not blank is in exactly one, and options that
-- stand in the forms of a usage alone, whichever names are taken
pub record IsDraftOf (lines : List (List ℕ)) (text : List ℕ) : Type 0 where
  pub name : List ℕ
  pub sections : List Section
  pub usages : List (List (List ℕ))
  pub has : Has
  pub whole : text ≡ word_at (codes "name") name
      ++ (flat_map (λ section. section.text) sections ++ strays has (options_in has (flat_map forms_of usages)))
  pub once : AreSame (filter is_inked (flat_map (λ section. section.lines) sections)) (filter is_inked lines)
  pub written : All (λ section. IsWrittenAs section.lines section.text) sections
  pub used : Contains sections (record { lines = flat_map (λ own. own) usages; text = usage_text usages })
