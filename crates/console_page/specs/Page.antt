-- The page: an arrangement of lines that are each laid out by themselves.
use Rattle.std.specs.Prelude.{ℕ, ◌+◌, ◌-◌, Bool, true, false, not, List, [], ◌∷◌, ◌++◌, length, fold, codes}
use Rattle.page_model.specs.Content.{FormSaid, PartSaid, heading, usage, block, entries}
use Rattle.console_page.specs.declared.texts.Role.TheVariants.{Text}
use Rattle.console_page.specs.Texts.{shown}
use Rattle.console_page.specs.Lines.{prefixed, parting}
use Rattle.console_page.specs.Blocks.{block_text}
use Rattle.console_page.specs.Entries.{entries_text, widest_of}
use Rattle.console_page.specs.Usage.{usage_text}

-- The column of what is said of the entries of a page: two after the widest term of up to 24 columns, where terms are
-- indented by four columns.
abbrev pub widest_in : ℕ → PartSaid → ℕ
widest_in widest (heading rank title) = widest
widest_in widest (usage forms) = widest
widest_in widest (block shown) = widest
widest_in widest (entries list) = widest_of widest list

abbrev pub help_column : List PartSaid → ℕ
help_column parts = fold widest_in 0 parts + 6

-- A title is followed by a colon. A usage and a block have a margin before them, and entries have their own.
abbrev pub part_text : ℕ → ℕ → List ℕ → List ℕ → PartSaid → List ℕ
part_text width column word margin (heading rank title) = shown Text title ++ codes ":\n"
part_text width column word margin (usage forms) =
    prefixed margin margin (usage_text (width - length margin) word forms)
part_text width column word margin (block shown) =
    prefixed margin margin (block_text (width - length margin) shown)
part_text width column word margin (entries list) = entries_text width column false list

abbrev pub is_heading : PartSaid → Bool
is_heading (heading rank title) = true
is_heading (usage forms) = false
is_heading (block shown) = false
is_heading (entries list) = false

-- from the first heading on the margin is four columns
abbrev pub margin_after : List ℕ → PartSaid → List ℕ
margin_after margin (heading rank title) = codes "    "
margin_after margin (usage forms) = margin
margin_after margin (block shown) = margin
margin_after margin (entries list) = margin

-- an empty line stands before each part but the first, and not directly below a heading
abbrev pub parts_text : ℕ → ℕ → List ℕ → List ℕ → Bool → List PartSaid → List ℕ
parts_text width column word margin parted [] = []
parts_text width column word margin parted (part ∷ parts) =
    parting parted ++ (part_text width column word margin part
    ++ parts_text width column word (margin_after margin part) (not (is_heading part)) parts)

-- the word that stands before a usage, with its colon
abbrev pub word_text : List ℕ → List ℕ
word_text word = shown Text word ++ codes ": "

abbrev pub page_text : ℕ → List ℕ → List PartSaid → List ℕ
page_text width word parts = parts_text width (help_column parts) (word_text word) [] false parts

-- a usage alone
abbrev pub forms_text : ℕ → List FormSaid → List ℕ
forms_text width forms = usage_text width [] forms
