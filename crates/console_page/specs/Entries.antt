-- Entries: terms, and what is said of them in a common column.
use Rattle.std.specs.Prelude.{ℕ, ◌-◌, ◌==◌, ◌&&◌, ◌||◌, Bool, true, false, List, [], ◌∷◌, ◌++◌, fold, flat_map, codes, max, nat_le, if◌then◌else◌}
use Rattle.std.specs.List.{before_first}
use Rattle.bpaf_doc.specs.Splitter.Chunks.{columns, has_some}
use Rattle.page_model.specs.Content.{Line, EntrySaid}
use Rattle.console_page.specs.Texts.{line_text}
use Rattle.console_page.specs.Lines.{blanks, parting, prefixed}
use Rattle.console_page.specs.Blocks.{blocks_text}

-- terms with a comma and a blank between two
abbrev pub further_term : Line → List ℕ
further_term term = codes ", " ++ line_text term

abbrev pub terms_text : List Line → List ℕ
terms_text [] = []
terms_text (term ∷ terms) = line_text term ++ flat_map further_term terms

-- a long name that comes first is indented as far as one after a short name
abbrev pub terms_front : List ℕ → List ℕ
terms_front (a ∷ b ∷ terms) = if (a == 45) && (b == 45) then codes "    " else []
terms_front _ = []

abbrev pub term_text : EntrySaid → List ℕ
term_text entry = terms_front (terms_text entry.terms) ++ terms_text entry.terms

-- ---- the column of what is said

-- the columns of a term that is at most 24 wide, and 0 of one that is wider
abbrev pub narrow : ℕ → ℕ
narrow n = if nat_le n 24 then n else 0

-- the widest so far, or this one
abbrev pub wider : ℕ → EntrySaid → ℕ
wider widest entry = max widest (narrow (columns (term_text entry)))

abbrev pub widest_of : ℕ → List EntrySaid → ℕ
widest_of widest list = fold wider widest list

-- ---- an entry

abbrev pub first_line : List ℕ → List ℕ
first_line text = before_first (λ b. b == 10) text

-- Whether what is said stands beside its term: its first line is not empty, and either it begins in the column, at
-- least two blanks after the term, or it fits two blanks after a wider term.
abbrev pub is_beside : ℕ → ℕ → List ℕ → List ℕ → Bool
is_beside width column term help =
    has_some (first_line help)
    && (nat_le 2 (column - columns term) || nat_le (columns (first_line help)) (width - columns term - 2))

-- the blanks between a term and what is said beside it
abbrev pub gap : ℕ → List ℕ → List ℕ
gap column term = blanks (max (column - columns term) 2)

-- a term and what is said, as they stand by themselves
abbrev pub hung : ℕ → ℕ → List ℕ → List ℕ → List ℕ
hung width column term help =
    if is_beside width column term help then prefixed (term ++ gap column term) (blanks column) help
    else term ++ (codes "\n" ++ prefixed (blanks column) (blanks column) help)

abbrev pub entry_text : ℕ → ℕ → EntrySaid → List ℕ
entry_text width column entry =
    hung width column (codes "    " ++ term_text entry) (blocks_text (width - column) entry.body)

-- whether an entry has several blocks
abbrev pub has_several : {X : Type 0} → List X → Bool
has_several (a ∷ b ∷ rest) = true
has_several _ = false

-- an empty line follows an entry that has several blocks, if there is another entry
abbrev pub entries_text : ℕ → ℕ → Bool → List EntrySaid → List ℕ
entries_text width column parted [] = []
entries_text width column parted (entry ∷ list) =
    parting parted ++ (entry_text width column entry ++ entries_text width column (has_several entry.body) list)
