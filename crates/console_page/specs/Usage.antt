-- A usage: the forms, each its name and items, as many as fit a line.
use Rattle.std.specs.Prelude.{ℕ, ◌+◌, ◌-◌, ◌==◌, ◌&&◌, ◌||◌, Bool, false, List, [], ◌∷◌, ◌++◌, length, map, flat_map, codes, min, nat_le, nat_lt, if◌then◌else◌}
use Rattle.std.specs.List.{list_all, slice_split}
use Rattle.std.specs.Str.{trim}
use Rattle.bpaf_doc.specs.Splitter.Chunks.{columns}
use Rattle.page_model.specs.Content.{FormSaid}
use Rattle.console_page.specs.declared.texts.Role.TheVariants.{Text}
use Rattle.console_page.specs.Texts.{shown, line_text}
use Rattle.console_page.specs.Lines.{blanks}

-- ---- items in lines

-- Where that many columns are left in a line, an item begins the next one if it does not fit after a blank, and has
-- more room there.
abbrev pub breaks : ℕ → ℕ → List ℕ → Bool
breaks room left item = nat_le left (columns item) && nat_lt left room

abbrev pub item_front : ℕ → List ℕ → ℕ → List ℕ → List ℕ
item_front room margin left item = if breaks room left item then codes "\n" ++ margin else codes " "

-- the columns that are left after it
abbrev pub left_after_item : ℕ → ℕ → List ℕ → ℕ
left_after_item room left item = (if breaks room left item then room else left - 1) - columns item

abbrev pub items_text : ℕ → List ℕ → ℕ → List (List ℕ) → List ℕ
items_text room margin left [] = []
items_text room margin left (item ∷ items) =
    item_front room margin left item ++ (item ++ items_text room margin (left_after_item room left item) items)

-- ---- what of an item is not broken

abbrev pub fits : ℕ → List ℕ → Bool
fits room item = nat_le (columns item) room

-- an item without letters is nothing
abbrev pub kept : List ℕ → List (List ℕ)
kept [] = []
kept (b ∷ item) = (b ∷ item) ∷ []

-- How deep in brackets a byte stands, of those that open or close one; nothing is deeper than the greatest usize.
abbrev pub is_opening : ℕ → Bool
is_opening b = (b == 91 || b == 40) || (b == 123 || b == 60)

abbrev pub is_closing : ℕ → Bool
is_closing b = (b == 93 || b == 41) || (b == 125 || b == 62)

abbrev pub depth_after : ℕ → ℕ → ℕ
depth_after depth b =
    if is_opening b then min (depth + 1) 18_446_744_073_709_551_615 else if is_closing b then depth - 1 else depth

-- a blank after a bar
abbrev pub is_bar_end : Bool → ℕ → Bool
is_bar_end after_bar b = after_bar && b == 32

-- the least depth at which a bar stands
abbrev pub least_after : ℕ → ℕ → Bool → ℕ → ℕ
least_after least depth after_bar b = if is_bar_end after_bar b then min least depth else least

abbrev pub outermost : ℕ → ℕ → Bool → List ℕ → ℕ
outermost least depth after_bar [] = least
outermost least depth after_bar (b ∷ item) =
    outermost (least_after least depth after_bar b) (depth_after depth b) (b == 124) item

-- an item with newlines in place of the blanks after the bars of a depth
abbrev pub is_cut : ℕ → ℕ → Bool → ℕ → Bool
is_cut least depth after_bar b = is_bar_end after_bar b && depth == least

abbrev pub cut_byte : ℕ → ℕ → Bool → ℕ → ℕ
cut_byte least depth after_bar b = if is_cut least depth after_bar b then 10 else b

abbrev pub cut_bars : ℕ → ℕ → Bool → List ℕ → List ℕ
cut_bars least depth after_bar [] = []
cut_bars least depth after_bar (b ∷ item) =
    cut_byte least depth after_bar b ∷ cut_bars least (depth_after depth b) (b == 124) item

-- an item with newlines after its outermost bars; closing brackets may come before opening ones
abbrev pub cut_item : List ℕ → List ℕ
cut_item item = cut_bars (outermost 18_446_744_073_709_551_615 (length item) false item) (length item) false item

-- a part of an item, without white space at its ends: whole, where it fits a line, otherwise its words
abbrev pub part_pieces : ℕ → List ℕ → List (List ℕ)
part_pieces room part =
    if fits room (trim part) then kept (trim part) else flat_map kept (slice_split (λ b. b == 32) (trim part))

-- An item that fits a line alone is not broken. A wider one breaks at its outermost bars, and then at blanks.
abbrev pub pieces : ℕ → List ℕ → List (List ℕ)
pieces room item =
    if fits room item then kept item
    else flat_map (part_pieces room) (slice_split (λ b. b == 10) (cut_item item))

-- ---- a form

-- the columns after a front that takes that many, and a blank
abbrev pub room_after : ℕ → ℕ → ℕ
room_after width taken = width - taken - 1

abbrev pub all_fit : ℕ → List (List ℕ) → Bool
all_fit room items = list_all (fits room) items

-- Lines except the first begin under the first item, or four columns in where the widest item would not fit there.
abbrev pub form_margin : ℕ → ℕ → List (List ℕ) → List ℕ
form_margin width taken items =
    if all_fit (room_after width taken) items then blanks taken ++ codes " " else codes "    "

-- items after a front
abbrev pub hung_items : ℕ → List ℕ → List ℕ → List (List ℕ) → List ℕ
hung_items width front margin items =
    front ++ (items_text (width - length margin) margin (width - columns front)
    (flat_map (pieces (width - length margin)) items) ++ codes "\n")

unfoldable pub hanging : ℕ → List ℕ → List (List ℕ) → List ℕ
hanging width front items = hung_items width front (form_margin width (columns front) items) items

abbrev pub form_text : ℕ → List ℕ → FormSaid → List ℕ
form_text width word form = hanging width (word ++ shown Text form.name) (map line_text form.items)

-- the first form after a word, and the others under it
abbrev pub usage_text : ℕ → List ℕ → List FormSaid → List ℕ
usage_text width word [] = []
usage_text width word (form ∷ forms) =
    form_text width word form ++ flat_map (form_text width (blanks (columns word))) forms
