-- Laws of a page: each link leads somewhere, and no two elements have one id.
use Rattle.std.specs.Prelude.{◌≡◌, ℕ, ◌<◌, ◌^◌, List, [], ◌∷◌, ◌++◌, ◌||◌, ◌&&◌, ◌==◌, length, map, filter, flat_map, codes, bytes_eq, Bool, true, not, Option, Some, None}
use Rattle.std.specs.List.{list_all, list_any}
use Rattle.web_page.specs.Tree.{Attribute, Nodes, none, text, element}
use Rattle.page_model.specs.Content.{Piece, link, Line, BlockSaid, paragraph, code, bullets, TargetSaid, to_page, to_heading, EntrySaid, PartSaid, heading, usage, block, entries, ChapterSaid, chapter, ChaptersSaid, no_chapters, chapters}
use Rattle.html_page.specs.Promises.{page_tree}
use Rattle.html_page.specs.View.{FrameSaid}

-- ---- attributes

-- the values of the attributes of this name
abbrev pub values_named : (name : List ℕ) → List Attribute → List (List ℕ)
values_named name attributes = map (λ (a : Attribute). a.value) (filter (λ (a : Attribute). bytes_eq a.name name) attributes)

-- those of all elements among the nodes, at any depth, in the order in which the elements start
abbrev pub values_in : (name : List ℕ) → Nodes → List (List ℕ)
values_in name none = []
values_in name (text bytes rest) = values_in name rest
values_in name (element tag attributes content rest) = values_named name attributes ++ (values_in name content ++ values_in name rest)

abbrev pub ids_in : Nodes → List (List ℕ)
ids_in = values_in (codes "id")

-- where links lead, as it is written
abbrev pub targets_in : Nodes → List (List ℕ)
targets_in = values_in (codes "href")

-- ---- titles

abbrev mutual
  pub titles_in : ChapterSaid → List (List ℕ)
  titles_in (chapter title name about parts below) = title ∷ titles_below below

  pub titles_below : ChaptersSaid → List (List ℕ)
  titles_below no_chapters = []
  titles_below (chapters first others) = titles_in first ++ titles_below others

-- ---- the addresses that a page says

abbrev pub piece_addresses : Piece → List (List ℕ)
piece_addresses (link address) = address ∷ []
piece_addresses _ = []

abbrev pub line_addresses : Line → List (List ℕ)
line_addresses = flat_map piece_addresses

abbrev pub block_addresses : BlockSaid → List (List ℕ)
block_addresses (paragraph lines) = flat_map line_addresses lines
block_addresses (code lines) = []
block_addresses (bullets items) = flat_map (flat_map line_addresses) items

abbrev pub entry_addresses : EntrySaid → List (List ℕ)
entry_addresses e = flat_map line_addresses e.terms ++ flat_map block_addresses e.body

-- those of a usage are not links
abbrev pub part_addresses : PartSaid → List (List ℕ)
part_addresses (heading rank title) = []
part_addresses (usage forms) = []
part_addresses (block shown) = block_addresses shown
part_addresses (entries listed) = flat_map entry_addresses listed

abbrev mutual
  pub addresses_in : ChapterSaid → List (List ℕ)
  addresses_in (chapter title name about parts below) = flat_map block_addresses about ++ (flat_map part_addresses parts ++ addresses_below below)

  pub addresses_below : ChaptersSaid → List (List ℕ)
  addresses_below no_chapters = []
  addresses_below (chapters first others) = addresses_in first ++ addresses_below others

-- ---- links

-- the titles to which entries lead
abbrev pub target_titles : Option TargetSaid → List (List ℕ)
target_titles None = []
target_titles (Some (to_page name)) = []
target_titles (Some (to_heading title)) = title ∷ []

abbrev pub led_to : PartSaid → List (List ℕ)
led_to (heading rank title) = []
led_to (usage forms) = []
led_to (block shown) = []
led_to (entries listed) = flat_map (λ (e : EntrySaid). target_titles e.target) listed

abbrev mutual
  pub all_led_to : ChapterSaid → List (List ℕ)
  all_led_to (chapter title name about parts below) = flat_map led_to parts ++ led_to_below below

  pub led_to_below : ChaptersSaid → List (List ℕ)
  led_to_below no_chapters = []
  led_to_below (chapters first others) = all_led_to first ++ led_to_below others

abbrev pub is_among : List (List ℕ) → List ℕ → Bool
is_among all one = list_any (bytes_eq one) all

-- each title to which an entry leads is that of a chapter of the page
abbrev pub EntriesLeadToTitles : ChapterSaid → Type 0
EntriesLeadToTitles top = list_all (is_among (titles_in top)) (all_led_to top) ≡ true

-- `#` and one of these ids: what begins with anything else does not lead to an element
abbrev pub is_target_of : (ids : List (List ℕ)) → (target : List ℕ) → Bool
is_target_of ids target = list_any (λ id. bytes_eq target (codes "#" ++ id)) ids

-- each link on a page has an address that a text of it says, or leads to the id of an element of that page
abbrev pub LinksHaveTargets : Type 0
LinksHaveTargets =
    (frame : FrameSaid) (top : ChapterSaid) → EntriesLeadToTitles top
    → list_all (λ target. is_target_of (ids_in (page_tree frame top)) target || is_among (addresses_in top) target) (targets_in (page_tree frame top)) ≡ true

-- ---- ids

abbrev pub are_distinct : List (List ℕ) → Bool
are_distinct [] = true
are_distinct (first ∷ others) = not (is_among others first) && are_distinct others

-- no two blanks follow one another, and none is last
abbrev pub is_parted : List ℕ → Bool
is_parted [] = true
is_parted (b ∷ []) = not (b == 32)
is_parted (b ∷ c ∷ bytes) = not (b == 32 && c == 32) && is_parted (c ∷ bytes)

-- titles that are words with a blank between two, each of another chapter
abbrev pub AreTitles : List (List ℕ) → Type 0
AreTitles titles = (list_all is_parted titles ≡ true) × (are_distinct titles ≡ true)

-- No two elements of a page have one id. Where entries or headings of a chapter are alike, the later ones have a number
-- in their ids, of which at most 64 digits are written: so this holds for pages with fewer than 2 ^ 64 ids.
abbrev pub IdsAreDistinct : Type 0
IdsAreDistinct = (frame : FrameSaid) (top : ChapterSaid) → AreTitles (titles_in top) → length (ids_in (page_tree frame top)) < 2 ^ 64 → are_distinct (ids_in (page_tree frame top)) ≡ true
