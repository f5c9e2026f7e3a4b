-- The draft of what a program printed.
use Rattle.std.specs.Prelude.{ℕ, Bool, true, false, List, [], ◌∷◌, ◌++◌, codes, drop, flat_map, if◌then◌else◌, Option}
use Rattle.std.specs.Option.{option_map}
use Rattle.std.specs.Str.{trim}
use Rattle.shown_letters.specs.Terminal.{shown_letters}
use Rattle.toml_pieces.specs.Toml.{Piece, left_out, table, text_at, word_at}
use Rattle.drafts.specs.Seen.{title_text}
use Rattle.drafts.specs.Passages.{PassageSaid, first_line, lines_in, passages}
use Rattle.drafts.specs.Texts.{empty_piece, passage_pieces}
use Rattle.drafts.specs.Free.{Has, none_taken}
use Rattle.drafts.specs.Entries.{after_entry, entry_table}
use Rattle.drafts.specs.Places.{PlacedSaid, is_title, placed}
use Rattle.drafts.specs.Strays.{options_in, strays}
use Rattle.drafts.specs.Usages.{forms, program_name, usage_pieces}
use Rattle.drafts.specs.declared.places.Role.{Role}
use Rattle.drafts.specs.declared.places.Role.TheVariants as role
use Rattle.drafts.specs.declared.drafted.Text.{Text}
use Rattle.drafts.specs.declared.drafted.Text.TheVariants as text

-- ---- texts

-- which passages a text has
abbrev pub is_in : Text → Role → Bool
is_in text.About role.About = true
is_in text.Header role.Header = true
is_in text.Footer role.Footer = true
is_in text.Topic role.InTopic = true
is_in _ _ = false

-- an empty line before each passage
abbrev pub spaced : Text → PlacedSaid → List Piece
spaced t p = if is_in t p.role then empty_piece ∷ passage_pieces p.passage else []

-- the passages of a text, with an empty line between two
abbrev pub gathered : Text → List PlacedSaid → List Piece
gathered t ps = drop 1 (flat_map (spaced t) ps)

-- up to the next title
abbrev pub below_title : List PlacedSaid → List PlacedSaid
below_title [] = []
below_title (p ∷ ps) = if is_title p.passage.kind then [] else p ∷ below_title ps

-- ---- tables

abbrev pub titled : (name : List ℕ) → PassageSaid → List ℕ
titled name p = table name ++ word_at (codes "title") (title_text (first_line p.lines))

abbrev pub topic : PassageSaid → (below : List PlacedSaid) → List ℕ
topic p below = titled (codes "topic") p ++ text_at (codes "text") (gathered text.Topic (below_title below))

-- a title that pages have of themselves
abbrev pub usual_title : PassageSaid → List ℕ
usual_title p = codes "\n# " ++ (trim (first_line p.lines) ++ codes "\n")

-- `has` says which names of options are taken
abbrev pub placed_text : Has → Role → PassageSaid → (below : List PlacedSaid) → List ℕ
placed_text has role.Topic p below = topic p below
placed_text has role.Group p below = titled (codes "group") p
placed_text has role.Usual p below = usual_title p
placed_text has role.Entry p below = entry_table has false p
placed_text has role.Member p below = entry_table has true p
placed_text has role.LeftOut p below = flat_map left_out p.lines
placed_text has role.Nothing p below = []
placed_text has role.Usage p below = []
placed_text has role.About p below = []
placed_text has role.Header p below = []
placed_text has role.Footer p below = []
placed_text has role.InTopic p below = []

abbrev pub after_role : Has → Role → PassageSaid → Has
after_role has role.Entry p = after_entry has p
after_role has role.Member p = after_entry has p
after_role has _ p = has

abbrev pub tables : Has → List PlacedSaid → List ℕ
tables has [] = []
tables has (p ∷ ps) = placed_text has p.role p.passage ps ++ tables (after_role has p.role p.passage) ps

-- what is taken after all of them
abbrev pub taken_from : Has → List PlacedSaid → Has
taken_from has [] = has
taken_from has (p ∷ ps) = taken_from (after_role has p.role p.passage) ps

-- ---- the whole

abbrev pub texts : List PlacedSaid → List ℕ
texts ps =
    text_at (codes "about") (gathered text.About ps)
    ++ (text_at (codes "usage") (usage_pieces (forms ps))
    ++ (text_at (codes "header") (gathered text.Header ps) ++ text_at (codes "footer") (gathered text.Footer ps)))

-- the options that stand in the usage alone
abbrev pub last_tables : Has → List PlacedSaid → List ℕ
last_tables has ps = strays has (options_in has (forms ps))

abbrev pub draft_of : List PlacedSaid → (name : List ℕ) → List ℕ
draft_of ps name =
    word_at (codes "name") name
    ++ (texts ps ++ (tables none_taken ps ++ last_tables (taken_from none_taken ps) ps))

abbrev pub drafted : (name : Option (List ℕ)) → List PlacedSaid → Option (List ℕ)
drafted name ps = option_map (draft_of ps) (program_name name (forms ps))

abbrev pub printed_passages : (printed : List ℕ) → List PassageSaid
printed_passages printed = passages (lines_in (shown_letters printed))

-- None, if a program may not have the name that is given, or if none is given and the usage gives none.
abbrev pub draft_text : (name : Option (List ℕ)) → (printed : List ℕ) → Option (List ℕ)
draft_text name printed = drafted name (placed (printed_passages printed))
