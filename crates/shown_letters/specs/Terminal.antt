-- The letters that a terminal shows of a text. Escape sequences are those of ECMA-48, and each letter takes one cell of
-- its line.
use Rattle.std.specs.Prelude.{ℕ, Bool, true, false, not, ◌==◌, ◌||◌, ◌&&◌, List, [], ◌∷◌, ◌++◌, drop, reverse, flat_map, if◌then◌else◌, chars, encode_utf8, nat_le}
use Rattle.std.specs.List.{fold}
use Rattle.std.specs.Char.{is_control}
use Rattle.shown_letters.specs.declared.place.Place.{Place}
use Rattle.shown_letters.specs.declared.place.Place.TheVariants as at

abbrev pub is_between : (first last : ℕ) → ℕ → Bool
is_between first last c = nat_le first c && nat_le c last

abbrev pub is_newline : ℕ → Bool
is_newline c = c == 10

abbrev pub is_escape : ℕ → Bool
is_escape c = c == 27

-- what begins a string that a terminal does not show: DCS, SOS, OSC, PM, APC, after an escape and alone
abbrev pub is_string_start : ℕ → Bool
is_string_start c = c == 0x50 || (c == 0x58 || (c == 0x5D || (c == 0x5E || c == 0x5F)))

abbrev pub is_string_control : ℕ → Bool
is_string_control c = c == 0x90 || (c == 0x98 || (c == 0x9D || (c == 0x9E || c == 0x9F)))

-- what ends one: BEL, ST
abbrev pub is_string_end : ℕ → Bool
is_string_end c = c == 7 || c == 0x9C

-- whether a character belongs to what began before it: no control does, except that a string goes on to the end of its
-- line
abbrev pub belongs : Place → ℕ → Bool
belongs at.Letters c = false
belongs at.Escape c = is_between 0x20 0x7E c
belongs at.Sequence c = is_between 0x20 0x7E c
belongs at.String c = not (is_newline c)

-- where a reader is after a character that belongs to what began before it
abbrev pub place_after : Place → ℕ → Place
place_after at.Letters c = at.Letters
place_after at.Escape c =
    if c == 0x5B then at.Sequence
    else if is_string_start c then at.String
    else if is_between 0x20 0x2F c then at.Escape
    else at.Letters
place_after at.Sequence c = if is_between 0x20 0x3F c then at.Sequence else at.Letters
place_after at.String c = if is_string_end c then at.Letters else if is_escape c then at.Escape else at.String

-- where a reader is after any other character
abbrev pub entered : ℕ → Place
entered c =
    if is_escape c then at.Escape
    else if c == 0x9B then at.Sequence
    else if is_string_control c then at.String
    else at.Letters

-- what a terminal shows so far
pub record Screen : Type 0 where
  pub place : Place
  -- the letters before the cursor, the last one first
  pub before : List ℕ
  -- those from the cursor on, in its line
  pub after : List ℕ

abbrev pub is_at_start : (before : List ℕ) → Bool
is_at_start [] = true
is_at_start (c ∷ cs) = is_newline c

abbrev pub screen : Place → (before after : List ℕ) → Screen
screen p before after = record { place = p; before = before; after = after }

-- one cell to the left, within the line
abbrev pub back_in : Place → (before after : List ℕ) → Screen
back_in p [] after = screen p [] after
back_in p (c ∷ cs) after = if is_newline c then screen p (c ∷ cs) after else screen p cs (c ∷ after)

abbrev pub back : Screen → Screen
back s = back_in s.place s.before s.after

-- to the start of the line
abbrev pub to_start_in : Place → (before after : List ℕ) → Screen
to_start_in p [] after = screen p [] after
to_start_in p (c ∷ cs) after = if is_newline c then screen p (c ∷ cs) after else to_start_in p cs (c ∷ after)

abbrev pub to_start : Screen → Screen
to_start s = to_start_in s.place s.before s.after

-- to the end of the line
abbrev pub to_end : Screen → Screen
to_end s = screen s.place (reverse s.after ++ s.before) []

-- a letter stands in place of the one at the cursor
abbrev pub with_letter : ℕ → Screen → Screen
with_letter c s = screen s.place (c ∷ s.before) (drop 1 s.after)

abbrev pub with_newline : Screen → Screen
with_newline s = with_letter 10 (to_end s)

-- a character that belongs to nothing: tabulators are letters, and other controls show nothing
abbrev pub with_character : Screen → ℕ → Screen
with_character s c =
    if is_newline c then with_newline s
    else if c == 13 then to_start s
    else if c == 8 then back s
    else if c == 9 || not (is_control c) then with_letter c s
    else s

abbrev pub at_place : Place → Screen → Screen
at_place p s = screen p s.before s.after

abbrev pub step : Screen → ℕ → Screen
step s c =
    if belongs s.place c then at_place (place_after s.place c) s
    else with_character (at_place (entered c) s) c

abbrev pub blank_screen : Screen
blank_screen = screen at.Letters [] []

abbrev pub letters_on : Screen → List ℕ
letters_on s = reverse s.before ++ s.after

abbrev pub shown_letters : (text : List ℕ) → List ℕ
shown_letters text = flat_map encode_utf8 (letters_on (fold step blank_screen (chars text)))
