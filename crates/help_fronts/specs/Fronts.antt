-- The front of a line that begins with an option or a command: its names and its value, up to where its help begins.
use Rattle.std.specs.Prelude.{ℕ, ◌+◌, ◌-◌, ◌==◌, ◌||◌, ◌&&◌, Bool, true, false, not, List, [], ◌∷◌, drop, filter, length, map, nat_le, nat_lt, take, if◌then◌else◌, Option, None, Some}
use Rattle.std.specs.List.{concat, list_all, list_any, slice_split}
use Rattle.std.specs.Option.{option_map}
use Rattle.help_fronts.specs.declared.bytes.Class.TheVariants as class
use Rattle.help_fronts.specs.declared.front.Kind.{Kind}
use Rattle.help_fronts.specs.declared.front.Kind.TheVariants as kind
use Rattle.help_fronts.specs.Bytes.{first, is_blank, is_closing, is_divider, last, second, without_end, without_front}
use Rattle.help_fronts.specs.Pieces.{first_word, pieces, word}
use Rattle.help_fronts.specs.Words.{attached, bare_word, has_form_of_value, is_bare_name, is_bracketed, is_command, is_dots, is_in_capitals, is_joiner, is_listed, is_long, is_name, is_optional, is_short, leads_on, name, value_text, value_word, without_joints}

-- ---- which words belong to a front

-- `:` or `-`
abbrev pub is_mark : ℕ → Bool
is_mark b = b == 58 || b == 45

-- no word, as between two blanks, one after a tabulator, or a mark alone
abbrev pub is_gap : List ℕ → Bool
is_gap w = nat_le (first w) 32 || (length w == 1 && is_mark (first w))

-- where the front ends with a word, more of the value follows in brackets, or a name after a divider
abbrev pub ends_with : (w next : List ℕ) → Bool
ends_with w next = (is_gap next || first next == 91) || (last w == 58 || (leads_on w && is_name next))

-- any other word is a value only there, but none in parentheses
abbrev pub is_last_value : (w next : List ℕ) → Bool
is_last_value w next = not (first w == 40) && ends_with w next

-- a word in capitals after brackets may begin the help, unless a gap follows it
abbrev pub is_marked_value : (before w next : List ℕ) → Bool
is_marked_value before w next = is_bracketed w || (is_in_capitals w && (not (is_closing (last before)) || is_gap next))

abbrev pub is_value : (before w next : List ℕ) → Bool
is_value before w next = not (leads_on before) && (is_marked_value before w next || (is_bare_name before && is_last_value w next))

-- dots after a value
abbrev pub is_repetition : (before w : List ℕ) → Bool
is_repetition before w = is_dots w && not (is_bare_name before || is_joiner before)

-- a name belongs to a front after what leads on, or a second blank, and a long one also after a short one
abbrev pub is_other_name : (before w : List ℕ) → Bool
is_other_name before w = (leads_on before || length before == 0) || (is_short before && is_long w)

abbrev pub fits_option : (before w next : List ℕ) → Bool
fits_option before w next =
    if is_name w then is_other_name before w
    else if is_repetition before w then true
    else if is_joiner w then is_name next
    else is_value before w next

-- another name of a command after what leads on, and else what has the form of a value
abbrev pub fits_command : (before w : List ℕ) → Bool
fits_command before w = if leads_on before then is_command (bare_word w) else has_form_of_value w

abbrev pub fits : Kind → (before w next : List ℕ) → Bool
fits kind.Option before w next = fits_option before w next
fits kind.Command before w next = fits_command before w

-- the second of two blanks between a divider and a name
abbrev pub is_second_blank : Kind → (before w next : List ℕ) → Bool
is_second_blank kind.Option before w next = length w == 0 && (is_divider (last before) && is_name next)
is_second_blank kind.Command before w next = false

-- whether a word belongs to a front, by the words beside it; none does after a colon
abbrev pub belongs : Kind → (before w next : List ℕ) → Bool
belongs k before w next = is_second_blank k before w next || ((not (is_gap w) && not (last before == 58)) && fits k before w next)

-- the pieces that belong, up to the first that does not
abbrev pub belonging : Kind → (before : List ℕ) → (pieces : List (List ℕ)) → List (List ℕ)
belonging k before [] = []
belonging k before (p ∷ ps) = if belongs k before (word p) (first_word ps) then p ∷ belonging k (word p) ps else []

-- a front from its first piece on
abbrev pub front_from : Kind → (piece : List ℕ) → (pieces : List (List ℕ)) → List (List ℕ)
front_from k p ps = p ∷ belonging k (word p) ps

-- the first word of a command, without `,` or `:` after it
abbrev pub command_name : List ℕ → List ℕ
command_name w = without_end class.Joint w

-- the word that a front begins with
abbrev pub begins_front : Kind → List ℕ → Bool
begins_front kind.Option w = is_name w
begins_front kind.Command w = is_command (command_name w)

-- the front of a text that begins with one
abbrev pub front : Kind → (pieces : List (List ℕ)) → List (List ℕ)
front k [] = []
front k (p ∷ ps) = if begins_front k (word p) then front_from k p ps else []

-- ---- what the front of an option says

abbrev pub names : (words : List (List ℕ)) → List (List ℕ)
names words = map name (filter is_name words)

abbrev pub says_value : List ℕ → Bool
says_value w = not (length (value_word (value_text w)) == 0)

-- up to the next name
abbrev pub before_name : (words : List (List ℕ)) → List (List ℕ)
before_name [] = []
before_name (w ∷ ws) = if is_name w then [] else w ∷ before_name ws

abbrev pub says_more : List ℕ → Bool
says_more w = says_value w || is_dots w

-- whether a value is said before the next name
abbrev pub has_value : (words : List (List ℕ)) → Bool
has_value [] = false
has_value (w ∷ ws) = not (is_name w) && (says_value w || has_value ws)

abbrev pub is_valued : (w : List ℕ) → (ws : List (List ℕ)) → Bool
is_valued w ws = is_name w && (says_value w || has_value ws)

abbrev pub or_else : (words others : List (List ℕ)) → List (List ℕ)
or_else [] others = others
or_else (w ∷ ws) others = w ∷ ws

-- the words from the last name on that has a value
abbrev pub from_last : (words : List (List ℕ)) → List (List ℕ)
from_last [] = []
from_last (w ∷ ws) = or_else (from_last ws) (if is_valued w ws then w ∷ ws else [])

-- what is said of the values of the first name that has any
abbrev pub values : (words : List (List ℕ)) → List (List ℕ)
values [] = []
values (w ∷ ws) = if says_value w then value_text w ∷ map without_joints (filter says_more (before_name ws)) else values ws

-- what stands between a name and its value: the byte that follows the name, and else a blank
abbrev pub joint : List ℕ → ℕ
joint w = if is_name w then first (attached w) else 32

abbrev pub first_joint : (words : List (List ℕ)) → ℕ
first_joint [] = 32
first_joint (w ∷ ws) = if says_value w then joint w else first_joint ws

abbrev pub first_value : (values : List (List ℕ)) → Option (List ℕ)
first_value [] = None
first_value (v ∷ vs) = Some v

abbrev pub is_value_optional : Option (List ℕ) → Bool
is_value_optional None = false
is_value_optional (Some text) = is_optional text

-- ---- the gap before the help: blanks, and marks that a blank or the end follows

abbrev pub is_in_gap : (b next : ℕ) → Bool
is_in_gap b next = is_blank b || (is_mark b && nat_le next 32)

abbrev pub gap_len : List ℕ → ℕ
gap_len [] = 0
gap_len (b ∷ bs) = if is_in_gap b (first bs) then 1 + gap_len bs else 0

-- ---- the whole

pub record FrontSaid : Type 0 where
  pub names : List (List ℕ)
  -- the words for the values, with their brackets
  pub values : List (List ℕ)
  -- the byte before the first, and the first without brackets
  pub joint : ℕ
  pub value : Option (List ℕ)
  pub is_optional : Bool
  -- the front as it stands in the line, the gap, and what stands after
  pub written : List ℕ
  pub gap : List ℕ
  pub help : List ℕ

-- what stands after a front: the gap, and then the help
abbrev pub after_front : (front : List (List ℕ)) → (text : List ℕ) → List ℕ
after_front front text = drop (length (concat front)) text

abbrev pub gap_of : (after : List ℕ) → List ℕ
gap_of after = take (gap_len after) after

abbrev pub help_of : (after : List ℕ) → List ℕ
help_of after = drop (gap_len after) after

abbrev pub front_said : (front : List (List ℕ)) → (after : List ℕ) → FrontSaid
front_said front after = record {
  names = names (map word front);
  values = values (from_last (map word front));
  joint = first_joint (from_last (map word front));
  value = option_map value_word (first_value (values (from_last (map word front))));
  is_optional = is_value_optional (first_value (values (from_last (map word front))));
  written = concat front;
  gap = gap_of after;
  help = help_of after;
}

abbrev pub front_in : (front : List (List ℕ)) → (text : List ℕ) → Option FrontSaid
front_in [] text = None
front_in (p ∷ ps) text = Some (front_said (p ∷ ps) (after_front (p ∷ ps) text))

abbrev pub without_indent : List ℕ → List ℕ
without_indent line = without_front class.Blank line

-- what the front of a line says, if it begins with an option
abbrev pub option_front : (line : List ℕ) → Option FrontSaid
option_front line = front_in (front kind.Option (pieces (without_indent line))) (without_indent line)

-- ---- the front of a command

-- in parentheses with the first letter of the name, or not of the form of a value
abbrev pub is_alias : (name w : List ℕ) → Bool
is_alias n w = is_command (bare_word w) && (if first w == 40 then second w == first n else not (has_form_of_value w))

abbrev pub other_names : (name : List ℕ) → (words : List (List ℕ)) → List (List ℕ)
other_names n words = map bare_word (filter (is_alias n) words)

abbrev pub is_in_parentheses : List ℕ → Bool
is_in_parentheses w = first w == 40 && last w == 41

-- what commas part in parentheses, each without a blank before it
abbrev pub listed : (w : List ℕ) → List (List ℕ)
listed w = map word (slice_split (λ b. b == 44) (take (length w - 2) (drop 1 w)))

-- a list of names, as `(halt, end)`
abbrev pub is_list : List ℕ → Bool
is_list w = is_in_parentheses w && list_all is_listed (listed w)

-- the one word; an empty one, if there are none or more
abbrev pub only : (words : List (List ℕ)) → List ℕ
only [] = []
only (w ∷ []) = w
only (w ∷ v ∷ ws) = []

-- after the name: those of a list that is all, and else each word that is one
abbrev pub aliases : (words : List (List ℕ)) → List (List ℕ)
aliases [] = []
aliases (w ∷ ws) = if is_list (only ws) then listed (only ws) else other_names w ws

-- whether a word is none of the names
abbrev pub says_else : (words : List (List ℕ)) → Bool
says_else [] = false
says_else (w ∷ ws) = not (is_list (only ws)) && list_any (λ v. not (is_alias w v)) ws

-- a front that its line ends with, or that a colon, a tabulator or more than a blank parts from what follows
abbrev pub is_parted : (written gap help : List ℕ) → Bool
is_parted written gap help = (last written == 58 || length help == 0) || (first gap == 9 || nat_lt 1 (length gap))

pub record CommandSaid : Type 0 where
  pub name : List ℕ
  pub aliases : List (List ℕ)
  -- whether the front says more than the names
  pub says_else : Bool
  pub written : List ℕ
  pub gap : List ℕ
  pub help : List ℕ

abbrev pub command_said : (front : List (List ℕ)) → (after : List ℕ) → CommandSaid
command_said front after = record {
  name = command_name (first_word front);
  aliases = aliases (map word front);
  says_else = says_else (map word front);
  written = concat front;
  gap = gap_of after;
  help = help_of after;
}

abbrev pub if_parted : CommandSaid → Option CommandSaid
if_parted c = if is_parted c.written c.gap c.help then Some c else None

abbrev pub command_in : (front : List (List ℕ)) → (text : List ℕ) → Option CommandSaid
command_in [] text = None
command_in (p ∷ ps) text = if_parted (command_said (p ∷ ps) (after_front (p ∷ ps) text))

-- what the front of a line says, if it begins with a command
abbrev pub command_front : (line : List ℕ) → Option CommandSaid
command_front line = command_in (front kind.Command (pieces (without_indent line))) (without_indent line)
