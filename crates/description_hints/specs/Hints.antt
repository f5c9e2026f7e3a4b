-- What is better said otherwise in a description: hints about each of its parts.
use Rattle.std.specs.Prelude.{ℕ, Bool, true, false, not, ◌&&◌, ◌||◌, ◌==◌, nat_lt, List, [], ◌∷◌, ◌++◌, bytes_eq, codes, find, map, flat_map, Option, Some, None, if◌then◌else◌}
use Rattle.std.specs.List.{count_by, ends_with, list_all, list_any, slice_split, starts_with}
use Rattle.std.specs.Str.{chars}
use Rattle.unicode_width.specs.Width.{str_width}
use Rattle.page_model.specs.Content.{Piece, words, literal, value, link, page, Line, FormSaid}
use Rattle.description.specs.Content.{NameSaid, short, long, both, SpellingSaid, named, syntax, OptSaid, PositionalSaid, DescriptionSaid}
use Rattle.description.specs.Values.{listed_values}
use Rattle.description_texts.specs.Texts.{first_paragraph, is_empty, text_blocks}
use Rattle.description_usage.specs.Forms.{text_forms}
use Rattle.description_usage.specs.Usage.{option_item}
use Rattle.file_names.specs.Names.{is_file_name, name_key}
use Rattle.description_hints.specs.Content.{Around, HelpSaid, Path, HintSaid, no_help, nothing_said, no_about, two_sentences, wide_summary, no_such_option, plain_link, wide_item, not_on_level, different_help, no_file_name, alike_name, help_name, marked_value, bracketed_name, unlisted_default, PageSiteSaid, WarningSaid, PartSaid, application_part, option_part, positional_part, command_part, text_part, usage_part, SiteSaid}
use Rattle.description_hints.specs.Names.{called, is_among, is_bracket, is_no_option, known_words, options_names, options_words, shown_names}
use Rattle.description_hints.specs.Pages.{manual_name, markdown_name, pages, web_name}
use Rattle.description_hints.specs.Sites.{sites, under}
use Rattle.description_hints.specs.Texts.{blocks_of, has_turn, line_text, paragraph_text, pieces_of}
use Rattle.description_hints.specs.declared.sites.Standing.{Standing}
use Rattle.description_hints.specs.declared.sites.Standing.TheVariants.{ForHelp, InUsage, OutsideUsage}

abbrev pub hint_if : Bool → HintSaid → List HintSaid
hint_if true hint = hint ∷ []
hint_if false hint = []

-- these hints, each about what the way leads to
abbrev pub about_path : Path → List HintSaid → List WarningSaid
about_path path hints = map (λ hint. record { path = path; hint = hint }) hints

-- ---- what is not said

-- there is no text, or nothing in it
abbrev pub is_missing : Option (List ℕ) → Bool
is_missing None = true
is_missing (Some text) = is_empty text

abbrev pub application_hints : (about : Option (List ℕ)) → List HintSaid
application_hints about = hint_if (is_missing about) no_about

abbrev pub help_hints : OptSaid → List HintSaid
help_hints o = hint_if (not o.hidden && is_missing o.help) no_help

abbrev pub command_hints : (hidden : Bool) → (help about : Option (List ℕ)) → List HintSaid
command_hints hidden help about = hint_if (not hidden && (is_missing help && is_missing about)) nothing_said

-- ---- summaries: the first paragraph of the help of a command, or else of what is said about it

abbrev pub columns : List ℕ → ℕ
columns text = str_width false (chars text)

-- a summary is one sentence of at most 80 columns
abbrev pub text_of_summary_hints : List ℕ → List HintSaid
text_of_summary_hints text = if has_turn text then two_sentences ∷ [] else hint_if (nat_lt 80 (columns text)) (wide_summary (columns text))

abbrev pub summary_hints : (lines : List Line) → List HintSaid
summary_hints lines = text_of_summary_hints (paragraph_text lines)

-- the hints about the first paragraph of blocks, under this key, or else those
abbrev pub first_summary : Path → (name : List ℕ) → Option (List Line) → (others : List WarningSaid) → List WarningSaid
first_summary path name None others = others
first_summary path name (Some lines) others = about_path (under path name) (summary_hints lines)

abbrev pub summary_warnings : Path → (help about : Option (List ℕ)) → List WarningSaid
summary_warnings path help about =
    first_summary path (codes "help") (first_paragraph (blocks_of help))
    (first_summary path (codes "about") (first_paragraph (blocks_of about)) [])

-- ---- what texts say; `has` tells whether an option is called by a word

-- an `http` address that is not on this machine
abbrev pub is_plain : (address : List ℕ) → Bool
is_plain address =
    starts_with ◌==◌ address (codes "http://")
    && not (starts_with ◌==◌ address (codes "http://localhost") || starts_with ◌==◌ address (codes "http://127."))

abbrev pub piece_hints : (has : List ℕ → Bool) → Piece → List HintSaid
piece_hints has (words text) = []
piece_hints has (literal text) = hint_if (is_no_option has text) (no_such_option text)
piece_hints has (value text) = []
piece_hints has (link address) = hint_if (is_plain address) (plain_link address)
piece_hints has (page name) = []

abbrev pub text_hints : (has : List ℕ → Bool) → List ℕ → List HintSaid
text_hints has text = flat_map (piece_hints has) (pieces_of (text_blocks text))

-- ---- usages

-- the number of columns that a usage takes to show an option alone
abbrev pub item_columns : OptSaid → ℕ
item_columns o = columns (line_text (option_item o.required o.repeated o))

-- an option that a usage shows takes at most 60 columns there
abbrev pub item_hints : OptSaid → List HintSaid
item_hints o = hint_if (not o.hidden && nat_lt 60 (item_columns o)) (wide_item (item_columns o))

abbrev pub width_hints : Standing → OptSaid → List HintSaid
width_hints ForHelp o = []
width_hints InUsage o = item_hints o
width_hints OutsideUsage o = []

-- a text in place of a usage names options of its level, or help options; `own` says whether one of the former is
-- called by a word, and `is_help_word` whether one of the latter is
abbrev pub usage_piece_hints : (own is_help_word : List ℕ → Bool) → Piece → List HintSaid
usage_piece_hints own is_help_word (words text) = []
usage_piece_hints own is_help_word (literal text) = hint_if (is_no_option own text && is_no_option is_help_word text) (not_on_level text)
usage_piece_hints own is_help_word (value text) = []
usage_piece_hints own is_help_word (link address) = []
usage_piece_hints own is_help_word (page name) = []

abbrev pub item_pieces : FormSaid → List Piece
item_pieces form = flat_map (λ item. item) form.items

abbrev pub forms_hints : (own is_help_word : List ℕ → Bool) → List FormSaid → List HintSaid
forms_hints own is_help_word forms = flat_map (usage_piece_hints own is_help_word) (flat_map item_pieces forms)

abbrev pub usage_hints : Around → (text : List ℕ) → (own : List (List ℕ)) → List HintSaid
usage_hints a text own = forms_hints (is_among own) a.is_help_word (text_forms a.fixed text)

-- ---- names that an option shares with one that asks for help

-- an option that does not ask for help is shown under no name of one that does; `is_help_name` tells whether one does
abbrev pub shared_name : Option (List ℕ) → List HintSaid
shared_name None = []
shared_name (Some name) = help_name name ∷ []

abbrev pub level_name_hints : (is_help_name : List ℕ → Bool) → OptSaid → List HintSaid
level_name_hints is_help_name o = shared_name (find is_help_name (shown_names o))

abbrev pub shared_hints : (is_help_name : List ℕ → Bool) → Standing → OptSaid → List HintSaid
shared_hints is_help_name ForHelp o = []
shared_hints is_help_name InUsage o = level_name_hints is_help_name o
shared_hints is_help_name OutsideUsage o = level_name_hints is_help_name o

abbrev pub option_hints : Around → Standing → OptSaid → List HintSaid
option_hints a standing o = help_hints o ++ width_hints standing o ++ shared_hints a.is_help_name standing o

-- ---- marks that pages set by themselves

-- in a pair of brackets, the only one of its kind
abbrev pub is_between : (opening closing : ℕ) → (word : List ℕ) → Bool
is_between opening closing word =
    starts_with ◌==◌ word (opening ∷ []) && (ends_with ◌==◌ word (closing ∷ []) && count_by (λ b. b == closing) word == 1)

-- with dots that stand for more of the same, and not for more of a list with commas
abbrev pub has_dots : (word : List ℕ) → Bool
has_dots word = ends_with ◌==◌ word (codes "...") && not (ends_with ◌==◌ word (codes ",..."))

abbrev pub is_marked : (word : List ℕ) → Bool
is_marked word = (is_between 91 93 word || is_between 60 62 word) || has_dots word

-- the word for a value, of what is not hidden
abbrev pub word_warnings : Path → (hidden : Bool) → (word : List ℕ) → List WarningSaid
word_warnings path hidden word = about_path (under path (codes "value")) (hint_if (not hidden && is_marked word) (marked_value word))

abbrev pub value_warnings : Path → (hidden : Bool) → Option (List ℕ) → List WarningSaid
value_warnings path hidden None = []
value_warnings path hidden (Some word) = word_warnings path hidden word

-- a long name with a bracket, which a syntax may have
abbrev pub long_warnings : Path → (hidden : Bool) → (word : List ℕ) → List WarningSaid
long_warnings path hidden word = about_path (under path (codes "long")) (hint_if (not hidden && list_any is_bracket word) (bracketed_name word))

abbrev pub name_warnings : Path → (hidden : Bool) → NameSaid → List WarningSaid
name_warnings path hidden (short c) = []
name_warnings path hidden (long word) = long_warnings path hidden word
name_warnings path hidden (both c word) = long_warnings path hidden word

abbrev pub spelling_warnings : Path → (hidden : Bool) → SpellingSaid → List WarningSaid
spelling_warnings path hidden (named name) = name_warnings path hidden name
spelling_warnings path hidden (syntax text) = []

abbrev pub mark_warnings : Path → OptSaid → List WarningSaid
mark_warnings path o = spelling_warnings path o.hidden o.spelling ++ value_warnings path o.hidden o.value

-- ---- defaults

-- one of the values, which are listed in one text, or some of them with commas between
abbrev pub is_listed : (default values : List ℕ) → Bool
is_listed default values =
    is_among (listed_values values) default
    || list_all (is_among (listed_values values)) (slice_split (λ b. b == 44) default)

abbrev pub listed_warnings : Path → (hidden : Bool) → (default values : List ℕ) → List WarningSaid
listed_warnings path hidden default values =
    about_path (under path (codes "default")) (hint_if (not hidden && not (is_listed default values)) (unlisted_default default))

-- of what is not hidden, and has both a default and such values
abbrev pub default_warnings : Path → (hidden : Bool) → (default values : Option (List ℕ)) → List WarningSaid
default_warnings path hidden None values = []
default_warnings path hidden (Some default) None = []
default_warnings path hidden (Some default) (Some values) = listed_warnings path hidden default values

-- ---- one name with two helps

-- of an option that pages show and that has a help
abbrev pub help_at : Path → (name : List ℕ) → Option (List ℕ) → List HelpSaid
help_at path name None = []
help_at path name (Some help) = if is_empty help then [] else record { name = name; help = help; path = path } ∷ []

abbrev pub option_helps : Path → OptSaid → List HelpSaid
option_helps path o = if o.hidden then [] else help_at path (called o.spelling) o.help

abbrev pub part_helps : Path → PartSaid → List HelpSaid
part_helps path (application_part about) = []
part_helps path (option_part o standing) = option_helps path o
part_helps path (positional_part p) = []
part_helps path (command_part hidden help about) = []
part_helps path (text_part said) = []
part_helps path (usage_part text own) = []

abbrev pub site_helps : SiteSaid → List HelpSaid
site_helps s = part_helps s.path s.part

-- options of one name say the same: this one what the first one says
abbrev pub beside : (first : Option HelpSaid) → HelpSaid → List WarningSaid
beside None own = []
beside (Some first) own = about_path own.path (hint_if (not (bytes_eq first.help own.help)) (different_help own.name first.path))

abbrev pub is_called : (name : List ℕ) → HelpSaid → Bool
is_called name h = bytes_eq name h.name

abbrev pub first_called : (name : List ℕ) → List HelpSaid → Option HelpSaid
first_called name helps = find (is_called name) helps

-- each beside the first one of its name before it
abbrev pub beside_those : (before : List HelpSaid) → List HelpSaid → List WarningSaid
beside_those before [] = []
beside_those before (own ∷ others) = beside (first_called own.name before) own ++ beside_those (before ++ own ∷ []) others

-- ---- names of files

-- one that no file may have
abbrev pub name_hints : (name : List ℕ) → List HintSaid
name_hints name = hint_if (not (is_file_name name)) (no_file_name name)

-- of the two files of a page the first that has such a name
abbrev pub page_hints : (section name : List ℕ) → List HintSaid
page_hints section name =
    if is_file_name (manual_name section name) then name_hints (markdown_name name)
    else no_file_name (manual_name section name) ∷ []

abbrev pub page_warnings : (section : List ℕ) → PageSiteSaid → List WarningSaid
page_warnings section p = about_path p.path (page_hints section p.name)

-- what the name of a page is compared by
abbrev pub page_key : PageSiteSaid → List ℕ
page_key p = name_key p.name

-- each that some folders take for one before it, of which these are the keys
abbrev pub alike_warnings : (before : List (List ℕ)) → List PageSiteSaid → List WarningSaid
alike_warnings before [] = []
alike_warnings before (own ∷ others) =
    about_path own.path (hint_if (is_among before (page_key own)) (alike_name own.name))
    ++ alike_warnings (before ++ page_key own ∷ []) others

abbrev pub file_warnings : DescriptionSaid → List WarningSaid
file_warnings d =
    flat_map (page_warnings d.section) (pages d) ++ about_path [] (name_hints (web_name d.name)) ++ alike_warnings [] (pages d)

-- ---- all of them

abbrev pub application_warnings : Path → (about : Option (List ℕ)) → List WarningSaid
application_warnings path about = about_path path (application_hints about) ++ summary_warnings path None about

abbrev pub command_warnings : Path → (hidden : Bool) → (help about : Option (List ℕ)) → List WarningSaid
command_warnings path hidden help about = about_path path (command_hints hidden help about) ++ summary_warnings path help about

abbrev pub option_warnings : Around → Path → Standing → OptSaid → List WarningSaid
option_warnings a path standing o =
    about_path path (option_hints a standing o) ++ mark_warnings path o
    ++ default_warnings path o.hidden o.default o.values

abbrev pub positional_warnings : Path → PositionalSaid → List WarningSaid
positional_warnings path p = word_warnings path p.hidden p.value ++ default_warnings path p.hidden p.default p.values

abbrev pub part_warnings : Around → Path → PartSaid → List WarningSaid
part_warnings a path (application_part about) = application_warnings path about
part_warnings a path (option_part o standing) = option_warnings a path standing o
part_warnings a path (positional_part p) = positional_warnings path p
part_warnings a path (command_part hidden help about) = command_warnings path hidden help about
part_warnings a path (text_part said) = about_path path (text_hints a.is_option_word said)
part_warnings a path (usage_part text own) = about_path path (usage_hints a text own)

abbrev pub site_warnings : Around → SiteSaid → List WarningSaid
site_warnings a s = part_warnings a s.path s.part

abbrev pub around : DescriptionSaid → Around
around d = record { fixed = d.words; is_option_word = is_among (known_words (sites d)); is_help_word = is_among (options_words d.help_options); is_help_name = is_among (options_names d.help_options) }

-- the hints about a description: those about each part in its turn, then those about names with two helps, and those
-- about names of files
abbrev pub warnings : DescriptionSaid → List WarningSaid
warnings d = flat_map (site_warnings (around d)) (sites d) ++ beside_those [] (flat_map site_helps (sites d)) ++ file_warnings d
