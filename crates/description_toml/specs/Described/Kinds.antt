-- The kinds of texts that the decoder knows.
use Rattle.std.specs.Prelude.{ℕ, List, Bool, true, not, ◌&&◌, Option}
use Rattle.std.specs.Char.{is_ascii_alphanumeric}
use Rattle.std.specs.List.{list_all}
use Rattle.toml.specs.Data.{Data}
use Rattle.description_toml.specs.Described.Texts.{as_text_of, begins, begins_a_section, has_blank_end, has_block, is_body, is_command_name, is_dash, is_empty_text, is_heading, is_language_byte, is_language_tag, is_line_character, is_long, is_name, is_name_character, is_read_once, is_section, is_text, is_text_character, is_title, is_value, is_line, without_colon, has_name_size, is_word_character}
use Rattle.description_toml.specs.declared.decode.texts.Kind.{Kind}
use Rattle.description_toml.specs.declared.decode.texts.Kind.TheVariants as kind

-- what a text of the kind is
abbrev pub is_of : Kind → List ℕ → Bool
is_of kind.Text text = is_text text
is_of kind.Body text = is_body text
is_of kind.Line text = is_line text
is_of kind.Value text = is_value text
is_of kind.Title text = is_title text
is_of kind.Heading text = is_heading text
is_of kind.Section text = is_section text
is_of kind.Language text = is_language_tag text
is_of kind.Name text = is_name text
is_of kind.Long text = is_long text
is_of kind.Command text = is_command_name text

-- which characters it has
abbrev pub allows : Kind → ℕ → Bool
allows kind.Text c = is_text_character c
allows kind.Body c = is_text_character c
allows kind.Line c = is_line_character c
allows kind.Value c = is_word_character c
allows kind.Title c = is_word_character c
allows kind.Heading c = is_word_character c
allows kind.Section c = is_line_character c
allows kind.Language c = is_line_character c
allows kind.Name c = is_name_character c
allows kind.Long c = is_name_character c
allows kind.Command c = is_name_character c

-- what else it has
abbrev pub has_form : Kind → List ℕ → Bool
has_form kind.Text text = true
has_form kind.Line text = true
has_form kind.Title text = list_all is_read_once text
has_form kind.Heading text = list_all is_read_once text && (not (has_blank_end text) && not (is_empty_text (without_colon text)))
has_form kind.Section text = list_all is_ascii_alphanumeric text && begins begins_a_section text
has_form kind.Language text = not (is_empty_text text) && list_all is_language_byte text
has_form kind.Body text = has_block text
has_form kind.Value text = not (is_empty_text text)
has_form kind.Name text = has_name_size text
has_form kind.Long text = has_name_size text && not (begins is_dash text)
has_form kind.Command text = (has_name_size text && not (begins is_dash text)) && list_all is_read_once text

-- a text of the kind, read
abbrev pub as_kind : Kind → Data → Option (List ℕ)
as_kind k = as_text_of (is_of k)
