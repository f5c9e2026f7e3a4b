-- A description as a value of JSON: its keys in the order of docs/keys.md, without those that say the default.
use Rattle.std.specs.Prelude.{◌≡◌, ◌≤◌, codes, ℕ, List, [], ◌∷◌, ◌++◌, map, flat_map, Bool, true, false, not, Option, Some, None, is_some, encode_utf8}
use Rattle.json.specs.Json.{Json, string, value}
use Rattle.json.specs.Layout.{pretty}
use Rattle.json.specs.Lex.{tokens}
use Rattle.json.specs.Tree.{depth, json_tokens}
use Rattle.description.specs.Content.{DescriptionSaid, NameSaid, short, long, both, SpellingSaid, named, syntax, OptSaid, ChoiceSaid, PositionalSaid, TopicSaid, TextsSaid, LevelSaid, level, GroupsSaid, no_groups, groups, GroupSaid, group, CommandsSaid, no_commands, commands, CommandSaid, command, CommandNames}
use Rattle.description.specs.Hints.{hint_word}
use Rattle.description.specs.Words.{WordsSaid, english}
use Rattle.description.specs.declared.hints.ValueHint.{ValueHint}
use Rattle.description.specs.declared.hints.ValueHint.TheVariants as hint
use Rattle.json_of_descriptions.specs.Fields.{Field, character_at, flag_unless, list_at, object_at, object_with, optional_at, text_at, text_unless}
use Rattle.json_of_descriptions.specs.Listed.{written_values}

-- ---- options, choices, positional values and topics

abbrev pub name_fields : NameSaid → List Field
name_fields (short c) = text_at (codes "short") (encode_utf8 c)
name_fields (long text) = text_at (codes "long") text
name_fields (both c text) = text_at (codes "short") (encode_utf8 c) ++ text_at (codes "long") text

abbrev pub spelling_fields : SpellingSaid → List Field
spelling_fields (named name) = name_fields name
spelling_fields (syntax text) = text_at (codes "syntax") text

abbrev pub values_at : (key : List ℕ) → Option (List ℕ) → List Field
values_at key None = []
values_at key (Some text) = list_at key (map string (written_values text))

abbrev pub hint_at : (key : List ℕ) → ValueHint → List Field
hint_at key hint.File = []
hint_at key hint.Folder = text_at key (hint_word hint.Folder)
hint_at key hint.Nothing = text_at key (hint_word hint.Nothing)
hint_at key hint.User = text_at key (hint_word hint.User)
hint_at key hint.Host = text_at key (hint_word hint.Host)

-- what an option and a positional value say of the value
abbrev pub value_fields : (default values : Option (List ℕ)) → ValueHint → (help : Option (List ℕ)) → (hidden : Bool) → List Field
value_fields default values what help hidden =
    optional_at (codes "default") default
    ++ (values_at (codes "values") values
    ++ (hint_at (codes "hint") what
    ++ (optional_at (codes "help") help ++ flag_unless false (codes "hidden") hidden)))

abbrev pub flags_of_option : OptSaid → List Field
flags_of_option o = flag_unless false (codes "required") o.required ++ flag_unless false (codes "repeated") o.repeated

abbrev pub option_fields : OptSaid → List Field
option_fields o =
    spelling_fields o.spelling
    ++ (optional_at (codes "value") o.value
    ++ (value_fields o.default o.values o.hint o.help o.hidden
    ++ (optional_at (codes "env") o.env ++ flags_of_option o)))

abbrev pub option_json : OptSaid → Json
option_json o = object_with (option_fields o)

abbrev pub options_at : (key : List ℕ) → List OptSaid → List Field
options_at key os = list_at key (map option_json os)

abbrev pub choice_json : ChoiceSaid → Json
choice_json c = object_with (options_at (codes "option") c.options ++ flag_unless false (codes "required") c.required)

abbrev pub choices_at : (key : List ℕ) → List ChoiceSaid → List Field
choices_at key cs = list_at key (map choice_json cs)

-- a value with a default may be left out without a key that says so
abbrev pub flags_of_positional : PositionalSaid → List Field
flags_of_positional p =
    flag_unless (not (is_some p.default)) (codes "required") p.required
    ++ (flag_unless false (codes "repeated") p.repeated ++ flag_unless false (codes "strict") p.strict)

abbrev pub positional_fields : PositionalSaid → List Field
positional_fields p =
    text_at (codes "value") p.value ++ (value_fields p.default p.values p.hint p.help p.hidden ++ flags_of_positional p)

abbrev pub positional_json : PositionalSaid → Json
positional_json p = object_with (positional_fields p)

abbrev pub positionals_at : (key : List ℕ) → List PositionalSaid → List Field
positionals_at key ps = list_at key (map positional_json ps)

abbrev pub topic_json : TopicSaid → Json
topic_json t = object_with (text_at (codes "title") t.title ++ text_at (codes "text") t.text)

abbrev pub topics_at : (key : List ℕ) → List TopicSaid → List Field
topics_at key ts = list_at key (map topic_json ts)

-- ---- levels, groups and commands

abbrev pub level_texts : TextsSaid → List Field
level_texts t =
    optional_at (codes "about") t.about
    ++ (optional_at (codes "header") t.header
    ++ (optional_at (codes "footer") t.footer ++ optional_at (codes "usage") t.usage))

abbrev pub command_names : CommandNames → (help : Option (List ℕ)) → List Field
command_names names help =
    text_at (codes "name") names.name
    ++ (character_at (codes "short") names.initial
    ++ (optional_at (codes "help") help
    ++ (flag_unless false (codes "hidden") names.hidden ++ list_at (codes "aliases") (map string names.aliases))))

abbrev pub texts_of_level : LevelSaid → List Field
texts_of_level (level t required os cs gs ps ms) = level_texts t

abbrev pub names_of_command : CommandSaid → List Field
names_of_command (command names help inside) = command_names names help

abbrev mutual
  pub level_fields : LevelSaid → List Field
  level_fields (level t required os cs gs ps ms) =
      level_texts t
      ++ (flag_unless true (codes "command_required") required
      ++ (options_at (codes "option") os
      ++ (choices_at (codes "choice") cs
      ++ (list_at (codes "group") (groups_json gs)
      ++ (positionals_at (codes "positional") ps
      ++ (list_at (codes "command") (commands_json ms) ++ topics_at (codes "topic") t.topics))))))

  pub groups_json : GroupsSaid → List Json
  groups_json no_groups = []
  groups_json (groups g gs) = group_json g ∷ groups_json gs

  pub group_json : GroupSaid → Json
  group_json (group title os cs ps ms) =
      object_with
      (text_at (codes "title") title
      ++ (options_at (codes "option") os
      ++ (choices_at (codes "choice") cs
      ++ (positionals_at (codes "positional") ps ++ list_at (codes "command") (commands_json ms)))))

  pub commands_json : CommandsSaid → List Json
  commands_json no_commands = []
  commands_json (commands c cs) = command_json c ∷ commands_json cs

  pub command_json : CommandSaid → Json
  command_json (command names help inside) = object_with (command_names names help ++ level_fields inside)

-- ---- the whole

-- a key of the fixed words, its default, and the word
pub record WordSaid : Type 0 where
  pub key : List ℕ
  pub usual : List ℕ
  pub word : List ℕ

abbrev pub word_of : (key usual word : List ℕ) → WordSaid
word_of key usual word = record { key = key; usual = usual; word = word }

abbrev pub words_of : WordsSaid → List WordSaid
words_of w =
    word_of (codes "usage") english.usage w.usage
    ∷ word_of (codes "arguments") english.arguments w.arguments
    ∷ word_of (codes "options") english.options w.options
    ∷ word_of (codes "commands") english.commands w.commands
    ∷ word_of (codes "contents") english.contents w.contents
    ∷ word_of (codes "notes") english.notes w.notes
    ∷ word_of (codes "default") english.default w.default
    ∷ word_of (codes "possible_values") english.possible_values w.possible_values
    ∷ word_of (codes "env") english.env w.env
    ∷ word_of (codes "aliases") english.aliases w.aliases
    ∷ word_of (codes "command") english.command w.command
    ∷ word_of (codes "name") english.name w.name
    ∷ word_of (codes "synopsis") english.synopsis w.synopsis
    ∷ word_of (codes "description") english.description w.description
    ∷ word_of (codes "see_also") english.see_also w.see_also
    ∷ []

abbrev pub word_fields : WordSaid → List Field
word_fields w = text_unless w.usual w.key w.word

abbrev pub words_fields : List WordSaid → List Field
words_fields = flat_map word_fields

abbrev pub title_fields : DescriptionSaid → List Field
title_fields d =
    text_at (codes "name") d.name
    ++ (text_unless (codes "1") (codes "section") d.section
    ++ (optional_at (codes "date") d.date
    ++ (optional_at (codes "vendor") d.vendor ++ optional_at (codes "title") d.title)))

abbrev pub description_fields : DescriptionSaid → List Field
description_fields d =
    title_fields d
    ++ (text_unless (codes "en") (codes "language") d.language
    ++ (object_at (codes "words") (words_fields (words_of d.words))
    ++ (options_at (codes "help_option") d.help_options ++ level_fields d.level)))

abbrev pub json_of : DescriptionSaid → Json
json_of d = object_with (description_fields d)

-- a line for each member and item, two blanks deeper for each bracket, and a newline at the end
abbrev pub json_text : DescriptionSaid → List ℕ
json_text d = pretty (json_tokens (json_of d)) ++ codes "\n"

-- The text is one of this value and a newline: wherever arrays and objects may nest as
-- deep as those of the value, it is what a reader finds.
abbrev pub IsReadBack : (text : List ℕ) → Json → Type 0
IsReadBack text j = (body : List ℕ) × (text ≡ body ++ codes "\n") × ((limit : ℕ) → depth j ≤ limit → value limit (tokens body) ≡ Some (j, []))
