-- The characters that a description says, in its texts and its names.
use Rattle.std.specs.Prelude.{◌≡◌, chars, ℕ, List, [], ◌∷◌, ◌++◌, flat_map, true, Option, Some, None}
use Rattle.std.specs.List.{list_all}
use Rattle.toml.specs.Data.{Members}
use Rattle.description.specs.Words.{WordsSaid}
use Rattle.description.specs.Content.{NameSaid, short, long, both, SpellingSaid, named, syntax, OptSaid, ChoiceSaid, PositionalSaid, TopicSaid, TextsSaid, LevelSaid, level, GroupsSaid, no_groups, groups, GroupSaid, group, CommandsSaid, no_commands, commands, CommandSaid, command, DescriptionSaid}
use Rattle.description_toml.specs.Described.{described}
use Rattle.description_toml.specs.Described.Texts.{is_text_character}

-- ---- the parts of a level

abbrev pub characters_of : Option (List ℕ) → List ℕ
characters_of None = []
characters_of (Some text) = chars text

abbrev pub initial_characters : Option ℕ → List ℕ
initial_characters None = []
initial_characters (Some c) = c ∷ []

abbrev pub name_characters : NameSaid → List ℕ
name_characters (short c) = c ∷ []
name_characters (long text) = chars text
name_characters (both c text) = c ∷ chars text

abbrev pub spelling_characters : SpellingSaid → List ℕ
spelling_characters (named name) = name_characters name
spelling_characters (syntax text) = chars text

abbrev pub option_characters : OptSaid → List ℕ
option_characters o = spelling_characters o.spelling ++ (characters_of o.value ++ (characters_of o.default ++ (characters_of o.values ++ (characters_of o.help ++ characters_of o.env))))

abbrev pub choice_characters : ChoiceSaid → List ℕ
choice_characters c = flat_map option_characters c.options

abbrev pub positional_characters : PositionalSaid → List ℕ
positional_characters p = chars p.value ++ (characters_of p.default ++ (characters_of p.values ++ characters_of p.help))

abbrev pub topic_characters : TopicSaid → List ℕ
topic_characters t = chars t.title ++ chars t.text

abbrev pub texts_characters : TextsSaid → List ℕ
texts_characters t = characters_of t.about ++ (characters_of t.header ++ (characters_of t.footer ++ (characters_of t.usage ++ flat_map topic_characters t.topics)))

-- ---- levels

abbrev mutual
  pub level_characters : LevelSaid → List ℕ
  level_characters (level t r os cs gs ps ms) = texts_characters t ++ (flat_map option_characters os ++ (flat_map choice_characters cs ++ (groups_characters gs ++ (flat_map positional_characters ps ++ commands_characters ms))))

  pub groups_characters : GroupsSaid → List ℕ
  groups_characters no_groups = []
  groups_characters (groups g gs) = group_characters g ++ groups_characters gs

  pub group_characters : GroupSaid → List ℕ
  group_characters (group title os cs ps ms) = chars title ++ (flat_map option_characters os ++ (flat_map choice_characters cs ++ (flat_map positional_characters ps ++ commands_characters ms)))

  pub commands_characters : CommandsSaid → List ℕ
  commands_characters no_commands = []
  commands_characters (commands m ms) = command_characters m ++ commands_characters ms

  pub command_characters : CommandSaid → List ℕ
  command_characters (command names help l) = chars names.name ++ (initial_characters names.initial ++ (flat_map chars names.aliases ++ (characters_of help ++ level_characters l)))

-- ---- the whole

abbrev pub each_word : WordsSaid → List (List ℕ)
each_word w = w.usage ∷ w.arguments ∷ w.options ∷ w.commands ∷ w.contents ∷ w.notes ∷ w.default ∷ w.possible_values ∷ w.env ∷ w.aliases ∷ w.command ∷ w.name ∷ w.synopsis ∷ w.description ∷ w.see_also ∷ []

abbrev pub description_characters : DescriptionSaid → List ℕ
description_characters d =
    chars d.name ++ (chars d.section ++ (characters_of d.date ++ (characters_of d.vendor ++ (characters_of d.title ++ (chars d.language ++ (flat_map chars (each_word d.words) ++ (flat_map option_characters d.help_options ++ level_characters d.level)))))))

-- no text and no name of a description that a TOML text gives holds a control character other than newline and tab, nor
-- a noncharacter
abbrev pub TextsArePlain : Type 0
TextsArePlain = (ms : Members) (d : DescriptionSaid) → described ms ≡ Some d → list_all is_text_character (description_characters d) ≡ true
