-- The texts that a level of a description says, its names among them, and the fixed
-- words. A short name is the text of its character.
use Rattle.std.specs.Prelude.{encode_utf8, ℕ, List, [], ◌∷◌, ◌++◌, flat_map, Option, Some, None}
use Rattle.description.specs.Content.{NameSaid, short, long, both, SpellingSaid, named, syntax, OptSaid, ChoiceSaid, PositionalSaid, TopicSaid, TextsSaid, LevelSaid, level, GroupsSaid, no_groups, groups, GroupSaid, group, CommandsSaid, no_commands, commands, CommandSaid, command}
use Rattle.description.specs.Words.{WordsSaid}

-- ---- the parts of a level

abbrev pub text_of : Option (List ℕ) → List (List ℕ)
text_of None = []
text_of (Some text) = text ∷ []

abbrev pub initial_text : Option ℕ → List (List ℕ)
initial_text None = []
initial_text (Some c) = encode_utf8 c ∷ []

abbrev pub name_texts : NameSaid → List (List ℕ)
name_texts (short c) = encode_utf8 c ∷ []
name_texts (long text) = text ∷ []
name_texts (both c text) = encode_utf8 c ∷ text ∷ []

abbrev pub spelling_texts : SpellingSaid → List (List ℕ)
spelling_texts (named name) = name_texts name
spelling_texts (syntax text) = text ∷ []

abbrev pub option_texts : OptSaid → List (List ℕ)
option_texts o = spelling_texts o.spelling ++ (text_of o.value ++ (text_of o.default ++ (text_of o.values ++ (text_of o.help ++ text_of o.env))))

abbrev pub choice_texts : ChoiceSaid → List (List ℕ)
choice_texts c = flat_map option_texts c.options

abbrev pub positional_texts : PositionalSaid → List (List ℕ)
positional_texts p = p.value ∷ (text_of p.default ++ (text_of p.values ++ text_of p.help))

abbrev pub topic_texts : TopicSaid → List (List ℕ)
topic_texts t = t.title ∷ t.text ∷ []

abbrev pub own_texts : TextsSaid → List (List ℕ)
own_texts t = text_of t.about ++ (text_of t.header ++ (text_of t.footer ++ (text_of t.usage ++ flat_map topic_texts t.topics)))

-- ---- levels

abbrev mutual
  pub level_texts : LevelSaid → List (List ℕ)
  level_texts (level t r os cs gs ps ms) = own_texts t ++ (flat_map option_texts os ++ (flat_map choice_texts cs ++ (groups_texts gs ++ (flat_map positional_texts ps ++ commands_texts ms))))

  pub groups_texts : GroupsSaid → List (List ℕ)
  groups_texts no_groups = []
  groups_texts (groups g gs) = group_texts g ++ groups_texts gs

  pub group_texts : GroupSaid → List (List ℕ)
  group_texts (group title os cs ps ms) = title ∷ (flat_map option_texts os ++ (flat_map choice_texts cs ++ (flat_map positional_texts ps ++ commands_texts ms)))

  pub commands_texts : CommandsSaid → List (List ℕ)
  commands_texts no_commands = []
  commands_texts (commands m ms) = command_texts m ++ commands_texts ms

  pub command_texts : CommandSaid → List (List ℕ)
  command_texts (command called help l) = called.name ∷ (initial_text called.initial ++ (called.aliases ++ (text_of help ++ level_texts l)))

-- ---- fixed words

abbrev pub fixed_texts : WordsSaid → List (List ℕ)
fixed_texts w = w.usage ∷ w.arguments ∷ w.options ∷ w.commands ∷ w.contents ∷ w.notes ∷ w.default ∷ w.possible_values ∷ w.env ∷ w.aliases ∷ w.command ∷ w.name ∷ w.synopsis ∷ w.description ∷ w.see_also ∷ []
