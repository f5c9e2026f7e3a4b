-- Each text and each name of a description that a TOML text gives is plain, reader by reader.
use Rattle.std.proofs.lemmas.Grind.{common_steps}
use Rattle.std.proofs.Common.{ℕ, List, [], ◌++◌, Bool, true, false, Option, Some, None, refl, codes, arith, ◌≡◌}
use Rattle.std.specs.Prelude.{flat_map, if◌then◌else◌, is_some, option_and_then}
use Rattle.std.specs.Str.{chars}
use Rattle.toml.specs.Data.{Members}
use Rattle.description.specs.Words.{WordsSaid, english}
use Rattle.description.specs.Content.{NameSaid, SpellingSaid, OptSaid, ChoiceSaid, PositionalSaid, TopicSaid, TextsSaid, LevelSaid, GroupsSaid, GroupSaid, CommandsSaid, CommandSaid, DescriptionSaid}
use Rattle.description_toml.specs.Described.{alternative_keys, choice_from, choice_keys, command_head, command_keys, command_of, CommandHead, commands_at, described, description_head, description_keys, description_of, DescriptionHead, group_of, GroupHead, groups_at, level_of, lists_from, name_from, option_from, option_keys, option_spelling, Outline, outline_from, positional_from, texts_from, title_words, topic_from, topic_keys, help_option_keys, fixed_in, is_syntax, spelling_from, refused_if, hint_unless, option_texts, option_value, positional_texts, required_beside, ValueSaid, language_from, TitleWords}
use Rattle.description_toml.specs.Described.Taken.{has_distinct_names}
use Rattle.description_toml.specs.Described.Texts.{as_body, as_command_name, as_heading, as_long, as_name, as_text, as_value, is_body, is_command_name, is_heading, is_long, is_name, is_short, is_text, is_value, if_passes, is_line, as_language, is_language_tag}
use Rattle.description_toml.specs.Described.Values.{as_short, each_table, flag_at, if_short, is_empty, optional_at, required_at, table_at, tables_at, as_default, as_syntax, as_texts, as_values, as_hint, default_text, listed_texts, words_at}
use Rattle.description_laws.specs.Plain.{each_word, characters_of, choice_characters, command_characters, commands_characters, description_characters, group_characters, groups_characters, initial_characters, level_characters, name_characters, option_characters, spelling_characters, positional_characters, texts_characters, topic_characters, TextsArePlain}
use Rattle.description_laws.proofs.Characters.{body_plain, colon_plain, command_plain, day_plain, digit_plain, english_plain, heading_plain, language_plain, long_plain, name_plain, Plain, plain_append, plain_cons, plain_each, PlainCharacter, PlainText, section_plain, short_plain, title_plain, value_plain, line_plain}
use Rattle.description_toml.specs.Syntax.{is_well_formed}
use Rattle.description_laws.proofs.Readers.{Holding, WordsAre, commands_hold, fixed_hold, group_title, groups_hold, words_there}
use Rattle.description_toml.proofs.Each.{Each}
use Rattle.description_toml.proofs.Gives.{given, Gives, gives_each, gives_if, gives_map, gives_optional, gives_passing, gives_required, gives_text, gives_then, gives_unless, gives_whatever, gives_with_only, gives_words, Whatever}

-- ---- texts and names at a key

abbrev PlainOption : Option (List ℕ) → Type 0
PlainOption = Gives PlainText

there : (o : Option (List ℕ)) → PlainOption o → Plain (characters_of o)
there o h1 = grind arith

text_there : (key : List ℕ) (ms : Members) → Gives PlainOption (optional_at as_text key ms)
text_there = gives_optional PlainText as_text (gives_text PlainText is_text (λ text h. h))

value_there : (key : List ℕ) (ms : Members) → Gives PlainOption (optional_at as_value key ms)
value_there = gives_optional PlainText as_value (gives_text PlainText is_value value_plain)

plain_if : (c : ℕ) (b : Bool) → (b ≡ true → PlainCharacter c) → Gives PlainCharacter (if b then Some c else None)
plain_if c true h = h refl
plain_if c false h = tt

short_in : (c : ℕ) → Gives PlainCharacter (if_short c)
short_in c = plain_if c (is_short c) (short_plain c)

short_there : (key : List ℕ) (ms : Members) → Gives (Gives PlainCharacter) (optional_at as_short key ms)
short_there = grind (arith, gives_optional, gives_then, gives_whatever, short_in)

-- ---- options, choices, positional values and topics

abbrev PlainName : NameSaid → Type 0
PlainName n = Plain (name_characters n)

abbrev PlainOpt : OptSaid → Type 0
PlainOpt o = Plain (option_characters o)

abbrev PlainChoice : ChoiceSaid → Type 0
PlainChoice c = Plain (choice_characters c)

abbrev PlainPositional : PositionalSaid → Type 0
PlainPositional p = Plain (positional_characters p)

either_plain : (s : Option ℕ) (l : Option (List ℕ)) → Gives PlainCharacter s → PlainOption l → Gives PlainName (name_from s l)
either_plain s l h2 h3 = grind (arith, plain_cons)

abbrev PlainSpelling : SpellingSaid → Type 0
PlainSpelling s = Plain (spelling_characters s)

spelled_plain : (s : Option ℕ) (l x : Option (List ℕ)) → Gives PlainCharacter s → PlainOption l → PlainOption x → Gives PlainSpelling (spelling_from s l x)
spelled_plain s l x h3 h4 h5 = grind (arith, gives_map, either_plain)

long_there : (ms : Members) → Gives PlainOption (optional_at as_long (codes "long") ms)
long_there = gives_optional PlainText as_long (gives_text PlainText is_long long_plain) (codes "long")

syntax_there : (ms : Members) → Gives PlainOption (optional_at as_syntax (codes "syntax") ms)
syntax_there = gives_optional PlainText as_syntax (λ d. gives_then PlainText PlainText (as_value d) (if_passes is_well_formed) (gives_text PlainText is_value value_plain d) (λ text h. gives_if PlainText (is_well_formed text) (Some text) h)) (codes "syntax")

spelling_there : (ms : Members) → Gives PlainSpelling (option_spelling ms)
spelling_there ms = grind (arith, gives_then (Gives PlainCharacter) PlainSpelling, short_there, gives_then PlainOption PlainSpelling, long_there ms, syntax_there ms, spelled_plain)

pub record PlainValue (v : ValueSaid) : Type 0 where
  pub value : PlainOption v.value
  pub default : PlainOption v.default
  pub values : PlainOption v.values

default_there : (ms : Members) → Gives PlainOption (optional_at as_default (codes "default") ms)
default_there = gives_optional PlainText as_default (λ d. gives_then Whatever PlainText (default_text d) (if_passes is_line) (gives_whatever (default_text d)) (λ text u. gives_passing PlainText is_line line_plain text)) (codes "default")

values_there : (ms : Members) → Gives PlainOption (optional_at as_values (codes "values") ms)
values_there = gives_optional PlainText as_values (λ d. gives_then Whatever PlainText (as_texts as_value d) _ (gives_whatever (as_texts as_value d)) (λ values u. gives_passing PlainText is_value value_plain (listed_texts values))) (codes "values")

alone_there : (other : Bool) (o : Option (List ℕ)) → PlainOption o → Gives PlainOption (refused_if other o)
alone_there other o h2 = grind arith

option_value_there : (is_syntax : Bool) (ms : Members) → Gives PlainValue (option_value is_syntax ms)
unfolding option_value
option_value_there is_syntax ms = grind (arith, gives_then, value_there, alone_there, default_there, values_there, gives_whatever)

texts_of_value : (default values help : Option (List ℕ)) → PlainOption default → PlainOption values → PlainOption help → Plain (characters_of default ++ (characters_of values ++ characters_of help))
texts_of_value default values help d w h = grind (arith, plain_append, there)

opt_plain : (o : OptSaid) → PlainSpelling o.spelling → PlainOption o.value → PlainOption o.default → PlainOption o.values → PlainOption o.help → PlainOption o.env → PlainOpt o
opt_plain o n v d w h e = grind (arith, plain_append, there)

flag_there : (default : Bool) (key : List ℕ) (ms : Members) → Gives Whatever (flag_at default key ms)
flag_there default key ms = gives_whatever (flag_at default key ms)

option_there : (ms : Members) → Gives PlainOpt (option_texts ms)
option_there ms =
    gives_then PlainSpelling PlainOpt (option_spelling ms) _ (spelling_there ms) (λ spelling n.
    gives_then PlainValue PlainOpt (option_value (is_syntax spelling) ms) _ (option_value_there (is_syntax spelling) ms) (λ v p.
    gives_then PlainOption PlainOpt (optional_at as_text (codes "help") ms) _ (text_there (codes "help") ms) (λ help h.
    gives_then Whatever PlainOpt (flag_at false (codes "hidden") ms) _ (flag_there false (codes "hidden") ms) (λ hidden u.
    gives_then PlainOption PlainOpt (optional_at as_name (codes "env") ms) _ (gives_optional PlainText as_name (gives_text PlainText is_name name_plain) (codes "env") ms) (λ env e.
    opt_plain (record { spelling = spelling; value = v.value; default = v.default; values = v.values; hint = v.hint; help = help; env = env; required = false; repeated = false; hidden = hidden }) n p.value p.default p.values h e)))))

option_plain : (keys : List (List ℕ)) (ms : Members) → Gives PlainOpt (option_from keys ms)
unfolding option_from
option_plain keys = gives_with_only PlainOpt keys _ (λ ms.
    gives_then PlainOpt PlainOpt (option_texts ms) _ (option_there ms) (λ option o.
    gives_then Whatever PlainOpt (required_beside option.default false ms) _ (gives_whatever (required_beside option.default false ms)) (λ required u.
    gives_then Whatever PlainOpt (flag_at false (codes "repeated") ms) _ (gives_whatever (flag_at false (codes "repeated") ms)) (λ repeated w. o))))

choice_plain : (ms : Members) → Gives PlainChoice (choice_from ms)
unfolding choice_from
choice_plain = gives_with_only PlainChoice choice_keys _ (λ ms.
    gives_then Whatever PlainChoice (tables_at (codes "option") ms) _ (gives_whatever (tables_at (codes "option") ms)) (λ os u.
    gives_unless PlainChoice (is_empty os) _
    (gives_then Whatever PlainChoice (flag_at false (codes "required") ms) _ (gives_whatever (flag_at false (codes "required") ms)) (λ required w.
    gives_map (Each PlainOpt) PlainChoice (each_table (option_from alternative_keys) os) _ (gives_each PlainOpt (option_from alternative_keys) (option_plain alternative_keys) os) (λ xs h. plain_each option_characters xs h)))))

positional_there : (ms : Members) → Gives PlainPositional (positional_texts ms)
positional_there ms =
    gives_then PlainText PlainPositional (required_at as_value (codes "value") ms) _ (gives_required PlainText as_value (gives_text PlainText is_value value_plain) (codes "value") ms) (λ value v.
    gives_then PlainOption PlainPositional (optional_at as_default (codes "default") ms) _ (default_there ms) (λ default d.
    gives_then PlainOption PlainPositional (optional_at as_values (codes "values") ms) _ (values_there ms) (λ values w.
    gives_then Whatever PlainPositional (option_and_then (hint_unless (is_some values)) (optional_at as_hint (codes "hint") ms)) _ (gives_whatever (option_and_then (hint_unless (is_some values)) (optional_at as_hint (codes "hint") ms))) (λ hint q.
    gives_then PlainOption PlainPositional (optional_at as_text (codes "help") ms) _ (text_there (codes "help") ms) (λ help h.
    gives_then Whatever PlainPositional (flag_at false (codes "hidden") ms) _ (flag_there false (codes "hidden") ms) (λ hidden u.
    plain_append (chars value) (characters_of default ++ (characters_of values ++ characters_of help)) v (texts_of_value default values help d w h)))))))

positional_plain : (ms : Members) → Gives PlainPositional (positional_from ms)
unfolding positional_from
positional_plain = grind (arith, common_steps, gives_with_only, gives_then, positional_there, gives_whatever, flag_there)

abbrev PlainTopic : TopicSaid → Type 0
PlainTopic t = Plain (topic_characters t)

topic_plain : (ms : Members) → Gives PlainTopic (topic_from ms)
unfolding topic_from
topic_plain = gives_with_only PlainTopic topic_keys _ (λ ms.
    gives_then PlainText PlainTopic (required_at as_heading (codes "title") ms) _ (gives_required PlainText as_heading (gives_text PlainText is_heading heading_plain) (codes "title") ms) (λ title t.
    gives_then PlainText PlainTopic (required_at as_body (codes "text") ms) _ (gives_required PlainText as_body (gives_text PlainText is_body body_plain) (codes "text") ms) (λ text b.
    plain_append (chars title) (chars text) t b)))

-- ---- what a group and a level say of themselves

pub record PlainTexts (t : TextsSaid) : Type 0 where
  pub about : PlainOption t.about
  pub header : PlainOption t.header
  pub footer : PlainOption t.footer
  pub usage : PlainOption t.usage

texts_plain : (t : TextsSaid) (ts : List TopicSaid) → PlainTexts t → Each PlainTopic ts → Plain (texts_characters (record t { topics = ts }))
texts_plain t ts h each = grind (arith, plain_append, there, plain_each)

texts_there : (ms : Members) → Gives PlainTexts (texts_from ms)
unfolding texts_from
texts_there ms = grind (arith, gives_then, text_there)

abbrev PlainOutline : Outline → Type 0
PlainOutline o = PlainTexts o.texts

outline_there : (ms : Members) → Gives PlainOutline (outline_from ms)
unfolding outline_from
outline_there ms =
    gives_then PlainTexts PlainOutline (texts_from ms) _ (texts_there ms) (λ texts t.
    gives_then Whatever PlainOutline (flag_at true (codes "command_required") ms) _ (gives_whatever (flag_at true (codes "command_required") ms)) (λ required u.
    gives_then Whatever PlainOutline (lists_from ms) _ (gives_whatever (lists_from ms)) (λ lists v.
    gives_if PlainOutline (has_distinct_names ms) _ t)))

pub record PlainCommandHead (c : CommandHead) : Type 0 where
  pub name : PlainText c.names.name
  pub initial : Gives PlainCharacter c.names.initial
  pub aliases : Each PlainText c.names.aliases
  pub help : PlainOption c.help
  pub outline : PlainOutline c.outline

command_head_there : (ms : Members) → Gives PlainCommandHead (command_head ms)
unfolding command_head
command_head_there = gives_with_only PlainCommandHead command_keys _ (λ ms.
    gives_then PlainText PlainCommandHead (required_at as_command_name (codes "name") ms) _ (gives_required PlainText as_command_name (gives_text PlainText is_command_name command_plain) (codes "name") ms) (λ name n.
    gives_then (Gives PlainCharacter) PlainCommandHead (optional_at as_short (codes "short") ms) _ (short_there (codes "short") ms) (λ initial i.
    gives_then PlainOption PlainCommandHead (optional_at as_text (codes "help") ms) _ (text_there (codes "help") ms) (λ help h.
    gives_then Whatever PlainCommandHead (flag_at false (codes "hidden") ms) _ (flag_there false (codes "hidden") ms) (λ hidden u.
    gives_then (Each PlainText) PlainCommandHead (words_at as_command_name (codes "aliases") ms) _ (gives_words PlainText as_command_name (gives_text PlainText is_command_name command_plain) (codes "aliases") ms) (λ aliases a.
    gives_then PlainOutline PlainCommandHead (outline_from ms) _ (outline_there ms) (λ outline o.
    record { name = n; initial = i; aliases = a; help = h; outline = o })))))))

-- ---- groups, levels and commands

abbrev PlainGroups : GroupsSaid → Type 0
PlainGroups gs = Plain (groups_characters gs)

abbrev PlainGroup : GroupSaid → Type 0
PlainGroup g = Plain (group_characters g)

abbrev PlainCommands : CommandsSaid → Type 0
PlainCommands ms = Plain (commands_characters ms)

abbrev PlainCommand : CommandSaid → Type 0
PlainCommand m = Plain (command_characters m)

abbrev PlainLevel : LevelSaid → Type 0
PlainLevel l = Plain (level_characters l)

five_plain : (a : List ℕ) (os : List OptSaid) (cs : List ChoiceSaid) (b : List ℕ) (ps : List PositionalSaid) (ms : CommandsSaid) → Plain a → Each PlainOpt os → Each PlainChoice cs → Plain b → Each PlainPositional ps → PlainCommands ms
    → Plain (a ++ (flat_map option_characters os ++ (flat_map choice_characters cs ++ (b ++ (flat_map positional_characters ps ++ commands_characters ms)))))
five_plain a os cs b ps ms ha ho hc hb hp hm = grind (arith, plain_append, plain_each)

group_there : (inner : Option CommandsSaid) (g : GroupHead) → Gives PlainCommands inner → PlainText g.title → Gives PlainGroup (group_of inner g)
unfolding group_of
group_there inner g i t =
    gives_then (Each PlainOpt) PlainGroup (each_table (option_from option_keys) g.lists.options) _ (gives_each PlainOpt (option_from option_keys) (option_plain option_keys) g.lists.options) (λ os o.
    gives_then (Each PlainChoice) PlainGroup (each_table choice_from g.lists.choices) _ (gives_each PlainChoice choice_from choice_plain g.lists.choices) (λ cs c.
    gives_then (Each PlainPositional) PlainGroup (each_table positional_from g.lists.positionals) _ (gives_each PlainPositional positional_from positional_plain g.lists.positionals) (λ ps p.
    gives_map PlainCommands PlainGroup inner _ i (λ ms m. five_plain (chars g.title) os cs [] ps ms t o c refl p m))))

level_there : (inner_groups : Option GroupsSaid) (inner_commands : Option CommandsSaid) (o : Outline) → Gives PlainGroups inner_groups → Gives PlainCommands inner_commands → PlainOutline o → Gives PlainLevel (level_of inner_groups inner_commands o)
unfolding level_of
level_there inner_groups inner_commands o ig ic t =
    gives_then (Each PlainOpt) PlainLevel (each_table (option_from option_keys) o.lists.options) _ (gives_each PlainOpt (option_from option_keys) (option_plain option_keys) o.lists.options) (λ os ho.
    gives_then (Each PlainChoice) PlainLevel (each_table choice_from o.lists.choices) _ (gives_each PlainChoice choice_from choice_plain o.lists.choices) (λ cs hc.
    gives_then PlainGroups PlainLevel inner_groups _ ig (λ gs hg.
    gives_then (Each PlainPositional) PlainLevel (each_table positional_from o.lists.positionals) _ (gives_each PlainPositional positional_from positional_plain o.lists.positionals) (λ ps hp.
    gives_then PlainCommands PlainLevel inner_commands _ ic (λ ms hm.
    gives_map (Each PlainTopic) PlainLevel (each_table topic_from o.lists.topics) _ (gives_each PlainTopic topic_from topic_plain o.lists.topics) (λ ts ht.
    five_plain (texts_characters (record o.texts { topics = ts })) os cs (groups_characters gs) ps ms (texts_plain o.texts ts t ht) ho hc hg hp hm))))))

initial_plain : (i : Option ℕ) → Gives PlainCharacter i → Plain (initial_characters i)
initial_plain i h1 = grind (arith, plain_cons)

command_there : (inner_groups : Option GroupsSaid) (inner_commands : Option CommandsSaid) (c : CommandHead) → Gives PlainGroups inner_groups → Gives PlainCommands inner_commands → PlainCommandHead c → Gives PlainCommand (command_of inner_groups inner_commands c)
command_there inner_groups inner_commands c ig ic h =
    gives_map PlainLevel PlainCommand (level_of inner_groups inner_commands c.outline) _ (level_there inner_groups inner_commands c.outline ig ic h.outline) (λ l p.
    let texts = plain_append (characters_of c.help) (level_characters l) (there c.help h.help) p in
    let others = plain_append (flat_map chars c.names.aliases) (characters_of c.help ++ level_characters l) (plain_each chars c.names.aliases h.aliases) texts in
    plain_append (chars c.names.name) (initial_characters c.names.initial ++ (flat_map chars c.names.aliases ++ (characters_of c.help ++ level_characters l))) h.name
    (plain_append (initial_characters c.names.initial) (flat_map chars c.names.aliases ++ (characters_of c.help ++ level_characters l)) (initial_plain c.names.initial h.initial) others))

all_plain : Holding (λ ts cs. PlainCommands cs) (λ ts gs. PlainGroups gs) (λ ts c. PlainCommand c) (λ ts g. PlainGroup g)
all_plain = grind (arith, plain_append, gives_then PlainCommandHead PlainCommand, command_head_there, command_there, gives_then, group_title PlainText, heading_plain, group_there)

-- ---- the whole

abbrev PlainWords : TitleWords → Type 0
PlainWords = WordsAre PlainText

abbrev PlainFixed : WordsSaid → Type 0
PlainFixed w = Each PlainText (each_word w)

english_fixed : PlainFixed english
unfolding chars
english_fixed = (refl, (refl, (refl, (refl, (refl, (refl, (refl, (refl, (refl, (refl, (refl, (refl, (refl, (refl, (refl, tt)))))))))))))))

words_in : (o : Option Members) → Gives PlainFixed (fixed_in o)
words_in = fixed_hold PlainText english_fixed (λ text h. colon_plain text (heading_plain text h))

language_named : (o : Option (List ℕ)) → PlainOption o → PlainText (language_from o)
language_named o h1 = grind (arith, english_plain)

pub record PlainHead (h : DescriptionHead) : Type 0 where
  pub name : PlainText h.name
  pub words : PlainWords h.words
  pub language : PlainText h.language
  pub outline : PlainOutline h.outline

head_there : (ms : Members) → Gives PlainHead (description_head ms)
unfolding description_head
head_there = gives_with_only PlainHead description_keys _ (λ ms.
    gives_then PlainText PlainHead (required_at as_command_name (codes "name") ms) _ (gives_required PlainText as_command_name (gives_text PlainText is_command_name command_plain) (codes "name") ms) (λ name n.
    gives_then PlainWords PlainHead (title_words ms) _ (words_there PlainText section_plain digit_plain title_plain day_plain ms) (λ words w.
    gives_then PlainOption PlainHead (optional_at as_language (codes "language") ms) _ (gives_optional PlainText as_language (gives_text PlainText is_language_tag language_plain) (codes "language") ms) (λ language g.
    gives_then Whatever PlainHead (table_at (codes "words") ms) _ (gives_whatever (table_at (codes "words") ms)) (λ fixed v.
    gives_then Whatever PlainHead (tables_at (codes "help_option") ms) _ (gives_whatever (tables_at (codes "help_option") ms)) (λ helps u.
    gives_then PlainOutline PlainHead (outline_from ms) _ (outline_there ms) (λ outline o.
    record { name = n; words = w; language = language_named language g; outline = o })))))))

abbrev PlainDescription : DescriptionSaid → Type 0
PlainDescription d = Plain (description_characters d)

with_head : (h : DescriptionHead) (after : List ℕ) → PlainHead h → Plain after
    → Plain (chars h.name ++ (chars h.words.section ++ (characters_of h.words.date ++ (characters_of h.words.vendor ++ (characters_of h.words.title ++ (chars h.language ++ after))))))
with_head h after p q = grind (arith, plain_append, there)

whole : (h : DescriptionHead) (w : WordsSaid) (helps : List OptSaid) (l : LevelSaid) → PlainHead h → PlainFixed w → Each PlainOpt helps → PlainLevel l → PlainDescription (description_of h w helps l)
whole h w helps l p f o q =
    let after = plain_append (flat_map chars (each_word w)) (flat_map option_characters helps ++ level_characters l) (plain_each chars (each_word w) f) (plain_append (flat_map option_characters helps) (level_characters l) (plain_each option_characters helps o) q) in
    with_head h (flat_map chars (each_word w) ++ (flat_map option_characters helps ++ level_characters l)) p after

described_plain : (ms : Members) → Gives PlainDescription (described ms)
unfolding described
described_plain ms =
    gives_then PlainHead PlainDescription (description_head ms) _ (head_there ms) (λ h p.
    gives_then PlainFixed PlainDescription (fixed_in h.fixed) _ (words_in h.fixed) (λ w f.
    gives_then (Each PlainOpt) PlainDescription (each_table (option_from help_option_keys) h.help_options) _ (gives_each PlainOpt (option_from help_option_keys) (option_plain help_option_keys) h.help_options) (λ helps o.
    gives_map PlainLevel PlainDescription (level_of (groups_at (codes "group") ms) (commands_at (codes "command") ms) h.outline) (description_of h w helps)
    (level_there (groups_at (codes "group") ms) (commands_at (codes "command") ms) h.outline (groups_hold all_plain (codes "group") ms) (commands_hold all_plain (codes "command") ms) p.outline) (λ l q. whole h w helps l p f o q))))

pub texts_are_plain : TextsArePlain
texts_are_plain ms d e = given PlainDescription (described ms) d (described_plain ms) e
