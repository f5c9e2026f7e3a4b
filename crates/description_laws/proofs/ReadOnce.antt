-- The title line and the headings of a description that a TOML text gives hold no
-- backslash and no double quote, reader by reader.
use Rattle.std.proofs.lemmas.Grind.{common_steps}
use Rattle.std.proofs.Common.{◌≡◌, ℕ, zero, suc, ◌+◌, length, take, List, [], ◌∷◌, ◌++◌, true, false, Option, None, Some, refl, ◌∙◌, arith, codes, flat_map}
use Rattle.std.specs.Prelude.{◌&&◌, chars, flat_map, not}
use Rattle.std.specs.Char.{is_ascii_alphanumeric}
use Rattle.std.specs.List.{list_all}
use Rattle.std.specs.Str.{trim_end}
use Rattle.std.proofs.lemmas.Bool.{and_parts, and_from}
use Rattle.std.proofs.lemmas.Bool.Decides.{nat_tests}
use Rattle.std.proofs.lemmas.List.Folds.{list_all-append}
use Rattle.toml.specs.Data.{Members}
use Rattle.toml_datetime.specs.Text.{date_text}
use Rattle.description.specs.Words.{WordsSaid, english}
use Rattle.description.specs.Content.{OptSaid, TopicSaid, LevelSaid, GroupsSaid, GroupSaid, CommandsSaid, CommandSaid}
use Rattle.description_toml.specs.Described.{choice_from, command_head, command_keys, command_of, CommandHead, commands_at, described, description_head, description_keys, description_of, DescriptionHead, fixed_in, group_head, group_of, GroupHead, groups_at, level_of, option_from, Outline, outline_from, positional_from, title_words, topic_from, help_option_keys, option_keys, TitleWords}
use Rattle.description_toml.specs.Described.Texts.{as_command_name, as_text, before_colon, has_blank_end, is_command_name, is_empty_text, without_colon, is_heading, is_long, is_read_once, is_section, is_title, as_language, is_word_character}
use Rattle.description_toml.specs.Described.Values.{as_short, each_table, optional_at, required_at, table_at, tables_at, flag_at, words_at}
use Rattle.description_laws.specs.Plain.{each_word}
use Rattle.description_laws.specs.ReadOnce.{IsReadOnce, TitlesAreReadOnce, command_headings, commands_headings, given, group_headings, groups_headings, level_headings}
use Rattle.description_laws.proofs.Characters.{date_bytes, Dates, digit_bytes, is_date_byte, weaker}
use Rattle.description_laws.proofs.Readers.{Holding, WordsAre, commands_hold, fixed_hold, group_title, groups_hold, words_there}
use Rattle.description_toml.proofs.Each.{Each}
use Rattle.description_toml.proofs.Gives.{given as given_there, Gives, gives_each, gives_map, gives_required, gives_text, gives_then, gives_whatever, gives_with_only, Whatever, gives_words}

-- ---- texts

abbrev pub Once : List ℕ → Type 0
Once bs = list_all is_read_once bs ≡ true

abbrev pub OnceOption : Option (List ℕ) → Type 0
OnceOption = Gives Once

pub once_append : (xs ys : List ℕ) → Once xs → Once ys → Once (xs ++ ys)
once_append xs ys h k = list_all-append is_read_once xs ys ∙ and_from (list_all is_read_once xs) (list_all is_read_once ys) h k

title_once : (text : List ℕ) → is_title text ≡ true → Once text
title_once text h = let both = and_parts (list_all is_word_character (chars text)) (list_all is_read_once text) h in both.1

heading_once : (text : List ℕ) → is_heading text ≡ true → Once text
heading_once text h = let both = and_parts (is_title text) (not (has_blank_end text) && not (is_empty_text (without_colon text))) h in title_once text both.0

command_once : (text : List ℕ) → is_command_name text ≡ true → Once text
command_once text h = let both = and_parts (is_long text) (list_all is_read_once text) h in both.1

letter : (b : ℕ) → is_ascii_alphanumeric b ≡ true → is_read_once b ≡ true
letter b h = grind (arith, nat_tests)

section_once : (text : List ℕ) → is_section text ≡ true → Once text
section_once text h = grind (arith, and_parts, weaker, letter)

date_byte : (b : ℕ) → is_date_byte b ≡ true → is_read_once b ≡ true
date_byte b h = grind (arith, nat_tests)

dates_once : (bs : List ℕ) → Dates bs → Once bs
dates_once bs h = weaker is_date_byte is_read_once date_byte bs h

-- ---- topics, groups and commands

abbrev pub OnceTopic : TopicSaid → Type 0
OnceTopic t = Once t.title

topic_there : (ms : Members) → Gives OnceTopic (topic_from ms)
unfolding topic_from
topic_there = grind (arith, gives_with_only, gives_then, gives_required, gives_text, heading_once, gives_whatever)

each_once : (ts : List TopicSaid) → Each OnceTopic ts → Once (flat_map (λ topic. topic.title) ts)
each_once [] h = refl
each_once (t ∷ ts) h = once_append t.title (flat_map (λ topic. topic.title) ts) h.0 (each_once ts h.1)

abbrev OnceGroups : GroupsSaid → Type 0
OnceGroups gs = Once (groups_headings gs)

abbrev OnceGroup : GroupSaid → Type 0
OnceGroup g = Once (group_headings g)

abbrev OnceCommands : CommandsSaid → Type 0
OnceCommands ms = Once (commands_headings ms)

abbrev pub OnceCommand : CommandSaid → Type 0
OnceCommand m = Once (command_headings m)

abbrev OnceLevel : LevelSaid → Type 0
OnceLevel l = Once (level_headings l)

abbrev OnceCommandHead : CommandHead → Type 0
OnceCommandHead c = Once c.names.name × Each Once c.names.aliases

once_each : (texts : List (List ℕ)) → Each Once texts → Once (flat_map (λ text. text) texts)
once_each [] h = refl
once_each (text ∷ texts) h = once_append text (flat_map (λ t. t) texts) h.0 (once_each texts h.1)

command_head_there : (ms : Members) → Gives OnceCommandHead (command_head ms)
unfolding command_head
command_head_there = gives_with_only OnceCommandHead command_keys _ (λ ms.
    gives_then Once OnceCommandHead (required_at as_command_name (codes "name") ms) _ (gives_required Once as_command_name (gives_text Once is_command_name command_once) (codes "name") ms) (λ name n.
    gives_then Whatever OnceCommandHead (optional_at as_short (codes "short") ms) _ (gives_whatever (optional_at as_short (codes "short") ms)) (λ initial u.
    gives_then Whatever OnceCommandHead (optional_at as_text (codes "help") ms) _ (gives_whatever (optional_at as_text (codes "help") ms)) (λ help v.
    gives_then Whatever OnceCommandHead (flag_at false (codes "hidden") ms) _ (gives_whatever (flag_at false (codes "hidden") ms)) (λ hidden x.
    gives_then (Each Once) OnceCommandHead (words_at as_command_name (codes "aliases") ms) _ (gives_words Once as_command_name (gives_text Once is_command_name command_once) (codes "aliases") ms) (λ aliases a.
    gives_then Whatever OnceCommandHead (outline_from ms) _ (gives_whatever (outline_from ms)) (λ outline w. (n, a))))))))

group_there : (inner : Option CommandsSaid) (g : GroupHead) → Gives OnceCommands inner → Once g.title → Gives OnceGroup (group_of inner g)
unfolding group_of
group_there inner g i t = grind (arith, gives_then, gives_whatever, gives_map, once_append)

level_there : (inner_groups : Option GroupsSaid) (inner_commands : Option CommandsSaid) (o : Outline) → Gives OnceGroups inner_groups → Gives OnceCommands inner_commands → Gives OnceLevel (level_of inner_groups inner_commands o)
unfolding level_of
level_there inner_groups inner_commands o ig ic =
    gives_then Whatever OnceLevel (each_table (option_from option_keys) o.lists.options) _ (gives_whatever (each_table (option_from option_keys) o.lists.options)) (λ os u.
    gives_then Whatever OnceLevel (each_table choice_from o.lists.choices) _ (gives_whatever (each_table choice_from o.lists.choices)) (λ cs v.
    gives_then OnceGroups OnceLevel inner_groups _ ig (λ gs hg.
    gives_then Whatever OnceLevel (each_table positional_from o.lists.positionals) _ (gives_whatever (each_table positional_from o.lists.positionals)) (λ ps w.
    gives_then OnceCommands OnceLevel inner_commands _ ic (λ ms hm.
    gives_map (Each OnceTopic) OnceLevel (each_table topic_from o.lists.topics) _ (gives_each OnceTopic topic_from topic_there o.lists.topics) (λ ts ht.
    once_append (flat_map (λ topic. topic.title) ts) (groups_headings gs ++ commands_headings ms) (each_once ts ht) (once_append (groups_headings gs) (commands_headings ms) hg hm)))))))

command_there : (inner_groups : Option GroupsSaid) (inner_commands : Option CommandsSaid) (c : CommandHead) → Gives OnceGroups inner_groups → Gives OnceCommands inner_commands → OnceCommandHead c → Gives OnceCommand (command_of inner_groups inner_commands c)
command_there inner_groups inner_commands c ig ic h = grind (arith, common_steps, gives_map OnceLevel OnceCommand (level_of inner_groups inner_commands c.outline), level_there inner_groups inner_commands c.outline ig ic, once_append, once_each c.names.aliases h.1)

all_once : Holding (λ ts cs. OnceCommands cs) (λ ts gs. OnceGroups gs) (λ ts c. OnceCommand c) (λ ts g. OnceGroup g)
all_once = record {
  no_commands = refl;
  no_groups = refl;
  more_commands = λ ts us c cs. once_append (command_headings c) (commands_headings cs);
  more_groups = λ ts us g gs. once_append (group_headings g) (groups_headings gs);
  command = λ ms gs cs hg hc. gives_then OnceCommandHead OnceCommand (command_head ms) (command_of gs cs) (command_head_there ms) (λ c h. command_there gs cs c hg hc h);
  group = λ ms cs hc. gives_then (λ g. Once g.title) OnceGroup (group_head ms) (group_of cs) (group_title Once heading_once ms) (λ g h. group_there cs g hc h);
}

-- ---- the title line

abbrev pub OnceWords : TitleWords → Type 0
OnceWords = WordsAre Once

pub record OnceHead (h : DescriptionHead) : Type 0 where
  pub name : Once h.name
  pub words : OnceWords h.words

head_there : (ms : Members) → Gives OnceHead (description_head ms)
unfolding description_head
head_there = gives_with_only OnceHead description_keys _ (λ ms.
    gives_then Once OnceHead (required_at as_command_name (codes "name") ms) _ (gives_required Once as_command_name (gives_text Once is_command_name command_once) (codes "name") ms) (λ name n.
    gives_then OnceWords OnceHead (title_words ms) _ (words_there Once section_once (λ n h. dates_once ((48 + n) ∷ []) (digit_bytes n h)) title_once (λ d. dates_once (date_text d) (date_bytes d)) ms) (λ words w.
    gives_then Whatever OnceHead (optional_at as_language (codes "language") ms) _ (gives_whatever (optional_at as_language (codes "language") ms)) (λ language g.
    gives_then Whatever OnceHead (table_at (codes "words") ms) _ (gives_whatever (table_at (codes "words") ms)) (λ fixed v.
    gives_then Whatever OnceHead (tables_at (codes "help_option") ms) _ (gives_whatever (tables_at (codes "help_option") ms)) (λ helps u.
    gives_then Whatever OnceHead (outline_from ms) _ (gives_whatever (outline_from ms)) (λ outline o.
    record { name = n; words = w })))))))

given_once : (o : Option (List ℕ)) → OnceOption o → Once (given o)
given_once None h = refl
given_once (Some text) h = h

-- ---- the whole

abbrev OnceFixed : WordsSaid → Type 0
OnceFixed w = Each Once (each_word w)

english_once : OnceFixed english
english_once = (refl, (refl, (refl, (refl, (refl, (refl, (refl, (refl, (refl, (refl, (refl, (refl, (refl, (refl, (refl, tt)))))))))))))))

-- a text without its colon
taken_once : (k : ℕ) (text : List ℕ) → Once text → Once (take k text)
taken_once zero text h = refl
taken_once (suc k) [] h = h
taken_once (suc k) (b ∷ text) h = let both = and_parts (is_read_once b) (list_all is_read_once text) h in and_from (is_read_once b) (list_all is_read_once (take k text)) both.0 (taken_once k text both.1)

colon_once : (text : List ℕ) → Once text → Once (without_colon text)
colon_once text h = taken_once (length (trim_end (before_colon text))) text h

words_once : (o : Option Members) → Gives OnceFixed (fixed_in o)
words_once = fixed_hold Once english_once (λ text h. colon_once text (heading_once text h))

whole : (h : DescriptionHead) (w : WordsSaid) (helps : List OptSaid) (l : LevelSaid) → OnceHead h → OnceFixed w → OnceLevel l → IsReadOnce (description_of h w helps l)
whole h w helps l p f q = record {
  title_line = once_append h.name (h.words.section ++ (given h.words.date ++ (given h.words.vendor ++ given h.words.title))) p.name
      (once_append h.words.section (given h.words.date ++ (given h.words.vendor ++ given h.words.title)) p.words.section
      (once_append (given h.words.date) (given h.words.vendor ++ given h.words.title) (given_once h.words.date p.words.date)
      (once_append (given h.words.vendor) (given h.words.title) (given_once h.words.vendor p.words.vendor) (given_once h.words.title p.words.title))));
  headings = q;
  words = once_each (each_word w) f;
}

described_once : (ms : Members) → Gives IsReadOnce (described ms)
unfolding described
described_once ms =
    gives_then OnceHead IsReadOnce (description_head ms) _ (head_there ms) (λ h p.
    gives_then OnceFixed IsReadOnce (fixed_in h.fixed) _ (words_once h.fixed) (λ w f.
    gives_then Whatever IsReadOnce (each_table (option_from help_option_keys) h.help_options) _ (gives_whatever (each_table (option_from help_option_keys) h.help_options)) (λ helps u.
    gives_map OnceLevel IsReadOnce (level_of (groups_at (codes "group") ms) (commands_at (codes "command") ms) h.outline) (description_of h w helps)
    (level_there (groups_at (codes "group") ms) (commands_at (codes "command") ms) h.outline (groups_hold all_once (codes "group") ms) (commands_hold all_once (codes "command") ms)) (λ l q. whole h w helps l p f q))))

pub titles_are_read_once : TitlesAreReadOnce
titles_are_read_once ms d e = given_there IsReadOnce (described ms) d (described_once ms) e
