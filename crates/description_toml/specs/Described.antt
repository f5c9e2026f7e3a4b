-- The description that the data of a TOML text gives, or `None`. Each kind of table
-- has the keys that are listed for it, and no others.
pub mod Texts
pub mod Values
pub mod Taken
pub mod Kinds
pub mod Steps
use Rattle.std.specs.Prelude.{codes, ℕ, List, [], ◌∷◌, ◌++◌, Bool, true, false, not, ◌&&◌, ◌||◌, if◌then◌else◌, Option, Some, None, is_some, option_map, option_and_then}
use Rattle.std.specs.Ordering.{nat_cmp, match_ordering}
use Rattle.std.specs.Cmp.Lexicographic.{slice_cmp}
use Rattle.toml.specs.Data.{Data, array, table, Items, no_items, item, Members, no_members, member, get_member}
use Rattle.description.specs.Content.{DescriptionSaid, NameSaid, short, long, both, SpellingSaid, named, syntax, OptSaid, ChoiceSaid, PositionalSaid, TopicSaid, TextsSaid, LevelSaid, level, GroupsSaid, no_groups, groups, GroupSaid, group, CommandsSaid, no_commands, commands, CommandSaid, command, CommandNames}
use Rattle.description.specs.Words.{WordsSaid, english}
use Rattle.description.specs.declared.hints.ValueHint.{ValueHint}
use Rattle.description.specs.declared.hints.ValueHint.TheVariants.{File}
use Rattle.description_toml.specs.Described.Texts.{as_body, as_command_name, as_heading, as_language, as_long, as_name, as_text, as_title, as_value, without_colon}
use Rattle.description_toml.specs.Described.Values.{has_only, at_key, table_at, flag_at, optional_at, required_at, tables_at, is_empty, each_table, as_short, as_section, as_date, words_at, as_default, as_syntax, as_values, as_hint}
use Rattle.description_toml.specs.Described.Taken.{has_distinct_names}

-- ---- keys

-- of an option of a choice, which is neither required nor repeated
abbrev pub alternative_keys : List (List ℕ)
alternative_keys = codes "short" ∷ codes "long" ∷ codes "syntax" ∷ codes "value" ∷ codes "default" ∷ codes "values" ∷ codes "hint" ∷ codes "help" ∷ codes "hidden" ∷ codes "env" ∷ []

abbrev pub option_keys : List (List ℕ)
option_keys = codes "short" ∷ codes "long" ∷ codes "syntax" ∷ codes "value" ∷ codes "default" ∷ codes "values" ∷ codes "hint" ∷ codes "help" ∷ codes "hidden" ∷ codes "env" ∷ codes "required" ∷ codes "repeated" ∷ []

-- of an option that asks for help, which pages show
abbrev pub help_option_keys : List (List ℕ)
help_option_keys = codes "short" ∷ codes "long" ∷ codes "syntax" ∷ codes "value" ∷ codes "default" ∷ codes "values" ∷ codes "hint" ∷ codes "help" ∷ codes "env" ∷ codes "required" ∷ codes "repeated" ∷ []

abbrev pub choice_keys : List (List ℕ)
choice_keys = codes "option" ∷ codes "required" ∷ []

abbrev pub positional_keys : List (List ℕ)
positional_keys = codes "value" ∷ codes "default" ∷ codes "values" ∷ codes "hint" ∷ codes "help" ∷ codes "hidden" ∷ codes "required" ∷ codes "repeated" ∷ codes "strict" ∷ []

abbrev pub group_keys : List (List ℕ)
group_keys = codes "title" ∷ codes "option" ∷ codes "choice" ∷ codes "positional" ∷ codes "command" ∷ []

abbrev pub level_keys : List (List ℕ)
level_keys = codes "about" ∷ codes "header" ∷ codes "footer" ∷ codes "usage" ∷ codes "command_required" ∷ codes "option" ∷ codes "choice" ∷ codes "group" ∷ codes "positional" ∷ codes "command" ∷ codes "topic" ∷ []

abbrev pub topic_keys : List (List ℕ)
topic_keys = codes "title" ∷ codes "text" ∷ []

abbrev pub command_keys : List (List ℕ)
command_keys = codes "name" ∷ codes "short" ∷ codes "help" ∷ codes "hidden" ∷ codes "aliases" ∷ level_keys

abbrev pub description_keys : List (List ℕ)
description_keys = codes "name" ∷ codes "section" ∷ codes "date" ∷ codes "vendor" ∷ codes "title" ∷ codes "language" ∷ codes "words" ∷ codes "help_option" ∷ level_keys

-- of the table of fixed words
abbrev pub fixed_keys : List (List ℕ)
fixed_keys = codes "usage" ∷ codes "arguments" ∷ codes "options" ∷ codes "commands" ∷ codes "contents" ∷ codes "notes" ∷ codes "default" ∷ codes "possible_values" ∷ codes "env" ∷ codes "aliases" ∷ codes "command" ∷ codes "name" ∷ codes "synopsis" ∷ codes "description" ∷ codes "see_also" ∷ []

-- a table with these keys alone, read
abbrev pub with_only : {X : Type 0} → (keys : List (List ℕ)) → (Members → Option X) → Members → Option X
with_only keys read ms = if has_only keys ms then read ms else None

-- ---- options, choices, positional values and topics

abbrev pub name_from : Option ℕ → Option (List ℕ) → Option NameSaid
name_from None None = None
name_from (Some c) None = Some (short c)
name_from None (Some text) = Some (long text)
name_from (Some c) (Some text) = Some (both c text)

infixl 10 ◌>>=◌
abbrev pub ◌>>=◌ : {A B : Type 0} → Option A → (A → Option B) → Option B
o >>= f = option_and_then f o

-- a syntax does not stand beside a name
abbrev pub spelling_from : Option ℕ → Option (List ℕ) → Option (List ℕ) → Option SpellingSaid
spelling_from s l None = option_map named (name_from s l)
spelling_from None None (Some text) = Some (syntax text)
spelling_from None (Some l) (Some text) = None
spelling_from (Some c) l (Some text) = None

-- the short name, the long one or both, or else a syntax
abbrev pub option_spelling : Members → Option SpellingSaid
option_spelling ms = optional_at as_short (codes "short") ms >>= (λ s. optional_at as_long (codes "long") ms >>= (λ l. optional_at as_syntax (codes "syntax") ms >>= spelling_from s l))

abbrev pub is_syntax : SpellingSaid → Bool
is_syntax (named name) = false
is_syntax (syntax text) = true

-- the word for the value of an option, its default, what it may be, and what a shell offers
pub record ValueSaid : Type 0 where
  pub value : Option (List ℕ)
  pub default : Option (List ℕ)
  pub values : Option (List ℕ)
  pub hint : ValueHint

-- a text, which is refused if it is there and may not be
abbrev pub refused_if : (is_wrong : Bool) → Option (List ℕ) → Option (Option (List ℕ))
refused_if true (Some text) = None
refused_if is_wrong text = Some text

-- neither a syntax nor a word for a value
abbrev pub is_flag : (is_syntax : Bool) → (value : Option (List ℕ)) → Bool
is_flag is_syntax value = not (is_syntax || is_some value)

-- what a shell offers, where there is nothing of another kind; files by default
abbrev pub hint_unless : (other : Bool) → Option ValueHint → Option ValueHint
hint_unless other None = Some File
hint_unless true (Some hint) = None
hint_unless false (Some hint) = Some hint

-- a word for a value does not stand beside a syntax, nothing is said of the value of a flag, and a hint does not stand
-- beside values
unfoldable pub option_value : (is_syntax : Bool) → Members → Option ValueSaid
option_value is_syntax ms =
    optional_at as_value (codes "value") ms >>= refused_if is_syntax >>= (λ value. optional_at as_default (codes "default") ms >>= refused_if (is_flag is_syntax value) >>= (λ default. optional_at as_values (codes "values") ms >>= refused_if (is_flag is_syntax value) >>= (λ values. optional_at as_hint (codes "hint") ms >>= hint_unless (is_flag is_syntax value || is_some values) >>= (λ hint.
    Some (record { value = value; default = default; values = values; hint = hint })))))

-- what an option is called and says
abbrev pub option_texts : Members → Option OptSaid
option_texts ms =
    option_spelling ms >>= (λ spelling. option_value (is_syntax spelling) ms >>= (λ v. optional_at as_text (codes "help") ms >>= (λ help. flag_at false (codes "hidden") ms >>= (λ hidden. optional_at as_name (codes "env") ms >>= (λ env.
    Some (record { spelling = spelling; value = v.value; default = v.default; values = v.values; hint = v.hint; help = help; env = env; required = false; repeated = false; hidden = hidden }))))))

-- with a default it is never required
abbrev pub required_beside : (default : Option (List ℕ)) → (left_out : Bool) → Members → Option Bool
required_beside None left_out ms = flag_at left_out (codes "required") ms
required_beside (Some text) left_out ms = flag_at false (codes "required") ms >>= (λ required. if required then None else Some false)

abbrev pub option_of : Members → Option OptSaid
option_of ms = option_texts ms >>= (λ option. required_beside option.default false ms >>= (λ required. flag_at false (codes "repeated") ms >>= (λ repeated.
    Some (record option { required = required; repeated = repeated }))))

-- an option from a table: any other key than these refuses it, and a key of options that is not among these counts as
-- left out
unfoldable pub option_from : (keys : List (List ℕ)) → Members → Option OptSaid
option_from keys = with_only keys option_of

-- a choice has an option
unfoldable pub choice_from : Members → Option ChoiceSaid
choice_from = with_only choice_keys (λ ms. tables_at (codes "option") ms >>= (λ os. if is_empty os then None else
    flag_at false (codes "required") ms >>= (λ required. option_map (λ alternatives. record { options = alternatives; required = required }) (each_table (option_from alternative_keys) os))))

-- what a positional value is called and says
abbrev pub positional_texts : Members → Option PositionalSaid
positional_texts ms =
    required_at as_value (codes "value") ms >>= (λ value. optional_at as_default (codes "default") ms >>= (λ default. optional_at as_values (codes "values") ms >>= (λ values. optional_at as_hint (codes "hint") ms >>= hint_unless (is_some values) >>= (λ hint. optional_at as_text (codes "help") ms >>= (λ help. flag_at false (codes "hidden") ms >>= (λ hidden.
    Some (record { value = value; default = default; values = values; hint = hint; help = help; required = true; repeated = false; strict = false; hidden = hidden })))))))

abbrev pub positional_of : Members → Option PositionalSaid
positional_of ms = positional_texts ms >>= (λ positional. required_beside positional.default true ms >>= (λ required. flag_at false (codes "repeated") ms >>= (λ repeated. flag_at false (codes "strict") ms >>= (λ strict.
    Some (record positional { required = required; repeated = repeated; strict = strict })))))

unfoldable pub positional_from : Members → Option PositionalSaid
positional_from = with_only positional_keys positional_of

unfoldable pub topic_from : Members → Option TopicSaid
topic_from = with_only topic_keys (λ ms. required_at as_heading (codes "title") ms >>= (λ title. required_at as_body (codes "text") ms >>= (λ text.
    Some (record { title = title; text = text }))))

-- ---- groups, levels and commands, whose inner groups and commands were read already

-- the arrays of a group or a level; a group has no groups and no topics
pub record Lists : Type 0 where
  pub options : Items
  pub choices : Items
  pub groups : Items
  pub positionals : Items
  pub commands : Items
  pub topics : Items

unfoldable pub lists_from : Members → Option Lists
lists_from ms =
    tables_at (codes "option") ms >>= (λ os. tables_at (codes "choice") ms >>= (λ cs. tables_at (codes "group") ms >>= (λ gs. tables_at (codes "positional") ms >>= (λ ps. tables_at (codes "command") ms >>= (λ ns. tables_at (codes "topic") ms >>= (λ ts.
    Some (record { options = os; choices = cs; groups = gs; positionals = ps; commands = ns; topics = ts })))))))

-- a group has a member
abbrev pub has_members : Lists → Bool
has_members lists = not (is_empty lists.options && (is_empty lists.choices && (is_empty lists.positionals && is_empty lists.commands)))

-- what a group says of itself
pub record GroupHead : Type 0 where
  pub title : List ℕ
  pub lists : Lists

unfoldable pub group_head : Members → Option GroupHead
group_head = with_only group_keys (λ ms. required_at as_heading (codes "title") ms >>= (λ title. lists_from ms >>= (λ lists.
    if has_members lists then Some (record { title = title; lists = lists }) else None)))

unfoldable pub group_of : Option CommandsSaid → GroupHead → Option GroupSaid
group_of inner g =
    each_table (option_from option_keys) g.lists.options >>= (λ os. each_table choice_from g.lists.choices >>= (λ cs. each_table positional_from g.lists.positionals >>= (λ ps.
    option_map (group g.title os cs ps) inner)))

-- the texts of a level except its topics
unfoldable pub texts_from : Members → Option TextsSaid
texts_from ms = optional_at as_text (codes "about") ms >>= (λ about. optional_at as_text (codes "header") ms >>= (λ header. optional_at as_text (codes "footer") ms >>= (λ footer. optional_at as_text (codes "usage") ms >>= (λ usage.
    Some (record { about = about; header = header; footer = footer; usage = usage; topics = [] })))))

-- what a level says of itself: its own texts and its arrays, where no name is taken
pub record Outline : Type 0 where
  pub texts : TextsSaid
  pub command_required : Bool
  pub lists : Lists

unfoldable pub outline_from : Members → Option Outline
outline_from ms =
    texts_from ms >>= (λ texts. flag_at true (codes "command_required") ms >>= (λ required. lists_from ms >>= (λ lists.
    if has_distinct_names ms then Some (record { texts = texts; command_required = required; lists = lists }) else None)))

unfoldable pub level_of : Option GroupsSaid → Option CommandsSaid → Outline → Option LevelSaid
level_of inner_groups inner_commands o =
    each_table (option_from option_keys) o.lists.options >>= (λ os. each_table choice_from o.lists.choices >>= (λ cs. inner_groups >>= (λ gs. each_table positional_from o.lists.positionals >>= (λ ps.
    inner_commands >>= (λ ns. option_map (λ ts. level (record o.texts { topics = ts }) o.command_required os cs gs ps ns) (each_table topic_from o.lists.topics))))))

-- what a command says of itself
pub record CommandHead : Type 0 where
  pub names : CommandNames
  pub help : Option (List ℕ)
  pub outline : Outline

unfoldable pub command_head : Members → Option CommandHead
command_head = with_only command_keys (λ ms.
    required_at as_command_name (codes "name") ms >>= (λ name. optional_at as_short (codes "short") ms >>= (λ initial. optional_at as_text (codes "help") ms >>= (λ help. flag_at false (codes "hidden") ms >>= (λ hidden. words_at as_command_name (codes "aliases") ms >>= (λ aliases.
    outline_from ms >>= (λ outline. Some (record { names = record { name = name; initial = initial; aliases = aliases; hidden = hidden }; help = help; outline = outline }))))))))

abbrev pub command_of : Option GroupsSaid → Option CommandsSaid → CommandHead → Option CommandSaid
command_of inner_groups inner_commands c = option_map (command c.names c.help) (level_of inner_groups inner_commands c.outline)

-- ---- the groups and the commands at a key, by the data inside

abbrev mutual
  pub commands_at : (key : List ℕ) → Members → Option CommandsSaid
  commands_at key no_members = Some no_commands
  commands_at key (member k d ms) = match_ordering (slice_cmp nat_cmp key k) (commands_at key ms) (as_commands d) (commands_at key ms)

  pub as_commands : Data → Option CommandsSaid
  as_commands (array ds) = each_command ds
  as_commands _ = None

  pub each_command : Items → Option CommandsSaid
  each_command no_items = Some no_commands
  each_command (item d ds) = as_command d >>= (λ c. option_map (commands c) (each_command ds))

  pub as_command : Data → Option CommandSaid
  as_command (table ms) = command_head ms >>= command_of (groups_at (codes "group") ms) (commands_at (codes "command") ms)
  as_command _ = None

  pub groups_at : (key : List ℕ) → Members → Option GroupsSaid
  groups_at key no_members = Some no_groups
  groups_at key (member k d ms) = match_ordering (slice_cmp nat_cmp key k) (groups_at key ms) (as_groups d) (groups_at key ms)

  pub as_groups : Data → Option GroupsSaid
  as_groups (array ds) = each_group ds
  as_groups _ = None

  pub each_group : Items → Option GroupsSaid
  each_group no_items = Some no_groups
  each_group (item d ds) = as_group d >>= (λ g. option_map (groups g) (each_group ds))

  pub as_group : Data → Option GroupSaid
  as_group (table ms) = group_head ms >>= group_of (commands_at (codes "command") ms)
  as_group _ = None

-- ---- fixed words

-- a title without the colon at its end; or the word that stands for a key that is left out
abbrev pub fixed_at : (word key : List ℕ) → Members → Option (List ℕ)
fixed_at word = at_key (Some word) (λ d. option_map without_colon (as_heading d))

-- above the parts of a page
unfoldable pub with_titles : WordsSaid → Members → Option WordsSaid
with_titles w ms =
    fixed_at w.usage (codes "usage") ms >>= (λ usage. fixed_at w.arguments (codes "arguments") ms >>= (λ arguments. fixed_at w.options (codes "options") ms >>= (λ options. fixed_at w.commands (codes "commands") ms >>= (λ commands. fixed_at w.contents (codes "contents") ms >>= (λ contents. fixed_at w.notes (codes "notes") ms >>= (λ notes.
    Some (record w { usage = usage; arguments = arguments; options = options; commands = commands; contents = contents; notes = notes })))))))

-- in a note, and for a command in a usage
unfoldable pub with_words_of_notes : WordsSaid → Members → Option WordsSaid
with_words_of_notes w ms =
    fixed_at w.default (codes "default") ms >>= (λ default. fixed_at w.possible_values (codes "possible_values") ms >>= (λ possible_values. fixed_at w.env (codes "env") ms >>= (λ env. fixed_at w.aliases (codes "aliases") ms >>= (λ aliases. fixed_at w.command (codes "command") ms >>= (λ command.
    Some (record w { default = default; possible_values = possible_values; env = env; aliases = aliases; command = command }))))))

-- above the parts of a manual page
unfoldable pub with_manual_titles : WordsSaid → Members → Option WordsSaid
with_manual_titles w ms =
    fixed_at w.name (codes "name") ms >>= (λ name. fixed_at w.synopsis (codes "synopsis") ms >>= (λ synopsis. fixed_at w.description (codes "description") ms >>= (λ description. fixed_at w.see_also (codes "see_also") ms >>= (λ see_also.
    Some (record w { name = name; synopsis = synopsis; description = description; see_also = see_also })))))

-- in place of those in English
unfoldable pub fixed_from : Members → Option WordsSaid
fixed_from = with_only fixed_keys (λ ms. with_titles english ms >>= (λ w. with_words_of_notes w ms >>= (λ v. with_manual_titles v ms)))

abbrev pub fixed_in : Option Members → Option WordsSaid
fixed_in None = Some english
fixed_in (Some ms) = fixed_from ms

-- ---- the whole

-- the section of the manual is the first one where none is named
abbrev pub section_from : Option (List ℕ) → List ℕ
section_from None = codes "1"
section_from (Some text) = text

-- the language is English where none is named
abbrev pub language_from : Option (List ℕ) → List ℕ
language_from None = codes "en"
language_from (Some text) = text

-- the words of the title line of a manual page, after the name
pub record TitleWords : Type 0 where
  pub section : List ℕ
  pub date : Option (List ℕ)
  pub vendor : Option (List ℕ)
  pub title : Option (List ℕ)

unfoldable pub title_words : Members → Option TitleWords
title_words ms =
    optional_at as_section (codes "section") ms >>= (λ section. optional_at as_date (codes "date") ms >>= (λ date. optional_at as_title (codes "vendor") ms >>= (λ vendor. optional_at as_title (codes "title") ms >>= (λ title.
    Some (record { section = section_from section; date = date; vendor = vendor; title = title })))))

-- what a description says of itself
pub record DescriptionHead : Type 0 where
  pub name : List ℕ
  pub words : TitleWords
  pub language : List ℕ
  pub fixed : Option Members
  pub help_options : Items
  pub outline : Outline

unfoldable pub description_head : Members → Option DescriptionHead
description_head = with_only description_keys (λ ms.
    required_at as_command_name (codes "name") ms >>= (λ name. title_words ms >>= (λ words. optional_at as_language (codes "language") ms >>= (λ language. table_at (codes "words") ms >>= (λ fixed. tables_at (codes "help_option") ms >>= (λ helps. outline_from ms >>= (λ outline.
    Some (record { name = name; words = words; language = language_from language; fixed = fixed; help_options = helps; outline = outline }))))))))

abbrev pub description_of : DescriptionHead → WordsSaid → List OptSaid → LevelSaid → DescriptionSaid
description_of d fixed helps l = record { name = d.name; section = d.words.section; date = d.words.date; vendor = d.words.vendor; title = d.words.title; language = d.language; words = fixed; help_options = helps; level = l }

unfoldable pub described : Members → Option DescriptionSaid
described ms = description_head ms >>= (λ head. fixed_in head.fixed >>= (λ fixed. each_table (option_from help_option_keys) head.help_options >>= (λ helps.
    option_map (description_of head fixed helps) (level_of (groups_at (codes "group") ms) (commands_at (codes "command") ms) head.outline))))
