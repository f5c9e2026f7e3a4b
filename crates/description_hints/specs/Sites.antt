-- The parts of a description that hints may be about, each with the way to it, as its table stands in TOML.
use Rattle.std.specs.Prelude.{ℕ, ◌+◌, List, [], ◌∷◌, ◌++◌, codes, Option, Some, None}
use Rattle.description.specs.Content.{OptSaid, ChoiceSaid, PositionalSaid, TopicSaid, TextsSaid, LevelSaid, level, GroupsSaid, no_groups, groups, GroupSaid, group, CommandsSaid, no_commands, commands, CommandSaid, command, DescriptionSaid}
use Rattle.description_hints.specs.Content.{key, index, Path, PartSaid, application_part, option_part, positional_part, command_part, text_part, usage_part, SiteSaid}
use Rattle.description_hints.specs.Names.{level_words}
use Rattle.description_hints.specs.declared.sites.Standing.{Standing}
use Rattle.description_hints.specs.declared.sites.Standing.TheVariants.{ForHelp, InUsage, OutsideUsage}

-- what comes of each of a list, by its number, one after another
abbrev pub numbered : {A B : Type 0} → (ℕ → A → List B) → ℕ → List A → List B
numbered f n [] = []
numbered f n (x ∷ xs) = f n x ++ numbered f (n + 1) xs

-- ---- ways

-- to what a key of a table names
abbrev pub under : Path → (name : List ℕ) → Path
under path name = path ++ key name ∷ []

-- to a table of the list that a key names
abbrev pub table_in : Path → (list : List ℕ) → (n : ℕ) → Path
table_in path list n = path ++ key list ∷ index n ∷ []

abbrev pub site : Path → PartSaid → SiteSaid
site path part = record { path = path; part = part }

-- ---- texts

-- the text of a key, if there is one
abbrev pub text_sites : Path → (name : List ℕ) → Option (List ℕ) → List SiteSaid
text_sites path name None = []
text_sites path name (Some words) = site (under path name) (text_part words) ∷ []

abbrev pub topic_sites : Path → ℕ → TopicSaid → List SiteSaid
topic_sites path n topic = text_sites (table_in path (codes "topic") n) (codes "text") (Some topic.text)

abbrev pub topics_sites : Path → List TopicSaid → List SiteSaid
topics_sites path topics = numbered (topic_sites path) 0 topics

-- `usage`, which has a grammar of its own, if there is one, with the words of the options of its level
abbrev pub usage_sites : Path → (text : Option (List ℕ)) → (own : List (List ℕ)) → List SiteSaid
usage_sites path None own = []
usage_sites path (Some text) own = site (under path (codes "usage")) (usage_part text own) ∷ []

-- the texts of a level but those of topics
abbrev pub texts_sites : Path → TextsSaid → (own : List (List ℕ)) → List SiteSaid
texts_sites path texts own =
    text_sites path (codes "about") texts.about ++ text_sites path (codes "header") texts.header
    ++ text_sites path (codes "footer") texts.footer ++ usage_sites path texts.usage own

abbrev pub own_texts : Path → LevelSaid → List SiteSaid
own_texts path (level texts required options choices gs positionals subcommands) =
    texts_sites path texts (level_words (level texts required options choices gs positionals subcommands))

-- where the options of a level stand: in the usage that is made of it, unless a text stands in its place
abbrev pub standing_by : (usage : Option (List ℕ)) → Standing
standing_by None = InUsage
standing_by (Some text) = OutsideUsage

abbrev pub standing_of : LevelSaid → Standing
standing_of (level texts required options choices gs positionals subcommands) = standing_by texts.usage

-- ---- what a level has

-- an option, and its help
abbrev pub option_sites : Standing → Path → OptSaid → List SiteSaid
option_sites standing path o = site path (option_part o standing) ∷ text_sites path (codes "help") o.help

abbrev pub listed_option : Standing → Path → (list : List ℕ) → ℕ → OptSaid → List SiteSaid
listed_option standing path list n o = option_sites standing (table_in path list n) o

abbrev pub options_sites : Standing → Path → (list : List ℕ) → List OptSaid → List SiteSaid
options_sites standing path list options = numbered (listed_option standing path list) 0 options

abbrev pub choice_sites : Standing → Path → ℕ → ChoiceSaid → List SiteSaid
choice_sites standing path n choice = options_sites standing (table_in path (codes "choice") n) (codes "option") choice.options

abbrev pub choices_sites : Standing → Path → List ChoiceSaid → List SiteSaid
choices_sites standing path choices = numbered (choice_sites standing path) 0 choices

-- a positional value, and its help
abbrev pub value_sites : Path → PositionalSaid → List SiteSaid
value_sites path p = site path (positional_part p) ∷ text_sites path (codes "help") p.help

abbrev pub positional_sites : Path → ℕ → PositionalSaid → List SiteSaid
positional_sites path n positional = value_sites (table_in path (codes "positional") n) positional

abbrev pub positionals_sites : Path → List PositionalSaid → List SiteSaid
positionals_sites path positionals = numbered (positional_sites path) 0 positionals

-- what is said about a level
abbrev pub about_of : LevelSaid → Option (List ℕ)
about_of (level texts required options choices gs positionals subcommands) = texts.about

abbrev mutual
  -- the texts of a level, and then its lists in the order of the table of keys
  pub level_sites : Path → LevelSaid → List SiteSaid
  level_sites path (level texts required options choices gs positionals subcommands) =
      own_texts path (level texts required options choices gs positionals subcommands)
      ++ options_sites (standing_by texts.usage) path (codes "option") options ++ choices_sites (standing_by texts.usage) path choices
      ++ groups_sites (standing_by texts.usage) path 0 gs ++ positionals_sites path positionals ++ commands_sites path 0 subcommands
      ++ topics_sites path texts.topics

  pub groups_sites : Standing → Path → ℕ → GroupsSaid → List SiteSaid
  groups_sites standing path n no_groups = []
  groups_sites standing path n (groups first others) =
      group_sites standing (table_in path (codes "group") n) first ++ groups_sites standing path (n + 1) others

  pub group_sites : Standing → Path → GroupSaid → List SiteSaid
  group_sites standing path (group title options choices positionals subcommands) =
      options_sites standing path (codes "option") options ++ choices_sites standing path choices
      ++ positionals_sites path positionals ++ commands_sites path 0 subcommands

  pub commands_sites : Path → ℕ → CommandsSaid → List SiteSaid
  commands_sites path n no_commands = []
  commands_sites path n (commands first others) = command_sites (table_in path (codes "command") n) first ++ commands_sites path (n + 1) others

  -- a command, its help, and what its level has
  pub command_sites : Path → CommandSaid → List SiteSaid
  command_sites path (command names help l) =
      site path (command_part names.hidden help (about_of l)) ∷ text_sites path (codes "help") help ++ level_sites path l

-- the application, the options that ask for help, which stand in no usage, and what the top level has
abbrev pub sites : DescriptionSaid → List SiteSaid
sites d = site [] (application_part (about_of d.level)) ∷ options_sites ForHelp [] (codes "help_option") d.help_options ++ level_sites [] d.level
