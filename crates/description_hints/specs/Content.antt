-- What a hint says, what it is about, and the way there, with no memory in it: names and texts are bytes.
use Rattle.std.specs.Prelude.{ℕ, List, Bool, Option}
use Rattle.description.specs.Content.{OptSaid, PositionalSaid}
use Rattle.description.specs.Words.{WordsSaid}
use Rattle.description_hints.specs.declared.sites.Standing.{Standing}

-- a step of a way: to what a key names, or to the table of this number in a list, counted from 0
pub data StepSaid : Type 0 where
  key : List ℕ → StepSaid
  index : ℕ → StepSaid

abbrev pub Path : Type 0
Path = List StepSaid

-- what may be better said
pub data HintSaid : Type 0 where
  no_help : HintSaid
  nothing_said : HintSaid
  no_about : HintSaid
  two_sentences : HintSaid
  wide_summary : (columns : ℕ) → HintSaid
  no_such_option : (text : List ℕ) → HintSaid
  plain_link : (address : List ℕ) → HintSaid
  wide_item : (columns : ℕ) → HintSaid
  not_on_level : (text : List ℕ) → HintSaid
  different_help : (name : List ℕ) → (first : Path) → HintSaid
  no_file_name : (name : List ℕ) → HintSaid
  alike_name : (name : List ℕ) → HintSaid
  help_name : (name : List ℕ) → HintSaid
  marked_value : (word : List ℕ) → HintSaid
  bracketed_name : (word : List ℕ) → HintSaid
  unlisted_default : (text : List ℕ) → HintSaid

-- a hint, and the way to what it is about
pub record WarningSaid : Type 0 where
  pub path : Path
  pub hint : HintSaid

-- a part of a description that hints may be about: an option with where it stands, and a text in place of the usage
-- that is made of a level with the words that the options of its level are called by
pub data PartSaid : Type 0 where
  application_part : (about : Option (List ℕ)) → PartSaid
  option_part : OptSaid → Standing → PartSaid
  positional_part : PositionalSaid → PartSaid
  command_part : (hidden : Bool) → (help about : Option (List ℕ)) → PartSaid
  text_part : List ℕ → PartSaid
  usage_part : (text : List ℕ) → (own : List (List ℕ)) → PartSaid

-- such a part, and the way to it
pub record SiteSaid : Type 0 where
  pub path : Path
  pub part : PartSaid

-- what the hints about a part look at of the whole description: its fixed words, whether an option is called by a
-- word, whether one that asks for help is, and whether pages show such a one under a name
pub record Around : Type 0 where
  pub fixed : WordsSaid
  pub is_option_word : List ℕ → Bool
  pub is_help_word : List ℕ → Bool
  pub is_help_name : List ℕ → Bool

-- what an option is called, its help, and the way to the option
pub record HelpSaid : Type 0 where
  pub name : List ℕ
  pub help : List ℕ
  pub path : Path

-- a level that has a page of its own: the way to it, and the name of its page
pub record PageSiteSaid : Type 0 where
  pub path : Path
  pub name : List ℕ
