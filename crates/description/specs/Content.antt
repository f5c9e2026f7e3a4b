-- What a description and its parts say, with no memory in it: names and texts are bytes.
use Rattle.std.specs.Prelude.{ℕ, List, Bool, Option}
use Rattle.description.specs.Words.{WordsSaid}
use Rattle.description.specs.declared.hints.ValueHint.{ValueHint}

-- the content of a `Name`
pub data NameSaid : Type 0 where
  short : ℕ → NameSaid
  long : List ℕ → NameSaid
  both : ℕ → List ℕ → NameSaid

-- the content of a `Spelling`
pub data SpellingSaid : Type 0 where
  named : NameSaid → SpellingSaid
  syntax : List ℕ → SpellingSaid

-- the content of an `Opt`
pub record OptSaid : Type 0 where
  pub spelling : SpellingSaid
  pub value : Option (List ℕ)
  pub default : Option (List ℕ)
  pub values : Option (List ℕ)
  pub hint : ValueHint
  pub help : Option (List ℕ)
  pub env : Option (List ℕ)
  pub required : Bool
  pub repeated : Bool
  pub hidden : Bool

-- the content of a `Choice`
pub record ChoiceSaid : Type 0 where
  pub options : List OptSaid
  pub required : Bool

-- the content of a `Positional`
pub record PositionalSaid : Type 0 where
  pub value : List ℕ
  pub default : Option (List ℕ)
  pub values : Option (List ℕ)
  pub hint : ValueHint
  pub help : Option (List ℕ)
  pub required : Bool
  pub repeated : Bool
  pub strict : Bool
  pub hidden : Bool

-- the content of a `Topic`
pub record TopicSaid : Type 0 where
  pub title : List ℕ
  pub text : List ℕ

-- the texts of a level
pub record TextsSaid : Type 0 where
  pub about : Option (List ℕ)
  pub header : Option (List ℕ)
  pub footer : Option (List ℕ)
  pub usage : Option (List ℕ)
  pub topics : List TopicSaid

-- what a command is called, and whether no page shows it
pub record CommandNames : Type 0 where
  pub name : List ℕ
  pub initial : Option ℕ
  pub aliases : List (List ℕ)
  pub hidden : Bool

mutual
  -- the content of a `Level`
  pub data LevelSaid : Type 0 where
    level : TextsSaid → (command_required : Bool) → List OptSaid → List ChoiceSaid → GroupsSaid → List PositionalSaid → CommandsSaid → LevelSaid

  -- the groups of a level, in order
  pub data GroupsSaid : Type 0 where
    no_groups : GroupsSaid
    groups : GroupSaid → GroupsSaid → GroupsSaid

  -- the content of a `Group`
  pub data GroupSaid : Type 0 where
    group : (title : List ℕ) → List OptSaid → List ChoiceSaid → List PositionalSaid → CommandsSaid → GroupSaid

  -- the commands of a level or of a group, in order
  pub data CommandsSaid : Type 0 where
    no_commands : CommandsSaid
    commands : CommandSaid → CommandsSaid → CommandsSaid

  -- the content of a `Command`
  pub data CommandSaid : Type 0 where
    command : CommandNames → (help : Option (List ℕ)) → LevelSaid → CommandSaid

-- the content of a `Description`
pub record DescriptionSaid : Type 0 where
  pub name : List ℕ
  pub section : List ℕ
  pub date : Option (List ℕ)
  pub vendor : Option (List ℕ)
  pub title : Option (List ℕ)
  pub language : List ℕ
  pub words : WordsSaid
  pub help_options : List OptSaid
  pub level : LevelSaid
