-- Laws of fronts: what is read of a line stands in it.
use Rattle.std.specs.Prelude.{ℕ, ◌≡◌, List, ◌++◌, All, IfSome}
use Rattle.help_fronts.specs.Fronts.{CommandSaid, FrontSaid, command_front, option_front}
use Rattle.help_fronts.specs.Lines.{option_names}
use Rattle.help_fronts.specs.Usages.{UsedSaid, usage_options}

-- a text of a line: the line is what stands before the text, the text, and what stands after it
pub record IsTextOf (line text : List ℕ) : Type 0 where
  pub before : List ℕ
  pub after : List ℕ
  pub whole : line ≡ before ++ (text ++ after)

-- all that the front of an option says are texts of the line
pub record IsFrontOf (line : List ℕ) (f : FrontSaid) : Type 0 where
  pub names : All (IsTextOf line) f.names
  pub values : All (IsTextOf line) f.values
  pub value : IfSome f.value (IsTextOf line)
  pub written : IsTextOf line f.written
  pub gap : IsTextOf line f.gap
  pub help : IsTextOf line f.help

-- all that the front of a command says are texts of the line
pub record IsCommandOf (line : List ℕ) (c : CommandSaid) : Type 0 where
  pub name : IsTextOf line c.name
  pub aliases : All (IsTextOf line) c.aliases
  pub written : IsTextOf line c.written
  pub gap : IsTextOf line c.gap
  pub help : IsTextOf line c.help

abbrev pub OptionsStandInTheirLine : Type 0
OptionsStandInTheirLine = (line : List ℕ) → IfSome (option_front line) (IsFrontOf line)

abbrev pub CommandsStandInTheirLine : Type 0
CommandsStandInTheirLine = (line : List ℕ) → IfSome (command_front line) (IsCommandOf line)

-- the names of options at the front of a line
abbrev pub NamesStandInTheirLine : Type 0
NamesStandInTheirLine = (line : List ℕ) → All (IsTextOf line) (option_names line)

-- the name of an option in a usage, and what is said of its value
pub record IsUsedIn (line : List ℕ) (o : UsedSaid) : Type 0 where
  pub name : IsTextOf line o.name
  pub value : IsTextOf line o.value

abbrev pub UsageOptionsStandInTheirLine : Type 0
UsageOptionsStandInTheirLine = (line : List ℕ) → All (IsUsedIn line) (usage_options line)
