-- The fixed words of a page.
use Rattle.std.specs.Prelude.{ℕ, List, codes}
use Rattle.description.specs.declared.words.FixedWords.{FixedWords}

-- the content of `FixedWords`
pub record WordsSaid : Type 0 where
  pub usage : List ℕ
  pub arguments : List ℕ
  pub options : List ℕ
  pub commands : List ℕ
  pub contents : List ℕ
  pub notes : List ℕ
  pub default : List ℕ
  pub possible_values : List ℕ
  pub env : List ℕ
  pub aliases : List ℕ
  pub command : List ℕ
  pub name : List ℕ
  pub synopsis : List ℕ
  pub description : List ℕ
  pub see_also : List ℕ

abbrev pub words_said : FixedWords → WordsSaid
words_said fixed = record {
  usage = fixed.usage.now;
  arguments = fixed.arguments.now;
  options = fixed.options.now;
  commands = fixed.commands.now;
  contents = fixed.contents.now;
  notes = fixed.notes.now;
  default = fixed.default.now;
  possible_values = fixed.possible_values.now;
  env = fixed.env.now;
  aliases = fixed.aliases.now;
  command = fixed.command.now;
  name = fixed.name.now;
  synopsis = fixed.synopsis.now;
  description = fixed.description.now;
  see_also = fixed.see_also.now;
}

-- where a description says nothing else
abbrev pub english : WordsSaid
english = record {
  usage = codes "Usage";
  arguments = codes "Arguments";
  options = codes "Options";
  commands = codes "Commands";
  contents = codes "Contents";
  notes = codes "Notes";
  default = codes "default";
  possible_values = codes "possible values";
  env = codes "env";
  aliases = codes "aliases";
  command = codes "COMMAND";
  name = codes "Name";
  synopsis = codes "Synopsis";
  description = codes "Description";
  see_also = codes "See also";
}
