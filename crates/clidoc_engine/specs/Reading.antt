-- What the intermediate values of the reader of words say.
use Rattle.std.specs.Prelude.{ℕ, List, ◌++◌, Option, Some, option_map, ⊤}
use Rattle.clidoc_engine.specs.declared.reading.Given as of_given
use Rattle.clidoc_engine.specs.declared.reading.Kind as of_kind
use Rattle.clidoc_engine.specs.declared.reading.Kind.TheVariants as kinds
use Rattle.clidoc_engine.specs.declared.reading.WordFault.{WordFault}
use Rattle.clidoc_engine.specs.declared.reading.WordFault.TheVariants.{NoForm, NoSuchForm, FormAfter, NoSuchOption, NoValue, NoColumns, NoFolder, NoShell, NoSuchShell, NoHelp, Twice, TooMany, NotWith, NotAlone, Refused}
use Rattle.clidoc_engine.specs.Chosen.{words_said}
use Rattle.clidoc_engine.specs.declared.reading.Next.{Next}
use Rattle.clidoc_engine.specs.declared.reading.Next.TheVariants.{Any, Value, File}
use Rattle.clidoc_engine.specs.Words.{Given, Kind, dashes, plain, deep, fragment, strict, apart, joined, unknown, given_in, only_files, valued_in}

abbrev pub given_of : {A : Type 0} → of_given.Given A → Given
given_of g = record {
  plain = words_said g.plain.items;
  commands = words_said g.commands.items;
  widths = words_said g.widths.items;
  folders = words_said g.folders.items;
  dates = words_said g.dates.items;
  vendors = words_said g.vendors.items;
  names = words_said g.names.items;
  deeps = words_said g.deeps.items;
  fragments = words_said g.fragments.items;
  stricts = words_said g.stricts.items;
  files = words_said g.files.items;
}

abbrev pub kind_said : of_kind.Kind → Kind
kind_said kinds.Dashes = dashes
kind_said kinds.Plain = plain
kind_said kinds.Deep = deep
kind_said kinds.Fragment = fragment
kind_said kinds.Strict = strict
kind_said (kinds.Apart o) = apart o
kind_said (kinds.Joined o value) = joined o value.now
kind_said kinds.Unknown = unknown

-- an allocation failed
abbrev pub IsRefused : WordFault → Type 0
IsRefused (Refused error) = ⊤
IsRefused NoForm = ⊥
IsRefused (NoSuchForm word) = ⊥
IsRefused (FormAfter word form) = ⊥
IsRefused (NoSuchOption word) = ⊥
IsRefused (NoValue word) = ⊥
IsRefused (NoColumns word) = ⊥
IsRefused NoFolder = ⊥
IsRefused NoShell = ⊥
IsRefused NoHelp = ⊥
IsRefused (NoSuchShell word) = ⊥
IsRefused (Twice option) = ⊥
IsRefused (TooMany word command) = ⊥
IsRefused (NotWith option word) = ⊥
IsRefused (NotAlone word) = ⊥

-- what some words give, and then what others do
abbrev pub together : Given → Given → Given
together g h = record {
  plain = g.plain ++ h.plain;
  commands = g.commands ++ h.commands;
  widths = g.widths ++ h.widths;
  folders = g.folders ++ h.folders;
  dates = g.dates ++ h.dates;
  vendors = g.vendors ++ h.vendors;
  names = g.names ++ h.names;
  deeps = g.deeps ++ h.deeps;
  fragments = g.fragments ++ h.fragments;
  stricts = g.stricts ++ h.stricts;
  files = g.files ++ h.files;
}

abbrev pub before : Given → Option Given → Option Given
before g = option_map (together g)

-- what words give, by what the next one is
abbrev pub given_after : Next → List (List ℕ) → Option Given
given_after Any words = given_in words
given_after (Value o) words = valued_in o words
given_after File words = Some (only_files words)
