use Rattle.std.proofs.Common.{◌≡◌, ◌++◌, length}
use Rattle.std.specs.Prelude.{flat_map}
use Rattle.std.specs.List.{count_by}
use denote.Text.{Utf8}
use denote.Shadow.{shadow}
use Rattle.description_toml.specs.Described.Steps.{words_of}
use Rattle.description_toml.specs.Described.Taken.{without_dashes}
use Rattle.description_toml.specs.Syntax.{is_closing, is_opening, is_separator, names_after, stretches, syntax_names}
use Rattle.description_toml.proofs.Stretches.{front_of, IsEnd}
use Rattle.description_toml.proofs.syntax.put_names.Given as goal

abbrev pub invariant-loop-stretch : goal.invariant-loop-stretch
invariant-loop-stretch g l = record {
  utf8 : shadow (Utf8 l.rest);
  is_end : IsEnd l.text l.rest;
  opened : l.opened ≡ count_by is_opening (front_of l.text l.rest);
  closed : l.closed ≡ count_by is_closing (front_of l.text l.rest);
  put : words_of l.names.items ++ flat_map (without_dashes l.are_two) (names_after (front_of l.text l.rest) (stretches is_separator l.rest)) ≡ words_of l.fn.names.items ++ flat_map (without_dashes l.are_two) (syntax_names l.text);
}

abbrev pub decreases-loop-stretch : goal.decreases-loop-stretch
decreases-loop-stretch g l = length l.rest
