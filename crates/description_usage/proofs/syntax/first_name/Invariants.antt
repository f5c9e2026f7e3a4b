use Rattle.std.proofs.Common.{◌≡◌, length}
use Rattle.std.specs.List.{count_by, slice_get}
use denote.Text.{Utf8}
use denote.Shadow.{shadow}
use Rattle.description_usage.specs.Syntax.{first_name, is_closing, is_opening, is_separator, names_after, stretches}
use Rattle.description_usage.proofs.Stretches.{front_of, IsEnd}
use Rattle.description_usage.proofs.syntax.first_name.Given as goal

abbrev pub invariant-loop-stretch : goal.invariant-loop-stretch
invariant-loop-stretch l = record {
  utf8 : shadow (Utf8 l.rest);
  is_end : IsEnd l.text l.rest;
  opened : l.opened ≡ count_by is_opening (front_of l.text l.rest);
  closed : l.closed ≡ count_by is_closing (front_of l.text l.rest);
  same : slice_get (names_after (front_of l.text l.rest) (stretches is_separator l.rest)) 0 ≡ first_name l.text;
}

abbrev pub decreases-loop-stretch : goal.decreases-loop-stretch
decreases-loop-stretch l = length l.rest
